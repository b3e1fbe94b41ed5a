-- Each run that is read stands there by the grammar, and each stream that is read without a fault is cut as the
-- grammar says.
use Rattle.std.specs.Prelude.{◌≡◌, refl, Bool, true, false, ℕ, zero, suc, ◌+◌, ◌-◌, ◌*◌, ◌/◌, ◌<◌, ◌≤◌, ltb, length, take}
use Rattle.std.proofs.Math.Path.{sym, ap}
use Rattle.std.proofs.Common.{subst, subst₂, ◌∙◌, length-drop, take-append-drop, drop_of_length-le, drop-drop, ltb-false}
use mathlib.Core.List.{List, [], ◌∷◌, ◌++◌, append_assoc}
use native.Mathlib.Omega.{arith}
use Rattle.std.proofs.Math.ListN.{drop, length-append, length-take}
use Rattle.rules.specs.Bits.{ceil}
use Rattle.rules.specs.Varint.{number_at}
use Rattle.rules.specs.Runs.{Stream, also, at_end, after, read_at, run_at}
use Rattle.rules.specs.Grammar.Piece.{same, packed}
use Rattle.rules.specs.Runs.Stream.{good, bad}
use Rattle.rules.specs.Grammar.{Piece, entries, Header, OneRun, Cut}
use Rattle.rules.specs.Grammar.OneRun.{repeats as repeats-run, packs as packs-run}
use Rattle.rules.specs.Grammar.Cut.{done, next}
use Rattle.rules.specs.Runs.{Run}
use Rattle.rules.specs.Runs.Run.{Repeated, Packed, Refused}
use Rattle.rules.specs.declared.Number.TheVariants.{Read}
use Rattle.varints.specs.Places.{found_at, next-within}
use Rattle.runs_read.specs.RunAfterRun.{never}
use Rattle.runs_read.specs.RunRead.{Shown, refuses, repeats, packs, shown}

split : (page : List ℕ) (at k : ℕ) → drop at page ≡ take k (drop at page) ++ drop (at + k) page
split page at k =
    sym (take-append-drop k (drop at page)) ∙ ap (λ (l : List ℕ). take k (drop at page) ++ l) (drop-drop k at page)

-- a header h that was read at a place, and k bytes behind it
module _ (page : List ℕ) (at h p : ℕ) (q : number_at 32 page at ≡ Read h p) where
  head : List ℕ
  head = take (found_at 32 page at h p q).used (drop at page)

  header : Header head h
  unfolding head
  header =
      let f = found_at 32 page at h p q in
      record {
        spells = f.spelt.spells;
        short = omega (arith, length-take f.used (drop at page));
        small = (next-within 32 page at h p q).1;
      }

  module _ (k : ℕ) (there : k ≤ length page - p) where
    abbrev body : List ℕ
    body = take k (drop p page)

    body-size : length body ≡ k
    body-size = omega (arith, length-take k (drop p page), length-drop p page)

    size : p + k - at ≡ length (head ++ body)
    unfolding head
    size =
        let f = found_at 32 page at h p q in
        omega (
          arith,
          body-size,
          length-append head body,
          length-take f.used (drop at page),
          f.spelt.within,
          f.there,
        )

    whole : drop at page ≡ (head ++ body) ++ drop (p + k) page
    unfolding head
    whole =
        let f = found_at 32 page at h p q in
        split page at f.used
        ∙ ap (λ (l : List ℕ). head ++ l) (ap (λ (x : ℕ). drop x page) (sym f.there) ∙ split page p k)
        ∙ sym (append_assoc head body (drop (p + k) page))

-- ---- one run

-- a run of the grammar stands at a place, and ends at another
pub record Stands (w left : ℕ) (page : List ℕ) (at : ℕ) (p : Piece) (to : ℕ) : Type 0 where
  pub bytes : List ℕ
  pub run : OneRun w left bytes p
  pub there : drop at page ≡ bytes ++ drop to page

-- as the run that was read says
abbrev pub StandsAs : ℕ → ℕ → List ℕ → ℕ → Run → Type 0
StandsAs w left page at (Refused code) = 0 < code
StandsAs w left page at (Repeated count value to) = Stands w left page at (same (to - at) count value) to
StandsAs w left page at (Packed groups start to) =
    Stands w left page at (packed (to - at) groups (take (w * groups) (drop start page))) to

module _ (w left : ℕ) (page : List ℕ) (at : ℕ) where
  stands : {r : Run} → Shown w left page at r → StandsAs w left page at r
  stands (refuses code fault) = fault.0
  stands (repeats h p q even nonempty fits there small) =
      let k : ℕ = ceil w 8 in
      let v : List ℕ = take k (drop p page) in
      record {
        bytes = head page at h p q ++ v;
        run =
            rw (size page at h p q k there)
            (repeats-run (head page at h p q) v (subst (Header (head page at h p q)) even (header page at h p q))
            nonempty fits (body-size page at h p q k there) small);
        there = whole page at h p q k there;
      }
  stands (packs h p q odd nonempty fits there) =
      let k : ℕ = w * (h / 2) in
      let v : List ℕ = take k (drop p page) in
      record {
        bytes = head page at h p q ++ v;
        run =
            rw (size page at h p q k there)
            (packs-run (head page at h p q) v (subst (Header (head page at h p q)) odd (header page at h p q))
            nonempty fits (body-size page at h p q k there));
        there = whole page at h p q k there;
      }

  pub one-sound : StandsAs w left page at (run_at w left page at)
  one-sound = stands (shown w left page at)

-- ---- a stream

module _ (w turns left : ℕ) (page : List ℕ) (at : ℕ) (ps : List Piece) (some : 0 < left)
    (rest : (l next : ℕ) (qs : List Piece) → read_at w turns l page next ≡ good qs → Cut w l (drop next page) qs) where
  -- one run in front of what is cut already
  joins : (p : Piece) (to : ℕ) → Stands w left page at p to
      → also p (read_at w turns (left - entries p) page to) ≡ good ps → Cut w left (drop at page) ps
  joins p to one e = go (read_at w turns (left - entries p) page to) refl e
    where
      go : (s : Stream) → read_at w turns (left - entries p) page to ≡ s → also p s ≡ good ps
          → Cut w left (drop at page) ps
      go (bad code) q i = absurd (never i)
      go (good qs) q i =
          let n : p ∷ qs ≡ ps = cc in
          subst₂ (Cut w left) (sym one.there) n
          (next one.bytes (drop to page) some one.run (rest (left - entries p) to qs q))

  goes_on : (r : Run) → StandsAs w left page at r
      → after w left page at (λ l next. read_at w turns l page next) r ≡ good ps → Cut w left (drop at page) ps
  goes_on (Refused code) fault e = absurd (never e)
  goes_on (Repeated count value to) one e = joins _ to one e
  goes_on (Packed groups start to) one e = joins _ to one e

ends : (w : ℕ) (page : List ℕ) (at : ℕ) (ps : List Piece) (over : Bool) → ltb at (length page) ≡ over
    → at_end over ≡ good ps → Cut w 0 (drop at page) ps
ends w page at ps true h e = absurd (never e)
ends w page at ps false h e =
    let n : [] ≡ ps = cc in
    rw (drop_of_length-le page (ltb-false at (length page) h), ← n) done

-- from any place on
pub sound : (w turns left : ℕ) (page : List ℕ) (at : ℕ) (ps : List Piece) → read_at w turns left page at ≡ good ps
    → Cut w left (drop at page) ps
sound w zero zero page at ps e = ends w page at ps (ltb at (length page)) refl e
sound w (suc turns) zero page at ps e = ends w page at ps (ltb at (length page)) refl e
sound w zero (suc left) page at ps e = absurd (never e)
sound w (suc turns) (suc left) page at ps e =
    goes_on w turns (suc left) page at ps (omega arith) (λ l next qs q. sound w turns l page next qs q)
    (run_at w (suc left) page at) (one-sound w (suc left) page at) e
