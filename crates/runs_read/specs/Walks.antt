-- A loop over the runs of a stream, turn by turn, for any work that is done on the way.
use Rattle.std.specs.Prelude.{◌≡◌, refl, Bool, true, false, List, [], ◌∷◌, ℕ, zero, suc, ◌-◌, ◌*◌, ◌<◌, ◌≤◌, ltb, length, take, drop}
use Rattle.std.proofs.Common.{ap, ◌∙◌, arith}
use Rattle.rules.specs.Grammar.{Piece}
use Rattle.rules.specs.Runs.{Stream, run_at, also, at_end, after, read_at}
use Rattle.rules.specs.Grammar.Piece.{same, packed}
use Rattle.rules.specs.Runs.Stream.{good, bad}
use Rattle.rules.specs.Runs.{Run}
use Rattle.rules.specs.Runs.Run.{Repeated, Packed, Refused}
use Rattle.runs_read.specs.RunAfterRun.{never}
use Rattle.runs_read.specs.RunRead.{ran_repeated, ran_packed}

-- what a run changes of what is kept, and what is given back at a fault, or at the end, where something may be left
-- over
pub record Work (S R : Type 0) : Type 0 where
  pub step : Piece → S → S
  pub fault : ℕ → S → R
  pub end : Bool → S → R

module _ {S R : Type 0} (work : Work S R) where
  -- a run, and what follows it
  abbrev pub on_run : ℕ → ℕ → List ℕ → ℕ → S → (ℕ → ℕ → S → R) → Run → R
  on_run w left page at kept onward (Refused code) = work.fault code kept
  on_run w left page at kept onward (Repeated count value next) =
      onward (left - count) next (work.step (same (next - at) count value) kept)
  on_run w left page at kept onward (Packed groups start next) =
      onward (left - 8 * groups) next
      (work.step (packed (next - at) groups (take (w * groups) (drop start page))) kept)

  -- as the stream is read: as many turns as entries are enough
  abbrev pub walk : ℕ → ℕ → ℕ → List ℕ → ℕ → S → R
  walk w zero zero page at kept = work.end (ltb at (length page)) kept
  walk w zero (suc left) page at kept = work.fault 5 kept
  walk w (suc turns) zero page at kept = work.end (ltb at (length page)) kept
  walk w (suc turns) (suc left) page at kept =
      on_run w (suc left) page at kept (λ l next k. walk w turns l page next k) (run_at w (suc left) page at)

  turn : (w turns left : ℕ) (page : List ℕ) (at : ℕ) (kept : S) → 0 < left
      → walk w (suc turns) left page at kept
      ≡ on_run w left page at kept (λ l next k. walk w turns l page next k) (run_at w left page at)
  turn w turns zero page at kept some = absurd (omega arith)
  turn w turns (suc left) page at kept some = refl

  last : (w turns : ℕ) (page : List ℕ) (at : ℕ) (kept : S)
      → walk w turns 0 page at kept ≡ work.end (ltb at (length page)) kept
  last w zero page at kept = refl
  last w (suc turns) page at kept = refl

  -- the answer x is what going on from here gives
  pub record Comes (x : R) (w left : ℕ) (page : List ℕ) (at : ℕ) (kept : S) : Type 0 where
    pub turns : ℕ
    pub enough : left ≤ turns
    pub rest : x ≡ walk w turns left page at kept

  -- ---- a turn of the loop

  module _ {x : R} {w left : ℕ} {page : List ℕ} {at : ℕ} {kept : S} (some : 0 < left)
      (comes : Comes x w left page at kept) where
    -- the turn that is taken
    taken : {A : Type 0}
        → ((turns : ℕ) → left ≤ suc turns
        → x ≡ on_run w left page at kept (λ l next k. walk w turns l page next k) (run_at w left page at) → A) → A
    taken {A} f = go comes.turns comes.enough comes.rest
      where
        go : (turns : ℕ) → left ≤ turns → x ≡ walk w turns left page at kept → A
        go zero l e = absurd (omega arith)
        go (suc turns) l e = f turns l (e ∙ turn w turns left page at kept some)

    pub on_refused : {code : ℕ} → run_at w left page at ≡ Refused code → x ≡ work.fault code kept
    on_refused q = taken (λ turns l e. e ∙ ap (on_run w left page at kept (λ m n k. walk w turns m page n k)) q)

    pub on_repeated : {count value next : ℕ} → run_at w left page at ≡ Repeated count value next
        → Comes x w (left - count) page next (work.step (same (next - at) count value) kept)
    on_repeated q =
        taken (λ turns l e. record {
          turns = turns;
          enough = omega (arith, ran_repeated w left page at q);
          rest = e ∙ ap (on_run w left page at kept (λ m n k. walk w turns m page n k)) q;
        })

    pub on_packed : {groups start next : ℕ} → run_at w left page at ≡ Packed groups start next
        → Comes x w (left - 8 * groups) page next
        (work.step (packed (next - at) groups (take (w * groups) (drop start page))) kept)
    on_packed q =
        taken (λ turns l e. record {
          turns = turns;
          enough = omega (arith, ran_packed w left page at q);
          rest = e ∙ ap (on_run w left page at kept (λ m n k. walk w turns m page n k)) q;
        })

  pub on_end : {x : R} {w left : ℕ} {page : List ℕ} {at : ℕ} {kept : S} → Comes x w left page at kept → left ≤ 0
      → x ≡ work.end (ltb at (length page)) kept
  on_end {x} {w} {left} {page} {at} {kept} comes none =
      let z : left ≡ 0 = omega arith in
      comes.rest ∙ ap (λ (l : ℕ). walk w comes.turns l page at kept) z ∙ last w comes.turns page at kept

  -- ---- over a stream that is good

  -- what its runs make of what is kept, one after the other
  abbrev pub steps : List Piece → S → S
  steps [] kept = kept
  steps (p ∷ ps) kept = steps ps (work.step p kept)

  -- the end, and a run with what follows it
  at-end : (over : Bool) (ps : List Piece) (kept : S) → at_end over ≡ good ps
      → work.end over kept ≡ work.end false (steps ps kept)
  at-end true ps kept e = absurd (never e)
  at-end false ps kept e = let n : [] ≡ ps = cc in ap (λ l. work.end false (steps l kept)) n

  one_more : (p : Piece) (s : Stream) (ps : List Piece) (kept : S) {r : R}
      → ((qs : List Piece) → s ≡ good qs → r ≡ work.end false (steps qs (work.step p kept)))
      → also p s ≡ good ps → r ≡ work.end false (steps ps kept)
  one_more p (bad code) ps kept h e = absurd (never e)
  one_more p (good qs) ps kept h e =
      let n : p ∷ qs ≡ ps = cc in h qs refl ∙ ap (λ l. work.end false (steps l kept)) n

  pub walk-good : (w turns left : ℕ) (page : List ℕ) (at : ℕ) (kept : S) (ps : List Piece)
      → read_at w turns left page at ≡ good ps
      → walk w turns left page at kept ≡ work.end false (steps ps kept)
  walk-good w zero zero page at kept ps e = at-end (ltb at (length page)) ps kept e
  walk-good w (suc turns) zero page at kept ps e = at-end (ltb at (length page)) ps kept e
  walk-good w zero (suc left) page at kept ps e = absurd (never e)
  walk-good w (suc turns) (suc left) page at kept ps e =
      go (λ l next k qs q. walk-good w turns l page next k qs q) (run_at w (suc left) page at) e
    where
      go :
          ((l next : ℕ) (k : S) (qs : List Piece) → read_at w turns l page next ≡ good qs
          → walk w turns l page next k ≡ work.end false (steps qs k)) → (r : Run)
          → after w (suc left) page at (λ l next. read_at w turns l page next) r ≡ good ps
          → on_run w (suc left) page at kept (λ l next k. walk w turns l page next k) r
          ≡ work.end false (steps ps kept)
      go rest (Refused code) q = absurd (never q)
      go rest (Repeated count value next) q = one_more _ _ ps kept (rest (suc left - count) next _) q
      go rest (Packed groups start next) q = one_more _ _ ps kept (rest (suc left - 8 * groups) next _) q
