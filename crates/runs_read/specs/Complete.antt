-- Each run that stands there by the grammar is read, and each stream that the grammar can cut is read as it is cut.
use Rattle.std.specs.Prelude.{◌≡◌, refl, List, ◌++◌, ℕ, zero, suc, ◌+◌, ◌-◌, ◌*◌, ◌/◌, ◌%◌, ◌^◌, ◌<◌, ◌≤◌, drop}
use Rattle.std.proofs.Common.{sym, ◌∙◌, append_assoc, length-drop, drop-drop, drop_at}
use Rattle.std.proofs.Math.Path.{ap}
use native.Mathlib.Omega.{arith}
use Rattle.std.proofs.Math.ListN.{length, length-append}
use Rattle.std.proofs.Math.Seq.{take_at}
use borrow.Author.Tests.{lt-ltb, le-ltb, ne_eqb}
use Rattle.rules.specs.Bits.{ceil, number}
use Rattle.rules.specs.Varint.{number_at}
use Rattle.rules.specs.Runs.{Stream, repeated_at, packed_at, headed, run_at, also, after, read_at}
use Rattle.rules.specs.Runs.Stream.{good}
use Rattle.rules.specs.Grammar.{Piece, entries, Header, OneRun, Cut}
use Rattle.rules.specs.Grammar.OneRun.{repeats, packs}
use Rattle.rules.specs.Grammar.Cut.{done, next}
use Rattle.rules.specs.declared.Number.TheVariants.{Read}
use Rattle.varints.specs.Places.{finds_at}
use Rattle.runs_read.specs.Parts.{part_size}
use Rattle.runs_read.specs.RunAfterRun.{turn, end}

-- what lies behind a part that is passed
past : (page t rest : List ℕ) (at : ℕ) → drop at page ≡ t ++ rest → drop (at + length t) page ≡ rest
past page t rest at e = sym (drop-drop (length t) at page) ∙ ap (drop (length t)) e ∙ drop_at t rest (length t) refl

header : (page t rest : List ℕ) (at h : ℕ) → drop at page ≡ t ++ rest → Header t h
    → number_at 32 page at ≡ Read h (at + length t)
header page t rest at h e d = finds_at 32 page at rest e d.spells d.short d.small

-- a header t and a body v, which `rest` follows
module _ (page t v rest : List ℕ) (at : ℕ) (e : drop at page ≡ (t ++ v) ++ rest) where
  apart : drop at page ≡ t ++ (v ++ rest)
  apart = e ∙ append_assoc t v rest

  body : drop (at + length t) page ≡ v ++ rest
  body = past page t (v ++ rest) at apart

  body-size : length page - (at + length t) ≡ length v + length rest
  body-size = part_size page (at + length t) body ∙ length-append v rest

  whole : at + length t + length v - at ≡ length (t ++ v)
  whole = omega (arith, length-append t v)

-- one run, whatever is read on behind it
module _ (w left : ℕ) (page : List ℕ) (at : ℕ) (rest : List ℕ) (onward : ℕ → ℕ → Stream) where
  pub one-complete : {t : List ℕ} {p : Piece} → OneRun w left t p → drop at page ≡ t ++ rest
      → after w left page at onward (run_at w left page at) ≡ also p (onward (left - entries p) (at + length t))
  unfolding repeated_at packed_at
  one-complete (repeats {count} t v d some fits size small) e =
      let half : 2 * count / 2 ≡ count = omega arith in
      let even : 2 * count % 2 ≡ 0 = omega arith in
      let to : at + length t + length v ≡ at + length (t ++ v) = omega (arith, length-append t v) in
      ap (λ x. after w left page at onward (headed w left page x))
      (header page t (v ++ rest) at (2 * count) (apart page t v rest at e) d)
      ∙ rw (
        half,
        even,
        ne_eqb count 0 (omega arith),
        le-ltb left count fits,
        body-size page t v rest at e,
        le-ltb (length v + length rest) (ceil w 8) (omega arith),
        body page t v rest at e,
        take_at v rest (ceil w 8) size,
        ← size,
        lt-ltb (number v) (2 ^ w) small,
        whole page t v rest at e,
        to,
      )
  one-complete (packs {groups} t v d some fits size) e =
      let half : (2 * groups + 1) / 2 ≡ groups = omega arith in
      let odd : (2 * groups + 1) % 2 ≡ 1 = omega arith in
      let to : at + length t + length v ≡ at + length (t ++ v) = omega (arith, length-append t v) in
      ap (λ x. after w left page at onward (headed w left page x))
      (header page t (v ++ rest) at (2 * groups + 1) (apart page t v rest at e) d)
      ∙ rw (
        half,
        odd,
        ne_eqb groups 0 (omega arith),
        le-ltb (left + 7) (8 * groups) fits,
        body-size page t v rest at e,
        le-ltb (length v + length rest) (w * groups) (omega arith),
        body page t v rest at e,
        take_at v rest (w * groups) size,
        ← size,
        whole page t v rest at e,
        to,
      )

some-entry : {w left : ℕ} {t : List ℕ} {p : Piece} → OneRun w left t p → 0 < entries p
some-entry (repeats t v d some fits size small) = some
some-entry (packs t v d some fits size) = omega arith

-- from any place on, with as many turns as entries are wanted
pub complete : {w left : ℕ} {t : List ℕ} {ps : List Piece} → Cut w left t ps → (turns : ℕ) → left ≤ turns
    → (page : List ℕ) (at : ℕ) → drop at page ≡ t
    → read_at w turns left page at ≡ good ps
complete {w} done turns l page at e =
    end w turns page at ∙ rw (le-ltb at (length page) (omega (arith, length-drop at page, ap length e)))
complete (next t s some run cut) zero l page at e = absurd (omega arith)
complete {w} {left} (next {p = p} t s some run cut) (suc turns) l page at e =
    turn w turns left page at some ∙ one-complete w left page at s (λ m n. read_at w turns m page n) run e
    ∙ ap (also p) (complete cut turns (omega (arith, some-entry run)) page (at + length t) (past page t s at e))
