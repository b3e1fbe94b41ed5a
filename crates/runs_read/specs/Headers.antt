-- The header of a run: where none was read, and that of a plain run.
use Rattle.std.proofs.Common.{⊎_elim, inl, inr, sym, ◌∙◌, arith, length-take-le, ltb-true, ltb-false}
use Rattle.std.specs.Prelude.{◌≡◌, refl, Bool, true, false, cond, List, [], ◌∷◌, ℕ, ◌+◌, ◌-◌, ◌<◌, ◌≤◌, ltb, length, take, get_or}
use Rattle.std.proofs.Math.Path.{ap}
use Rattle.std.proofs.Math.Seq.{get_or-take}
use types.Run.{OneOf}
use denote.Enum.Declared.{tag_of}
use Rattle.rules.specs.Varint.{moved, number_at, number_fault}
use Rattle.rules.specs.Runs.{headed, run_at}
use Rattle.rules.specs.declared.Number.{Number}
use Rattle.rules.specs.declared.Number.TheVariants.{Read, Ended, Beyond}
use Rattle.rules.specs.Runs.{Run}
use Rattle.rules.specs.Runs.Run.{Refused}
use Rattle.rules.specs.contracts.Number.{the_type}
use Rattle.varints.specs.ByteByByte.{ended, final, one_byte}

-- no header was read: the refusal is passed up
pub unread : (w left : ℕ) (page : List ℕ) (n : Number) → OneOf (1 ∷ 2 ∷ []) (tag_of the_type n)
    → Refused (number_fault n) ≡ headed w left page n
unread w left page (Read h next) tag = absurd (⊎_elim (λ e. omega arith) (λ e. omega arith) tag)
unread w left page Ended tag = refl
unread w left page Beyond tag = refl

-- what is no number read is one of the two refusals
pub not_read : (n : Number) → ((h next : ℕ) → n ≡ Read h next → ⊥) → OneOf (1 ∷ 2 ∷ []) (tag_of the_type n)
not_read (Read h next) none = absurd (none h next refl)
not_read Ended none = inl refl
not_read Beyond none = inr refl

-- a number of seven bits, which is one byte, with four bytes or more behind it
abbrev pub plain_header : List ℕ → ℕ → Number
plain_header page at = number_at 7 (take (length page - 4) page) at

module _ (page : List ℕ) (at : ℕ) where
  front-size : length (take (length page - 4) page) ≡ length page - 4
  front-size = length-take-le (length page - 4) page (omega arith)

  pub too_few : length page ≤ at + 4 → plain_header page at ≡ Ended
  unfolding number_at
  too_few few = ap (moved at) (ended 128 0 (take (length page - 4) page) at (omega (arith, front-size)))

  pub byte_there : at + 4 < length page
      → plain_header page at ≡ moved at (cond (ltb (get_or page at 0) 128) (Read (get_or page at 0) 1) Beyond)
  unfolding number_at
  byte_there h =
      rw (
        final 128 (take (length page - 4) page) at (omega (arith, front-size)),
        get_or-take (length page - 4) page at 0 (omega arith),
      )

  -- it is the whole header, and four bytes stand behind it
  pub whole-header : {h next : ℕ} → plain_header page at ≡ Read h next
      → (number_at 32 page at ≡ Read h next) × (next + 4 ≤ length page)
  whole-header {h} {next} e = go (ltb (at + 4) (length page)) refl (ltb (get_or page at 0) 128) refl
    where
      go : (there : Bool) → ltb (at + 4) (length page) ≡ there → (low : Bool) → ltb (get_or page at 0) 128 ≡ low
          → (number_at 32 page at ≡ Read h next) × (next + 4 ≤ length page)
      go false t low l =
          let n = too_few (ltb-false _ _ t) in
          let z : ◌≡◌ {A = ℕ} 0 1 = cc in
          absurd (omega arith)
      go true t false l =
          let n = rw l at (byte_there (ltb-true _ _ t)) in
          let z : ◌≡◌ {A = ℕ} 0 1 = cc in
          absurd (omega arith)
      go true t true l =
          let there = ltb-true (at + 4) (length page) t in
          let n = rw l at (byte_there there) in
          let place : next ≡ at + 1 = cc in
          (one_byte page at (omega arith) (ltb-true _ _ l) ∙ sym n ∙ e, omega arith)

  -- a run that is not refused by its plain header is the run that stands there
  pub by_plain : (w left : ℕ) {run : Run} → run ≡ headed w left page (plain_header page at)
      → ((code : ℕ) → run ≡ Refused code → ⊥) → run ≡ run_at w left page at
  by_plain w left {run} e good = go (plain_header page at) refl e
    where
      go : (n : Number) → plain_header page at ≡ n → run ≡ headed w left page n → run ≡ run_at w left page at
      go (Read h next) p q = q ∙ ap (headed w left page) (sym (whole-header p).0)
      go Ended p q = absurd (good 5 q)
      go Beyond p q = absurd (good 9 q)
