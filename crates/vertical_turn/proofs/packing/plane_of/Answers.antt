-- `vertical_turn::packing::plane_of` meets its contract: each turn doubles the bits of the entries behind and adds
-- that of one before them.
use mathlib.Core.Path.{◌≡◌, sym, ap, ◌∙◌}
use Prim.Native.Nat.{ℕ, ◌+◌, ◌-◌, ◌*◌, ◌/◌, ◌%◌, ◌^◌, ◌≤◌, ◌<◌}
use native.Mathlib.Omega.{arith}
use mathlib.Core.List.{List}
use lib.ListN.{length, drop, get_or}
use Rattle.vertical_turn.specs.Planes.{bits_of, bits_of-none, bits_of-step, bits_of-fits, bits_of-plane}
use Rattle.vertical_turn.proofs.packing.plane_of.Goals as goal

-- the bits with one entry more, and that they fit
more : (b : ℕ) (xs : List ℕ) (j p : ℕ) → 0 < j → j ≤ length xs → length xs ≤ 64 → p ≡ bits_of b (drop j xs)
    → (bits_of b (drop (j - 1) xs) ≡ p * 2 + get_or xs (j - 1) 0 / 2 ^ b % 2)
    × (bits_of b (drop (j - 1) xs) < 2 ^ 64)
more b xs j p some within few so =
    let e : j - 1 + 1 ≡ j = omega arith in (
      bits_of-step b xs (j - 1) (omega arith)
          ∙ ap (λ (x : ℕ). x * 2 + get_or xs (j - 1) 0 / 2 ^ b % 2) (ap (λ (k : ℕ). bits_of b (drop k xs)) e ∙ sym so),
      bits_of-fits b xs (j - 1) (omega arith),
    )

pub loop-j-init : goal.loop-j-init
loop-j-init c = sym (bits_of-none (c.args.w - 1 - c.args.k) c.args.entries.now)

pub overflow_cast-x : goal.overflow_cast-x
overflow_cast-x c = omega (arith, c.type_inv.entries (c.loop-j.j - 1))

pub overflow_mul-p : goal.overflow_mul-p
overflow_mul-p c =
    let l = c.loop-j in
    let a = c.args in
    let next = more (a.w - 1 - a.k) a.entries.now l.j l.p (omega arith) (omega arith) (omega arith) l.invariant in
    omega (arith, next)

pub overflow_add-p : goal.overflow_add-p
overflow_add-p c =
    let l = c.loop-j in
    let a = c.args in
    let next = more (a.w - 1 - a.k) a.entries.now l.j l.p (omega arith) (omega arith) (omega arith) l.invariant in
    omega (arith, next)

pub loop-j-preserved : goal.loop-j-preserved
loop-j-preserved c =
    let l = c.loop-j in
    let a = c.args in
    let next = more (a.w - 1 - a.k) a.entries.now l.j l.p (omega arith) (omega arith) (omega arith) l.invariant in
    sym next.0

pub returns : goal.returns
returns c =
    let a = c.args in
    let b : ℕ = a.w - 1 - a.k in
    let e : c.loop-j.j ≡ 0 = omega arith in
    c.loop-j.invariant ∙ ap (λ (j : ℕ). bits_of b (drop j a.entries.now)) e
    ∙ bits_of-plane a.w a.entries.now a.k (omega arith)
