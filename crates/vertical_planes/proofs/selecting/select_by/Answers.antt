-- `vertical_planes::selecting::select_by` meets its contract: the groups that n fills, then the lanes of the last one
-- that n reaches.
use mathlib.Core.Path.{◌≡◌, ap, ◌∙◌}
use mathlib.Core.List.{List}
use Prim.Native.Nat.{ℕ, ◌+◌, ◌*◌, ◌/◌, ◌%◌, ◌^◌}
use native.Mathlib.Nat.{mul-le-mul_right}
use native.Mathlib.Omega.{arith}
use lib.Pow.{pow_pos}
use Rattle.rules.specs.Bits.{ceil, put, bytes}
use Rattle.words.specs.Bits.{one_shl}
use Rattle.words.specs.Entries.{place-within}
use Rattle.vertical_planes.specs.Chosen.{chosen, lanes64, next-chosen}
use Rattle.vertical_planes.proofs.selecting.select_by.Goals as goal

pub select_full-requires : goal.select_full-requires
select_full-requires c =
    let a = c.args in
    omega (arith, mul-le-mul_right {m = a.n / 64} {n = ceil a.n 64} a.ends.now.w (omega arith))

pub returns-then-rest-eq0 : goal.returns-then-rest-eq0
returns-then-rest-eq0 c =
    let a = c.args in
    let all : 64 * (a.n / 64) ≡ a.n = omega arith in
    c.select_full.ensures ∙ ap (λ (k : ℕ). put a.bitmap.now 0 (chosen a.words.now k a.ends.now.w a.ends.now.band)) all

pub group_bits-requires : goal.group_bits-requires
group_bits-requires c =
    let a = c.args in
    omega (arith, place-within a.ends.now.w (a.n / 64) (ceil a.n 64) (omega arith))

pub nonzero_rem-bits : goal.nonzero_rem-bits
nonzero_rem-bits c =
    let r = c.args.n % 64 in
    rw (one_shl 64 r (omega arith)) (pow_pos r)

pub returns : goal.returns
returns c =
    let a = c.args in
    let q = a.n / 64 in
    let r = a.n % 64 in
    let bits : c.group_bits.result % ((1 * 2 ^ r) % 2 ^ 64)
    ≡ lanes64 a.words.now (q * a.ends.now.w) a.ends.now.w a.ends.now.band % 2 ^ r =
    rw (one_shl 64 r (omega arith), c.group_bits.ensures) in
    let all : 64 * q + r ≡ a.n = omega arith in
    c.store_low.ensures
    ∙ ap (λ (l : List ℕ). put l (8 * q) (bytes (ceil r 8) (c.group_bits.result % ((1 * 2 ^ r) % 2 ^ 64))))
    c.select_full.ensures
    ∙ next-chosen a.bitmap.now a.words.now a.ends.now.w a.ends.now.band q r _ (omega arith) (omega arith) bits
    ∙ ap (λ (k : ℕ). put a.bitmap.now 0 (chosen a.words.now k a.ends.now.w a.ends.now.band)) all
