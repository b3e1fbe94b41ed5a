-- The needed miniblocks: each has a delta that is still to come, and together they have all of those that the block
-- has.
use Rattle.std.specs.Prelude.{◌≡◌, refl, Bool, true, false, ℕ, ◌+◌, ◌-◌, ◌*◌, ◌<◌, ◌≤◌, min, ltb}
use Rattle.std.proofs.Common.{div-add-mod', mod-lt, mul-le-mul_right, mul_comm, arith, ltb-true, ltb-false}
use Rattle.rules.specs.Bits.{ceil}
use Rattle.rules.specs.Delta.{needed}

pub needed_le : (minis m left : ℕ) → needed minis m left ≤ minis
unfolding needed
needed_le minis m left = omega arith

pub record Covers (size minis m left : ℕ) : Type 0 where
  pub wanted : needed minis m left * m ≤ left + (m - 1)
  pub same : left - size ≡ left - needed minis m left * m

pub covers : (size minis m left : ℕ) → 0 < m → m * minis ≡ size → Covers size minis m left
unfolding needed
covers size minis m left some whole = go (ltb minis (ceil left m)) refl
  where
    low : ceil left m * m ≤ left + (m - 1)
    low = omega (arith, div-add-mod' (left + (m - 1)) m)

    high : left ≤ ceil left m * m
    high = omega (arith, div-add-mod' (left + (m - 1)) m, mod-lt (left + (m - 1)) some)

    go : (t : Bool) → ltb minis (ceil left m) ≡ t → Covers size minis m left
    go true e =
        let c : ℕ = ceil left m in
        let l : minis < c = ltb-true minis c e in
        let all : min minis c ≡ minis = omega arith in
        record {
          wanted = rw all (omega (arith, low, mul-le-mul_right {m = minis} {n = c} m (omega arith)));
          same = rw all (omega (arith, mul_comm m minis));
        }
    go false e =
        let c : ℕ = ceil left m in
        let l : c ≤ minis = ltb-false minis c e in
        let few : min minis c ≡ c = omega arith in
        record {
          wanted = rw few low;
          same = rw few (omega (arith, high, mul_comm m minis, mul-le-mul_right {m = c} {n = minis} m l));
        }
