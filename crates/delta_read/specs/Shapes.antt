-- A good shape in numbers: how long blocks and miniblocks are.
use Rattle.std.specs.Prelude.{◌≡◌, Bool, true, ◌&&◌, ℕ, zero, suc, ◌*◌, ◌/◌, ◌%◌, ◌<◌, ◌≤◌, ltb, leb, eqb}
use Rattle.std.proofs.Common.{div-add-mod', mul-le-mul, arith, ltb-true, leb-true, eqb-true}
use Rattle.rules.specs.Delta.{shaped}
use Rattle.words.specs.Tests.{both}

-- blocks of `size` entries in `minis` miniblocks, of size / minis entries each
pub record Shape (size minis : ℕ) : Type 0 where
  pub low : 128 ≤ size
  pub high : size ≤ 16384
  pub some : 0 < minis
  pub few : minis ≤ 16384
  pub whole : size / minis * minis ≡ size
  pub groups : size / minis % 32 ≡ 0
  pub long : 32 ≤ size / minis
  pub short : size / minis ≤ 16384

factor_some : (a b : ℕ) → 0 < a * b → 0 < a
factor_some zero b h = absurd (omega arith)
factor_some (suc a) b h = omega arith

of_numbers : (size minis : ℕ) → 128 ≤ size → size ≤ 16384 → 0 < minis → size / minis * minis ≡ size
    → size / minis % 32 ≡ 0 → Shape size minis
of_numbers size minis low high some whole groups =
    let m : ℕ = size / minis in
    let one : 0 < m = factor_some m minis (omega arith) in
    let few : minis ≤ size =
    omega (arith, mul-le-mul {n₁ = 1} {m₁ = minis} {n₂ = m} {m₂ = minis} one (omega arith)) in
    let short : m ≤ size = omega (arith, mul-le-mul {n₁ = m} {m₁ = 1} {n₂ = m} {m₂ = minis} (omega arith) some) in
    record {
      low = low;
      high = high;
      some = some;
      few = omega arith;
      whole = whole;
      groups = groups;
      long = omega arith;
      short = omega arith;
    }

pub shape : (size minis : ℕ) → shaped size minis ≡ true → Shape size minis
unfolding shaped
shape size minis e =
    let t₁ : Bool = leb size 16384 in
    let t₂ : Bool = eqb (size % 128) 0 in
    let t₃ : Bool = ltb 0 minis in
    let t₄ : Bool = eqb (size % minis) 0 in
    let t₅ : Bool = eqb (size / minis % 32) 0 in
    let a = both (leb 128 size) (t₁ && (t₂ && (t₃ && (t₄ && t₅)))) e in
    let b = both t₁ (t₂ && (t₃ && (t₄ && t₅))) a.1 in
    let c = both t₂ (t₃ && (t₄ && t₅)) b.1 in
    let d = both t₃ (t₄ && t₅) c.1 in
    let f = both t₄ t₅ d.1 in
    of_numbers size minis (leb-true _ _ a.0) (leb-true _ _ b.0) (ltb-true _ _ d.0)
    (omega (arith, div-add-mod' size minis, eqb-true (size % minis) 0 f.0)) (eqb-true _ _ f.1)
