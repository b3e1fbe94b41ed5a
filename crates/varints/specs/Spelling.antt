-- What a reader of a variable-length number finds: spellings that are short and small enough, and every one of
-- them. At most k bytes follow the first.
use Rattle.std.specs.Prelude.{◌≡◌, refl, Bool, true, false, cond, List, [], ◌∷◌, ◌++◌, ℕ, zero, suc, ◌+◌, ◌*◌, ◌%◌, ◌<◌, ◌≤◌, ltb, length, take}
use Rattle.std.proofs.Common.{ap, arith, ltb-true, ltb-false, lt-ltb, le-ltb}
use Rattle.rules.specs.declared.Number.{Number}
use Rattle.rules.specs.declared.Number.TheVariants.{Read, Ended, Beyond}
use Rattle.rules.specs.Varint.{uleb, below}
use Rattle.rules.specs.Grammar.{Spells}
use Rattle.rules.specs.Grammar.Spells.{last, more}

-- what a number is below: a last byte below `top`, seven bits more for each byte before it
abbrev pub bound : ℕ → ℕ → ℕ
bound top zero = top
bound top (suc k) = 128 * bound top k

some-bound : (top k : ℕ) → 0 < top → 0 < bound top k
some-bound top zero h = h
some-bound top (suc k) h = omega (arith, some-bound top k h)

-- what stands there where v is read in `used` bytes
pub record Spelt (top k : ℕ) (s : List ℕ) (v used : ℕ) : Type 0 where
  pub spells : Spells (take used s) v
  pub short : used ≤ suc k
  pub within : used ≤ length s
  pub small : v < bound top k

-- nothing but spellings is found
pub found : (top k : ℕ) → 0 < top → top ≤ 128 → (s : List ℕ) (v used : ℕ) → uleb top k s ≡ Read v used
    → Spelt top k s v used
found top zero some low [] v used e = let z : ◌≡◌ {A = ℕ} 0 1 = cc in absurd (omega arith)
found top (suc k) some low [] v used e = let z : ◌≡◌ {A = ℕ} 0 1 = cc in absurd (omega arith)
found top zero some low (b ∷ s) v used e = go (ltb b top) refl e
  where
    go : (t : Bool) → ltb b top ≡ t → cond t (Read b 1) Beyond ≡ Read v used → Spelt top zero (b ∷ s) v used
    go true h q =
        let p : b ≡ v = cc in
        let r : 1 ≡ used = cc in
        let l = ltb-true b top h in
        rw (← p, ← r)
        (record
        { spells = last {b = b} (omega arith); short = omega arith; within = omega arith; small = omega arith })
    go false h q = let z : ◌≡◌ {A = ℕ} 0 1 = cc in absurd (omega arith)
found top (suc k) some low (b ∷ s) v used e = go (found top k some low s) (ltb b 128) refl e
  where
    after : ((x u : ℕ) → uleb top k s ≡ Read x u → Spelt top k s x u) → 128 ≤ b
        → (n : Number) → uleb top k s ≡ n → below b n ≡ Read v used → Spelt top (suc k) (b ∷ s) v used
    after rest h (Read x u) q e' =
        let p : b % 128 + 128 * x ≡ v = cc in
        let r : suc u ≡ used = cc in
        let i = rest x u q in
        rw (← p, ← r)
        (record { spells = more h i.spells; short = omega arith; within = omega arith; small = omega arith })
    after rest h Ended q e' = let z : ◌≡◌ {A = ℕ} 0 1 = cc in absurd (omega arith)
    after rest h Beyond q e' = let z : ◌≡◌ {A = ℕ} 0 1 = cc in absurd (omega arith)

    go : ((x u : ℕ) → uleb top k s ≡ Read x u → Spelt top k s x u) → (t : Bool) → ltb b 128 ≡ t
        → cond t (Read b 1) (below b (uleb top k s)) ≡ Read v used → Spelt top (suc k) (b ∷ s) v used
    go rest true h q =
        let p : b ≡ v = cc in
        let r : 1 ≡ used = cc in
        let l = ltb-true b 128 h in
        rw (← p, ← r)
        (record {
          spells = last {b = b} l;
          short = omega arith;
          within = omega arith;
          small = omega
              (arith, some-bound top k some);
        })
    go rest false h q = after rest (ltb-false b 128 h) (uleb top k s) refl q

-- and every spelling is found that is short and small enough
pub finds : (top k : ℕ) {t : List ℕ} {v : ℕ} (s : List ℕ) → Spells t v → length t ≤ suc k → v < bound top k
    → uleb top k (t ++ s) ≡ Read v (length t)
finds top zero s (last {b} h) l m = rw (lt-ltb b top (omega arith))
finds top (suc k) s (last {b} h) l m = rw (lt-ltb b 128 h)
finds top zero s (more {b} h (last _)) l m = absurd (omega arith)
finds top zero s (more {b} h (more _ _)) l m = absurd (omega arith)
finds top (suc k) s (more {b} h r) l m = rw (le-ltb b 128 h, finds top k s r (omega arith) (omega arith))

-- the same bytes spell one number only
pub one_way : {t : List ℕ} {v u : ℕ} → Spells t v → Spells t u → v ≡ u
one_way (last h) (last k) = refl
one_way (more {b} h p) (last k) = absurd (omega arith)
one_way (last {b = b} h) (more {v = v} k q) = absurd (omega arith)
one_way (more {b} h p) (more k q) = ap (λ (x : ℕ). b % 128 + 128 * x) (one_way p q)

pub spells-some : {t : List ℕ} {v : ℕ} → Spells t v → 0 < length t
spells-some (last h) = omega arith
spells-some (more h r) = omega arith
