-- A number of W bits at a place of a page: what is found there, and where it ends.
use Rattle.std.specs.Prelude.{◌≡◌, refl, List, ◌++◌, ℕ, zero, suc, ◌+◌, ◌-◌, ◌*◌, ◌^◌, ◌<◌, ◌≤◌, length, drop}
use Rattle.std.proofs.Common.{ap, ◌∙◌, arith, length-take, length-drop, pow_pos, pow_mono, pow-add}
use Rattle.rules.specs.declared.Number.{Number}
use Rattle.rules.specs.declared.Number.TheVariants.{Read, Ended, Beyond}
use Rattle.rules.specs.Varint.{uleb, moved, further_of, top_of, number_at}
use Rattle.rules.specs.Grammar.{Spells}
use Rattle.varints.specs.Spelling.{bound, Spelt, found, finds, spells-some}

-- d bits in the last byte, seven in each before it
pub bound_pow : (d k : ℕ) → bound (2 ^ d) k ≡ 2 ^ (d + 7 * k)
bound_pow d zero = ap (λ (n : ℕ). 2 ^ n) (omega arith)
bound_pow d (suc k) =
    let e : d + 7 * suc k ≡ d + 7 * k + 7 = omega arith in
    rw (e, pow-add 2 (d + 7 * k) 7) (omega (arith, bound_pow d k))

-- the bytes of W bits hold just the numbers below 2 ^ W
pub bound-width : (W : ℕ) → bound (top_of W) (further_of W) ≡ 2 ^ W
bound-width W = bound_pow (W - 7 * further_of W) (further_of W) ∙ ap (λ (n : ℕ). 2 ^ n) (omega arith)

-- what stands at a place where v is read, and the next place reached
pub record SpeltAt (W : ℕ) (page : List ℕ) (at v next : ℕ) : Type 0 where
  pub used : ℕ
  pub there : next ≡ at + used
  pub spelt : Spelt (top_of W) (further_of W) (drop at page) v used

pub found_at : (W : ℕ) (page : List ℕ) (at v next : ℕ) → number_at W page at ≡ Read v next → SpeltAt W page at v next
unfolding number_at
found_at W page at v next e = go (uleb (top_of W) (further_of W) (drop at page)) refl e
  where
    go : (n : Number) → uleb (top_of W) (further_of W) (drop at page) ≡ n → moved at n ≡ Read v next
        → SpeltAt W page at v next
    go (Read x u) q e' =
        let p : x ≡ v = cc in
        let low : top_of W ≤ 128 = pow_mono {i = W - 7 * further_of W} {j = 7} (omega arith) in
        record {
          used = u;
          there = cc;
          spelt = rw p at
              (found (top_of W) (further_of W) (pow_pos (W - 7 * further_of W)) low (drop at page) x u q);
        }
    go Ended q e' = let z : ◌≡◌ {A = ℕ} 0 1 = cc in absurd (omega arith)
    go Beyond q e' = let z : ◌≡◌ {A = ℕ} 0 1 = cc in absurd (omega arith)

-- every spelling at a place is found that is short enough, of a number of W bits
pub finds_at : (W : ℕ) (page : List ℕ) (at : ℕ) {t : List ℕ} {v : ℕ} (s : List ℕ) → drop at page ≡ t ++ s
    → Spells t v → length t ≤ suc (further_of W) → v < 2 ^ W
    → number_at W page at ≡ Read v (at + length t)
unfolding number_at
finds_at W page at s e p l h =
    ap (λ (r : List ℕ). moved at (uleb (top_of W) (further_of W) r)) e
    ∙ ap (moved at) (finds (top_of W) (further_of W) s p l (rw bound-width h))

-- the next place is on the page and behind this one, and the number has W bits
pub next-within : (W : ℕ) (page : List ℕ) (at v next : ℕ) → number_at W page at ≡ Read v next
    → (next ≤ length page) × (v < 2 ^ W) × (at < next)
next-within W page at v next e =
    let f = found_at W page at v next e in
    let l = length-drop at page in
    let t = length-take f.used (drop at page) in
    let b = spells-some f.spelt.spells in
    (omega arith, rw (← (bound-width W)) f.spelt.small, omega arith)
