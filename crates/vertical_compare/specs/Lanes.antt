-- The laws of `lane`: its bound, its bits, a part of the words.
use Rattle.std.specs.Prelude.{◌≡◌, refl, List, ℕ, zero, suc, ◌+◌, ◌-◌, ◌*◌, ◌/◌, ◌%◌, ◌^◌, ◌≤◌, ◌<◌, take, drop, get_or}
use Rattle.std.proofs.Common.{sym, ap, ap₂, ◌∙◌, not-suc-le-zero, pow-suc, zero-add, lt_of_lt_of_le, arith, pow_mono, get_or-take, get_or-drop}
use Rattle.rules.specs.Bits.{bit}
use Rattle.rules.specs.Vertical.{lane}
use Rattle.words.specs.Bits.{bit_lt, bit-zero, bit-half}

pub lane_lt : (ps : List ℕ) (at w j : ℕ) → lane ps at w j < 2 ^ w
unfolding lane
lane_lt ps at zero j = omega arith
lane_lt ps at (suc w) j = omega (arith, lane_lt ps at w j, pow-suc 2 w, bit_lt (get_or ps (at + w) 0) j)

pub lane-fits : (ps : List ℕ) (at w j : ℕ) → w ≤ 32 → lane ps at w j < 4294967296
lane-fits ps at w j h = lt_of_lt_of_le (lane_lt ps at w j) (pow_mono {i = w} {j = 32} h)

pub lane-none : (ps : List ℕ) (at j : ℕ) → lane ps at 0 j ≡ 0
unfolding lane
lane-none ps at j = refl

-- bit k of a lane is of plane w - 1 - k
pub bit-lane : (ps : List ℕ) (at w j k : ℕ) → k < w → bit (lane ps at w j) k ≡ bit (get_or ps (at + (w - 1 - k)) 0) j
unfolding lane
bit-lane ps at zero j k h = absurd (not-suc-le-zero h)
bit-lane ps at (suc w) j zero h =
    let b : ℕ = bit (get_or ps (at + w) 0) j in
    let last : (lane ps at w j * 2 + b) % 2 ≡ b = omega (arith, bit_lt (get_or ps (at + w) 0) j) in
    bit-zero (lane ps at w j * 2 + b) ∙ last ∙ ap (λ (i : ℕ). bit (get_or ps (at + i) 0) j) (omega arith)
bit-lane ps at (suc w) j (suc k) h =
    let b : ℕ = bit (get_or ps (at + w) 0) j in
    let half : (lane ps at w j * 2 + b) / 2 ≡ lane ps at w j = omega (arith, bit_lt (get_or ps (at + w) 0) j) in
    let place : w - 1 - k ≡ suc w - 1 - suc k = omega arith in
    sym (bit-half (lane ps at w j * 2 + b) k) ∙ ap (λ (x : ℕ). bit x k) half ∙ bit-lane ps at w j k (omega arith)
    ∙ ap (λ (i : ℕ). bit (get_or ps (at + i) 0) j) place

-- words that agree have the same lanes
pub lane-ext : (ps qs : List ℕ) (a b w j : ℕ) → ((k : ℕ) → k < w → get_or ps (a + k) 0 ≡ get_or qs (b + k) 0)
    → lane ps a w j ≡ lane qs b w j
unfolding lane
lane-ext ps qs a b zero j h = refl
lane-ext ps qs a b (suc w) j h =
    ap₂ (λ (x p : ℕ). x * 2 + bit p j) (lane-ext ps qs a b w j (λ k l. h k (omega arith))) (h w (omega arith))

-- a group's words lent by themselves
pub lane_part : (words : List ℕ) (at w j : ℕ) → lane (take w (drop at words)) 0 w j ≡ lane words at w j
lane_part words at w j =
    lane-ext (take w (drop at words)) words 0 at w j
    (λ k l. get_or-take w (drop at words) (0 + k) 0 (omega arith) ∙ get_or-drop at words (0 + k) 0 ∙ ap
    (λ (i : ℕ). get_or words (at + i) 0) (zero-add k))
