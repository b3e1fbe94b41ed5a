-- One plane more of four groups side by side.
use Rattle.std.specs.Prelude.{◌≡◌, Bool, true, false, cond, ◌&&◌, List, ℕ, ◌-◌, ◌^◌, ◌<◌, ltb, eqb, length, get_or}
use Rattle.std.proofs.Common.{sym, ap, ltb-true, eqb-true}
use Rattle.words.specs.Tests.{both}
use Rattle.compare.specs.declared.bands.Band.{Band}
use Rattle.vertical_planes.specs.Ends.{laid, Masked, AllOrNone}
use Rattle.vertical_planes.specs.Standing.{has, stepped, Standing}
use Rattle.vertical_planes.specs.NextPlane.{standing_next}
use Rattle.vertical_planes.specs.declared.lanes.Lanes.{Lanes}
use Rattle.vertical_planes.specs.declared.four.Four.{Four}

-- as many planes are taken of each
abbrev pub InStep : Four Lanes → Type 0
InStep four =
    (four.second.taken ≡ four.first.taken) × (four.third.taken ≡ four.first.taken)
    × (four.fourth.taken ≡ four.first.taken)

pub in_step : (a b c d : ℕ) → (eqb b a && (eqb c a && eqb d a)) ≡ true → (b ≡ a) × (c ≡ a) × (d ≡ a)
in_step a b c d e =
    let f = both (eqb b a) (eqb c a && eqb d a) e in
    let g = both (eqb c a) (eqb d a) f.1 in
    (eqb-true b a f.0, eqb-true c a g.0, eqb-true d a g.1)

-- and some lane is undecided in each
pub all_open : (a b c d : ℕ) → (ltb 0 a && (ltb 0 b && (ltb 0 c && ltb 0 d))) ≡ true
    → (0 < a) × (0 < b) × (0 < c) × (0 < d)
all_open a b c d e =
    let f = both (ltb 0 a) (ltb 0 b && (ltb 0 c && ltb 0 d)) e in
    let g = both (ltb 0 b) (ltb 0 c && ltb 0 d) f.1 in
    let h = both (ltb 0 c) (ltb 0 d) g.1 in
    (ltb-true 0 a f.0, ltb-true 0 b g.0, ltb-true 0 c h.0, ltb-true 0 d h.1)

-- an end's bit in all lanes
pub all_or_none : (x c k : ℕ) → x ≡ laid c k → AllOrNone x
unfolding laid
all_or_none x c k e some = go (has c k) e
  where
    go : (t : Bool) → x ≡ cond t (2 ^ 64 - 1) 0 → x ≡ 2 ^ 64 - 1
    go true f = f
    go false f = absurd (some f)

-- plane i of one of them, the ends' bits being laid out
pub next_of : (planes lows apart : List ℕ) (band : Band) (w i : ℕ) → length planes ≡ w → i < w
    → Masked lows apart w band → (lanes : Lanes) → lanes.taken ≡ i → 0 < lanes.undecided
    → get_or planes i 0 < 2 ^ 64 → lanes.upper < 2 ^ 64 → Standing planes band lanes
    → Standing planes band (stepped lanes (get_or planes i 0) (get_or lows i 0) (get_or apart i 0))
next_of planes lows apart band w i size more masked lanes same some small fits s =
    standing_next planes band lanes s (rw (same, size) more) some (rw same small) fits _ _ _
    (ap (λ (k : ℕ). get_or planes k 0) (sym same)) (rw (same, size) (masked.0 i more))
    (rw (same, size) (masked.1 i more))
