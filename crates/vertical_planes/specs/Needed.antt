-- The planes taken: the least number after which no lane is undecided; what the lanes say of a group once that
-- is so.
use Rattle.std.specs.Prelude.{◌≡◌, true, false, cond, ◌||◌, List, [], ◌∷◌, ltb, pos, length}
use Rattle.std.proofs.Math.Path.{refl, ap}
use Rattle.std.proofs.Common.{sym, ap₂, ◌∙◌, arith, ltb-true, ltb-false}
use Rattle.std.proofs.Math.Bool.{Bool, not, or-false, not-not}
use Prim.Native.Nat.{ℕ, ◌-◌, ◌^◌, ◌≤◌, ◌<◌}
use Rattle.std.proofs.lemmas.Bool.{not-true}
use Rattle.rules.specs.Bits.{word, some_below, least_below}
use Rattle.rules.specs.Planes.{some_undecided, planes_taken}
use Rattle.rules.specs.Vertical.{lane}
use Rattle.rules.specs.declared.Compared.{Compared}
use Rattle.words.specs.Bits.{word-ext, word-not}
use Rattle.words.specs.LeastBelow.{least-found, least-none, least_is}
use Rattle.words.specs.SomeBelow.{below_none, some_or, word_some}
use Rattle.words.specs.Tests.{neither}
use Rattle.compare.specs.Band.{turned, banded}
use Rattle.compare.specs.declared.bands.Band.{Band}
use Rattle.vertical_planes.specs.AfterAllPlanes.{between_is, below_settled, above_settled}
use Rattle.vertical_planes.specs.Standing.{band_compared, low_open, high_open, out, some_open, Standing}
use Rattle.vertical_planes.specs.declared.lanes.Lanes.{Lanes}

module _ (planes : List ℕ) (band : Band) (i : ℕ) where
  -- some lane is undecided against one of the ends
  open-some : some_below 64 (λ j. low_open planes band i j || high_open planes band i j) ≡ some_open planes band i
  unfolding some_undecided
  open-some =
      let high : Bool = some_below 64 (high_open planes band i) in
      some_or 64 (low_open planes band i) (high_open planes band i)
      ∙ ap (λ (t : Bool). some_below 64 (low_open planes band i) || t) (sym (or-false high))

  -- the word of the undecided lanes is not 0 just where some lane is undecided
  pub some_open_lem : ltb 0 (word 64 (λ j. low_open planes band i j || high_open planes band i j))
      ≡ some_open planes band i
  some_open_lem = word_some 64 (λ j. low_open planes band i j || high_open planes band i j) ∙ open-some

  -- after i planes no lane is undecided, or no plane is left
  module _ (few : i ≤ length planes) (settled : i < length planes → some_open planes band i ≡ false) where
    out-settled : (j : ℕ) → j < 64 → out planes band (length planes) j ≡ out planes band i j
    out-settled j l = go (ltb i (length planes)) refl
      where
        go : (t : Bool) → ltb i (length planes) ≡ t → out planes band (length planes) j ≡ out planes band i j
        go true e =
            let none = below_none 64 _ (open-some ∙ settled (ltb-true i (length planes) e)) j l in
            let closed = neither (low_open planes band i j) (high_open planes band i j) none in
            ap₂ ◌||◌ (below_settled planes (length planes) i few band.low j closed.0)
            (above_settled planes (length planes) i few band.high j closed.1)
        go false e =
            let all : length planes ≡ i = omega (arith, ltb-false i (length planes) e) in
            ap (λ (k : ℕ). out planes band k j) all

    -- an entry is selected by what is known of its lane
    banded-out : (j : ℕ) → j < 64
        → banded band (pos (lane planes 0 (length planes) j))
        ≡ turned band.outside (not (out planes band i j))
    unfolding banded
    banded-out j l =
        ap (turned band.outside)
        (between_is planes (length planes) band.low band.high j ∙ ap not (out-settled j l))

    -- and i planes are taken, where before each some lane was undecided
    taken_is : ((k : ℕ) → k < i → some_open planes band k ≡ true)
        → planes_taken planes (band.low ∷ band.high ∷ []) ≡ i
    unfolding planes_taken
    taken_is needed = go (ltb i (length planes)) refl
      where
        test : ℕ → Bool
        test k = not (some_open planes band k)

        go : (t : Bool) → ltb i (length planes) ≡ t → least_below (length planes) test ≡ i
        go true e =
            let more : i < length planes = ltb-true i (length planes) e in
            least-found (length planes) test i more (λ k l. ap not (needed k l)) (ap not (settled more))
        go false e =
            let all : length planes ≡ i = omega (arith, ltb-false i (length planes) e) in
            least-none (length planes) test (λ k l. ap not (needed k (omega arith))) ∙ all

-- the planes taken say of each entry whether it is selected
pub banded-taken : (planes : List ℕ) (band : Band) (j : ℕ) → j < 64
    → banded band (pos (lane planes 0 (length planes) j))
    ≡ turned band.outside (not (out planes band (planes_taken planes (band.low ∷ band.high ∷ [])) j))
unfolding planes_taken
banded-taken planes band j l =
    let least = least_is (length planes) (λ k. not (some_open planes band k)) in
    banded-out planes band _ least.few (λ more. not-true _ (least.passes more)) j l

-- the lanes outside, or those inside
turned-word : (outside : Bool) (f : ℕ → Bool)
    → cond outside (word 64 f) (2 ^ 64 - 1 - word 64 f) ≡ word 64 (λ j. turned outside (not (f j)))
turned-word true f = word-ext 64 (λ j l. sym (not-not (f j)))
turned-word false f = word-not 64 f

module _ (planes : List ℕ) (band : Band) (lanes : Lanes) (s : Standing planes band lanes) where
  abbrev pub by_lanes : Compared
  by_lanes =
      record {
        bits = cond band.outside lanes.outside (2 ^ 64 - 1 - lanes.outside);
        taken = lanes.taken;
      }

  told : (lanes.taken < length planes → some_open planes band lanes.taken ≡ false)
      → by_lanes ≡ band_compared planes band
  told settled =
      ap₂ (λ (bits taken : ℕ). record { bits = bits; taken = taken })
      (ap (λ (o : ℕ). cond band.outside o (2 ^ 64 - 1 - o)) s.out_is
      ∙ turned-word band.outside (out planes band lanes.taken)
      ∙ word-ext 64 (λ j l. sym (banded-out planes band lanes.taken s.few settled j l)))
      (sym (taken_is planes band lanes.taken s.few settled s.needed))

  -- no lane is undecided
  pub told_settled : lanes.undecided ≡ 0 → by_lanes ≡ band_compared planes band
  told_settled none =
      told (λ more. sym (some_open_lem planes band lanes.taken) ∙ ap (ltb 0) (sym s.open_is ∙ none))

  -- or no plane is left
  pub told_all : length planes ≤ lanes.taken → by_lanes ≡ band_compared planes band
  told_all all = told (λ more. absurd (omega arith))
