-- What comparing one group promises: its 64 bits and the number of planes taken, by the operator and its
-- constants; and two groups that are alike in the planes taken get the same.
use Rattle.std.specs.Prelude.{◌≡◌, refl, Bool, ℕ, ◌^◌, ◌≤◌, ℤ, pos, take, Some}
use Rattle.std.proofs.Math.Path.{sym, ap, ap₂}
use Rattle.std.proofs.Common.{subst, ◌∙◌, arith}
use Rattle.std.proofs.Math.Bool.{false, not, or_self_left}
use mathlib.Core.List.{List, [], ◌∷◌, map}
use Rattle.std.proofs.Math.ListN.{length, get_or}
use Rattle.std.proofs.Math.Pow.{pow_mono}
use borrow.Author.Tests.{le-ltb, ltb-false}
use Rattle.rules.specs.Bits.{tabulate, some_below}
use Rattle.rules.specs.Planes.{undecided, some_undecided, planes_taken, constants, compared}
use Rattle.rules.specs.Vertical.{lane}
use Rattle.rules.specs.declared.Compared.{Compared}
use Rattle.words.specs.Bits.{word-ext}
use Rattle.words.specs.LeastBelow.{least-alike}
use Rattle.words.specs.SomeBelow.{none_below}
use Rattle.words.specs.Tabulated.{get_or-tabulate}
use Rattle.compare.specs.Band.{band_of, bands, least, greatest}
use Rattle.compare.specs.Operators.{same_row, band-known, holds-band}
use Rattle.compare.specs.declared.bands.Band.{Band}
use Rattle.vertical_planes.specs.Alike.{band-alike}
use Rattle.vertical_compare.specs.Lanes.{lane-fits}
use Rattle.vertical_planes.specs.Standing.{band_compared}
use Rattle.vertical_planes.proofs.groups.compare.Kinds as compare_kinds
use Rattle.vertical_planes.proofs.groups.compare.Reads as compare_reads
use Rattle.vertical_planes.proofs.four.compare_four.Kinds as compare_four_kinds
use Rattle.vertical_planes.proofs.four.compare_four.Reads as compare_four_reads
use Rattle.promises.specs.Calls.{Every}

-- ---- an operator's constants are the ends of its band that count

module _ (group : List ℕ) (few : length group ≤ 32) where
  abbrev some_open : ℕ → List ℤ → Bool
  some_open = some_undecided group (length group)

  -- no lane is undecided against that end
  abbrev Closed : ℕ → ℤ → Type 0
  Closed i end = some_below 64 (undecided group (length group) i end) ≡ false

  -- an end that is no constant is outside every column
  no-constant : (i : ℕ) → Closed i least × Closed i greatest
  unfolding undecided
  no-constant i =
      let outside = le-ltb 9223372036854775807 (2 ^ length group)
      (omega (arith, pow_mono {i = length group} {j = 32} few)) in (
        none_below 64 (undecided group (length group) i least) (λ j l. refl),
        none_below 64 (undecided group (length group) i greatest) (λ j l. rw outside),
      )

  -- the bands of the operators 0 to 7, against their constants
  undecided-rows : (i : ℕ) (a b : ℤ)
      → map (λ band. some_open i (band.low ∷ band.high ∷ [])) (bands a b)
      ≡ tabulate 8 (λ op. some_open i (constants op a b))
  unfolding bands tabulate constants some_undecided
  undecided-rows i a b = rw ((no-constant i).0, (no-constant i).1, or_self_left)

  module _ (op : ℕ) (a b : ℤ) (band : Band) (known : band_of op a b ≡ Some band) where
    same-undecided : (i : ℕ) → some_open i (constants op a b) ≡ some_open i (band.low ∷ band.high ∷ [])
    unfolding band_of
    same-undecided i =
        sym (get_or-tabulate 8 (λ row. some_open i (constants row a b)) op false
        (omega (arith, ltb-false 7 op (band-known op a b band known))))
        ∙ ap (λ (rows : List Bool). get_or rows op false) (sym (undecided-rows i a b))
        ∙ same_row (λ row. some_open i (row.low ∷ row.high ∷ [])) (bands a b) op band known

    -- the bits are those of the comparison, and the planes taken those that its constants ask for
    by-band : band_compared group band ≡ compared group op a b
    unfolding compared planes_taken
    by-band =
        ap₂ (λ (bits taken : ℕ). record { bits = bits; taken = taken })
        (word-ext 64 (λ j l. holds-band op a b (pos (lane group 0 (length group) j)) band
        (omega (arith, lane-fits group 0 (length group) j few)) known))
        (least-alike (length group) _ _ (λ i l m. ap not (same-undecided i)))

-- ---- whatever a call was given: the group's planes, and a band with its ends

pub group_compared : Every 3 compare_kinds.ps compare_kinds.r compare_reads.Learnt (λ κs g r e.
    (op : ℕ) (a b : ℤ) → band_of op a b ≡ Some g.1.0.now.band → length g.0.now ≤ 32
    → r ≡ compared g.0.now op a b)
group_compared κs g r e contract op a b known few = contract ∙ by-band g.0.now few op a b g.1.0.now.band known

pub four_compared_lem : Every 3 compare_four_kinds.ps compare_four_kinds.r compare_four_reads.Learnt (λ κs g r e.
    (op : ℕ) (a b : ℤ) → band_of op a b ≡ Some g.1.0.now.band
    → length g.0.first.now ≤ 32 → length g.0.second.now ≤ 32
    → length g.0.third.now ≤ 32 → length g.0.fourth.now ≤ 32
    → r ≡ record {
      first = compared g.0.first.now op a b;
      second = compared g.0.second.now op a b;
      third = compared g.0.third.now op a b;
      fourth = compared g.0.fourth.now op a b;
    })
four_compared_lem κs g r e contract op a b known first second third fourth =
    contract
    ∙ rw (
      by-band g.0.first.now first op a b g.1.0.now.band known,
      by-band g.0.second.now second op a b g.1.0.now.band known,
      by-band g.0.third.now third op a b g.1.0.now.band known,
      by-band g.0.fourth.now fourth op a b g.1.0.now.band known,
    )

-- ---- two groups that are alike in the planes taken get the same

pub alike : (g h : List ℕ) → length g ≡ length h → length g ≤ 32
    → (op : ℕ) (a b : ℤ) (band : Band) → band_of op a b ≡ Some band
    → take (compared g op a b).taken g ≡ take (compared g op a b).taken h
    → compared h op a b ≡ compared g op a b
alike g h size few op a b band known same =
    let taken = ap (λ (c : Compared). c.taken) (by-band g few op a b band known) in
    sym (by-band h (omega arith) op a b band known)
    ∙ band-alike g h size band (subst (λ (k : ℕ). take k g ≡ take k h) (sym taken) same)
    ∙ by-band g few op a b band known

-- so two calls with one band, whatever the planes hold that the first did not take
pub alike_called : Every 3 compare_kinds.ps compare_kinds.r compare_reads.Learnt (λ κs g r e.
    Every 3 compare_kinds.ps compare_kinds.r compare_reads.Learnt (λ κs' h s e'.
    h.1.0.now.band ≡ g.1.0.now.band → length g.0.now ≡ length h.0.now
    → take r.taken g.0.now ≡ take r.taken h.0.now → s ≡ r))
alike_called κs g r e contract κs' h s e' contract' band size same =
    let taken = ap (λ (c : Compared). c.taken) contract in
    contract' ∙ ap (band_compared h.0.now) band
    ∙ band-alike g.0.now h.0.now size g.1.0.now.band
    (subst (λ (k : ℕ). take k g.0.now ≡ take k h.0.now) taken same)
    ∙ sym contract
