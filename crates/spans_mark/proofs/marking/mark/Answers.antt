-- `spans_mark::marking::mark` meets its contract: each turn passes the words up to where a stretch begins, and those
-- up to where it ends.
use mathlib.Core.Path.{◌≡◌, sym, ap, ap₂, ◌∙◌}
use mathlib.Core.Bool.{◌||◌}
use mathlib.Core.List.{List, [], ◌∷◌, ◌++◌}
use Prim.Native.Nat.{ℕ, ◌+◌, ◌-◌, ◌*◌, ◌/◌, ◌%◌, ◌^◌, ◌≤◌, ◌<◌}
use native.Mathlib.Omega.{arith}
use lib.Dec.{leb}
use lib.ListN.{length, drop, get_or, length-drop, length-append}
use lib.Pow.{pow_mono}
use Rattle.rules.specs.Bits.{ceil, bytes, put}
use Rattle.rules.specs.Spans.{covered}
use Rattle.bitmaps.specs.Counts.{tally_le}
use Rattle.spans_mark.specs.Covers.{pair_at_lem}
use Rattle.spans_mark.specs.Words.{Stands, filled, passed}
use Rattle.spans_mark.specs.Marked.{Marking, marking_none, placed, marking_begin, marking_end, marking_all}
use Rattle.spans_mark.proofs.marking.mark.Goals as goal

-- a pair is there
module _ {n : ℕ} {l : List ℕ} {k at x longer : ℕ} {before now : List ℕ}
    (m : Marking n l k at x longer before now) (more : k + 1 < length l) where
  -- where it lies
  lies : (64 * at ≤ get_or l k 0) × (get_or l k 0 ≤ get_or l (k + 1) 0) × (get_or l (k + 1) 0 < n)
      × (longer ≤ get_or l k 0)
  lies =
      let p = placed m more in (
        omega (arith, m.low, p.begins_at),
        p.ordered,
        p.below,
        omega (arith, m.counted, tally_le m.p (covered l), p.begins_at),
      )

  module _ (few : n ≤ 16384) (room : ceil n 8 ≤ length before) where
    -- the stretch begins
    begun : {y b : ℕ} {after : List ℕ} → y ≡ passed (get_or l k 0 / 64 - at) x 0
        → after ≡ put now (8 * at) (filled (get_or l k 0 / 64 - at) x 0) → b ≡ 2 ^ 64 - 2 ^ (get_or l k 0 % 64)
        → (y + b < 2 ^ 64)
        × Stands (covered l) (λ i. leb (get_or l k 0) i || covered l i) (get_or l k 0 / 64) (y + b) before after
    begun next e bits =
        let first = get_or l k 0 in
        let b = marking_begin m more e (omega (arith, lies, few, room)) in
        let sum = ap₂ (λ (x y : ℕ). x + y) next bits in
        (omega (arith, sum, b.0, pow_mono {i = first % 64} {j = 64} (omega arith)), rw sum b.1)

    -- and ends
    ended : {y b z d : ℕ} {then after : List ℕ} → y ≡ passed (get_or l k 0 / 64 - at) x 0
        → then ≡ put now (8 * at) (filled (get_or l k 0 / 64 - at) x 0) → b ≡ 2 ^ 64 - 2 ^ (get_or l k 0 % 64)
        → z ≡ passed (get_or l (k + 1) 0 / 64 - get_or l k 0 / 64) (y + b) (2 ^ 64 - 1)
        → after
        ≡ put then (8 * (get_or l k 0 / 64))
        (filled (get_or l (k + 1) 0 / 64 - get_or l k 0 / 64) (y + b) (2 ^ 64 - 1))
        → d ≡ 2 ^ 64 - 2 ^ (get_or l (k + 1) 0 % 64 + 1)
        → (d ≤ z)
        × Marking n l (k + 2) (get_or l (k + 1) 0 / 64) (z - d) (longer + (get_or l (k + 1) 0 - get_or l k 0))
        before after
    ended next e bits next₂ e₂ bits₂ =
        marking_end m more (begun next e bits).1 e₂ next₂ bits₂ (omega (arith, lies, few, room))

-- the next pair of those left
pub record Next (l : List ℕ) (k : ℕ) (pair rest : List ℕ) : Type 0 where
  pub more : k + 1 < length l
  pub first : get_or pair 0 0 ≡ get_or l k 0
  pub last : get_or pair 1 0 ≡ get_or l (k + 1) 0
  pub left : rest ≡ drop (k + 2) l

next : (l : List ℕ) (k : ℕ) (pair : List ℕ) {left rest : List ℕ} → left ≡ drop k l → left ≡ pair ++ rest → length pair ≡ 2
    → Next l k pair rest
next l k (first ∷ last ∷ []) {rest = rest} from cut two =
    let all : drop k l ≡ first ∷ last ∷ rest = sym from ∙ cut in
    let more : k + 1 < length l = omega (arith, length-drop k l, ap (length {A = ℕ}) all) in
    let same = pair_at_lem l k more in
    record { more = more; first = cc; last = cc; left = cc }
next l k [] from cut two = absurd (omega arith)
next l k (first ∷ []) from cut two = absurd (omega arith)
next l k (first ∷ last ∷ third ∷ s) from cut two = absurd (omega arith)

module _ {n : ℕ} {l : List ℕ} {k at x longer : ℕ} {before now pair rest : List ℕ}
    (m : Marking n l k at x longer before now) (p : Next l k pair rest) where
  pair_lies : (64 * at ≤ get_or pair 0 0) × (get_or pair 0 0 ≤ get_or pair 1 0) × (get_or pair 1 0 < n)
      × (longer ≤ get_or pair 0 0)
  pair_lies = rw (p.first, p.last) (lies m p.more)

  module _ (few : n ≤ 16384) (room : ceil n 8 ≤ length before) where
    pair_begun : {y b : ℕ} {after : List ℕ} → y ≡ passed (get_or pair 0 0 / 64 - at) x 0
        → after ≡ put now (8 * at) (filled (get_or pair 0 0 / 64 - at) x 0)
        → b ≡ 2 ^ 64 - 2 ^ (get_or pair 0 0 % 64) → y + b < 2 ^ 64
    pair_begun next e bits =
        (begun m p.more few room (rw p.first at next) (rw p.first at e) (rw p.first at bits)).0

    pair_ended : {y b z d : ℕ} {then after : List ℕ} → y ≡ passed (get_or pair 0 0 / 64 - at) x 0
        → then ≡ put now (8 * at) (filled (get_or pair 0 0 / 64 - at) x 0)
        → b ≡ 2 ^ 64 - 2 ^ (get_or pair 0 0 % 64)
        → z ≡ passed (get_or pair 1 0 / 64 - get_or pair 0 0 / 64) (y + b) (2 ^ 64 - 1)
        → after
        ≡ put then (8 * (get_or pair 0 0 / 64))
        (filled (get_or pair 1 0 / 64 - get_or pair 0 0 / 64) (y + b) (2 ^ 64 - 1))
        → d ≡ 2 ^ 64 - 2 ^ (get_or pair 1 0 % 64 + 1)
        → (d ≤ z)
        × Marking n l (k + 2) (get_or pair 1 0 / 64) (z - d) (longer + (get_or pair 1 0 - get_or pair 0 0))
        before after
    pair_ended next e bits next₂ e₂ bits₂ =
        rw (p.first, p.last)
        (ended m p.more few room (rw p.first at next) (rw p.first at e) (rw p.first at bits)
        (rw (p.first, p.last) at next₂) (rw (p.first, p.last) at e₂) (rw p.last at bits₂))

pub loop-pair-init : goal.loop-pair-init
loop-pair-init c =
    let a = c.args in
    let gives = c.into_iter-pair-iterator.ensures.into_iter_gives in
    let first = c.chunks_exact-pair-items.ensures in
    rw gives (first.size, omega arith, first.rest, marking_none a.n a.list.now a.bitmap.now c.requires.3)

pub pass-requires : goal.pass-requires
pass-requires c =
    let l = c.loop-pair in
    let h = c.in-Some.ensures.steps in
    let p = next c.args.list.now (2 * length l.yielded) c.in-Some.pair.now l.invariant.2 h.1.0 (h.1.1 ∙ l.invariant.0) in
    let w = pair_lies l.invariant.3 p in
    (omega (arith, w), omega (arith, w, c.requires.0), omega (arith, w, c.requires.1, l.auto.bitmap))

pub overflow_add-begun : goal.overflow_add-begun
overflow_add-begun c =
    let l = c.loop-pair in
    let h = c.in-Some.ensures.steps in
    let p = next c.args.list.now (2 * length l.yielded) c.in-Some.pair.now l.invariant.2 h.1.0 (h.1.1 ∙ l.invariant.0) in
    let fits = pair_begun l.invariant.3 p c.requires.0 c.requires.1 c.pass.ensures.word c.pass.ensures.wrote
    c.from_bit.ensures in
    omega (arith, fits)

pub pass-requires-in-loop-pair : goal.pass-requires-in-loop-pair
pass-requires-in-loop-pair c =
    let l = c.loop-pair in
    let h = c.in-Some.ensures.steps in
    let p = next c.args.list.now (2 * length l.yielded) c.in-Some.pair.now l.invariant.2 h.1.0 (h.1.1 ∙ l.invariant.0) in
    let w = pair_lies l.invariant.3 p in (
      omega (arith, w),
      omega (arith, w, c.requires.0),
      omega (arith, w, c.requires.1, c.pass.auto.bitmap, l.auto.bitmap),
    )

pub overflow_sub-word : goal.overflow_sub-word
overflow_sub-word c =
    let l = c.loop-pair in
    let h = c.in-Some.ensures.steps in
    let p = next c.args.list.now (2 * length l.yielded) c.in-Some.pair.now l.invariant.2 h.1.0 (h.1.1 ∙ l.invariant.0) in
    let q = c.pass.ensures in
    let r = c.pass-in-loop-pair.ensures in
    (pair_ended l.invariant.3 p c.requires.0 c.requires.1 q.word q.wrote c.from_bit.ensures r.word r.wrote
    c.behind_bit.ensures).0

pub overflow_sub-longer : goal.overflow_sub-longer
overflow_sub-longer c =
    let l = c.loop-pair in
    let h = c.in-Some.ensures.steps in
    let p = next c.args.list.now (2 * length l.yielded) c.in-Some.pair.now l.invariant.2 h.1.0 (h.1.1 ∙ l.invariant.0) in
    omega (arith, pair_lies l.invariant.3 p)

pub overflow_add-longer : goal.overflow_add-longer
overflow_add-longer c =
    let l = c.loop-pair in
    let h = c.in-Some.ensures.steps in
    let p = next c.args.list.now (2 * length l.yielded) c.in-Some.pair.now l.invariant.2 h.1.0 (h.1.1 ∙ l.invariant.0) in
    omega (arith, pair_lies l.invariant.3 p, c.requires.0)

pub loop-pair-preserved : goal.loop-pair-preserved
loop-pair-preserved c =
    let l = c.loop-pair in
    let h = c.in-Some.ensures.steps in
    let p = next c.args.list.now (2 * length l.yielded) c.in-Some.pair.now l.invariant.2 h.1.0 (h.1.1 ∙ l.invariant.0) in
    let q = c.pass.ensures in
    let r = c.pass-in-loop-pair.ensures in
    let two : 2 * length (l.yielded ++ c.in-Some.pair ∷ []) ≡ 2 * length l.yielded + 2 =
    omega (arith, length-append l.yielded (c.in-Some.pair ∷ [])) in
    rw two (
      h.0 ∙ l.invariant.0,
      omega (arith, p.more),
      p.left,
      (pair_ended l.invariant.3 p c.requires.0 c.requires.1 q.word q.wrote c.from_bit.ensures r.word r.wrote
          c.behind_bit.ensures).1,
    )

pub pass-rest-requires : goal.pass-rest-requires
pass-rest-requires c =
    let l = c.loop-pair in
    let m = l.invariant.3 in (
      omega (arith, m.low, m.covering.within),
      omega (arith, c.requires.0),
      omega (arith, c.requires.1, l.auto.bitmap),
    )

pub store_low-requires : goal.store_low-requires
store_low-requires c = omega (arith, c.requires.1, c.pass-rest.auto.bitmap, c.loop-pair.auto.bitmap)

-- no pair is left
all-passed : (l : List ℕ) (k : ℕ) {left : List ℕ} {size : ℕ} → left ≡ drop (2 * k) l → length left < size → size ≡ 2
    → 2 * k ≤ length l → length l % 2 ≡ 0 → 2 * k ≡ length l
all-passed l k from short two within even = omega (arith, ap (length {A = ℕ}) from, length-drop (2 * k) l)

-- the pairs are few
few : {n : ℕ} {l : List ℕ} {k at x longer : ℕ} {before now : List ℕ}
    → Marking n l k at x longer before now → k ≡ length l → n ≤ 16384 → longer + length l / 2 ≤ 16384
few {l = l} m all short = omega (arith, all, m.counted, m.covering.within, short, tally_le m.p (covered l))

pub overflow_cast-result : goal.overflow_cast-result
overflow_cast-result c =
    let l = c.loop-pair in
    let h = c.in-None.ensures.steps in
    let all =
    all-passed c.args.list.now (length l.yielded) l.invariant.2 h.1.0 l.invariant.0 l.invariant.1 c.requires.2 in
    omega (arith, few l.invariant.3 all c.requires.0)

pub overflow_add-result : goal.overflow_add-result
overflow_add-result c =
    let l = c.loop-pair in
    let h = c.in-None.ensures.steps in
    let all =
    all-passed c.args.list.now (length l.yielded) l.invariant.2 h.1.0 l.invariant.0 l.invariant.1 c.requires.2 in
    omega (arith, few l.invariant.3 all c.requires.0)

pub returns : goal.returns
returns c =
    let l = c.loop-pair in
    let h = c.in-None.ensures.steps in
    let all =
    all-passed c.args.list.now (length l.yielded) l.invariant.2 h.1.0 l.invariant.0 l.invariant.1 c.requires.2 in
    let n = c.args.n in
    let y : List ℕ → ℕ → List ℕ = λ after x. put after (8 * (n / 64)) (bytes (ceil (n % 64) 8) x) in
    let m =
    marking_all l.invariant.3 (omega (arith, all)) c.pass-rest.ensures.wrote
    (c.store_low.ensures ∙ ap (y c.pass-rest.new.bitmap) c.pass-rest.ensures.word) c.requires.1 in
    record { count = ap (λ (k : ℕ). l.longer + k / 2) (sym all) ∙ m.0; wrote = m.1 }
