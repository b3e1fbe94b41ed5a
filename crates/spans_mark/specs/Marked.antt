-- A list's pairs walked: the words of its bitmap in front of the last edge are in place, and the entries are counted.
use Rattle.std.specs.Prelude.{◌≡◌, refl, Bool, true, false, ◌&&◌, ◌||◌, List, ℕ, ◌+◌, ◌-◌, ◌*◌, ◌/◌, ◌%◌, ◌^◌, ◌≤◌, ◌<◌, ltb, leb, length, drop, get_or}
use Rattle.std.proofs.Common.{sym, ap, subst, ◌∙◌, arith, lt-ltb, le-ltb, le-leb, ltb-false, leb-true}
use Rattle.std.proofs.lemmas.Bool.{lt-leb}
use Rattle.rules.specs.Bits.{ceil, word, bytes, put}
use Rattle.rules.specs.Bitmap.{bitmap, tally}
use Rattle.rules.specs.Spans.{covered, misplaced}
use Rattle.words.specs.Bits.{word-ext, word_none, word_all}
use Rattle.bitmaps.specs.Bitmaps.{bitmap-none, next_word}
use Rattle.bitmaps.specs.Counts.{tally-none, tally_all, tally_add}
use Rattle.spans_mark.specs.Placed.{Placed}
use Rattle.spans_mark.specs.Covers.{Covering, covering-none, covering-pair, covering-gap, covering-stretch}
use Rattle.spans_mark.specs.Covers.{covering-next, covering-end}
use Rattle.spans_mark.specs.Words.{filled, passed, Stands, stands-pass, low_bits, begin_bits, end-bits}

-- of a test: the entries in front of p, and all from `first` on
abbrev up_to : (ℕ → Bool) → ℕ → ℕ → Bool
up_to f p i = ltb i p && f i

abbrev open_from : (ℕ → Bool) → ℕ → ℕ → Bool
open_from f first i = leb first i || f i

-- the stretches in front of place k of the list end in front of p, which lies in word `at` or behind its last
-- entry; one of two places is that of a first entry, and `longer` are the others
pub record Marking (n : ℕ) (l : List ℕ) (k at x longer : ℕ) (before now : List ℕ) : Type 0 where
  pub p : ℕ
  pub covering : Covering n l k p
  pub low : 64 * at ≤ p
  pub high : p ≤ 64 * at + 64
  pub stands : Stands (covered l) (up_to (covered l) p) at x before now
  pub counted : longer + k / 2 ≡ tally p (covered l)

pub marking_none : (n : ℕ) (l before : List ℕ) → misplaced n 0 l ≡ false → Marking n l 0 0 0 0 before before
unfolding tally
marking_none n l before placed =
    record {
      p = 0;
      covering = covering-none n l placed;
      low = omega arith;
      high = omega arith;
      stands =
          record {
            in_place = bitmap-none before 0 (covered l);
            word_is = sym (word-ext 64 (λ j _. rw (le-ltb (64 * 0 + j) 0 (omega arith))) ∙ word_none 64);
          };
      counted = refl;
    }

module _ {n : ℕ} {l : List ℕ} {k at x longer : ℕ} {before now : List ℕ} (m : Marking n l k at x longer before now) where
  -- the same, where nothing is covered from p up to `to`
  upto_is : (to : ℕ) → ((j : ℕ) → m.p ≤ j → j < to → covered l j ≡ false) → (i : ℕ) → i < to
      → up_to (covered l) m.p i ≡ covered l i
  upto_is to none i h = go (ltb i m.p) refl
    where
      go : (t : Bool) → ltb i m.p ≡ t → (t && covered l i) ≡ covered l i
      go true e = refl
      go false e = sym (none i (ltb-false i m.p e) h)

  module _ (pair : k + 1 < length l) where
    abbrev first : ℕ
    first = get_or l k 0

    abbrev last : ℕ
    last = get_or l (k + 1) 0

    pub placed : Placed n m.p first last (drop (k + 2) l)
    placed = covering-pair n l k m.p m.covering pair

    gap : (i : ℕ) → i < first → up_to (covered l) m.p i ≡ covered l i
    gap = upto_is first (λ j a b. covering-gap n l k m.p m.covering pair j a b)

    -- up to its last entry the stretch that begins is the list's
    open_is : (i : ℕ) → i ≤ last → open_from (covered l) first i ≡ covered l i
    open_is i h = go (leb first i) refl
      where
        go : (t : Bool) → leb first i ≡ t → (t || covered l i) ≡ covered l i
        go true e = sym (covering-stretch n l k m.p m.covering pair i (leb-true first i e) (omega arith))
        go false e = refl

    pub marking_begin : {after : List ℕ} → after ≡ put now (8 * at) (filled (first / 64 - at) x 0)
        → 8 * (first / 64) ≤ length before → let y = passed (first / 64 - at) x 0 in
        (y < 2 ^ (first % 64))
        × Stands (covered l) (open_from (covered l) first) (first / 64) (y + (2 ^ 64 - 2 ^ (first % 64))) before after
    marking_begin {after} e room =
        let q : ℕ = first / 64 in
        let y : ℕ = passed (q - at) x 0 in
        let there : at + (q - at) ≡ q = omega (arith, m.low, placed.begins_at) in
        let s : Stands (covered l) (up_to (covered l) m.p) q y before after =
        subst (λ (w : ℕ). Stands (covered l) (up_to (covered l) m.p) w y before after) there
        (stands-pass (covered l) (up_to (covered l) m.p) false (q - at) at x 0 before m.stands e
        (omega (arith, there))
        (λ i a b. gap i (omega (arith, there))) (λ i a. rw (le-ltb i m.p (omega (arith, m.high))))
        (sym (word_none 64))) in
        let b =
        begin_bits (open_from (covered l) first) (up_to (covered l) m.p) q (first % 64) (omega arith) y s.word_is
        (λ j a c. rw (le-ltb (64 * q + j) m.p (omega (arith, placed.begins_at))))
        (λ j a c. rw (le-leb first (64 * q + j) (omega arith)))
        (λ j a. gap (64 * q + j) (omega arith) ∙ sym (rw (lt-leb first (64 * q + j) (omega arith)))) in
        (b.0, record { in_place = s.in_place; word_is = b.1 })

    count_is : longer + (last - first) + (k + 2) / 2 ≡ tally (last + 1) (covered l)
    count_is =
        let f = covered l in
        let p = m.p in
        let one : p + (first - p) ≡ first = omega (arith, placed.begins_at) in
        let two : first + (last + 1 - first) ≡ last + 1 = omega (arith, placed.ordered) in
        let none : tally (first - p) (λ j. f (p + j)) ≡ 0 =
        tally-none (first - p) (λ j. f (p + j))
        (λ j h. covering-gap n l k p m.covering pair (p + j) (omega arith) (omega arith)) in
        let all : tally (last + 1 - first) (λ j. f (first + j)) ≡ last + 1 - first =
        tally_all (last + 1 - first) (λ j. f (first + j))
        (λ j h. covering-stretch n l k p m.covering pair (first + j) (omega arith) (omega arith)) in
        omega (
          arith,
          m.counted,
          none,
          all,
          placed.ordered,
          sym (tally_add p (first - p) f) ∙ ap (λ (k : ℕ). tally k f) one,
          sym (tally_add first (last + 1 - first) f) ∙ ap (λ (k : ℕ). tally k f) two,
        )

    pub marking_end : {y z b : ℕ} {then after : List ℕ}
        → Stands (covered l) (open_from (covered l) first) (first / 64) y before then
        → after ≡ put then (8 * (first / 64)) (filled (last / 64 - first / 64) y (2 ^ 64 - 1))
        → z ≡ passed (last / 64 - first / 64) y (2 ^ 64 - 1) → b ≡ 2 ^ 64 - 2 ^ (last % 64 + 1)
        → 8 * (last / 64) ≤ length before
        → (b ≤ z) × Marking n l (k + 2) (last / 64) (z - b) (longer + (last - first)) before after
    marking_end {y} {z} {b} {then} {after} s e next bits room =
        let q : ℕ = first / 64 in
        let w : ℕ = last / 64 in
        let there : q + (w - q) ≡ w = omega (arith, placed.ordered) in
        let o : Stands (covered l) (open_from (covered l) first) w z before after =
        rw next
        (subst (λ (v : ℕ). Stands (covered l) (open_from (covered l) first) v
        (passed (w - q) y (2 ^ 64 - 1)) before after) there
        (stands-pass (covered l) (open_from (covered l) first) true (w - q) q y (2 ^ 64 - 1) before s e
        (omega (arith, there))
        (λ i a b. open_is i (omega (arith, there))) (λ i a. rw (le-leb first i (omega arith))) (sym (word_all 64)))) in
        let c =
        end-bits (open_from (covered l) first) (up_to (covered l) (last + 1)) w (last % 64) (omega arith) z o.word_is
        (λ j a b. rw (le-leb first (64 * w + j) (omega (arith, placed.ordered))))
        (λ j a b. rw (le-ltb (64 * w + j) (last + 1) (omega arith)))
        (λ j a. open_is (64 * w + j) (omega arith) ∙ sym (rw (lt-ltb (64 * w + j) (last + 1) (omega arith)))) in (
          omega (arith, bits, c.0),
          record {
            p = last + 1;
            covering = covering-next n l k m.p m.covering pair;
            low = omega arith;
            high = omega arith;
            stands = record { in_place = o.in_place; word_is = ap (λ (v : ℕ). z - v) bits ∙ c.1 };
            counted = count_is;
          },
        )

  -- and behind the last pair
  pub marking_all : length l ≤ k → {then after : List ℕ} → then ≡ put now (8 * at) (filled (n / 64 - at) x 0)
      → after ≡ put then (8 * (n / 64)) (bytes (ceil (n % 64) 8) (passed (n / 64 - at) x 0)) → ceil n 8 ≤ length before
      → (longer + k / 2 ≡ tally n (covered l)) × (after ≡ put before 0 (bitmap n (covered l)))
  marking_all end {then} {after} e f room =
      let t = covered l in
      let p = m.p in
      let q : ℕ = n / 64 in
      let y : ℕ = passed (q - at) x 0 in
      let none : (j : ℕ) → p ≤ j → t j ≡ false = covering-end n l k p m.covering end in
      let there : at + (q - at) ≡ q = omega (arith, m.low, m.covering.within) in
      let same : (i : ℕ) → i < n → up_to t p i ≡ t i = upto_is n (λ j a b. none j a) in
      let s : Stands t (up_to t p) q y before then =
      subst (λ (w : ℕ). Stands t (up_to t p) w y before then) there
      (stands-pass t (up_to t p) false (q - at) at x 0 before m.stands e (omega (arith, there))
      (λ i a b. same i (omega (arith, there))) (λ i a. rw (le-ltb i p (omega (arith, m.high))))
      (sym (word_none 64))) in
      let word_is : y ≡ word (n % 64) (λ j. t (64 * q + j)) =
      low_bits t (up_to t p) q (n % 64) (omega arith) y s.word_is
      (λ j a b. rw (le-ltb (64 * q + j) p (omega (arith, m.covering.within))))
      (λ j a. same (64 * q + j) (omega arith)) in
      let whole : 64 * q + n % 64 ≡ n = omega arith in
      let left : p + (n - p) ≡ n = omega (arith, m.covering.within) in (
        omega (
          arith,
          m.counted,
          sym (tally_add p (n - p) t) ∙ ap (λ (k : ℕ). tally k t) left,
          tally-none (n - p) (λ j. t (p + j)) (λ j h. none (p + j) (omega arith)),
        ),
        f ∙ ap (λ (l : List ℕ). put l (8 * q) (bytes (ceil (n % 64) 8) y)) s.in_place
            ∙ next_word before q (n % 64) y t (omega arith) word_is ∙ ap (λ (k : ℕ). put before 0 (bitmap k t)) whole,
      )
