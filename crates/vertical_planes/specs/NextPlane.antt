-- Where the ends have parted: one plane more, each undecided lane against its own end.
use Rattle.std.specs.Prelude.{◌≡◌, refl, Bool, true, false, not, ◌&&◌, ◌||◌, List, ℕ, ◌+◌, ◌-◌, ◌^◌, ◌<◌, ltb, length, get_or}
use Rattle.std.proofs.Common.{sym, ap, ap₂, ◌∙◌, arith, lt-ltb, ltb-true, ltb-false}
use Rattle.std.specs.Bool.{xor}
use Rattle.std.specs.Int.Bits.{bit_xor}
use Rattle.rules.specs.Bits.{word}
use Rattle.words.specs.Bits.{word_and, word_or, word-xor, word-ext}
use Rattle.compare.specs.declared.bands.Band.{Band}
use Rattle.vertical_planes.specs.Ends.{below, above, bits_of, laid}
use Rattle.vertical_planes.specs.Standing.{has, stepped, low_open, high_open, out, some_open, Standing}
use Rattle.vertical_planes.specs.OnePlaneMore.{undecided-next, below_next, above-next}
use Rattle.vertical_planes.specs.Needed.{some_open_lem}
use Rattle.vertical_planes.specs.OneLane.{stays, leaves, own, join}
use Rattle.vertical_planes.specs.Words.{has_word, word-has, has-xor, laid_word}
use Rattle.vertical_planes.specs.declared.lanes.Lanes.{Lanes}

-- all lanes of a word: each lane by itself
module _ (u s o x : ℕ → Bool) (l h : Bool) (i : ℕ) where
  stepped-word : stepped (record { undecided = word 64 u; upper = word 64 s; outside = word 64 o; taken = i })
      (word 64 x) (word 64 (λ _. l)) (word 64 (λ _. xor l h))
      ≡ record {
        undecided = word 64 (λ j. stays (u j) (s j) (x j) l h);
        upper = word 64 s;
        outside = word 64 (λ j. o j || leaves (u j) (s j) (x j) l h);
        taken = i + 1;
      }
  unfolding stepped
  stepped-word = rw (word_and, word-xor, word-xor, word_and, word-xor, word-xor, word_and, word_or)

module _ (planes : List ℕ) (band : Band) (lanes : Lanes) (s : Standing planes band lanes)
    (more : lanes.taken < length planes) (some : 0 < lanes.undecided)
    (small : get_or planes lanes.taken 0 < 2 ^ 64) (fits : lanes.upper < 2 ^ 64) where
  abbrev i : ℕ
  i = lanes.taken

  abbrev k : ℕ
  k = length planes - 1 - i

  abbrev u : ℕ → Bool
  u j = low_open planes band i j || high_open planes band i j

  abbrev side : ℕ → Bool
  side = has lanes.upper

  abbrev x : ℕ → Bool
  x = has (get_or planes i 0)

  abbrev l : Bool
  l = has (bits_of band.low) k

  abbrev h : Bool
  h = has (bits_of band.high) k

  abbrev lanes_of : (ℕ → Bool) → (ℕ → Bool) → ℕ → Lanes
  lanes_of v o n = record { undecided = word 64 v; upper = word 64 side; outside = word 64 o; taken = n }

  abbrev next : Lanes
  next =
      lanes_of (λ j. stays (u j) (side j) (x j) l h)
      (λ j. out planes band i j || leaves (u j) (side j) (x j) l h) (i + 1)

  lanes-are : lanes ≡ lanes_of u (out planes band i) i
  lanes-are = rw (← s.open_is, ← s.out_is, ← word-has lanes.upper fits)

  stepped-is : (low apart : ℕ) → low ≡ laid (bits_of band.low) k
      → apart ≡ laid (bit_xor (bits_of band.low) (bits_of band.high)) k
      → stepped lanes (get_or planes i 0) low apart ≡ next
  stepped-is low apart e f =
      ap (λ (r : Lanes). stepped r (get_or planes i 0) low apart) lanes-are
      ∙ ap (λ (p : ℕ). stepped (lanes_of u (out planes band i) i) p low apart) (word-has (get_or planes i 0) small)
      ∙ ap₂ (λ (p q : ℕ). stepped (lanes_of u (out planes band i) i) (word 64 x) p q)
      (e ∙ laid_word (bits_of band.low) k)
      (f ∙ laid_word (bit_xor (bits_of band.low) (bits_of band.high)) k
      ∙ ap (λ (t : Bool). word 64 (λ _. t)) (has-xor (bits_of band.low) (bits_of band.high) k))
      ∙ stepped-word u side (out planes band i) x l h i

  -- the lanes that were undecided, by their end
  was-open : (j : ℕ) → j < 64 → has lanes.undecided j ≡ u j
  was-open j m = ap (λ (y : ℕ). has y j) s.open_is ∙ has_word u j m

  low-open : (j : ℕ) → j < 64 → low_open planes band i j ≡ (u j && not (side j))
  low-open j m = (s.sided more j m).0 ∙ ap (λ (t : Bool). t && not (side j)) (was-open j m)

  high-open : (j : ℕ) → j < 64 → high_open planes band i j ≡ (u j && side j)
  high-open j m = (s.sided more j m).1 ∙ ap (λ (t : Bool). t && side j) (was-open j m)

  -- and those that still are
  low-next : (j : ℕ) → j < 64 → low_open planes band (i + 1) j ≡ ((u j && not (side j)) && not (xor (x j) l))
  low-next j m =
      undecided-next planes (length planes) i more band.low j
      ∙ ap (λ (t : Bool). t && not (xor (x j) l)) (low-open j m)

  high-next : (j : ℕ) → j < 64 → high_open planes band (i + 1) j ≡ ((u j && side j) && not (xor (x j) h))
  high-next j m =
      undecided-next planes (length planes) i more band.high j
      ∙ ap (λ (t : Bool). t && not (xor (x j) h)) (high-open j m)

  out-next : (j : ℕ) → j < 64 → out planes band (i + 1) j ≡ (out planes band i j || leaves (u j) (side j) (x j) l h)
  out-next j m =
      let under = below planes (length planes) i band.low j in
      let over = above planes (length planes) i band.high j in
      ap₂ ◌||◌
      (below_next planes (length planes) i more band.low j
      ∙ ap (λ (t : Bool). under || (t && (not (x j) && l))) (low-open j m))
      (above-next planes (length planes) i more band.high j
      ∙ ap (λ (t : Bool). over || (t && (x j && not h))) (high-open j m))
      ∙ join under ((u j && not (side j)) && (not (x j) && l)) over ((u j && side j) && (x j && not h))
      ∙ ap (λ (t : Bool). out planes band i j || t) (sym (own (u j) (side j) (x j) l h).3)

  still-needed : (m : ℕ) → m < i + 1 → some_open planes band m ≡ true
  still-needed m b = go (ltb m i) refl
    where
      go : (t : Bool) → ltb m i ≡ t → some_open planes band m ≡ true
      go true e = s.needed m (ltb-true m i e)
      go false e =
          let here : m ≡ i = omega (arith, ltb-false m i e) in
          rw here (sym (some_open_lem planes band i) ∙ ap (ltb 0) (sym s.open_is) ∙ lt-ltb 0 lanes.undecided some)

  -- the lanes stand as the planes say, with one more taken
  pub standing_next : (plane low apart : ℕ) → plane ≡ get_or planes i 0 → low ≡ laid (bits_of band.low) k
      → apart ≡ laid (bit_xor (bits_of band.low) (bits_of band.high)) k
      → Standing planes band (stepped lanes plane low apart)
  standing_next plane low apart d e f =
      rw (d, stepped-is low apart e f)
      (record {
        few = omega arith;
        open_is = word-ext 64
            (λ j m. (own (u j) (side j) (x j) l h).2 ∙ sym (ap₂ ◌||◌ (low-next j m) (high-next j m)));
        out_is = word-ext 64 (λ j m. sym (out-next j m));
        sided = λ _ j m. (
          low-next j m ∙ (own (u j) (side j) (x j) l h).0
              ∙ sym (ap₂ (λ (a b : Bool). a && not b) (has_word _ j m) (has_word side j m)),
          high-next j m ∙ (own (u j) (side j) (x j) l h).1
              ∙ sym (ap₂ ◌&&◌ (has_word _ j m) (has_word side j m)),
        );
        needed = still-needed;
      })
