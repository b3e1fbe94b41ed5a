-- The page block by block.
use Rattle.std.specs.Prelude.{◌≡◌, ℕ, zero, suc, ◌+◌, ◌-◌, ◌<◌, ◌≤◌, min, Bool, true, false, List, [], ◌∷◌, ◌++◌, length, take, drop, replicate, ℤ, pos, nat_lt, slice_index_or, refl}
use Rattle.std.proofs.Common.{sym, ap, ap₂, ◌∙◌, arith, length-append, length-drop, drop_of_length-le, drop-drop, take_all, ltb-true, ltb-false}
use Rattle.rules.specs.Bits.{put}
use Rattle.rules.specs.Signed.{zigzag_of}
use Rattle.rules.specs.Shortest.{shortest}
use Rattle.rules.specs.DeltaWriter.{deltas, least, above_least, widths, bodies, block, blocks, page}
use Rattle.words.specs.Puts.{length-put, put-put}
use Rattle.delta_write.specs.Miniblocks.{Same, same-put, same-widths, same-bodies, length-widths}
use Rattle.delta_write.specs.Deltas.{length-deltas, length_above}

-- ---- one block after another

-- all blocks of some deltas
abbrev pub all_blocks : ℕ → List ℤ → List ℕ
all_blocks W ds = blocks W (length ds) ds

-- where there are turns enough, it makes no difference how many more there could be
blocks-enough : (W k j : ℕ) (ds : List ℤ) → length ds ≤ k → length ds ≤ j → blocks W k ds ≡ blocks W j ds
blocks-enough W zero zero ds h l = refl
blocks-enough W zero (suc j) [] h l = refl
blocks-enough W zero (suc j) (d ∷ ds) h l = absurd (omega arith)
blocks-enough W (suc k) zero [] h l = refl
blocks-enough W (suc k) zero (d ∷ ds) h l = absurd (omega arith)
blocks-enough W (suc k) (suc j) [] h l = refl
blocks-enough W (suc k) (suc j) (d ∷ ds) h l =
    let size : length (drop 127 ds) ≤ length ds = rw length-drop (omega arith) in
    ap (λ (s : List ℕ). block W (take 128 (d ∷ ds)) ++ s)
    (blocks-enough W k j (drop 127 ds) (omega arith) (omega arith))

pub blocks-turn : (W : ℕ) (ds : List ℤ) → 0 < length ds
    → all_blocks W ds ≡ block W (take 128 ds) ++ all_blocks W (drop 128 ds)
blocks-turn W [] h = absurd (omega arith)
blocks-turn W (d ∷ ds) h =
    let size : length (drop 127 ds) ≤ length ds = rw length-drop (omega arith) in
    ap (λ (s : List ℕ). block W (take 128 (d ∷ ds)) ++ s)
    (blocks-enough W (length ds) (length (drop 127 ds)) (drop 127 ds) size (omega arith))

take_min : (n : ℕ) (l : List ℤ) → take (min n (length l)) l ≡ take n l
take_min n l = go (nat_lt n (length l)) refl
  where
    go : (t : Bool) → nat_lt n (length l) ≡ t → take (min n (length l)) l ≡ take n l
    go true e = let many : min n (length l) ≡ n = omega (arith, ltb-true n (length l) e) in rw many
    go false e =
        let few = ltb-false n (length l) e in
        take_all (min n (length l)) l (omega arith) ∙ sym (take_all n l few)

-- the blocks of the deltas from delta p on begin with one of k deltas
pub record Begins (W : ℕ) (entries : List ℤ) (p k : ℕ) : Type 0 where
  pub some : 0 < k
  pub few : k ≤ 128
  pub within : p + k < length entries
  pub laid : all_blocks W (drop p (deltas W entries))
      ≡ block W (take k (drop p (deltas W entries))) ++ all_blocks W (drop (p + 128) (deltas W entries))
  pub sized : length (all_blocks W (drop p (deltas W entries)))
      ≡ length (block W (take k (drop p (deltas W entries))))
      + length (all_blocks W (drop (p + 128) (deltas W entries)))

pub begins : (W : ℕ) (entries : List ℤ) (p : ℕ) {k : ℕ} → p + 1 < length entries
    → k ≡ min 128 (length entries - 1 - p) → Begins W entries p k
begins W entries p {k} h e =
    let ds : List ℤ = deltas W entries in
    let left : length (drop p ds) ≡ length entries - 1 - p =
    length-drop p ds ∙ ap (λ (n : ℕ). n - p) (length-deltas W entries) in
    let turn : all_blocks W (drop p ds) ≡ block W (take k (drop p ds)) ++ all_blocks W (drop (p + 128) ds) =
    rw (e, ← left, take_min 128 (drop p ds))
    (blocks-turn W (drop p ds) (omega arith)
    ∙ ap (λ (l : List ℤ). block W (take 128 (drop p ds)) ++ all_blocks W l) (drop-drop 128 p ds)) in
    record {
      some = omega arith;
      few = omega arith;
      within = omega arith;
      laid = turn;
      sized = ap length turn ∙ length-append (block W (take k (drop p ds))) (all_blocks W (drop (p + 128) ds));
    }

-- its bytes are stored, and the others are to come behind them
pub put-turn : {W : ℕ} {entries : List ℤ} {p k : ℕ} (page : List ℕ) (at : ℕ) → Begins W entries p k
    → at + length (all_blocks W (drop p (deltas W entries))) ≤ length page
    → put (put page at (block W (take k (drop p (deltas W entries)))))
    (at + length (block W (take k (drop p (deltas W entries)))))
    (all_blocks W (drop (p + 128) (deltas W entries)))
    ≡ put page at (all_blocks W (drop p (deltas W entries)))
put-turn {W} {entries} {p} {k} page at b h =
    put-put page (block W (take k (drop p (deltas W entries)))) (all_blocks W (drop (p + 128) (deltas W entries))) at
    (omega (arith, b.sized)) ∙ ap (put page at) (sym b.laid)

pub blocks-past : (W : ℕ) (entries : List ℤ) (p : ℕ) → length entries ≤ p + 1
    → all_blocks W (drop p (deltas W entries)) ≡ []
blocks-past W entries p h = rw (drop_of_length-le (deltas W entries) {i = p} (rw length-deltas (omega arith)))

-- the four numbers of the header
abbrev pub header : List ℤ → List ℕ
header entries =
    shortest 128 ++ shortest 4 ++ shortest (length entries) ++ shortest (zigzag_of (slice_index_or entries 0 (pos 0)))

pub page_is : (W : ℕ) (entries : List ℤ) → page W entries ≡ header entries ++ all_blocks W (deltas W entries)
unfolding page
page_is W entries =
    ap (λ (s : List ℕ). header entries ++ s)
    (blocks-enough W (length entries) (length (deltas W entries)) (deltas W entries)
    (rw length-deltas (omega arith)) (omega arith))

pub length-header : (entries : List ℤ) → length (header entries)
    ≡ length (shortest 128) + length (shortest 4) + length (shortest (length entries))
    + length (shortest (zigzag_of (slice_index_or entries 0 (pos 0))))
length-header entries = simp length-append

pub length-page : (W : ℕ) (entries : List ℤ)
    → length (page W entries) ≡ length (header entries) + length (all_blocks W (deltas W entries))
length-page W entries =
    ap length (page_is W entries) ∙ length-append (header entries) (all_blocks W (deltas W entries))

-- ---- a block by its numbers

pub lengths : (a b c : List ℕ) → length (a ++ b ++ c) ≡ length a + length b + length c
lengths a b c = simp length-append

-- 128 numbers, those of the deltas filled up with 0, make the block
pub record Numbered (W : ℕ) (ds : List ℤ) (smallest : ℕ) (numbers : List ℕ) : Type 0 where
  pub count : length numbers ≡ 128
  pub whole : block W ds ≡ shortest smallest ++ widths 4 W numbers ++ bodies 4 W numbers
  pub size : length (block W ds) ≡ length (shortest smallest) + 4 + length (bodies 4 W numbers)

pub numbered : (W : ℕ) (ds : List ℤ) {smallest : ℕ} {numbers : List ℕ} → length ds ≤ 128
    → numbers ≡ put (replicate 128 0) 0 (above_least ds)
    → smallest ≡ zigzag_of (least ds) → Numbered W ds smallest numbers
unfolding block
numbered W ds {smallest} {numbers} few e f =
    let same : Same (above_least ds) numbers = rw e (same-put (above_least ds) 128) in
    let long = length_above ds in
    let whole : block W ds ≡ shortest smallest ++ widths 4 W numbers ++ bodies 4 W numbers =
    rw f
    (ap₂ (λ (a b : List ℕ). shortest (zigzag_of (least ds)) ++ a ++ b)
    (same-widths 4 W (above_least ds) numbers same) (same-bodies 4 W (above_least ds) numbers same)) in
    record {
      count = ap length e ∙ length-put (replicate 128 0) 0 (above_least ds) (omega arith);
      whole = whole;
      size =
          ap length whole ∙ lengths (shortest smallest) (widths 4 W numbers) (bodies 4 W numbers)
          ∙ rw (length-widths 4 W numbers);
    }
