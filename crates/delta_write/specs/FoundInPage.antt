-- A block of the writer, as a reader finds it in a page.
use Rattle.std.specs.Prelude.{◌≡◌, ℕ, zero, suc, ◌+◌, ◌-◌, ◌*◌, ◌^◌, ◌<◌, ◌≤◌, min, false, List, [], ◌∷◌, ◌++◌, length, take, drop, ℤ, pos, ◌+ℤ◌, slice_index, slice_index_or}
use Rattle.std.proofs.Math.Path.{refl, sym, ap}
use Rattle.std.proofs.Common.{ap₂, ◌∙◌, add-zero, length-append, length-drop, drop-drop, get_or-drop, le-ltb}
use mathlib.Core.List.{append_assoc}
use Rattle.std.proofs.Math.Numerals.{add-one}
use native.Mathlib.Omega.{arith}
use Rattle.std.proofs.Math.Seq.{drop-append_seam, get_or-take}
use Rattle.rules.specs.declared.Number.TheVariants.{Read}
use Rattle.rules.specs.Delta.Block.{Laid}
use Rattle.rules.specs.Bits.{tabulate, entry}
use Rattle.rules.specs.Bits.Order.{low_first}
use Rattle.rules.specs.Answer.{any_large}
use Rattle.rules.specs.Horizontal.{packed}
use Rattle.rules.specs.Varint.{number_at, reading}
use Rattle.rules.specs.Shortest.{shortest}
use Rattle.rules.specs.Signed.{zigzag_of}
use Rattle.rules.specs.Delta.{needed, width_fault, sum, body_bytes, laid_at, block_at, mini_deltas, block_deltas}
use Rattle.rules.specs.DeltaWriter.{least, above_least, width_for, filled, widths, bodies, block}
use Rattle.words.specs.Joined.{Small, small-take, small-drop}
use Rattle.words.specs.Tabulated.{length-tabulate, get_or-tabulate, tabulate-ext, tabulate_add, small-tabulate}
use Rattle.packed_entries.specs.NoneTooLarge.{large_of}
use Rattle.packed_entries.specs.RoundTrip.{entry-packed}
use Rattle.varints.specs.Places.{finds_at}
use Rattle.varints.specs.Shortness.{shortest-spells, shortest-size}
use Rattle.signed.specs.Zigzags.{zigzag_of_lt}
use Rattle.delta_write.specs.LeastWidth.{widths_le, widths_hold}
use Rattle.delta_write.specs.Miniblocks.{length-widths, length-body}
use Rattle.delta_write.specs.Deltas.{AllWithin, least-within, length_above, above-small}

-- ---- at a place of a page

module _ (page : List ℕ) where
  -- what stands behind bytes that stand there
  pub behind : (at : ℕ) (t rest : List ℕ) → drop at page ≡ t ++ rest → drop (at + length t) page ≡ rest
  behind at t rest e = sym (drop-drop (length t) at page) ∙ ap (drop (length t)) e ∙ drop-append_seam t rest

  -- a shortest spelling is read
  pub number-found : (W at x : ℕ) (rest : List ℕ) → x < 2 ^ W → drop at page ≡ shortest x ++ rest
      → number_at W page at ≡ Read x (at + length (shortest x))
  number-found W at x rest h e = finds_at W page at rest e (shortest-spells x) (shortest-size W x h).1 h

  first_byte : (at w : ℕ) (rest : List ℕ) → drop at page ≡ w ∷ rest → slice_index page at ≡ w
  first_byte at w rest e =
      ap (λ (k : ℕ). slice_index page k) (sym (add-zero at)) ∙ sym (get_or-drop at page 0 0)
      ∙ ap (λ (l : List ℕ). slice_index l 0) e

-- ---- the deltas of the miniblocks

module _ (W : ℕ) (page : List ℕ) (l : ℤ) where
  mini-found : (xs : List ℕ) (at : ℕ) (rest : List ℕ) → Small W xs
      → drop at page ≡ packed low_first (width_for W (take 32 xs)) (filled (take 32 xs)) ++ rest
      → mini_deltas 32 l page at (width_for W (take 32 xs)) ≡ tabulate 32 (λ j. l +ℤ pos (slice_index xs j))
  unfolding mini_deltas
  mini-found xs at rest small e =
      let ys : List ℕ = take 32 xs in
      let w : ℕ = width_for W ys in
      let fits : any_large w (filled ys) ≡ false =
      large_of w (filled ys)
      (small-tabulate w 32 (λ i. slice_index ys i) (widths_hold W ys (small-take W 32 xs small))) in
      let size : length (filled ys) ≡ 32 = length-tabulate 32 (λ i. slice_index ys i) in
      tabulate-ext 32 (λ j. l +ℤ pos (entry low_first (drop at page) w j)) (λ j. l +ℤ pos (slice_index xs j))
      (λ j h. ap (λ (x : ℕ). l +ℤ pos x)
      (ap (λ (s : List ℕ). entry low_first s w j) e ∙ entry-packed w (filled ys) rest j fits (omega arith)
      ∙ get_or-tabulate 32 (λ i. slice_index ys i) j 0 h ∙ get_or-take 32 xs j 0 h))

  -- the packed numbers, each above the smallest delta; what fills the last miniblock too
  deltas-found : (all need : ℕ) (xs : List ℕ) (p b : ℕ) (s t : List ℕ) → need ≤ all → Small W xs
      → drop p page ≡ widths all W xs ++ s → drop b page ≡ bodies all W xs ++ t
      → block_deltas need 32 l page p b ≡ tabulate (32 * need) (λ i. l +ℤ pos (slice_index xs i))
  unfolding tabulate
  deltas-found all zero xs p b s t h small e f = refl
  deltas-found zero (suc need) xs p b s t h small e f = absurd (omega arith)
  deltas-found (suc all) (suc need) xs p b s t h small e f =
      let w : ℕ = width_for W (take 32 xs) in
      let body : List ℕ = packed low_first w (filled (take 32 xs)) in
      let f' : drop b page ≡ body ++ (bodies all W (drop 32 xs) ++ t) =
      f ∙ append_assoc body (bodies all W (drop 32 xs)) t in
      let width : slice_index_or page p 0 ≡ w = first_byte page p w (widths all W (drop 32 xs) ++ s) e in
      let next-width : drop (suc p) page ≡ widths all W (drop 32 xs) ++ s =
      rw add-one at (behind page p (w ∷ []) (widths all W (drop 32 xs) ++ s) e) in
      let next-body : drop (b + 4 * w) page ≡ bodies all W (drop 32 xs) ++ t =
      rw (length-body w (take 32 xs)) at (behind page b body (bodies all W (drop 32 xs) ++ t) f') in
      let later : block_deltas need 32 l page (suc p) (b + 4 * w)
      ≡ tabulate (32 * need) (λ i. l +ℤ pos (slice_index xs (32 + i))) =
      deltas-found all need (drop 32 xs) (suc p) (b + 4 * w) s t (omega arith) (small-drop W 32 xs small) next-width
      next-body
      ∙ tabulate-ext (32 * need) (λ i. l +ℤ pos (slice_index (drop 32 xs) i)) (λ i. l +ℤ pos (slice_index xs (32 + i)))
      (λ i _. ap (λ (x : ℕ). l +ℤ pos x) (get_or-drop 32 xs i 0)) in
      let many : 32 * suc need ≡ 32 + 32 * need = omega arith in
      rw width
      (ap₂ (λ (a c : List ℤ). a ++ c) (mini-found xs b (bodies all W (drop 32 xs) ++ t) small f') later
      ∙ sym
      (ap (λ (n : ℕ). tabulate n (λ i. l +ℤ pos (slice_index xs i))) many
      ∙ tabulate_add 32 (32 * need) (λ i. l +ℤ pos (slice_index xs i))))

-- ---- the width bytes

module _ (W : ℕ) where
  -- none is too wide
  widths-good : (all need : ℕ) (xs s : List ℕ) → width_fault W all need (widths all W xs ++ s) ≡ 0
  widths-good zero need xs s = refl
  widths-good (suc all) zero xs s = widths-good all zero (drop 32 xs) s
  widths-good (suc all) (suc need) xs s =
      rw (le-ltb W (width_for W (take 32 xs)) (widths_le W (take 32 xs))) (widths-good all need (drop 32 xs) s)

  no-bodies : (all : ℕ) → length (bodies all W []) ≡ 0
  no-bodies zero = refl
  no-bodies (suc all) =
      length-append (packed low_first 0 (filled [])) (bodies all W []) ∙ omega (arith, length-body 0 [], no-bodies all)

  -- 4 bytes of a body for each bit of a width
  sum-widths : (all need : ℕ) (xs s : List ℕ) → need ≤ all → length xs ≤ 32 * need
      → 4 * sum (take need (widths all W xs ++ s)) ≡ length (bodies all W xs)
  sum-widths zero zero xs s h k = refl
  sum-widths zero (suc need) xs s h k = absurd (omega arith)
  sum-widths (suc all) zero [] s h k = sym (no-bodies (suc all))
  sum-widths (suc all) zero (x ∷ xs) s h k = absurd (omega arith)
  sum-widths (suc all) (suc need) xs s h k =
      let w : ℕ = width_for W (take 32 xs) in
      let body : List ℕ = packed low_first w (filled (take 32 xs)) in
      let rest = sum-widths all need (drop 32 xs) s (omega arith) (omega (arith, length-drop 32 xs)) in
      omega (arith, length-append body (bodies all W (drop 32 xs)), length-body w (take 32 xs))

-- ---- the block

-- found where `left` deltas are still to come, of which ds are the block's
pub record Found (W : ℕ) (page : List ℕ) (ds : List ℤ) (left at : ℕ) (rest : List ℕ) : Type 0 where
  pub width-place : ℕ
  pub next : ℕ
  pub laid : block_at W 4 (needed 4 32 left) 32 page at ≡ Laid (zigzag_of (least ds)) width-place next
  pub there : drop next page ≡ rest
  pub held : block_deltas (needed 4 32 left) 32 (least ds) page width-place (width-place + 4)
      ≡ tabulate (32 * needed 4 32 left) (λ i. least ds +ℤ pos (slice_index (above_least ds) i))

pub found : (W : ℕ) → 0 < W → (page : List ℕ) (ds : List ℤ) (left at : ℕ) (rest : List ℕ) → AllWithin W ds
    → length ds ≡ min 128 left
    → drop at page ≡ block W ds ++ rest → Found W page ds left at rest
unfolding block block_at reading laid_at body_bytes needed
found W some page ds left at rest all size e =
    let xs : List ℕ = above_least ds in
    let z : ℕ = zigzag_of (least ds) in
    let need : ℕ = needed 4 32 left in
    let few : need ≤ 4 = omega arith in
    let wanted : length xs ≤ 32 * need = omega (arith, length_above ds) in
    let small : Small W xs = above-small W some ds all in
    let e' : drop at page ≡ shortest z ++ (widths 4 W xs ++ (bodies 4 W xs ++ rest)) =
    e ∙ append_assoc (shortest z ++ widths 4 W xs) (bodies 4 W xs) rest
    ∙ append_assoc (shortest z) (widths 4 W xs) (bodies 4 W xs ++ rest) in
    let p : ℕ = at + length (shortest z) in
    let at-widths : drop p page ≡ widths 4 W xs ++ (bodies 4 W xs ++ rest) =
    behind page at (shortest z) (widths 4 W xs ++ (bodies 4 W xs ++ rest)) e' in
    let at-bodies : drop (p + 4) page ≡ bodies 4 W xs ++ rest =
    rw (length-widths 4 W xs) at (behind page p (widths 4 W xs) (bodies 4 W xs ++ rest) at-widths) in
    let read =
    number-found page W at z (widths 4 W xs ++ (bodies 4 W xs ++ rest))
    (zigzag_of_lt W (least ds) (least-within W some ds all)) e' in
    let good : width_fault W 4 need (drop p page) ≡ 0 =
    rw at-widths (widths-good W 4 need xs (bodies 4 W xs ++ rest)) in
    let bytes : 4 * sum (take need (drop p page)) ≡ length (bodies 4 W xs) =
    rw at-widths (sum-widths W 4 need xs (bodies 4 W xs ++ rest) few wanted) in
    let room : length (bodies 4 W xs) ≤ length page - (p + 4) =
    omega (arith, length-drop (p + 4) page, ap length at-bodies, length-append (bodies 4 W xs) rest) in
    record {
      width-place = p;
      next = p + 4 + length (bodies 4 W xs);
      laid = rw (read, good, bytes, le-ltb (length page - (p + 4)) (length (bodies 4 W xs)) room);
      there = behind page (p + 4) (bodies 4 W xs) rest at-bodies;
      held =
          deltas-found W page (least ds) 4 need xs p (p + 4) (bodies 4 W xs ++ rest) rest few small at-widths
          at-bodies;
    }
