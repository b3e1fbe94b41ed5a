-- The miniblocks of a block: one more behind the others, how many bytes they take, and that filling with 0 changes
-- nothing.
use Rattle.std.specs.Prelude.{◌≡◌, ℕ, zero, suc, ◌+◌, ◌-◌, ◌*◌, ◌<◌, ◌≤◌, Bool, true, false, List, [], ◌∷◌, ◌++◌, length, take, drop, replicate, nat_lt, slice_index, slice_index_or, refl}
use Rattle.std.proofs.Common.{sym, ap, ap₂, ◌∙◌, append_assoc, append-nil, add-one, arith, length-append, length-take, length-drop, drop-drop, get_or-take, get_or-drop, get_or-append-add, length-take-le, ltb-true, ltb-false}
use Rattle.std.proofs.Math.ListN.{get_or-eq_default, get_or-append}
use Rattle.rules.specs.Bits.{tabulate, put}
use Rattle.rules.specs.Bits.Order.{low_first}
use Rattle.rules.specs.Answer.{any_large}
use Rattle.rules.specs.Horizontal.{packed, page_bytes}
use Rattle.rules.specs.DeltaWriter.{width_of, width_for, filled, widths, bodies}
use Rattle.words.specs.Puts.{put-behind}
use Rattle.words.specs.Tabulated.{length-tabulate, tabulate-ext, tabulate_list}
use Rattle.words.specs.Joined.{Small, small-take, small-drop}
use Rattle.packed_entries.specs.NoneTooLarge.{large_of}
use Rattle.packed_entries.specs.Packed.{length-packed}
use Rattle.delta_write.specs.LeastWidth.{width-none, widths_le, widths_hold}

-- miniblock j of numbers, its width and its body
abbrev pub mini : ℕ → List ℕ → List ℕ
mini j xs = take 32 (drop (32 * j) xs)

abbrev pub body : ℕ → ℕ → List ℕ → List ℕ
body W j xs = packed low_first (width_for W (mini j xs)) (filled (mini j xs))

-- ---- one miniblock more

later : (j : ℕ) (xs : List ℕ) → mini j (drop 32 xs) ≡ mini (suc j) xs
later j xs =
    let e : 32 + 32 * j ≡ 32 * suc j = omega arith in
    ap (take 32) (drop-drop (32 * j) 32 xs ∙ ap (λ (k : ℕ). drop k xs) e)

widths-suc : (j W : ℕ) (xs : List ℕ) → widths (suc j) W xs ≡ widths j W xs ++ (width_for W (mini j xs) ∷ [])
widths-suc zero W xs = refl
widths-suc (suc j) W xs =
    ap (λ (l : List ℕ). width_for W (take 32 xs) ∷ l)
    (widths-suc j W (drop 32 xs) ∙ ap (λ (m : List ℕ). widths j W (drop 32 xs) ++ (width_for W m ∷ [])) (later j xs))

bodies-suc : (j W : ℕ) (xs : List ℕ) → bodies (suc j) W xs ≡ bodies j W xs ++ body W j xs
bodies-suc zero W xs = append-nil (body W 0 xs)
bodies-suc (suc j) W xs =
    let first : List ℕ = packed low_first (width_for W (take 32 xs)) (filled (take 32 xs)) in
    ap (λ (l : List ℕ). first ++ l)
    (bodies-suc j W (drop 32 xs)
    ∙ ap (λ (m : List ℕ). bodies j W (drop 32 xs) ++ packed low_first (width_for W m) (filled m)) (later j xs))
    ∙ sym (append_assoc first (bodies j W (drop 32 xs)) (body W (suc j) xs))

pub widths-next : (j W : ℕ) (xs : List ℕ) → widths (j + 1) W xs ≡ widths j W xs ++ (width_for W (mini j xs) ∷ [])
widths-next j W xs = rw add-one (widths-suc j W xs)

pub bodies-next : (j W : ℕ) (xs : List ℕ) → bodies (j + 1) W xs ≡ bodies j W xs ++ body W j xs
bodies-next j W xs = rw add-one (bodies-suc j W xs)

-- ---- how many bytes

pub length-widths : (j W : ℕ) (xs : List ℕ) → length (widths j W xs) ≡ j
length-widths zero W xs = refl
length-widths (suc j) W xs = ap suc (length-widths j W (drop 32 xs))

-- 32 numbers of w bits are 4 × w bytes
pub length-body : (w : ℕ) (xs : List ℕ) → length (packed low_first w (filled xs)) ≡ 4 * w
length-body w xs =
    let size : length (filled xs) ≡ 32 = length-tabulate 32 (λ i. slice_index xs i) in
    length-packed low_first w (filled xs) ∙ ap (page_bytes w) size ∙ omega arith

pub length-bodies-next : (j W : ℕ) (xs : List ℕ)
    → length (bodies (j + 1) W xs) ≡ length (bodies j W xs) + 4 * width_for W (mini j xs)
length-bodies-next j W xs =
    ap length (bodies-next j W xs) ∙ length-append (bodies j W xs) (body W j xs)
    ∙ ap (λ (n : ℕ). length (bodies j W xs) + n) (length-body (width_for W (mini j xs)) (mini j xs))

-- a miniblock that is whole needs no filling
pub filled-whole : (xs : List ℕ) → length xs ≡ 32 → filled xs ≡ xs
filled-whole xs e = ap (λ (n : ℕ). tabulate n (λ i. slice_index xs i)) (sym e) ∙ tabulate_list xs 0

pub length-mini : (j : ℕ) (xs : List ℕ) → 32 * j + 32 ≤ length xs → length (mini j xs) ≡ 32
length-mini j xs h = length-take-le 32 (drop (32 * j) xs) (rw length-drop (omega arith))

bodies_mono : (j k W : ℕ) (xs : List ℕ) → j ≤ k → length (bodies j W xs) ≤ length (bodies k W xs)
bodies_mono zero k W xs h = omega arith
bodies_mono (suc j) zero W xs h = absurd (omega arith)
bodies_mono (suc j) (suc k) W xs h = simp length-append (omega (arith, bodies_mono j k W (drop 32 xs) (omega arith)))

-- ---- laid one after another

-- miniblock j and its width: it holds the numbers, and there is room for the body where there is room for four
pub record Turn (W : ℕ) (xs : List ℕ) (j w : ℕ) : Type 0 where
  pub small : w ≤ W
  pub fits : any_large w (mini j xs) ≡ false
  pub next : length (bodies (j + 1) W xs) ≡ length (bodies j W xs) + 4 * w
  pub room : length (bodies j W xs) + 4 * w ≤ length (bodies 4 W xs)

pub turn : (W : ℕ) (xs : List ℕ) (j : ℕ) {w : ℕ} → w ≡ width_for W (mini j xs) → j < 4 → Small W xs → Turn W xs j w
turn W xs j e h all =
    let next = length-bodies-next j W xs in
    let here : Small W (mini j xs) = small-take W 32 (drop (32 * j) xs) (small-drop W (32 * j) xs all) in
    rw e
    (record {
      small = widths_le W (mini j xs);
      fits = large_of (width_for W (mini j xs)) (mini j xs) (widths_hold W (mini j xs) here);
      next = next;
      room = omega (arith, bodies_mono (j + 1) 4 W xs (omega arith));
    })

-- the body is laid behind the others
pub bodies-put : (W : ℕ) (xs l : List ℕ) (j at : ℕ) {w i : ℕ} {l₁ l₂ : List ℕ} → w ≡ width_for W (mini j xs)
    → Turn W xs j w → j < 4 → length xs ≡ 128
    → at + length (bodies 4 W xs) ≤ length l → l₁ ≡ put l at (bodies j W xs) → i ≡ at + length (bodies j W xs)
    → l₂ ≡ put l₁ i (packed low_first w (mini j xs)) → l₂ ≡ put l at (bodies (j + 1) W xs)
bodies-put W xs l j at {w} e t h size room first next second =
    let whole : packed low_first w (mini j xs) ≡ body W j xs =
    ap₂ (packed low_first) e (sym (filled-whole (mini j xs) (length-mini j xs (omega arith)))) in
    put-behind l at (bodies j W xs) (body W j xs) first next (rw whole at second)
    (omega (arith, length-body (width_for W (mini j xs)) (mini j xs)))
    ∙ ap (put l at) (sym (bodies-next j W xs))

-- ---- filled with 0

-- the same number in every place, and 0 past the end
abbrev pub Same : List ℕ → List ℕ → Type 0
Same xs ys = (i : ℕ) → slice_index xs i ≡ slice_index ys i

same-take : (n : ℕ) (xs ys : List ℕ) → Same xs ys → Same (take n xs) (take n ys)
same-take n xs ys h i = go (nat_lt i n) refl
  where
    past : (l : List ℕ) → n ≤ i → slice_index (take n l) i ≡ 0
    past l k = get_or-eq_default (take n l) 0 {n = i} (rw length-take (omega arith))

    go : (t : Bool) → nat_lt i n ≡ t → slice_index (take n xs) i ≡ slice_index (take n ys) i
    go true e = let l = ltb-true i n e in get_or-take n xs i 0 l ∙ h i ∙ sym (get_or-take n ys i 0 l)
    go false e = let l = ltb-false i n e in past xs l ∙ sym (past ys l)

same_drop : (n : ℕ) (xs ys : List ℕ) → Same xs ys → Same (drop n xs) (drop n ys)
same_drop n xs ys h i = get_or-drop n xs i 0 ∙ h (n + i) ∙ sym (get_or-drop n ys i 0)

pub same_width : (W : ℕ) (xs ys : List ℕ) → Same xs ys → width_for W xs ≡ width_for W ys
same_width W [] [] h = refl
same_width W [] (y ∷ ys) h = omega (arith, ap (width_of W) (h 0), width-none W, same_width W [] ys (λ i. h (suc i)))
same_width W (x ∷ xs) [] h = omega (arith, ap (width_of W) (h 0), width-none W, same_width W xs [] (λ i. h (suc i)))
same_width W (x ∷ xs) (y ∷ ys) h = omega (arith, ap (width_of W) (h 0), same_width W xs ys (λ i. h (suc i)))

pub same-filled : (xs ys : List ℕ) → Same xs ys → filled xs ≡ filled ys
same-filled xs ys h = tabulate-ext 32 (λ i. slice_index xs i) (λ i. slice_index ys i) (λ i l. h i)

pub same-widths : (j W : ℕ) (xs ys : List ℕ) → Same xs ys → widths j W xs ≡ widths j W ys
same-widths zero W xs ys h = refl
same-widths (suc j) W xs ys h =
    ap₂ (λ (w : ℕ) (l : List ℕ). w ∷ l) (same_width W (take 32 xs) (take 32 ys) (same-take 32 xs ys h))
    (same-widths j W (drop 32 xs) (drop 32 ys) (same_drop 32 xs ys h))

pub same-bodies : (j W : ℕ) (xs ys : List ℕ) → Same xs ys → bodies j W xs ≡ bodies j W ys
same-bodies zero W xs ys h = refl
same-bodies (suc j) W xs ys h =
    let front = same-take 32 xs ys h in
    ap₂ (λ (a b : List ℕ). a ++ b)
    (ap₂ (packed low_first) (same_width W (take 32 xs) (take 32 ys) front)
    (same-filled (take 32 xs) (take 32 ys) front))
    (same-bodies j W (drop 32 xs) (drop 32 ys) (same_drop 32 xs ys h))

zeros : (n i : ℕ) → slice_index_or {A = ℕ} (replicate n 0) i 0 ≡ 0
zeros zero i = refl
zeros (suc n) zero = refl
zeros (suc n) (suc i) = zeros n i

-- in front of places that held 0
pub same-put : (xs : List ℕ) (n : ℕ) → Same xs (put (replicate n 0) 0 xs)
unfolding put
same-put xs n i = go (nat_lt i (length xs)) refl
  where
    rest : List ℕ
    rest = drop (0 + length xs) (replicate n 0)

    go : (t : Bool) → nat_lt i (length xs) ≡ t → slice_index xs i ≡ slice_index (xs ++ rest) i
    go true e = sym (get_or-append xs rest 0 i (ltb-true i (length xs) e))
    go false e =
        let past = ltb-false i (length xs) e in
        let place : i ≡ length xs + (i - length xs) = omega arith in
        get_or-eq_default xs 0 past
        ∙ sym
        (ap (λ (k : ℕ). slice_index (xs ++ rest) k) place ∙ get_or-append-add xs rest (i - length xs) 0
        ∙ get_or-drop (0 + length xs) (replicate n 0) (i - length xs) 0 ∙ zeros n _)
