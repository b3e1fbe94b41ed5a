-- Entries by groups of eight, w bytes each: a group more behind those in place.
use Rattle.std.specs.Prelude.{◌≡◌, List, ◌++◌, ℕ, ◌+◌, ◌*◌, ◌/◌, ◌^◌, ◌≤◌, ◌<◌, length, take, drop}
use Rattle.std.proofs.Common.{sym, ap, ap₂, ◌∙◌, add-mul, mul_assoc, arith, length-drop, length-take-le}
use Rattle.std.proofs.Math.Pow.{low, high}
use Rattle.rules.specs.Bits.{bytes, entry, field, joined, put, tabulate}
use Rattle.rules.specs.Bits.Order.{low_first}
use Rattle.rules.specs.Horizontal.{packed, page_bytes}
use Rattle.words.specs.Bytes.{bytes_mod, bytes_add, pow_256}
use Rattle.words.specs.Joined.{Small, small-drop}
use Rattle.words.specs.Puts.{put_over, put-behind}
use Rattle.words.specs.Tabulated.{length-tabulate, tabulate-ext, put-tabulate_add}
use Rattle.packed_entries.specs.Digits.{joined-more, first_below}
use Rattle.packed_entries.specs.Packed.{packed-first, length-packed}

-- group g, from byte g × w on, behind those in place
pub next_group : (l page : List ℕ) (w g at : ℕ) {l₁ l₂ : List ℕ} → 8 * (g + 1) ≤ length l → at ≡ g * w
    → l₁ ≡ put l 0 (tabulate (8 * g) (entry low_first page w))
    → l₂ ≡ put l₁ (8 * g) (tabulate 8 (λ j. field low_first page (8 * at + j * w) w))
    → l₂ ≡ put l 0 (tabulate (8 * (g + 1)) (entry low_first page w))
next_group l page w g at h here first second =
    let f : ℕ → ℕ = entry low_first page w in
    let more : 8 * g + 8 ≡ 8 * (g + 1) = omega arith in
    let place : (j : ℕ) → 8 * at + j * w ≡ (8 * g + j) * w = λ j. rw (here, add-mul, mul_assoc) in
    let group : tabulate 8 (λ j. field low_first page (8 * at + j * w) w) ≡ tabulate 8 (λ j. f (8 * g + j)) =
    tabulate-ext 8 (λ j. field low_first page (8 * at + j * w) w) (λ j. f (8 * g + j))
    (λ j _. ap (λ (k : ℕ). field low_first page k w) (place j)) in
    second ∙ ap₂ (λ (s t : List ℕ). put s (8 * g) t) first group ∙ put-tabulate_add l (8 * g) 8 f (omega arith)
    ∙ ap (λ (n : ℕ). put l 0 (tabulate n f)) more

-- ---- the page of g groups, and behind it that of the m entries behind them

pub bytes-behind : (w g m : ℕ) → page_bytes w (8 * g + m) ≡ g * w + page_bytes w m
bytes-behind w g m = omega (arith, add-mul (8 * g) m w, mul_assoc 8 g w)

packed-groups : (w g m : ℕ) (xs : List ℕ) → 8 * g + m ≤ length xs → Small w xs
    → packed low_first w (take (8 * g + m) xs)
    ≡ packed low_first w (take (8 * g) xs) ++ packed low_first w (take m (drop (8 * g) xs))
packed-groups w g m xs h small =
    let n : ℕ = g * w in
    let a : ℕ = joined w (take (8 * g) xs) in
    let b : ℕ = joined w (take m (drop (8 * g) xs)) in
    let bits : 8 * g * w ≡ 8 * n = mul_assoc 8 g w in
    let whole : joined w (take (8 * g + m) xs) ≡ b * 2 ^ (8 * n) + a =
    rw (← bits) (joined-more w (8 * g) m xs (omega arith)) in
    let below : a < 2 ^ (8 * n) = rw (← bits) (first_below w (8 * g) xs (omega arith) small) in
    let first : bytes n (b * 2 ^ (8 * n) + a) ≡ packed low_first w (take (8 * g) xs) =
    sym (bytes_mod n (b * 2 ^ (8 * n) + a))
    ∙ rw (pow_256, low b (8 * n) below)
    (sym (packed-first w (8 * g) xs (omega arith) small ∙ ap (λ (k : ℕ). bytes k a) (omega arith))) in
    let rest : bytes (page_bytes w m) ((b * 2 ^ (8 * n) + a) / 256 ^ n)
    ≡ packed low_first w (take m (drop (8 * g) xs)) =
    rw (pow_256, high b (8 * n) below)
    (sym (packed-first w m (drop (8 * g) xs) (rw length-drop (omega arith)) (small-drop w (8 * g) xs small))) in
    packed-first w (8 * g + m) xs h small ∙ ap₂ bytes (bytes-behind w g m) whole
    ∙ bytes_add n (page_bytes w m) (b * 2 ^ (8 * n) + a) ∙ ap₂ ◌++◌ first rest

-- the groups' page is in place, and the other is put behind it
pub laid-behind : (l xs : List ℕ) (w g m at : ℕ) {l₁ l₂ : List ℕ} → 8 * g + m ≤ length xs → Small w xs → at ≡ g * w
    → g * w + page_bytes w m ≤ length l
    → l₁ ≡ put l 0 (packed low_first w (take (8 * g) xs))
    → l₂ ≡ put l₁ at (packed low_first w (take m (drop (8 * g) xs)))
    → l₂ ≡ put l 0 (packed low_first w (take (8 * g + m) xs))
laid-behind l xs w g m at h small here room first second =
    let a : List ℕ = packed low_first w (take (8 * g) xs) in
    let b : List ℕ = packed low_first w (take m (drop (8 * g) xs)) in
    let size : length (take (8 * g) xs) ≡ 8 * g = length-take-le (8 * g) xs (omega arith) in
    let long : length a ≡ g * w =
    length-packed low_first w (take (8 * g) xs) ∙ rw size (omega (arith, mul_assoc 8 g w)) in
    let more : length b ≡ page_bytes w m =
    length-packed low_first w (take m (drop (8 * g) xs))
    ∙ ap (page_bytes w) (length-take-le m (drop (8 * g) xs) (rw length-drop (omega arith))) in
    put-behind l 0 a b first (omega arith) second (omega arith) ∙ ap (put l 0) (sym (packed-groups w g m xs h small))

-- ---- groups first, and then the other entries

-- where m entries are in place, to put them there changes nothing
pub in_place : (l : List ℕ) (m : ℕ) (f : ℕ → ℕ) {l₁ : List ℕ} → l₁ ≡ put l 0 (tabulate m f)
    → l₁ ≡ put l₁ 0 (tabulate m f)
in_place l m f e =
    let v : List ℕ = tabulate m f in
    e ∙ sym (ap (λ (k : List ℕ). put k 0 v) e ∙ put_over l v v 0 (omega arith) (omega arith))

-- and n over them are n in place
pub further_in_place : (l : List ℕ) (m n : ℕ) (f : ℕ → ℕ) {l₁ l₂ : List ℕ} → m ≤ n → l₁ ≡ put l 0 (tabulate m f)
    → l₂ ≡ put l₁ 0 (tabulate n f) → l₂ ≡ put l 0 (tabulate n f)
further_in_place l m n f h first second =
    second ∙ ap (λ (k : List ℕ). put k 0 (tabulate n f)) first
    ∙ put_over l (tabulate m f) (tabulate n f) 0 (omega arith)
    (omega (arith, length-tabulate m f, length-tabulate n f))
