-- Entries filled up with 0: the page is that of the entries there are, with bytes of 0 behind it; and whole groups
-- of 8.
use Rattle.std.specs.Prelude.{◌≡◌, refl, Bool, true, false, List, [], ◌∷◌, ◌++◌, ℕ, zero, suc, ◌+◌, ◌-◌, ◌*◌, ◌≤◌, ◌<◌, min, leb, length, take, get_or}
use Rattle.std.proofs.Common.{sym, ap, ap₂, ◌∙◌, zero-mul, mul_assoc, mul_comm, mul-le-mul_right, arith, length-take-le, get_or-take, take_all, leb-true, leb-false}
use Rattle.rules.specs.Bits.{tabulate, put, bytes, joined}
use Rattle.rules.specs.Bits.Order.{low_first}
use Rattle.rules.specs.Horizontal.{packed, page_bytes}
use Rattle.words.specs.Bytes.{bytes-further, length-bytes}
use Rattle.words.specs.Joined.{Small, small-take}
use Rattle.words.specs.Puts.{put-behind}
use Rattle.words.specs.Tabulated.{length-tabulate, tabulate-ext, small-tabulate}
use Rattle.packed_entries.specs.Digits.{joined-below}
use Rattle.packed_entries.specs.Packed.{length-packed, packed-joined}

-- ---- whole groups

-- a group of 8 entries takes w bytes
pub whole-groups : (w groups : ℕ) → page_bytes w (8 * groups) ≡ w * groups
whole-groups w groups = omega (arith, mul_assoc 8 groups w, mul_comm groups w)

-- ---- entries of 0 behind the others

-- they add nothing to the number
joined-filled : (d n : ℕ) (xs : List ℕ) → length xs ≤ n → joined d (tabulate n (λ i. get_or xs i 0)) ≡ joined d xs
unfolding joined tabulate
joined-filled d zero [] h = refl
joined-filled d zero (x ∷ xs) h = absurd (omega arith)
joined-filled d (suc n) [] h = rw (joined-filled d n [] (omega arith)) (rw zero-mul)
joined-filled d (suc n) (x ∷ xs) h = rw (joined-filled d n xs (omega arith))

-- so the page is longer by bytes of 0
filled_up : (w n : ℕ) (xs : List ℕ) → Small w xs → length xs ≤ n
    → packed low_first w (tabulate n (λ i. get_or xs i 0))
    ≡ packed low_first w xs ++ bytes (page_bytes w n - page_bytes w (length xs)) 0
filled_up w n xs h fits =
    let f : ℕ → ℕ = λ i. get_or xs i 0 in
    let a : ℕ = page_bytes w (length xs) in
    let b : ℕ = page_bytes w n - a in
    let size : length (tabulate n f) ≡ n = length-tabulate n f in
    let all : page_bytes w n ≡ a + b = omega (arith, mul-le-mul_right w fits) in
    packed-joined w (tabulate n f) (small-tabulate w n f h)
    ∙ ap₂ bytes (ap (page_bytes w) size ∙ all) (joined-filled w n xs fits)
    ∙ bytes-further a b (length xs * w) (joined w xs) (joined-below w xs h) (omega arith)
    ∙ ap (λ (l : List ℕ). l ++ bytes b 0) (sym (packed-joined w xs h))

-- the entries there are, n at most
first-entries : (n m : ℕ) (s : List ℕ) → m ≡ min n (length s) → (i : ℕ) → i < n → get_or s i 0 ≡ get_or (take m s) i 0
first-entries n m s e i l = go (leb n (length s)) refl
  where
    go : (t : Bool) → leb n (length s) ≡ t → get_or s i 0 ≡ get_or (take m s) i 0
    go true q = let enough = leb-true n (length s) q in sym (get_or-take m s i 0 (omega arith))
    go false q =
        let few = leb-false n (length s) q in ap (λ (t : List ℕ). get_or t i 0) (sym (take_all m s (omega arith)))

-- these are laid, and bytes of 0 behind them
pub put-filled : (l s : List ℕ) (w n m from size : ℕ) {l₁ l₂ : List ℕ} → Small w s → m ≡ min n (length s)
    → page_bytes w n ≡ size → from + size ≤ length l
    → l₁ ≡ put l from (packed low_first w (take m s))
    → l₂ ≡ put l₁ (from + page_bytes w m) (bytes (size - page_bytes w m) 0)
    → l₂ ≡ put l from (packed low_first w (tabulate n (λ i. get_or s i 0)))
put-filled l s w n m from size h many whole fits first second =
    let xs : List ℕ = take m s in
    let there : length xs ≡ m = length-take-le m s (omega arith) in
    let a : List ℕ = packed low_first w xs in
    let b : List ℕ = bytes (size - page_bytes w m) 0 in
    let long : length a ≡ page_bytes w m = length-packed low_first w xs ∙ ap (page_bytes w) there in
    let less : m * w ≤ n * w = mul-le-mul_right w (omega arith) in
    let page : packed low_first w (tabulate n (λ i. get_or s i 0)) ≡ a ++ b =
    ap (packed low_first w) (tabulate-ext n (λ i. get_or s i 0) (λ i. get_or xs i 0) (first-entries n m s many))
    ∙ filled_up w n xs (small-take w m s h) (omega arith)
    ∙ ap₂ (λ (j k : ℕ). a ++ bytes (j - page_bytes w k) 0) whole there in
    put-behind l from a b first (omega arith) second (omega (arith, length-bytes (size - page_bytes w m) 0))
    ∙ ap (put l from) (sym page)
