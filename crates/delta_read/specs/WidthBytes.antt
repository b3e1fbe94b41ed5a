-- Width bytes one after another: their fault, and their sum.
use Rattle.std.specs.Prelude.{◌≡◌, refl, Bool, true, false, cond, ◌||◌, List, [], ◌∷◌, ◌++◌, ℕ, zero, suc, ◌+◌, ◌*◌, ◌<◌, ◌≤◌, ltb, length, take, drop, get_or}
use Rattle.std.proofs.Common.{sym, ap, add_assoc, add-zero, zero-add, add-one, arith, length-drop, take-suc, get_or-drop, lt-ltb, le-ltb, ltb-false}
use Rattle.std.specs.List.{fold, list_any}
use Prim.Native.Nat.compare
use Rattle.rules.specs.Answer.{faulty}
use Rattle.rules.specs.Delta.{width_fault, sum}

-- ---- their fault

-- of unneeded ones it is asked only that they are there
widths_unneeded : (W all : ℕ) (s : List ℕ) → width_fault W all 0 s ≡ faulty (ltb (length s) all) 5
widths_unneeded W zero s = rw (le-ltb (length s) 0 (omega arith))
widths_unneeded W (suc all) [] = rw (lt-ltb 0 (suc all) (omega arith))
widths_unneeded W (suc all) (b ∷ s) = rw (compare.suc-suc (suc (length s)) all) (widths_unneeded W all s)

-- in reading order: 1 where one of those that are needed and there is above W, then 5 where one is missing
pub widths_judged : (W all need : ℕ) (s : List ℕ) → need ≤ all
    → width_fault W all need s ≡ cond (list_any (ltb W) (take need s)) 1 (faulty (ltb (length s) all) 5)
widths_judged W all zero s few = widths_unneeded W all s
widths_judged W zero (suc need) s few = absurd (omega arith)
widths_judged W (suc all) (suc need) [] few = rw (lt-ltb 0 (suc all) (omega arith))
widths_judged W (suc all) (suc need) (b ∷ s) few =
    rw (compare.suc-suc (suc (length s)) all) (go (ltb W b) _ _ _ (widths_judged W all need s (omega arith)))
  where
    go : (t wide : Bool) (x y : ℕ) → x ≡ cond wide 1 y → cond t 1 x ≡ cond (t || wide) 1 y
    go true wide x y e = refl
    go false wide x y e = e

-- ---- their sum

sum_append : (a b : List ℕ) → sum (a ++ b) ≡ sum a + sum b
sum_append [] b = sym (zero-add (sum b))
sum_append (x ∷ a) b = rw (sum_append a b) (sym (add_assoc x (sum a) (sum b)))

pub sum-next : (page : List ℕ) (at i : ℕ) → at + i < length page
    → sum (take (i + 1) (drop at page)) ≡ sum (take i (drop at page)) + get_or page (at + i) 0
sum-next page at i h =
    rw (add-one i, take-suc (drop at page) i 0 (simp length-drop (omega arith)), sum_append, get_or-drop)
    (ap (λ (x : ℕ). sum (take i (drop at page)) + x) (add-zero (get_or page (at + i) 0)))

-- added one after another to n
pub sum_added : (n : ℕ) (s : List ℕ) → fold (λ (a x : ℕ). a + x) n s ≡ n + sum s
sum_added n [] = omega arith
sum_added n (b ∷ s) = omega (arith, sum_added (n + b) s)

pub sum_le : (s : List ℕ) (i : ℕ) → ((k : ℕ) → get_or s k 0 < 256) → sum (take i s) ≤ 255 * i
sum_le s zero bytes = omega arith
sum_le [] (suc i) bytes = omega arith
sum_le (b ∷ s) (suc i) bytes = omega (arith, bytes 0, sum_le s i (λ k. bytes (suc k)))

-- ---- width bytes without a fault

-- they are all there
pub widths-there : (W all need : ℕ) (s : List ℕ) → width_fault W all need s ≡ 0 → all ≤ length s
widths-there W zero need s e = omega arith
widths-there W (suc all) need [] e = absurd (omega arith)
widths-there W (suc all) zero (b ∷ s) e = omega (arith, widths-there W all zero s e)
widths-there W (suc all) (suc need) (b ∷ s) e = go (widths-there W all need s) (ltb W b) e
  where
    go : (width_fault W all need s ≡ 0 → all ≤ length s) → (t : Bool) → cond t 1 (width_fault W all need s) ≡ 0
        → suc all ≤ length (b ∷ s)
    go rest true q = absurd (omega arith)
    go rest false q = omega (arith, rest q)

-- and those of needed miniblocks are at most W
pub narrow : (W all need : ℕ) (s : List ℕ) (k : ℕ) → width_fault W all need s ≡ 0 → need ≤ all → k < need
    → get_or s k 0 ≤ W
narrow W zero need s k e h l = absurd (omega arith)
narrow W (suc all) zero s k e h l = absurd (omega arith)
narrow W (suc all) (suc need) [] k e h l = absurd (omega arith)
narrow W (suc all) (suc need) (b ∷ s) k e h l = go (narrow W all need s) k l (ltb W b) refl e
  where
    go : ((i : ℕ) → width_fault W all need s ≡ 0 → need ≤ all → i < need → get_or s i 0 ≤ W) → (k : ℕ) → k < suc need
        → (t : Bool) → ltb W b ≡ t
        → cond t 1 (width_fault W all need s) ≡ 0 → get_or (b ∷ s) k 0 ≤ W
    go rest k l true q r = absurd (omega arith)
    go rest zero l false q r = ltb-false W b q
    go rest (suc k) l false q r = rest k r (omega arith) (omega arith)

-- that is all that is asked
pub widths_fine : (W all need : ℕ) (s : List ℕ) → all ≤ length s → ((k : ℕ) → k < need → get_or s k 0 ≤ W)
    → width_fault W all need s ≡ 0
widths_fine W zero need s there low = refl
widths_fine W (suc all) need [] there low = absurd (omega arith)
widths_fine W (suc all) zero (b ∷ s) there low = widths_fine W all zero s (omega arith) (λ k l. absurd (omega arith))
widths_fine W (suc all) (suc need) (b ∷ s) there low =
    rw (le-ltb W b (low 0 (omega arith)))
    (widths_fine W all need s (omega arith) (λ k l. low (suc k) (omega arith)))
