-- `packed_entries::chunks::chunk` meets its contract: each turn joins one entry more.
use Rattle.std.proofs.Common.{◌≡◌, refl, sym, ap, ◌∙◌, List, ℕ, ◌+◌, ◌-◌, ◌*◌, ◌%◌, ◌^◌, ◌≤◌, ◌<◌, arith, length, take, drop, get_or, length-drop, length-take-le, take_all}
use lib.Pow.{shl_exact}
use lib.Bits.{bit_or, or_shifted_r}
use Rattle.rules.specs.Bits.{joined}
use Rattle.words.specs.Entries.{place-within}
use Rattle.words.specs.Joined.{Small, small-drop, small-take}
use Rattle.packed_entries.specs.Digits.{joined-next, first_below}
use Rattle.packed_entries.specs.NoneTooLarge.{small_of}
use Rattle.packed_entries.proofs.chunks.chunk.Goals as goal

-- one entry more, shifted to its place
entry_more : (xs : List ℕ) (k w j : ℕ) → k * w ≤ 56 → length xs ≡ k → Small w xs → j < k
    → bit_or (joined w (take j xs)) ((get_or xs j 0 * 2 ^ (j * w)) % 2 ^ 64) ≡ joined w (take (j + 1) xs)
entry_more xs k w j few long small l =
    let below = first_below w j xs (omega arith) small in
    rw (
      shl_exact w (j * w) 64 (small j) (omega (arith, place-within w j k l)),
      or_shifted_r (get_or xs j 0) (j * w) (joined w (take j xs)) below,
    )
    (sym (joined-next w xs j (omega arith)))

-- the entries gone over
size : (xs : List ℕ) (i k : ℕ) → i + k ≤ length xs → length (take (i + k - i) (drop i xs)) ≡ k
size xs i k there = length-take-le (i + k - i) (drop i xs) (rw length-drop (omega arith)) ∙ omega arith

pub loop-j-init : goal.loop-j-init
unfolding joined
loop-j-init c = refl

pub loop-j-preserved : goal.loop-j-preserved
loop-j-preserved c =
    let a = c.args in
    let l = c.loop-j in
    let xs = a.entries.now in
    let long = size xs a.i a.k c.requires.1 in
    let small =
    small-take a.w (a.i + a.k - a.i) (drop a.i xs) (small-drop a.w a.i xs (small_of a.w xs c.requires.2)) in
    rw l.invariant (entry_more _ a.k a.w l.j (omega arith) long small (omega arith))

pub returns : goal.returns
returns c =
    let a = c.args in
    let l = c.loop-j in
    let xs = a.entries.now in
    let part : a.i + a.k - a.i ≡ a.k = omega arith in
    l.invariant
    ∙ ap (joined a.w) (take_all l.j _ (omega arith) ∙ ap (λ (n : ℕ). take n (drop a.i xs)) part)
