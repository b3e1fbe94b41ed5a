-- Places filled row by row, eight to a row: each place takes one byte more behind what it holds.
use Rattle.std.specs.Prelude.{◌≡◌, List, ◌++◌, ℕ, ◌+◌, ◌-◌, ◌*◌, ◌/◌, ◌%◌, ◌^◌, ◌≤◌, ◌<◌, length, take, drop, get_or, set}
use Rattle.std.proofs.Common.{ap, ap₂, ◌∙◌, arith, length-append, get_or-append-add, get_or-drop, length-take-le}
use Rattle.std.proofs.Math.ListN.{get_or-append}
use Rattle.rules.specs.Bits.{tabulate, put}
use Rattle.words.specs.Tabulated.{length-tabulate, tabulate-ext, put-tabulate_add, put-tabulate_at}

-- ---- places that are put, and those behind them

-- a place behind those that are put keeps what it held
pub get_or-put-past : (l vs : List ℕ) (at k : ℕ) → at ≤ length l → at + length vs ≤ k
    → get_or (put l at vs) k 0 ≡ get_or l k 0
unfolding put
get_or-put-past l vs at k h past =
    let front : List ℕ = take at l ++ vs in
    let size : length front ≡ at + length vs =
    length-append (take at l) vs ∙ ap (λ (n : ℕ). n + length vs) (length-take-le at l h) in
    let rest : ℕ = k - length front in
    let place : k ≡ length front + rest = omega arith in
    let back : at + length vs + rest ≡ k = omega arith in
    ap (λ (i : ℕ). get_or (front ++ drop (at + length vs) l) i 0) place
    ∙ get_or-append-add front (drop (at + length vs) l) rest 0
    ∙ get_or-drop (at + length vs) l rest 0 ∙ ap (λ (i : ℕ). get_or l i 0) back

-- one of those put at the front
pub get_or-put-front : (l vs : List ℕ) (k : ℕ) → k < length vs → get_or (put l 0 vs) k 0 ≡ get_or vs k 0
unfolding put
get_or-put-front l vs k h = get_or-append vs (drop (0 + length vs) l) 0 k h

-- ---- one byte more

-- the low three bytes of x with byte b behind them
abbrev pub behind : ℕ → ℕ → ℕ
behind x b = x % 2 ^ 24 * 256 + b

-- place j takes byte j div 8 of word j mod 8
unfoldable pub grown : List ℕ → List ℕ → ℕ → ℕ
grown words l j = behind (get_or l j 0) (get_or words (j % 8) 0 / 2 ^ (j / 8 * 8) % 256)

-- place i of the row that begins at place `from`
unfoldable pub grown_row : List ℕ → List ℕ → ℕ → ℕ → ℕ
grown_row words l from i = behind (get_or l (from + i) 0) (get_or words i 0 / 2 ^ from % 256)

-- one place more of a row
pub next_place : (words l : List ℕ) (from i : ℕ) → from + i < length l
    → set (put l from (tabulate i (grown_row words l from))) (from + i)
    (behind (get_or (put l from (tabulate i (grown_row words l from))) (from + i) 0) (get_or words i 0 / 2 ^ from % 256))
    ≡ put l from (tabulate (i + 1) (grown_row words l from))
unfolding grown_row
next_place words l from i h =
    let f : ℕ → ℕ = grown_row words l from in
    let size : length (tabulate i f) ≡ i = length-tabulate i f in
    rw (get_or-put-past l (tabulate i f) from (from + i) (omega arith) (omega arith)) (put-tabulate_at l from i f h)

-- a row of n places more
pub next_row : (words l : List ℕ) (from n : ℕ) → from % 8 ≡ 0 → n ≤ 8 → from + n ≤ length l
    → put (put l 0 (tabulate from (grown words l))) from
    (tabulate n (grown_row words (put l 0 (tabulate from (grown words l))) from))
    ≡ put l 0 (tabulate (from + n) (grown words l))
unfolding grown grown_row
next_row words l from n whole few fits =
    let f : ℕ → ℕ = grown words l in
    let done : List ℕ = put l 0 (tabulate from f) in
    let size : length (tabulate from f) ≡ from = length-tabulate from f in
    let same : (i : ℕ) → i < n → grown_row words done from i ≡ f (from + i) =
    λ i h. ap₂ behind (get_or-put-past l (tabulate from f) 0 (from + i) (omega arith) (omega arith))
    (ap₂ (λ (r q : ℕ). get_or words r 0 / 2 ^ q % 256) (omega arith) (omega arith)) in
    ap (put done from) (tabulate-ext n (grown_row words done from) (λ i. f (from + i)) same)
    ∙ put-tabulate_add l from n f fits
