-- How many bytes a run takes, and how many are enough for any stream.
use Rattle.std.specs.Prelude.{◌≡◌, refl, Bool, true, false, List, ◌++◌, ℕ, ◌+◌, ◌*◌, ◌/◌, ◌≤◌, ◌<◌, ltb, length, drop, get_or}
use Rattle.std.proofs.Common.{ap, ◌∙◌, mul-le-mul, mul-le-mul_right, arith, length-append, length-drop, ltb-true, ltb-false}
use Rattle.rules.specs.Bits.{ceil}
use Rattle.rules.specs.Bits.Order.{low_first}
use Rattle.rules.specs.Horizontal.{packed, page_bytes}
use Rattle.rules.specs.Shortest.{shortest}
use Rattle.rules.specs.RunWriter.{groups_of, stretch, next_run, taken, filled, run_bytes, stream}
use Rattle.rules.specs.declared.Next.{Next}
use Rattle.rules.specs.declared.Next.TheVariants.{Repeats, Packs}
use Rattle.words.specs.Bytes.{length-bytes}
use Rattle.words.specs.Tabulated.{length-tabulate}
use Rattle.packed_entries.specs.Packed.{length-packed}
use Rattle.packed_entries.specs.Filled.{whole-groups}
use Rattle.varints.specs.Shortness.{shortest-last, shortest-size}
use Rattle.runs_write.specs.Cuts.{stretch_le, groups_le, groups-within, groups-some, by_kind, fewer_left}
use Rattle.runs_write.specs.Cuts.{by_runs, stream-none, stream-turn}

-- the header, and one value or w bytes a group
abbrev pub run_size : ℕ → Next → ℕ
run_size w (Repeats count) = length (shortest (2 * count)) + ceil w 8
run_size w (Packs groups) = length (shortest (2 * groups + 1)) + w * groups

pub length-groups : (w groups : ℕ) (s : List ℕ) → length (packed low_first w (filled groups s)) ≡ w * groups
length-groups w groups s =
    length-packed low_first w (filled groups s) ∙ ap (page_bytes w) (length-tabulate (8 * groups) (λ i. get_or s i 0))
    ∙ whole-groups w groups

pub length-run-bytes : (w : ℕ) (s : List ℕ) (next : Next) → length (run_bytes w s next) ≡ run_size w next
unfolding run_bytes
length-run-bytes w s (Repeats count) = rw (length-append, length-bytes)
length-run-bytes w s (Packs groups) = rw (length-append, length-groups)

-- the bytes of a run, and of the stream behind it
pub turn-size : (w : ℕ) (s : List ℕ) (next : Next) (rest : List ℕ) → stream w s ≡ run_bytes w s next ++ rest
    → length (stream w s) ≡ run_size w next + length rest
turn-size w s next rest e = ap length e ∙ rw (length-append, length-run-bytes)

-- ---- how many are enough

-- for the stream of any n entries of width w: a header and w bytes for every 8
abbrev pub enough_bytes : ℕ → ℕ → ℕ
enough_bytes w n = ceil n 8 * (w + 1)

-- a repeated run takes no more bytes for its header than it has groups
header-few : (count : ℕ) → 8 ≤ count → count ≤ 16384 → length (shortest (2 * count)) ≤ count / 8
header-few count h l = go (ltb count 64) refl
  where
    go : (t : Bool) → ltb count 64 ≡ t → length (shortest (2 * count)) ≤ count / 8
    go true e = rw (shortest-last (2 * count) (omega (arith, ltb-true count 64 e))) (omega arith)
    go false e = omega (arith, ltb-false count 64 e, (shortest-size 32 (2 * count) (omega arith)).1)

-- a run that covers so many groups leaves what is enough for the entries behind it
leaves : (w size groups left all : ℕ) → size ≤ groups * (w + 1) → left + groups ≤ all
    → size + left * (w + 1) ≤ all * (w + 1)
leaves w size groups left all h l = omega (arith, mul-le-mul_right (w + 1) l)

run-enough : (w : ℕ) (s : List ℕ) → 0 < length s → length s ≤ 16384
    → run_size w (next_run s) + enough_bytes w (length (drop (taken (next_run s)) s)) ≤ enough_bytes w (length s)
run-enough w s some few =
    by_kind s (λ next. run_size w next + enough_bytes w (length (drop (taken next) s)) ≤ enough_bytes w (length s))
    repeats packs
  where
    repeats : 8 ≤ stretch s
        → run_size w (Repeats (stretch s)) + enough_bytes w (length (drop (stretch s) s)) ≤ enough_bytes w (length s)
    repeats h =
        let count : ℕ = stretch s in
        let within : count ≤ length s = stretch_le s in
        leaves w _ (count / 8) _ _
        (omega (arith, header-few count h (omega arith), mul-le-mul_right {m = 1} {n = count / 8} w (omega arith)))
        (omega (arith, length-drop count s))

    packs : stretch s < 8
        → run_size w (Packs (groups_of 63 s)) + enough_bytes w (length (drop (8 * groups_of 63 s) s))
        ≤ enough_bytes w (length s)
    packs h =
        let groups : ℕ = groups_of 63 s in
        let many : 0 < groups = groups-some 62 s some h in
        leaves w _ groups _ _
        (rw (shortest-last (2 * groups + 1) (omega (arith, groups_le 63 s))) (omega arith))
        (omega (arith, length-drop (8 * groups) s, groups-within 63 s))

pub stream-enough : (w : ℕ) (s : List ℕ) → length s ≤ 16384 → length (stream w s) ≤ enough_bytes w (length s)
stream-enough w =
    by_runs (λ s. length s ≤ 16384 → length (stream w s) ≤ enough_bytes w (length s))
    (λ l. rw stream-none (omega arith))
    (λ s some rest l. omega (
      arith,
      turn-size w s _ _ (stream-turn w s some),
      run-enough w s some l,
      rest (omega (arith, fewer_left s some)),
    ))

-- the most for any entries: 2,048 headers, each with 32 bytes
pub stream-size_le : (w : ℕ) → w ≤ 32 → (s : List ℕ) → length s ≤ 16384 → length (stream w s) ≤ 67584
stream-size_le w h s l =
    omega (
      arith,
      stream-enough w s l,
      mul-le-mul {n₁ = ceil (length s) 8} {m₁ = w + 1} {n₂ = 2048} {m₂ = 33} (omega arith) (omega arith),
    )
