-- Run streams by the published grammar, apart from any reader: how bytes are cut into runs of width w that cover n
-- entries.
use Rattle.std.specs.Prelude.{◌≡◌, List, [], ◌∷◌, ◌++◌, ℕ, ◌+◌, ◌-◌, ◌*◌, ◌%◌, ◌^◌, ◌<◌, ◌≤◌, length, replicate}
use Rattle.rules.specs.Bits.{ceil, tabulate, number, entry}
use Rattle.rules.specs.Bits.Order.{low_first}

-- ---- the runs of a stream, and their entries

-- a run as it lies in the stream: the bytes that it takes, and its entries
pub data Piece : Type 0 where
  same : (size count value : ℕ) → Piece
  packed : (size groups : ℕ) (body : List ℕ) → Piece

-- how many entries it has, and which
abbrev pub entries : Piece → ℕ
entries (same size count value) = count
entries (packed size groups body) = 8 * groups

abbrev pub piece_entries : ℕ → Piece → List ℕ
piece_entries w (same size count value) = replicate count value
piece_entries w (packed size groups body) = tabulate (8 * groups) (entry low_first body w)

-- the entries of runs laid end to end
unfoldable pub cut_entries : ℕ → List Piece → List ℕ
cut_entries w [] = []
cut_entries w (p ∷ ps) = piece_entries w p ++ cut_entries w ps

-- ---- how bytes are cut into them

-- the bytes spell a number: seven bits a byte, lowest first, a byte of 128 or more where more follow
pub data Spells : List ℕ → ℕ → Type 0 where
  last : {b : ℕ} → b < 128 → Spells (b ∷ []) b
  more : {b v : ℕ} {s : List ℕ} → 128 ≤ b → Spells s v → Spells (b ∷ s) (b % 128 + 128 * v)

-- a header: any spelling of h, of at most five bytes, of a number of 32 bits
pub record Header (t : List ℕ) (h : ℕ) : Type 0 where
  pub spells : Spells t h
  pub short : length t ≤ 5
  pub small : h < 2 ^ 32

-- the bytes are one run, where `left` entries are not yet covered
pub data OneRun (w left : ℕ) : List ℕ → Piece → Type 0 where
  repeats : {count : ℕ} (t v : List ℕ) → Header t (2 * count) → 0 < count → count ≤ left → length v ≡ ceil w 8
      → number v < 2 ^ w
      → OneRun w left (t ++ v) (same (length (t ++ v)) count (number v))
  packs : {groups : ℕ} (t body : List ℕ) → Header t (2 * groups + 1) → 0 < groups → 8 * groups ≤ left + 7
      → length body ≡ w * groups
      → OneRun w left (t ++ body) (packed (length (t ++ body)) groups body)

-- a run starts only while fewer than n are covered, and the stream ends with the run that reaches n
pub data Cut (w : ℕ) : ℕ → List ℕ → List Piece → Type 0 where
  done : Cut w 0 [] []
  next : {left : ℕ} {p : Piece} {ps : List Piece} (t s : List ℕ) → 0 < left → OneRun w left t p
      → Cut w (left - entries p) s ps → Cut w left (t ++ s) (p ∷ ps)
