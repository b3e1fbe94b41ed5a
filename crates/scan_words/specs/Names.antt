-- Names as they are typed, and which of some names a word is.
use Rattle.std.specs.Prelude.{Bool, false, cond, ◌&&◌, List, [], ◌∷◌, ℕ, suc, ◌-◌, eqb, ltb, length, get_or}
use Rattle.std.proofs.Common.{bytes_eq}
use Rattle.lines.specs.Text.{ascii}
use Rattle.scan_words.specs.declared.names.Layout.TheVariants.{Horizontal, Planes, Runs, Delta, Dictionary}
use Rattle.scan_words.specs.declared.names.Opening.{Opening}
use Rattle.scan_words.specs.declared.names.Opening.TheVariants.{Layout as Opened, Help as Helped}
use Rattle.scan_words.specs.declared.names.Setting.{Setting}
use Rattle.scan_words.specs.declared.names.Setting.TheVariants.{
  Width,
  Entries,
  Last,
  Bitmap,
  Numbers,
  Start,
  Day,
  Spans,
  Join,
}
use Rattle.scan_words.specs.declared.names.Instead.{Instead}
use Rattle.scan_words.specs.declared.names.Instead.TheVariants.{Version, Help}

-- which of some names a word is, the first being 0; as many as there are where it is none
unfoldable pub place : List ℕ → List (List ℕ) → ℕ
place word [] = 0
place word (name ∷ names) = cond (bytes_eq word name) 0 (suc (place word names))

-- a byte more at the beginning of the first word
abbrev pub ahead : ℕ → List (List ℕ) → List (List ℕ)
ahead b [] = (b ∷ []) ∷ []
ahead b (w ∷ ws) = (b ∷ w) ∷ ws

-- the words of a text, a blank between them
unfoldable pub words : List ℕ → List (List ℕ)
words [] = []
words (b ∷ text) = cond (eqb b 32) ([] ∷ words text) (ahead b (words text))

-- ---- the words that are taken, and what each of them stands for

unfoldable pub operators : List (List ℕ)
operators = words (ascii "equal not-equal less at-most greater at-least between not-between")

unfoldable pub numbers : List ℕ
numbers = 0 ∷ 1 ∷ 2 ∷ 3 ∷ 4 ∷ 5 ∷ 6 ∷ 7 ∷ []

unfoldable pub layouts : List (List ℕ)
layouts = words (ascii "horizontal planes runs delta dictionary help")

unfoldable pub openings : List Opening
openings = Opened Horizontal ∷ Opened Planes ∷ Opened Runs ∷ Opened Delta ∷ Opened Dictionary ∷ Helped ∷ []

unfoldable pub options : List (List ℕ)
options = words (ascii "--width --entries --last --bitmap --numbers --start --day --spans --join")

unfoldable pub settings : List Setting
settings = Width ∷ Entries ∷ Last ∷ Bitmap ∷ Numbers ∷ Start ∷ Day ∷ Spans ∷ Join ∷ []

-- asked for instead of a scan
unfoldable pub insteads : List (List ℕ)
insteads = words (ascii "--version --help -h")

unfoldable pub pleas : List Instead
pleas = Version ∷ Help ∷ Help ∷ []

-- `0` to `7`
abbrev pub operator_digit : ℕ → ℕ
operator_digit d = cond (ltb d 48) 8 (cond (ltb 55 d) 8 (d - 48))

-- an operator by one digit: 0 to 7, and 8 is none
unfoldable pub operator_number : List ℕ → ℕ
operator_number word = cond (eqb (length word) 1) (operator_digit (get_or word 0 0)) 8

-- does a word begin with two dashes
unfoldable pub dashed : List ℕ → Bool
dashed word = cond (ltb (length word) 2) false (eqb (get_or word 0 0) 45 && eqb (get_or word 1 0) 45)
