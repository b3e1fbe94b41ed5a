-- The beginning of a row: what was asked.
use Rattle.std.specs.Prelude.{◌≡◌, List, [], ◌∷◌, ◌++◌, ℕ, take, length}
use Rattle.std.proofs.Common.{◌∙◌, arith, take_all}
use Rattle.lines.specs.Text.{ascii, laid, decimal, hexadecimal, spelled, padding}
use Rattle.lines.specs.Laws.{laid-laid}

-- a text, and what stands behind it from a place on
abbrev pub up_to : ℕ → List ℕ → List ℕ
up_to at text = laid text (padding at text)

-- a page, the width of its entries from place 24 on, and how many are asked for; the row goes on at 42
unfoldable pub asked_for : List ℕ → ℕ → ℕ → List ℕ
asked_for page width n =
    up_to 42
    (laid (up_to 24 (laid [] (32 ∷ spelled hexadecimal page)))
    (ascii "width " ++ (decimal width ++ (ascii ", n " ++ decimal n))))

four_pieces : (text a b c d : List ℕ) → laid (laid (laid (laid text a) b) c) d ≡ laid text (a ++ (b ++ (c ++ d)))
four_pieces text a b c d =
    laid-laid (laid (laid text a) b) c d ∙ laid-laid (laid text a) b (c ++ d) ∙ laid-laid text a (b ++ (c ++ d))

-- the row, piece by piece
pub begun : {t₀ t₁ t₂ t₃ t₄ t₅ t₆ t₇ t₈ : List ℕ} (page : List ℕ) (width n : ℕ) → t₀ ≡ [] → t₁ ≡ laid t₀ (32 ∷ [])
    → t₂ ≡ laid t₁ (spelled hexadecimal (take (length page) page)) → t₃ ≡ up_to 24 t₂
    → t₄ ≡ laid t₃ (ascii "width ") → t₅ ≡ laid t₄ (decimal width) → t₆ ≡ laid t₅ (ascii ", n ")
    → t₇ ≡ laid t₆ (decimal n) → t₈ ≡ up_to 42 t₇ → t₈ ≡ asked_for page width n
unfolding asked_for
begun page width n p₀ p₁ p₂ p₃ p₄ p₅ p₆ p₇ p₈ =
    cc (
      laid-laid [] (32 ∷ []) (spelled hexadecimal page),
      take_all (length page) page (omega arith),
      four_pieces (up_to 24 (laid [] (32 ∷ spelled hexadecimal page))) (ascii "width ") (decimal width)
          (ascii ", n ") (decimal n),
    )
