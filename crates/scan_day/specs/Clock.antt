-- A second by the clock and, past the first day, its day.
use Rattle.std.specs.Prelude.{◌≡◌, cond, List, [], ◌∷◌, ◌++◌, ℕ, ◌+◌, ◌/◌, ◌%◌, eqb, ltb}
use Rattle.std.proofs.Common.{◌∙◌}
use Rattle.lines.specs.Text.{ascii, laid, decimal}
use Rattle.lines.specs.Laws.{laid-laid}

-- a number in two digits, or more where it has more (48 is `0`)
unfoldable pub two_digits : ℕ → List ℕ
two_digits n = cond (ltb n 10) (48 ∷ decimal n) (decimal n)

-- a day by its number; the first goes without saying
unfoldable pub of_day : ℕ → List ℕ
of_day day = cond (eqb day 1) [] (ascii " of day " ++ decimal day)

-- hour, minute and second, `:` (58) between them, of a second counted from the beginning of a day
unfoldable pub clock_time : ℕ → ℕ → List ℕ
clock_time day s =
    two_digits (s / 3600 % 24)
    ++ (58 ∷ (two_digits (s / 60 % 60) ++ (58 ∷ (two_digits (s % 60) ++ of_day (day + s / 86400)))))

-- three pieces, five, six and seven, laid out one behind another
pub laid-three : (text a b c : List ℕ) → laid (laid (laid text a) b) c ≡ laid text (a ++ (b ++ c))
laid-three text a b c = laid-laid (laid text a) b c ∙ laid-laid text a (b ++ c)

pub laid_five : (text a b c d e : List ℕ)
    → laid (laid (laid (laid (laid text a) b) c) d) e ≡ laid text (a ++ (b ++ (c ++ (d ++ e))))
laid_five text a b c d e = laid-three (laid (laid text a) b) c d e ∙ laid-three text a b (c ++ (d ++ e))

pub laid_six : (text a b c d e f : List ℕ)
    → laid (laid (laid (laid (laid (laid text a) b) c) d) e) f ≡ laid text (a ++ (b ++ (c ++ (d ++ (e ++ f)))))
laid_six text a b c d e f = laid-laid (laid (laid (laid (laid text a) b) c) d) e f ∙ laid_five text a b c d (e ++ f)

pub laid_seven : (text a b c d e f g : List ℕ)
    → laid (laid (laid (laid (laid (laid (laid text a) b) c) d) e) f) g
    ≡ laid text (a ++ (b ++ (c ++ (d ++ (e ++ (f ++ g))))))
laid_seven text a b c d e f g =
    laid-three (laid (laid (laid (laid text a) b) c) d) e f g ∙ laid_five text a b c d (e ++ (f ++ g))

-- a line of seven pieces, piece by piece
pub seven_pieces : {t₀ t₁ t₂ t₃ t₄ t₅ t₆ t₇ : List ℕ} (a b c d e f g : List ℕ) → t₀ ≡ [] → t₁ ≡ laid t₀ a
    → t₂ ≡ laid t₁ b → t₃ ≡ laid t₂ c → t₄ ≡ laid t₃ d → t₅ ≡ laid t₄ e
    → t₆ ≡ laid t₅ f → t₇ ≡ laid t₆ g → t₇ ≡ laid [] (a ++ (b ++ (c ++ (d ++ (e ++ (f ++ g))))))
seven_pieces a b c d e f g p₀ p₁ p₂ p₃ p₄ p₅ p₆ p₇ = cc (laid_seven [] a b c d e f g)
