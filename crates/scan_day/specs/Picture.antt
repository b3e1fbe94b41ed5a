-- The picture of a day: a character for each of its 72 cells of twenty minutes. The column's seconds are those from
-- `from` to before `end`, counted from the beginning of its first day, which is day 0.
use Rattle.std.specs.Prelude.{◌≡◌, cond, List, [], ◌∷◌, ℕ, ◌+◌, ◌-◌, ◌*◌, ◌/◌, min, eqb, ltb, leb, get_or}
use Rattle.std.proofs.Common.{sym, ap, ◌∙◌}
use Prim.Native.Char.{code}
use Rattle.rules.specs.Bits.{tabulate}
use Rattle.words.specs.Tabulated.{tabulate_snoc}
use Rattle.lines.specs.Text.{laid}
use Rattle.lines.specs.Laws.{laid-laid}

-- how many of the column's seconds lie in a cell
abbrev pub seconds_of : ℕ → ℕ → ℕ → ℕ
seconds_of cell from end = min (end - cell * 1200) 1200 - min (from - cell * 1200) 1200

-- some of a cell's seconds, but not all
unfoldable pub by_thirds : ℕ → ℕ → ℕ
by_thirds seconds selected =
    cond (leb selected (seconds / 3)) (code ".") (cond (leb selected (2 * (seconds / 3))) (code ":") (code "+"))

-- a cell of so many seconds, of which so many were answered, and so many selected
unfoldable pub cell_of : ℕ → ℕ → ℕ → ℕ
cell_of seconds answered selected =
    cond (eqb seconds 0) (code "-")
    (cond (ltb answered seconds) (code "?")
    (cond (eqb selected 0) (code " ") (cond (leb seconds selected) (code "#") (by_thirds seconds selected))))

-- cell c of a day, from how many seconds of each cell were answered and selected
abbrev pub cell_at : ℕ → ℕ → ℕ → List ℕ → List ℕ → ℕ → ℕ
cell_at day from end answered selected c =
    cell_of (seconds_of (day * 72 + c) from end) (get_or answered (day * 72 + c) 0) (get_or selected (day * 72 + c) 0)

unfoldable pub strip_of : ℕ → ℕ → ℕ → List ℕ → List ℕ → List ℕ
strip_of day from end answered selected = tabulate 72 (cell_at day from end answered selected)

-- one character more behind the first c
pub one-more_cell : (f : ℕ → ℕ) (c : ℕ) (text more : List ℕ) → text ≡ laid [] (tabulate c f)
    → more ≡ laid text (f c ∷ []) → more ≡ laid [] (tabulate (c + 1) f)
one-more_cell f c text more so is =
    is ∙ ap (λ (t : List ℕ). laid t (f c ∷ [])) so ∙ laid-laid [] (tabulate c f) (f c ∷ [])
    ∙ ap (laid []) (sym (tabulate_snoc c f))
