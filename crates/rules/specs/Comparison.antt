-- What an operator number and its two constants select. All comparing is of whole numbers.
use Rattle.std.specs.Prelude.{Bool, false, not, ◌&&◌, List, [], ◌∷◌, ℕ, ℤ, get_or}
use Rattle.std.specs.Int.Signed.{lt_z, le_z}

-- from a to b with both ends; nothing where a is above b
unfoldable pub between : ℤ → ℤ → ℤ → Bool
between a b x = le_z a x && le_z x b

-- the operators 0 to 7: equal to a (from a to a), not equal, less, less or equal, greater, greater or equal, from a
-- to b, not from a to b
unfoldable pub operators : ℤ → ℤ → ℤ → List Bool
operators a b x =
    between a a x
    ∷ not (between a a x)
    ∷ lt_z x a
    ∷ le_z x a
    ∷ lt_z a x
    ∷ le_z a x
    ∷ between a b x
    ∷ not (between a b x)
    ∷ []

-- does x satisfy operator op with the constants a and b
unfoldable pub holds : ℕ → ℤ → ℤ → ℤ → Bool
holds op a b x = get_or (operators a b x) op false
