-- The first place of a byte in a part of a text.
use Rattle.std.specs.Prelude.{Bool, true, false, List, [], ◌∷◌, ℕ, suc, eqb, take, drop}

-- a text from one place to before another
unfoldable pub slice : ℕ → ℕ → List ℕ → List ℕ
slice from to text = drop from (take to text)

-- a place after a first byte, unless that byte is what is looked for
unfoldable pub index_after : Bool → ℕ → ℕ
index_after true n = 0
index_after false n = suc n

-- the first place of a byte, or the text's length where it has none
unfoldable pub index_of : ℕ → List ℕ → ℕ
index_of b [] = 0
index_of b (x ∷ text) = index_after (eqb x b) (index_of b text)
