-- The first fault of blocks and of a page. No fault has the code 0, so a page whose code is 0 holds its deltas.
use Rattle.std.specs.Prelude.{◌≡◌, Bool, true, false, List, ◌++◌, ℕ, zero, suc, ◌-◌, ◌/◌, ◌<◌, ℤ, ltb, length}
use Rattle.std.proofs.Math.Path.{refl, ap}
use Rattle.std.proofs.Common.{sym, subst, ◌∙◌, arith}
use Rattle.rules.specs.Signed.{zigzag}
use Rattle.rules.specs.Delta.{head_at, needed, Deltas, also, at_end, after, blocks_at, begun, opened, read, page_fault}
use Rattle.rules.specs.Delta.Deltas.{good, bad}
use Rattle.rules.specs.Delta.Page.{holding}
use Rattle.rules.specs.Delta.Head.{Opened, Unopened}
use Rattle.rules.specs.Delta.{Block}
use Rattle.delta_read.specs.Heads.{Opens, head-opens}
use Rattle.delta_read.specs.Heads.Opens.{unopened}
use Rattle.delta_read.specs.BlockParts.{Lies, block-lies}
use Rattle.delta_read.specs.BlockParts.Lies.{unlaid, lies}

-- 0 where the deltas are good
abbrev pub deltas_fault : Deltas → ℕ
deltas_fault (good ds) = 0
deltas_fault (bad code) = code

pub fault-also : (ds : List ℤ) (x : Deltas) → deltas_fault (also ds x) ≡ deltas_fault x
fault-also ds (good es) = refl
fault-also ds (bad code) = refl

fault-begun : (first : ℤ) (x : Deltas) → page_fault (begun first x) ≡ deltas_fault x
fault-begun first (good ds) = refl
fault-begun first (bad code) = refl

-- a page's fault is its header's, or else that of its blocks
module _ (W n : ℕ) (page : List ℕ) where
  pub fault-unopened : {code : ℕ} → head_at W n page ≡ Unopened code → page_fault (read W n page) ≡ code
  unfolding read
  fault-unopened e = ap (λ h. page_fault (opened W n page h)) e

  pub fault-opened : {size minis first at : ℕ} → head_at W n page ≡ Opened size minis first at
      → page_fault (read W n page) ≡ deltas_fault (blocks_at W size minis (n - 1) (n - 1) page at)
  unfolding read
  fault-opened {size} {minis} {first} {at} e =
      ap (λ h. page_fault (opened W n page h)) e
      ∙ fault-begun (zigzag first) (blocks_at W size minis (n - 1) (n - 1) page at)

-- ---- no fault has the code 0

data Listed : Deltas → Type 0 where
  are : (ds : List ℤ) → Listed (good ds)
  refused : (code : ℕ) → 0 < code → Listed (bad code)

end-listed : (over : Bool) → Listed (at_end over)
end-listed true = refused 6 (omega arith)
end-listed false = are _

also-listed : (ds : List ℤ) {x : Deltas} → Listed x → Listed (also ds x)
also-listed ds (are es) = are (ds ++ es)
also-listed ds (refused code some) = refused code some

blocks-listed : (W size minis turns left : ℕ) (page : List ℕ) (at : ℕ)
    → Listed (blocks_at W size minis turns left page at)
blocks-listed W size minis zero zero page at = end-listed (ltb at (length page))
blocks-listed W size minis (suc turns) zero page at = end-listed (ltb at (length page))
blocks-listed W size minis zero (suc left) page at = refused 5 (omega arith)
blocks-listed W size minis (suc turns) (suc left) page at =
    go (λ l next. blocks-listed W size minis turns l page next)
    (block-lies W minis (needed minis (size / minis) (suc left)) (size / minis) page at)
  where
    go : ((l next : ℕ) → Listed (blocks_at W size minis turns l page next)) → {b : Block}
        → Lies W minis (needed minis (size / minis) (suc left)) (size / minis) page at b
        → Listed (after size minis (suc left) page (λ l next. blocks_at W size minis turns l page next) b)
    go rest (unlaid code some) = refused code some
    go rest (lies h widths e fine room) = also-listed _ (rest _ _)

-- ---- so a page without a fault holds its first value and its deltas

pub record Holds (W n : ℕ) (page : List ℕ) (size minis first at : ℕ) : Type 0 where
  pub deltas : List ℤ
  pub blocks : blocks_at W size minis (n - 1) (n - 1) page at ≡ good deltas
  pub page_is : read W n page ≡ holding (zigzag first) deltas

module _ (W n : ℕ) (page : List ℕ) (fine : page_fault (read W n page) ≡ 0) where
  -- its header was read
  pub good-head : {code : ℕ} → head_at W n page ≡ Unopened code → ⊥
  good-head e = go (subst (Opens W page) e (head-opens W n page)) (sym (fault-unopened W n page e) ∙ fine)
    where
      go : {code : ℕ} → Opens W page (Unopened code) → code ≡ 0 → ⊥
      go (unopened code some) none = omega arith

  -- and its blocks too
  pub good-page : {size minis first at : ℕ} → head_at W n page ≡ Opened size minis first at
      → Holds W n page size minis first at
  unfolding read
  good-page {size} {minis} {first} {at} e =
      go (blocks_at W size minis (n - 1) (n - 1) page at) refl (blocks-listed W size minis (n - 1) (n - 1) page at)
      (sym (fault-opened W n page e) ∙ fine)
    where
      go : (x : Deltas) → blocks_at W size minis (n - 1) (n - 1) page at ≡ x → Listed x → deltas_fault x ≡ 0
          → Holds W n page size minis first at
      go x q (are ds) none =
          record { deltas = ds; blocks = q; page_is = ap (opened W n page) e ∙ ap (begun (zigzag first)) q }
      go x q (refused code some) none = absurd (omega arith)
