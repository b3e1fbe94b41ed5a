-- The blocks of a page read turn by turn: the laws of both passes over them.
use Rattle.std.specs.Prelude.{◌≡◌, List, [], ◌++◌, ℤ, ltb, length}
use Rattle.std.proofs.Math.Path.{refl}
use Rattle.std.proofs.Common.{sym, ap, ◌∙◌, append_assoc, arith}
use Prim.Native.Nat.{ℕ, zero, suc, ◌+◌, ◌-◌, ◌/◌, ◌<◌, ◌≤◌}
use Rattle.rules.specs.Signed.{zigzag}
use Rattle.rules.specs.Delta.{needed, block_at, block_deltas, Deltas, also, at_end, after, blocks_at}
use Rattle.rules.specs.Delta.Deltas.{good, bad}
use Rattle.rules.specs.Delta.{Block}
use Rattle.rules.specs.Delta.Block.{Laid, Unlaid}

pub also-also : (ds es : List ℤ) (x : Deltas) → also ds (also es x) ≡ also (ds ++ es) x
also-also ds es (good fs) = ap good (sym (append_assoc ds es fs))
also-also ds es (bad code) = refl

-- x is the deltas of the blocks that were passed, `done`, and what reading on from here gives
pub record Comes (x : Deltas) (W size minis left : ℕ) (page : List ℕ) (at : ℕ) : Type 0 where
  pub turns : ℕ
  pub enough : left ≤ turns
  pub done : List ℤ
  pub so : x ≡ also done (blocks_at W size minis turns left page at)

unfoldable pub begins : (W size minis left : ℕ) (page : List ℕ) (at : ℕ)
    → Comes (blocks_at W size minis left left page at) W size minis left page at
begins W size minis left page at =
    record { turns = left; enough = omega arith; done = []; so = none (blocks_at W size minis left left page at) }
  where
    none : (x : Deltas) → x ≡ also [] x
    none (good ds) = refl
    none (bad code) = refl

module _ (W size minis left : ℕ) (page : List ℕ) where
  -- the block that is read next, and the deltas of one that was read
  abbrev pub block_here : ℕ → Block
  block_here at = block_at W minis (needed minis (size / minis) left) (size / minis) page at

  abbrev pub deltas_here : ℕ → ℕ → List ℤ
  deltas_here h widths =
      block_deltas (needed minis (size / minis) left) (size / minis) (zigzag h) page widths (widths + minis)

turn : (W size minis left : ℕ) (page : List ℕ) (at turns : ℕ) → 0 < left
    → blocks_at W size minis (suc turns) left page at
    ≡ after size minis left page (λ l next. blocks_at W size minis turns l page next)
    (block_here W size minis left page at)
turn W size minis zero page at turns some = absurd (omega arith)
turn W size minis (suc left) page at turns some = refl

module _ {x : Deltas} {W size minis left : ℕ} {page : List ℕ} {at : ℕ} (some : 0 < left)
    (comes : Comes x W size minis left page at) where
  pub refused : {code : ℕ} → block_here W size minis left page at ≡ Unlaid code → x ≡ bad code
  refused {code} e = go comes.turns comes.enough comes.so
    where
      go : (turns : ℕ) → left ≤ turns → x ≡ also comes.done (blocks_at W size minis turns left page at)
          → x ≡ bad code
      go zero l q = absurd (omega arith)
      go (suc turns) l q =
          q
          ∙ ap (also comes.done)
          (turn W size minis left page at turns some
          ∙ ap (after size minis left page (λ l' n. blocks_at W size minis turns l' page n)) e)

  module _ {h widths next : ℕ} (long : 0 < size) (e : block_here W size minis left page at ≡ Laid h widths next) where
    pub next_from : (turns : ℕ) → left ≤ turns → x ≡ also comes.done (blocks_at W size minis turns left page at)
        → Comes x W size minis (left - size) page next
    next_from zero l q = absurd (omega arith)
    next_from (suc turns) l q =
        record {
          turns = turns;
          enough = omega arith;
          done = comes.done ++ deltas_here W size minis left page h widths;
          so =
              q
              ∙ ap (also comes.done)
              (turn W size minis left page at turns some
              ∙ ap (after size minis left page (λ l' n. blocks_at W size minis turns l' page n)) e)
              ∙ also-also comes.done _ (blocks_at W size minis turns (left - size) page next);
        }

    -- the block that was read is passed, and its deltas are done
    abbrev pub next-block : Comes x W size minis (left - size) page next
    next-block = next_from comes.turns comes.enough comes.so

    pub next-done : next-block.done ≡ comes.done ++ deltas_here W size minis left page h widths
    unfolding next_from
    next-done = go comes.turns comes.enough comes.so
      where
        go : (turns : ℕ) (l : left ≤ turns) (q : x ≡ also comes.done (blocks_at W size minis turns left page at))
            → (next_from turns l q).done ≡ comes.done ++ deltas_here W size minis left page h widths
        go zero l q = absurd (omega arith)
        go (suc turns) l q = refl

pub ended : {x : Deltas} {W size minis left : ℕ} {page : List ℕ} {at : ℕ} (c : Comes x W size minis left page at)
    → left ≤ 0
    → x ≡ also c.done (at_end (ltb at (length page)))
ended {x} {W} {size} {minis} {left} {page} {at} c none = c.so ∙ ap (also c.done) (go c.turns left none)
  where
    go : (turns l : ℕ) → l ≤ 0 → blocks_at W size minis turns l page at ≡ at_end (ltb at (length page))
    go zero zero z = refl
    go (suc turns) zero z = refl
    go turns (suc l) z = absurd (omega arith)

-- ---- on a good page

-- good deltas are those that are done and those that are still to come
pub record Rest (ds done : List ℤ) (x : Deltas) : Type 0 where
  pub rest : List ℤ
  pub whole : ds ≡ done ++ rest
  pub follows : x ≡ good rest

pub good-rest : (ds done : List ℤ) (x : Deltas) → good ds ≡ also done x → Rest ds done x
good-rest ds done (good es) e = record { rest = es; whole = cc; follows = refl }
good-rest ds done (bad code) e = let z : ◌≡◌ {A = ℕ} 0 1 = cc in absurd (omega arith)

pub never : {ds : List ℤ} {code : ℕ} → good ds ≡ bad code → ⊥
never e = let z : ◌≡◌ {A = ℕ} 0 1 = cc in omega arith
