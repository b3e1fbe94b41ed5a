-- A stream is accepted exactly where the grammar can cut it, and it is cut in one way only.
use Rattle.std.specs.Prelude.{◌↔◌, ◌≡◌, refl, Bool, true, false, List, ℕ, zero, suc, ◌<◌, ltb, length}
use Rattle.std.proofs.Common.{ap, arith}
use Rattle.rules.specs.Runs.{Stream, also, at_end, after, read_at, read, stream_fault}
use Rattle.rules.specs.Runs.Stream.{good, bad}
use Rattle.rules.specs.Grammar.{Piece, Cut}
use Rattle.rules.specs.Runs.{Run}
use Rattle.runs_read.specs.RunRead.{Shown, refuses, repeats, packs, shown}
use Rattle.runs_read.specs.Complete.{complete}
use Rattle.runs_read.specs.Sound.{sound}

-- with these runs, where it is cut into them
pub exact : (w n : ℕ) (page : List ℕ) (ps : List Piece) → (read w n page ≡ good ps) ↔ Cut w n page ps
unfolding read
exact w n page ps = (λ e. sound w n n page 0 ps e, λ cut. complete cut n (omega arith) page 0 refl)

pub unique : (w n : ℕ) (page : List ℕ) (ps qs : List Piece) → Cut w n page ps → Cut w n page qs → ps ≡ qs
unique w n page ps qs c d = let e = (exact w n page ps).1 c in let f = (exact w n page qs).1 d in cc

-- ---- no fault is code 0

ended : (over : Bool) {code : ℕ} → at_end over ≡ bad code → 0 < code
ended true {code} e = let c : 6 ≡ code = cc in omega arith
ended false e = let z : ◌≡◌ {A = ℕ} 0 1 = cc in absurd (omega arith)

also-bad : {code : ℕ} (p : Piece) (s : Stream) → (s ≡ bad code → 0 < code) → also p s ≡ bad code → 0 < code
also-bad p (good ps) h e = let z : ◌≡◌ {A = ℕ} 0 1 = cc in absurd (omega arith)
also-bad p (bad c) h e = h e

some-fault : (w turns left : ℕ) (page : List ℕ) (at : ℕ) {code : ℕ} → read_at w turns left page at ≡ bad code
    → 0 < code
some-fault w zero zero page at e = ended (ltb at (length page)) e
some-fault w (suc turns) zero page at e = ended (ltb at (length page)) e
some-fault w zero (suc left) page at {code} e = let c : 5 ≡ code = cc in omega arith
some-fault w (suc turns) (suc left) page at {code} e =
    go (λ l next. some-fault w turns l page next) (shown w (suc left) page at) e
  where
    go : ((l next : ℕ) → read_at w turns l page next ≡ bad code → 0 < code) → {r : Run} → Shown w (suc left) page at r
        → after w (suc left) page at (λ l next. read_at w turns l page next) r ≡ bad code → 0 < code
    go rest (refuses c fault) q = let f : c ≡ code = cc in omega arith
    go rest (repeats h p x even some fits there small) q = also-bad _ _ (rest _ _) q
    go rest (packs h p x odd some fits there) q = also-bad _ _ (rest _ _) q

-- ---- the code, and whether there is a way to cut the stream

pub accepted : (w n : ℕ) (page : List ℕ) → (stream_fault (read w n page) ≡ 0) ↔ ((ps : List Piece) × Cut w n page ps)
unfolding read
accepted w n page =
    (λ e. go (read w n page) refl e, λ found. ap stream_fault ((exact w n page found.0).1 found.1))
  where
    go : (s : Stream) → read w n page ≡ s → stream_fault s ≡ 0 → (ps : List Piece) × Cut w n page ps
    go (good ps) e z = (ps, (exact w n page ps).0 e)
    go (bad code) e z = absurd (omega (arith, some-fault w n n page 0 e))
