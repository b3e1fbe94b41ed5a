-- The entries of a stream that is cut: how many there are, and that each is below 2^w.
use Rattle.std.specs.Prelude.{◌≡◌, refl, Bool, true, false, List, [], ◌∷◌, ◌++◌, ℕ, zero, suc, ◌+◌, ◌-◌, ◌*◌, ◌^◌, ◌<◌, ◌≤◌, ltb, length, replicate}
use Rattle.std.proofs.Common.{arith, length-append, pow_pos, ltb-true, ltb-false}
use Rattle.std.proofs.lemmas.List.{length-replicate}
use Rattle.rules.specs.Bits.{entry}
use Rattle.rules.specs.Bits.Order.{low_first}
use Rattle.rules.specs.Grammar.Piece.{same, packed}
use Rattle.rules.specs.Grammar.{Piece, entries, piece_entries, cut_entries, OneRun, Cut}
use Rattle.rules.specs.Grammar.OneRun.{repeats, packs}
use Rattle.rules.specs.Grammar.Cut.{done, next}
use Rattle.words.specs.Joined.{Small, piece_lt}
use Rattle.words.specs.Tabulated.{length-tabulate, small-tabulate}

pub length-piece : (w : ℕ) (p : Piece) → length (piece_entries w p) ≡ entries p
length-piece w (same size count value) = length-replicate count value
length-piece w (packed size groups body) = length-tabulate (8 * groups) (entry low_first body w)

-- ---- all n entries are there, and at most 7 more

fits : {w left : ℕ} {t : List ℕ} {p : Piece} → OneRun w left t p → entries p ≤ left + 7
fits (repeats t v d some within size small) = omega arith
fits (packs t body d some within size) = within

none_left : {w n : ℕ} {page : List ℕ} {ps : List Piece} → n ≡ 0 → Cut w n page ps → length (cut_entries w ps) ≡ 0
unfolding cut_entries
none_left z done = refl
none_left z (next t s some run cut) = absurd (omega arith)

-- a run that passes the entries left is the last
both : (left own rest : ℕ) → own ≤ left + 7 → rest ≤ left - own + 7 → (left - own ≡ 0 → rest ≡ 0)
    → own + rest ≤ left + 7
both left own rest within more none = go (ltb left own) refl
  where
    go : (past : Bool) → ltb left own ≡ past → own + rest ≤ left + 7
    go true e = let p = ltb-true left own e in omega (arith, none (omega arith))
    go false e = omega (arith, ltb-false left own e)

pub covered : {w n : ℕ} {page : List ℕ} {ps : List Piece} → Cut w n page ps
    → (n ≤ length (cut_entries w ps)) × (length (cut_entries w ps) ≤ n + 7)
unfolding cut_entries
covered done = (omega arith, omega arith)
covered {w} (next {left} {p} {ps} t s some run cut) =
    let rest = covered cut in
    let size = length-append (piece_entries w p) (cut_entries w ps) in
    let own = length-piece w p in (
      omega arith,
      omega (arith, both left (entries p) (length (cut_entries w ps)) (fits run) rest.1 (λ z. none_left z cut)),
    )

-- ---- each is below 2^w

small_append : (d : ℕ) (a b : List ℕ) → Small d a → Small d b → Small d (a ++ b)
small_append d [] b ha hb k = hb k
small_append d (x ∷ a) b ha hb zero = ha zero
small_append d (x ∷ a) b ha hb (suc k) = small_append d a b (λ i. ha (suc i)) hb k

small-replicate : (d n x : ℕ) → x < 2 ^ d → Small d (replicate n x)
small-replicate d zero x h k = pow_pos d
small-replicate d (suc n) x h zero = h
small-replicate d (suc n) x h (suc k) = small-replicate d n x h k

small-piece : {w left : ℕ} {t : List ℕ} {p : Piece} → OneRun w left t p → Small w (piece_entries w p)
small-piece {w} (repeats {count} t v d some within size small) = small-replicate w count _ small
small-piece {w} (packs {groups} t body d some within size) =
    small-tabulate w (8 * groups) (entry low_first body w) (λ i. piece_lt 8 body (i * w) w)

pub cut_small : {w n : ℕ} {page : List ℕ} {ps : List Piece} → Cut w n page ps → Small w (cut_entries w ps)
unfolding cut_entries
cut_small {w} done = λ k. pow_pos w
cut_small {w} (next {p = p} {ps = ps} t s some run cut) =
    small_append w (piece_entries w p) (cut_entries w ps) (small-piece run) (cut_small cut)
