-- What a stream's runs leave, one after the other, where each run's entries below n are put behind those of the
-- runs before it.
use Rattle.std.specs.Prelude.{◌≡◌, refl, Bool, true, false, List, ◌∷◌, ◌++◌, ℕ, zero, suc, ◌+◌, ◌-◌, ◌*◌, ◌≤◌, ◌<◌, min, leb, get_or, replicate}
use Rattle.std.proofs.Common.{sym, ap, ◌∙◌, add_assoc, arith, leb-true, leb-false, get_or-append-add}
use Rattle.std.proofs.Math.ListN.{get_or-append}
use Rattle.rules.specs.Bits.{entry}
use Rattle.rules.specs.Bits.Order.{low_first}
use Rattle.rules.specs.Grammar.Piece.{same, packed}
use Rattle.rules.specs.Grammar.{Piece, entries, piece_entries, cut_entries, Cut}
use Rattle.rules.specs.Grammar.Cut.{done, next}
use Rattle.words.specs.Tabulated.{get_or-tabulate}
use Rattle.runs_read.specs.Entries.{length-piece}
use Rattle.runs_read.specs.TwoPasses.{put_all}

-- entry k of one run
abbrev pub piece_entry : ℕ → Piece → ℕ → ℕ
piece_entry w (same size count value) k = value
piece_entry w (packed size groups body) k = entry low_first body w k

get_or-replicate : (n x k : ℕ) → k < n → get_or (replicate n x) k 0 ≡ x
get_or-replicate zero x k h = absurd (omega arith)
get_or-replicate (suc n) x zero h = refl
get_or-replicate (suc n) x (suc k) h = get_or-replicate n x k (omega arith)

get_or-piece : (w : ℕ) (p : Piece) (k : ℕ) → k < entries p → get_or (piece_entries w p) k 0 ≡ piece_entry w p k
get_or-piece w (same size count value) k h = get_or-replicate count value k h
get_or-piece w (packed size groups body) k h = get_or-tabulate (8 * groups) (entry low_first body w) k 0 h

-- the entries of runs: the first run's, and those of the runs behind it
pub cut-first : (w : ℕ) (p : Piece) (ps : List Piece) (k : ℕ) → k < entries p
    → get_or (cut_entries w (p ∷ ps)) k 0 ≡ piece_entry w p k
unfolding cut_entries
cut-first w p ps k h =
    get_or-append (piece_entries w p) (cut_entries w ps) 0 k (rw (length-piece w p) h) ∙ get_or-piece w p k h

pub cut-rest : (w : ℕ) (p : Piece) (ps : List Piece) (k : ℕ)
    → get_or (cut_entries w (p ∷ ps)) (entries p + k) 0 ≡ get_or (cut_entries w ps) k 0
unfolding cut_entries
cut-rest w p ps k =
    ap (λ (n : ℕ). get_or (piece_entries w p ++ cut_entries w ps) (n + k) 0) (sym (length-piece w p))
    ∙ get_or-append-add (piece_entries w p) (cut_entries w ps) k 0

-- ---- a way of writing: `write i m value out` puts m values behind the i that are in place

module _ {O : Type 0} (n : ℕ) (write : ℕ → ℕ → (ℕ → ℕ) → O → O) where
  -- a run writes its entries below n
  abbrev pub written : ℕ → ℕ → Piece → O → O
  written w i p out = write i (min (entries p) (n - i)) (piece_entry w p) out

  -- what is in place after i entries
  module _ (w : ℕ) (holding : ℕ → (ℕ → ℕ) → O)
      (grows : (i m : ℕ) (f value : ℕ → ℕ) → i + m ≤ n → ((k : ℕ) → k < m → value k ≡ f (i + k))
      → write i m value (holding i f) ≡ holding (i + m) f) where
    -- the last run may reach past n, and then no run follows
    over : (left i : ℕ) (s : List ℕ) (ps : List Piece) (f : ℕ → ℕ) → Cut w left s ps → left ≡ 0
        → put_all (written w) i ps (holding n f) ≡ holding n f
    over left i s ps f done z = refl
    over left i s ps f (next t s' some run cut) z = absurd (omega arith)

    pub covers : (left i : ℕ) (s : List ℕ) (ps : List Piece) (f : ℕ → ℕ) → Cut w left s ps → i + left ≡ n
        → ((k : ℕ) → k < left → f (i + k) ≡ get_or (cut_entries w ps) k 0)
        → put_all (written w) i ps (holding i f) ≡ holding n f
    covers left i s ps f done e agree = ap (λ (k : ℕ). holding k f) (omega arith)
    covers left i s ps f (next {p = p} {ps = qs} t s' some run cut) e agree =
        go (λ e' agree'. covers (left - entries p) (i + entries p) s' qs f cut e' agree')
        (over (left - entries p) (i + entries p) s' qs f cut) (leb (entries p) left) refl
      where
        m : ℕ
        m = min (entries p) (n - i)

        first : write i m (piece_entry w p) (holding i f) ≡ holding (i + m) f
        first =
            grows i m f (piece_entry w p) (omega arith)
            (λ k h. sym (agree k (omega arith) ∙ cut-first w p qs k (omega arith)))

        go :
            (i + entries p + (left - entries p) ≡ n
            → ((k : ℕ) → k < left - entries p → f (i + entries p + k) ≡ get_or (cut_entries w qs) k 0)
            → put_all (written w) (i + entries p) qs (holding (i + entries p) f) ≡ holding n f)
            → (left - entries p ≡ 0 → put_all (written w) (i + entries p) qs (holding n f) ≡ holding n f)
            → (t : Bool) → leb (entries p) left ≡ t
            → put_all (written w) (i + entries p) qs (write i m (piece_entry w p) (holding i f)) ≡ holding n f
        go ih last true fits =
            let few : entries p ≤ left = leb-true _ _ fits in
            let all : i + m ≡ i + entries p = omega arith in
            ap (put_all (written w) (i + entries p) qs) (first ∙ ap (λ (k : ℕ). holding k f) all)
            ∙ ih (omega arith)
            (λ k h. ap f (add_assoc i (entries p) k) ∙ agree (entries p + k) (omega arith) ∙ cut-rest w p qs k)
        go ih last false past =
            let many : left < entries p = leb-false _ _ past in
            let all : i + m ≡ n = omega arith in
            ap (put_all (written w) (i + entries p) qs) (first ∙ ap (λ (k : ℕ). holding k f) all) ∙ last (omega arith)
