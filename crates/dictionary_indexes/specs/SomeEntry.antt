-- Whether some entry of a stream passes a test, found run by run while the stream is judged.
use Rattle.std.specs.Prelude.{◌≡◌, refl, Bool, false, ◌||◌, List, ℕ, ◌+◌, ◌-◌, ◌*◌, ◌≤◌, ◌<◌, get_or}
use Rattle.std.proofs.Common.{sym, ap, subst, ◌∙◌, arith}
use Prim.{tt}
use Rattle.rules.specs.Answer.{faulty, ◌then◌}
use Rattle.rules.specs.Bits.{some_below}
use Rattle.rules.specs.Runs.{run_at, read, stream_fault, stream_entry}
use Rattle.rules.specs.Runs.Run.{Repeated, Packed, Refused}
use Rattle.rules.specs.Grammar.{Piece, cut_entries, Cut}
use Rattle.answers.specs.Laws.{then_found, then_none}
use Rattle.runs_read.specs.Exact.{exact, accepted}
use Rattle.runs_read.specs.RunRead.{Shown, refuses, shown}
use Rattle.runs_read.specs.TwoPasses.{judge, judge-comes, pass, pass-cut}
use Rattle.runs_read.specs.Walks.{Comes, on_refused, on_repeated, on_packed}
use Rattle.runs_walk.specs.Covered.{written, covers}
use Rattle.runs_walk.specs.CountedTurns.{OfValues}
use Rattle.words.specs.SomeBelow.{some-ext, some_add, some_same}

-- ---- a pass

-- found among the entries before, or among m more
abbrev pub seeks : (ℕ → Bool) → ℕ → ℕ → (ℕ → ℕ) → Bool → Bool
seeks test i m value found = found || some_below m (λ k. test (value k))

pub seeks-values : (test : ℕ → Bool) → OfValues (seeks test)
seeks-values test i m f g found same = ap (λ (t : Bool). found || t) (some-ext m (λ k h. ap test (same k h)))

-- what a pass over a page finds
unfoldable pub sought : (ℕ → Bool) → ℕ → ℕ → List ℕ → Bool
sought test w n page = pass (written n (seeks test) w) w n page false

pub sought-pass : (test : ℕ → Bool) (w n : ℕ) (page : List ℕ)
    → sought test w n page ≡ pass (written n (seeks test) w) w n page false
unfolding sought
sought-pass test w n page = refl

-- over a stream without a fault
pub sought-read : (test : ℕ → Bool) (w n : ℕ) (page : List ℕ) → stream_fault (read w n page) ≡ 0
    → sought test w n page ≡ some_below n (λ i. test (stream_entry w (read w n page) i))
unfolding sought some_below
sought-read test w n page none = go ((accepted w n page).0 none).0 ((accepted w n page).0 none).1
  where
    holding : ℕ → (ℕ → ℕ) → Bool
    holding i f = some_below i (λ k. test (f k))

    grows : (i m : ℕ) (f value : ℕ → ℕ) → i + m ≤ n → ((k : ℕ) → k < m → value k ≡ f (i + k))
        → seeks test i m value (holding i f) ≡ holding (i + m) f
    grows i m f value fits e =
        seeks-values test i m value (λ k. f (i + k)) (holding i f) e ∙ some_add i m (λ k. test (f k))

    go : (ps : List Piece) → Cut w n page ps
        → pass (written n (seeks test) w) w n page false ≡ some_below n (λ i. test (stream_entry w (read w n page) i))
    go ps cut =
        pass-cut (written n (seeks test) w) w n page ps false cut
        ∙ covers n (seeks test) w holding grows n 0 page ps (λ i. get_or (cut_entries w ps) i 0) cut (omega arith)
        (λ k h. ap (λ (i : ℕ). get_or (cut_entries w ps) i 0) (omega arith))
        ∙ ap (λ s. some_below n (λ i. test (stream_entry w s i))) (sym ((exact w n page ps).1 cut))

-- a turn by a repeated run
pub seeks-same : (test : ℕ → Bool) (i m value : ℕ) (found : Bool) {new : Bool} → 0 < m → new ≡ (found || test value)
    → new ≡ seeks test i m (λ _. value) found
seeks-same test i m value found h e = e ∙ ap (λ (t : Bool). found || t) (sym (some_same m (test value) h))

-- ---- the code is what judging on from here gives, where i entries of n are covered

-- a run that is refused has a code
some_code : (w left : ℕ) (page : List ℕ) (at : ℕ) {code : ℕ} → run_at w left page at ≡ Refused code → 0 < code
some_code w left page at e = go (subst (Shown w left page at) e (shown w left page at))
  where
    go : {code : ℕ} → Shown w left page at (Refused code) → 0 < code
    go (refuses code some) = some.0

module _ (w n : ℕ) (page : List ℕ) where
  abbrev pub judging : ℕ → ℕ → Type 0
  judging at i = Comes judge (stream_fault (read w n page)) w (n - i) page at tt

  pub judging-begins : judging 0 0
  judging-begins =
      let all : n ≡ n - 0 = omega arith in
      subst (λ (left : ℕ). Comes judge (stream_fault (read w n page)) w left page 0 tt) all (judge-comes w n page)

  module _ {at i : ℕ} (some : i < n) (comes : judging at i) where
    pub judging-repeated : {count value next : ℕ} → run_at w (n - i) page at ≡ Repeated count value next
        → judging next (i + count)
    judging-repeated {count} {value} {next} q =
        let rest : n - i - count ≡ n - (i + count) = omega arith in
        subst (λ (left : ℕ). Comes judge (stream_fault (read w n page)) w left page next tt) rest
        (on_repeated judge (omega arith) comes q)

    pub judging-packed : {groups start next : ℕ} → run_at w (n - i) page at ≡ Packed groups start next
        → judging next (i + 8 * groups)
    judging-packed {groups} {start} {next} q =
        let rest : n - i - 8 * groups ≡ n - (i + 8 * groups) = omega arith in
        subst (λ (left : ℕ). Comes judge (stream_fault (read w n page)) w left page next tt) rest
        (on_packed judge (omega arith) comes q)

    pub judging-refused : {code : ℕ} (other : ℕ) → run_at w (n - i) page at ≡ Refused code
        → (stream_fault (read w n page) then other) ≡ code
    judging-refused other q =
        let left : 0 < n - i = omega arith in
        then_found _ other _ (on_refused judge left comes q) (λ z. omega (arith, some_code w (n - i) page at q))

  -- no fault: what was found decides
  pub then_sought : (test : ℕ → Bool) (found : Bool) → stream_fault (read w n page) ≡ 0 → sought test w n page ≡ found
      → (stream_fault (read w n page) then faulty (some_below n (λ i. test (stream_entry w (read w n page) i))) 15)
      ≡ faulty found 15
  then_sought test found none e =
      then_none _ _ none ∙ ap (λ (t : Bool). faulty t 15) (sym (sought-read test w n page none) ∙ e)
