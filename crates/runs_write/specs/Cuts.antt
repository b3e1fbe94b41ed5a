-- How the writer cuts a list: each run takes an entry or more, none reaches past the last group, and the stream
-- goes run by run.
use Rattle.std.specs.Prelude.{◌≡◌, refl, Bool, true, false, cond, List, [], ◌∷◌, ◌++◌, ◌⊎◌, ℕ, zero, suc, ◌+◌, ◌*◌, ◌≤◌, ◌<◌, leb, eqb, length, drop, get_or}
use Rattle.std.proofs.Common.{ap, inl, inr, arith, length-drop, drop-drop, leb-true, leb-false, le-leb, eqb-true}
use Rattle.std.proofs.Math.Logic.{⊎_map}
use Rattle.std.proofs.lemmas.Bool.{lt-leb}
use Rattle.rules.specs.RunWriter.{equal_to, stretch, groups_of, next_run, taken, run_bytes, stream_by, stream}
use Rattle.rules.specs.declared.Next.{Next}
use Rattle.rules.specs.declared.Next.TheVariants.{Repeats, Packs}

-- ---- a stretch of equal entries

equal_le : (x : ℕ) (s : List ℕ) → equal_to x s ≤ length s
unfolding equal_to
equal_le x [] = omega arith
equal_le x (y ∷ s) = go (eqb y x) (equal_le x s)
  where
    go : (t : Bool) → equal_to x s ≤ length s → cond t (suc (equal_to x s)) 0 ≤ suc (length s)
    go true h = omega arith
    go false h = omega arith

equal_each : (x : ℕ) (s : List ℕ) (i : ℕ) → i < equal_to x s → get_or s i 0 ≡ x
unfolding equal_to
equal_each x [] i h = absurd (omega arith)
equal_each x (y ∷ s) i h = go (equal_each x s) (eqb y x) refl i h
  where
    go : ((i : ℕ) → i < equal_to x s → get_or s i 0 ≡ x) → (t : Bool) → eqb y x ≡ t → (i : ℕ)
        → i < cond t (suc (equal_to x s)) 0 → get_or (y ∷ s) i 0 ≡ x
    go later true e zero l = eqb-true y x e
    go later true e (suc i) l = later i (omega arith)
    go later false e i l = absurd (omega arith)

pub stretch_le : (s : List ℕ) → stretch s ≤ length s
unfolding stretch
stretch_le [] = omega arith
stretch_le (x ∷ s) = omega (arith, equal_le x s)

-- its entries are the first
pub stretch_each : (s : List ℕ) (i : ℕ) → i < stretch s → get_or s i 0 ≡ get_or s 0 0
unfolding stretch
stretch_each [] i h = absurd (omega arith)
stretch_each (x ∷ s) zero h = refl
stretch_each (x ∷ s) (suc i) h = equal_each x s i (omega arith)

-- ---- the groups of a packed run

pub groups_le : (more : ℕ) (s : List ℕ) → groups_of more s ≤ more
unfolding groups_of
groups_le zero s = omega arith
groups_le (suc more) [] = omega arith
groups_le (suc more) (x ∷ s) = go (leb 8 (stretch (x ∷ s))) (groups_le more (drop 8 (x ∷ s)))
  where
    go : (t : Bool) → groups_of more (drop 8 (x ∷ s)) ≤ more
        → cond t 0 (suc (groups_of more (drop 8 (x ∷ s)))) ≤ suc more
    go true h = omega arith
    go false h = omega arith

-- a group begins with an entry, so the last of them passes the end by 7 at most
pub groups-within : (more : ℕ) (s : List ℕ) → 8 * groups_of more s ≤ length s + 7
unfolding groups_of
groups-within zero s = omega arith
groups-within (suc more) [] = omega arith
groups-within (suc more) (x ∷ s) = go (leb 8 (stretch (x ∷ s))) (groups-within more (drop 8 (x ∷ s)))
  where
    go : (t : Bool) → 8 * groups_of more (drop 8 (x ∷ s)) ≤ length (drop 8 (x ∷ s)) + 7
        → 8 * cond t 0 (suc (groups_of more (drop 8 (x ∷ s)))) ≤ suc (length s) + 7
    go true h = omega arith
    go false h = omega (arith, length-drop 8 (x ∷ s))

-- they end at a stretch of 8 or more, at the end, or where there may be no more
pub groups_close : (more : ℕ) (s : List ℕ)
    → let g = groups_of more s in (8 ≤ stretch (drop (8 * g) s)) ⊎ (length s ≤ 8 * g) ⊎ (g ≡ more)
unfolding groups_of
groups_close zero s = inr (inr refl)
groups_close (suc more) [] = inr (inl (omega arith))
groups_close (suc more) (x ∷ s) = go (leb 8 (stretch (x ∷ s))) refl (groups_close more (drop 8 (x ∷ s)))
  where
    h : ℕ
    h = groups_of more (drop 8 (x ∷ s))

    go : (t : Bool) → leb 8 (stretch (x ∷ s)) ≡ t
        → (8 ≤ stretch (drop (8 * h) (drop 8 (x ∷ s)))) ⊎ (length (drop 8 (x ∷ s)) ≤ 8 * h) ⊎ (h ≡ more)
        → let g = cond t 0 (suc h) in
        (8 ≤ stretch (drop (8 * g) (x ∷ s))) ⊎ (length (x ∷ s) ≤ 8 * g) ⊎ (g ≡ suc more)
    go true e rest = inl (leb-true 8 (stretch (x ∷ s)) e)
    go false e rest =
        let places : 8 * suc h ≡ 8 + 8 * h = omega arith in
        ⊎_map (λ long. rw (places, ← (drop-drop (8 * h) 8 (x ∷ s))) long)
        (⊎_map (λ end. omega (arith, length-drop 8 (x ∷ s))) (λ all. omega arith)) rest

pub groups-some : (more : ℕ) (s : List ℕ) → 0 < length s → stretch s < 8 → 0 < groups_of (suc more) s
unfolding groups_of
groups-some more [] h l = h
groups-some more (x ∷ s) h l = rw (lt-leb 8 (stretch (x ∷ s)) l) (omega arith)

-- ---- the next run

pub next-repeats : (s : List ℕ) → 8 ≤ stretch s → next_run s ≡ Repeats (stretch s)
unfolding next_run
next-repeats s h = rw (le-leb 8 (stretch s) h)

pub next-packs : (s : List ℕ) → stretch s < 8 → next_run s ≡ Packs (groups_of 63 s)
unfolding next_run
next-packs s h = rw (lt-leb 8 (stretch s) h)

-- what holds of both kinds holds of the next run
pub by_kind : (s : List ℕ) (P : Next → Type 0) → (8 ≤ stretch s → P (Repeats (stretch s)))
    → (stretch s < 8 → P (Packs (groups_of 63 s))) → P (next_run s)
unfolding next_run
by_kind s P repeats packs = go (leb 8 (stretch s)) refl
  where
    go : (t : Bool) → leb 8 (stretch s) ≡ t → P (cond t (Repeats (stretch s)) (Packs (groups_of 63 s)))
    go true e = repeats (leb-true 8 (stretch s) e)
    go false e = packs (leb-false 8 (stretch s) e)

pub taken-some : (s : List ℕ) → 0 < length s → 0 < taken (next_run s)
taken-some s h =
    by_kind s (λ next. 0 < taken next) (λ l. omega arith) (λ l. omega (arith, groups-some 62 s h l))

pub taken-within : (s : List ℕ) → taken (next_run s) ≤ length s + 7
taken-within s =
    by_kind s (λ next. taken next ≤ length s + 7) (λ l. omega (arith, stretch_le s)) (λ l. groups-within 63 s)

-- fewer entries are left behind it
pub fewer_left : (s : List ℕ) → 0 < length s → length (drop (taken (next_run s)) s) < length s
fewer_left s h = omega (arith, length-drop (taken (next_run s)) s, taken-some s h)

-- what holds of no entries, and of a list if it holds of what its first run leaves, holds of every list
pub by_runs : (P : List ℕ → Type 0) → P [] → ((s : List ℕ) → 0 < length s → P (drop (taken (next_run s)) s) → P s)
    → (s : List ℕ) → P s
by_runs P none next s = go (length s) s (omega arith)
  where
    go : (k : ℕ) (s : List ℕ) → length s ≤ k → P s
    go zero [] h = none
    go zero (x ∷ s) h = absurd (omega arith)
    go (suc k) [] h = none
    go (suc k) (x ∷ s) h =
        next (x ∷ s) (omega arith)
        (go k (drop (taken (next_run (x ∷ s))) (x ∷ s)) (omega (arith, fewer_left (x ∷ s) (omega arith))))

-- ---- the stream

-- where there are turns enough, it makes no difference how many more there could be
turns-enough : (w k j : ℕ) (s : List ℕ) → length s ≤ k → length s ≤ j → stream_by w k s ≡ stream_by w j s
turns-enough w zero zero s h l = refl
turns-enough w zero (suc j) [] h l = refl
turns-enough w zero (suc j) (x ∷ s) h l = absurd (omega arith)
turns-enough w (suc k) zero [] h l = refl
turns-enough w (suc k) zero (x ∷ s) h l = absurd (omega arith)
turns-enough w (suc k) (suc j) [] h l = refl
turns-enough w (suc k) (suc j) (x ∷ s) h l =
    let next = next_run (x ∷ s) in
    let less : length (drop (taken next) (x ∷ s)) ≤ length s = omega (arith, fewer_left (x ∷ s) (omega arith)) in
    ap (λ (l : List ℕ). run_bytes w (x ∷ s) next ++ l)
    (turns-enough w k j (drop (taken next) (x ∷ s)) (omega arith) (omega arith))

pub stream-none : (w : ℕ) → stream w [] ≡ []
unfolding stream
stream-none w = refl

-- the bytes of the next run, and behind them those of the entries that it leaves
pub stream-turn : (w : ℕ) (s : List ℕ) → 0 < length s
    → stream w s ≡ run_bytes w s (next_run s) ++ stream w (drop (taken (next_run s)) s)
unfolding stream
stream-turn w [] h = absurd (omega arith)
stream-turn w (x ∷ s) h =
    let next = next_run (x ∷ s) in
    let rest = drop (taken next) (x ∷ s) in
    ap (λ (l : List ℕ). run_bytes w (x ∷ s) next ++ l)
    (turns-enough w (length s) (length rest) rest (omega (arith, fewer_left (x ∷ s) (omega arith))) (omega arith))
