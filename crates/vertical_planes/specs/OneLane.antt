-- One lane, a plane more, in truths: what is undecided of it and what is known.
use Rattle.std.specs.Prelude.{◌≡◌, refl, Bool, true, false, not, ◌&&◌, ◌||◌}
use Rattle.std.proofs.Common.{sym, true≢false}
use Rattle.std.proofs.Math.Bool.{xor}

-- ---- while both ends have the same bits, and where they part

-- l: it is undecided against the low end; h: against the high one
pub sides : (l h : Bool) → l && h ≡ false → (l ≡ ((l || h) && not h)) × (h ≡ ((l || h) && h))
sides true true e = absurd (true≢false e)
sides true false e = (refl, refl)
sides false true e = (refl, refl)
sides false false e = (refl, refl)

-- b: it is below the low end; a: above the high one; e: undecided against both; x its bit; l and h the ends'
pub moved : (b a e x l h : Bool) → b || a ≡ not e
    → ((b || (e && (not x && l))) || (a || (e && (x && not h)))) ≡ (not e || ((not x && l) || (x && not h)))
moved true a true x l h f = absurd (true≢false f)
moved true a false x l h f = refl
moved false true true x l h f = absurd (true≢false f)
moved false true false x l h f = refl
moved false false true x l h f = refl
moved false false false x l h f = absurd (true≢false (sym f))

-- the ends' bits are the same
pub out-same : (e x l : Bool) → (not e || ((not x && l) || (x && not l))) ≡ not (e && not (xor x l))
unfolding xor
out-same false x l = refl
out-same true true true = refl
out-same true true false = refl
out-same true false true = refl
out-same true false false = refl

-- the ends' bits are others
pub open_other : (e x l : Bool) → ((e && not (xor x l)) || (e && not (xor x (not l)))) ≡ e
unfolding xor
open_other false x l = refl
open_other true true true = refl
open_other true true false = refl
open_other true false true = refl
open_other true false false = refl

pub out_other : (e x l : Bool) → (not e || ((not x && l) || (x && not (not l)))) ≡ (not e || l)
out_other e true true = refl
out_other e true false = refl
out_other e false true = refl
out_other e false false = refl

pub xor_other : (x l : Bool) → not (xor x (not l)) ≡ xor x l
unfolding xor
xor_other true true = refl
xor_other true false = refl
xor_other false true = refl
xor_other false false = refl

pub or_same : (t : Bool) → t || t ≡ t
or_same true = refl
or_same false = refl

pub xor-none : (l h : Bool) → xor l h ≡ false → h ≡ l
unfolding xor
xor-none true true e = refl
xor-none true false e = absurd (true≢false e)
xor-none false true e = absurd (true≢false e)
xor-none false false e = refl

pub xor-some : (l h : Bool) → xor l h ≡ true → h ≡ not l
unfolding xor
xor-some true true e = absurd (true≢false (sym e))
xor-some true false e = refl
xor-some false true e = refl
xor-some false false e = absurd (true≢false (sym e))

-- ---- where they have parted

-- one lane: undecided (u), against the high end (s), its bit (x) and the bits of the low and the high end
module _ (u s x l h : Bool) where
  abbrev pub own_end : Bool
  own_end = xor l (s && xor l h)

  abbrev pub stays : Bool
  stays = xor u (u && xor x own_end)

  abbrev pub leaves : Bool
  leaves = (u && xor x own_end) && xor own_end s

-- it stays undecided against its own end, and leaves the band below the low end or above the high one
abbrev pub Own : Bool → Bool → Bool → Bool → Bool → Type 0
Own u s x l h =
    (((u && not s) && not (xor x l)) ≡ (stays u s x l h && not s))
    × (((u && s) && not (xor x h)) ≡ (stays u s x l h && s))
    × (stays u s x l h ≡ (((u && not s) && not (xor x l)) || ((u && s) && not (xor x h))))
    × (leaves u s x l h ≡ (((u && not s) && (not x && l)) || ((u && s) && (x && not h))))

pub own : (u s x l h : Bool) → Own u s x l h
unfolding xor
own false s x l h = (refl, refl, refl, refl)
own true false true true h = (refl, refl, refl, refl)
own true false true false h = (refl, refl, refl, refl)
own true false false true h = (refl, refl, refl, refl)
own true false false false h = (refl, refl, refl, refl)
own true true true true true = (refl, refl, refl, refl)
own true true true true false = (refl, refl, refl, refl)
own true true true false true = (refl, refl, refl, refl)
own true true true false false = (refl, refl, refl, refl)
own true true false true true = (refl, refl, refl, refl)
own true true false true false = (refl, refl, refl, refl)
own true true false false true = (refl, refl, refl, refl)
own true true false false false = (refl, refl, refl, refl)

-- what leaves the band joins what was outside, below and above
pub join : (a b c d : Bool) → ((a || b) || (c || d)) ≡ ((a || c) || (b || d))
join true b c d = refl
join false true true d = refl
join false true false d = refl
join false false c d = refl
