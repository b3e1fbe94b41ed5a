-- Laws of a line's text: what is laid out piece by piece is laid out at once, and a full line keeps what it holds.
use Rattle.std.specs.Prelude.{◌≡◌, refl, Bool, cond, List, [], ◌∷◌, ◌++◌, map, set, get_or, ℤ, pos, negsuc, unsigned_abs}
use Rattle.std.proofs.Math.Path.{sym, ap}
use Rattle.std.proofs.Common.{◌∙◌, append_assoc, append-nil, add-one, arith, take-suc, le-ltb}
use Prim.Native.Nat.{ℕ, zero, suc, ◌+◌, ◌-◌, ◌≤◌, ◌<◌, min}
use Rattle.std.proofs.Math.ListN.{take, length, replicate, length-take, length-append}
use Rattle.std.proofs.lemmas.List.{length-map, take-append-le}
use Rattle.std.proofs.Math.Seq.{take_all, take-suc-set}
use lib.Signed.{lt_z}
use Rattle.lines.specs.Text.{laid, decimal, signed_decimal, spelled, padding}

take_more : (n : ℕ) (l a : List ℕ) → take n (take n l ++ a) ≡ take n (l ++ a)
take_more zero l a = refl
take_more (suc n) [] a = refl
take_more (suc n) (x ∷ l) a = ap (λ r. x ∷ r) (take_more n l a)

pub laid-laid : (text a b : List ℕ) → laid (laid text a) b ≡ laid text (a ++ b)
unfolding laid
laid-laid text a b = take_more 120 (text ++ a) b ∙ ap (λ l. take 120 l) (append_assoc text a b)

pub laid-none : (text a : List ℕ) → laid text a ≡ laid (laid text a) []
laid-none text a = sym (laid-laid text a [] ∙ ap (λ l. laid text l) (append-nil a))

pub three : (text : List ℕ) (a b c : ℕ)
    → laid (laid (laid text (a ∷ [])) (b ∷ [])) (c ∷ []) ≡ laid text (a ∷ b ∷ c ∷ [])
three text a b c = ap (λ t. laid t (c ∷ [])) (laid-laid text (a ∷ []) (b ∷ [])) ∙ laid-laid text (a ∷ b ∷ []) (c ∷ [])

take-replicate : (n m a : ℕ) → n ≤ m → take n (replicate m a) ≡ replicate n a
take-replicate zero m a h = refl
take-replicate (suc n) zero a h = absurd (omega arith)
take-replicate (suc n) (suc m) a h = ap (λ r. a ∷ r) (take-replicate n m a (omega arith))

-- the 120 places of a line, as an array's are known
pub sized : (text : List ℕ) → length (map (λ (v : ℕ). v) text) ≡ 120 → length text ≡ 120
sized text e = sym (length-map text (λ (v : ℕ). v)) ∙ e

-- ---- a line's text: the used part of 120 places

module _ (text : List ℕ) (used : ℕ) (long : length text ≡ 120) where
  -- a full line keeps what it holds
  pub full : (more : List ℕ) → 120 ≤ used → take used text ≡ laid (take used text) more
  unfolding laid
  full more h =
      let all = take_all used text (omega arith) in
      rw all (sym (take-append-le 120 text more (omega arith) ∙ take_all 120 text (omega arith)))

  pub none : take used text ≡ laid (take used text) []
  unfolding laid
  none =
      sym
      (ap (λ l. take 120 l) (append-nil (take used text))
      ∙ take_all 120 (take used text) (omega (arith, length-take used text)))

  pub one : (b : ℕ) → used < 120 → take (used + 1) (set text used b) ≡ laid (take used text) (b ∷ [])
  unfolding laid
  one b h =
      rw (add-one used, take-suc-set text used b (omega arith))
      (sym
      (take_all 120 (take used text ++ (b ∷ []))
      (omega (arith, length-append (take used text) (b ∷ []), length-take used text))))

  -- the blanks that are missing up to a place
  pub padded : (at k : ℕ) → k ≡ min at 120 - used
      → laid (take used text) (take k (replicate 120 32)) ≡ laid (take used text) (padding at (take used text))
  unfolding padding
  padded at k e =
      let same : k ≡ min at 120 - length (take used text) = omega (arith, length-take used text) in
      ap (λ l. laid (take used text) l) (take-replicate k 120 32 (omega arith) ∙ ap (λ n. replicate n 32) same)

-- ---- signed numbers

-- by its sign and its distance from 0
pub sign-digits : (z : ℤ) (below : Bool) (d : ℕ) → lt_z z (pos 0) ≡ below → d ≡ unsigned_abs z
    → cond below (45 ∷ decimal d) (decimal d) ≡ signed_decimal z
unfolding signed_decimal
sign-digits (pos n) below d is e = rw (← is, e, le-ltb n 0 (omega arith))
sign-digits (negsuc n) below d is e = rw (← is, e)

-- ---- lists

pub next : (held text : List ℕ) (words : List ℕ) (i : ℕ) → i < length words → text ≡ laid held (take i words)
    → laid text (get_or words i 0 ∷ []) ≡ laid held (take (i + 1) words)
next held text words i h e =
    ap (λ t. laid t (get_or words i 0 ∷ [])) e ∙ laid-laid held (take i words) (get_or words i 0 ∷ [])
    ∙ ap (λ l. laid held l) (sym (ap (λ k. take k words) (add-one i) ∙ take-suc words i 0 h))

module _ {A : Type 0} (f : A → List ℕ) (text whole : List ℕ) where
  -- the first of the rest is spelled behind a blank, and the others behind it
  pub spelled-next : (n m : ℕ) (x : A) (rest more : List A) → rest ≡ x ∷ more → m + 1 ≡ n
      → laid text (spelled f (take n rest)) ≡ whole
      → laid (laid (laid text (32 ∷ [])) (f x)) (spelled f (take m more)) ≡ whole
  unfolding spelled
  spelled-next n m x rest more is one e =
      let suc-m : n ≡ suc m = omega arith in
      ap (λ t. laid t (spelled f (take m more))) (laid-laid text (32 ∷ []) (f x))
      ∙ laid-laid text (32 ∷ f x) (spelled f (take m more))
      ∙ (rw (suc-m, is) at e)

  -- there is no rest
  pub spelled_all : (n : ℕ) (rest : List A) → (0 < n → length rest ≡ 0) → text ≡ laid text []
      → laid text (spelled f (take n rest)) ≡ whole → text ≡ whole
  unfolding spelled
  spelled_all zero rest none same e = same ∙ e
  spelled_all (suc n) [] none same e = same ∙ e
  spelled_all (suc n) (x ∷ rest) none same e = absurd (omega (arith, none (omega arith)))
