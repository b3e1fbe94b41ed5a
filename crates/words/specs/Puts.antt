-- The laws of `put`, and of a part that was lent and came back.
use Rattle.std.specs.Prelude.{◌≡◌, take, drop, get_or, set}
use Rattle.std.proofs.Math.Path.{sym}
use Rattle.std.proofs.Common.{ap, ◌∙◌, add-zero, zero-add, add-one, length-drop, take-append-drop, drop_of_length-le, take-suc, take_all}
use mathlib.Core.List.{List, [], ◌∷◌, ◌++◌, append_assoc, append-nil}
use Prim.Native.Nat.{ℕ, ◌+◌, ◌-◌, ◌≤◌, ◌<◌}
use Rattle.std.proofs.Math.Nat.{add_assoc}
use native.Mathlib.Omega.{arith}
use Rattle.std.proofs.Math.ListN.{length, length-append}
use Rattle.std.proofs.Math.Seq.{drop-drop, length-take-le, take_at, drop_at, set_split, append_snoc, drop-append-add}
use borrow.Rule.Slice.PartMut.{put_mid}
use Rattle.rules.specs.Bits.{put}

module _ {A : Type 0} where
  pub length-put : (l : List A) (at : ℕ) (vs : List A) → at + length vs ≤ length l → length (put l at vs) ≡ length l
  unfolding put
  length-put l at vs h = simp (length-append, length-take-le at l (omega arith), length-drop) (omega arith)

  pub put-none : (l : List A) (at : ℕ) → l ≡ put l at []
  unfolding put
  put-none l at = sym (rw (append-nil, add-zero) (take-append-drop at l))

  -- one after another
  pub put-put : (l a b : List A) (at : ℕ) → at + length a + length b ≤ length l
      → put (put l at a) (at + length a) b ≡ put l at (a ++ b)
  unfolding put
  put-put l a b at h =
      let m : ℕ = at + length a in
      let p : length (take at l ++ a) ≡ m = length-append (take at l) a ∙ rw (length-take-le at l (omega arith)) in
      rw (
        take_at (take at l ++ a) (drop m l) m p,
        ← drop-drop,
        drop_at (take at l ++ a) (drop m l) m p,
        drop-drop,
        length-append,
        ← add_assoc,
        ← append_assoc,
      )

  -- a list is stored, and then another behind it
  pub put-behind : (l : List A) (at : ℕ) (a b : List A) {l₁ l₂ : List A} {i : ℕ} → l₁ ≡ put l at a
      → i ≡ at + length a → l₂ ≡ put l₁ i b → at + length a + length b ≤ length l → l₂ ≡ put l at (a ++ b)
  put-behind l at a b first next second h = second ∙ rw (first, next) (put-put l a b at h)

  -- vs was put into l from place `at` on: what is there now, and the next place
  pub record Stored (l : List A) (at : ℕ) (vs now : List A) (next : ℕ) : Type 0 where
    pub stored : now ≡ put l at vs
    pub reached : next ≡ at + length vs
    pub long : length now ≡ length l

  pub stored-first : (l : List A) (at : ℕ) (vs : List A) {now : List A} {next : ℕ} → now ≡ put l at vs
      → next ≡ at + length vs → at + length vs ≤ length l → Stored l at vs now next
  stored-first l at vs e f h = record { stored = e; reached = f; long = ap length e ∙ length-put l at vs h }

  -- and more behind it
  pub stored-behind : {l : List A} {at : ℕ} {a l₁ : List A} {i : ℕ} (b : List A) {l₂ : List A} {j : ℕ}
      → Stored l at a l₁ i → l₂ ≡ put l₁ i b → j ≡ i + length b
      → i + length b ≤ length l₁ → Stored l at (a ++ b) l₂ j
  stored-behind {l} {at} {a} {l₁} {i} b s e f h =
      let size = length-append a b in
      let in_place = s.reached in
      let same = s.long in
      record {
        stored = put-behind l at a b s.stored s.reached e (omega arith);
        reached = omega arith;
        long = ap length e ∙ length-put l₁ i b h ∙ s.long;
      }

  -- a store to one place
  pub set-put : (l : List A) (i : ℕ) (x : A) → i < length l → set l i x ≡ put l i (x ∷ [])
  unfolding put
  set-put l i x h = set_split l i x h ∙ rw (← (add-one i)) (sym (append_snoc (take i l) x (drop (i + 1) l)))

  -- one element more behind those that are in place
  pub put_snoc : (l a : List A) (at i : ℕ) (x : A) → i ≡ at + length a → i < length l
      → set (put l at a) i x ≡ put l at (a ++ (x ∷ []))
  put_snoc l a at i x e h =
      let long : i < length (put l at a) = rw (length-put l at a (omega arith)) h in
      set-put (put l at a) i x long ∙ ap (λ (k : ℕ). put (put l at a) k (x ∷ [])) e
      ∙ put-put l a (x ∷ []) at (omega arith)

  -- a copy's turn
  pub put-take : (l s : List A) (i : ℕ) (d : A) → i < length l → i < length s
      → set (put l 0 (take i s)) i (get_or s i d) ≡ put l 0 (take (i + 1) s)
  put-take l s i d h k =
      let size : length (take i s) ≡ i = length-take-le i s (omega arith) in
      put_snoc l (take i s) 0 i (get_or s i d) (omega arith) h
      ∙ ap (put l 0) (sym (take-suc s i d k) ∙ ap (λ (n : ℕ). take n s) (sym (add-one i)))

  -- the part of a list from a on, as it is lent, and the list when it is back
  pub part_rest : (l : List A) (a : ℕ) → take (length l - a) (drop a l) ≡ drop a l
  part_rest l a = take_all (length l - a) (drop a l) (simp length-drop (omega arith))

  pub back-rest : (l ys : List A) (a : ℕ) → take a l ++ (ys ++ drop (length l - a) (drop a l)) ≡ take a l ++ ys
  back-rest l ys a =
      let none : drop (length l - a) (drop a l) ≡ [] =
      drop_of_length-le (drop a l) {i = length l - a} (simp length-drop (omega arith)) in
      rw (none, append-nil)

  -- what was put at the front of the lent part is put from a on
  pub put_part : (l vs : List A) (a : ℕ) → take a l ++ put (drop a l) 0 vs ≡ put l a vs
  unfolding put
  put_part l vs a = rw (drop-drop, zero-add) (sym (append_assoc (take a l) vs (drop (a + length vs) l)))

  -- a part that was lent from a on and came back with vs at its front
  pub part_put : (l ys vs : List A) (a : ℕ) → ys ≡ put (take (length l - a) (drop a l)) 0 vs
      → take a l ++ (ys ++ drop (length l - a) (drop a l)) ≡ put l a vs
  part_put l ys vs a e =
      back-rest l ys a ∙ ap (λ (y : List A). take a l ++ y) (e ∙ ap (λ (y : List A). put y 0 vs) (part_rest l a))
      ∙ put_part l vs a

  -- as many as there are
  pub put-all : (l vs : List A) → length l ≡ length vs → put l 0 vs ≡ vs
  unfolding put
  put-all l vs e = rw (zero-add, drop_of_length-le l {i = length vs} (omega arith)) (append-nil vs)

  -- the part from `at` to i, which was lent and holds vs
  pub part-put : (l vs : List A) (at i : ℕ) → i ≡ at + length vs → put_mid at (i - at) l vs ≡ put l at vs
  unfolding put
  part-put l vs at i e =
      let few : i - at ≡ length vs = omega arith in
      rw (few, drop-drop) (sym (append_assoc (take at l) vs (drop (at + length vs) l)))

  -- a list in place of a shorter one in front of what was behind it
  pub put_longer : (l b c : List A) (a : ℕ) → length b ≤ length c
      → put (b ++ drop (a + length b) l) 0 c ≡ c ++ drop (a + length c) l
  unfolding put
  put_longer l b c a h =
      let k : ℕ = length c - length b in
      let e : 0 + length c ≡ length b + k = omega arith in
      let f : a + length b + k ≡ a + length c = omega arith in
      rw (e, drop-append-add, drop-drop, f)

  -- two lists in place, the first of them a long
  pub split-put : (l u v : List A) (a : ℕ) → length u ≡ a → put l 0 (u ++ v) ≡ u ++ (v ++ drop (a + length v) l)
  unfolding put
  split-put l u v a h =
      let e : 0 + length (u ++ v) ≡ a + length v = omega (arith, length-append u v) in
      rw e (append_assoc u v (drop (a + length v) l))

  -- a list in place of a shorter one
  over-front : (l a b : List A) → length a ≤ length b → put (put l 0 a) 0 b ≡ put l 0 b
  unfolding put
  over-front l a b few = put_longer l a b 0 few

  pub put_over : (l a b : List A) (p : ℕ) → p ≤ length l → length a ≤ length b → put (put l p a) p b ≡ put l p b
  put_over l a b p h few =
      let front : length (take p l) ≡ p = length-take-le p l h in
      let rest : List A = put (drop p l) 0 a in
      sym (put_part (put l p a) b p) ∙ ap (λ (k : List A). take p k ++ put (drop p k) 0 b) (sym (put_part l a p))
      ∙ rw (take_at (take p l) rest p front, drop_at (take p l) rest p front, over-front (drop p l) a b few)
      (put_part l b p)

  -- or over its end, and past it
  pub put-end : (l u v w : List A) (at i : ℕ) → i ≡ at + length u → i + length w ≤ length l → length v ≤ length w
      → put (put l at (u ++ v)) i w ≡ put l at (u ++ w)
  put-end l u v w at i e h few =
      ap (λ (k : ℕ). put (put l at (u ++ v)) k w) e
      ∙ ap (λ (k : List A). put k (at + length u) w) (sym (put-put l u v at (omega arith)))
      ∙ put_over (put l at u) v w (at + length u) (omega (arith, length-put l at u (omega arith))) few
      ∙ put-put l u w at (omega arith)
