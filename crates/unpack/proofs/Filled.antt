-- A part of places that `fill` filled with one value.
use Rattle.std.proofs.Common.{◌≡◌, ℕ, ◌+◌, List, ◌++◌, length, take, drop, refl, sym, ap, ap₂, ◌∙◌, [], append_assoc, append-nil, drop-drop, drop_of_length-le, length-take, arith}
use Rattle.std.specs.Prelude.{replicate}
use borrow.Rule.Slice.PartMut.{put_mid}
use Rattle.rules.specs.Bits.{put, tabulate}
use Rattle.words.specs.Tabulated.{length-tabulate, tabulate-same}

-- the m places from p on
pub filled : {A : Type 0} (l part : List A) (p k n m : ℕ) (v : A) → part ≡ replicate n v → n ≡ m → k ≡ m
    → put_mid p k l part ≡ put l p (tabulate m (λ _. v))
unfolding put
filled {A} l part p k n m v same long wide =
    let all : part ≡ tabulate m (λ _. v) =
    same ∙ ap (λ (j : ℕ). replicate j v) long ∙ sym (tabulate-same m (λ _. v) v (λ i h. refl)) in
    let behind : drop k (drop p l) ≡ drop (p + length (tabulate m (λ _. v))) l =
    drop-drop k p l ∙ ap (λ (j : ℕ). drop (p + j) l) (wide ∙ sym (length-tabulate m (λ _. v))) in
    ap₂ (λ (a b : List A). take p l ++ (a ++ b)) all behind
    ∙ sym (append_assoc (take p l) (tabulate m (λ _. v)) (drop (p + length (tabulate m (λ _. v))) l))

-- the first places, all of them filled, and the others behind them
pub front : {A : Type 0} (l xs : List A) (m : ℕ) → length xs ≡ m → put (take m l) 0 xs ++ drop m l ≡ put l 0 xs
unfolding put
front l xs m long =
    let none : drop (0 + m) (take m l) ≡ [] = drop_of_length-le (take m l) (rw length-take (omega arith)) in
    let all : 0 + m ≡ m = omega arith in
    rw (long, none, append-nil, all)
