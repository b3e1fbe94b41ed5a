-- Bits put from the first bit of a byte on are bytes put.
use Rattle.std.specs.Prelude.{◌≡◌, refl, Bool, List, ◌++◌, ℕ, zero, suc, ◌+◌, ◌*◌, ◌/◌, ◌%◌, ◌^◌, ◌≤◌, ◌<◌, length, take, drop, get_or, replicate}
use Rattle.std.proofs.Common.{sym, ap, ◌∙◌, append_assoc, arith, length-drop, drop-drop}
use Rattle.std.proofs.lemmas.List.{length-take-le}
use Rattle.rules.specs.Bits.{ceil, word, bytes, put}
use Rattle.words.specs.Bits.{word_lt, word_add}
use Rattle.words.specs.Bytes.{length-bytes}
use Rattle.words.specs.Puts.{put_part}
use Rattle.words.specs.Appended.{appended}

pub appended-whole : (l : List ℕ) (a x m : ℕ) → appended l (8 * a) x m ≡ put l a (bytes (ceil m 8) x)
unfolding appended
appended-whole l a x m =
    let byte : 8 * a / 8 ≡ a = omega arith in
    let place : 8 * a % 8 ≡ 0 = omega arith in
    let size : 0 + m ≡ m = omega arith in
    let value : x * 2 ^ 0 + get_or (drop a l) 0 0 % 2 ^ 0 ≡ x = omega arith in
    rw (byte, place, size, value) (put_part l (bytes (ceil m 8) x) a)

-- k entries of one kind, eight in a byte, are bytes that are all the same
bytes-same : (k : ℕ) (t : Bool) → bytes k (word (8 * k) (λ _. t)) ≡ replicate k (word 8 (λ _. t))
unfolding bytes word
bytes-same zero t = refl
bytes-same (suc k) t =
    let x : ℕ = word 8 (λ _. t) in
    let y : ℕ = word (8 * k) (λ _. t) in
    let size : 8 * suc k ≡ 8 + 8 * k = omega arith in
    let both : word (8 * suc k) (λ _. t) ≡ x + y * 256 =
    ap (λ (m : ℕ). word m (λ _. t)) size ∙ word_add 8 (8 * k) (λ _. t) in
    let small : x < 256 = word_lt 8 (λ _. t) in
    let low : (x + y * 256) % 256 ≡ x = omega arith in
    let high : (x + y * 256) / 256 ≡ y = omega arith in
    rw (both, low, high, bytes-same k t)

-- k bytes filled from byte a on are eight times as many entries put
pub filled-whole : (l ys : List ℕ) (a n k byte : ℕ) (t : Bool) → n ≡ k → a + k ≤ length l → byte ≡ word 8 (λ _. t)
    → ys ≡ replicate (length (take n (drop a l))) byte
    → take a l ++ (ys ++ drop n (drop a l)) ≡ appended l (8 * a) (word (8 * k) (λ _. t)) (8 * k)
unfolding put
filled-whole l ys a n k byte t all room same e =
    let x : ℕ = word (8 * k) (λ _. t) in
    let size : ceil (8 * k) 8 ≡ k = omega arith in
    let few : n ≤ length (drop a l) = omega (arith, length-drop a l) in
    let many : length (take n (drop a l)) ≡ k = length-take-le n (drop a l) few ∙ all in
    let filled : ys ≡ bytes k x = rw (many, same) at e ∙ sym (bytes-same k t) in
    let rest : drop n (drop a l) ≡ drop (a + length (bytes k x)) l =
    drop-drop n a l ∙ ap (λ (i : ℕ). drop i l) (omega (arith, length-bytes k x)) in
    rw (appended-whole, size, filled, rest) (sym (append_assoc (take a l) (bytes k x) _))
