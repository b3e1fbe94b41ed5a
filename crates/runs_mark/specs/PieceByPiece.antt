-- A number's bits put piece by piece, the low ones first.
use Rattle.std.specs.Prelude.{◌≡◌, List, ℕ, ◌+◌, ◌*◌, ◌/◌, ◌%◌, ◌^◌, ◌≤◌, ◌<◌, length, take, drop}
use Rattle.std.proofs.Common.{sym, ap, ◌∙◌, div-one, mod-lt, mod-eq_of_lt, lt_of_lt_of_le, add_comm, arith, pow_pos, pow_mono, shr_lt}
use Rattle.std.proofs.Math.Nat.{mod-one}
use Rattle.std.proofs.lemmas.Nat.{mod-pow-add}
use Rattle.std.proofs.Math.Pow.{split}
use Rattle.rules.specs.Bits.{number, field}
use Rattle.rules.specs.Bits.Order.{low_first}
use Rattle.words.specs.Joined.{Small}
use Rattle.words.specs.Entries.{field-number, window}
use Rattle.words.specs.Appended.{appended}
use Rattle.runs_mark.specs.SeveralGoes.{Begun, begun-none, begun_more}

-- 56 bits from byte i on, through eight bytes
pub bits_56 : (s : List ℕ) (i : ℕ) → Small 8 s → number (take 8 (drop i s)) % 2 ^ 56 ≡ number s / 2 ^ (8 * i) % 2 ^ 56
bits_56 s i h =
    let place : 8 * i + 0 ≡ 8 * i = omega arith in
    ap (λ (x : ℕ). x % 2 ^ 56) (sym (div-one (number (take 8 (drop i s)))))
    ∙ window s i 8 0 56 h (omega arith)
    ∙ ap (λ (k : ℕ). field low_first s k 56) place
    ∙ field-number s (8 * i) 56 h

-- the last piece is what is left of the number
pub last-piece : (n m k j : ℕ) → k ≤ j → n < 2 ^ (m + k)
    → (n / 2 ^ m % 2 ^ j ≡ n / 2 ^ m) × (n / 2 ^ m % 2 ^ j < 2 ^ k)
last-piece n m k j h small =
    let rest : n / 2 ^ m < 2 ^ k = shr_lt k m (rw (add_comm k m) small) in
    let same : n / 2 ^ m % 2 ^ j ≡ n / 2 ^ m = mod-eq_of_lt (lt_of_lt_of_le rest (pow_mono h)) in
    (same, rw same rest)

module _ (l : List ℕ) (p n : ℕ) where
  pub pieces_none : Begun l p (n % 2 ^ 0) 0 l
  pieces_none = rw (mod-one n) (begun-none l p)

  module _ (b c : List ℕ) (m k : ℕ) where
    -- k bits more
    pub pieces_more : p + m ≤ 8 * length b → Begun l p (n % 2 ^ m) m b
        → c ≡ appended b (p + m) (n / 2 ^ m % 2 ^ k) k → Begun l p (n % 2 ^ (m + k)) (m + k) c
    pieces_more room h e =
        let v : ℕ = n / 2 ^ m % 2 ^ k in
        let more : n % 2 ^ (m + k) ≡ n % 2 ^ m + v * 2 ^ m =
        ap (λ (j : ℕ). n % 2 ^ j) (add_comm m k) ∙ mod-pow-add n k m ∙ add_comm (v * 2 ^ m) (n % 2 ^ m) in
        rw more (begun_more l b c p m k room (n % 2 ^ m) v (mod-lt (n / 2 ^ m) (pow_pos k)) h e)

    pub pieces_all : (j : ℕ) → k ≤ j → n < 2 ^ (m + k) → Begun l p (n % 2 ^ m) m b
        → c ≡ appended b (p + m) (n / 2 ^ m % 2 ^ j) k → c ≡ appended l p n (m + k)
    pieces_all j h small begun e =
        let v : ℕ = n / 2 ^ m in
        let whole : n % 2 ^ m + v * 2 ^ m ≡ n = add_comm (n % 2 ^ m) (v * 2 ^ m) ∙ split n m in
        e ∙ ap (λ (x : ℕ). appended b (p + m) x k) (last-piece n m k j h small).0 ∙ begun v k
        ∙ ap (λ (x : ℕ). appended l p x (m + k)) whole
