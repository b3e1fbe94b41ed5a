-- The turns of a pass over a stream that counts its entries from 0 up to n.
use Rattle.std.specs.Prelude.{◌≡◌, List, ℕ, ◌+◌, ◌-◌, ◌*◌, ◌≤◌, ◌<◌, min, take, drop}
use Rattle.std.proofs.Common.{sym, ap, subst₂, ◌∙◌, arith}
use Rattle.rules.specs.Bits.{field, entry}
use Rattle.rules.specs.Bits.Order.{low_first}
use Rattle.rules.specs.Runs.{run_at}
use Rattle.rules.specs.Runs.Run.{Repeated, Packed, Refused}
use Rattle.words.specs.Entries.{field-window, place-within}
use Rattle.runs_read.specs.Parts.{body-fits}
use Rattle.runs_read.specs.Walks.{Comes}
use Rattle.runs_read.specs.Walks as Walks
use Rattle.runs_read.specs.TwoPasses.{writing, pass, pass-comes}
use Rattle.runs_read.specs.RunRead.{ran_repeated}
use Rattle.runs_walk.specs.Covered.{written}

-- a way of writing by which nothing but the m values decides what they leave
abbrev pub OfValues : {O : Type 0} → (ℕ → ℕ → (ℕ → ℕ) → O → O) → Type 0
OfValues {O} write =
    (i m : ℕ) (f g : ℕ → ℕ) (out : O) → ((k : ℕ) → k < m → f k ≡ g k) → write i m f out ≡ write i m g out

module _ {O : Type 0} (n : ℕ) (write : ℕ → ℕ → (ℕ → ℕ) → O → O) (w : ℕ) (page : List ℕ) (x : O) where
  abbrev pub onward : ℕ → ℕ → O → Type 0
  onward at i out = Comes (writing (written n write w)) x w (n - i) page at (i, out)

  pub begins : (out : O) → x ≡ pass (written n write w) w n page out → onward 0 0 out
  begins out e =
      let all : n ≡ n - 0 = omega arith in
      subst₂ (λ (y : O) (left : ℕ). Comes (writing (written n write w)) y w left page 0 (0, out)) (sym e) all
      (pass-comes (written n write w) w n page out)

  module _ {at i : ℕ} {out : O} (some : i < n) (comes : onward at i out) where
    -- a repeated run lies below n
    pub on_repeated : {count value next : ℕ} {new : O} → run_at w (n - i) page at ≡ Repeated count value next
        → new ≡ write i count (λ _. value) out → onward next (i + count) new
    on_repeated {count} {value} {next} {new} q e =
        let fits = ran_repeated w (n - i) page at q in
        let few : min count (n - i) ≡ count = omega arith in
        let rest : n - i - count ≡ n - (i + count) = omega arith in
        subst₂ (λ (left : ℕ) (o : O). Comes (writing (written n write w)) x w left page next (i + count, o)) rest
        (ap (λ (m : ℕ). write i m (λ _. value) out) few ∙ sym e)
        (Walks.on_repeated (writing (written n write w)) (omega arith) comes q)

    -- a packed run may reach past it
    pub on_packed : {groups start next : ℕ} {new : O} → run_at w (n - i) page at ≡ Packed groups start next
        → new ≡ write i (min (8 * groups) (n - i)) (entry low_first (take (w * groups) (drop start page)) w) out
        → onward next (i + 8 * groups) new
    on_packed {groups} {start} {next} {new} q e =
        let rest : n - i - 8 * groups ≡ n - (i + 8 * groups) = omega arith in
        subst₂ (λ (left : ℕ) (o : O). Comes (writing (written n write w)) x w left page next (i + 8 * groups, o))
        rest (sym e)
        (Walks.on_packed (writing (written n write w)) (omega arith) comes q)

    -- by the entries as they lie in the page
    pub on_body : {groups start next m : ℕ} {new : O} → OfValues write
        → run_at w (n - i) page at ≡ Packed groups start next → m ≡ min (8 * groups) (n - i)
        → new ≡ write i m (λ k. field low_first page (8 * start + k * w) w) out
        → onward next (i + 8 * groups) new
    on_body {groups} {start} {next} {m} of_values q few e =
        let within : m * w ≤ 8 * (w * groups) = body-fits w groups m (omega arith) in
        on_packed q
        (e
        ∙ of_values i m (λ k. field low_first page (8 * start + k * w) w)
        (entry low_first (take (w * groups) (drop start page)) w) out
        (λ k l. sym (field-window page start (w * groups) (k * w) w (omega (arith, place-within w k m l))))
        ∙ ap (λ (j : ℕ). write i j (entry low_first (take (w * groups) (drop start page)) w) out) few)

    -- a fault ends the pass where it is
    pub on_refused : {code : ℕ} → run_at w (n - i) page at ≡ Refused code → x ≡ out
    on_refused q = Walks.on_refused (writing (written n write w)) (omega arith) comes q

  pub ends : {at i : ℕ} {out : O} → onward at i out → n ≤ i → x ≡ out
  ends comes h = Walks.on_end (writing (written n write w)) comes (omega arith)
