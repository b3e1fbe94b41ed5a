-- What every unpack and pack promises, over its first fault and what it writes.
use Rattle.std.specs.Prelude.{◌≡◌, refl, List, ℕ, ◌<◌, length, take, drop, get_or}
use Rattle.std.proofs.Common.{sym, ap, ◌∙◌, get_or-take}
use Rattle.rules.specs.Bits.{put, tabulate}
use Rattle.rules.specs.Answer.{accepted, answered, written}
use Rattle.rules.specs.Answer.Outcome.{outcome}
use Rattle.rules.specs.declared.Answer.{Answer}
use Rattle.words.specs.Tabulated.{length-tabulate, get_or-tabulate}
use Rattle.promises.specs.Fronts.{front, behind}
use Rattle.promises.specs.Promise.{Promise, promise}

module _ {A : Type 0} where
  -- the places of a call that is accepted, and its number, for a list that is written
  pub record Writes (wrote before after : List A) (number : ℕ) : Type 0 where
    -- the number is the length written
    pub number_is : number ≡ length wrote
    -- the first places are those written
    pub wrote_is : take (length wrote) after ≡ wrote
    -- places past those written keep what they held
    pub later-kept : drop (length wrote) after ≡ drop (length wrote) before

  pub writes : (wrote before : List A) {after : List A} {number : ℕ} → number ≡ length wrote
      → after ≡ put before 0 wrote → Writes wrote before after number
  writes wrote before number e =
      record {
        number_is = number;
        wrote_is = ap (take (length wrote)) e ∙ front before wrote (length wrote) refl;
        later-kept = ap (drop (length wrote)) e ∙ behind before wrote (length wrote) refl;
      }

  pub write_promise : (fault : ℕ) (wrote before : List A) {after : List A} {r : Answer}
      → outcome r after ≡ written fault wrote before
      → Promise fault before after r (Writes wrote before after r.number)
  write_promise fault wrote before = promise fault (length wrote) wrote before (writes wrote before)

  -- the same place by place, for n values that are written (d is what `get_or` gives where there is no place)
  pub record Fills (n : ℕ) (value : ℕ → A) (before after : List A) (number : ℕ) : Type 0 where
    -- the number is n
    pub number_is : number ≡ n
    -- the first n places are written
    pub place_is : (i : ℕ) (d : A) → i < n → get_or after i d ≡ value i
    -- the others are kept
    pub later-kept : drop n after ≡ drop n before

  pub fill_promise : (fault n : ℕ) (value : ℕ → A) (before : List A) {after : List A} {r : Answer}
      → outcome r after ≡ written fault (tabulate n value) before
      → Promise fault before after r (Fills n value before after r.number)
  fill_promise fault n value before {after} {r} =
      promise fault (length (tabulate n value)) (tabulate n value) before
      (λ number e.
      let size : length (tabulate n value) ≡ n = length-tabulate n value in
      let places : take n after ≡ tabulate n value = ap (take n) e ∙ front before (tabulate n value) n size in
      record {
        number_is = number ∙ size;
        place_is =
            λ i d h. sym (get_or-take n after i d h) ∙ ap (λ (l : List A). get_or l i d) places ∙ get_or-tabulate n value
            i d h;
        later-kept = ap (drop n) e ∙ behind before (tabulate n value) n size;
      })

  -- a call without a fault is accepted
  pub answered-accepted : (fault n m : ℕ) (wrote vs before : List A) → fault ≡ 0 → n ≡ m → wrote ≡ vs
      → answered fault n wrote before ≡ outcome (accepted m) (put before 0 vs)
  unfolding answered
  answered-accepted fault n m wrote vs before none number e = rw (none, number, e)

  pub written-accepted : (fault : ℕ) (wrote vs before : List A) → fault ≡ 0 → wrote ≡ vs
      → written fault wrote before ≡ outcome (accepted (length vs)) (put before 0 vs)
  written-accepted fault wrote vs before none e =
      answered-accepted fault (length wrote) (length vs) wrote vs before none (ap length e) e
