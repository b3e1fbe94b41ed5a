-- What the two bare layouts promise besides: a page that was unpacked is the page that its entries pack to.
use Rattle.std.specs.Prelude.{◌≡◌, List, ℕ, ◌≤◌, length, take}
use Rattle.rules.specs.Bits.{tabulate, put}
use Rattle.rules.specs.Answer.{accepted}
use Rattle.rules.specs.Answer.Outcome.{outcome}
use Rattle.rules.specs.declared.Answer.{Answer}
use Rattle.words.specs.Joined.{Small}
use Rattle.words.specs.Tabulated.{length-tabulate}
use Rattle.promises.specs.NoFault.{pack-good}
use Rattle.promises.specs.Layouts.{Layout, unpacks, unpack-accepted}
use Rattle.promises.specs.Writers.{Writer, packs}
use Rattle.promises.specs.Writes.{write_promise, written-accepted}

-- a layout that has no good pages but those that entries make
pub record Bare {K A : Type 0} (L : Layout K A) (W : Writer L) : Type 0 where
  -- how many bits a place has
  pub bits : ℕ
  -- the entries of a page fit, and those of a good page make that page
  pub entries_fit : (k : K) (n : ℕ) (page : List ℕ) → W.Fit k (tabulate n (L.entry page k n))
  pub entries-packed : (k : K) (n : ℕ) (page : List ℕ) → Small bits page → L.Exact page k n
      → W.packed k (tabulate n (L.entry page k n)) ≡ page

pub unpacked_packs : {K A : Type 0} (L : Layout K A) (W : Writer L) (bare : Bare L W) (page : List ℕ) (k : K)
    (n : ℕ) (before : List A) (out : List ℕ)
    {entries : List A} {r : Answer}
    → Small bare.bits page
    → outcome r entries ≡ unpacks L page k n before
    → r.code ≡ 0
    → length page ≤ length out
    → packs L W (take n entries) k out ≡ outcome (accepted (length page)) (put out 0 page)
unpacked_packs {A = A} L W bare page k n before out {entries} fits contract ok room =
    let read : List A = tabulate n (L.entry page k n) in
    let size : length read ≡ n = length-tabulate n (L.entry page k n) in
    let entries-are : take n entries ≡ read =
    rw size at ((write_promise _ read before contract).accepts ok).wrote_is in
    let good = (unpack-accepted L page k n before contract).0 ok in
    let again : W.packed k read ≡ page = bare.entries-packed k n page fits good.1.1 in
    let enough : W.places k read ≤ length out = rw (← (W.length-packed k read), again) room in
    rw entries-are
    (written-accepted _ _ page out
    ((pack-good _ _ (L.kept k (length read)) (W.fit k read) (length out) _).1
    (rw size good.0, (bare.entries_fit k n page, enough)))
    again)
