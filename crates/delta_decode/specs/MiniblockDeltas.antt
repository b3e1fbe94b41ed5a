-- A block's deltas, miniblock after miniblock.
use Rattle.std.specs.Prelude.{◌≡◌, List, ◌++◌, ℕ, zero, suc, ◌+◌, ◌-◌, ◌*◌, ◌/◌, ◌%◌, ◌^◌, ◌≤◌, ◌<◌, min, ℤ, ◌+ℤ◌, length, get_or, take, drop}
use Rattle.std.proofs.Common.{sym, ap, ◌∙◌, suc-mul, mul-add, mul-le-mul_right, add-one, arith, length-append, get_or-drop, drop-cons, drop-drop, drop_at}
use Rattle.std.proofs.Math.IntN.{pos}
use Rattle.std.proofs.Math.ListN.{get_or-append}
use Rattle.rules.specs.Bits.{entry, tabulate}
use Rattle.rules.specs.Bits.Order.{low_first}
use Rattle.rules.specs.Signed.{zigzag, modulo}
use Rattle.rules.specs.Delta.{sum, body_bytes, mini_deltas, block_deltas}
use Rattle.words.specs.Tabulated.{length-tabulate, get_or-tabulate}
use Rattle.signed.specs.Entries.{step, step_is}
use Rattle.delta_decode.specs.declared.miniblocks.Miniblocks.{Miniblocks}
use Rattle.delta_octets.specs.Steps.{packed_step}
use Rattle.delta_octets.specs.EntryByEntry.{Passed, Starts, Grows, passed_none, passed-more}

abbrev pub deltas_in : Miniblocks → List ℕ → List ℤ
deltas_in b page = block_deltas b.need b.size (zigzag b.least) page b.widths b.bodies

-- what is known of miniblocks that were judged: whole bytes, widths to W, bodies on the page, and that each holds
-- one of the `room` entries to come
pub record Judged (W : ℕ) (page : List ℕ) (b : Miniblocks) (room : ℕ) : Type 0 where
  pub short : b.size ≤ 16384
  pub whole : b.size % 8 ≡ 0
  pub wanted : b.need * b.size < room + b.size
  pub there : b.widths + b.need ≤ length page
  pub narrow : (k : ℕ) → k < b.need → get_or page (b.widths + k) 0 ≤ W
  pub within : b.bodies + body_bytes b.need b.size page b.widths ≤ length page

-- the width of miniblock q
abbrev pub width_of : List ℕ → Miniblocks → ℕ → ℕ
width_of page b q = get_or page (b.widths + q) 0

-- ---- the first of some miniblocks, and those behind it

module _ (m : ℕ) (least : ℤ) (page : List ℕ) where
  pub length-mini : (body w : ℕ) → length (mini_deltas m least page body w) ≡ m
  unfolding mini_deltas
  length-mini body w = length-tabulate m (λ j. least +ℤ pos (entry low_first (drop body page) w j))

  pub length-block : (need widths body : ℕ) → length (block_deltas need m least page widths body) ≡ need * m
  length-block zero widths body = omega arith
  length-block (suc need) widths body =
      let w : ℕ = get_or page widths 0 in
      length-append (mini_deltas m least page body w) (block_deltas need m least page (suc widths) (body + m / 8 * w))
      ∙ omega (arith, length-mini body w, length-block need (suc widths) (body + m / 8 * w), suc-mul need m)

  pub first-mini : (need widths body : ℕ) → 0 < need
      → block_deltas need m least page widths body
      ≡ mini_deltas m least page body (get_or page widths 0)
      ++ block_deltas (need - 1) m least page (widths + 1) (body + m / 8 * get_or page widths 0)
  first-mini zero widths body some = absurd (omega arith)
  first-mini (suc need) widths body some = let e : suc need - 1 ≡ need = omega arith in rw (e, add-one)

pub first_body : (need m : ℕ) (page : List ℕ) (widths : ℕ) → 0 < need → widths < length page
    → body_bytes need m page widths ≡ m / 8 * get_or page widths 0 + body_bytes (need - 1) m page (widths + 1)
unfolding body_bytes
first_body zero m page widths some there = absurd (omega arith)
first_body (suc need) m page widths some there =
    let e : suc need - 1 ≡ need = omega arith in
    rw (drop-cons page widths 0 there, e, add-one)
    (mul-add (m / 8) (get_or page widths 0) (sum (take need (drop (suc widths) page))))

-- ---- where some deltas stand in a list of them

module _ (D mid rest : List ℤ) (a : ℕ) (e : drop a D ≡ mid ++ rest) where
  pub delta_at : (j : ℕ) → j < length mid → get_or D (a + j) (pos 0) ≡ get_or mid j (pos 0)
  delta_at j h =
      sym (get_or-drop a D j (pos 0)) ∙ ap (λ (l : List ℤ). get_or l j (pos 0)) e ∙ get_or-append mid rest (pos 0) j h

  pub drop_more : (m : ℕ) → length mid ≡ m → drop (a + m) D ≡ rest
  drop_more m h = sym (drop-drop m a D) ∙ ap (drop m) e ∙ drop_at mid rest m h

-- a miniblock's steps are those of its deltas
pub mini-steps : (W m : ℕ) (least : ℤ) (page : List ℕ) (body w : ℕ) (D rest : List ℤ) (a j : ℕ)
    → drop a D ≡ mini_deltas m least page body w ++ rest → j < m
    → packed_step (modulo W least) (drop body page) w j % 2 ^ W ≡ step W D (a + j) % 2 ^ W
unfolding mini_deltas
mini-steps W m least page body w D rest a j e h =
    let f : ℕ → ℤ = λ i. least +ℤ pos (entry low_first (drop body page) w i) in
    let d : get_or D (a + j) (pos 0) ≡ f j =
    delta_at D (tabulate m f) rest a e j (rw (length-tabulate m f) h) ∙ get_or-tabulate m f j (pos 0) h in
    sym (ap (λ (z : ℤ). modulo W z % 2 ^ W) d ∙ step_is W least (entry low_first (drop body page) w j))

-- ---- the turns

module _ {O : Type 0} (write : ℕ → ℕ → (ℕ → ℕ) → O → O) (W : ℕ) (page : List ℕ) (b : Miniblocks) (from room i : ℕ)
    (out₀ : O) where
  -- after q miniblocks: the deltas that are left, the next body's place, how many entries those q hold, and what is
  -- passed
  pub record Turn (q at done x : ℕ) (out : O) : Type 0 where
    pub count : done ≡ q * b.size
    pub eights : done % 8 ≡ 0
    pub rest : drop done (deltas_in b page)
        ≡ block_deltas (b.need - q) b.size (zigzag b.least) page (b.widths + q) at
    pub bodies : at + body_bytes (b.need - q) b.size page (b.widths + q) ≤ length page
    pub so : Passed write W from (step W (deltas_in b page)) i out₀ (min done room) x out

  pub turn_start : Judged W page b room → Starts write i out₀ → Turn 0 b.bodies 0 from out₀
  turn_start h starts =
      let here : b.widths + 0 ≡ b.widths = omega arith in
      let all : b.need - 0 ≡ b.need = omega arith in
      let none : min 0 room ≡ 0 = omega arith in
      record {
        count = omega arith;
        eights = omega arith;
        rest = rw (here, all);
        bodies = rw (here, all) h.within;
        so = rw none (passed_none write W from (step W (deltas_in b page)) i out₀ starts);
      }

  module _ (h : Judged W page b room) {q at done x : ℕ} {out : O} (more : q < b.need) (c : Turn q at done x out)
    where
      -- a needed miniblock holds an entry to come
      pub wanted_here : done < room
      wanted_here =
          omega
          (arith, c.count, h.wanted, suc-mul q b.size, mul-le-mul_right {m = suc q} {n = b.need} b.size more)

      body_bytes_lem : body_bytes (b.need - q) b.size page (b.widths + q)
          ≡ b.size / 8 * width_of page b q + body_bytes (b.need - q - 1) b.size page (b.widths + q + 1)
      body_bytes_lem = first_body (b.need - q) b.size page (b.widths + q) (omega arith) (omega (arith, h.there))

      -- its body ends on the page
      pub body-ends : at + b.size / 8 * width_of page b q ≤ length page
      body-ends = omega (arith, body_bytes_lem, c.bodies)

      pub turn-next : {k x' : ℕ} {out' : O} → Grows write i room out₀ → k ≡ min b.size (room - done)
          → Passed write W x (packed_step (modulo W (zigzag b.least)) (drop at page) (width_of page b q)) (i + done)
          out k x' out'
          → Turn (q + 1) (at + b.size / 8 * width_of page b q) (done + b.size) x' out'
      turn-next {k} {x'} {out'} grows ek p =
          let D : List ℤ = deltas_in b page in
          let M : List ℤ = mini_deltas b.size (zigzag b.least) page at (width_of page b q) in
          let R : List ℤ =
          block_deltas (b.need - q - 1) b.size (zigzag b.least) page (b.widths + q + 1)
          (at + b.size / 8 * width_of page b q) in
          let e : drop done D ≡ M ++ R =
          c.rest ∙ first-mini b.size (zigzag b.least) page (b.need - q) (b.widths + q) at (omega arith) in
          let low : done < room = wanted_here in
          let here : min done room ≡ done = omega arith in
          let then : done + k ≡ min (done + b.size) room = omega arith in
          let one : b.need - q - 1 ≡ b.need - (q + 1) = omega arith in
          let on : b.widths + q + 1 ≡ b.widths + (q + 1) = omega arith in
          record {
            count = omega (arith, c.count, suc-mul q b.size, ap (λ (a : ℕ). a * b.size) (add-one q));
            eights = omega (arith, c.eights, h.whole);
            rest =
                rw (← one, ← on)
                (drop_more D M R done e b.size
                (length-mini b.size (zigzag b.least) page at (width_of page b q)));
            bodies = rw (← one, ← on) (omega (arith, body_bytes_lem, c.bodies));
            so =
                rw then at
                (passed-more write W from (step W D) i out₀ room done k x x' out out'
                (packed_step (modulo W (zigzag b.least)) (drop at page) (width_of page b q)) grows c.eights
                (omega arith)
                (λ j l. mini-steps W b.size (zigzag b.least) page at (width_of page b q) D R done j e
                (omega arith)) (rw here at c.so) p);
          }

  -- all miniblocks are done
  pub turn_end : {at done x : ℕ} {out : O} → Turn b.need at done x out
      → Passed write W from (step W (deltas_in b page)) i out₀ (min (b.need * b.size) room) x out
  turn_end c = rw (← c.count) c.so
