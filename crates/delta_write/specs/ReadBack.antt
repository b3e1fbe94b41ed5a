-- What the writer writes is read back: a reader finds no fault, and the entries given. Over the width W.
use Rattle.std.specs.Prelude.{◌≡◌, ℕ, zero, suc, ◌+◌, ◌-◌, ◌*◌, ◌%◌, ◌^◌, ◌<◌, ◌≤◌, min, Bool, true, false, List, [], ◌∷◌, ◌++◌, length, get_or, take, drop, ℤ, pos, ◌+ℤ◌, ◌-ℤ◌, nat_lt, slice_index, slice_index_or, refl}
use Rattle.std.proofs.Math.Path.{sym, ap, ap₂}
use Rattle.std.proofs.Common.{◌∙◌, append_assoc, add-one, arith, length-take, length-drop, drop_of_length-le, get_or-take, ltb-true, ltb-false, le-ltb, eq-eqb}
use Rattle.std.proofs.Math.IntN.{+ℤ_comm, -ℤ-+ℤ_cancel}
use Rattle.rules.specs.Delta.Head.{Opened}
use Rattle.rules.specs.Bits.{tabulate}
use Rattle.rules.specs.Shortest.{shortest}
use Rattle.rules.specs.Varint.{reading}
use Rattle.rules.specs.Signed.{zigzag, zigzag_of, modulo, signed, wrapped, Within}
use Rattle.rules.specs.Delta.{shaped, head_at, needed, also, at_end, after, block_deltas, blocks_at, Page, begun}
use Rattle.rules.specs.Delta.{opened, read, page_fault, entry_of, page_entry}
use Rattle.rules.specs.Delta.Deltas.{good}
use Rattle.rules.specs.Delta.Page.{holding}
use Rattle.rules.specs.DeltaWriter.{deltas, least, above_least, page}
use Rattle.words.specs.Tabulated.{tabulate-ext, tabulate_list}
use Rattle.signed.specs.Zigzags.{zigzag_of_lt, zigzag_of_lem}
use Rattle.signed.specs.Gaps.{gap_is}
use Rattle.signed.specs.Remainders.{modulo_add, modulo-wrapped, signed-modulo}
use Rattle.delta_write.specs.Deltas.{length-deltas, get_or-deltas, AllWithin, deltas-within, within-take}
use Rattle.delta_write.specs.Deltas.{within-drop, least_each, get_or-above}
use Rattle.delta_write.specs.Blocks.{all_blocks, blocks-turn, header, page_is}
use Rattle.delta_write.specs.FoundInPage.{behind, number-found, Found, found}

-- ---- the blocks

-- k numbers in front, of which those that s has are its own, and behind them the others of s
in_front_lem : (s : List ℤ) (k : ℕ) (f : ℕ → ℤ) (rest : List ℤ)
    → ((i : ℕ) → i < k → i < length s → f i ≡ slice_index_or s i (pos 0)) → take (length (drop k s)) rest ≡ drop k s
    → take (length s) (tabulate k f ++ rest) ≡ s
unfolding tabulate
in_front_lem s zero f rest h e = e
in_front_lem [] (suc k) f rest h e = refl
in_front_lem (x ∷ s) (suc k) f rest h e =
    ap₂ (λ (y : ℤ) (l : List ℤ). y ∷ l) (h 0 (omega arith) (omega arith))
    (in_front_lem s k (λ i. f (suc i)) rest (λ i a b. h (suc i) (omega arith) (omega arith)) e)

-- smallest delta plus packed number is the delta
block-delta : (ds : List ℤ) (i : ℕ) → i < length ds → least ds +ℤ pos (slice_index (above_least ds) i) ≡ slice_index_or ds i (pos 0)
block-delta ds i h =
    ap (λ (x : ℕ). least ds +ℤ pos x) (get_or-above ds i h) ∙ gap_is (slice_index_or ds i (pos 0)) (least ds) (least_each ds i h)

-- the needed miniblocks have at most 128 deltas, and behind them are those behind the block
needed-few : (left : ℕ) → 32 * needed 4 32 left ≤ 128
unfolding needed
needed-few left = omega arith

needed-drop : (ds : List ℤ) → drop (32 * needed 4 32 (length ds)) ds ≡ drop 128 ds
unfolding needed
needed-drop ds = go (nat_lt (length ds) 128) refl
  where
    go : (t : Bool) → nat_lt (length ds) 128 ≡ t → drop (32 * needed 4 32 (length ds)) ds ≡ drop 128 ds
    go true e =
        let few = ltb-true (length ds) 128 e in
        drop_of_length-le ds {i = 32 * needed 4 32 (length ds)} (omega arith)
        ∙ sym (drop_of_length-le ds {i = 128} (omega arith))
    go false e =
        let many = ltb-false (length ds) 128 e in
        let whole : 32 * needed 4 32 (length ds) ≡ 128 = omega arith in
        rw whole

-- the deltas ds, read from place `at` on, and behind them only what fills the last miniblock
pub record Back (W : ℕ) (page : List ℕ) (ds : List ℤ) (turns at : ℕ) : Type 0 where
  pub held : List ℤ
  pub reads : blocks_at W 128 4 turns (length ds) page at ≡ good held
  pub has : take (length ds) held ≡ ds

module _ (W : ℕ) (some : 0 < W) (page : List ℕ) where
  -- nothing is left over
  at-end : (at : ℕ) → drop at page ≡ [] → at_end (nat_lt at (length page)) ≡ good []
  at-end at e = rw (le-ltb at (length page) (omega (arith, length-drop at page, ap length e)))

  -- a block, and behind it the others
  one_more : (ds : List ℤ) (turns at : ℕ) → 0 < length ds
      → (f : Found W page (take 128 ds) (length ds) at (all_blocks W (drop 128 ds)))
      → Back W page (drop 128 ds) turns f.next → Back W page ds (suc turns) at
  one_more [] turns at h f rest = absurd (omega arith)
  one_more (d ∷ ds) turns at h f rest =
      let all : List ℤ = d ∷ ds in
      let first : List ℤ = take 128 all in
      let need : ℕ = needed 4 32 (length all) in
      let g : ℕ → ℤ = λ i. least first +ℤ pos (slice_index (above_least first) i) in
      let left : length (drop 128 all) ≡ length all - 128 = length-drop 128 all in
      let later : blocks_at W 128 4 turns (length all - 128) page f.next ≡ good rest.held =
      rw left at rest.reads in
      let here : block_deltas need 32 (zigzag (zigzag_of (least first))) page f.width-place (f.width-place + 4) ≡
      tabulate (32 * need) g = rw (zigzag_of_lem (least first)) f.held in
      let few : length first ≡ min 128 (length all) = length-take 128 all in
      record {
        held = tabulate (32 * need) g ++ rest.held;
        reads =
            ap (after 128 4 (length all) page (λ l next. blocks_at W 128 4 turns l page next)) f.laid
            ∙ ap₂ also here later;
        has =
            in_front_lem all (32 * need) g rest.held
            (λ i l k. block-delta first i (omega (arith, needed-few (length all))) ∙ get_or-take 128 all i (pos 0)
            (omega (arith, needed-few (length all))))
            (rw (needed-drop all) rest.has);
      }

  pub blocks-back : (turns : ℕ) (ds : List ℤ) (at : ℕ) → length ds ≤ turns → AllWithin W ds
      → drop at page ≡ all_blocks W ds → Back W page ds turns at
  blocks-back zero [] at h all e = record { held = []; reads = at-end at e; has = refl }
  blocks-back zero (d ∷ ds) at h all e = absurd (omega arith)
  blocks-back (suc turns) [] at h all e = record { held = []; reads = at-end at e; has = refl }
  blocks-back (suc turns) (d ∷ ds) at h all e =
      let f : Found W page (take 128 (d ∷ ds)) (suc (length ds)) at (all_blocks W (drop 128 (d ∷ ds))) =
      found W some page (take 128 (d ∷ ds)) (suc (length ds)) at (all_blocks W (drop 128 (d ∷ ds)))
      (within-take W some 128 (d ∷ ds) all) (length-take 128 (d ∷ ds))
      (e ∙ blocks-turn W (d ∷ ds) (omega arith)) in
      one_more (d ∷ ds) turns at (omega arith) f
      (blocks-back turns (drop 128 (d ∷ ds)) f.next (omega (arith, length-drop 128 (d ∷ ds)))
      (within-drop W some 128 (d ∷ ds) all) f.there)

-- ---- the entries

-- a wrapped delta added to an entry makes the next one
next-entry : (W : ℕ) (x y : ℤ) → Within W y → wrapped W (x +ℤ wrapped W (y -ℤ x)) ≡ y
next-entry W x y h =
    let sum : modulo W (x +ℤ wrapped W (y -ℤ x)) ≡ modulo W y =
    modulo_add W x (wrapped W (y -ℤ x)) ∙ ap (λ (k : ℕ). (modulo W x + k) % 2 ^ W) (modulo-wrapped W (y -ℤ x))
    ∙ sym (modulo_add W x (y -ℤ x))
    ∙ ap (modulo W) (+ℤ_comm x (y -ℤ x) ∙ -ℤ-+ℤ_cancel y x) in
    ap (signed W) sum ∙ signed-modulo W y h

entries-reached : (W : ℕ) (entries held : List ℤ) → AllWithin W entries
    → take (length (deltas W entries)) held ≡ deltas W entries
    → (i : ℕ) → i < length entries → entry_of W (slice_index_or entries 0 (pos 0)) held i ≡ slice_index_or entries i (pos 0)
unfolding entry_of
entries-reached W entries held all e zero h = refl
entries-reached W entries held all e (suc i) h =
    let inside : i < length (deltas W entries) = rw length-deltas (omega arith) in
    let delta : get_or held i (pos 0) ≡ wrapped W (slice_index_or entries (suc i) (pos 0) -ℤ slice_index_or entries i (pos 0)) =
    sym (get_or-take (length (deltas W entries)) held i (pos 0) inside) ∙ ap (λ (l : List ℤ). get_or l i (pos 0)) e
    ∙ rw add-one at (get_or-deltas W entries i (omega arith)) in
    ap₂ (λ (x z : ℤ). wrapped W (x +ℤ z)) (entries-reached W entries held all e i (omega arith)) delta
    ∙ next-entry W (slice_index_or entries i (pos 0)) (slice_index_or entries (suc i) (pos 0)) (all (suc i))

-- ---- the page

-- the header is read, and behind it the blocks begin
pub record HeadBack (W : ℕ) (entries : List ℤ) (bytes : List ℕ) : Type 0 where
  pub place : ℕ
  pub opens : head_at W (length entries) bytes ≡ Opened 128 4 (zigzag_of (slice_index_or entries 0 (pos 0))) place
  pub behind_it : drop place bytes ≡ all_blocks W (deltas W entries)

pub head-back : (W : ℕ) (entries : List ℤ) (bytes : List ℕ) → length entries ≤ 16384
    → Within W (slice_index_or entries 0 (pos 0))
    → bytes ≡ header entries ++ all_blocks W (deltas W entries) → HeadBack W entries bytes
unfolding head_at reading shaped
head-back W entries bytes few h e =
    let n : ℕ = length entries in
    let z : ℕ = zigzag_of (slice_index_or entries 0 (pos 0)) in
    let rest₄ : List ℕ = all_blocks W (deltas W entries) in
    let rest₃ : List ℕ = shortest z ++ rest₄ in
    let rest₂ : List ℕ = shortest n ++ rest₃ in
    let rest₁ : List ℕ = shortest 4 ++ rest₂ in
    let all : drop 0 bytes ≡ shortest 128 ++ rest₁ =
    e ∙ append_assoc (shortest 128 ++ shortest 4 ++ shortest n) (shortest z) rest₄
    ∙ append_assoc (shortest 128 ++ shortest 4) (shortest n) rest₃
    ∙ append_assoc (shortest 128) (shortest 4) rest₂ in
    let p₁ : ℕ = 0 + length (shortest 128) in
    let p₂ : ℕ = p₁ + length (shortest 4) in
    let p₃ : ℕ = p₂ + length (shortest n) in
    let after₁ : drop p₁ bytes ≡ rest₁ = behind bytes 0 (shortest 128) rest₁ all in
    let after₂ : drop p₂ bytes ≡ rest₂ = behind bytes p₁ (shortest 4) rest₂ after₁ in
    let after₃ : drop p₃ bytes ≡ rest₃ = behind bytes p₂ (shortest n) rest₃ after₂ in
    let size = number-found bytes 32 0 128 rest₁ (omega arith) all in
    let minis = number-found bytes 32 p₁ 4 rest₂ (omega arith) after₁ in
    let count = number-found bytes 32 p₂ n rest₃ (omega arith) after₂ in
    let value = number-found bytes W p₃ z rest₄ (zigzag_of_lt W (slice_index_or entries 0 (pos 0)) h) after₃ in
    record {
      place = p₃ + length (shortest z);
      opens = rw (size, minis, count, value, eq-eqb n n refl);
      behind_it = behind bytes p₃ (shortest z) rest₄ after₃;
    }

module _ (W : ℕ) (some : 0 < W) (entries : List ℤ) (few : length entries ≤ 16384) (all : AllWithin W entries) where
  abbrev pub head : HeadBack W entries (page W entries)
  head = head-back W entries (page W entries) few (all 0) (page_is W entries)

  abbrev pub back : Back W (page W entries) (deltas W entries) (length (deltas W entries)) head.place
  back =
      blocks-back W some (page W entries) (length (deltas W entries)) (deltas W entries) head.place (omega arith)
      (deltas-within W some entries) head.behind_it

  -- a reader finds the first value and the deltas
  pub page-back : read W (length entries) (page W entries) ≡ holding (slice_index_or entries 0 (pos 0)) back.held
  unfolding read
  page-back =
      let n : ℕ = length entries in
      let blocks : blocks_at W 128 4 (n - 1) (n - 1) (page W entries) head.place ≡ good back.held =
      sym (ap (λ (k : ℕ). blocks_at W 128 4 k k (page W entries) head.place) (length-deltas W entries))
      ∙ back.reads in
      ap (opened W n (page W entries)) head.opens ∙ ap₂ begun (zigzag_of_lem (slice_index_or entries 0 (pos 0))) blocks

  -- so no fault, and the entries
  pub fault-back : page_fault (read W (length entries) (page W entries)) ≡ 0
  fault-back = ap page_fault page-back

  pub entry-back : (i : ℕ) → i < length entries
      → page_entry W (read W (length entries) (page W entries)) i ≡ slice_index_or entries i (pos 0)
  entry-back i h =
      ap (λ (p : Page). page_entry W p i) page-back ∙ entries-reached W entries back.held all back.has i h

  pub entries-back : tabulate (length entries) (page_entry W (read W (length entries) (page W entries))) ≡ entries
  entries-back =
      tabulate-ext (length entries) (page_entry W (read W (length entries) (page W entries)))
      (λ i. get_or entries i (pos 0)) entry-back
      ∙ tabulate_list entries (pos 0)
