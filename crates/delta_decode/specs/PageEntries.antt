-- The entries of a page, block after block.
use Rattle.std.specs.Prelude.{◌≡◌, refl, List, [], ◌++◌, ℕ, zero, suc, ◌+◌, ◌-◌, ◌*◌, ◌/◌, ◌%◌, ◌^◌, ◌≤◌, ◌<◌, min, ℤ, length, drop}
use Rattle.std.proofs.Common.{sym, ap, ◌∙◌, append_assoc, suc-mul, arith, length-append, drop_at}
use Rattle.rules.specs.Signed.{zigzag, modulo, signed}
use Rattle.rules.specs.Delta.{head_at, needed, Deltas, also, blocks_at, read, page_fault, entry_of, page_entry}
use Rattle.rules.specs.Delta.Deltas.{good, bad}
use Rattle.rules.specs.Delta.Block.{Laid}
use Rattle.rules.specs.Delta.Head.{Opened}
use Rattle.signed.specs.Raised.{raised}
use Rattle.signed.specs.Reached.{reached}
use Rattle.signed.specs.Zigzags.{zigzag-within}
use Rattle.signed.specs.Entries.{step, raised-entry, entry-reached}
use Rattle.delta_read.specs.Shapes.{Shape}
use Rattle.delta_read.specs.Needed.{needed_le, Covers, covers}
use Rattle.delta_read.specs.BlockParts.{block-laid}
use Rattle.delta_read.specs.BlockByBlock.{Comes, block_here, deltas_here, next-block, next-done, Rest, good-rest}
use Rattle.delta_read.specs.Heads.{head-places}
use Rattle.delta_read.specs.DeltasFault.{Holds, good-page}
use Rattle.delta_decode.specs.declared.miniblocks.Miniblocks.{Miniblocks}
use Rattle.delta_octets.specs.EntryByEntry.{Passed, Starts, Grows, passed_none, passed-more}
use Rattle.delta_decode.specs.MiniblockDeltas.{Judged, delta_at, length-block}

abbrev pub deltas_of : Deltas → List ℤ
deltas_of (good ds) = ds
deltas_of (bad code) = []

-- the needed miniblocks of the block that is read next
abbrev pub minis_here : ℕ → ℕ → ℕ → ℕ → ℕ → Miniblocks
minis_here size minis left h widths =
    record {
      least = h;
      widths = widths;
      bodies = widths
          + minis;
      need = needed minis (size / minis) left;
      size = size / minis;
    }

-- what is known of them, where `left` deltas are still to come
pub judged : (W size minis left : ℕ) (page : List ℕ) (at h widths next : ℕ) → Shape size minis
    → block_here W size minis left page at ≡ Laid h widths next
    → Judged W page (minis_here size minis left h widths) (left + 1)
judged W size minis left page at h widths next sh e =
    let m : ℕ = size / minis in
    let laid = block-laid W minis (needed minis m left) m page at e in
    let le : needed minis m left ≤ minis = needed_le minis m left in
    let cv : Covers size minis m left = covers size minis m left (omega (arith, sh.long)) sh.whole in
    record {
      short = sh.short;
      whole = omega (arith, sh.groups);
      wanted = omega (arith, cv.wanted, sh.long);
      there = omega (arith, laid.there);
      narrow = laid.narrow le;
      within = omega (arith, laid.ends, laid.within);
    }

-- whole bytes, some times
eights_mul : (q m : ℕ) → m % 8 ≡ 0 → q * m % 8 ≡ 0
eights_mul zero m e = omega arith
eights_mul (suc q) m e = omega (arith, suc-mul q m, eights_mul q m e)

-- what is left after k more
rest-next : (left next n i k : ℕ) → left ≡ n - 1 - i → next ≡ left - k → next ≡ n - 1 - (i + k)
rest-next left next n i k a b = omega arith

module _ {O : Type 0} (write : ℕ → ℕ → (ℕ → ℕ) → O → O) (W : ℕ) (page : List ℕ) (size minis n from : ℕ)
    (ds : List ℤ) (out₀ : O) where
  -- the blocks before `at` hold the i first deltas, `left` are still to come, and the entries below i, or all n,
  -- are passed
  pub record Pass (left at i x : ℕ) (out : O) : Type 0 where
    pub comes : Comes (good ds) W size minis left page at
    pub behind : length comes.done ≡ i
    pub rest : left ≡ n - 1 - i
    pub eights : i % 8 ≡ 0
    pub so : Passed write W from (step W ds) 0 out₀ (min i n) x out

  pub pass_start : (start : ℕ) → blocks_at W size minis (n - 1) (n - 1) page start ≡ good ds → Starts write 0 out₀
      → Pass (n - 1) start 0 from out₀
  pass_start start e starts =
      let none : min 0 n ≡ 0 = omega arith in
      record {
        comes = record { turns = n - 1; enough = omega arith; done = []; so = sym (ap (also []) e) };
        behind = refl;
        rest = omega arith;
        eights = omega arith;
        so = rw none (passed_none write W from (step W ds) 0 out₀ starts);
      }

  module _ (sh : Shape size minis) {left at i x : ℕ} {out : O} (some : 0 < left) (c : Pass left at i x out) where
    cover : Covers size minis (size / minis) left
    cover = covers size minis (size / minis) left (omega (arith, sh.long)) sh.whole

    -- no more entries than n and one miniblock
    pub few : i + needed minis (size / minis) left * (size / minis) ≤ n + 16384
    few = omega (arith, cover.wanted, c.rest, sh.short)

    pub pass-next : {h widths next x' : ℕ} {out' : O} → Grows write 0 n out₀
        → block_here W size minis left page at ≡ Laid h widths next
        → Passed write W x (step W (deltas_here W size minis left page h widths)) i out
        (min (needed minis (size / minis) left * (size / minis)) (left + 1)) x' out'
        → Pass (left - size) next (i + needed minis (size / minis) left * (size / minis)) x' out'
    pass-next {h} {widths} {next} {x'} {out'} grows e p =
        let m : ℕ = size / minis in
        let need : ℕ = needed minis m left in
        let k : ℕ = min (need * m) (left + 1) in
        let B : List ℤ = deltas_here W size minis left page h widths in
        let done : List ℤ = c.comes.done in
        let long : length B ≡ need * m = length-block m (zigzag h) page need widths (widths + minis) in
        let nc : Comes (good ds) W size minis (left - size) page next =
        next-block some c.comes (omega (arith, sh.low)) e in
        let nd : nc.done ≡ done ++ B = next-done some c.comes (omega (arith, sh.low)) e in
        let r : Rest ds nc.done (blocks_at W size minis nc.turns (left - size) page next) =
        good-rest ds nc.done _ nc.so in
        let split : ds ≡ done ++ (B ++ r.rest) =
        r.whole ∙ ap (λ (l : List ℤ). l ++ r.rest) nd ∙ append_assoc done B r.rest in
        let here : drop i ds ≡ B ++ r.rest = ap (drop i) split ∙ drop_at done (B ++ r.rest) i c.behind in
        let same : (j : ℕ) → j < k → step W B j % 2 ^ W ≡ step W ds (i + j) % 2 ^ W =
        λ j l. ap (λ (z : ℤ). modulo W z % 2 ^ W) (sym (delta_at ds B r.rest i here j (omega arith))) in
        let now : min i n ≡ i = omega (arith, c.rest) in
        let then : i + k ≡ min (i + need * m) n = omega (arith, c.rest) in
        let zero : 0 + i ≡ i = omega arith in
        let q : Passed write W x (step W B) (0 + i) out k x' out' = rw zero p in
        record {
          comes = nc;
          behind = ap length nd ∙ length-append done B ∙ omega (arith, c.behind, long);
          rest = rest-next left (left - size) n i (need * m) c.rest cover.same;
          eights = omega (arith, c.eights, eights_mul need m (omega (arith, sh.groups)));
          so =
              rw
              then at
              (passed-more write W from (step W ds) 0 out₀ n i k x x' out out' (step W B) grows c.eights
              (omega (arith, c.rest)) same (rw now at c.so) q);
        }

  -- no delta is left: the last entry may be, or none
  module _ {at i x : ℕ} {out : O} (c : Pass 0 at i x out) where
    pub pass-last : {out' : O} → Grows write 0 n out₀ → i < n → out' ≡ write i 1 (λ _. x) out
        → out' ≡ write 0 n (reached W from (step W ds)) out₀
    pass-last {out'} grows more e =
        let now : min i n ≡ i = omega arith in
        let all : i + 1 ≡ n = omega (arith, c.rest) in
        let zero : 0 + i ≡ i = omega arith in
        let none : i + 0 ≡ i = omega arith in
        let p : Passed write W from (step W ds) 0 out₀ i x out = rw now at c.so in
        e ∙ ap (write i 1 (λ _. x)) p.wrote
        ∙ ap (λ (a : ℕ). write a 1 (λ _. x) (write 0 i (reached W from (step W ds)) out₀)) (sym zero)
        ∙ grows i 1 (reached W from (step W ds)) (λ _. x) c.eights (omega arith)
        (λ j l. p.entry ∙ ap (reached W from (step W ds)) (omega arith))
        ∙ ap (λ (a : ℕ). write 0 a (reached W from (step W ds)) out₀) all

    pub pass-end : n ≤ i → out ≡ write 0 n (reached W from (step W ds)) out₀
    pass-end all = let now : min i n ≡ n = omega arith in rw now at c.so.wrote

-- ---- the page's entries

module _ (W n : ℕ) (page : List ℕ) (fine : page_fault (read W n page) ≡ 0) {size minis first at : ℕ}
    (head : head_at W n page ≡ Opened size minis first at) where
  holds : Holds W n page size minis first at
  holds = good-page W n page fine head

  pub blocks-good : blocks_at W size minis (n - 1) (n - 1) page at
      ≡ good (deltas_of (blocks_at W size minis (n - 1) (n - 1) page at))
  blocks-good = holds.blocks ∙ ap good (sym (ap deltas_of holds.blocks))

  entry-is : (i : ℕ)
      → page_entry W (read W n page) i
      ≡ entry_of W (zigzag first) (deltas_of (blocks_at W size minis (n - 1) (n - 1) page at)) i
  entry-is i =
      ap (λ p. page_entry W p i) holds.page_is
      ∙ ap (λ (ds : List ℤ). entry_of W (zigzag first) ds i) (sym (ap deltas_of holds.blocks))

  pub raised-page : (i : ℕ)
      → reached W (raised W (zigzag first)) (step W (deltas_of (blocks_at W size minis (n - 1) (n - 1) page at))) i
      ≡ raised W (page_entry W (read W n page) i)
  raised-page i = sym (ap (raised W) (entry-is i) ∙ raised-entry W (zigzag first) _ i)

  pub signed-page : 0 < W → (i : ℕ)
      → signed W
      (reached W (modulo W (zigzag first)) (step W (deltas_of (blocks_at W size minis (n - 1) (n - 1) page at))) i)
      ≡ page_entry W (read W n page) i
  signed-page some i =
      entry-reached W (zigzag first) _ (zigzag-within W first some (head-places W n page head).0) i
      ∙ sym (entry-is i)
