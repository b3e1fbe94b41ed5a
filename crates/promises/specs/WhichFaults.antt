-- Which faults can be found, part by part: a code that is found is 0 or one of those listed here. Over what is to
-- hold of the codes (`Named`), which need hold only of those listed.
use Rattle.std.specs.Prelude.{◌≡◌, refl, Bool, true, false, not, ◌||◌, eqb, ℤ, length, take, drop}
use mathlib.Core.List.{List, [], ◌∷◌}
use Prim.Native.Nat.{ℕ, zero, suc, ◌+◌, ◌-◌, ◌*◌, ◌/◌, ◌%◌, ◌^◌}
use Rattle.std.proofs.Math.Dec.{leb, ltb}
use Rattle.rules.specs.Bits.{Order, ceil, number, some_below}
use Rattle.rules.specs.Answer.{faulty, ◌then◌, count_fault, limit_fault, operator_fault, room_fault}
use Rattle.rules.specs.Answer.{any_large, large_fault}
use Rattle.rules.specs.Varint.{number_at}
use Rattle.rules.specs.Horizontal as Horizontal
use Rattle.rules.specs.Vertical as Vertical
use Rattle.rules.specs.Grammar.{Piece}
use Rattle.rules.specs.Runs.{Stream, repeated_at, packed_at, headed, run_at, also, at_end, after, read_at, read}
use Rattle.rules.specs.Runs.{stream_fault, answer_of}
use Rattle.rules.specs.Runs.Stream.{good, bad}
use Rattle.rules.specs.Delta as Delta
use Rattle.rules.specs.Delta.{Deltas, shaped, head_at, needed, width_fault, body_bytes, laid_at, block_at, blocks_at}
use Rattle.rules.specs.Delta.{begun, opened, page_fault}
use Rattle.rules.specs.Delta.Deltas.{good as good-deltas, bad as bad-deltas}
use Rattle.rules.specs.Dictionary.{count, unordered, dictionary_fault, indexes, index_at, index_fault}
use Rattle.rules.specs.Dictionary.{column_fault}
use Rattle.rules.specs.declared.Number.{Number}
use Rattle.rules.specs.declared.Number.TheVariants.{Read, Ended, Beyond}
use Rattle.rules.specs.Runs.{Run}
use Rattle.rules.specs.Runs.Run.{Repeated, Packed, Refused}
use Rattle.rules.specs.Delta.{Head}
use Rattle.rules.specs.Delta.Head.{Unopened}
use Rattle.rules.specs.Delta.{Block}
use Rattle.rules.specs.Delta.Block.{Laid, Unlaid}
use Rattle.words.specs.Tests.{either}
use Rattle.varints.specs.Fields.{by_field}
use Rattle.delta_read.specs.DeltasFault.{deltas_fault, fault-also as deltas-also}

-- 0 for a run that was read
abbrev pub run_fault : Run → ℕ
run_fault run = (answer_of run).code

-- 0 for a block that was read
abbrev block_fault : Block → ℕ
block_fault (Laid h widths next) = 0
block_fault (Unlaid code) = code

fault-also : (p : Piece) (s : Stream) → stream_fault (also p s) ≡ stream_fault s
fault-also p (good ps) = refl
fault-also p (bad code) = refl

fault-begun : (first : ℤ) (x : Deltas) → page_fault (begun first x) ≡ deltas_fault x
fault-begun first (good-deltas ds) = refl
fault-begun first (bad-deltas code) = refl

module _ (Named : ℕ → Type 0) (none : Named 0) where
  pub a_fault : (t : Bool) {code : ℕ} → Named code → Named (faulty t code)
  a_fault true named = named
  a_fault false named = none

  -- the first of two, or the second
  pub in_order : {a b : ℕ} → Named a → Named b → Named (a then b)
  unfolding ◌then◌
  in_order {a = zero} first later = later
  in_order {a = suc a} first later = first

  pub count_limit : Named 2 → (n : ℕ) → Named (count_fault n)
  count_limit two n = a_fault (ltb 16384 n) two

  pub limits : Named 1 → Named 2 → (w n : ℕ) → Named (limit_fault w n)
  unfolding limit_fault
  limits one two w n = in_order (a_fault (ltb 32 w) one) (count_limit two n)

  pub large : Named 8 → (w : ℕ) (xs : List ℕ) → Named (large_fault w xs)
  unfolding large_fault
  large eight w xs = a_fault (any_large w xs) eight

  -- ---- bare pages

  module _ (five : Named 5) (six : Named 6) (seven : Named 7) where
    bare-page : (short long unclear : Bool) → Named (faulty short 5 then faulty long 6 then faulty unclear 7)
    bare-page short long unclear =
        in_order (a_fault short five) (in_order (a_fault long six) (a_fault unclear seven))

    pub horizontal-page : (o : Order) (page : List ℕ) (w n : ℕ) → Named (Horizontal.page_fault o page w n)
    unfolding Horizontal.page_fault
    horizontal-page o page w n =
        let need : ℕ = Horizontal.page_bytes w n in
        bare-page (ltb (length page) need) (ltb need (length page)) (ltb 0 (Horizontal.unused o page w n))

    pub vertical-page : (words : List ℕ) (w n : ℕ) → Named (Vertical.page_fault words w n)
    unfolding Vertical.page_fault
    vertical-page words w n =
        let need : ℕ = Vertical.page_words w n in
        bare-page (ltb (length words) need) (ltb need (length words)) (Vertical.unused words w n)

  -- ---- the calls, over the faults of the arguments' limits, of the page and of the entries

  pub scan_code : {code : ℕ} (limits op places need page : ℕ)
      → code ≡ (limits then operator_fault op then room_fault places need then page)
      → Named 3 → Named 4 → Named limits → Named page → Named code
  unfolding operator_fault room_fault
  scan_code limits op places need page e three four within read =
      rw e (in_order within (in_order (a_fault (ltb 7 op) three) (in_order (a_fault (ltb places need) four) read)))

  pub unpack_code : {code : ℕ} (limits places need page : ℕ) → code ≡ (limits then room_fault places need then page)
      → Named 4 → Named limits → Named page → Named code
  unfolding room_fault
  unpack_code limits places need page e four within read =
      rw e (in_order within (in_order (a_fault (ltb places need) four) read))

  pub pack_code : {code : ℕ} (limits unfit places need : ℕ) → code ≡ (limits then unfit then room_fault places need)
      → Named 4 → Named limits → Named unfit → Named code
  unfolding room_fault
  pack_code limits unfit places need e four within fit =
      rw e (in_order within (in_order fit (a_fault (ltb places need) four)))

  -- ---- run streams

  module _ (five : Named 5) (eight : Named 8) (nine : Named 9) (ten : Named 10) (eleven : Named 11) where
    pub run : (w left : ℕ) (page : List ℕ) (x : Number) → Named (run_fault (headed w left page x))
    unfolding repeated_at packed_at
    run w left page Ended = five
    run w left page Beyond = nine
    run w left page (Read h at) =
        let R : Run → Type 0 = λ r. Named (run_fault r) in
        either R (eqb (h / 2) 0) (λ _. ten)
        (λ _. either R (eqb (h % 2) 0)
        (λ _. either R (ltb left (h / 2)) (λ _. eleven)
        (λ _. either R (ltb (length page - at) (ceil w 8)) (λ _. five)
        (λ _. either R (ltb (number (take (ceil w 8) (drop at page))) (2 ^ w)) (λ _. none) (λ _. eight))))
        (λ _. either R (ltb (left + 7) (8 * (h / 2))) (λ _. eleven)
        (λ _. either R (ltb (length page - at) (w * (h / 2))) (λ _. five) (λ _. none))))

    module _ (six : Named 6) where
      stream_end : (over : Bool) → Named (stream_fault (at_end over))
      stream_end true = six
      stream_end false = none

      run-first : (w left : ℕ) (page : List ℕ) (at : ℕ) (onward : ℕ → ℕ → Stream)
          → ((l next : ℕ) → Named (stream_fault (onward l next))) → (r : Run) → Named (run_fault r)
          → Named (stream_fault (after w left page at onward r))
      run-first w left page at onward rest (Refused code) found = found
      run-first w left page at onward rest (Repeated count value next) found = rw fault-also (rest _ _)
      run-first w left page at onward rest (Packed groups start next) found = rw fault-also (rest _ _)

      runs : (w turns left : ℕ) (page : List ℕ) (at : ℕ) → Named (stream_fault (read_at w turns left page at))
      runs w zero zero page at = stream_end (ltb at (length page))
      runs w zero (suc left) page at = five
      runs w (suc turns) zero page at = stream_end (ltb at (length page))
      runs w (suc turns) (suc left) page at =
          run-first w (suc left) page at (λ l next. read_at w turns l page next) (λ l next. runs w turns l page next) (run_at w (suc left) page at)
          (run w (suc left) page (number_at 32 page at))

      pub stream : (w n : ℕ) (page : List ℕ) → Named (stream_fault (read w n page))
      unfolding read
      stream w n page = runs w n n page 0

      -- ---- dictionary columns

      module _ (one : Named 1) where
        index-page : (n : ℕ) (page : List ℕ) → Named (stream_fault (indexes n page))
        unfolding indexes
        index-page n [] = five
        index-page n (w ∷ s) =
            either (λ found. Named (stream_fault found)) (ltb 32 w) (λ _. one) (λ _. stream w n s)

        pub column : Named 14 → Named 15 → (dict : List ℕ) (n : ℕ) (page : List ℕ)
            → Named (column_fault dict n page)
        unfolding dictionary_fault index_fault column_fault
        column fourteen fifteen dict n page =
            in_order (a_fault (not (eqb (length dict % 4) 0) || ltb 65536 (length dict) || unordered dict) fourteen)
            (in_order (index-page n page)
            (a_fault (some_below n (λ i. leb (count dict) (index_at n page i))) fifteen))

  -- ---- delta pages

  module _ (one : Named 1) (five : Named 5) (six : Named 6) (nine : Named 9) where
    widths : (W all need : ℕ) (s : List ℕ) → Named (width_fault W all need s)
    widths W zero need s = none
    widths W (suc all) zero [] = five
    widths W (suc all) (suc need) [] = five
    widths W (suc all) zero (b ∷ s) = widths W all zero s
    widths W (suc all) (suc need) (b ∷ s) = either Named (ltb W b) (λ _. one) (λ _. widths W all need s)

    bodies : (h minis need m : ℕ) (page : List ℕ) (at code : ℕ) → Named code
        → Named (block_fault (laid_at h minis need m page at code))
    unfolding laid_at
    bodies h minis need m page at zero found =
        either (λ b. Named (block_fault b)) (ltb (length page - (at + minis)) (body_bytes need m page at)) (λ _. five)
        (λ _. none)
    bodies h minis need m page at (suc code) found = found

    block : (W minis need m : ℕ) (page : List ℕ) (at : ℕ) → Named (block_fault (block_at W minis need m page at))
    unfolding block_at
    block W minis need m page at =
        by_field Unlaid _ (λ b. Named (block_fault b)) (number_at W page at) five nine
        (λ h next _. bodies h minis need m page next _ (widths W minis need (drop next page)))

    block-first : (size minis left : ℕ) (page : List ℕ) (onward : ℕ → ℕ → Deltas)
        → ((l next : ℕ) → Named (deltas_fault (onward l next))) → (b : Block) → Named (block_fault b)
        → Named (deltas_fault (Delta.after size minis left page onward b))
    block-first size minis left page onward rest (Unlaid code) found = found
    block-first size minis left page onward rest (Laid h at next) found = rw deltas-also (rest _ _)

    blocks_end : (over : Bool) → Named (deltas_fault (Delta.at_end over))
    blocks_end true = six
    blocks_end false = none

    blocks : (W size minis turns left : ℕ) (page : List ℕ) (at : ℕ)
        → Named (deltas_fault (blocks_at W size minis turns left page at))
    blocks W size minis zero zero page at = blocks_end (ltb at (length page))
    blocks W size minis zero (suc left) page at = five
    blocks W size minis (suc turns) zero page at = blocks_end (ltb at (length page))
    blocks W size minis (suc turns) (suc left) page at =
        let need : ℕ = needed minis (size / minis) (suc left) in
        block-first size minis (suc left) page (λ l next. blocks_at W size minis turns l page next) (λ l next. blocks W size minis turns l page next)
        (block_at W minis need (size / minis) page at) (block W minis need (size / minis) page at)

    pub delta-page : Named 12 → Named 13 → (W n : ℕ) (page : List ℕ) → Named (page_fault (Delta.read W n page))
    unfolding Delta.read head_at
    delta-page twelve thirteen W n page =
        let H : Head → Type 0 = λ h. Named (page_fault (opened W n page h)) in
        by_field Unopened _ H (number_at 32 page 0) five nine (λ size p _.
        by_field Unopened _ H (number_at 32 page p) five nine (λ minis q _.
        by_field Unopened _ H (number_at 32 page q) five nine (λ count r _.
        by_field Unopened _ H (number_at W page r) five nine (λ first next _.
        either H (shaped size minis)
        (λ _. either H (eqb count n)
        (λ _. rw fault-begun (blocks W size minis (n - 1) (n - 1) page next)) (λ _. thirteen))
        (λ _. twelve)))))
