-- `bitmaps::ones_in` meets its contract. Both loops keep one invariant: the ones are those of the bytes passed.
use mathlib.Core.Path.{◌≡◌, ap, ◌∙◌}
use mathlib.Core.List.{List}
use Prim.Native.Nat.{ℕ, ◌+◌, ◌*◌, ◌/◌, ◌%◌, ◌≤◌}
use native.Mathlib.Omega.{arith}
use lib.ListN.{length, get_or, take, drop}
use Rattle.std.proofs.Common.{length-take-le, get_or-drop}
use Rattle.std.proofs.lemmas.List.{length-take}
use lib.Count.{ones, ones-le}
use Rattle.words.specs.Bytes.{number_chunk, number-one}
use Rattle.words.specs.Joined.{Small, small-take}
use Rattle.bitmaps.specs.Counts.{count_ones, count-take}
use Rattle.bitmaps.proofs.ones_in.Goals as goal

pub loop-word-init : goal.loop-word-init
unfolding count_ones
loop-word-init c = record { few = omega arith; passed = omega arith }

pub overflow_add-ones : goal.overflow_add-ones
overflow_add-ones c =
    let t : List ℕ = take c.args.m c.args.bitmap.now in
    let all : length c.as_chunks.result.0.now ≡ length t / 8 = c.as_chunks.ensures.front_len in
    omega (arith, ones-le 64 c.from_le_bytes.result (omega arith), length-take c.args.m c.args.bitmap.now)

pub loop-word-preserved : goal.loop-word-preserved
loop-word-preserved c =
    let l = c.loop-word in
    let k = l.word-index in
    let t : List ℕ = take c.args.m c.args.bitmap.now in
    let all : length c.as_chunks.result.0.now ≡ length t / 8 = c.as_chunks.ensures.front_len in
    let most : ones c.from_le_bytes.result ≤ 64 = ones-le 64 c.from_le_bytes.result (omega arith) in
    let word =
    c.from_le_bytes.ensures
    ∙ number_chunk t 7 k c.as_chunks.result.0.now (omega arith) c.as_chunks.ensures.front in
    let more = count-take t (8 * k) 8 (small-take 8 c.args.m c.args.bitmap.now (λ i. (c.type_inv.bitmap i).fits)) in
    let next : 8 * (k + 1) ≡ 8 * k + 8 = omega arith in
    record { few = omega arith; passed = rw next (omega (arith, more, ap ones word)) }

pub loop-byte-preserved : goal.loop-byte-preserved
loop-byte-preserved c =
    let l = c.loop-byte in
    let t : List ℕ = take c.args.m c.args.bitmap.now in
    let long : length t ≡ c.args.m = length-take-le c.args.m c.args.bitmap.now (omega arith) in
    let i : ℕ = 8 * (c.args.m / 8) + l.byte-index in
    let small : Small 8 t = small-take 8 c.args.m c.args.bitmap.now (λ i. (c.type_inv.bitmap i).fits) in
    let back : c.as_chunks.result.1.now ≡ drop (length t / 8 * 8) t = c.as_chunks.ensures.back in
    let place : length t / 8 * 8 + l.byte-index ≡ i = omega arith in
    let byte : get_or c.as_chunks.result.1.now l.byte-index 0 ≡ get_or t i 0 =
    rw (back, get_or-drop, place) in
    let left : length c.as_chunks.result.1.now ≡ length t % 8 = c.as_chunks.ensures.back_len in
    let most : ones (get_or t i 0) ≤ 8 = ones-le 8 _ (small i) in
    let next : 8 * (c.args.m / 8) + (l.byte-index + 1) ≡ i + 1 = omega arith in
    let same = ap ones byte in
    record {
      few = omega arith;
      passed = rw next (omega (arith, count-take t i 1 small, ap ones (number-one t i (omega arith))));
    }
