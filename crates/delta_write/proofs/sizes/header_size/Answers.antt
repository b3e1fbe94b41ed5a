-- `delta_write::sizes::header_size` meets its contract: the shortest spellings of four numbers of 32 bits.
use Rattle.std.proofs.Common.{◌≡◌, ℕ, ◌≤◌, length, ap, ◌∙◌, arith}
use Rattle.rules.specs.Shortest.{shortest}
use Rattle.varints.specs.Shortness.{shortest-size}
use Rattle.delta_write.specs.Blocks.{length-header}
use Rattle.delta_write.proofs.sizes.header_size.Goals as goal
use Rattle.delta_write.proofs.sizes.header_size.Goals.{After-size_of-4}

four : (c : After-size_of-4) → c.size_of-4.result ≤ 5
four c = rw c.size_of-4.ensures (shortest-size 32 c.first_of.result c.first_of.type_inv).1

pub overflow_add-result : goal.overflow_add-result
overflow_add-result c =
    let two : (c.size_of.result ≤ 5) × (c.size_of-2.result ≤ 5) = (
      rw c.size_of.ensures (shortest-size 32 128 (omega arith)).1,
      rw c.size_of-2.ensures (shortest-size 32 4 (omega arith)).1,
    ) in
    omega (arith, two)

pub overflow_add-result-2 : goal.overflow_add-result-2
overflow_add-result-2 c =
    let two : (c.size_of.result ≤ 5) × (c.size_of-2.result ≤ 5) = (
      rw c.size_of.ensures (shortest-size 32 128 (omega arith)).1,
      rw c.size_of-2.ensures (shortest-size 32 4 (omega arith)).1,
    ) in
    let three : c.size_of-3.result ≤ 5 = let n = length c.args.entries.now in
    rw c.size_of-3.ensures (shortest-size 32 n (omega arith)).1 in
    omega (arith, two, three)

pub overflow_add-result-3 : goal.overflow_add-result-3
overflow_add-result-3 c =
    let two : (c.size_of.result ≤ 5) × (c.size_of-2.result ≤ 5) = (
      rw c.size_of.ensures (shortest-size 32 128 (omega arith)).1,
      rw c.size_of-2.ensures (shortest-size 32 4 (omega arith)).1,
    ) in
    let three : c.size_of-3.result ≤ 5 = let n = length c.args.entries.now in
    rw c.size_of-3.ensures (shortest-size 32 n (omega arith)).1 in
    omega (arith, two, three, four c)

pub returns : goal.returns
returns c =
    let two : (c.size_of.result ≤ 5) × (c.size_of-2.result ≤ 5) = (
      rw c.size_of.ensures (shortest-size 32 128 (omega arith)).1,
      rw c.size_of-2.ensures (shortest-size 32 4 (omega arith)).1,
    ) in
    let three : c.size_of-3.result ≤ 5 = let n = length c.args.entries.now in
    rw c.size_of-3.ensures (shortest-size 32 n (omega arith)).1 in
    let t = c in
    let first = c.first_of.ensures in
    let last : c.size_of-4.result ≡ length (shortest _) = c.size_of-4.ensures ∙ ap
    (λ (x : ℕ). length (shortest x)) first in record {
      sized = omega (
        arith,
        last,
        t.size_of-3.ensures,
        t.size_of-2.ensures,
        t.size_of.ensures,
        length-header t.args.entries.now,
      );
      few = omega (arith, two, three, four c);
    }
