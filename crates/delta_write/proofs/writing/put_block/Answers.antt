-- `delta_write::writing::put_block` meets its contract: the smallest delta, the width bytes and the bodies are
-- stored one behind another.
use Rattle.std.proofs.Common.{◌+◌, ◌++◌, take, drop, arith, length-take}
use Rattle.rules.specs.Shortest.{shortest}
use Rattle.rules.specs.DeltaWriter.{deltas, widths, bodies}
use Rattle.words.specs.Puts.{Stored, stored-first, stored-behind}
use Rattle.delta_write.specs.Miniblocks.{length-widths}
use Rattle.delta_write.specs.Blocks.{Numbered, numbered}
use Rattle.delta_write.proofs.writing.put_block.Goals as goal

pub put_number-widths-requires : goal.put_number-widths-requires
put_number-widths-requires c =
    let made : let a = c.args in
    Numbered 32 (take a.k (drop a.from (deltas 32 a.entries.now))) c.put_numbers-smallest.result
    c.put_numbers-smallest.new.numbers = let a = c.args in
    numbered 32 (take a.k (drop a.from (deltas 32 a.entries.now))) (rw length-take (omega arith))
    c.put_numbers-smallest.ensures.stored c.put_numbers-smallest.ensures.smallest in
    let p = c in
    let n = made in
    omega (arith, n.size)

pub put_widths-requires : goal.put_widths-requires
put_widths-requires c =
    let made : let a = c.args in
    Numbered 32 (take a.k (drop a.from (deltas 32 a.entries.now))) c.put_numbers-smallest.result
    c.put_numbers-smallest.new.numbers = let a = c.args in
    numbered 32 (take a.k (drop a.from (deltas 32 a.entries.now))) (rw length-take (omega arith))
    c.put_numbers-smallest.ensures.stored c.put_numbers-smallest.ensures.smallest in
    let one : let p = c in let a = p.args in
    Stored a.page.now a.at (shortest p.put_numbers-smallest.result) c.put_number-widths.new.page
    c.put_number-widths.result = let p = c in
    let a = p.args in
    let n = made in
    stored-first a.page.now a.at (shortest p.put_numbers-smallest.result) c.put_number-widths.ensures.stored
    c.put_number-widths.ensures.next (omega (arith, n.size)) in
    let d = c in
    let n = made in
    let o = one in
    (n.count, omega (arith, n.size))

pub overflow_add-widths : goal.overflow_add-widths
overflow_add-widths c =
    let made : let a = c.args in
    Numbered 32 (take a.k (drop a.from (deltas 32 a.entries.now))) c.put_numbers-smallest.result
    c.put_numbers-smallest.new.numbers = let a = c.args in
    numbered 32 (take a.k (drop a.from (deltas 32 a.entries.now))) (rw length-take (omega arith))
    c.put_numbers-smallest.ensures.stored c.put_numbers-smallest.ensures.smallest in
    let one : let p = c in let a = p.args in
    Stored a.page.now a.at (shortest p.put_numbers-smallest.result) c.put_number-widths.new.page
    c.put_number-widths.result = let p = c in
    let a = p.args in
    let n = made in
    stored-first a.page.now a.at (shortest p.put_numbers-smallest.result) c.put_number-widths.ensures.stored
    c.put_number-widths.ensures.next (omega (arith, n.size)) in
    let d = c in
    let p = d in
    let o = one in
    let n = made in
    omega (arith, n.size)

pub put_bodies-requires : goal.put_bodies-requires
put_bodies-requires c =
    let made : let a = c.args in
    Numbered 32 (take a.k (drop a.from (deltas 32 a.entries.now))) c.put_numbers-smallest.result
    c.put_numbers-smallest.new.numbers = let a = c.args in
    numbered 32 (take a.k (drop a.from (deltas 32 a.entries.now))) (rw length-take (omega arith))
    c.put_numbers-smallest.ensures.stored c.put_numbers-smallest.ensures.smallest in
    let one : let p = c in let a = p.args in
    Stored a.page.now a.at (shortest p.put_numbers-smallest.result) c.put_number-widths.new.page
    c.put_number-widths.result = let p = c in
    let a = p.args in
    let n = made in
    stored-first a.page.now a.at (shortest p.put_numbers-smallest.result) c.put_number-widths.ensures.stored
    c.put_number-widths.ensures.next (omega (arith, n.size)) in
    let two : let d = c in
    let p = d in
    let a = p.args in
    Stored a.page.now a.at
    (shortest p.put_numbers-smallest.result ++ widths 4 32 p.put_numbers-smallest.new.numbers)
    c.put_widths.new.page (d.put_number-widths.result + 4) = let d = c in
    let p = d in
    let ns = p.put_numbers-smallest.new.numbers in
    let n = made in
    let o = one in
    let size = length-widths 4 32 ns in
    stored-behind (widths 4 32 ns) o c.put_widths.ensures (omega arith) (omega (arith, n.size)) in
    let w = c in
    let t = two in
    let n = made in
    (n.count, omega (arith, n.size))

pub returns : goal.returns
returns c =
    let made : let a = c.args in
    Numbered 32 (take a.k (drop a.from (deltas 32 a.entries.now))) c.put_numbers-smallest.result
    c.put_numbers-smallest.new.numbers = let a = c.args in
    numbered 32 (take a.k (drop a.from (deltas 32 a.entries.now))) (rw length-take (omega arith))
    c.put_numbers-smallest.ensures.stored c.put_numbers-smallest.ensures.smallest in
    let one : let p = c in let a = p.args in
    Stored a.page.now a.at (shortest p.put_numbers-smallest.result) c.put_number-widths.new.page
    c.put_number-widths.result = let p = c in
    let a = p.args in
    let n = made in
    stored-first a.page.now a.at (shortest p.put_numbers-smallest.result) c.put_number-widths.ensures.stored
    c.put_number-widths.ensures.next (omega (arith, n.size)) in
    let two : let d = c in
    let p = d in
    let a = p.args in
    Stored a.page.now a.at
    (shortest p.put_numbers-smallest.result ++ widths 4 32 p.put_numbers-smallest.new.numbers)
    c.put_widths.new.page (d.put_number-widths.result + 4) = let d = c in
    let p = d in
    let ns = p.put_numbers-smallest.new.numbers in
    let n = made in
    let o = one in
    let size = length-widths 4 32 ns in
    stored-behind (widths 4 32 ns) o c.put_widths.ensures (omega arith) (omega (arith, n.size)) in
    let b = c in
    let w = b in
    let p = w in
    let n = made in
    let t = two in
    let ns = p.put_numbers-smallest.new.numbers in
    let all =
    stored-behind (bodies 4 32 ns) t b.put_bodies.ensures.stored b.put_bodies.ensures.next
    (omega (arith, n.size)) in
    record { stored = rw n.whole all.stored; next = rw n.whole all.reached }
