-- `delta_write::writing::put_header` meets its contract: each number is stored behind those before it.
use Rattle.std.proofs.Common.{ℕ, ◌+◌, ◌≤◌, ◌++◌, length, ap, zero-add, arith}
use Rattle.rules.specs.Shortest.{shortest}
use Rattle.words.specs.Puts.{Stored, stored-first, stored-behind}
use Rattle.delta_write.specs.Blocks.{length-header}
use Rattle.delta_write.proofs.writing.put_header.Goals as goal

pub put_number-minis-requires : goal.put_number-minis-requires
put_number-minis-requires c = let s = c in omega (arith, length-header s.args.entries.now)

pub put_number-count-requires : goal.put_number-count-requires
put_number-count-requires c =
    let one : Stored c.args.page.now 0 (shortest 128) c.put_number-minis.new.page
    c.put_number-minis.result = let s = c in
    stored-first s.args.page.now 0 (shortest 128) c.put_number-minis.ensures.stored c.put_number-minis.ensures.next
    (omega (arith, length-header s.args.entries.now)) in
    let room2 : c.put_number-minis.result + length (shortest 4) ≤ length c.put_number-minis.new.page = let o =
    one in omega (arith, length-header c.args.entries.now) in
    room2

pub put_number-first-requires : goal.put_number-first-requires
put_number-first-requires c =
    let one : Stored c.args.page.now 0 (shortest 128) c.put_number-minis.new.page
    c.put_number-minis.result = let s = c in
    stored-first s.args.page.now 0 (shortest 128) c.put_number-minis.ensures.stored c.put_number-minis.ensures.next
    (omega (arith, length-header s.args.entries.now)) in
    let room2 : c.put_number-minis.result + length (shortest 4) ≤ length c.put_number-minis.new.page = let o =
    one in omega (arith, length-header c.args.entries.now) in
    let two : let s = c in
    Stored s.args.page.now 0 (shortest 128 ++ shortest 4) c.put_number-count.new.page c.put_number-count.result =
    let o = c in
    stored-behind (shortest 4) (one) c.put_number-count.ensures.stored c.put_number-count.ensures.next (room2) in
    let room3 : let s = c in
    c.put_number-count.result + length (shortest (length s.args.entries.now)) ≤ length c.put_number-count.new.page =
    let s = c in
    let o = one in
    let t = two in
    omega (arith, c.put_number-count.ensures.next, length-header s.args.entries.now) in
    room3

pub put_number-requires : goal.put_number-requires
put_number-requires c =
    let one : Stored c.args.page.now 0 (shortest 128) c.put_number-minis.new.page
    c.put_number-minis.result = let s = c in
    stored-first s.args.page.now 0 (shortest 128) c.put_number-minis.ensures.stored c.put_number-minis.ensures.next
    (omega (arith, length-header s.args.entries.now)) in
    let room2 : c.put_number-minis.result + length (shortest 4) ≤ length c.put_number-minis.new.page = let o =
    one in omega (arith, length-header c.args.entries.now) in
    let two : let s = c in
    Stored s.args.page.now 0 (shortest 128 ++ shortest 4) c.put_number-count.new.page c.put_number-count.result =
    let o = c in
    stored-behind (shortest 4) (one) c.put_number-count.ensures.stored c.put_number-count.ensures.next (room2) in
    let room3 : let s = c in
    c.put_number-count.result + length (shortest (length s.args.entries.now)) ≤ length c.put_number-count.new.page =
    let s = c in
    let o = one in
    let t = two in
    omega (arith, c.put_number-count.ensures.next, length-header s.args.entries.now) in
    let three : let s = c in
    Stored s.args.page.now 0 (shortest 128 ++ shortest 4 ++ shortest (length s.args.entries.now))
    c.put_number-first.new.page c.put_number-first.result = let t = c in
    stored-behind
    (shortest (length t.args.entries.now)) (two)
    c.put_number-first.ensures.stored c.put_number-first.ensures.next (room3) in
    let room4 : c.put_number-first.result + length (shortest c.first_of.result)
    ≤ length c.put_number-first.new.page = let h = c in
    let t = h in
    let o = t in
    let e = one in
    let f = two in
    let g = three in
    let s = o in
    omega (
      arith,
      t.put_number-count.ensures.next,
      h.put_number-first.ensures.next,
      length-header s.args.entries.now,
      ap (λ (x : ℕ). length (shortest x)) c.first_of.ensures,
    ) in
    room4

pub returns : goal.returns
returns c =
    let one : Stored c.args.page.now 0 (shortest 128) c.put_number-minis.new.page
    c.put_number-minis.result = let s = c in
    stored-first s.args.page.now 0 (shortest 128) c.put_number-minis.ensures.stored c.put_number-minis.ensures.next
    (omega (arith, length-header s.args.entries.now)) in
    let room2 : c.put_number-minis.result + length (shortest 4) ≤ length c.put_number-minis.new.page = let o =
    one in omega (arith, length-header c.args.entries.now) in
    let two : let s = c in
    Stored s.args.page.now 0 (shortest 128 ++ shortest 4) c.put_number-count.new.page c.put_number-count.result =
    let o = c in
    stored-behind (shortest 4) (one) c.put_number-count.ensures.stored c.put_number-count.ensures.next (room2) in
    let room3 : let s = c in
    c.put_number-count.result + length (shortest (length s.args.entries.now)) ≤ length c.put_number-count.new.page =
    let s = c in
    let o = one in
    let t = two in
    omega (arith, c.put_number-count.ensures.next, length-header s.args.entries.now) in
    let three : let s = c in
    Stored s.args.page.now 0 (shortest 128 ++ shortest 4 ++ shortest (length s.args.entries.now))
    c.put_number-first.new.page c.put_number-first.result = let t = c in
    stored-behind
    (shortest (length t.args.entries.now)) (two)
    c.put_number-first.ensures.stored c.put_number-first.ensures.next (room3) in
    let room4 : c.put_number-first.result + length (shortest c.first_of.result)
    ≤ length c.put_number-first.new.page = let h = c in
    let t = h in
    let o = t in
    let e = one in
    let f = two in
    let g = three in
    let s = o in
    omega (
      arith,
      t.put_number-count.ensures.next,
      h.put_number-first.ensures.next,
      length-header s.args.entries.now,
      ap (λ (x : ℕ). length (shortest x)) c.first_of.ensures,
    ) in
    let d = c in
    let h = d in
    let all =
    stored-behind (shortest d.first_of.result) (three) d.put_number.ensures.stored
    d.put_number.ensures.next (room4) in
    let first = d.first_of.ensures in
    record { stored = rw first at all.stored; next = rw (first, zero-add) at all.reached }
