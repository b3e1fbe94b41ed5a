-- `lines::Line::entries` meets its contract: each turn spells the first of what is left.
use lib.ListN.{take}
use borrow.Author.Rules.{rules}
use Rattle.lines.specs.Text.{held, laid, spelled}
use Rattle.lines.specs.Laws.{laid-none, none, spelled-next, spelled_all}
use Rattle.lines.proofs.Line.entries.Goals as goal

pub loop-x-init : goal.loop-x-init
unfolding held
loop-x-init g c = record { cut = none c.args.self.text c.args.self.used (search rules); whole = search rules }

pub loop-x-preserved : goal.loop-x-preserved
loop-x-preserved g c =
    let f = g.T.Spelled.spelling in
    let all = laid (held c.args.self) (spelled f (take c.args.n c.args.list.now)) in
    let left = c.loop-x.x-iterator in
    let then = c.next.new.self in
    let e = c.in-Some.ensures.steps in
    let x = c.in-Some.x.now in
    record {
      cut = rw c.spell-line.ensures (laid-none (held c.place.result) (f x));
      whole = rw (c.spell-line.ensures, c.place.ensures)
          (spelled-next f (held c.loop-x.line) all left.n then.n x left.iter.rest.now then.iter.rest.now
          e.0 e.1 c.loop-x.invariant.whole);
    }

pub returns : goal.returns
returns g c =
    let f = g.T.Spelled.spelling in
    let all = laid (held c.args.self) (spelled f (take c.args.n c.args.list.now)) in
    let left = c.loop-x.x-iterator in
    spelled_all f (held c.loop-x.line) all left.n left.iter.rest.now (λ h. (c.in-None.ensures.steps h).0)
    c.loop-x.invariant.cut c.loop-x.invariant.whole
