-- `lines::Line::entries` meets its contract: what is laid out, with what is left behind it, is the whole.
use mathlib.Core.Path.{◌≡◌}
use mathlib.Core.List.{[]}
use lib.ListN.{take}
use Rattle.lines.specs.Text.{held, laid, spelled}
use Rattle.lines.proofs.Line.entries.Given as goal

abbrev pub invariant-loop-x : goal.invariant-loop-x
invariant-loop-x g l =
    record {
      cut : held l.line ≡ laid (held l.line) [];
      whole : laid (held l.line) (spelled g.T.Spelled.spelling (take l.x-iterator.n l.x-iterator.iter.rest.now))
          ≡ laid (held l.initial.line) (spelled g.T.Spelled.spelling (take l.n l.list));
    }
