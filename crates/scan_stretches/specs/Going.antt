-- What is kept from page to page: the stretch that may still go on, where the last page that was not answered ends, and
-- how many stretches have begun.
use Rattle.std.specs.Prelude.{Bool, false, cond, ℕ, ◌-◌, leb}
use Rattle.std.proofs.Common.{Option, None, Some}
use Rattle.scan_day.specs.SecondsPassed.{more}
use Rattle.scan_stretches.specs.declared.going.Stretch.{Stretch}
use Rattle.scan_stretches.specs.declared.going.Going.{Going}

-- at the beginning of a column, in which gaps of up to so many seconds are closed
abbrev pub fresh : ℕ → Going
fresh gap = record { gap = gap; current = None; found = None; count = 0 }

-- is a second at most so many seconds behind an end, if there is one
abbrev pub near : ℕ → ℕ → Option ℕ → Bool
near s gap None = false
near s gap (Some end) = leb (s - end) gap

-- where a stretch ends, if there is one
abbrev pub end_of : Option Stretch → Option ℕ
end_of None = None
end_of (Some stretch) = Some stretch.behind

-- would a stretch that begins with a second be one with that which may go on
abbrev pub reaching : ℕ → Going → Bool
reaching s g = near s g.gap (end_of g.current)

-- and with selected seconds of the page that was not answered, if its last ones are
abbrev pub touching : ℕ → Going → Bool
touching s g = near s g.gap g.found

-- a stretch up to another second
abbrev pub up_to : ℕ → Option Stretch → Option Stretch
up_to behind None = None
up_to behind (Some t) = Some record { first = t.first; behind = behind; may_begin_earlier = t.may_begin_earlier }

-- a stretch that goes on, and one that begins
abbrev pub onward : ℕ → Going → Going
onward behind g = record { gap = g.gap; current = up_to behind g.current; found = g.found; count = g.count }

abbrev pub begun : ℕ → ℕ → Going → Going
begun first behind g =
    record {
      gap = g.gap;
      current = Some record { first = first; behind = behind; may_begin_earlier = touching first g };
      found = g.found;
      count = more g.count;
    }

-- the next stretch of selected seconds
abbrev pub stretching : ℕ → ℕ → Going → Going
stretching first behind g = cond (reaching first g) (onward behind g) (begun first behind g)

-- seconds before one that were not answered
abbrev pub losing : ℕ → Going → Going
losing end g = record { gap = g.gap; current = None; found = Some end; count = g.count }
