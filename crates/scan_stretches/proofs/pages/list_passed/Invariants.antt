-- `scan_stretches::pages::list_passed` meets its contract: each turn passes a pair.
use mathlib.Core.Path.{◌≡◌}
use Rattle.std.specs.Slice.Iter.{chunks_exact_rest, chunks_exact_size}
use Rattle.scan_stretches.specs.Pages.{stretched}
use Rattle.scan_stretches.proofs.pages.list_passed.Given as goal

abbrev pub invariant-loop-pair : goal.invariant-loop-pair
invariant-loop-pair l =
    record {
      pairs : chunks_exact_size l.pair-iterator ≡ 2;
      whole : stretched l.start (chunks_exact_rest l.pair-iterator) l.listing.going
          ≡ stretched l.start l.list l.initial.listing.going;
    }
