-- Four groups side by side: each as it is by itself.
use Rattle.std.specs.Prelude.{List, ℕ}
use Rattle.compare.specs.declared.bands.Band.{Band}
use Rattle.vertical_planes.specs.Standing.{stepped, band_compared, Standing}
use Rattle.vertical_planes.specs.declared.four.Four.{Four}
use Rattle.vertical_planes.specs.declared.lanes.Lanes.{Lanes}
use Rattle.rules.specs.declared.Compared.{Compared}

abbrev pub stepped_four : Four Lanes → Four ℕ → ℕ → ℕ → Four Lanes
stepped_four four planes low apart =
    record {
      first = stepped four.first planes.first low apart;
      second = stepped four.second planes.second low apart;
      third = stepped four.third planes.third low apart;
      fourth = stepped four.fourth planes.fourth low apart;
    }

module _ (first second third fourth : List ℕ) (band : Band) where
  abbrev pub FourStanding : Four Lanes → Type 0
  FourStanding four =
      Standing first band four.first × Standing second band four.second
      × Standing third band four.third × Standing fourth band four.fourth

  abbrev pub four_compared : Four Compared
  four_compared =
      record {
        first = band_compared first band;
        second = band_compared second band;
        third = band_compared third band;
        fourth = band_compared fourth band;
      }
