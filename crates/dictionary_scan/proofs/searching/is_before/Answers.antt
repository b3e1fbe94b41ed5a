-- `dictionary_scan::searching::is_before` meets its contract: both numbers are read back from their bits.
use mathlib.Core.Path.{◌≡◌}
use native.Mathlib.Omega.{arith}
use lib.IntN.{ℤ}
use mir.Syntax.{w32, w64}
use mir.Val.{SFits, to_z, of_z}
use mir.ValLaws.{to_z-of_z}
use Rattle.dictionary_scan.proofs.searching.is_before.Goals as goal

-- a signed number of 32 bits is one of 64
wide : (x : ℤ) → SFits w32 x → SFits w64 x
wide x fits = record { sfits = omega (arith, fits.sfits) }

widened : (x : ℤ) → SFits w32 x → to_z w64 (of_z w64 (to_z w32 (of_z w32 x))) ≡ x
widened x fits = rw (to_z-of_z w32 x fits) (to_z-of_z w64 x (wide x fits))

pub returns-then-equal : goal.returns-then-equal
returns-then-equal c =
    rw (c.from-x.ensures, widened c.args.x c.ranges.x, to_z-of_z w64 c.args.z c.ranges.z, c.if-equal.true)

pub returns-else-equal : goal.returns-else-equal
returns-else-equal c =
    rw (c.from-x.ensures, widened c.args.x c.ranges.x, to_z-of_z w64 c.args.z c.ranges.z, c.if-equal.false)
