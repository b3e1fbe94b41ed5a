-- An operator number without a band is the listed fault.
use Rattle.std.specs.Prelude.{◌≡◌, ℕ, ℤ, Some, None}
use Rattle.rules.specs.Answer.{operator_fault}
use Rattle.compare.specs.Band.{band_of}
use Rattle.compare.specs.Operators.{unknown_band, band-known}
use Rattle.compare.specs.declared.bands.Band.{Band}

pub operator_found : (op : ℕ) (a b : ℤ) → band_of op a b ≡ None → operator_fault op ≡ 3
unfolding operator_fault
operator_found op a b e = rw (unknown_band op a b e)

pub operator_none : (op : ℕ) (a b : ℤ) (band : Band) → band_of op a b ≡ Some band → operator_fault op ≡ 0
unfolding operator_fault
operator_none op a b band e = rw (band-known op a b band e)
