-- The library's version as one number, by which C code can compare two.
use Rattle.std.specs.Prelude.{ℕ, ◌+◌, ◌*◌}

abbrev pub numbered : ℕ → ℕ → ℕ → ℕ
numbered major minor patch = major * 1000000 + minor * 1000 + patch
