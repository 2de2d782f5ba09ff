-- The version.
use Rattle.std.specs.Prelude.{ℕ, ◌+◌, ◌*◌}

-- the three numbers of a version as one
abbrev pub version_number : ℕ → ℕ → ℕ → ℕ
version_number major minor patch = 1000000 * major + 1000 * minor + patch
