-- Lists in buffers.
use Rattle.std.specs.Prelude.{ℕ, nat_lt, if◌then◌else◌}

-- whether so many fit
abbrev pub buffer_status : ℕ → ℕ → ℕ
buffer_status needed room = if nat_lt room needed then 22 else 0
