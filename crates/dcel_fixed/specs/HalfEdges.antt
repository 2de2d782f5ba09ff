use Rattle.std.specs.Prelude.{ℕ, ◌+◌, ◌-◌, ◌*◌, ◌%◌}

-- the other half edge of the edge that h belongs to: h with its last bit flipped
unfoldable pub rev : ℕ → ℕ
rev h = h + 1 - 2 * (h % 2)
