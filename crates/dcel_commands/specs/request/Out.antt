-- The half edges that start at a vertex, as lines show them.
use Rattle.std.specs.Prelude.{ℕ, zero, suc, ◌*◌, Bool, List, Option, Some, None, if◌then◌else◌}
use Rattle.dcel_maps.specs.Maps.{has_label}
use Rattle.dcel_maps.specs.Shapes.{Shape, map_of, origin_of}
use Rattle.dcel_maps.specs.Walking.{walk_from, ccw_of}

-- the first, if there is one, or else the other
abbrev pub or_else : Option ℕ → Option ℕ → Option ℕ
or_else (Some h) other = Some h
or_else None other = other

-- the least number below n that passes the test
abbrev pub least_below : (ℕ → Bool) → ℕ → Option ℕ
least_below test zero = None
least_below test (suc n) = or_else (least_below test n) (if test n then Some n else None)

-- the least half edge that starts at v
abbrev pub least_out : Shape → ℕ → Option ℕ
least_out s v = least_below (has_label (map_of s) (origin_of s) v) (2 * s.edges)

-- the half edges that start at v, in the order of `ccw` from the least on
abbrev pub turn_of : Shape → ℕ → List ℕ
turn_of s v = walk_from s (ccw_of s) (least_out s v)
