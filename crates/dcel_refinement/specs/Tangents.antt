-- Angles in degrees, and tangents that are no smaller than theirs.
use Rattle.std.specs.Prelude.{ℕ, ◌+◌, ◌-◌, ◌*◌, ◌^◌, ◌≤◌, ◌⊎◌, cond, min}
use Rattle.std.specs.Int.{div_ceil}
use Rattle.std.specs.Float.Ieee.{Float, nan, inf, fin, up, down}

-- 45 degrees, in steps of 1/65536 degree
abbrev pub eighth : ℕ
eighth = 45 * 65536

-- degrees in steps, rounded up: none for less than 0 and for no number, 45 degrees for more. The float is m * up e / down e
abbrev pub steps_of : Float → ℕ
steps_of nan = 0
steps_of (inf s) = cond s 0 eighth
steps_of (fin s m e) = cond s 0 (min eighth (div_ceil (m * up e * 65536) (down e)))

-- in a circle of this radius the arc of a step is shorter than 71, since pi < 355 / 113, and 355 / 180 is 71 / 36
abbrev pub radius : ℕ
radius = 65536 * 36 * 113

-- no less than the arc of so many steps
abbrev pub arc_of : ℕ → ℕ
arc_of steps = steps * 71

-- 840 - 95 x² + x⁴ times radius⁴, with x = arc / radius
abbrev pub numerator : ℕ → ℕ
numerator arc = 840 * radius ^ 4 - 95 * arc ^ 2 * radius ^ 2 + arc ^ 4

-- 840 - 375 x² + 14 x⁴ times radius⁴
abbrev pub denominator : ℕ → ℕ
denominator arc = 840 * radius ^ 4 - 375 * arc ^ 2 * radius ^ 2 + 14 * arc ^ 4

-- rise / run is no smaller than the tangent of so many steps, at most 45 degrees: it is 1 or more, or no smaller than
-- x (840 - 95 x² + x⁴) / (840 - 375 x² + 14 x⁴). That bounds the tangent if x ≤ 1, which is x / (1 - x² / (3 - x² / (5 - x² / (7 - t)))) with
-- 0 ≤ t ≤ x² / 8 (J. H. Lambert 1761; NIST Digital Library of Mathematical Functions, 4.25.1)
abbrev pub Reaches : ℕ → ℕ → ℕ → Type 0
Reaches steps rise run = (run ≤ rise) ⊎ (run * arc_of steps * numerator (arc_of steps) ≤ rise * radius * denominator (arc_of steps))
