-- Where steps lead.
use Rattle.dcel_fixed.specs.HalfEdges.{rev}
use Rattle.dcel_maps.specs.Shapes.{Shape, next_of, prev_of, origin_of, end_of, face_of}
use Rattle.dcel_maps.specs.Walking.{ccw_of, cw_of}
use Rattle.dcel_c.specs.declared.steps.Step.{Step}
use Rattle.dcel_c.specs.declared.steps.Step.TheVariants as steps
use Rattle.std.specs.Prelude.{ℕ}

abbrev pub link_of : Step → Shape → ℕ → ℕ
link_of steps.Next s h = next_of s h
link_of steps.Prev s h = prev_of s h
link_of steps.Rev s h = rev h
link_of steps.Ccw s h = ccw_of s h
link_of steps.Cw s h = cw_of s h
link_of steps.From s h = origin_of s h
link_of steps.To s h = end_of s h
link_of steps.Face s h = face_of s h
