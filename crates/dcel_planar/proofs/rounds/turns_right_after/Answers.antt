use Rattle.std.proofs.Common.{inl, inr, eq-zero-or-pos, refl, pos, arith}
use Rattle.std.proofs.lemmas.Bool.{false≢true}
use Rattle.std.proofs.lemmas.Int.{by_lt_z}
use Rattle.dcel_fixed.specs.HalfEdges.{rev}
use Rattle.dcel_predicates.specs.Determinants.{orient2d_of}
use Rattle.dcel_predicates.proofs.Signs.{ordered}
use Rattle.dcel_maps.specs.Shapes.{end_of, face_of, next_of, origin_of}
use Rattle.dcel_plane.specs.Plane.{point_at}
use Rattle.dcel_planar.proofs.rounds.turns_right_after.Goals as goal

pub returns-then-bends_left : goal.returns-then-bends_left
returns-then-bends_left g c = (
  λ no. absurd (false≢true no),
  λ turns.
      let told = rw (c.directed_edge-half.ensures.mesh, c.directed_edge-half.ensures.number) at c.bends_left.ensures in
      let outer = rw (c.directed_edge-half.ensures.mesh, c.directed_edge-half.ensures.number) at c.is_outer_edge.ensures in
      let right = (turns (outer.0 c.if-not-is_outer_edge.false)).1 in
      let left = told.0 c.if-bends_left.true in
      absurd (omega (arith, ordered, left, right)),
)

pub returns : goal.returns
returns g c = (
  λ yes outer.
      let m = c.args.dcel.now in
      let s = m.shape in
      let h = c.args.edge in
      let told = rw (c.directed_edge-half.ensures.mesh, c.directed_edge-half.ensures.number) at c.bends_left.ensures in
      let facing = rw (c.rev.ensures.mesh, c.rev.ensures.number, c.directed_edge-half.ensures.mesh, c.directed_edge-half.ensures.number) at c.is_outer_edge-2.ensures in (
        elim (eq-zero-or-pos (face_of s (rev h))) [
          | inr inner ↦ inner
          | inl none ↦ absurd (let is = facing.1 none in let no = c.if-is_outer_edge.false in cc)
        ],
        by_lt_z (pos 0) (orient2d_of (point_at m (origin_of s h)) (point_at m (end_of s h)) (point_at m (end_of s (next_of s h))))
            (λ left. absurd (let is = told.1 left in let no = c.if-bends_left.false in cc)) (λ not. not),
      ),
  λ turns. refl,
)
