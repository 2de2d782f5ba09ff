use Rattle.std.proofs.lemmas.Bool.{false≢true}
use Rattle.dcel_plane.specs.Plane.{point_at}
use Rattle.dcel_planar.proofs.Wholes.{whole_from, whole_goes}
use Rattle.dcel_planar.proofs.triangulations.is_delaunay_triangulation.Goals as goal

pub returns-then-not-has_inner_face : goal.returns-then-not-has_inner_face
returns-then-not-has_inner_face g c = (
  λ no. absurd (false≢true no),
  λ whole. let yes = c.has_inner_face.ensures.1 whole.inner in let no = c.if-not-has_inner_face.true in cc,
)

pub returns-then-not-is_closed : goal.returns-then-not-is_closed
returns-then-not-is_closed g c = (
  λ no. absurd (false≢true no),
  λ whole. let yes = c.is_closed.ensures.1 whole.closed in let no = c.if-not-is_closed.true in cc,
)

pub returns-then-not-has_triangles : goal.returns-then-not-has_triangles
returns-then-not-has_triangles g c = (
  λ no. absurd (false≢true no),
  λ whole. let yes = c.has_triangles.ensures.1 whole.triangles in let no = c.if-not-has_triangles.true in cc,
)

pub returns-then-has_unconnected : goal.returns-then-has_unconnected
returns-then-has_unconnected g c = (
  λ no. absurd (false≢true no),
  λ whole. let (v, below, bare) = c.has_unconnected.ensures.0 c.if-has_unconnected.true in absurd (whole.connected v below bare),
)

pub returns-then-not-is_delaunay : goal.returns-then-not-is_delaunay
returns-then-not-is_delaunay g c = (
  λ no. absurd (false≢true no),
  λ whole. let yes = c.is_delaunay.ensures.1 whole.delaunay in let no = c.if-not-is_delaunay.true in cc,
)

pub returns : goal.returns
returns g c = (
  λ yes.
      whole_from c.args.dcel.now c.every_mesh.ensures (point_at c.args.dcel.now) (c.is_closed.ensures.0 c.if-not-is_closed.false) (c.has_inner_face.ensures.0 c.if-not-has_inner_face.false)
      (c.has_triangles.ensures.0 c.if-not-has_triangles.false)
      (λ bare. let is = c.has_unconnected.ensures.1 bare in let no = c.if-has_unconnected.false in cc)
      (c.is_delaunay.ensures.0 c.if-not-is_delaunay.false) (c.goes_round.ensures.0 yes),
  λ whole. c.goes_round.ensures.1 (whole_goes c.args.dcel.now c.every_mesh.ensures (point_at c.args.dcel.now) whole),
)
