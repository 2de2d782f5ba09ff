use Rattle.std.proofs.lemmas.Bool.{false≢true}
use Rattle.dcel_plane.specs.Plane.{point_at}
use Rattle.dcel_plane.proofs.edits.Flipped.{circled_can_flip}
use Rattle.dcel_planar.proofs.Circled.{flip_between}
use Rattle.dcel_planar.proofs.legalize.is_to_flip.Goals as goal

pub is_illegal-requires-clause-sides : goal.is_illegal-requires-clause-sides
is_illegal-requires-clause-sides g c = flip_between c.args.dcel.now.shape c.args.edge (c.can_flip.ensures.0 c.if-not-can_flip.false)

pub returns-then-not-can_flip : goal.returns-then-not-can_flip
returns-then-not-can_flip g c = (
  λ no. absurd (false≢true no),
  λ both.
      let yes = c.can_flip.ensures.1 (circled_can_flip c.args.dcel.now c.every_mesh.ensures c.args.edge (point_at c.args.dcel.now) both.0 both.1) in
      let no = c.if-not-can_flip.true in
      cc,
)
