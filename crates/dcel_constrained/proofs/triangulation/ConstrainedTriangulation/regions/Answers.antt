use Rattle.std.proofs.Common.{Result, Ok, Err, IfOk}
use Rattle.dcel_plane.proofs.covering.Starts.{face_live}
use Rattle.dcel_constrained.proofs.triangulation.ConstrainedTriangulation.regions.Goals as goal

-- what follows from what is said of a result
then_so : {X E : Type 0} (P Q : X → Type 0) (r : Result X E) → ((x : X) → P x → Q x) → IfOk r P → IfOk r Q
then_so P Q (Ok x) follows holds = follows x holds
then_so P Q (Err e) follows holds = tt

pub returns-clause-reached : goal.returns-clause-reached
returns-clause-reached g c =
    then_so _ _ c.regions.result (λ numbers all f below. all f (face_live c.args.self.now.planar.dcel c.every_mesh.ensures c.args.self.now.planar.triangulated.closed f below))
    c.regions.ensures.reached
