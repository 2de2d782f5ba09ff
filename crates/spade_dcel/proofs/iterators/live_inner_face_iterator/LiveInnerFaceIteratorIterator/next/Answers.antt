use Rattle.std.proofs.Common.{◌<◌}
use Rattle.spade_dcel.specs.Handles.{mesh_behind, number_of}
use Rattle.spade_dcel.proofs.InnerFaces.{both_of, kept_first}
use Rattle.spade_dcel.proofs.iterators.live_inner_face_iterator.LiveInnerFaceIteratorIterator.next.Goals as goal

pub invariant_of-self : goal.invariant_of-self
invariant_of-self g c =
    (kept_first (λ face. 0 < face.1) (λ face. (mesh_behind face, number_of face)) c.next.result c.self.inside.faces c.next.new.self c.next.ensures.steps.0 c.self.invariant).0

pub returns-clause-steps : goal.returns-clause-steps
returns-clause-steps g c =
    let kept = kept_first (λ face. 0 < face.1) (λ face. (mesh_behind face, number_of face)) c.next.result c.self.inside.faces c.next.new.self c.next.ensures.steps.0 c.self.invariant in
    rw (← c.self.view_is) (c.next.ensures.steps.0, both_of _ _ c.next.result c.next.ensures.steps.1 kept.1)
