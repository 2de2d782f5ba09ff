use Rattle.std.proofs.Common.{ap, ◌∙◌}
use Rattle.dcel_maps.specs.Kinds.{Faces}
use Rattle.dcel_maps.specs.Shapes.{face_count}
use Rattle.spade_dcel.specs.Live.{live_ones}
use Rattle.spade_dcel.proofs.InnerFaces.{inner-above}
use Rattle.spade_dcel.proofs.iterators.live_inner_face_iterator.LiveInnerFaceIterator.new.Goals as goal

pub invariant_of-result : goal.invariant_of-result
invariant_of-result g c =
    let m = c.args.dcel.now in
    inner-above m (face_count m.shape) c.among.result (c.among.ensures ∙ ap (live_ones Faces) c.inner_faces.ensures.items)
