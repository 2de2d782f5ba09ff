use Rattle.std.proofs.Common.{◌≡◌, ◌∙◌, subst}
use Rattle.dcel_fixed.specs.HalfEdges.{rev}
use Rattle.spade_dcel.specs.Handles.{mesh_behind, number_of}
use Rattle.dcel_delaunay.specs.Lists.{place_of}
use Rattle.dcel_delaunay.proofs.listing.Elements.{face_read, placed}
use Rattle.dcel_delaunay.proofs.lists.place_beyond.Goals as goal

pub returns : goal.returns
returns g c =
    subst (λ f. c.checked_sub.result ≡ place_of f)
    (face_read (mesh_behind c.rev.result) (mesh_behind c.args.edge) (number_of c.rev.result) (rev (number_of c.args.edge)) c.index-face.result
    (c.index-face.ensures.value ∙ (c.fix.ensures.value ∙ c.face.ensures.number)) c.rev.ensures.mesh c.rev.ensures.number)
    (placed c.checked_sub.result c.index-face.result c.checked_sub.ensures)
