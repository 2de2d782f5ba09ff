use Rattle.std.proofs.Common.{◌≡◌, ◌∙◌, ◌↔◌, ℕ, IsTrue, refl, subst}
use Rattle.dcel_maps.proofs.Liveness.{closed-half_live}
use Rattle.dcel_maps.specs.Shapes.{face_of}
use Rattle.dcel_refinement.specs.Quality.{IsFlagged}
use Rattle.dcel_refinement.proofs.judging.is_in_flagged.Goals as goal

pub face-requires : goal.face-requires
face-requires g c =
    rw (c.directed_edge.ensures.mesh, c.directed_edge.ensures.number) (closed-half_live c.args.mesh.now.shape c.requires.closed c.args.half c.requires.within)

pub returns : goal.returns
returns g c =
    let f = face_of c.args.mesh.now.shape c.args.half in
    let lies : c.face.result.number ≡ f = c.face.ensures.number ∙ rw (c.directed_edge.ensures.mesh, c.directed_edge.ensures.number) refl in
    let is : c.index-face.result ≡ f = c.index-face.ensures.value ∙ c.fix.ensures.value ∙ lies in
    subst (λ (i : ℕ). IsTrue c.is_flagged.result ↔ IsFlagged c.args.flags.now i) is c.is_flagged.ensures
