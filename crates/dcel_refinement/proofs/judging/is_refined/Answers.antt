use Rattle.std.proofs.Common.{◌≡◌, ◌∙◌, ◌↔◌, ℕ, IsTrue, refl, subst}
use Rattle.dcel_maps.proofs.Liveness.{closed-half_live}
use Rattle.dcel_maps.specs.Shapes.{face_of}
use Rattle.dcel_refinement.specs.Refined.{HasOdd}
use Rattle.dcel_refinement.proofs.Judged.{inside_odd, odd_inside}
use Rattle.dcel_refinement.proofs.judging.is_refined.Goals as goal

pub face-requires : goal.face-requires
face-requires g c =
    rw (c.directed_edge.ensures.mesh, c.directed_edge.ensures.number) (closed-half_live c.args.mesh.now.shape c.requires.closed c.args.half c.requires.within)

pub returns-in-Inside : goal.returns-in-Inside
returns-in-Inside g c =
    let m = c.args.mesh.now in
    let f = face_of m.shape c.args.half in
    let lies : c.face.result.number ≡ f = c.face.ensures.number ∙ rw (c.directed_edge.ensures.mesh, c.directed_edge.ensures.number) refl in
    let is : c.index-face.result ≡ f = c.index-face.ensures.value ∙ c.fix.ensures.value ∙ lies in
    let told : IsTrue c.is_odd.result ↔ HasOdd c.args.depths.now f = subst (λ (i : ℕ). IsTrue c.is_odd.result ↔ HasOdd c.args.depths.now i) is c.is_odd.ensures in
    rw c.in-Inside.is (
      λ yes. odd_inside m c.every_mesh.ensures c.args.depths.now c.requires.depths f (told.0 yes),
      λ inside. told.1 (inside_odd m c.every_mesh.ensures c.args.depths.now c.requires.depths f inside),
    )
