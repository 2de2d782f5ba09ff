use Rattle.std.proofs.Common.{◌≡◌, ◌∙◌, arith, refl, sym}
use Rattle.std.proofs.lemmas.Bool.Decides.{nat_tests}
use Rattle.dcel_maps.specs.Walking.{ccw_of}
use Rattle.spade_dcel.specs.Handles.{mesh_behind, number_of}
use Rattle.dcel_delaunay.proofs.ThreeSpokes.{three_found}
use Rattle.dcel_delaunay.proofs.remove.flips.has_three.Goals as goal

pub returns : goal.returns
returns g c =
    let n = mesh_behind c.in-Some.spoke in
    let h = number_of c.in-Some.spoke in
    let back : c.fix.result ≡ ccw_of n.shape (ccw_of n.shape (ccw_of n.shape h)) =
    rw (c.fix.ensures.value, c.ccw-3.ensures.number, c.ccw-2.ensures.mesh, c.ccw-2.ensures.number, c.ccw.ensures.mesh, c.ccw.ensures.number) refl in
    λ yes.
    (let same : c.fix.result ≡ c.fix-2.result = grind (arith, nat_tests, c.eq.ensures, yes) in
    three_found c.args.dcel.now c.every_mesh.ensures c.requires.sound c.requires.hull c.args.vertex c.requires.inside _ n _ h c.vertex.ensures.mesh c.vertex.ensures.number
    c.in-Some.ensures.anchor c.in-Some.ensures.anchored c.in-Some.ensures.mesh (sym back ∙ same ∙ c.fix-2.ensures.value))
