use Rattle.std.proofs.Common.{◌≡◌, refl, rules, subst, sym}
use Rattle.dcel_fixed.specs.HalfEdges.{rev}
use Rattle.dcel_maps.specs.Shapes.{map_of}
use Rattle.dcel_maps.proofs.maps.Soundness.{rev_live}
use Rattle.dcel_predicates.specs.declared.line.Side.TheVariants.{Left, Right}
use Rattle.spade_dcel.specs.Handles.{mesh_behind, number_of}
use Rattle.dcel_planar.specs.Places.{IsBeyondHull, LiesAt}
use Rattle.dcel_planar.proofs.Along.{beside, outer}
use Rattle.dcel_planar.proofs.OnEdges.{told}
use Rattle.dcel_planar.proofs.location.line.locate_on_line.Goals as goal

pub returns-in-Left : goal.returns-in-Left
returns-in-Left g c =
    let m = c.args.dcel.now in
    let h = number_of c.args.edge in
    let p = c.args.point in
    let lies = told m c.every_mesh.ensures (mesh_behind c.args.edge) p h h c.side.result c.requires.mesh refl c.side.ensures.lies in
    let is : c.side.result ≡ Left = search rules in
    let at : c.fix.result ≡ h = search rules in
    subst (IsBeyondHull m p) (sym at) (c.requires.live, outer m c.every_mesh.ensures c.requires.flat.alone h c.requires.live, subst (LiesAt m p h) is lies)

pub returns-in-Right : goal.returns-in-Right
returns-in-Right g c =
    let m = c.args.dcel.now in
    let h = number_of c.args.edge in
    let p = c.args.point in
    let lies = told m c.every_mesh.ensures (mesh_behind c.args.edge) p h h c.side.result c.requires.mesh refl c.side.ensures.lies in
    let is : c.side.result ≡ Right = search rules in
    let at : c.fix-in-Right.result ≡ rev h = search rules in
    let live = rev_live (map_of m.shape) h c.requires.live in
    subst (IsBeyondHull m p) (sym at)
    (live, outer m c.every_mesh.ensures c.requires.flat.alone (rev h) live, beside m c.every_mesh.ensures p h (subst (LiesAt m p h) is lies))
