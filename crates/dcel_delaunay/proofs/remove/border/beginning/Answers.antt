use Rattle.std.proofs.Common.{◌≡◌, ◌∙◌, arith, refl, sym}
use Rattle.std.proofs.lemmas.Bool.Decides.{nat_tests}
use Rattle.dcel_maps.specs.Walking.{ccw_of}
use Rattle.spade_dcel.specs.Handles.{mesh_behind, number_of}
use Rattle.dcel_plane.specs.Plane.{point_at}
use Rattle.dcel_plane.specs.removal.Wheels.{MakesTwo}
use Rattle.dcel_delaunay.proofs.Bordered.{begins_at, begins_three, begins_two, has_anchor}
use Rattle.dcel_planar.proofs.Searching.{search_begins, search_continues, search_ends}
use Rattle.dcel_delaunay.proofs.remove.border.beginning.Goals as goal

pub unreachable-requires : goal.unreachable-requires
unreachable-requires g c =
    has_anchor c.args.dcel.now c.every_mesh.ensures c.args.vertex c.requires
    (sym (rw (c.vertex-around.ensures.mesh, c.vertex-around.ensures.number) at c.in_default.ensures.anchor))

pub returns-then-eq : goal.returns-then-eq
returns-then-eq g c =
    let n = mesh_behind c.in-Some.anchor in
    let h = number_of c.in-Some.anchor in
    let back : c.fix.result ≡ ccw_of n.shape (ccw_of n.shape (ccw_of n.shape h)) =
    rw (c.fix.ensures.value, c.ccw-3.ensures.number, c.ccw-2.ensures.mesh, c.ccw-2.ensures.number, c.ccw.ensures.mesh, c.ccw.ensures.number) refl in
    let same : c.fix.result ≡ c.fix-2.result = grind (arith, nat_tests, c.eq.ensures, c.if-eq.true) in
    begins_three c.args.dcel.now _ n c.args.vertex _ h _ c.vertex-around.ensures.mesh c.vertex-around.ensures.number c.in-Some.ensures.anchor c.in-Some.ensures.anchored
    c.fix-then-eq.ensures.value c.in-Some.ensures.mesh (sym back ∙ same ∙ c.fix-2.ensures.value)

pub loop-edge-init : goal.loop-edge-init
loop-edge-init g c =
    let m = c.args.dcel.now in
    search_begins (λ h. MakesTwo (point_at m) m.shape h) m c.args.vertex _ _ _ c.vertex-around.ensures.mesh c.vertex-around.ensures.number c.out_edges-edges.ensures.items
    c.out_edges-edges.ensures.each

pub returns-then-makes_two : goal.returns-then-makes_two
returns-then-makes_two g c =
    let m = c.args.dcel.now in
    let came = search_continues (λ h. MakesTwo (point_at m) m.shape h) m c.args.vertex _ _ _ _ c.loop-edge.invariant c.in-Some-next.ensures.steps.0 in
    begins_two m _ c.args.vertex _ _ came.0 came.1.starts (c.makes_two.ensures.0 c.if-makes_two.true) c.fix-then-makes_two.ensures.value

pub loop-edge-preserved : goal.loop-edge-preserved
loop-edge-preserved g c =
    let m = c.args.dcel.now in
    let came = search_continues (λ h. MakesTwo (point_at m) m.shape h) m c.args.vertex _ _ _ _ c.loop-edge.invariant c.in-Some-next.ensures.steps.0 in
    came.1.goes_on (λ two. (let yes = c.makes_two.ensures.1 (rw came.0 two) in let no = c.if-makes_two.false in cc))

pub returns : goal.returns
returns g c =
    let m = c.args.dcel.now in
    begins_at m _ c.args.vertex _ _ _ c.vertex-around.ensures.mesh c.vertex-around.ensures.number c.in-Some.ensures.anchor c.in-Some.ensures.anchored c.fix-3.ensures.value
    (search_ends (λ h. MakesTwo (point_at m) m.shape h) m c.args.vertex _ c.loop-edge.invariant c.in_default-next.ensures.steps.0.0)
