use Rattle.std.proofs.Common.{arith}
use Rattle.dcel_delaunay.proofs.Listed.{never, of_loose, settled, to_loose}
use Rattle.dcel_delaunay.proofs.Lost.{removal_fails}
use Rattle.dcel_delaunay.proofs.triangulation.Triangulation.remove.Goals as goal

pub remove_vertex-requires-clause-hull : goal.remove_vertex-requires-clause-hull
remove_vertex-requires-clause-hull g c = let mid = c.finish.new.self in (settled mid.planar mid.listed c.in-Ok.ensures.whole).hull

pub remove_vertex-requires-clause-loose : goal.remove_vertex-requires-clause-loose
remove_vertex-requires-clause-loose g c at = never _ at.2

pub invariant_of-self : goal.invariant_of-self
invariant_of-self g c =
    let mid = c.finish.new.self in
    let new = c.remove_vertex.new.mesh in
    record { listed = of_loose new.dcel new.due.items (c.remove_vertex.ensures.lists (to_loose mid.planar.dcel mid.planar.due.items mid.listed)) }

pub returns-in-Err-clause-refuses : goal.returns-in-Err-clause-refuses
returns-in-Err-clause-refuses g c =
    let mid = c.finish.new.self in
    removal_fails c.args.self.now.planar mid.planar c.remove_vertex.new.mesh c.args.vertex c.finish.ensures.points c.finish.ensures.same c.in-Ok.ensures.whole
    (omega (arith, c.index.ensures.value, c.num_vertices.ensures.count, c.if-index-num_vertices.false)) c.in-Err.error c.in-Err.ensures.fails
