use Rattle.std.proofs.Common.{◌<◌, subst, sym}
use Rattle.dcel_maps.specs.Conditions.{HasRoom}
use Rattle.dcel_maps.specs.Shapes.{Shape}
use Rattle.dcel_delaunay.specs.Removing.{IsInnerVertex}
use Rattle.dcel_planar.proofs.Growth.{keeps-refl}
use Rattle.dcel_planar.proofs.Whole.{either_outside}
use Rattle.dcel_constrained.proofs.Loose.{of_loose, to_loose}
use Rattle.dcel_constrained.proofs.Others.{loose_from, others_flipped, others_freed, others_left}
use Rattle.dcel_constrained.proofs.Settled.{constrained_of, triangulated_of}
use Rattle.dcel_constrained.proofs.Taken.{freed_keeps, freed_loses, out_keeps}
use Rattle.dcel_constrained.proofs.remove.take_out.Goals as goal

pub free_edges_of-requires-clause-sound : goal.free_edges_of-requires-clause-sound
free_edges_of-requires-clause-sound g c =
    let mesh = c.args.mesh.now in
    constrained_of mesh.dcel mesh.due.items mesh.triangulated c.requires.listed

pub returns-in_default-clause-keeps : goal.returns-in_default-clause-keeps
returns-in_default-clause-keeps g c =
    let mid = c.free_edges_of.new.dcel in
    freed_keeps c.args.mesh.now.dcel mid mid c.args.vertex c.free_edges_of.ensures.frees (keeps-refl mid c.free_edges_of.ensures.sound.closed)

pub returns-in_default-clause-others : goal.returns-in_default-clause-others
returns-in_default-clause-others g c = others_freed c.args.mesh.now.dcel c.free_edges_of.new.dcel c.args.vertex c.free_edges_of.ensures.frees

pub invariant_of-mesh : goal.invariant_of-mesh
invariant_of-mesh g c =
    let mid = c.free_edges_of.new.dcel in
    let due = c.free_edges_of.new.due.items in
    record { triangulated = triangulated_of mid due c.free_edges_of.ensures.sound; outlined = ∣ either_outside mid due c.free_edges_of.ensures.hull ∣₁ }

pub remove_vertex-requires-clause-vertex : goal.remove_vertex-requires-clause-vertex
remove_vertex-requires-clause-vertex g c = subst (λ (s : Shape). c.args.vertex < s.vertices) (sym c.free_edges_of.ensures.frees.shape) c.requires.vertex

pub remove_vertex-requires-clause-loose : goal.remove_vertex-requires-clause-loose
remove_vertex-requires-clause-loose g c = loose_from c.free_edges_of.new.dcel c.args.vertex c.in-Ok.ensures.free

pub returns-in_default-remove_vertex-clause-keeps : goal.returns-in_default-remove_vertex-clause-keeps
returns-in_default-remove_vertex-clause-keeps g c =
    let new = c.remove_vertex.new.mesh in
    let frees = c.free_edges_of.ensures.frees in
    let room = subst (λ (s : Shape). ¬ (IsInnerVertex s c.args.vertex × ¬ HasRoom s 0 1 2)) (sym frees.shape) c.requires.room in
    freed_keeps c.args.mesh.now.dcel c.free_edges_of.new.dcel new.dcel c.args.vertex frees (out_keeps _ new c.args.vertex room _ c.in_default-remove_vertex.ensures.fails)

pub returns-in_default-remove_vertex-clause-others : goal.returns-in_default-remove_vertex-clause-others
returns-in_default-remove_vertex-clause-others g c =
    let old = c.args.mesh.now.dcel in
    let mid = c.free_edges_of.new.dcel in
    others_flipped old mid c.remove_vertex.new.mesh.dcel c.args.vertex (others_freed old mid c.args.vertex c.free_edges_of.ensures.frees) c.in_default-remove_vertex.ensures.still

pub returns-in_default-remove_vertex-clause-listed : goal.returns-in_default-remove_vertex-clause-listed
returns-in_default-remove_vertex-clause-listed g c =
    let new = c.remove_vertex.new.mesh in
    of_loose new.dcel new.due.items (c.remove_vertex.ensures.lists (to_loose c.free_edges_of.new.dcel c.free_edges_of.new.due.items c.free_edges_of.ensures.sound.listed))

pub returns-clause-loses : goal.returns-clause-loses
returns-clause-loses g c =
    freed_loses c.args.mesh.now.dcel c.free_edges_of.new.dcel c.remove_vertex.new.mesh.dcel c.args.vertex c.free_edges_of.ensures.frees c.in-Ok-remove_vertex.removed
    c.in-Ok-remove_vertex.ensures.loses

pub returns-clause-constraints : goal.returns-clause-constraints
returns-clause-constraints g c =
    let old = c.args.mesh.now.dcel in
    let mid = c.free_edges_of.new.dcel in
    let frees = c.free_edges_of.ensures.frees in
    others_left old mid c.remove_vertex.new.mesh.dcel c.args.vertex frees.shape (others_freed old mid c.args.vertex frees) c.in-Ok-remove_vertex.ensures.staying

pub returns-clause-listed : goal.returns-clause-listed
returns-clause-listed g c =
    let new = c.remove_vertex.new.mesh in
    of_loose new.dcel new.due.items (c.remove_vertex.ensures.lists (to_loose c.free_edges_of.new.dcel c.free_edges_of.new.due.items c.free_edges_of.ensures.sound.listed))
