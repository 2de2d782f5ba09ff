use Rattle.std.proofs.Common.{arith}
use Rattle.dcel_maps.proofs.lists.Removing.{remove_listed}
use Rattle.dcel_maps.proofs.renumbering.Vertices.{can_swap_remove-out}
use Rattle.dcel_edits.proofs.Public.{mesh-is-mesh}
use Rattle.dcel_edits.proofs.stored.Changes.{held_mesh}
use Rattle.dcel_edits.proofs.stored.Holding.{holds}
use Rattle.dcel_edits.proofs.stored.TakingOut.{lose_vertex}
use Rattle.spade_dcel.proofs.Taken.{datum_held}
use Rattle.spade_dcel.proofs.operations.swap_remove.swap_remove_vertex.Goals as goal

pub overflow_sub-num_vertices : goal.overflow_sub-num_vertices
overflow_sub-num_vertices g c =
    let held = holds c.dcel.invariant c.dcel.view_is in
    let out = can_swap_remove-out _ (held_mesh _ _ _ held) _ c.requires in
    omega (arith, out.below, c.num_vertices.ensures.count)

pub take_out_vertex-removed_vertex-requires : goal.take_out_vertex-removed_vertex-requires
take_out_vertex-removed_vertex-requires g c =
    let held = holds c.dcel.invariant c.dcel.view_is in
    (lose_vertex held _ (can_swap_remove-out _ (held_mesh _ _ _ held) _ c.requires)).0

pub invariant_of-dcel : goal.invariant_of-dcel
invariant_of-dcel g c =
    let held = holds c.dcel.invariant c.dcel.view_is in
    rw (c.close.ensures, c.take_out_vertex-removed_vertex.ensures.lists)
    (lose_vertex held _ (can_swap_remove-out _ (held_mesh _ _ _ held) _ c.requires)).1.stored

pub returns-clause-edit : goal.returns-clause-edit
returns-clause-edit g c =
    let held = holds c.dcel.invariant c.dcel.view_is in
    rw (c.close.ensures, c.take_out_vertex-removed_vertex.ensures.lists)
    (lose_vertex held _ (can_swap_remove-out _ (held_mesh _ _ _ held) _ c.requires)).1.is

pub returns-clause-edits : goal.returns-clause-edits
returns-clause-edits g c =
    remove_listed c.args.dcel.now (held_mesh _ _ _ (holds c.dcel.invariant c.dcel.view_is)) _ _ (returns-clause-edit g c) c.requires

pub returns-clause-mesh : goal.returns-clause-mesh
returns-clause-mesh g c = mesh-is-mesh _ _ (invariant_of-dcel g c)

pub returns-clause-datum : goal.returns-clause-datum
returns-clause-datum g c =
    let held = holds c.dcel.invariant c.dcel.view_is in
    datum_held held c.args.vertex _ (can_swap_remove-out _ (held_mesh _ _ _ held) _ c.requires).below c.take_out_vertex-removed_vertex.ensures.datum _ c.of.ensures.datum
