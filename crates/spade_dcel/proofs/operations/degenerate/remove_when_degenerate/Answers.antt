use Rattle.std.proofs.Common.{arith}
use Rattle.dcel_maps.proofs.lists.Removing.{degenerate_listed}
use Rattle.dcel_edits.proofs.Public.{mesh-is-mesh}
use Rattle.dcel_edits.proofs.stored.Changes.{held_mesh}
use Rattle.dcel_edits.proofs.stored.Holding.{holds}
use Rattle.dcel_edits.proofs.stored.PathVertices.{can_lose_degenerate, degenerate_out_holds}
use Rattle.spade_dcel.proofs.Taken.{datum_held}
use Rattle.spade_dcel.proofs.operations.degenerate.remove_when_degenerate.Goals as goal

pub overflow_sub-num_vertices : goal.overflow_sub-num_vertices
overflow_sub-num_vertices g c = omega (arith, c.requires.within, c.num_vertices.ensures.count)

pub take_out_degenerate-removed_vertex-requires : goal.take_out_degenerate-removed_vertex-requires
take_out_degenerate-removed_vertex-requires g c = can_lose_degenerate (holds c.dcel.invariant c.dcel.view_is) _ c.requires

pub invariant_of-dcel : goal.invariant_of-dcel
invariant_of-dcel g c =
    (degenerate_out_holds (holds c.dcel.invariant c.dcel.view_is) _ c.requires c.take_out_degenerate-removed_vertex.ensures.lists).stored

pub returns-clause-edit : goal.returns-clause-edit
returns-clause-edit g c =
    (degenerate_out_holds (holds c.dcel.invariant c.dcel.view_is) _ c.requires c.take_out_degenerate-removed_vertex.ensures.lists).is

pub returns-clause-edits : goal.returns-clause-edits
returns-clause-edits g c =
    degenerate_listed c.args.dcel.now (held_mesh _ _ _ (holds c.dcel.invariant c.dcel.view_is)) _ c.requires _ (returns-clause-edit g c)

pub returns-clause-mesh : goal.returns-clause-mesh
returns-clause-mesh g c = mesh-is-mesh _ _ (invariant_of-dcel g c)

pub returns-clause-datum : goal.returns-clause-datum
returns-clause-datum g c =
    datum_held (holds c.dcel.invariant c.dcel.view_is) c.args.vertex _ c.requires.within c.take_out_degenerate-removed_vertex.ensures.datum _ c.of.ensures.datum
