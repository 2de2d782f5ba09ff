use Rattle.std.proofs.Common.{◌∙◌}
use Rattle.dcel_maps.proofs.lists.Removing.{cleanup_listed}
use Rattle.dcel_edits.proofs.Public.{mesh-is-mesh}
use Rattle.dcel_edits.proofs.stored.Changes.{held_mesh}
use Rattle.dcel_edits.proofs.stored.CleaningUp.{can_lose_listed_edges, can_lose_listed_faces, listed_out_holds}
use Rattle.dcel_edits.proofs.stored.Holding.{holds}
use Rattle.spade_dcel.proofs.Listed.{as_many, edges-listed, faces-listed}
use Rattle.spade_dcel.proofs.operations.cleanup.cleanup_isolated_vertex.Goals as goal

pub copy_from_slice-requires : goal.copy_from_slice-requires
copy_from_slice-requires g c =
    as_many _ c.args.opened.now.edges_to_remove.items _ c.args.opened.now.edges_to_remove.ok.0
    (edges-listed (holds c.dcel.invariant c.dcel.view_is) _ _ _ c.requires c.edges.ensures)

pub copy_from_slice-requires-2 : goal.copy_from_slice-requires-2
copy_from_slice-requires-2 g c =
    as_many _ c.args.opened.now.faces_to_remove.items _ c.args.opened.now.faces_to_remove.ok.0
    (faces-listed (holds c.dcel.invariant c.dcel.view_is) _ _ _ c.requires c.faces.ensures)

pub returns-clause-edges : goal.returns-clause-edges
returns-clause-edges g c =
    edges-listed (holds c.dcel.invariant c.dcel.view_is) _ _ _ c.requires (c.copy_from_slice.ensures.items ∙ c.edges.ensures)

pub returns-clause-faces : goal.returns-clause-faces
returns-clause-faces g c =
    faces-listed (holds c.dcel.invariant c.dcel.view_is) _ _ _ c.requires (c.copy_from_slice-2.ensures.items ∙ c.faces.ensures)

pub take_out_edges-requires : goal.take_out_edges-requires
take_out_edges-requires g c =
    can_lose_listed_edges (holds c.dcel.invariant c.dcel.view_is) _ _ _ _ c.requires
    (c.deref.ensures.value ∙ edges-listed (holds c.dcel.invariant c.dcel.view_is) _ _ _ c.requires (c.copy_from_slice.ensures.items ∙ c.edges.ensures))
    (faces-listed (holds c.dcel.invariant c.dcel.view_is) _ _ _ c.requires (c.copy_from_slice-2.ensures.items ∙ c.faces.ensures))

pub take_out_faces-requires : goal.take_out_faces-requires
take_out_faces-requires g c =
    can_lose_listed_faces (holds c.dcel.invariant c.dcel.view_is) _ _ _ _ c.requires
    (c.deref.ensures.value ∙ edges-listed (holds c.dcel.invariant c.dcel.view_is) _ _ _ c.requires (c.copy_from_slice.ensures.items ∙ c.edges.ensures))
    (c.deref-2.ensures.value ∙ faces-listed (holds c.dcel.invariant c.dcel.view_is) _ _ _ c.requires (c.copy_from_slice-2.ensures.items ∙ c.faces.ensures))
    c.take_out_edges.ensures

pub invariant_of-dcel : goal.invariant_of-dcel
invariant_of-dcel g c =
    (listed_out_holds (holds c.dcel.invariant c.dcel.view_is) _ _ _ _ c.requires
    (c.deref.ensures.value ∙ edges-listed (holds c.dcel.invariant c.dcel.view_is) _ _ _ c.requires (c.copy_from_slice.ensures.items ∙ c.edges.ensures))
    (c.deref-2.ensures.value ∙ faces-listed (holds c.dcel.invariant c.dcel.view_is) _ _ _ c.requires (c.copy_from_slice-2.ensures.items ∙ c.faces.ensures))
    c.take_out_edges.ensures c.take_out_faces.ensures c.clean_up.ensures).stored

pub returns-clause-edit : goal.returns-clause-edit
returns-clause-edit g c =
    (listed_out_holds (holds c.dcel.invariant c.dcel.view_is) _ _ _ _ c.requires
    (c.deref.ensures.value ∙ edges-listed (holds c.dcel.invariant c.dcel.view_is) _ _ _ c.requires (c.copy_from_slice.ensures.items ∙ c.edges.ensures))
    (c.deref-2.ensures.value ∙ faces-listed (holds c.dcel.invariant c.dcel.view_is) _ _ _ c.requires (c.copy_from_slice-2.ensures.items ∙ c.faces.ensures))
    c.take_out_edges.ensures c.take_out_faces.ensures c.clean_up.ensures).is

pub returns-clause-edits : goal.returns-clause-edits
returns-clause-edits g c =
    cleanup_listed c.args.dcel.now (held_mesh _ _ _ (holds c.dcel.invariant c.dcel.view_is)) _ (returns-clause-edit g c)

pub returns-clause-mesh : goal.returns-clause-mesh
returns-clause-mesh g c = mesh-is-mesh _ _ (invariant_of-dcel g c)
