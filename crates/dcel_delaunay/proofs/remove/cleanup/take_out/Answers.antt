use Rattle.std.proofs.Common.{◌∙◌, ap, inr}
use Rattle.dcel_delaunay.proofs.Renaming.{listed_fits, renamed_as}
use Rattle.dcel_delaunay.proofs.remove.cleanup.take_out.Goals as goal

pub renumber-requires : goal.renumber-requires
renumber-requires g c =
    listed_fits c.args.dcel.now c.every_mesh.ensures _ _ _ _ c.requires.listed (c.deref.ensures.value ∙ c.cleanup_isolated_vertex.ensures.edges) c.num_undirected_edges-count.ensures.count

pub swap_remove_vertex-taken-requires : goal.swap_remove_vertex-taken-requires
swap_remove_vertex-taken-requires g c = inr (ap (λ m. m.shape.removal) c.cleanup_isolated_vertex.ensures.edit ∙ c.requires.given_up)

pub returns-clause-due : goal.returns-clause-due
returns-clause-due g c =
    renamed_as c.args.dcel.now.shape _ _ _ _ _ _ c.requires.listed (c.deref.ensures.value ∙ c.cleanup_isolated_vertex.ensures.edges) c.num_undirected_edges-count.ensures.count
    c.renumber.ensures
