use Rattle.std.proofs.Common.{ap}
use Rattle.std.proofs.lemmas.Slice.Zip.{AllZip-long}
use Rattle.dcel_maps.proofs.lists.Made.{stays_listed}
use Rattle.dcel_edits.proofs.Public.{mesh-is-mesh}
use Rattle.dcel_edits.proofs.stored.Whole.{edges_mapped}
use Rattle.spade_dcel.proofs.dcel.Dcel.map_undirected_edges.Goals as goal

pub map_undirected_edges-requires : goal.map_undirected_edges-requires
map_undirected_edges-requires g c = rw (← c.self.view_is) at c.requires

pub invariant_of-result : goal.invariant_of-result
invariant_of-result g c =
    let long = AllZip-long (goal.M-post g c.args.f) _ _ c.in-Ok.ensures.answered in
    (edges_mapped record { stored = c.self.invariant; is = c.self.view_is } long c.in-Ok.ensures.same).stored

pub returns-in-Ok-clause-same : goal.returns-in-Ok-clause-same
returns-in-Ok-clause-same g c =
    let long = AllZip-long (goal.M-post g c.args.f) _ _ c.in-Ok.ensures.answered in
    (edges_mapped record { stored = c.self.invariant; is = c.self.view_is } long c.in-Ok.ensures.same).is

pub returns-in-Ok-clause-edits : goal.returns-in-Ok-clause-edits
returns-in-Ok-clause-edits g c =
    stays_listed _ _ (ap (λ m. m.shape) (returns-in-Ok-clause-same g c))

pub returns-in-Ok-clause-mesh : goal.returns-in-Ok-clause-mesh
returns-in-Ok-clause-mesh g c = mesh-is-mesh _ _ (invariant_of-result g c)
