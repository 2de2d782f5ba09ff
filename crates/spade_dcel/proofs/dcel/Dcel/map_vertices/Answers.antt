use Rattle.std.proofs.Common.{ap}
use Rattle.std.proofs.lemmas.Slice.Zip.{AllZip-long}
use Rattle.dcel_maps.proofs.lists.Made.{stays_listed}
use Rattle.dcel_edits.proofs.Public.{mesh-is-mesh}
use Rattle.dcel_edits.proofs.stored.Whole.{vertices_mapped}
use Rattle.spade_dcel.proofs.dcel.Dcel.map_vertices.Goals as goal

pub map_vertices-requires : goal.map_vertices-requires
map_vertices-requires g c = rw (← c.self.view_is) at c.requires

pub invariant_of-result : goal.invariant_of-result
invariant_of-result g c =
    let long = AllZip-long (goal.M-post g c.args.f) _ _ c.in-Ok.ensures.answered in
    (vertices_mapped record { stored = c.self.invariant; is = c.self.view_is } long c.in-Ok.ensures.same).stored

pub returns-in-Ok-clause-edits : goal.returns-in-Ok-clause-edits
returns-in-Ok-clause-edits g c =
    let long = AllZip-long (goal.M-post g c.args.f) _ _ c.in-Ok.ensures.answered in
    stays_listed _ _ (ap (λ m. m.shape) (vertices_mapped record { stored = c.self.invariant; is = c.self.view_is } long c.in-Ok.ensures.same).is)

pub returns-in-Ok-clause-mesh : goal.returns-in-Ok-clause-mesh
returns-in-Ok-clause-mesh g c = mesh-is-mesh _ _ (invariant_of-result g c)
