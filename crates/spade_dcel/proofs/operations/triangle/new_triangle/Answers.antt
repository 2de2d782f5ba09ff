use Rattle.dcel_maps.proofs.lists.Beginning.{triangle_listed}
use Rattle.dcel_edits.proofs.Public.{mesh-is-mesh}
use Rattle.dcel_edits.proofs.stored.Creating.{triangle_holds}
use Rattle.spade_dcel.proofs.operations.triangle.new_triangle.Goals as goal

pub invariant_of-result : goal.invariant_of-result
invariant_of-result g c = rw c.in-Ok.ensures.closed (triangle_holds c.in-Ok.store _ c.put_triangle.ensures).stored

pub returns-clause-triangle : goal.returns-clause-triangle
returns-clause-triangle g c = rw c.in-Ok.ensures.closed (triangle_holds c.in-Ok.store _ c.put_triangle.ensures).edit

pub returns-clause-edits : goal.returns-clause-edits
returns-clause-edits g c =
    triangle_listed _ _ (returns-clause-triangle g c)

pub returns-clause-mesh : goal.returns-clause-mesh
returns-clause-mesh g c = mesh-is-mesh _ _ (invariant_of-result g c)
