use Rattle.std.proofs.Common.{arith}
use Rattle.dcel_maps.proofs.lists.Beginning.{fixed_listed}
use Rattle.dcel_edits.proofs.Public.{mesh-is-mesh}
use Rattle.dcel_edits.proofs.stored.Creating.{fixed_begun}
use Rattle.spade_dcel.proofs.operations.create.new_with_fixed_vertices.Goals as goal

pub invariant_of-result : goal.invariant_of-result
invariant_of-result g c =
    let put = rw (c.put_vertices.ensures, c.push_face.ensures, c.in-Ok.ensures.empty) at c.put_first_edge.ensures in
    rw c.in-Ok.ensures.closed (fixed_begun _ _ _ _ _ _ _ (omega arith) (omega arith) (omega arith) c.requires.apart {is_face = g.F.Default.is_default} c.default.ensures put).stored

pub returns-clause-edge : goal.returns-clause-edge
returns-clause-edge g c =
    let put = rw (c.put_vertices.ensures, c.push_face.ensures, c.in-Ok.ensures.empty) at c.put_first_edge.ensures in
    rw c.in-Ok.ensures.closed (fixed_begun _ _ _ _ _ _ _ (omega arith) (omega arith) (omega arith) c.requires.apart {is_face = g.F.Default.is_default} c.default.ensures put).edit

pub returns-clause-edits : goal.returns-clause-edits
returns-clause-edits g c =
    fixed_listed _ _ _ _ (returns-clause-edge g c) (omega (arith, c.requires.first_in)) (omega (arith, c.requires.second_in)) c.requires.apart

pub returns-clause-mesh : goal.returns-clause-mesh
returns-clause-mesh g c = mesh-is-mesh _ _ (invariant_of-result g c)
