use Rattle.std.proofs.Common.{◌-◌}
use Rattle.dcel_maps.proofs.lists.Beginning.{new_listed}
use Rattle.dcel_edits.proofs.Public.{mesh-is-mesh}
use Rattle.dcel_edits.proofs.stored.Creating.{new_holds}
use Rattle.spade_dcel.proofs.operations.create.new.Goals as goal

pub invariant_of-result : goal.invariant_of-result
invariant_of-result g c = rw (c.in_ok-store.ensures.closed, c.push_face.ensures, c.in_ok-store.ensures.empty) (new_holds c.default.result _ _ _).stored

pub returns-clause-new : goal.returns-clause-new
returns-clause-new g c =
    let begun = c.in_ok-store.store in
    record {
      datum = c.default.result;
      default = c.default.ensures;
      is = rw (c.in_ok-store.ensures.closed, c.push_face.ensures, c.in_ok-store.ensures.empty) (new_holds c.default.result begun.vertex_room begun.edge_room (begun.face_room - 1)).is;
    }

pub returns-clause-edits : goal.returns-clause-edits
returns-clause-edits g c =
    new_listed _ (returns-clause-new g c)

pub returns-clause-mesh : goal.returns-clause-mesh
returns-clause-mesh g c = mesh-is-mesh _ _ (invariant_of-result g c)
