use Rattle.dcel_maps.proofs.lists.Growing.{flip_listed}
use Rattle.dcel_edits.proofs.Public.{mesh-is-mesh}
use Rattle.dcel_edits.proofs.stored.Changes.{held_mesh}
use Rattle.dcel_edits.proofs.stored.Flips.{flip_can, flip_holds}
use Rattle.dcel_edits.proofs.stored.Holding.{holds}
use Rattle.spade_dcel.proofs.operations.flip.flip_cw.Goals as goal

pub put_flip-requires : goal.put_flip-requires
put_flip-requires g c =
    let held = holds c.dcel.invariant c.dcel.view_is in
    rw c.as_directed.ensures (flip_can held _ c.requires)

pub invariant_of-dcel : goal.invariant_of-dcel
invariant_of-dcel g c =
    let held = holds c.dcel.invariant c.dcel.view_is in
    rw (c.put_flip.ensures, c.as_directed.ensures) (flip_holds held _ c.requires).stored

pub returns-clause-edit : goal.returns-clause-edit
returns-clause-edit g c =
    let held = holds c.dcel.invariant c.dcel.view_is in
    rw (c.put_flip.ensures, c.as_directed.ensures) (flip_holds held _ c.requires).is

pub returns-clause-edits : goal.returns-clause-edits
returns-clause-edits g c =
    flip_listed c.args.dcel.now (held_mesh _ _ _ (holds c.dcel.invariant c.dcel.view_is)) _ _ (returns-clause-edit g c) c.requires

pub returns-clause-mesh : goal.returns-clause-mesh
returns-clause-mesh g c = mesh-is-mesh _ _ (invariant_of-dcel g c)
