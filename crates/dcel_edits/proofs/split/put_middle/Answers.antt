use Rattle.std.proofs.Common.{refl}
use Rattle.dcel_fixed.proofs.Halves.{rev-double}
use Rattle.dcel_maps.proofs.edits.Adding.{adds_edge}
use Rattle.dcel_edits.specs.Split.{middle_stored}
use Rattle.dcel_edits.proofs.split.put_middle.Goals as goal

pub returns-clause-stored : goal.returns-clause-stored
returns-clause-stored g c = adds_edge g.DE.Default.is_default g.UE.Default.is_default (middle_stored c.args.store.now c.args.edge c.args.middle) c.default.ensures
    (rw (
      c.set_vertex_anchor-2.ensures,
      c.set_vertex_anchor.ensures,
      c.push_edge.ensures,
      c.links-2.ensures,
      c.links.ensures,
      c.substitute-2.ensures,
      c.substitute.ensures,
      c.set_origin.ensures,
      c.set_prev-2.ensures,
      c.set_prev.ensures,
      c.set_next-2.ensures,
      c.set_next.ensures,
      c.rev-new_twin.ensures,
      c.new_normalized-new_edge.ensures,
      c.num_edges.ensures.count,
      rev-double,
      c.origin-end.ensures,
      c.face-face.ensures,
      c.prev-before.ensures,
      c.next-after.ensures,
      c.rev-twin.ensures,
    ) refl)
