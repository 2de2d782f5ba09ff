use Rattle.std.proofs.Common.{refl}
use Rattle.dcel_fixed.proofs.Halves.{rev-double}
use Rattle.dcel_maps.proofs.edits.Adding.{adds_edge}
use Rattle.dcel_edits.specs.Line.{spur_stored}
use Rattle.dcel_edits.proofs.line.put_spur.Goals as goal

pub returns : goal.returns
returns g c = adds_edge g.DE.Default.is_default g.UE.Default.is_default (spur_stored c.args.store.now c.args.before c.args.tip) c.default.ensures
    (rw (
      c.set_vertex_anchor.ensures,
      c.push_edge.ensures,
      c.links-2.ensures,
      c.links.ensures,
      c.set_prev.ensures,
      c.set_next.ensures,
      c.rev-forth.ensures,
      c.new_normalized-back.ensures,
      c.num_edges.ensures.count,
      rev-double,
      c.origin-from.ensures,
      c.face-face.ensures,
      c.next-after.ensures,
    ) refl)
