use Rattle.std.proofs.Common.{refl}
use Rattle.dcel_fixed.proofs.Halves.{rev-double}
use Rattle.dcel_maps.proofs.edits.Adding.{adds_edge}
use Rattle.dcel_edits.specs.Create.{first_edge_stored}
use Rattle.dcel_edits.proofs.create.put_first_edge.Goals as goal

pub returns : goal.returns
returns g c = adds_edge g.DE.Default.is_default g.UE.Default.is_default (first_edge_stored c.args.store.now c.args.first_vertex c.args.second_vertex) c.default.ensures
    (rw (
      c.set_face_anchor.ensures,
      c.set_vertex_anchor-2.ensures,
      c.set_vertex_anchor.ensures,
      c.push_edge.ensures,
      c.links-2.ensures,
      c.links.ensures,
      c.rev-reversed.ensures,
      c.new_normalized-normalized.ensures,
      rev-double,
    ) refl)
