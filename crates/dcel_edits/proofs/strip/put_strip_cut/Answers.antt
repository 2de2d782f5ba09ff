use Rattle.dcel_edits.proofs.Along.{cut_ends, cut_leads, cut_moves, cut_vertex}
use Rattle.dcel_edits.proofs.strip.put_strip_cut.Goals as goal

pub move_out-requires : goal.move_out-requires
move_out-requires g c = rw c.set_face_anchor.ensures (cut_moves c.args.store.now c.args.items.now c.args.last c.requires)

pub lead_along-end-requires : goal.lead_along-end-requires
lead_along-end-requires g c =
    rw (c.move_out.ensures, c.set_face_anchor.ensures, c.prev-before.ensures, c.prev.ensures, c.prev-outer_out.ensures)
    (cut_leads c.args.store.now c.args.items.now c.args.last c.requires)

pub lead-requires : goal.lead-requires
lead-requires g c =
    rw (
      c.lead_along-end.ensures.last,
      c.lead_along-end.ensures.lists,
      c.move_out.ensures,
      c.set_face_anchor.ensures,
      c.prev-before.ensures,
      c.prev.ensures,
      c.prev-outer_out.ensures,
    )
    (cut_ends c.args.store.now c.args.items.now c.args.last c.requires)

pub set_vertex_anchor-requires : goal.set_vertex_anchor-requires
set_vertex_anchor-requires g c =
    rw (
      c.lead.ensures,
      c.lead_along-end.ensures.lists,
      c.move_out.ensures,
      c.set_face_anchor.ensures,
      c.origin-vertex.ensures,
      c.prev-outer_out.ensures,
    )
    (cut_vertex c.args.store.now c.args.items.now c.args.last c.requires)
