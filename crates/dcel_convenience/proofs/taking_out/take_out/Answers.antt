use Rattle.std.proofs.Common.{refl}
use Rattle.dcel_convenience.proofs.Removed.{can_swap, datum_is, listed, moved_is, takes_out}
use Rattle.dcel_convenience.proofs.taking_out.take_out.Goals as goal
use Rattle.dcel_maps.specs.Renumbering.{cleaned_up}

pub cleanup_isolated_vertex-requires : goal.cleanup_isolated_vertex-requires
cleanup_isolated_vertex-requires g c =
    listed g.DE.Default.is_default g.UE.Default.is_default g.F.Default.is_default c.args.dcel.now c.isolate_vertex_and_fill_hole.new.dcel (cleaned_up c.isolate_vertex_and_fill_hole.new.dcel)
    c.args.vertex c.args.border.items c.in-Ok.ensures.edit refl c.requires.inside c.in-Ok.opened.edges_to_remove.items c.in-Ok.opened.faces_to_remove.items
    c.in-Ok.ensures.answer.edges c.in-Ok.ensures.answer.faces

pub swap_remove_vertex-requires : goal.swap_remove_vertex-requires
swap_remove_vertex-requires g c =
    can_swap g.DE.Default.is_default g.UE.Default.is_default g.F.Default.is_default c.args.dcel.now c.isolate_vertex_and_fill_hole.new.dcel c.cleanup_isolated_vertex.new.dcel
    c.args.vertex c.args.border.items c.in-Ok.ensures.edit c.cleanup_isolated_vertex.ensures.edit c.requires.inside

pub returns-clause-edit : goal.returns-clause-edit
returns-clause-edit g c =
    takes_out g.DE.Default.is_default g.UE.Default.is_default g.F.Default.is_default c.args.dcel.now c.isolate_vertex_and_fill_hole.new.dcel c.cleanup_isolated_vertex.new.dcel
    c.args.vertex c.args.border.items c.in-Ok.ensures.edit c.cleanup_isolated_vertex.ensures.edit c.swap_remove_vertex.new.dcel c.swap_remove_vertex.ensures.edit

pub returns-clause-returned : goal.returns-clause-returned
returns-clause-returned g c = record {
  datum = datum_is g.DE.Default.is_default g.UE.Default.is_default g.F.Default.is_default c.args.dcel.now c.isolate_vertex_and_fill_hole.new.dcel
      c.cleanup_isolated_vertex.new.dcel c.args.vertex c.args.border.items c.in-Ok.ensures.edit c.cleanup_isolated_vertex.ensures.edit
      c.swap_remove_vertex.result.removed_vertex c.swap_remove_vertex.ensures.datum;
  moved = moved_is g.DE.Default.is_default g.UE.Default.is_default g.F.Default.is_default c.args.dcel.now c.isolate_vertex_and_fill_hole.new.dcel
      c.cleanup_isolated_vertex.new.dcel c.args.vertex c.args.border.items c.in-Ok.ensures.edit c.cleanup_isolated_vertex.ensures.edit
      c.swap_remove_vertex.result.swapped_in_vertex c.swap_remove_vertex.ensures.moved;
}
