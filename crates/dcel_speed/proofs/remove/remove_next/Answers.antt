use Rattle.std.proofs.Common.{rules}
use Rattle.dcel_speed.proofs.Removals.{cleaned_removable, filled_listed}
use Rattle.dcel_speed.proofs.remove.remove_next.Goals as goal

pub cleanup_isolated_vertex-requires : goal.cleanup_isolated_vertex-requires
cleanup_isolated_vertex-requires g c =
    filled_listed c.args.dcel.now c.isolate_vertex_and_fill_hole.new.dcel c.args.vertex c.in_ok-border.border.items
    (search rules) c.in_ok-opened.ensures.edit _ _ c.in_ok-opened.ensures.answer.edges c.in_ok-opened.ensures.answer.faces

pub swap_remove_vertex-removal-requires : goal.swap_remove_vertex-removal-requires
swap_remove_vertex-removal-requires g c =
    cleaned_removable c.args.dcel.now c.isolate_vertex_and_fill_hole.new.dcel c.args.vertex c.in_ok-border.border.items
    (search rules) c.in_ok-opened.ensures.edit c.cleanup_isolated_vertex.new.dcel c.cleanup_isolated_vertex.ensures.edit
