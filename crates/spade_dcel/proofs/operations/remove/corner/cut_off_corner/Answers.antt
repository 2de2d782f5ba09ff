use Rattle.spade_dcel.proofs.CutOff.{cut_can_swap, cut_comes, cut_datum, cut_is, cut_listed, cut_moved}
use Rattle.spade_dcel.proofs.operations.remove.corner.cut_off_corner.Goals as goal

pub cleanup_isolated_vertex-requires : goal.cleanup_isolated_vertex-requires
cleanup_isolated_vertex-requires g c =
    cut_listed c.args.dcel.now c.disconnect.new.dcel c.args.strip.now c.in_ok-opened.ensures.edit _ _ c.in_ok-opened.ensures.answer.edges c.in_ok-opened.ensures.answer.faces

pub swap_remove_vertex-removed-requires : goal.swap_remove_vertex-removed-requires
swap_remove_vertex-removed-requires g c =
    cut_can_swap c.args.dcel.now c.disconnect.new.dcel c.args.strip.now c.in_ok-opened.ensures.edit c.cleanup_isolated_vertex.new.dcel c.cleanup_isolated_vertex.ensures.edit _ c.corner-vertex.ensures

pub returns-clause-edit : goal.returns-clause-edit
returns-clause-edit g c =
    cut_is c.args.dcel.now c.disconnect.new.dcel c.args.strip.now c.in_ok-opened.ensures.edit c.cleanup_isolated_vertex.new.dcel c.cleanup_isolated_vertex.ensures.edit _ c.corner-vertex.ensures _ c.swap_remove_vertex-removed.ensures.edit

pub returns-clause-edits : goal.returns-clause-edits
returns-clause-edits g c =
    cut_comes c.args.dcel.now c.disconnect.new.dcel c.args.strip.now c.in_ok-opened.ensures.edit c.cleanup_isolated_vertex.new.dcel c.cleanup_isolated_vertex.ensures.edit _ c.corner-vertex.ensures _ c.swap_remove_vertex-removed.ensures.edit
    c.in_ok-opened.ensures.mesh c.cleanup_isolated_vertex.ensures.mesh c.in_ok-opened.ensures.edits

pub returns-clause-datum : goal.returns-clause-datum
returns-clause-datum g c =
    cut_datum c.args.dcel.now c.disconnect.new.dcel c.args.strip.now c.in_ok-opened.ensures.edit c.cleanup_isolated_vertex.new.dcel c.cleanup_isolated_vertex.ensures.edit _ c.corner-vertex.ensures _ c.swap_remove_vertex-removed.ensures.datum

pub returns-clause-moved : goal.returns-clause-moved
returns-clause-moved g c =
    cut_moved c.args.dcel.now c.disconnect.new.dcel c.args.strip.now c.in_ok-opened.ensures.edit c.cleanup_isolated_vertex.new.dcel c.cleanup_isolated_vertex.ensures.edit _ c.corner-vertex.ensures _ c.swap_remove_vertex-removed.ensures.moved
