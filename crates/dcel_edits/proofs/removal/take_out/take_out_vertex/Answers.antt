use Rattle.std.proofs.Common.{◌-◌, sym, ap, ◌∙◌}
use Rattle.dcel_edits.specs.Rename.{turn_renamed}
use Rattle.dcel_edits.proofs.Dropping.{vertex_dropped-is, vertex_out-last, vertex_out-moved}
use Rattle.dcel_edits.proofs.removal.take_out.take_out_vertex.Goals as goal

pub rename_turn-requires : goal.rename_turn-requires
rename_turn-requires g c =
    let last = ap (λ n. n - 1) (sym c.num_vertices-last.ensures.count) in
    let left = vertex_dropped-is c.args.store.now c.args.vertex c.num_vertices-last.ensures.lengths c.take_vertex-datum.result c.requires.vertex_in c.take_vertex-datum.ensures.others in
    rw left (c.requires.turns (λ same. c.if-index-last.true (c.index.ensures.value ∙ same ∙ last)))

pub returns-then-index-last-clause-lists : goal.returns-then-index-last-clause-lists
returns-then-index-last-clause-lists g c =
    let last = ap (λ n. n - 1) (sym c.num_vertices-last.ensures.count) in
    let left = vertex_dropped-is c.args.store.now c.args.vertex c.num_vertices-last.ensures.lengths c.take_vertex-datum.result c.requires.vertex_in c.take_vertex-datum.ensures.others in
    c.rename_turn.ensures ∙ ap (λ l. turn_renamed l c.args.vertex) left
    ∙ sym (vertex_out-moved c.args.store.now c.args.vertex (λ same. c.if-index-last.true (c.index.ensures.value ∙ same ∙ last)))

pub returns-else-index-last-clause-lists : goal.returns-else-index-last-clause-lists
returns-else-index-last-clause-lists g c =
    let last = ap (λ n. n - 1) (sym c.num_vertices-last.ensures.count) in
    let left = vertex_dropped-is c.args.store.now c.args.vertex c.num_vertices-last.ensures.lengths c.take_vertex-datum.result c.requires.vertex_in c.take_vertex-datum.ensures.others in
    left ∙ sym (vertex_out-last c.args.store.now c.args.vertex (sym c.index.ensures.value ∙ c.if-index-last.false ∙ sym last))
