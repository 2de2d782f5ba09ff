use Rattle.std.proofs.Common.{◌≡◌, ◌≢◌, ◌-◌, refl, sym, ap, ◌∙◌, rules, arith}
use Rattle.dcel_fixed.specs.HalfEdges.{rev}
use Rattle.dcel_edits.proofs.Dropping.{edge_dropped-is, edge_out-last, edge_out-moved, still_can_rename}
use Rattle.dcel_edits.proofs.removal.take_out.take_out_edge.Goals as goal

pub returns-then-eq : goal.returns-then-eq
returns-then-eq g c =
    let same : c.args.edge ≡ c.new-last.result = search rules in
    edge_dropped-is c.args.store.now c.args.edge c.num_edges.ensures.lengths c.take_edge.result.normalized c.take_edge.result.undirected
    c.requires.edge_in c.take_edge.ensures.others
    ∙ sym (edge_out-last c.args.store.now c.args.edge (same ∙ c.new-last.ensures ∙ ap (λ n. n - 1) c.num_edges.ensures.count))

pub moved_links-normalized-requires-clause-held : goal.moved_links-normalized-requires-clause-held
moved_links-normalized-requires-clause-held g c =
    let last = c.new-last.ensures ∙ ap (λ n. n - 1) c.num_edges.ensures.count in
    omega (arith, c.as_directed-from.ensures, last, c.requires.edge_in, c.num_edges.ensures.lengths.of_next)

pub moved_links-reversed-requires-clause-held : goal.moved_links-reversed-requires-clause-held
unfolding rev
moved_links-reversed-requires-clause-held g c =
    let last = c.new-last.ensures ∙ ap (λ n. n - 1) c.num_edges.ensures.count in
    omega (arith, c.rev.ensures, c.as_directed-from.ensures, last, c.requires.edge_in, c.num_edges.ensures.lengths.of_next)

pub rename_half-requires : goal.rename_half-requires
rename_half-requires g c =
    let other : c.args.edge ≢ c.new-last.result = search rules in
    let last = c.new-last.ensures ∙ ap (λ n. n - 1) c.num_edges.ensures.count in
    let left = edge_dropped-is c.args.store.now c.args.edge c.num_edges.ensures.lengths c.take_edge-2.result.normalized c.take_edge-2.result.undirected
    c.requires.edge_in c.take_edge-2.ensures.others in
    rw (left, c.moved_links-normalized.ensures, c.as_directed-from.ensures, last)
    (c.requires.normalized (λ same. other (same ∙ sym last)))

pub rename_half-requires-2 : goal.rename_half-requires-2
rename_half-requires-2 g c =
    let other : c.args.edge ≢ c.new-last.result = search rules in
    let last = c.new-last.ensures ∙ ap (λ n. n - 1) c.num_edges.ensures.count in
    let left = edge_dropped-is c.args.store.now c.args.edge c.num_edges.ensures.lengths c.take_edge-2.result.normalized c.take_edge-2.result.undirected
    c.requires.edge_in c.take_edge-2.ensures.others in
    rw (c.rename_half.ensures, left, c.moved_links-reversed.ensures, c.rev.ensures, c.as_directed-from.ensures, last)
    (still_can_rename _ _ _ _ _ (c.requires.reversed (λ same. other (same ∙ sym last))))

pub returns : goal.returns
returns g c =
    let other : c.args.edge ≢ c.new-last.result = search rules in
    let last = c.new-last.ensures ∙ ap (λ n. n - 1) c.num_edges.ensures.count in
    let left = edge_dropped-is c.args.store.now c.args.edge c.num_edges.ensures.lengths c.take_edge-2.result.normalized c.take_edge-2.result.undirected
    c.requires.edge_in c.take_edge-2.ensures.others in
    rw (
      edge_out-moved c.args.store.now c.args.edge (λ same. other (same ∙ sym last)),
      c.rename_half-2.ensures,
      c.rename_half.ensures,
      left,
      c.moved_links-normalized.ensures,
      c.moved_links-reversed.ensures,
      c.rev.ensures,
      c.rev-2.ensures,
      c.rev-3.ensures,
      c.as_directed-from.ensures,
      c.as_directed-to.ensures,
      last,
    ) refl
