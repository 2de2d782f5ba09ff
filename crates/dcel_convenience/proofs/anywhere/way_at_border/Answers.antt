use Rattle.std.proofs.Common.{◌∙◌, sym, arith}
use Rattle.std.proofs.lemmas.Bool.{false≢true}
use Rattle.dcel_convenience.proofs.WaysOut.{border_short, border_strip}
use Rattle.dcel_convenience.proofs.anywhere.way_at_border.Goals as goal

pub returns-then-not-comes_back-clause-way : goal.returns-then-not-comes_back-clause-way
returns-then-not-comes_back-clause-way g c = (
  c.requires.there.1,
  border_strip c.args.dcel.now.shape c.every_mesh.ensures.sound c.args.vertex c.args.outside c.requires.border
      (λ back. false≢true (sym c.if-not-comes_back.true ∙ c.comes_back.ensures.1 back)),
)

pub returns-then-num_undirected_edges-ne1-clause-why : goal.returns-then-num_undirected_edges-ne1-clause-why
returns-then-num_undirected_edges-ne1-clause-why g c = (
  c.requires.there,
  (c.args.outside, c.requires.border),
  border_short c.args.dcel.now.shape c.every_mesh.ensures.sound c.args.vertex c.args.outside c.requires.border (c.comes_back.ensures.0 c.if-not-comes_back.false),
  λ last. (let alone = last.alone in let other = c.if-num_undirected_edges-ne1.true in let count = c.num_undirected_edges.ensures.count in omega (arith, alone, other, count)),
)

pub returns-then-not-can_remove_degenerate-clause-why : goal.returns-then-not-can_remove_degenerate-clause-why
returns-then-not-can_remove_degenerate-clause-why g c = (
  c.requires.there,
  (c.args.outside, c.requires.border),
  border_short c.args.dcel.now.shape c.every_mesh.ensures.sound c.args.vertex c.args.outside c.requires.border (c.comes_back.ensures.0 c.if-not-comes_back.false),
  λ last. false≢true (sym c.if-not-can_remove_degenerate.true ∙ c.can_remove_degenerate.ensures.1 last.can),
)
