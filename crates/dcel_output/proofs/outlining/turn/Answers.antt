use Rattle.std.proofs.Common.{◌∙◌, inl, inr, ℕ, ap, subst, sym}
use Rattle.dcel_maps.specs.edits.Data.{undirected_edge_updated}
use Rattle.dcel_regions.specs.Marked.{IsMarked}
use Rattle.dcel_regions.specs.declared.mark.Mark.TheVariants.{Constraint, Free}
use Rattle.dcel_output.proofs.Parted.{turned_once}
use Rattle.dcel_output.proofs.outlining.turn.Goals as goal

pub returns-then-is_marked-clause-turned : goal.returns-then-is_marked-clause-turned
returns-then-is_marked-clause-turned g c =
    let m = c.args.mesh.now in
    let is = c.as_undirected-edge.ensures in
    turned_once m c.set_mark.new.mesh c.every_mesh.ensures c.args.half c.requires (inl (
      subst (λ (u : ℕ). IsMarked m u) is (c.is_marked.ensures.0 c.if-is_marked.true),
      c.set_mark.ensures ∙ ap (λ (u : ℕ). undirected_edge_updated m u Free) is,
    ))

pub returns-else-is_marked-clause-turned : goal.returns-else-is_marked-clause-turned
returns-else-is_marked-clause-turned g c =
    let m = c.args.mesh.now in
    let is = c.as_undirected-edge.ensures in
    turned_once m c.set_mark-else-is_marked.new.mesh c.every_mesh.ensures c.args.half c.requires (inr (
      λ marked. (let yes = c.is_marked.ensures.1 (subst (λ (u : ℕ). IsMarked m u) (sym is) marked) in let no = c.if-is_marked.false in cc),
      c.set_mark-else-is_marked.ensures ∙ ap (λ (u : ℕ). undirected_edge_updated m u Constraint) is,
    ))
