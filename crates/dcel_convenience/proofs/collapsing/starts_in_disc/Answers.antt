use Rattle.std.proofs.Common.{◌∙◌, sym, ap, subst, eq-eqb}
use Rattle.std.proofs.lemmas.Bool.{false≢true}
use Rattle.dcel_convenience.specs.Collapsing.{corner_of}
use Rattle.dcel_convenience.specs.Surrounding.{IsInside}
use Rattle.dcel_convenience.proofs.Collapsed.{single_at}
use Rattle.dcel_convenience.proofs.collapsing.starts_in_disc.Goals as goal
use Rattle.dcel_fixed.proofs.Halves.{rev-half}
use Rattle.dcel_maps.specs.Shapes.{IsLive, edge_is_live}

pub returns-then-not-is_inside : goal.returns-then-not-is_inside
returns-then-not-is_inside g c = (
  λ no. absurd (false≢true no),
  λ disc. absurd (false≢true (sym c.if-not-is_inside.true ∙ c.is_inside.ensures.1 (subst (IsInside c.args.dcel.now.shape) (sym c.start_of-start.ensures.start) disc.inside))),
)

pub corner_of-requires-2 : goal.corner_of-requires-2
corner_of-requires-2 g c =
    let s = c.args.dcel.now.shape in
    let live : IsLive s c.args.half = ap (edge_is_live s) (sym c.as_undirected.ensures) ∙ sym c.is_live_edge.ensures ∙ c.if-not-is_live_edge.false in
    rw c.rev.ensures (ap (edge_is_live s) (rev-half c.args.half) ∙ live)

pub returns : goal.returns
returns g c =
    let s = c.args.dcel.now.shape in
    let at = c.start_of-start.ensures.start in
    let live : IsLive s c.args.half = ap (edge_is_live s) (sym c.as_undirected.ensures) ∙ sym c.is_live_edge.ensures ∙ c.if-not-is_live_edge.false in (
      λ yes. record {
        live = live;
        inside = subst (IsInside s) at (c.is_inside.ensures.0 c.if-not-is_inside.false);
        corners = λ is.
            false≢true (sym c.if-eq.false ∙ c.eq.ensures
            ∙ eq-eqb c.corner_of.result c.corner_of-2.result (c.corner_of.ensures ∙ is ∙ sym (c.corner_of-2.ensures ∙ ap (corner_of s) c.rev.ensures)));
        single = single_at s c.start_of-start.result _ at (c.has_only_edges.ensures.0 yes);
      },
      λ disc. c.has_only_edges.ensures.1 (single_at s _ c.start_of-start.result (sym at) disc.single),
    )
