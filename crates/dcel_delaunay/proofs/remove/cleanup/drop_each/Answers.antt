use Rattle.std.proofs.Common.{◌==◌, ap, not, sym, ◌∙◌, arith, vec_len}
use Rattle.std.specs.List.{list_any}
use Rattle.dcel_delaunay.proofs.Fewer.{needed_stay}
use Rattle.dcel_delaunay.proofs.remove.cleanup.drop_each.Goals as goal

pub loop-at-init : goal.loop-at-init
loop-at-init g c = λ u live there. there

pub loop-at-preserved-then-contains : goal.loop-at-preserved-then-contains
loop-at-preserved-then-contains g c =
    let list = c.loop-at.due in
    let rest = c.swap_remove-edge.new.self in
    let by_index = c.swap_remove-edge.ensures.by_index in
    λ u live there.
    needed_stay (λ u. not (list_any (λ e. e == u) c.args.gone.now)) list.items rest.items c.loop-at.at c.index.result.now (omega (arith, c.loop-at-test.true, c.len.ensures, list.ok)) c.index.ensures
    (omega (arith, c.swap_remove-edge.ensures.len, list.ok, rest.ok)) (ap not (sym c.contains.ensures.value ∙ c.if-contains.true)) (vec_len list)
    (omega (arith, list.ok)) by_index.0 by_index.1 u live (c.loop-at.invariant u live there)

pub returns : goal.returns
returns g c = λ u not_gone there. c.loop-at.invariant u (ap not not_gone) there
