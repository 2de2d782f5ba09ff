use Rattle.std.proofs.Common.{sym, ◌∙◌, arith, vec_len}
use Rattle.dcel_maps.specs.Shapes.{edge_is_live}
use Rattle.dcel_delaunay.proofs.Fewer.{needed_stay}
use Rattle.dcel_delaunay.proofs.remove.cleanup.drop_dead.Goals as goal

pub loop-at-init : goal.loop-at-init
loop-at-init g c = λ u live there. there

pub loop-at-preserved : goal.loop-at-preserved
loop-at-preserved g c =
    let list = c.loop-at.due in
    let rest = c.swap_remove-edge.new.self in
    let by_index = c.swap_remove-edge.ensures.by_index in
    λ u live there.
    needed_stay (edge_is_live c.args.dcel.now.shape) list.items rest.items c.loop-at.at c.index-edge.result.now (omega (arith, c.loop-at-test.true, c.len.ensures, list.ok)) c.index-edge.ensures
    (omega (arith, c.swap_remove-edge.ensures.len, list.ok, rest.ok)) (sym c.is_live_edge.ensures ∙ c.if-is_live_edge.false) (vec_len list)
    (omega (arith, list.ok)) by_index.0 by_index.1 u live (c.loop-at.invariant u live there)

pub returns : goal.returns
returns g c = c.loop-at.invariant
