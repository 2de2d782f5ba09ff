use Rattle.std.proofs.Common.{◌∙◌}
use Rattle.dcel_drawn.proofs.Listing.{lists_more, lists_none}
use Rattle.dcel_drawn.specs.Drawn.{IsStroke}
use Rattle.dcel_drawn.proofs.picture.strokes_of.Goals as goal

pub loop-number-init : goal.loop-number-init
loop-number-init g c = lists_none _ (IsStroke c.args.mesh.now c.args.places.now.vertices.items) c.new-strokes.result.items c.new-strokes.ensures.items

pub loop-number-preserved : goal.loop-number-preserved
loop-number-preserved g c =
    lists_more (λ d. d.number) (IsStroke c.args.mesh.now c.args.places.now.vertices.items) c.loop-number.strokes.items c.push.new.self.items c.stroke_of.result c.loop-number.number
    c.in_ok-push.ensures.items c.loop-number.invariant (c.stroke_of.ensures.number ∙ c.new-edge.ensures) c.stroke_of.ensures.is_stroke
