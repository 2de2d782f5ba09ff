use Rattle.std.proofs.Common.{◌∙◌}
use Rattle.dcel_drawn.proofs.Listing.{lists_more, lists_none}
use Rattle.dcel_drawn.specs.Drawn.{IsDot}
use Rattle.dcel_drawn.proofs.picture.dots_of.Goals as goal

pub loop-number-init : goal.loop-number-init
loop-number-init g c = lists_none _ (IsDot c.args.mesh.now c.args.places.now.vertices.items) c.new-dots.result.items c.new-dots.ensures.items

pub loop-number-preserved : goal.loop-number-preserved
loop-number-preserved g c =
    lists_more (λ d. d.number) (IsDot c.args.mesh.now c.args.places.now.vertices.items) c.loop-number.dots.items c.push.new.self.items c.dot_of.result c.loop-number.number
    c.in_ok-push.ensures.items c.loop-number.invariant (c.dot_of.ensures.number ∙ c.new-vertex.ensures) c.dot_of.ensures.is_dot
