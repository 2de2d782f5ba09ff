use Rattle.std.proofs.Common.{◌∙◌}
use Rattle.dcel_drawn.proofs.Listing.{lists_more, lists_none}
use Rattle.dcel_drawn.specs.Drawn.{IsPatch}
use Rattle.dcel_drawn.proofs.picture.patches_of.Goals as goal

pub loop-number-init : goal.loop-number-init
loop-number-init g c = lists_none _ (IsPatch c.args.mesh.now) c.new-patches.result.items c.new-patches.ensures.items

pub loop-number-preserved : goal.loop-number-preserved
loop-number-preserved g c =
    lists_more (λ d. d.number) (IsPatch c.args.mesh.now) c.loop-number.patches.items c.push.new.self.items c.in_ok-patch.patch c.loop-number.number
    c.in_ok-push.ensures.items c.loop-number.invariant (c.in_ok-patch.ensures.number ∙ c.new-face.ensures) c.in_ok-patch.ensures.is_patch
