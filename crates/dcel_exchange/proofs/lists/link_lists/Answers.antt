use Rattle.std.proofs.Common.{◌∙◌}
use Rattle.dcel_exchange.proofs.Listing.{gathers-all, gathers-none, links_linked}
use Rattle.dcel_exchange.proofs.lists.link_lists.Goals as goal

pub loop-link-init : goal.loop-link-init
loop-link-init g c =
    let all = c.into_iter-link-iterator.ensures.into_iter_gives ∙ c.links-link-items.ensures in record {
      next = gathers-none (λ link. link.next) c.args.dcel.now.shape c.new-next.result.items c.into_iter-link-iterator.result c.new-next.ensures.items all;
      origin = gathers-none (λ link. link.origin) c.args.dcel.now.shape c.new-origin.result.items c.into_iter-link-iterator.result c.new-origin.ensures.items all;
      face = gathers-none (λ link. link.face) c.args.dcel.now.shape c.new-face.result.items c.into_iter-link-iterator.result c.new-face.ensures.items all;
    }

pub returns : goal.returns
returns g c =
    let s = c.args.dcel.now.shape in
    let none = c.in-None.ensures.steps.0 in
    links_linked c.args.dcel.now c.every_mesh.ensures c.requires c.loop-link.next.items c.loop-link.origin.items c.loop-link.face.items
    (gathers-all (λ link. link.next) s c.loop-link.next.items c.loop-link.link-iterator c.loop-link.invariant.next none)
    (gathers-all (λ link. link.origin) s c.loop-link.origin.items c.loop-link.link-iterator c.loop-link.invariant.origin none)
    (gathers-all (λ link. link.face) s c.loop-link.face.items c.loop-link.link-iterator c.loop-link.invariant.face none)
