use Rattle.dcel_exchange.proofs.Listing.{links_all}
use Rattle.dcel_exchange.proofs.steps.links.Goals as goal

pub returns : goal.returns
returns g c = links_all c.args.dcel.now c.requires c.live_directed_edges.result c.live_directed_edges.ensures.items
