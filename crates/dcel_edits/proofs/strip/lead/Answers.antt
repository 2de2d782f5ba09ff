use Rattle.std.proofs.Common.{[], arith}
use Rattle.dcel_maps.proofs.words.Counts.{count-same}
use Rattle.dcel_edits.proofs.strip.lead.Goals as goal

pub origin-origin-requires : goal.origin-origin-requires
origin-origin-requires g c = c.requires.edge_in c.args.to (omega (arith, count-same c.args.to []))
