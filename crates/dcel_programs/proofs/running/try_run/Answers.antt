use Rattle.std.specs.Fn.{FnOnceReturnsAt}
use Rattle.dcel_programs.proofs.AfterParsing.{ends-after_parsing}
use Rattle.dcel_programs.proofs.running.try_run.Goals as goal

pub returns-in-Ok : goal.returns-in-Ok
returns-in-Ok g c = ends-after_parsing (FnOnceReturnsAt g.F.FnOnce c.args.work) c.try_get_matches_from.result c.begin.result c.begin.ensures.work c.begin.ensures.words
