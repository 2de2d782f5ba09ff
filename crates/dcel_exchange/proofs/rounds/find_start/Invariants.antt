use Rattle.std.proofs.Common.{ℕ, ◌<◌}
use Rattle.dcel_exchange.specs.Rounds.{StartsOutside}
use Rattle.dcel_exchange.proofs.rounds.find_start.Given as goal

abbrev pub invariant-loop-half : goal.invariant-loop-half
invariant-loop-half g l = (h : ℕ) → h < l.half → ¬ StartsOutside l.links l.vertex h
