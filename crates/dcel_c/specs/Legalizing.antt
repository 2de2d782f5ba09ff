-- What is told of flips.
use Rattle.dcel_commands.specs.Responses.{Response, Flips}
use Rattle.dcel_legalize.specs.Outcome.{flips_told}
use Rattle.dcel_legalize.specs.declared.legalized.Legalized.{Legalized}
use Rattle.dcel_legalize.specs.declared.legalized.Legalized.TheVariants.{Done, Stopped, OutOfMemory}
use Rattle.dcel_c.specs.declared.legalize.DcelLegalized.{DcelLegalized}
use Rattle.std.specs.Prelude.{ℕ}

abbrev pub ending : Legalized → ℕ
ending (Done n) = 0
ending (Stopped n) = 1
ending (OutOfMemory n) = 2

abbrev pub legalized_told : Legalized → DcelLegalized
legalized_told legalized = record { flips = flips_told legalized; ended = ending legalized }

abbrev pub reply_told : Response ℕ → DcelLegalized
reply_told (Flips legalized) = legalized_told legalized
reply_told _ = record { flips = 0; ended = 0 }
