-- How a program may end once `clap` has read its words.
use Rattle.std.specs.Prelude.{Result, Ok, Err, IfErr, IfOk}
use Rattle.std.specs.declared.process.ExitCode.{ExitCode}
use Rattle.clap.specs.Words.{kind_of}
use Rattle.clap.specs.declared.error.Error.{Error}
use Rattle.clap.specs.declared.parser.matches.ArgMatches.{ArgMatches}
use Rattle.dcel_programs.specs.Endings.{IsEndOfWords, IsEndOfWork, MayEnd, by_words, by_work}
use Rattle.dcel_programs.specs.declared.arguments.Given.{Given}
use Rattle.dcel_programs.specs.declared.fault.Fault.{Fault}

-- it ends by its work or by its words
pub ends-after_parsing : {W : Type 0} (returns : Given → Result Unit (Fault W) → Type 0) (parsed : Result ArgMatches Error) (ending : Result ExitCode (Fault W))
    → IfOk parsed (λ matches. (outcome : Result Unit (Fault W)) × returns (record { matches = matches }) outcome × IsEndOfWork outcome ending)
    → IfErr parsed (λ message. IsEndOfWords (kind_of message) ending)
    → MayEnd (λ outcome. (given : Given) × returns given outcome) ending
ends-after_parsing returns (Ok matches) ending work words = by_work work.0 (record { matches = matches }, work.1) work.2
ends-after_parsing returns (Err message) ending work words = by_words (kind_of message) words
