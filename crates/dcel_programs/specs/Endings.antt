-- How programs end. A program has a status, or it gives up by a fault.
use Rattle.std.specs.Prelude.{◌≡◌, ◌≤◌, ◌↔◌, ℕ, Result, Ok, Err, IsErrAnd, IsOkAnd}
use Rattle.std.specs.IoError.{error_kind}
use Rattle.std.specs.Process.{exit_status}
use Rattle.std.specs.declared.io.ErrorKind.TheVariants.{BrokenPipe}
use Rattle.std.specs.declared.process.ExitCode.{ExitCode}
use Rattle.clap.specs.declared.error.kind.ErrorKind.{ErrorKind}
use Rattle.clap.specs.declared.error.kind.ErrorKind.TheVariants as kind
use Rattle.dcel_programs.specs.declared.fault.Fault.{Fault}
use Rattle.dcel_programs.specs.declared.fault.Fault.TheVariants.{OutOfMemory, Output, System}

module _ {W : Type 0} where
  -- nobody reads the output any more
  abbrev pub IsEndOfReader : Fault W → Type 0
  IsEndOfReader (Output error) = error_kind error ≡ BrokenPipe
  IsEndOfReader _ = ⊥

  -- the arguments could not be read, or there was no memory for them
  abbrev pub IsOfSystem : Fault W → Type 0
  IsOfSystem (System _) = Unit
  IsOfSystem (OutOfMemory _) = Unit
  IsOfSystem _ = ⊥

  -- the work succeeded and so the program does, by status 0, or the program gives up by the fault of its work
  abbrev pub IsEndOfWork : Result Unit (Fault W) → Result ExitCode (Fault W) → Type 0
  IsEndOfWork (Ok _) ending = IsOkAnd ending (λ code. exit_status code ≡ 0)
  IsEndOfWork (Err fault) ending = ending ≡ Err fault

  -- help or the version was printed, or could not be
  abbrev pub IsEndOfHelp : Result ExitCode (Fault W) → Type 0
  IsEndOfHelp (Ok code) = exit_status code ≡ 0
  IsEndOfHelp (Err fault) = (error : _) × (fault ≡ Output error)

  -- the end where `clap` doesn't take the words: it was asked for help or the version, had no memory, or the words are wrong
  abbrev pub IsEndOfWords : ErrorKind → Result ExitCode (Fault W) → Type 0
  IsEndOfWords kind.DisplayHelp ending = IsEndOfHelp ending
  IsEndOfWords kind.DisplayVersion ending = IsEndOfHelp ending
  IsEndOfWords kind.OutOfMemory ending = (error : _) × (ending ≡ Err (OutOfMemory error))
  IsEndOfWords _ ending = IsOkAnd ending (λ code. exit_status code ≡ 2)

  -- how a program may end whose work may return this: by its work, by its words, or since it can't read these
  pub data MayEnd (returns : Result Unit (Fault W) → Type 0) (ending : Result ExitCode (Fault W)) : Type 0 where
    by_work : (outcome : Result Unit (Fault W)) → returns outcome → IsEndOfWork outcome ending → MayEnd returns ending
    by_words : (why : ErrorKind) → IsEndOfWords why ending → MayEnd returns ending
    by_system : IsErrAnd ending IsOfSystem → MayEnd returns ending

  -- a program that gives up has status 0 if nobody reads its output any more, and else 1
  abbrev pub IsStatus : Result ExitCode (Fault W) → ℕ → Type 0
  IsStatus (Ok code) status = status ≡ exit_status code
  IsStatus (Err fault) status = (status ≤ 1) × ((status ≡ 0) ↔ IsEndOfReader fault)
