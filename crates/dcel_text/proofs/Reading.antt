-- What is read where nothing is.
use Rattle.std.proofs.Common.{ℕ, List, [], Option}
use Rattle.std.proofs.KnownBytes.{Consumes-nil}
use Rattle.std.specs.Io.KnownBytes.{Consumes}

pub reads_nothing : (known : Option (List ℕ)) → Consumes known known []
reads_nothing known = Consumes-nil known
