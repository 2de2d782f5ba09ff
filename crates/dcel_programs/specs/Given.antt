-- What a program was started with, as `clap` found it among the words.
use Rattle.std.specs.Prelude.{ℕ, Bool, false, List, Option, codes}
use Rattle.std.specs.Option.{option_map_or}
use Rattle.std.specs.Str.{bytes_eq}
use Rattle.clap.specs.Words.{found_of, first_value}
use Rattle.dcel_programs.specs.declared.arguments.Given.{Given}

-- the first value of an option, or of the argument that is none
abbrev pub value_of : Given → List ℕ → Option (List ℕ)
value_of given name = first_value (found_of given.matches) name

-- an option that takes nothing is there if its value is `true`
abbrev pub is_there : Given → List ℕ → Bool
is_there given name = option_map_or (λ text. bytes_eq text (codes "true")) (value_of given name) false
