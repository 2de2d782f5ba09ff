-- Texts that are made of others.
use Rattle.std.specs.Prelude.{ℕ, List, [], ◌∷◌, ◌++◌}
use Rattle.std.specs.List.{flat_map}
use Rattle.std.specs.Fmt.{decimal}
use Rattle.dcel_text.specs.Lines.{line_feed}

-- a line
abbrev pub ended : List ℕ → List ℕ
ended text = text ++ line_feed ∷ []

-- a word and a number
abbrev pub numbered : List ℕ → ℕ → List ℕ
numbered word n = word ++ decimal n

-- numbers, each after a space
abbrev pub listed : List ℕ → List ℕ
listed xs = flat_map (λ x. 32 ∷ decimal x) xs
