-- How bytes are cut into lines.
use Rattle.std.specs.Prelude.{◌≢◌, ℕ, Bool, true, false, List, [], ◌∷◌, ◌==◌, if◌then◌else◌}

-- the byte that ends a line
abbrev pub line_feed : ℕ
line_feed = 10

-- a byte before the lines: it joins the first. Where there is none it begins a last line, which counts only if one without a line feed does
abbrev pub onto : Bool → ℕ → List (List ℕ) → List (List ℕ)
onto unended b (line ∷ lines) = (b ∷ line) ∷ lines
onto true b [] = (b ∷ []) ∷ []
onto false b [] = []

-- each line ends with a line feed; with `unended` a last line without one counts too, where it isn't empty
unfoldable pub lines : Bool → List ℕ → List (List ℕ)
lines unended [] = []
lines unended (b ∷ bs) = if b == line_feed then [] ∷ lines unended bs else onto unended b (lines unended bs)

-- bytes of a line that has begun, before the lines to come
abbrev pub joined : Bool → List ℕ → List (List ℕ) → List (List ℕ)
joined unended [] lines = lines
joined unended (b ∷ begun) lines = onto unended b (joined unended begun lines)

-- the bytes end no line
abbrev pub HasNoFeed : List ℕ → Type 0
HasNoFeed [] = Unit {0}
HasNoFeed (b ∷ bs) = (b ≢ line_feed) × HasNoFeed bs
