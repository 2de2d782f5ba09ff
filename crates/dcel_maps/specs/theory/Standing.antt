-- What it is for the links of a map to stand for words.
use Rattle.std.specs.Prelude.{◌≡◌, ℕ, ◌*◌, ◌<◌, ◌≤◌, List, length}
use Rattle.dcel_maps.specs.Maps.{Map, Live}
use Rattle.dcel_maps.specs.theory.Cycles.{IsCycle}
use Rattle.dcel_maps.specs.Words.{occurs, total_length, word_of, IsLeastFirst}

-- the links say that q comes after p on the face f
pub record Follows (M : Map) (f p q : ℕ) : Type 0 where
  pub live : Live M p
  pub next : M.next p ≡ q
  pub prev : M.prev q ≡ p
  pub face : M.face p ≡ f

-- the links lead round these words, one for each face, and each live half edge stands in them once
pub record Stands (M : Map) (words : List (List ℕ)) : Type 0 where
  pub faces : length words ≡ M.faces
  pub cycles : (f : ℕ) → f < length words → IsCycle (Follows M f) (word_of words f)
  pub once : (h : ℕ) → Live M h → occurs h words ≡ 1
  pub least : (f : ℕ) → f < length words → IsLeastFirst (word_of words f)
  pub short : total_length words ≤ 2 * M.edges
