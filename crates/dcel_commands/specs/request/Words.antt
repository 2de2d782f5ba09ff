-- The half edges round faces, as lines show them.
use Rattle.std.specs.Prelude.{◌≡◌, ℕ, zero, suc, ◌<◌, List, [], ◌∷◌, ◌++◌, if◌then◌else◌}
use Rattle.dcel_maps.specs.Shapes.{Shape, face_count, face_is_live, face_of, IsLive}
use Rattle.dcel_maps.specs.Words.{count_of, word_of}

-- the face with its word where it is live, and nothing where it isn't
abbrev pub face_at : Shape → ℕ → List (ℕ × List ℕ)
face_at s f = if face_is_live s f then (f, word_of s.words f) ∷ [] else []

-- the live faces below n with their words, in their order
abbrev pub faces_below : Shape → ℕ → List (ℕ × List ℕ)
faces_below s zero = []
faces_below s (suc n) = faces_below s n ++ face_at s n

-- all live faces with their words
abbrev pub live_faces : Shape → List (ℕ × List ℕ)
live_faces s = faces_below s (face_count s)

-- the word that holds a half edge
abbrev pub word_round : Shape → ℕ → List ℕ
word_round s h = word_of s.words (face_of s h)

-- h is live, and nothing below it stands in its word
pub record IsLeastOnFace (s : Shape) (h : ℕ) : Type 0 where
  pub live : IsLive s h
  pub none_below : (k : ℕ) → k < h → count_of k (word_round s h) ≡ 0
