-- Strips: a vertex with one outer out edge, whose other faces are triangles, can be cut off with these.
use Rattle.std.specs.Prelude.{◌≡◌, ◌≢◌, ℕ, ◌<◌, List, [], ◌∷◌, ◌++◌, length, map, drop}
use Rattle.dcel_maps.specs.Shapes.{Shape, face_of, next_of}
use Rattle.dcel_maps.specs.Walking.{IsOutEdge, ccw_of, walk_of}
use Rattle.dcel_maps.specs.Words.{word_of}

-- h is the one outer out edge of v; the other faces at v are triangles, and the outer word has three half edges or more
pub record IsStripAround (s : Shape) (v h : ℕ) : Type 0 where
  pub out : IsOutEdge s v h
  pub outer : face_of s h ≡ 0
  pub only : (x : ℕ) → IsOutEdge s v x → face_of s x ≡ 0 → x ≡ h
  pub triangles : (x : ℕ) → IsOutEdge s v x → face_of s x ≢ 0 → length (word_of s.words (face_of s x)) ≡ 3
  pub long : 2 < length (word_of s.words 0)

-- the out edges of a vertex in the order of `ccw`, after h: the spokes
abbrev pub spokes_after : Shape → ℕ → List ℕ
spokes_after s h = drop 1 (walk_of s (ccw_of s) h)

-- the strip of h: what comes after each spoke in its triangle, and then after h
abbrev pub strip_of : Shape → ℕ → List ℕ
strip_of s h = map (next_of s) (spokes_after s h) ++ next_of s h ∷ []

-- the list is the strip of a vertex's outer out edge
pub record IsEdgeStrip (s : Shape) (list : List ℕ) : Type 0 where
  pub vertex : ℕ
  pub half : ℕ
  pub around : IsStripAround s vertex half
  pub is : list ≡ strip_of s half
