-- Edges turned, one after another, each with a corner inside the circle of the other side.
use Rattle.std.specs.Prelude.{◌≡◌, ℕ, ◌+◌, ◌*◌, ◌<◌, true, List, [], ◌∷◌}
use Rattle.dcel_legalize.specs.Flipping.{edges_flipped}
use Rattle.dcel_predicates.specs.declared.point.Point.{Point}
use Rattle.dcel_maps.specs.Conditions.{IsTriangle}
use Rattle.dcel_maps.specs.edits.Flip.{edge_flipped}
use Rattle.dcel_maps.specs.Shapes.{Mesh, Shape, edge_is_live, face_of, origin_of}
use Rattle.dcel_maps.specs.Words.{word_of}
use Rattle.dcel_plane.specs.Plane.{IsCircled, IsInner, TurnsLeft, point_at}

-- the corners of the face f, if they are three, go round counterclockwise
abbrev pub GoesLeft : (ℕ → Point) → Shape → ℕ → Type 0
GoesLeft at s f =
    (x y z : ℕ) → word_of s.words f ≡ x ∷ y ∷ z ∷ [] → TurnsLeft (at (origin_of s x)) (at (origin_of s y)) (at (origin_of s z))

-- the edge u is live, and each inner face beside it is a triangle
pub record IsBetweenTriangles (s : Shape) (u : ℕ) : Type 0 where
  pub live : edge_is_live s u ≡ true
  pub triangle : 0 < face_of s (2 * u) → IsTriangle s (face_of s (2 * u))
  pub facing : 0 < face_of s (2 * u + 1) → IsTriangle s (face_of s (2 * u + 1))

module _ {DE UE F : Type 0} where
  -- each of these edges, when its turn comes after those before it are flipped, lies between two inner triangles, and the corner of one inside the circle of the other
  abbrev pub AreCircled : Mesh Point DE UE F → List ℕ → Type 0
  AreCircled m [] = Unit {0}
  AreCircled m (u ∷ us) = (IsInner m.shape u × IsCircled (point_at m) m.shape u) × AreCircled (edge_flipped m u) us

  -- such flips, and nothing else, make the mesh `after` of `before`
  pub record IsTurnedTo (before after : Mesh Point DE UE F) : Type 0 where
    pub turned : List ℕ
    pub circled : AreCircled before turned
    pub is : after ≡ edges_flipped before turned
