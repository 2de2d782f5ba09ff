-- Edges turned by the circle test, but those that have to stay.
use Rattle.std.specs.Prelude.{◌≡◌, ℕ, ◌<◌, List, Bool, true, Some}
use Rattle.std.specs.List.{slice_get}
use Rattle.std.specs.Option.{option_map}
use Rattle.dcel_predicates.specs.declared.point.Point.{Point}
use Rattle.dcel_legalize.specs.Flipping.{edges_flipped}
use Rattle.dcel_maps.specs.Shapes.{Mesh}
use Rattle.dcel_maps.specs.Words.{count_of}
use Rattle.dcel_plane.specs.Plane.{IsCircled, IsInner, point_at}
use Rattle.dcel_planar.specs.Turning.{AreCircled}

module _ {DE UE F : Type 0} (stays : UE → Bool) where
  -- the edge u has to stay
  abbrev pub HasToStay : Mesh Point DE UE F → ℕ → Type 0
  HasToStay m u = option_map stays (slice_get m.undirected_data u) ≡ Some true

  -- the edge u lies between two triangles, the corner of one inside the circle of the other, and need not stay
  pub record IsToTurn (m : Mesh Point DE UE F) (u : ℕ) : Type 0 where
    pub inner : IsInner m.shape u
    pub circled : IsCircled (point_at m) m.shape u
    pub loose : ¬ HasToStay m u

  -- each edge that is to be turned is in the list
  abbrev pub ListsLoose : Mesh Point DE UE F → List ℕ → Type 0
  ListsLoose m list = (u : ℕ) → IsToTurn m u → 0 < count_of u list

  -- edges that need not stay are turned, one after another, each with a corner inside the circle of the other side, and nothing else is done
  pub record TurnsLoose (old new : Mesh Point DE UE F) : Type 0 where
    pub turned : List ℕ
    pub circled : AreCircled old turned
    pub is : new ≡ edges_flipped old turned
    pub loose : (u : ℕ) → 0 < count_of u turned → ¬ HasToStay old u
