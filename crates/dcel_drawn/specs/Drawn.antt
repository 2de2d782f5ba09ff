-- What is drawn of a mesh, whose vertices stand at the places of a list.
use Rattle.std.specs.Prelude.{◌≡◌, ◌*◌, ◌/◌, ℕ, List, Option, Some, None, All, map, true, false}
use Rattle.std.specs.List.{slice_get}
use Rattle.dcel_maps.specs.Numbers.{numbers_between}
use Rattle.dcel_maps.specs.Shapes.{Mesh, IsLive, edge_is_live, end_of, face_count, face_of, face_is_live, origin_of, vertex_is_live}
use Rattle.dcel_drawn.specs.declared.picture.Dot.{Dot}
use Rattle.dcel_drawn.specs.declared.picture.Patch.{Patch}
use Rattle.dcel_drawn.specs.declared.picture.Picture.{Picture}
use Rattle.dcel_drawn.specs.declared.picture.State.TheVariants.{Live, GivenUp}
use Rattle.dcel_drawn.specs.declared.picture.Stroke.{Stroke}
use Rattle.dcel_drawn.specs.declared.place.Place.{Place}

-- what a list says of vertex v or edge v, if it says something
module _ {T : Type 0} where
  abbrev pub one_entry : Option (Option T) → Option T
  one_entry (Some entry) = entry
  one_entry None = None

  abbrev pub entry_of : List (Option T) → ℕ → Option T
  entry_of entries v = one_entry (slice_get entries v)

module _ {V DE UE F : Type 0} where
  -- a live half edge leads from the place of its origin to the place of its end, beside its face; any other one is drawn as given up
  abbrev pub IsStroke : Mesh V DE UE F → List (Option Place) → Stroke → Type 0
  IsStroke m places stroke =
      (IsLive m.shape stroke.number → (stroke.state ≡ Live) × (stroke.from ≡ entry_of places (origin_of m.shape stroke.number)) × (stroke.to ≡ entry_of places (end_of m.shape stroke.number)) × (stroke.face ≡ Some (face_of m.shape stroke.number)))
      × (edge_is_live m.shape (stroke.number / 2) ≡ false → stroke.state ≡ GivenUp)

  -- a face is drawn as live just if it is
  abbrev pub IsPatch : {B : Type 0} → Mesh V DE UE F → Patch B → Type 0
  IsPatch m patch =
      (face_is_live m.shape patch.number ≡ true → patch.state ≡ Live)
      × (face_is_live m.shape patch.number ≡ false → patch.state ≡ GivenUp)

  -- a vertex is drawn as live just if it is, and at its place
  abbrev pub IsDot : Mesh V DE UE F → List (Option Place) → Dot → Type 0
  IsDot m places dot =
      (vertex_is_live m.shape dot.number ≡ true → dot.state ≡ Live)
      × (vertex_is_live m.shape dot.number ≡ false → dot.state ≡ GivenUp)
      × (dot.place ≡ entry_of places dot.number)

  -- each half edge, face and vertex is drawn once, in the order of their numbers
  pub record IsPicture {B : Type 0} (m : Mesh V DE UE F) (places : List (Option Place)) (p : Picture B) : Type 0 where
    pub half_edges : map (λ s. s.number) p.strokes.items ≡ numbers_between 0 (2 * m.shape.edges)
    pub strokes : All (IsStroke m places) p.strokes.items
    pub faces : map (λ f. f.number) p.patches.items ≡ numbers_between 0 (face_count m.shape)
    pub patches : All (IsPatch m) p.patches.items
    pub vertices : map (λ d. d.number) p.dots.items ≡ numbers_between 0 m.shape.vertices
    pub dots : All (IsDot m places) p.dots.items
