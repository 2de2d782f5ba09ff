-- The numbers of points at vertices, and at the corners of faces.
use Rattle.std.specs.Prelude.{◌≡◌, ◌<◌, ◌≤◌, ℕ, suc, List, length, slice_get, Some}
use Rattle.dcel_maps.specs.Shapes.{Shape}
use Rattle.dcel_plane.specs.covering.Delaunay.{HasCornerVertices}
use Rattle.dcel_delaunay.specs.declared.triangles.triangle.Triangle.{Triangle}

-- each vertex has the least number, of those not below `from`, of a point that has it
abbrev pub NamesLeast : (vertices : List ℕ) (from : ℕ) (numbers : List ℕ) → Type 0
NamesLeast vertices from numbers = (i v : ℕ) → from ≤ i → slice_get vertices i ≡ Some v → v < length numbers
    → (j : ℕ) × (slice_get numbers v ≡ Some j) × (j ≤ i) × (slice_get vertices j ≡ Some v)

-- the numbers of t are below `count`
pub record IsBelow (count : ℕ) (t : Triangle) : Type 0 where
  pub first : t.first < count
  pub second : t.second < count
  pub third : t.third < count

-- the vertices of t have the numbers of u
pub record AreNumbers (numbers : List ℕ) (t u : Triangle) : Type 0 where
  pub first : slice_get numbers t.first ≡ Some u.first
  pub second : slice_get numbers t.second ≡ Some u.second
  pub third : slice_get numbers t.third ≡ Some u.third

-- the vertices at the corners of the inner face f have these numbers
pub record HasNumbers (s : Shape) (numbers : List ℕ) (f : ℕ) (t : Triangle) : Type 0 where
  pub a : ℕ
  pub b : ℕ
  pub c : ℕ
  pub corners : HasCornerVertices s f a b c
  pub first : slice_get numbers a ≡ Some t.first
  pub second : slice_get numbers b ≡ Some t.second
  pub third : slice_get numbers c ≡ Some t.third

-- the triangles are those of the first inner faces
abbrev pub ListsFaces : Shape → List ℕ → List Triangle → Type 0
ListsFaces s numbers list = (i : ℕ) (t : Triangle) → slice_get list i ≡ Some t → HasNumbers s numbers (suc i) t
