-- Closed surfaces, one of whose faces becomes the outer one.
use Rattle.std.specs.Prelude.{◌≡◌, ℕ, suc, ◌+◌, ◌^◌, ◌<◌, ◌≤◌, ◌++◌, List, [], cond, drop, length, map, nat_lt, slice_index_or, take}
use Rattle.dcel_exchange.specs.Meshes.{AreLinks}
use Rattle.dcel_exchange.specs.Reasons.{Means}
use Rattle.dcel_exchange.specs.Simple.{HasCorners, IsSimple, PassesTwice}
use Rattle.dcel_exchange.specs.Surfaces.{LiesBeyond}
use Rattle.dcel_exchange.specs.declared.closed.ClosedFacesError.{ClosedFacesError}
use Rattle.dcel_exchange.specs.declared.closed.ClosedFacesError.TheVariants.{NoFace, OtherBorder, Others}
use Rattle.dcel_exchange.specs.declared.refusal.FacesError.{FacesError}
use Rattle.dcel_exchange.specs.declared.refusal.FacesError.TheVariants.{BorderTwice, FewCorners, NoVertex, OneEnd, OutOfMemory, SideTwice, TooManyCorners}
use Rattle.dcel_links.specs.Claims.{Claim}
use Rattle.dcel_maps.specs.Shapes.{IsMesh, Mesh, Shape, origin_of}
use Rattle.dcel_maps.specs.Words.{TurnsTo, word_of}

-- the list without what has this place
abbrev pub without : {T : Type 0} → ℕ → List T → List T
without place list = take place list ++ drop (suc place) list

-- the corners of the outer face: where the half edges of its word start, written from some item
pub record HasOutside (s : Shape) (corners : List ℕ) : Type 0 where
  pub round : List ℕ
  pub turns : TurnsTo (word_of s.words 0) round
  pub starts : map (origin_of s) round ≡ corners

-- The mesh has all these faces: that of the place `outer` is the outer one, and the others keep their order, from number 1 on.
pub record HasAllCorners (s : Shape) (vertices : ℕ) (faces : List (List ℕ)) (outer : ℕ) : Type 0 where
  pub named : outer < length faces
  pub some : 0 < length (slice_index_or faces outer [])
  pub inner : HasCorners s vertices (without outer faces)
  pub outside : HasOutside s (slice_index_or faces outer [])

-- the place in the list of what has this place where the outer face is left out
abbrev pub place_in : ℕ → ℕ → ℕ
place_in outer place = cond (nat_lt place outer) place (suc place)

-- a reason that speaks of faces by their places where the outer one is left out speaks of them by those in the list
abbrev pub told_in : ℕ → FacesError → FacesError
told_in outer (FewCorners f) = FewCorners (place_in outer f)
told_in outer (NoVertex f a) = NoVertex (place_in outer f) a
told_in outer (OneEnd f a) = OneEnd (place_in outer f) a
told_in outer (SideTwice f g a b) = SideTwice (place_in outer f) (place_in outer g) a b
told_in outer other = other

-- each place in the reason has a next one
abbrev pub IsInRange : FacesError → Type 0
IsInRange (FewCorners f) = suc f < 2 ^ 64
IsInRange (NoVertex f a) = suc f < 2 ^ 32
IsInRange (OneEnd f a) = suc f < 2 ^ 32
IsInRange (SideTwice f g a b) = (suc f < 2 ^ 32) × (suc g < 2 ^ 32)
IsInRange other = Unit {0}

-- the others are refused, by their places in the list
pub record RefusesOthers (vertices : ℕ) (faces : List (List ℕ)) (outer : ℕ) (told : FacesError) : Type 0 where
  pub reason : FacesError
  pub means : Means vertices (without outer faces) reason
  pub is : told ≡ told_in outer reason

-- the others have links, and the outer face doesn't lie beyond their border
pub record HasOtherBorder (vertices : ℕ) (faces : List (List ℕ)) (outer : ℕ) : Type 0 where
  pub claim : Claim
  pub linked : AreLinks vertices (without outer faces) claim
  pub other : ¬ LiesBeyond (without outer faces) (slice_index_or faces outer [])

-- what a reason says of faces, one of which is to be the outer one
abbrev pub MeansOf : ℕ → List (List ℕ) → ℕ → ClosedFacesError → Type 0
MeansOf vertices faces outer NoFace = length faces ≤ outer
MeansOf vertices faces outer OtherBorder = HasOtherBorder vertices faces outer
MeansOf vertices faces outer (Others told) = RefusesOthers vertices faces outer told

-- each simple mesh of all these faces, whatever its data, has a shape with this property
abbrev pub EachClosedMesh : Type 0 → Type 0 → Type 0 → Type 0 → ℕ → List (List ℕ) → ℕ → (Shape → Type 0) → Type 0
EachClosedMesh V DE UE F vertices faces outer P =
    (m : Mesh V DE UE F) → IsMesh m → IsSimple m.shape → HasAllCorners m.shape vertices faces outer → P m.shape

-- Which simple meshes a refusal of the others leaves: none has all these faces, or only one whose outer face passes the vertex a twice. Of a
-- limit nothing is said.
abbrev pub LeavesOthers : Type 0 → Type 0 → Type 0 → Type 0 → ℕ → List (List ℕ) → ℕ → FacesError → Type 0
LeavesOthers V DE UE F vertices faces outer TooManyCorners = Unit {0}
LeavesOthers V DE UE F vertices faces outer (BorderTwice a) = EachClosedMesh V DE UE F vertices faces outer (λ s. PassesTwice s a)
LeavesOthers V DE UE F vertices faces outer OutOfMemory = Unit {0}
LeavesOthers V DE UE F vertices faces outer _ = EachClosedMesh V DE UE F vertices faces outer (λ s. ⊥)

-- which a refusal leaves
abbrev pub LeavesOf : Type 0 → Type 0 → Type 0 → Type 0 → ℕ → List (List ℕ) → ℕ → ClosedFacesError → Type 0
LeavesOf V DE UE F vertices faces outer (Others told) = LeavesOthers V DE UE F vertices faces outer told
LeavesOf V DE UE F vertices faces outer _ = EachClosedMesh V DE UE F vertices faces outer (λ s. ⊥)
