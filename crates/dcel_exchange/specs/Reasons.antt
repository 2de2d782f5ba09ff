-- What each reason says of faces that were refused.
use Rattle.std.specs.Prelude.{◌≡◌, ◌≢◌, ℕ, zero, ◌^◌, ◌<◌, ◌≤◌, List, [], length, slice_index, slice_index_or}
use Rattle.dcel_exchange.specs.Corners.{LeadsBack, ends, owners, starts}
use Rattle.dcel_exchange.specs.Meshes.{AreLinks}
use Rattle.dcel_exchange.specs.Simple.{EachSimpleMesh, NoSimpleMesh, PassesTwice}
use Rattle.dcel_exchange.specs.Surfaces.{HasBorders, HasParts, IsClosed}
use Rattle.dcel_exchange.specs.declared.refusal.FacesError.{FacesError}
use Rattle.dcel_links.specs.Claims.{Claim}
use Rattle.dcel_links.specs.Faults.{IsFirst}
use Rattle.dcel_links.specs.declared.fault.LinksFault.{LinksFault}
use Rattle.dcel_links.specs.declared.fault.LinksFault.TheVariants.{FaceInParts, UnusedFace}
use Rattle.dcel_links.specs.declared.fault.LinksFault.TheVariants as links
use Rattle.spade_dcel.specs.declared.operations.given.LinksError.{LinksError}
use Rattle.spade_dcel.specs.declared.operations.given.LinksError.TheVariants as refused
use Rattle.dcel_exchange.specs.declared.refusal.FacesError.TheVariants.{BorderTwice, Borders, Closed, FewCorners, Links, NotConnected, NoVertex, OneEnd, OutOfMemory, SideTwice, TooManyCorners}

-- side p, of the face at this place, starts at a and ends at b
pub record IsSide (from to face : List ℕ) (p f a b : ℕ) : Type 0 where
  pub below : p < length from
  pub owner : slice_index face p ≡ f
  pub start : slice_index from p ≡ a
  pub end : slice_index to p ≡ b

-- a side of f starts at a number that is no vertex
pub record IsOutside (from to face : List ℕ) (vertices f a : ℕ) : Type 0 where
  pub side : ℕ
  pub other : ℕ
  pub is : IsSide from to face side f a other
  pub past : vertices ≤ a

-- a side of f starts and ends at a
pub record IsLoop (from to face : List ℕ) (f a : ℕ) : Type 0 where
  pub side : ℕ
  pub is : IsSide from to face side f a a

-- two sides, one of f and a later one of g, lead from a to b
pub record AreSame (from to face : List ℕ) (f g a b : ℕ) : Type 0 where
  pub one : ℕ
  pub other : ℕ
  pub later : one < other
  pub one_is : IsSide from to face one f a b
  pub other_is : IsSide from to face other g a b

-- two sides that end at a have none that leads back
pub record EndTwice (from to face : List ℕ) (a : ℕ) : Type 0 where
  pub one : ℕ
  pub other : ℕ
  pub apart : one ≢ other
  pub one_below : one < length from
  pub other_below : other < length from
  pub one_ends : slice_index to one ≡ a
  pub other_ends : slice_index to other ≡ a
  pub one_alone : (q : ℕ) → q < length from → ¬ LeadsBack from to one q
  pub other_alone : (q : ℕ) → q < length from → ¬ LeadsBack from to other q

-- what is told of sides: where they start and end, and the places of their faces
abbrev pub Tells : List ℕ → List ℕ → List ℕ → ℕ → FacesError → Type 0
Tells from to face vertices (FewCorners f) = ⊥
Tells from to face vertices TooManyCorners = ⊥
Tells from to face vertices (NoVertex f a) = IsOutside from to face vertices f a
Tells from to face vertices (OneEnd f a) = IsLoop from to face f a
Tells from to face vertices (SideTwice f g a b) = AreSame from to face f g a b
Tells from to face vertices (BorderTwice a) = EndTwice from to face a
Tells from to face vertices Closed = ⊥
Tells from to face vertices Borders = ⊥
Tells from to face vertices (NotConnected h) = ⊥
Tells from to face vertices (Links fault) = ⊥
Tells from to face vertices OutOfMemory = Unit {0}

-- the first fault of the links of the faces
pub record HasFault (vertices : ℕ) (faces : List (List ℕ)) (fault : LinksFault) : Type 0 where
  pub claim : Claim
  pub linked : AreLinks vertices faces claim
  pub first : IsFirst claim fault

-- the reason that a fault of the links is: three have a name of their own
abbrev pub fault_reason : LinksFault → FacesError
fault_reason (links.UnusedFace zero) = Closed
fault_reason (links.FaceInParts zero) = Borders
fault_reason (links.NotConnected h) = NotConnected h
fault_reason fault = Links fault

-- what a reason says of faces over so many vertices
abbrev pub Means : ℕ → List (List ℕ) → FacesError → Type 0
Means vertices faces (FewCorners f) = (f < length faces) × (length (slice_index_or faces f []) < 3)
Means vertices faces TooManyCorners = 2 ^ 31 < length (starts faces)
Means vertices faces (NoVertex f a) = Tells (starts faces) (ends faces) (owners 0 faces) vertices (NoVertex f a)
Means vertices faces (OneEnd f a) = Tells (starts faces) (ends faces) (owners 0 faces) vertices (OneEnd f a)
Means vertices faces (SideTwice f g a b) = Tells (starts faces) (ends faces) (owners 0 faces) vertices (SideTwice f g a b)
Means vertices faces (BorderTwice a) = Tells (starts faces) (ends faces) (owners 0 faces) vertices (BorderTwice a)
Means vertices faces Closed = IsClosed faces × HasFault vertices faces (UnusedFace 0)
Means vertices faces Borders = HasBorders faces × HasFault vertices faces (FaceInParts 0)
Means vertices faces (NotConnected h) = HasParts faces × HasFault vertices faces (links.NotConnected h)
Means vertices faces (Links fault) = (fault_reason fault ≡ Links fault) × HasFault vertices faces fault
Means vertices faces OutOfMemory = Unit {0}

-- the reason that `from_links` gives, told of the faces
abbrev pub reason_for : LinksError → FacesError
reason_for (refused.Links fault) = fault_reason fault
reason_for other = OutOfMemory

-- Which simple meshes a refusal leaves: none has these corners, or, where two faces meet at the vertex a alone, only one whose outer face
-- passes a twice. Of a limit nothing is said.
abbrev pub Leaves : Type 0 → Type 0 → Type 0 → Type 0 → ℕ → List (List ℕ) → FacesError → Type 0
Leaves V DE UE F vertices faces TooManyCorners = Unit {0}
Leaves V DE UE F vertices faces (BorderTwice a) = EachSimpleMesh V DE UE F vertices faces (λ s. PassesTwice s a)
Leaves V DE UE F vertices faces OutOfMemory = Unit {0}
Leaves V DE UE F vertices faces _ = NoSimpleMesh V DE UE F vertices faces
