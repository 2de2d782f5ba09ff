-- When an edge can be collapsed, and why not.
-- Sources: the link condition of Dey, Edelsbrunner, Guha and Nekhayev, "Topology preserving edge contraction" (1999); a half edge's collapse in
-- Botsch, Kobbelt, Pauly, Alliez and Lévy, "Polygon Mesh Processing" (2010).
use Rattle.std.specs.Prelude.{◌≡◌, ◌≢◌, ◌⊎◌, ℕ, ◌-◌, length}
use Rattle.dcel_convenience.specs.Removing.{border_from}
use Rattle.dcel_convenience.specs.Simple.{AreJoined, IsOnly}
use Rattle.dcel_convenience.specs.Surrounding.{IsInside}
use Rattle.dcel_convenience.specs.declared.collapsing.WhyNotCollapsed.{WhyNotCollapsed}
use Rattle.dcel_convenience.specs.declared.collapsing.WhyNotCollapsed.TheVariants.{NoRoom, NotInside, OutOfMemory, RemovalOpen, SecondEdge}
use Rattle.dcel_fixed.specs.HalfEdges.{rev}
use Rattle.dcel_maps.specs.Conditions.{HasRoom}
use Rattle.dcel_maps.specs.Removals.{Closed}
use Rattle.dcel_maps.specs.Shapes.{IsLive, Shape, end_of, origin_of, prev_of}
use Rattle.dcel_maps.specs.Walking.{IsOutEdge}

-- the vertex across from the edge of h, where the face of h is a triangle
abbrev pub corner_of : Shape → ℕ → ℕ
corner_of s h = origin_of s (prev_of s h)

-- the faces around the start of h are inner triangles that make a disc: edges join the start to different vertices, three or more
pub record StartsInDisc (s : Shape) (h : ℕ) : Type 0 where
  pub live : IsLive s h
  pub inside : IsInside s (origin_of s h)
  pub corners : corner_of s h ≢ corner_of s (rev h)
  pub single : (k : ℕ) → IsOutEdge s (origin_of s h) k → IsOnly s k

-- the link condition: a vertex that edges join to both ends of h is across from its edge
abbrev pub MeetsLinkCondition : Shape → ℕ → Type 0
MeetsLinkCondition s h =
    (x : ℕ) → AreJoined s (origin_of s h) x → AreJoined s (end_of s h) x → (x ≡ corner_of s h) ⊎ (x ≡ corner_of s (rev h))

-- an edge joins v and w, and w is none of two others
abbrev pub AreJoinedBesides : Shape → ℕ → ℕ → ℕ → ℕ → Type 0
AreJoinedBesides s v w left right = AreJoined s v w × (w ≢ left) × (w ≢ right)

-- no removal is open, and the start of h can go into its end
pub record CanCollapse (s : Shape) (h : ℕ) : Type 0 where
  pub closed : s.removal ≡ Closed
  pub disc : StartsInDisc s h
  pub link : MeetsLinkCondition s h

-- there are numbers for the edges and faces that fill the hole, before those around the start of h become free
abbrev pub HasRoomToCollapse : Shape → ℕ → Type 0
HasRoomToCollapse s h = HasRoom s 0 (length (border_from s h) - 3) (length (border_from s h) - 2)

-- each reason holds, and none above it does
abbrev pub MayNotCollapse : Shape → ℕ → WhyNotCollapsed → Type 0
MayNotCollapse s h RemovalOpen = s.removal ≢ Closed
MayNotCollapse s h NotInside = (s.removal ≡ Closed) × ¬ StartsInDisc s h
MayNotCollapse s h SecondEdge = (s.removal ≡ Closed) × StartsInDisc s h × ¬ MeetsLinkCondition s h
MayNotCollapse s h NoRoom = CanCollapse s h × ¬ HasRoomToCollapse s h
MayNotCollapse s h OutOfMemory = CanCollapse s h × HasRoomToCollapse s h
