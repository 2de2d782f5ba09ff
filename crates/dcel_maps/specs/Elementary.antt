-- Elementary edits of a half-edge map: what each asks, and what it leaves. S is before, T after. Three of them add something (a spur, a
-- vertex in the middle of an edge, a chord), and three take it back. Edits of meshes are lists of these, or begin with a first edge.
use Rattle.std.specs.Prelude.{◌≡◌, ◌≢◌, ◌/◌, ◌<◌, ◌≤◌, ◌==◌, ℕ, Bool, true, false, cond}
use Rattle.dcel_fixed.specs.HalfEdges.{rev}
use Rattle.dcel_maps.specs.Maps.{IsBare, Live, Map}

-- f, but v at a
unfoldable pub put : {A : Type 0} → (ℕ → A) → ℕ → A → ℕ → A
put f a v x = cond (x == a) v (f x)

-- T has the live edges of S and that of h, numbers enough for both, and as many vertices
pub record Grows (S T : Map) (h : ℕ) : Type 0 where
  pub edge_here : T.edge (h / 2) ≡ true
  pub edge_other : (u : ℕ) → u ≢ h / 2 → T.edge u ≡ S.edge u
  pub edges : S.edges ≤ T.edges
  pub edge_below : h / 2 < T.edges
  pub vertices : T.vertices ≡ S.vertices

-- and h leads from one vertex to another; the old half edges start where they did
pub record Drawn (S T : Map) (h from to : ℕ) : Type 0 where
  pub grows : Grows S T h
  pub open grows use *
  pub origin_h : T.origin h ≡ from
  pub origin_rev : T.origin (rev h) ≡ to
  pub origin_other : (x : ℕ) → Live S x → T.origin x ≡ S.origin x

-- what a spur and a subdivision ask: the edge of h is not live, and no edge meets the vertex v
pub record SpurAt (S : Map) (a h v : ℕ) : Type 0 where
  pub lives : Live S a
  pub fresh : S.edge (h / 2) ≡ false
  pub isolated : IsBare S v
  pub vertex_room : v < S.vertices

-- a new edge to a new vertex: the cycle (.. a, b ..) becomes (.. a, h, rev h, b ..); the tip is v
pub record Spur (S T : Map) (a h v : ℕ) : Type 0 where
  pub at : SpurAt S a h v
  pub open at use *
  pub drawn : Drawn S T h (S.origin (S.next a)) v
  pub open drawn use *
  pub next_a : T.next a ≡ h
  pub next_h : T.next h ≡ rev h
  pub next_rev : T.next (rev h) ≡ S.next a
  pub next_other : (x : ℕ) → Live S x → x ≢ a → T.next x ≡ S.next x
  pub prev_b : T.prev (S.next a) ≡ rev h
  pub prev_rev : T.prev (rev h) ≡ h
  pub prev_h : T.prev h ≡ a
  pub prev_other : (x : ℕ) → Live S x → x ≢ S.next a → T.prev x ≡ S.prev x
  pub face_h : T.face h ≡ S.face a
  pub face_rev : T.face (rev h) ≡ S.face a
  pub face_other : (x : ℕ) → Live S x → T.face x ≡ S.face x
  pub faces : T.faces ≡ S.faces

-- T has a spur more than S; and what that leaves open of S: what comes before the half edge after the spur, and its bound
pub record Unspur (S T : Map) (a h v : ℕ) : Type 0 where
  pub spur : Spur S T a h v
  pub open spur use *
  pub link : S.prev (S.next a) ≡ a
  pub below_edges : (x : ℕ) → Live S x → x / 2 < S.edges

-- the first and the last part of a half edge where h becomes (h, k), and rev h becomes (rev k, rev h)
abbrev pub first_part : ℕ → ℕ → ℕ → ℕ
first_part h k = put (λ x. x) (rev h) (rev k)

abbrev pub last_part : ℕ → ℕ → ℕ → ℕ
last_part h k = put (λ x. x) h k

-- the vertex v between h and k, and between their other halves, whatever these lead to
pub record MiddlePut (S T : Map) (h k v : ℕ) : Type 0 where
  pub at : SpurAt S h k v
  pub open at use *
  pub grows : Grows S T k
  pub open grows use *
  pub next_h : T.next h ≡ k
  pub prev_k : T.prev k ≡ h
  pub next_rev : T.next (rev k) ≡ rev h
  pub prev_rev : T.prev (rev h) ≡ rev k
  pub faces : T.faces ≡ S.faces

-- half edges become their parts
pub record ByParts (S T : Map) (h k : ℕ) : Type 0 where
  pub next_last : (x : ℕ) → Live S x → T.next (last_part h k x) ≡ first_part h k (S.next x)
  pub prev_first : (x : ℕ) → Live S x → T.prev (first_part h k x) ≡ last_part h k (S.prev x)
  pub origin_first : (x : ℕ) → Live S x → T.origin (first_part h k x) ≡ S.origin x
  pub face_first : (x : ℕ) → Live S x → T.face (first_part h k x) ≡ S.face x
  pub face_last : (x : ℕ) → Live S x → T.face (last_part h k x) ≡ S.face x

-- a vertex v put into the middle of an edge: the half edges become their parts, and v is between these
pub record Subdivide (S T : Map) (h k v : ℕ) : Type 0 where
  pub middle : MiddlePut S T h k v
  pub open middle use *
  pub parts : ByParts S T h k
  pub open parts use *
  pub origin_k : T.origin k ≡ v
  pub origin_rev : T.origin (rev h) ≡ v

-- T has a vertex in the middle of an edge of S; and what that leaves open of S: no link goes over to the edge of k, the
-- numbers of its edges are below the count, and the edge of h is no loop
pub record Unsubdivide (S T : Map) (h k v : ℕ) : Type 0 where
  pub subdivide : Subdivide S T h k v
  pub open subdivide use *
  pub next_apart : (x : ℕ) → Live S x → S.next x ≢ rev k
  pub prev_apart : (x : ℕ) → Live S x → S.prev x ≢ k
  pub two_ends : S.origin h ≢ S.origin (rev h)
  pub below_edges : (x : ℕ) → Live S x → x / 2 < S.edges

-- what a chord asks: the test `arc` holds of the part of the cycle that begins with p and ends before q; the edge of h
-- is not live, and no half edge lies at the face g
pub record ChordAt (S : Map) (p q h g : ℕ) (arc : ℕ → Bool) : Type 0 where
  pub lives_p : Live S p
  pub lives_q : Live S q
  pub apart : S.origin p ≢ S.origin q
  pub fresh : S.edge (h / 2) ≡ false
  pub vacant : (x : ℕ) → Live S x → S.face x ≢ g
  pub same : S.face p ≡ S.face q
  pub arc_p : arc p ≡ true
  pub arc_q : arc q ≡ false
  pub arc_before_p : arc (S.prev p) ≡ false
  pub arc_before_q : arc (S.prev q) ≡ true
  pub arc_face : (x : ℕ) → Live S x → arc x ≡ true → S.face x ≡ S.face p
  pub arc_enter : (x : ℕ) → Live S x → arc x ≡ false → arc (S.next x) ≡ true → S.next x ≡ p
  pub arc_leave : (x : ℕ) → Live S x → arc x ≡ true → arc (S.next x) ≡ false → S.next x ≡ q

-- h comes before q, and rev h before p, where the cycle of p and q was cut; the part of the test `arc` gets the face g
pub record Cut (S T : Map) (p q h g : ℕ) (arc : ℕ → Bool) : Type 0 where
  pub drawn : Drawn S T h (S.origin p) (S.origin q)
  pub open drawn use *
  pub next_to_h : T.next (S.prev p) ≡ h
  pub next_h : T.next h ≡ q
  pub next_to_rev : T.next (S.prev q) ≡ rev h
  pub next_rev : T.next (rev h) ≡ p
  pub next_other : (x : ℕ) → Live S x → x ≢ S.prev p → x ≢ S.prev q → T.next x ≡ S.next x
  pub prev_h : T.prev h ≡ S.prev p
  pub prev_q : T.prev q ≡ h
  pub prev_rev : T.prev (rev h) ≡ S.prev q
  pub prev_p : T.prev p ≡ rev h
  pub prev_other : (x : ℕ) → Live S x → x ≢ p → x ≢ q → T.prev x ≡ S.prev x
  pub face_h : T.face h ≡ S.face q
  pub face_rev : T.face (rev h) ≡ g
  pub face_in : (x : ℕ) → Live S x → arc x ≡ true → T.face x ≡ g
  pub face_out : (x : ℕ) → Live S x → arc x ≡ false → T.face x ≡ S.face x
  pub faces : S.faces ≤ T.faces
  pub face_below : g < T.faces

-- a new edge that cuts the cycle of p and q in two
pub record Chord (S T : Map) (p q h g : ℕ) (arc : ℕ → Bool) : Type 0 where
  pub at : ChordAt S p q h g arc
  pub open at use *
  pub cut : Cut S T p q h g arc
  pub open cut use *

-- T has a chord more than S; and what that leaves open of S: its two links over the chord, and its bounds
pub record Unchord (S T : Map) (p q h g : ℕ) (arc : ℕ → Bool) : Type 0 where
  pub chord : Chord S T p q h g arc
  pub open chord use *
  pub next_a : S.next (S.prev p) ≡ p
  pub next_b : S.next (S.prev q) ≡ q
  pub below_edges : (x : ℕ) → Live S x → x / 2 < S.edges
  pub below_faces : (x : ℕ) → Live S x → S.face x < S.faces

-- the first edge: h from a to b, and back; no other edge is live
pub record FirstEdge (T : Map) (h a b : ℕ) : Type 0 where
  pub edge_here : T.edge (h / 2) ≡ true
  pub edge_other : (u : ℕ) → u ≢ h / 2 → T.edge u ≡ false
  pub next_h : T.next h ≡ rev h
  pub next_rev : T.next (rev h) ≡ h
  pub prev_h : T.prev h ≡ rev h
  pub prev_rev : T.prev (rev h) ≡ h
  pub origin_h : T.origin h ≡ a
  pub origin_rev : T.origin (rev h) ≡ b
  pub apart : a ≢ b
  pub face_h : T.face h ≡ 0
  pub face_rev : T.face (rev h) ≡ 0
  pub edge_below : h / 2 < T.edges
  pub below_a : a < T.vertices
  pub below_b : b < T.vertices
  pub below_0 : 0 < T.faces

-- T is S with other numbers: half edges by f (back by f'), vertices by o, faces by w
pub record Renamed (S T : Map) (f f' o w : ℕ → ℕ) : Type 0 where
  pub lives : (x : ℕ) → Live S x → Live T (f x)
  pub comes : (y : ℕ) → Live T y → Live S (f' y)
  pub forth : (x : ℕ) → Live S x → f' (f x) ≡ x
  pub back : (y : ℕ) → Live T y → f (f' y) ≡ y
  pub turn : (x : ℕ) → Live S x → rev (f x) ≡ f (rev x)
  pub next : (x : ℕ) → Live S x → T.next (f x) ≡ f (S.next x)
  pub prev : (x : ℕ) → Live S x → T.prev (f x) ≡ f (S.prev x)
  pub origin : (x : ℕ) → Live S x → T.origin (f x) ≡ o (S.origin x)
  pub face : (x : ℕ) → Live S x → T.face (f x) ≡ w (S.face x)
  pub apart_origin : (x y : ℕ) → Live S x → Live S y → o (S.origin x) ≡ o (S.origin y) → S.origin x ≡ S.origin y
  pub apart_face : (x y : ℕ) → Live S x → Live S y → w (S.face x) ≡ w (S.face y) → S.face x ≡ S.face y
  pub below_edges : (x : ℕ) → Live T x → x / 2 < T.edges
  pub below_vertices : (x : ℕ) → Live T x → T.origin x < T.vertices
  pub below_faces : (x : ℕ) → Live T x → T.face x < T.faces
