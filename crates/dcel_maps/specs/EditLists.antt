-- Lists of elementary edits: when a map comes from another one by such a list, which lists the edits of meshes are made of.
use Rattle.std.specs.Prelude.{◌≡◌, ◌+◌, ◌-◌, ◌≤◌, ◌==◌, ◌||◌, ℕ, zero, suc, nat_lt, Bool, false, cond, List, [], ◌∷◌, ◌++◌, length, replicate}
use Rattle.dcel_maps.specs.Elementary.{Chord, FirstEdge, Renamed, Spur, Subdivide, Unchord, Unspur, Unsubdivide}
use Rattle.dcel_maps.specs.Maps.{Live, Map}
use Rattle.dcel_maps.specs.Shapes.{Mesh, map_of, out_edge_of}
use Rattle.dcel_maps.specs.edits.Degenerate.{going}

-- What stands in such lists: the six elementary edits, which are Euler operators (mev and kev for a spur, semv and jekv for the vertex in an
-- edge, mef and kef for a word and its parts); an ear, which is a chord over two neighbours; a first edge; other numbers; and that no edge
-- is left.
pub data EditKind : Type 0 where
  spur_added : EditKind
  spur_dropped : EditKind
  edge_subdivided : EditKind
  edges_joined : EditKind
  word_cut : EditKind
  words_joined : EditKind
  ear_cut : EditKind
  first_edge : EditKind
  numbers_changed : EditKind
  emptied : EditKind

-- no edge is live
abbrev pub HasNoEdge : Map → Type 0
HasNoEdge M = (u : ℕ) → M.edge u ≡ false

-- T comes from S by one edit of this kind; an ear leads past p and n, which follow each other before q
abbrev pub Edit : EditKind → Map → Map → Type 0
Edit spur_added S T = (a : ℕ) × (h : ℕ) × (v : ℕ) × Spur S T a h v
Edit spur_dropped S T = (a : ℕ) × (h : ℕ) × (v : ℕ) × Unspur T S a h v
Edit edge_subdivided S T = (h : ℕ) × (k : ℕ) × (v : ℕ) × Subdivide S T h k v
Edit edges_joined S T = (h : ℕ) × (k : ℕ) × (v : ℕ) × Unsubdivide T S h k v
Edit word_cut S T = (p : ℕ) × (q : ℕ) × (h : ℕ) × (g : ℕ) × (arc : ℕ → Bool) × Chord S T p q h g arc
Edit words_joined S T = (p : ℕ) × (q : ℕ) × (h : ℕ) × (g : ℕ) × (arc : ℕ → Bool) × Unchord T S p q h g arc
Edit ear_cut S T =
    (p : ℕ) × (n : ℕ) × (q : ℕ) × (h : ℕ) × (g : ℕ) × (S.next p ≡ n) × (S.next n ≡ q) × Chord S T p q h g (λ x. x == p || x == n)
Edit first_edge S T = (h : ℕ) × (a : ℕ) × (b : ℕ) × HasNoEdge S × FirstEdge T h a b
Edit numbers_changed S T = (half : ℕ → ℕ) × (back : ℕ → ℕ) × (vertex : ℕ → ℕ) × (face : ℕ → ℕ) × Renamed S T half back vertex face
Edit emptied S T = HasNoEdge T

-- T links the live half edges of S as S does
pub record LinksAgree (S T : Map) : Type 0 where
  pub next : (x : ℕ) → Live S x → T.next x ≡ S.next x
  pub prev : (x : ℕ) → Live S x → T.prev x ≡ S.prev x
  pub origin : (x : ℕ) → Live S x → T.origin x ≡ S.origin x
  pub face : (x : ℕ) → Live S x → T.face x ≡ S.face x

-- T has the live edges of S, linked as S links them, and counts that are no smaller
pub record Extends (S T : Map) : Type 0 where
  pub vertices : S.vertices ≤ T.vertices
  pub edges : S.edges ≤ T.edges
  pub faces : S.faces ≤ T.faces
  pub edge : (u : ℕ) → T.edge u ≡ S.edge u
  pub links : LinksAgree S T
  pub open links use *

-- T comes from S by edits of these kinds, in this order; before each and after the last one what isn't live may change
abbrev pub ComesBy : List EditKind → Map → Map → Type 0
ComesBy [] S T = Extends S T
ComesBy (kind ∷ kinds) S T = (M : Map) × (N : Map) × Extends S M × Edit kind M N × ComesBy kinds N T

-- the same of meshes
abbrev pub EditedBy : {V DE UE F V' DE' UE' F' : Type 0} → List EditKind → Mesh V DE UE F → Mesh V' DE' UE' F' → Type 0
EditedBy kinds old new = ComesBy kinds (map_of old.shape) (map_of new.shape)

-- the map of nothing, and a mesh that comes from it
abbrev pub nothing : Map
nothing = record { vertices = 0; edges = 0; faces = 0; edge = λ u. false; next = λ h. h; prev = λ h. h; origin = λ h. 0; face = λ h. 0 }

abbrev pub MadeBy : {V DE UE F : Type 0} → List EditKind → Mesh V DE UE F → Type 0
MadeBy kinds new = ComesBy kinds nothing (map_of new.shape)

-- how many edges are live after one edit, and after a list, where so many were
abbrev pub edges_then : EditKind → ℕ → ℕ
edges_then spur_added n = n + 1
edges_then spur_dropped n = n - 1
edges_then edge_subdivided n = n + 1
edges_then edges_joined n = n - 1
edges_then word_cut n = n + 1
edges_then words_joined n = n - 1
edges_then ear_cut n = n + 1
edges_then first_edge n = 1
edges_then numbers_changed n = n
edges_then emptied n = 0

abbrev pub edges_after : List EditKind → ℕ → ℕ
edges_after [] n = n
edges_after (kind ∷ kinds) n = edges_after kinds (edges_then kind n)

-- so many flips: each joins two words and cuts an ear
abbrev pub flip_edits : ℕ → List EditKind
flip_edits zero = []
flip_edits (suc n) = words_joined ∷ ear_cut ∷ flip_edits n

-- a vertex with n edges goes: all but one are joined away, and the last one is a spur then; the face that is left gets its number
abbrev pub vertex_cut_off : ℕ → List EditKind
vertex_cut_off n = replicate (n - 1) words_joined ++ spur_dropped ∷ numbers_changed ∷ []

-- the n edges between the faces of a region go, and the face that is left gets its number
abbrev pub region_joined : ℕ → List EditKind
region_joined n = replicate n words_joined ++ numbers_changed ∷ []

-- a face with n half edges is cut into triangles
abbrev pub ears_cut : ℕ → List EditKind
ears_cut n = replicate (n - 3) ear_cut

-- what lies inside a ring goes, and the face that is left is cut into triangles; round a vertex lie as many edges as faces, and a region has
-- a face more
abbrev pub filling : (border edges faces : List ℕ) → List EditKind
filling border edges faces =
    cond (length edges == length faces) (vertex_cut_off (length border)) (region_joined (length edges)) ++ ears_cut (length border)

-- a vertex of a degenerate mesh goes: from two vertices or one no edge is left; at an end of a longer path, where its anchor is the one out
-- edge, a spur is dropped; and elsewhere two edges are joined
abbrev pub path_shortened : {V DE UE F : Type 0} → Mesh V DE UE F → ℕ → List EditKind
path_shortened m v =
    cond (nat_lt 2 m.shape.vertices) (cond (out_edge_of m v == going m v) spur_dropped edges_joined ∷ numbers_changed ∷ []) (emptied ∷ [])
