-- Walks round a mesh: steps that undo each other, the half edges that they lead through, and what is still to come of a walk.
use Rattle.std.specs.Prelude.{◌≡◌, ℕ, ◌*◌, ◌<◌, ◌≤◌, ◌==◌, Bool, false, cond, List, [], ◌∷◌, length, map, find, Option, Some, None}
use Rattle.dcel_fixed.specs.HalfEdges.{rev}
use Rattle.dcel_maps.specs.Maps.{By, count}
use Rattle.dcel_maps.specs.Shapes.{Shape, Mesh, IsLive, edge_is_live, next_of, prev_of, face_of, origin_of, end_of, vertex_anchor, face_anchor}
use Rattle.dcel_maps.specs.Walks.{up_to, walk}
use Rattle.dcel_maps.specs.theory.Cycles.{Path}
use Rattle.dcel_maps.specs.Words.{count_of}

-- the next half edge out of the same vertex, and the one before
abbrev pub ccw_of : Shape → ℕ → ℕ
ccw_of s h = rev (prev_of s h)

abbrev pub cw_of : Shape → ℕ → ℕ
cw_of s h = next_of s (rev h)

-- two functions that take live half edges to live ones, and undo each other there
pub record IsLawful (s : Shape) (step step_back : ℕ → ℕ) : Type 0 where
  pub stays : (h : ℕ) → IsLive s h → IsLive s (step h)
  pub stays_back : (h : ℕ) → IsLive s h → IsLive s (step_back h)
  pub back-step : (h : ℕ) → IsLive s h → step_back (step h) ≡ h
  pub step-back : (h : ℕ) → IsLive s h → step (step_back h) ≡ h

-- w is h, step h, .. up to, not including, the first return to h
pub record IsRoundTrip (step : ℕ → ℕ) (h : ℕ) (w : List ℕ) : Type 0 where
  pub rest : List ℕ
  pub from : w ≡ h ∷ rest
  pub round : Path (By step) h rest h
  pub once : (k : ℕ) → count_of k w ≤ 1

-- the walk from h by a step; no walk is longer than there are half edges
abbrev pub walk_of : Shape → (ℕ → ℕ) → ℕ → List ℕ
walk_of s step h = walk step (2 * s.edges) h

-- the walk from a half edge, and nothing where there is none
abbrev pub walk_from : Shape → (ℕ → ℕ) → Option ℕ → List ℕ
walk_from s step None = []
walk_from s step (Some h) = walk_of s step h

abbrev pub live_half_edges : Shape → ℕ
live_half_edges s = 2 * count (edge_is_live s) s.edges

-- a live half edge that starts at the vertex v, and one that lies on the face f
pub record IsOutEdge (s : Shape) (v h : ℕ) : Type 0 where
  pub live : IsLive s h
  pub start : origin_of s h ≡ v

pub record IsOnFace (s : Shape) (f h : ℕ) : Type 0 where
  pub live : IsLive s h
  pub face : face_of s h ≡ f

-- a live half edge that leads from the vertex v to the vertex w
pub record Leads (s : Shape) (v w h : ℕ) : Type 0 where
  pub live : IsLive s h
  pub start : origin_of s h ≡ v
  pub end : end_of s h ≡ w

-- each number that has the property stands in the list, once, and no other does
pub record ListsOnce (P : ℕ → Type 0) (w : List ℕ) : Type 0 where
  pub each : (h : ℕ) → P h → count_of h w ≡ 1
  pub no_other : (h : ℕ) → 0 < count_of h w → P h

-- elements by number, each with the mesh that it lies in
abbrev pub in_mesh : {M : Type 0} → M → List ℕ → List (M × ℕ)
in_mesh m numbers = map (λ n. (m, n)) numbers

-- what contracts see of a walk: its mesh, and the half edges to come
pub record Walking (V DE UE F : Type 0) : Type 0 where
  pub mesh : Mesh V DE UE F
  pub items : List (Mesh V DE UE F × ℕ)

-- the half edges to come: from the current one to the last, and none once the walk is finished
abbrev pub to_come : Shape → (ℕ → ℕ) → Bool → ℕ → ℕ → List ℕ
to_come s step finished current last = cond finished [] (up_to step (2 * s.edges) current last)

-- one step from a live half edge, and back
pub record StepsTo (s : Shape) (step step_back : ℕ → ℕ) (h k : ℕ) : Type 0 where
  pub live : IsLive s h
  pub forth : step h ≡ k
  pub back : step_back k ≡ h

-- a walk that is not finished: steps lead from the current half edge along the rest to the last
pub record IsUnderWay (s : Shape) (step step_back : ℕ → ℕ) (current last : ℕ) : Type 0 where
  pub rest : List ℕ
  pub path : Path (StepsTo s step step_back) current rest last
  pub once : (k : ℕ) → count_of k (current ∷ rest) ≤ 1
  pub apart : count_of last rest ≡ 0
  pub live_last : IsLive s last
  pub few : length rest < 2 * s.edges

-- a walk is finished, or under way
abbrev pub IsWalking : Shape → (ℕ → ℕ) → (ℕ → ℕ) → Bool → ℕ → ℕ → Type 0
IsWalking s step step_back finished current last = finished ≡ false → IsUnderWay s step step_back current last

module _ {V DE UE F : Type 0} where
  -- the out edges of a vertex: the walk by `ccw` from its anchor
  abbrev pub out_edges_of : Mesh V DE UE F → ℕ → List ℕ
  out_edges_of m v = walk_from m.shape (ccw_of m.shape) (vertex_anchor m v)

  -- the hull: the walk by `next` from the anchor of the outer face
  abbrev pub hull_of : Mesh V DE UE F → List ℕ
  hull_of m = walk_from m.shape (next_of m.shape) (face_anchor m 0)

  -- the first out edge of the vertex v that ends at the vertex w
  abbrev pub edge_between : Mesh V DE UE F → ℕ → ℕ → Option ℕ
  edge_between m v w = find (λ h. end_of m.shape h == w) (out_edges_of m v)
