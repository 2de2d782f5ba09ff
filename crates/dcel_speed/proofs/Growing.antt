-- Meshes whose inner faces are triangles: the first one, and that an insertion and a split make others.
use Rattle.std.proofs.Common.{◌≡◌, ◌≢◌, ℕ, true, zero, suc, ◌+◌, ◌*◌, ◌/◌, ◌<◌, List, [], ◌∷◌, length, refl, subst, ap, sym, ◌∙◌, arith}
use Rattle.dcel_fixed.specs.HalfEdges.{rev}
use Rattle.dcel_fixed.proofs.Halves.{rev-half}
use Rattle.dcel_maps.specs.Cyclic.{from_least}
use Rattle.dcel_maps.specs.edits.Split.{edge_split}
use Rattle.dcel_maps.specs.edits.DefaultData.{AddsEdgesAndFaces}
use Rattle.dcel_maps.specs.Conditions.{IsTriangle, IsUnconnected}
use Rattle.dcel_maps.specs.Shapes.{adjacent_edge_of, Shape, Mesh, IsMesh, IsLive, IsSound, edge_is_live, face_count, face_is_live, face_of, map_of, next_of, origin_of, prev_of, vertex_is_live}
use Rattle.dcel_maps.specs.edits.Triangle.{triangle_alone, vertex_inserted}
use Rattle.dcel_maps.specs.edits.Create.{vertex_appended}
use Rattle.dcel_maps.specs.Removals.{gives_up_face, gives_up_vertex}
use Rattle.dcel_maps.specs.Words.{count_of, word_of}
use Rattle.dcel_maps.proofs.Liveness.{closed-live, gives_up_face-closed, gives_up_vertex-past, is_live-from, is_live-last, is_live-parts, start-parts}
use Rattle.dcel_maps.proofs.Triangulations.{length-least}
use Rattle.dcel_maps.proofs.walks.Links.{half-below, links_stand}
use Rattle.dcel_maps.proofs.words.Counts.{count-same}
use Rattle.dcel_maps.proofs.words.Reading.{face-below, live_in}
use Rattle.dcel_maps.proofs.words.Turns.{from_least-turn, length-turn}
use Rattle.dcel_maps.proofs.edits.Patches.{Each, EachFrom, Patch, each-patched, length-patched, patched}
use Rattle.dcel_speed.specs.Growth.{IsInside, IsTriangulated}

-- an inner face is a live triangle
pub face_live : (s : Shape) → IsTriangulated s → (f : ℕ) → f < face_count s → face_is_live s f ≡ true
face_live s t f below =
    is_live-from (gives_up_face s.removal) (face_count s) f below (ap (λ r. gives_up_face r f) t.closed ∙ gives_up_face-closed f)

pub face_triangle : (s : Shape) → IsTriangulated s → (f : ℕ) → 0 < f → f < face_count s → IsTriangle s f
face_triangle s t f inner below = record { live = face_live s t f below; three = t.three f inner below }

-- some half edge lies on such a face, and starts at some vertex
first_item : (w : List ℕ) → length w ≡ 3 → (h : ℕ) × (0 < count_of h w)
first_item [] long = absurd (omega (arith, long))
first_item (h ∷ w) long = (h, omega (arith, count-same h w))

some_half : (s : Shape) → IsSound s → IsTriangulated s → (h : ℕ) × IsLive s h
some_half s sound t =
    let first = first_item (word_of s.words 1) (t.three 1 (omega arith) t.inner) in
    (first.0, live_in (map_of s) s.words (links_stand sound) first.0 1 first.1)

pub some_edge : (s : Shape) → IsSound s → IsTriangulated s → 0 < 2 * s.edges
some_edge s sound t = let half = some_half s sound t in omega (arith, half-below s half.0 half.1)

pub some_vertex : (s : Shape) → IsSound s → IsTriangulated s → 0 < s.vertices
some_vertex s sound t = let half = some_half s sound t in omega (arith, (start-parts s sound half.0 half.1).0)

-- each half edge in range is live
pub half_live : (s : Shape) → IsTriangulated s → (h : ℕ) → h < 2 * s.edges → IsLive s h
half_live s t h below = closed-live s t.closed (h / 2) (omega (arith, below))

-- and lies on a triangle where its face is an inner one
on_triangle : (s : Shape) → IsSound s → IsTriangulated s → (h : ℕ) → IsLive s h → 0 < face_of s h → IsTriangle s (face_of s h)
on_triangle s sound t h live inner = face_triangle s t (face_of s h) inner (face-below (map_of s) s.words (links_stand sound) h live)

pub inside_triangle : (s : Shape) → IsSound s → IsTriangulated s → (h : ℕ) → IsInside s h → IsTriangle s (face_of s h)
inside_triangle s sound t h inside = on_triangle s sound t h inside.live inside.face

pub inside_facing : (s : Shape) → IsSound s → IsTriangulated s → (h : ℕ) → IsInside s h → IsTriangle s (face_of s (rev h))
inside_facing s sound t h inside = on_triangle s sound t (rev h) (ap (edge_is_live s) (rev-half h) ∙ inside.live) inside.facing

-- the first triangle
alone_three : (words : List (List ℕ)) → words ≡ (0 ∷ 2 ∷ 4 ∷ []) ∷ (1 ∷ 5 ∷ 3 ∷ []) ∷ [] → (f : ℕ) → 0 < f → f < length words
    → length (word_of words f) ≡ 3
alone_three words is zero inner below = absurd (omega arith)
alone_three words is (suc zero) inner below = ap (λ w. length (word_of w 1)) is
alone_three words is (suc (suc f)) inner below = let two = ap length is in absurd (omega (arith, two))

-- words of three in place of others, and more of them
abbrev IsThree : ℕ → List ℕ → Type 0
IsThree f w = 0 < f → length w ≡ 3

three_more : (ws : List (List ℕ)) (p : Patch (List ℕ)) → Each IsThree p.set → EachFrom IsThree (length ws) p.more
    → ((k : ℕ) → 0 < k → k < length ws → length (word_of ws k) ≡ 3)
    → (k : ℕ) → 0 < k → k < length (patched ws p) → length (word_of (patched ws p) k) ≡ 3
three_more ws p set more three k inner below =
    each-patched IsThree [] ws p (length ws) refl set more (λ g within away above. three g above within)
    k (omega (arith, below, length-patched ws p)) inner

patched_triangulated : (s t : Shape) (p : Patch (List ℕ)) → IsTriangulated s → t.removal ≡ s.removal → t.words ≡ patched s.words p
    → Each IsThree p.set → EachFrom IsThree (face_count s) p.more → IsTriangulated t
patched_triangulated s t p before removal words set more = record {
  closed = removal ∙ before.closed;
  inner = omega (arith, before.inner, ap length words, length-patched s.words p);
  three = subst (λ ws. (f : ℕ) → 0 < f → f < length ws → length (word_of ws f) ≡ 3) (sym words)
      (three_more s.words p set more before.three);
}

module _ {V DE UE F : Type 0} where
  pub alone_triangulated : {is_half : DE → Type 0} {is_edge : UE → Type 0} {is_face : F → Type 0} (m : Mesh V DE UE F) (vertices : V × V × V)
      → AddsEdgesAndFaces is_half is_edge is_face 3 2 m (triangle_alone vertices) → IsTriangulated m.shape
  alone_triangulated m vertices adds = record {
    closed = ap (λ (u : Mesh V DE UE F). u.shape.removal) adds.is;
    inner = let two = ap (λ (u : Mesh V DE UE F). face_count u.shape) adds.is in omega (arith, two);
    three = alone_three m.shape.words (ap (λ (u : Mesh V DE UE F). u.shape.words) adds.is);
  }

  -- an appended vertex is live and has no edge
  appended_live : (m n : Mesh V DE UE F) (datum : V) (v : ℕ) → IsMesh m → n ≡ vertex_appended m datum → v ≡ m.shape.vertices
      → vertex_is_live n.shape v ≡ true
  appended_live m n datum v mesh is last =
      rw (is, last)
      (is_live-last (gives_up_vertex m.shape.removal) m.shape.vertices (gives_up_vertex-past mesh.sized.within m.shape.vertices (omega arith)))

  pub appended_bare : (m n : Mesh V DE UE F) (datum : V) (v : ℕ) → IsMesh m → n ≡ vertex_appended m datum → v ≡ m.shape.vertices
      → IsUnconnected n.shape v
  appended_bare m n datum v mesh is last = record {
    live = appended_live m n datum v mesh is last;
    bare = let P : Mesh V DE UE F → Type 0 = λ u. (h : ℕ) → IsLive u.shape h → origin_of u.shape h ≢ v in
        subst P (sym is) (λ h live starts.
        let parts = is_live-parts (gives_up_vertex m.shape.removal) m.shape.vertices (origin_of m.shape h) (mesh.sound.starts_live h live) in
        omega (arith, parts.0, starts, last));
  }

  appended_triangulated : (m n : Mesh V DE UE F) (datum : V) → IsTriangulated m.shape → n ≡ vertex_appended m datum → IsTriangulated n.shape
  appended_triangulated m n datum t appended =
      let Q : Mesh V DE UE F → Type 0 = λ u. IsTriangulated u.shape in
      subst Q (sym appended) (record { closed = t.closed; inner = t.inner; three = t.three })

  -- an insertion leaves inner faces triangles
  abbrev inserted_words : Mesh V DE UE F → ℕ → Patch (List ℕ)
  inserted_words m f =
      let n = 2 * m.shape.edges in
      let a = adjacent_edge_of m f in
      record {
        set = (f, a ∷ n ∷ (n + 5) ∷ []) ∷ [];
        more = (next_of m.shape a ∷ (n + 2) ∷ (n + 1) ∷ []) ∷ (prev_of m.shape a ∷ (n + 4) ∷ (n + 3) ∷ []) ∷ [];
      }

  inserted_triangulated : (m : Mesh V DE UE F) → IsTriangulated m.shape → (v f : ℕ) (halves : List DE) (edges : List UE) (faces : List F)
      → IsTriangulated (vertex_inserted m v f halves edges faces).shape
  inserted_triangulated m t v f halves edges faces =
      patched_triangulated m.shape (vertex_inserted m v f halves edges faces).shape (inserted_words m f) t refl refl
      (λ i. refl, tt) (λ i. refl, (λ i. refl, tt))

  pub insertion_triangulated : {is_half : DE → Type 0} {is_edge : UE → Type 0} {is_face : F → Type 0} (m n p : Mesh V DE UE F) (datum : V) (v f : ℕ)
      → IsTriangulated m.shape → n ≡ vertex_appended m datum
      → AddsEdgesAndFaces is_half is_edge is_face 3 2 p (vertex_inserted n v f) → IsTriangulated p.shape
  insertion_triangulated m n p datum v f t appended adds =
      let Q : Mesh V DE UE F → Type 0 = λ u. IsTriangulated u.shape in
      subst Q (sym adds.is)
      (inserted_triangulated n (appended_triangulated m n datum t appended) v f adds.directed_data adds.undirected_data adds.face_data)

  -- and so does a split
  abbrev split_words : Mesh V DE UE F → ℕ → Patch (List ℕ)
  split_words m e =
      let n = 2 * m.shape.edges in
      let t = rev e in
      record {
        set = (face_of m.shape e, from_least (e ∷ (n + 5) ∷ prev_of m.shape e ∷ []))
            ∷ (face_of m.shape t, from_least (t ∷ next_of m.shape t ∷ n ∷ [])) ∷ [];
        more = (prev_of m.shape t ∷ (n + 2) ∷ (n + 1) ∷ []) ∷ (next_of m.shape e ∷ (n + 4) ∷ (n + 3) ∷ []) ∷ [];
      }

  split_triangulated : (m : Mesh V DE UE F) → IsTriangulated m.shape → (e v : ℕ) (halves : List DE) (edges : List UE) (faces : List F)
      → IsTriangulated (edge_split m e v halves edges faces).shape
  split_triangulated m t e v halves edges faces =
      patched_triangulated m.shape (edge_split m e v halves edges faces).shape (split_words m e) t refl refl
      (λ i. length-least _, (λ i. length-least _, tt)) (λ i. refl, (λ i. refl, tt))

  -- of an edge inside, in the mesh that has the vertex for its middle
  module _ (m n : Mesh V DE UE F) (datum : V) (e : ℕ) (t : IsTriangulated m.shape) (appended : n ≡ vertex_appended m datum) where
    still_inside : IsInside m.shape e → IsInside n.shape e
    still_inside inside =
        let P : Mesh V DE UE F → Type 0 = λ u. IsInside u.shape e in
        subst P (sym appended) (record { live = inside.live; face = inside.face; facing = inside.facing })

    pub split_live : IsInside m.shape e → IsLive n.shape e
    split_live inside = (still_inside inside).live

    pub split_triangle : IsMesh n → IsInside m.shape e → IsTriangle n.shape (face_of n.shape e)
    split_triangle mesh inside = inside_triangle n.shape mesh.sound (appended_triangulated m n datum t appended) e (still_inside inside)

    pub split_facing : IsMesh n → IsInside m.shape e → IsTriangle n.shape (face_of n.shape (rev e))
    split_facing mesh inside = inside_facing n.shape mesh.sound (appended_triangulated m n datum t appended) e (still_inside inside)

    pub splitting_triangulated : {is_half : DE → Type 0} {is_edge : UE → Type 0} {is_face : F → Type 0} (p : Mesh V DE UE F) (v : ℕ)
        → AddsEdgesAndFaces is_half is_edge is_face 3 2 p (edge_split n e v) → IsTriangulated p.shape
    splitting_triangulated p v adds =
        let Q : Mesh V DE UE F → Type 0 = λ u. IsTriangulated u.shape in
        subst Q (sym adds.is)
        (split_triangulated n (appended_triangulated m n datum t appended) e v adds.directed_data adds.undirected_data adds.face_data)
