-- The corners of the inner faces, listed one after another, and the numbers of points there.
use Rattle.std.proofs.Common.{◌≡◌, ◌≢◌, ◌∙◌, inl, inr, ℕ, suc, ◌+◌, ◌-◌, ◌<◌, ◌≤◌, List, [], ◌∷◌, length, map, set, slice_get, slice_index_or, unwrap_or, Option, None, Some, refl, sym, ap, subst, arith}
use Rattle.std.proofs.lemmas.Bool.{cases_eq}
use Rattle.std.proofs.lemmas.List.{length-map, length-set}
use Rattle.std.proofs.lemmas.List.FromFn.{get_or-map-range_with_len}
use Rattle.std.proofs.lemmas.Option.{get_or_from_slice_get, same_Some, slice_get_within}
use Rattle.dcel_maps.specs.Numbers.{numbers_between}
use Rattle.dcel_maps.specs.Removals.{Closed}
use Rattle.dcel_maps.specs.Shapes.{AnchorsWord, IsMesh, Mesh, Shape, adjacent_edge_of, face_anchor, face_count, map_of, next_of, origin_of, prev_of}
use Rattle.dcel_maps.specs.Triangulations.{AllTriangles}
use Rattle.dcel_maps.specs.Walking.{IsOnFace}
use Rattle.dcel_maps.specs.Words.{TurnsTo, count_of, word_of}
use Rattle.dcel_maps.proofs.shapes.Chains.{turn-map}
use Rattle.dcel_maps.proofs.shapes.Maps.{map-sound}
use Rattle.dcel_maps.proofs.walks.Links.{links_stand}
use Rattle.dcel_maps.proofs.walks.Numbers.{length-numbers}
use Rattle.dcel_maps.proofs.words.Counts.{count-same}
use Rattle.dcel_maps.proofs.words.Reading.{face_in_word, live_in}
use Rattle.dcel_maps.proofs.words.Turns.{turns_on}
use Rattle.dcel_plane.specs.covering.Delaunay.{HasCornerVertices}
use Rattle.dcel_plane.proofs.edits.Corners.{turned_along}
use Rattle.dcel_plane.proofs.covering.Numbered.{word_is}
use Rattle.dcel_plane.proofs.covering.Starts.{face_live}
use Rattle.dcel_plane.proofs.covering.Triangles.{word_at}
use Rattle.dcel_delaunay.specs.Listing.{AreNumbers, HasNumbers, IsBelow, ListsFaces}
use Rattle.dcel_delaunay.specs.Lists.{ListsCorners, corners_of, inner_faces}
use Rattle.dcel_delaunay.specs.declared.triangles.triangle.Triangle.{Triangle}
use Rattle.dcel_delaunay.proofs.Items.{get_other, get_set}

module _ {V DE UE F : Type 0} (m : Mesh V DE UE F) (mesh : IsMesh m) where
  abbrev s : Shape
  s = m.shape

  -- the corners of a face are vertices
  pub corners_below : (f a b c : ℕ) → HasCornerVertices s f a b c → (a < s.vertices) × (b < s.vertices) × (c < s.vertices)
  corners_below f a b c corners =
      let word = word_is s f a b c corners in
      let starts : (x : ℕ) → 0 < count_of x (word_of s.words f) → origin_of s x < s.vertices =
      λ x found. (map-sound mesh.sound).below_vertices x (live_in (map_of s) s.words (links_stand mesh.sound) x f found) in
      turned_along (λ a b c. (a < s.vertices) × (b < s.vertices) × (c < s.vertices)) (λ a b c below. (below.1, below.2, below.0))
      (origin_of s word.x) (origin_of s word.y) (origin_of s word.z) a b c word.turn (
        starts word.x (rw word.is (omega (arith, count-same word.x (word.y ∷ word.z ∷ [])))),
        starts word.y (rw word.is (omega (arith, count-same word.y (word.z ∷ [])))),
        starts word.z (rw word.is (omega (arith, count-same word.z []))),
      )

  -- a list with an item for each inner face
  listed_length : {T : Type 0} (read : ℕ → T) (list : List T) → list ≡ map read (inner_faces s) → length list + 1 ≡ face_count s
  listed_length read list are = let some = mesh.sized.outer in omega (arith, ap length are, length-map (inner_faces s) read, length-numbers 1 (face_count s), some)

  module _ (closed : m.shape.removal ≡ Closed) where
    anchor_lies : (f : ℕ) → 0 < f → f < face_count s → IsOnFace s f (adjacent_edge_of m f)
    anchor_lies f inner below = anchored (face_anchor m f) refl (mesh.anchored.faces f below)
      where
        anchored : (a : Option ℕ) → face_anchor m f ≡ a → AnchorsWord (word_of s.words f) a → IsOnFace s f (adjacent_edge_of m f)
        anchored None is none = absurd (mesh.sound.inner f inner (face_live m mesh closed f below) none)
        anchored (Some h) is found =
            let stand = links_stand mesh.sound in
            subst (λ (a : Option ℕ). IsOnFace s f (unwrap_or a 0)) (sym is)
            record { live = live_in (map_of s) s.words stand h f found; face = face_in_word (map_of s) s.words stand h f found }

    module _ (triangles : AllTriangles m.shape) where
      corners_from_anchor : (f : ℕ) → 0 < f → f < face_count s
          → HasCornerVertices s f (origin_of s (prev_of s (adjacent_edge_of m f))) (origin_of s (adjacent_edge_of m f)) (origin_of s (next_of s (adjacent_edge_of m f)))
      corners_from_anchor f inner below =
          let h = adjacent_edge_of m f in
          let lies = anchor_lies f inner below in
          let word = word_at m mesh triangles h lies.live (let on = lies.face in omega (arith, inner, on)) in
          let is : word_of s.words f ≡ word.a ∷ word.b ∷ word.c ∷ [] = ap (word_of s.words) (sym lies.face) ∙ word.is in
          let one_on : TurnsTo (h ∷ next_of s h ∷ prev_of s h ∷ []) (prev_of s h ∷ h ∷ next_of s h ∷ []) =
          record { front = h ∷ next_of s h ∷ []; back = prev_of s h ∷ []; was = refl; is = refl } in
          record {
            inner = inner;
            starts = turn-map (origin_of s) (subst (λ (w : List ℕ). TurnsTo w (prev_of s h ∷ h ∷ next_of s h ∷ [])) (sym is) (turns_on word.turn one_on));
          }

      -- each face's corners are at its place
      pub corners_listed : (list : List Triangle) → list ≡ map (corners_of m) (inner_faces s) → ListsCorners s list
      unfolding numbers_between
      corners_listed list are i t at =
          let long = listed_length (corners_of m) list are in
          let within = slice_get_within list i t at in
          let own : t ≡ corners_of m (suc i) =
          sym (get_or_from_slice_get list i t t at) ∙ ap (λ (l : List Triangle). slice_index_or l i t) are
          ∙ get_or-map-range_with_len (corners_of m) 1 (face_count s - 1) i (suc i) t (omega (arith, within, long)) (omega arith) in
          subst (λ (u : Triangle). HasCornerVertices s (suc i) u.first u.second u.third) (sym own) (corners_from_anchor (suc i) (omega arith) (omega (arith, within, long)))

-- the triangles before a place have numbers of points, and those from there on have vertices
pub record NumberedSoFar (s : Shape) (numbers : List ℕ) (place : ℕ) (list : List Triangle) : Type 0 where
  pub count : length list + 1 ≡ face_count s
  pub done : (i : ℕ) (t : Triangle) → i < place → slice_get list i ≡ Some t → HasNumbers s numbers (suc i) t
  pub left : (i : ℕ) (t : Triangle) → place ≤ i → slice_get list i ≡ Some t → HasCornerVertices s (suc i) t.first t.second t.third

pub numbered_none : {V DE UE F : Type 0} (m : Mesh V DE UE F) → IsMesh m → (numbers : List ℕ) (list : List Triangle) → list ≡ map (corners_of m) (inner_faces m.shape)
    → ListsCorners m.shape list → NumberedSoFar m.shape numbers 0 list
numbered_none m mesh numbers list are corners = record {
  count = listed_length m mesh (corners_of m) list are;
  done = λ i t below at. absurd (omega (arith, below));
  left = λ i t from at. corners i t at;
}

-- the vertices of the next one have numbers
pub next_below : {V DE UE F : Type 0} (m : Mesh V DE UE F) → IsMesh m → (numbers : List ℕ) (list : List Triangle) (place : ℕ) (t : Triangle) → length numbers ≡ m.shape.vertices
    → NumberedSoFar m.shape numbers place list → slice_get list place ≡ Some t → IsBelow (length numbers) t
next_below m mesh numbers list place t many so_far at =
    let below = corners_below m mesh (suc place) t.first t.second t.third (so_far.left place t (omega arith) at) in
    record { first = omega (arith, below.0, many); second = omega (arith, below.1, many); third = omega (arith, below.2, many) }

module _ (s : Shape) (numbers : List ℕ) (list : List Triangle) where
  pub numbered_more : (place : ℕ) (t u : Triangle) → NumberedSoFar s numbers place list → slice_get list place ≡ Some t → AreNumbers numbers t u
      → NumberedSoFar s numbers (place + 1) (set list place u)
  numbered_more place t u so_far at are = record {
    count = ap (λ n. n + 1) (length-set list place u) ∙ so_far.count;
    done = λ i v below has. elim (cases_eq i place) [
      | inl here ↦
          let corners = so_far.left place t (omega arith) at in
          let own : u ≡ v = same_Some u v (sym (get_set list place u (slice_get_within list place t at)) ∙ ap (slice_get (set list place u)) (sym here) ∙ has) in
          subst (λ (x : Triangle). HasNumbers s numbers (suc i) x) own (subst (λ (k : ℕ). HasNumbers s numbers (suc k) u) (sym here)
          record { a = t.first; b = t.second; c = t.third; corners = corners; first = are.first; second = are.second; third = are.third })
      | inr other ↦ so_far.done i v (omega (arith, below, other)) (sym (get_other list place i u other) ∙ has)
    ];
    left = λ i v from has.
        let other : i ≢ place = λ here. omega (arith, from, here) in
        so_far.left i v (omega (arith, from)) (sym (get_other list place i u other) ∙ has);
  }

  pub numbered_all : (place : ℕ) → length list ≤ place → NumberedSoFar s numbers place list → ListsFaces s numbers list
  numbered_all place all so_far i t at = so_far.done i t (let within = slice_get_within list i t at in omega (arith, within, all)) at
