-- What a hole that is filled leaves: counts, the vertices, and the new faces with their edges.
use Rattle.std.proofs.Common.{◌≡◌, ℕ, ◌+◌, ◌/◌, ◌<◌, ◌≤◌, true, List, [], ◌∷◌, length, reverse, unwrap_or, Option, Some, None, refl, sym, ap, ◌∙◌, subst, arith}
use Rattle.std.proofs.lemmas.Bool.{false_from_ne_true}
use Rattle.std.proofs.lemmas.List.{length-reverse}
use Rattle.dcel_predicates.specs.declared.point.Point.{Point}
use Rattle.dcel_maps.specs.Borders.{IsBorderLoop}
use Rattle.dcel_maps.specs.Conditions.{IsTriangle}
use Rattle.dcel_maps.specs.Cyclic.{from_least}
use Rattle.dcel_maps.specs.edits.Fill.{edges_at, faces_at, hole_filled, loop_filled}
use Rattle.dcel_maps.specs.Removals.{Closed, gives_up_face, opened}
use Rattle.dcel_maps.specs.Shapes.{AnchorsWord, IsLive, IsMesh, Mesh, Shape, adjacent_edge_of, face_anchor, face_count, face_is_live, face_of, map_of, next_of, prev_of}
use Rattle.dcel_maps.specs.Words.{count_of, word_of}
use Rattle.dcel_maps.proofs.Liveness.{is_live-from, is_live-parts}
use Rattle.dcel_maps.proofs.edits.Linking.{triangle_of}
use Rattle.dcel_maps.proofs.removal.Filled.{face_below, words_long}
use Rattle.dcel_maps.proofs.shapes.Maps.{map-sound}
use Rattle.dcel_maps.proofs.walks.Links.{links_stand}
use Rattle.dcel_maps.proofs.words.Counts.{count-same}
use Rattle.dcel_maps.proofs.words.Mapped.{count-at}
use Rattle.dcel_maps.proofs.words.Reading.{face_in_word, live_in, stands_in_face}
use Rattle.dcel_maps.proofs.words.Triangles.{triangle_written}
use Rattle.dcel_plane.specs.Edges.{edges_inserted}
use Rattle.dcel_plane.proofs.edits.Corners.{of_least, three_items}
use Rattle.dcel_plane.proofs.removal.Deleting.{by_three, hole}

module _ {V DE UE F : Type 0} (m : Mesh V DE UE F) (mesh : IsMesh m) (f : ℕ) (triangle : IsTriangle m.shape f) where
  abbrev s : Shape
  s = m.shape

  -- the anchor of a triangle lies on it
  on_anchor : (anchor : Option ℕ) → AnchorsWord (word_of s.words f) anchor → 0 < count_of (unwrap_or anchor 0) (word_of s.words f)
  on_anchor None empty = absurd (let none = ap length empty in let three = triangle.three in omega (arith, none, three))
  on_anchor (Some a) found = found

  -- each of its half edges belongs to one of its three edges
  pub side_listed : (h : ℕ) → IsLive m.shape h → face_of m.shape h ≡ f → 0 < count_of (h / 2) (edges_inserted m f)
  side_listed h live on =
      let a = adjacent_edge_of m f in
      let below = (is_live-parts (gives_up_face s.removal) (face_count s) f triangle.live).0 in
      let found : 0 < count_of a (word_of s.words f) = on_anchor (face_anchor m f) (mesh.anchored.faces f below) in
      let live_a : IsLive s a = live_in (map_of s) s.words (links_stand mesh.sound) a f found in
      let on_a : face_of s a ≡ f = face_in_word (map_of s) s.words (links_stand mesh.sound) a f found in
      let round = triangle_of m mesh a live_a (subst (IsTriangle s) (sym on_a) triangle) in
      let written : word_of s.words (face_of s a) ≡ from_least (a ∷ next_of s a ∷ prev_of s a ∷ []) =
      triangle_written (map_of s) (map-sound mesh.sound) (face_of s a) a (next_of s a) (prev_of s a) round s.words (links_stand mesh.sound) in
      let there : 0 < count_of h (word_of s.words f) = subst (λ (k : ℕ). 0 < count_of h (word_of s.words k)) on (stands_in_face (map_of s) s.words (links_stand mesh.sound) h live) in
      let list = edges_inserted m f in
      of_least (λ x. 0 < count_of (x / 2) list) a (next_of s a) (prev_of s a) h (count-at list 0 0 (omega arith)) (count-at list 1 0 (omega arith)) (count-at list 2 0 (omega arith))
      (subst (λ (w : List ℕ). 0 < count_of h w) (ap (word_of s.words) (sym on_a) ∙ written) there)

  -- it has one
  pub half_of_triangle : (h : ℕ) × IsLive m.shape h × (face_of m.shape h ≡ f)
  half_of_triangle =
      let (a, b, c, is) = three_items (word_of s.words f) triangle.three in
      let found : 0 < count_of a (word_of s.words f) = subst (λ (w : List ℕ). 0 < count_of a w) (sym is) (let n = count-same a (b ∷ c ∷ []) in omega (arith, n)) in
      (a, live_in (map_of s) s.words (links_stand mesh.sound) a f found, face_in_word (map_of s) s.words (links_stand mesh.sound) a f found)

-- counts and vertices, and that the faces from the old count on are live
pub record IsHole {V DE UE F : Type 0} (m n : Mesh V DE UE F) (v k : ℕ) : Type 0 where
  pub vertices : n.shape.vertices ≡ m.shape.vertices
  pub points : n.vertex_data ≡ m.vertex_data
  pub removal : n.shape.removal ≡ opened (edges_at m v) (faces_at m v) v
  pub edges : n.shape.edges + 3 ≡ m.shape.edges + k
  pub faces : face_count n.shape + 2 ≡ face_count m.shape + k
  pub new_live : (f : ℕ) → face_count m.shape ≤ f → f < face_count n.shape → face_is_live n.shape f ≡ true

pub hole_is : {V DE UE F : Type 0} (m : Mesh V DE UE F) → IsMesh m → m.shape.removal ≡ Closed → (border : List ℕ) (v : ℕ) → IsBorderLoop m.shape border v
    → (halves : List DE) (edges : List UE) (faces : List F) (at : ℕ → Point) → IsHole m (hole_filled m v border halves edges faces) v (length border)
hole_is m mesh closed border v l halves edges faces at =
    subst (λ (k : ℕ). IsHole m (hole_filled m v border halves edges faces) v k) (length-reverse border)
    (by_three (λ w. IsHole m (loop_filled m (opened (edges_at m v) (faces_at m v) v) w halves edges faces) v (length w)) (reverse border) many (λ p q r rest is.
    let given = opened (edges_at m v) (faces_at m v) v in
    let empty = hole m mesh closed border v l halves edges faces at p q r rest is in
    let faces_are = words_long m p q r rest halves edges faces mesh closed given empty in
    record {
      vertices = refl;
      points = refl;
      removal = refl;
      edges = omega arith;
      faces = omega (arith, faces_are);
      new_live = λ f past below.
          is_live-from (gives_up_face given) (face_count (loop_filled m given (p ∷ q ∷ r ∷ rest) halves edges faces).shape) f below
          (false_from_ne_true (gives_up_face given f) (λ gone.
          let under = (face_below m p q r rest halves edges faces mesh closed given empty f gone).1 in omega (arith, under, past)));
    }))
  where
    many : 3 ≤ length (reverse border)
    many = (let more = l.many in let e = length-reverse border in omega (arith, more, e))
