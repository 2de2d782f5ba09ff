-- A walk towards a point has no more steps than there are other triangles.
use Rattle.std.proofs.Common.{◌≡◌, inl, inr, ℕ, ◌+◌, ◌/◌, ◌<◌, ◌≤◌, true, List, [], ◌∷◌, length, map, refl, sym, ap, ◌∙◌, subst, pos, ◌<ℤ◌, eq-zero-or-pos, arith}
use Rattle.std.proofs.lemmas.Bool.{cases_Bool, cases_eq}
use Rattle.dcel_fixed.specs.HalfEdges.{rev}
use Rattle.dcel_fixed.proofs.Halves.{rev-rev}
use Rattle.dcel_predicates.specs.Determinants.{orient2d_of}
use Rattle.dcel_predicates.specs.declared.point.Point.{Point}
use Rattle.dcel_predicates.proofs.Points.{orient2d-first_swapped}
use Rattle.dcel_predicates.proofs.Signs.{ordered}
use Rattle.dcel_maps.specs.Maps.{count}
use Rattle.dcel_maps.specs.Removals.{gives_up_edge, gives_up_face}
use Rattle.dcel_maps.specs.Shapes.{IsLive, IsMesh, Mesh, Shape, edge_is_live, end_of, face_count, face_is_live, face_of, map_of, origin_of}
use Rattle.dcel_maps.specs.Triangulations.{AllTriangles}
use Rattle.dcel_maps.specs.Words.{count_of}
use Rattle.dcel_maps.proofs.Liveness.{is_live-from, is_live-parts}
use Rattle.dcel_maps.proofs.maps.Halves.{rev_or_same}
use Rattle.dcel_maps.proofs.maps.Soundness.{rev_live}
use Rattle.dcel_maps.proofs.shapes.Maps.{face-live}
use Rattle.dcel_maps.proofs.words.Counts.{count-equal, count-none, count-other, first_or_later}
use Rattle.dcel_maps.proofs.words.Mapped.{mapped_once}
use Rattle.dcel_plane.specs.Plane.{IsLocallyDelaunay}
use Rattle.dcel_plane.specs.location.Locating.{HasBeyond, Walks, orient2d_along}
use Rattle.dcel_plane.proofs.location.Counting.{length-le_count, length-mapped, mapped-all}
use Rattle.dcel_plane.proofs.location.Crossed.{faces_once, stands_anew}

module _ {V DE UE F : Type 0} (m : Mesh V DE UE F) (mesh : IsMesh m) (triangles : AllTriangles m.shape) (at : ℕ → Point) (delaunay : IsLocallyDelaunay at m.shape) (p : Point) where
  abbrev s : Shape
  s = m.shape

  -- no half edge is crossed twice
  pub half_edges_once : (g f : ℕ) (list : List ℕ) → Walks at s p g list f → (y : ℕ) → count_of y list ≤ 1
  half_edges_once g f [] walk y = omega arith
  half_edges_once g f (k ∷ rest) walk y =
      let before = half_edges_once g (face_of s k) rest walk.2 y in
      elim (cases_eq y k) [
        | inl is ↦
            let none : count_of y rest ≡ 0 =
            count-none y rest (λ x found same. (stands_anew m mesh triangles at delaunay p g (face_of s k) rest walk.2 x found).1 (ap (face_of s) (sym same ∙ is))) in
            let e = count-equal y k rest is in omega (arith, e, none)
        | inr other ↦ let e = count-other y k rest other in omega (arith, e, before)
      ]

  -- nor from both sides
  one_way : (h k : ℕ) → HasBeyond at s p h → HasBeyond at s p k → h / 2 ≡ k / 2 → h ≡ k
  one_way h k has_h has_k same = elim (rev_or_same h k same) [
    | inl is ↦ is
    | inr is ↦
        let x = has_k.right in
        let y : orient2d_of (at (end_of s k)) (at (origin_of s k)) p <ℤ pos 0 =
        subst (λ (i : ℕ). orient2d_of (at (end_of s k)) (at (origin_of s i)) p <ℤ pos 0) (rev-rev k) (subst (λ (i : ℕ). orient2d_along at s i p <ℤ pos 0) is has_h.right) in
        let e = orient2d-first_swapped (at (origin_of s k)) (at (end_of s k)) p in
        absurd (omega (arith, ordered, e, x, y))
  ]

  pub few_edges : (g f : ℕ) (list : List ℕ) → Walks at s p g list f → length list ≤ count (edge_is_live s) s.edges
  few_edges g f list walk =
      let has = stands_anew m mesh triangles at delaunay p g f list walk in
      omega (
        arith,
        length-mapped (λ (h : ℕ). h / 2) list,
        length-le_count (edge_is_live s) s.edges (map (λ (h : ℕ). h / 2) list)
            (mapped_once (λ (h : ℕ). h / 2) list (half_edges_once g f list walk) (λ x y in_x in_y. one_way x y (has x in_x).0 (has y in_y).0))
            (mapped-all (λ (u : ℕ). (u < s.edges) × (edge_is_live s u ≡ true)) (λ (h : ℕ). h / 2) list
            (λ x found. ((is_live-parts (gives_up_edge s.removal) s.edges (x / 2) (has x found).0.live).0, (has x found).0.live))),
      )

  abbrev IsPassed : ℕ → Type 0
  IsPassed y = (y < face_count s) × (face_is_live s y ≡ true)

  passed : (h : ℕ) → IsLive s h → IsPassed (face_of s h)
  passed h live = let face = face-live mesh.sound h live in ((is_live-parts (gives_up_face s.removal) (face_count s) (face_of s h) face).0, face)

  -- the outer face is live
  outer : IsPassed 0
  outer = (
    mesh.sized.outer,
    is_live-from (gives_up_face s.removal) (face_count s) 0 mesh.sized.outer
        (elim (cases_Bool (gives_up_face s.removal 0)) [ inl given ↦ absurd (omega (arith, (mesh.sized.within.faces 0 given).0)) | inr kept ↦ kept ]),
  )

  -- the faces of a walk, the one where it stands, and the outer face are different
  pub few_faces : (g h : ℕ) (list : List ℕ) → IsLive s h → 0 < face_of s h → Walks at s p g list (face_of s h) → length list + 2 ≤ count (face_is_live s) (face_count s)
  few_faces g h list live inner walk =
      let w = map (face_of s) list in
      let f = face_of s h in
      let has = stands_anew m mesh triangles at delaunay p g f list walk in
      let above : (y : ℕ) → 0 < count_of y w → 0 < y = mapped-all (λ (y : ℕ). 0 < y) (face_of s) list (λ x found. (has x found).0.inner) in
      let on_way : (y : ℕ) → 0 < count_of y w → IsPassed y = mapped-all IsPassed (face_of s) list (λ x found. passed x (has x found).0.live) in
      let once = faces_once m mesh triangles at delaunay p g f list walk in
      omega (
        arith,
        length-mapped (face_of s) list,
        length-le_count (face_is_live s) (face_count s) (0 ∷ f ∷ w)
            (λ y. elim (cases_eq y 0) [
              | inl is ↦
                  let none : count_of y (f ∷ w) ≡ 0 = count-none y (f ∷ w) (λ x found same. elim (first_or_later x f w found) [
                    | inl first ↦ omega (arith, first, same, is, inner)
                    | inr later ↦ omega (arith, above x later, same, is)
                  ]) in
                  let e = count-equal y 0 (f ∷ w) is in omega (arith, e, none)
              | inr other ↦ let e = count-other y 0 (f ∷ w) other in omega (arith, e, once y)
            ])
            (λ y found. elim (first_or_later y 0 (f ∷ w) found) [
              | inl is ↦ subst IsPassed (sym is) outer
              | inr later ↦ elim (first_or_later y f w later) [
                | inl is ↦ subst IsPassed (sym is) (passed h live)
                | inr on ↦ on_way y on
              ]
            ]),
      )

  -- a walk that has come to each triangle steps into none
  pub last_step : (g h : ℕ) (list : List ℕ) → Walks at s p g list (face_of s h) → HasBeyond at s p h → count (face_is_live s) (face_count s) ≤ length list + 2 → face_of s (rev h) ≡ 0
  last_step g h list walk has all = elim (eq-zero-or-pos (face_of s (rev h))) [
    | inl is ↦ is
    | inr inner ↦ absurd (omega (arith, all, few_faces g (rev h) (h ∷ list) (rev_live (map_of s) h has.live) inner (has, refl, walk)))
  ]
