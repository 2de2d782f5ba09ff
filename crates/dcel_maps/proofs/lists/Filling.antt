-- The lists of the edits that fill a hole.
use Rattle.std.proofs.Common.{◌≡◌, ◌+◌, ◌-◌, ◌≤◌, ◌==◌, ℕ, cond, List, [], ◌∷◌, ◌++◌, length, replicate, reverse, Option, Some, None, refl, sym, ap, ◌∙◌, subst, arith}
use Rattle.std.proofs.lemmas.Bool.{cond-false, cond-true}
use Rattle.std.proofs.lemmas.List.{length-reverse}
use Rattle.dcel_maps.specs.Borders.{GivesUpRound, IsBorderLoop, center_of}
use Rattle.dcel_maps.specs.EditLists.{EditKind, EditedBy, ears_cut, filling, region_joined, vertex_cut_off}
use Rattle.dcel_maps.specs.EditLists.EditKind.{ear_cut}
use Rattle.dcel_maps.specs.Regions.{IsRing, inside}
use Rattle.dcel_maps.specs.Regions.IsRing.{of_region, of_vertex}
use Rattle.dcel_maps.specs.Removals.{Closed, Removal, opened, opened_with}
use Rattle.dcel_maps.specs.Shapes.{IsMesh, Mesh, face_count, map_of}
use Rattle.dcel_maps.specs.edits.Fill.{FillsHole, border_filled, edges_at, faces_at, hole_filled, loop_filled, ring_filled, ring_remeshed}
use Rattle.dcel_maps.proofs.lists.Made.{so}
use Rattle.dcel_maps.proofs.maps.Lists.{one_each-replicate}
use Rattle.dcel_maps.proofs.removal.Filled.{filled_comes}
use Rattle.dcel_maps.proofs.removal.Hollows.{HollowBy}
use Rattle.dcel_maps.proofs.removal.Insides.{as_many, inside-none, inside-vertex, one_more, region_hollow_by}
use Rattle.dcel_maps.proofs.removal.RingLists.{at_border, at_ring}
use Rattle.dcel_maps.proofs.removal.VertexHoles.{vertex_by}

module _ {V DE UE F : Type 0} (m : Mesh V DE UE F) (mesh : IsMesh m) (closed : m.shape.removal ≡ Closed) (border : List ℕ) (many : 3 ≤ length border)
    (halves : List DE) (edges : List UE) (faces : List F) where
  module _ (removal : Removal) (kinds : List EditKind) (by : HollowBy m.shape removal (reverse border) (face_count m.shape + (length border - 3)) kinds) where
    along : (ring : List ℕ) → reverse border ≡ ring → 3 ≤ length ring
        → EditedBy (kinds ++ ears_cut (length border)) m (loop_filled m removal ring halves edges faces)
    along [] is enough = absurd (omega (arith, enough))
    along (p ∷ []) is enough = absurd (omega (arith, enough))
    along (p ∷ q ∷ []) is enough = absurd (omega (arith, enough))
    along (p ∷ q ∷ r ∷ rest) is enough =
        let long : length border ≡ length (p ∷ q ∷ r ∷ rest) = sym (length-reverse border) ∙ ap length is in
        let count : length border - 3 ≡ length rest = omega (arith, long) in
        let there : HollowBy m.shape removal (p ∷ q ∷ r ∷ rest) (face_count m.shape + length rest) kinds =
        subst (λ k. HollowBy m.shape removal (p ∷ q ∷ r ∷ rest) (face_count m.shape + k) kinds) count
        (subst (λ (w : List ℕ). HollowBy m.shape removal w (face_count m.shape + (length border - 3)) kinds) is by) in
        subst (λ ears. EditedBy (kinds ++ ears) m (ring_filled m removal p q r rest halves edges faces))
        (one_each-replicate ear_cut rest ∙ ap (λ k. replicate k ear_cut) (sym count))
        (filled_comes m p q r rest halves edges faces mesh closed removal there.hollow kinds there.comes)

    border_made : EditedBy (kinds ++ ears_cut (length border)) m (border_filled m removal border halves edges faces)
    border_made = along (reverse border) refl (omega (arith, many, length-reverse border))

module _ {V DE UE F : Type 0} (m : Mesh V DE UE F) (mesh : IsMesh m) (closed : m.shape.removal ≡ Closed) (border : List ℕ)
    (halves : List DE) (edges : List UE) (faces : List F) where
  -- the vertex v inside the border goes
  vertex_filled : (v : ℕ) (removal : Removal) → IsBorderLoop m.shape border v → GivesUpRound m.shape v removal
      → EditedBy (vertex_cut_off (length border) ++ ears_cut (length border)) m (border_filled m removal border halves edges faces)
  vertex_filled v removal loop gives =
      border_made m mesh closed border loop.many halves edges faces removal (vertex_cut_off (length border))
      (vertex_by m.shape mesh.sound mesh.sphere closed border v (face_count m.shape + (length border - 3)) loop removal gives (omega arith))

module _ {V DE UE F : Type 0} (m : Mesh V DE UE F) (mesh : IsMesh m) (closed : m.shape.removal ≡ Closed) (border : List ℕ)
    {is_half : DE → Type 0} {is_edge : UE → Type 0} {is_face : F → Type 0} (t : Mesh V DE UE F) where
  pub isolate_listed : (v : ℕ) → FillsHole is_half is_edge is_face border t (hole_filled m v border) → IsBorderLoop m.shape border v
      → EditedBy (vertex_cut_off (length border) ++ ears_cut (length border)) m t
  isolate_listed v adds loop =
      let halves = adds.directed_data in
      let edges = adds.undirected_data in
      let faces = adds.face_data in
      so (vertex_cut_off (length border) ++ ears_cut (length border)) (map_of m.shape) t (hole_filled m v border halves edges faces) adds.is
      (vertex_filled m mesh closed border halves edges faces v (opened (edges_at m v) (faces_at m v) v) loop (at_border m mesh border v loop))

  module _ (gone_edges gone_faces : List ℕ) (adds : FillsHole is_half is_edge is_face border t (ring_remeshed m border gone_edges gone_faces)) where
    abbrev with_inside : Option ℕ → Mesh V DE UE F
    with_inside v = border_filled m (opened_with gone_edges gone_faces v) border adds.directed_data adds.undirected_data adds.face_data

    abbrev opening : List EditKind
    opening = cond (length gone_edges == length gone_faces) (vertex_cut_off (length border)) (region_joined (length gone_edges))

    -- what lies inside is v, and goes by these edits
    remeshed : (v : Option ℕ) (kinds : List EditKind) → inside m.shape border gone_edges gone_faces ≡ v → opening ≡ kinds
        → EditedBy (kinds ++ ears_cut (length border)) m (with_inside v) → EditedBy (filling border gone_edges gone_faces) m t
    remeshed v kinds in_ring by comes =
        so (filling border gone_edges gone_faces) (map_of m.shape) t (with_inside (inside m.shape border gone_edges gone_faces)) adds.is
        (subst (λ v. EditedBy (filling border gone_edges gone_faces) m (with_inside v)) (sym in_ring)
        (subst (λ kinds. EditedBy (kinds ++ ears_cut (length border)) m (with_inside v)) (sym by) comes))

    pub remesh_listed : IsRing m.shape border gone_edges gone_faces → EditedBy (filling border gone_edges gone_faces) m t
    remesh_listed (of_vertex ring) =
        let v = center_of m.shape border in
        remeshed (Some v) (vertex_cut_off (length border)) (inside-vertex m mesh border gone_edges gone_faces ring)
        (cond-true (length gone_edges == length gone_faces) (vertex_cut_off (length border)) (region_joined (length gone_edges))
        (as_many m mesh border gone_edges gone_faces ring))
        (vertex_filled m mesh closed border adds.directed_data adds.undirected_data adds.face_data v (opened gone_edges gone_faces v) ring.border_loop
        (at_ring m.shape border gone_edges gone_faces ring))
    remesh_listed (of_region ring) =
        remeshed None (region_joined (length gone_edges)) (inside-none m.shape border gone_edges gone_faces ring)
        (cond-false (length gone_edges == length gone_faces) (vertex_cut_off (length border)) (region_joined (length gone_edges))
        (one_more m.shape border gone_edges gone_faces ring))
        (border_made m mesh closed border ring.many adds.directed_data adds.undirected_data adds.face_data (opened_with gone_edges gone_faces None)
        (region_joined (length gone_edges))
        (region_hollow_by m.shape mesh.sound mesh.sphere border gone_edges gone_faces ring (face_count m.shape + (length border - 3)) (omega arith)))
