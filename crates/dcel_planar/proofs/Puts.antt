-- A vertex appended and connected by an edit, or taken back where there was no memory for that.
use Rattle.std.proofs.Common.{◌≡◌, ◌∙◌, ℕ, List, ◌++◌, sym, ap, subst, arith}
use Rattle.dcel_maps.specs.edits.Create.{vertex_appended}
use Rattle.dcel_maps.specs.edits.DefaultData.{AddsEdgesAndFaces}
use Rattle.dcel_maps.specs.edits.Outside.{face_closed}
use Rattle.dcel_maps.specs.Removals.{Closed}
use Rattle.dcel_maps.specs.Renumbering.{vertex_taken_out}
use Rattle.dcel_maps.specs.Shapes.{IsLive, IsMesh, Mesh, end_of, next_of}
use Rattle.dcel_maps.specs.Words.{count_of}
use Rattle.dcel_maps.proofs.words.Counts.{count-append}
use Rattle.dcel_predicates.specs.declared.point.Point.{Point}
use Rattle.dcel_plane.specs.Edges.{edges_closed}
use Rattle.dcel_plane.specs.Plane.{IsLeftOf, ListsCircled, point_at}
use Rattle.dcel_plane.proofs.edits.Outside.{closed_lists}
use Rattle.dcel_planar.specs.Growing.{Gains, HasHull, HasOutside, IsTriangleMesh, Keeps, KeepsListed}
use Rattle.dcel_planar.proofs.Growth.{appended-gains, gains-keeps, of_edit}
use Rattle.dcel_maps.proofs.renumbering.TakenBack.{appended-taken_out}
use Rattle.dcel_planar.proofs.Sound.{closed-triangulated}

module _ {DE UE F : Type 0} where
  -- a list with others before and behind what it lacks
  reordered : (m : Mesh Point DE UE F) (due list items lacking : List ℕ) → items ≡ due ++ list → ListsCircled (point_at m) m.shape ((due ++ lacking) ++ list)
      → ListsCircled (point_at m) m.shape (items ++ lacking)
  reordered m due list items lacking same lists u inner circled =
      let found = lists u inner circled in
      let whole = count-append u (due ++ lacking) list in
      let first = count-append u due lacking in
      let wanted = count-append u items lacking in
      let own : count_of u items ≡ count_of u (due ++ list) = ap (count_of u) same in
      let parts = count-append u due list in
      omega (arith, found, whole, first, wanted, own, parts)

  -- the mesh has one more vertex, with the point
  pub put_gains : (edit : Mesh Point DE UE F → ℕ → List DE → List UE → List F → Mesh Point DE UE F)
      → ((m : Mesh Point DE UE F) → m.shape.removal ≡ Closed → (v : ℕ) (h : List DE) (e : List UE) (g : List F) → Keeps m (edit m v h e g))
      → (is_half : DE → Type 0) (is_edge : UE → Type 0) (is_face : F → Type 0) (k j : ℕ) (old mid new : Mesh Point DE UE F) (p : Point) (v : ℕ) → old.shape.removal ≡ Closed → mid ≡ vertex_appended old p → v ≡ old.shape.vertices
      → AddsEdgesAndFaces is_half is_edge is_face k j new (edit mid v) → Gains old new p v
  put_gains edit keeps is_half is_edge is_face k j old mid new p v closed is last adds =
      let gains = appended-gains old mid p v last closed is in
      gains-keeps old mid new p v gains
      (of_edit is_half is_edge is_face k j new (edit mid v) (λ x. Keeps mid x) adds (λ h e g. keeps mid gains.closed v h e g))

  -- what the edit makes hold, whatever the default data are
  pub put_holds : {G : Type 0} (P : Mesh Point DE UE F → Type 0) (edit : Mesh Point DE UE F → ℕ → List DE → List UE → List G → Mesh Point DE UE F)
      (is_half : DE → Type 0) (is_edge : UE → Type 0) (is_face : G → Type 0) (k j : ℕ) (old mid new : Mesh Point DE UE F) (p : Point) (v : ℕ)
      → ((h : List DE) (e : List UE) (g : List G) → IsMesh (vertex_appended old p) → IsMesh (edit (vertex_appended old p) old.shape.vertices h e g)
      → P (edit (vertex_appended old p) old.shape.vertices h e g))
      → mid ≡ vertex_appended old p → v ≡ old.shape.vertices → AddsEdgesAndFaces is_half is_edge is_face k j new (edit mid v) → IsMesh mid → IsMesh new → P new
  put_holds P edit is_half is_edge is_face k j old mid new p v every is last adds mesh_mid mesh_new =
      let h = adds.directed_data in
      let e = adds.undirected_data in
      let g = adds.face_data in
      let at_end : new ≡ edit (vertex_appended old p) old.shape.vertices h e g = adds.is ∙ ap (λ (m : Mesh Point DE UE F). edit m v h e g) is ∙ ap (λ (x : ℕ). edit (vertex_appended old p) x h e g) last in
      subst P (sym at_end) (every h e g (subst (λ (m : Mesh Point DE UE F). IsMesh m) is mesh_mid) (subst (λ (m : Mesh Point DE UE F). IsMesh m) at_end mesh_new))

  -- and what was to be looked at is listed, with the edges of a list
  pub put_lists : (edit : Mesh Point DE UE F → ℕ → List DE → List UE → List F → Mesh Point DE UE F) (is_half : DE → Type 0) (is_edge : UE → Type 0) (is_face : F → Type 0) (k j : ℕ) (old mid new : Mesh Point DE UE F) (p : Point) (v : ℕ)
      (due list items : List ℕ)
      → ((lacking : List ℕ) (h : List DE) (e : List UE) (g : List F) → IsMesh (vertex_appended old p) → IsMesh (edit (vertex_appended old p) old.shape.vertices h e g)
      → ListsCircled (point_at old) old.shape (due ++ lacking)
      → ListsCircled (point_at (edit (vertex_appended old p) old.shape.vertices h e g)) (edit (vertex_appended old p) old.shape.vertices h e g).shape ((due ++ lacking) ++ list))
      → mid ≡ vertex_appended old p → v ≡ old.shape.vertices → AddsEdgesAndFaces is_half is_edge is_face k j new (edit mid v) → IsMesh mid → IsMesh new
      → items ≡ due ++ list → KeepsListed old new due items
  put_lists edit is_half is_edge is_face k j old mid new p v due list items every is last adds mesh_mid mesh_new same lacking lists =
      reordered new due list items lacking same
      (put_holds (λ (m : Mesh Point DE UE F). ListsCircled (point_at m) m.shape ((due ++ lacking) ++ list)) edit is_half is_edge is_face k j old mid new p v
      (λ h e g a b. every lacking h e g a b lists) is last adds mesh_mid mesh_new)

  -- taken back, nothing has changed
  pub put_back : (old mid same new : Mesh Point DE UE F) (p : Point) (v : ℕ) → IsMesh old → old.shape.removal ≡ Closed → mid ≡ vertex_appended old p → v ≡ old.shape.vertices → same ≡ mid
      → new ≡ vertex_taken_out same v → new ≡ old
  put_back old mid same new p v mesh closed is last stays gone =
      gone ∙ ap (λ (m : Mesh Point DE UE F). vertex_taken_out m v) (stays ∙ is) ∙ ap (λ (x : ℕ). vertex_taken_out (vertex_appended old p) x) last ∙ appended-taken_out old p mesh closed

  -- what is as it was is under way as it was
  pub stays_triangulated : (old new : Mesh Point DE UE F) → new ≡ old → IsTriangleMesh old → IsTriangleMesh new
  stays_triangulated old new is way = subst (λ (m : Mesh Point DE UE F). IsTriangleMesh m) (sym is) way

  pub stays_hull : (old new : Mesh Point DE UE F) → new ≡ old → HasHull old → HasHull new
  stays_hull old new is has = subst (λ (m : Mesh Point DE UE F). HasHull m) (sym is) has

  pub stays_outside : (old new : Mesh Point DE UE F) (due items : List ℕ) → new ≡ old → items ≡ due → HasOutside old due → HasOutside new items
  stays_outside old new due items is same outside =
      subst (λ (xs : List ℕ). HasOutside new xs) (sym same) (subst (λ (m : Mesh Point DE UE F). HasOutside m due) (sym is) outside)

  pub stays_listed : (old new : Mesh Point DE UE F) (due items : List ℕ) → new ≡ old → items ≡ due → KeepsListed old new due items
  stays_listed old new due items is same lacking lists =
      subst (λ (xs : List ℕ). ListsCircled (point_at new) new.shape (xs ++ lacking)) (sym same)
      (subst (λ (m : Mesh Point DE UE F). ListsCircled (point_at m) m.shape (due ++ lacking)) (sym is) lists)

  -- a triangle closed at the hull, and its edges listed
  module _ (is_half : DE → Type 0) (is_edge : UE → Type 0) (is_face : F → Type 0) (k j : ℕ) (old new : Mesh Point DE UE F) (x : ℕ) (mesh : IsMesh old)
      (live : IsLive old.shape x) (adds : AddsEdgesAndFaces is_half is_edge is_face k j new (face_closed old x)) (after : IsMesh new) where
    pub close_triangulated : IsTriangleMesh old → IsLeftOf (point_at old) old.shape (point_at old (end_of old.shape (next_of old.shape x))) x → IsTriangleMesh new
    close_triangulated way left =
        of_edit is_half is_edge is_face k j new (face_closed old x) (λ (m : Mesh Point DE UE F). IsTriangleMesh m) adds
        (λ h e g. closed-triangulated old x h e g mesh way live left)

    pub close_lists : (due items : List ℕ) → items ≡ due ++ edges_closed old.shape x → KeepsListed old new due items
    close_lists due items same lacking lists =
        reordered new due (edges_closed old.shape x) items lacking same
        (of_edit is_half is_edge is_face k j new (face_closed old x)
        (λ (m : Mesh Point DE UE F). IsMesh m → ListsCircled (point_at m) m.shape ((due ++ lacking) ++ edges_closed old.shape x)) adds
        (λ h e g done. closed_lists old mesh x live h e g (point_at old) (due ++ lacking) done lists) after)
