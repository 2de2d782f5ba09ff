-- The hole inside a border, whose ring is read from the border's end: it can be filled, and the lists hold the mesh with the hole filled.
use Rattle.std.proofs.Common.{◌≡◌, ℕ, suc, ◌+◌, ◌-◌, List, [], ◌∷◌, ◌++◌, length, reverse, slice_index, Option, refl, sym, ap, ◌∙◌, subst, arith}
use Rattle.std.proofs.lemmas.List.{length-append, length-reverse, reverse-append}
use Rattle.dcel_store.specs.Lists.{HasPlaces, Lists}
use Rattle.dcel_maps.specs.Conditions.{HasRoom}
use Rattle.dcel_maps.specs.Regions.{LiesInside}
use Rattle.dcel_maps.specs.Removals.{Closed, Removal, opened_with}
use Rattle.dcel_maps.specs.Shapes.{Mesh, face_count}
use Rattle.dcel_maps.specs.edits.Fill.{border_filled, loop_filled}
use Rattle.dcel_maps.proofs.removal.Hollows.{HollowOf}
use Rattle.dcel_maps.proofs.removal.Insides.{inside_hollow, opened_with-faces, opened_with-vertex}
use Rattle.dcel_edits.specs.Fill.{CanGiveUp, CanPutEars, EarsPut, begun_stored, closing, given_up}
use Rattle.dcel_edits.proofs.stored.Changes.{HoldsAdded, held_mesh, held_removal}
use Rattle.dcel_edits.proofs.stored.Holding.{Holds}
use Rattle.dcel_edits.proofs.stored.Opening.{can_give_up, can_put_ears, opened_holds}

read_thrice : (left : List ℕ) (p q r : ℕ) → reverse (((left ++ r ∷ []) ++ q ∷ []) ++ p ∷ []) ≡ p ∷ q ∷ r ∷ reverse left
read_thrice left p q r =
    reverse-append ((left ++ r ∷ []) ++ q ∷ []) (p ∷ [])
    ∙ ap (λ l. p ∷ l) (reverse-append (left ++ r ∷ []) (q ∷ []) ∙ ap (λ l. q ∷ l) (reverse-append left (r ∷ [])))

-- a border split three times at its end
split_thrice : (left others more border : List ℕ) (p q r : ℕ) → border ≡ more ++ p ∷ [] → more ≡ others ++ q ∷ [] → others ≡ left ++ r ∷ []
    → border ≡ ((left ++ r ∷ []) ++ q ∷ []) ++ p ∷ []
split_thrice left others more border p q r a b c = a ∙ ap (λ l. l ++ p ∷ []) (b ∙ ap (λ l. l ++ q ∷ []) c)

module _ {V DE UE F : Type 0} {s : Lists V DE UE F} {record_now : Removal} {m : Mesh V DE UE F} (given : Holds s record_now m)
    (closed : m.shape.removal ≡ Closed) (p q r : ℕ) (left others more border edges faces : List ℕ) (v : Option ℕ)
    (lies : LiesInside m.shape border edges faces v)
    (first : border ≡ more ++ p ∷ []) (second : more ≡ others ++ q ∷ []) (third : others ≡ left ++ r ∷ [])
    (room : HasRoom m.shape 0 (length border - 3) (length border - 2)) where
  held : Holds s Closed m
  held = subst (λ q. Holds s q m) (sym (held_removal s record_now m given) ∙ closed) given

  abbrev removal : Removal
  removal = opened_with edges faces v

  hole : HollowOf m.shape removal (reverse border) (face_count m.shape + (length border - 3))
  hole =
      let mesh = held_mesh s Closed m held in
      inside_hollow m.shape mesh.sound mesh.sphere closed border edges faces v lies (face_count m.shape + (length border - 3)) (omega arith)

  parts : border ≡ ((left ++ r ∷ []) ++ q ∷ []) ++ p ∷ []
  parts = split_thrice left others more border p q r first second third

  ring : reverse border ≡ p ∷ q ∷ r ∷ reverse left
  ring = ap reverse parts ∙ read_thrice left p q r

  long : length border ≡ length left + 3
  long =
      let all = ap length parts in
      omega (arith, all, length-append ((left ++ r ∷ []) ++ q ∷ []) (p ∷ []), length-append (left ++ r ∷ []) (q ∷ []), length-append left (r ∷ []))

  -- the hole along the items of the ring
  along : HollowOf m.shape removal (p ∷ q ∷ r ∷ reverse left) (face_count m.shape + length (reverse left))
  along =
      let turned = length-reverse left in
      let number : face_count m.shape + (length border - 3) ≡ face_count m.shape + length (reverse left) = omega (arith, long, turned) in
      subst (λ n. HollowOf m.shape removal (p ∷ q ∷ r ∷ reverse left) n) number
      (subst (λ (w : List ℕ). HollowOf m.shape removal w (face_count m.shape + (length border - 3))) ring hole)

  fewer : (k : ℕ) → k ≡ length left → HasRoom m.shape 0 k (suc k)
  fewer k is = record {
    for_vertices = room.for_vertices;
    for_edges = omega (arith, room.for_edges, long, is);
    for_faces = omega (arith, room.for_faces, long, is);
  }

  -- the ring can be cut into ears
  pub hole_can : HasPlaces s 0 (length left) (length left + 1) → CanPutEars s p q r left
  hole_can places =
      can_put_ears s m held p q r (reverse left) removal (face_count m.shape + length (reverse left)) along left refl
      (subst (λ k. HasRoom m.shape 0 (length left) k) (omega arith) (fewer (length left) refl)) places

  module _ (is_half : DE → Type 0) (is_edge : UE → Type 0) (is_face : F → Type 0) (u : Lists V DE UE F) (put : EarsPut is_half is_edge is_face (slice_index s.origin p) (begun_stored s p q (closing (length s.undirected_data) r (reverse left))) p q r (reverse left) u) where
    -- what lies inside can be given up
    pub hole_given_up : CanGiveUp u v faces
    hole_given_up = can_give_up is_half is_edge is_face s u m held v p q r (reverse left) faces removal along (opened_with-vertex edges faces v) (opened_with-faces edges faces v) put

    -- and then the hole is filled
    pub hole_holds : HoldsAdded is_half is_edge is_face (length border - 3) (length border - 2) (given_up u v faces) removal (border_filled m removal border)
    hole_holds =
        let turned = length-reverse left in
        let many_edges : length (reverse left) ≡ length border - 3 = omega (arith, turned, long) in
        let many_faces : suc (length (reverse left)) ≡ length border - 2 = omega (arith, turned, long) in
        subst (λ (z : List ℕ). HoldsAdded is_half is_edge is_face (length border - 3) (length border - 2) (given_up u v faces) removal (loop_filled m removal z)) (sym ring)
        (subst (λ k. HoldsAdded is_half is_edge is_face k (length border - 2) (given_up u v faces) removal (loop_filled m removal (p ∷ q ∷ r ∷ reverse left))) many_edges
        (subst (λ k. HoldsAdded is_half is_edge is_face (length (reverse left)) k (given_up u v faces) removal (loop_filled m removal (p ∷ q ∷ r ∷ reverse left))) many_faces
        (opened_holds is_half is_edge is_face s u m held v p q r (reverse left) faces removal along (opened_with-vertex edges faces v) (opened_with-faces edges faces v) put
        (fewer (length (reverse left)) turned))))
