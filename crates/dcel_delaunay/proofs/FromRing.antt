-- A vertex with three or four edges removed by one call: it leaves what the calls leave that give it up, clean up and take it out.
use Rattle.std.proofs.Common.{◌≡◌, ◌⊎◌, inl, inr, ℕ, zero, suc, ◌+◌, ◌-◌, ◌*◌, ◌/◌, ◌<◌, ◌≤◌, ◌==◌, Bool, false, List, [], ◌∷◌, ◌++◌, length, map, reverse, refl, sym, ap, ◌∙◌, subst, arith}
use Rattle.std.specs.List.{list_any}
use Rattle.std.proofs.lemmas.Bool.{cases_Bool, cases_eq, cases_lt, false≢true}
use Rattle.std.proofs.lemmas.List.{append-nil, length-reverse}
use Rattle.dcel_maps.specs.Conditions.{HasRoom}
use Rattle.dcel_maps.specs.edits.Fill.{FillsHole, ears, edges_at, faces_at, hole_filled, loop_filled}
use Rattle.dcel_maps.specs.Removals.{IsListed, Removal, ascending, opened}
use Rattle.dcel_maps.specs.Renumbering.{cleaned_up, vertex_taken_out}
use Rattle.dcel_maps.specs.Shapes.{IsLive, IsMesh, Mesh, face_count, face_of, map_of, next_of}
use Rattle.dcel_maps.specs.Walking.{ccw_of, walk_of}
use Rattle.dcel_maps.specs.Words.{count_of, word_of}
use Rattle.dcel_maps.proofs.removal.Filled.{word-ear}
use Rattle.dcel_maps.proofs.removal.FilledMeshes.{ring_filled-mesh}
use Rattle.dcel_maps.proofs.renumbering.Cleanup.{cleaned_up-mesh}
use Rattle.dcel_maps.proofs.walks.Links.{links_stand}
use Rattle.dcel_maps.proofs.walks.Turning.{walk-out_edges}
use Rattle.dcel_maps.proofs.words.Ascending.{any-ascending}
use Rattle.dcel_maps.proofs.words.Counts.{count-append, count-other, count-reverse, count-same}
use Rattle.dcel_maps.proofs.words.Cyclic.{count-from_least}
use Rattle.dcel_maps.proofs.words.Mapped.{count-mapped, mapped_from, stands_any}
use Rattle.dcel_maps.proofs.words.Reading.{stands_in_face}
use Rattle.dcel_predicates.specs.declared.point.Point.{Point}
use Rattle.dcel_plane.specs.Plane.{point_at}
use Rattle.dcel_plane.proofs.covering.Triangles.{round}
use Rattle.dcel_plane.proofs.removal.Deleting.{by_three, hole}
use Rattle.dcel_plane.proofs.removal.Holes.{IsHole, hole_is}
use Rattle.dcel_planar.specs.Growing.{IsTriangleMesh}
use Rattle.dcel_delaunay.specs.Removing.{IsEmptied, IsFilled, IsThinnedOut}
use Rattle.dcel_delaunay.specs.Thinning.{ListsAround, with_spokes}
use Rattle.dcel_delaunay.proofs.Emptied.{emptied, given_spokes, lists_after}
use Rattle.dcel_delaunay.proofs.Fewer.{given_fewer, named_dead}

-- where the sides around v are listed, the list has what it would have with the border and the edges of v, but for these
module _ {DE UE F : Type 0} (m : Mesh Point DE UE F) (mesh : IsMesh m) (v : ℕ) (thin : IsThinnedOut m v) (border : List ℕ) (filled : IsFilled m v border) (list : List ℕ)
    (around : ListsAround m.shape v (with_spokes m v list)) where
  border_listed : (u : ℕ) → 0 < count_of u (map (λ h. h / 2) border) → 0 < count_of u (with_spokes m v list)
  border_listed u found =
      let loop = filled.round in
      let (x, there, is) = mapped_from (λ h. h / 2) border u found in
      let c = count-reverse x border in
      let turned : 0 < count_of x (map (next_of m.shape) (walk_of m.shape (ccw_of m.shape) loop.first)) = subst (λ (l : List ℕ). 0 < count_of x l) loop.ring (omega (arith, c, there)) in
      let (k, in_walk, next) = mapped_from (next_of m.shape) (walk_of m.shape (ccw_of m.shape) loop.first) x turned in
      let out = (walk-out_edges mesh.sound v loop.first loop.out).no_other k in_walk in
      let inner = thin.inside k out in
      let tri = round m mesh thin.triangles k out.live inner in
      let listed = around k (next_of m.shape k) out.live out.start inner tri.live_y tri.face_y in
      subst (λ (y : ℕ). 0 < count_of y (with_spokes m v list)) (ap (λ (h : ℕ). h / 2) next ∙ is) listed

  around_enough : (fresh spokes : List ℕ) → spokes ≡ ascending (edges_at m v) → (u : ℕ) → list_any (λ e. e == u) spokes ≡ false
      → 0 < count_of u (with_spokes m v list ++ (map (λ h. h / 2) border ++ fresh)) → 0 < count_of u (list ++ fresh)
  around_enough fresh spokes are u not found =
      let none : list_any (λ e. e == u) (edges_at m v) ≡ false =
      sym (any-ascending (λ e. e == u) (edges_at m v)) ∙ ap (list_any (λ e. e == u)) (sym are) ∙ not in
      let whole = count-append u (with_spokes m v list) (map (λ h. h / 2) border ++ fresh) in
      let behind = count-append u (map (λ h. h / 2) border) fresh in
      let parts = count-append u list (edges_at m v) in
      let all = count-append u list fresh in
      elim (cases_lt 0 (count_of u fresh)) [
        | inl new ↦ omega (arith, all, new)
        | inr old ↦
            let there : 0 < count_of u (with_spokes m v list) = elim (cases_lt 0 (count_of u (with_spokes m v list))) [
              | inl is ↦ is
              | inr missing ↦ border_listed u (omega (arith, whole, behind, found, missing, old))
            ] in
            elim (cases_lt 0 (count_of u (edges_at m v))) [
              | inl own ↦ absurd (false≢true (sym none ∙ stands_any u (edges_at m v) own))
              | inr off ↦ omega (arith, there, parts, off, all)
            ]
      ]

-- a half edge on an ear of a ring of three or four is of the ring, or of the edge that cuts the first ear off
one_of_ears : (e p q r : ℕ) (rest : List ℕ) (h i : ℕ) → length rest ≤ 1 → 0 < count_of h (word_of (ears e p q r rest) i)
    → (0 < count_of h (p ∷ q ∷ r ∷ rest)) ⊎ ((0 < length rest) × (h / 2 ≡ e))
one_of_ears e p q r [] h zero few found = inl (let c = count-from_least h (p ∷ q ∷ r ∷ []) in omega (arith, c, found))
one_of_ears e p q r [] h (suc i) few found = absurd (omega (arith, found))
one_of_ears e p q r (x ∷ []) h zero few found =
    let c = count-from_least h (p ∷ q ∷ 2 * e ∷ []) in
    let a = count-append h (p ∷ q ∷ []) (2 * e ∷ []) in
    let b = count-append h (p ∷ q ∷ []) (r ∷ x ∷ []) in
    elim (cases_eq h (2 * e)) [
      | inl is ↦ inr (omega arith, omega (arith, is))
      | inr not ↦ inl (let o = count-other h (2 * e) [] not in omega (arith, c, found, a, b, o))
    ]
one_of_ears e p q r (x ∷ []) h (suc zero) few found =
    let c = count-from_least h ((2 * e + 1) ∷ r ∷ x ∷ []) in
    let a = count-append h ((2 * e + 1) ∷ []) (r ∷ x ∷ []) in
    let b = count-append h (p ∷ q ∷ []) (r ∷ x ∷ []) in
    elim (cases_eq h (2 * e + 1)) [
      | inl is ↦ inr (omega arith, omega (arith, is))
      | inr not ↦ inl (let o = count-other h (2 * e + 1) [] not in omega (arith, c, found, a, b, o))
    ]
one_of_ears e p q r (x ∷ []) h (suc (suc i)) few found = absurd (omega (arith, found))
one_of_ears e p q r (x ∷ y ∷ rest) h i few found = absurd (omega (arith, few))

module _ {DE UE F : Type 0} (stays : UE → Bool) (is_half : DE → Type 0) (is_edge : UE → Type 0) (is_face : F → Type 0) (m new : Mesh Point DE UE F) (mesh : IsMesh m) (due : List ℕ)
    (sound : IsTriangleMesh m) (v : ℕ) (thin : IsThinnedOut m v) (border : List ℕ) (filled : IsFilled m v border) (few : length border ≤ 4) (room : HasRoom m.shape 0 (length border - 3) (length border - 2))
    (removes : FillsHole is_half is_edge is_face border new (λ halves edges faces. vertex_taken_out (cleaned_up (hole_filled m v border halves edges faces)) v)) where
  abbrev halves : List DE
  halves = removes.directed_data

  abbrev edges : List UE
  edges = removes.undirected_data

  abbrev faces : List F
  faces = removes.face_data

  abbrev gone : Removal
  gone = opened (edges_at m v) (faces_at m v) v

  -- the mesh once the vertex is given up and the hole is filled
  abbrev mid : Mesh Point DE UE F
  mid = hole_filled m v border removes.directed_data removes.undirected_data removes.face_data

  long : 3 ≤ length (reverse border)
  long = (let k = filled.round.many in let e = length-reverse border in omega (arith, k, e))

  last : (p q r : ℕ) (rest : List ℕ) → reverse border ≡ p ∷ q ∷ r ∷ rest → length rest + 3 ≡ length border
  last p q r rest is = (let l = ap length is in let e = length-reverse border in omega (arith, e, l))

  mid_mesh : IsMesh mid
  mid_mesh =
      by_three (λ w. IsMesh (loop_filled m gone w halves edges faces)) (reverse border) long (λ p q r rest is.
      let left = last p q r rest is in
      let h = removes.directed_count in
      let e = removes.undirected_count in
      let f = removes.face_data_count in
      ring_filled-mesh m p q r rest halves edges faces mesh sound.closed gone
      (hole m mesh sound.closed border v filled.round halves edges faces (point_at m) p q r rest is)
      (record {
        for_vertices = room.for_vertices;
        for_edges = (let k = room.for_edges in omega (arith, k, left));
        for_faces = (let k = room.for_faces in omega (arith, k, left));
      })
      (omega (arith, h, left)) (omega (arith, e, left)) (omega (arith, f, left)))

  clean_mesh : IsMesh (cleaned_up mid)
  clean_mesh = cleaned_up-mesh mid mid_mesh

  known : IsHole m mid v (length border)
  known = hole_is m mesh sound.closed border v filled.round halves edges faces (point_at m)

  -- the record names the edges and faces at the vertex
  mid_named : IsListed mid.shape.removal (edges_at m v) (faces_at m v)
  mid_named = subst (λ r. IsListed r (edges_at m v) (faces_at m v)) (sym known.removal) (refl, refl)

  mid_edges : mid.shape.edges ≡ m.shape.edges + (length border - 3)
  mid_edges = (let k = known.edges in let many = filled.round.many in omega (arith, k, many))

  -- what is on a new face is along the border, or new
  along : (i h : ℕ) → 0 < count_of h (word_of mid.shape.words (face_count m.shape + i)) → (0 < count_of h (reverse border)) ⊎ ((3 < length border) × (h / 2 ≡ m.shape.edges))
  along i h =
      by_three (λ w. 0 < count_of h (word_of (loop_filled m gone w halves edges faces).shape.words (face_count m.shape + i)) → (0 < count_of h w) ⊎ ((3 < length border) × (h / 2 ≡ m.shape.edges)))
      (reverse border) long
      (λ p q r rest is found.
      let ring = hole m mesh sound.closed border v filled.round halves edges faces (point_at m) p q r rest is in
      let left = last p q r rest is in
      elim (one_of_ears m.shape.edges p q r rest h i (omega (arith, left, few))
      (subst (λ (k : List ℕ). 0 < count_of h k) (word-ear m p q r rest halves edges faces mesh sound.closed gone ring i) found)) [
        | inl there ↦ inl there
        | inr (more, new) ↦ inr (omega (arith, left, more), new)
      ])

  module _ (fresh : List ℕ) (is_fresh : 3 < length border → 0 < count_of m.shape.edges fresh) where
    each : (f h : ℕ) → face_count m.shape ≤ f → f < face_count mid.shape → IsLive mid.shape h → face_of mid.shape h ≡ f → 0 < count_of (h / 2) (map (λ h. h / 2) border ++ fresh)
    each f h past below live on =
        let is : face_of mid.shape h ≡ face_count m.shape + (f - face_count m.shape) = omega (arith, past, on) in
        let parts = count-append (h / 2) (map (λ h. h / 2) border) fresh in
        elim (along (f - face_count m.shape) h
        (subst (λ (k : ℕ). 0 < count_of h (word_of mid.shape.words k)) is (stands_in_face (map_of mid.shape) mid.shape.words (links_stand mid_mesh.sound) h live))) [
          | inl there ↦ (let c = count-reverse h border in let m = count-mapped (λ h. h / 2) border h (omega (arith, c, there)) in omega (arith, parts, m))
          | inr (four, new) ↦ (let m = subst (λ u. 0 < count_of u fresh) (sym new) (is_fresh four) in omega (arith, parts, m))
        ]

    module _ (loose : (datum : UE) → is_edge datum → stays datum ≡ false) where
      all_listed : IsEmptied stays m mid v due (due ++ (map (λ h. h / 2) border ++ fresh))
      all_listed =
          emptied stays m mesh due sound v thin border filled halves edges faces mid_mesh (due ++ (map (λ h. h / 2) border ++ fresh))
          (lists_after stays m mesh due sound v thin border filled halves edges faces mid_mesh (map (λ h. h / 2) border ++ fresh) each)
          (given_spokes stays m mesh due sound v thin border filled halves edges faces mid_mesh is_edge loose removes.undirected_default)

      -- edges of the vertex need not be looked at
      listed_but : (spokes fewer : List ℕ) → spokes ≡ ascending (edges_at m v)
          → ((u : ℕ) → list_any (λ e. e == u) spokes ≡ false → 0 < count_of u (due ++ (map (λ h. h / 2) border ++ fresh)) → 0 < count_of u fewer) → IsEmptied stays m mid v due fewer
      listed_but spokes fewer are keeps =
          given_fewer stays m mid v due (due ++ (map (λ h. h / 2) border ++ fresh)) fewer all_listed (λ u live found. elim (cases_Bool (list_any (λ e. e == u) spokes)) [
            | inl there ↦ absurd
                (false≢true
                (sym (named_dead mid.shape (edges_at m v) (faces_at m v) mid_named u
                (sym (any-ascending (λ e. e == u) (edges_at m v)) ∙ ap (list_any (λ e. e == u)) (sym are) ∙ there)) ∙ live))
            | inr not ↦ keeps u not found
          ])

-- what a call leaves that removes v from a ring, in the words of the calls that it does the work of
pub record IsFromRing {DE UE F : Type 0} (stays : UE → Bool) (m new : Mesh Point DE UE F) (v : ℕ) (border before after : List ℕ) : Type 0 where
  pub mid : Mesh Point DE UE F
  pub mesh : IsMesh mid
  pub clean : IsMesh (cleaned_up mid)
  pub named : IsListed mid.shape.removal (edges_at m v) (faces_at m v)
  pub edges : mid.shape.edges ≡ m.shape.edges + (length border - 3)
  pub given : IsEmptied stays m mid v before after
  pub is : new ≡ vertex_taken_out (cleaned_up mid) v

module _ {DE UE F : Type 0} (stays : UE → Bool) (is_half : DE → Type 0) (is_edge : UE → Type 0) (is_face : F → Type 0) (m new : Mesh Point DE UE F) (mesh : IsMesh m)
    (sound : IsTriangleMesh m) (v : ℕ) (thin : IsThinnedOut m v) (border : List ℕ) (filled : IsFilled m v border)
    (removes : FillsHole is_half is_edge is_face border new (λ halves edges faces. vertex_taken_out (cleaned_up (hole_filled m v border halves edges faces)) v))
    (loose : (datum : UE) → is_edge datum → stays datum ≡ false) (spokes list : List ℕ) (are : spokes ≡ ascending (edges_at m v)) (around : ListsAround m.shape v (with_spokes m v list)) where
  from_ring : length border ≤ 4 → HasRoom m.shape 0 (length border - 3) (length border - 2) → (fresh : List ℕ) → (3 < length border → 0 < count_of m.shape.edges fresh)
      → IsFromRing stays m new v border (with_spokes m v list) (list ++ fresh)
  from_ring few room fresh is_fresh =
      let before = with_spokes m v list in
      record {
        mid = mid stays is_half is_edge is_face m new mesh before sound v thin border filled few room removes;
        mesh = mid_mesh stays is_half is_edge is_face m new mesh before sound v thin border filled few room removes;
        clean = clean_mesh stays is_half is_edge is_face m new mesh before sound v thin border filled few room removes;
        named = mid_named stays is_half is_edge is_face m new mesh before sound v thin border filled few room removes;
        edges = mid_edges stays is_half is_edge is_face m new mesh before sound v thin border filled few room removes;
        given =
            listed_but stays is_half is_edge is_face m new mesh before sound v thin border filled few room removes fresh is_fresh loose spokes (list ++ fresh) are
            (around_enough m mesh v thin border filled list around fresh spokes are);
        is = removes.is;
      }

  -- of three edges
  pub from_triangle : length border ≡ 3 → HasRoom m.shape 0 0 1 → IsFromRing stays m new v border (with_spokes m v list) list
  from_triangle three room =
      subst (λ (l : List ℕ). IsFromRing stays m new v border (with_spokes m v list) l) (append-nil list)
      (from_ring (omega (arith, three)) (record {
        for_vertices = room.for_vertices;
        for_edges = (let k = room.for_edges in omega (arith, k, three));
        for_faces = (let k = room.for_faces in omega (arith, k, three));
      }) [] (λ more. absurd (omega (arith, more, three))))

  -- of four
  pub from_square : length border ≡ 4 → HasRoom m.shape 0 1 2 → IsFromRing stays m new v border (with_spokes m v list) (list ++ m.shape.edges ∷ [])
  from_square four room =
      from_ring (omega (arith, four)) (record {
        for_vertices = room.for_vertices;
        for_edges = (let k = room.for_edges in omega (arith, k, four));
        for_faces = (let k = room.for_faces in omega (arith, k, four));
      }) (m.shape.edges ∷ []) (λ more. (let c = count-same m.shape.edges [] in omega (arith, c)))
