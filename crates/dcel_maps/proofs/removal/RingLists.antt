-- Lists that have the edges at a vertex and the faces round it, each once: they are as long as its border loop, and have those of each
-- out edge.
use Rattle.std.proofs.Common.{◌≡◌, ◌≢◌, ◌↔◌, inl, inr, ℕ, ◌/◌, ◌<◌, ◌≤◌, List, [], ◌∷◌, ◌++◌, length, map, refl, sym, ap, ◌∙◌, subst, arith}
use Rattle.std.proofs.lemmas.Bool.{cases_eq, cases_lt}
use Rattle.std.proofs.lemmas.List.{length-append, length-map, length-reverse, nil_from_length}
use Rattle.dcel_maps.specs.Borders.{GivesUpRound, IsBorderLoop, IsEdgeAt, IsFaceAt, IsVertexRing, center_of}
use Rattle.dcel_maps.specs.Shapes.{IsLive, IsMesh, IsSound, Mesh, Shape, face_of, map_of, next_of, origin_of}
use Rattle.dcel_maps.specs.Walking.{IsOutEdge, ListsOnce, ccw_of, in_mesh, out_edges_of, walk_of}
use Rattle.dcel_maps.specs.Words.{count_of}
use Rattle.dcel_maps.specs.edits.Fill.{edges_at, faces_at}
use Rattle.dcel_maps.specs.theory.Sectors.{FindsEach}
use Rattle.dcel_maps.proofs.Liveness.{vertex_live-parts}
use Rattle.dcel_maps.proofs.maps.Halves.{rev_or_same}
use Rattle.dcel_maps.proofs.removal.Corners.{same_corner}
use Rattle.dcel_maps.proofs.removal.GivenUp.{Lists, at-round, edges_at-lists, faces_at-lists, once_lists, opened-round}
use Rattle.dcel_maps.proofs.shapes.Maps.{map-sound}
use Rattle.dcel_maps.proofs.walks.Items.{first_item, none_left}
use Rattle.dcel_maps.proofs.walks.Links.{links_lawful, links_stand}
use Rattle.dcel_maps.proofs.walks.Turning.{mesh-out_edges, walk-out_edges}
use Rattle.dcel_maps.proofs.words.Ascending.{ascending-ascends, ascends-one, count-ascending, length-ascending}
use Rattle.dcel_maps.proofs.words.Counts.{count-append, count-later, count-other, count-same, first_or_later, split_at, count-reverse}
use Rattle.dcel_maps.proofs.words.Mapped.{mapped_from, mapped_once}
use Rattle.dcel_maps.proofs.words.Triangles.{is_triangle}
use Rattle.dcel_maps.specs.Removals.{ascending, opened}

-- a list that has each item of another one, none of which stands there twice, and is as long, has the same items
covered : (d w : List ℕ) → ((k : ℕ) → count_of k d ≤ 1) → ((k : ℕ) → 0 < count_of k d → 0 < count_of k w) → length w ≡ length d
    → (k : ℕ) → count_of k w ≡ count_of k d
covered [] w once has long k = ap (count_of k) (nil_from_length w long)
covered (x ∷ d) w once has long k =
    let (l, r, parts) = split_at x w (has x (omega (arith, count-same x d))) in
    let counts : (j : ℕ) → count_of j w ≡ count_of j (l ++ x ∷ r) = λ j. ap (count_of j) parts in
    let longs = ap length parts in
    let rest =
    covered d (l ++ r) (λ j. omega (arith, once j))
    (λ j found.
    let differs : j ≢ x = λ is. let twice = subst (λ z. 0 < count_of z d) is found in omega (arith, once x, count-same x d, twice) in
    omega (arith, has j (count-later j x d found), counts j, count-append j l (x ∷ r), count-append j l r, count-other j x r differs))
    (omega (arith, long, longs, length-append l (x ∷ r), length-append l r)) in
    elim (cases_eq k x) [
      | inl is ↦
          subst (λ z. count_of z w ≡ count_of z (x ∷ d)) (sym is)
          (omega (arith, counts x, rest x, count-append x l (x ∷ r), count-append x l r, count-same x r, count-same x d))
      | inr differs ↦
          omega (arith, counts k, rest k, count-append k l (x ∷ r), count-append k l r, count-other k x r differs, count-other k x d differs)
    ]

-- lists with the same items are as long
same_long : (w u : List ℕ) → ((k : ℕ) → count_of k w ≡ count_of k u) → length w ≡ length u
same_long w u same =
    sym (length-ascending w)
    ∙ ap length (ascends-one (ascending w) (ascending u) (ascending-ascends w) (ascending-ascends u)
    (λ k. count-ascending k w ∙ same k ∙ sym (count-ascending k u)))
    ∙ length-ascending u

single : {P : ℕ → Type 0} {w : List ℕ} → ListsOnce P w → (k : ℕ) → count_of k w ≤ 1
single {w = w} lists k = elim (cases_lt 0 (count_of k w)) [
  | inl found ↦ let one = lists.each k (lists.no_other k found) in omega (arith, one)
  | inr none ↦ omega (arith, none)
]

once_same : {P : ℕ → Type 0} {w u : List ℕ} → ListsOnce P w → ListsOnce P u → (k : ℕ) → count_of k w ≡ count_of k u
once_same {w = w} {u = u} a b k = elim (cases_lt 0 (count_of k w)) [
  | inl found ↦ let has = a.no_other k found in a.each k has ∙ sym (b.each k has)
  | inr none ↦ elim (cases_lt 0 (count_of k u)) [
    | inl found ↦ a.each k (b.no_other k found) ∙ sym (b.each k (b.no_other k found))
    | inr none_u ↦ omega (arith, none, none_u)
  ]
]

-- what a list with these items lists
listed : {P : ℕ → Type 0} (d w : List ℕ) → Lists P d → ((k : ℕ) → count_of k d ≤ 1) → ((k : ℕ) → count_of k w ≡ count_of k d) → ListsOnce P w
listed d w lists once same = record {
  each = λ k has. let found = lists.each k has in omega (arith, found, once k, same k);
  no_other = λ k found. lists.no_other k (omega (arith, found, same k));
}

module _ {V DE UE F : Type 0} (m : Mesh V DE UE F) (mesh : IsMesh m) (border : List ℕ) (v : ℕ) (l : IsBorderLoop m.shape border v) where
  abbrev s : Shape
  s = m.shape

  outs : ListsOnce (IsOutEdge s v) (out_edges_of m v)
  outs = mesh-out_edges mesh v (vertex_live-parts s v l.live).0

  out_once : (k : ℕ) → count_of k (out_edges_of m v) ≤ 1
  out_once = single outs

  -- there are as many out edges as half edges of the border
  pub border_long : length (out_edges_of m v) ≡ length border
  border_long =
      same_long (out_edges_of m v) (walk_of s (ccw_of s) l.first) (once_same outs (walk-out_edges mesh.sound v l.first l.out))
      ∙ sym (length-map (walk_of s (ccw_of s) l.first) (next_of s)) ∙ sym (ap length l.ring) ∙ length-reverse border

  -- each has an edge and a face of its own
  edges_once : (u : ℕ) → count_of u (edges_at m v) ≤ 1
  edges_once = mapped_once (λ h. h / 2) (out_edges_of m v) out_once (λ x y x_in y_in same.
      let at_x = outs.no_other x x_in in
      let at_y = outs.no_other y y_in in
      elim (rev_or_same x y same) [
        | inl is ↦ is
        | inr is ↦ absurd (mesh.sound.two_ends y at_y.live (at_y.start ∙ sym at_x.start ∙ ap (origin_of s) is))
      ])

  faces_once : (f : ℕ) → count_of f (faces_at m v) ≤ 1
  faces_once = mapped_once (face_of s) (out_edges_of m v) out_once (λ x y x_in y_in same.
      let sound = map-sound mesh.sound in
      let at_x = outs.no_other x x_in in
      let at_y = outs.no_other y y_in in
      same_corner (map_of s) sound y at_y.live
      ((is_triangle (map_of s) s.words (links_stand mesh.sound) y at_y.live sound).0 (l.triangles y at_y).1.three) x at_x.live (at_x.start ∙ sym at_y.start) same)

  -- so a record of these gives up what lies inside the border
  pub at_border : GivesUpRound s v (opened (edges_at m v) (faces_at m v) v)
  at_border = at-round m mesh v l.live edges_once faces_once

  module _ (edges faces : List ℕ) where
    -- lists that are as long have all of them, each once, just where those of each out edge stand there
    pub finds_iff-lists : length edges ≡ length border → length faces ≡ length border
        → FindsEach s edges faces (out_edges_of m v) ↔ (ListsOnce (IsEdgeAt s v) edges × ListsOnce (IsFaceAt s v) faces)
    finds_iff-lists edges_long faces_long = (
      λ finds.
          let outs_long = border_long in (
            listed (edges_at m v) edges (edges_at-lists m mesh v l.live) edges_once
                (covered (edges_at m v) edges edges_once
                (λ u found. let (h, there, is) = mapped_from (λ h. h / 2) (out_edges_of m v) u found in subst (λ z. 0 < count_of z edges) is (finds h there).0)
                (omega (arith, edges_long, outs_long, length-map (out_edges_of m v) (λ h. h / 2)))),
            listed (faces_at m v) faces (faces_at-lists m mesh v l.live) faces_once
                (covered (faces_at m v) faces faces_once
                (λ f found. let (h, there, is) = mapped_from (face_of s) (out_edges_of m v) f found in subst (λ z. 0 < count_of z faces) is (finds h there).1)
                (omega (arith, faces_long, outs_long, length-map (out_edges_of m v) (face_of s)))),
          ),
      λ lists h found.
          let out = outs.no_other h found in
          let edge = lists.0.each (h / 2) (record { half = h; out = out; is = refl }) in
          let face = lists.1.each (face_of s h) (record { half = h; out = out; is = refl }) in
          (omega (arith, edge), omega (arith, face)),
    )

    -- and lists that have them, each once, are as long
    pub lists-long : ListsOnce (IsEdgeAt s v) edges × ListsOnce (IsFaceAt s v) faces → (length edges ≡ length border) × (length faces ≡ length border)
    lists-long lists =
        let all_edges = listed (edges_at m v) (edges_at m v) (edges_at-lists m mesh v l.live) edges_once (λ k. refl) in
        let all_faces = listed (faces_at m v) (faces_at m v) (faces_at-lists m mesh v l.live) faces_once (λ k. refl) in (
          same_long edges (edges_at m v) (once_same lists.0 all_edges) ∙ length-map (out_edges_of m v) (λ h. h / 2) ∙ border_long,
          same_long faces (faces_at m v) (once_same lists.1 all_faces) ∙ length-map (out_edges_of m v) (face_of s) ∙ border_long,
        )

-- the out edges of v are gone over: those of the ones so far were found
pub record IsFinding {V DE UE F : Type 0} (m : Mesh V DE UE F) (v : ℕ) (edges faces : List ℕ) (items : List (Mesh V DE UE F × ℕ)) : Type 0 where
  pub left : List ℕ
  pub items_are : items ≡ in_mesh m left
  pub all_start : (h : ℕ) → 0 < count_of h left → IsOutEdge m.shape v h
  pub same : FindsEach m.shape edges faces left ↔ FindsEach m.shape edges faces (out_edges_of m v)

-- an out edge came: where its edge and face are found it goes on, and else not all are
pub record IsFound {V DE UE F : Type 0} (m : Mesh V DE UE F) (v : ℕ) (edges faces : List ℕ) (k : ℕ) (more : List (Mesh V DE UE F × ℕ)) : Type 0 where
  pub starts : IsOutEdge m.shape v k
  pub wanted : FindsEach m.shape edges faces (out_edges_of m v) → (0 < count_of (k / 2) edges) × (0 < count_of (face_of m.shape k) faces)
  pub goes_on : (0 < count_of (k / 2) edges) × (0 < count_of (face_of m.shape k) faces) → IsFinding m v edges faces more

module _ {V DE UE F : Type 0} (m : Mesh V DE UE F) (v : ℕ) (edges faces : List ℕ) where
  pub finding_continues : (items more : List (Mesh V DE UE F × ℕ)) (n : Mesh V DE UE F) (k : ℕ) → IsFinding m v edges faces items
      → items ≡ (n, k) ∷ more → (n ≡ m) × IsFound m v edges faces k more
  finding_continues items more n k s e =
      let came = first_item m n k more s.left (sym e ∙ s.items_are) in
      let here : 0 < count_of k s.left = rw came.left_is (omega (arith, count-same k came.rest)) in
      let later : (h : ℕ) → 0 < count_of h came.rest → 0 < count_of h s.left = λ h found. rw came.left_is (count-later h k came.rest found) in (
        came.same_mesh,
        record {
          starts = s.all_start k here;
          wanted = λ finds. s.same.1 finds k here;
          goes_on = λ both. record {
            left = came.rest;
            items_are = came.more_are;
            all_start = λ h found. s.all_start h (later h found);
            same = (
              λ finds. s.same.0 (λ h found. elim (first_or_later h k came.rest (rw came.left_is at found)) [
                | inl is ↦ subst (λ z. (0 < count_of (z / 2) edges) × (0 < count_of (face_of m.shape z) faces)) (sym is) both
                | inr after ↦ finds h after
              ]),
              λ finds h found. s.same.1 finds h (later h found),
            );
          };
        },
      )

  pub finding_ends : (items : List (Mesh V DE UE F × ℕ)) → IsFinding m v edges faces items → items ≡ [] → FindsEach m.shape edges faces (out_edges_of m v)
  finding_ends items s none =
      s.same.0 (λ h found. absurd (let gone = none_left m s.left (sym none ∙ s.items_are) in
      let there : 0 < count_of h [] = rw gone at found in omega arith))

-- a border loop begins with a live half edge
pub loop_item-live : (s : Shape) → IsSound s → (border : List ℕ) (v : ℕ) → IsBorderLoop s border v → (x : ℕ) → 0 < count_of x border → IsLive s x
loop_item-live s sound border v l x found =
    let there : 0 < count_of x (map (next_of s) (walk_of s (ccw_of s) l.first)) = omega (arith, found, count-reverse x border, ap (count_of x) l.ring) in
    let (h, at, is) = mapped_from (next_of s) (walk_of s (ccw_of s) l.first) x there in
    subst (IsLive s) is ((links_lawful sound).stays h ((walk-out_edges sound v l.first l.out).no_other h at).live)

-- a ring is a border loop with such lists
pub finds_iff-ring : {V DE UE F : Type 0} (m : Mesh V DE UE F) → IsMesh m → (border edges faces : List ℕ) (center : ℕ) → center ≡ center_of m.shape border
    → IsBorderLoop m.shape border center → length edges ≡ length border → length faces ≡ length border
    → FindsEach m.shape edges faces (out_edges_of m center) ↔ IsVertexRing m.shape border edges faces
finds_iff-ring m mesh border edges faces center is l edges_long faces_long =
    let lists = finds_iff-lists m mesh border center l edges faces edges_long faces_long in (
      λ finds.
          let both = lists.0 finds in
          record {
            border_loop = subst (IsBorderLoop m.shape border) is l;
            each_edge = subst (λ v. ListsOnce (IsEdgeAt m.shape v) edges) is both.0;
            each_face = subst (λ v. ListsOnce (IsFaceAt m.shape v) faces) is both.1;
          },
      λ ring. lists.1 (subst (λ v. ListsOnce (IsEdgeAt m.shape v) edges × ListsOnce (IsFaceAt m.shape v) faces) (sym is) (ring.each_edge, ring.each_face)),
    )

-- and a record of these gives up what lies inside the ring
pub at_ring : (s : Shape) (border edges faces : List ℕ) → IsVertexRing s border edges faces
    → GivesUpRound s (center_of s border) (opened edges faces (center_of s border))
at_ring s border edges faces ring =
    opened-round s (center_of s border) edges faces (once_lists ring.each_edge) (once_lists ring.each_face) (single ring.each_edge) (single ring.each_face)
