-- A vertex inserted into a triangle, given up by any of its border loops, cleaned up and taken out: the mesh is that of before, without it.
use Rattle.std.proofs.Common.{◌≡◌, ◌≢◌, inl, inr, ◌+◌, ◌-◌, ◌*◌, ◌/◌, ◌<◌, ◌≤◌, ℕ, suc, false, List, [], ◌∷◌, ◌++◌, append-nil, length, map, reverse, slice_set, take, sym, refl, ap, ◌∙◌, subst, arith}
use Rattle.std.proofs.lemmas.Bool.{cases_eq, false_from_ne_true}
use Rattle.std.proofs.lemmas.List.{ext_get_or, get_or-set_other, get_or-set_same, get_or-take, get_or_append_left, length-append, length-reverse, length-set, length-take-le, nil_from_length}
use Rattle.dcel_maps.specs.Borders.{GivesUpRound, IsBorderLoop}
use Rattle.dcel_maps.specs.Cyclic.{from_least}
use Rattle.dcel_maps.specs.Hiding.{kept_words}
use Rattle.dcel_maps.specs.InsertedBack.{CanInsertLast, IsBackWithoutLast, inserted_with, removed_with}
use Rattle.dcel_maps.specs.Removals.{Closed, Removal, ascending, gives_up_edge, gives_up_face, opened, shown}
use Rattle.dcel_maps.specs.Renumbering.{cleaned, cleaned_up, edges_down, edges_taken_out, faces_down, faces_taken_out, half_of, last_put, moved, vertex_taken_out, with_removal}
use Rattle.dcel_maps.specs.Shapes.{IsMesh, IsSound, Mesh, adjacent_edge_of, face_count, map_of, next_of, origin_of, prev_of}
use Rattle.dcel_maps.specs.Words.{count_of, word_of}
use Rattle.dcel_maps.specs.edits.DefaultData.{NewData}
use Rattle.dcel_maps.specs.edits.Fill.{edges_at, faces_at, loop_filled, ring_filled}
use Rattle.dcel_maps.specs.edits.Triangle.{vertex_inserted}
use Rattle.dcel_maps.proofs.Shown.{length-shown, slice_index-shown_live}
use Rattle.dcel_maps.proofs.removal.Filled.{filled-sound}
use Rattle.dcel_maps.proofs.removal.Hollows.{HollowOf}
use Rattle.dcel_maps.proofs.removal.VertexHoles.{vertex_hollow}
use Rattle.dcel_maps.proofs.removal.GivenUp.{edges_at-lists, opened_faces}
use Rattle.dcel_maps.proofs.removal.Hiding.{length-hiding, not_hidden}
use Rattle.dcel_maps.proofs.removal.Inserted.{face-below, inserted-count, inserted-edges, inserted-faces, replaced-other, vertex_inserted-mesh}
use Rattle.dcel_maps.proofs.removal.InsertedRings.{IsThreeOf, inserted-ring}
use Rattle.dcel_maps.proofs.removal.RingLists.{at_border}
use Rattle.dcel_maps.proofs.renumbering.Ends.{last_put-down, last_put-end, last_put-three, take-front, vertices_stay, words_stay}
use Rattle.dcel_maps.proofs.walks.Links.{links_stand}
use Rattle.dcel_maps.proofs.words.Ascending.{Ascends, ascends-is}
use Rattle.dcel_maps.proofs.words.Counts.{first_or_later}
use Rattle.dcel_maps.proofs.words.Cyclic.{from_least-kept}
use Rattle.dcel_maps.proofs.words.Reading.{count-le}

-- what a list of three holds
one_of_three : (h x y z : ℕ) (Q : Type 0) → (h ≡ x → Q) → (h ≡ y → Q) → (h ≡ z → Q) → 0 < count_of h (x ∷ y ∷ z ∷ []) → Q
one_of_three h x y z Q first second third found = elim (first_or_later h x (y ∷ z ∷ []) found) [
  | inl is ↦ first is
  | inr later ↦ elim (first_or_later h y (z ∷ []) later) [
    | inl is ↦ second is
    | inr last ↦ elim (first_or_later h z [] last) [ inl is ↦ third is | inr none ↦ absurd (omega (arith, none)) ]
  ]
]

three_ascend : (x y z : ℕ) → x ≤ y → y ≤ z → Ascends (x ∷ y ∷ z ∷ [])
three_ascend x y z low high = (
  λ h found. elim (first_or_later h y (z ∷ []) found) [
    | inl is ↦ omega (arith, is, low)
    | inr later ↦ elim (first_or_later h z [] later) [ inl is ↦ omega (arith, is, low, high) | inr none ↦ absurd (omega (arith, none)) ]
  ],
  (
    λ h found. elim (first_or_later h z [] found) [ inl is ↦ omega (arith, is, high) | inr none ↦ absurd (omega (arith, none)) ],
    (λ h found. absurd (omega (arith, found)), tt),
  ),
)

-- a list of one item
one_item : {A : Type 0} (xs : List A) → length xs ≡ 1 → (x : A) × (xs ≡ x ∷ [])
one_item [] long = absurd (omega (arith, long))
one_item (x ∷ []) long = (x, refl)
one_item (x ∷ y ∷ xs) long = absurd (omega (arith, long))

module _ {V DE UE F : Type 0} (m : Mesh V DE UE F) (v f : ℕ) (halves : List DE) (edges : List UE) (faces : List F) (mesh : IsMesh m) (after : IsMesh (vertex_inserted m v f halves edges faces)) (closed : m.shape.removal ≡ Closed) (last : suc v ≡ m.shape.vertices) (f_below : f < face_count m.shape) (border : List ℕ) (l : IsBorderLoop (vertex_inserted m v f halves edges faces).shape border v) where
  abbrev K : Mesh V DE UE F
  K = vertex_inserted m v f halves edges faces

  abbrev e : ℕ
  e = m.shape.edges

  abbrev L : ℕ
  L = face_count m.shape

  abbrev a : ℕ
  a = adjacent_edge_of m f

  abbrev n : ℕ
  n = 2 * m.shape.edges

  abbrev sectors : List (List ℕ)
  sectors = (next_of m.shape a ∷ (n + 2) ∷ (n + 1) ∷ []) ∷ (prev_of m.shape a ∷ (n + 4) ∷ (n + 3) ∷ []) ∷ []

  abbrev R : Removal
  R = opened (edges_at K v) (faces_at K v) v

  v_below : v < m.shape.vertices
  v_below = omega (arith, last)

  gives : GivesUpRound K.shape v R
  gives = at_border K after border v l

  -- the edges and faces that go, from the largest down
  down_edges : edges_down R ≡ (e + 2) ∷ (e + 1) ∷ e ∷ []
  down_edges =
      ap (λ w. reverse (ascending w)) (inserted-edges m v f halves edges faces mesh after v_below f_below)
      ∙ ap reverse (sym (ascends-is (e ∷ (e + 1) ∷ (e + 2) ∷ []) (e ∷ (e + 1) ∷ (e + 2) ∷ []) (three_ascend e (e + 1) (e + 2) (omega arith) (omega arith)) (λ k. refl)))

  down_faces : faces_down R ≡ suc L ∷ L ∷ f ∷ []
  down_faces =
      let next : L + 1 ≡ suc L = omega arith in
      ap (λ w. reverse (ascending w)) (inserted-faces m v f halves edges faces mesh after v_below f_below ∙ ap (λ z. L ∷ z ∷ f ∷ []) next)
      ∙ ap reverse (sym (ascends-is (L ∷ suc L ∷ f ∷ []) (f ∷ L ∷ suc L ∷ []) (three_ascend f L (suc L) (omega (arith, f_below)) (omega arith)) (λ k. omega arith)))

  -- no old edge goes, and of the old faces f alone
  edge_stays : (u : ℕ) → u < e → gives_up_edge R u ≡ false
  edge_stays u below = false_from_ne_true (gives_up_edge R u) (λ given.
      let found = (edges_at-lists K after v l.live).each u ((gives.edges u).0 given) in
      one_of_three u e (e + 1) (e + 2) ⊥ (λ is. omega (arith, below, is)) (λ is. omega (arith, below, is)) (λ is. omega (arith, below, is))
      (subst (λ (w : List ℕ). 0 < count_of u w) (inserted-edges m v f halves edges faces mesh after v_below f_below) found))

  face_stays : (g : ℕ) → g < L → g ≢ f → gives_up_face R g ≡ false
  face_stays g below other = false_from_ne_true (gives_up_face R g) (λ given.
      let found = (opened_faces (edges_at K v) (faces_at K v) v g).0 given in
      one_of_three g L (L + 1) f ⊥ (λ is. omega (arith, below, is)) (λ is. omega (arith, below, is)) other
      (subst (λ (w : List ℕ). 0 < count_of g w) (inserted-faces m v f halves edges faces mesh after v_below f_below) found))

  module _ (p q r : ℕ) (x : F) (ring : reverse border ≡ p ∷ q ∷ r ∷ []) (word : from_least (p ∷ q ∷ r ∷ []) ≡ word_of m.shape.words f) where
    abbrev G : Mesh V DE UE F
    G = ring_filled K R p q r [] [] [] (x ∷ [])

    -- what is left, by the edges and faces that go
    abbrev left : List ℕ → List ℕ → Mesh V DE UE F
    left gone_edges gone_faces = vertex_taken_out (with_removal (faces_taken_out (edges_taken_out G gone_edges) gone_faces) (cleaned R)) v

    abbrev T : Mesh V DE UE F
    T = left ((e + 2) ∷ (e + 1) ∷ e ∷ []) (suc L ∷ L ∷ f ∷ [])

    sound : IsSound G.shape
    sound = filled-sound K p q r [] [] [] (x ∷ []) after closed R
        (subst (λ (w : List ℕ). HollowOf K.shape R w (face_count K.shape + 0)) ring
        (vertex_hollow K.shape after.sound after.sphere closed border v (face_count K.shape + 0) l R gives (omega arith)))

    least : (g : ℕ) → from_least (word_of G.shape.words g) ≡ word_of G.shape.words g
    least g = from_least-kept (word_of G.shape.words g) (sound.least_first g) (λ h. count-le (map_of G.shape) G.shape.words (links_stand sound) h g)

    -- the edges that go are the last ones
    edges_words : (edges_taken_out G ((e + 2) ∷ (e + 1) ∷ e ∷ [])).shape.words ≡ G.shape.words
    edges_words =
        let third = G.shape.edges - 1 - 1 - 1 in
        let second = G.shape.edges - 1 - 1 in
        ap (λ ws. map (λ w. from_least (map (half_of (moved third e)) w)) (map (λ w. from_least (map (half_of (moved second (e + 1))) w)) ws))
        (words_stay (G.shape.edges - 1) (e + 2) (omega arith) G.shape.words least)
        ∙ ap (map (λ w. from_least (map (half_of (moved third e)) w))) (words_stay second (e + 1) (omega arith) G.shape.words least)
        ∙ words_stay third e (omega arith) G.shape.words least

    kept_long : length (kept_words R K.shape.words) ≡ suc (suc L)
    kept_long =
        omega (arith, length-hiding (gives_up_face R) [] K.shape.words, inserted-count m v f halves edges faces mesh after v_below f_below)

    kept_word : (g : ℕ) → g < L → g ≢ f → word_of (kept_words R K.shape.words) g ≡ word_of m.shape.words g
    kept_word g below other =
        not_hidden (gives_up_face R) [] K.shape.words g (face_stays g below other)
        ∙ replaced-other m.shape.words f (a ∷ n ∷ (n + 5) ∷ []) sectors g below other

    old_words : slice_set (take L (kept_words R K.shape.words)) f (from_least (p ∷ q ∷ r ∷ [])) ≡ m.shape.words
    old_words =
        let front = take L (kept_words R K.shape.words) in
        let front_long : length front ≡ L = length-take-le L (kept_words R K.shape.words) (omega (arith, kept_long)) in
        let put = slice_set front f (from_least (p ∷ q ∷ r ∷ [])) in
        let long : length put ≡ L = length-set front f (from_least (p ∷ q ∷ r ∷ [])) ∙ front_long in
        ext_get_or [] put m.shape.words long (λ g within.
        let below : g < L = omega (arith, within, long) in
        elim (cases_eq g f) [
          | inl same ↦
              ap (word_of put) same ∙ get_or-set_same front f (from_least (p ∷ q ∷ r ∷ [])) [] (omega (arith, f_below, front_long))
              ∙ word ∙ ap (word_of m.shape.words) (sym same)
          | inr other ↦
              get_or-set_other front f g (from_least (p ∷ q ∷ r ∷ [])) [] other
              ∙ get_or-take L (kept_words R K.shape.words) g [] below ∙ kept_word g below other
        ])

    words_back : T.shape.words ≡ m.shape.words
    words_back =
        ap (λ (ws : List (List ℕ)). last_put 1 (last_put 1 (last_put 1 ws (suc L)) L) f) edges_words
        ∙ last_put-down L f (kept_words R K.shape.words) (from_least (p ∷ q ∷ r ∷ [])) kept_long ∙ old_words

    old_origins : take (2 * e) G.shape.origins ≡ m.shape.origins
    old_origins =
        let shown_long = length-shown (gives_up_edge R) K.shape.origins in
        let all_long = length-append (shown (gives_up_edge R) K.shape.origins) [] in
        let front_long : length (take (2 * e) G.shape.origins) ≡ 2 * e =
        length-take-le (2 * e) G.shape.origins (omega (arith, shown_long, all_long, after.sized.origins)) in
        ext_get_or 0 (take (2 * e) G.shape.origins) m.shape.origins (omega (arith, front_long, mesh.sized.origins)) (λ h within.
        let below : h < 2 * e = omega (arith, within, front_long) in
        get_or-take (2 * e) G.shape.origins h 0 below
        ∙ get_or_append_left (shown (gives_up_edge R) K.shape.origins) [] 0 h (omega (arith, below, shown_long, after.sized.origins))
        ∙ slice_index-shown_live (gives_up_edge R) K.shape.origins h (edge_stays (h / 2) (omega (arith, below)))
        ∙ get_or_append_left m.shape.origins
        (origin_of m.shape (next_of m.shape a) ∷ v ∷ origin_of m.shape (prev_of m.shape a) ∷ v ∷ origin_of m.shape a ∷ v ∷ []) 0 h
        (omega (arith, below, mesh.sized.origins)))

    origins_back : T.shape.origins ≡ m.shape.origins
    origins_back =
        let shown_long = length-shown (gives_up_edge R) K.shape.origins in
        let all_long = length-append (shown (gives_up_edge R) K.shape.origins) [] in
        ap (map (moved (m.shape.vertices - 1) v))
        (last_put-three 2 G.shape.origins (2 * (e + 2)) (2 * (e + 1)) (2 * e) (omega arith) (omega arith)
        (omega (arith, shown_long, all_long, after.sized.origins))
        ∙ old_origins)
        ∙ vertices_stay (m.shape.vertices - 1) v (omega (arith, last)) m.shape.origins

    edges_back : T.shape.edges ≡ e
    edges_back = omega arith

    directed_back : T.directed_data ≡ m.directed_data
    directed_back =
        let whole : G.directed_data ≡ m.directed_data ++ halves = append-nil (m.directed_data ++ halves) in
        let long = ap length whole in
        last_put-three 2 G.directed_data (2 * (e + 2)) (2 * (e + 1)) (2 * e) (omega arith) (omega arith) (omega (arith, long, after.sized.directed_data))
        ∙ ap (take (2 * e)) whole ∙ take-front (2 * e) m.directed_data halves (sym mesh.sized.directed_data)

    undirected_back : T.undirected_data ≡ m.undirected_data
    undirected_back =
        let whole : G.undirected_data ≡ m.undirected_data ++ edges = append-nil (m.undirected_data ++ edges) in
        let long = ap length whole in
        last_put-three 1 G.undirected_data (e + 2) (e + 1) e (omega arith) (omega arith) (omega (arith, long, after.sized.undirected_data))
        ∙ ap (take e) whole ∙ take-front e m.undirected_data edges (sym mesh.sized.undirected_data)

    face_data_back : T.face_data ≡ slice_set m.face_data f x
    face_data_back =
        last_put-down L f (m.face_data ++ faces) x
        (omega (arith, after.sized.face_data, inserted-count m v f halves edges faces mesh after v_below f_below))
        ∙ ap (λ (r : List F). slice_set r f x) (take-front L m.face_data faces (sym mesh.sized.face_data))

    vertex_data_back : T.vertex_data ≡ take (m.shape.vertices - 1) m.vertex_data
    vertex_data_back =
        last_put-end 1 m.vertex_data v (omega (arith, last, mesh.sized.vertex_data))
        ∙ ap (λ k. take (k - 1) m.vertex_data) mesh.sized.vertex_data

    left_back : IsBackWithoutLast m f (x ∷ []) T
    left_back = record {
      shape = λ i. record {
        vertices = m.shape.vertices - 1;
        edges = edges_back i;
        words = words_back i;
        origins = origins_back i;
        removal = sym closed i;
      };
      vertex_data = vertex_data_back;
      directed_data = directed_back;
      undirected_data = undirected_back;
      datum = x;
      one_new = refl;
      face_data = face_data_back;
    }

    pub cleaned_back : IsBackWithoutLast m f (x ∷ []) (vertex_taken_out (cleaned_up G) v)
    cleaned_back =
        subst (IsBackWithoutLast m f (x ∷ [])) (sym (ap (λ es. left es (faces_down R)) down_edges ∙ ap (left ((e + 2) ∷ (e + 1) ∷ e ∷ [])) down_faces))
        left_back

module _ {V DE UE F : Type 0} (m : Mesh V DE UE F) (v f : ℕ) (border : List ℕ) (new : NewData DE UE F 3 2) (filling : NewData DE UE F (length border - 3) (length border - 2)) (mesh : IsMesh m) (can : CanInsertLast m v f) (l : IsBorderLoop (inserted_with m v f new).shape border v) where
  abbrev N : Mesh V DE UE F
  N = inserted_with m v f new

  with_v : IsMesh N
  with_v =
      vertex_inserted-mesh m f mesh can.triangle v new.directed_data new.undirected_data new.face_data can.unconnected can.room
      new.directed_count new.undirected_count new.face_data_count

  three : IsThreeOf (word_of m.shape.words f) (reverse border)
  three =
      let below : v < m.shape.vertices = omega (arith, can.last) in
      inserted-ring m v f new.directed_data new.undirected_data new.face_data mesh with_v below can.triangle border l

  border_long : length border ≡ 3
  border_long = sym (length-reverse border) ∙ ap length three.is

  abbrev removed : List ℕ → List DE → List UE → List F → Mesh V DE UE F
  removed ring halves edges faces =
      vertex_taken_out (cleaned_up (loop_filled N (opened (edges_at N v) (faces_at N v) v) ring halves edges faces)) v

  pub inserted_back : IsBackWithoutLast m f filling.face_data (removed_with (inserted_with m v f new) v border filling)
  inserted_back =
      let halves : filling.directed_data ≡ [] = nil_from_length filling.directed_data (omega (arith, filling.directed_count, border_long)) in
      let edges : filling.undirected_data ≡ [] = nil_from_length filling.undirected_data (omega (arith, filling.undirected_count, border_long)) in
      let (x, one) = one_item filling.face_data (omega (arith, filling.face_data_count, border_long)) in
      let back =
      cleaned_back m v f new.directed_data new.undirected_data new.face_data mesh with_v can.closed can.last
      (face-below m f mesh can.triangle) border l three.p three.q three.r x three.is three.word in
      let given : removed (reverse border) filling.directed_data filling.undirected_data filling.face_data ≡ removed (three.p ∷ three.q ∷ three.r ∷ []) [] [] (x ∷ []) =
      λ i. removed (three.is i) (halves i) (edges i) (one i) in
      subst (λ t. IsBackWithoutLast m f filling.face_data t) (sym given) (subst (λ (ys : List F). IsBackWithoutLast m f ys (removed (three.p ∷ three.q ∷ three.r ∷ []) [] [] (x ∷ []))) (sym one) back)
