-- The shape that is left once a strip is cut is sound and a sphere.
use Rattle.std.proofs.Common.{◌≡◌, ◌≢◌, ◌⊎◌, ◌↔◌, inl, inr, ◌/◌, ◌<◌, ◌≤◌, ◌==◌, ℕ, true, false, List, [], ◌∷◌, ◌++◌, map, slice_set, sym, refl, ap, ◌∙◌, subst, arith}
use Rattle.std.proofs.lemmas.Bool.{both_ways, cases_Bool, cases_eq, cases_lt, false_from_ne_true, ne_eqb}
use Rattle.std.proofs.lemmas.List.{get_or-set_other, get_or-set_same, length-set}
use Rattle.dcel_maps.specs.Borders.{IsEdgeAt, IsFaceAt}
use Rattle.dcel_maps.specs.Cyclic.{from_least}
use Rattle.dcel_maps.specs.EditLists.{ComesBy}
use Rattle.dcel_maps.specs.Hiding.{kept_words}
use Rattle.dcel_maps.specs.Maps.{Live, Map}
use Rattle.dcel_maps.specs.Removals.{Closed, IsInOrder, Removal, gives_up_edge, gives_up_face, gives_up_vertex, is_live, shown}
use Rattle.dcel_maps.specs.Shapes.{IsLive, IsSound, IsSphere, Shape, edge_is_live, face_count, face_is_live, face_of, map_of, next_of, origin_of, prev_of, vertex_is_live}
use Rattle.dcel_maps.specs.Strips.{IsStripAround}
use Rattle.dcel_maps.specs.theory.Standing.{Stands}
use Rattle.dcel_maps.specs.Walking.{IsOutEdge}
use Rattle.dcel_maps.specs.Words.{count_of, word_of}
use Rattle.dcel_maps.proofs.Liveness.{gives_up_edge-closed, gives_up_face-closed, is_live-from, is_live-given_up, is_live-parts, bare_word}
use Rattle.dcel_maps.proofs.maps.Lists.{comes_after}
use Rattle.dcel_maps.proofs.Shown.{slice_index-shown_live}
use Rattle.dcel_maps.proofs.maps.Agreement.{Agrees, agrees-sound, agrees-sphere, agrees_extends}
use Rattle.dcel_maps.proofs.maps.Soundness.{face_cycles}
use Rattle.dcel_maps.proofs.removal.Hiding.{hidden, length-hiding, not_hidden}
use Rattle.dcel_maps.proofs.removal.Holes.{HoleOf, hole_kinds}
use Rattle.dcel_maps.proofs.removal.Spokes.{path_item}
use Rattle.dcel_maps.proofs.removal.StripSpokes.{IsSpoke, OuterWord, StripAway, all_out, are_spokes, each_out, spoke_inner, spokes_once, strip_away, trip}
use Rattle.dcel_maps.proofs.shapes.Chains.{single-map}
use Rattle.dcel_maps.proofs.shapes.Maps.{map-sound, sound-from_map, sphere-from_map}
use Rattle.dcel_maps.proofs.shapes.Shown.{Shows, shown-agrees, shown-stands}
use Rattle.dcel_maps.proofs.walks.Links.{links_stand}
use Rattle.dcel_maps.proofs.words.Counts.{count-append, count-same}
use Rattle.dcel_maps.proofs.words.Cyclic.{from_least-word}
use Rattle.dcel_maps.proofs.words.Faces.{IsWordOf, KeepsFace, edited_stands}
use Rattle.dcel_maps.proofs.words.Mapped.{mapped_from}
use Rattle.dcel_maps.proofs.words.Reading.{face_in_word}
use Rattle.dcel_maps.proofs.words.Turns.{count-turn, from_least-turn}

-- the record gives up the vertex v, its edges and the triangles round it, and nothing else
pub record GivesUpStrip (s : Shape) (v : ℕ) (r : Removal) : Type 0 where
  pub vertices : (w : ℕ) → gives_up_vertex r w ≡ (v == w)
  pub edges : (u : ℕ) → (gives_up_edge r u ≡ true) ↔ IsEdgeAt s v u
  pub faces : (f : ℕ) → (gives_up_face r f ≡ true) ↔ (IsFaceAt s v f × (f ≢ 0))
  pub in_order : IsInOrder r

module _ (s : Shape) (sound : IsSound s) (sphere : IsSphere s) (v h : ℕ) (around : IsStripAround s v h) (closed : s.removal ≡ Closed)
    (removal : Removal) (gives : GivesUpStrip s v removal) (some_face : 0 < face_count s)
    (y : ℕ) (r : List ℕ) (outer : OuterWord s sound sphere v h around y r) where
  abbrev pub items : List ℕ
  items = map (next_of s) (trip s sound sphere v h around).rest

  abbrev pub t : Shape
  t = record s {
    words = kept_words removal (slice_set s.words 0 (from_least (y ∷ r ++ items)));
    origins = shown (gives_up_edge removal) s.origins;
    removal = removal;
  }

  abbrev T : Map
  T = map_of s

  away : StripAway s sound sphere v h around y r outer
  away = strip_away s sound sphere v h around y r outer

  pub M : Map
  M = away.left

  pub hole : HoleOf T M (h ∷ (trip s sound sphere v h around).rest) (y ∷ r ++ items) 0
  unfolding M
  hole = subst (HoleOf T away.left (h ∷ (trip s sound sphere v h around).rest) (y ∷ r ++ items)) around.outer away.hole

  stands : Stands T s.words
  stands = links_stand sound

  listed : (x : ℕ) → IsOutEdge s v x → 0 < count_of x (h ∷ (trip s sound sphere v h around).rest)
  listed = each_out s sound sphere v h around

  spokes : (x : ℕ) → 0 < count_of x (trip s sound sphere v h around).rest → IsSpoke s sound sphere v h around x
  spokes = are_spokes s sound sphere v h around

  -- an item of the strip comes after a spoke, on its triangle
  pub record ItemOf (e : ℕ) : Type 0 where
    pub spoke : ℕ
    pub is_spoke : IsSpoke s sound sphere v h around spoke
    pub next : next_of s spoke ≡ e
    pub face : face_of s e ≡ face_of s spoke

  pub item_of : (e : ℕ) → 0 < count_of e items → ItemOf e
  item_of e found =
      let (x, there, is) = mapped_from (next_of s) (trip s sound sphere v h around).rest e found in
      let k = spokes x there in
      record {
        spoke = x;
        is_spoke = k;
        next = is;
        face = ap (face_of s) (sym is) ∙ (face_cycles T (map-sound sound)).along x k.out.live;
      }

  pub item_inner : (e : ℕ) → 0 < count_of e items → face_of s e ≢ 0
  item_inner e found at = let i = item_of e found in spoke_inner s sound sphere v h around i.spoke i.is_spoke (sym i.face ∙ at)

  -- the ring holds nothing twice
  old_outer : (k : ℕ) → 0 < count_of k (y ∷ r) → face_of s k ≡ 0
  old_outer k found =
      face_in_word T s.words stands k (face_of s h)
      (omega (arith, found, count-turn k outer.turn, count-append k (h ∷ y ∷ r) (prev_of s h ∷ []), count-append k (h ∷ []) (y ∷ r)))
      ∙ around.outer

  items_once : (k : ℕ) → count_of k items ≤ 1
  items_once =
      let sound_map = map-sound sound in
      single-map (next_of s) (trip s sound sphere v h around).rest
      (λ a z a_in z_in same.
      sym (sound_map.prev-next a (spokes a a_in).out.live) ∙ ap (prev_of s) same ∙ sound_map.prev-next z (spokes z z_in).out.live)
      (spokes_once s sound sphere v h around)

  pub ring_once : (k : ℕ) → count_of k (y ∷ r ++ items) ≤ 1
  ring_once k = elim (cases_lt 0 (count_of k items)) [
    | inl found ↦
        let none : count_of k (y ∷ r) ≡ 0 = elim (cases_lt 0 (count_of k (y ∷ r))) [
          | inl old ↦ absurd (item_inner k found (old_outer k old))
          | inr nothing ↦ omega (arith, nothing)
        ] in
        omega (arith, none, items_once k, count-append k (y ∷ r) items)
    | inr none ↦
        omega (
          arith,
          none,
          outer.single k,
          count-append k (h ∷ y ∷ r) (prev_of s h ∷ []),
          count-append k (h ∷ []) (y ∷ r),
          count-append k (y ∷ r) items,
        )
  ]

  -- which edges are live
  edge_test : (u : ℕ) → edge_is_live t u ≡ M.edge u
  edge_test u = elim (cases_Bool (gives_up_edge removal u)) [
    | inl given ↦
        let at = (gives.edges u).0 given in
        is_live-given_up (gives_up_edge removal) s.edges u given ∙ sym (ap M.edge (sym at.is) ∙ hole.gone at.half (listed at.half at.out))
    | inr kept ↦
        ap (λ given. is_live (λ (x : ℕ). given) s.edges u) (kept ∙ sym (ap (λ q. gives_up_edge q u) closed ∙ gives_up_edge-closed u))
        ∙ sym (hole.kept u (λ x found is.
        both_ways (gives_up_edge removal u) kept ((gives.edges u).1 record { half = x; out = all_out s sound sphere v h around x found; is = sym is })))
  ]

  pub in_map : (x : ℕ) → IsLive t x → Live M x
  in_map x live = sym (edge_test (x / 2)) ∙ live

  pub was_live : (x : ℕ) → IsLive t x → IsLive s x
  was_live x live =
      let parts = is_live-parts (gives_up_edge removal) s.edges (x / 2) live in
      is_live-from (gives_up_edge s.removal) s.edges (x / 2) parts.0 (ap (λ q. gives_up_edge q (x / 2)) closed ∙ gives_up_edge-closed (x / 2))

  -- the words, face by face
  outer_kept : gives_up_face removal 0 ≡ false
  outer_kept = false_from_ne_true (gives_up_face removal 0) (λ given. ((gives.faces 0).0 given).1 refl)

  pub word-outer : word_of t.words 0 ≡ from_least (y ∷ r ++ items)
  word-outer =
      not_hidden (gives_up_face removal) [] (slice_set s.words 0 (from_least (y ∷ r ++ items))) 0 outer_kept
      ∙ get_or-set_same s.words 0 (from_least (y ∷ r ++ items)) [] some_face

  pub word-given : (f : ℕ) → gives_up_face removal f ≡ true → word_of t.words f ≡ []
  word-given f given = hidden (gives_up_face removal) [] (slice_set s.words 0 (from_least (y ∷ r ++ items))) f given

  pub word-kept : (f : ℕ) → f ≢ 0 → gives_up_face removal f ≡ false → word_of t.words f ≡ word_of s.words f
  word-kept f inside kept =
      not_hidden (gives_up_face removal) [] (slice_set s.words 0 (from_least (y ∷ r ++ items))) f kept
      ∙ get_or-set_other s.words 0 f (from_least (y ∷ r ++ items)) [] inside

  pub keeps : (f : ℕ) → f ≢ 0 → gives_up_face removal f ≡ false → KeepsFace T M f
  keeps f inside kept = hole.keeps_face f inside (λ x found at.
      both_ways (gives_up_face removal f) kept
      ((gives.faces f).1 (record { half = x; out = all_out s sound sphere v h around x found; is = at }, inside)))

  -- nothing is left on a face that is given up
  pub vacant : (f : ℕ) → gives_up_face removal f ≡ true → (x : ℕ) → Live M x → M.face x ≢ f
  vacant f given x live at =
      let (on, inside) = (gives.faces f).0 given in
      elim (hole.cases x live) [
        | inl outside ↦ inside (sym at ∙ outside)
        | inr away ↦ away on.half (listed on.half on.out) (on.is ∙ sym at)
      ]

  pub many : face_count t ≡ face_count s
  many = length-hiding (gives_up_face removal) [] (slice_set s.words 0 (from_least (y ∷ r ++ items))) ∙ length-set s.words 0 (from_least (y ∷ r ++ items))

  new_word : IsWordOf M 0 (from_least (y ∷ r ++ items))
  new_word = from_least-word M hole.sound 0 y (r ++ items) hole.cycle ring_once

  word_cases : (f : ℕ) → IsWordOf M f (word_of t.words f) ⊎ (KeepsFace T M f × (word_of t.words f ≡ word_of s.words f))
  word_cases f = elim (cases_eq f 0) [
    | inl i ↦ inl (subst (λ g. IsWordOf M g (word_of t.words g)) (sym i) (subst (IsWordOf M 0) (sym word-outer) new_word))
    | inr inside ↦ elim (cases_Bool (gives_up_face removal f)) [
      | inl given ↦ inl (subst (IsWordOf M f) (sym (word-given f given)) record {
        cycle = tt;
        once = λ x live at. absurd (vacant f given x live at);
        least = tt;
      })
      | inr kept ↦ inr (keeps f inside kept, word-kept f inside kept)
    ]
  ]

  pub words_stand : Stands M t.words
  words_stand =
      edited_stands T M s.words t.words hole.sound stands (omega (arith, many, hole.faces, some_face)) (λ f within. word_cases f)

  origin-is : (x : ℕ) → Live M x → origin_of t x ≡ M.origin x
  origin-is x live =
      let kept : gives_up_edge removal (x / 2) ≡ false =
      (is_live-parts (gives_up_edge removal) s.edges (x / 2) (edge_test (x / 2) ∙ live)).1 in
      slice_index-shown_live (gives_up_edge removal) s.origins x kept ∙ sym (hole.origin x)

  shows : Shows t M
  shows = record {
    vertices = sym hole.vertices;
    edges = sym hole.edges;
    edge = edge_test;
    origin = origin-is;
    stands = words_stand;
  }

  pub agrees : Agrees M (map_of t)
  agrees = shown-agrees t M shows

  -- the spokes but h are joined away, and h is a spur then
  pub cut_comes : ComesBy (hole_kinds (h ∷ (trip s sound sphere v h around).rest)) T (map_of t)
  cut_comes = comes_after (hole_kinds (h ∷ (trip s sound sphere v h around).rest)) T M (map_of t) hole.comes (agrees_extends M (map_of t) agrees)

  bare : (f : ℕ) → face_is_live t f ≡ false → word_of t.words f ≡ []
  bare = bare_word t word-given

  inner : (f : ℕ) → 0 < f → face_is_live t f ≡ true → word_of t.words f ≢ []
  inner f inside live empty =
      let parts = is_live-parts (gives_up_face removal) (face_count t) f live in
      sound.inner f inside
      (is_live-from (gives_up_face s.removal) (face_count s) f (omega (arith, parts.0, many))
      (ap (λ q. gives_up_face q f) closed ∙ gives_up_face-closed f))
      (sym (word-kept f (omega (arith, inside)) parts.1) ∙ empty)

  -- the items of the ring stand in the outer word, and are live
  pub along_outer : (k : ℕ) → 0 < count_of k (y ∷ r ++ items) → 0 < count_of k (word_of t.words 0)
  along_outer k found = omega (arith, found, ap (count_of k) word-outer, count-turn k (from_least-turn (y ∷ r ++ items)))

  pub along_live : (k : ℕ) → 0 < count_of k (y ∷ r ++ items) → IsLive t k
  along_live k found = edge_test (k / 2) ∙ (path_item M 0 y (r ++ items) y hole.cycle k found).0

  outer_full : (word_of t.words 0 ≡ []) ↔ ((u : ℕ) → edge_is_live t u ≡ false)
  outer_full =
      let first : 0 < count_of y (y ∷ r ++ items) = omega (arith, count-same y (r ++ items)) in (
        λ empty. absurd (omega (arith, along_outer y first, ap (count_of y) empty)),
        λ dead. absurd (both_ways (edge_is_live t (y / 2)) (dead (y / 2)) (along_live y first)),
      )

  -- each half edge starts where it did, and none at v
  pub same_origin : (x : ℕ) → IsLive t x → origin_of t x ≡ origin_of s x
  same_origin x live = origin-is x (in_map x live) ∙ hole.origin x

  pub none_at : (x : ℕ) → IsLive t x → origin_of t x ≢ v
  none_at x live at =
      let out : IsOutEdge s v x = record { live = was_live x live; start = sym (same_origin x live) ∙ at } in
      both_ways (M.edge (x / 2)) (hole.gone x (listed x out)) (in_map x live)

  starts_live : (x : ℕ) → IsLive t x → vertex_is_live t (origin_of t x) ≡ true
  starts_live x live =
      let below = hole.sound.below_vertices x (in_map x live) in
      is_live-from (gives_up_vertex removal) s.vertices (origin_of t x)
      (omega (arith, below, origin-is x (in_map x live), hole.vertices))
      (gives.vertices (origin_of t x) ∙ ne_eqb v (origin_of t x) (λ i. none_at x live (sym i)))

  pub cut-sound : IsSound t
  cut-sound = sound-from_map t (agrees-sound M (map_of t) agrees hole.sound) (shown-stands t M shows) bare inner outer_full starts_live

  pub cut-sphere : IsSphere t
  cut-sphere = sphere-from_map cut-sound (agrees-sphere M (map_of t) agrees hole.sound hole.sphere)

  -- a half edge that was live, and isn't of an edge at v, still is
  pub still_live : (x : ℕ) → IsLive s x → ((k : ℕ) → IsOutEdge s v k → x / 2 ≢ k / 2) → IsLive t x
  still_live x live apart =
      is_live-from (gives_up_edge removal) s.edges (x / 2) (is_live-parts (gives_up_edge s.removal) s.edges (x / 2) live).0
      (false_from_ne_true (gives_up_edge removal (x / 2)) (λ given.
      let at = (gives.edges (x / 2)).0 given in apart at.half at.out (sym at.is)))
