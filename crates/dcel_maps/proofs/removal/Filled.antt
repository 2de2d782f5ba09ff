-- The shape with its hole filled is sound and a sphere.
use Rattle.std.proofs.Common.{◌≡◌, ◌≢◌, ◌⊎◌, ◌↔◌, inl, inr, ◌+◌, ◌-◌, ◌*◌, ◌/◌, ◌<◌, ◌≤◌, ℕ, suc, true, false, List, [], ◌∷◌, length, slice_index, sym, refl, ap, ◌∙◌, subst, arith, ◌++◌}
use Rattle.std.proofs.lemmas.Bool.{both_ways, cases_Bool, cases_eq, cases_lt, false_from_ne_true}
use Rattle.std.proofs.lemmas.List.{get_or-append-add, get_or_append_left, length-append}
use Rattle.dcel_maps.specs.EditLists.{ComesBy, EditKind}
use Rattle.dcel_maps.specs.EditLists.EditKind.{ear_cut}
use Rattle.dcel_maps.specs.Hiding.{kept_words}
use Rattle.dcel_maps.specs.Maps.{Live, Map}
use Rattle.dcel_maps.specs.Removals.{Closed, Removal, gives_up_edge, gives_up_face, gives_up_vertex, shown}
use Rattle.dcel_maps.specs.Shapes.{IsLive, IsMesh, IsSound, IsSphere, Mesh, Shape, edge_is_live, face_count, face_is_live, face_of, map_of, origin_of, vertex_is_live}
use Rattle.dcel_maps.specs.theory.Standing.{Stands}
use Rattle.dcel_maps.specs.Words.{count_of, word_of}
use Rattle.dcel_maps.specs.edits.Fill.{ear_origins, ears, ring_filled}
use Rattle.dcel_maps.proofs.Liveness.{closed-live, gives_up_face-closed, is_live-from, is_live-parts, bare_word}
use Rattle.dcel_maps.proofs.maps.Lists.{comes_after, comes_then, one_each}
use Rattle.dcel_maps.proofs.Shown.{length-shown, slice_index-shown_live}
use Rattle.dcel_maps.proofs.maps.Agreement.{Agrees, agrees-sound, agrees-sphere, agrees_extends}
use Rattle.dcel_maps.proofs.maps.Counts.{same_tests}
use Rattle.dcel_maps.proofs.maps.Triangles.{triangle_from}
use Rattle.dcel_maps.proofs.removal.Ears.{ear_full, ear_words, ears_same, last_first, last_live, last_origin, length-ears, listed_origin, new_origin}
use Rattle.dcel_maps.proofs.removal.Fans.{EarOrigins, EarTriangles, FanAt, Fanned, fan, fanned, origins_same, fan_comes}
use Rattle.dcel_maps.proofs.removal.Hiding.{hidden, length-hiding, not_hidden}
use Rattle.dcel_maps.proofs.removal.Hollows.{HollowOf, StartsOnRing}
use Rattle.dcel_maps.proofs.removal.Spokes.{path_item}
use Rattle.dcel_maps.proofs.shapes.Maps.{map-sound, sound-from_map, sphere-from_map}
use Rattle.dcel_maps.proofs.shapes.Shown.{Shows, shown-agrees, shown-stands}
use Rattle.dcel_maps.proofs.walks.Links.{links_stand}
use Rattle.dcel_maps.proofs.words.Counts.{count-later, count-same}
use Rattle.dcel_maps.proofs.words.Faces.{IsWordOf, KeepsFace, edited_stands, keeps_face-then}

-- the ring (p, q, r, ..), and a record that gives up what lies inside it
module _ {V DE UE F : Type 0} (m : Mesh V DE UE F) (p q r : ℕ) (rest : List ℕ) (halves : List DE) (edges : List UE) (faces : List F) (mesh : IsMesh m) (closed : m.shape.removal ≡ Closed) (removal : Removal) (hole : HollowOf m.shape removal (p ∷ q ∷ r ∷ rest) (face_count m.shape + length rest)) where
  abbrev s : Shape
  s = m.shape

  abbrev t : Shape
  t = (ring_filled m removal p q r rest halves edges faces).shape

  abbrev L : ℕ
  L = face_count s

  abbrev k : ℕ
  k = length rest

  abbrev P : Map
  P = hole.map

  ring_live : (y : ℕ) → 0 < count_of y (p ∷ q ∷ r ∷ rest) → Live P y
  ring_live y found = (path_item P (L + k) p (q ∷ r ∷ rest) p hole.cycle y found).0

  -- what is live in the hole was live, and lies on an old face or along the ring
  was_live : (x : ℕ) → Live P x → IsLive s x
  was_live x live = let below = hole.sound.below_edges x live in closed-live s closed (x / 2) (omega (arith, below, hole.edge_count))

  old_face : (x : ℕ) → Live P x → (P.face x < L) ⊎ (P.face x ≡ L + k)
  old_face x live = elim (cases_eq (P.face x) (L + k)) [
    | inl same ↦ inr same
    | inr other ↦ elim (hole.cases x live) [
      | inl same ↦ inr same
      | inr kept ↦
          let was = (hole.keeps_face (P.face x) other kept).comes x live refl in
          let below = (map-sound mesh.sound).below_faces x was.0 in
          inl (omega (arith, below, was.1))
    ]
  ]

  fan_at : FanAt P s.edges L (L + k) p q r rest
  fan_at =
      record {
        sound = hole.sound;
        sphere = hole.sphere;
        cycle = hole.cycle;
        alone = λ y found same. hole.alone y (count-later y q (r ∷ rest) found) (sym (hole.origin y) ∙ same ∙ hole.origin p);
        edges = hole.edge_count;
        faces = omega (arith, hole.face_number);
        last = refl;
        occupied = old_face;
      }

  M : Map
  M = fan P s.edges L p q r rest

  A : Fanned P M s.edges L (L + k) p q r rest
  unfolding M
  A = fanned rest P s.edges L (L + k) p q r fan_at

  edge_below : (u : ℕ) → gives_up_edge removal u ≡ true → u < s.edges
  edge_below = hole.within.edges

  pub face_below : (f : ℕ) → gives_up_face removal f ≡ true → (0 < f) × (f < L)
  face_below = hole.within.faces

  to_map : (u : ℕ) → edge_is_live t u ≡ true → M.edge u ≡ true
  to_map u live =
      let parts = is_live-parts (gives_up_edge removal) (s.edges + k) u live in
      elim (cases_lt u s.edges) [
        | inl below ↦
            A.edge_old u below ∙ hole.kept u parts.1 ∙ closed-live s closed u below
        | inr past ↦ A.edge_new u past parts.0
      ]

  from_map : (u : ℕ) → M.edge u ≡ true → edge_is_live t u ≡ true
  from_map u on =
      let half : 2 * u / 2 ≡ u = omega arith in
      let below = A.sound.below_edges (2 * u) (ap M.edge half ∙ on) in
      is_live-from (gives_up_edge removal) (s.edges + k) u (omega (arith, below, half, A.edges))
      (false_from_ne_true (gives_up_edge removal u) (λ given.
      both_ways (M.edge u) (A.edge_old u (edge_below u given) ∙ hole.gone u given) on))

  edge_test : (u : ℕ) → edge_is_live t u ≡ M.edge u
  edge_test u = same_tests (edge_is_live t u) (M.edge u) (to_map u) (from_map u)

  -- the words: none for the faces given up, the old ones, and the ears
  kept_long : length (kept_words removal s.words) ≡ L
  kept_long = length-hiding (gives_up_face removal) [] s.words

  pub words_long : length t.words ≡ L + suc k
  words_long = omega (arith, length-append (kept_words removal s.words) (ears s.edges p q r rest), kept_long, length-ears s.edges p q r rest)

  word-old : (f : ℕ) → f < L → word_of t.words f ≡ word_of (kept_words removal s.words) f
  word-old f below = get_or_append_left (kept_words removal s.words) (ears s.edges p q r rest) [] f (omega (arith, below, kept_long))

  pub word-given : (f : ℕ) → gives_up_face removal f ≡ true → word_of t.words f ≡ []
  word-given f given = word-old f (face_below f given).1 ∙ hidden (gives_up_face removal) [] s.words f given

  pub word-kept : (f : ℕ) → f < L → gives_up_face removal f ≡ false → word_of t.words f ≡ word_of s.words f
  word-kept f below kept = word-old f below ∙ not_hidden (gives_up_face removal) [] s.words f kept

  pub word-ear : (i : ℕ) → word_of t.words (L + i) ≡ word_of (ears s.edges p q r rest) i
  word-ear i =
      ap (λ z. word_of t.words (z + i)) (sym kept_long) ∙ get_or-append-add (kept_words removal s.words) (ears s.edges p q r rest) i []

  -- no half edge lies on a face that is given up
  vacant : (f : ℕ) → gives_up_face removal f ≡ true → (x : ℕ) → Live M x → M.face x ≢ f
  vacant f given x live at =
      let below = (face_below f given).1 in
      let old = (A.keeps_face f below).comes x live at in
      elim (hole.cases x old.0) [
        | inl along ↦ omega (arith, below, old.1, along)
        | inr kept ↦ both_ways (gives_up_face removal f) (ap (gives_up_face removal) (sym old.1) ∙ kept) given
      ]

  keeps : (f : ℕ) → f < L → gives_up_face removal f ≡ false → KeepsFace (map_of s) M f
  keeps f below kept =
      keeps_face-then (map_of s) P M f
      (hole.keeps_face f (λ i. omega (arith, below, i)) kept)
      (A.keeps_face f below)

  words_stand : Stands M t.words
  words_stand =
      edited_stands (map_of s) M s.words t.words A.sound (links_stand mesh.sound) (omega (arith, words_long, A.faces)) (λ f within.
      elim (cases_lt f L) [
        | inl below ↦ elim (cases_Bool (gives_up_face removal f)) [
          | inl given ↦
              inl (subst (IsWordOf M f) (sym (word-given f given))
              (record { cycle = tt; once = λ x live at. absurd (vacant f given x live at); least = tt }))
          | inr kept ↦ inr (keeps f below kept, word-kept f below kept)
        ]
        | inr past ↦
            let place : L + (f - L) ≡ f = omega (arith, past) in
            inl (subst (λ g. IsWordOf M g (word_of t.words g)) place
            (subst (IsWordOf M (L + (f - L))) (sym (word-ear (f - L)))
            (ear_words M A.sound s.edges L p q r rest A.triangles (f - L) (omega (arith, within, words_long, past)))))
      ])

  -- the origins
  origins_long : length (shown (gives_up_edge removal) s.origins) ≡ 2 * s.edges
  origins_long = length-shown (gives_up_edge removal) s.origins ∙ mesh.sized.origins

  new_origins : EarOrigins M s.edges (origin_of s) (origin_of s p) r rest
  new_origins = origins_same M P.origin (origin_of s) (P.origin p) (origin_of s p) (hole.origin p) s.edges r rest (λ y found. hole.origin y) A.origins

  old_live : (x : ℕ) → Live M x → x < 2 * s.edges → Live P x
  old_live x live below = sym (A.edge_old (x / 2) (omega (arith, below))) ∙ live

  origin-old : (x : ℕ) → Live P x → M.origin x ≡ origin_of s x
  origin-old x live = A.origin_old x live ∙ hole.origin x

  origin-is : (x : ℕ) → Live M x → origin_of t x ≡ M.origin x
  origin-is x live = elim (cases_lt x (2 * s.edges)) [
    | inl below ↦
        let parts = is_live-parts (gives_up_edge removal) (s.edges + k) (x / 2) (edge_test (x / 2) ∙ live) in
        get_or_append_left (shown (gives_up_edge removal) s.origins) (ear_origins (origin_of s) (origin_of s p) r rest) 0 x (omega (arith, below, origins_long))
        ∙ slice_index-shown_live (gives_up_edge removal) s.origins x parts.1
        ∙ sym (origin-old x (old_live x live below))
    | inr past ↦
        let i = x - 2 * s.edges in
        let place : 2 * s.edges + i ≡ x = omega (arith, past) in
        let few = A.sound.below_edges x live in
        ap (λ z. slice_index t.origins z) (sym place)
        ∙ ap (λ z. slice_index t.origins (z + i)) (sym origins_long)
        ∙ get_or-append-add (shown (gives_up_edge removal) s.origins) (ear_origins (origin_of s) (origin_of s p) r rest) i 0
        ∙ listed_origin M s.edges (origin_of s) (origin_of s p) r rest new_origins i (omega (arith, few, A.edges, past))
        ∙ ap M.origin place
  ]

  -- what holds of the vertices where old half edges start holds of those where any half edge starts
  each_origin : (Q : ℕ → Type 0) → ((x : ℕ) → Live P x → Q (origin_of s x)) → (x : ℕ) → Live M x → Q (M.origin x)
  each_origin Q old x live = elim (cases_lt x (2 * s.edges)) [
    | inl below ↦ let was = old_live x live below in subst Q (sym (origin-old x was)) (old x was)
    | inr past ↦
        let i = x - 2 * s.edges in
        let place : 2 * s.edges + i ≡ x = omega (arith, past) in
        let few = A.sound.below_edges x live in
        subst (λ z. Q (M.origin z)) place
        (new_origin M Q s.edges (origin_of s) (origin_of s p) r rest new_origins
        (old p (ring_live p (omega (arith, count-same p (q ∷ r ∷ rest)))))
        (λ y found. old y (ring_live y (count-later y p (q ∷ r ∷ rest) (count-later y q (r ∷ rest) found))))
        i (omega (arith, few, A.edges, past)))
  ]

  -- no half edge starts at a vertex that is given up
  vertex_bare : (v : ℕ) → gives_up_vertex removal v ≡ true → (x : ℕ) → Live M x → M.origin x ≢ v
  vertex_bare v given = each_origin (λ w. w ≢ v) (λ x live at. hole.bare v given x live (hole.origin x ∙ at))

  shows : Shows t M
  shows = record {
    vertices = sym (A.vertices ∙ hole.vertex_count);
    edges = sym A.edges;
    edge = edge_test;
    origin = origin-is;
    stands = words_stand;
  }

  agrees : Agrees M (map_of t)
  agrees = shown-agrees t M shows

  -- the hole is filled by ears
  pub filled_comes : (kinds : List EditKind) → ComesBy kinds (map_of s) hole.map → ComesBy (kinds ++ one_each ear_cut rest) (map_of s) (map_of t)
  unfolding M
  filled_comes kinds comes =
      comes_after (kinds ++ one_each ear_cut rest) (map_of s) M (map_of t)
      (comes_then kinds (one_each ear_cut rest) (map_of s) P M comes (fan_comes rest P s.edges L (L + k) p q r fan_at))
      (agrees_extends M (map_of t) agrees)

  in_map : (x : ℕ) → IsLive t x → Live M x
  in_map x live = sym (edge_test (x / 2)) ∙ live

  bare : (f : ℕ) → face_is_live t f ≡ false → word_of t.words f ≡ []
  bare = bare_word t word-given

  inner : (f : ℕ) → 0 < f → face_is_live t f ≡ true → word_of t.words f ≢ []
  inner f inside live empty =
      let parts = is_live-parts (gives_up_face removal) (face_count t) f live in
      elim (cases_lt f L) [
        | inl below ↦
            mesh.sound.inner f inside (is_live-from (gives_up_face s.removal) L f below (ap (λ rec. gives_up_face rec f) closed ∙ gives_up_face-closed f))
            (sym (word-kept f below parts.1) ∙ empty)
        | inr past ↦
            let place : L + (f - L) ≡ f = omega (arith, past) in
            let three = ear_full s.edges p q r rest (f - L) (omega (arith, parts.0, words_long, past)) in
            let none : length (word_of (ears s.edges p q r rest) (f - L)) ≡ 0 = ap length (sym (word-ear (f - L)) ∙ ap (word_of t.words) place ∙ empty) in
            omega (arith, three, none)
      ]

  outer : (word_of t.words 0 ≡ []) ↔ ((u : ℕ) → edge_is_live t u ≡ false)
  outer =
      let kept : gives_up_face removal 0 ≡ false = false_from_ne_true (gives_up_face removal 0) (λ given. let parts = face_below 0 given in omega (arith, parts.0)) in (
        λ empty.
            let all_dead = mesh.sound.outer.0 (sym (word-kept 0 mesh.sized.outer kept) ∙ empty) in
            absurd (both_ways (edge_is_live s (p / 2)) (all_dead (p / 2)) (was_live p (ring_live p (omega (arith, count-same p (q ∷ r ∷ rest)))))),
        λ dead.
            let live = A.stays_live p (ring_live p (omega (arith, count-same p (q ∷ r ∷ rest)))) in
            absurd (both_ways (edge_is_live t (p / 2)) (dead (p / 2)) (edge_test (p / 2) ∙ live)),
      )

  starts_live : (x : ℕ) → IsLive t x → vertex_is_live t (origin_of t x) ≡ true
  starts_live x live =
      let lives = in_map x live in
      let at = origin-is x lives in
      let below = A.sound.below_vertices x lives in
      is_live-from (gives_up_vertex removal) s.vertices (origin_of t x) (omega (arith, below, at, A.vertices, hole.vertex_count))
      (false_from_ne_true (gives_up_vertex removal (origin_of t x)) (λ given. vertex_bare (origin_of t x) given x lives (sym at)))

  pub filled-sound : IsSound t
  filled-sound = sound-from_map t (agrees-sound M (map_of t) agrees A.sound) (shown-stands t M shows) bare inner outer starts_live

  pub filled-sphere : IsSphere t
  filled-sphere = sphere-from_map filled-sound (agrees-sphere M (map_of t) agrees A.sound A.sphere)

  -- an old half edge is given up, or live as before
  pub old_kept : (x : ℕ) → IsLive s x → StartsOnRing s removal (p ∷ q ∷ r ∷ rest) x ⊎ (IsLive t x × (origin_of t x ≡ origin_of s x))
  old_kept x live = elim (cases_Bool (gives_up_edge removal (x / 2))) [
    | inl given ↦ inl (hole.on_ring x live given)
    | inr kept ↦
        let below = (is_live-parts (gives_up_edge s.removal) s.edges (x / 2) live).0 in
        let lives : IsLive t x = is_live-from (gives_up_edge removal) (s.edges + k) (x / 2) (omega (arith, below)) kept in
        let there = in_map x lives in
        inr (lives, origin-is x there ∙ origin-old x (old_live x there (omega (arith, below))))
  ]

  -- a half edge starts where an old one does
  pub from_old : (x : ℕ) → IsLive t x → (y : ℕ) × IsLive s y × (origin_of s y ≡ origin_of t x)
  from_old x live =
      let lives = in_map x live in
      let (y, was, at) = each_origin (λ w. (y : ℕ) × IsLive s y × (origin_of s y ≡ w)) (λ z was. (z, was_live z was, refl)) x lives in
      (y, was, at ∙ sym (origin-is x lives))

  -- none at a vertex that is given up, and those of the ring where they did
  pub none_at : (v : ℕ) → gives_up_vertex removal v ≡ true → (x : ℕ) → IsLive t x → origin_of t x ≢ v
  none_at v given x live at = vertex_bare v given x (in_map x live) (sym (origin-is x (in_map x live)) ∙ at)

  pub item_kept : (y : ℕ) → 0 < count_of y (p ∷ q ∷ r ∷ rest) → IsLive t y × (origin_of t y ≡ origin_of s y)
  item_kept y found =
      let was = ring_live y found in
      let live = A.stays_live y was in
      (edge_test (y / 2) ∙ live, origin-is y live ∙ origin-old y was)

  pub last_kept : IsLive t (last_first s.edges p rest) × (origin_of t (last_first s.edges p rest) ≡ origin_of s p)
  last_kept =
      let h = last_first s.edges p rest in
      let live = last_live M s.edges L p q r rest A.triangles in (
        edge_test (h / 2) ∙ live,
        origin-is h live
            ∙ last_origin M s.edges (origin_of s) (origin_of s p) p r rest new_origins (origin-old p (ring_live p (omega (arith, count-same p (q ∷ r ∷ rest))))),
      )

  pub given_below : (u : ℕ) → gives_up_edge removal u ≡ true → u < s.edges
  given_below = edge_below

  -- the links of the new shape: those round the ears, and those of the faces that are kept
  pub ears_held : EarTriangles (map_of t) s.edges L p q r rest
  ears_held =
      let sound = map-sound filled-sound in
      ears_same M (map_of t) (λ f x y z a.
      triangle_from (map_of t) sound f x y z (edge_test (x / 2) ∙ a.live_x) (agrees.next x a.live_x ∙ a.next_x) (agrees.next y a.live_y ∙ a.next_y)
      (agrees.next z a.live_z ∙ a.next_z) (agrees.face x a.live_x ∙ a.face_x)) s.edges L p q r rest A.triangles

  pub face_held : (f : ℕ) → f < L → gives_up_face removal f ≡ false → KeepsFace (map_of s) (map_of t) f
  face_held f below kept =
      let same = keeps f below kept in
      record {
        comes = λ x live at. same.comes x (in_map x live) (sym (agrees.face x (in_map x live)) ∙ at);
        live = λ x live at. edge_test (x / 2) ∙ same.live x live at;
        next = λ x live at. agrees.next x (same.live x live at) ∙ same.next x live at;
        prev = λ x live at. agrees.prev x (same.live x live at) ∙ same.prev x live at;
        face = λ x live at. agrees.face x (same.live x live at) ∙ same.face x live at;
      }

  pub new_or_held : (x : ℕ) → IsLive t x → (L ≤ face_of t x) ⊎ ((face_of t x < L) × (gives_up_face removal (face_of t x) ≡ false))
  new_or_held x live = elim (cases_lt (face_of t x) L) [
    | inl below ↦
        inr (
          below,
          false_from_ne_true (gives_up_face removal (face_of t x)) (λ given.
              vacant (face_of t x) given x (in_map x live) (sym (agrees.face x (in_map x live)))),
        )
    | inr past ↦ inl past
  ]
