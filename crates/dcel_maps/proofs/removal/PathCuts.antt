-- A path with a vertex and one of its edges given up is sound, and a sphere, where a map for what is left is.
use Rattle.std.proofs.Common.{◌≡◌, ◌≢◌, ◌↔◌, inl, inr, ◌*◌, ◌/◌, ◌<◌, ◌==◌, ℕ, true, false, eq-eqb, List, [], ◌∷◌, slice_index, slice_set, sym, refl, ap, ◌∙◌, subst, arith}
use Rattle.std.proofs.lemmas.Bool.{both_ways, cases_eq, false_from_ne_true, ne_eqb}
use Rattle.std.proofs.lemmas.List.{get_or-set_same, get_or_past, length-set}
use Rattle.dcel_fixed.specs.HalfEdges.{rev}
use Rattle.dcel_maps.specs.EditLists.{ComesBy, EditKind}
use Rattle.dcel_maps.specs.edits.Degenerate.{word_without}
use Rattle.dcel_maps.specs.Maps.{Live, Map}
use Rattle.dcel_maps.specs.Removals.{Closed, Removal, gives_up_edge, gives_up_face, gives_up_vertex, is_live, opened, shown}
use Rattle.dcel_maps.specs.Shapes.{IsLive, IsSound, IsSphere, Shape, edge_is_live, end_of, face_count, face_is_live, map_of, origin_of, vertex_is_live}
use Rattle.dcel_maps.specs.theory.Sound.{Sound, Sphere}
use Rattle.dcel_maps.specs.theory.Standing.{Stands}
use Rattle.dcel_maps.specs.Words.{become, count_of, word_of}
use Rattle.dcel_maps.proofs.Liveness.{gives_up_edge-closed, is_live-cases, is_live-from, is_live-given_up, is_live-parts}
use Rattle.dcel_maps.proofs.maps.Lists.{comes_after}
use Rattle.dcel_maps.proofs.Shown.{slice_index-shown_live}
use Rattle.dcel_maps.proofs.maps.Agreement.{agrees-sound, agrees-sphere, agrees_extends}
use Rattle.dcel_maps.proofs.shapes.Maps.{sound-from_map, sphere-from_map, word_cases}
use Rattle.dcel_maps.proofs.shapes.Shown.{Shows, shown-agrees, shown-stands}
use Rattle.dcel_maps.proofs.words.Becoming.{count-replaced}
use Rattle.dcel_maps.proofs.words.Counts.{count-other, count-same}
use Rattle.dcel_maps.proofs.words.Faces.{IsWordOf, stands_from_faces}
use Rattle.dcel_maps.proofs.words.Reading.{live_in, stands_in_face}
use Rattle.dcel_maps.proofs.words.Turns.{count-turn, from_least-turn}

-- what is counted where an item is taken out of a list
pub count-out_same : (x : ℕ) (w : List ℕ) → count_of x (become x [] w) ≡ 0
count-out_same x w = omega (arith, count-replaced x x [] w, ap (λ k. k * count_of x w) (count-same x []))

pub count-out_other : (h x : ℕ) (w : List ℕ) → h ≢ x → count_of h (become x [] w) ≡ count_of h w
count-out_other h x w other = omega (arith, count-replaced h x [] w, ap (λ k. k * count_of x w) (count-other h x [] other))

module _ (s : Shape) (b : ℕ) where
  written : (x : ℕ) → count_of x (word_without s b) ≡ count_of x (become (rev b) [] (become b [] (word_of s.words 0)))
  written x = count-turn x (from_least-turn (become (rev b) [] (become b [] (word_of s.words 0))))

  -- the outer word holds what it held, but for the halves of the edge of b
  pub count-without_other : (x : ℕ) → x ≢ b → x ≢ rev b → count_of x (word_without s b) ≡ count_of x (word_of s.words 0)
  count-without_other x not_b not_rev =
      written x ∙ count-out_other x (rev b) (become b [] (word_of s.words 0)) not_rev ∙ count-out_other x b (word_of s.words 0) not_b

  pub count-without_rev : count_of (rev b) (word_without s b) ≡ 0
  count-without_rev = written (rev b) ∙ count-out_same (rev b) (become b [] (word_of s.words 0))

  pub count-without_same : b ≢ rev b → count_of b (word_without s b) ≡ 0
  count-without_same apart =
      written b ∙ count-out_other b (rev b) (become b [] (word_of s.words 0)) apart ∙ count-out_same b (word_of s.words 0)

-- the record of one edge and one vertex
module _ (u v : ℕ) where
  pub gives_one_edge : (w : ℕ) → gives_up_edge (opened (u ∷ []) [] v) w ≡ (u == w)
  unfolding gives_up_edge
  gives_one_edge w = elim (cases_eq u w) [ inl i ↦ rw (eq-eqb u w i) refl | inr d ↦ rw (ne_eqb u w d) refl ]

  pub gives_no_face : (f : ℕ) → gives_up_face (opened (u ∷ []) [] v) f ≡ false
  unfolding gives_up_face
  gives_no_face f = refl

  pub gives_one_vertex : (w : ℕ) → gives_up_vertex (opened (u ∷ []) [] v) w ≡ (v == w)
  unfolding gives_up_vertex
  gives_one_vertex w = refl

module _ (s : Shape) (v a b : ℕ) (closed : s.removal ≡ Closed) (one : face_count s ≡ 1) where
  abbrev pub removal : Removal
  removal = opened (b / 2 ∷ []) [] v

  abbrev pub starts : List ℕ
  starts = slice_set s.origins a (end_of s b)

  abbrev pub after : Shape
  after = record s {
    words = slice_set s.words 0 (word_without s b);
    origins = shown (gives_up_edge removal) starts;
    removal = removal;
  }

  -- the edge of b is given up, and no other
  pub edge_gone : edge_is_live after (b / 2) ≡ false
  edge_gone = is_live-given_up (gives_up_edge removal) s.edges (b / 2) (gives_one_edge (b / 2) v (b / 2) ∙ eq-eqb (b / 2) (b / 2) refl)

  pub edge_kept : (w : ℕ) → w ≢ b / 2 → edge_is_live after w ≡ edge_is_live s w
  edge_kept w other =
      ap (λ given. is_live (λ (x : ℕ). given) s.edges w)
      (gives_one_edge (b / 2) v w ∙ ne_eqb (b / 2) w (λ is. other (sym is)) ∙ sym (ap (λ r. gives_up_edge r w) closed ∙ gives_up_edge-closed w))

  pub faces_kept : face_count after ≡ face_count s
  faces_kept = length-set s.words 0 (word_without s b)

  pub word-after : word_of after.words 0 ≡ word_without s b
  word-after = get_or-set_same s.words 0 (word_without s b) [] (omega (arith, one))

  -- a half edge that is live starts where it is written to start
  pub origin-after : (h : ℕ) → IsLive after h → origin_of after h ≡ slice_index starts h
  origin-after h live =
      slice_index-shown_live (gives_up_edge removal) starts h (is_live-parts (gives_up_edge removal) s.edges (h / 2) live).1

  -- a map for what is left, in which no half edge starts at v
  pub record IsLeft (M : Map) : Type 0 where
    pub vertices : M.vertices ≡ s.vertices
    pub edges : M.edges ≡ s.edges
    pub faces : M.faces ≡ face_count s
    pub edge_here : M.edge (b / 2) ≡ false
    pub edge_other : (w : ℕ) → w ≢ b / 2 → M.edge w ≡ edge_is_live s w
    pub origin : (h : ℕ) → Live M h → M.origin h ≡ slice_index starts h
    pub word : IsWordOf M 0 (word_without s b)
    pub sound : Sound M
    pub sphere : Sphere M
    pub isolated : (h : ℕ) → Live M h → M.origin h ≢ v

  module _ (M : Map) (e : IsLeft M) where
    pub left_edge : (w : ℕ) → edge_is_live after w ≡ M.edge w
    left_edge w = elim (cases_eq w (b / 2)) [
      | inl is ↦ ap (edge_is_live after) is ∙ edge_gone ∙ sym (ap M.edge is ∙ e.edge_here)
      | inr other ↦ edge_kept w other ∙ sym (e.edge_other w other)
    ]

    in_map : (h : ℕ) → IsLive after h → Live M h
    in_map h live = sym (left_edge (h / 2)) ∙ live

    left_stands : Stands M after.words
    left_stands = stands_from_faces M e.sound after.words (faces_kept ∙ sym e.faces) (λ f within.
        let outer : 0 ≡ f = omega (arith, within, faces_kept, one) in
        subst (λ g. IsWordOf M g (word_of after.words g)) outer (subst (IsWordOf M 0) (sym word-after) e.word))

    left_shows : Shows after M
    left_shows = record {
      vertices = sym e.vertices;
      edges = sym e.edges;
      edge = left_edge;
      origin = λ h live. origin-after h (left_edge (h / 2) ∙ live) ∙ sym (e.origin h live);
      stands = left_stands;
    }

    pub left_comes : (kinds : List EditKind) → ComesBy kinds (map_of s) M → ComesBy kinds (map_of s) (map_of after)
    left_comes kinds comes =
        comes_after kinds (map_of s) M (map_of after) comes (agrees_extends M (map_of after) (shown-agrees after M left_shows))

    -- a live half edge stands in the outer word
    pub on_outer : (h : ℕ) → IsLive after h → 0 < count_of h (word_of after.words 0)
    on_outer h live =
        let lives = in_map h live in
        let outer : M.face h ≡ 0 = omega (arith, e.sound.below_faces h lives, e.faces, one) in
        subst (λ f. 0 < count_of h (word_of after.words f)) outer (stands_in_face M after.words left_stands h lives)

    pub left_none_at : (h : ℕ) → IsLive after h → origin_of after h ≢ v
    left_none_at h live at = let lives = in_map h live in e.isolated h lives (e.origin h lives ∙ sym (origin-after h live) ∙ at)

    bare : (f : ℕ) → face_is_live after f ≡ false → word_of after.words f ≡ []
    bare f dead = elim (is_live-cases (gives_up_face removal) (face_count after) f dead) [
      | inl past ↦ get_or_past after.words f [] past
      | inr given ↦ absurd (both_ways (gives_up_face removal f) (gives_no_face (b / 2) v f) given)
    ]

    inner : (f : ℕ) → 0 < f → face_is_live after f ≡ true → (word_of after.words f ≡ []) → ⊥
    inner f inside live empty =
        let below = (is_live-parts (gives_up_face removal) (face_count after) f live).0 in omega (arith, below, inside, faces_kept, one)

    outer : (word_of after.words 0 ≡ []) ↔ ((u : ℕ) → edge_is_live after u ≡ false)
    outer = (
      λ empty u. false_from_ne_true (edge_is_live after u) (λ live.
          let half : 2 * u / 2 ≡ u = omega arith in
          let there = on_outer (2 * u) (ap (edge_is_live after) half ∙ live) in
          omega (arith, there, ap (count_of (2 * u)) empty)),
      λ dead. elim (word_cases (word_of after.words 0)) [
        | inl empty ↦ empty
        | inr (h, found) ↦
            absurd (both_ways (edge_is_live after (h / 2)) (dead (h / 2)) (left_edge (h / 2) ∙ live_in M after.words left_stands h 0 found))
      ],
    )

    starts_live : (h : ℕ) → IsLive after h → vertex_is_live after (origin_of after h) ≡ true
    starts_live h live =
        let lives = in_map h live in
        let same = e.origin h lives ∙ sym (origin-after h live) in
        is_live-from (gives_up_vertex removal) s.vertices (origin_of after h) (omega (arith, e.sound.below_vertices h lives, e.vertices, same))
        (gives_one_vertex (b / 2) v (origin_of after h) ∙ ne_eqb v (origin_of after h) (λ is. left_none_at h live (sym is)))

    pub left_sound : IsSound after
    left_sound =
        sound-from_map after (agrees-sound M (map_of after) (shown-agrees after M left_shows) e.sound) (shown-stands after M left_shows) bare
        inner outer starts_live

    pub left_sphere : IsSphere after
    left_sphere = sphere-from_map left_sound (agrees-sphere M (map_of after) (shown-agrees after M left_shows) e.sound e.sphere)
