-- Two vertices in each other's place.
use Rattle.std.proofs.Common.{◌≡◌, ◌≢◌, inl, inr, ℕ, ◌+◌, ◌/◌, ◌==◌, ◌<◌, true, Bool, false, cond, List, [], ◌∷◌, length, Option, Some, None, slice_index, slice_index_or, refl, sym, ap, ◌∙◌, arith}
use Rattle.std.specs.Prelude.{swap}
use Rattle.std.specs.List.{enumerate_from}
use Rattle.std.proofs.lemmas.Bool.{cases_eq, cond_both}
use Rattle.std.proofs.lemmas.Bool.Decides.{nat_tests}
use Rattle.std.proofs.lemmas.List.{get_or-map, length-map, ext_get_or, same_lists}
use Rattle.std.proofs.lemmas.List.Edits.{length-swap, swapped_from_swap}
use Rattle.std.proofs.lemmas.List.FromFn.{get_or-enumerate_from, length-enumerate_from}
use Rattle.dcel_maps.specs.EditLists.{EditedBy}
use Rattle.dcel_maps.specs.EditLists.EditKind.{numbers_changed}
use Rattle.dcel_maps.specs.edits.Rename.{exchanged, renamed_origins, vertices_swapped}
use Rattle.dcel_maps.specs.Shapes.{AnchorsVertex, IsAnchored, IsLive, IsMesh, IsSized, IsSound, Mesh, Shape, edge_is_live, map_of, origin_of, vertex_anchor, vertex_is_live}
use Rattle.dcel_maps.specs.theory.Sound.{Sound, Sphere}
use Rattle.dcel_maps.proofs.Liveness.{vertex_live-parts}
use Rattle.dcel_maps.proofs.maps.Edits.{Renamed}
use Rattle.dcel_maps.proofs.maps.Lists.{comes_once}
use Rattle.dcel_maps.proofs.maps.Renames.{renamed_keeps}
use Rattle.dcel_maps.proofs.shapes.Maps.{map-sound, map-sphere, sphere-from_map}
use Rattle.dcel_maps.proofs.walks.Links.{half-below}
use Rattle.dcel_maps.proofs.shapes.Sizes.{sized_from, sized_faces}

-- what a and b and any other number become
pub exchanged-first : (a b : ℕ) → exchanged a b a ≡ b
exchanged-first a b = grind (arith, nat_tests)

pub exchanged-second : (a b : ℕ) → exchanged a b b ≡ a
exchanged-second a b = grind (arith, nat_tests)

pub exchanged-other : (a b v : ℕ) → v ≢ a → v ≢ b → exchanged a b v ≡ v
exchanged-other a b v not_a not_b = grind (arith, nat_tests)

-- exchanging twice changes nothing
exchanged-exchanged : (a b v : ℕ) → exchanged a b (exchanged a b v) ≡ v
exchanged-exchanged a b v = grind (arith, nat_tests)

exchanged-same : (a v : ℕ) → exchanged a a v ≡ v
exchanged-same a v = grind (arith, nat_tests)

-- so different numbers stay different
exchanged_apart : (a b v w : ℕ) → exchanged a b v ≡ exchanged a b w → v ≡ w
exchanged_apart a b v w same = sym (exchanged-exchanged a b v) ∙ ap (exchanged a b) same ∙ exchanged-exchanged a b w

-- what holds of a, of b and of v holds of what v becomes
exchanged_keeps : (P : ℕ → Type 0) (a b v : ℕ) → P a → P b → P v → P (exchanged a b v)
exchanged_keeps P a b v p q r = cond_both (v == a) b (cond (v == b) a v) P (λ is. q) (λ no. cond_both (v == b) a v P (λ is. p) (λ also. r))

-- the item v of a list where the items a and b are exchanged
get_or-swap : {A : Type 0} (l : List A) (a b v : ℕ) (d : A) → a < length l → b < length l
    → slice_index_or (swap l a b) v d ≡ slice_index_or l (exchanged a b v) d
get_or-swap l a b v d a_in b_in =
    let at = swapped_from_swap l (swap l a b) a b d a_in b_in refl in
    elim (cases_eq v a) [
      | inl is ↦ rw (is, exchanged-first) at.0
      | inr not_a ↦ elim (cases_eq v b) [
        | inl is ↦ rw (is, exchanged-second) at.1
        | inr not_b ↦ rw (exchanged-other a b v not_a not_b) (at.2 v not_a not_b)
      ]
    ]

swap-swap : {A : Type 0} (l : List A) (a b : ℕ) → a < length l → b < length l → swap (swap l a b) a b ≡ l
swap-swap l a b a_in b_in =
    let long = length-swap l a b in
    same_lists (swap (swap l a b) a b) l (length-swap (swap l a b) a b ∙ long) (λ v d within.
    get_or-swap (swap l a b) a b v d (omega (arith, a_in, long)) (omega (arith, b_in, long))
    ∙ get_or-swap l a b (exchanged a b v) d a_in b_in ∙ ap (λ w. slice_index_or l w d) (exchanged-exchanged a b v))

swap-same : {A : Type 0} (l : List A) (i : ℕ) → i < length l → swap l i i ≡ l
swap-same l i within =
    same_lists (swap l i i) l (length-swap l i i) (λ v d below.
    get_or-swap l i i v d within within ∙ ap (λ w. slice_index_or l w d) (exchanged-same i v))

pub length-renamed_origins : (s : Shape) (rename : ℕ → ℕ) → length (renamed_origins s rename) ≡ length s.origins
length-renamed_origins s rename = length-map (enumerate_from 0 s.origins) _ ∙ length-enumerate_from 0 s.origins

-- the origin of a live half edge is renamed, and the others stay
pub renamed_origins-at : (s : Shape) (rename : ℕ → ℕ) (h : ℕ) → h < length s.origins
    → slice_index (renamed_origins s rename) h ≡ cond (edge_is_live s (h / 2)) (rename (origin_of s h)) (origin_of s h)
renamed_origins-at s rename h within =
    let one : ℕ × ℕ → ℕ = λ start. cond (edge_is_live s (start.0 / 2)) (rename start.1) start.1 in
    let number : 0 + h ≡ h = omega arith in
    get_or-map one (enumerate_from 0 s.origins) h (0, 0) 0 (omega (arith, within, length-enumerate_from 0 s.origins))
    ∙ ap one (get_or-enumerate_from 0 s.origins h (0, 0) within)
    ∙ ap (λ k. one (k, origin_of s h)) number

-- names that are given and taken back, and names that are kept, leave the origins
renamed_origins-twice : (s : Shape) (rename : ℕ → ℕ) → ((v : ℕ) → rename (rename v) ≡ v)
    → renamed_origins (record s { origins = renamed_origins s rename }) rename ≡ s.origins
renamed_origins-twice s rename back =
    let once : Shape = record s { origins = renamed_origins s rename } in
    let long = length-renamed_origins s rename in
    let again = length-renamed_origins once rename in
    ext_get_or 0 (renamed_origins once rename) s.origins (again ∙ long) (λ h below.
    let within : h < length s.origins = omega (arith, below, again, long) in
    renamed_origins-at once rename h (omega (arith, within, long))
    ∙ ap (λ v. cond (edge_is_live s (h / 2)) (rename v) v) (renamed_origins-at s rename h within)
    ∙ twice (edge_is_live s (h / 2)) (origin_of s h))
  where
    twice : (p : Bool) (v : ℕ) → cond p (rename (cond p (rename v) v)) (cond p (rename v) v) ≡ v
    twice true v = back v
    twice false v = refl

renamed_origins-same : (s : Shape) (rename : ℕ → ℕ) → ((v : ℕ) → rename v ≡ v) → renamed_origins s rename ≡ s.origins
renamed_origins-same s rename same =
    let long = length-renamed_origins s rename in
    ext_get_or 0 (renamed_origins s rename) s.origins long (λ h below.
    renamed_origins-at s rename h (omega (arith, below, long))
    ∙ cond_both (edge_is_live s (h / 2)) (rename (origin_of s h)) (origin_of s h) (λ v. v ≡ origin_of s h)
    (λ live. same (origin_of s h)) (λ dead. refl))

module _ {V DE UE F : Type 0} (m : Mesh V DE UE F) (mesh : IsMesh m) (a b : ℕ)
    (a_live : vertex_is_live m.shape a ≡ true) (b_live : vertex_is_live m.shape b ≡ true) where
  abbrev s : Shape
  s = m.shape

  abbrev t : Shape
  t = (vertices_swapped m a b).shape

  -- both are in range
  a_below : a < s.vertices
  a_below = (vertex_live-parts s a a_live).0

  b_below : b < s.vertices
  b_below = (vertex_live-parts s b b_live).0

  origins-long : (h : ℕ) → IsLive s h → h < length s.origins
  origins-long h live = omega (arith, half-below s h live, mesh.sized.origins)

  pub swapped-origin : (h : ℕ) → IsLive s h → origin_of t h ≡ exchanged a b (origin_of s h)
  swapped-origin h live = renamed_origins-at s (exchanged a b) h (origins-long h live) ∙ rw live refl

  -- the map under other names
  renamed : Renamed (map_of s) (map_of t) (λ h. h) (λ h. h) (exchanged a b) (λ f. f)
  renamed =
      let sound = map-sound mesh.sound in
      record {
        lives = λ h live. live;
        comes = λ h live. live;
        forth = λ h live. refl;
        back = λ h live. refl;
        turn = λ h live. refl;
        next = λ h live. refl;
        prev = λ h live. refl;
        origin = swapped-origin;
        face = λ h live. refl;
        apart_origin = λ h k live_h live_k. exchanged_apart a b (origin_of s h) (origin_of s k);
        apart_face = λ h k live_h live_k same. same;
        below_edges = sound.below_edges;
        below_vertices = λ h live.
            rw (swapped-origin h live) (exchanged_keeps (λ v. v < s.vertices) a b (origin_of s h) a_below b_below (sound.below_vertices h live));
        below_faces = sound.below_faces;
      }

  pub swapped_made : EditedBy (numbers_changed ∷ []) m (vertices_swapped m a b)
  swapped_made = comes_once numbers_changed (map_of s) (map_of t) (λ h. h, λ h. h, exchanged a b, λ f. f, renamed)

  swapped_map : Sound (map_of t) × Sphere (map_of t)
  swapped_map =
      renamed_keeps (map_of s) (map_of t) (λ h. h) (λ h. h) (exchanged a b) (λ f. f) renamed (map-sound mesh.sound) (map-sphere mesh.sound mesh.sphere)

  swapped_sound : IsSound t
  swapped_sound = record {
    once = mesh.sound.once;
    no_other = mesh.sound.no_other;
    least_first = mesh.sound.least_first;
    bare = mesh.sound.bare;
    inner = mesh.sound.inner;
    outer = mesh.sound.outer;
    joined = swapped_map.0.origin-next;
    two_ends = swapped_map.0.two_ends;
    starts_live = λ h live.
        rw (swapped-origin h live)
        (exchanged_keeps (λ v. vertex_is_live s v ≡ true) a b (origin_of s h) a_live b_live (mesh.sound.starts_live h live));
    one_origin = swapped_map.0.one_origin;
  }

  -- what started at the one vertex starts at the other
  anchors_swapped : (v : ℕ) (o : Option ℕ) → AnchorsVertex s (exchanged a b v) o → AnchorsVertex t v o
  anchors_swapped v None bare = λ h live at.
      bare h live (sym (exchanged-exchanged a b (origin_of s h)) ∙ ap (exchanged a b) (sym (swapped-origin h live) ∙ at))
  anchors_swapped v (Some h) starts =
      (starts.0, swapped-origin h starts.0 ∙ ap (exchanged a b) starts.1 ∙ exchanged-exchanged a b v)

  swapped_anchored : IsAnchored (vertices_swapped m a b)
  swapped_anchored = record {
    vertices = λ v below.
        let long = mesh.sized.vertex_anchors in
        rw (get_or-swap m.vertex_anchors a b v None (omega (arith, a_below, long)) (omega (arith, b_below, long)))
        (anchors_swapped v (vertex_anchor m (exchanged a b v))
        (mesh.anchored.vertices (exchanged a b v) (exchanged_keeps (λ w. w < s.vertices) a b v a_below b_below below)));
    faces = mesh.anchored.faces;
  }

  swapped_sized : IsSized (vertices_swapped m a b)
  swapped_sized =
      let sized = mesh.sized in
      sized_from
      (record {
        long = length-swap m.vertex_data a b ∙ sized.vertex_data;
        anchored = length-swap m.vertex_anchors a b ∙ sized.vertex_anchors;
        few = sized.few_vertices;
      })
      (record {
        long = sized.undirected_data;
        halves_long = sized.directed_data;
        origins_long = length-renamed_origins s (exchanged a b) ∙ sized.origins;
        few = sized.few_edges;
      })
      (sized_faces sized) sized.outer sized.within

  pub swapped_is_mesh : IsMesh (vertices_swapped m a b)
  swapped_is_mesh = record {
    sound = swapped_sound;
    sphere = sphere-from_map swapped_sound swapped_map.1;
    anchored = swapped_anchored;
    sized = swapped_sized;
  }

  -- two swaps of the same vertices change nothing
  pub swapped-swapped : vertices_swapped (vertices_swapped m a b) a b ≡ m
  swapped-swapped =
      let anchors = mesh.sized.vertex_anchors in
      let vertices = mesh.sized.vertex_data in
      rw (
        renamed_origins-twice s (exchanged a b) (exchanged-exchanged a b),
        swap-swap m.vertex_anchors a b (omega (arith, a_below, anchors)) (omega (arith, b_below, anchors)),
        swap-swap m.vertex_data a b (omega (arith, a_below, vertices)) (omega (arith, b_below, vertices)),
      ) refl

-- and so does one of a vertex with itself
pub swapped-same : {V DE UE F : Type 0} (m : Mesh V DE UE F) → IsMesh m → (v : ℕ) → vertex_is_live m.shape v ≡ true → vertices_swapped m v v ≡ m
swapped-same m mesh v live =
    let below = (vertex_live-parts m.shape v live).0 in
    rw (
      renamed_origins-same m.shape (exchanged v v) (exchanged-same v),
      swap-same m.vertex_anchors v (omega (arith, below, mesh.sized.vertex_anchors)),
      swap-same m.vertex_data v (omega (arith, below, mesh.sized.vertex_data)),
    ) refl
