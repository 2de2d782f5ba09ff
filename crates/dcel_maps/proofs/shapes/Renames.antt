-- Other numbers keep a shape sound and a sphere.
use Rattle.std.proofs.Common.{◌≡◌, ◌≢◌, ◌↔◌, inl, inr, ℕ, ◌*◌, ◌/◌, ◌<◌, true, false, [], ◌∷◌, map, refl, sym, ap, ◌∙◌, arith}
use Rattle.std.proofs.lemmas.Bool.{both_ways, cases_lt, false_from_ne_true}
use Rattle.std.proofs.lemmas.List.{get_or_past}
use Rattle.dcel_fixed.specs.HalfEdges.{rev}
use Rattle.dcel_maps.specs.Cyclic.{from_least}
use Rattle.dcel_maps.specs.EditLists.{ComesBy}
use Rattle.dcel_maps.specs.EditLists.EditKind.{numbers_changed}
use Rattle.dcel_maps.specs.Maps.{Map}
use Rattle.dcel_maps.specs.Removals.{gives_up_edge, gives_up_face, gives_up_vertex}
use Rattle.dcel_maps.specs.Shapes.{IsLive, IsSound, IsSphere, Shape, edge_is_live, face_count, face_is_live, face_of, map_of, next_of, origin_of, prev_of, vertex_is_live}
use Rattle.dcel_maps.specs.Words.{word_of}
use Rattle.dcel_maps.specs.theory.Sound.{Sound}
use Rattle.dcel_maps.specs.theory.Standing.{Stands}
use Rattle.dcel_maps.proofs.Liveness.{is_live-parts}
use Rattle.dcel_maps.proofs.maps.Agreement.{Agrees, agrees-sound, agrees-sphere, agrees_extends}
use Rattle.dcel_maps.proofs.maps.Edits.{Renamed}
use Rattle.dcel_maps.proofs.maps.Lists.{comes_after, comes_once}
use Rattle.dcel_maps.proofs.maps.Renames.{renamed_sound, renamed_sphere}
use Rattle.dcel_maps.proofs.shapes.Maps.{face-live, map-sound, map-sphere, sound-from_map, sphere-from_map}
use Rattle.dcel_maps.proofs.walks.Links.{links_stand}
use Rattle.dcel_maps.proofs.words.Agreement.{same_words_stand}
use Rattle.dcel_maps.proofs.words.Reading.{face_in-is, next_in-is, prev_in-is}
use Rattle.dcel_maps.proofs.words.Renames.{WordsRenamed, renamed_empty, renamed_stand}

-- the faces of T are those of S with other numbers, given by w (back by w'), where half edges have others by f
pub record FacesRenamed (S T : Shape) (f w w' : ℕ → ℕ) : Type 0 where
  pub face : (g : ℕ) → face_is_live S g ≡ true → face_is_live T (w g) ≡ true
  pub face_forth : (g : ℕ) → face_is_live S g ≡ true → w' (w g) ≡ g
  pub face_back : (g : ℕ) → g < face_count T → w (w' g) ≡ g
  pub face_within : (g : ℕ) → g < face_count T → w' g < face_count S
  pub face_comes : (g : ℕ) → g < face_count T → face_is_live T g ≡ face_is_live S (w' g)
  pub inner : (g : ℕ) → 0 < g → g < face_count T → 0 < w' g
  pub word : (g : ℕ) → g < face_count T → word_of T.words g ≡ from_least (map f (word_of S.words (w' g)))
  pub outer : word_of T.words 0 ≡ from_least (map f (word_of S.words 0))

-- T is S with other numbers: half edges by f (back by f'), vertices by o (back by o'), faces by w (back by w')
pub record IsRenamed (S T : Shape) (f f' o o' w w' : ℕ → ℕ) : Type 0 where
  pub lives : (x : ℕ) → IsLive S x → IsLive T (f x)
  pub comes : (y : ℕ) → IsLive T y → IsLive S (f' y)
  pub forth : (x : ℕ) → IsLive S x → f' (f x) ≡ x
  pub back : (y : ℕ) → IsLive T y → f (f' y) ≡ y
  pub turn : (x : ℕ) → rev (f x) ≡ f (rev x)
  pub origin : (x : ℕ) → IsLive S x → origin_of T (f x) ≡ o (origin_of S x)
  pub vertex : (x : ℕ) → IsLive S x → vertex_is_live T (o (origin_of S x)) ≡ true
  pub vertex_forth : (x : ℕ) → IsLive S x → o' (o (origin_of S x)) ≡ origin_of S x
  pub on_faces : FacesRenamed S T f w w'
  pub open on_faces use *

-- the links of S under the other numbers, with the counts of T
abbrev renamed_map : Shape → Shape → (ℕ → ℕ) → (ℕ → ℕ) → (ℕ → ℕ) → (ℕ → ℕ) → Map
renamed_map S T f f' o w = record {
  vertices = T.vertices;
  edges = T.edges;
  faces = face_count T;
  edge = edge_is_live T;
  next = λ y. f (next_of S (f' y));
  prev = λ y. f (prev_of S (f' y));
  origin = λ y. o (origin_of S (f' y));
  face = λ y. w (face_of S (f' y));
}

module _ (S T : Shape) (f f' o o' w w' : ℕ → ℕ) (e : IsRenamed S T f f' o o' w w') (sound : IsSound S) where
  renamed : Renamed (map_of S) (renamed_map S T f f' o w) f f' o w
  renamed = record {
    lives = e.lives;
    comes = e.comes;
    forth = e.forth;
    back = e.back;
    turn = λ x live. e.turn x;
    next = λ x live. ap (λ z. f (next_of S z)) (e.forth x live);
    prev = λ x live. ap (λ z. f (prev_of S z)) (e.forth x live);
    origin = λ x live. ap (λ z. o (origin_of S z)) (e.forth x live);
    face = λ x live. ap (λ z. w (face_of S z)) (e.forth x live);
    apart_origin = λ x y live_x live_y same. sym (e.vertex_forth x live_x) ∙ ap o' same ∙ e.vertex_forth y live_y;
    apart_face = λ x y live_x live_y same.
        sym (e.face_forth (face_of S x) (face-live sound x live_x)) ∙ ap w' same
        ∙ e.face_forth (face_of S y) (face-live sound y live_y);
    below_edges = λ y live. (is_live-parts (gives_up_edge T.removal) T.edges (y / 2) live).0;
    below_vertices = λ y live.
        (is_live-parts (gives_up_vertex T.removal) T.vertices (o (origin_of S (f' y))) (e.vertex (f' y) (e.comes y live))).0;
    below_faces = λ y live.
        (is_live-parts (gives_up_face T.removal) (face_count T) (w (face_of S (f' y)))
        (e.face (face_of S (f' y)) (face-live sound (f' y) (e.comes y live)))).0;
  }

  words_renamed : WordsRenamed (map_of S) f w w' S.words T.words
  words_renamed = record {
    forth = λ x live. e.face_forth (face_of S x) (face-live sound x live);
    back = e.face_back;
    word = e.word;
  }

  renamed_stands : Sound (renamed_map S T f f' o w) → Stands (renamed_map S T f f' o w) T.words
  renamed_stands good =
      renamed_stand (map_of S) (renamed_map S T f f' o w) f f' o w w' renamed (map-sound sound) S.words T.words (links_stand sound)
      words_renamed good refl

  renamed_agrees : Sound (renamed_map S T f f' o w) → Agrees (renamed_map S T f f' o w) (map_of T)
  renamed_agrees good = record {
    vertices = refl;
    edges = refl;
    faces = refl;
    edge = λ u. refl;
    links = record {
      next = next_in-is (renamed_map S T f f' o w) T.words (renamed_stands good);
      prev = prev_in-is (renamed_map S T f f' o w) T.words (renamed_stands good);
      origin = λ y live. ap (origin_of T) (sym (e.back y live)) ∙ e.origin (f' y) (e.comes y live);
      face = face_in-is (renamed_map S T f f' o w) T.words (renamed_stands good);
    };
  }

  bare : (g : ℕ) → face_is_live T g ≡ false → word_of T.words g ≡ []
  bare g dead = elim (cases_lt g (face_count T)) [
    | inl below ↦ e.word g below ∙ (renamed_empty f (word_of S.words (w' g))).1 (sound.bare (w' g) (sym (e.face_comes g below) ∙ dead))
    | inr past ↦ get_or_past T.words g [] past
  ]

  inner : (g : ℕ) → 0 < g → face_is_live T g ≡ true → word_of T.words g ≢ []
  inner g inside live empty =
      let below = (is_live-parts (gives_up_face T.removal) (face_count T) g live).0 in
      sound.inner (w' g) (e.inner g inside below) (sym (e.face_comes g below) ∙ live)
      ((renamed_empty f (word_of S.words (w' g))).0 (sym (e.word g below) ∙ empty))

  -- no edge is live just where none was
  pub renamed-none : ((u : ℕ) → edge_is_live S u ≡ false) ↔ ((u : ℕ) → edge_is_live T u ≡ false)
  renamed-none = (
    λ dead u. false_from_ne_true (edge_is_live T u) (λ live.
        let half : 2 * u / 2 ≡ u = omega arith in
        both_ways (edge_is_live S (f' (2 * u) / 2)) (dead (f' (2 * u) / 2)) (e.comes (2 * u) (ap (edge_is_live T) half ∙ live))),
    λ dead u. false_from_ne_true (edge_is_live S u) (λ live.
        let half : 2 * u / 2 ≡ u = omega arith in
        both_ways (edge_is_live T (f (2 * u) / 2)) (dead (f (2 * u) / 2)) (e.lives (2 * u) (ap (edge_is_live S) half ∙ live))),
  )

  outer : (word_of T.words 0 ≡ []) ↔ ((u : ℕ) → edge_is_live T u ≡ false)
  outer = (
    λ empty. renamed-none.0 (sound.outer.0 ((renamed_empty f (word_of S.words 0)).0 (sym e.outer ∙ empty))),
    λ dead. e.outer ∙ (renamed_empty f (word_of S.words 0)).1 (sound.outer.1 (renamed-none.1 dead)),
  )

  starts_live : (y : ℕ) → IsLive T y → vertex_is_live T (origin_of T y) ≡ true
  starts_live y live =
      let was = e.comes y live in
      ap (vertex_is_live T) (ap (origin_of T) (sym (e.back y live)) ∙ e.origin (f' y) was) ∙ e.vertex (f' y) was

  good : Sound (renamed_map S T f f' o w)
  good = renamed_sound (map_of S) (renamed_map S T f f' o w) f f' o w renamed (map-sound sound)

  agrees : Agrees (renamed_map S T f f' o w) (map_of T)
  agrees = renamed_agrees good

  -- the map of the new shape comes from that of the old one by other numbers
  pub renamed-comes : ComesBy (numbers_changed ∷ []) (map_of S) (map_of T)
  renamed-comes =
      comes_after (numbers_changed ∷ []) (map_of S) (renamed_map S T f f' o w) (map_of T)
      (comes_once numbers_changed (map_of S) (renamed_map S T f f' o w) (f, f', o, w, renamed))
      (agrees_extends (renamed_map S T f f' o w) (map_of T) agrees)

  -- the new shape is sound
  pub renamed-sound : IsSound T
  renamed-sound =
      sound-from_map T (agrees-sound (renamed_map S T f f' o w) (map_of T) agrees good)
      (same_words_stand (renamed_map S T f f' o w) (map_of T) agrees T.words (renamed_stands good))
      bare inner outer starts_live

  -- and a sphere
  pub renamed-sphere : IsSphere S → IsSphere T
  renamed-sphere sphere =
      sphere-from_map renamed-sound
      (agrees-sphere (renamed_map S T f f' o w) (map_of T) agrees good
      (renamed_sphere (map_of S) (renamed_map S T f f' o w) f f' o w renamed (map-sound sound) (map-sphere sound sphere)))

  -- its links are those of the old one under the other numbers
  pub renamed-next : (x : ℕ) → IsLive S x → next_of T (f x) ≡ f (next_of S x)
  renamed-next x live = agrees.next (f x) (e.lives x live) ∙ ap (λ z. f (next_of S z)) (e.forth x live)

  pub renamed-prev : (x : ℕ) → IsLive S x → prev_of T (f x) ≡ f (prev_of S x)
  renamed-prev x live = agrees.prev (f x) (e.lives x live) ∙ ap (λ z. f (prev_of S z)) (e.forth x live)

  pub renamed-face : (x : ℕ) → IsLive S x → face_of T (f x) ≡ w (face_of S x)
  renamed-face x live = agrees.face (f x) (e.lives x live) ∙ ap (λ z. w (face_of S z)) (e.forth x live)
