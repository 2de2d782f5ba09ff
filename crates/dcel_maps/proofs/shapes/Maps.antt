-- A shape is sound, and a sphere, just where its map is and stands for its words.
use Rattle.std.proofs.Common.{◌≡◌, ◌≢◌, ◌⊎◌, ◌↔◌, inl, inr, ℕ, ◌<◌, true, false, List, [], ◌∷◌, ◌++◌, refl, sym, ap, subst, arith}
use Rattle.std.proofs.lemmas.Bool.{both_ways, cases_eq, cases_lt, true_from_ne_false}
use Rattle.std.proofs.lemmas.List.{get_or_past}
use Rattle.dcel_maps.specs.Maps.{By, Reaches, ccw, count}
use Rattle.dcel_maps.specs.theory.Sound.{Sound, Sphere, has_word}
use Rattle.dcel_maps.specs.Maps.Reaches.{go, here}
use Rattle.dcel_maps.specs.Removals.{gives_up_edge, gives_up_vertex}
use Rattle.dcel_maps.specs.Shapes.{IsLive, IsSound, IsSphere, Shape, edge_is_live, face_count, face_is_live, face_of, map_of, next_of, origin_of, prev_of, vertex_is_live}
use Rattle.dcel_maps.specs.theory.Standing.{Follows, Stands}
use Rattle.dcel_maps.specs.theory.Cycles.{IsCycle, Path}
use Rattle.dcel_maps.specs.Words.{IsLeastFirst, count_of, word_of}
use Rattle.dcel_maps.proofs.Liveness.{is_live-parts}
use Rattle.dcel_maps.proofs.maps.Counts.{count_same, same_tests, used_from, used_gives}
use Rattle.dcel_maps.proofs.maps.Reaching.{step}
use Rattle.dcel_maps.proofs.maps.Soundness.{rev_live, sound_from}
use Rattle.dcel_maps.proofs.walks.Links.{links_lawful, links_stand}
use Rattle.dcel_maps.proofs.words.Counts.{count-append, count-same, first_or_later, split_at}
use Rattle.dcel_maps.proofs.words.Paths.{IsCycle-weaker, cycle_turns}
use Rattle.dcel_maps.proofs.words.Reading.{dead_in_none, face-below, face-next, face_in_word, live_in, stands_in_face}

-- each item of a path is reached from its first
path_reaches : (f : ℕ → ℕ) (x : ℕ) (r : List ℕ) (e : ℕ) → Path (By f) x r e → (h : ℕ) → 0 < count_of h (x ∷ r) → Reaches (By f) x h
path_reaches f x [] e path h found = elim (first_or_later h x [] found) [
  | inl same ↦ subst (Reaches (By f) x) (sym same) here
  | inr later ↦ absurd (omega (arith, later))
]
path_reaches f x (y ∷ r) e path h found = elim (first_or_later h x (y ∷ r) found) [
  | inl same ↦ subst (Reaches (By f) x) (sym same) here
  | inr later ↦ go path.0 (path_reaches f y r e path.1 h later)
]

-- and each item of a cycle from each other one
cycle_reaches : (f : ℕ → ℕ) (w : List ℕ) → IsCycle (By f) w → (x h : ℕ) → 0 < count_of x w → 0 < count_of h w → Reaches (By f) x h
cycle_reaches f w cycle x h found found_h =
    let (l, r, parts) = split_at x w found in
    let turned : IsCycle (By f) (x ∷ r ++ l) = cycle_turns (By f) l x r (subst (IsCycle (By f)) parts cycle) in
    let counted : count_of h w ≡ count_of h (l ++ x ∷ r) = ap (count_of h) parts in
    path_reaches f x (r ++ l) x turned h
    (omega (arith, found_h, counted, count-append h l (x ∷ r), count-append h (x ∷ []) r, count-append h (x ∷ r) l))

-- a word is empty, or something stands in it
pub word_cases : (w : List ℕ) → (w ≡ []) ⊎ ((h : ℕ) × (0 < count_of h w))
word_cases [] = inl refl
word_cases (h ∷ w) = inr (h, omega (arith, count-same h w))

module _ {s : Shape} (sound : IsSound s) where
  stands : Stands (map_of s) s.words
  stands = links_stand sound

  -- a live half edge lies on a live face
  pub face-live : (h : ℕ) → IsLive s h → face_is_live s (face_of s h) ≡ true
  face-live h live =
      let there = stands_in_face (map_of s) s.words stands h live in
      true_from_ne_false (face_is_live s (face_of s h)) (λ dead.
      let none : 0 < count_of h [] = subst (λ w. 0 < count_of h w) (sound.bare (face_of s h) dead) there in omega arith)

  face_joined : (x y : ℕ) → IsLive s x → IsLive s y → face_of s x ≡ face_of s y → Reaches (By (next_of s)) x y
  face_joined x y live_x live_y same =
      let f = face_of s x in
      let within = face-below (map_of s) s.words stands x live_x in
      cycle_reaches (next_of s) (word_of s.words f)
      (IsCycle-weaker (Follows (map_of s) f) (By (next_of s)) (word_of s.words f) (λ p q i j k. k.next) (stands.cycles f within)) x y
      (stands_in_face (map_of s) s.words stands x live_x)
      (subst (λ g. 0 < count_of y (word_of s.words g)) (sym same) (stands_in_face (map_of s) s.words stands y live_y))

  turned_live : (x : ℕ) → IsLive s x → IsLive s (ccw (map_of s) x)
  unfolding ccw
  turned_live x live = rev_live (map_of s) (prev_of s x) ((links_lawful sound).stays_back x live)

  -- the map of a sound shape is sound
  pub map-sound : Sound (map_of s)
  map-sound =
      let lawful = links_lawful sound in
      sound_from (map_of s) (λ x live. (is_live-parts (gives_up_edge s.removal) s.edges _ live).0)
      (λ x live. (is_live-parts (gives_up_vertex s.removal) s.vertices _ (sound.starts_live x live)).0)
      (face-below (map_of s) s.words stands) lawful.back-step lawful.step-back sound.two_ends
      record { stays = lawful.stays; along = face-next (map_of s) s.words stands; joined = face_joined }
      record {
        stays = turned_live;
        along = λ x live. sym ((sound.one_origin x (ccw (map_of s) x) live (turned_live x live)).1 (step refl));
        joined = λ x y live_x live_y. (sound.one_origin x y live_x live_y).0;
      }

  -- where an edge is live, the faces with a word are the live ones
  has_word-live : (f : ℕ) → has_word (map_of s) f ≡ true → face_is_live s f ≡ true
  unfolding has_word
  has_word-live f has =
      let used = used_gives (map_of s) (face_of s) f has in
      subst (λ g. face_is_live s g ≡ true) used.is (face-live used.half used.live)

  live_word : (u : ℕ) → edge_is_live s u ≡ true → (f : ℕ) → face_is_live s f ≡ true → word_of s.words f ≢ []
  live_word u live f lives empty = elim (cases_eq f 0) [
    | inl outer ↦ both_ways (edge_is_live s u) (sound.outer.0 (subst (λ g. word_of s.words g ≡ []) outer empty) u) live
    | inr inside ↦ sound.inner f (omega arith) lives empty
  ]

  live-has_word : (u : ℕ) → edge_is_live s u ≡ true → (f : ℕ) → face_is_live s f ≡ true → has_word (map_of s) f ≡ true
  unfolding has_word
  live-has_word u live f lives = elim (word_cases (word_of s.words f)) [
    | inl empty ↦ absurd (live_word u live f lives empty)
    | inr held ↦ used_from (map_of s) map-sound (face_of s) f record {
      half = held.0;
      live = live_in (map_of s) s.words stands held.0 f held.1;
      is = face_in_word (map_of s) s.words stands held.0 f held.1;
    }
  ]

  words_counted : (u : ℕ) → edge_is_live s u ≡ true → count (has_word (map_of s)) (face_count s) ≡ count (face_is_live s) (face_count s)
  words_counted u live = count_same (has_word (map_of s)) (face_is_live s) (face_count s)
      (λ f below. same_tests (has_word (map_of s) f) (face_is_live s f) (has_word-live f) (live-has_word u live f))

  -- a sound shape is a sphere just where its map is
  pub map-sphere : IsSphere s → Sphere (map_of s)
  map-sphere sphere = record {
    connected = sphere.connected;
    euler = λ u live. omega (arith, sphere.euler u live, words_counted u live);
  }

  pub sphere-from_map : Sphere (map_of s) → IsSphere s
  sphere-from_map sphere = record {
    connected = sphere.connected;
    euler = λ u live. omega (arith, sphere.euler u live, words_counted u live);
  }

-- a shape is sound where its map is, stands for its words, and its faces and vertices are live where they should be
pub sound-from_map : (s : Shape) → Sound (map_of s) → Stands (map_of s) s.words
    → ((f : ℕ) → face_is_live s f ≡ false → word_of s.words f ≡ [])
    → ((f : ℕ) → 0 < f → face_is_live s f ≡ true → word_of s.words f ≢ [])
    → (word_of s.words 0 ≡ []) ↔ ((u : ℕ) → edge_is_live s u ≡ false)
    → ((h : ℕ) → IsLive s h → vertex_is_live s (origin_of s h) ≡ true) → IsSound s
sound-from_map s sound stands bare inner outer starts_live = record {
  once = stands.once;
  no_other = dead_in_none (map_of s) s.words stands;
  least_first = λ f. elim (cases_lt f (face_count s)) [
    | inl below ↦ stands.least f below
    | inr past ↦ subst IsLeastFirst (sym (get_or_past s.words f [] past)) tt
  ];
  bare = bare;
  inner = inner;
  outer = outer;
  joined = sound.origin-next;
  two_ends = sound.two_ends;
  starts_live = starts_live;
  one_origin = sound.one_origin;
}
