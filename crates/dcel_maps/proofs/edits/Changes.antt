-- What an edit changes of a mesh, as one record of lists; and when a mesh comes of it.
use Rattle.std.proofs.Common.{◌≡◌, ◌≢◌, ◌⊎◌, inl, inr, ℕ, ◌+◌, ◌*◌, ◌/◌, ◌<◌, ◌≤◌, true, false, List, [], ◌++◌, length, Option, None, refl, sym, ap, ◌∙◌, arith, length-append}
use Rattle.std.proofs.lemmas.Bool.{both_ways, cases_lt, false_from_ne_true}
use Rattle.std.proofs.lemmas.List.{get_or_past}
use Rattle.dcel_maps.specs.Conditions.{HasRoom}
use Rattle.dcel_maps.specs.Maps.{Live, Map}
use Rattle.dcel_maps.specs.theory.Sound.{Sound, Sphere}
use Rattle.dcel_maps.specs.Removals.{gives_up_edge, gives_up_face, gives_up_vertex, is_live}
use Rattle.dcel_maps.specs.Shapes.{IsAnchored, IsLive, IsMesh, IsSized, IsSound, Mesh, Shape, edge_is_live, face_anchor, face_count, face_is_live, face_of, map_of, next_of, origin_of, prev_of, vertex_anchor}
use Rattle.dcel_maps.specs.theory.Standing.{Stands}
use Rattle.dcel_maps.specs.Words.{word_of}
use Rattle.dcel_maps.proofs.Liveness.{IsWithin-grown, gives_up_face-past, is_live-from, is_live-parts}
use Rattle.dcel_maps.proofs.edits.Patches.{Each, EachFrom, Patch, Untouched, each-patched, each-weaker, each_from-past, each_from-weaker, length-patched, patched, patched-is, patched_at}
use Rattle.dcel_maps.proofs.maps.Agreement.{agrees-sound, agrees-sphere}
use Rattle.dcel_maps.proofs.maps.Labels.{KeepsLabel, Labelled, labelled-kept}
use Rattle.dcel_maps.proofs.shapes.Maps.{sound-from_map, sphere-from_map, word_cases}
use Rattle.dcel_maps.proofs.shapes.Shown.{Shows, anchors-vertex, anchors-word, shown-agrees, shown-stands, vertex-anchored, word-anchored}
use Rattle.dcel_maps.proofs.walks.Links.{half-below, links_stand}
use Rattle.dcel_maps.proofs.words.Faces.{IsWordOf, KeepsFace, edited_stands}
use Rattle.dcel_maps.proofs.words.Reading.{live_in}

-- so many vertices, edges and faces more; what is changed of the words, of the links and of the anchors; and the data of what is new
pub record Change (V DE UE F : Type 0) : Type 0 where
  pub vertices : ℕ
  pub edges : ℕ
  pub faces : ℕ
  pub words : Patch (List ℕ)
  pub next : Patch ℕ
  pub prev : Patch ℕ
  pub origin : Patch ℕ
  pub face : Patch ℕ
  pub vertex_anchors : Patch (Option ℕ)
  pub face_anchors : Patch (Option ℕ)
  pub vertex_data : List V
  pub directed_data : List DE
  pub undirected_data : List UE
  pub face_data : List F

-- a face whose word is w, which isn't empty
pub record IsFull (M : Map) (f : ℕ) (w : List ℕ) : Type 0 where
  pub word : IsWordOf M f w
  pub full : w ≢ []

module _ {V DE UE F : Type 0} where
  -- the mesh with these changes
  abbrev pub changed : Mesh V DE UE F → Change V DE UE F → Mesh V DE UE F
  changed m c = record {
    shape = record {
      vertices = m.shape.vertices + c.vertices;
      edges = m.shape.edges + c.edges;
      words = patched m.shape.words c.words;
      origins = patched m.shape.origins c.origin;
      removal = m.shape.removal;
    };
    vertex_anchors = patched m.vertex_anchors c.vertex_anchors;
    face_anchors = patched m.face_anchors c.face_anchors;
    vertex_data = m.vertex_data ++ c.vertex_data;
    directed_data = m.directed_data ++ c.directed_data;
    undirected_data = m.undirected_data ++ c.undirected_data;
    face_data = m.face_data ++ c.face_data;
  }

  -- its map: the links with these changes
  abbrev pub map_after : Shape → Change V DE UE F → Map
  map_after s c = record {
    vertices = s.vertices + c.vertices;
    edges = s.edges + c.edges;
    faces = face_count s + c.faces;
    edge = is_live (gives_up_edge s.removal) (s.edges + c.edges);
    next = patched_at (next_of s) (2 * s.edges) c.next;
    prev = patched_at (prev_of s) (2 * s.edges) c.prev;
    origin = patched_at (origin_of s) (2 * s.edges) c.origin;
    face = patched_at (face_of s) (2 * s.edges) c.face;
  }

  -- what is new of the lists is as many as the change says
  pub record Fits (c : Change V DE UE F) : Type 0 where
    pub vertex_data : length c.vertex_data ≡ c.vertices
    pub vertex_anchors : length c.vertex_anchors.more ≡ c.vertices
    pub undirected_data : length c.undirected_data ≡ c.edges
    pub directed_data : length c.directed_data ≡ 2 * c.edges
    pub next : length c.next.more ≡ 2 * c.edges
    pub prev : length c.prev.more ≡ 2 * c.edges
    pub origin : length c.origin.more ≡ 2 * c.edges
    pub face : length c.face.more ≡ 2 * c.edges
    pub face_data : length c.face_data ≡ c.faces
    pub face_anchors : length c.face_anchors.more ≡ c.faces
    pub words : length c.words.more ≡ c.faces

  -- the lists without data are mostly written out, so their lengths compute
  pub fits_with : (c : Change V DE UE F) → length c.vertex_anchors.more ≡ c.vertices → length c.next.more ≡ 2 * c.edges
      → length c.prev.more ≡ 2 * c.edges → length c.origin.more ≡ 2 * c.edges → length c.face.more ≡ 2 * c.edges
      → length c.face_anchors.more ≡ c.faces → length c.words.more ≡ c.faces → length c.vertex_data ≡ c.vertices
      → length c.directed_data ≡ 2 * c.edges → length c.undirected_data ≡ c.edges → length c.face_data ≡ c.faces → Fits c
  fits_with c vertex_anchors next prev origin face face_anchors words vertex_data directed_data undirected_data face_data = record {
    vertex_data = vertex_data;
    vertex_anchors = vertex_anchors;
    undirected_data = undirected_data;
    directed_data = directed_data;
    next = next;
    prev = prev;
    origin = origin;
    face = face;
    face_data = face_data;
    face_anchors = face_anchors;
    words = words;
  }

  -- the links of live half edges alone are replaced
  pub record IsOnLive (s : Shape) (c : Change V DE UE F) : Type 0 where
    pub next : Each (λ h k. IsLive s h) c.next.set
    pub prev : Each (λ h k. IsLive s h) c.prev.set
    pub origin : Each (λ h v. IsLive s h) c.origin.set
    pub face : Each (λ h f. IsLive s h) c.face.set

  -- the changes make a mesh: the map is sound and a sphere, each word that is put in is the word of its face and the other faces stay,
  -- and each anchor is right
  pub record IsEdit (m : Mesh V DE UE F) (c : Change V DE UE F) : Type 0 where
    pub room : HasRoom m.shape c.vertices c.edges c.faces
    pub fits : Fits c
    pub on_live : IsOnLive m.shape c
    pub sound : Sound (map_after m.shape c)
    pub sphere : Sphere (map_after m.shape c)
    pub starts : (h : ℕ) → Live (map_after m.shape c) h → gives_up_vertex m.shape.removal ((map_after m.shape c).origin h) ≡ false
    pub words : Each (λ f w. IsFull (map_after m.shape c) f w × (face_is_live m.shape f ≡ true)) c.words.set
    pub new_words : EachFrom (IsFull (map_after m.shape c)) (face_count m.shape) c.words.more
    pub other_words : (f : ℕ) → f < face_count m.shape → Untouched f c.words.set → KeepsFace (map_of m.shape) (map_after m.shape c) f
    pub outer : (u : ℕ) → (map_after m.shape c).edge u ≡ true → Untouched 0 c.words.set → (v : ℕ) × (edge_is_live m.shape v ≡ true)
    pub vertex_anchors : Each (Labelled (map_after m.shape c) (map_after m.shape c).origin) c.vertex_anchors.set
    pub new_vertex_anchors : EachFrom (Labelled (map_after m.shape c) (map_after m.shape c).origin) m.shape.vertices c.vertex_anchors.more
    pub other_vertices : (v : ℕ) → v < m.shape.vertices → Untouched v c.vertex_anchors.set
        → KeepsLabel (map_of m.shape) (map_after m.shape c) (origin_of m.shape) (map_after m.shape c).origin v
    pub face_anchors : Each (Labelled (map_after m.shape c) (map_after m.shape c).face) c.face_anchors.set
    pub new_face_anchors : EachFrom (Labelled (map_after m.shape c) (map_after m.shape c).face) (face_count m.shape) c.face_anchors.more
    pub other_faces : (f : ℕ) → f < face_count m.shape → Untouched f c.face_anchors.set
        → Untouched f c.words.set ⊎ Labelled (map_after m.shape c) (map_after m.shape c).face f (face_anchor m f)

-- a face that stays keeps the label of its half edges
keeps_label : (S T : Map) (f : ℕ) → KeepsFace S T f → KeepsLabel S T S.face T.face f
keeps_label S T f keeps = record {
  stays = λ h live at. (keeps.live h live at, keeps.face h live at);
  comes = λ h live at. let was = keeps.comes h live at in record { half = h; live = was.0; is = was.1 };
}

module _ {V DE UE F : Type 0} (m : Mesh V DE UE F) (c : Change V DE UE F) (mesh : IsMesh m) (e : IsEdit m c) where
  abbrev s : Shape
  s = m.shape

  abbrev t : Shape
  t = (changed m c).shape

  abbrev S : Map
  S = map_of s

  abbrev T : Map
  T = map_after s c

  face_count_after : face_count t ≡ face_count s + c.faces
  face_count_after = length-patched s.words c.words ∙ ap (λ n. face_count s + n) e.fits.words

  stands_before : Stands S s.words
  stands_before = links_stand mesh.sound

  within_after : (f : ℕ) → f < face_count t → f < face_count s + length c.words.more
  within_after f below = omega (arith, below, face_count_after, e.fits.words)

  stands_after : Stands T t.words
  stands_after =
      edited_stands S T s.words t.words e.sound stands_before face_count_after
      (λ f below.
      each-patched (λ g w. IsWordOf T g w ⊎ (KeepsFace S T g × (w ≡ word_of s.words g))) [] s.words c.words (face_count s) refl
      (each-weaker _ _ (λ g w both. inl both.0.word) c.words.set e.words)
      (each_from-weaker _ _ (λ g w full. inl full.word) (face_count s) c.words.more e.new_words)
      (λ g g_in away. inr (e.other_words g g_in away, refl)) f (within_after f below))

  pub edit_shows : Shows t T
  edit_shows = record {
    vertices = refl;
    edges = refl;
    edge = λ u. refl;
    origin = λ h live.
        patched-is s.origins (2 * s.edges) c.origin (origin_of s) h mesh.sized.origins
        (each-weaker _ _ (λ k v lives. half-below s k lives) c.origin.set e.on_live.origin) (λ below. refl);
    stands = stands_after;
  }

  -- a word that was put in is that of a live face, and isn't empty; the others stay
  abbrev Put : ℕ → List ℕ → Type 0
  Put f w = (w ≢ []) × ((face_is_live s f ≡ true) ⊎ (face_count s ≤ f))

  abbrev Stays : ℕ → List ℕ → Type 0
  Stays f w = Untouched f c.words.set × (f < face_count s) × (w ≡ word_of s.words f)

  word_cases_after : (f : ℕ) → f < face_count t → Put f (word_of t.words f) ⊎ Stays f (word_of t.words f)
  word_cases_after f below =
      each-patched (λ g w. Put g w ⊎ Stays g w) [] s.words c.words (face_count s) refl
      (each-weaker _ _ (λ g w both. inl (both.0.full, inl both.1)) c.words.set e.words)
      (each_from-weaker _ _ (λ g w both. inl (both.1.full, inr both.0)) (face_count s) c.words.more
      (each_from-past _ (face_count s) (face_count s) c.words.more (omega arith) e.new_words))
      (λ g g_in away. inr (away, g_in, refl)) f (within_after f below)

  -- a face that was live still is, and a new one is
  face_cases : (f : ℕ) → f < face_count t → (face_is_live s f ≡ true) ⊎ (face_count s ≤ f) → face_is_live t f ≡ true
  face_cases f below among =
      is_live-from (gives_up_face s.removal) (face_count t) f below
      (elim among [
        | inl live ↦ (is_live-parts (gives_up_face s.removal) (face_count s) f live).1
        | inr past ↦ gives_up_face-past mesh.sized.within f past
      ])

  bare : (f : ℕ) → face_is_live t f ≡ false → word_of t.words f ≡ []
  bare f dead = elim (cases_lt f (face_count t)) [
    | inr past ↦ get_or_past t.words f [] past
    | inl below ↦ elim (word_cases_after f below) [
      | inl put ↦ absurd (both_ways (face_is_live t f) dead (face_cases f below put.1))
      | inr stays ↦ stays.2 ∙ mesh.sound.bare f (false_from_ne_true (face_is_live s f) (λ live. both_ways (face_is_live t f) dead (face_cases f below (inl live))))
    ]
  ]

  inner : (f : ℕ) → 0 < f → face_is_live t f ≡ true → word_of t.words f ≢ []
  inner f inside live =
      let parts = is_live-parts (gives_up_face s.removal) (face_count t) f live in
      elim (word_cases_after f parts.0) [
        | inl put ↦ put.0
        | inr stays ↦ λ empty.
            mesh.sound.inner f inside (is_live-from (gives_up_face s.removal) (face_count s) f stays.1 parts.1) (sym stays.2 ∙ empty)
      ]

  outer : (word_of t.words 0 ≡ []) → (u : ℕ) → edge_is_live t u ≡ false
  outer empty u =
      false_from_ne_true (edge_is_live t u) (λ live.
      elim (word_cases_after 0 (omega (arith, face_count_after, mesh.sized.outer))) [
        | inl put ↦ put.0 empty
        | inr stays ↦
            let (v, was) = e.outer u live stays.0 in both_ways (edge_is_live s v) (mesh.sound.outer.0 (sym stays.2 ∙ empty) v) was
      ])

  no_outer : ((u : ℕ) → edge_is_live t u ≡ false) → word_of t.words 0 ≡ []
  no_outer dead = elim (word_cases (word_of t.words 0)) [
    | inl empty ↦ empty
    | inr (h, found) ↦ absurd (both_ways (edge_is_live t (h / 2)) (dead (h / 2)) (live_in T t.words stands_after h 0 found))
  ]

  sound_after : IsSound t
  sound_after =
      sound-from_map t (agrees-sound T (map_of t) (shown-agrees t T edit_shows) e.sound) (shown-stands t T edit_shows) bare inner (outer, no_outer)
      (λ h live.
      let is : origin_of t h ≡ T.origin h = edit_shows.origin h live in
      rw is (is_live-from (gives_up_vertex s.removal) t.vertices (T.origin h) (e.sound.below_vertices h live) (e.starts h live)))

  anchored_after : IsAnchored (changed m c)
  anchored_after = record {
    vertices = λ v below.
        anchors-vertex t T edit_shows v (vertex_anchor (changed m c) v)
        (each-patched (Labelled T T.origin) None m.vertex_anchors c.vertex_anchors s.vertices mesh.sized.vertex_anchors
        e.vertex_anchors e.new_vertex_anchors
        (λ k k_in away.
        labelled-kept S T (origin_of s) T.origin k (vertex_anchor m k) (e.other_vertices k k_in away)
        (vertex-anchored s k (vertex_anchor m k) (mesh.anchored.vertices k k_in)))
        v (omega (arith, below, e.fits.vertex_anchors)));
    faces = λ f below.
        anchors-word T t.words stands_after f (face_anchor (changed m c) f)
        (each-patched (Labelled T T.face) None m.face_anchors c.face_anchors (face_count s) mesh.sized.face_anchors
        e.face_anchors e.new_face_anchors
        (λ k k_in away. elim (e.other_faces k k_in away) [
          | inr is ↦ is
          | inl stays ↦
              labelled-kept S T (face_of s) T.face k (face_anchor m k) (keeps_label S T k (e.other_words k k_in stays))
              (word-anchored S s.words stands_before k (face_anchor m k) (mesh.anchored.faces k k_in))
        ])
        f (omega (arith, below, face_count_after, e.fits.face_anchors)));
  }

  sized_after : IsSized (changed m c)
  sized_after =
      let w = mesh.sized in
      let f = e.fits in
      record {
        vertex_data = omega (arith, length-append m.vertex_data c.vertex_data, w.vertex_data, f.vertex_data);
        vertex_anchors = omega (arith, length-patched m.vertex_anchors c.vertex_anchors, w.vertex_anchors, f.vertex_anchors);
        undirected_data = omega (arith, length-append m.undirected_data c.undirected_data, w.undirected_data, f.undirected_data);
        directed_data = omega (arith, length-append m.directed_data c.directed_data, w.directed_data, f.directed_data);
        origins = omega (arith, length-patched s.origins c.origin, w.origins, f.origin);
        face_data = omega (arith, length-append m.face_data c.face_data, w.face_data, f.face_data, face_count_after);
        face_anchors = omega (arith, length-patched m.face_anchors c.face_anchors, w.face_anchors, f.face_anchors, face_count_after);
        outer = omega (arith, w.outer, face_count_after);
        few_vertices = e.room.for_vertices;
        few_edges = e.room.for_edges;
        few_faces = omega (arith, e.room.for_faces, face_count_after);
        within = IsWithin-grown w.within (omega arith) (omega arith) (omega (arith, face_count_after));
      }

  pub edit_makes_mesh : IsMesh (changed m c)
  edit_makes_mesh = record {
    sound = sound_after;
    sphere = sphere-from_map sound_after (agrees-sphere T (map_of t) (shown-agrees t T edit_shows) e.sound e.sphere);
    anchored = anchored_after;
    sized = sized_after;
  }
