-- A vertex put into the middle of an edge of a mesh, whose halves lie on one face.
use Rattle.std.proofs.Common.{◌≡◌, ◌≢◌, inl, inr, ℕ, ◌+◌, ◌/◌, ◌<◌, false, List, [], ◌∷◌, length, Some, add-zero, append-nil, refl, sym, ap, ◌∙◌, subst, arith}
use Rattle.std.proofs.lemmas.Bool.{cases_eq}
use Rattle.dcel_fixed.specs.HalfEdges.{rev}
use Rattle.dcel_fixed.proofs.Halves.{rev-double}
use Rattle.dcel_maps.specs.Conditions.{HasRoom, IsBridge, IsUnconnected}
use Rattle.dcel_maps.specs.EditLists.{ComesBy}
use Rattle.dcel_maps.specs.EditLists.EditKind.{edge_subdivided}
use Rattle.dcel_maps.specs.edits.Split.{edge_split_on_line, with_middle}
use Rattle.dcel_maps.specs.Cyclic.{from_least}
use Rattle.dcel_maps.specs.Maps.{Live}
use Rattle.dcel_maps.specs.theory.Sound.{Sound, Sphere}
use Rattle.dcel_maps.specs.Removals.{gives_up_vertex}
use Rattle.dcel_maps.specs.Shapes.{IsLive, IsMesh, Mesh, face_anchor, face_of, next_of, origin_of, prev_of}
use Rattle.dcel_maps.specs.theory.Standing.{Stands}
use Rattle.dcel_maps.specs.Words.{word_of}
use Rattle.dcel_maps.proofs.Liveness.{vertex_live-parts, start-parts}
use Rattle.dcel_maps.proofs.edits.Changes.{Change, IsEdit, changed, fits_with}
use Rattle.dcel_maps.proofs.edits.Growing.{after-face, after-grows, after-next, after-origin, after-pair, after-prev, after-still}
use Rattle.dcel_maps.proofs.edits.Patches.{map-set, patched_at-first, patched_at-new, pushing, replacing}
use Rattle.dcel_maps.proofs.maps.Counts.{Used}
use Rattle.dcel_maps.proofs.maps.Edits.{Subdivide, first_part, last_part}
use Rattle.dcel_maps.proofs.maps.Growth.{spur_at}
use Rattle.dcel_maps.proofs.maps.Labels.{KeepsLabel, labelled-kept}
use Rattle.dcel_maps.proofs.maps.Lists.{comes_once}
use Rattle.dcel_maps.proofs.maps.Soundness.{rev_live}
use Rattle.dcel_maps.proofs.maps.Subdivides.{by_first, by_part, first-other, first-rev, last-h, last-other, subdivide_keeps}
use Rattle.dcel_maps.proofs.maps.Updates.{put, put_other, put_same}
use Rattle.dcel_maps.proofs.shapes.Maps.{face-live, map-sphere}
use Rattle.dcel_maps.proofs.shapes.Shown.{word-anchored}
use Rattle.dcel_maps.proofs.walks.Links.{links_stand}
use Rattle.dcel_maps.proofs.words.Faces.{IsWordOf, word_full, word_of_face}
use Rattle.dcel_maps.proofs.words.Reading.{face-below}
use Rattle.dcel_maps.proofs.words.Subdivides.{stretch, subdivide-keeps_face, subdivide_face, subdivide_word, with_middle-other}
use Rattle.dcel_maps.specs.Around.{around}
use Rattle.dcel_maps.proofs.edits.Around.{edited, known}

module _ {V DE UE F : Type 0} (m : Mesh V DE UE F) where
  -- the edge n / 2 behind the half edge e, which ends at `end`, on the face f: a is the half edge after e, t the other half of e, and
  -- b the half edge before t, where a may be t, and so b be e
  abbrev pub middle : (n e t a b f end tip : ℕ) → List DE → List UE → Change V DE UE F
  middle n e t a b f end tip halves edges = record {
    vertices = 0;
    edges = 1;
    faces = 0;
    words = replacing ((f, with_middle e n (word_of m.shape.words f)) ∷ []);
    next = record { set = (b, n + 1) ∷ (e, n) ∷ []; more = put (λ x. x) t (n + 1) a ∷ t ∷ [] };
    prev = record { set = (a, n) ∷ (t, n + 1) ∷ []; more = e ∷ put (λ x. x) e n b ∷ [] };
    origin = record { set = (t, tip) ∷ []; more = tip ∷ end ∷ [] };
    face = pushing (f ∷ f ∷ []);
    vertex_anchors = replacing ((end, Some (n + 1)) ∷ (tip, Some n) ∷ []);
    face_anchors = replacing [];
    vertex_data = [];
    directed_data = halves;
    undirected_data = edges;
    face_data = [];
  }

  module _ (mesh : IsMesh m) (e tip : ℕ) (bridge : IsBridge m.shape e) (unconnected : IsUnconnected m.shape tip)
      (room : HasRoom m.shape 0 1 0) (halves : List DE) (edges : List UE) (two : length halves ≡ 2) (one : length edges ≡ 1) where
    open (around m.shape e) use {n, t, f, after as a, t_before as b, end}

    abbrev c : Change V DE UE F
    c = middle n e t a b f end tip halves edges

    open (edited m c) use {S, T}
    open (known m mesh) use {sound, stands}

    abbrev first : ℕ → ℕ
    first = first_part e n

    abbrev last : ℕ → ℕ
    last = last_part e n

    live_t : IsLive m.shape t
    live_t = rev_live S e bridge.live

    live_a : IsLive m.shape a
    live_a = sound.live_next e bridge.live

    live_b : IsLive m.shape b
    live_b = sound.live_prev t live_t

    turned : rev n ≡ n + 1
    turned = rev-double m.shape.edges

    new_live : Live T n × Live T (n + 1)
    new_live = after-pair m.shape c mesh.sized.within refl

    tip_parts : (tip < m.shape.vertices) × (gives_up_vertex m.shape.removal tip ≡ false)
    tip_parts = vertex_live-parts m.shape tip unconnected.live

    next_last : (x : ℕ) → IsLive m.shape x → T.next (last x) ≡ first (next_of m.shape x)
    next_last x live = elim (cases_eq x e) [
      | inl is ↦
          let at : T.next (last e) ≡ first a =
          ap T.next (last-h e n) ∙ patched_at-first _ n c.next ∙ ap (λ l. put (λ z. z) t l a) (sym turned) in
          subst (λ z. T.next (last z) ≡ first (next_of m.shape z)) (sym is) at
      | inr not_e ↦
          ap T.next (last-other e n x not_e) ∙ after-next m.shape c x live ∙ put_other _ e n x not_e ∙ elim (cases_eq x b) [
            | inl is ↦
                let at : put (next_of m.shape) b (n + 1) b ≡ first (next_of m.shape b) =
                put_same (next_of m.shape) b (n + 1) ∙ sym turned ∙ sym (first-rev e n) ∙ ap first (sym (sound.next-prev t live_t)) in
                subst (λ z. put (next_of m.shape) b (n + 1) z ≡ first (next_of m.shape z)) (sym is) at
            | inr not_b ↦
                put_other (next_of m.shape) b (n + 1) x not_b
                ∙ sym (first-other e n (next_of m.shape x) (λ i. not_b (sym (sound.prev-next x live) ∙ ap (prev_of m.shape) i)))
          ]
    ]

    prev_first : (x : ℕ) → IsLive m.shape x → T.prev (first x) ≡ last (prev_of m.shape x)
    prev_first x live = elim (cases_eq x t) [
      | inl is ↦
          let at : T.prev (first t) ≡ last b =
          ap T.prev (first-rev e n ∙ turned) ∙ patched_at-new _ n c.prev 1 in
          subst (λ z. T.prev (first z) ≡ last (prev_of m.shape z)) (sym is) at
      | inr not_t ↦
          ap T.prev (first-other e n x not_t) ∙ after-prev m.shape c x live ∙ put_other _ t (n + 1) x not_t ∙ elim (cases_eq x a) [
            | inl is ↦
                let at : put (prev_of m.shape) a n a ≡ last (prev_of m.shape a) =
                put_same (prev_of m.shape) a n ∙ sym (last-h e n) ∙ ap last (sym (sound.prev-next e bridge.live)) in
                subst (λ z. put (prev_of m.shape) a n z ≡ last (prev_of m.shape z)) (sym is) at
            | inr not_a ↦
                put_other (prev_of m.shape) a n x not_a
                ∙ sym (last-other e n (prev_of m.shape x) (λ i. not_a (sym (sound.next-prev x live) ∙ ap (next_of m.shape) i)))
          ]
    ]

    origin_first : (x : ℕ) → IsLive m.shape x → T.origin (first x) ≡ origin_of m.shape x
    origin_first x live = elim (cases_eq x t) [
      | inl is ↦ ap (λ z. T.origin (first z)) is ∙ ap T.origin (first-rev e n ∙ turned) ∙ patched_at-new _ n c.origin 1 ∙ ap (origin_of m.shape) (sym is)
      | inr not_t ↦ ap T.origin (first-other e n x not_t) ∙ after-origin m.shape c x live ∙ put_other _ t tip x not_t
    ]

    face_t : face_of m.shape t ≡ f
    face_t = sym bridge.one_face

    face_first : (x : ℕ) → IsLive m.shape x → T.face (first x) ≡ face_of m.shape x
    face_first x live = elim (cases_eq x t) [
      | inl is ↦ ap (λ z. T.face (first z)) is ∙ ap T.face (first-rev e n ∙ turned) ∙ patched_at-new _ n c.face 1 ∙ sym face_t ∙ ap (face_of m.shape) (sym is)
      | inr not_t ↦ ap T.face (first-other e n x not_t) ∙ after-face m.shape c x live
    ]

    face_last : (x : ℕ) → IsLive m.shape x → T.face (last x) ≡ face_of m.shape x
    face_last x live = elim (cases_eq x e) [
      | inl is ↦ ap (λ z. T.face (last z)) is ∙ ap T.face (last-h e n) ∙ patched_at-first _ n c.face ∙ ap (face_of m.shape) (sym is)
      | inr not_e ↦ ap T.face (last-other e n x not_e) ∙ after-face m.shape c x live
    ]

    is_subdivision : Subdivide S T e n tip
    is_subdivision = record {
      middle = record {
        at = spur_at S sound e n tip bridge.live (omega arith) unconnected.bare (vertex_live-parts m.shape tip unconnected.live).0;
        grows = after-grows m.shape c mesh.sized.within refl refl n (omega arith) (omega arith);
        next_h = after-next m.shape c e bridge.live ∙ put_same _ e n;
        prev_k = patched_at-first _ n c.prev;
        next_rev = ap T.next turned ∙ patched_at-new _ n c.next 1;
        prev_rev = after-prev m.shape c t live_t ∙ put_same _ t (n + 1) ∙ sym turned;
        faces = add-zero (length m.shape.words);
      };
      parts = record { next_last = next_last; prev_first = prev_first; origin_first = origin_first; face_first = face_first; face_last = face_last };
      origin_k = patched_at-first _ n c.origin;
      origin_rev = after-origin m.shape c t live_t ∙ put_same _ t tip;
    }

    pub middle_made : ComesBy (edge_subdivided ∷ []) S T
    middle_made = comes_once edge_subdivided S T (e, n, tip, is_subdivision)

    keeps : Sound T × Sphere T
    keeps = subdivide_keeps S T e n tip is_subdivision sound (map-sphere mesh.sound mesh.sphere)

    words : Stands S m.shape.words
    words = links_stand mesh.sound

    word : IsWordOf S f (word_of m.shape.words f)
    word = word_of_face S m.shape.words words f

    put_word : IsWordOf T f (with_middle e n (word_of m.shape.words f))
    put_word =
        subst (λ l. IsWordOf T f (from_least (stretch e n t l (word_of m.shape.words f)))) turned
        (subdivide_word S T e n tip is_subdivision sound f (word_of m.shape.words f) word keeps.0
        (word_full S f (word_of m.shape.words f) word e bridge.live refl))

    face_e : T.face e ≡ f
    face_e = subdivide_face S T e n tip is_subdivision sound e bridge.live

    -- the edge in the middle lies on a face that had an edge
    same_face : (k : ℕ) → KeepsLabel S T (face_of m.shape) T.face k
    same_face k = record {
      stays = λ h live at. (after-still m.shape c h live, subdivide_face S T e n tip is_subdivision sound h live ∙ at);
      comes = by_part S T e n tip is_subdivision (λ h. T.face h ≡ k → Used S (face_of m.shape) k)
          (λ h live at. record { half = h; live = live; is = sym (face_first h live) ∙ at })
          (λ h live at. record { half = h; live = live; is = sym (face_last h live) ∙ at });
    }

    same_vertex : (v : ℕ) → v ≢ end → v ≢ tip → KeepsLabel S T (origin_of m.shape) T.origin v
    same_vertex v not_end not_tip = record {
      stays = λ h live at. (
        after-still m.shape c h live,
        ap T.origin (sym (first-other e n h (λ is. not_end (sym at ∙ ap (origin_of m.shape) is)))) ∙ origin_first h live ∙ at,
      );
      comes = by_first S T e n tip is_subdivision (λ h. T.origin h ≡ v → Used S (origin_of m.shape) v)
          (λ h live at. record { half = h; live = live; is = sym (origin_first h live) ∙ at })
          (λ at. absurd (not_tip (sym at ∙ is_subdivision.origin_rev))) (λ at. absurd (not_tip (sym at ∙ is_subdivision.origin_k)));
    }

    pub middle_is_edit : IsEdit m c
    middle_is_edit = record {
      room = room;
      fits = fits_with c refl refl refl refl refl refl refl refl two one refl;
      on_live = record { next = (live_b, (bridge.live, tt)); prev = (live_a, (live_t, tt)); origin = (live_t, tt); face = tt };
      sound = keeps.0;
      sphere = keeps.1;
      starts = by_first S T e n tip is_subdivision (λ h. gives_up_vertex m.shape.removal (T.origin h) ≡ false)
          (λ h live. rw (origin_first h live) (start-parts m.shape mesh.sound h live).1)
          (rw is_subdivision.origin_rev tip_parts.1) (rw is_subdivision.origin_k tip_parts.1);
      words = (
        (
          record { word = put_word; full = word_full T f _ put_word e (after-still m.shape c e bridge.live) face_e },
          face-live mesh.sound e bridge.live,
        ),
        tt,
      );
      new_words = tt;
      other_words = λ k k_in away. subdivide-keeps_face S T e n tip is_subdivision sound k away.0 (λ is. away.0 (is ∙ face_t));
      outer = λ u lives away. (e / 2, bridge.live);
      vertex_anchors = (
        (new_live.1, patched_at-new _ n c.origin 1),
        ((new_live.0, is_subdivision.origin_k), tt),
      );
      new_vertex_anchors = tt;
      other_vertices = λ v v_in away. same_vertex v away.0 away.1.0;
      face_anchors = tt;
      new_face_anchors = tt;
      other_faces = λ k k_in away. inr (labelled-kept S T (face_of m.shape) T.face k (face_anchor m k) (same_face k)
          (word-anchored S m.shape.words words k (face_anchor m k) (mesh.anchored.faces k k_in)));
    }

    pub middle_is : changed m c ≡ edge_split_on_line m e tip halves edges
    middle_is =
        let words_are = map-set (with_middle e n) [] m.shape.words f (face-below S m.shape.words words e bridge.live)
        (λ k k_in differs. with_middle-other S m.shape.words words e n k (λ is. differs (sym is)) (λ is. differs (sym is ∙ face_t))) in
        rw words_are (simp (add-zero, append-nil) refl)
