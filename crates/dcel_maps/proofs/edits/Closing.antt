-- A face closed between a half edge of the outer face and the next one.
use Rattle.std.proofs.Common.{◌≡◌, inl, ℕ, ◌+◌, ◌*◌, ◌/◌, List, [], ◌∷◌, length, Some, add-zero, append-nil, refl, sym, ap, ◌∙◌, subst, arith}
use Rattle.std.proofs.lemmas.Bool.Decides.{nat_tests}
use Rattle.dcel_fixed.specs.HalfEdges.{rev}
use Rattle.dcel_fixed.proofs.Halves.{rev-double-suc}
use Rattle.dcel_maps.specs.Conditions.{CanCloseOutside, HasRoom}
use Rattle.dcel_maps.specs.Cyclic.{from_least}
use Rattle.dcel_maps.specs.EditLists.{ComesBy}
use Rattle.dcel_maps.specs.EditLists.EditKind.{ear_cut}
use Rattle.dcel_maps.specs.Maps.{Live}
use Rattle.dcel_maps.specs.theory.Sound.{Sound, Sphere}
use Rattle.dcel_maps.specs.Removals.{gives_up_edge}
use Rattle.dcel_maps.specs.Shapes.{IsLive, IsMesh, Mesh, end_of, face_count, face_of, next_of, origin_of, prev_of}
use Rattle.dcel_maps.specs.edits.Outside.{face_closed}
use Rattle.dcel_maps.specs.Words.{become, word_of}
use Rattle.dcel_maps.proofs.Liveness.{is_live-past}
use Rattle.dcel_maps.proofs.edits.Changes.{Change, IsEdit, IsFull, changed, fits_with}
use Rattle.dcel_maps.proofs.edits.Growing.{after-face, after-grows, after-next, after-origin, after-pair, after-prev, still_labelled}
use Rattle.dcel_maps.proofs.edits.Linking.{face_live-at, triangle_full}
use Rattle.dcel_maps.proofs.edits.Patches.{patched_at-first, patched_at-new, pushing, puts_away, puts_here, replacing}
use Rattle.dcel_maps.proofs.edits.Starting.{StartsLive, starts-as, starts-still}
use Rattle.dcel_maps.proofs.maps.Ears.{EarSite, ear_keeps, ear_site, two_in}
use Rattle.dcel_maps.proofs.maps.Edits.{Ear, EarAt}
use Rattle.dcel_maps.proofs.maps.Labels.{KeepsLabel}
use Rattle.dcel_maps.proofs.maps.Lists.{comes_once, ear_edit}
use Rattle.dcel_maps.proofs.maps.Triangles.{IsTriangleOf}
use Rattle.dcel_maps.proofs.shapes.Maps.{map-sphere}
use Rattle.dcel_maps.proofs.words.Cuts.{cut-keeps_face, cut_triangle, cut_word}
use Rattle.dcel_maps.proofs.words.Faces.{IsWordOf, word_full, word_of_face}
use Rattle.dcel_maps.specs.Around.{around}
use Rattle.dcel_maps.proofs.edits.Around.{edited, known}

module _ {V DE UE F : Type 0} (m : Mesh V DE UE F) where
  -- an edge from the end of x to the start of e, which follow each other between `before` and `after` on the outer face: its half edges
  -- are n and n + 1, and there is one face more, l
  abbrev pub ear_closed : (n l before e x after from to : ℕ) → List DE → List UE → List F → Change V DE UE F
  ear_closed n l before e x after from to halves edges faces = record {
    vertices = 0;
    edges = 1;
    faces = 1;
    words = record {
      set = (0, from_least (become x [] (become e ((n + 1) ∷ []) (word_of m.shape.words 0)))) ∷ [];
      more = from_least (e ∷ x ∷ n ∷ []) ∷ [];
    };
    next = record { set = (before, n + 1) ∷ (x, n) ∷ []; more = e ∷ after ∷ [] };
    prev = record { set = (e, n) ∷ (after, n + 1) ∷ []; more = x ∷ before ∷ [] };
    origin = pushing (to ∷ from ∷ []);
    face = record { set = (e, l) ∷ (x, l) ∷ []; more = l ∷ 0 ∷ [] };
    vertex_anchors = replacing [];
    face_anchors = record { set = (0, Some (n + 1)) ∷ []; more = Some n ∷ [] };
    vertex_data = [];
    directed_data = halves;
    undirected_data = edges;
    face_data = faces;
  }

  module _ (e : ℕ) (halves : List DE) (edges : List UE) (faces : List F) where
    abbrev pub closing : Change V DE UE F
    closing =
        let x = next_of m.shape e in
        let after = next_of m.shape x in
        ear_closed (2 * m.shape.edges) (face_count m.shape) (prev_of m.shape e) e x after (origin_of m.shape e) (origin_of m.shape after) halves edges faces

    module _ (mesh : IsMesh m) (can : CanCloseOutside m.shape e) where
      open (around m.shape e) use {n, l, before, after as x}

      abbrev after : ℕ
      after = next_of m.shape x

      abbrev g : Change V DE UE F
      g = closing

      open (edited m g) use {S, T}
      open (known m mesh) use {sound, stands}

      pub next_live : IsLive m.shape x
      next_live = sound.live_next e can.live

      ends : origin_of m.shape after ≡ end_of m.shape x
      ends = sound.origin-next x next_live

      pub closing_is : changed m closing ≡ face_closed m e halves edges faces
      closing_is = rw ends (simp (add-zero, append-nil) refl)

      turned : rev (n + 1) ≡ n
      turned = rev-double-suc m.shape.edges

      new_live : Live T n × Live T (n + 1)
      new_live = after-pair m.shape g mesh.sized.within refl

      ear_at : EarAt S e x after (n + 1) l
      ear_at = record {
        lives = can.live;
        next_p = refl;
        next_n = refl;
        apart = λ same. can.apart (sym ends ∙ sym same);
        fresh = is_live-past (gives_up_edge m.shape.removal) m.shape.edges ((n + 1) / 2) (omega arith);
        vacant = λ h lives at. omega (arith, sound.below_faces h lives, at);
      }

      site : EarSite S e x after
      site = ear_site S e x after (n + 1) l sound ear_at

      before_live : IsLive m.shape before
      before_live = sound.live_prev e can.live

      after_live : IsLive m.shape after
      after_live = site.live_q

      face_0 : T.face n ≡ l
      face_0 = patched_at-first _ n g.face

      face_1 : T.face (n + 1) ≡ 0
      face_1 = patched_at-new _ n g.face 1

      face_e : T.face e ≡ l
      face_e = after-face m.shape g e can.live ∙ puts_here _ e l ((x, l) ∷ []) (site.p≢n, tt)

      face_x : T.face x ≡ l
      face_x = after-face m.shape g x next_live ∙ puts_here _ x l [] tt

      is_ear : Ear S T e x after (n + 1) l
      is_ear =
          let start : T.origin (n + 1) ≡ origin_of m.shape e = patched_at-new _ n g.origin 1 in
          let end : T.origin n ≡ origin_of m.shape after = patched_at-first _ n g.origin in
          let e_next : T.next (n + 1) ≡ after = patched_at-new _ n g.next 1 in
          record {
            at = ear_at;
            cut = record {
              drawn = record {
                grows = after-grows m.shape g mesh.sized.within refl refl (n + 1) (omega arith) (omega arith);
                origin_h = start;
                origin_rev = ap T.origin turned ∙ end;
                origin_other = after-origin m.shape g;
              };
              next_to_h = after-next m.shape g before before_live ∙ puts_here _ before (n + 1) ((x, n) ∷ []) (site.back≢n, tt);
              next_h = e_next;
              next_to_rev = ap T.next site.prev_q ∙ after-next m.shape g x next_live ∙ puts_here _ x n [] tt ∙ sym turned;
              next_rev = ap T.next turned ∙ patched_at-first _ n g.next;
              next_other = λ h lives i j. after-next m.shape g h lives ∙ puts_away _ g.next.set h (i, (λ is. j (is ∙ sym site.prev_q), tt));
              prev_h = patched_at-new _ n g.prev 1;
              prev_q = after-prev m.shape g after after_live ∙ puts_here _ after (n + 1) [] tt;
              prev_rev = ap T.prev turned ∙ patched_at-first _ n g.prev ∙ sym site.prev_q;
              prev_p = after-prev m.shape g e can.live ∙ puts_here _ e n ((after, n + 1) ∷ []) (site.p≢q, tt) ∙ sym turned;
              prev_other = λ h lives i j. after-prev m.shape g h lives ∙ puts_away _ g.prev.set h (i, (j, tt));
              face_h = face_1 ∙ sym (site.face_q ∙ site.face_n ∙ can.outer);
              face_rev = ap T.face turned ∙ face_0;
              face_in = λ h lives. two_in T.face e x h l face_e face_x;
              face_out = λ h lives out.
                  after-face m.shape g h lives ∙ puts_away _ g.face.set h (λ is. grind (arith, nat_tests), (λ is. grind (arith, nat_tests), tt));
              faces = omega arith;
              face_below = omega arith;
            };
          }

      pub closing_made : ComesBy (ear_cut ∷ []) S T
      closing_made = comes_once ear_cut S T (ear_edit S T e x after (n + 1) l is_ear sound)

      pub keeps : Sound T × Sphere T
      keeps = ear_keeps S T e x after (n + 1) l is_ear sound (map-sphere mesh.sound mesh.sphere)

      triangle : IsTriangleOf T l e x n
      triangle = cut_triangle S T e x after (n + 1) l is_ear sound n turned

      starts : (h : ℕ) → Live T h → StartsLive m mesh g h
      starts =
          starts-still m mesh g (after-origin m.shape g)
          (starts-as m mesh g n after after_live (patched_at-first _ n g.origin), starts-as m mesh g (n + 1) e can.live is_ear.origin_h)

      keeps_vertex : (v : ℕ) → KeepsLabel S T (origin_of m.shape) T.origin v
      keeps_vertex v =
          still_labelled m.shape g (origin_of m.shape) T.origin v (after-origin m.shape g) (
            λ at. record { half = after; live = after_live; is = sym (patched_at-first _ n g.origin) ∙ at },
            λ at. record { half = e; live = can.live; is = sym is_ear.origin_h ∙ at },
          )

      word : IsFull T 0 (from_least (become x [] (become e ((n + 1) ∷ []) (word_of m.shape.words 0))))
      word =
          let cut = subst (λ k. IsWordOf T k (from_least (become x [] (become e ((n + 1) ∷ []) (word_of m.shape.words k))))) can.outer
          (cut_word S T e x after (n + 1) l is_ear sound (word_of m.shape.words (face_of m.shape e)) (word_of_face S m.shape.words stands (face_of m.shape e))) in
          record { word = cut; full = word_full T 0 _ cut (n + 1) new_live.1 face_1 }

      new_word : IsFull T l (from_least (e ∷ x ∷ n ∷ []))
      new_word = triangle_full T keeps.0 l e x n triangle

      pub closing_is_edit : HasRoom m.shape 0 1 1 → length halves ≡ 2 → length edges ≡ 1 → length faces ≡ 1 → IsEdit m closing
      closing_is_edit room two_halves one_edge one_face = record {
        room = room;
        fits = fits_with g refl refl refl refl refl refl refl refl two_halves one_edge one_face;
        on_live = record { next = (before_live, (next_live, tt)); prev = (can.live, (after_live, tt)); origin = tt; face = (can.live, (next_live, tt)) };
        sound = keeps.0;
        sphere = keeps.1;
        starts = starts;
        words = ((word, face_live-at m mesh 0 e can.live can.outer), tt);
        new_words = (new_word, tt);
        other_words = λ k k_in off.
            cut-keeps_face S T e x after (n + 1) l is_ear sound k (λ is. off.0 (is ∙ can.outer)) (λ is. omega (arith, is, k_in));
        outer = λ u lives off. (e / 2, can.live);
        vertex_anchors = tt;
        new_vertex_anchors = tt;
        other_vertices = λ v v_in off. keeps_vertex v;
        face_anchors = ((new_live.1, face_1), tt);
        new_face_anchors = ((new_live.0, face_0), tt);
        other_faces = λ k k_in off. inl (off.0, tt);
      }
