-- A triangle put beside a half edge of a mesh.
use Rattle.std.proofs.Common.{◌≡◌, ◌≢◌, ◌⊎◌, inl, inr, ℕ, ◌+◌, ◌*◌, ◌/◌, ◌<◌, List, [], ◌∷◌, length, Some, add-zero, append-nil, refl, sym, ◌∙◌, subst, arith}
use Rattle.std.proofs.lemmas.Bool.{cases_eq}
use Rattle.dcel_maps.specs.Conditions.{HasRoom, IsUnconnected}
use Rattle.dcel_maps.specs.Cyclic.{from_least}
use Rattle.dcel_maps.specs.EditLists.{ComesBy}
use Rattle.dcel_maps.specs.EditLists.EditKind.{ear_cut, spur_added}
use Rattle.dcel_maps.specs.Maps.{Live}
use Rattle.dcel_maps.specs.theory.Sound.{Sound, Sphere}
use Rattle.dcel_maps.specs.Shapes.{IsLive, IsMesh, Mesh, end_of, face_count, face_of, next_of, origin_of, prev_of}
use Rattle.dcel_maps.specs.edits.Outside.{face_put_beside}
use Rattle.dcel_maps.specs.Words.{become, word_of}
use Rattle.dcel_maps.proofs.Liveness.{vertex_live-parts}
use Rattle.dcel_maps.proofs.edits.Changes.{Change, IsEdit, IsFull, changed, fits_with}
use Rattle.dcel_maps.proofs.edits.Growing.{after-each, after-edge, after-face, after-next, after-origin, after-prev}
use Rattle.dcel_maps.proofs.edits.Linking.{linked-corner, linked-old, triangle_full-least, linked-new}
use Rattle.dcel_maps.proofs.edits.Patches.{patched_at-first, patched_at-new, pushing, puts_away, puts_here, replacing}
use Rattle.dcel_maps.proofs.edits.Starting.{NewStart, start_labelled, starts-new}
use Rattle.dcel_maps.proofs.maps.Beside.{Beside, beside_comes}
use Rattle.dcel_maps.proofs.maps.Lists.{comes_keeps}
use Rattle.dcel_maps.proofs.maps.Soundness.{prev_differs, next_differs}
use Rattle.dcel_maps.proofs.maps.Triangles.{Alone, IsTriangleOf, IsLinked}
use Rattle.dcel_maps.proofs.shapes.Maps.{face-live, map-sphere}
use Rattle.dcel_maps.proofs.walks.Links.{half-below}
use Rattle.dcel_maps.proofs.words.Beside.{beside-keeps_face, beside_word}
use Rattle.dcel_maps.proofs.words.Faces.{word_full, word_of_face}
use Rattle.dcel_maps.specs.Around.{around}
use Rattle.dcel_maps.proofs.edits.Around.{edited, known}

module _ {V DE UE F : Type 0} (m : Mesh V DE UE F) where
  -- two edges from the ends of the half edge e, which stands between `before` and `after` on the face f, to the vertex `tip`: the half
  -- edges from n on, and one face more, l; e leads from x to y
  abbrev pub triangle_beside : (n l f before e after x y tip : ℕ) → List DE → List UE → List F → Change V DE UE F
  triangle_beside n l f before e after x y tip halves edges faces = record {
    vertices = 0;
    edges = 2;
    faces = 1;
    words = record {
      set = (f, from_least (become e ((n + 3) ∷ (n + 1) ∷ []) (word_of m.shape.words f))) ∷ [];
      more = (e ∷ n ∷ (n + 2) ∷ []) ∷ [];
    };
    next = record { set = (before, n + 3) ∷ (e, n) ∷ []; more = (n + 2) ∷ after ∷ e ∷ (n + 1) ∷ [] };
    prev = record { set = (e, n + 2) ∷ (after, n + 1) ∷ []; more = e ∷ (n + 3) ∷ n ∷ before ∷ [] };
    origin = pushing (y ∷ tip ∷ tip ∷ x ∷ []);
    face = record { set = (e, l) ∷ []; more = l ∷ f ∷ l ∷ f ∷ [] };
    vertex_anchors = replacing ((tip, Some (n + 2)) ∷ []);
    face_anchors = record { set = (f, Some (n + 3)) ∷ []; more = Some e ∷ [] };
    vertex_data = [];
    directed_data = halves;
    undirected_data = edges;
    face_data = faces;
  }

  module _ (e tip : ℕ) (halves : List DE) (edges : List UE) (faces : List F) where
    abbrev pub beside : Change V DE UE F
    beside =
        let after = next_of m.shape e in
        triangle_beside (2 * m.shape.edges) (face_count m.shape) (face_of m.shape e) (prev_of m.shape e) e after (origin_of m.shape e) (origin_of m.shape after) tip halves edges faces

    module _ (mesh : IsMesh m) (live : IsLive m.shape e) where
      open (known m mesh) use {sound, stands}

      pub beside_is : changed m beside ≡ face_put_beside m e tip halves edges faces
      beside_is =
          let ends : origin_of m.shape (next_of m.shape e) ≡ end_of m.shape e = sound.origin-next e live in
          rw ends (simp (add-zero, append-nil) refl)

      module _ (unconnected : IsUnconnected m.shape tip) (room : HasRoom m.shape 0 2 1)
          (four : length halves ≡ 4) (two : length edges ≡ 2) (one : length faces ≡ 1) where
        open (around m.shape e) use {n, l, f, before, after}

        abbrev g : Change V DE UE F
        g = beside

        open (edited m g) use {S, T}

        e_below : e < n
        e_below = half-below m.shape e live

        before_live : IsLive m.shape before
        before_live = sound.live_prev e live

        after_live : IsLive m.shape after
        after_live = sound.live_next e live

        before≢e : before ≢ e
        before≢e = prev_differs S sound e live

        after≢e : after ≢ e
        after≢e = next_differs S sound e live

        next_other : (h : ℕ) → IsLive m.shape h → h ≢ e → h ≢ before → T.next h ≡ next_of m.shape h
        next_other h lives not_e not_before = after-next m.shape g h lives ∙ puts_away _ g.next.set h (not_before, (not_e, tt))

        prev_other : (h : ℕ) → IsLive m.shape h → h ≢ e → h ≢ after → T.prev h ≡ prev_of m.shape h
        prev_other h lives not_e not_after = after-prev m.shape g h lives ∙ puts_away _ g.prev.set h (not_e, (not_after, tt))

        face_other : (h : ℕ) → IsLive m.shape h → h ≢ e → T.face h ≡ face_of m.shape h
        face_other h lives not_e = after-face m.shape g h lives ∙ puts_away _ g.face.set h (not_e, tt)

        at_1 : IsLinked T f (n + 3) (n + 1) after
        at_1 = linked-new m.shape g mesh.sized.within 1 f (n + 3) (n + 1) after refl (omega arith) refl refl refl

        at_3 : IsLinked T f before (n + 3) (n + 1)
        at_3 = linked-new m.shape g mesh.sized.within 3 f before (n + 3) (n + 1) refl (omega arith) refl refl refl

        at_e : IsLinked T l (n + 2) e n
        at_e =
            linked-old m.shape g l (n + 2) e n live (puts_here _ e n [] tt)
            (puts_here _ e (n + 2) ((after, n + 1) ∷ []) (λ is. after≢e (sym is), tt)) (puts_here _ e l [] tt)

        triangle : IsTriangleOf T l e n (n + 2)
        triangle =
            linked-corner m.shape g mesh.sized.within l e n (n + 2) 0 2 live at_e (add-zero n) refl (omega arith) (omega arith) (λ is. omega (arith, is))
            refl refl refl refl refl refl

        f_below : f < l
        f_below = sound.below_faces e live

        -- each live half edge is e, a new one, or stays
        each : (P : ℕ → Type 0) → P e → P n → P (n + 1) → P (n + 2) → P (n + 3) → ((h : ℕ) → IsLive m.shape h → h ≢ e → P h)
            → (h : ℕ) → Live T h → P h
        each P at_e p0 p1 p2 p3 rest =
            after-each m.shape g P (λ h lives. elim (cases_eq h e) [ inl is ↦ subst P (sym is) at_e | inr not_e ↦ rest h lives not_e ]) (((p0, p1), p2), p3)

        alone : Alone T l e n (n + 2)
        alone =
            each (λ h. T.face h ≡ l → (h ≡ e) ⊎ ((h ≡ n) ⊎ (h ≡ n + 2)))
            (λ at. inl refl) (λ at. inr (inl refl)) (λ at. absurd (omega (arith, sym at_1.face ∙ at, f_below)))
            (λ at. inr (inr refl)) (λ at. absurd (omega (arith, sym at_3.face ∙ at, f_below)))
            (λ h lives not_e at. absurd (omega (arith, sound.below_faces h lives, sym (face_other h lives not_e) ∙ at)))

        is_beside : Beside S T e tip n
        is_beside = record {
          twice = refl;
          lives = live;
          isolated = unconnected.bare;
          vertex_room = (vertex_live-parts m.shape tip unconnected.live).0;
          triangle = triangle;
          alone = alone;
          at_1 = at_1;
          at_3 = at_3;
          next_before = after-next m.shape g before before_live ∙ puts_here _ before (n + 3) ((e, n) ∷ []) (before≢e, tt);
          prev_after = after-prev m.shape g after after_live ∙ puts_here _ after (n + 1) [] tt;
          next_other = next_other;
          prev_other = prev_other;
          face_other = face_other;
          origins =
              (patched_at-first _ n g.origin, patched_at-new _ n g.origin 1, patched_at-new _ n g.origin 2, patched_at-new _ n g.origin 3);
          origin_other = after-origin m.shape g;
          edge_other = λ u i j. after-edge m.shape g u (λ less. omega (arith, less, i, j));
          edges = refl;
          vertices = add-zero m.shape.vertices;
          faces = refl;
        }

        pub beside_made : ComesBy (spur_added ∷ ear_cut ∷ []) S T
        beside_made = beside_comes S T e tip n sound is_beside (map-sphere mesh.sound mesh.sphere)

        keeps : Sound T × Sphere T
        keeps = comes_keeps (spur_added ∷ ear_cut ∷ []) S T beside_made sound (map-sphere mesh.sound mesh.sphere)

        -- the new half edges start at the tip, where e did, or where it ended
        new_starts : NewStart m.shape g tip
        new_starts =
            let o = is_beside in
            (((inr (after, after_live, o.origins.0), inl o.origins.1), inl o.origins.2), inr (e, live, o.origins.3))

        word : IsFull T f (from_least (become e ((n + 3) ∷ (n + 1) ∷ []) (word_of m.shape.words f)))
        word =
            let is = beside_word S T e tip n sound is_beside (word_of m.shape.words f) (word_of_face S m.shape.words stands f) in
            record { word = is; full = word_full T f _ is (n + 1) is_beside.at_1.live at_1.face }

        pub beside_is_edit : IsEdit m beside
        beside_is_edit = record {
          room = room;
          fits = fits_with g refl refl refl refl refl refl refl refl four two one;
          on_live = record { next = (before_live, (live, tt)); prev = (live, (after_live, tt)); origin = tt; face = (live, tt) };
          sound = keeps.0;
          sphere = keeps.1;
          starts = starts-new m mesh g (after-origin m.shape g) tip unconnected.live new_starts;
          words = ((word, face-live mesh.sound e live), tt);
          new_words = (triangle_full-least T keeps.0 l e n (n + 2) triangle e_below (omega (arith, e_below)), tt);
          other_words = λ k k_in off. beside-keeps_face S T e tip n sound is_beside k off.0 (λ is. omega (arith, is, k_in));
          outer = λ u lives off. (e / 2, live);
          vertex_anchors = ((triangle.live_z, is_beside.origins.2), tt);
          new_vertex_anchors = tt;
          other_vertices = λ v v_in off. start_labelled m.shape g (after-origin m.shape g) tip new_starts v off.0;
          face_anchors = ((is_beside.at_3.live, at_3.face), tt);
          new_face_anchors = ((triangle.live_x, triangle.face_x), tt);
          other_faces = λ k k_in off. inl (off.0, tt);
        }
