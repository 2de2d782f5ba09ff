-- A vertex put into an edge of a mesh that has a triangle on one side.
use Rattle.std.proofs.Common.{◌≡◌, ◌≢◌, ◌⊎◌, inl, inr, ℕ, ◌+◌, ◌/◌, ◌<◌, List, [], ◌∷◌, length, slice_index, Some, add-zero, append-nil, refl, sym, ap, ◌∙◌, arith}
use Rattle.std.proofs.Math.Logic.{Ne-symm}
use Rattle.std.proofs.lemmas.Bool.{cases_eq}
use Rattle.dcel_fixed.proofs.Halves.{rev-double-suc}
use Rattle.dcel_maps.specs.Conditions.{HasRoom, IsTriangle, IsUnconnected}
use Rattle.dcel_maps.specs.Cyclic.{from_least}
use Rattle.dcel_maps.specs.EditLists.{ComesBy}
use Rattle.dcel_maps.specs.EditLists.EditKind.{ear_cut, edge_subdivided}
use Rattle.dcel_maps.specs.edits.Split.{half_edge_split}
use Rattle.dcel_maps.specs.Maps.{Live}
use Rattle.dcel_maps.specs.theory.Sound.{Sound, Sphere}
use Rattle.dcel_maps.specs.Shapes.{IsLive, IsMesh, Mesh, face_anchor, face_of, next_of, origin_of, prev_of}
use Rattle.dcel_maps.specs.Words.{become, word_of}
use Rattle.dcel_maps.proofs.Liveness.{vertex_live-parts}
use Rattle.dcel_maps.proofs.edits.Changes.{Change, IsEdit, IsFull, changed, fits_with}
use Rattle.dcel_maps.proofs.edits.Growing.{after-each, after-edge, after-face, after-next, after-origin, after-prev, after-still}
use Rattle.dcel_maps.proofs.edits.Linking.{linked-corner, face_live-at, linked-new, linked-old, triangle_full, triangle_full-least, triangle_linked, triangle_of}
use Rattle.dcel_maps.proofs.edits.Patches.{patched_at-first, patched_at-new, puts_away, puts_here, replacing}
use Rattle.dcel_maps.proofs.edits.Starting.{NewStart, moved_labelled, starts-moved}
use Rattle.dcel_maps.proofs.maps.Counts.{Used}
use Rattle.dcel_maps.proofs.maps.HalfSplits.{HalfSplit, half_split_comes}
use Rattle.dcel_maps.proofs.maps.Halves.{turn_even}
use Rattle.dcel_maps.proofs.maps.Labels.{KeepsLabel, labelled-kept}
use Rattle.dcel_maps.proofs.maps.Lists.{comes_keeps}
use Rattle.dcel_maps.proofs.maps.Soundness.{face_prev, rev_live}
use Rattle.dcel_maps.proofs.maps.Triangles.{by_triangle, off_another, Alone, IsTriangleOf, Off, alone_turned, off_face, triangle_faces_another, triangle_turned, IsLinked}
use Rattle.dcel_maps.proofs.shapes.Maps.{map-sphere}
use Rattle.dcel_maps.proofs.shapes.Shown.{word-anchored}
use Rattle.dcel_maps.proofs.words.Faces.{KeepsFace, word_full, word_of_face}
use Rattle.dcel_maps.proofs.words.HalfSplits.{half_split_word}
use Rattle.dcel_maps.specs.Around.{around}
use Rattle.dcel_maps.proofs.edits.Around.{edited, known}

-- the vertex `tip` in the middle of e, where (e, a, b) is the triangle of the face f, and the other half t of e comes after `before` on
-- the face g, whose word becomes w: the half edges from n on, and one face more, l; a starts at y and b at z
abbrev pub half_splitting : {V DE UE F : Type 0} → (n l f g e a b t before y z tip : ℕ) → List ℕ → List DE → List UE → List F → Change V DE UE F
half_splitting n l f g e a b t before y z tip w halves edges faces = record {
  vertices = 0;
  edges = 2;
  faces = 1;
  words = record {
    set = (f, from_least (e ∷ (n + 1) ∷ b ∷ [])) ∷ (g, w) ∷ [];
    more = (a ∷ n ∷ (n + 2) ∷ []) ∷ [];
  };
  next = record { set = (a, n) ∷ (b, e) ∷ (e, n + 1) ∷ (before, n + 3) ∷ []; more = (n + 2) ∷ b ∷ a ∷ t ∷ [] };
  prev = record { set = (a, n + 2) ∷ (b, n + 1) ∷ (t, n + 3) ∷ []; more = a ∷ e ∷ n ∷ before ∷ [] };
  origin = record { set = (t, tip) ∷ []; more = z ∷ tip ∷ tip ∷ y ∷ [] };
  face = record { set = (a, l) ∷ (b, f) ∷ []; more = l ∷ f ∷ l ∷ g ∷ [] };
  vertex_anchors = replacing ((y, Some (n + 3)) ∷ (tip, Some (n + 2)) ∷ []);
  face_anchors = record { set = (f, Some e) ∷ []; more = Some (n + 2) ∷ [] };
  vertex_data = [];
  directed_data = halves;
  undirected_data = edges;
  face_data = faces;
}

-- an edge whose face on the side of e is a triangle
module _ {V DE UE F : Type 0} (m : Mesh V DE UE F) (e tip : ℕ) (halves : List DE) (edges : List UE) (faces : List F) where
  open (around m.shape e) use {n, l, t, f, g, after as a, before as b, t_before as before, end as y}

  abbrev w : List ℕ
  w = from_least (become t ((n + 3) ∷ t ∷ []) (word_of m.shape.words g))

  abbrev pub half_edge_splitting : Change V DE UE F
  half_edge_splitting = half_splitting n l f g e a b t before y (origin_of m.shape b) tip w halves edges faces

  pub half_edge_splitting_is : changed m half_edge_splitting ≡ half_edge_split m e tip halves edges faces
  half_edge_splitting_is = simp (add-zero, append-nil) refl

  module _ (mesh : IsMesh m) (live : IsLive m.shape e) (triangle : IsTriangle m.shape f) (unconnected : IsUnconnected m.shape tip)
      (room : HasRoom m.shape 0 2 1) (four : length halves ≡ 4) (two : length edges ≡ 2) (one : length faces ≡ 1) where
    abbrev ch : Change V DE UE F
    ch = half_edge_splitting

    open (edited m ch) use {S, T}
    open (known m mesh) use {sound, stands, below}

    was : IsTriangleOf S f e a b
    was = triangle_of m mesh e live triangle

    live_t : IsLive m.shape t
    live_t = rev_live S e live

    live_before : IsLive m.shape before
    live_before = sound.live_prev t live_t

    face_before : face_of m.shape before ≡ g
    face_before = face_prev S sound t live_t

    elsewhere : g ≢ f
    elsewhere = triangle_faces_another S sound f e a b was

    t_off : Off t e a b
    t_off = off_face S f e a b was t elsewhere

    before_off : Off before e a b
    before_off = off_face S f e a b was before (λ is. elsewhere (sym face_before ∙ is))

    -- the half edges that were there
    at_a : IsLinked T l (n + 2) a n
    at_a =
        linked-old m.shape ch l (n + 2) a n was.live_y
        (puts_here _ a n ((b, e) ∷ (e, n + 1) ∷ (before, n + 3) ∷ []) (was.y≢z, (Ne-symm was.x≢y, (Ne-symm before_off.1, tt))))
        (puts_here _ a (n + 2) ((b, n + 1) ∷ (t, n + 3) ∷ []) (was.y≢z, (Ne-symm t_off.1, tt)))
        (puts_here _ a l ((b, f) ∷ []) (was.y≢z, tt))

    at_b : IsLinked T f (n + 1) b e
    at_b =
        linked-old m.shape ch f (n + 1) b e was.live_z
        (puts_here _ b e ((e, n + 1) ∷ (before, n + 3) ∷ []) (Ne-symm was.x≢z, (Ne-symm before_off.2, tt)))
        (puts_here _ b (n + 1) ((t, n + 3) ∷ []) (Ne-symm t_off.2, tt))
        (puts_here _ b f [] tt)

    at_e : IsLinked T f b e (n + 1)
    at_e =
        linked-old m.shape ch f b e (n + 1) live
        (puts_here _ e (n + 1) ((before, n + 3) ∷ []) (Ne-symm before_off.0, tt))
        (puts_away _ ch.prev.set e (was.x≢y, (was.x≢z, (Ne-symm t_off.0, tt))) ∙ was.prev_x)
        (puts_away _ ch.face.set e (was.x≢y, (was.x≢z, tt)) ∙ was.face_x)

    -- and the new ones
    new : (i k before h after : ℕ) → n + i ≡ h → i < 4 → slice_index ch.next.more i ≡ after → slice_index ch.prev.more i ≡ before
        → slice_index ch.face.more i ≡ k → IsLinked T k before h after
    new = linked-new m.shape ch mesh.sized.within

    at_3 : IsLinked T g before (n + 3) t
    at_3 = new 3 g before (n + 3) t refl (omega arith) refl refl refl

    first : IsTriangleOf T f e (n + 1) b
    first =
        let b_in = below b was.live_z in
        let e_in = below e live in
        triangle_linked T f e (n + 1) b at_e (new 1 f e (n + 1) b refl (omega arith) refl refl refl) at_b
        (λ is. omega (arith, is, e_in)) (λ is. omega (arith, is, b_in)) was.x≢z

    second : IsTriangleOf T l a n (n + 2)
    second =
        linked-corner m.shape ch mesh.sized.within l a n (n + 2) 0 2 was.live_y at_a (add-zero n) refl (omega arith) (omega arith) (λ is. omega (arith, is))
        refl refl refl refl refl refl

    -- the other half edges stay
    next_other : (h : ℕ) → IsLive m.shape h → Off h e a b → h ≢ before → T.next h ≡ next_of m.shape h
    next_other h lives off not_before = after-next m.shape ch h lives ∙ puts_away _ ch.next.set h (off.1, (off.2, (off.0, (not_before, tt))))

    prev_other : (h : ℕ) → IsLive m.shape h → Off h e a b → h ≢ t → T.prev h ≡ prev_of m.shape h
    prev_other h lives off not_t = after-prev m.shape ch h lives ∙ puts_away _ ch.prev.set h (off.1, (off.2, (not_t, tt)))

    face_other : (h : ℕ) → IsLive m.shape h → Off h e a b → T.face h ≡ face_of m.shape h
    face_other h lives off = after-face m.shape ch h lives ∙ puts_away _ ch.face.set h (off.1, (off.2, tt))

    origin_other : (h : ℕ) → IsLive m.shape h → h ≢ t → T.origin h ≡ origin_of m.shape h
    origin_other h lives not_t = after-origin m.shape ch h lives ∙ puts_away _ ch.origin.set h (not_t, tt)

    -- what holds on the two triangles, of the new half edge on the other side, and of what stays, holds of each live half edge
    each : (P : ℕ → Type 0) → P e × P (n + 1) × P b → P a × P n × P (n + 2) → P (n + 3) → ((h : ℕ) → IsLive m.shape h → Off h e a b → P h)
        → (h : ℕ) → Live T h → P h
    each P on_first on_second on_other rest =
        after-each m.shape ch P
        (λ h lives. by_triangle P e a b h (on_first.0, on_second.0, on_first.2) (rest h lives))
        (((on_second.1, on_first.1), on_second.2), on_other)

    f_below : f < l
    f_below = sound.below_faces e live

    g_below : g < l
    g_below = sound.below_faces t live_t

    second_alone : Alone T l a n (n + 2)
    second_alone =
        let P : ℕ → Type 0 = λ h. (h ≡ a) ⊎ ((h ≡ n) ⊎ (h ≡ n + 2)) in
        each (λ h. T.face h ≡ l → P h)
        (off_another T f e (n + 1) b first l (λ is. omega (arith, is, f_below)) P)
        (λ at. inl refl, λ at. inr (inl refl), λ at. inr (inr refl))
        (λ at. absurd (omega (arith, g_below, sym at_3.face ∙ at)))
        (λ h lives off at. absurd (omega (arith, sound.below_faces h lives, sym (face_other h lives off) ∙ at)))

    is_split : HalfSplit S T f e a b t tip n
    is_split = record {
      joined = record {
        twice = refl;
        turn = refl;
        turn_spoke = rev-double-suc m.shape.edges;
        turn_part = turn_even (n + 2) (n + 3) (m.shape.edges + 1) (omega arith) (omega arith);
        was = was;
        elsewhere = elsewhere;
        isolated = unconnected.bare;
        vertex_room = (vertex_live-parts m.shape tip unconnected.live).0;
        first = first;
        last = triangle_turned T l a n (n + 2) second;
        last_alone = alone_turned T l a n (n + 2) second_alone;
        origin_h = patched_at-new _ n ch.origin 1;
        origin_r = patched_at-first _ n ch.origin;
        origin_k = patched_at-new _ n ch.origin 2;
        origin_l = patched_at-new _ n ch.origin 3;
        origin_t = after-origin m.shape ch t live_t ∙ puts_here _ t tip [] tt;
        origin_other = origin_other;
        vertices = add-zero m.shape.vertices;
      };
      live_3 = at_3.live;
      next_before = after-next m.shape ch before live_before ∙ puts_here _ before (n + 3) [] tt;
      next_3 = at_3.next;
      prev_t = after-prev m.shape ch t live_t ∙ puts_here _ t (n + 3) [] tt;
      prev_3 = at_3.prev;
      face_3 = at_3.face;
      next_other = next_other;
      prev_other = prev_other;
      face_other = face_other;
      edge_other = λ u i j. after-edge m.shape ch u (λ less. omega (arith, less, i, j));
      edges = refl;
      faces = refl;
    }

    pub half_made : ComesBy (edge_subdivided ∷ ear_cut ∷ []) S T
    half_made = half_split_comes S T f e a b t tip n sound is_split (map-sphere mesh.sound mesh.sphere)

    keeps : Sound T × Sphere T
    keeps = comes_keeps (edge_subdivided ∷ ear_cut ∷ []) S T half_made sound (map-sphere mesh.sound mesh.sphere)

    -- the other faces stay
    keeps_face : (k : ℕ) → k < l → k ≢ f → k ≢ g → KeepsFace S T k
    keeps_face k k_in not_f not_g =
        let off : (h : ℕ) → face_of m.shape h ≡ k → Off h e a b = λ h at. off_face S f e a b was h (λ is. not_f (sym at ∙ is)) in
        let P : ℕ → Type 0 = λ h. IsLive m.shape h × (face_of m.shape h ≡ k) in
        record {
          comes = each (λ h. T.face h ≡ k → P h)
              (off_another T f e (n + 1) b first k (Ne-symm not_f) P) (off_another T l a n (n + 2) second k (λ is. omega (arith, is, k_in)) P)
              (λ at. absurd (not_g (sym at ∙ at_3.face)))
              (λ h lives beside at. (lives, sym (face_other h lives beside) ∙ at));
          live = λ h lives at. after-still m.shape ch h lives;
          next = λ h lives at. next_other h lives (off h at) (λ is. not_g (sym at ∙ ap S.face is ∙ face_before));
          prev = λ h lives at. prev_other h lives (off h at) (λ is. not_g (sym at ∙ ap S.face is));
          face = λ h lives at. face_other h lives (off h at) ∙ at;
        }

    -- and the face on the other side keeps its half edges
    keeps_other_face : KeepsLabel S T (face_of m.shape) T.face g
    keeps_other_face = record {
      stays = λ h lives at. (after-still m.shape ch h lives, face_other h lives (off_face S f e a b was h (λ is. elsewhere (sym at ∙ is))) ∙ at);
      comes =
          let P : ℕ → Type 0 = λ h. Used S (face_of m.shape) g in
          each (λ h. T.face h ≡ g → P h)
          (off_another T f e (n + 1) b first g (Ne-symm elsewhere) P) (off_another T l a n (n + 2) second g (λ is. omega (arith, is, g_below)) P)
          (λ at. record { half = t; live = live_t; is = refl })
          (λ h lives beside at. record { half = h; live = lives; is = sym (face_other h lives beside) ∙ at });
    }

    -- the new half edges start at the tip, where b does, or where t did
    new_starts : NewStart m.shape ch tip
    new_starts =
        let o = is_split in
        (((inr (b, was.live_z, o.origin_r), inl o.origin_h), inl o.origin_k), inr (t, live_t, o.origin_l))

    other_word : IsFull T g w
    other_word =
        let is = half_split_word S T f e a b t tip n sound is_split (map-sphere mesh.sound mesh.sphere) (word_of m.shape.words g)
        (word_of_face S m.shape.words stands g) in
        record { word = is; full = word_full T g w is (n + 3) at_3.live at_3.face }

    pub half_edge_splitting_is_edit : IsEdit m ch
    half_edge_splitting_is_edit =
        let a_in = below a was.live_y in
        record {
          room = room;
          fits = fits_with ch refl refl refl refl refl refl refl refl four two one;
          on_live = record {
            next = (was.live_y, (was.live_z, (live, (live_before, tt))));
            prev = (was.live_y, (was.live_z, (live_t, tt)));
            origin = (live_t, tt);
            face = (was.live_y, (was.live_z, tt));
          };
          sound = keeps.0;
          sphere = keeps.1;
          starts = starts-moved m mesh ch t tip origin_other is_split.origin_t unconnected.live new_starts;
          words = (
            (triangle_full T keeps.0 f e (n + 1) b first, face_live-at m mesh f e live refl),
            ((other_word, face_live-at m mesh g t live_t refl), tt),
          );
          new_words = (triangle_full-least T keeps.0 l a n (n + 2) second (omega (arith, a_in)) (omega (arith, a_in)), tt);
          other_words = λ k k_in off. keeps_face k k_in off.0 off.1.0;
          outer = λ u lives off. (e / 2, live);
          vertex_anchors = ((at_3.live, is_split.origin_l), ((second.live_z, is_split.origin_k), tt));
          new_vertex_anchors = tt;
          other_vertices = λ v v_in off. moved_labelled m.shape ch t y tip origin_other refl is_split.origin_t new_starts v off.0 off.1.0;
          face_anchors = ((first.live_x, first.face_x), tt);
          new_face_anchors = ((second.live_z, second.face_z), tt);
          other_faces = λ k k_in off. elim (cases_eq k g) [
            | inl is ↦ inr (rw is (labelled-kept S T (face_of m.shape) T.face g (face_anchor m g) keeps_other_face
                (word-anchored S m.shape.words stands g (face_anchor m g) (mesh.anchored.faces g g_below))))
            | inr differs ↦ inl (off.0, (differs, tt))
          ];
        }
