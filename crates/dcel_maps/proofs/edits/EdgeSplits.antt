-- A vertex put into an edge of a mesh between two triangles.
use Rattle.std.proofs.Common.{◌≡◌, ◌≢◌, ◌⊎◌, inl, inr, ℕ, ◌+◌, ◌*◌, ◌/◌, ◌<◌, List, [], ◌∷◌, length, slice_index, Some, add-zero, append-nil, refl, sym, ap, ◌∙◌, arith}
use Rattle.std.proofs.Math.Logic.{Ne-symm}
use Rattle.dcel_fixed.specs.HalfEdges.{rev}
use Rattle.dcel_maps.specs.Conditions.{HasRoom, IsTriangle, IsUnconnected}
use Rattle.dcel_maps.specs.Cyclic.{from_least}
use Rattle.dcel_maps.specs.EditLists.{ComesBy}
use Rattle.dcel_maps.specs.EditLists.EditKind.{ear_cut, edge_subdivided}
use Rattle.dcel_maps.specs.edits.Split.{edge_split}
use Rattle.dcel_maps.specs.Maps.{Live}
use Rattle.dcel_maps.specs.theory.Sound.{Sound, Sphere}
use Rattle.dcel_maps.specs.Shapes.{IsLive, IsMesh, Mesh, end_of, face_count, face_of, map_of, next_of, origin_of, prev_of}
use Rattle.dcel_maps.proofs.Liveness.{vertex_live-parts}
use Rattle.dcel_maps.proofs.edits.Changes.{Change, IsEdit, changed, fits_with, map_after}
use Rattle.dcel_maps.proofs.edits.Growing.{after-each, after-edge, after-origin, after-still}
use Rattle.dcel_maps.proofs.edits.Linking.{linked-corner, face_live-at, linked-new, linked-old, triangle_full, triangle_full-least, triangle_linked, triangle_of, stays-linked}
use Rattle.dcel_maps.proofs.edits.Patches.{patched_at-first, patched_at-new, puts_away, puts_here, replacing}
use Rattle.dcel_maps.proofs.edits.Starting.{NewStart, moved_labelled, starts-moved}
use Rattle.dcel_maps.proofs.maps.Halves.{turn_odd}
use Rattle.dcel_maps.proofs.maps.Lists.{comes_keeps}
use Rattle.dcel_maps.proofs.maps.Soundness.{rev_live}
use Rattle.dcel_maps.proofs.maps.Splits.{Split, split_comes}
use Rattle.dcel_maps.proofs.maps.Triangles.{by_triangle, off_another, Alone, IsTriangleOf, Off, alone_turned, off_face, triangle_faces_another, triangle_turned, triangles_apart, IsLinked, SameLinks}
use Rattle.dcel_maps.proofs.shapes.Maps.{map-sphere}
use Rattle.dcel_maps.proofs.words.Faces.{KeepsFace}
use Rattle.dcel_maps.specs.Around.{around}
use Rattle.dcel_maps.proofs.edits.Around.{edited, known}

-- the vertex `tip` in the middle of e, where (e, a, b) is the triangle of the face f, and (t, c, d) with the other half t that of g: the
-- half edges from n on, and two faces more, l and l + 1; d starts at x, a at y and b at z
abbrev pub splitting : {V DE UE F : Type 0} → (n l f g e a b t c d x y z tip : ℕ) → List DE → List UE → List F → Change V DE UE F
splitting n l f g e a b t c d x y z tip halves edges faces = record {
  vertices = 0;
  edges = 3;
  faces = 2;
  words = record {
    set = (f, from_least (e ∷ (n + 5) ∷ b ∷ [])) ∷ (g, from_least (t ∷ c ∷ n ∷ [])) ∷ [];
    more = (d ∷ (n + 2) ∷ (n + 1) ∷ []) ∷ (a ∷ (n + 4) ∷ (n + 3) ∷ []) ∷ [];
  };
  next = record {
    set = (c, n) ∷ (d, n + 2) ∷ (a, n + 4) ∷ (b, e) ∷ (e, n + 5) ∷ [];
    more = t ∷ d ∷ (n + 1) ∷ a ∷ (n + 3) ∷ b ∷ [];
  };
  prev = record {
    set = (c, t) ∷ (d, n + 1) ∷ (a, n + 3) ∷ (b, n + 5) ∷ (t, n) ∷ [];
    more = c ∷ (n + 2) ∷ d ∷ (n + 4) ∷ a ∷ e ∷ [];
  };
  origin = record { set = (t, tip) ∷ []; more = x ∷ tip ∷ y ∷ tip ∷ z ∷ tip ∷ [] };
  face = record {
    set = (c, g) ∷ (d, l) ∷ (a, l + 1) ∷ (b, f) ∷ [];
    more = g ∷ l ∷ l ∷ (l + 1) ∷ (l + 1) ∷ f ∷ [];
  };
  vertex_anchors = replacing ((y, Some (n + 2)) ∷ (tip, Some t) ∷ []);
  face_anchors = record { set = (f, Some e) ∷ (g, Some n) ∷ []; more = Some (n + 2) ∷ Some (n + 4) ∷ [] };
  vertex_data = [];
  directed_data = halves;
  undirected_data = edges;
  face_data = faces;
}

module _ {V DE UE F : Type 0} (m : Mesh V DE UE F) (mesh : IsMesh m) (f g e a b t c d y tip : ℕ) (turn : rev e ≡ t)
    (was : IsTriangleOf (map_of m.shape) f e a b) (facing : IsTriangleOf (map_of m.shape) g t c d) (end : origin_of m.shape t ≡ y)
    (unconnected : IsUnconnected m.shape tip) (room : HasRoom m.shape 0 3 2)
    (halves : List DE) (edges : List UE) (faces : List F) (six : length halves ≡ 6) (three : length edges ≡ 3) (two : length faces ≡ 2) where
  open (around m.shape e) use {n, l}

  abbrev ch : Change V DE UE F
  ch = splitting n l f g e a b t c d (origin_of m.shape d) y (origin_of m.shape b) tip halves edges faces

  open (edited m ch) use {S, T}
  open (known m mesh) use {sound, below}

  elsewhere : S.face t ≢ f
  elsewhere is = triangle_faces_another S sound f e a b was (ap S.face turn ∙ is)

  open (triangles_apart S f e a b g t c d was facing (λ same. elsewhere (facing.face_x ∙ sym same))) use {x_off as t_off, y_off as c_off, z_off as d_off}

  -- the half edges that were there
  at_c : IsLinked T g t c n
  at_c =
      linked-old m.shape ch g t c n facing.live_y
      (puts_here _ c n ((d, n + 2) ∷ (a, n + 4) ∷ (b, e) ∷ (e, n + 5) ∷ []) (facing.y≢z, (c_off.1, (c_off.2, (c_off.0, tt)))))
      (puts_here _ c t ((d, n + 1) ∷ (a, n + 3) ∷ (b, n + 5) ∷ (t, n) ∷ []) (facing.y≢z, (c_off.1, (c_off.2, (Ne-symm facing.x≢y, tt)))))
      (puts_here _ c g ((d, l) ∷ (a, l + 1) ∷ (b, f) ∷ []) (facing.y≢z, (c_off.1, (c_off.2, tt))))

  at_d : IsLinked T l (n + 1) d (n + 2)
  at_d =
      linked-old m.shape ch l (n + 1) d (n + 2) facing.live_z
      (puts_here _ d (n + 2) ((a, n + 4) ∷ (b, e) ∷ (e, n + 5) ∷ []) (d_off.1, (d_off.2, (d_off.0, tt))))
      (puts_here _ d (n + 1) ((a, n + 3) ∷ (b, n + 5) ∷ (t, n) ∷ []) (d_off.1, (d_off.2, (Ne-symm facing.x≢z, tt))))
      (puts_here _ d l ((a, l + 1) ∷ (b, f) ∷ []) (d_off.1, (d_off.2, tt)))

  at_a : IsLinked T (l + 1) (n + 3) a (n + 4)
  at_a =
      linked-old m.shape ch (l + 1) (n + 3) a (n + 4) was.live_y
      (puts_here _ a (n + 4) ((b, e) ∷ (e, n + 5) ∷ []) (was.y≢z, (Ne-symm was.x≢y, tt)))
      (puts_here _ a (n + 3) ((b, n + 5) ∷ (t, n) ∷ []) (was.y≢z, (Ne-symm t_off.1, tt)))
      (puts_here _ a (l + 1) ((b, f) ∷ []) (was.y≢z, tt))

  at_b : IsLinked T f (n + 5) b e
  at_b =
      linked-old m.shape ch f (n + 5) b e was.live_z
      (puts_here _ b e ((e, n + 5) ∷ []) (Ne-symm was.x≢z, tt))
      (puts_here _ b (n + 5) ((t, n) ∷ []) (Ne-symm t_off.2, tt))
      (puts_here _ b f [] tt)

  at_e : IsLinked T f b e (n + 5)
  at_e =
      linked-old m.shape ch f b e (n + 5) was.live_x
      (puts_here _ e (n + 5) [] tt)
      (puts_away _ ch.prev.set e (Ne-symm c_off.0, (Ne-symm d_off.0, (was.x≢y, (was.x≢z, (Ne-symm t_off.0, tt))))) ∙ was.prev_x)
      (puts_away _ ch.face.set e (Ne-symm c_off.0, (Ne-symm d_off.0, (was.x≢y, (was.x≢z, tt)))) ∙ was.face_x)

  at_t : IsLinked T g n t c
  at_t =
      linked-old m.shape ch g n t c facing.live_x
      (puts_away _ ch.next.set t (facing.x≢y, (facing.x≢z, (t_off.1, (t_off.2, (t_off.0, tt))))) ∙ facing.next_x)
      (puts_here _ t n [] tt)
      (puts_away _ ch.face.set t (facing.x≢y, (facing.x≢z, (t_off.1, (t_off.2, tt)))) ∙ facing.face_x)

  -- and the new ones
  new : (i k before h after : ℕ) → n + i ≡ h → i < 6 → slice_index ch.next.more i ≡ after → slice_index ch.prev.more i ≡ before
      → slice_index ch.face.more i ≡ k → IsLinked T k before h after
  new = linked-new m.shape ch mesh.sized.within

  first : IsTriangleOf T f e (n + 5) b
  first =
      let b_in = below b was.live_z in
      let e_in = below e was.live_x in
      triangle_linked T f e (n + 5) b at_e (new 5 f e (n + 5) b refl (omega arith) refl refl refl) at_b
      (λ is. omega (arith, is, e_in)) (λ is. omega (arith, is, b_in)) was.x≢z

  second : IsTriangleOf T g c n t
  second =
      let c_in = below c facing.live_y in
      let t_in = below t facing.live_x in
      triangle_linked T g c n t at_c (new 0 g c n t (add-zero n) (omega arith) refl refl refl) at_t
      (λ is. omega (arith, is, c_in)) (λ is. omega (arith, is, t_in)) (Ne-symm facing.x≢y)

  third : IsTriangleOf T l d (n + 2) (n + 1)
  third =
      linked-corner m.shape ch mesh.sized.within l d (n + 2) (n + 1) 2 1 facing.live_z at_d refl refl (omega arith) (omega arith) (λ is. omega (arith, is))
      refl refl refl refl refl refl

  fourth : IsTriangleOf T (l + 1) a (n + 4) (n + 3)
  fourth =
      linked-corner m.shape ch mesh.sized.within (l + 1) a (n + 4) (n + 3) 4 3 was.live_y at_a refl refl (omega arith) (omega arith) (λ is. omega (arith, is))
      refl refl refl refl refl refl

  -- the other half edges stay
  others : (h : ℕ) → IsLive m.shape h → Off h e a b → Off h t c d → SameLinks S T h
  others h live here there =
      stays-linked m.shape ch h live (there.1, (there.2, (here.1, (here.2, (here.0, tt))))) (there.1, (there.2, (here.1, (here.2, (there.0, tt)))))
      (there.1, (there.2, (here.1, (here.2, tt))))

  -- what holds on the four triangles, and of what stays, holds of each live half edge
  abbrev Three : (ℕ → Type 0) → ℕ → ℕ → ℕ → Type 0
  Three P x y z = P x × P y × P z

  each : (P : ℕ → Type 0) → Three P e (n + 5) b → Three P c n t → Three P d (n + 2) (n + 1) → Three P a (n + 4) (n + 3)
      → ((h : ℕ) → IsLive m.shape h → Off h e a b → Off h t c d → P h) → (h : ℕ) → Live T h → P h
  each P on_first on_second on_third on_fourth rest =
      after-each m.shape ch P
      (λ h live.
      by_triangle P e a b h (on_first.0, on_fourth.0, on_first.2) (λ here.
      by_triangle P t c d h (on_second.2, on_second.0, on_third.0) (rest h live here)))
      (((((on_second.1, on_third.2), on_third.1), on_fourth.2), on_fourth.1), on_first.1)

  old_face : (h : ℕ) → IsLive m.shape h → face_of m.shape h < l
  old_face = sound.below_faces

  f_below : f < l
  f_below = omega (arith, old_face e was.live_x, was.face_x)

  g_below : g < l
  g_below = omega (arith, old_face t facing.live_x, facing.face_x)

  third_alone : Alone T l d (n + 2) (n + 1)
  third_alone =
      let P : ℕ → Type 0 = λ h. (h ≡ d) ⊎ ((h ≡ n + 2) ⊎ (h ≡ n + 1)) in
      each (λ h. T.face h ≡ l → P h)
      (off_another T f e (n + 5) b first l (λ is. omega (arith, is, f_below)) P) (off_another T g c n t second l (λ is. omega (arith, is, g_below)) P)
      (λ at. inl refl, λ at. inr (inl refl), λ at. inr (inr refl))
      (off_another T (l + 1) a (n + 4) (n + 3) fourth l (λ is. omega (arith, is)) P)
      (λ h live here there at. absurd (omega (arith, old_face h live, sym ((others h live here there).face) ∙ at)))

  fourth_alone : Alone T (l + 1) a (n + 4) (n + 3)
  fourth_alone =
      let P : ℕ → Type 0 = λ h. (h ≡ a) ⊎ ((h ≡ n + 4) ⊎ (h ≡ n + 3)) in
      each (λ h. T.face h ≡ l + 1 → P h)
      (off_another T f e (n + 5) b first (l + 1) (λ is. omega (arith, is, f_below)) P) (off_another T g c n t second (l + 1) (λ is. omega (arith, is, g_below)) P)
      (off_another T l d (n + 2) (n + 1) third (l + 1) (λ is. omega (arith, is)) P)
      (λ at. inl refl, λ at. inr (inl refl), λ at. inr (inr refl))
      (λ h live here there at. absurd (omega (arith, old_face h live, sym ((others h live here there).face) ∙ at)))

  origin_other : (h : ℕ) → IsLive m.shape h → h ≢ t → T.origin h ≡ origin_of m.shape h
  origin_other h live not_t = after-origin m.shape ch h live ∙ puts_away _ ch.origin.set h (not_t, tt)

  is_split : Split S T f g e a b t c d tip n
  is_split = record {
    joined = record {
      twice = refl;
      turn = turn;
      turn_spoke = turn_odd (n + 5) (n + 4) (m.shape.edges + 2) (omega arith) (omega arith);
      turn_part = turn_odd (n + 3) (n + 2) (m.shape.edges + 1) (omega arith) (omega arith);
      was = was;
      elsewhere = elsewhere;
      isolated = unconnected.bare;
      vertex_room = (vertex_live-parts m.shape tip unconnected.live).0;
      first = first;
      last = triangle_turned T (l + 1) a (n + 4) (n + 3) fourth;
      last_alone = alone_turned T (l + 1) a (n + 4) (n + 3) fourth_alone;
      origin_h = patched_at-new _ n ch.origin 5;
      origin_r = patched_at-new _ n ch.origin 4;
      origin_k = patched_at-new _ n ch.origin 3;
      origin_l = patched_at-new _ n ch.origin 2 ∙ sym end;
      origin_t = after-origin m.shape ch t facing.live_x ∙ puts_here _ t tip [] tt;
      origin_other = origin_other;
      vertices = add-zero m.shape.vertices;
    };
    facing = facing;
    second = second;
    third = third;
    third_alone = third_alone;
    others = others;
    origin_0 = patched_at-first _ n ch.origin;
    origin_1 = patched_at-new _ n ch.origin 1;
    edge_other = λ u i j k. after-edge m.shape ch u (λ less. omega (arith, less, i, j, k));
    edges = refl;
    faces = refl;
  }

  split_made : ComesBy (edge_subdivided ∷ ear_cut ∷ ear_cut ∷ []) S T
  split_made = split_comes S T f g e a b t c d tip n sound is_split (map-sphere mesh.sound mesh.sphere)

  keeps : Sound T × Sphere T
  keeps = comes_keeps (edge_subdivided ∷ ear_cut ∷ ear_cut ∷ []) S T split_made sound (map-sphere mesh.sound mesh.sphere)

  -- the other faces stay
  keeps_face : (k : ℕ) → k < l → k ≢ f → k ≢ g → KeepsFace S T k
  keeps_face k k_in not_f not_g =
      let here : (h : ℕ) → face_of m.shape h ≡ k → Off h e a b = λ h at. off_face S f e a b was h (λ is. not_f (sym at ∙ is)) in
      let there : (h : ℕ) → face_of m.shape h ≡ k → Off h t c d = λ h at. off_face S g t c d facing h (λ is. not_g (sym at ∙ is)) in
      let P : ℕ → Type 0 = λ h. IsLive m.shape h × (face_of m.shape h ≡ k) in
      record {
        comes = each (λ h. T.face h ≡ k → P h)
            (off_another T f e (n + 5) b first k (Ne-symm not_f) P) (off_another T g c n t second k (Ne-symm not_g) P)
            (off_another T l d (n + 2) (n + 1) third k (λ is. omega (arith, is, k_in)) P) (off_another T (l + 1) a (n + 4) (n + 3) fourth k (λ is. omega (arith, is, k_in)) P)
            (λ h live not_here not_there at. (live, sym ((others h live not_here not_there).face) ∙ at));
        live = λ h live at. after-still m.shape ch h live;
        next = λ h live at. (others h live (here h at) (there h at)).next;
        prev = λ h live at. (others h live (here h at) (there h at)).prev;
        face = λ h live at. (others h live (here h at) (there h at)).face ∙ at;
      }

  -- the new half edges start at the tip, at a corner, or where t did
  new_starts : NewStart m.shape ch tip
  new_starts =
      let o = is_split in (
        (
          (((inr (d, facing.live_z, o.origin_0), inl o.origin_1), inr (t, facing.live_x, o.origin_l)), inl o.origin_k),
          inr (b, was.live_z, o.origin_r),
        ),
        inl o.origin_h,
      )

  pub splitting_is_edit : IsEdit m ch
  splitting_is_edit =
      let a_in = below a was.live_y in
      let d_in = below d facing.live_z in
      record {
        room = room;
        fits = fits_with ch refl refl refl refl refl refl refl refl six three two;
        on_live = record {
          next = (facing.live_y, (facing.live_z, (was.live_y, (was.live_z, (was.live_x, tt)))));
          prev = (facing.live_y, (facing.live_z, (was.live_y, (was.live_z, (facing.live_x, tt)))));
          origin = (facing.live_x, tt);
          face = (facing.live_y, (facing.live_z, (was.live_y, (was.live_z, tt))));
        };
        sound = keeps.0;
        sphere = keeps.1;
        starts = starts-moved m mesh ch t tip origin_other is_split.origin_t unconnected.live new_starts;
        words = (
          (triangle_full T keeps.0 f e (n + 5) b first, face_live-at m mesh f e was.live_x was.face_x),
          ((triangle_full T keeps.0 g t c n (triangle_turned T g c n t second), face_live-at m mesh g t facing.live_x facing.face_x), tt),
        );
        new_words = (
          triangle_full-least T keeps.0 l d (n + 2) (n + 1) third (omega (arith, d_in)) (omega (arith, d_in)),
          (triangle_full-least T keeps.0 (l + 1) a (n + 4) (n + 3) fourth (omega (arith, a_in)) (omega (arith, a_in)), tt),
        );
        other_words = λ k k_in off. keeps_face k k_in off.0 off.1.0;
        outer = λ u lives off. (e / 2, was.live_x);
        vertex_anchors = ((third.live_y, is_split.origin_l ∙ end), ((second.live_z, is_split.origin_t), tt));
        new_vertex_anchors = tt;
        other_vertices = λ v v_in off. moved_labelled m.shape ch t y tip origin_other end is_split.origin_t new_starts v off.0 off.1.0;
        face_anchors = ((first.live_x, first.face_x), ((second.live_y, second.face_y), tt));
        new_face_anchors = ((third.live_y, third.face_y), ((fourth.live_y, fourth.face_y), tt));
        other_faces = λ k k_in off. inl (off.0, (off.1.0, tt));
      }

-- an edge of which both faces are triangles
module _ {V DE UE F : Type 0} (m : Mesh V DE UE F) (e tip : ℕ) (halves : List DE) (edges : List UE) (faces : List F) where
  abbrev pub edge_splitting : Change V DE UE F
  edge_splitting =
      let t = rev e in
      let b = prev_of m.shape e in
      let d = prev_of m.shape t in
      splitting (2 * m.shape.edges) (face_count m.shape) (face_of m.shape e) (face_of m.shape t) e (next_of m.shape e) b t (next_of m.shape t) d
      (origin_of m.shape d) (end_of m.shape e) (origin_of m.shape b) tip halves edges faces

  pub edge_splitting_is : changed m edge_splitting ≡ edge_split m e tip halves edges faces
  edge_splitting_is = simp (add-zero, append-nil) refl

  pub edge_splitting_is_edit : IsMesh m → IsLive m.shape e → IsTriangle m.shape (face_of m.shape e) → IsTriangle m.shape (face_of m.shape (rev e))
      → IsUnconnected m.shape tip → HasRoom m.shape 0 3 2 → length halves ≡ 6 → length edges ≡ 3 → length faces ≡ 2 → IsEdit m edge_splitting
  edge_splitting_is_edit mesh live triangle facing unconnected room six three two =
      let t = rev e in
      splitting_is_edit m mesh (face_of m.shape e) (face_of m.shape t) e (next_of m.shape e) (prev_of m.shape e) t (next_of m.shape t) (prev_of m.shape t)
      (end_of m.shape e) tip refl (triangle_of m mesh e live triangle) (triangle_of m mesh t (rev_live (map_of m.shape) e live) facing) refl
      unconnected room halves edges faces six three two

  pub edge_splitting_made : IsMesh m → IsLive m.shape e → IsTriangle m.shape (face_of m.shape e) → IsTriangle m.shape (face_of m.shape (rev e))
      → IsUnconnected m.shape tip → HasRoom m.shape 0 3 2 → length halves ≡ 6 → length edges ≡ 3 → length faces ≡ 2
      → ComesBy (edge_subdivided ∷ ear_cut ∷ ear_cut ∷ []) (map_of m.shape) (map_after m.shape edge_splitting)
  edge_splitting_made mesh live triangle facing unconnected room six three two =
      let t = rev e in
      split_made m mesh (face_of m.shape e) (face_of m.shape t) e (next_of m.shape e) (prev_of m.shape e) t (next_of m.shape t) (prev_of m.shape t)
      (end_of m.shape e) tip refl (triangle_of m mesh e live triangle) (triangle_of m mesh t (rev_live (map_of m.shape) e live) facing) refl
      unconnected room halves edges faces six three two
