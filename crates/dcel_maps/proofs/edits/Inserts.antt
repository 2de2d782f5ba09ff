-- A vertex put into a triangle of a mesh.
use Rattle.std.proofs.Common.{◌≡◌, ◌≢◌, ◌⊎◌, inl, inr, ℕ, ◌+◌, ◌*◌, ◌/◌, ◌<◌, List, [], ◌∷◌, length, unwrap_or, Some, add-zero, append-nil, refl, sym, ap, ◌∙◌, subst, arith}
use Rattle.std.proofs.lemmas.Bool.{cases_eq}
use Rattle.dcel_maps.specs.Conditions.{HasRoom, IsTriangle, IsUnconnected}
use Rattle.dcel_maps.specs.EditLists.{ComesBy}
use Rattle.dcel_maps.specs.EditLists.EditKind.{ear_cut, spur_added}
use Rattle.dcel_maps.specs.Shapes.{adjacent_edge_of, IsLive, IsMesh, Mesh, face_anchor, face_count, face_of, map_of, next_of, origin_of, prev_of}
use Rattle.dcel_maps.specs.edits.Triangle.{vertex_inserted}
use Rattle.dcel_maps.specs.Maps.{Live}
use Rattle.dcel_maps.specs.theory.Sound.{Sound, Sphere}
use Rattle.dcel_maps.specs.Removals.{gives_up_face}
use Rattle.dcel_maps.specs.theory.Standing.{Stands}
use Rattle.dcel_maps.proofs.Liveness.{is_live-parts, vertex_live-parts}
use Rattle.dcel_maps.proofs.edits.Changes.{Change, IsEdit, changed, fits_with, map_after}
use Rattle.dcel_maps.proofs.edits.Growing.{after-each, after-edge, after-origin, after-still}
use Rattle.dcel_maps.proofs.edits.Linking.{face_live-at, linked-corner, linked-old, triangle_full-least, triangle_of, stays-linked}
use Rattle.dcel_maps.proofs.edits.Patches.{patched_at-first, patched_at-new, pushing, puts_here, replacing, Untouched}
use Rattle.dcel_maps.proofs.edits.Starting.{NewStart, start_labelled, starts-new}
use Rattle.dcel_maps.proofs.maps.Insert.{Insert, insert_comes}
use Rattle.dcel_maps.proofs.maps.Labels.{Labelled}
use Rattle.dcel_maps.proofs.maps.Lists.{comes_keeps}
use Rattle.dcel_maps.proofs.maps.Triangles.{Alone, IsTriangleOf, Off, by_triangle, off_another, off_face, IsLinked, SameLinks}
use Rattle.dcel_maps.proofs.shapes.Maps.{map-sphere}
use Rattle.dcel_maps.proofs.shapes.Shown.{word-anchored}
use Rattle.dcel_maps.proofs.walks.Links.{links_stand}
use Rattle.dcel_maps.proofs.words.Faces.{KeepsFace}
use Rattle.dcel_maps.specs.Around.{around}
use Rattle.dcel_maps.proofs.edits.Around.{edited, known}

-- three edges from the vertex `tip` to the corners of the triangle (a, b, c) of the face f: the half edges from n on, and two faces more,
-- l and l + 1; x, y and z are where a, b and c start
abbrev pub insertion : {V DE UE F : Type 0} → (n l f a b c x y z tip : ℕ) → List DE → List UE → List F → Change V DE UE F
insertion n l f a b c x y z tip halves edges faces = record {
  vertices = 0;
  edges = 3;
  faces = 2;
  words = record { set = (f, a ∷ n ∷ (n + 5) ∷ []) ∷ []; more = (b ∷ (n + 2) ∷ (n + 1) ∷ []) ∷ (c ∷ (n + 4) ∷ (n + 3) ∷ []) ∷ [] };
  next = record { set = (a, n) ∷ (b, n + 2) ∷ (c, n + 4) ∷ []; more = (n + 5) ∷ b ∷ (n + 1) ∷ c ∷ (n + 3) ∷ a ∷ [] };
  prev = record { set = (a, n + 5) ∷ (b, n + 1) ∷ (c, n + 3) ∷ []; more = a ∷ (n + 2) ∷ b ∷ (n + 4) ∷ c ∷ n ∷ [] };
  origin = pushing (y ∷ tip ∷ z ∷ tip ∷ x ∷ tip ∷ []);
  face = record { set = (a, f) ∷ (b, l) ∷ (c, l + 1) ∷ []; more = f ∷ l ∷ l ∷ (l + 1) ∷ (l + 1) ∷ f ∷ [] };
  vertex_anchors = replacing ((tip, Some (n + 1)) ∷ []);
  face_anchors = pushing (Some b ∷ Some c ∷ []);
  vertex_data = [];
  directed_data = halves;
  undirected_data = edges;
  face_data = faces;
}

module _ {V DE UE F : Type 0} (m : Mesh V DE UE F) (mesh : IsMesh m) (f a b c tip : ℕ) (was : IsTriangleOf (map_of m.shape) f a b c)
    (anchor : face_anchor m f ≡ Some a) (unconnected : IsUnconnected m.shape tip) (room : HasRoom m.shape 0 3 2)
    (halves : List DE) (edges : List UE) (faces : List F) (six : length halves ≡ 6) (three : length edges ≡ 3) (two : length faces ≡ 2) where
  open (around m.shape a) use {n, l}

  abbrev g : Change V DE UE F
  g = insertion n l f a b c (origin_of m.shape a) (origin_of m.shape b) (origin_of m.shape c) tip halves edges faces

  open (edited m g) use {S, T}
  open (known m mesh) use {sound, below}

  -- the half edges that were there
  at_a : IsLinked T f (n + 5) a n
  at_a =
      linked-old m.shape g f (n + 5) a n was.live_x
      (puts_here _ a n ((b, n + 2) ∷ (c, n + 4) ∷ []) (was.x≢y, (was.x≢z, tt)))
      (puts_here _ a (n + 5) ((b, n + 1) ∷ (c, n + 3) ∷ []) (was.x≢y, (was.x≢z, tt)))
      (puts_here _ a f ((b, l) ∷ (c, l + 1) ∷ []) (was.x≢y, (was.x≢z, tt)))

  at_b : IsLinked T l (n + 1) b (n + 2)
  at_b =
      linked-old m.shape g l (n + 1) b (n + 2) was.live_y
      (puts_here _ b (n + 2) ((c, n + 4) ∷ []) (was.y≢z, tt))
      (puts_here _ b (n + 1) ((c, n + 3) ∷ []) (was.y≢z, tt))
      (puts_here _ b l ((c, l + 1) ∷ []) (was.y≢z, tt))

  at_c : IsLinked T (l + 1) (n + 3) c (n + 4)
  at_c =
      linked-old m.shape g (l + 1) (n + 3) c (n + 4) was.live_z
      (puts_here _ c (n + 4) [] tt) (puts_here _ c (n + 3) [] tt) (puts_here _ c (l + 1) [] tt)

  -- each with two new ones
  first : IsTriangleOf T f a n (n + 5)
  first =
      linked-corner m.shape g mesh.sized.within f a n (n + 5) 0 5 was.live_x at_a (add-zero n) refl (omega arith) (omega arith) (λ is. omega (arith, is))
      refl refl refl refl refl refl

  second : IsTriangleOf T l b (n + 2) (n + 1)
  second =
      linked-corner m.shape g mesh.sized.within l b (n + 2) (n + 1) 2 1 was.live_y at_b refl refl (omega arith) (omega arith) (λ is. omega (arith, is))
      refl refl refl refl refl refl

  third : IsTriangleOf T (l + 1) c (n + 4) (n + 3)
  third =
      linked-corner m.shape g mesh.sized.within (l + 1) c (n + 4) (n + 3) 4 3 was.live_z at_c refl refl (omega arith) (omega arith) (λ is. omega (arith, is))
      refl refl refl refl refl refl

  -- the other half edges stay
  others : (h : ℕ) → IsLive m.shape h → Off h a b c → SameLinks S T h
  others h live off =
      let apart : Untouched h g.next.set = (off.0, (off.1, (off.2, tt))) in stays-linked m.shape g h live apart apart apart

  -- what holds on the three triangles, and of what stays, holds of each live half edge
  each : (P : ℕ → Type 0) → P a × P n × P (n + 5) → P b × P (n + 2) × P (n + 1) → P c × P (n + 4) × P (n + 3)
      → ((h : ℕ) → IsLive m.shape h → Off h a b c → P h) → (h : ℕ) → Live T h → P h
  each P on_first on_second on_third rest =
      after-each m.shape g P
      (λ h live. by_triangle P a b c h (on_first.0, on_second.0, on_third.0) (rest h live))
      (((((on_first.1, on_second.2), on_second.1), on_third.2), on_third.1), on_first.2)

  old_face : (h : ℕ) → IsLive m.shape h → face_of m.shape h < l
  old_face = sound.below_faces

  f_below : f < l
  f_below = omega (arith, old_face a was.live_x, was.face_x)

  second_alone : Alone T l b (n + 2) (n + 1)
  second_alone =
      let P : ℕ → Type 0 = λ h. (h ≡ b) ⊎ ((h ≡ n + 2) ⊎ (h ≡ n + 1)) in
      each (λ h. T.face h ≡ l → P h)
      (off_another T f a n (n + 5) first l (λ is. omega (arith, is, f_below)) P)
      (λ at. inl refl, λ at. inr (inl refl), λ at. inr (inr refl))
      (off_another T (l + 1) c (n + 4) (n + 3) third l (λ is. omega (arith, is)) P)
      (λ h live off at. absurd (omega (arith, old_face h live, sym ((others h live off).face) ∙ at)))

  third_alone : Alone T (l + 1) c (n + 4) (n + 3)
  third_alone =
      let P : ℕ → Type 0 = λ h. (h ≡ c) ⊎ ((h ≡ n + 4) ⊎ (h ≡ n + 3)) in
      each (λ h. T.face h ≡ l + 1 → P h)
      (off_another T f a n (n + 5) first (l + 1) (λ is. omega (arith, is, f_below)) P)
      (off_another T l b (n + 2) (n + 1) second (l + 1) (λ is. omega (arith, is)) P)
      (λ at. inl refl, λ at. inr (inl refl), λ at. inr (inr refl))
      (λ h live off at. absurd (omega (arith, old_face h live, sym ((others h live off).face) ∙ at)))

  is_insert : Insert S T f a b c tip n
  is_insert = record {
    twice = refl;
    was = was;
    isolated = unconnected.bare;
    vertex_room = (vertex_live-parts m.shape tip unconnected.live).0;
    first = first;
    second = second;
    third = third;
    second_alone = second_alone;
    third_alone = third_alone;
    others = others;
    origins =
        (patched_at-first _ n g.origin, patched_at-new _ n g.origin 1, patched_at-new _ n g.origin 2, patched_at-new _ n g.origin 3, patched_at-new _ n g.origin 4, patched_at-new _ n g.origin 5);
    origin_other = after-origin m.shape g;
    edge_other = λ u i j k. after-edge m.shape g u (λ less. omega (arith, less, i, j, k));
    edges = refl;
    vertices = add-zero m.shape.vertices;
    faces = refl;
  }

  insertion_made : ComesBy (spur_added ∷ ear_cut ∷ ear_cut ∷ []) S T
  insertion_made = insert_comes S T f a b c tip n sound is_insert (map-sphere mesh.sound mesh.sphere)

  keeps : Sound T × Sphere T
  keeps = comes_keeps (spur_added ∷ ear_cut ∷ ear_cut ∷ []) S T insertion_made sound (map-sphere mesh.sound mesh.sphere)

  -- the other faces stay
  keeps_face : (k : ℕ) → k < l → k ≢ f → KeepsFace S T k
  keeps_face k k_in differs =
      let off : (h : ℕ) → face_of m.shape h ≡ k → Off h a b c = λ h at. off_face S f a b c was h (λ is. differs (sym at ∙ is)) in
      record {
        comes =
            let P : ℕ → Type 0 = λ h. IsLive m.shape h × (face_of m.shape h ≡ k) in
            each (λ h. T.face h ≡ k → P h)
            (off_another T f a n (n + 5) first k (λ is. differs (sym is)) P)
            (off_another T l b (n + 2) (n + 1) second k (λ is. omega (arith, is, k_in)) P)
            (off_another T (l + 1) c (n + 4) (n + 3) third k (λ is. omega (arith, is, k_in)) P)
            (λ h live beside at. (live, sym ((others h live beside).face) ∙ at));
        live = λ h live at. after-still m.shape g h live;
        next = λ h live at. (others h live (off h at)).next;
        prev = λ h live at. (others h live (off h at)).prev;
        face = λ h live at. (others h live (off h at)).face ∙ at;
      }

  -- the new half edges start at the tip, or at a corner
  new_starts : NewStart m.shape g tip
  new_starts =
      let o = is_insert in (
        ((((inr (b, was.live_y, o.origins.0), inl o.origins.1), inr (c, was.live_z, o.origins.2)), inl o.origins.3), inr (a, was.live_x, o.origins.4)),
        inl o.origins.5,
      )

  pub insertion_is_edit : IsEdit m g
  insertion_is_edit = record {
    room = room;
    fits = fits_with g refl refl refl refl refl refl refl refl six three two;
    on_live = record {
      next = (was.live_x, (was.live_y, (was.live_z, tt)));
      prev = (was.live_x, (was.live_y, (was.live_z, tt)));
      origin = tt;
      face = (was.live_x, (was.live_y, (was.live_z, tt)));
    };
    sound = keeps.0;
    sphere = keeps.1;
    starts = starts-new m mesh g (after-origin m.shape g) tip unconnected.live new_starts;
    words = (
      (
        triangle_full-least T keeps.0 f a n (n + 5) first (below a was.live_x) (omega (arith, below a was.live_x)),
        face_live-at m mesh f a was.live_x was.face_x,
      ),
      tt,
    );
    new_words = (
      triangle_full-least T keeps.0 l b (n + 2) (n + 1) second (omega (arith, below b was.live_y)) (omega (arith, below b was.live_y)),
      (
        triangle_full-least T keeps.0 (l + 1) c (n + 4) (n + 3) third (omega (arith, below c was.live_z)) (omega (arith, below c was.live_z)),
        tt,
      ),
    );
    other_words = λ k k_in off. keeps_face k k_in off.0;
    outer = λ u lives off. (a / 2, was.live_x);
    vertex_anchors = ((second.live_z, is_insert.origins.1), tt);
    new_vertex_anchors = tt;
    other_vertices = λ v v_in off. start_labelled m.shape g (after-origin m.shape g) tip new_starts v off.0;
    face_anchors = tt;
    new_face_anchors = ((second.live_x, second.face_x), ((third.live_x, third.face_x), tt));
    other_faces = λ k k_in off. elim (cases_eq k f) [
      | inl is ↦ inr (rw (is, anchor) (first.live_x, first.face_x))
      | inr differs ↦ inl (differs, tt)
    ];
  }

-- the triangle of a face with its anchor
module _ {V DE UE F : Type 0} (m : Mesh V DE UE F) (mesh : IsMesh m) (f a : ℕ) (triangle : IsTriangle m.shape f) (anchor : face_anchor m f ≡ Some a) where
  stands : Stands (map_of m.shape) m.shape.words
  stands = links_stand mesh.sound

  lies : IsLive m.shape a × (face_of m.shape a ≡ f)
  lies =
      let below = (is_live-parts (gives_up_face m.shape.removal) (face_count m.shape) f triangle.live).0 in
      subst (Labelled (map_of m.shape) (face_of m.shape) f) anchor
      (word-anchored (map_of m.shape) m.shape.words stands f (face_anchor m f) (mesh.anchored.faces f below))

  pub anchored_triangle : IsTriangleOf (map_of m.shape) f a (next_of m.shape a) (prev_of m.shape a)
  anchored_triangle =
      subst (λ k. IsTriangleOf (map_of m.shape) k a (next_of m.shape a) (prev_of m.shape a)) lies.1
      (triangle_of m mesh a lies.0 (subst (λ k. IsTriangle m.shape k) (sym lies.1) triangle))

  module _ (tip : ℕ) (halves : List DE) (edges : List UE) (faces : List F) where
    abbrev pub inserted : Change V DE UE F
    inserted =
        let b = next_of m.shape a in
        let c = prev_of m.shape a in
        insertion (2 * m.shape.edges) (face_count m.shape) f a b c (origin_of m.shape a) (origin_of m.shape b) (origin_of m.shape c) tip halves edges faces

    pub inserted_is : changed m inserted ≡ vertex_inserted m tip f halves edges faces
    inserted_is =
        let is : adjacent_edge_of m f ≡ a = ap (λ o. unwrap_or o 0) anchor in
        rw is (simp (add-zero, append-nil) refl)

    pub inserted_is_edit : IsUnconnected m.shape tip → HasRoom m.shape 0 3 2 → length halves ≡ 6 → length edges ≡ 3 → length faces ≡ 2 → IsEdit m inserted
    inserted_is_edit unconnected room six three two =
        insertion_is_edit m mesh f a (next_of m.shape a) (prev_of m.shape a) tip anchored_triangle anchor unconnected room halves edges faces six three two

    pub inserted_made : IsUnconnected m.shape tip → HasRoom m.shape 0 3 2 → length halves ≡ 6 → length edges ≡ 3 → length faces ≡ 2
        → ComesBy (spur_added ∷ ear_cut ∷ ear_cut ∷ []) (map_of m.shape) (map_after m.shape inserted)
    inserted_made unconnected room six three two =
        insertion_made m mesh f a (next_of m.shape a) (prev_of m.shape a) tip anchored_triangle anchor unconnected room halves edges faces six three two
