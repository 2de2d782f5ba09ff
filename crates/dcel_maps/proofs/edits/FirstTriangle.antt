-- A mesh of one triangle: three vertices, three edges and a face put to the outer face alone.
use Rattle.std.proofs.Common.{◌≡◌, ◌≢◌, ℕ, ◌<◌, nat_lt, List, [], ◌∷◌, length, slice_index, Some, zero-add, refl, sym, ap, ◌∙◌, arith}
use Rattle.std.proofs.Math.Bool.{and-true}
use Rattle.dcel_maps.specs.EditLists.{ComesBy, nothing}
use Rattle.dcel_maps.specs.EditLists.EditKind.{ear_cut, first_edge, spur_added}
use Rattle.dcel_maps.specs.edits.Create.{outer_alone}
use Rattle.dcel_maps.specs.Maps.{Live, Map}
use Rattle.dcel_maps.specs.theory.Sound.{Sound, Sphere}
use Rattle.dcel_maps.specs.Removals.{Closed, gives_up_face}
use Rattle.dcel_maps.specs.Shapes.{IsMesh, Mesh}
use Rattle.dcel_maps.proofs.Liveness.{gives_up_edge-closed, gives_up_face-outer, gives_up_vertex-closed, is_live-from}
use Rattle.dcel_maps.proofs.edits.Changes.{Change, IsEdit, fits_with, map_after}
use Rattle.dcel_maps.proofs.edits.Alone.{alone_is_mesh}
use Rattle.dcel_maps.proofs.edits.Growing.{after-new}
use Rattle.dcel_maps.proofs.edits.Patches.{Patch, patched_at, patched_at-new, pushing}
use Rattle.dcel_maps.proofs.maps.Agreement.{Agrees, agrees_extends, empty_sound, empty_sphere}
use Rattle.dcel_maps.proofs.maps.FirstTriangle.{triangle, triangle_made}
use Rattle.dcel_maps.proofs.maps.Lists.{comes_after, comes_keeps}
use Rattle.dcel_maps.proofs.maps.Triangles.{IsTriangleOf}
use Rattle.dcel_maps.proofs.words.Triangles.{triangle-word}

abbrev pub first_triangle : {V DE UE F : Type 0} → V × V × V → List DE → List UE → F → Change V DE UE F
first_triangle vertices halves edges datum = record {
  vertices = 3;
  edges = 3;
  faces = 1;
  words = record { set = (0, 0 ∷ 2 ∷ 4 ∷ []) ∷ []; more = (1 ∷ 5 ∷ 3 ∷ []) ∷ [] };
  next = pushing (2 ∷ 5 ∷ 4 ∷ 1 ∷ 0 ∷ 3 ∷ []);
  prev = pushing (4 ∷ 3 ∷ 0 ∷ 5 ∷ 2 ∷ 1 ∷ []);
  origin = pushing (0 ∷ 1 ∷ 1 ∷ 2 ∷ 2 ∷ 0 ∷ []);
  face = pushing (0 ∷ 1 ∷ 0 ∷ 1 ∷ 0 ∷ 1 ∷ []);
  vertex_anchors = pushing (Some 0 ∷ Some 2 ∷ Some 4 ∷ []);
  face_anchors = record { set = (0, Some 0) ∷ []; more = Some 1 ∷ [] };
  vertex_data = vertices.0 ∷ vertices.1 ∷ vertices.2 ∷ [];
  directed_data = halves;
  undirected_data = edges;
  face_data = datum ∷ [];
}

module _ {V DE UE F : Type 0} (vertices : V × V × V) (halves : List DE) (edges : List UE) (outer inner : F) where
  abbrev pub alone : Mesh V DE UE F
  alone = outer_alone outer

  abbrev c : Change V DE UE F
  c = first_triangle vertices halves edges inner

  abbrev T : Map
  T = map_after alone.shape c

  listed : (f : ℕ → ℕ) (p : Patch ℕ) (h : ℕ) → patched_at f 0 p h ≡ slice_index p.more h
  listed f p h = ap (patched_at f 0 p) (sym (zero-add h)) ∙ patched_at-new f 0 p h

  agrees : Agrees triangle T
  agrees = record {
    vertices = refl;
    edges = refl;
    faces = refl;
    edge = λ u. rw (gives_up_edge-closed u) (and-true (nat_lt u 3));
    links = record {
      next = λ x live. listed _ c.next x;
      prev = λ x live. listed _ c.prev x;
      origin = λ x live. listed _ c.origin x;
      face = λ x live. listed _ c.face x;
    };
  }

  pub first_triangle_made : ComesBy (first_edge ∷ spur_added ∷ ear_cut ∷ []) nothing T
  first_triangle_made = comes_after (first_edge ∷ spur_added ∷ ear_cut ∷ []) nothing triangle T triangle_made (agrees_extends triangle T agrees)

  keeps : Sound T × Sphere T
  keeps = comes_keeps (first_edge ∷ spur_added ∷ ear_cut ∷ []) nothing T first_triangle_made (empty_sound nothing (λ u. refl)) (empty_sphere nothing (λ u. refl))

  mesh : IsMesh alone
  mesh = alone_is_mesh outer

  live : (h : ℕ) → h < 6 → Live T h
  live h below = after-new alone.shape c mesh.sized.within h (omega arith) (omega (arith, below))

  round : (f x y z : ℕ) → x < 6 → y < 6 → z < 6 → x ≢ y → y ≢ z → x ≢ z
      → slice_index c.next.more x ≡ y → slice_index c.next.more y ≡ z → slice_index c.next.more z ≡ x
      → slice_index c.prev.more x ≡ z → slice_index c.prev.more y ≡ x → slice_index c.prev.more z ≡ y
      → slice_index c.face.more x ≡ f → slice_index c.face.more y ≡ f → slice_index c.face.more z ≡ f → IsTriangleOf T f x y z
  round f x y z x_in y_in z_in xy yz xz next_x next_y next_z prev_x prev_y prev_z face_x face_y face_z = record {
    at_x = record { live = live x x_in; next = listed _ c.next x ∙ next_x; prev = listed _ c.prev x ∙ prev_x; face = listed _ c.face x ∙ face_x };
    at_y = record { live = live y y_in; next = listed _ c.next y ∙ next_y; prev = listed _ c.prev y ∙ prev_y; face = listed _ c.face y ∙ face_y };
    at_z = record { live = live z z_in; next = listed _ c.next z ∙ next_z; prev = listed _ c.prev z ∙ prev_z; face = listed _ c.face z ∙ face_z };
    x≢y = xy;
    y≢z = yz;
    x≢z = xz;
  }

  outside : IsTriangleOf T 0 0 2 4
  outside =
      round 0 0 2 4 (omega arith) (omega arith) (omega arith) (λ e. omega (arith, e)) (λ e. omega (arith, e)) (λ e. omega (arith, e))
      refl refl refl refl refl refl refl refl refl

  inside : IsTriangleOf T 1 1 5 3
  inside =
      round 1 1 5 3 (omega arith) (omega arith) (omega arith) (λ e. omega (arith, e)) (λ e. omega (arith, e)) (λ e. omega (arith, e))
      refl refl refl refl refl refl refl refl refl

  pub first_triangle_is_edit : length halves ≡ 6 → length edges ≡ 3 → IsEdit alone c
  first_triangle_is_edit six three = record {
    room = record { for_vertices = omega arith; for_edges = omega arith; for_faces = omega arith };
    fits = fits_with c refl refl refl refl refl refl refl refl six three refl;
    on_live = record { next = tt; prev = tt; origin = tt; face = tt };
    sound = keeps.0;
    sphere = keeps.1;
    starts = λ h lives. gives_up_vertex-closed (T.origin h);
    words = (
      (
        record { word = triangle-word T keeps.0 0 0 2 4 outside (omega arith) (omega arith); full = λ e. cc },
        is_live-from (gives_up_face Closed) 1 0 (omega arith) (gives_up_face-outer mesh.sized.within),
      ),
      tt,
    );
    new_words = (record { word = triangle-word T keeps.0 1 1 5 3 inside (omega arith) (omega arith); full = λ e. cc }, tt);
    other_words = λ f below off. absurd (off.0 (omega (arith, below)));
    outer = λ u lives off. absurd (off.0 refl);
    vertex_anchors = tt;
    new_vertex_anchors = (
      (live 0 (omega arith), listed _ c.origin 0),
      ((live 2 (omega arith), listed _ c.origin 2), ((live 4 (omega arith), listed _ c.origin 4), tt)),
    );
    other_vertices = λ v below off. absurd (omega (arith, below));
    face_anchors = ((outside.live_x, outside.face_x), tt);
    new_face_anchors = ((inside.live_x, inside.face_x), tt);
    other_faces = λ f below off. absurd (off.0 (omega (arith, below)));
  }
