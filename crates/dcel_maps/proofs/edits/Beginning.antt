-- The first edge of a mesh.
use Rattle.std.proofs.Common.{◌≡◌, ◌≢◌, inl, ℕ, ◌+◌, ◌*◌, ◌/◌, ◌<◌, true, false, List, [], ◌∷◌, length, Some, add-zero, append-nil, refl, sym, ap, ◌∙◌, arith}
use Rattle.std.proofs.lemmas.Bool.Decides.{nat_tests}
use Rattle.std.proofs.lemmas.List.{nil_from_length}
use Rattle.dcel_fixed.specs.HalfEdges.{rev}
use Rattle.dcel_fixed.proofs.Halves.{rev-double}
use Rattle.dcel_maps.specs.Conditions.{HasRoom}
use Rattle.dcel_maps.specs.EditLists.{ComesBy}
use Rattle.dcel_maps.specs.EditLists.EditKind.{first_edge}
use Rattle.dcel_maps.specs.edits.Create.{first_edge_added}
use Rattle.dcel_maps.specs.Maps.{Live, Map}
use Rattle.dcel_maps.specs.theory.Sound.{Sound, Sphere}
use Rattle.dcel_maps.specs.Removals.{gives_up_edge, gives_up_face, gives_up_vertex}
use Rattle.dcel_maps.specs.Shapes.{IsLive, IsMesh, Mesh, face_count, face_of, map_of, origin_of, vertex_is_live}
use Rattle.dcel_maps.specs.Words.{count_of}
use Rattle.dcel_maps.proofs.Liveness.{gives_up_face-outer, is_live-from, is_live-parts, is_live-past, vertex_live-parts}
use Rattle.dcel_maps.proofs.edits.Changes.{Change, IsEdit, changed, fits_with, map_after}
use Rattle.dcel_maps.proofs.edits.Growing.{after-each, after-edge, after-pair, still_labelled}
use Rattle.dcel_maps.proofs.edits.Patches.{patched_at-first, patched_at-new, pushing, replacing}
use Rattle.dcel_maps.proofs.maps.Edits.{FirstEdge}
use Rattle.dcel_maps.proofs.maps.Firsts.{first_keeps}
use Rattle.dcel_maps.proofs.maps.Lists.{comes_once}
use Rattle.dcel_maps.proofs.words.Counts.{count-other}
use Rattle.dcel_maps.proofs.words.Faces.{IsWordOf}

-- the first edge, with the half edges n from a to b and n + 1 back
abbrev pub beginning : {V DE UE F : Type 0} → (n a b : ℕ) → List DE → List UE → Change V DE UE F
beginning n a b halves edges = record {
  vertices = 0;
  edges = 1;
  faces = 0;
  words = replacing ((0, n ∷ (n + 1) ∷ []) ∷ []);
  next = pushing ((n + 1) ∷ n ∷ []);
  prev = pushing ((n + 1) ∷ n ∷ []);
  origin = pushing (a ∷ b ∷ []);
  face = pushing (0 ∷ 0 ∷ []);
  vertex_anchors = replacing ((a, Some n) ∷ (b, Some (n + 1)) ∷ []);
  face_anchors = replacing ((0, Some n) ∷ []);
  vertex_data = [];
  directed_data = halves;
  undirected_data = edges;
  face_data = [];
}

module _ {V DE UE F : Type 0} (m : Mesh V DE UE F) (mesh : IsMesh m) (none : m.shape.edges ≡ 0) (a b : ℕ)
    (halves : List DE) (edges : List UE) where
  abbrev n : ℕ
  n = 2 * m.shape.edges

  abbrev c : Change V DE UE F
  c = beginning n a b halves edges

  pub beginning_is : changed m c ≡ first_edge_added m a b halves edges
  beginning_is =
      let origins : m.shape.origins ≡ [] = nil_from_length m.shape.origins (omega (arith, mesh.sized.origins, none)) in
      let directed : m.directed_data ≡ [] = nil_from_length m.directed_data (omega (arith, mesh.sized.directed_data, none)) in
      let undirected : m.undirected_data ≡ [] = nil_from_length m.undirected_data (omega (arith, mesh.sized.undirected_data, none)) in
      rw (none, origins, directed, undirected) (simp (add-zero, append-nil) refl)

  module _ (a_live : vertex_is_live m.shape a ≡ true) (b_live : vertex_is_live m.shape b ≡ true) (apart : a ≢ b) (room : HasRoom m.shape 0 1 0)
      (two : length halves ≡ 2) (one : length edges ≡ 1) where
    abbrev S : Map
    S = map_of m.shape

    abbrev T : Map
    T = map_after m.shape c

    no_edge : (h : ℕ) → IsLive m.shape h → ⊥
    no_edge h live =
        let below = (is_live-parts (gives_up_edge m.shape.removal) m.shape.edges (h / 2) live).0 in omega (arith, none)

    turned : rev n ≡ n + 1
    turned = rev-double m.shape.edges

    new_live : Live T n × Live T (n + 1)
    new_live = after-pair m.shape c mesh.sized.within refl

    a_parts : (a < m.shape.vertices) × (gives_up_vertex m.shape.removal a ≡ false)
    a_parts = vertex_live-parts m.shape a a_live

    b_parts : (b < m.shape.vertices) × (gives_up_vertex m.shape.removal b ≡ false)
    b_parts = vertex_live-parts m.shape b b_live

    is_first : FirstEdge T n a b
    is_first = record {
      edge_here = new_live.0;
      edge_other = λ u differs.
          after-edge m.shape c u (λ less. omega (arith, less, differs))
          ∙ is_live-past (gives_up_edge m.shape.removal) m.shape.edges u (omega (arith, none));
      next_h = patched_at-first _ n c.next ∙ sym turned;
      next_rev = ap T.next turned ∙ patched_at-new _ n c.next 1;
      prev_h = patched_at-first _ n c.prev ∙ sym turned;
      prev_rev = ap T.prev turned ∙ patched_at-new _ n c.prev 1;
      origin_h = patched_at-first _ n c.origin;
      origin_rev = ap T.origin turned ∙ patched_at-new _ n c.origin 1;
      apart = apart;
      face_h = patched_at-first _ n c.face;
      face_rev = ap T.face turned ∙ patched_at-new _ n c.face 1;
      edge_below = omega arith;
      below_a = omega (arith, a_parts.0);
      below_b = omega (arith, b_parts.0);
      below_0 = omega (arith, mesh.sized.outer);
    }

    pub beginning_made : ComesBy (first_edge ∷ []) S T
    beginning_made = comes_once first_edge S T (n, a, b, λ u. is_live-past (gives_up_edge m.shape.removal) m.shape.edges u (omega (arith, none)), is_first)

    begins : Sound T × Sphere T
    begins = first_keeps T n a b is_first

    origin_first : T.origin n ≡ a
    origin_first = patched_at-first _ n c.origin

    origin_second : T.origin (n + 1) ≡ b
    origin_second = patched_at-new _ n c.origin 1

    face_first : T.face n ≡ 0
    face_first = patched_at-first _ n c.face

    face_second : T.face (n + 1) ≡ 0
    face_second = patched_at-new _ n c.face 1

    first_word : IsWordOf T 0 (n ∷ (n + 1) ∷ [])
    first_word =
        let next_second : T.next (n + 1) ≡ n = patched_at-new _ n c.next 1 in
        let prev_second : T.prev (n + 1) ≡ n = patched_at-new _ n c.prev 1 in
        record {
          cycle = (
            record { live = new_live.0; next = patched_at-first _ n c.next; prev = prev_second; face = face_first },
            record { live = new_live.1; next = next_second; prev = patched_at-first _ n c.prev; face = face_second },
          );
          once = after-each m.shape c (λ x. T.face x ≡ 0 → count_of x (n ∷ (n + 1) ∷ []) ≡ 1) (λ h live. absurd (no_edge h live))
              (λ at. grind (arith, nat_tests), λ at. grind (arith, nat_tests));
          least = λ h less. omega (arith, count-other h (n + 1) [] (λ is. omega (arith, is)));
        }

    pub beginning_is_edit : IsEdit m c
    beginning_is_edit = record {
      room = room;
      fits = fits_with c refl refl refl refl refl refl refl refl two one refl;
      on_live = record { next = tt; prev = tt; origin = tt; face = tt };
      sound = begins.0;
      sphere = begins.1;
      starts = after-each m.shape c (λ h. gives_up_vertex m.shape.removal (T.origin h) ≡ false) (λ h live. absurd (no_edge h live))
          (ap (gives_up_vertex m.shape.removal) origin_first ∙ a_parts.1, ap (gives_up_vertex m.shape.removal) origin_second ∙ b_parts.1);
      words = (
        (
          record { word = first_word; full = λ e. cc },
          is_live-from (gives_up_face m.shape.removal) (face_count m.shape) 0 mesh.sized.outer (gives_up_face-outer mesh.sized.within),
        ),
        tt,
      );
      new_words = tt;
      other_words = λ f f_in off. record {
        comes = after-each m.shape c (λ h. T.face h ≡ f → IsLive m.shape h × (face_of m.shape h ≡ f)) (λ h live. absurd (no_edge h live))
            (λ at. absurd (off.0 (sym at ∙ face_first)), λ at. absurd (off.0 (sym at ∙ face_second)));
        live = λ h live. absurd (no_edge h live);
        next = λ h live. absurd (no_edge h live);
        prev = λ h live. absurd (no_edge h live);
        face = λ h live. absurd (no_edge h live);
      };
      outer = λ u live off. absurd (off.0 refl);
      vertex_anchors = ((new_live.0, origin_first), ((new_live.1, origin_second), tt));
      new_vertex_anchors = tt;
      other_vertices = λ v v_in off.
          still_labelled m.shape c (origin_of m.shape) T.origin v (λ h live. absurd (no_edge h live))
          (λ at. absurd (off.0 (sym at ∙ origin_first)), λ at. absurd (off.1.0 (sym at ∙ origin_second)));
      face_anchors = ((new_live.0, face_first), tt);
      new_face_anchors = tt;
      other_faces = λ f f_in off. inl off;
    }
