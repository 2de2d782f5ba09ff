-- A spur put into a mesh: an edge from the end of a half edge to a vertex that had none.
use Rattle.std.proofs.Common.{◌≡◌, ◌≢◌, inl, inr, ℕ, ◌+◌, ◌/◌, List, [], ◌∷◌, length, Some, add-zero, refl, sym, ap, ◌∙◌, arith}
use Rattle.std.proofs.lemmas.Bool.{cases_eq}
use Rattle.dcel_fixed.specs.HalfEdges.{rev}
use Rattle.dcel_fixed.proofs.Halves.{rev-double-suc}
use Rattle.dcel_maps.specs.Conditions.{HasRoom, IsUnconnected}
use Rattle.dcel_maps.specs.EditLists.{ComesBy}
use Rattle.dcel_maps.specs.EditLists.EditKind.{spur_added}
use Rattle.dcel_maps.specs.Maps.{Live}
use Rattle.dcel_maps.specs.theory.Sound.{Sound, Sphere}
use Rattle.dcel_maps.specs.Shapes.{IsLive, IsMesh, Mesh, face_anchor, face_of, next_of, origin_of}
use Rattle.dcel_maps.specs.theory.Standing.{Stands}
use Rattle.dcel_maps.specs.Words.{become, word_of}
use Rattle.dcel_maps.proofs.Liveness.{vertex_live-parts}
use Rattle.dcel_maps.proofs.edits.Changes.{Change, IsEdit, fits_with}
use Rattle.dcel_maps.proofs.edits.Growing.{after-face, after-grows, after-next, after-origin, after-pair, after-prev, still_labelled}
use Rattle.dcel_maps.proofs.edits.Patches.{patched_at-first, patched_at-new, pushing, replacing}
use Rattle.dcel_maps.proofs.edits.Starting.{NewStart, start_labelled, starts-new}
use Rattle.dcel_maps.proofs.maps.Counts.{Used}
use Rattle.dcel_maps.proofs.maps.Edits.{Spur}
use Rattle.dcel_maps.proofs.maps.Growth.{spur_at}
use Rattle.dcel_maps.proofs.maps.Labels.{KeepsLabel, labelled-kept}
use Rattle.dcel_maps.proofs.maps.Lists.{comes_once}
use Rattle.dcel_maps.proofs.maps.Spurs.{spur_keeps}
use Rattle.dcel_maps.proofs.maps.Updates.{put_other, put_same}
use Rattle.dcel_maps.proofs.shapes.Maps.{face-live, map-sphere}
use Rattle.dcel_maps.proofs.shapes.Shown.{word-anchored}
use Rattle.dcel_maps.proofs.walks.Links.{links_stand, next-live}
use Rattle.dcel_maps.proofs.words.Becoming.{become_empty}
use Rattle.dcel_maps.proofs.words.Faces.{word_full, word_of_face}
use Rattle.dcel_maps.proofs.words.Reading.{face-below}
use Rattle.dcel_maps.proofs.words.Spurs.{spur-keeps_face, spur_word}
use Rattle.dcel_maps.specs.Around.{around}
use Rattle.dcel_maps.proofs.edits.Around.{edited, known}

module _ {V DE UE F : Type 0} (m : Mesh V DE UE F) where
  -- the edge n / 2 put in after the half edge `before`, with `after` behind it on the face f; `from` is where the two meet
  abbrev pub spur : ℕ → ℕ → ℕ → ℕ → ℕ → ℕ → List DE → List UE → Change V DE UE F
  spur n before after f from tip halves edges = record {
    vertices = 0;
    edges = 1;
    faces = 0;
    words = replacing ((f, become before (before ∷ (n + 1) ∷ n ∷ []) (word_of m.shape.words f)) ∷ []);
    next = record { set = (before, n + 1) ∷ []; more = after ∷ n ∷ [] };
    prev = record { set = (after, n) ∷ []; more = (n + 1) ∷ before ∷ [] };
    origin = pushing (tip ∷ from ∷ []);
    face = pushing (f ∷ f ∷ []);
    vertex_anchors = replacing ((tip, Some n) ∷ []);
    face_anchors = replacing [];
    vertex_data = [];
    directed_data = halves;
    undirected_data = edges;
    face_data = [];
  }

  module _ (mesh : IsMesh m) (before tip : ℕ) (live : IsLive m.shape before) (unconnected : IsUnconnected m.shape tip)
      (room : HasRoom m.shape 0 1 0) (halves : List DE) (edges : List UE) (two : length halves ≡ 2) (one : length edges ≡ 1) where
    open (around m.shape before) use {n, f, after}

    abbrev c : Change V DE UE F
    c = spur n before after f (origin_of m.shape after) tip halves edges

    open (edited m c) use {S, T}
    open (known m mesh) use {sound, stands}

    after_live : IsLive m.shape after
    after_live = next-live mesh.sound before live

    turned : rev (n + 1) ≡ n
    turned = rev-double-suc m.shape.edges

    new_live : Live T n × Live T (n + 1)
    new_live = after-pair m.shape c mesh.sized.within refl

    is_spur : Spur S T before (n + 1) tip
    is_spur = record {
      at = spur_at S sound before (n + 1) tip live (omega arith) unconnected.bare (vertex_live-parts m.shape tip unconnected.live).0;
      drawn = record {
        grows = after-grows m.shape c mesh.sized.within refl refl (n + 1) (omega arith) (omega arith);
        origin_h = patched_at-new _ n c.origin 1;
        origin_rev = ap T.origin turned ∙ patched_at-first _ n c.origin;
        origin_other = after-origin m.shape c;
      };
      next_a = after-next m.shape c before live ∙ put_same (next_of m.shape) before (n + 1);
      next_h = patched_at-new _ n c.next 1 ∙ sym turned;
      next_rev = ap T.next turned ∙ patched_at-first _ n c.next;
      next_other = λ x lives differs. after-next m.shape c x lives ∙ put_other _ before (n + 1) x differs;
      prev_b = after-prev m.shape c after after_live ∙ put_same _ after n ∙ sym turned;
      prev_rev = ap T.prev turned ∙ patched_at-first _ n c.prev;
      prev_h = patched_at-new _ n c.prev 1;
      prev_other = λ x lives differs. after-prev m.shape c x lives ∙ put_other _ after n x differs;
      face_h = patched_at-new _ n c.face 1;
      face_rev = ap T.face turned ∙ patched_at-first _ n c.face;
      face_other = after-face m.shape c;
      faces = add-zero (length m.shape.words);
    }

    pub spur_made : ComesBy (spur_added ∷ []) S T
    spur_made = comes_once spur_added S T (before, n + 1, tip, is_spur)

    keeps : Sound T × Sphere T
    keeps = spur_keeps S T before (n + 1) tip is_spur sound (map-sphere mesh.sound mesh.sphere)

    words : Stands S m.shape.words
    words = links_stand mesh.sound

    full : word_of m.shape.words f ≢ []
    full = word_full S f (word_of m.shape.words f) (word_of_face S m.shape.words words f) before live refl

    back : T.origin n ≡ tip
    back = patched_at-first _ n c.origin

    new_starts : NewStart m.shape c tip
    new_starts = (inl back, inr (after, after_live, is_spur.origin_h))

    -- an old or new half edge of f shows that f had one
    same_face : KeepsLabel S T (face_of m.shape) T.face f
    same_face =
        let used : Used S (face_of m.shape) f = record { half = before; live = live; is = refl } in
        still_labelled m.shape c (face_of m.shape) T.face f (after-face m.shape c) (λ at. used, λ at. used)

    pub spur_is_edit : IsEdit m c
    spur_is_edit = record {
      room = room;
      fits = fits_with c refl refl refl refl refl refl refl refl two one refl;
      on_live = record { next = (live, tt); prev = (after_live, tt); origin = tt; face = tt };
      sound = keeps.0;
      sphere = keeps.1;
      starts = starts-new m mesh c (after-origin m.shape c) tip unconnected.live new_starts;
      words = (
        (
          record {
            word = spur_word S T before (n + 1) tip is_spur sound (omega arith) n turned (word_of m.shape.words f) (word_of_face S m.shape.words words f);
            full = λ empty. full ((become_empty before ((n + 1) ∷ n ∷ []) (word_of m.shape.words f)).0 empty);
          },
          face-live mesh.sound before live,
        ),
        tt,
      );
      new_words = tt;
      other_words = λ k k_in away. spur-keeps_face S T before (n + 1) tip is_spur sound k away.0;
      outer = λ u lives away. (before / 2, live);
      vertex_anchors = ((new_live.0, back), tt);
      new_vertex_anchors = tt;
      other_vertices = λ v v_in away. start_labelled m.shape c (after-origin m.shape c) tip new_starts v away.0;
      face_anchors = tt;
      new_face_anchors = tt;
      other_faces = λ k k_in away. elim (cases_eq k f) [
        | inl is ↦
            inr (rw is (labelled-kept S T (face_of m.shape) T.face f (face_anchor m f) same_face
            (word-anchored S m.shape.words words f (face_anchor m f) (mesh.anchored.faces f (face-below S m.shape.words words before live)))))
        | inr differs ↦ inl (differs, tt)
      ];
    }
