-- Vertices put last.
use Rattle.std.proofs.Common.{◌≡◌, inl, ℕ, ◌+◌, ◌/◌, List, [], ◌++◌, length, replicate, None, add-zero, append-nil, refl, sym, ◌∙◌, arith}
use Rattle.std.proofs.lemmas.List.{length-replicate}
use Rattle.dcel_maps.specs.Conditions.{HasRoom}
use Rattle.dcel_maps.specs.EditLists.{ComesBy}
use Rattle.dcel_maps.specs.Maps.{Live, Map}
use Rattle.dcel_maps.specs.theory.Sound.{Sound, Sphere}
use Rattle.dcel_maps.specs.Shapes.{IsLive, IsMesh, Mesh, map_of, origin_of}
use Rattle.dcel_maps.proofs.edits.Changes.{Change, IsEdit, changed, fits_with, map_after}
use Rattle.dcel_maps.proofs.edits.Growing.{after-edge, after-face, after-next, after-origin, after-prev, still_labelled}
use Rattle.dcel_maps.proofs.edits.Patches.{each_from-replicate, pushing, replacing}
use Rattle.dcel_maps.proofs.edits.Starting.{starts-still}
use Rattle.dcel_maps.proofs.maps.Agreement.{Extends, extends_keeps}
use Rattle.dcel_maps.proofs.maps.Labels.{Labelled}
use Rattle.dcel_maps.proofs.shapes.Maps.{map-sound, map-sphere}

-- the mesh with more vertices, last, without anchors
abbrev pub vertices_appended : {V DE UE F : Type 0} → Mesh V DE UE F → List V → Mesh V DE UE F
vertices_appended m vertices = record m {
  shape = record m.shape { vertices = m.shape.vertices + length vertices };
  vertex_anchors = m.vertex_anchors ++ replicate (length vertices) None;
  vertex_data = m.vertex_data ++ vertices;
}

abbrev pub appending : {V DE UE F : Type 0} → List V → Change V DE UE F
appending vertices = record {
  vertices = length vertices;
  edges = 0;
  faces = 0;
  words = replacing [];
  next = replacing [];
  prev = replacing [];
  origin = replacing [];
  face = replacing [];
  vertex_anchors = pushing (replicate (length vertices) None);
  face_anchors = replacing [];
  vertex_data = vertices;
  directed_data = [];
  undirected_data = [];
  face_data = [];
}

module _ {V DE UE F : Type 0} (m : Mesh V DE UE F) (vertices : List V) where
  abbrev c : Change V DE UE F
  c = appending vertices

  pub appending_is : changed m c ≡ vertices_appended m vertices
  appending_is = simp (add-zero, append-nil) refl

  module _ (mesh : IsMesh m) (room : HasRoom m.shape (length vertices) 0 0) where
    abbrev S : Map
    S = map_of m.shape

    abbrev T : Map
    T = map_after m.shape c

    edge : (u : ℕ) → T.edge u ≡ S.edge u
    edge u = after-edge m.shape c u (λ less. omega (arith, less))

    was : (h : ℕ) → Live T h → IsLive m.shape h
    was h live = sym (edge (h / 2)) ∙ live

    extends : Extends S T
    extends = record {
      vertices = omega arith;
      edges = omega arith;
      faces = omega arith;
      edge = edge;
      links = record { next = after-next m.shape c; prev = after-prev m.shape c; origin = after-origin m.shape c; face = after-face m.shape c };
    }

    pub appending_made : ComesBy [] S T
    appending_made = extends

    keeps : Sound T × Sphere T
    keeps = extends_keeps S T extends (map-sound mesh.sound) (map-sphere mesh.sound mesh.sphere)

    pub appending_is_edit : IsEdit m c
    appending_is_edit = record {
      room = room;
      fits = fits_with c (length-replicate (length vertices) None) refl refl refl refl refl refl refl refl refl refl;
      on_live = record { next = tt; prev = tt; origin = tt; face = tt };
      sound = keeps.0;
      sphere = keeps.1;
      starts = starts-still m mesh c (after-origin m.shape c) tt;
      words = tt;
      new_words = tt;
      other_words = λ f f_in off. record {
        comes = λ h live at. let here = was h live in (here, sym (after-face m.shape c h here) ∙ at);
        live = λ h live at. edge (h / 2) ∙ live;
        next = λ h live at. after-next m.shape c h live;
        prev = λ h live at. after-prev m.shape c h live;
        face = λ h live at. after-face m.shape c h live ∙ at;
      };
      outer = λ u live off. (u, sym (edge u) ∙ live);
      vertex_anchors = tt;
      new_vertex_anchors = each_from-replicate (Labelled T T.origin) None m.shape.vertices m.shape.vertices (length vertices) (omega arith)
          (λ v past h live at.
          let here = was h live in
          let below = (map-sound mesh.sound).below_vertices h here in
          omega (arith, below, past, sym (after-origin m.shape c h here) ∙ at));
      other_vertices = λ v v_in off. still_labelled m.shape c (origin_of m.shape) T.origin v (after-origin m.shape c) tt;
      face_anchors = tt;
      new_face_anchors = tt;
      other_faces = λ f f_in off. inl tt;
    }
