-- The lists of the edits that add to a mesh, and of a flip.
use Rattle.std.proofs.Common.{◌≡◌, ◌≢◌, ◌*◌, ℕ, true, List, [], ◌∷◌, sym, ◌∙◌}
use Rattle.dcel_fixed.specs.HalfEdges.{rev}
use Rattle.dcel_maps.specs.Conditions.{CanCloseOutside, CanFlip, HasRoom, IsBridge, IsLineEnd, IsTriangle, IsUnconnected}
use Rattle.dcel_maps.specs.EditLists.{ComesBy, EditKind, EditedBy}
use Rattle.dcel_maps.specs.EditLists.EditKind.{ear_cut, edge_subdivided, first_edge, spur_added, words_joined}
use Rattle.dcel_maps.specs.Shapes.{IsLive, IsMesh, Mesh, adjacent_edge_of, face_of, map_of, vertex_is_live}
use Rattle.dcel_maps.specs.edits.Create.{first_edge_added, vertex_appended}
use Rattle.dcel_maps.specs.edits.DefaultData.{AddsEdge, AddsEdgesAndFaces}
use Rattle.dcel_maps.specs.edits.Flip.{edge_flipped}
use Rattle.dcel_maps.specs.edits.Line.{line_extended}
use Rattle.dcel_maps.specs.edits.Outside.{face_closed, face_put_beside}
use Rattle.dcel_maps.specs.edits.Split.{edge_split, edge_split_on_line, half_edge_split}
use Rattle.dcel_maps.specs.edits.Triangle.{vertex_inserted}
use Rattle.dcel_maps.proofs.edits.Changes.{Change, IsEdit, changed, map_after}
use Rattle.dcel_maps.proofs.edits.Appending.{appending, appending_is, appending_is_edit, appending_made}
use Rattle.dcel_maps.proofs.edits.Beginning.{beginning, beginning_is, beginning_is_edit, beginning_made}
use Rattle.dcel_maps.proofs.edits.Beside.{beside, beside_is, beside_is_edit, beside_made}
use Rattle.dcel_maps.proofs.edits.Closing.{closing, closing_made, closing_is, closing_is_edit}
use Rattle.dcel_maps.proofs.edits.EdgeSplits.{edge_splitting, edge_splitting_is, edge_splitting_is_edit, edge_splitting_made}
use Rattle.dcel_maps.proofs.edits.Flips.{edge_flipping, edge_flipping_is, edge_flipping_is_edit, edge_flipping_made}
use Rattle.dcel_maps.proofs.edits.HalfSplits.{half_edge_splitting, half_edge_splitting_is, half_edge_splitting_is_edit, half_made}
use Rattle.dcel_maps.proofs.edits.Inserts.{inserted, inserted_is, inserted_is_edit, inserted_made}
use Rattle.dcel_maps.proofs.edits.Lines.{extension, extension_made, extension_is, extension_is_edit, line_end}
use Rattle.dcel_maps.proofs.edits.Splits.{middle_is, middle_is_edit, middle_made}
use Rattle.dcel_maps.proofs.removal.Inserted.{anchor-is}
use Rattle.dcel_maps.proofs.lists.Made.{changed_by}

module _ {V DE UE F : Type 0} (m : Mesh V DE UE F) (mesh : IsMesh m) where
  by : (c : Change V DE UE F) (kinds : List EditKind) (t : Mesh V DE UE F) → IsEdit m c → t ≡ changed m c → ComesBy kinds (map_of m.shape) (map_after m.shape c)
      → EditedBy kinds m t
  by c kinds t edit is comes = changed_by m c kinds (map_of m.shape) t mesh edit is comes

  pub append_listed : (datum : V) (t : Mesh V DE UE F) → t ≡ vertex_appended m datum → HasRoom m.shape 1 0 0 → EditedBy [] m t
  append_listed datum t is room =
      let vertices = datum ∷ [] in
      by (appending vertices) [] t (appending_is_edit m vertices mesh room) (is ∙ sym (appending_is m vertices)) (appending_made m vertices mesh room)

  pub flip_listed : (u : ℕ) (t : Mesh V DE UE F) → t ≡ edge_flipped m u → CanFlip m.shape u → EditedBy (words_joined ∷ ear_cut ∷ []) m t
  flip_listed u t is can =
      by (edge_flipping m u) (words_joined ∷ ear_cut ∷ []) t (edge_flipping_is_edit m u mesh can) (is ∙ sym (edge_flipping_is m u))
      (edge_flipping_made m u mesh can)

  module _ {is_half : DE → Type 0} {is_edge : UE → Type 0} (t : Mesh V DE UE F) where
    pub setup_listed : (a b : ℕ) → AddsEdge is_half is_edge t (first_edge_added m a b)
        → m.shape.edges ≡ 0 → vertex_is_live m.shape a ≡ true → vertex_is_live m.shape b ≡ true → a ≢ b → HasRoom m.shape 0 1 0 → EditedBy (first_edge ∷ []) m t
    setup_listed a b adds none a_live b_live apart room =
        let halves = adds.directed_data in
        let edges = adds.undirected_data in
        by (beginning (2 * m.shape.edges) a b halves edges) (first_edge ∷ []) t
        (beginning_is_edit m mesh none a b halves edges a_live b_live apart room adds.directed_count adds.undirected_count)
        (adds.is ∙ sym (beginning_is m mesh none a b halves edges))
        (beginning_made m mesh none a b halves edges a_live b_live apart room adds.directed_count adds.undirected_count)

    pub extend_listed : (end tip : ℕ) → AddsEdge is_half is_edge t (line_extended m end tip)
        → IsLineEnd m.shape end → IsUnconnected m.shape tip → HasRoom m.shape 0 1 0 → EditedBy (spur_added ∷ []) m t
    extend_listed end tip adds line unconnected room =
        let (out, at) = line_end m mesh end line in
        let halves = adds.directed_data in
        let edges = adds.undirected_data in
        by (extension m end out tip halves edges) (spur_added ∷ []) t
        (extension_is_edit m end out tip halves edges mesh at unconnected room adds.directed_count adds.undirected_count)
        (adds.is ∙ sym (extension_is m end out tip halves edges mesh at))
        (extension_made m end out tip halves edges mesh at unconnected room adds.directed_count adds.undirected_count)

    pub on_line_listed : (e middle : ℕ) → AddsEdge is_half is_edge t (edge_split_on_line m e middle)
        → IsBridge m.shape e → IsUnconnected m.shape middle → HasRoom m.shape 0 1 0 → EditedBy (edge_subdivided ∷ []) m t
    on_line_listed e middle adds bridge unconnected room =
        let halves = adds.directed_data in
        let edges = adds.undirected_data in
        by _ (edge_subdivided ∷ []) t
        (middle_is_edit m mesh e middle bridge unconnected room halves edges adds.directed_count adds.undirected_count)
        (adds.is ∙ sym (middle_is m mesh e middle bridge unconnected room halves edges adds.directed_count adds.undirected_count))
        (middle_made m mesh e middle bridge unconnected room halves edges adds.directed_count adds.undirected_count)

    module _ {is_face : F → Type 0} where
      pub close_listed : (e : ℕ) → AddsEdgesAndFaces is_half is_edge is_face 1 1 t (face_closed m e)
          → CanCloseOutside m.shape e → HasRoom m.shape 0 1 1 → EditedBy (ear_cut ∷ []) m t
      close_listed e adds can room =
          let halves = adds.directed_data in
          let edges = adds.undirected_data in
          let faces = adds.face_data in
          by (closing m e halves edges faces) (ear_cut ∷ []) t
          (closing_is_edit m e halves edges faces mesh can room adds.directed_count adds.undirected_count adds.face_data_count)
          (adds.is ∙ sym (closing_is m e halves edges faces mesh can))
          (closing_made m e halves edges faces mesh can)

      pub beside_listed : (e tip : ℕ) → AddsEdgesAndFaces is_half is_edge is_face 2 1 t (face_put_beside m e tip)
          → IsLive m.shape e → IsUnconnected m.shape tip → HasRoom m.shape 0 2 1 → EditedBy (spur_added ∷ ear_cut ∷ []) m t
      beside_listed e tip adds live unconnected room =
          let halves = adds.directed_data in
          let edges = adds.undirected_data in
          let faces = adds.face_data in
          by (beside m e tip halves edges faces) (spur_added ∷ ear_cut ∷ []) t
          (beside_is_edit m e tip halves edges faces mesh live unconnected room adds.directed_count adds.undirected_count adds.face_data_count)
          (adds.is ∙ sym (beside_is m e tip halves edges faces mesh live))
          (beside_made m e tip halves edges faces mesh live unconnected room adds.directed_count adds.undirected_count adds.face_data_count)

      pub insert_listed : (v f : ℕ) → AddsEdgesAndFaces is_half is_edge is_face 3 2 t (vertex_inserted m v f)
          → IsTriangle m.shape f → IsUnconnected m.shape v → HasRoom m.shape 0 3 2 → EditedBy (spur_added ∷ ear_cut ∷ ear_cut ∷ []) m t
      insert_listed v f adds triangle unconnected room =
          let a = adjacent_edge_of m f in
          let anchor = anchor-is m f mesh triangle in
          let halves = adds.directed_data in
          let edges = adds.undirected_data in
          let faces = adds.face_data in
          by (inserted m mesh f a triangle anchor v halves edges faces) (spur_added ∷ ear_cut ∷ ear_cut ∷ []) t
          (inserted_is_edit m mesh f a triangle anchor v halves edges faces unconnected room adds.directed_count adds.undirected_count adds.face_data_count)
          (adds.is ∙ sym (inserted_is m mesh f a triangle anchor v halves edges faces))
          (inserted_made m mesh f a triangle anchor v halves edges faces unconnected room adds.directed_count adds.undirected_count adds.face_data_count)

      pub half_listed : (e middle : ℕ) → AddsEdgesAndFaces is_half is_edge is_face 2 1 t (half_edge_split m e middle)
          → IsLive m.shape e → IsTriangle m.shape (face_of m.shape e) → IsUnconnected m.shape middle → HasRoom m.shape 0 2 1 → EditedBy (edge_subdivided ∷ ear_cut ∷ []) m t
      half_listed e middle adds live triangle unconnected room =
          let halves = adds.directed_data in
          let edges = adds.undirected_data in
          let faces = adds.face_data in
          by (half_edge_splitting m e middle halves edges faces) (edge_subdivided ∷ ear_cut ∷ []) t
          (half_edge_splitting_is_edit m e middle halves edges faces mesh live triangle unconnected room adds.directed_count adds.undirected_count adds.face_data_count)
          (adds.is ∙ sym (half_edge_splitting_is m e middle halves edges faces))
          (half_made m e middle halves edges faces mesh live triangle unconnected room adds.directed_count adds.undirected_count adds.face_data_count)

      pub both_listed : (e middle : ℕ) → AddsEdgesAndFaces is_half is_edge is_face 3 2 t (edge_split m e middle)
          → IsLive m.shape e → IsTriangle m.shape (face_of m.shape e) → IsTriangle m.shape (face_of m.shape (rev e)) → IsUnconnected m.shape middle → HasRoom m.shape 0 3 2 → EditedBy (edge_subdivided ∷ ear_cut ∷ ear_cut ∷ []) m t
      both_listed e middle adds live triangle facing unconnected room =
          let halves = adds.directed_data in
          let edges = adds.undirected_data in
          let faces = adds.face_data in
          by (edge_splitting m e middle halves edges faces) (edge_subdivided ∷ ear_cut ∷ ear_cut ∷ []) t
          (edge_splitting_is_edit m e middle halves edges faces mesh live triangle facing unconnected room adds.directed_count adds.undirected_count adds.face_data_count)
          (adds.is ∙ sym (edge_splitting_is m e middle halves edges faces))
          (edge_splitting_made m e middle halves edges faces mesh live triangle facing unconnected room adds.directed_count adds.undirected_count adds.face_data_count)
