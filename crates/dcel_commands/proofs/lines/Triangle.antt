-- What is so of `triangle D D D`.
use Rattle.std.proofs.Common.{zero, suc, List, [], ◌∷◌, inl, refl, arith}
use Rattle.dcel_commands.proofs.Columns.{is_column}
use Rattle.dcel_commands.proofs.Lawful.{Lawful, all_triangles, record_of}
use Rattle.dcel_commands.specs.Instructions.{Triangle}
use Rattle.dcel_maps.proofs.Liveness.{is_live-parts}
use Rattle.dcel_maps.proofs.lists.Beginning.{triangle_listed}
use Rattle.dcel_maps.proofs.maps.Lists.{comes_first}
use Rattle.dcel_maps.specs.EditLists.EditKind.{ear_cut, emptied, first_edge, spur_added}
use Rattle.dcel_maps.specs.EditLists.{nothing}
use Rattle.dcel_maps.specs.Removals.{Closed, gives_up_face}
use Rattle.dcel_maps.specs.Shapes.{map_of}
use Rattle.dcel_maps.specs.Triangulations.{AllTriangles}
use Rattle.dcel_maps.specs.edits.Triangle.{triangle_alone}

-- a mesh of one triangle
triangle_three : {V DE UE F : Type 0} (vertices : V × V × V) (halves : List DE) (edges : List UE) (faces : List F) → AllTriangles (triangle_alone vertices halves edges faces).shape
triangle_three vertices halves edges faces zero inner live = absurd (omega (arith, inner))
triangle_three vertices halves edges faces (suc zero) inner live = refl
triangle_three vertices halves edges faces (suc (suc f)) inner live =
    let (below, kept) = is_live-parts (gives_up_face Closed) 2 (suc (suc f)) live in absurd (omega (arith, below))

pub triangle : {V : Type 0} (x y z : V) → Lawful {V = V} (Triangle x y z)
unfolding is_column
triangle x y z = record {
  column = λ limit. refl;
  edits = λ m new mesh c small.
      comes_first emptied (first_edge ∷ spur_added ∷ ear_cut ∷ []) (map_of m.shape) nothing (map_of new.shape) (λ u. refl)
      (triangle_listed new (x, y, z) c.step.1);
  triangles = λ m new mesh c all.
      let e = c.step.1 in
      inl (all_triangles new _ e.is (triangle_three (x, y, z) e.directed_data e.undirected_data e.face_data));
  removal = λ m new c. record_of new _ _ c.step.1.is refl;
}
