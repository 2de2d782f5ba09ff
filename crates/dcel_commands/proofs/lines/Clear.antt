-- What is so of `clear`.
use Rattle.std.proofs.Common.{inl, refl, arith}
use Rattle.dcel_commands.proofs.Columns.{is_column}
use Rattle.dcel_commands.proofs.Lawful.{Lawful, all_triangles, record_of}
use Rattle.dcel_commands.specs.Instructions.{Clear}
use Rattle.dcel_maps.proofs.Liveness.{is_live-parts}
use Rattle.dcel_maps.proofs.lists.Beginning.{clear_listed}
use Rattle.dcel_maps.specs.Removals.{Closed, gives_up_face}
use Rattle.dcel_maps.specs.Shapes.{Mesh}
use Rattle.dcel_maps.specs.Triangulations.{AllTriangles}
use Rattle.dcel_maps.specs.edits.Whole.{cleared}

-- a mesh of the outer face alone
outer_three : {V DE UE F : Type 0} (m : Mesh V DE UE F) → AllTriangles (cleared m).shape
outer_three m f inner live = let (below, kept) = is_live-parts (gives_up_face Closed) 1 f live in absurd (omega (arith, below, inner))

pub clear : {V : Type 0} → Lawful {V = V} Clear
unfolding is_column
clear = record {
  column = λ limit. refl;
  edits = λ m new mesh c small. clear_listed m new c.step.1;
  triangles = λ m new mesh c all. inl (all_triangles new _ c.step.1 (outer_three m));
  removal = λ m new c. record_of new _ _ c.step.1 refl;
}
