-- The datum of one element, lent to be written: the mesh ends with the last datum behind the result at that number, and else as it was.
use Rattle.std.specs.Prelude.{ℕ}
use Rattle.std.specs.Borrow.{Lends, MutBor, Fml, RattleType}
use Rattle.std.specs.declared.alloc.Allocator.{Ghosts}
use Rattle.spade_dcel.specs.contracts.dcel.Dcel.{the_row}
use Rattle.dcel_maps.specs.edits.Data.{vertex_updated, directed_edge_updated, undirected_edge_updated, face_updated}
use Rattle.dcel_maps.specs.Shapes.{Mesh}

module _ (V DE UE F A : RattleType) (alloc : Ghosts A.Denot) (self : MutBor (Mesh V.Denot DE.Denot UE.Denot F.Denot)) (number : ℕ) where
  abbrev pub LendsVertexDatum : MutBor V.Denot → Fml
  LendsVertexDatum result = Lends (the_row V DE UE F A alloc) V self result (vertex_updated self.now number)

  abbrev pub LendsDirectedEdgeDatum : MutBor DE.Denot → Fml
  LendsDirectedEdgeDatum result = Lends (the_row V DE UE F A alloc) DE self result (directed_edge_updated self.now number)

  abbrev pub LendsUndirectedEdgeDatum : MutBor UE.Denot → Fml
  LendsUndirectedEdgeDatum result = Lends (the_row V DE UE F A alloc) UE self result (undirected_edge_updated self.now number)

  abbrev pub LendsFaceDatum : MutBor F.Denot → Fml
  LendsFaceDatum result = Lends (the_row V DE UE F A alloc) F self result (face_updated self.now number)
