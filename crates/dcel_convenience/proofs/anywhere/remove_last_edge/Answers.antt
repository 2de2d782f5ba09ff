use Rattle.dcel_convenience.specs.declared.anywhere.WayOut.TheVariants.{LastEdge}
use Rattle.dcel_convenience.proofs.WaysOut.{last_edge_simple}
use Rattle.dcel_convenience.proofs.anywhere.remove_last_edge.Goals as goal

pub returns-clause-removed : goal.returns-clause-removed
returns-clause-removed g c = record {
  way = LastEdge;
  leaves = c.requires;
  is = c.remove_when_degenerate.ensures.edit;
  simple = λ simple. last_edge_simple c.args.dcel.now c.remove_when_degenerate.new.dcel c.args.vertex c.requires c.remove_when_degenerate.ensures.edit
      c.remove_when_degenerate.ensures.mesh;
  returned = record {
    datum = c.remove_when_degenerate.ensures.datum;
    moved = c.remove_when_degenerate.ensures.moved;
  };
}
