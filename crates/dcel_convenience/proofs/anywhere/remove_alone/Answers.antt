use Rattle.dcel_convenience.specs.declared.anywhere.WayOut.TheVariants.{Alone}
use Rattle.dcel_convenience.proofs.WaysOut.{alone_simple}
use Rattle.dcel_convenience.proofs.anywhere.remove_alone.Goals as goal

pub returns-clause-removed : goal.returns-clause-removed
returns-clause-removed g c = record {
  way = Alone;
  leaves = (c.requires.closed, c.requires.bare);
  is = c.swap_remove_vertex.ensures.edit;
  simple = alone_simple c.args.dcel.now c.swap_remove_vertex.new.dcel c.args.vertex c.every_mesh.ensures c.requires.closed c.requires.bare c.swap_remove_vertex.ensures.edit;
  returned = record {
    datum = c.swap_remove_vertex.ensures.datum;
    moved = c.swap_remove_vertex.ensures.moved;
  };
}
