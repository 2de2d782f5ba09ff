use Rattle.std.proofs.Common.{◌≡◌, ap, refl, unwrap_or, ℕ, Option}
use Rattle.spade_dcel.specs.Handles.{number_of}
use Rattle.dcel_maps.specs.Shapes.{adjacent_edge_of}
use Rattle.dcel_planar.proofs.insert.edits.edges_of.Goals as goal

pub returns : goal.returns
returns g c =
    let first = rw (c.face.ensures.mesh, c.face.ensures.number) at c.adjacent_edge-edge.ensures.anchor in
    let at : adjacent_edge_of c.args.dcel.now c.args.face ≡ number_of c.adjacent_edge-edge.result = ap (λ (o : Option ℕ). unwrap_or o 0) first in
    rw (
      c.as_undirected.ensures,
      c.as_undirected-2.ensures,
      c.as_undirected-3.ensures,
      c.fix.ensures.value,
      c.fix-2.ensures.value,
      c.fix-3.ensures.value,
      c.next.ensures.number,
      c.prev.ensures.number,
      c.adjacent_edge-edge.ensures.mesh,
      c.face.ensures.mesh,
      at,
    ) refl
