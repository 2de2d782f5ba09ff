use Rattle.std.proofs.Common.{sym, ◌∙◌}
use Rattle.dcel_maps.specs.Borders.{center_of}
use Rattle.dcel_maps.specs.Regions.IsRing.{of_region, of_vertex}
use Rattle.dcel_maps.proofs.removal.RingLists.{lists-long}
use Rattle.spade_dcel.proofs.dcel.Dcel.is_ring.Goals as goal

pub returns : goal.returns
returns g c = (
  λ is. of_region (c.is_region_ring.ensures.0 is),
  λ ring. elim ring [
    | of_vertex vertex ↦
        let long = lists-long c.args.self.now c.every_mesh.ensures c.args.list.now (center_of c.args.self.now.shape c.args.list.now) vertex.border_loop
        c.args.edges.now c.args.faces.now (vertex.each_edge, vertex.each_face) in
        absurd (c.if-edges-faces.false (long.0 ∙ sym long.1))
    | of_region region ↦ c.is_region_ring.ensures.1 region
  ],
)
