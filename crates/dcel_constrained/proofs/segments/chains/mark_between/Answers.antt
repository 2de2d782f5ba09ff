use Rattle.std.proofs.Common.{ℕ, ◌<◌, subst}
use Rattle.dcel_fixed.specs.HalfEdges.{rev}
use Rattle.dcel_maps.specs.Shapes.{map_of}
use Rattle.dcel_maps.proofs.maps.Soundness.{rev_live}
use Rattle.dcel_maps.proofs.shapes.Maps.{map-sound}
use Rattle.dcel_constrained.proofs.segments.chains.mark_between.Goals as goal

pub edge_between-requires : goal.edge_between-requires
edge_between-requires g c =
    let shape = c.args.dcel.now.shape in
    let h = c.requires.joined.0 in
    let leads = c.requires.joined.1 in
    record {
      from = subst (λ (i : ℕ). i < shape.vertices) leads.start ((map-sound c.every_mesh.ensures.sound).below_vertices h leads.live);
      to = subst (λ (i : ℕ). i < shape.vertices) leads.end ((map-sound c.every_mesh.ensures.sound).below_vertices (rev h) (rev_live (map_of shape) h leads.live));
    }

pub unreachable-requires : goal.unreachable-requires
unreachable-requires g c = c.in_default.ensures.none c.requires.joined.0 c.requires.joined.1
