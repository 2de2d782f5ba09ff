use Rattle.std.proofs.Common.{◌<◌, sym, subst, arith}
use Rattle.dcel_maps.specs.Words.{count_of}
use Rattle.dcel_maps.proofs.removal.Insides.{ring_item-live}
use Rattle.dcel_maps.proofs.words.Counts.{count-same}
use Rattle.spade_dcel.proofs.operations.fill.inside.Goals as goal

pub prev_edge-requires : goal.prev_edge-requires
prev_edge-requires g c =
    let first = c.in-Some.field-0-0.now in
    let there : 0 < count_of first c.args.border.now =
    subst (λ w. 0 < count_of first w) (sym c.in-Some.ensures.cases.0) (omega (arith, count-same first c.in-Some.field-0-1.now)) in
    ring_item-live c.args.dcel.now.shape c.every_mesh.ensures.sound c.args.border.now c.args.edges.now c.args.faces.now c.requires first there
