use Rattle.std.proofs.Common.{◌≡◌, ◌∙◌, ap, length, refl}
use Rattle.dcel_convenience.specs.Removing.{border_from}
use Rattle.dcel_convenience.proofs.Collapsed.{border_at}
use Rattle.dcel_convenience.proofs.collapsing.has_room_to_collapse.Goals as goal

pub returns : goal.returns
returns g c =
    let m = c.args.dcel.now in
    let lent = c.directed_edge.result in
    let count : c.border_length-count.result ≡ length (border_from m.shape c.args.half) =
    c.border_length-count.ensures
    ∙ ap length (border_at m lent.dcel.now c.args.half lent.number (border_from lent.dcel.now.shape lent.number) refl c.directed_edge.ensures.mesh c.directed_edge.ensures.number) in
    rw (c.filling.ensures.vertices, c.filling.ensures.edges, c.filling.ensures.faces, count) at c.has_room_for.ensures
