use Rattle.std.proofs.Common.{refl}
use Rattle.dcel_fixed.proofs.Halves.{rev-double}
use Rattle.dcel_edits.proofs.Numbers.{second_back, second_half, third_back, third_half}
use Rattle.dcel_edits.proofs.split_triangles.Round.new.Goals as goal

pub returns : goal.returns
returns g c =
    let edges = c.num_edges-edges.ensures.count in
    let twin = c.rev-twin.ensures in
    let first = rw edges at c.new_normalized-first.ensures in
    let second = rw (edges, second_half) at c.new_normalized-second.ensures in
    let third = rw (edges, third_half) at c.new_normalized-third.ensures in
    let before_first = rw (c.new_normalized-first.ensures, edges, rev-double) at c.rev.ensures in
    let back = rw (c.new_normalized-second.ensures, edges, rev-double, second_half, second_back) at c.rev-back.ensures in
    let last = rw (c.new_normalized-third.ensures, edges, rev-double, third_half, third_back) at c.rev-last.ensures in
    let after_twin = rw (c.face.ensures, twin, first) at c.after.ensures in
    let before_twin = rw (c.new-near.ensures, c.num_faces.ensures.count, c.prev.ensures, twin, second, before_first) at c.between.ensures in
    let after_edge = rw (c.new-far.ensures, c.num_faces-2.ensures.count, third, back) at c.after-2.ensures in
    let before_edge = rw (c.face-2.ensures, c.prev-2.ensures, last) at c.between-2.ensures in
    rw (after_twin, before_twin, after_edge, before_edge) refl
