use Rattle.dcel_convenience.proofs.CutOff.{cut_datum, cut_is, cut_moved, cut_simple, cut_strip, strip_told}
use Rattle.dcel_convenience.proofs.cutting_off.cut_off.Goals as goal

pub cut_off_corner-requires-clause-strip : goal.cut_off_corner-requires-clause-strip
cut_off_corner-requires-clause-strip g c =
    let m = c.args.dcel.now in
    let are = strip_told m c.directed_edge.result.dcel.now c.args.outside c.directed_edge.result.number c.in-Ok.strip.items c.in-Ok.ensures c.directed_edge.ensures.mesh c.directed_edge.ensures.number in
    rw c.deref.ensures.value (cut_strip m c.every_mesh.ensures c.args.vertex c.args.outside c.requires.around c.in-Ok.strip.items are)

pub returns-clause-edit : goal.returns-clause-edit
returns-clause-edit g c =
    let m = c.args.dcel.now in
    let are = strip_told m c.directed_edge.result.dcel.now c.args.outside c.directed_edge.result.number c.in-Ok.strip.items c.in-Ok.ensures c.directed_edge.ensures.mesh c.directed_edge.ensures.number in
    cut_is m c.every_mesh.ensures c.args.vertex c.args.outside c.requires.around c.in-Ok.strip.items are c.cut_off_corner.new.dcel (rw c.deref.ensures.value at c.in-Ok-cut_off_corner.ensures.edit)

pub returns-clause-simple : goal.returns-clause-simple
returns-clause-simple g c =
    let m = c.args.dcel.now in
    let are = strip_told m c.directed_edge.result.dcel.now c.args.outside c.directed_edge.result.number c.in-Ok.strip.items c.in-Ok.ensures c.directed_edge.ensures.mesh c.directed_edge.ensures.number in
    λ simple. cut_simple m c.every_mesh.ensures c.args.vertex c.args.outside c.requires.around c.in-Ok.strip.items are c.cut_off_corner.new.dcel
    (rw c.deref.ensures.value at c.in-Ok-cut_off_corner.ensures.edit) c.requires.closed simple

pub returns-clause-returned : goal.returns-clause-returned
returns-clause-returned g c =
    let m = c.args.dcel.now in
    let are = strip_told m c.directed_edge.result.dcel.now c.args.outside c.directed_edge.result.number c.in-Ok.strip.items c.in-Ok.ensures c.directed_edge.ensures.mesh c.directed_edge.ensures.number in
    record {
      datum = cut_datum m c.every_mesh.ensures c.args.vertex c.args.outside c.requires.around c.in-Ok.strip.items are _ (rw c.deref.ensures.value at c.in-Ok-cut_off_corner.ensures.datum);
      moved = cut_moved m c.every_mesh.ensures c.args.vertex c.args.outside c.requires.around c.in-Ok.strip.items are _ (rw c.deref.ensures.value at c.in-Ok-cut_off_corner.ensures.moved);
    }
