use Rattle.dcel_delaunay.proofs.LineRemoved.{line_can_lose, lost_flat, lost_sound, lost_staying, lost_vertex}
use Rattle.dcel_delaunay.proofs.remove.line.remove_from_line.Goals as goal

pub remove_when_degenerate-taken-requires : goal.remove_when_degenerate-taken-requires
remove_when_degenerate-taken-requires g c = line_can_lose c.args.dcel.now c.every_mesh.ensures c.requires.sound c.requires.flat c.args.vertex c.requires.vertex

pub returns-clause-loses : goal.returns-clause-loses
returns-clause-loses g c =
    let taken = c.remove_when_degenerate-taken in
    lost_vertex c.args.dcel.now c.every_mesh.ensures c.requires.sound c.requires.flat c.args.vertex c.requires.vertex taken.new.dcel taken.ensures.edit taken.ensures.mesh
    (record { point = taken.result.removed_vertex; moved = taken.result.swapped_in_vertex }) taken.ensures.datum taken.ensures.moved

pub returns-clause-sound : goal.returns-clause-sound
returns-clause-sound g c =
    let taken = c.remove_when_degenerate-taken in
    lost_sound c.args.dcel.now c.every_mesh.ensures c.requires.sound c.requires.flat c.args.vertex c.requires.vertex taken.new.dcel taken.ensures.edit taken.ensures.mesh

pub returns-clause-flat : goal.returns-clause-flat
returns-clause-flat g c =
    let taken = c.remove_when_degenerate-taken in
    lost_flat c.args.dcel.now c.every_mesh.ensures c.requires.sound c.requires.flat c.args.vertex c.requires.vertex taken.new.dcel taken.ensures.edit taken.ensures.mesh

pub returns-clause-staying : goal.returns-clause-staying
returns-clause-staying g c =
    let taken = c.remove_when_degenerate-taken in
    lost_staying c.args.dcel.now c.every_mesh.ensures c.requires.sound c.requires.flat c.args.vertex c.requires.vertex taken.new.dcel taken.ensures.edit taken.ensures.mesh _
    c.requires.loose
