use Rattle.spade_dcel.specs.Handles.{mesh_behind, number_of}
use Rattle.dcel_triangulations.proofs.Live.{live_there}
use Rattle.dcel_triangulations.proofs.links.links.Goals as goal

pub next-requires : goal.next-requires
next-requires g c =
    let edge = c.directed_edge-edge.result in
    live_there (mesh_behind edge) c.args.dcel.now (number_of edge) c.args.number c.directed_edge-edge.ensures.mesh c.directed_edge-edge.ensures.number c.requires.closed c.requires.within

pub prev-requires : goal.prev-requires
prev-requires g c =
    let edge = c.directed_edge-edge.result in
    live_there (mesh_behind edge) c.args.dcel.now (number_of edge) c.args.number c.directed_edge-edge.ensures.mesh c.directed_edge-edge.ensures.number c.requires.closed c.requires.within

pub from-requires : goal.from-requires
from-requires g c =
    let edge = c.directed_edge-edge.result in
    live_there (mesh_behind edge) c.args.dcel.now (number_of edge) c.args.number c.directed_edge-edge.ensures.mesh c.directed_edge-edge.ensures.number c.requires.closed c.requires.within

pub face-requires : goal.face-requires
face-requires g c =
    let edge = c.directed_edge-edge.result in
    live_there (mesh_behind edge) c.args.dcel.now (number_of edge) c.args.number c.directed_edge-edge.ensures.mesh c.directed_edge-edge.ensures.number c.requires.closed c.requires.within
