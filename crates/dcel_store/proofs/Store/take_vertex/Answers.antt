use Rattle.std.proofs.Common.{arith}
use Rattle.dcel_store.specs.Vectors.{lists_of}
use Rattle.dcel_store.proofs.Taken.{element_taken}
use Rattle.dcel_store.proofs.Store.take_vertex.Goals as goal

pub returns-clause-others : goal.returns-clause-others
returns-clause-others g c = rw (← c.self.view_is)
    (element_taken (λ e. e.«data») (λ e. e.out_edge) (λ items anchors room. record (lists_of c.self.inside) { vertex_data = items; vertex_anchors = anchors; vertex_room = room }) c.self.inside.vertices.items c.swap_remove.result _
    c.swap_remove.ensures.items c.index.ensures.value (rw (← c.self.view_is) at c.requires) (omega (arith, c.swap_remove.ensures.len, c.swap_remove.ensures.capacity)))
