use Rattle.std.proofs.lemmas.Result.{on_ok_weaker}
use Rattle.dcel_maps.proofs.lists.Filling.{remesh_listed}
use Rattle.dcel_maps.proofs.removal.Insides.{inside_lies, many_items}
use Rattle.spade_dcel.proofs.operations.fill.remesh_edge_ring.Goals as goal

pub isolate_and_answer-requires : goal.isolate_and_answer-requires
isolate_and_answer-requires g c =
    let border = c.args.border_loop.items in
    let edges = c.args.edges_to_remove.items in
    let faces = c.args.faces_to_remove.items in
    rw (c.deref-4.ensures.value, c.inside-vertex.ensures, c.deref.ensures.value, c.deref-2.ensures.value, c.deref-3.ensures.value) record {
      closed = c.requires.closed;
      many = many_items c.args.dcel.now.shape border edges faces c.requires.ring;
      inside = inside_lies c.args.dcel.now c.every_mesh.ensures border edges faces c.requires.ring;
      room = c.requires.room;
    }

pub returns-clause-edit : goal.returns-clause-edit
returns-clause-edit g c =
    rw (c.deref-4.ensures.value, c.inside-vertex.ensures, c.deref.ensures.value, c.deref-2.ensures.value, c.deref-3.ensures.value) at c.isolate_and_answer.ensures.edit

pub returns-clause-edits : goal.returns-clause-edits
returns-clause-edits g c =
    on_ok_weaker c.isolate_and_answer.result (λ filled. remesh_listed c.args.dcel.now c.every_mesh.ensures c.requires.closed _ _ _ _ filled c.requires.ring) (returns-clause-edit g c)
