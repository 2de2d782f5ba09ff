use Rattle.std.proofs.lemmas.Result.{on_ok_weaker}
use Rattle.dcel_maps.proofs.lists.Filling.{isolate_listed}
use Rattle.dcel_maps.proofs.removal.RingLists.{at_border}
use Rattle.spade_dcel.proofs.operations.fill.isolate_vertex_and_fill_hole.Goals as goal

pub isolate_and_answer-requires : goal.isolate_and_answer-requires
isolate_and_answer-requires g c =
    rw (c.in_ok-edges.ensures.edges, c.in_ok-edges.ensures.faces, c.deref.ensures.value) record {
      closed = c.requires.closed;
      many = c.requires.border.many;
      inside = (c.requires.border, at_border c.args.dcel.now c.every_mesh.ensures c.args.border_loop.items c.args.vertex c.requires.border);
      room = c.requires.room;
    }

pub returns-clause-edit : goal.returns-clause-edit
returns-clause-edit g c =
    rw (c.in_ok-edges.ensures.edges, c.in_ok-edges.ensures.faces, c.deref.ensures.value) at c.isolate_and_answer.ensures.edit

pub returns-clause-edits : goal.returns-clause-edits
returns-clause-edits g c =
    on_ok_weaker c.isolate_and_answer.result (λ filled. isolate_listed c.args.dcel.now c.every_mesh.ensures c.requires.closed _ _ _ filled c.requires.border) (returns-clause-edit g c)
