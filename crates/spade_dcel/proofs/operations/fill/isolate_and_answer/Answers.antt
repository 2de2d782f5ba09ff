use Rattle.spade_dcel.proofs.operations.fill.isolate_and_answer.Goals as goal

pub returns-clause-edit : goal.returns-clause-edit
returns-clause-edit g c = rw (c.deref.ensures.value, c.deref-2.ensures.value) at c.in_ok-give_up_and_fill.ensures.edit
