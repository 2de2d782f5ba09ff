use Rattle.std.proofs.Common.{refl, inl, inr, Ok, Err}
use Rattle.dcel_commands.specs.Instructions.{Edit, Ask, instruction}
use Rattle.dcel_commands.specs.Queries.{fact}
use Rattle.dcel_commands.specs.Responses.{response}
use Rattle.dcel_commands.specs.Talk.{good_line, no_list}
use Rattle.dcel_commands.proofs.answering.answer.Goals as goal

pub returns-in-Ok : goal.returns-in-Ok
returns-in-Ok g c = record {
  text = _;
  writes = c.write_reply.ensures;
  fits = good_line (Edit (instruction c.in-Some-Ok-Edit.command)) (rw (c.in-Some-Ok-Edit.field-0-is, c.in-Some-Ok-Edit.field-0-0-is) at c.in-Some-Ok-Edit.ensures) (Ok (response c.in-Ok.reply), (c.in-Ok.ensures.legal, c.in-Ok.ensures.step), refl);
}

pub returns-in-Err : goal.returns-in-Err
returns-in-Err g c = record {
  text = _;
  writes = c.write_refusal-in-Err.ensures;
  fits = good_line (Edit (instruction c.in-Some-Ok-Edit.command)) (rw (c.in-Some-Ok-Edit.field-0-is, c.in-Some-Ok-Edit.field-0-0-is) at c.in-Some-Ok-Edit.ensures) (Err c.in-Err.refused, (c.in-Err.ensures.refused, c.in-Err.ensures.unchanged), refl);
}

pub returns-in-Ok-tell : goal.returns-in-Ok-tell
returns-in-Ok-tell g c = record {
  text = _;
  writes = c.write_told.ensures;
  fits = good_line (Ask c.in-Some-Ok-Ask.query) (rw (c.in-Some-Ok-Ask.field-0-is, c.in-Some-Ok-Ask.field-0-0-is) at c.in-Some-Ok-Ask.ensures) (inl (c.in-Ok-tell.ensures.met, (fact c.in-Ok-tell.told, c.in-Ok-tell.ensures.tells, refl)), refl);
}

pub returns-in-Err-tell : goal.returns-in-Err-tell
returns-in-Err-tell g c = record {
  text = _;
  writes = c.write_refusal-in-Err-tell.ensures;
  fits = good_line (Ask c.in-Some-Ok-Ask.query) (rw (c.in-Some-Ok-Ask.field-0-is, c.in-Some-Ok-Ask.field-0-0-is) at c.in-Some-Ok-Ask.ensures) (inr (c.in-Err-tell.why, c.in-Err-tell.ensures.refused, refl), refl);
}

pub returns-in-Some-Err : goal.returns-in-Some-Err
returns-in-Some-Err g c =
    let read = rw c.in-Some-Err.field-0-is at c.in-Some-Err.ensures in
    record { text = _; writes = c.write_refusal.ensures; fits = no_list read.0 read.1 read.2 refl refl }
