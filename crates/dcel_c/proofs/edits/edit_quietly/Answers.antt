use Rattle.std.proofs.Common.{arith}
use Rattle.dcel_commands.specs.Responses.{response}
use Rattle.dcel_c.proofs.edits.edit_quietly.Goals as goal
use Rattle.dcel_c.proofs.edits.edit_quietly.Goals.{in-Ok, in-Err}

pub returns : goal.returns
returns c = elim c.match-edit.branch [
  | in-Ok w ↦ record {
    done = λ _. (response w.in-Ok.field-0, w.in-Ok.ensures.carried);
    refused = λ wrong. absurd (wrong w.result-is);
    same = λ wrong. absurd (wrong w.result-is);
    number = omega (arith, w.result-is);
  }
  | in-Err w ↦ record {
    done = λ done. absurd (omega (arith, w.in-Err.ensures.status.0, w.result-is, done));
    refused = λ _. rw w.result-is w.in-Err.ensures.refused;
    same = λ _. w.in-Err.ensures.same;
    number = omega (arith, w.in-Err.ensures.status.1, w.result-is);
  }
]
