-- The text of an answer answers the line.
use Rattle.std.proofs.Common.{◌^◌, ◌∙◌, ℕ, List, Option, Ok, Err, sym, ap, subst, inr}
use Rattle.dcel_commands.specs.Instructions.{Ask, Edit}
use Rattle.dcel_commands.specs.Refusal.{refusal_text}
use Rattle.dcel_commands.specs.Responses.{response}
use Rattle.dcel_commands.specs.Rules.{State}
use Rattle.dcel_commands.specs.Talk.{Answers, IsTold, bad_line, good_line}
use Rattle.dcel_replay.specs.Answering.{IsAnswered, IsText}
use Rattle.dcel_replay.specs.declared.answer.Answer.{Answer}
use Rattle.dcel_replay.specs.declared.answer.Answer.TheVariants.{Asked, BadLine, Done, Refused}

pub answers_line : {A : Type 0} (line : List ℕ) (answer : Answer A) (old : State) (before : Option State) (new : State) (after : Option State) → IsAnswered line answer old before new after
    → (text : List ℕ) → IsText new answer text → Answers (2 ^ 31) old line text new
answers_line line BadLine old before new after (none, same) text is = bad_line none is same.0
answers_line line (Refused why) old before new after (Edit command, spells, (refused, by, because), same) text is =
    good_line (Edit command) spells (Err refused, (by, same.0), is ∙ ap refusal_text (sym because))
answers_line line (Refused why) old before new after (Ask query, spells, unmet, same) text is =
    good_line (Ask query) spells (inr (why, unmet, is), same.0)
answers_line line (Done reply) old before new after (command, spells, carries, remembers) text is =
    good_line (Edit command) spells (Ok (response reply), carries, is)
answers_line line (Asked query) old before new after (spells, met, same) text is =
    good_line (Ask query) spells (subst (λ (m : State). IsTold m query text) same.0 is, same.0)
