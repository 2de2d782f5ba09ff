use Rattle.std.proofs.lemmas.Bool.{false≢true}
use Rattle.dcel_planar.proofs.rounds.goes_round.Goals as goal

pub returns-then-not-turns_right : goal.returns-then-not-turns_right
returns-then-not-turns_right g c = (
  λ no. absurd (false≢true no),
  λ goes. let yes = c.turns_right.ensures.1 (λ h live outer. (goes.inner h live outer, goes.turns h live outer)) in let no = c.if-not-turns_right.true in cc,
)

pub returns-then-not-begins_once : goal.returns-then-not-begins_once
returns-then-not-begins_once g c = (
  λ no. absurd (false≢true no),
  λ goes. let yes = c.begins_once.ensures.1 goes.right in let no = c.if-not-begins_once.true in cc,
)

pub returns : goal.returns
returns g c = (
  λ yes.
      let turns = c.turns_right.ensures.0 c.if-not-turns_right.false in
      record {
        inner = λ h live outer. (turns h live outer).0;
        turns = λ h live outer. (turns h live outer).1;
        right = c.begins_once.ensures.0 c.if-not-begins_once.false;
        left = c.begins_once-2.ensures.0 yes;
      },
  λ goes. c.begins_once-2.ensures.1 goes.left,
)
