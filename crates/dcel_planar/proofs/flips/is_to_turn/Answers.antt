use Rattle.std.proofs.lemmas.Bool.{false≢true}
use Rattle.dcel_planar.proofs.flips.is_to_turn.Goals as goal

pub returns-then-not-is_still_illegal : goal.returns-then-not-is_still_illegal
returns-then-not-is_still_illegal g c = (
  λ no. absurd (false≢true no),
  λ is. let told = c.is_still_illegal.ensures.1 (is.inner, is.circled) in let no = c.if-not-is_still_illegal.true in cc,
)
