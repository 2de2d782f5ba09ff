use Rattle.dcel_plane.proofs.laws.location.points_on_a_line_have_an_order.Goals as goal
use Rattle.dcel_plane.proofs.location.Lexical.{after_end, before_start, not_after_end, not_before_start}

pub returns-clause-after : goal.returns-clause-after
returns-clause-after c = λ a b p on before. (after_end a b p on before, not_after_end a b p on before)

pub returns-clause-before : goal.returns-clause-before
returns-clause-before c = λ a b p on before. (before_start a b p on before, not_before_start a b p on before)
