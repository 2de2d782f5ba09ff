use Rattle.std.proofs.Common.{sym, ◌∙◌, arith}
use Rattle.std.proofs.lemmas.Bool.{false_from_ne_true, false≢true, not-true, not_from_false}
use Rattle.dcel_delaunay.proofs.Lost.{inside_from}
use Rattle.dcel_constrained.proofs.remove.lacks_room.Goals as goal

pub returns-in-Some : goal.returns-in-Some
returns-in-Some g c = (
  λ does. absurd (false≢true does),
  λ lacks.
      (let outside = c.in-Some.ensures.some in
      let inner = lacks.0 _ (record { live = outside.live; start = outside.start }) in
      let outer = outside.outer in
      absurd (omega (arith, inner, outer))),
)

pub returns-in-None : goal.returns-in-None
returns-in-None g c = (
  λ does. (
    inside_from c.args.dcel.now c.args.vertex c.in-None.ensures.none,
    λ room. false≢true (sym (not-true c.has_room.result does) ∙ c.has_room.ensures.1 room),
  ),
  λ lacks. not_from_false c.has_room.result (false_from_ne_true c.has_room.result (λ has. lacks.1 (c.has_room.ensures.0 has))),
)
