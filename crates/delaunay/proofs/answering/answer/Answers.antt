use Rattle.std.proofs.Common.{inl, inr}
use Rattle.std.proofs.lemmas.Result.{on_ok_weaker}
use Rattle.delaunay.proofs.answering.answer.Goals as goal

pub returns-clause-triangles : goal.returns-clause-triangles
returns-clause-triangles g c =
    on_ok_weaker c.answer_of.result (λ text asks. text asks (c.in_ok-drawn.ensures.drawn asks.plain.remove)) c.answer_of.ensures.triangles

pub returns-clause-nearest : goal.returns-clause-nearest
returns-clause-nearest g c =
    on_ok_weaker c.answer_of.result (λ text asks. text asks (c.in_ok-drawn.ensures.drawn asks.plain.remove)) c.answer_of.ensures.nearest

pub returns-clause-plain : goal.returns-clause-plain
returns-clause-plain g c =
    on_ok_weaker c.answer_of.result (λ text output asks. text output asks (c.in_ok-drawn.ensures.drawn asks.plain.remove)) c.answer_of.ensures.plain

pub returns-clause-constrained : goal.returns-clause-constrained
returns-clause-constrained g c =
    on_ok_weaker c.answer_of.result
    (λ text output asks. text output asks (c.in_ok-drawn.ensures.drawn asks.remove) (c.in_ok-drawn.ensures.vertices asks.remove (inl asks.constraints)))
    c.answer_of.ensures.constrained

pub returns-clause-inside : goal.returns-clause-inside
returns-clause-inside g c =
    on_ok_weaker c.answer_of.result
    (λ text output asks. text output asks (c.in_ok-drawn.ensures.drawn asks.remove) (c.in_ok-drawn.ensures.vertices asks.remove (inr asks.outline)))
    c.answer_of.ensures.inside
