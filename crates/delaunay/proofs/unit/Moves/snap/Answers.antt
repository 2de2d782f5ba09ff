use Rattle.std.proofs.lemmas.Result.{IfOk-weaker}
use Rattle.delaunay.proofs.unit.Moves.snap.Goals as goal

pub returns : goal.returns
returns c =
    IfOk-weaker c.point_at.result _ _
    (λ p is. record { x_is = (c.in-Some.left, c.in-Some.ensures, is.0); y_is = (c.in-Some-snap.right, c.in-Some-snap.ensures, is.1) })
    c.point_at.ensures
