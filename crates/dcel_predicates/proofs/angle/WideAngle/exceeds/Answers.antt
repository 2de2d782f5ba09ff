use Rattle.std.proofs.Common.{IsTrue}
use Rattle.dcel_predicates.specs.Wide.{number_of}
use Rattle.dcel_predicates.proofs.angle.WideAngle.exceeds.Goals as goal
use Rattle.dcel_predicates.proofs.Angles.{wide_exceeds}

pub returns : goal.returns
returns c =
    let s = c.args.self in
    let o = c.args.other in
    wide_exceeds (IsTrue c.is_positive.result) (number_of c.dot.result) s.sine o.cosine o.sine s.cosine s.sine_in_range o.cosine_in_range o.sine_in_range s.cosine_in_range
    c.dot.ensures c.is_positive.ensures
