use Rattle.std.proofs.Common.{IsTrue, refl}
use Rattle.dcel_predicates.specs.Steps.{cross_of, dot_of}
use Rattle.dcel_predicates.proofs.circle.in_circle_across.Goals as goal
use Rattle.dcel_predicates.proofs.Angles.{steps_apart, told_across}

pub between-requires-clause-apart : goal.between-requires-clause-apart
between-requires-clause-apart c =
    let a = c.args in
    let r = c.between-r in
    let s = c.between-s in
    steps_apart a.a a.b a.c a.d r.result.x r.result.y s.result.x s.result.y c.requires r.ensures.x r.ensures.y s.ensures.x s.ensures.y

pub between-requires-then-are_narrow-clause-apart : goal.between-requires-then-are_narrow-clause-apart
between-requires-then-are_narrow-clause-apart c =
    let a = c.args in
    let p = c.between-p in
    let q = c.between-q in
    steps_apart a.a a.b a.c a.c p.result.x p.result.y q.result.x q.result.y c.requires p.ensures.x p.ensures.y q.ensures.x q.ensures.y

pub returns-then-are_narrow : goal.returns-then-are_narrow
returns-then-are_narrow c =
    let a = c.args in
    let p = c.between-p in
    let q = c.between-q in
    let r = c.between-r in
    let s = c.between-s in
    let at_d = c.between in
    let at_c = c.between-then-are_narrow in
    told_across (IsTrue c.exceeds.result) a.a a.b a.c a.d p.result.x p.result.y q.result.x q.result.y r.result.x r.result.y s.result.x s.result.y
    at_d.result.sine at_c.result.cosine at_c.result.sine at_d.result.cosine
    p.ensures.x p.ensures.y q.ensures.x q.ensures.y r.ensures.x r.ensures.y s.ensures.x s.ensures.y
    at_d.ensures.sine at_c.ensures.cosine at_c.ensures.sine at_d.ensures.cosine c.exceeds.ensures

pub returns-else-are_narrow : goal.returns-else-are_narrow
returns-else-are_narrow c =
    let a = c.args in
    let p = c.between-p in
    let q = c.between-q in
    let r = c.between-r in
    let s = c.between-s in
    let u = p.result in
    let v = q.result in
    let x = r.result in
    let y = s.result in
    told_across (IsTrue c.exceeds_widely.result) a.a a.b a.c a.d u.x u.y v.x v.y x.x x.y y.x y.y
    (cross_of x.x x.y y.x y.y) (dot_of u.x u.y v.x v.y) (cross_of u.x u.y v.x v.y) (dot_of x.x x.y y.x y.y)
    p.ensures.x p.ensures.y q.ensures.x q.ensures.y r.ensures.x r.ensures.y s.ensures.x s.ensures.y
    refl refl refl refl c.exceeds_widely.ensures
