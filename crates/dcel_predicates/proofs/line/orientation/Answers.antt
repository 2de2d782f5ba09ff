use Rattle.std.proofs.Common.{◌≡◌, ℤ, pos, ◌<ℤ◌, ◌↔◌, subst}
use Rattle.dcel_predicates.specs.declared.line.Side.TheVariants.{Left, On, Right}
use Rattle.dcel_predicates.proofs.line.orientation.Goals as goal
use Rattle.dcel_predicates.proofs.Machine.{apart_is}

pub returns-clause-left : goal.returns-clause-left
returns-clause-left c = subst (λ (z : ℤ). (c.side_by.result ≡ Left) ↔ (pos 0 <ℤ z)) (apart_is c.args.a c.args.b c.args.c) c.side_by.ensures.left

pub returns-clause-right : goal.returns-clause-right
returns-clause-right c = subst (λ (z : ℤ). (c.side_by.result ≡ Right) ↔ (z <ℤ pos 0)) (apart_is c.args.a c.args.b c.args.c) c.side_by.ensures.right

pub returns-clause-on : goal.returns-clause-on
returns-clause-on c = subst (λ (z : ℤ). (c.side_by.result ≡ On) ↔ (z ≡ pos 0)) (apart_is c.args.a c.args.b c.args.c) c.side_by.ensures.on
