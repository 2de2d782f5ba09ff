use Rattle.dcel_planar.proofs.Whole.{on_err}
use Rattle.dcel_constrained.specs.Constraints.{IsFreeWay}
use Rattle.dcel_constrained.specs.Soundness.{MarksAnother}
use Rattle.dcel_constrained.proofs.Outlined.{ends_of, inner_one, planar}
use Rattle.dcel_constrained.proofs.segments.chains.lay_parts_if_free.Goals as goal

pub is_free_way-requires-clause-planar : goal.is_free_way-requires-clause-planar
is_free_way-requires-clause-planar g c = planar c.args.planar.now.dcel c.every_mesh.ensures c.args.planar.now.due.items c.requires.sound c.requires.hull

pub is_free_way-requires-clause-inner : goal.is_free_way-requires-clause-inner
is_free_way-requires-clause-inner g c = inner_one c.args.planar.now.dcel c.every_mesh.ensures c.args.planar.now.due.items c.requires.sound c.requires.hull

pub is_free_way-requires-clause-ends : goal.is_free_way-requires-clause-ends
is_free_way-requires-clause-ends g c =
    ends_of c.args.planar.now.dcel c.every_mesh.ensures c.args.planar.now.due.items c.requires.sound c.args.from c.args.to c.requires.differ c.requires.ends.from c.requires.ends.to

pub lay_through_triangles-requires-clause-can : goal.lay_through_triangles-requires-clause-can
lay_through_triangles-requires-clause-can g c =
    record { from = c.requires.ends.from; to = c.requires.ends.to; free = c.is_free_way.ensures.0 c.if-not-is_free_way.false }

pub returns-in_err-added-clause-tested : goal.returns-in_err-added-clause-tested
returns-in_err-added-clause-tested g c =
    let old = c.args.planar.now.dcel in
    on_err c.from_residual.result (MarksAnother old c.lay_through_triangles.new.planar.dcel → IsFreeWay old c.args.from c.args.to)
    (λ another. c.is_free_way.ensures.0 c.if-not-is_free_way.false)

pub returns-clause-laid : goal.returns-clause-laid
returns-clause-laid g c = (c.in_ok-added.ensures.laid, c.in_ok-added.ensures.added, c.is_free_way.ensures.0 c.if-not-is_free_way.false)
