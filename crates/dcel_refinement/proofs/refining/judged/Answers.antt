use Rattle.std.proofs.Common.{refl}
use Rattle.dcel_refinement.proofs.refining.judged.Goals as goal

pub returns-then-is_good : goal.returns-then-is_good
returns-then-is_good g c =
    let told = rw c.dcel-4.ensures.mesh at c.is_good.ensures in
    let exceptions = rw c.dcel-3.ensures.mesh at c.count_exceptions-excepted.ensures in
    (told.0 c.if-is_good.true, rw (c.saturating_sub-added.ensures, c.num_vertices.ensures.count, c.dcel-2.ensures.mesh) refl, exceptions)

pub returns : goal.returns
returns g c =
    let told = rw c.dcel-4.ensures.mesh at c.is_good.ensures in
    let exceptions = rw c.dcel-3.ensures.mesh at c.count_exceptions-excepted.ensures in (
      λ good.
          let yes = told.1 good in
          let no = c.if-is_good.false in
          cc,
      rw (c.saturating_sub-added.ensures, c.num_vertices.ensures.count, c.dcel-2.ensures.mesh) refl,
      exceptions,
    )
