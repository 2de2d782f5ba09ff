use Rattle.std.proofs.Common.{◌∙◌, List, ℕ, drop, map, ap}
use Rattle.std.proofs.lemmas.Result.{IfOk-weaker}
use Rattle.dcel_output.specs.Outlining.{is_odd}
use Rattle.dcel_output.proofs.Parted.{odd_depths}
use Rattle.dcel_output.proofs.outlining.odd_regions.Goals as goal

pub returns-clause-each : goal.returns-clause-each
returns-clause-each g c =
    let depths = c.in_ok-depths.depths.items in
    let known = c.in_ok-depths.ensures in
    IfOk-weaker c.odd_but_first.result _ _
    (λ flags is. odd_depths c.args.mesh.now c.every_mesh.ensures c.requires depths known.count known.reached known.least flags.items
    (is ∙ ap (λ (l : List ℕ). map is_odd (drop 1 l)) c.deref.ensures.value))
    c.odd_but_first.ensures
