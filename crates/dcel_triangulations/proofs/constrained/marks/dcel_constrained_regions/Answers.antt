use Rattle.std.proofs.Common.{◌≡◌, ◌<◌, ℕ, List, ap, ◌∙◌, drop, map, rules, subst}
use Rattle.dcel_constrained.specs.Constrained.{marked_mesh}
use Rattle.dcel_maps.specs.Shapes.{IsMesh, face_count}
use Rattle.dcel_triangulations.specs.Calls.{IsSo}
use Rattle.dcel_triangulations.specs.Lists.{IsPut}
use Rattle.dcel_triangulations.specs.constrained.Held.{Kept}
use Rattle.dcel_triangulations.specs.constrained.Lists.{PutsDepths, depth_told}
use Rattle.dcel_triangulations.proofs.Depths.{but_first, lists_depths}
use Rattle.dcel_triangulations.proofs.Laying.{mesh_is}
use Rattle.dcel_triangulations.proofs.constrained.marks.dcel_constrained_regions.Goals as goal

pub returns-in-Ok-clause-depths : goal.returns-in-Ok-clause-depths
returns-in-Ok-clause-depths c =
    let t = c.as_mut-kept.result.now in
    let list = c.in-Ok.list.items in
    let mesh : IsMesh (marked_mesh t) = mesh_is c.dcel.result.now (marked_mesh t) c.dcel.ensures.mesh c.every_mesh.ensures in
    let same : c.deref.result.now ≡ list = search rules in
    let some : 0 < face_count (marked_mesh t).shape = mesh.sized.outer in
    λ _ _.
    subst (λ (kept : Kept). IsSo (PutsDepths c.args.depths.now c.put_depths.new.buffer c.put_depths.new.needed c.put_depths.result) kept) c.as_mut-kept.ensures.value (
      drop 1 list,
      lists_depths t list c.in-Ok.ensures.count some c.in-Ok.ensures.reached c.in-Ok.ensures.least,
      subst (λ (l : List ℕ). IsPut (map depth_told l) c.args.depths.now c.put_depths.new.buffer c.put_depths.new.needed c.put_depths.result)
          (but_first c.deref.result.now ∙ ap (drop 1) same) c.put_depths.ensures,
    )
