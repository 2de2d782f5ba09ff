use Rattle.std.proofs.Common.{ap, ◌∙◌, arith}
use Rattle.dcel_maps.specs.Shapes.{face_count}
use Rattle.dcel_maps.specs.Walking.{in_mesh}
use Rattle.dcel_maps.proofs.walks.Numbers.{numbers-first}
use Rattle.dcel_maps.proofs.walks.Progress.{leaves_others}
use Rattle.spade_dcel.proofs.dcel.Dcel.inner_faces.Goals as goal

pub returns-clause-items : goal.returns-clause-items
returns-clause-items g c =
    leaves_others _ c.next-outer.result c.next-outer.ensures.steps
    (c.new-faces.ensures.items ∙ ap (in_mesh c.args.self.now) (numbers-first 0 (face_count c.args.self.now.shape) (omega arith)))
