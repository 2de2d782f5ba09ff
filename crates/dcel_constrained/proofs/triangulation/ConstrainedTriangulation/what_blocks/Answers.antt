use Rattle.std.proofs.Common.{refl}
use Rattle.dcel_constrained.proofs.Blocked.{some_block}
use Rattle.dcel_constrained.proofs.triangulation.ConstrainedTriangulation.what_blocks.Goals as goal

pub returns-in_default : goal.returns-in_default
returns-in_default g c = λ another. absurd (another.2 another.1)

pub returns-in-Err : goal.returns-in-Err
returns-in-Err g c = λ another. absurd (another.2 another.1)

pub returns-in-Ok-blocking : goal.returns-in-Ok-blocking
returns-in-Ok-blocking g c =
    let m = c.args.self.now.planar.dcel in (
      c.requires.ends,
      some_block m c.args.from c.args.to c.requires.ends c.requires.not c.in-Ok-blocking.edges.items c.in-Ok-blocking.ensures,
      c.in-Ok-blocking.ensures,
      record { keeps = record { points = refl; same = λ whole. refl }; no_other = λ another. another.2 another.1; whole = c.requires.whole },
    )
