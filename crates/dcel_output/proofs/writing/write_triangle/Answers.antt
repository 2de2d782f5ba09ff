use Rattle.std.proofs.Common.{leb, ◌&&◌}
use Rattle.std.specs.Fmt.{decimal}
use Rattle.dcel_output.specs.Lines.{triangle_line}
use Rattle.dcel_output.proofs.Lines.{one_of_three}
use Rattle.dcel_output.proofs.writing.write_triangle.Goals as goal

pub returns : goal.returns
unfolding triangle_line
returns g c =
    let t = c.args.triangle in
    rw (← one_of_three decimal 0 (leb t.first t.second && leb t.first t.third) (leb t.second t.third) t.first t.second t.third) (rw c.corners.ensures at c.writeln.ensures.bytes)
