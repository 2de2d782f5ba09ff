use Rattle.dcel_output.specs.Lines.{vertex_line}
use Rattle.dcel_output.proofs.writing.write_vertex.Goals as goal

pub returns : goal.returns
unfolding vertex_line
returns g c = c.writeln.ensures.bytes
