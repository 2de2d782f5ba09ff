use Rattle.dcel_output.proofs.LeftOut.{edge_there, no_edge, one_left}
use Rattle.dcel_output.proofs.laws.constrained_triangulations_leave_no_point_out.Goals as goal

pub returns-clause-edges : goal.returns-clause-edges
returns-clause-edges g c = λ points vertices segments m numbers are i j k first second third differ. edge_there points vertices segments m numbers are i j k first second third differ

pub returns-clause-without_edges : goal.returns-clause-without_edges
returns-clause-without_edges g c = λ p q points vertices segments numbers are. no_edge p q points vertices segments numbers are

pub returns-clause-one_left_out : goal.returns-clause-one_left_out
returns-clause-one_left_out g c = λ a b c d points vertices segments numbers are. one_left a b c d points vertices segments numbers are
