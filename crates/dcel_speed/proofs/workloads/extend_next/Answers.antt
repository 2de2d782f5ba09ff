use Rattle.dcel_speed.proofs.Growing.{appended_bare}
use Rattle.dcel_speed.proofs.Lines.{end_after, longer_end}
use Rattle.dcel_speed.proofs.workloads.extend_next.Goals as goal

pub extend_line-requires-clause-line_end : goal.extend_line-requires-clause-line_end
extend_line-requires-clause-line_end g c =
    end_after c.args.dcel.now c.append_unconnected_vertex.new.dcel _ c.args.end c.in_ok-vertex.ensures.edit c.requires.line_end

pub extend_line-requires-clause-unconnected : goal.extend_line-requires-clause-unconnected
extend_line-requires-clause-unconnected g c = appended_bare _ _ _ _ c.every_mesh.ensures c.in_ok-vertex.ensures.edit c.in_ok-vertex.ensures.answer

pub returns-clause-line_end : goal.returns-clause-line_end
returns-clause-line_end g c =
    let dcel = c.append_unconnected_vertex.new.dcel in
    longer_end dcel c.append_unconnected_vertex.ensures.mesh c.args.end c.in_ok-vertex.vertex
    (end_after c.args.dcel.now dcel _ c.args.end c.in_ok-vertex.ensures.edit c.requires.line_end)
    (appended_bare c.args.dcel.now dcel _ c.in_ok-vertex.vertex c.every_mesh.ensures c.in_ok-vertex.ensures.edit c.in_ok-vertex.ensures.answer)
    c.extend_line.new.dcel c.in_ok-extend_line.field-0 c.in_ok-extend_line.ensures.answer c.in_ok-extend_line.ensures.edit
