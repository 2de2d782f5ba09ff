use Rattle.std.proofs.Common.{◌∷◌, ◌++◌}
use Rattle.dcel_plane.proofs.segments.Peaks.{ends_of, has_peak, is_peak}
use Rattle.dcel_plane.proofs.laws.segments.channels_have_a_peak.Goals as goal

pub returns-clause-between : goal.returns-clause-between
returns-clause-between g c = λ at m v w h front back mesh triangles plane convex channel before after.
    is_peak m mesh triangles at plane convex v w (ends_of at m.shape v w (front ++ (h ∷ back)) channel) front h back channel before after

pub returns-clause-some : goal.returns-clause-some
returns-clause-some g c = λ at m v w h rest mesh triangles plane convex channel.
    let has = has_peak m mesh triangles at plane convex v w (ends_of at m.shape v w (h ∷ rest) channel) h rest channel in
    (has.front, has.top, has.back, has.parts, has.peak)
