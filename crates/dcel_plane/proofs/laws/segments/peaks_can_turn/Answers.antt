use Rattle.dcel_plane.proofs.laws.segments.peaks_can_turn.Goals as goal
use Rattle.std.proofs.Common.{◌∷◌, ◌++◌, arith}
use Rattle.dcel_maps.proofs.words.Counts.{count-append, count-same}
use Rattle.dcel_plane.proofs.segments.Channels.{all_cross}
use Rattle.dcel_plane.proofs.segments.Gates.{peak_can_turn}
use Rattle.dcel_plane.proofs.segments.Peaks.{ends_of}

pub returns : goal.returns
returns g c = λ at m v w h front back mesh triangles plane convex channel peak.
    let crosses = all_cross at m.shape v w channel.first channel.last (front ++ (h ∷ back)) channel.leads h
    (let c = count-append h front (h ∷ back) in let d = count-same h back in omega (arith, c, d)) in
    peak_can_turn m mesh triangles at plane convex v w (ends_of at m.shape v w (front ++ (h ∷ back)) channel) h crosses peak
