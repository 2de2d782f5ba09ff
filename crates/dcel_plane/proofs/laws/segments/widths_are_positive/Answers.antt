use Rattle.dcel_plane.proofs.laws.segments.widths_are_positive.Goals as goal
use Rattle.dcel_plane.proofs.segments.Peaks.{more_width}

pub returns : goal.returns
returns c = λ at s v w h rest channel. more_width at s v w channel.first channel.last h rest channel.leads
