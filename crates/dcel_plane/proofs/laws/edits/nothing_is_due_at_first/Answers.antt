use Rattle.dcel_plane.proofs.laws.edits.nothing_is_due_at_first.Goals as goal

pub returns : goal.returns
returns g c = λ at m due delaunay u inner circled. absurd (delaunay.empty u inner circled)
