use Rattle.dcel_plane.proofs.laws.covering.local_conditions_make_a_delaunay_triangulation.Goals as goal
use Rattle.dcel_plane.proofs.covering.Numbered.{alone, apart, between, circles, cornered, covered, distinct, right}

pub returns-clause-circles : goal.returns-clause-circles
returns-clause-circles g c = λ at m mesh known. circles m mesh at known

pub returns-clause-apart : goal.returns-clause-apart
returns-clause-apart g c = λ at m mesh known. apart m mesh at known

pub returns-clause-covered : goal.returns-clause-covered
returns-clause-covered g c = λ at m mesh known. covered m mesh at known

pub returns-clause-corners : goal.returns-clause-corners
returns-clause-corners g c = λ at m mesh known. cornered m mesh at known

pub returns-clause-alone : goal.returns-clause-alone
returns-clause-alone g c = λ at m mesh known. alone m mesh at known

pub returns-clause-distinct : goal.returns-clause-distinct
returns-clause-distinct g c = λ at m mesh known. distinct m mesh at known

pub returns-clause-right : goal.returns-clause-right
returns-clause-right g c = λ at m mesh known. right m mesh at known

pub returns-clause-between : goal.returns-clause-between
returns-clause-between g c = λ at m mesh known. between m mesh at known

pub returns-clause-once : goal.returns-clause-once
returns-clause-once g c = λ at m mesh known. known.hull.once
