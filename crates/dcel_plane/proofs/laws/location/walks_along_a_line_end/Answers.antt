use Rattle.std.proofs.Common.{arith}
use Rattle.dcel_maps.specs.Shapes.{edge_is_live}
use Rattle.dcel_maps.proofs.walks.Lengths.{count-le}
use Rattle.dcel_plane.proofs.laws.location.walks_along_a_line_end.Goals as goal
use Rattle.dcel_plane.proofs.location.OnLine.{few_passed, goes_back, goes_on, stays_ahead}

pub returns-clause-next : goal.returns-clause-next
returns-clause-next g c = λ at m h mesh straight live not. goes_on m mesh at straight h live not

pub returns-clause-prev : goal.returns-clause-prev
returns-clause-prev g c = λ at m h mesh straight live not. goes_back m mesh at straight h live not

pub returns-clause-ahead : goal.returns-clause-ahead
returns-clause-ahead g c = λ at m p h k mesh straight live live_k starts other lies. stays_ahead m mesh at straight h k live live_k starts other p lies

pub returns-clause-few : goal.returns-clause-few
returns-clause-few g c = λ at m start h list mesh straight live passes.
    (let f = few_passed m mesh at straight start h list live passes in (f, omega (arith, f, count-le (edge_is_live m.shape) m.shape.edges)))
