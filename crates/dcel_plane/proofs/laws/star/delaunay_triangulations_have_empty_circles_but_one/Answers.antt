use Rattle.dcel_plane.proofs.star.Begin.{appended_star, empty_star, moved_star}
use Rattle.dcel_plane.proofs.laws.star.delaunay_triangulations_have_empty_circles_but_one.Goals as goal

pub returns-clause-empty : goal.returns-clause-empty
returns-clause-empty g c = λ at m v empty. empty_star at m.shape v empty

pub returns-clause-moved : goal.returns-clause-moved
returns-clause-moved g c = λ at to m v mesh same star. moved_star at to m.shape mesh.sound same v star

pub returns-clause-appended : goal.returns-clause-appended
returns-clause-appended g c = λ at m p v star. appended_star m p at v star
