use Rattle.std.proofs.lemmas.Result.{on_ok_weaker}
use Rattle.delaunay.proofs.Written.{any_ok}
use Rattle.delaunay.proofs.writing.write_output.Goals as goal

pub returns-in-Triangles : goal.returns-in-Triangles
returns-in-Triangles g c = rw c.in-Triangles.is (on_ok_weaker c.write_triangles.result (λ text listed. text) c.write_triangles.ensures)

pub returns-in-Neighbors : goal.returns-in-Neighbors
returns-in-Neighbors g c = rw c.in-Neighbors.is (on_ok_weaker c.write_neighbors.result (λ text listed. text) c.write_neighbors.ensures)

pub returns-in-Edges : goal.returns-in-Edges
returns-in-Edges g c = rw c.in-Edges.is (on_ok_weaker c.write_edges.result (λ text listed. text) c.write_edges.ensures)

pub returns-in-Hull : goal.returns-in-Hull
returns-in-Hull g c = rw c.in-Hull.is (on_ok_weaker c.write_hull.result (λ text listed. text) c.write_hull.ensures)

pub returns-in-Stats : goal.returns-in-Stats
returns-in-Stats g c = rw c.in-Stats.is (any_ok c.write_stats.result _ (λ _ listed. absurd listed))

pub returns-in-Off : goal.returns-in-Off
returns-in-Off g c = rw c.in-Off.is (any_ok c.write_off.result _ (λ _ listed. absurd listed))

pub returns-in-Obj : goal.returns-in-Obj
returns-in-Obj g c = rw c.in-Obj.is (any_ok c.write_obj.result _ (λ _ listed. absurd listed))

pub returns-in-Points : goal.returns-in-Points
returns-in-Points g c = rw c.in-Points.is (any_ok c.write_coordinates.result _ (λ _ listed. absurd listed))

pub returns-in-Words : goal.returns-in-Words
returns-in-Words g c = rw c.in-Words.is (any_ok c.write_words.result _ (λ _ listed. absurd listed))

pub returns-in-Voronoi : goal.returns-in-Voronoi
returns-in-Voronoi g c = rw c.in-Voronoi.is (any_ok c.write_voronoi.result _ (λ _ listed. absurd listed))
