use Rattle.std.proofs.Common.{arith}
use Rattle.dcel_maps.specs.Shapes.{edge_is_live, face_count, face_is_live}
use Rattle.dcel_maps.proofs.walks.Lengths.{count-le}
use Rattle.dcel_plane.proofs.laws.location.walks_end.Goals as goal
use Rattle.dcel_plane.proofs.location.Crossed.{faces_once}
use Rattle.dcel_plane.proofs.location.Ending.{few_edges, few_faces, last_step}

pub returns-clause-once : goal.returns-clause-once
returns-clause-once g c = λ at m p start stop list mesh triangles delaunay walk. faces_once m mesh triangles at delaunay p start stop list walk

pub returns-clause-few : goal.returns-clause-few
returns-clause-few g c = λ at m p start h list mesh triangles delaunay live inner walk.
    (let f = few_faces m mesh triangles at delaunay p start h list live inner walk in (f, omega (arith, f, count-le (face_is_live m.shape) (face_count m.shape))))

pub returns-clause-edges : goal.returns-clause-edges
returns-clause-edges g c = λ at m p start stop list mesh triangles delaunay walk.
    (let f = few_edges m mesh triangles at delaunay p start stop list walk in (f, omega (arith, f, count-le (edge_is_live m.shape) m.shape.edges)))

pub returns-clause-last : goal.returns-clause-last
returns-clause-last g c = λ at m p start h list mesh triangles delaunay walk has all. last_step m mesh triangles at delaunay p start h list walk has all
