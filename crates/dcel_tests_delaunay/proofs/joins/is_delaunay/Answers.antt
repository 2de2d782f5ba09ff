use Rattle.dcel_tests_delaunay.proofs.joins.is_delaunay.Goals as goal

pub returns : goal.returns
returns g so =
    let known = g.is_delaunay_triangulation.ensures.0 so in
    record { mesh = g.every_mesh.ensures; triangles = known.triangles; plane = known.delaunay.plane; convex = known.convex; hull = known.hull }
