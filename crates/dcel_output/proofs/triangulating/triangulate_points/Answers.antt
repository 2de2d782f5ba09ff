use Rattle.std.proofs.Common.{◌≡◌, ◌∙◌, List, ℕ, subst, ap}
use Rattle.std.proofs.lemmas.Result.{err_from_is_err_and}
use Rattle.dcel_delaunay.specs.Listing.{NamesLeast}
use Rattle.dcel_delaunay.proofs.listing.Known.{IsKnown, Points}
use Rattle.dcel_delaunay.proofs.listing.Seen.{known_of}
use Rattle.dcel_delaunay.proofs.listing.TooMany.{triangulation_fails}
use Rattle.dcel_output.proofs.triangulating.triangulate_points.Goals as goal

pub returns-clause-numbered : goal.returns-clause-numbered
returns-clause-numbered g c =
    let m : Points = c.insert_all_with-inserted.new.self.planar.dcel in
    let seen : Points = c.dcel-mesh.result.now in
    let same : seen ≡ m = c.dcel-mesh.ensures.mesh in
    let points = c.args.points.now in
    let vertices = c.in_ok-vertices.vertices.items in
    let numbers = c.in_ok-numbers.numbers.items in
    let mesh = c.dcel-mesh.ensures in
    let whole = c.in_ok-vertices.ensures.whole in
    let known : IsKnown m points vertices numbers =
    known_of c.in_ok-triangulation.triangulation.planar.dcel m seen points vertices numbers same c.every_mesh.ensures mesh.closed mesh.joined (mesh.delaunay whole)
    (mesh.circles whole) (mesh.apart whole) (mesh.covers whole) (mesh.single whole) (mesh.hull whole) c.in_ok-triangulation.ensures.empty c.in_ok-vertices.ensures.adds
    c.in_ok-vertices.ensures.stand (subst (λ (list : List ℕ). NamesLeast list 0 numbers) c.deref.ensures.value c.in_ok-numbers.ensures.least)
    (c.in_ok-numbers.ensures.count ∙ c.num_vertices.ensures.count ∙ ap (λ (k : Points). k.shape.vertices) same) in
    record { vertices = vertices; stand = known.stand; from = known.from; least = known.least; count = known.count }

pub returns-in_err-vertices-clause-fails : goal.returns-in_err-vertices-clause-fails
returns-in_err-vertices-clause-fails g c =
    let mesh = c.dcel-mesh.ensures in
    let given = err_from_is_err_and c.from_residual-in_err-vertices.result c.from_residual-in_err-vertices.ensures.1 in
    rw (given.1, given.2)
    (triangulation_fails c.in_ok-triangulation.triangulation.planar c.insert_all_with-inserted.new.self.planar c.dcel-mesh.result.now c.args.points.now _ mesh.mesh
    c.every_mesh.ensures mesh.closed mesh.triangles mesh.single c.in_ok-triangulation.ensures.empty c.insert_all_with-inserted.ensures.adds _ c.in_err-vertices.ensures.fails)
