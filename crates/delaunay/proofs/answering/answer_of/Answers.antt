use Rattle.std.proofs.Common.{◌∙◌, None}
use Rattle.std.proofs.lemmas.Result.{on_ok_weaker}
use Rattle.dcel_delaunay.proofs.listing.Known.{Points}
use Rattle.dcel_output.specs.Lines.{lines_of, nearest_line}
use Rattle.delaunay.specs.Answers.{AreNearest, IsDrawn}
use Rattle.delaunay.specs.declared.arguments.Output.TheVariants.{Triangles}
use Rattle.delaunay.proofs.Written.{asked, below, delaunay_written, near_points, triangles_written, unasked}
use Rattle.delaunay.proofs.answering.answer_of.Goals as goal

pub returns-clause-triangles : goal.returns-clause-triangles
returns-clause-triangles g c =
    let m : Points = c.args.drawn.triangulation.planar.dcel in
    let numbers = c.args.drawn.names.numbers.items in
    let points = c.args.task.now.points.items in
    let near = c.deref.result.now in
    on_ok_weaker c.write_found.result
    (λ text asks drawn. triangles_written _ _ points m numbers near (c.deref.ensures.value ∙ c.in_ok-nearest.ensures.none asks.nearest)
    (c.numbered_triangles_are_delaunay.ensures points numbers drawn.whole drawn.numbered)
    (asked _ _ (lines_of nearest_line near) c.args.arguments.now.output m numbers None (text asks.plain) Triangles asks.output tt))
    c.write_found.ensures.plain

pub returns-clause-nearest : goal.returns-clause-nearest
returns-clause-nearest g c =
    let m : Points = c.args.drawn.triangulation.planar.dcel in
    let numbers = c.args.drawn.names.numbers.items in
    let points = c.args.task.now.points.items in
    let near = c.deref.result.now in
    on_ok_weaker c.write_found.result
    (λ text asks drawn. (
      near,
      near_points points c.args.task.now.places.items m numbers near (c.nearest_numbers_are_nearest.ensures points numbers drawn.whole drawn.numbered)
          (rw c.deref.ensures.value (c.in_ok-nearest.ensures.each asks.nearest)),
      unasked _ _ (lines_of nearest_line near) c.args.arguments.now.output m numbers None (text asks.plain) asks.output,
    ))
    c.write_found.ensures.plain

-- the nearest points are those of the points, if they are asked for
are_nearest : (g : _) (c : goal.After-drop-nearest g) → IsDrawn c.args.task.now.points.items c.args.drawn
    → AreNearest c.args.arguments.now c.args.task.now.points.items c.args.task.now.places.items c.deref.result.now
are_nearest g c drawn =
    let m : Points = c.args.drawn.triangulation.planar.dcel in
    let numbers = c.args.drawn.names.numbers.items in
    let points = c.args.task.now.points.items in
    below points c.args.task.now.places.items m numbers c.deref.result.now
    (c.nearest_numbers_are_nearest.ensures points numbers drawn.whole drawn.numbered) c.args.arguments.now
    (λ none. c.deref.ensures.value ∙ c.in_ok-nearest.ensures.none none)
    (λ some. rw c.deref.ensures.value (c.in_ok-nearest.ensures.each some))

pub returns-clause-plain : goal.returns-clause-plain
returns-clause-plain g c =
    let m : Points = c.args.drawn.triangulation.planar.dcel in
    let numbers = c.args.drawn.names.numbers.items in
    let points = c.args.task.now.points.items in
    let near = c.deref.result.now in
    on_ok_weaker c.write_found.result
    (λ text output asks drawn. (
      near,
      are_nearest g c drawn,
      delaunay_written _ _ points m numbers near output (c.whole_meshes_are_delaunay.ensures points numbers drawn.whole drawn.numbered)
          (asked _ _ (lines_of nearest_line near) c.args.arguments.now.output m numbers None (text asks.plain) output asks.asks.is asks.asks.listed),
    ))
    c.write_found.ensures.plain

pub returns-clause-constrained : goal.returns-clause-constrained
returns-clause-constrained g c =
    on_ok_weaker c.write_found.result
    (λ text output asks drawn vertices. (c.deref.result.now, are_nearest g c drawn, text output asks c.args.task.now.points.items drawn vertices))
    c.write_found.ensures.constrained

pub returns-clause-inside : goal.returns-clause-inside
returns-clause-inside g c =
    on_ok_weaker c.write_found.result
    (λ text output asks drawn vertices. (c.deref.result.now, are_nearest g c drawn, text output asks c.args.task.now.points.items drawn vertices))
    c.write_found.ensures.inside
