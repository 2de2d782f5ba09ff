-- What the program is asked for, and what it writes then.
use Rattle.std.specs.Prelude.{◌≡◌, ◌≢◌, ◌⊎◌, ◌++◌, ℕ, List, [], Option, None, Some, map}
use Rattle.std.specs.Io.KnownBytes.{Appends}
use Rattle.dcel_predicates.specs.declared.point.Point.{Point}
use Rattle.dcel_maps.specs.Shapes.{Mesh}
use Rattle.dcel_regions.specs.declared.mark.Mark.{Mark}
use Rattle.dcel_constrained.specs.declared.load.Segment.{Segment}
use Rattle.dcel_planar.specs.Outcomes.{IsWholeMesh}
use Rattle.dcel_delaunay.specs.Bulk.{AnswersEach}
use Rattle.dcel_delaunay.specs.Triangles.{AreDelaunayTriangles}
use Rattle.dcel_delaunay.specs.Triangulated.{mesh_in}
use Rattle.dcel_delaunay.specs.declared.triangles.triangle.Triangle.{Triangle}
use Rattle.dcel_output.specs.Constraining.{AreConstrainedTriangles, StandsThere}
use Rattle.dcel_output.specs.Lines.{lines_of, nearest_line, triangle_line}
use Rattle.dcel_output.specs.Numbering.{IsNearestPoint, NumbersVertices}
use Rattle.dcel_output.specs.Outlining.{ListsInside}
use Rattle.dcel_output.specs.Whole.{IsDelaunayMesh}
use Rattle.delaunay.specs.Segments.{segment_of, segments_of}
use Rattle.delaunay.specs.Texts.{AreBeside, IsListed, text_of}
use Rattle.delaunay.specs.declared.arguments.Arguments.{Arguments}
use Rattle.delaunay.specs.declared.arguments.Output.{Output}
use Rattle.delaunay.specs.declared.arguments.Output.TheVariants.{Triangles}
use Rattle.delaunay.specs.declared.drawn.Drawn.{Drawn}
use Rattle.delaunay.specs.declared.task.Task.{Task}
use Rattle.delaunay.specs.declared.view.Inside.{Inside}

-- all points stay, and no edge has to
pub record ChangesNothing (a : Arguments) : Type 0 where
  pub remove : a.remove ≡ None
  pub constraints : a.constraints ≡ None
  pub outline : a.outline ≡ None

-- the triangles are asked for, and nothing else is to be written
pub record AsksForTriangles (a : Arguments) : Type 0 where
  pub output : a.output ≡ Some Triangles
  pub nearest : a.nearest ≡ None
  pub plain : ChangesNothing a

-- nearest points are
pub record AsksForNearest (a : Arguments) : Type 0 where
  pub output : a.output ≡ None
  pub nearest : a.nearest ≢ None
  pub plain : ChangesNothing a

-- some edges have to stay
abbrev pub HasConstraints : Arguments → Type 0
HasConstraints a = (a.constraints ≢ None) ⊎ (a.outline ≢ None)

-- a listed output is asked for
pub record AsksFor (a : Arguments) (output : Output) : Type 0 where
  pub is : a.output ≡ Some output
  pub listed : IsListed output

-- one of a plain triangulation is: all points stay, and no edge has to
pub record AsksForPlain (a : Arguments) (output : Output) : Type 0 where
  pub asks : AsksFor a output
  pub plain : ChangesNothing a

-- one of a constrained triangulation is: all points stay, and edges have to
pub record AsksForConstrained (a : Arguments) (output : Output) : Type 0 where
  pub asks : AsksFor a output
  pub remove : a.remove ≡ None
  pub constraints : a.constraints ≢ None
  pub outline : a.outline ≡ None

-- one of what is inside an outline is
pub record AsksForInside (a : Arguments) (output : Output) : Type 0 where
  pub asks : AsksFor a output
  pub remove : a.remove ≡ None
  pub outline : a.outline ≢ None

-- the lines of the triangles of a Delaunay triangulation of the points, behind what was written
abbrev pub WritesTriangles : List Point → Option (List ℕ) → Option (List ℕ) → Type 0
WritesTriangles points old new = (triangles : List Triangle) × AreDelaunayTriangles points triangles × Appends old new (lines_of triangle_line triangles)

-- the text of an output of a Delaunay triangulation of the points
pub record TellsDelaunay (points : List Point) (output : Output) (text : List ℕ) : Type 0 where
  pub mesh : Mesh Point (Unit {0}) (Unit {0}) (Unit {0})
  pub numbers : List ℕ
  pub are : IsDelaunayMesh points mesh numbers
  pub lines : text ≡ text_of output mesh numbers None

-- of a constrained Delaunay triangulation of the points, whose marked edges are those of the segments
pub record TellsConstrained (points : List Point) (segments : List Segment) (output : Output) (text : List ℕ) : Type 0 where
  pub mesh : Mesh Point (Unit {0}) Mark (Unit {0})
  pub vertices : List (Option ℕ)
  pub numbers : List ℕ
  pub are : AreConstrainedTriangles points vertices segments mesh numbers
  pub lines : text ≡ text_of output mesh numbers None

-- of what is inside an outline with these sides alone
pub record TellsInside (points : List Point) (segments sides : List Segment) (output : Output) (text : List ℕ) : Type 0 where
  pub mesh : Mesh Point (Unit {0}) Mark (Unit {0})
  pub vertices : List (Option ℕ)
  pub numbers : List ℕ
  pub are : AreConstrainedTriangles points vertices segments mesh numbers
  pub inside : Inside
  pub triangles : ListsInside mesh vertices sides inside.triangles.items
  pub edges : AreBeside mesh inside
  pub lines : text ≡ text_of output mesh numbers (Some inside)

-- such a text and a rest behind it, behind what was written
abbrev pub WritesBefore : (List ℕ → Type 0) → List ℕ → Option (List ℕ) → Option (List ℕ) → Type 0
WritesBefore Tells rest old new = (text : List ℕ) × Tells text × Appends old new (text ++ rest)

-- the numbers of points that are nearest to the places, if these are asked for
pub record AreNearest (a : Arguments) (points places : List Point) (nearest : List (Option ℕ)) : Type 0 where
  pub unasked : a.nearest ≡ None → nearest ≡ []
  pub each : a.nearest ≢ None → AnswersEach (IsNearestPoint points) places nearest

-- such a text, and below it lines of nearest points if these are asked for
abbrev pub Writes : (List ℕ → Type 0) → Arguments → (points places : List Point) → Option (List ℕ) → Option (List ℕ) → Type 0
Writes Tells a points places old new = (nearest : List (Option ℕ)) × AreNearest a points places nearest × WritesBefore Tells (lines_of nearest_line nearest) old new

-- for each place the line of a point that is nearest to it
abbrev pub WritesNearest : List Point → List Point → Option (List ℕ) → Option (List ℕ) → Type 0
WritesNearest points places old new = (nearest : List (Option ℕ)) × AnswersEach (IsNearestPoint points) places nearest × Appends old new (lines_of nearest_line nearest)

-- what is asked for of a task, behind what was written: triangles alone, nearest points alone, or an output of a plain
-- triangulation, of a constrained one, or of what is inside an outline
pub record AnswersTask (a : Arguments) (t : Task) (old new : Option (List ℕ)) : Type 0 where
  pub triangles : AsksForTriangles a → WritesTriangles t.points.items old new
  pub nearest : AsksForNearest a → WritesNearest t.points.items t.places.items old new
  pub plain : (output : Output) → AsksForPlain a output → Writes (TellsDelaunay t.points.items output) a t.points.items t.places.items old new
  pub constrained : (output : Output) → AsksForConstrained a output
      → Writes (TellsConstrained t.points.items (segments_of t.constraints.items t.outline.items) output) a t.points.items t.places.items old new
  pub inside : (output : Output) → AsksForInside a output
      → Writes (TellsInside t.points.items (segments_of t.constraints.items t.outline.items) (map segment_of t.outline.items) output) a t.points.items t.places.items old new

-- the vertex of each point
abbrev pub HasVertices : List Point → Drawn → Type 0
HasVertices points d = AnswersEach (StandsThere (mesh_in d.triangulation)) points d.names.vertices.items

-- a whole triangulation of the points, by their numbers
pub record IsDrawn (points : List Point) (d : Drawn) : Type 0 where
  pub whole : IsWholeMesh d.triangulation.planar
  pub numbered : NumbersVertices (mesh_in d.triangulation) points d.names.numbers.items
