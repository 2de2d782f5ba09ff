-- The text of an output: the lines that a mesh with numbers at its vertices has for it.
use Rattle.std.specs.Prelude.{◌≡◌, ℕ, List, [], Option, None, Some, map}
use Rattle.std.specs.List.{zip}
use Rattle.dcel_maps.specs.Numbers.{numbers_between}
use Rattle.dcel_maps.specs.Shapes.{Mesh}
use Rattle.dcel_delaunay.specs.Lists.{across_of, inner_faces}
use Rattle.dcel_delaunay.specs.declared.lists.Across.{Across}
use Rattle.dcel_delaunay.specs.declared.lists.Ends.{Ends}
use Rattle.dcel_output.specs.Keeping.{across_among, is_beside, kept}
use Rattle.dcel_output.specs.Lines.{edge_line, lines_of, neighbor_line, triangle_line, vertex_line}
use Rattle.dcel_output.specs.Numbering.{edges_numbered, hull_numbered, triangles_numbered}
use Rattle.delaunay.specs.declared.arguments.Output.{Output}
use Rattle.delaunay.specs.declared.arguments.Output.TheVariants.{Edges, Hull, Neighbors, Triangles}
use Rattle.delaunay.specs.declared.view.Inside.{Inside}

-- the triangles that are shown: all, or those inside an outline
abbrev pub shown : {T : Type 0} → Option Inside → List T → List T
shown None items = items
shown (Some inside) items = kept inside.triangles.items items

-- the edges that are shown: all, or those with such a triangle on a side
abbrev pub shown_edges : Option Inside → List Ends → List Ends
shown_edges None edges = edges
shown_edges (Some inside) edges = kept inside.edges.items edges

-- what is across from the corners of the triangles that are shown, by the places of these in their list
abbrev pub shown_across : Option Inside → List Across → List Across
shown_across None all = all
shown_across (Some inside) all = map (across_among inside.triangles.items) (kept inside.triangles.items all)

-- the outputs whose text is stated below
abbrev pub IsListed : Output → Type 0
IsListed Triangles = Unit {0}
IsListed Edges = Unit {0}
IsListed Hull = Unit {0}
IsListed Neighbors = Unit {0}
IsListed _ = ⊥

module _ {V DE UE F : Type 0} where
  -- those edges are inside that have a triangle on a side that is
  abbrev pub AreBeside : Mesh V DE UE F → Inside → Type 0
  AreBeside m inside = inside.edges.items ≡ map (is_beside m.shape inside.triangles.items) (numbers_between 0 m.shape.edges)

  -- what is across from the corners of each inner face, one after another
  abbrev pub across_each : Mesh V DE UE F → List Across
  across_each m = map (across_of m) (inner_faces m.shape)

  -- the text of a listed output: a line for each triangle, edge, or vertex of the hull, or for what is across from a triangle's corners
  abbrev pub text_of : Output → Mesh V DE UE F → List ℕ → Option Inside → List ℕ
  text_of Triangles m numbers inside = lines_of triangle_line (shown inside (triangles_numbered m numbers))
  text_of Edges m numbers inside = lines_of edge_line (shown_edges inside (edges_numbered m numbers))
  text_of Hull m numbers inside = lines_of vertex_line (hull_numbered m numbers)
  text_of Neighbors m numbers inside = lines_of neighbor_line (zip (shown inside (triangles_numbered m numbers)) (shown_across inside (across_each m)))
  text_of _ m numbers inside = []

  -- the text of what is asked for, if it is an output
  abbrev pub text_asked : Option Output → Mesh V DE UE F → List ℕ → Option Inside → List ℕ
  text_asked None m numbers inside = []
  text_asked (Some output) m numbers inside = text_of output m numbers inside

-- it is none, or a listed one
abbrev pub IsStated : Option Output → Type 0
IsStated None = Unit {0}
IsStated (Some output) = IsListed output
