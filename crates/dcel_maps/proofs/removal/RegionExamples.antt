-- The triangle and the triangle with a vertex inside, of which examples are made, are meshes.
use Rattle.std.proofs.Common.{ℕ, List, [], ◌∷◌, refl, subst, arith}
use Rattle.dcel_maps.specs.Conditions.{IsTriangle, IsUnconnected}
use Rattle.dcel_maps.specs.edits.Create.{outer_alone, vertex_appended}
use Rattle.dcel_maps.specs.Examples.{inside_triangle}
use Rattle.dcel_maps.specs.Removals.{gives_up_face, gives_up_vertex}
use Rattle.dcel_maps.specs.Shapes.{IsMesh, Mesh}
use Rattle.dcel_maps.specs.StripExamples.{one_triangle}
use Rattle.dcel_maps.proofs.edits.Alone.{alone_is_mesh}
use Rattle.dcel_maps.proofs.edits.Appending.{appending, appending_is_edit}
use Rattle.dcel_maps.proofs.edits.Changes.{edit_makes_mesh}
use Rattle.dcel_maps.proofs.edits.FirstTriangle.{first_triangle, first_triangle_is_edit}
use Rattle.dcel_maps.proofs.edits.Inserts.{inserted, inserted_is, inserted_is_edit}
use Rattle.dcel_maps.proofs.shapes.Maps.{map-sound}

abbrev halves : List ℕ
halves = 0 ∷ 1 ∷ 2 ∷ 3 ∷ 4 ∷ 5 ∷ []

abbrev edges : List ℕ
edges = 0 ∷ 1 ∷ 2 ∷ []

pub one_triangle-mesh : IsMesh one_triangle
one_triangle-mesh =
    edit_makes_mesh (outer_alone 0) (first_triangle (0, 1, 2) halves edges 1) (alone_is_mesh 0)
    (first_triangle_is_edit (0, 1, 2) halves edges 0 1 refl refl)

abbrev with_vertex : Mesh ℕ ℕ ℕ ℕ
with_vertex = vertex_appended one_triangle 3

with_vertex-mesh : IsMesh with_vertex
with_vertex-mesh =
    edit_makes_mesh one_triangle (appending (3 ∷ [])) one_triangle-mesh
    (appending_is_edit one_triangle (3 ∷ []) one_triangle-mesh (record { for_vertices = omega arith; for_edges = omega arith; for_faces = omega arith }))

triangle_inside : IsTriangle with_vertex.shape 1
unfolding gives_up_face
triangle_inside = record { live = refl; three = refl }

vertex_free : IsUnconnected with_vertex.shape 3
unfolding gives_up_vertex
vertex_free = record {
  live = refl;
  bare = λ h live at. let below = (map-sound one_triangle-mesh.sound).below_vertices h live in omega (arith, below, at);
}

abbrev new_halves : List ℕ
new_halves = 6 ∷ 7 ∷ 8 ∷ 9 ∷ 10 ∷ 11 ∷ []

pub inside_triangle-mesh : IsMesh inside_triangle
inside_triangle-mesh =
    subst (IsMesh {V = ℕ} {DE = ℕ} {UE = ℕ} {F = ℕ})
    (inserted_is with_vertex with_vertex-mesh 1 1 triangle_inside refl 3 new_halves (3 ∷ 4 ∷ 5 ∷ []) (2 ∷ 3 ∷ []))
    (edit_makes_mesh with_vertex (inserted with_vertex with_vertex-mesh 1 1 triangle_inside refl 3 new_halves (3 ∷ 4 ∷ 5 ∷ []) (2 ∷ 3 ∷ []))
    with_vertex-mesh
    (inserted_is_edit with_vertex with_vertex-mesh 1 1 triangle_inside refl 3 new_halves (3 ∷ 4 ∷ 5 ∷ []) (2 ∷ 3 ∷ []) vertex_free
    (record { for_vertices = omega arith; for_edges = omega arith; for_faces = omega arith }) refl refl refl))
