-- The lists of the edits that make a mesh, or leave it empty.
use Rattle.std.proofs.Common.{◌≡◌, ◌≢◌, ◌<◌, ℕ, List, [], ◌∷◌, length, refl, arith}
use Rattle.std.proofs.lemmas.Bool.{false≢true}
use Rattle.dcel_fixed.specs.HalfEdges.{rev}
use Rattle.dcel_maps.specs.EditLists.{EditedBy, MadeBy, nothing}
use Rattle.dcel_maps.specs.EditLists.EditKind.{ear_cut, emptied, first_edge, spur_added}
use Rattle.dcel_maps.specs.Elementary.{FirstEdge}
use Rattle.dcel_maps.specs.Removals.{Closed, gives_up_edge}
use Rattle.dcel_maps.specs.Shapes.{Mesh, map_of}
use Rattle.dcel_maps.specs.Words.{face_in, next_in, prev_in}
use Rattle.dcel_maps.specs.edits.Create.{IsNew, first_edge_alone, outer_alone}
use Rattle.dcel_maps.specs.edits.DefaultData.{AddsEdgesAndFaces}
use Rattle.dcel_maps.specs.edits.Triangle.{triangle_alone}
use Rattle.dcel_maps.specs.edits.Whole.{cleared}
use Rattle.dcel_maps.proofs.Liveness.{is_live-past}
use Rattle.dcel_maps.proofs.edits.FirstTriangle.{first_triangle, first_triangle_is_edit, first_triangle_made}
use Rattle.dcel_maps.proofs.edits.Alone.{alone_is_mesh}
use Rattle.dcel_maps.proofs.lists.Made.{changed_by, so}
use Rattle.dcel_maps.proofs.maps.Lists.{comes_once}

abbrev Bare : Type 0
Bare = Mesh (Unit {0}) (Unit {0}) (Unit {0}) (Unit {0})

-- three vertices with their triangle, and no data
abbrev none : Unit {0}
none = tt

abbrev no_halves : List (Unit {0})
no_halves = none ∷ none ∷ none ∷ none ∷ none ∷ none ∷ []

abbrev no_edges : List (Unit {0})
no_edges = none ∷ none ∷ none ∷ []

abbrev bare_triangle : Bare
bare_triangle = triangle_alone (none, none, none) no_halves no_edges (none ∷ none ∷ [])

bare_triangle-made : MadeBy (first_edge ∷ spur_added ∷ ear_cut ∷ []) bare_triangle
bare_triangle-made =
    changed_by (outer_alone none) (first_triangle (none, none, none) no_halves no_edges none) (first_edge ∷ spur_added ∷ ear_cut ∷ []) nothing bare_triangle
    (alone_is_mesh none) (first_triangle_is_edit (none, none, none) no_halves no_edges none none refl refl) refl
    (first_triangle_made (none, none, none) no_halves no_edges none none)

module _ {V DE UE F : Type 0} {is_face : F → Type 0} (t : Mesh V DE UE F) where
  pub new_listed : IsNew is_face t → MadeBy [] t
  new_listed new = so [] nothing t (outer_alone new.datum) new.is record {
    vertices = omega arith;
    edges = omega arith;
    faces = omega arith;
    edge = λ u. is_live-past (gives_up_edge Closed) 0 u (omega arith);
    links = record {
      next = λ x live. absurd (false≢true live);
      prev = λ x live. absurd (false≢true live);
      origin = λ x live. absurd (false≢true live);
      face = λ x live. absurd (false≢true live);
    };
  }

  module _ {is_half : DE → Type 0} {is_edge : UE → Type 0} where
    pub fixed_listed : (vertices : List V) (a b : ℕ) → AddsEdgesAndFaces is_half is_edge is_face 1 1 t (first_edge_alone vertices a b)
        → a < length vertices → b < length vertices → a ≢ b → MadeBy (first_edge ∷ []) t
    unfolding rev next_in prev_in face_in gives_up_edge
    fixed_listed vertices a b adds a_in b_in apart =
        let alone = first_edge_alone vertices a b adds.directed_data adds.undirected_data adds.face_data in
        let first : FirstEdge (map_of alone.shape) 0 a b = record {
          edge_here = refl;
          edge_other = λ u differs. is_live-past (gives_up_edge Closed) 1 u (omega (arith, differs));
          next_h = refl;
          next_rev = refl;
          prev_h = refl;
          prev_rev = refl;
          origin_h = refl;
          origin_rev = refl;
          apart = apart;
          face_h = refl;
          face_rev = refl;
          edge_below = omega arith;
          below_a = a_in;
          below_b = b_in;
          below_0 = omega arith;
        } in
        so (first_edge ∷ []) nothing t alone adds.is (comes_once first_edge nothing (map_of alone.shape) (0, a, b, λ u. refl, first))

    -- the map is the same whatever the data are
    pub triangle_listed : (vertices : V × V × V) → AddsEdgesAndFaces is_half is_edge is_face 3 2 t (triangle_alone vertices)
        → MadeBy (first_edge ∷ spur_added ∷ ear_cut ∷ []) t
    triangle_listed vertices adds =
        so (first_edge ∷ spur_added ∷ ear_cut ∷ []) nothing t (triangle_alone vertices adds.directed_data adds.undirected_data adds.face_data) adds.is
        bare_triangle-made

pub clear_listed : {V DE UE F : Type 0} (m t : Mesh V DE UE F) → t ≡ cleared m → EditedBy (emptied ∷ []) m t
clear_listed m t is =
    so (emptied ∷ []) (map_of m.shape) t (cleared m) is
    (comes_once emptied (map_of m.shape) (map_of (cleared m).shape) (λ u. is_live-past (gives_up_edge Closed) 0 u (omega arith)))
