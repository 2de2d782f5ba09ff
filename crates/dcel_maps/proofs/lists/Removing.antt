-- The lists of the edits that renumber, and of a vertex removed from a degenerate mesh.
use Rattle.std.proofs.Common.{◌≡◌, ◌≢◌, inl, inr, ◌*◌, ◌/◌, ◌<◌, ◌≤◌, ◌==◌, ℕ, nat_lt, cond, true, false, List, [], ◌∷◌, length, refl, sym, ap, ◌∙◌, subst, arith, eq-eqb, ltb-false}
use Rattle.std.proofs.lemmas.Bool.{cases_eq, cond_both, eqb-true, false_from_ne_true, false≢true, ltb-true, ne_eqb}
use Rattle.dcel_maps.specs.Conditions.{CanSwapRemove}
use Rattle.dcel_maps.specs.Walking.{IsOutEdge}
use Rattle.dcel_maps.specs.Degenerate.{CanRemoveDegenerate, IsPath}
use Rattle.dcel_maps.specs.EditLists.{ComesBy, EditKind, EditedBy, HasNoEdge, path_shortened, vertex_cut_off}
use Rattle.dcel_maps.specs.EditLists.EditKind.{edges_joined, emptied, numbers_changed, spur_dropped}
use Rattle.dcel_maps.specs.Removals.{Closed}
use Rattle.dcel_maps.specs.Renumbering.{cleaned_up, edge_taken_out, vertex_taken_out}
use Rattle.dcel_maps.specs.Shapes.{IsLive, IsMesh, IsSound, Mesh, edge_is_live, map_of, out_edge_of, vertex_is_live}
use Rattle.dcel_maps.specs.Strips.{IsEdgeStrip}
use Rattle.dcel_maps.specs.edits.Degenerate.{going, path_given_up, removed_degenerate}
use Rattle.dcel_maps.specs.edits.Rename.{vertices_swapped}
use Rattle.dcel_maps.specs.edits.Strip.{strip_cut}
use Rattle.dcel_maps.proofs.edits.Swaps.{swapped_made}
use Rattle.dcel_maps.proofs.lists.Made.{so}
use Rattle.dcel_maps.proofs.maps.Lists.{comes_once, comes_then, renumbered_once, second_once}
use Rattle.dcel_maps.proofs.removal.DegenerateMeshes.{PathGone, alone, path_gone, path_out}
use Rattle.dcel_maps.proofs.removal.PathEdits.{end_comes, none_live}
use Rattle.dcel_maps.proofs.removal.PathMiddles.{middle_comes}
use Rattle.dcel_maps.proofs.removal.StripMeshes.{strip_cut-comes}
use Rattle.dcel_maps.proofs.renumbering.Cleanup.{cleaned_up-renamed}
use Rattle.dcel_maps.proofs.renumbering.Edges.{edge-renamed}
use Rattle.dcel_maps.proofs.renumbering.Meshes.{edge_out-mesh}
use Rattle.dcel_maps.proofs.shapes.Maps.{map-sound}
use Rattle.dcel_maps.proofs.renumbering.Vertices.{IsOnlyOut, can_swap_remove-out, vertex-renamed}
use Rattle.dcel_maps.proofs.shapes.Renames.{renamed-comes, renamed-none}

module _ {V DE UE F : Type 0} (m : Mesh V DE UE F) (mesh : IsMesh m) (t : Mesh V DE UE F) where
  pub strip_listed : (list : List ℕ) → t ≡ strip_cut m list → m.shape.removal ≡ Closed → IsEdgeStrip m.shape list
      → EditedBy (vertex_cut_off (length list)) m t
  strip_listed list is closed strip =
      so (vertex_cut_off (length list)) (map_of m.shape) t (strip_cut m list) is (strip_cut-comes m list mesh closed strip)

  pub cleanup_listed : t ≡ cleaned_up m → EditedBy (numbers_changed ∷ []) m t
  cleanup_listed is =
      so (numbers_changed ∷ []) (map_of m.shape) t (cleaned_up m) is
      (renamed-comes m.shape (cleaned_up m).shape _ _ _ _ _ _ (cleaned_up-renamed m mesh) mesh.sound)

  pub remove_listed : (v : ℕ) → t ≡ vertex_taken_out m v → CanSwapRemove m.shape v → EditedBy (numbers_changed ∷ []) m t
  remove_listed v is can =
      so (numbers_changed ∷ []) (map_of m.shape) t (vertex_taken_out m v) is
      (renamed-comes m.shape (vertex_taken_out m v).shape _ _ _ _ _ _ (vertex-renamed m.shape v mesh.sound (can_swap_remove-out m mesh v can)) mesh.sound)

  pub swap_listed : (a b : ℕ) → t ≡ vertices_swapped m a b → vertex_is_live m.shape a ≡ true → vertex_is_live m.shape b ≡ true
      → EditedBy (numbers_changed ∷ []) m t
  swap_listed a b is a_live b_live =
      so (numbers_changed ∷ []) (map_of m.shape) t (vertices_swapped m a b) is (swapped_made m mesh a b a_live b_live)

module _ {V DE UE F : Type 0} (m : Mesh V DE UE F) (mesh : IsMesh m) (v : ℕ) (can : CanRemoveDegenerate m.shape v) where
  -- a vertex alone has no edge
  module _ (one : m.shape.vertices ≡ 1) where
    lone : IsOnlyOut m.shape v
    lone = alone m v mesh can one

    no_edge : (u : ℕ) → edge_is_live m.shape u ≡ false
    no_edge u = false_from_ne_true (edge_is_live m.shape u) (λ live.
        let half : 2 * u / 2 ≡ u = omega arith in
        let is_live : IsLive m.shape (2 * u) = ap (edge_is_live m.shape) half ∙ live in
        let below = (map-sound mesh.sound).below_vertices (2 * u) is_live in
        lone.bare (2 * u) is_live (omega (arith, below, one, can.within)))

    lone_goes : HasNoEdge (map_of (removed_degenerate m v).shape)
    lone_goes =
        rw (eq-eqb m.shape.vertices 1 one)
        ((renamed-none m.shape (vertex_taken_out m v).shape _ _ _ _ _ _ (vertex-renamed m.shape v mesh.sound lone) mesh.sound).0 no_edge)

  module _ (path : IsPath m.shape) (some : m.shape.vertices ≢ 1) where
    abbrev a : ℕ
    a = out_edge_of m v

    abbrev b : ℕ
    b = going m v

    abbrev N : Mesh V DE UE F
    N = path_given_up m v

    abbrev W : Mesh V DE UE F
    W = edge_taken_out (path_given_up m v) (going m v / 2)

    abbrev X : Mesh V DE UE F
    X = vertex_taken_out (edge_taken_out (path_given_up m v) (going m v / 2)) v

    gone : PathGone m v mesh can path
    gone = path_gone m v mesh can path some

    out : IsOutEdge m.shape v (out_edge_of m v)
    out = path_out m v mesh can path

    given_up : IsSound N.shape
    given_up = gone.given_up.sound

    without : IsSound W.shape
    without = (edge_out-mesh (path_given_up m v) (going m v / 2) gone.given_up gone.edge).sound

    written : removed_degenerate m v ≡ X
    written = rw (ne_eqb m.shape.vertices 1 some) refl

    -- the edge is taken out, and the vertex
    numbered : ComesBy (numbers_changed ∷ []) (map_of N.shape) (map_of X.shape)
    numbered =
        renumbered_once [] (map_of N.shape) (map_of X.shape)
        (comes_then (numbers_changed ∷ []) (numbers_changed ∷ []) (map_of N.shape) (map_of W.shape) (map_of X.shape)
        (renamed-comes N.shape W.shape _ _ _ _ _ _ (edge-renamed N.shape (going m v / 2) given_up gone.edge) given_up)
        (renamed-comes W.shape X.shape _ _ _ _ _ _ (vertex-renamed W.shape v without gone.vertex) without))

    -- from two vertices
    two_go : m.shape.vertices ≡ 2 → HasNoEdge (map_of (removed_degenerate m v).shape)
    two_go few =
        subst (λ (t : Mesh V DE UE F). HasNoEdge (map_of t.shape)) (sym written)
        ((renamed-none W.shape X.shape _ _ _ _ _ _ (vertex-renamed W.shape v without gone.vertex) without).0
        ((renamed-none N.shape W.shape _ _ _ _ _ _ (edge-renamed N.shape (going m v / 2) given_up gone.edge) given_up).0
        (none_live m.shape mesh.sound mesh.sphere path can.closed mesh.sized.origins v a can.within out few)))

    end_goes : 2 < m.shape.vertices → a ≡ b → EditedBy (spur_dropped ∷ numbers_changed ∷ []) m (removed_degenerate m v)
    end_goes many one =
        subst (λ t. EditedBy (spur_dropped ∷ numbers_changed ∷ []) m t) (sym written)
        (second_once spur_dropped [] (map_of m.shape) (map_of X.shape)
        (comes_then (spur_dropped ∷ numbers_changed ∷ []) (numbers_changed ∷ []) (map_of m.shape) (map_of N.shape) (map_of X.shape)
        (end_comes m.shape mesh.sound mesh.sphere path can.closed mesh.sized.origins v a can.within out many one) numbered))

    middle_goes : 2 < m.shape.vertices → a ≢ b → EditedBy (edges_joined ∷ numbers_changed ∷ []) m (removed_degenerate m v)
    middle_goes many other =
        subst (λ t. EditedBy (edges_joined ∷ numbers_changed ∷ []) m t) (sym written)
        (comes_then (edges_joined ∷ []) (numbers_changed ∷ []) (map_of m.shape) (map_of N.shape) (map_of X.shape)
        (middle_comes m.shape mesh.sound mesh.sphere path can.closed mesh.sized.origins v a can.within out many other) numbered)

    many_go : 2 < m.shape.vertices → EditedBy (cond (a == b) spur_dropped edges_joined ∷ numbers_changed ∷ []) m (removed_degenerate m v)
    many_go many =
        cond_both (a == b) spur_dropped edges_joined (λ (kind : EditKind). EditedBy (kind ∷ numbers_changed ∷ []) m (removed_degenerate m v))
        (λ same. end_goes many (eqb-true a b same)) (λ other. middle_goes many (λ same. false≢true (sym other ∙ eq-eqb a b same)))

  path_of : m.shape.vertices ≢ 1 → IsPath m.shape
  path_of some = elim can.shape [ inl one ↦ absurd (some one) | inr path ↦ path ]

  few_go : m.shape.vertices ≤ 2 → HasNoEdge (map_of (removed_degenerate m v).shape)
  few_go few = elim (cases_eq m.shape.vertices 1) [
    | inl one ↦ lone_goes one
    | inr some ↦ two_go (path_of some) some (omega (arith, few, some, can.within))
  ]

  pub degenerate_listed : (t : Mesh V DE UE F) → t ≡ removed_degenerate m v → EditedBy (path_shortened m v) m t
  degenerate_listed t is =
      so (path_shortened m v) (map_of m.shape) t (removed_degenerate m v) is
      (cond_both (nat_lt 2 m.shape.vertices) (cond (out_edge_of m v == going m v) spur_dropped edges_joined ∷ numbers_changed ∷ []) (emptied ∷ [])
      (λ (kinds : List EditKind). EditedBy kinds m (removed_degenerate m v))
      (λ more.
      let many = ltb-true 2 m.shape.vertices more in
      let some : m.shape.vertices ≢ 1 = λ one. omega (arith, many, one) in
      many_go (path_of some) some many)
      (λ few.
      comes_once emptied (map_of m.shape) (map_of (removed_degenerate m v).shape) (few_go (ltb-false 2 m.shape.vertices few))))
