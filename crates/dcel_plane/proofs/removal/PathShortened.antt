-- `remove_when_degenerate` keeps a line straight.
use Rattle.std.proofs.Common.{◌≡◌, ◌≢◌, inl, inr, ℕ, ◌-◌, ◌*◌, ◌/◌, ◌<◌, true, eq-eqb, sym, ap, ◌∙◌, arith}
use Rattle.std.proofs.lemmas.Bool.{both_ways, cases_eq}
use Rattle.std.proofs.lemmas.List.{get_or-set_other, get_or-set_same}
use Rattle.dcel_predicates.specs.declared.point.Point.{Point}
use Rattle.dcel_maps.specs.Degenerate.{CanRemoveDegenerate, IsPath}
use Rattle.dcel_maps.specs.edits.Degenerate.{going, path_given_up, removed_degenerate}
use Rattle.dcel_maps.specs.Removals.{gives_up_vertex}
use Rattle.dcel_maps.specs.Renumbered.{new_half}
use Rattle.dcel_maps.specs.Renumbering.{moved}
use Rattle.dcel_maps.specs.Shapes.{IsLive, IsMesh, Mesh, Shape, edge_is_live, end_of, map_of, origin_of, out_edge_of, vertex_is_live}
use Rattle.dcel_maps.specs.Walking.{IsOutEdge}
use Rattle.dcel_maps.proofs.Liveness.{vertex_live-parts}
use Rattle.dcel_maps.proofs.maps.Halves.{rev_half, rev_or_same}
use Rattle.dcel_maps.proofs.maps.Soundness.{rev_live}
use Rattle.dcel_maps.proofs.removal.DegenerateLeft.{path_leaves_live}
use Rattle.dcel_maps.proofs.removal.DegenerateMeshes.{PathGone, path_gone, path_out}
use Rattle.dcel_maps.proofs.removal.PathCuts.{edge_gone, edge_kept, gives_one_vertex, origin-after}
use Rattle.dcel_maps.proofs.removal.Paths.{only_two, out_b}
use Rattle.dcel_maps.proofs.shapes.Maps.{map-sound}
use Rattle.dcel_plane.specs.hull.Straight.{IsStraight}
use Rattle.dcel_plane.proofs.removal.Renumbering.{one_half, renumbered_straight}
use Rattle.dcel_plane.proofs.removal.Shortened.{IsShortened, shortened_straight}

-- where no vertex is, nothing is asked
pub empty_straight : (at : ℕ → Point) (s : Shape) → ((h : ℕ) → IsLive s h → ⊥) → IsStraight at s
empty_straight at s none = record {
  distinct = λ h k live. absurd (none h live);
  line = λ h k live. absurd (none h live);
  between = λ h k live. absurd (none h live);
  once = λ h k live. absurd (none h live);
  onward = λ h k live. absurd (none h live);
}

module _ {V DE UE F : Type 0} (m : Mesh V DE UE F) (mesh : IsMesh m) (v : ℕ) (can : CanRemoveDegenerate m.shape v) where
  module _ (path : IsPath m.shape) (some : m.shape.vertices ≢ 1) where
    abbrev s : Shape
    s = m.shape

    abbrev a : ℕ
    a = out_edge_of m v

    abbrev b : ℕ
    b = going m v

    abbrev g : Shape
    g = (path_given_up m v).shape

    gone : PathGone m v mesh can path
    gone = path_gone m v mesh can path some

    out_a : IsOutEdge m.shape v (out_edge_of m v)
    out_a = path_out m v mesh can path

    from_b : IsOutEdge m.shape v (going m v)
    from_b = out_b m.shape mesh.sound mesh.sphere path v a can.within out_a

    other_edge : (x : ℕ) → IsLive g x → x / 2 ≢ b / 2
    other_edge x live same =
        both_ways (edge_is_live g (x / 2)) (ap (edge_is_live g) same ∙ edge_gone m.shape v a b can.closed path.one_face) live

    start_same : (x : ℕ) → IsLive g x → x ≢ a → origin_of g x ≡ origin_of s x
    start_same x live other =
        origin-after m.shape v a b can.closed path.one_face x live ∙ get_or-set_other m.shape.origins a x (end_of m.shape b) 0 other

    start_moved : IsLive g a → origin_of g a ≡ end_of s b
    start_moved live =
        origin-after m.shape v a b can.closed path.one_face a live
        ∙ get_or-set_same m.shape.origins a (end_of m.shape b) 0
        (let below = (map-sound mesh.sound).below_edges a out_a.live in let long = mesh.sized.origins in within a (let s = m.shape in s.edges) _ below long)
      where
        within : (x e l : ℕ) → x / 2 < e → l ≡ 2 * e → x < l
        within x e l below long = omega (arith, below, long)

    pub shortened : IsShortened m.shape (path_given_up m v).shape (out_edge_of m v) (going m v)
    shortened = record {
      turned_before = λ x live. rev_live (map_of s) x live;
      two_ends = mesh.sound.two_ends;
      live_a = out_a.live;
      live_b = from_b.live;
      start_b = from_b.start ∙ sym out_a.start;
      only = λ x live start. only_two m.shape mesh.sound mesh.sphere path v a can.within out_a x (record { live = live; start = start ∙ out_a.start });
      turned = λ x live. rev_live (map_of g) x live;
      live = λ x live. sym (edge_kept m.shape v a b can.closed path.one_face (x / 2) (other_edge x live)) ∙ live;
      off = λ x live. (λ is. other_edge x live (ap (λ k. k / 2) is), λ is. other_edge x live (ap (λ k. k / 2) is ∙ rev_half b));
      kept = λ x live not_b not_rev.
          edge_kept m.shape v a b can.closed path.one_face (x / 2) (λ same. elim (rev_or_same x b same) [ inl is ↦ not_b is | inr is ↦ not_rev is ]) ∙ live;
      same = start_same;
      moved = start_moved;
    }

  -- the vertex that goes isn't live any more
  pub left_over : (w : ℕ) → vertex_is_live (path_given_up m v).shape w ≡ true → w ≢ v
  left_over w live is =
      both_ways (gives_up_vertex (path_given_up m v).shape.removal w) (vertex_live-parts (path_given_up m v).shape w live).1
      (gives_one_vertex (going m v / 2) v w ∙ eq-eqb v w (sym is))

  pub degenerate_straight : (at after : ℕ → Point) → IsMesh (removed_degenerate m v)
      → ((w : ℕ) → w < m.shape.vertices → w ≢ v → after (moved (m.shape.vertices - 1) v w) ≡ at w) → IsStraight at m.shape → IsStraight after (removed_degenerate m v).shape
  degenerate_straight at after result same straight = elim (cases_eq m.shape.vertices 1) [
    | inl one ↦
        empty_straight after (removed_degenerate m v).shape (λ h live.
        let below = (map-sound result.sound).below_vertices h live in
        let none : (removed_degenerate m v).shape.vertices ≡ 0 = rw (eq-eqb m.shape.vertices 1 one) (omega (arith, one)) in
        omega (arith, below, none))
    | inr some ↦
        let path : IsPath m.shape = elim can.shape [ inl one ↦ absurd (some one) | inr path ↦ path ] in
        let given = (gone path some).given_up in
        renumbered_straight (path_given_up m v) (removed_degenerate m v) given result (new_half (path_given_up m v).shape) (moved (m.shape.vertices - 1) v) (λ f. f)
        (path_leaves_live m v mesh can some) (one_half (path_given_up m v) given) (λ f live is. is) at after
        (λ w live. same w (vertex_live-parts (path_given_up m v).shape w live).0 (left_over w live))
        (shortened_straight at m.shape (path_given_up m v).shape (out_edge_of m v) (going m v) (shortened path some) straight)
  ]
