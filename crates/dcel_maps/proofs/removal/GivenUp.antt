-- Records that give up a vertex with its edges and the faces round it.
use Rattle.std.proofs.Common.{◌≡◌, ◌↔◌, ℕ, ◌/◌, ◌<◌, ◌≤◌, ◌==◌, true, List, sym, refl, ◌∙◌, subst, arith}
use Rattle.dcel_maps.specs.Borders.{GivesUpRound, IsEdgeAt, IsFaceAt}
use Rattle.dcel_maps.specs.Removals.{gives_up_edge, gives_up_face, gives_up_vertex, opened}
use Rattle.dcel_maps.specs.Shapes.{IsMesh, Mesh, Shape, face_of, vertex_is_live}
use Rattle.dcel_maps.specs.Walking.{IsOutEdge, ListsOnce, out_edges_of}
use Rattle.dcel_maps.specs.Words.{count_of}
use Rattle.dcel_maps.specs.edits.Fill.{edges_at, faces_at}
use Rattle.dcel_maps.proofs.Liveness.{vertex_live-parts}
use Rattle.dcel_maps.proofs.walks.Turning.{mesh-out_edges}
use Rattle.dcel_maps.proofs.words.Ascending.{any-ascending, goes_up-ascending}
use Rattle.dcel_maps.proofs.words.Mapped.{any_stands, count-mapped, mapped_from, stands_any}

-- the faces of an opened record are those of the list
pub opened_faces : (edges faces : List ℕ) (v f : ℕ) → (gives_up_face (opened edges faces v) f ≡ true) ↔ (0 < count_of f faces)
unfolding gives_up_face
opened_faces edges faces v f = (
  λ given. any_stands f faces (sym (any-ascending (λ g. g == f) faces) ∙ given),
  λ found. any-ascending (λ g. g == f) faces ∙ stands_any f faces found,
)

-- a list has the numbers with a property, and no others
pub record Lists (P : ℕ → Type 0) (w : List ℕ) : Type 0 where
  pub each : (n : ℕ) → P n → 0 < count_of n w
  pub no_other : (n : ℕ) → 0 < count_of n w → P n

pub once_lists : {P : ℕ → Type 0} {w : List ℕ} → ListsOnce P w → Lists P w
once_lists once = record { each = λ n has. let one = once.each n has in omega (arith, one); no_other = once.no_other }

pub opened-round : (s : Shape) (v : ℕ) (edges faces : List ℕ) → Lists (IsEdgeAt s v) edges → Lists (IsFaceAt s v) faces
    → ((u : ℕ) → count_of u edges ≤ 1) → ((f : ℕ) → count_of f faces ≤ 1) → GivesUpRound s v (opened edges faces v)
unfolding gives_up_vertex gives_up_edge gives_up_face
opened-round s v edges faces edges_are faces_are edges_once faces_once = record {
  vertices = λ w. refl;
  edges = λ u. (
    λ given. edges_are.no_other u (any_stands u edges (sym (any-ascending (λ e. e == u) edges) ∙ given)),
    λ at. any-ascending (λ e. e == u) edges ∙ stands_any u edges (edges_are.each u at),
  );
  faces = λ f. (
    λ given. faces_are.no_other f ((opened_faces edges faces v f).0 given),
    λ at. (opened_faces edges faces v f).1 (faces_are.each f at),
  );
  in_order = (goes_up-ascending edges edges_once, goes_up-ascending faces faces_once);
}

module _ {V DE UE F : Type 0} (m : Mesh V DE UE F) (mesh : IsMesh m) (v : ℕ) (live : vertex_is_live m.shape v ≡ true) where
  outs : ListsOnce (IsOutEdge m.shape v) (out_edges_of m v)
  outs = mesh-out_edges mesh v (vertex_live-parts m.shape v live).0

  out_found : (h : ℕ) → IsOutEdge m.shape v h → 0 < count_of h (out_edges_of m v)
  out_found h out = let one = outs.each h out in omega (arith, one)

  pub edges_at-lists : Lists (IsEdgeAt m.shape v) (edges_at m v)
  edges_at-lists = record {
    each = λ u at. subst (λ z. 0 < count_of z (edges_at m v)) at.is (count-mapped (λ h. h / 2) (out_edges_of m v) at.half (out_found at.half at.out));
    no_other = λ u found.
        let (h, there, is) = mapped_from (λ h. h / 2) (out_edges_of m v) u found in
        record { half = h; out = outs.no_other h there; is = is };
  }

  pub faces_at-lists : Lists (IsFaceAt m.shape v) (faces_at m v)
  faces_at-lists = record {
    each = λ f at. subst (λ z. 0 < count_of z (faces_at m v)) at.is (count-mapped (face_of m.shape) (out_edges_of m v) at.half (out_found at.half at.out));
    no_other = λ f found.
        let (h, there, is) = mapped_from (face_of m.shape) (out_edges_of m v) f found in
        record { half = h; out = outs.no_other h there; is = is };
  }

  -- the edges and faces in the order of the out edges are such
  pub at-round : ((u : ℕ) → count_of u (edges_at m v) ≤ 1) → ((f : ℕ) → count_of f (faces_at m v) ≤ 1)
      → GivesUpRound m.shape v (opened (edges_at m v) (faces_at m v) v)
  at-round = opened-round m.shape v (edges_at m v) (faces_at m v) edges_at-lists faces_at-lists
