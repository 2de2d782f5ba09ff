-- Edits that keep a line straight.
use Rattle.std.proofs.Common.{◌≡◌, ◌∙◌, ℕ, ◌/◌, ◌<◌, List, [], ◌∷◌, sym, ap, subst, arith, pos, ◌<ℤ◌}
use Rattle.std.proofs.lemmas.List.{length-map, length-set}
use Rattle.dcel_fixed.specs.HalfEdges.{rev}
use Rattle.dcel_maps.specs.Conditions.{IsBridge, IsLineEnd}
use Rattle.dcel_maps.specs.edits.Create.{IsNew, first_edge_added, vertex_appended}
use Rattle.dcel_maps.specs.edits.Line.{line_extended}
use Rattle.dcel_maps.specs.edits.Split.{edge_split_on_line}
use Rattle.dcel_maps.specs.Removals.{Closed, gives_up_edge, gives_up_face}
use Rattle.dcel_maps.specs.Shapes.{IsLive, IsMesh, Mesh, Shape, end_of, face_count, face_of, map_of, origin_of}
use Rattle.dcel_maps.proofs.Liveness.{closed-vertex_live, is_live-parts, vertex_live-parts}
use Rattle.dcel_maps.proofs.maps.Soundness.{rev_live}
use Rattle.dcel_maps.proofs.shapes.Maps.{map-sound}
use Rattle.dcel_predicates.specs.declared.point.Point.{Point}
use Rattle.dcel_predicates.specs.Determinants.{orient2d_of}
use Rattle.dcel_plane.specs.Plane.{point_at}
use Rattle.dcel_plane.proofs.edits.Moved.{appended_stands, others_stand}
use Rattle.dcel_plane.specs.covering.Covering.{dot}
use Rattle.dcel_planar.specs.Turning.{AreCircled, IsTurnedTo}
use Rattle.dcel_legalize.specs.Flipping.{edges_flipped}
use Rattle.dcel_plane.specs.hull.Straight.{IsStraight, dot_of_steps}
use Rattle.dcel_plane.proofs.hull.FirstEdge.{first_straight}
use Rattle.dcel_plane.proofs.hull.LineExtended.{extended_straight, split_straight}
use Rattle.dcel_plane.specs.location.Locating.{LiesBeyond, LiesOn}
use Rattle.dcel_planar.specs.Growing.{IsFlat}
use Rattle.dcel_planar.specs.Places.{HasPoint}
use Rattle.dcel_planar.proofs.Appended.{appended_straight}
use Rattle.dcel_planar.proofs.Elsewhere.{said_after}
use Rattle.dcel_planar.proofs.OnEdges.{has_point}

module _ {V DE UE F : Type 0} (m : Mesh V DE UE F) (mesh : IsMesh m) (one : face_count m.shape ≡ 1) where
  -- on a mesh with one face all half edges are on it
  pub alone_outer : (h : ℕ) → IsLive m.shape h → face_of m.shape h ≡ 0
  alone_outer h live = let below = (map-sound mesh.sound).below_faces h live in omega (arith, below, one)

  pub alone_bridge : (h : ℕ) → IsLive m.shape h → IsBridge m.shape h
  alone_bridge h live = record { live = live; one_face = alone_outer h live ∙ sym (alone_outer (rev h) (rev_live (map_of m.shape) h live)) }

-- where no edge is, no half edge is live, and nothing is asked of a line
no_half : (s : Shape) → s.edges ≡ 0 → (h : ℕ) → IsLive s h → ⊥
no_half s none h live = let below = (is_live-parts (gives_up_edge s.removal) s.edges (h / 2) live).0 in omega (arith, below, none)

bare_straight : (at : ℕ → Point) (s : Shape) → s.edges ≡ 0 → IsStraight at s
bare_straight at s none = record {
  distinct = λ h k live. absurd (no_half s none h live);
  line = λ h k live. absurd (no_half s none h live);
  between = λ h k live. absurd (no_half s none h live);
  once = λ h k live. absurd (no_half s none h live);
  onward = λ h k live. absurd (no_half s none h live);
}

-- a new mesh is flat
pub new_flat : {DE UE F : Type 0} (is_face : F → Type 0) (m : Mesh Point DE UE F) → IsNew is_face m → IsFlat m
new_flat {DE} {UE} {F} is_face m new =
    let shape = ap (λ (k : Mesh Point DE UE F). k.shape) new.is in
    record { alone = ap face_count shape; straight = bare_straight (point_at m) m.shape (ap (λ (s : Shape). s.edges) shape) }

module _ {DE UE F : Type 0} where
  -- on a line no edge is flipped
  turned_flat : (m : Mesh Point DE UE F) (us : List ℕ) → AreCircled m us → IsFlat m → IsFlat (edges_flipped m us)
  turned_flat m [] circled flat = flat
  turned_flat m (u ∷ us) ((inner, circled), rest) flat =
      let below = (is_live-parts (gives_up_face m.shape.removal) (face_count m.shape) _ inner.triangle.live).0 in
      absurd (omega (arith, below, inner.inner, flat.alone))

  pub flips_flat : (m n : Mesh Point DE UE F) → IsTurnedTo m n → IsFlat m → IsFlat n
  flips_flat m n turned flat =
      subst (λ (k : Mesh Point DE UE F). IsFlat k) (sym turned.is) (turned_flat m turned.turned turned.circled flat)

module _ {DE UE F : Type 0} (m : Mesh Point DE UE F) (mesh : IsMesh m) (p : Point) (flat : IsFlat m) where
  abbrev n : Mesh Point DE UE F
  n = vertex_appended m p

  abbrev v : ℕ
  v = m.shape.vertices

  -- a vertex appended and connected: by the first edge
  pub first_flat : (a : ℕ) → a < m.shape.vertices → ¬ HasPoint m p a → (h : List DE) (e : List UE) → IsFlat (first_edge_added n a v h e)
  first_flat a below other h e = record {
    alone = length-set m.shape.words 0 _ ∙ flat.alone;
    straight = first_straight n (point_at n) a v h e (λ x y.
        let old = others_stand m mesh p a below in
        let new = appended_stands m mesh p in
        other (has_point m mesh p a below (
          ap (λ (q : Point). q.x) old ∙ x ∙ ap (λ (q : Point). q.x) new,
          ap (λ (q : Point). q.y) old ∙ y ∙ ap (λ (q : Point). q.y) new,
        )));
  }

  -- between the ends of an edge
  pub line_split_flat : IsMesh n → (x : ℕ) → IsLive m.shape x → LiesOn (point_at m) m.shape p x → (h : List DE) (e : List UE) → IsMesh (edge_split_on_line n x v h e)
      → IsFlat (edge_split_on_line n x v h e)
  line_split_flat after x live lies h e done = record {
    alone = length-map m.shape.words _ ∙ flat.alone;
    straight =
        split_straight n after (point_at n) (appended_straight m mesh p flat.straight) x v live
        (said_after m mesh p (λ a b c. orient2d_of a b c ≡ pos 0) x live lies.on)
        (said_after m mesh p (λ a b c. dot a b c <ℤ pos 0) x live lies.between) h e done;
  }

  end_after : m.shape.removal ≡ Closed → (end : ℕ) → IsLineEnd m.shape end → IsLineEnd n.shape end
  end_after closed end line =
      let below = (vertex_live-parts m.shape end line.live).0 in
      let (k, only) = line.one in
      record {
        live = closed-vertex_live n.shape closed end (omega (arith, below));
        one = (k, record { edge = record { live = only.edge.live; start = only.edge.start }; only = only.only });
      }

  -- beyond an end
  pub extended_flat : m.shape.removal ≡ Closed → IsMesh n → (end : ℕ) → IsLineEnd m.shape end
      → (x : ℕ) × IsLive m.shape x × (end_of m.shape x ≡ end) × LiesBeyond (point_at m) m.shape p x
      → (h : List DE) (e : List UE) → IsMesh (line_extended n end v h e) → IsFlat (line_extended n end v h e)
  extended_flat closed after end line (x, live, ends_there, lies) h e done = record {
    alone = length-map m.shape.words _ ∙ flat.alone;
    straight =
        extended_straight n after (point_at n) (appended_straight m mesh p flat.straight) end v x (end_after closed end line) live ends_there
        (subst (λ (k : ℕ). orient2d_of (point_at n (origin_of m.shape x)) (point_at n k) (point_at n v) ≡ pos 0) ends_there
        (said_after m mesh p (λ a b c. orient2d_of a b c ≡ pos 0) x live lies.on))
        (subst (λ (k : ℕ). pos 0 <ℤ dot_of_steps (point_at n (origin_of m.shape x)) (point_at n k) (point_at n v)) ends_there
        (said_after m mesh p (λ a b c. pos 0 <ℤ dot_of_steps a b c) x live lies.past)) h e done;
  }
