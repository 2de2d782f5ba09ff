-- Which way a vertex can be removed, and what that leaves of a simple mesh.
use Rattle.std.proofs.Common.{◌≡◌, ◌≢◌, ◌∙◌, inl, inr, ℕ, ◌/◌, ◌<◌, ◌≤◌, ◌==◌, length, sym, ap, subst, arith}
use Rattle.std.proofs.lemmas.Bool.{cases_eq, cond_both}
use Rattle.dcel_convenience.specs.Anywhere.{IsFirstToCollapse, IsLastEdge, MayNotLeave, Removes, reason_of}
use Rattle.dcel_convenience.specs.Collapsing.{MayNotCollapse}
use Rattle.dcel_convenience.specs.declared.collapsing.WhyNotCollapsed.{WhyNotCollapsed}
use Rattle.dcel_convenience.specs.declared.collapsing.WhyNotCollapsed.TheVariants as collapsing
use Rattle.dcel_convenience.specs.Removing.{Returns, TakesOut, border_from}
use Rattle.dcel_convenience.specs.declared.anywhere.WayOut.TheVariants.{Inside}
use Rattle.dcel_convenience.specs.Simple.{IsSimple}
use Rattle.dcel_convenience.specs.Surrounding.{IsOnBorder}
use Rattle.dcel_convenience.proofs.StaysSimple.{renamed_simple}
use Rattle.dcel_maps.specs.Conditions.{IsUnconnected}
use Rattle.dcel_maps.specs.Removals.{Closed, gives_up_edge}
use Rattle.dcel_maps.specs.Renumbering.{edge_taken_out, vertex_taken_out}
use Rattle.dcel_maps.specs.Shapes.{IsMesh, IsSound, Mesh, Shape, face_of, next_of, origin_of}
use Rattle.dcel_maps.specs.Strips.{IsStripAround}
use Rattle.dcel_maps.specs.Walking.{IsOutEdge}
use Rattle.dcel_maps.specs.Words.{word_of}
use Rattle.dcel_maps.specs.edits.Degenerate.{going, path_given_up, removed_degenerate}
use Rattle.dcel_maps.proofs.Liveness.{closed-vertex_live, is_live-parts}
use Rattle.dcel_maps.proofs.maps.Halves.{rev_or_same}
use Rattle.dcel_maps.proofs.removal.StripSectors.{long_iff}
use Rattle.dcel_maps.proofs.renumbering.Vertices.{can_swap_remove-out, vertex-renamed}
use Rattle.spade_dcel.specs.declared.operations.results.RemovalResult.{RemovalResult}

-- a vertex that no edge meets
pub unconnected : (s : Shape) (v : ℕ) → s.removal ≡ Closed → v < s.vertices → ((h : ℕ) → ¬ IsOutEdge s v h) → IsUnconnected s v
unconnected s v closed below none = record {
  live = closed-vertex_live s closed v below;
  bare = λ h live start. none h (record { live = live; start = start });
}

module _ (s : Shape) (sound : IsSound s) (v h : ℕ) (border : IsOnBorder s v h) where
  outer_long : (2 < length (word_of s.words 0)) → next_of s (next_of s h) ≢ h
  outer_long long = (long_iff s sound h border.out.live).0 (subst (λ f. 2 < length (word_of s.words f)) (sym border.outer) long)

  -- on the border, where the outer face is long enough
  pub border_strip : next_of s (next_of s h) ≢ h → IsStripAround s v h
  border_strip goes_on = record {
    out = border.out;
    outer = border.outer;
    only = λ x out outside. elim (cases_eq x h) [
      | inl is ↦ is
      | inr other ↦ absurd (let inner = (border.others x out other).inner in omega (arith, inner, outside))
    ];
    triangles = λ x out inside. (border.others x out (λ is. inside (ap (face_of s) is ∙ border.outer))).triangle.three;
    long = subst (λ f. 2 < length (word_of s.words f)) border.outer ((long_iff s sound h border.out.live).1 goes_on);
  }

  -- and where it isn't
  pub border_short : next_of s (next_of s h) ≡ h → ¬ (2 < length (word_of s.words 0))
  border_short back long = outer_long long back

-- a mesh of one edge is simple
pub one_edge_simple : (s : Shape) → IsSound s → s.edges ≤ 1 → IsSimple s
one_edge_simple s sound few h k h_live k_live start end =
    let h_below = (is_live-parts (gives_up_edge s.removal) s.edges (h / 2) h_live).0 in
    let k_below = (is_live-parts (gives_up_edge s.removal) s.edges (k / 2) k_live).0 in
    elim (rev_or_same h k (omega (arith, h_below, k_below, few))) [
      | inl is ↦ is
      | inr is ↦ absurd (sound.two_ends k k_live (sym start ∙ ap (origin_of s) is))
    ]

module _ {V DE UE F : Type 0} where
  few_left : (m : Mesh V DE UE F) (v : ℕ) → m.shape.edges ≡ 1 → (removed_degenerate m v).shape.edges ≤ 1
  few_left m v one =
      cond_both (m.shape.vertices == 1) (vertex_taken_out m v) (vertex_taken_out (edge_taken_out (path_given_up m v) (going m v / 2)) v)
      (λ (t : Mesh V DE UE F). t.shape.edges ≤ 1) (λ alone. omega (arith, one)) (λ more. omega (arith, one))

  pub last_edge_simple : (old new : Mesh V DE UE F) (v : ℕ) → IsLastEdge old.shape v → new ≡ removed_degenerate old v → IsMesh new → IsSimple new.shape
  last_edge_simple old new v last is mesh =
      one_edge_simple new.shape mesh.sound (subst (λ (m : Mesh V DE UE F). m.shape.edges ≤ 1) (sym is) (few_left old v last.alone))

  pub alone_simple : (old new : Mesh V DE UE F) (v : ℕ) → IsMesh old → old.shape.removal ≡ Closed → IsUnconnected old.shape v → new ≡ vertex_taken_out old v
      → IsSimple old.shape → IsSimple new.shape
  alone_simple old new v mesh closed bare is simple =
      subst (λ (m : Mesh V DE UE F). IsSimple m.shape) (sym is)
      (renamed_simple old.shape (vertex_taken_out old v).shape _ _ _ _ _ _ (vertex-renamed old.shape v mesh.sound (can_swap_remove-out old mesh v (inl (closed, bare)))) simple)

  -- where an edge that can be collapsed is not, the vertex is not removed for the same reason
  pub inside_refused : (m : Mesh V DE UE F) (v h : ℕ) (why : WhyNotCollapsed) → IsFirstToCollapse m v h → MayNotCollapse m.shape h why → MayNotLeave m v (reason_of why)
  inside_refused m v h collapsing.RemovalOpen first opened = absurd (opened first.can.closed)
  inside_refused m v h collapsing.NotInside first outside = absurd (outside.1 first.can.disc)
  inside_refused m v h collapsing.SecondEdge first second = absurd (second.2 first.can.link)
  inside_refused m v h collapsing.NoRoom first full = (h, first, full.1)
  inside_refused m v h collapsing.OutOfMemory first short = (Inside h, first, short.1)

  -- and with it the vertex is removed
  pub inside_removed : (is_half : DE → Type 0) (is_edge : UE → Type 0) (is_face : F → Type 0) (old new : Mesh V DE UE F) (v h : ℕ) (taken : RemovalResult V)
      → IsFirstToCollapse old v h → TakesOut is_half is_edge is_face (border_from old.shape h) old new (origin_of old.shape h)
      → (IsSimple old.shape → IsSimple new.shape) → Returns old (origin_of old.shape h) taken → Removes is_half is_edge is_face old new v taken
  inside_removed is_half is_edge is_face old new v h taken first took simple returned = record {
    way = Inside h;
    leaves = first;
    is = subst (λ w. TakesOut is_half is_edge is_face (border_from old.shape h) old new w) first.out.start took;
    simple = simple;
    returned = subst (λ w. Returns old w taken) first.out.start returned;
  }
