-- Where a line is extended beyond its end, and where a vertex is put between the ends of one of its edges, it stays straight.
use Rattle.std.proofs.Common.{◌≡◌, ◌≢◌, inl, inr, ℕ, zero, suc, ◌+◌, ◌*◌, ◌/◌, ◌<◌, List, [], ◌∷◌, length, slice_index, slice_set, refl, sym, ap, ◌∙◌, subst, pos, ◌+ℤ◌, ◌<ℤ◌, arith}
use Rattle.std.proofs.lemmas.Bool.{cases_eq}
use Rattle.std.proofs.lemmas.List.{get_or-append-add, get_or-set_other, get_or-set_same, get_or_append_left, length-set}
use Rattle.dcel_fixed.specs.HalfEdges.{rev}
use Rattle.dcel_fixed.proofs.Halves.{rev-double, rev-double-suc, rev-rev}
use Rattle.dcel_predicates.specs.Determinants.{orient2d_of}
use Rattle.dcel_predicates.specs.declared.point.Point.{Point}
use Rattle.dcel_predicates.proofs.Ring.{by_terms, minus, plus, times as by}
use Rattle.dcel_predicates.proofs.Signs.{ordered}
use Rattle.dcel_predicates.proofs.Terms.{spot}
use Rattle.dcel_maps.specs.Conditions.{IsLineEnd}
use Rattle.dcel_maps.specs.Removals.{gives_up_edge}
use Rattle.dcel_maps.specs.Shapes.{IsLive, IsMesh, Mesh, Shape, end_of, map_of, origin_of}
use Rattle.dcel_maps.specs.edits.Line.{line_extended}
use Rattle.dcel_maps.specs.edits.Split.{edge_split_on_line}
use Rattle.dcel_maps.proofs.Liveness.{gives_up_edge-past, is_live-from}
use Rattle.dcel_maps.proofs.maps.Soundness.{rev_live}
use Rattle.dcel_maps.proofs.walks.Links.{half-below}
use Rattle.dcel_plane.proofs.covering.Along.{dot_start, long}
use Rattle.dcel_plane.proofs.covering.Inside.{on_start}
use Rattle.dcel_plane.specs.covering.Covering.{dot}
use Rattle.dcel_plane.specs.hull.Straight.{IsStraight, dot_of_steps}
use Rattle.dcel_plane.proofs.hull.Becomes.{old_or_new, still_live}
use Rattle.dcel_plane.proofs.hull.Extending.{extended_order}
use Rattle.dcel_plane.proofs.hull.OneLine.{inside_of, order_of, straight_of}
use Rattle.dcel_plane.proofs.hull.Parting.{split_order}

-- how far along the line from a to b a point beyond b lies, and one between them
beyond-is : (a b c : Point) → dot c b a ≡ dot_of_steps a b c +ℤ dot b b a
beyond-is a b c =
    by_terms (a.x ∷ a.y ∷ b.x ∷ b.y ∷ c.x ∷ c.y ∷ [])
    (plus (by (minus (spot 2).x (spot 0).x) (minus (spot 1).x (spot 0).x)) (by (minus (spot 2).y (spot 0).y) (minus (spot 1).y (spot 0).y)))
    (plus (plus (by (minus (spot 1).x (spot 0).x) (minus (spot 2).x (spot 1).x)) (by (minus (spot 1).y (spot 0).y) (minus (spot 2).y (spot 1).y)))
    (plus (by (minus (spot 1).x (spot 0).x) (minus (spot 1).x (spot 0).x)) (by (minus (spot 1).y (spot 0).y) (minus (spot 1).y (spot 0).y)))) refl

module _ {V DE UE F : Type 0} (m : Mesh V DE UE F) (mesh : IsMesh m) (at : ℕ → Point) (straight : IsStraight at m.shape) where
  abbrev s : Shape
  s = m.shape

  turned : (h : ℕ) → IsLive s h → IsLive s (rev h)
  turned h live = rev_live (map_of s) h live

  -- a half edge has a length
  far_along : (h : ℕ) → IsLive s h → pos 0 <ℤ dot (at (end_of s h)) (at (end_of s h)) (at (origin_of s h))
  far_along h live = long (at (end_of s h)) (at (origin_of s h)) (λ ex ey. mesh.sound.two_ends h live (sym (straight.distinct (rev h) h (turned h live) live ex ey)))

  module _ (end tip h : ℕ) (is_end : IsLineEnd m.shape end) (live : IsLive m.shape h) (ends_h : end_of m.shape h ≡ end)
      (on_tip : orient2d_of (at (origin_of m.shape h)) (at end) (at tip) ≡ pos 0) (past : pos 0 <ℤ dot_of_steps (at (origin_of m.shape h)) (at end) (at tip))
      (halves : List DE) (edges : List UE) where
    abbrev r : Shape
    r = (line_extended m end tip halves edges).shape

    abbrev n : ℕ
    n = 2 * m.shape.edges

    abbrev b : Point
    b = at (origin_of s h)

    old : (k : ℕ) → IsLive s k → origin_of r k ≡ origin_of s k
    old k live_k = get_or_append_left s.origins (tip ∷ end ∷ []) 0 k (let o = mesh.sized.origins in let f = half-below s k live_k in omega (arith, o, f))

    starts_n : origin_of r n ≡ tip
    starts_n =
        ap (slice_index r.origins) (let o = mesh.sized.origins in let i : n ≡ length s.origins + 0 = omega (arith, o) in i)
        ∙ get_or-append-add s.origins (tip ∷ end ∷ []) 0 0

    starts_1 : origin_of r (n + 1) ≡ end
    starts_1 =
        ap (slice_index r.origins) (let o = mesh.sized.origins in let i : n + 1 ≡ length s.origins + 1 = omega (arith, o) in i)
        ∙ get_or-append-add s.origins (tip ∷ end ∷ []) 1 0

    ends_n : end_of r n ≡ end
    ends_n = ap (origin_of r) (rev-double s.edges) ∙ starts_1

    ends_1 : end_of r (n + 1) ≡ tip
    ends_1 = ap (origin_of r) (rev-double-suc s.edges) ∙ starts_n

    live_r : (k : ℕ) → IsLive s k → IsLive r k
    live_r k live_k = still_live s r 1 refl refl k live_k

    ends : (P : ℕ → ℕ → ℕ → Type 0) → ((k : ℕ) → IsLive s k → P k (origin_of s k) (end_of s k)) → P n tip end → P (n + 1) end tip
        → (k : ℕ) → IsLive r k → P k (origin_of r k) (end_of r k)
    ends P was at_n at_1 k live_k = elim (old_or_new s r 1 refl refl k live_k) [
      | inl was_k ↦
          subst (λ (y : ℕ). P k (origin_of r k) y) (sym (old (rev k) (turned k was_k)))
          (subst (λ (x : ℕ). P k x (end_of s k)) (sym (old k was_k)) (was k was_k))
      | inr new ↦ of_new k new.0 new.1 new.2
    ]
      where
        of_new : (k i : ℕ) → k ≡ 2 * s.edges + i → i < 2 → P k (origin_of r k) (end_of r k)
        of_new k zero is few =
            let even : n ≡ k = omega (arith, is) in
            subst (λ (j : ℕ). P j (origin_of r j) (end_of r j)) even
            (subst (λ (y : ℕ). P n (origin_of r n) y) (sym ends_n) (subst (λ (x : ℕ). P n x end) (sym starts_n) at_n))
        of_new k (suc zero) is few =
            subst (λ (j : ℕ). P j (origin_of r j) (end_of r j)) (sym is)
            (subst (λ (y : ℕ). P (n + 1) (origin_of r (n + 1)) y) (sym ends_1) (subst (λ (x : ℕ). P (n + 1) x tip) (sym starts_1) at_1))
        of_new k (suc (suc i)) is few = absurd (omega (arith, few))

    on_line : (k : ℕ) → IsLive s k → orient2d_of b (at end) (at (origin_of s k)) ≡ pos 0
    on_line k live_k = subst (λ (v : ℕ). orient2d_of b (at v) (at (origin_of s k)) ≡ pos 0) ends_h (straight.line h k live live_k)

    far : pos 0 <ℤ dot (at end) (at end) b
    far = subst (λ (v : ℕ). pos 0 <ℤ dot (at v) (at v) b) ends_h (far_along h live)

    only : (k : ℕ) → IsLive s k → origin_of s k ≡ end → k ≡ rev h
    only k live_k from = is_end.one.1.only k live_k from ∙ sym (is_end.one.1.only (rev h) (turned h live) ends_h)

    module _ (result : IsMesh (line_extended m end tip halves edges)) where
      on_line_r : (k : ℕ) → IsLive r k → orient2d_of b (at end) (at (origin_of r k)) ≡ pos 0
      on_line_r =
          ends (λ k x y. orient2d_of b (at end) (at x) ≡ pos 0) on_line on_tip (on_start b (at end))

      live_1 : IsLive r (n + 1)
      live_1 =
          is_live-from (gives_up_edge s.removal) (s.edges + 1) ((n + 1) / 2) (omega arith)
          (gives_up_edge-past mesh.sized.within ((n + 1) / 2) (omega arith))

      pub extended_straight : IsStraight at r
      extended_straight =
          straight_of r at b (at end) far (λ k live_k. rev_live (map_of r) k live_k) on_line_r
          (extended_order (λ v. dot (at v) (at end) b) s r (order_of s at b (at end) far turned on_line straight) turned end tip (n + 1) n live_r ends
          old (λ k live_k. old (rev k) (turned k live_k)) live_1 starts_1 ends_1 (rev h) (turned h live) ends_h only
          (let z = dot_start (at end) b in
          subst (λ (k : ℕ). dot (at (origin_of s k)) (at end) b <ℤ dot (at end) (at end) b) (sym (rev-rev h)) (omega (arith, ordered, z, far)))
          (let e = beyond-is b (at end) (at tip) in omega (arith, ordered, e, past)))

  module _ (e v : ℕ) (live : IsLive m.shape e) (on_v : orient2d_of (at (origin_of m.shape e)) (at (end_of m.shape e)) (at v) ≡ pos 0)
      (inside : dot (at (origin_of m.shape e)) (at (end_of m.shape e)) (at v) <ℤ pos 0) (halves : List DE) (edges : List UE) where
    abbrev q : Shape
    q = (edge_split_on_line m e v halves edges).shape

    abbrev l : ℕ
    l = 2 * m.shape.edges

    abbrev a : Point
    a = at (origin_of s e)

    abbrev c : Point
    c = at (end_of s e)

    live_t : IsLive s (rev e)
    live_t = turned e live

    not_t : e ≢ rev e
    not_t is = mesh.sound.two_ends e live (ap (origin_of s) is)

    many : length (slice_set s.origins (rev e) v) ≡ 2 * s.edges
    many = length-set s.origins (rev e) v ∙ mesh.sized.origins

    kept : (k : ℕ) → IsLive s k → origin_of q k ≡ slice_index (slice_set s.origins (rev e) v) k
    kept k live_k = get_or_append_left (slice_set s.origins (rev e) v) (v ∷ end_of s e ∷ []) 0 k (let o = many in let f = half-below s k live_k in omega (arith, o, f))

    stays : (k : ℕ) → IsLive s k → k ≢ rev e → origin_of q k ≡ origin_of s k
    stays k live_k off = kept k live_k ∙ get_or-set_other s.origins (rev e) k v 0 off

    starts_t : origin_of q (rev e) ≡ v
    starts_t = kept (rev e) live_t ∙ get_or-set_same s.origins (rev e) v 0 (let o = mesh.sized.origins in let f = half-below s (rev e) live_t in omega (arith, o, f))

    starts_l : origin_of q l ≡ v
    starts_l =
        ap (slice_index q.origins) (let o = many in let i : l ≡ length (slice_set s.origins (rev e) v) + 0 = omega (arith, o) in i)
        ∙ get_or-append-add (slice_set s.origins (rev e) v) (v ∷ end_of s e ∷ []) 0 0

    starts_l1 : origin_of q (l + 1) ≡ end_of s e
    starts_l1 =
        ap (slice_index q.origins) (let o = many in let i : l + 1 ≡ length (slice_set s.origins (rev e) v) + 1 = omega (arith, o) in i)
        ∙ get_or-append-add (slice_set s.origins (rev e) v) (v ∷ end_of s e ∷ []) 1 0

    ends_l : end_of q l ≡ end_of s e
    ends_l = ap (origin_of q) (rev-double s.edges) ∙ starts_l1

    ends_l1 : end_of q (l + 1) ≡ v
    ends_l1 = ap (origin_of q) (rev-double-suc s.edges) ∙ starts_l

    starts_e : origin_of q e ≡ origin_of s e
    starts_e = stays e live not_t

    ends_t : end_of q (rev e) ≡ origin_of s e
    ends_t = ap (origin_of q) (rev-rev e) ∙ starts_e

    -- other half edges
    rev_off : (k : ℕ) → k ≢ e → rev k ≢ rev e
    rev_off k off is = off (sym (rev-rev k) ∙ ap rev is ∙ rev-rev e)

    live_q : (k : ℕ) → IsLive s k → IsLive q k
    live_q k live_k = still_live s q 1 refl refl k live_k

    fresh : (i : ℕ) → i < 2 → IsLive q (l + i)
    fresh i few =
        is_live-from (gives_up_edge s.removal) (s.edges + 1) ((l + i) / 2) (omega (arith, few)) (gives_up_edge-past mesh.sized.within ((l + i) / 2) (omega arith))

    parts : (P : ℕ → ℕ → ℕ → Type 0) → ((k : ℕ) → IsLive s k → k ≢ e → k ≢ rev e → P k (origin_of s k) (end_of s k)) → P e (origin_of s e) v → P (rev e) v (origin_of s e)
        → P l v (end_of s e) → P (l + 1) (end_of s e) v → (k : ℕ) → IsLive q k → P k (origin_of q k) (end_of q k)
    parts P was at_e at_t at_l at_l1 k live_k = elim (old_or_new s q 1 refl refl k live_k) [
      | inr new ↦ of_new k new.0 new.1 new.2
      | inl was_k ↦ elim (cases_eq k e) [
        | inl is ↦ moved k e (origin_of s e) v is starts_e starts_t at_e
        | inr off ↦ elim (cases_eq k (rev e)) [
          | inl is ↦ moved k (rev e) v (origin_of s e) is starts_t ends_t at_t
          | inr off_t ↦
              moved k k (origin_of s k) (end_of s k) refl (stays k was_k off_t) (stays (rev k) (turned k was_k) (rev_off k off)) (was k was_k off off_t)
        ]
      ]
    ]
      where
        moved : (k j x y : ℕ) → k ≡ j → origin_of q j ≡ x → end_of q j ≡ y → P j x y → P k (origin_of q k) (end_of q k)
        moved k j x y is from to holds =
            subst (λ (i : ℕ). P i (origin_of q i) (end_of q i)) (sym is)
            (subst (λ (z : ℕ). P j (origin_of q j) z) (sym to) (subst (λ (z : ℕ). P j z y) (sym from) holds))

        of_new : (k i : ℕ) → k ≡ 2 * s.edges + i → i < 2 → P k (origin_of q k) (end_of q k)
        of_new k zero is few = moved k l v (end_of s e) (omega (arith, is)) starts_l ends_l at_l
        of_new k (suc zero) is few = moved k (l + 1) (end_of s e) v is starts_l1 ends_l1 at_l1
        of_new k (suc (suc i)) is few = absurd (omega (arith, few))

    far_e : pos 0 <ℤ dot c c a
    far_e = far_along e live

    -- v lies between the ends
    above : pos 0 <ℤ dot (at v) c a
    above = (inside_of a c (at v) far_e on_v inside).0

    below : dot (at v) c a <ℤ dot c c a
    below = (inside_of a c (at v) far_e on_v inside).1

    module _ (result : IsMesh (edge_split_on_line m e v halves edges)) where
      on_line_q : (k : ℕ) → IsLive q k → orient2d_of a c (at (origin_of q k)) ≡ pos 0
      on_line_q =
          parts (λ k x y. orient2d_of a c (at x) ≡ pos 0) (λ k live_k off off_t. straight.line e k live live_k)
          (straight.line e e live live) on_v on_v (straight.line e (rev e) live live_t)

      pub split_straight : IsStraight at q
      split_straight =
          straight_of q at a c far_e (λ k live_k. rev_live (map_of q) k live_k) on_line_q
          (split_order (λ u. dot (at u) c a) s q (order_of s at a c far_e turned (λ k live_k. straight.line e k live live_k) straight) turned
          e (rev e) l (l + 1) (origin_of s e) (end_of s e) v live live_t refl refl refl (ap (origin_of s) (rev-rev e)) live_q parts
          (λ k live_k off off_t. stays k live_k off_t) (λ k live_k off off_t. stays (rev k) (turned k live_k) (rev_off k off))
          (starts_e, starts_t) (starts_t, ends_t) (subst (λ (k : ℕ). IsLive q k) (let z : l + 0 ≡ l = omega arith in z) (fresh 0 (omega arith))) (starts_l, ends_l)
          (fresh 1 (omega arith)) (starts_l1, ends_l1) (let z = dot_start c a in omega (arith, ordered, z, above)) below)
