-- A vertex put into an edge leaves no other one in a circle.
use Rattle.std.proofs.Common.{◌≡◌, ◌≢◌, ◌⊎◌, inl, inr, ℕ, zero, suc, ◌+◌, ◌*◌, ◌<◌, List, slice_index, refl, sym, ap, ◌∙◌, subst, pos, ◌<ℤ◌, ◌≤ℤ◌, arith}
use Rattle.std.proofs.lemmas.Bool.{cases_eq}
use Rattle.dcel_fixed.proofs.Halves.{rev-ne, rev-rev}
use Rattle.dcel_predicates.specs.declared.point.Point.{Point}
use Rattle.dcel_predicates.specs.Determinants.{orient2d_of, incircle_of}
use Rattle.dcel_predicates.proofs.Points.{incircle-turned, orient2d-first_swapped}
use Rattle.dcel_predicates.proofs.Signs.{ordered}
use Rattle.dcel_maps.specs.Around.{around}
use Rattle.dcel_maps.specs.Conditions.{IsTriangle}
use Rattle.dcel_maps.specs.edits.Split.{edge_split, half_edge_split}
use Rattle.dcel_maps.specs.Shapes.{IsLive, IsMesh, Mesh, Shape, end_of, face_of, map_of, origin_of}
use Rattle.dcel_maps.proofs.maps.Soundness.{rev_live}
use Rattle.dcel_maps.proofs.maps.Triangles.{IsTriangleOf, facing_differ}
use Rattle.dcel_maps.proofs.shapes.Maps.{map-sound}
use Rattle.dcel_plane.specs.Plane.{TrianglesTurnLeft, LiesAcross, TurnsLeft}
use Rattle.dcel_plane.proofs.edits.Corners.{left_of_triangle, left_turned, same}
use Rattle.dcel_plane.proofs.edits.Splits.{half_more, half_old, half_origins, half_start, half_words, half_written, seen_after, seen_before, side_triangle, split_more, split_old, split_origins, split_start, split_words, split_written}
use Rattle.dcel_plane.specs.star.Star.{IsEmptyAt, IsEmptyRound, HasEmptyCirclesBut}
use Rattle.dcel_plane.proofs.star.Pencils.{inside_its_circle, positive_is}
use Rattle.dcel_plane.proofs.star.Turning.{at_least, at_triangle, empty_nested, round_turned}
use Rattle.dcel_plane.proofs.hull.Becomes.{old_or_new}
use Rattle.dcel_plane.proofs.hull.Keeping.{StartsOldOr}
use Rattle.dcel_plane.proofs.star.Grown.{empty_more, tip_round, written_star}

-- one side of the edge: v lies on it or on the left, and on the left of the other two sides of its triangle
module _ {V DE UE F : Type 0} (m : Mesh V DE UE F) (mesh : IsMesh m) (at : ℕ → Point) (plane : TrianglesTurnLeft at m.shape) (v e : ℕ) (star : HasEmptyCirclesBut at m.shape v)
    (live : IsLive m.shape e) (triangle : IsTriangle m.shape (face_of m.shape e)) (inner : 0 < face_of m.shape e) (across : LiesAcross at m.shape e (at v))
    (on : pos 0 ≤ℤ orient2d_of (at (origin_of m.shape e)) (at (end_of m.shape e)) (at v)) where
  open (around m.shape e) use {f, before, after}

  abbrev p : ℕ → Point
  p h = at (origin_of m.shape h)

  tri : IsTriangleOf (map_of m.shape) f e after before
  tri = side_triangle m mesh at (at v) e live triangle

  whole : TurnsLeft (p e) (p after) (p before)
  whole = left_of_triangle at m.shape mesh.sound plane f e after before inner tri

  by_after : TurnsLeft (p after) (p before) (at v)
  by_after = seen_after m mesh at (at v) e live triangle across

  by_before : TurnsLeft (p before) (p e) (at v)
  by_before = seen_before m mesh at (at v) e live triangle across

  on_side : pos 0 ≤ℤ orient2d_of (p e) (p after) (at v)
  on_side =
      let ends : end_of m.shape e ≡ origin_of m.shape after = sym (mesh.sound.joined e live) ∙ ap (origin_of m.shape) tri.next_x in
      subst (λ (k : ℕ). pos 0 ≤ℤ orient2d_of (p e) (at k) (at v)) ends on

  inside : pos 0 <ℤ incircle_of (p e) (p after) (p before) (at v)
  inside = inside_its_circle (p e) (p after) (p before) (at v) on_side by_after by_before

  inside_next : pos 0 <ℤ incircle_of (p after) (p before) (p e) (at v)
  inside_next = positive_is (sym (incircle-turned (p e) (p after) (p before) (at v))) inside

  inside_last : pos 0 <ℤ incircle_of (p before) (p e) (p after) (at v)
  inside_last = positive_is (sym (incircle-turned (p after) (p before) (p e) (at v))) inside_next

  round : IsEmptyRound at m.shape v e after before
  round = at_triangle m.shape (IsEmptyRound at m.shape v) (round_turned at m.shape v) mesh.sound star.empty f e after before inner tri

  pub after_empty : IsEmptyAt at m.shape v (origin_of m.shape after) (origin_of m.shape before) v
  after_empty =
      empty_nested at m.shape v (origin_of m.shape after) (origin_of m.shape before) (origin_of m.shape e) v
      (left_turned (p e) (p after) (p before) whole) by_after inside_next round.1

  pub before_empty : IsEmptyAt at m.shape v (origin_of m.shape before) (origin_of m.shape e) v
  before_empty =
      empty_nested at m.shape v (origin_of m.shape before) (origin_of m.shape e) (origin_of m.shape after) v
      (left_turned (p after) (p before) (p e) (left_turned (p e) (p after) (p before) whole)) by_before inside_last round.2

-- a point on the line from a to b is on the line from b to a
on_both : (a b q : Point) → orient2d_of a b q ≡ pos 0 → pos 0 ≤ℤ orient2d_of b a q
on_both a b q on = let o = orient2d-first_swapped a b q in omega (arith, ordered, o, on)

on_one : (a b q : Point) → orient2d_of a b q ≡ pos 0 → pos 0 ≤ℤ orient2d_of a b q
on_one a b q on = omega (arith, ordered, on)

module _ {V DE UE F : Type 0} (m : Mesh V DE UE F) (mesh : IsMesh m) (at : ℕ → Point) (plane : TrianglesTurnLeft at m.shape) (v e : ℕ) (star : HasEmptyCirclesBut at m.shape v)
    (live : IsLive m.shape e) (triangle : IsTriangle m.shape (face_of m.shape e)) (inner : 0 < face_of m.shape e) (across : LiesAcross at m.shape e (at v))
    (on : orient2d_of (at (origin_of m.shape e)) (at (end_of m.shape e)) (at v) ≡ pos 0) (halves : List DE) (edges : List UE) (faces : List F) where
  open (around m.shape e) use {n, l, t, f, g, before as ep, after as en, t_before as tp, t_after as tn, end}

  abbrev s : Shape
  s = m.shape

  live_t : IsLive s t
  live_t = rev_live (map_of s) e live

  near : IsTriangleOf (map_of s) f e en ep
  near = side_triangle m mesh at (at v) e live triangle

  near_on : pos 0 ≤ℤ orient2d_of (at (origin_of s e)) (at (end_of s e)) (at v)
  near_on = on_one (at (origin_of s e)) (at (end_of s e)) (at v) on

  -- between two triangles
  module _ (facing : IsTriangle s g) (inner_facing : 0 < g) (across_t : LiesAcross at s t (at v)) where
    abbrev r : Shape
    r = (edge_split m e v halves edges faces).shape

    far : IsTriangleOf (map_of s) g t tn tp
    far = side_triangle m mesh at (at v) t live_t facing

    far_on : pos 0 ≤ℤ orient2d_of (at (origin_of s t)) (at (end_of s t)) (at v)
    far_on = subst (λ (k : ℕ). pos 0 ≤ℤ orient2d_of (at (origin_of s t)) (at k) (at v)) (sym (ap (origin_of s) (rev-rev e))) (on_both (at (origin_of s e)) (at (end_of s e)) (at v) on)

    differ : f ≢ g
    differ = facing_differ (map_of s) (map-sound mesh.sound) f e en ep g t tn tp near far refl

    old : (h : ℕ) → IsLive s h → h ≢ t → origin_of s h ≡ origin_of r h
    old = split_old m mesh e v live halves edges faces at

    on_f : (h : ℕ) → face_of s h ≡ f → h ≢ t
    on_f h there is = differ (sym there ∙ ap (face_of s) is)

    begins : (k i : ℕ) → k ≡ 2 * s.edges + i → origin_of r k ≡ slice_index (split_origins m mesh e v live halves edges faces at).more i
    begins = split_more m mesh e v live halves edges faces at

    new_start : (k i : ℕ) → k ≡ 2 * s.edges + i → i < 6 → (origin_of r k ≡ v) ⊎ ((j : ℕ) × IsLive s j × (origin_of s j ≡ origin_of r k))
    new_start k zero is few = inr (tp, far.live_z, sym (begins k 0 is))
    new_start k (suc zero) is few = inl (begins k 1 is)
    new_start k (suc (suc zero)) is few = inr (t, live_t, sym (begins k 2 is))
    new_start k (suc (suc (suc zero))) is few = inl (begins k 3 is)
    new_start k (suc (suc (suc (suc zero)))) is few = inr (ep, near.live_z, sym (begins k 4 is))
    new_start k (suc (suc (suc (suc (suc zero))))) is few = inl (begins k 5 is)
    new_start k (suc (suc (suc (suc (suc (suc i)))))) is few = absurd (omega (arith, few))

    split_starts : StartsOldOr s r v
    split_starts k live_k = elim (old_or_new s r 3 refl refl k live_k) [
      | inl was ↦ elim (cases_eq k t) [ inl is ↦ inl (ap (origin_of r) is ∙ split_start m mesh e v live halves edges faces at) | inr differs ↦ inr (k, was, old k was differs) ]
      | inr new ↦ new_start k new.0 new.1 new.2
    ]

    abbrev Round : ℕ → ℕ → ℕ → Type 0
    Round x y z = IsEmptyRound at (edge_split m e v halves edges faces).shape v x y z

    turn : (x y z : ℕ) → Round x y z → Round y z x
    turn = round_turned at r v

    more_of : (a b : ℕ) → IsEmptyAt at s v a b v → IsEmptyAt at r v a b v
    more_of a b empty = empty_more at s r v a b v split_starts empty

    first : Round e (n + 5) ep
    first =
        turn ep e (n + 5)
        (tip_round at r v ep e (n + 5) (origin_of s ep) (origin_of s e) (old ep near.live_z (on_f ep near.face_z)) (old e live (λ i. rev-ne e (sym i))) (sym (begins (n + 5) 5 refl))
        (more_of (origin_of s ep) (origin_of s e) (before_empty m mesh at plane v e star live triangle inner across near_on)))

    second : Round t tn n
    second =
        turn n t tn (turn tn n t
        (tip_round at r v tn n t (origin_of s tn) (origin_of s tp) (old tn far.live_y (λ i. far.x≢y (sym i))) (sym (begins n 0 (omega arith))) (sym (split_start m mesh e v live halves edges faces at))
        (more_of (origin_of s tn) (origin_of s tp) (after_empty m mesh at plane v t star live_t facing inner_facing across_t far_on))))

    third : Round tp (n + 2) (n + 1)
    third =
        tip_round at r v tp (n + 2) (n + 1) (origin_of s tp) (origin_of s t) (old tp far.live_z (λ i. far.x≢z (sym i))) (sym (begins (n + 2) 2 refl)) (sym (begins (n + 1) 1 refl))
        (more_of (origin_of s tp) (origin_of s t) (before_empty m mesh at plane v t star live_t facing inner_facing across_t far_on))

    fourth : Round en (n + 4) (n + 3)
    fourth =
        tip_round at r v en (n + 4) (n + 3) (origin_of s en) (origin_of s ep) (old en near.live_y (on_f en near.face_y)) (sym (begins (n + 4) 4 refl)) (sym (begins (n + 3) 3 refl))
        (more_of (origin_of s en) (origin_of s ep) (after_empty m mesh at plane v e star live triangle inner across near_on))

    pub split_star : HasEmptyCirclesBut at r v
    split_star =
        written_star at s r (split_words m mesh e v live halves edges faces at) (split_origins m mesh e v live halves edges faces at) (split_written m mesh e v live halves edges faces at) mesh.sound v split_starts star
        ((λ x y z above is. at_least r Round turn e (n + 5) ep x y z is first), ((λ x y z above is. at_least r Round turn t tn n x y z is second), tt))
        ((λ x y z above is. same Round turn tp (n + 2) (n + 1) x y z is third), ((λ x y z above is. same Round turn en (n + 4) (n + 3) x y z is fourth), tt))

  -- of one triangle, where the other half lies on the outer face
  module _ (outer : g ≡ 0) where
    abbrev q : Shape
    q = (half_edge_split m e v halves edges faces).shape

    away_from_t : (h : ℕ) → IsLive s h → h ≢ t → origin_of s h ≡ origin_of q h
    away_from_t = half_old m mesh e v live halves edges faces at

    on_near : (h : ℕ) → IsLive s h → face_of s h ≡ f → origin_of s h ≡ origin_of q h
    on_near h lives there = away_from_t h lives (λ is. omega (arith, inner, outer, sym there ∙ ap (face_of s) is))

    half_begins : (k i : ℕ) → k ≡ 2 * s.edges + i → origin_of q k ≡ slice_index (half_origins m mesh e v live halves edges faces at).more i
    half_begins = half_more m mesh e v live halves edges faces at

    half_new : (k i : ℕ) → k ≡ 2 * s.edges + i → i < 4 → (origin_of q k ≡ v) ⊎ ((j : ℕ) × IsLive s j × (origin_of s j ≡ origin_of q k))
    half_new k zero is few = inr (ep, near.live_z, sym (half_begins k 0 is))
    half_new k (suc zero) is few = inl (half_begins k 1 is)
    half_new k (suc (suc zero)) is few = inl (half_begins k 2 is)
    half_new k (suc (suc (suc zero))) is few = inr (t, live_t, sym (half_begins k 3 is))
    half_new k (suc (suc (suc (suc i)))) is few = absurd (omega (arith, few))

    half_starts : StartsOldOr s q v
    half_starts k live_k = elim (old_or_new s q 2 refl refl k live_k) [
      | inl was ↦ elim (cases_eq k t) [ inl is ↦ inl (ap (origin_of q) is ∙ half_start m mesh e v live halves edges faces at) | inr differs ↦ inr (k, was, away_from_t k was differs) ]
      | inr new ↦ half_new k new.0 new.1 new.2
    ]

    abbrev HalfRound : ℕ → ℕ → ℕ → Type 0
    HalfRound x y z = IsEmptyRound at (half_edge_split m e v halves edges faces).shape v x y z

    half_turn : (x y z : ℕ) → HalfRound x y z → HalfRound y z x
    half_turn = round_turned at q v

    half_empty : (a b : ℕ) → IsEmptyAt at s v a b v → IsEmptyAt at q v a b v
    half_empty a b empty = empty_more at s q v a b v half_starts empty

    half_first : HalfRound e (n + 1) ep
    half_first =
        half_turn ep e (n + 1)
        (tip_round at q v ep e (n + 1) (origin_of s ep) (origin_of s e) (on_near ep near.live_z near.face_z) (on_near e live refl) (sym (half_begins (n + 1) 1 refl))
        (half_empty (origin_of s ep) (origin_of s e) (before_empty m mesh at plane v e star live triangle inner across near_on)))

    half_second : HalfRound en n (n + 2)
    half_second =
        tip_round at q v en n (n + 2) (origin_of s en) (origin_of s ep) (on_near en near.live_y near.face_y) (sym (half_begins n 0 (omega arith))) (sym (half_begins (n + 2) 2 refl))
        (half_empty (origin_of s en) (origin_of s ep) (after_empty m mesh at plane v e star live triangle inner across near_on))

    pub half_split_star : HasEmptyCirclesBut at q v
    half_split_star =
        written_star at s q (half_words m mesh e v live halves edges faces at) (half_origins m mesh e v live halves edges faces at) (half_written m mesh e v live halves edges faces at) mesh.sound v half_starts star
        ((λ x y z above is. at_least q HalfRound half_turn e (n + 1) ep x y z is half_first), ((λ x y z above is. absurd (omega (arith, above, outer))), tt))
        ((λ x y z above is. same HalfRound half_turn en n (n + 2) x y z is half_second), tt)
