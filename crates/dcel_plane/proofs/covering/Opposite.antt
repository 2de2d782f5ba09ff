-- A mesh turned by half a turn: to the left becomes to the right, and all else stays.
use Rattle.std.proofs.Common.{◌≡◌, inl, inr, ℕ, zero, suc, ◌≤◌, ◌^◌, [], ◌∷◌, ℤ, pos, negsuc, ◌-ℤ◌, ◌<ℤ◌, unsigned_abs, neg_ℤ, refl, sym, subst, arith, ◌≤ℤ◌, ◌∙◌}
use Rattle.dcel_predicates.specs.declared.point.Point.{Point}
use Rattle.dcel_predicates.specs.Determinants.{orient2d_of}
use Rattle.dcel_predicates.proofs.Ring.{by_terms, minus, num}
use Rattle.dcel_predicates.proofs.Signs.{ordered}
use Rattle.dcel_predicates.proofs.Terms.{Spot, Where, orient, orient_in, place, spot}
use Rattle.dcel_maps.specs.Shapes.{Shape, origin_of}
use Rattle.dcel_plane.specs.Plane.{TrianglesTurnLeft}
use Rattle.dcel_plane.specs.covering.Covering.{IsConvex, IsHull, dot}
use Rattle.dcel_plane.proofs.covering.Along.{dot_in}
use Rattle.dcel_plane.specs.covering.Places.{IsStrictlyIn, Place, orient_at}
use Rattle.dcel_plane.specs.covering.Round.{IsRightOf}

neg_in_range : (x : ℤ) → unsigned_abs x ≤ 2 ^ 53 → unsigned_abs (neg_ℤ x) ≤ 2 ^ 53
neg_in_range (pos zero) below = below
neg_in_range (pos (suc n)) below = below
neg_in_range (negsuc n) below = below

in_range : (x : ℤ) → unsigned_abs x ≤ 2 ^ 53 → unsigned_abs (pos 0 -ℤ x) ≤ 2 ^ 53
in_range x below = let e : neg_ℤ x ≡ pos 0 -ℤ x = omega (arith, ordered) in subst (λ z. unsigned_abs z ≤ 2 ^ 53) e (neg_in_range x below)

pub opposite : Point → Point
opposite a = record { x = pos 0 -ℤ a.x; y = pos 0 -ℤ a.y; x_in_range = in_range a.x a.x_in_range; y_in_range = in_range a.y a.y_in_range }

pub opposite_place : Place → Place
opposite_place p = record { x = pos 0 -ℤ p.x; y = pos 0 -ℤ p.y; w = p.w; above = p.above }

abbrev turned_spot : Spot → Spot
turned_spot a = record { x = minus (num (pos 0)) a.x; y = minus (num (pos 0)) a.y }

abbrev turned_place : Where → Where
turned_place p = record { x = minus (num (pos 0)) p.x; y = minus (num (pos 0)) p.y; w = p.w }

pub orient-opposite : (a b c : Point) → orient2d_of (opposite a) (opposite b) (opposite c) ≡ orient2d_of a b c
unfolding opposite
orient-opposite a b c =
    by_terms (a.x ∷ a.y ∷ b.x ∷ b.y ∷ c.x ∷ c.y ∷ []) (orient (turned_spot (spot 0)) (turned_spot (spot 1)) (turned_spot (spot 2))) (orient (spot 0) (spot 1) (spot 2)) refl

pub orient_at-opposite : (a b : Point) (p : Place) → orient_at (opposite a) (opposite b) (opposite_place p) ≡ orient_at a b p
unfolding opposite opposite_place
orient_at-opposite a b p =
    by_terms (a.x ∷ a.y ∷ b.x ∷ b.y ∷ p.x ∷ p.y ∷ p.w ∷ []) (orient_in (turned_spot (spot 0)) (turned_spot (spot 1)) (turned_place (place 4))) (orient_in (spot 0) (spot 1) (place 4)) refl

pub inside-opposite : (a b c : Point) (p : Place) → IsStrictlyIn a b c p → IsStrictlyIn (opposite a) (opposite b) (opposite c) (opposite_place p)
inside-opposite a b c p is = (
  subst (λ z. pos 0 <ℤ z) (sym (orient_at-opposite a b p)) is.0,
  subst (λ z. pos 0 <ℤ z) (sym (orient_at-opposite b c p)) is.1,
  subst (λ z. pos 0 <ℤ z) (sym (orient_at-opposite c a p)) is.2,
)

pub right-opposite : (a b : Point) → IsRightOf a b → IsRightOf (opposite b) (opposite a)
unfolding opposite
right-opposite a b (inl less) = inl (omega (arith, ordered, less))
right-opposite a b (inr up) = inr (let e = up.0 in omega (arith, ordered, e), let u = up.1 in omega (arith, ordered, u))

pub left-opposite : (a b : Point) → IsRightOf (opposite a) (opposite b) → IsRightOf b a
unfolding opposite
left-opposite a b (inl less) = inl (omega (arith, ordered, less))
left-opposite a b (inr up) = inr (let e = up.0 in omega (arith, ordered, e), let u = up.1 in omega (arith, ordered, u))

pub plane-opposite : (at : ℕ → Point) (s : Shape) → TrianglesTurnLeft at s → TrianglesTurnLeft (λ v. opposite (at v)) s
plane-opposite at s plane = record { left = λ f x y z inner is. subst (λ z. pos 0 <ℤ z) (sym (orient-opposite _ _ _)) (plane.left f x y z inner is) }

pub apart-opposite : (a b c : Point) → dot (opposite a) (opposite b) (opposite c) ≡ dot a b c
unfolding opposite
apart-opposite a b c =
    by_terms (a.x ∷ a.y ∷ b.x ∷ b.y ∷ c.x ∷ c.y ∷ []) (dot_in (turned_spot (spot 0)) (turned_spot (spot 1)) (turned_spot (spot 2))) (dot_in (spot 0) (spot 1) (spot 2)) refl

pub convex-opposite : (at : ℕ → Point) (s : Shape) → IsConvex at s → IsConvex (λ v. opposite (at v)) s
convex-opposite at s convex = record {
  supports = λ h k live outer live_k.
      let is = convex.supports h k live outer live_k in (
        subst (λ z. z ≤ℤ pos 0) (sym (orient-opposite _ _ _)) is.0,
        λ on. subst (λ z. pos 0 ≤ℤ z) (sym (apart-opposite _ _ _)) (is.1 (sym (orient-opposite _ _ _) ∙ on)),
      );
}

same_opposite : (a b : Point) → (opposite a).x ≡ (opposite b).x → (opposite a).y ≡ (opposite b).y → (a.x ≡ b.x) × (a.y ≡ b.y)
unfolding opposite
same_opposite a b ex ey = (omega (arith, ordered, ex), omega (arith, ordered, ey))

pub hull-opposite : (at : ℕ → Point) (s : Shape) → IsHull at s → IsHull (λ v. opposite (at v)) s
hull-opposite at s hull = record {
  distinct = λ h k live_h live_k ex ey. let same = same_opposite (at (origin_of s h)) (at (origin_of s k)) ex ey in hull.distinct h k live_h live_k same.0 same.1;
  once = hull.once;
}
