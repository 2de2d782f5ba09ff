-- What holds of each inner word of three holds of each inner triangle, from any of its half edges on.
use Rattle.std.proofs.Common.{◌≡◌, ℕ, ◌<◌, List, [], ◌∷◌, sym, ◌∙◌, subst, pos, ◌<ℤ◌}
use Rattle.dcel_predicates.specs.declared.point.Point.{Point}
use Rattle.dcel_predicates.specs.Determinants.{orient2d_of, incircle_of}
use Rattle.dcel_maps.specs.Cyclic.{from_least}
use Rattle.dcel_maps.specs.Shapes.{IsLive, IsSound, Shape, map_of, origin_of}
use Rattle.dcel_maps.specs.Words.{TurnsTo, word_of}
use Rattle.dcel_maps.proofs.maps.Triangles.{IsTriangleOf}
use Rattle.dcel_maps.proofs.shapes.Maps.{map-sound}
use Rattle.dcel_maps.proofs.walks.Links.{links_stand}
use Rattle.dcel_maps.proofs.words.Triangles.{triangle_written}
use Rattle.dcel_maps.proofs.words.Turns.{from_least-turn, length-turn, turns_back}
use Rattle.dcel_plane.proofs.edits.Corners.{three_items, turned_along}
use Rattle.dcel_plane.specs.star.Star.{IsEmptyAt, IsEmptyRound}
use Rattle.dcel_plane.proofs.star.Pencils.{nested}

module _ (s : Shape) (P : ℕ → ℕ → ℕ → Type 0) (turn : (x y z : ℕ) → P x y z → P y z x) where
  pub at_triangle : IsSound s → ((f x y z : ℕ) → 0 < f → word_of s.words f ≡ x ∷ y ∷ z ∷ [] → P x y z) → (f x y z : ℕ) → 0 < f → IsTriangleOf (map_of s) f x y z → P x y z
  at_triangle sound holds f x y z inner triangle =
      let written = triangle_written (map_of s) (map-sound sound) f x y z triangle s.words (links_stand sound) in
      let along : TurnsTo (x ∷ y ∷ z ∷ []) (word_of s.words f) = subst (λ (l : List ℕ). TurnsTo (x ∷ y ∷ z ∷ []) l) (sym written) (from_least-turn (x ∷ y ∷ z ∷ [])) in
      let (a, b, c, is) = three_items (word_of s.words f) (length-turn along) in
      turned_along P turn a b c x y z (turns_back (subst (λ (l : List ℕ). TurnsTo (x ∷ y ∷ z ∷ []) l) is along)) (holds f a b c inner is)

  pub at_least : (x y z a b c : ℕ) → from_least (x ∷ y ∷ z ∷ []) ≡ a ∷ b ∷ c ∷ [] → P x y z → P a b c
  at_least x y z a b c is holds =
      turned_along P turn x y z a b c (subst (λ (l : List ℕ). TurnsTo (x ∷ y ∷ z ∷ []) l) is (from_least-turn (x ∷ y ∷ z ∷ []))) holds

module _ (at : ℕ → Point) (s : Shape) (v : ℕ) where
  pub round_turned : (x y z : ℕ) → IsEmptyRound at s v x y z → IsEmptyRound at s v y z x
  round_turned x y z empty = (empty.1, empty.2, empty.0)

  -- corners that are known by other numbers
  pub empty_are : {a b c a' b' c' : ℕ} → a ≡ a' → b ≡ b' → c ≡ c' → IsEmptyAt at s v a b c → IsEmptyAt at s v a' b' c'
  empty_are {a} {b} {c} {a'} {b'} {c'} ea eb ec empty =
      subst (λ (k : ℕ). IsEmptyAt at s v a' b' k) ec (subst (λ (k : ℕ). IsEmptyAt at s v a' k c) eb (subst (λ (k : ℕ). IsEmptyAt at s v k b c) ea empty))

  pub touches_first : (a b c : ℕ) → a ≡ v → IsEmptyAt at s v a b c
  touches_first a b c is not_a not_b k live away left inside = absurd (not_a is)

  pub touches_second : (a b c : ℕ) → b ≡ v → IsEmptyAt at s v a b c
  touches_second a b c is not_a not_b k live away left inside = absurd (not_b is)

  -- a triangle at the same side, whose corner lies inside the circle of the one before
  pub empty_nested : (a b c d : ℕ) → pos 0 <ℤ orient2d_of (at a) (at b) (at c) → pos 0 <ℤ orient2d_of (at a) (at b) (at d)
      → pos 0 <ℤ incircle_of (at a) (at b) (at c) (at d) → IsEmptyAt at s v a b c → IsEmptyAt at s v a b d
  empty_nested a b c d old new inside empty not_a not_b k live away left further =
      empty not_a not_b k live away left (nested (at a) (at b) (at d) (at c) (at (origin_of s k)) old new left inside further)

-- in a shape that has no other vertices
pub empty_still : (at : ℕ → Point) (s n : Shape) (v a b c : ℕ) → ((k : ℕ) → IsLive n k → (i : ℕ) × IsLive s i × (origin_of s i ≡ origin_of n k))
    → IsEmptyAt at s v a b c → IsEmptyAt at n v a b c
empty_still at s n v a b c starts empty not_a not_b k live away =
    let (i, was, is) = starts k live in
    subst (λ (w : ℕ). pos 0 <ℤ orient2d_of (at a) (at b) (at w) → ¬ (pos 0 <ℤ incircle_of (at a) (at b) (at c) (at w))) is
    (empty not_a not_b i was (λ on. away (sym is ∙ on)))
