-- The corners of a triangle, from any of its half edges on.
use Rattle.std.proofs.Common.{◌≡◌, inl, inr, ℕ, ◌<◌, List, [], ◌∷◌, ◌++◌, length, append-nil, refl, sym, ap, ◌∙◌, subst, pos, ◌<ℤ◌, arith}
use Rattle.dcel_predicates.specs.declared.point.Point.{Point}
use Rattle.dcel_predicates.proofs.Points.{orient2d-turned}
use Rattle.dcel_maps.specs.Cyclic.{from_least}
use Rattle.dcel_maps.specs.Shapes.{IsLive, IsSound, Shape, end_of, map_of, origin_of}
use Rattle.dcel_maps.specs.Words.{TurnsTo, count_of, word_of}
use Rattle.dcel_maps.proofs.maps.Triangles.{IsTriangleOf}
use Rattle.dcel_maps.proofs.shapes.Maps.{map-sound}
use Rattle.dcel_maps.proofs.walks.Links.{links_stand}
use Rattle.dcel_maps.proofs.words.Counts.{first_or_later}
use Rattle.dcel_maps.proofs.words.Triangles.{triangle_written}
use Rattle.dcel_maps.proofs.words.Turns.{count-turn, from_least-turn, length-turn, turns_back}
use Rattle.dcel_plane.specs.Plane.{IsLeftOf, TrianglesTurnLeft, TurnsLeft}

-- what holds of three items from any of them on
module _ (P : ℕ → ℕ → ℕ → Type 0) (turn : (x y z : ℕ) → P x y z → P y z x) where
  pub same : (x y z a b c : ℕ) → x ∷ y ∷ z ∷ [] ≡ a ∷ b ∷ c ∷ [] → P x y z → P a b c
  same x y z a b c is p =
      let first : x ≡ a = cc in
      let second : y ≡ b = cc in
      let third : z ≡ c = cc in
      subst (λ (k : ℕ). P a b k) third (subst (λ (k : ℕ). P a k z) second (subst (λ (k : ℕ). P k y z) first p))

  rotated : (x y z a b c : ℕ) (front back : List ℕ) → x ∷ y ∷ z ∷ [] ≡ front ++ back → a ∷ b ∷ c ∷ [] ≡ back ++ front → P x y z → P a b c
  rotated x y z a b c [] back was is p = same x y z a b c (was ∙ sym (append-nil back) ∙ sym is) p
  rotated x y z a b c (q ∷ []) back was is p =
      let rest : y ∷ z ∷ [] ≡ back = cc in
      let first : x ≡ q = cc in
      same y z x a b c (ap (λ k. y ∷ z ∷ k ∷ []) first ∙ ap (λ (l : List ℕ). l ++ q ∷ []) rest ∙ sym is) (turn x y z p)
  rotated x y z a b c (q ∷ r ∷ []) back was is p =
      let rest : z ∷ [] ≡ back = cc in
      let first : x ≡ q = cc in
      let second : y ≡ r = cc in
      same z x y a b c (ap (λ k. z ∷ k ∷ y ∷ []) first ∙ ap (λ k. z ∷ q ∷ k ∷ []) second ∙ ap (λ (l : List ℕ). l ++ q ∷ r ∷ []) rest ∙ sym is) (turn y z x (turn x y z p))
  rotated x y z a b c (q ∷ r ∷ s ∷ []) [] was is p = same x y z a b c (was ∙ sym is) p
  rotated x y z a b c (q ∷ r ∷ s ∷ []) (t ∷ back) was is p = absurd (let e = ap length was in omega (arith, e))
  rotated x y z a b c (q ∷ r ∷ s ∷ t ∷ front) back was is p = absurd (let e = ap length was in omega (arith, e))

  pub turned_along : (x y z a b c : ℕ) → TurnsTo (x ∷ y ∷ z ∷ []) (a ∷ b ∷ c ∷ []) → P x y z → P a b c
  turned_along x y z a b c t p = rotated x y z a b c t.front t.back t.was t.is p

pub three_items : (w : List ℕ) → length w ≡ 3 → (a : ℕ) × (b : ℕ) × (c : ℕ) × (w ≡ a ∷ b ∷ c ∷ [])
three_items [] e = absurd (omega (arith, e))
three_items (a ∷ []) e = absurd (omega (arith, e))
three_items (a ∷ b ∷ []) e = absurd (omega (arith, e))
three_items (a ∷ b ∷ c ∷ []) e = (a, b, c, refl)
three_items (a ∷ b ∷ c ∷ d ∷ w) e = absurd (omega (arith, e))

-- what holds of three items holds of each that stands in their list
pub of_three : (Q : ℕ → Type 0) (x y z h : ℕ) → Q x → Q y → Q z → 0 < count_of h (x ∷ y ∷ z ∷ []) → Q h
of_three Q x y z h at_x at_y at_z found = elim (first_or_later h x (y ∷ z ∷ []) found) [
  | inl is ↦ subst Q (sym is) at_x
  | inr in_y ↦ elim (first_or_later h y (z ∷ []) in_y) [
    | inl is ↦ subst Q (sym is) at_y
    | inr in_z ↦ elim (first_or_later h z [] in_z) [ inl is ↦ subst Q (sym is) at_z | inr none ↦ absurd (omega (arith, none)) ]
  ]
]

pub of_least : (Q : ℕ → Type 0) (x y z h : ℕ) → Q x → Q y → Q z → 0 < count_of h (from_least (x ∷ y ∷ z ∷ [])) → Q h
of_least Q x y z h at_x at_y at_z found =
    of_three Q x y z h at_x at_y at_z (omega (arith, found, count-turn h (from_least-turn (x ∷ y ∷ z ∷ []))))

pub left_turned : (a b c : Point) → TurnsLeft a b c → TurnsLeft b c a
left_turned a b c left = subst (λ k. pos 0 <ℤ k) (sym (orient2d-turned a b c)) left

module _ (at : ℕ → Point) where
  -- corners that are known by other numbers
  pub corners_are : {a b c a' b' c' : ℕ} → a ≡ a' → b ≡ b' → c ≡ c' → TurnsLeft (at a) (at b) (at c) → TurnsLeft (at a') (at b') (at c')
  corners_are {a} {b} {c} {a'} {b'} {c'} ea eb ec left =
      subst (λ (k : ℕ). TurnsLeft (at a') (at b') (at k)) ec (subst (λ (k : ℕ). TurnsLeft (at a') (at k) (at c)) eb (subst (λ (k : ℕ). TurnsLeft (at k) (at b) (at c)) ea left))

  module _ (s : Shape) where
    abbrev pub LeftOf : ℕ → ℕ → ℕ → Type 0
    LeftOf x y z = TurnsLeft (at (origin_of s x)) (at (origin_of s y)) (at (origin_of s z))

    pub turn_left : (x y z : ℕ) → LeftOf x y z → LeftOf y z x
    turn_left x y z left = left_turned (at (origin_of s x)) (at (origin_of s y)) (at (origin_of s z)) left

    -- the same word
    pub left_same : (x y z a b c : ℕ) → x ∷ y ∷ z ∷ [] ≡ a ∷ b ∷ c ∷ [] → LeftOf x y z → LeftOf a b c
    left_same x y z a b c is left = same LeftOf turn_left x y z a b c is left

    -- a word that was written from its least half edge
    pub left-from_least : (x y z a b c : ℕ) → from_least (x ∷ y ∷ z ∷ []) ≡ a ∷ b ∷ c ∷ [] → LeftOf x y z → LeftOf a b c
    left-from_least x y z a b c is left =
        turned_along LeftOf turn_left x y z a b c (subst (λ (l : List ℕ). TurnsTo (x ∷ y ∷ z ∷ []) l) is (from_least-turn (x ∷ y ∷ z ∷ []))) left

    -- the triangles of a sound shape in the plane, from any half edge on
    pub left_of_triangle : IsSound s → TrianglesTurnLeft at s → (f x y z : ℕ) → 0 < f → IsTriangleOf (map_of s) f x y z → LeftOf x y z
    left_of_triangle sound plane f x y z inner triangle =
        let written = triangle_written (map_of s) (map-sound sound) f x y z triangle s.words (links_stand sound) in
        let turn : TurnsTo (x ∷ y ∷ z ∷ []) (word_of s.words f) = subst (λ (l : List ℕ). TurnsTo (x ∷ y ∷ z ∷ []) l) (sym written) (from_least-turn (x ∷ y ∷ z ∷ [])) in
        let (a, b, c, is) = three_items (word_of s.words f) (length-turn turn) in
        turned_along LeftOf turn_left a b c x y z (turns_back (subst (λ (l : List ℕ). TurnsTo (x ∷ y ∷ z ∷ []) l) is turn)) (plane.left f a b c inner is)

    -- p on the left of h, which ends where k starts
    pub seen : (p : Point) (h k : ℕ) → IsSound s → IsLive s h → origin_of s k ≡ end_of s h → IsLeftOf at s p h → TurnsLeft (at (origin_of s h)) (at (origin_of s k)) p
    seen p h k sound live meets left = subst (λ (v : ℕ). TurnsLeft (at (origin_of s h)) (at v) p) (sym meets) left
