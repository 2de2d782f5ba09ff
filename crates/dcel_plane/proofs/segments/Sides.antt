-- A list of all edges around the faces that a segment crosses: a flip of one that it crosses leaves it such a list.
use Rattle.std.proofs.Common.{◌≡◌, ◌≢◌, ◌⊎◌, inl, inr, ℕ, ◌+◌, ◌*◌, ◌/◌, ◌<◌, List, [], ◌∷◌, ◌++◌, refl, sym, ◌∙◌, subst, eq-zero-or-pos, arith}
use Rattle.std.proofs.lemmas.Bool.{cases_eq}
use Rattle.dcel_fixed.specs.HalfEdges.{rev}
use Rattle.dcel_predicates.specs.declared.point.Point.{Point}
use Rattle.dcel_maps.specs.Conditions.{CanFlip}
use Rattle.dcel_maps.specs.edits.Flip.{edge_flipped}
use Rattle.dcel_maps.specs.Shapes.{IsLive, IsMesh, Mesh, Shape, face_of, map_of, next_of, prev_of}
use Rattle.dcel_maps.specs.Words.{count_of}
use Rattle.dcel_maps.proofs.maps.Triangles.{IsTriangleOf}
use Rattle.dcel_maps.proofs.words.Counts.{count-append, count-other}
use Rattle.dcel_plane.specs.Edges.{edges_of_flip}
use Rattle.dcel_plane.specs.Plane.{ListsCircled}
use Rattle.dcel_plane.proofs.edits.Flipped.{flip_lists}
use Rattle.dcel_plane.proofs.removal.Turnable.{both_halves}
use Rattle.dcel_plane.specs.segments.Segments.{HasSides}
use Rattle.dcel_plane.proofs.segments.FlipFaces.{Flipped, flipped_at}
use Rattle.dcel_plane.proofs.covering.Triangles.{of_face}

-- one of five
of_five : (P : ℕ → Type 0) (a b c d e u : ℕ) → P a → P b → P c → P d → P e → 0 < count_of u (a ∷ b ∷ c ∷ d ∷ e ∷ []) → P u
of_five P a b c d e u pa pb pc pd pe found = elim (cases_eq u a) [
  | inl is ↦ subst P (sym is) pa
  | inr not_a ↦ elim (cases_eq u b) [
    | inl is ↦ subst P (sym is) pb
    | inr not_b ↦ elim (cases_eq u c) [
      | inl is ↦ subst P (sym is) pc
      | inr not_c ↦ elim (cases_eq u d) [
        | inl is ↦ subst P (sym is) pd
        | inr not_d ↦ elim (cases_eq u e) [
          | inl is ↦ subst P (sym is) pe
          | inr not_e ↦ absurd
              (let a' = count-other u a (b ∷ c ∷ d ∷ e ∷ []) not_a in
              let b' = count-other u b (c ∷ d ∷ e ∷ []) not_b in
              let c' = count-other u c (d ∷ e ∷ []) not_c in
              let d' = count-other u d (e ∷ []) not_d in
              let e' = count-other u e [] not_e in
              omega (arith, found, a', b', c', d', e'))
        ]
      ]
    ]
  ]
]

module _ {V DE UE F : Type 0} (m : Mesh V DE UE F) (mesh : IsMesh m) (h : ℕ) (can : CanFlip m.shape (h / 2))
    (near : IsTriangleOf (map_of m.shape) (face_of m.shape h) h (next_of m.shape h) (prev_of m.shape h))
    (far : IsTriangleOf (map_of m.shape) (face_of m.shape (rev h)) (rev h) (next_of m.shape (rev h)) (prev_of m.shape (rev h)))
    (due : List ℕ) (has_near : HasSides due m.shape (face_of m.shape h)) (has_far : HasSides due m.shape (face_of m.shape (rev h))) where
  abbrev s : Shape
  s = m.shape

  abbrev n : Shape
  n = (edge_flipped m (h / 2)).shape

  abbrev f : ℕ
  f = face_of m.shape h

  abbrev g : ℕ
  g = face_of m.shape (rev h)

  flip : Flipped m mesh (h / 2) can h (rev h)
  flip = flipped_at m mesh h can

  abbrev AtBoth : ℕ → Type 0
  AtBoth k = (k ≡ f) ⊎ (k ≡ g)

  from_near : (k : ℕ) → IsLive s k → face_of s k ≡ f → AtBoth (face_of n k)
  from_near = of_face m mesh f h (next_of s h) (prev_of s h) near (λ k. AtBoth (face_of n k)) (inl flip.here) (inl flip.after) (inr flip.before)

  from_far : (k : ℕ) → IsLive s k → face_of s k ≡ g → AtBoth (face_of n k)
  from_far =
      of_face m mesh g (rev h) (next_of s (rev h)) (prev_of s (rev h)) far (λ k. AtBoth (face_of n k)) (inr flip.there) (inr flip.after_other) (inl flip.before_other)

  -- the two faces keep their half edges between them
  stays : (k : ℕ) → IsLive s k → (AtBoth (face_of s k) × AtBoth (face_of n k)) ⊎ ((face_of s k ≢ f) × (face_of s k ≢ g) × (face_of n k ≡ face_of s k))
  stays k live = elim (cases_eq (face_of s k) f) [
    | inl is ↦ inl (inl is, from_near k live is)
    | inr not_f ↦ elim (cases_eq (face_of s k) g) [
      | inl is ↦ inl (inr is, from_far k live is)
      | inr not_g ↦ inr (not_f, not_g, flip.away k live not_f not_g)
    ]
  ]

  at_old : (k : ℕ) → IsLive s k → AtBoth (face_of s k) → 0 < count_of (k / 2) due
  at_old k live (inl is) = has_near k live is
  at_old k live (inr is) = has_far k live is

  not_both : (k x : ℕ) → k ≢ f → k ≢ g → x ≡ k → AtBoth x → ⊥
  not_both k x not_f not_g same (inl is) = not_f (sym same ∙ is)
  not_both k x not_f not_g same (inr is) = not_g (sym same ∙ is)

  -- so a face that has its sides in the list has them afterwards, wherever its half edges came to be
  pub sides_stay : (j : ℕ) → IsLive s j → HasSides due s (face_of s j) → HasSides due n (face_of n j)
  sides_stay j live_j has k live_k same = elim (stays k live_k) [
    | inl both ↦ at_old k live_k both.0
    | inr away ↦ elim (stays j live_j) [
      | inl both ↦ absurd (not_both (face_of s k) (face_of n j) away.0 away.1 (sym same ∙ away.2) both.1)
      | inr away_too ↦ has k live_k (sym away.2 ∙ same ∙ away_too.2)
    ]
  ]

  record Both (a t : ℕ) : Type 0 where
    at_a : IsTriangleOf (map_of s) (face_of s a) a (next_of s a) (prev_of s a)
    at_t : IsTriangleOf (map_of s) (face_of s t) t (next_of s t) (prev_of s t)
    sides_a : HasSides due s (face_of s a)
    sides_t : HasSides due s (face_of s t)

  both : Both (2 * (h / 2)) (2 * (h / 2) + 1)
  both =
      both_halves Both (λ a t is. record { at_a = is.at_t; at_t = is.at_a; sides_a = is.sides_t; sides_t = is.sides_a }) h
      (record { at_a = near; at_t = far; sides_a = has_near; sides_t = has_far })

  touched_there : (u : ℕ) → 0 < count_of u (edges_of_flip s (h / 2)) → 0 < count_of u due
  touched_there u =
      let e = 2 * (h / 2) in
      let t = 2 * (h / 2) + 1 in
      let is = both in
      of_five (λ i. 0 < count_of i due) (next_of s e / 2) (prev_of s e / 2) (next_of s t / 2) (prev_of s t / 2) (h / 2) u
      (is.sides_a (next_of s e) is.at_a.live_y is.at_a.face_y) (is.sides_a (prev_of s e) is.at_a.live_z is.at_a.face_z)
      (is.sides_t (next_of s t) is.at_t.live_y is.at_t.face_y) (is.sides_t (prev_of s t) is.at_t.live_z is.at_t.face_z)
      (has_near h near.live_x refl)

  pub lists_stay : (at : ℕ → Point) (lacking : List ℕ) → ListsCircled at s (due ++ lacking) → ListsCircled at n (due ++ lacking)
  lists_stay at lacking lists u inner circled =
      let found = flip_lists m mesh (h / 2) can at (due ++ lacking) lists u inner circled in
      let all = count-append u (due ++ lacking) (edges_of_flip s (h / 2)) in
      elim (eq-zero-or-pos (count_of u (edges_of_flip s (h / 2)))) [
        | inl none ↦ omega (arith, found, all, none)
        | inr some ↦ (let there = touched_there u some in let parts = count-append u due lacking in omega (arith, there, parts))
      ]
