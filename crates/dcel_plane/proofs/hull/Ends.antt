-- The outer face is convex once neither half edge at the new vertex has a vertex on its left, and no other one has the new vertex there.
use Rattle.std.proofs.Common.{◌≡◌, ◌≢◌, inl, inr, ℕ, sym, subst, pos, ◌≤ℤ◌, arith}
use Rattle.std.proofs.lemmas.Bool.{cases_eq}
use Rattle.dcel_fixed.specs.HalfEdges.{rev}
use Rattle.dcel_predicates.specs.Determinants.{orient2d_of}
use Rattle.dcel_predicates.specs.declared.point.Point.{Point}
use Rattle.dcel_predicates.proofs.Signs.{ordered}
use Rattle.dcel_maps.specs.Shapes.{IsLive, Mesh, Shape, end_of, face_of, map_of, origin_of}
use Rattle.dcel_maps.proofs.maps.Soundness.{rev_live}
use Rattle.dcel_plane.specs.covering.Covering.{IsConvex, dot}
use Rattle.dcel_plane.proofs.covering.Inside.{apart_end, apart_start}
use Rattle.dcel_plane.specs.hull.Closing.{IsClosing}
use Rattle.dcel_plane.proofs.hull.Tangents.{not_between, not_between_before, outside_edge}

-- no outer half edge has t on its left, and those at t have no old vertex there
module _ {V DE UE F : Type 0} (m : Mesh V DE UE F) (at : ℕ → Point) (t : ℕ) (closing : IsClosing at m.shape t)
    (unseen : (h : ℕ) → IsLive m.shape h → face_of m.shape h ≡ 0 → orient2d_of (at (origin_of m.shape h)) (at (end_of m.shape h)) (at t) ≤ℤ pos 0)
    (from_t : (h k : ℕ) → IsLive m.shape h → face_of m.shape h ≡ 0 → origin_of m.shape h ≡ t → IsLive m.shape k → origin_of m.shape k ≢ t
    → orient2d_of (at t) (at (end_of m.shape h)) (at (origin_of m.shape k)) ≤ℤ pos 0)
    (to_t : (h k : ℕ) → IsLive m.shape h → face_of m.shape h ≡ 0 → end_of m.shape h ≡ t → IsLive m.shape k → origin_of m.shape k ≢ t
    → orient2d_of (at (origin_of m.shape h)) (at t) (at (origin_of m.shape k)) ≤ℤ pos 0)
    (h0 : ℕ) (live_0 : IsLive m.shape h0) (on_0 : face_of m.shape h0 ≡ 0) (starts_0 : origin_of m.shape h0 ≡ t) where
  abbrev s : Shape
  s = m.shape

  abbrev p : ℕ → Point
  p h = at (origin_of s h)

  abbrev e : ℕ → Point
  e h = at (end_of s h)

  -- what holds of t holds of k
  moved : (P : Point → Type 0) (k : ℕ) → origin_of s k ≡ t → P (at t) → P (p k)
  moved P k is holds = subst (λ (i : ℕ). P (at i)) (sym is) holds

  right : (h k : ℕ) → IsLive s h → face_of s h ≡ 0 → IsLive s k → orient2d_of (p h) (e h) (p k) ≤ℤ pos 0
  right h k live on live_k = elim (cases_eq (origin_of s k) t) [
    | inl new ↦ moved (λ q. orient2d_of (p h) (e h) q ≤ℤ pos 0) k new (unseen h live on)
    | inr old ↦ elim (cases_eq (origin_of s h) t) [
      | inl starts ↦ subst (λ (i : ℕ). orient2d_of (at i) (e h) (p k) ≤ℤ pos 0) (sym starts) (from_t h k live on starts live_k old)
      | inr not_start ↦ elim (cases_eq (end_of s h) t) [
        | inl ends ↦ subst (λ (i : ℕ). orient2d_of (p h) (at i) (p k) ≤ℤ pos 0) (sym ends) (to_t h k live on ends live_k old)
        | inr not_end ↦ (closing.supports h k live on not_start not_end live_k old).0
      ]
    ]
  ]

  between : (h k : ℕ) → IsLive s h → face_of s h ≡ 0 → IsLive s k → orient2d_of (p h) (e h) (p k) ≡ pos 0 → pos 0 ≤ℤ dot (p h) (e h) (p k)
  between h k live on live_k = elim (cases_eq (origin_of s h) t) [
    | inl starts ↦
        subst (λ (i : ℕ). orient2d_of (at i) (e h) (p k) ≡ pos 0 → pos 0 ≤ℤ dot (at i) (e h) (p k)) (sym starts)
        (λ zero. elim (cases_eq (origin_of s k) t) [
          | inl new ↦ moved (λ q. pos 0 ≤ℤ dot (at t) (e h) q) k new (let z = apart_start (at t) (e h) in omega (arith, ordered, z))
          | inr old ↦ (let a = closing.after h live on starts in not_between (at a.a) (e h) (at t) (p k) a.seen (a.supports k live_k old).0 zero)
        ])
    | inr not_start ↦ elim (cases_eq (end_of s h) t) [
      | inl ends ↦
          subst (λ (i : ℕ). orient2d_of (p h) (at i) (p k) ≡ pos 0 → pos 0 ≤ℤ dot (p h) (at i) (p k)) (sym ends)
          (λ zero. elim (cases_eq (origin_of s k) t) [
            | inl new ↦ moved (λ q. pos 0 ≤ℤ dot (p h) (at t) q) k new (let z = apart_end (p h) (at t) in omega (arith, ordered, z))
            | inr old ↦ (let b = closing.before h live on ends in not_between_before (p h) (at b.b) (at t) (p k) b.seen (b.supports k live_k old).0 zero)
          ])
      | inr not_end ↦ elim (cases_eq (origin_of s k) t) [
        | inl new ↦
            moved (λ q. orient2d_of (p h) (e h) q ≡ pos 0 → pos 0 ≤ℤ dot (p h) (e h) q) k new
            (λ zero. (let a = closing.after h0 live_0 on_0 starts_0 in
            outside_edge (at a.a) (e h0) (p h) (e h) (at t) a.seen (a.supports h live not_start).0 (a.supports (rev h) (rev_live (map_of s) h live) not_end).0 zero))
        | inr old ↦ (closing.supports h k live on not_start not_end live_k old).1
      ]
    ]
  ]

  pub closed_by : IsConvex at s
  closed_by = record { supports = λ h k live on live_k. (right h k live on live_k, between h k live on live_k) }
