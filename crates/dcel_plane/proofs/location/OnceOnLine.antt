-- A point on a straight path lies between the ends of one edge only, or beyond one end only.
use Rattle.std.proofs.Common.{◌≡◌, ◌⊎◌, inl, inr, ℕ, sym, ap, ◌∙◌, subst, pos, ◌<ℤ◌, arith}
use Rattle.std.proofs.lemmas.Int.{by_lt_z}
use Rattle.dcel_fixed.specs.HalfEdges.{rev}
use Rattle.dcel_fixed.proofs.Halves.{rev-rev}
use Rattle.dcel_predicates.specs.Determinants.{orient2d_of}
use Rattle.dcel_predicates.specs.declared.point.Point.{Point}
use Rattle.dcel_predicates.proofs.Signs.{ordered}
use Rattle.dcel_maps.specs.Conditions.{IsLineEnd}
use Rattle.dcel_maps.specs.Shapes.{IsLive, IsMesh, Mesh, Shape, end_of, origin_of}
use Rattle.dcel_plane.proofs.covering.Along.{dot_start, one_place}
use Rattle.dcel_plane.proofs.covering.Inside.{on_end, on_start}
use Rattle.dcel_plane.specs.hull.Straight.{IsStraight}
use Rattle.dcel_plane.proofs.hull.OneLine.{apart_up, inside_of, order_of, past_down, past_up}
use Rattle.dcel_plane.proofs.hull.Thin.{back_dot, past_end}
use Rattle.dcel_plane.specs.location.Locating.{LiesBeyond, LiesOn}
use Rattle.dcel_plane.proofs.location.OnLine.{back, far, on_too, none_between, none_past}
use Rattle.dcel_plane.proofs.location.Ways.{lies_back}
use Rattle.dcel_plane.specs.covering.Covering.{dot}

module _ {V DE UE F : Type 0} (m : Mesh V DE UE F) (mesh : IsMesh m) (at : ℕ → Point) (straight : IsStraight at m.shape) where
  abbrev s : Shape
  s = m.shape

  abbrev p : ℕ → Point
  p h = at (origin_of s h)

  abbrev e : ℕ → Point
  e h = at (end_of s h)

  -- the ends of a half edge lie at different places
  not_even : (b a : Point) → (l : pos 0 <ℤ dot a a b) → (k : ℕ) → IsLive s k → orient2d_of b a (p k) ≡ pos 0 → orient2d_of b a (e k) ≡ pos 0 → dot (p k) a b ≡ dot (e k) a b → ⊥
  not_even b a l k live on_start on_end same =
      let one = one_place b a (p k) (e k) l on_start on_end same in
      mesh.sound.two_ends k live (straight.distinct k (rev k) live (back m mesh at straight k live) one.0 one.1)

  -- a point lies between the ends of one edge only
  one_up : (h k : ℕ) → IsLive s h → IsLive s k → (v : Point) → LiesOn at s v h → LiesOn at s v k → dot (p k) (e h) (p h) <ℤ dot (e k) (e h) (p h) → k ≡ h
  one_up h k live live_k v lies lies_k up =
      let b = p h in
      let a = e h in
      let l = far m mesh at straight h live in
      let z = dot_start a b in
      let order = order_of s at b a l (back m mesh at straight) (λ i live_i. straight.line h i live live_i) straight in
      let on_k = straight.line h k live live_k in
      let on_e = on_too m mesh at straight h k live live_k in
      let is = inside_of b a v l lies.on lies.between in
      let above = is.0 in
      let short = is.1 in
      by_lt_z (dot (p k) a b) (dot v a b)
      (λ less.
      let more = past_up b a (p k) (e k) v l on_k on_e lies.on lies_k.between less in
      by_lt_z (dot b a b) (dot (p k) a b) (λ over. absurd (order.between h k live live_k over (omega (arith, ordered, less, short))))
      (λ not. by_lt_z (dot (p k) a b) (dot b a b) (λ under. absurd (order.between k h live_k live under (omega (arith, ordered, z, above, more))))
      (λ nor. order.once_up k h live_k live (order.distinct k h live_k live (omega (arith, ordered, not, nor))) up (omega (arith, ordered, z, l)))))
      (λ not. by_lt_z (dot v a b) (dot (p k) a b)
      (λ more. absurd (let gone = past_down b a (p k) (e k) v l on_k on_e lies.on lies_k.between more in omega (arith, ordered, gone, more, up)))
      (λ nor. absurd (none_between m mesh at straight k k live_k v lies_k live_k (one_place b a (p k) v l on_k lies.on (omega (arith, ordered, not, nor))))))

  pub one_edge : (h k : ℕ) → IsLive s h → IsLive s k → (v : Point) → LiesOn at s v h → LiesOn at s v k → (k ≡ h) ⊎ (k ≡ rev h)
  one_edge h k live live_k v lies lies_k =
      by_lt_z (dot (p k) (e h) (p h)) (dot (e k) (e h) (p h)) (λ up. inl (one_up h k live live_k v lies lies_k up))
      (λ not. by_lt_z (dot (e k) (e h) (p h)) (dot (p k) (e h) (p h))
      (λ down.
      let is = one_up h (rev k) live (back m mesh at straight k live_k) v lies (lies_back at s v k lies_k)
      (subst (λ (i : ℕ). dot (e k) (e h) (p h) <ℤ dot (at (origin_of s i)) (e h) (p h)) (sym (rev-rev k)) down) in
      inr (sym (rev-rev k) ∙ ap rev is))
      (λ nor. absurd (not_even (p h) (e h) (far m mesh at straight h live) k live_k (straight.line h k live live_k) (on_too m mesh at straight h k live live_k) (omega (arith, ordered, not, nor)))))

  -- and beyond one end only
  pub one_end : (h k : ℕ) → IsLive s h → IsLineEnd s (end_of s h) → IsLive s k → IsLineEnd s (end_of s k) → (v : Point) → LiesBeyond at s v h → LiesBeyond at s v k
      → end_of s k ≡ end_of s h
  one_end h k live is_end live_k is_end_k v lies lies_k =
      let b = p h in
      let a = e h in
      let l = far m mesh at straight h live in
      let on_k = straight.line h k live live_k in
      let on_e = on_too m mesh at straight h k live live_k in
      let x = lies.past in
      let t = past_end b a v in
      let first = none_past m mesh at straight h (rev k) live is_end (back m mesh at straight k live_k) in
      let t_first = past_end b a (e k) in
      let past_k = lies_k.past in
      let c = back_dot (p k) (e k) v in
      by_lt_z (dot (p k) a b) (dot (e k) a b)
      (λ up. by_lt_z (dot (e k) a b) (dot a a b)
      (λ short. absurd
      (let apart = apart_up b a (p k) a (e k) l on_k (on_start b a) on_e up short in
      let none = none_past m mesh at straight k (rev h) live_k is_end_k (back m mesh at straight h live) in
      let d = back_dot (p k) (e k) a in
      omega (arith, ordered, apart, none, d)))
      (λ not.
      let one = one_place b a (e k) a l on_e (on_start b a) (omega (arith, ordered, not, first, t_first)) in
      straight.distinct (rev k) (rev h) (back m mesh at straight k live_k) (back m mesh at straight h live) one.0 one.1))
      (λ not. absurd (by_lt_z (dot (e k) a b) (dot (p k) a b)
      (λ down. let gone = past_down b a (p k) v (e k) l on_k lies.on on_e (omega (arith, ordered, past_k, c)) down in omega (arith, ordered, gone, x, t, first, t_first))
      (λ nor. not_even b a l k live_k on_k on_e (omega (arith, ordered, not, nor)))))
