-- The same of the corner before the new vertex, which is the other end of the line.
use Rattle.std.proofs.Common.{◌≡◌, ◌≢◌, inl, inr, ℕ, ◌<◌, sym, ap, ◌∙◌, subst, ℤ, pos, ◌+ℤ◌, ◌-ℤ◌, ◌*ℤ◌, ◌<ℤ◌, ◌≤ℤ◌, eq-zero-or-pos, arith}
use Rattle.std.proofs.lemmas.Bool.{cases_eq}
use Rattle.std.proofs.lemmas.Int.{by_lt_z}
use Rattle.dcel_fixed.specs.HalfEdges.{rev}
use Rattle.dcel_fixed.proofs.Halves.{rev-rev}
use Rattle.dcel_predicates.specs.Determinants.{orient2d_of}
use Rattle.dcel_predicates.specs.declared.point.Point.{Point}
use Rattle.dcel_predicates.proofs.Points.{orient2d-first_swapped, orient2d-last_swapped, orient2d-turned}
use Rattle.dcel_predicates.proofs.Signs.{both_negative, ordered, times}
use Rattle.dcel_maps.specs.Shapes.{IsLive, IsMesh, Mesh, Shape, end_of, face_of, map_of, next_of, origin_of, prev_of}
use Rattle.dcel_maps.specs.Triangulations.{AllTriangles}
use Rattle.dcel_maps.proofs.maps.Soundness.{rev_live}
use Rattle.dcel_maps.proofs.shapes.Maps.{map-sound}
use Rattle.dcel_maps.proofs.walks.Links.{links_stand, next-live}
use Rattle.dcel_maps.proofs.words.Reading.{face-next}
use Rattle.dcel_plane.specs.Plane.{TrianglesTurnLeft}
use Rattle.dcel_plane.proofs.edits.Corners.{left_of_triangle}
use Rattle.dcel_plane.proofs.covering.Along.{dot_start, none_first, one_place}
use Rattle.dcel_plane.proofs.covering.Inside.{on_end, on_start}
use Rattle.dcel_plane.proofs.covering.Products.{times_below}
use Rattle.dcel_plane.proofs.covering.Triangles.{round}
use Rattle.dcel_plane.specs.hull.Closing.{IsClosing, IsThin}
use Rattle.dcel_plane.specs.covering.Covering.{dot}
use Rattle.dcel_plane.specs.hull.Straight.{dot_of_steps}
use Rattle.dcel_plane.proofs.hull.Corners.{slope}
use Rattle.dcel_plane.proofs.hull.Thin.{alone_there, back_dot, far, opposite}

further_before : (b r z t : Point) → pos 0 <ℤ dot r r b → orient2d_of b r z ≡ pos 0 → pos 0 <ℤ orient2d_of r b t → pos 0 <ℤ dot_of_steps b r z → pos 0 <ℤ orient2d_of z r t
further_before b r z t far_b on seen more =
    let g = ((r.x -ℤ b.x) *ℤ (t.x -ℤ r.x)) +ℤ ((r.y -ℤ b.y) *ℤ (t.y -ℤ r.y)) in
    let e = slope b r z t on in
    let n = none_first (orient2d_of b r z) g on in
    let o = orient2d-first_swapped r b t in
    let p = times_below (dot_of_steps b r z) (orient2d_of b r t) more (omega (arith, ordered, o, seen)) in
    let f = orient2d-first_swapped z r t in
    by_lt_z (orient2d_of r z t) (pos 0) (λ less. omega (arith, ordered, f, less))
    (λ not. absurd
    (let q = times (dot r r b) (orient2d_of r z t) (omega (arith, ordered, far_b)) not in
    compare (dot r r b *ℤ orient2d_of r z t) (dot_of_steps b r z *ℤ orient2d_of b r t) (orient2d_of b r z *ℤ g) e n q p))
  where
    compare : (k l m : ℤ) → k ≡ l -ℤ m → m ≡ pos 0 → pos 0 ≤ℤ k → l <ℤ pos 0 → ⊥
    compare k l m is zero more less = omega (arith, ordered, is, zero, less, more)

pub not_further_before : (b r z t : Point) → pos 0 <ℤ dot r r b → orient2d_of b r z ≡ pos 0 → pos 0 <ℤ orient2d_of r b t → dot_of_steps b r z ≤ℤ pos 0 → pos 0 ≤ℤ orient2d_of r z t
not_further_before b r z t far_b on seen less =
    let g = ((r.x -ℤ b.x) *ℤ (t.x -ℤ r.x)) +ℤ ((r.y -ℤ b.y) *ℤ (t.y -ℤ r.y)) in
    let e = slope b r z t on in
    let n = none_first (orient2d_of b r z) g on in
    let o = orient2d-first_swapped r b t in
    let p = both_negative (dot_of_steps b r z) (orient2d_of b r t) less (omega (arith, ordered, o, seen)) in
    by_lt_z (orient2d_of r z t) (pos 0)
    (λ below. absurd
    (let q = times_below (dot r r b) (orient2d_of r z t) far_b below in
    compare (dot r r b *ℤ orient2d_of r z t) (dot_of_steps b r z *ℤ orient2d_of b r t) (orient2d_of b r z *ℤ g) e n q p))
    (λ not. not)
  where
    compare : (k l m : ℤ) → k ≡ l -ℤ m → m ≡ pos 0 → k <ℤ pos 0 → pos 0 ≤ℤ l → ⊥
    compare k l m is zero less more = omega (arith, ordered, is, zero, less, more)

module _ {V DE UE F : Type 0} (m : Mesh V DE UE F) (mesh : IsMesh m) (triangles : AllTriangles m.shape) (at : ℕ → Point) (plane : TrianglesTurnLeft at m.shape) (t : ℕ)
    (closing : IsClosing at m.shape t) (thin : IsThin at m.shape t)
    (closed_before : (h : ℕ) → IsLive m.shape h → face_of m.shape h ≡ 0 → end_of m.shape h ≡ t
    → orient2d_of (at (origin_of m.shape (prev_of m.shape h))) (at (origin_of m.shape h)) (at t) ≤ℤ pos 0)
    (h : ℕ) (live : IsLive m.shape h) (on : face_of m.shape h ≡ 0) (ends : end_of m.shape h ≡ t) where
  abbrev s : Shape
  s = m.shape

  abbrev p : ℕ → Point
  p h = at (origin_of s h)

  abbrev e : ℕ → Point
  e h = at (end_of s h)

  farther : (h : ℕ) → IsLive s h → pos 0 <ℤ dot (e h) (e h) (p h)
  farther h live = far m mesh triangles at plane t closing thin h live

  abbrev r : ℕ
  r = origin_of s h

  abbrev pub side : ℕ
  side = (closing.before h live on ends).side

  live_side : IsLive s side
  live_side = (closing.before h live on ends).live_side

  back_side : IsLive s (rev side)
  back_side = rev_live (map_of s) side live_side

  from : origin_of s side ≡ r
  from = (closing.before h live on ends).from

  -- the other end of the side
  abbrev b : ℕ
  b = end_of m.shape (closing.before h live on ends).side

  pub seen : pos 0 <ℤ orient2d_of (at r) (at b) (at t)
  seen = let before = closing.before h live on ends in subst (λ (i : ℕ). pos 0 <ℤ orient2d_of (at r) (at i) (at t)) (sym before.to) before.seen

  old_r : r ≢ t
  old_r is = mesh.sound.two_ends h live (is ∙ sym ends)

  old_b : b ≢ t
  old_b is =
      let q = subst (λ (i : ℕ). pos 0 <ℤ orient2d_of (at r) (at i) (at t)) is seen in
      let o = on_start (at r) (at t) in omega (arith, ordered, q, o)

  leads : end_of s (rev side) ≡ origin_of s side
  leads = ap (origin_of s) (rev-rev side)

  pub far_side : pos 0 <ℤ dot (at r) (at r) (at b)
  far_side = subst (λ (i : ℕ). pos 0 <ℤ dot (at i) (at i) (at b)) (leads ∙ from) (farther (rev side) back_side)

  pub on_side : (k : ℕ) → IsLive s k → origin_of s k ≢ t → orient2d_of (at b) (at r) (p k) ≡ pos 0
  on_side k live_k old_k =
      subst (λ (i : ℕ). orient2d_of (at b) (at i) (p k) ≡ pos 0) (leads ∙ from) (thin.line (rev side) k back_side old_b (λ is. old_r (sym (leads ∙ from) ∙ is)) live_k old_k)

  -- no half edge leads on from r
  first : (g : ℕ) → IsLive s g → origin_of s g ≡ r → end_of s g ≢ t → pos 0 <ℤ dot_of_steps (at b) (at r) (e g) → ⊥
  first g live_g starts old_z more =
      let w = rev g in
      let live_w = rev_live (map_of s) g live_g in
      let ends_w : end_of s w ≡ r = ap (origin_of s) (rev-rev g) ∙ starts in
      let up : pos 0 <ℤ orient2d_of (e g) (at r) (at t) = further_before (at b) (at r) (e g) (at t) far_side (on_side w live_w old_z) seen more in
      let not_prev : prev_of s h ≢ w = λ is.
      (let c = subst (λ (i : ℕ). orient2d_of (p i) (at r) (at t) ≤ℤ pos 0) is (closed_before h live on ends) in omega (arith, ordered, c, up)) in
      elim (eq-zero-or-pos (face_of s w)) [
        | inr inner ↦ inside g live_g starts old_z up live_w ends_w inner
        | inl outer ↦ outside g live_g starts old_z more live_w ends_w outer not_prev
      ]
    where
      inside : (g : ℕ) → IsLive s g → origin_of s g ≡ r → end_of s g ≢ t → pos 0 <ℤ orient2d_of (e g) (at r) (at t) → IsLive s (rev g) → end_of s (rev g) ≡ r
          → 0 < face_of s (rev g) → ⊥
      inside g live_g starts old_z up live_w ends_w inner =
          let w = rev g in
          let tri = round m mesh triangles w live_w inner in
          let x = next_of s w in
          let y = prev_of s w in
          let left : pos 0 <ℤ orient2d_of (p w) (e w) (p y) =
          subst (λ (i : ℕ). pos 0 <ℤ orient2d_of (p w) (at i) (p y)) (mesh.sound.joined w live_w) (left_of_triangle at s mesh.sound plane (face_of s w) w x y inner tri) in
          elim (cases_eq (origin_of s y) t) [
            | inr old_y ↦ (let z = thin.line w y live_w old_z (λ is. old_r (sym ends_w ∙ is)) tri.live_z old_y in omega (arith, ordered, z, left))
            | inl is_t ↦
                let ends_y : end_of s y ≡ origin_of s w = sym (mesh.sound.joined y tri.live_z) ∙ ap (origin_of s) tri.next_z in
                let f = subst (λ (i : ℕ). orient2d_of (at r) (at t) (at i) ≤ℤ pos 0) ends_y (thin.fan_before h y live on ends tri.live_z is_t) in
                let o = orient2d-turned (e g) (at r) (at t) in
                omega (arith, ordered, f, o, up)
          ]

      outside : (g : ℕ) → IsLive s g → origin_of s g ≡ r → end_of s g ≢ t → pos 0 <ℤ dot_of_steps (at b) (at r) (e g) → IsLive s (rev g) → end_of s (rev g) ≡ r
          → face_of s (rev g) ≡ 0 → prev_of s h ≢ rev g → ⊥
      outside g live_g starts old_z more live_w ends_w outer not_prev =
          let sound = map-sound mesh.sound in
          let w = rev g in
          let i = next_of s w in
          let live_i : IsLive s i = next-live mesh.sound w live_w in
          let on_i : face_of s i ≡ 0 = face-next (map_of s) s.words (links_stand mesh.sound) w live_w ∙ outer in
          let starts_i : origin_of s i ≡ r = mesh.sound.joined w live_w ∙ ends_w in
          let prev_i : prev_of s i ≡ w = sound.prev-next w live_w in
          let back_i = rev_live (map_of s) i live_i in
          elim (cases_eq (end_of s i) t) [
            | inl is_t ↦
                let live_ni : IsLive s (next_of s i) = next-live mesh.sound i live_i in
                let live_nh : IsLive s (next_of s h) = next-live mesh.sound h live in
                let on_ni : face_of s (next_of s i) ≡ 0 = face-next (map_of s) s.words (links_stand mesh.sound) i live_i ∙ on_i in
                let on_nh : face_of s (next_of s h) ≡ 0 = face-next (map_of s) s.words (links_stand mesh.sound) h live ∙ on in
                let nexts = thin.once_t (next_of s i) (next_of s h) live_ni live_nh on_ni on_nh (mesh.sound.joined i live_i ∙ is_t) (mesh.sound.joined h live ∙ ends) in
                let same : i ≡ h = sym (sound.prev-next i live_i) ∙ ap (prev_of s) nexts ∙ sound.prev-next h live in
                not_prev (ap (prev_of s) (sym same) ∙ prev_i)
            | inr old_i ↦
                let old_g : origin_of s g ≢ t = λ is. old_r (sym starts ∙ is) in
                let z_far : pos 0 <ℤ dot (e g) (e g) (at r) = subst (λ (k : ℕ). pos 0 <ℤ dot (e g) (e g) (at k)) starts (farther g live_g) in
                let on_q : orient2d_of (at r) (e g) (e i) ≡ pos 0 = subst (λ (k : ℕ). orient2d_of (at k) (e g) (e i) ≡ pos 0) starts (thin.line g (rev i) live_g old_g old_z back_i old_i) in
                let on_b : orient2d_of (at r) (e g) (at b) ≡ pos 0 =
                subst (λ (k : ℕ). orient2d_of (at k) (e g) (at b) ≡ pos 0) starts (thin.line g (rev side) live_g old_g old_z back_side old_b) in
                let less_b : dot (at b) (e g) (at r) <ℤ pos 0 = (let d = back_dot (at b) (at r) (e g) in omega (arith, ordered, d, more)) in
                by_lt_z (pos 0) (dot (e i) (e g) (at r))
                (λ same_side.
                let is : i ≡ g = thin.once i g live_i live_g (λ z. old_r (sym starts_i ∙ z)) old_i old_z (starts_i ∙ sym starts)
                (subst (λ (k : ℕ). pos 0 <ℤ dot (e i) (e g) (at k)) (sym starts_i) same_side) in
                let one = alone_there m mesh triangles at plane t closing thin g h live_g live (ap (prev_of s) (sym is) ∙ prev_i) (sym starts) in
                old_z (ap (end_of s) (sym one) ∙ ends))
                (λ not. by_lt_z (dot (e i) (e g) (at r)) (pos 0)
                (λ less.
                let both = opposite (at r) (e g) (e i) (at b) z_far on_q on_b less less_b in
                let same : i ≡ side = thin.once i side live_i live_side (λ z. old_r (sym starts_i ∙ z)) old_i old_b (starts_i ∙ sym from)
                (subst (λ (k : ℕ). pos 0 <ℤ dot (e i) (at b) (at k)) (sym starts_i) both) in
                let inner = (closing.before h live on ends).inner_side in
                let f = ap (face_of s) same in
                omega (arith, f, inner, on_i))
                (λ nor.
                let d = dot_start (e g) (at r) in
                let one = one_place (at r) (e g) (e i) (at r) z_far on_q (on_end (at r) (e g)) (omega (arith, ordered, not, nor, d)) in
                mesh.sound.two_ends i live_i
                (sym (thin.distinct (rev i) i back_i live_i (one.0 ∙ ap (λ (k : ℕ). (at k).x) (sym starts_i)) (one.1 ∙ ap (λ (k : ℕ). (at k).y) (sym starts_i))))))
          ]

  -- so no vertex lies before r
  pub at_start : (k : ℕ) → IsLive s k → origin_of s k ≢ t → dot_of_steps (at b) (at r) (p k) ≤ℤ pos 0
  at_start k live_k old_k =
      by_lt_z (pos 0) (dot_of_steps (at b) (at r) (p k))
      (λ more. absurd
      (let to_r = leads ∙ from in
      let found = thin.onward (rev side) k back_side old_b (λ is. old_r (sym to_r ∙ is)) live_k old_k (subst (λ (i : ℕ). pos 0 <ℤ dot_of_steps (at b) (at i) (p k)) (sym to_r) more) in
      first found.0 found.1 (found.2 ∙ to_r) found.3 (subst (λ (i : ℕ). pos 0 <ℤ dot_of_steps (at b) (at i) (e found.0)) to_r found.4)))
      (λ not. not)

  pub to_tip : (k : ℕ) → IsLive s k → origin_of s k ≢ t → orient2d_of (at r) (at t) (p k) ≤ℤ pos 0
  to_tip k live_k old_k =
      let n = not_further_before (at b) (at r) (p k) (at t) far_side (on_side k live_k old_k) seen (at_start k live_k old_k) in
      let o = orient2d-last_swapped (at r) (p k) (at t) in
      omega (arith, ordered, n, o)

  -- and no outer half edge to r turns in
  pub none_turns : (k : ℕ) → IsLive s k → end_of s k ≡ r → orient2d_of (p k) (at r) (at t) ≤ℤ pos 0
  none_turns k live_k to = elim (cases_eq (origin_of s k) t) [
    | inl starts ↦ subst (λ (i : ℕ). orient2d_of (at i) (at r) (at t) ≤ℤ pos 0) (sym starts) (let o = on_end (at t) (at r) in omega (arith, ordered, o))
    | inr old_z ↦
        (let up = not_further_before (at b) (at r) (p k) (at t) far_side (on_side k live_k old_z) seen (at_start k live_k old_z) in
        let o = orient2d-first_swapped (at r) (p k) (at t) in
        omega (arith, ordered, up, o))
  ]
