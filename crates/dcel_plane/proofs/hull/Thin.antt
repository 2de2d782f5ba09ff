-- A closing from a line at its end: no half edge leads on from the corner after the new vertex, which is an end of the line.
use Rattle.std.proofs.Common.{◌≡◌, ◌≢◌, inl, inr, ℕ, ◌<◌, [], ◌∷◌, refl, sym, ap, ◌∙◌, subst, ℤ, pos, ◌+ℤ◌, ◌-ℤ◌, ◌*ℤ◌, ◌<ℤ◌, ◌≤ℤ◌, eq-zero-or-pos, arith}
use Rattle.std.proofs.lemmas.Bool.{cases_eq}
use Rattle.std.proofs.lemmas.Int.{by_lt_z}
use Rattle.std.proofs.Math.IntN.{*ℤ_comm}
use Rattle.dcel_fixed.specs.HalfEdges.{rev}
use Rattle.dcel_fixed.proofs.Halves.{rev-rev}
use Rattle.dcel_predicates.specs.Determinants.{orient2d_of}
use Rattle.dcel_predicates.specs.declared.point.Point.{Point}
use Rattle.dcel_predicates.proofs.Points.{orient2d-turned}
use Rattle.dcel_predicates.proofs.Ring.{Term, by_terms, minus, num, plus, times as by}
use Rattle.dcel_predicates.proofs.Signs.{ordered, times_negative, times_positive}
use Rattle.dcel_predicates.proofs.Terms.{Spot, spot}
use Rattle.dcel_maps.specs.Maps.{By, Reaches, ccw}
use Rattle.dcel_maps.specs.Maps.Reaches.{go, here}
use Rattle.dcel_maps.specs.Shapes.{IsLive, IsMesh, Mesh, Shape, end_of, face_of, map_of, next_of, origin_of, prev_of}
use Rattle.dcel_maps.specs.Triangulations.{AllTriangles}
use Rattle.dcel_maps.proofs.maps.Soundness.{rev_live}
use Rattle.dcel_maps.proofs.shapes.Maps.{map-sound}
use Rattle.dcel_maps.proofs.walks.Links.{links_stand, next-live, prev-live}
use Rattle.dcel_maps.proofs.words.Reading.{face-prev}
use Rattle.dcel_plane.specs.Plane.{TrianglesTurnLeft}
use Rattle.dcel_plane.proofs.edits.Corners.{left_of_triangle}
use Rattle.dcel_plane.proofs.covering.Along.{by_place, dot_in, dot_start, edges_long, no_height, none_first, one_place}
use Rattle.dcel_plane.proofs.covering.Inside.{on_end, on_start}
use Rattle.dcel_plane.proofs.covering.Triangles.{round}
use Rattle.dcel_plane.specs.hull.Closing.{IsClosing, IsThin}
use Rattle.dcel_plane.specs.covering.Covering.{dot}
use Rattle.dcel_plane.specs.hull.Straight.{dot_of_steps}
use Rattle.dcel_plane.proofs.hull.Corners.{slope}
use Rattle.dcel_plane.proofs.covering.Products.{both_below}

-- two points on the other side of u than z lie on one side
pub opposite : (u z q a : Point) → pos 0 <ℤ dot z z u → orient2d_of u z q ≡ pos 0 → orient2d_of u z a ≡ pos 0 → dot q z u <ℤ pos 0 → dot a z u <ℤ pos 0 → pos 0 <ℤ dot q a u
opposite u z q a far on_q on_a less_q less_a =
    let e = by_place u z q a u far on_q on_a (on_end u z) in
    let h = no_height u z q a u far on_q on_a (on_end u z) in
    let d = dot_start z u in
    let p = both_below (dot q z u -ℤ dot u z u) (dot a z u -ℤ dot u z u) (omega (arith, ordered, d, less_q)) (omega (arith, ordered, d, less_a)) in
    by_lt_z (pos 0) (dot q a u) (λ more. more)
    (λ not. absurd (let n = times_negative (dot z z u) (dot q a u) (omega (arith, ordered, far)) not in omega (arith, ordered, e, h, p, n)))

abbrev pub beyond_in : Spot → Spot → Spot → Term
beyond_in a b c = plus (by (minus b.x a.x) (minus c.x b.x)) (by (minus b.y a.y) (minus c.y b.y))

-- beyond an end, by the place along the line
pub past_end : (b a q : Point) → dot_of_steps b a q ≡ dot q a b -ℤ dot a a b
past_end b a q =
    by_terms (a.x ∷ a.y ∷ b.x ∷ b.y ∷ q.x ∷ q.y ∷ []) (beyond_in (spot 1) (spot 0) (spot 2)) (minus (dot_in (spot 2) (spot 0) (spot 1)) (dot_in (spot 0) (spot 0) (spot 1))) refl

pub back_dot : (a u z : Point) → dot_of_steps a u z +ℤ dot a z u ≡ pos 0
back_dot a u z =
    by_terms (a.x ∷ a.y ∷ u.x ∷ u.y ∷ z.x ∷ z.y ∷ [])
    (plus (beyond_in (spot 0) (spot 1) (spot 2)) (dot_in (spot 0) (spot 2) (spot 1))) (num (pos 0)) refl

-- z beyond u, on a line that has t on its left
pub further : (a u z t : Point) → pos 0 <ℤ dot u u a → orient2d_of a u z ≡ pos 0 → pos 0 <ℤ orient2d_of a u t → pos 0 <ℤ dot_of_steps a u z → pos 0 <ℤ orient2d_of u z t
further a u z t far on seen more =
    let g = ((u.x -ℤ a.x) *ℤ (t.x -ℤ u.x)) +ℤ ((u.y -ℤ a.y) *ℤ (t.y -ℤ u.y)) in
    let e = slope a u z t on in
    let n = none_first (orient2d_of a u z) g on in
    let p = times_positive (dot_of_steps a u z) (orient2d_of a u t) more seen in
    by_lt_z (pos 0) (orient2d_of u z t) (λ is. is)
    (λ not. absurd
    (let q = times_negative (dot u u a) (orient2d_of u z t) (omega (arith, ordered, far)) not in
    compare (dot u u a *ℤ orient2d_of u z t) (dot_of_steps a u z *ℤ orient2d_of a u t) (orient2d_of a u z *ℤ g) e n q p))
  where
    compare : (k l m : ℤ) → k ≡ l -ℤ m → m ≡ pos 0 → k ≤ℤ pos 0 → pos 0 <ℤ l → ⊥
    compare k l m is zero less more = omega (arith, ordered, is, zero, less, more)

pub not_further : (a u z t : Point) → pos 0 <ℤ dot u u a → orient2d_of a u z ≡ pos 0 → pos 0 <ℤ orient2d_of a u t → dot_of_steps a u z ≤ℤ pos 0 → orient2d_of u z t ≤ℤ pos 0
not_further a u z t far on seen less =
    let g = ((u.x -ℤ a.x) *ℤ (t.x -ℤ u.x)) +ℤ ((u.y -ℤ a.y) *ℤ (t.y -ℤ u.y)) in
    let e = slope a u z t on in
    let n = none_first (orient2d_of a u z) g on in
    let c = *ℤ_comm (dot_of_steps a u z) (orient2d_of a u t) in
    let p = times_negative (orient2d_of a u t) (dot_of_steps a u z) (omega (arith, ordered, seen)) less in
    by_lt_z (pos 0) (orient2d_of u z t)
    (λ more. absurd
    (let q = times_positive (dot u u a) (orient2d_of u z t) far more in
    compare (dot u u a *ℤ orient2d_of u z t) (dot_of_steps a u z *ℤ orient2d_of a u t) (orient2d_of a u z *ℤ g) (orient2d_of a u t *ℤ dot_of_steps a u z) e n c q p))
    (λ not. not)
  where
    compare : (k l m l' : ℤ) → k ≡ l -ℤ m → m ≡ pos 0 → l ≡ l' → pos 0 <ℤ k → l' ≤ℤ pos 0 → ⊥
    compare k l m l' is zero same more less = omega (arith, ordered, is, zero, same, less, more)

-- a step that stays where it is leads nowhere else
pub stays_there : (f : ℕ → ℕ) (g : ℕ) → f g ≡ g → (x k : ℕ) → Reaches (By f) x k → x ≡ g → k ≡ g
stays_there f g fixed x k here is = is
stays_there f g fixed x k (go {y = y} step rest) is = stays_there f g fixed y k rest (sym step ∙ ap f is ∙ fixed)

module _ {V DE UE F : Type 0} (m : Mesh V DE UE F) (mesh : IsMesh m) (triangles : AllTriangles m.shape) (at : ℕ → Point) (plane : TrianglesTurnLeft at m.shape) (t : ℕ)
    (closing : IsClosing at m.shape t) (thin : IsThin at m.shape t) where
  abbrev s : Shape
  s = m.shape

  abbrev p : ℕ → Point
  p h = at (origin_of s h)

  abbrev e : ℕ → Point
  e h = at (end_of s h)

  pub far : (h : ℕ) → IsLive s h → pos 0 <ℤ dot (e h) (e h) (p h)
  far = edges_long at s mesh.sound thin.distinct

  -- the only half edge that starts where it starts
  pub alone_there : (g k : ℕ) → IsLive s g → IsLive s k → prev_of s g ≡ rev g → origin_of s k ≡ origin_of s g → k ≡ g
  unfolding ccw
  alone_there g k live_g live_k turns_back same =
      stays_there (ccw (map_of s)) g (ap rev turns_back ∙ rev-rev g) g k ((mesh.sound.one_origin g k live_g live_k).0 (sym same)) refl

  -- where the corner after t doesn't turn in
  module _ (closed_after : (h : ℕ) → IsLive s h → face_of s h ≡ 0 → origin_of s h ≡ t → orient2d_of (at (end_of s h)) (at (end_of s (next_of s h))) (at t) ≤ℤ pos 0)
      (h : ℕ) (live : IsLive s h) (on : face_of s h ≡ 0) (starts : origin_of s h ≡ t) where
    abbrev pub u : ℕ
    u = end_of s h

    abbrev pub side : ℕ
    side = (closing.after h live on starts).side

    pub live_side : IsLive s side
    live_side = (closing.after h live on starts).live_side

    pub to : end_of s side ≡ u
    to = (closing.after h live on starts).to

    pub seen : pos 0 <ℤ orient2d_of (p side) (at u) (at t)
    seen = let after = closing.after h live on starts in subst (λ (i : ℕ). pos 0 <ℤ orient2d_of (at i) (at u) (at t)) (sym after.from) after.seen

    pub old_u : u ≢ t
    old_u is = mesh.sound.two_ends h live (starts ∙ sym is)

    pub old_a : origin_of s side ≢ t
    old_a is =
        let q = subst (λ (i : ℕ). pos 0 <ℤ orient2d_of (at i) (at u) (at t)) is seen in
        let o = on_end (at t) (at u) in omega (arith, ordered, q, o)

    pub far_side : pos 0 <ℤ dot (at u) (at u) (p side)
    far_side = subst (λ (i : ℕ). pos 0 <ℤ dot (at i) (at i) (p side)) to (far side live_side)

    pub on_side : (k : ℕ) → IsLive s k → origin_of s k ≢ t → orient2d_of (p side) (at u) (p k) ≡ pos 0
    on_side k live_k old_k =
        subst (λ (i : ℕ). orient2d_of (p side) (at i) (p k) ≡ pos 0) to (thin.line side k live_side old_a (λ is. old_u (sym to ∙ is)) live_k old_k)

    live_j : IsLive s (next_of s h)
    live_j = next-live mesh.sound h live

    joined : origin_of s (next_of s h) ≡ u
    joined = mesh.sound.joined h live

    -- no half edge leads on from u
    last : (g : ℕ) → IsLive s g → origin_of s g ≡ u → end_of s g ≢ t → pos 0 <ℤ dot_of_steps (p side) (at u) (e g) → ⊥
    last g live_g from old_z more =
        let back_g = rev_live (map_of s) g live_g in
        let up : pos 0 <ℤ orient2d_of (at u) (e g) (at t) = further (p side) (at u) (e g) (at t) far_side (on_side (rev g) back_g old_z) seen more in
        let not_next : next_of s h ≢ g = λ is.
        (let c = subst (λ (i : ℕ). orient2d_of (at u) (e i) (at t) ≤ℤ pos 0) is (closed_after h live on starts) in omega (arith, ordered, c, up)) in
        elim (eq-zero-or-pos (face_of s g)) [
          | inr inner ↦ inside g live_g from old_z up inner
          | inl outer ↦ outside g live_g from old_z more outer not_next
        ]
      where
        inside : (g : ℕ) → IsLive s g → origin_of s g ≡ u → end_of s g ≢ t → pos 0 <ℤ orient2d_of (at u) (e g) (at t) → 0 < face_of s g → ⊥
        inside g live_g from old_z up inner =
            let tri = round m mesh triangles g live_g inner in
            let x = next_of s g in
            let y = prev_of s g in
            let left : pos 0 <ℤ orient2d_of (p g) (e g) (p y) =
            subst (λ (i : ℕ). pos 0 <ℤ orient2d_of (p g) (at i) (p y)) (mesh.sound.joined g live_g) (left_of_triangle at s mesh.sound plane (face_of s g) g x y inner tri) in
            elim (cases_eq (origin_of s y) t) [
              | inr old_y ↦ (let z = thin.line g y live_g (λ is. old_u (sym from ∙ is)) old_z tri.live_z old_y in omega (arith, ordered, z, left))
              | inl is_t ↦
                  let ends : end_of s x ≡ t = sym (mesh.sound.joined x tri.live_y) ∙ ap (origin_of s) tri.next_y ∙ is_t in
                  let leads : end_of s (rev x) ≡ end_of s g = ap (origin_of s) (rev-rev x) ∙ mesh.sound.joined g live_g in
                  let f = subst (λ (i : ℕ). orient2d_of (at t) (at u) (at i) ≤ℤ pos 0) leads (thin.fan_after h (rev x) live on starts (rev_live (map_of s) x tri.live_y) ends) in
                  let o = orient2d-turned (at t) (at u) (e g) in
                  omega (arith, ordered, f, o, up)
            ]

        outside : (g : ℕ) → IsLive s g → origin_of s g ≡ u → end_of s g ≢ t → pos 0 <ℤ dot_of_steps (p side) (at u) (e g) → face_of s g ≡ 0 → next_of s h ≢ g → ⊥
        outside g live_g from old_z more outer not_next =
            let i = prev_of s g in
            let live_i : IsLive s i = prev-live mesh.sound g live_g in
            let on_i : face_of s i ≡ 0 = face-prev (map_of s) s.words (links_stand mesh.sound) g live_g ∙ outer in
            let next_i : next_of s i ≡ g = (map-sound mesh.sound).next-prev g live_g in
            let ends_i : end_of s i ≡ u = sym (mesh.sound.joined i live_i) ∙ ap (origin_of s) next_i ∙ from in
            let back_i = rev_live (map_of s) i live_i in
            let starts_back : origin_of s (rev i) ≡ origin_of s g = ends_i ∙ sym from in
            let lead_back : end_of s (rev i) ≡ origin_of s i = ap (origin_of s) (rev-rev i) in
            elim (cases_eq (origin_of s i) t) [
              | inl is_t ↦ absurd (not_next (ap (next_of s) (sym (thin.once_t i h live_i live on_i on is_t starts)) ∙ next_i))
              | inr old_i ↦
                  let old_g : origin_of s g ≢ t = λ is. old_u (sym from ∙ is) in
                  let old_back : end_of s (rev i) ≢ t = λ is. old_i (sym lead_back ∙ is) in
                  let z_far : pos 0 <ℤ dot (e g) (e g) (at u) = subst (λ (k : ℕ). pos 0 <ℤ dot (e g) (e g) (at k)) from (far g live_g) in
                  let on_q : orient2d_of (at u) (e g) (p i) ≡ pos 0 = subst (λ (k : ℕ). orient2d_of (at k) (e g) (p i) ≡ pos 0) from (thin.line g i live_g old_g old_z live_i old_i) in
                  let on_a : orient2d_of (at u) (e g) (p side) ≡ pos 0 =
                  subst (λ (k : ℕ). orient2d_of (at k) (e g) (p side) ≡ pos 0) from (thin.line g side live_g old_g old_z live_side old_a) in
                  let less_a : dot (p side) (e g) (at u) <ℤ pos 0 = (let b = back_dot (p side) (at u) (e g) in omega (arith, ordered, b, more)) in
                  by_lt_z (pos 0) (dot (p i) (e g) (at u))
                  (λ same_side.
                  let is : rev i ≡ g = thin.once (rev i) g back_i live_g (λ z. old_g (sym starts_back ∙ z)) old_back old_z starts_back
                  (subst (λ (k : ℕ). pos 0 <ℤ dot (at k) (e g) (p (rev i))) (sym lead_back)
                  (subst (λ (k : ℕ). pos 0 <ℤ dot (p i) (e g) (at k)) (sym ends_i) same_side)) in
                  not_next (alone_there g (next_of s h) live_g live_j (sym (rev-rev i) ∙ ap rev is) (joined ∙ sym from)))
                  (λ not. by_lt_z (dot (p i) (e g) (at u)) (pos 0)
                  (λ less.
                  let both = opposite (at u) (e g) (p i) (p side) z_far on_q on_a less less_a in
                  let side_lead : end_of s (rev side) ≡ origin_of s side = ap (origin_of s) (rev-rev side) in
                  let is : rev i ≡ rev side = thin.once (rev i) (rev side) back_i (rev_live (map_of s) side live_side) (λ z. old_g (sym starts_back ∙ z)) old_back
                  (λ z. old_a (sym side_lead ∙ z)) (ends_i ∙ sym to)
                  (subst (λ (k : ℕ). pos 0 <ℤ dot (at k) (e (rev side)) (p (rev i))) (sym lead_back)
                  (subst (λ (k : ℕ). pos 0 <ℤ dot (p i) (at k) (p (rev i))) (sym side_lead)
                  (subst (λ (k : ℕ). pos 0 <ℤ dot (p i) (p side) (at k)) (sym ends_i) both))) in
                  let same : i ≡ side = sym (rev-rev i) ∙ ap rev is ∙ rev-rev side in
                  let inner = (closing.after h live on starts).inner_side in
                  let f = ap (face_of s) same in
                  omega (arith, f, inner, on_i))
                  (λ nor.
                  let d = dot_start (e g) (at u) in
                  let one = one_place (at u) (e g) (p i) (at u) z_far on_q (on_end (at u) (e g)) (omega (arith, ordered, not, nor, d)) in
                  mesh.sound.two_ends i live_i
                  (thin.distinct i (rev i) live_i back_i (one.0 ∙ ap (λ (k : ℕ). (at k).x) (sym ends_i)) (one.1 ∙ ap (λ (k : ℕ). (at k).y) (sym ends_i)))))
            ]

    -- so no vertex lies beyond u
    pub at_end : (k : ℕ) → IsLive s k → origin_of s k ≢ t → dot_of_steps (p side) (at u) (p k) ≤ℤ pos 0
    at_end k live_k old_k =
        by_lt_z (pos 0) (dot_of_steps (p side) (at u) (p k))
        (λ more. absurd
        (let found = thin.onward side k live_side old_a (λ is. old_u (sym to ∙ is)) live_k old_k (subst (λ (i : ℕ). pos 0 <ℤ dot_of_steps (p side) (at i) (p k)) (sym to) more) in
        last found.0 found.1 (found.2 ∙ to) found.3 (subst (λ (i : ℕ). pos 0 <ℤ dot_of_steps (p side) (at i) (e found.0)) to found.4)))
        (λ not. not)

    pub from_tip : (k : ℕ) → IsLive s k → origin_of s k ≢ t → orient2d_of (at t) (at u) (p k) ≤ℤ pos 0
    from_tip k live_k old_k =
        let n = not_further (p side) (at u) (p k) (at t) far_side (on_side k live_k old_k) seen (at_end k live_k old_k) in
        let o = orient2d-turned (at t) (at u) (p k) in
        omega (arith, ordered, n, o)

    -- and no outer half edge from u turns in
    pub none_turns : (k : ℕ) → IsLive s k → origin_of s k ≡ u → orient2d_of (at u) (e k) (at t) ≤ℤ pos 0
    none_turns k live_k from = elim (cases_eq (end_of s k) t) [
      | inl ends ↦ subst (λ (i : ℕ). orient2d_of (at u) (at i) (at t) ≤ℤ pos 0) (sym ends) (let o = on_start (at u) (at t) in omega (arith, ordered, o))
      | inr old_z ↦
          (let back_k = rev_live (map_of s) k live_k in
          not_further (p side) (at u) (e k) (at t) far_side (on_side (rev k) back_k old_z) seen (at_end (rev k) back_k old_z))
    ]
