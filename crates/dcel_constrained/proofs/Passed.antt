-- A walk along a segment that comes to a vertex has passed all that the segment crosses up to there.
use Rattle.std.proofs.Common.{◌≡◌, ◌≢◌, inl, inr, ℕ, ◌<◌, List, [], ◌∷◌, ◌++◌, refl, sym, ap, ◌∙◌, subst, ℤ, pos, ◌+ℤ◌, ◌-ℤ◌, ◌*ℤ◌, ◌<ℤ◌, ◌≤ℤ◌, arith}
use Rattle.std.proofs.Math.IntN.{*ℤ_comm}
use Rattle.std.proofs.lemmas.Bool.{cases_eq}
use Rattle.std.proofs.lemmas.Int.{by_lt_z}
use Rattle.dcel_fixed.specs.HalfEdges.{rev}
use Rattle.dcel_fixed.proofs.Halves.{rev-rev}
use Rattle.dcel_predicates.specs.declared.point.Point.{Point}
use Rattle.dcel_predicates.specs.Determinants.{orient2d_of}
use Rattle.dcel_predicates.proofs.Integers.{mul_sub, sub_mul}
use Rattle.dcel_predicates.proofs.Points.{orient2d-first_swapped, orient2d-last_swapped, orient2d-turned}
use Rattle.dcel_predicates.proofs.Ring.{by_terms, minus}
use Rattle.dcel_predicates.proofs.Signs.{ordered}
use Rattle.dcel_predicates.proofs.Terms.{orient, spot}
use Rattle.dcel_maps.specs.Shapes.{IsLive, Mesh, Shape, end_of, face_of, map_of, next_of, origin_of, prev_of}
use Rattle.dcel_maps.specs.Words.{count_of}
use Rattle.dcel_maps.proofs.maps.Triangles.{IsTriangleOf}
use Rattle.dcel_maps.proofs.words.Counts.{count-append, count-later, count-other, count-same}
use Rattle.dcel_plane.specs.Plane.{TurnsLeft}
use Rattle.dcel_plane.specs.covering.Covering.{dot}
use Rattle.dcel_plane.proofs.covering.Inside.{on_end, on_start}
use Rattle.dcel_plane.proofs.covering.Powers.{less_first}
use Rattle.dcel_plane.proofs.covering.Products.{times_below}
use Rattle.dcel_plane.specs.segments.Segments.{AreEnds, Crosses, IsChannel, IsClear, IsCorner, LeadsThrough, TriangulatesItsHull, corner_beyond, orient2d_by, width}
use Rattle.dcel_plane.proofs.segments.Channels.{all_cross, leads_on}
use Rattle.dcel_plane.proofs.segments.Gates.{far, inner_far, inner_near, left_far, near}
use Rattle.dcel_plane.proofs.segments.Levers.{inside_left, inside_right}
use Rattle.dcel_plane.proofs.segments.Peaks.{ends_of}
use Rattle.dcel_plane.proofs.segments.Walking.{Comes, one_more}
use Rattle.dcel_plane.proofs.covering.Triangles.{of_face}
use Rattle.dcel_constrained.specs.Meeting.{LiesBetweenEnds}
use Rattle.dcel_constrained.proofs.Between.{crosses_before, factor_below, lies_far, lies_not_end, lies_not_start, side_of, to_left_later, to_left_sooner, to_right_later, to_right_sooner}
use Rattle.dcel_constrained.proofs.Passing.{none_in}

module _ {V DE UE F : Type 0} (m : Mesh V DE UE F) (at : ℕ → Point) (planar : TriangulatesItsHull at m) where
  abbrev s : Shape
  s = m.shape

  -- a vertex z between v and y, where the segment leads through a list of half edges
  module _ (v y : ℕ) (ends : AreEnds m.shape v y) (k z : ℕ) (live_k : IsLive m.shape k) (is_z : origin_of m.shape k ≡ z) (lies : LiesBetweenEnds at v y z) where
    abbrev off : ℕ → ℤ
    off p = orient2d_by at v y p

    at_v : off v ≡ pos 0
    at_v = on_end (at v) (at y)

    at_y : off y ≡ pos 0
    at_y = on_start (at v) (at y)

    not_right : (p : ℕ) → off p <ℤ pos 0 → z ≢ p
    not_right p right is = (let r = subst (λ (i : ℕ). off i <ℤ pos 0) (sym is) right in let on = lies.on in omega (arith, ordered, r, on))

    not_left : (p : ℕ) → pos 0 <ℤ off p → z ≢ p
    not_left p left is = (let l = subst (λ (i : ℕ). pos 0 <ℤ off i) (sym is) left in let on = lies.on in omega (arith, ordered, l, on))

    -- z lies on the far side of a half edge
    abbrev Beyond : ℕ → Type 0
    Beyond h = orient2d_of (at (origin_of s h)) (at (end_of s h)) (at z) ≤ℤ pos 0

    module _ (h : ℕ) (crosses : Crosses at m.shape v y h) where
      abbrev o : ℕ
      o = origin_of m.shape h

      abbrev e : ℕ
      e = end_of m.shape h

      abbrev c : ℕ
      c = corner_beyond m.shape h

      tri : IsTriangleOf (map_of s) (face_of s (rev h)) (rev h) (next_of s (rev h)) (prev_of s (rev h))
      tri = far m planar.mesh planar.triangles at planar.plane planar.convex v y ends h crosses

      next_from : origin_of s (next_of s (rev h)) ≡ o
      next_from = planar.mesh.sound.joined (rev h) tri.live_x ∙ ap (origin_of s) (rev-rev h)

      next_to : end_of s (next_of s (rev h)) ≡ c
      next_to = sym (planar.mesh.sound.joined (next_of s (rev h)) tri.live_y) ∙ ap (origin_of s) tri.next_y

      prev_to : end_of s (prev_of s (rev h)) ≡ e
      prev_to = sym (planar.mesh.sound.joined (prev_of s (rev h)) tri.live_z) ∙ ap (origin_of s) tri.next_z

      not_beyond : z ≢ c → Beyond h → pos 0 ≤ℤ orient2d_of (at o) (at c) (at z) → pos 0 ≤ℤ orient2d_of (at c) (at e) (at z) → ⊥
      not_beyond not_c beyond two three =
          none_in m at planar (rev h) e o c tri.live_x (inner_far m planar.mesh planar.triangles at planar.plane planar.convex v y ends h crosses) refl next_from refl k z live_k is_z
          (not_left e crosses.left) (not_right o crosses.right) not_c
          ((let a = orient2d-first_swapped (at o) (at e) (at z) in omega (arith, ordered, a, beyond)), two, three)

      seen_beyond : Beyond h → pos 0 ≤ℤ orient2d_of (at e) (at o) (at z)
      seen_beyond beyond = (let a = orient2d-first_swapped (at o) (at e) (at z) in omega (arith, ordered, a, beyond))

      -- it isn't in the triangle beyond, so it lies beyond the next half edge too
      goes_on : Beyond h → (j : ℕ) → Crosses at s v y j → face_of s j ≡ face_of s (rev h) → Beyond j
      goes_on beyond j crosses_j on =
          of_face m planar.mesh (face_of s (rev h)) (rev h) (next_of s (rev h)) (prev_of s (rev h)) tri (λ i. Crosses at s v y i → Beyond i)
          (λ d. absurd (let a = d.right in let b = crosses.left in omega (arith, ordered, a, b)))
          (λ d.
          let left = subst (λ (i : ℕ). pos 0 <ℤ off i) next_to d.left in
          subst (λ (i : ℕ). orient2d_of (at i) (at (end_of s (next_of s (rev h)))) (at z) ≤ℤ pos 0) (sym next_from)
          (subst (λ (i : ℕ). orient2d_of (at o) (at i) (at z) ≤ℤ pos 0) (sym next_to)
          (by_lt_z (pos 0) (orient2d_of (at o) (at c) (at z))
          (λ before. absurd
          (let two : pos 0 ≤ℤ orient2d_of (at o) (at c) (at z) = omega (arith, ordered, before) in
          not_beyond (not_left c left) beyond two (inside_right (at v) (at y) (at e) (at o) (at c) (at z) crosses.left crosses.right left lies.on (seen_beyond beyond) two)))
          (λ not. not))))
          (λ d.
          subst (λ (i : ℕ). orient2d_of (at c) (at i) (at z) ≤ℤ pos 0) (sym prev_to)
          (by_lt_z (pos 0) (orient2d_of (at c) (at e) (at z))
          (λ before. absurd
          (let three : pos 0 ≤ℤ orient2d_of (at c) (at e) (at z) = omega (arith, ordered, before) in
          not_beyond (not_right c d.right) beyond (inside_left (at v) (at y) (at e) (at o) (at c) (at z) crosses.left crosses.right d.right lies.on (seen_beyond beyond) three) three))
          (λ not. not)))
          j crosses_j.live on crosses_j

      -- nor in the last one
      ends_there : IsCorner s (face_of s (rev h)) y → Beyond h → ⊥
      ends_there corner beyond =
          of_face m planar.mesh (face_of s (rev h)) (rev h) (next_of s (rev h)) (prev_of s (rev h)) tri (λ i. origin_of s i ≡ y → ⊥)
          (λ is. (let a = subst (λ (i : ℕ). pos 0 <ℤ off i) is crosses.left in let b = at_y in omega (arith, ordered, a, b)))
          (λ is. (let a = subst (λ (i : ℕ). off i <ℤ pos 0) (sym next_from ∙ is) crosses.right in let b = at_y in omega (arith, ordered, a, b)))
          (λ is.
          not_beyond (λ same. lies_not_end at v y z lies (same ∙ is)) beyond
          (subst (λ (i : ℕ). pos 0 ≤ℤ orient2d_of (at o) (at i) (at z)) (sym is)
          (let a = to_right_later at v y z lies (at o) crosses.right in
          let t = orient2d-turned (at z) (at y) (at o) in
          let t' = orient2d-turned (at y) (at o) (at z) in
          let f = orient2d-last_swapped (at o) (at z) (at y) in
          omega (arith, ordered, a, t, t', f)))
          (subst (λ (i : ℕ). pos 0 ≤ℤ orient2d_of (at i) (at e) (at z)) (sym is)
          (let a = to_left_later at v y z lies (at e) crosses.left in let t = orient2d-turned (at z) (at y) (at e) in omega (arith, ordered, a, t))))
          corner.side corner.live corner.on corner.from

      -- nor in the first one
      begins_there : IsCorner s (face_of s h) v → Beyond h
      begins_there corner =
          of_face m planar.mesh (face_of s h) h (next_of s h) (prev_of s h) (near m planar.mesh planar.triangles at planar.plane planar.convex v y ends h crosses)
          (λ i. origin_of s i ≡ v → Beyond h)
          (λ is. absurd (let a = subst (λ (i : ℕ). off i <ℤ pos 0) is crosses.right in let b = at_v in omega (arith, ordered, a, b)))
          (λ is. absurd (let a = subst (λ (i : ℕ). pos 0 <ℤ off i) (sym (planar.mesh.sound.joined h crosses.live) ∙ is) crosses.left in let b = at_v in omega (arith, ordered, a, b)))
          (λ is.
          by_lt_z (pos 0) (orient2d_of (at o) (at e) (at z))
          (λ before. absurd
          (none_in m at planar h o e v crosses.live (inner_near m planar.mesh planar.triangles at planar.plane planar.convex v y ends h crosses) refl
          (planar.mesh.sound.joined h crosses.live) is k z live_k is_z (not_right o crosses.right) (not_left e crosses.left) (lies_not_start at v y z lies) (
            omega (arith, ordered, before),
            (let a = to_left_sooner at v y z lies (at e) crosses.left in let t = orient2d-turned (at e) (at v) (at z) in omega (arith, ordered, a, t)),
            (let a = to_right_sooner at v y z lies (at o) crosses.right in let t = orient2d-last_swapped (at v) (at z) (at o) in omega (arith, ordered, a, t)),
          )))
          (λ not. not))
          corner.side corner.live corner.on corner.from

    through : (h : ℕ) (rest : List ℕ) (last : ℕ) → Crosses at s v y h → LeadsThrough at s v y (face_of s (rev h)) rest last → IsCorner s last y → Beyond h → ⊥
    through h [] last crosses leads corner beyond = ends_there h crosses (subst (λ (i : ℕ). IsCorner s i y) (sym leads) corner) beyond
    through h (j ∷ rest) last crosses leads corner beyond = through j rest last leads.0 leads.2 corner (goes_on h crosses beyond j leads.0 leads.1)

    none_between : (h : ℕ) (rest : List ℕ) → IsChannel at s v y (h ∷ rest) → ⊥
    none_between h rest channel =
        through h rest channel.last channel.leads.0 channel.leads.2 channel.end
        (begins_there h channel.leads.0 (subst (λ (i : ℕ). IsCorner s i v) (sym channel.leads.1) channel.start))

  -- so no vertex lies on a segment that leads through a list
  pub channel_clear : (v y h : ℕ) (rest : List ℕ) → IsChannel at s v y (h ∷ rest) → IsClear at s v y
  channel_clear v y h rest channel = record {
    clear = λ k live on.
        by_lt_z (dot (at v) (at y) (at (origin_of s k))) (pos 0)
        (λ less. absurd (none_between v y (ends_of at s v y (h ∷ rest) channel) k (origin_of s k) live refl (record { on = on; inside = less }) h rest channel))
        (λ not. not);
  }

  -- what crosses the segment before y crosses the part up to y
  module _ (v w : ℕ) (ends : AreEnds m.shape v w) (y : ℕ) (lies : LiesBetweenEnds at v w y) where
    abbrev whole : ℤ
    whole = dot (at w) (at w) (at v)

    abbrev part : ℤ
    part = dot (at y) (at w) (at v)

    -- how far before the segment's start a half edge lies, and how far before its end
    by_width : (o e : Point) → orient2d_of o e (at v) -ℤ orient2d_of o e (at w) ≡ orient2d_of (at v) (at w) e -ℤ orient2d_of (at v) (at w) o
    by_width o e =
        by_terms ((at v).x ∷ (at v).y ∷ (at w).x ∷ (at w).y ∷ o.x ∷ o.y ∷ e.x ∷ e.y ∷ [])
        (minus (orient (spot 2) (spot 3) (spot 0)) (orient (spot 2) (spot 3) (spot 1))) (minus (orient (spot 0) (spot 1) (spot 3)) (orient (spot 0) (spot 1) (spot 2))) refl

    abbrev near_of : ℕ → ℤ
    near_of h = orient2d_of (at (origin_of s h)) (at (end_of s h)) (at v)

    abbrev side : ℕ → ℤ
    side h = orient2d_of (at (origin_of s h)) (at (end_of s h)) (at y)

    -- so y lies beyond it if the part of its width up to it is less than that of y
    side_is : (h : ℕ) → whole *ℤ side h ≡ (near_of h *ℤ whole) -ℤ (part *ℤ width at s v w h)
    side_is h =
        shared whole part (near_of h) (orient2d_of (at (origin_of s h)) (at (end_of s h)) (at w)) (side h) (width at s v w h)
        (side_of at v w y lies (at (origin_of s h)) (at (end_of s h))) (by_width (at (origin_of s h)) (at (end_of s h)))
      where
        shared : (n p a b t d : ℤ) → n *ℤ t ≡ ((n -ℤ p) *ℤ a) +ℤ (p *ℤ b) → a -ℤ b ≡ d → n *ℤ t ≡ (a *ℤ n) -ℤ (p *ℤ d)
        shared n p a b t d is apart =
            (let e = sub_mul n p a in let f = mul_sub p a b in let g = ap (λ i. p *ℤ i) apart in let c = *ℤ_comm n a in omega (arith, ordered, is, e, f, g, c))

    wide : (h : ℕ) → Crosses at s v w h → pos 0 <ℤ width at s v w h
    wide h c = (let a = c.left in let b = c.right in omega (arith, ordered, a, b))

    beyond_before : (j h : ℕ) → Crosses at s v w j → Crosses at s v w h → (near_of j *ℤ width at s v w h) <ℤ (near_of h *ℤ width at s v w j) → side h <ℤ pos 0 → side j <ℤ pos 0
    beyond_before j h cj ch less beyond =
        let eh = side_is h in
        let ej = side_is j in
        let far = lies_far at v w y lies in
        let t = times_below whole (side h) far beyond in
        let ordered_too = less_first (near_of j) (width at s v w j) (near_of h) (width at s v w h) part whole (wide j cj) (wide h ch) far less (omega (arith, ordered, eh, t)) in
        factor_below whole (side j) far (omega (arith, ordered, ej, ordered_too))

    -- the faces that the segment leads through are those of the part
    leads_part : (f : ℕ) (list : List ℕ) (g : ℕ) → LeadsThrough at s v w f list g → ((j : ℕ) → 0 < count_of j list → Crosses at s v y j) → LeadsThrough at s v y f list g
    leads_part f [] g leads each = leads
    leads_part f (j ∷ rest) g leads each = (
      each j (let c = count-same j rest in omega (arith, c)),
      leads.1,
      leads_part (face_of s (rev j)) rest g leads.2 (λ i found. each i (count-later i j rest found)),
    )

    abbrev ComesTo : List ℕ → ℕ → Type 0
    ComesTo = Comes m planar.mesh planar.triangles at planar.plane planar.convex planar.hull v w ends

    -- a walk that comes to y has passed a channel
    module _ (passed : List ℕ) (h : ℕ) (comes : ComesTo passed h) (is : corner_beyond m.shape h ≡ y) where
      beyond : side h <ℤ pos 0
      beyond =
          (let t = subst (λ (i : ℕ). TurnsLeft (at (end_of s h)) (at (origin_of s h)) (at i)) is
          (left_far m planar.mesh planar.triangles at planar.plane planar.convex v w ends h comes.crosses) in
          let f = orient2d-first_swapped (at (origin_of s h)) (at (end_of s h)) (at y) in
          omega (arith, ordered, t, f))

      each_crosses : (j : ℕ) → 0 < count_of j (passed ++ (h ∷ [])) → Crosses at s v y j
      each_crosses j found = elim (cases_eq j h) [
        | inl same ↦ subst (λ (i : ℕ). Crosses at s v y i) (sym same) (crosses_before at v w y lies s h comes.crosses beyond)
        | inr not ↦
            let among : 0 < count_of j passed = (let a = count-append j passed (h ∷ []) in let b = count-other j h [] not in omega (arith, a, b, found)) in
            let crosses = all_cross at s v w comes.first (face_of s h) passed comes.leads j among in
            crosses_before at v w y lies s j crosses (beyond_before j h crosses comes.crosses (comes.before j among).less beyond)
      ]

      pub comes_to_vertex : IsChannel at s v y (passed ++ (h ∷ []))
      comes_to_vertex =
          let tri = far m planar.mesh planar.triangles at planar.plane planar.convex v w ends h comes.crosses in record {
            first = comes.first;
            last = face_of s (rev h);
            inner = comes.inner;
            start = comes.start;
            end = record { side = prev_of s (rev h); live = tri.live_z; on = tri.face_z; from = is };
            leads =
                leads_part comes.first (passed ++ (h ∷ [])) (face_of s (rev h))
                (leads_on at s v w comes.first (face_of s h) (face_of s (rev h)) passed (h ∷ []) comes.leads (comes.crosses, refl, refl)) each_crosses;
            once = one_more m planar.mesh planar.triangles at planar.plane planar.convex planar.hull v w ends passed h comes;
          }
