-- The border loop of a vertex inside of triangles, from any of its half edges on: it has three or more, and four at most where none of its
-- edges can be flipped.
use Rattle.std.proofs.Common.{◌≡◌, ◌≢◌, inl, inr, ℕ, zero, suc, ◌+◌, ◌/◌, ◌<◌, ◌≤◌, List, [], ◌∷◌, length, map, reverse, refl, sym, ap, ◌∙◌, subst, pos, ◌<ℤ◌, arith}
use Rattle.std.proofs.lemmas.Bool.{cases_lt}
use Rattle.std.proofs.lemmas.List.{length-map, length-reverse}
use Rattle.dcel_predicates.specs.declared.point.Point.{Point}
use Rattle.dcel_predicates.specs.Determinants.{orient2d_of}
use Rattle.dcel_predicates.proofs.Points.{orient2d-last_swapped}
use Rattle.dcel_predicates.proofs.Signs.{ordered}
use Rattle.dcel_maps.specs.Borders.{IsBorderLoop, StartsAlone}
use Rattle.dcel_maps.specs.Maps.{By}
use Rattle.dcel_maps.specs.Shapes.{IsLive, IsMesh, Mesh, Shape, end_of, face_of, next_of, origin_of}
use Rattle.dcel_maps.specs.theory.Cycles.{Path}
use Rattle.dcel_maps.specs.Triangulations.{AllTriangles}
use Rattle.dcel_maps.specs.Walking.{IsOutEdge, IsRoundTrip, ccw_of, walk_of}
use Rattle.dcel_maps.specs.Words.{count_of}
use Rattle.dcel_maps.proofs.walks.Links.{ccw-lawful}
use Rattle.dcel_maps.proofs.walks.Turning.{walk-out_edges}
use Rattle.dcel_maps.proofs.walks.UnderWay.{walk-round}
use Rattle.dcel_maps.proofs.words.Counts.{count-later, count-same}
use Rattle.dcel_maps.proofs.words.Mapped.{mapped_from}
use Rattle.dcel_plane.specs.Plane.{TrianglesTurnLeft}
use Rattle.dcel_plane.specs.covering.Covering.{IsConvex, IsHull}
use Rattle.dcel_plane.proofs.covering.Inside.{on_start}
use Rattle.dcel_plane.proofs.covering.Triangles.{is_triangle}
use Rattle.dcel_plane.specs.removal.Wheels.{CanFlipInPlane, IsWheel, MakesTwo, turns}
use Rattle.dcel_plane.proofs.removal.Cutting.{path_find}
use Rattle.dcel_plane.proofs.removal.Deleting.{two_items}
use Rattle.dcel_plane.proofs.removal.Flippable.{five_turn, round_wheel, two_turn}
use Rattle.dcel_plane.proofs.removal.Turning.{closes, least, out}
use Rattle.dcel_plane.proofs.edits.Corners.{three_items}

-- a wheel has three spokes or more
too_few : (v : Point) (u : ℕ → Point) (k : ℕ) → IsWheel v u k → 0 < k → k < 3 → ⊥
too_few v u zero wheel some few = omega (arith, some)
too_few v u (suc zero) wheel some few =
    let left = wheel.left 0 in
    let none : orient2d_of v (u 0) (u (0 + 1)) ≡ pos 0 = ap (λ (p : Point). orient2d_of v (u 0) p) (wheel.period 0) ∙ on_start v (u 0) in
    omega (arith, ordered, left, none)
too_few v u (suc (suc zero)) wheel some few =
    let first = wheel.left 0 in
    let second = wheel.left 1 in
    let back : orient2d_of v (u 1) (u (1 + 1)) ≡ orient2d_of v (u 1) (u 0) =
    ap (λ (p : Point). orient2d_of v (u 1) p) (ap u (let e : 1 + 1 ≡ 0 + 2 = omega arith in e) ∙ wheel.period 0) in
    let one : orient2d_of v (u 0) (u (0 + 1)) ≡ orient2d_of v (u 0) (u 1) = ap (λ (n : ℕ). orient2d_of v (u 0) (u n)) (let e : 0 + 1 ≡ 1 = omega arith in e) in
    let turned = orient2d-last_swapped v (u 0) (u 1) in
    omega (arith, ordered, first, second, back, one, turned)
too_few v u (suc (suc (suc k))) wheel some few = omega (arith, few)

-- spokes of one end are one
one_spoke : (v : Point) (u : ℕ → Point) (k i : ℕ) → IsWheel v u k → 0 < i → i < k → u i ≡ u 0 → ⊥
one_spoke v u k i wheel more less same =
    let at : u (0 + i) ≡ u 0 = ap u (let e : 0 + i ≡ i = omega arith in e) ∙ same in
    let none : orient2d_of v (u 0) (u (0 + i)) ≡ pos 0 = ap (λ (p : Point). orient2d_of v (u 0) p) at ∙ on_start v (u 0) in
    let left : pos 0 <ℤ orient2d_of v (u (0 + i)) (u (0 + 1)) = subst (λ (p : Point). pos 0 <ℤ orient2d_of v p (u (0 + 1))) (sym at) (wheel.left 0) in
    wheel.once 0 i more less (omega (arith, ordered, none)) left

module _ {V DE UE F : Type 0} (m : Mesh V DE UE F) (mesh : IsMesh m) (triangles : AllTriangles m.shape) (at : ℕ → Point) (plane : TrianglesTurnLeft at m.shape)
    (convex : IsConvex at m.shape) (hull : IsHull at m.shape) (h : ℕ) (live : IsLive m.shape h)
    (inner : (k : ℕ) → IsLive m.shape k → origin_of m.shape k ≡ origin_of m.shape h → 0 < face_of m.shape k) where
  abbrev s : Shape
  s = m.shape

  abbrev o : ℕ
  o = origin_of m.shape h

  abbrev spin : ℕ → ℕ
  spin i = turns (ccw_of m.shape) i h

  abbrev w : List ℕ
  w = walk_of m.shape (ccw_of m.shape) h

  trip : IsRoundTrip (ccw_of m.shape) h (walk_of m.shape (ccw_of m.shape) h)
  trip = walk-round (ccw-lawful mesh.sound) h live

  out_h : IsOutEdge m.shape (origin_of m.shape h) h
  out_h = record { live = live; start = refl }

  wheel : IsWheel (at (origin_of m.shape h)) (λ i. at (end_of m.shape (turns (ccw_of m.shape) i h))) (length (walk_of m.shape (ccw_of m.shape) h))
  wheel = round_wheel m mesh triangles at plane convex hull h live inner w trip

  rest_long : length (walk_of m.shape (ccw_of m.shape) h) ≡ suc (length trip.rest)
  rest_long = ap length trip.from ∙ (let e : length (h ∷ trip.rest) ≡ suc (length trip.rest) = refl in e)

  pub many_spokes : 3 ≤ length (walk_of m.shape (ccw_of m.shape) h)
  many_spokes = elim (cases_lt (length w) 3) [
    | inr more ↦ more
    | inl few ↦ absurd (let l = rest_long in too_few (at o) (λ i. at (end_of s (turns (ccw_of s) i h))) (length w) wheel (omega (arith, l)) few)
  ]

  ends_differ : (i : ℕ) → 0 < i → i < length w → end_of s (spin i) ≢ end_of s h
  ends_differ i more less same = one_spoke (at o) (λ j. at (end_of s (turns (ccw_of s) j h))) (length w) i wheel more less (ap at same)

  -- what comes after the others starts elsewhere
  alone : (x : ℕ) → 0 < count_of x trip.rest → origin_of s (next_of s x) ≢ origin_of s (next_of s h)
  alone x found same =
      let (n, below, is) = path_find (ccw_of s) h trip.rest h x trip.round (count-later x h trip.rest found) in
      let l = rest_long in
      let less : n < length w = omega (arith, below, l) in
      let live_n = (out m mesh triangles at plane convex hull h live inner n).alive in
      let ends : end_of s (spin n) ≡ end_of s h =
      sym (mesh.sound.joined (spin n) live_n) ∙ ap (λ k. origin_of s (next_of s k)) is ∙ same ∙ mesh.sound.joined h live in
      elim (cases_lt 0 n) [
        | inl more ↦ absurd (ends_differ n more less ends)
        | inr none ↦ absurd
            (let here : x ≡ h = sym is ∙ ap spin (let e : n ≡ 0 = omega (arith, none) in e) in
            let once : count_of h (h ∷ trip.rest) ≤ 1 = subst (λ (v : List ℕ). count_of h v ≤ 1) trip.from (trip.once h) in
            twice h trip.rest (subst (λ (k : ℕ). 0 < count_of k trip.rest) here found) once)
      ]
    where
      twice : (k : ℕ) (r : List ℕ) → 0 < count_of k r → count_of k (k ∷ r) ≤ 1 → ⊥
      twice k r found once = (let c = count-same k r in omega (arith, c, found, once))

  starts_alone : StartsAlone m.shape (map (next_of m.shape) (h ∷ trip.rest))
  starts_alone y found same =
      let (x, there, is) = mapped_from (next_of s) trip.rest y found in
      alone x there (ap (origin_of s) is ∙ same)

  pub border_from : (border : List ℕ) → reverse border ≡ map (next_of m.shape) (walk_of m.shape (ccw_of m.shape) h)
      → (l : IsBorderLoop m.shape border (origin_of m.shape h)) × (l.first ≡ h)
  border_from border ring =
      let many = many_spokes in
      let long : length border ≡ length w = sym (length-reverse border) ∙ ap length ring ∙ length-map w (next_of s) in (
        record {
          live = mesh.sound.starts_live h live;
          triangles = λ k other. let inside = inner k other.live other.start in (inside, is_triangle m mesh triangles k other.live inside);
          many = omega (arith, long, many);
          first = h;
          out = out_h;
          ring = ring;
          alone = subst (StartsAlone s) (sym (ring ∙ ap (map (next_of s)) trip.from)) starts_alone;
        },
        refl,
      )

  pub three_spokes : length (walk_of m.shape (ccw_of m.shape) h) ≡ 3 → walk_of m.shape (ccw_of m.shape) h ≡ h ∷ ccw_of m.shape h ∷ ccw_of m.shape (ccw_of m.shape h) ∷ []
  three_spokes three =
      let l = rest_long in
      let (y, z, is) = two_items trip.rest (omega (arith, l, three)) in
      let path : Path (By (ccw_of s)) h (y ∷ z ∷ []) h = subst (λ (r : List ℕ). Path (By (ccw_of s)) h r h) is trip.round in
      trip.from ∙ ap (λ (r : List ℕ). h ∷ r) is ∙ ap (λ (k : ℕ). h ∷ y ∷ k ∷ []) (sym path.1.0)
      ∙ ap (λ (k : ℕ). h ∷ k ∷ ccw_of s k ∷ []) (sym path.0)

  pub four_spokes : length (walk_of m.shape (ccw_of m.shape) h) ≡ 4
      → walk_of m.shape (ccw_of m.shape) h ≡ h ∷ ccw_of m.shape h ∷ ccw_of m.shape (ccw_of m.shape h) ∷ ccw_of m.shape (ccw_of m.shape (ccw_of m.shape h)) ∷ []
  four_spokes four =
      let l = rest_long in
      let (y, z, x, is) = three_items trip.rest (omega (arith, l, four)) in
      let path : Path (By (ccw_of s)) h (y ∷ z ∷ x ∷ []) h = subst (λ (r : List ℕ). Path (By (ccw_of s)) h r h) is trip.round in
      trip.from ∙ ap (λ (r : List ℕ). h ∷ r) is ∙ ap (λ (k : ℕ). h ∷ y ∷ z ∷ k ∷ []) (sym path.1.1.0)
      ∙ ap (λ (k : ℕ). h ∷ y ∷ k ∷ ccw_of s k ∷ []) (sym path.1.0)
      ∙ ap (λ (k : ℕ). h ∷ k ∷ ccw_of s k ∷ ccw_of s (ccw_of s k) ∷ []) (sym path.0)

  pub third_back : length (walk_of m.shape (ccw_of m.shape) h) ≡ 3 → ccw_of m.shape (ccw_of m.shape (ccw_of m.shape h)) ≡ h
  third_back three = sym (ap spin three) ∙ closes (ccw_of s) h w trip

  pub third_differs : length (walk_of m.shape (ccw_of m.shape) h) ≡ 4 → ccw_of m.shape (ccw_of m.shape (ccw_of m.shape h)) ≢ h
  third_differs four = least (ccw_of s) h w trip 3 (omega arith) (omega (arith, four))

  pub few_spokes : ((e : ℕ) → IsOutEdge m.shape (origin_of m.shape h) e → ¬ CanFlipInPlane at m.shape (e / 2)) → length (walk_of m.shape (ccw_of m.shape) h) ≤ 4
  few_spokes none = elim (cases_lt 4 (length w)) [
    | inr few ↦ few
    | inl five ↦ absurd
        (let found = five_turn m mesh triangles at plane convex hull h live inner w trip five in
        none found.0 ((walk-out_edges mesh.sound o h out_h).no_other found.0 found.1) found.2)
  ]

  pub two_from : length (walk_of m.shape (ccw_of m.shape) h) ≡ 4 → (e : ℕ) × IsOutEdge m.shape (origin_of m.shape h) e × MakesTwo at m.shape e
  two_from four =
      let found = two_turn m mesh triangles at plane convex hull h live inner w trip four in
      (found.0, (walk-out_edges mesh.sound o h out_h).no_other found.0 found.1, found.2)
