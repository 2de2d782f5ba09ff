-- The border loop of a vertex inside of triangles, from where the triangles that fill it turn left.
use Rattle.std.proofs.Common.{◌≡◌, ◌≢◌, inl, inr, ℕ, ◌<◌, ◌≤◌, List, [], ◌∷◌, length, map, reverse, Option, Some, None, sym, ap, ◌∙◌, subst, arith}
use Rattle.std.proofs.lemmas.Bool.{cases_eq}
use Rattle.dcel_maps.specs.Borders.{IsBorderLoop}
use Rattle.dcel_maps.specs.Shapes.{AnchorsVertex, IsLive, IsMesh, Mesh, Shape, face_of, next_of, origin_of, vertex_anchor}
use Rattle.dcel_maps.specs.Walking.{IsOutEdge, ccw_of, walk_of}
use Rattle.dcel_predicates.specs.declared.point.Point.{Point}
use Rattle.dcel_plane.specs.Plane.{point_at}
use Rattle.dcel_plane.specs.removal.Wheels.{MakesTwo}
use Rattle.dcel_plane.proofs.removal.Bordering.{border_from, few_spokes, four_spokes, many_spokes, third_back, third_differs, three_spokes, two_from}
use Rattle.dcel_delaunay.specs.Removing.{BeginsBorder, IsFilled, IsThinnedOut}

module _ {DE UE F : Type 0} where
  -- a vertex that has an edge has an anchor
  pub has_anchor : (m : Mesh Point DE UE F) → IsMesh m → (v : ℕ) → IsThinnedOut m v → vertex_anchor m v ≢ None
  has_anchor m mesh v thin none =
      let (k, out) = thin.some in
      bare (vertex_anchor m v) (mesh.anchored.vertices v thin.below) none k out
    where
      bare : (anchor : Option ℕ) → AnchorsVertex m.shape v anchor → anchor ≡ None → (k : ℕ) → IsOutEdge m.shape v k → ⊥
      bare None none_starts is k out = none_starts k out.live out.start
      bare (Some h) anchored is k out = cc

  -- the search for where the border begins
  pub begins_two : (m n : Mesh Point DE UE F) (v k i : ℕ) → n ≡ m → IsOutEdge m.shape v k → MakesTwo (point_at n) n.shape k → i ≡ k → BeginsBorder m v i
  begins_two m n v k i same out two is =
      subst (λ (h : ℕ). BeginsBorder m v h) (sym is)
      (record { out = out; two = inl (subst (λ (x : Mesh Point DE UE F). MakesTwo (point_at x) x.shape k) same two) })

  pub begins_at : (m lent : Mesh Point DE UE F) (v w h i : ℕ) → lent ≡ m → w ≡ v → Some h ≡ vertex_anchor lent w → AnchorsVertex lent.shape w (vertex_anchor lent w) → i ≡ h
      → ((k : ℕ) → IsOutEdge m.shape v k → ¬ MakesTwo (point_at m) m.shape k) → BeginsBorder m v i
  begins_at m lent v w h i same number anchor anchored is none =
      let starts : AnchorsVertex m.shape v (Some h) =
      subst (λ (k : ℕ). AnchorsVertex m.shape k (Some h)) number
      (subst (λ (x : Mesh Point DE UE F). AnchorsVertex x.shape w (Some h)) same (subst (λ (a : Option ℕ). AnchorsVertex lent.shape w a) (sym anchor) anchored)) in
      subst (λ (k : ℕ). BeginsBorder m v k) (sym is) (record { out = record { live = starts.0; start = starts.1 }; two = inr (inl none) })

  -- three steps lead back
  pub begins_three : (m lent n : Mesh Point DE UE F) (v w h i : ℕ) → lent ≡ m → w ≡ v → Some h ≡ vertex_anchor lent w → AnchorsVertex lent.shape w (vertex_anchor lent w) → i ≡ h
      → n ≡ lent → ccw_of n.shape (ccw_of n.shape (ccw_of n.shape h)) ≡ h → BeginsBorder m v i
  begins_three m lent n v w h i same number anchor anchored is behind back =
      let starts : AnchorsVertex m.shape v (Some h) =
      subst (λ (k : ℕ). AnchorsVertex m.shape k (Some h)) number
      (subst (λ (x : Mesh Point DE UE F). AnchorsVertex x.shape w (Some h)) same (subst (λ (a : Option ℕ). AnchorsVertex lent.shape w a) (sym anchor) anchored)) in
      subst (λ (k : ℕ). BeginsBorder m v k) (sym is)
      (record {
        out = record { live = starts.0; start = starts.1 };
        two = inr (inr (subst (λ (x : Mesh Point DE UE F). ccw_of x.shape (ccw_of x.shape (ccw_of x.shape h)) ≡ h) (behind ∙ same) back));
      })

  module _ (m : Mesh Point DE UE F) (mesh : IsMesh m) (v : ℕ) (thin : IsThinnedOut m v) (h : ℕ) (begins : BeginsBorder m v h) where
    abbrev s : Shape
    s = m.shape

    inner : (k : ℕ) → IsLive m.shape k → origin_of m.shape k ≡ origin_of m.shape h → 0 < face_of m.shape k
    inner k live same = thin.inside k (record { live = live; start = same ∙ begins.out.start })

    abbrev w : List ℕ
    w = walk_of m.shape (ccw_of m.shape) h

    few : length (walk_of m.shape (ccw_of m.shape) h) ≤ 4
    few =
        few_spokes m mesh thin.triangles (point_at m) thin.plane thin.hull.convex thin.hull.hull h begins.out.live inner
        (λ e out. thin.none e (record { live = out.live; start = out.start ∙ begins.out.start }))

    many : 3 ≤ length (walk_of m.shape (ccw_of m.shape) h)
    many = many_spokes m mesh thin.triangles (point_at m) thin.plane thin.hull.convex thin.hull.hull h begins.out.live inner

    round : (border : List ℕ) → reverse border ≡ map (next_of m.shape) (walk_of m.shape (ccw_of m.shape) h)
        → (l : IsBorderLoop m.shape border (origin_of m.shape h)) × (l.first ≡ h)
    round = border_from m mesh thin.triangles (point_at m) thin.plane thin.hull.convex thin.hull.hull h begins.out.live inner

    two : length (walk_of m.shape (ccw_of m.shape) h) ≡ 4 → MakesTwo (point_at m) m.shape h
    two four = elim begins.two [
      | inl makes ↦ makes
      | inr (inr back) ↦ absurd (third_differs m mesh thin.triangles (point_at m) thin.plane thin.hull.convex thin.hull.hull h begins.out.live inner four back)
      | inr (inl none) ↦ absurd
          (let found = two_from m mesh thin.triangles (point_at m) thin.plane thin.hull.convex thin.hull.hull h begins.out.live inner four in
          none found.0 (record { live = found.1.live; start = found.1.start ∙ begins.out.start }) found.2)
    ]

    at_start : (border : List ℕ) → IsFilled m (origin_of m.shape h) border → IsFilled m v border
    at_start border filled = subst (λ (k : ℕ). IsFilled m k border) begins.out.start filled

    filled_three : length w ≡ 3 → (border : List ℕ) → border ≡ next_of s (ccw_of s (ccw_of s h)) ∷ next_of s (ccw_of s h) ∷ next_of s h ∷ [] → IsFilled m v border
    filled_three three border is =
        let spokes = three_spokes m mesh thin.triangles (point_at m) thin.plane thin.hull.convex thin.hull.hull h begins.out.live inner three in
        let (l, first) = round border (ap reverse is ∙ sym (ap (map (next_of s)) spokes)) in
        at_start border (record { round = l; triangles = inl (ap length is) })

    filled_four : length w ≡ 4 → (border : List ℕ)
        → border ≡ next_of s (ccw_of s (ccw_of s (ccw_of s h))) ∷ next_of s (ccw_of s (ccw_of s h)) ∷ next_of s (ccw_of s h) ∷ next_of s h ∷ [] → IsFilled m v border
    filled_four four border is =
        let spokes = four_spokes m mesh thin.triangles (point_at m) thin.plane thin.hull.convex thin.hull.hull h begins.out.live inner four in
        let (l, first) = round border (ap reverse is ∙ sym (ap (map (next_of s)) spokes)) in
        at_start border (record { round = l; triangles = inr (ap length is, subst (λ (k : ℕ). MakesTwo (point_at m) s k) (sym first) (two four)) })

    -- by whether the third step leads back
    pub three_filled : ccw_of m.shape (ccw_of m.shape (ccw_of m.shape h)) ≡ h → (border : List ℕ)
        → border ≡ next_of m.shape (ccw_of m.shape (ccw_of m.shape h)) ∷ next_of m.shape (ccw_of m.shape h) ∷ next_of m.shape h ∷ [] → IsFilled m v border
    three_filled back border is = elim (cases_eq (length w) 3) [
      | inl three ↦ filled_three three border is
      | inr not ↦ absurd
          (let least = many in
          let most = few in
          third_differs m mesh thin.triangles (point_at m) thin.plane thin.hull.convex thin.hull.hull h begins.out.live inner (omega (arith, least, most, not)) back)
    ]

    pub four_filled : ccw_of m.shape (ccw_of m.shape (ccw_of m.shape h)) ≢ h → (border : List ℕ)
        → border ≡ next_of m.shape (ccw_of m.shape (ccw_of m.shape (ccw_of m.shape h))) ∷ next_of m.shape (ccw_of m.shape (ccw_of m.shape h)) ∷ next_of m.shape (ccw_of m.shape h) ∷ next_of m.shape h ∷ []
        → IsFilled m v border
    four_filled on border is = elim (cases_eq (length w) 4) [
      | inl four ↦ filled_four four border is
      | inr not ↦ absurd
          (let least = many in
          let most = few in
          on (third_back m mesh thin.triangles (point_at m) thin.plane thin.hull.convex thin.hull.hull h begins.out.live inner (omega (arith, least, most, not))))
    ]
