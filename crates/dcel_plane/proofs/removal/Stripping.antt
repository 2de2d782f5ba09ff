-- A corner of the hull has a strip, and what is given up with a strip.
use Rattle.std.proofs.Common.{◌≡◌, ◌≢◌, ◌⊎◌, inl, inr, ℕ, zero, suc, ◌+◌, ◌-◌, ◌/◌, ◌<◌, List, [], ◌∷◌, ◌++◌, length, length-append, map, slice_set, refl, sym, ap, ◌∙◌, subst, pos, arith}
use Rattle.std.proofs.lemmas.Bool.{cases_lt}
use Rattle.std.proofs.lemmas.List.{length-map, length-set}
use Rattle.dcel_fixed.specs.HalfEdges.{rev}
use Rattle.dcel_fixed.proofs.Halves.{rev-rev}
use Rattle.dcel_predicates.specs.declared.point.Point.{Point}
use Rattle.dcel_predicates.specs.Determinants.{orient2d_of}
use Rattle.dcel_predicates.proofs.Points.{orient2d-last_swapped}
use Rattle.dcel_predicates.proofs.Signs.{ordered}
use Rattle.dcel_maps.specs.edits.Strip.{strip_cut, strip_edges, strip_faces, strip_half, strip_record, strip_word}
use Rattle.dcel_maps.specs.Maps.{NextOrRev}
use Rattle.dcel_maps.specs.Removals.{ascending, gives_up_face, opened}
use Rattle.dcel_maps.specs.Shapes.{IsLive, IsMesh, Mesh, Shape, end_of, face_count, face_of, map_of, next_of, origin_of, prev_of}
use Rattle.dcel_maps.specs.Strips.{IsEdgeStrip, IsStripAround}
use Rattle.dcel_maps.specs.Triangulations.{AllTriangles}
use Rattle.dcel_maps.specs.Walking.{IsOutEdge, IsRoundTrip, ccw_of, walk_of}
use Rattle.dcel_maps.specs.Words.{word_of}
use Rattle.dcel_maps.proofs.maps.Reaching.{reaches_stays}
use Rattle.dcel_maps.proofs.maps.Soundness.{face_cycles, rev_live}
use Rattle.dcel_maps.proofs.removal.Hiding.{length-hiding}
use Rattle.dcel_maps.proofs.removal.StripItems.{half-is, strip-is}
use Rattle.dcel_maps.proofs.removal.StripSectors.{long_iff}
use Rattle.dcel_maps.proofs.removal.StripSpokes.{trip}
use Rattle.dcel_maps.proofs.shapes.Maps.{face-live, map-sound}
use Rattle.dcel_maps.proofs.walks.Links.{ccw-lawful, links_stand, next-live}
use Rattle.dcel_maps.proofs.walks.Turning.{walk-out_edges}
use Rattle.dcel_maps.proofs.walks.UnderWay.{walk-round}
use Rattle.dcel_maps.proofs.words.Ascending.{length-ascending}
use Rattle.dcel_maps.proofs.words.EachSet.{but_last-is}
use Rattle.dcel_maps.proofs.words.Reading.{face-prev}
use Rattle.dcel_plane.specs.Plane.{TrianglesTurnLeft, TurnsLeft}
use Rattle.dcel_plane.specs.covering.Covering.{IsConvex, IsHull}
use Rattle.dcel_plane.specs.removal.Wheels.{CanFlipInPlane, IsFan, IsHollow, LiesOnHull, turns}
use Rattle.dcel_plane.proofs.removal.HullCorners.{corner_fan, corner_turn}
use Rattle.dcel_plane.proofs.removal.Turning.{closes}

-- the last neighbor of a fan is not the first
pub fan_open : (v : Point) (u : ℕ → Point) (k : ℕ) → IsFan v u k → 0 < k → u k ≡ u 0 → ⊥
fan_open v u zero fan some same = omega (arith, some)
fan_open v u (suc k) fan some same =
    let left = fan.left k (omega arith) in
    let ahead = fan.ahead k (omega arith) in
    let e : u (k + 1) ≡ u 0 = ap u (let n : k + 1 ≡ suc k = omega arith in n) ∙ same in
    let left' : TurnsLeft v (u k) (u 0) = subst (λ (q : Point). TurnsLeft v (u k) q) e left in
    let turned = orient2d-last_swapped v (u 0) (u k) in
    omega (arith, ordered, left', ahead, turned)

-- two half edges that lead to each other are all that there is
pub two_alone : {V DE UE F : Type 0} (m : Mesh V DE UE F) → IsMesh m → (x : ℕ) → IsLive m.shape x → next_of m.shape x ≡ rev x → next_of m.shape (rev x) ≡ x
    → (y : ℕ) → IsLive m.shape y → (y ≡ x) ⊎ (y ≡ rev x)
two_alone m mesh x live there back y live_y =
    let P : ℕ → Type 0 = λ z. (z ≡ x) ⊎ (z ≡ rev x) in
    reaches_stays (NextOrRev (map_of m.shape)) (λ z. (z ≡ x) ⊎ (z ≡ rev x))
    (λ a b p r. elim r [
      | inl i ↦ subst P i (elim p [ inl is ↦ inr (ap (next_of m.shape) is ∙ there) | inr is ↦ inl (ap (next_of m.shape) is ∙ back) ])
      | inr i ↦ subst P i (elim p [ inl is ↦ inr (ap rev is) | inr is ↦ inl (ap rev is ∙ rev-rev x) ])
    ]) (inl refl)
    (mesh.sphere.connected x y live live_y)

module _ {V DE UE F : Type 0} (m : Mesh V DE UE F) (mesh : IsMesh m) (triangles : AllTriangles m.shape) (at : ℕ → Point) (plane : TrianglesTurnLeft at m.shape)
    (convex : IsConvex at m.shape) (hull : IsHull at m.shape) (h : ℕ) (live : IsLive m.shape h) (outer : face_of m.shape h ≡ 0) where
  abbrev s : Shape
  s = m.shape

  round : IsRoundTrip (ccw_of m.shape) h (walk_of m.shape (ccw_of m.shape) h)
  round = walk-round (ccw-lawful mesh.sound) h live

  long : 0 < length (walk_of m.shape (ccw_of m.shape) h)
  long = (let e = ap length round.from in omega (arith, e))

  outer_prev : face_of s (prev_of s h) ≡ 0
  outer_prev = face-prev (map_of s) s.words (links_stand mesh.sound) h live ∙ outer

  along : (x : ℕ) → IsLive s x → face_of s (next_of s x) ≡ face_of s x
  along x live_x = (face_cycles (map_of s) (map-sound mesh.sound)).along x live_x

  -- where two halves of an edge lie outside, nothing else does
  pub bridge_alone : (x : ℕ) → IsLive m.shape x → face_of m.shape x ≡ 0 → face_of m.shape (rev x) ≡ 0 → (y : ℕ) → IsLive m.shape y → (y ≡ x) ⊎ (y ≡ rev x)
  bridge_alone x live_x on on_rev =
      let live_rev = rev_live (map_of s) x live_x in
      two_alone m mesh x live_x
      (hull.once (next_of s x) (rev x) (next-live mesh.sound x live_x) live_rev (along x live_x ∙ on) on_rev (mesh.sound.joined x live_x))
      (hull.once (next_of s (rev x)) x (next-live mesh.sound (rev x) live_rev) live_x (along (rev x) live_rev ∙ on_rev) on
      (mesh.sound.joined (rev x) live_rev ∙ ap (origin_of s) (rev-rev x)))

  -- where there is a triangle, there is one at each corner
  pub some_spoke : (g : ℕ) → IsLive m.shape g → 0 < face_of m.shape g → 1 < length (walk_of m.shape (ccw_of m.shape) h)
  some_spoke g live_g inner = elim (cases_lt 1 (length (walk_of s (ccw_of s) h))) [
    | inl more ↦ more
    | inr few ↦ absurd
        (let l = long in
        let one : length (walk_of s (ccw_of s) h) ≡ 1 = omega (arith, few, l) in
        let back : ccw_of s h ≡ h = sym (ap (λ n. turns (ccw_of s) n h) one) ∙ closes (ccw_of s) h (walk_of s (ccw_of s) h) round in
        let before : prev_of s h ≡ rev h = sym (rev-rev (prev_of s h)) ∙ ap rev back in
        let on_rev : face_of s (rev h) ≡ 0 = ap (face_of s) (sym before) ∙ outer_prev in
        elim (bridge_alone h live outer on_rev g live_g) [
          | inl is ↦ (let e = ap (face_of s) is in omega (arith, e, outer, inner))
          | inr is ↦ (let e = ap (face_of s) is in omega (arith, e, on_rev, inner))
        ])
  ]

  abbrev neighbor : ℕ → Point
  neighbor i = at (end_of m.shape (turns (ccw_of m.shape) (suc i) h))

  not_back : 1 < length (walk_of m.shape (ccw_of m.shape) h) → next_of s (next_of s h) ≢ h
  not_back many back =
      let w = walk_of s (ccw_of s) h in
      let before : prev_of s h ≡ next_of s h = ap (prev_of s) (sym back) ∙ (map-sound mesh.sound).prev-next (next_of s h) (next-live mesh.sound h live) in
      let first : end_of s (ccw_of s h) ≡ end_of s h = ap (origin_of s) (rev-rev (prev_of s h)) ∙ ap (origin_of s) before ∙ mesh.sound.joined h live in
      let e : suc (length w - 1) ≡ length w = omega (arith, many) in
      let last : turns (ccw_of s) (suc (length w - 1)) h ≡ h = ap (λ n. turns (ccw_of s) n h) e ∙ closes (ccw_of s) h w round in
      fan_open (at (origin_of s h)) neighbor (length w - 1) (corner_fan m mesh triangles at plane convex hull h live outer w round) (omega (arith, many))
      (ap at (ap (end_of s) last ∙ sym first))

  pub corner_strip : (g : ℕ) → IsLive m.shape g → 0 < face_of m.shape g → IsStripAround m.shape (origin_of m.shape h) h
  corner_strip g live_g inner =
      record {
        out = record { live = live; start = refl };
        outer = outer;
        only = λ x out on. hull.once x h out.live live on outer out.start;
        triangles = λ x out inside. triangles (face_of s x) (omega (arith, inside)) (face-live mesh.sound x out.live);
        long = subst (λ f. 2 < length (word_of s.words f)) outer ((long_iff s mesh.sound h live).1 (not_back (some_spoke g live_g inner)));
      }

  -- an edge can be flipped, or the corner can go: it lies between its neighbors, or is hollow
  module _ (none : (e : ℕ) → IsOutEdge m.shape (origin_of m.shape h) e → ¬ CanFlipInPlane at m.shape (e / 2)) (g : ℕ) (live_g : IsLive m.shape g) (inner_g : 0 < face_of m.shape g) where
    abbrev w : List ℕ
    w = walk_of m.shape (ccw_of m.shape) h

    abbrev Hollow : Type 0
    Hollow = IsHollow (at (origin_of m.shape h)) (λ i. at (end_of m.shape (turns (ccw_of m.shape) (suc i) h))) (length (walk_of m.shape (ccw_of m.shape) h) - 1)

    abbrev Lies : Type 0
    Lies = LiesOnHull (at (origin_of m.shape h)) (λ i. at (end_of m.shape (turns (ccw_of m.shape) (suc i) h))) (length (walk_of m.shape (ccw_of m.shape) h) - 1)

    -- the last neighbor is where the outer half edge ends
    last : neighbor (length w - 1) ≡ at (end_of s h)
    last =
        let many = some_spoke g live_g inner_g in
        let e : suc (length w - 1) ≡ length w = omega (arith, many) in
        ap (λ k. at (end_of s k)) (ap (λ n. turns (ccw_of s) n h) e ∙ closes (ccw_of s) h w round)

    gone : Hollow ⊎ Lies
    gone = elim (cases_lt 2 (length w)) [
      | inl many ↦ elim (corner_turn m mesh triangles at plane convex hull h live outer w round many) [
        | inr either ↦ either
        | inl found ↦ absurd
            (none found.0 ((walk-out_edges mesh.sound (origin_of s h) h (record { live = live; start = refl })).no_other found.0 found.1) found.2)
      ]
      | inr few ↦
          let fan = corner_fan m mesh triangles at plane convex hull h live outer w round in
          let more = some_spoke g live_g inner_g in
          let one : length w - 1 ≡ 0 + 1 = omega (arith, few, more) in
          inl (record {
            strict = subst (λ (k : ℕ). TurnsLeft (at (origin_of s h)) (neighbor 0) (neighbor k)) (sym one) (fan.left 0 (omega (arith, one)));
            flat = λ i within. absurd (omega (arith, within, one));
          })
    ]

    pub corner_lies : orient2d_of (at (origin_of m.shape h)) (at (end_of m.shape h)) (at (end_of m.shape (ccw_of m.shape h))) ≡ pos 0 → Lies
    corner_lies flat = elim gone [
      | inr lies ↦ lies
      | inl hollow ↦ absurd
          (let left : TurnsLeft (at (origin_of s h)) (neighbor 0) (at (end_of s h)) = subst (λ (q : Point). TurnsLeft (at (origin_of s h)) (neighbor 0) q) last hollow.strict in
          let turned = orient2d-last_swapped (at (origin_of s h)) (neighbor 0) (at (end_of s h)) in
          omega (arith, ordered, left, turned, flat))
    ]

    pub corner_hollow : ¬ (orient2d_of (at (origin_of m.shape h)) (at (end_of m.shape h)) (at (end_of m.shape (ccw_of m.shape h))) ≡ pos 0) → Hollow
    corner_hollow turn = elim gone [
      | inl hollow ↦ hollow
      | inr lies ↦ absurd
          (let two : neighbor 2 ≡ at (end_of s h) = ap neighbor (sym lies.two) ∙ last in
          let on : orient2d_of (at (origin_of s h)) (neighbor 0) (at (end_of s h)) ≡ pos 0 =
          subst (λ (q : Point). orient2d_of (at (origin_of s h)) (neighbor 0) q ≡ pos 0) two lies.on in
          let turned = orient2d-last_swapped (at (origin_of s h)) (neighbor 0) (at (end_of s h)) in
          turn (omega (arith, ordered, on, turned)))
    ]

-- what is given up with a strip: the edges of the vertex, and one face less
pub record GivesUp {V DE UE F : Type 0} (m : Mesh V DE UE F) (list : List ℕ) (v h : ℕ) : Type 0 where
  pub removal : (strip_cut m list).shape.removal ≡ opened (strip_edges m.shape list) (strip_faces m.shape list) v
  pub faces : face_count (strip_cut m list).shape ≡ face_count m.shape
  pub one_more : length (ascending (strip_edges m.shape list)) ≡ length (ascending (strip_faces m.shape list)) + 1
  pub edges : length (ascending (strip_edges m.shape list)) ≡ length (walk_of m.shape (ccw_of m.shape) h)

pub strip_given_up : {V DE UE F : Type 0} (m : Mesh V DE UE F) → IsMesh m → (list : List ℕ) (strip : IsEdgeStrip m.shape list) → GivesUp m list strip.vertex strip.half
strip_given_up m mesh list strip =
    let s = m.shape in
    let items = map (next_of s) (trip s mesh.sound mesh.sphere strip.vertex strip.half strip.around).rest in
    let is : list ≡ items ++ next_of s strip.half ∷ [] = strip.is ∙ strip-is s mesh.sound mesh.sphere strip.vertex strip.half strip.around in
    let half : strip_half s list ≡ strip.half = ap (strip_half s) is ∙ half-is s mesh.sound mesh.sphere strip.vertex strip.half strip.around in
    let walked = trip s mesh.sound mesh.sphere strip.vertex strip.half strip.around in
    let long : length (walk_of s (ccw_of s) strip.half) ≡ length items + 1 =
    ap length walked.from ∙ (let l = length-map walked.rest (next_of s) in omega (arith, l)) in
    let edges : length (strip_edges s list) ≡ length items + 1 =
    length-map list (λ e. prev_of s e / 2) ∙ ap length is ∙ length-append items (next_of s strip.half ∷ []) in
    let faces : length (strip_faces s list) ≡ length items =
    ap (λ l. length (strip_faces s l)) is ∙ ap (λ l. length (map (face_of s) l)) (but_last-is items (next_of s strip.half)) ∙ length-map items (face_of s) in
    record {
      removal = ap (opened (strip_edges s list) (strip_faces s list)) (ap (origin_of s) half ∙ strip.around.out.start);
      faces = length-hiding (gives_up_face (strip_record s list)) [] (slice_set s.words 0 (strip_word s list)) ∙ length-set s.words 0 (strip_word s list);
      edges = length-ascending (strip_edges s list) ∙ edges ∙ sym long;
      one_more = length-ascending (strip_edges s list) ∙ edges ∙ ap (λ n. n + 1) (sym faces ∙ sym (length-ascending (strip_faces s list)));
    }
