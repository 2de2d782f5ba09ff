-- A corner of the hull that lies between its neighbors, once its middle edge is flipped: one flat triangle is left there.
use Rattle.std.proofs.Common.{◌≡◌, ◌≢◌, ℕ, suc, ◌+◌, ◌-◌, ◌*◌, ◌/◌, ◌<◌, ◌≤◌, List, [], ◌∷◌, length, slice_set, refl, sym, ap, ◌∙◌, subst, pos, arith}
use Rattle.std.proofs.lemmas.List.{length-set}
use Rattle.dcel_fixed.specs.HalfEdges.{rev}
use Rattle.dcel_fixed.proofs.Halves.{rev-rev}
use Rattle.dcel_predicates.specs.declared.point.Point.{Point}
use Rattle.dcel_predicates.specs.Determinants.{orient2d_of}
use Rattle.dcel_maps.specs.Conditions.{CanFlip}
use Rattle.dcel_maps.specs.Cyclic.{from_least}
use Rattle.dcel_maps.specs.edits.Flip.{edge_flipped}
use Rattle.dcel_maps.specs.Shapes.{IsLive, IsMesh, Mesh, Shape, end_of, face_count, face_of, map_of, next_of, origin_of, prev_of}
use Rattle.dcel_maps.specs.Strips.{IsStripAround}
use Rattle.dcel_maps.specs.Triangulations.{AllTriangles}
use Rattle.dcel_maps.specs.Walking.{IsOutEdge, IsRoundTrip, ListsOnce, ccw_of, walk_of}
use Rattle.dcel_maps.specs.Words.{prev_in_word, word_of}
use Rattle.dcel_maps.proofs.Liveness.{even_live, odd_live}
use Rattle.dcel_maps.proofs.Triangulations.{flipped}
use Rattle.dcel_maps.proofs.edits.Flips.{at_flip, flipped_mesh}
use Rattle.dcel_maps.proofs.shapes.Maps.{face-live, map-sound}
use Rattle.dcel_maps.proofs.walks.Links.{ccw-lawful, links_stand, prev-live, prev-said}
use Rattle.dcel_maps.proofs.walks.Turning.{walk-out_edges}
use Rattle.dcel_maps.proofs.walks.UnderWay.{walk-round}
use Rattle.dcel_maps.proofs.words.Reading.{face-prev}
use Rattle.dcel_plane.specs.Plane.{TrianglesTurnLeft}
use Rattle.dcel_plane.specs.covering.Covering.{IsConvex, IsHull}
use Rattle.dcel_plane.proofs.covering.Triangles.{round}
use Rattle.dcel_plane.proofs.hull.Keeping.{flip_outer, outer_word}
use Rattle.dcel_plane.specs.removal.Wheels.{CanTurnAt, IsFlattened, LiesOnHull, turns}
use Rattle.dcel_plane.proofs.removal.Fewer.{flip_takes_one}
use Rattle.dcel_plane.proofs.removal.FlatFlips.{flip_plane_but}
use Rattle.dcel_plane.proofs.removal.FlippedInside.{outer_end, outer_start, outer_stays}
use Rattle.dcel_plane.proofs.removal.HullCorners.{corner_turn_at, inner_at, spoke}
use Rattle.dcel_plane.proofs.removal.Stripping.{corner_strip}
use Rattle.dcel_plane.proofs.removal.Turnable.{both_halves}
use Rattle.dcel_plane.proofs.removal.Turning.{closes}

module _ {V DE UE F : Type 0} (m : Mesh V DE UE F) (mesh : IsMesh m) (triangles : AllTriangles m.shape) (at : ℕ → Point) (plane : TrianglesTurnLeft at m.shape)
    (convex : IsConvex at m.shape) (hull : IsHull at m.shape) (h : ℕ) (live : IsLive m.shape h) (outer : face_of m.shape h ≡ 0)
    (lies : LiesOnHull (at (origin_of m.shape h)) (λ i. at (end_of m.shape (turns (ccw_of m.shape) (suc i) h))) (length (walk_of m.shape (ccw_of m.shape) h) - 1)) where
  abbrev s : Shape
  s = m.shape

  abbrev o : ℕ
  o = origin_of m.shape h

  abbrev w : List ℕ
  w = walk_of m.shape (ccw_of m.shape) h

  -- the middle edge, from the corner
  abbrev e : ℕ
  e = turns (ccw_of m.shape) 2 h

  abbrev u : ℕ
  u = turns (ccw_of m.shape) 2 h / 2

  abbrev n : Shape
  n = (edge_flipped m (turns (ccw_of m.shape) 2 h / 2)).shape

  trip : IsRoundTrip (ccw_of m.shape) h (walk_of m.shape (ccw_of m.shape) h)
  trip = walk-round (ccw-lawful mesh.sound) h live

  three : length (walk_of m.shape (ccw_of m.shape) h) ≡ 3
  three = (let l = ap length trip.from in let k = lies.two in omega (arith, l, k))

  out : (i : ℕ) → IsLive s (turns (ccw_of m.shape) i h)
  out i = (spoke m mesh triangles at plane convex hull h live outer w trip i).alive

  from : (i : ℕ) → origin_of s (turns (ccw_of m.shape) i h) ≡ o
  from i = (spoke m mesh triangles at plane convex hull h live outer w trip i).from

  inside : (i : ℕ) → 0 < i → i < 3 → 0 < face_of s (turns (ccw_of m.shape) i h)
  inside i more less = inner_at m mesh triangles at plane convex hull h live outer w trip i more (let l = three in omega (arith, less, l))

  pub turn : CanTurnAt at m.shape (turns (ccw_of m.shape) 2 h / 2) (origin_of m.shape h)
  turn = corner_turn_at m mesh triangles at plane convex hull h live outer w trip lies

  abbrev Inner : ℕ → ℕ → Type 0
  Inner x y = (0 < face_of m.shape x) × (0 < face_of m.shape y)

  beside : (0 < face_of m.shape (2 * (turns (ccw_of m.shape) 2 h / 2))) × (0 < face_of m.shape (2 * (turns (ccw_of m.shape) 2 h / 2) + 1))
  beside =
      let first = turns (ccw_of s) 1 h in
      let tri = round m mesh triangles first (out 1) (inside 1 (omega arith) (omega arith)) in
      let other : rev e ≡ prev_of s first = rev-rev (prev_of s first) in
      both_halves Inner (λ x y both. (both.1, both.0)) e
      (inside 2 (omega arith) (omega arith), subst (λ (f : ℕ). 0 < f) (sym (ap (face_of s) other ∙ tri.face_z)) (inside 1 (omega arith) (omega arith)))

  pub inner : 0 < face_of m.shape (2 * (turns (ccw_of m.shape) 2 h / 2))
  inner = beside.0

  pub inner_facing : 0 < face_of m.shape (2 * (turns (ccw_of m.shape) 2 h / 2) + 1)
  inner_facing = beside.1

  pub can : CanFlip m.shape (turns (ccw_of m.shape) 2 h / 2)
  can = turn.can

  mesh_after : IsMesh (edge_flipped m (turns (ccw_of m.shape) 2 h / 2))
  mesh_after = flipped_mesh m u mesh can

  same_start : (x : ℕ) → IsLive s x → face_of s x ≡ 0 → origin_of n x ≡ origin_of s x
  same_start = outer_start m mesh u can inner inner_facing

  same_end : (x : ℕ) → IsLive s x → face_of s x ≡ 0 → end_of n x ≡ end_of s x
  same_end = outer_end m mesh u can inner inner_facing

  word_stays : word_of n.words 0 ≡ word_of s.words 0
  word_stays = outer_word m mesh u can at inner inner_facing

  on_after : (x : ℕ) → IsLive s x → face_of s x ≡ 0 → face_of n x ≡ 0
  on_after = outer_stays m mesh u can inner inner_facing

  around : IsStripAround n o h
  around =
      let was = corner_strip m mesh triangles at plane convex hull h live outer (turns (ccw_of s) 1 h) (out 1) (inside 1 (omega arith) (omega arith)) in
      record {
        out = record { live = live; start = same_start h live outer };
        outer = on_after h live outer;
        only = λ x at_o on.
            (let old = flip_outer m mesh u can at inner inner_facing x at_o.live on in
            hull.once x h old.live live old.on outer (old.start ∙ at_o.start));
        triangles = λ x at_o within. flipped m triangles u (face_of n x) (omega (arith, within)) (face-live mesh_after.sound x at_o.live);
        long = subst (λ (l : List ℕ). 2 < length l) (sym word_stays) was.long;
      }

  two : length (walk_of n (ccw_of n) h) ≡ 2
  two =
      let first = subst (λ (k : ℕ). ListsOnce (IsOutEdge s k) w) (sym (from 2)) (walk-out_edges mesh.sound o h (record { live = live; start = refl })) in
      let second =
      subst (λ (k : ℕ). ListsOnce (IsOutEdge n k) (walk_of n (ccw_of n) h)) (sym (from 2))
      (walk-out_edges mesh_after.sound o h (record { live = live; start = same_start h live outer })) in
      let less = flip_takes_one m mesh at e can w (walk_of n (ccw_of n) h) first second in
      let l = three in
      omega (arith, less, l)

  flat : orient2d_of (at o) (at (end_of n (ccw_of n h))) (at (end_of n h)) ≡ pos 0
  flat =
      let before = prev-live mesh.sound h live in
      let on_before : face_of s (prev_of s h) ≡ 0 = face-prev (map_of s) s.words (links_stand mesh.sound) h live ∙ outer in
      let word : word_of n.words (face_of n h) ≡ word_of s.words (face_of s h) =
      ap (word_of n.words) (on_after h live outer) ∙ word_stays ∙ ap (word_of s.words) (sym outer) in
      let prev_stays : prev_of n h ≡ prev_of s h =
      prev-said mesh_after.sound h live ∙ ap (prev_in_word h) word ∙ sym (prev-said mesh.sound h live) in
      let start : end_of n (ccw_of n h) ≡ end_of s (ccw_of s h) =
      ap (origin_of n) (rev-rev (prev_of n h)) ∙ ap (origin_of n) prev_stays ∙ same_start (prev_of s h) before on_before ∙ sym (ap (origin_of s) (rev-rev (prev_of s h))) in
      let last : turns (ccw_of s) 3 h ≡ h = sym (ap (λ k. turns (ccw_of s) k h) three) ∙ closes (ccw_of s) h w trip in
      let end : end_of n h ≡ end_of s (turns (ccw_of s) 3 h) = same_end h live outer ∙ ap (end_of s) (sym last) in
      subst (λ (k : ℕ). orient2d_of (at o) (at k) (at (end_of n h)) ≡ pos 0) (sym start)
      (subst (λ (k : ℕ). orient2d_of (at o) (at (end_of s (ccw_of s h))) (at k) ≡ pos 0) (sym end) lies.on)

  many : 3 ≤ face_count n
  many =
      let f = face_of s (2 * u) in
      let g = face_of s (2 * u + 1) in
      let first = from_least ((2 * u) ∷ prev_of s (2 * u + 1) ∷ next_of s (2 * u) ∷ []) in
      let second = from_least ((2 * u + 1) ∷ prev_of s (2 * u) ∷ next_of s (2 * u + 1) ∷ []) in
      let count : face_count n ≡ face_count s = length-set (slice_set s.words f first) g second ∙ length-set s.words f first in
      let below_f = (map-sound mesh.sound).below_faces (2 * u) (even_live s u can.live) in
      let below_g = (map-sound mesh.sound).below_faces (2 * u + 1) (odd_live s u can.live) in
      let i = inner in
      let j = inner_facing in
      at_least f g (face_count s) (face_count n) count below_f below_g i j differ
    where
      open (at_flip m u mesh can) use {differ}

      at_least : (f g k l : ℕ) → l ≡ k → f < k → g < k → 0 < f → 0 < g → f ≢ g → 3 ≤ l
      at_least f g k l same below_f below_g some_f some_g apart = omega (arith, same, below_f, below_g, some_f, some_g, apart)

  pub flattened : IsFlattened at (edge_flipped m (turns (ccw_of m.shape) 2 h / 2)).shape (origin_of m.shape h) h
  flattened = record {
    around = around;
    two = two;
    flat = flat;
    but = flip_plane_but m mesh at u o turn plane;
    many = many;
  }
