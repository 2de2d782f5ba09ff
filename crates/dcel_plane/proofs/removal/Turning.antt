-- The triangles around an inner vertex go round it once.
use Rattle.std.proofs.Common.{◌≡◌, ◌≢◌, ◌⊎◌, inl, inr, ℕ, zero, suc, ◌+◌, ◌<◌, ◌≤◌, List, [], ◌∷◌, length, refl, sym, ap, ◌∙◌, subst, pos, ◌<ℤ◌, arith}
use Rattle.dcel_fixed.specs.HalfEdges.{rev}
use Rattle.dcel_fixed.proofs.Halves.{rev-rev}
use Rattle.dcel_predicates.specs.declared.point.Point.{Point}
use Rattle.dcel_predicates.specs.Determinants.{orient2d_of}
use Rattle.dcel_maps.specs.Maps.{By}
use Rattle.dcel_maps.specs.Shapes.{IsLive, IsMesh, Mesh, Shape, end_of, face_of, map_of, next_of, origin_of, prev_of}
use Rattle.dcel_maps.specs.theory.Cycles.{Path}
use Rattle.dcel_maps.specs.Triangulations.{AllTriangles}
use Rattle.dcel_maps.specs.Walking.{IsRoundTrip, ccw_of}
use Rattle.dcel_maps.specs.Words.{count_of}
use Rattle.dcel_maps.proofs.maps.Soundness.{rev_live}
use Rattle.dcel_maps.proofs.shapes.Maps.{map-sound}
use Rattle.dcel_maps.proofs.walks.Links.{prev-live}
use Rattle.dcel_maps.proofs.words.Counts.{count-equal, count-later, count-same}
use Rattle.dcel_plane.specs.Plane.{TrianglesTurnLeft, TurnsLeft}
use Rattle.dcel_plane.proofs.edits.Corners.{corners_are}
use Rattle.dcel_plane.specs.covering.Covering.{IsConvex, IsHull}
use Rattle.dcel_plane.specs.covering.Places.{AreDisjoint}
use Rattle.dcel_plane.specs.removal.Wheels.{IsWheel, turns}
use Rattle.dcel_plane.proofs.covering.Faces.{disjoint_at, six_corners}
use Rattle.dcel_plane.proofs.covering.Triangles.{ends_before, left_at, same_face}
use Rattle.dcel_plane.proofs.removal.Overlapping.{overlap}

pub turns_first : (f : ℕ → ℕ) (i x : ℕ) → turns f (suc i) x ≡ turns f i (f x)
turns_first f zero x = refl
turns_first f (suc i) x = ap f (turns_first f i x)

pub turns_sum : (f : ℕ → ℕ) (i j x : ℕ) → turns f (i + j) x ≡ turns f i (turns f j x)
turns_sum f zero j x = ap (λ n. turns f n x) (let e : 0 + j ≡ j = omega arith in e)
turns_sum f (suc i) j x = ap (λ n. turns f n x) (let e : suc i + j ≡ suc (i + j) = omega arith in e) ∙ ap f (turns_sum f i j x)

-- along a path
path_at : (f : ℕ → ℕ) (x : ℕ) (r : List ℕ) (e : ℕ) → Path (By f) x r e → (d : ℕ) → d < length r → 0 < count_of (turns f (suc d) x) r
path_at f x [] e path d below = absurd (omega (arith, below))
path_at f x (y ∷ r) e path zero below = (let c = count-equal (f x) y r path.0 in omega (arith, c))
path_at f x (y ∷ r) e path (suc d) below =
    count-later (turns f (suc (suc d)) x) y r
    (subst (λ (n : ℕ). 0 < count_of n r) (sym (turns_first f (suc d) x ∙ ap (turns f (suc d)) path.0)) (path_at f y r e path.1 d (omega (arith, below))))

path_end : (f : ℕ → ℕ) (x : ℕ) (r : List ℕ) (e : ℕ) → Path (By f) x r e → turns f (suc (length r)) x ≡ e
path_end f x [] e path = path
path_end f x (y ∷ r) e path = turns_first f (length (y ∷ r)) x ∙ ap (turns f (length (y ∷ r))) path.0 ∙ path_end f y r e path.1

module _ (f : ℕ → ℕ) (h : ℕ) (w : List ℕ) (trip : IsRoundTrip f h w) where
  long : length w ≡ suc (length trip.rest)
  long = ap length trip.from ∙ (let e : length (h ∷ trip.rest) ≡ suc (length trip.rest) = refl in e)

  pub closes : turns f (length w) h ≡ h
  closes = ap (λ n. turns f n h) long ∙ path_end f h trip.rest h trip.round

  pub least : (d : ℕ) → 0 < d → d < length w → turns f d h ≢ h
  least zero more less is = omega (arith, more)
  least (suc d) more less is =
      let l = long in
      let found : 0 < count_of h trip.rest =
      subst (λ (n : ℕ). 0 < count_of n trip.rest) is (path_at f h trip.rest h trip.round d (omega (arith, less, l))) in
      let few : count_of h (h ∷ trip.rest) ≤ 1 = subst (λ (v : List ℕ). count_of h v ≤ 1) trip.from (trip.once h) in
      let c = count-same h trip.rest in
      omega (arith, found, few, c)

  pub listed : (i : ℕ) → i < length w → 0 < count_of (turns f i h) w
  listed i below = subst (λ (v : List ℕ). 0 < count_of (turns f i h) v) (sym trip.from) (in_it i (let l = long in omega (arith, below, l)))
    where
      in_it : (i : ℕ) → i < suc (length trip.rest) → 0 < count_of (turns f i h) (h ∷ trip.rest)
      in_it zero below = (let c = count-same h trip.rest in omega (arith, c))
      in_it (suc i) below = count-later (turns f (suc i) h) h trip.rest (path_at f h trip.rest h trip.round i (omega (arith, below)))

module _ {V DE UE F : Type 0} (m : Mesh V DE UE F) (mesh : IsMesh m) (triangles : AllTriangles m.shape) (at : ℕ → Point) (plane : TrianglesTurnLeft at m.shape)
    (convex : IsConvex at m.shape) (hull : IsHull at m.shape) (h : ℕ) (live : IsLive m.shape h)
    (inner : (k : ℕ) → IsLive m.shape k → origin_of m.shape k ≡ origin_of m.shape h → 0 < face_of m.shape k) where
  abbrev s : Shape
  s = m.shape

  abbrev o : ℕ
  o = origin_of m.shape h

  abbrev ccw : ℕ → ℕ
  ccw k = ccw_of m.shape k

  abbrev spin : ℕ → ℕ
  spin i = turns (ccw_of m.shape) i h

  -- a half edge from the vertex
  pub record Out (k : ℕ) : Type 0 where
    pub alive : IsLive s k
    pub from : origin_of s k ≡ o
    pub on : 0 < face_of s k

  end_next : (k : ℕ) → end_of s (ccw k) ≡ origin_of s (prev_of s k)
  end_next k = ap (origin_of s) (rev-rev (prev_of s k))

  pub out_next : (k : ℕ) → Out k → Out (ccw k)
  out_next k out =
      let live_next : IsLive s (ccw k) = rev_live (map_of s) (prev_of s k) (prev-live mesh.sound k out.alive) in
      let from_next : origin_of s (ccw k) ≡ o = ends_before m mesh k out.alive ∙ out.from in
      record { alive = live_next; from = from_next; on = inner (ccw k) live_next from_next }

  pub out : (i : ℕ) → Out (spin i)
  out zero = record { alive = live; from = refl; on = inner h live refl }
  out (suc i) = out_next (spin i) (out i)

  pub left_out : (k : ℕ) → Out k → TurnsLeft (at o) (at (end_of s k)) (at (end_of s (ccw k)))
  left_out k out =
      corners_are at out.from (mesh.sound.joined k out.alive) (sym (end_next k)) (left_at m mesh triangles at plane k out.alive out.on)

  back : (a b : ℕ) → Out a → Out b → ccw a ≡ ccw b → a ≡ b
  back a b out_a out_b same =
      let sound = map-sound mesh.sound in
      let prevs : prev_of s a ≡ prev_of s b = sym (rev-rev (prev_of s a)) ∙ ap rev same ∙ rev-rev (prev_of s b) in
      sym (sound.next-prev a out_a.alive) ∙ ap (next_of s) prevs ∙ sound.next-prev b out_b.alive

  inject : (i d : ℕ) → spin (i + d) ≡ spin i → spin d ≡ h
  inject zero d same = ap spin (let e : d ≡ 0 + d = omega arith in e) ∙ same
  inject (suc i) d same =
      let e : suc (i + d) ≡ suc i + d = omega arith in
      inject i d (back (spin (i + d)) (spin i) (out (i + d)) (out i) (ap spin e ∙ same))

  -- two of them on one face are one
  one_on_face : (a b : ℕ) → Out a → Out b → face_of s a ≡ face_of s b → a ≡ b
  one_on_face a b out_a out_b same =
      let found = same_face m mesh triangles (λ x y z. (a ≡ x) ⊎ ((a ≡ y) ⊎ (a ≡ z))) (λ x y z. turned x y z) a b out_a.alive out_a.on out_b.alive out_b.on same (inl refl) in
      elim found [
        | inl is ↦ is
        | inr other ↦ elim other [
          | inl is ↦ absurd (mesh.sound.two_ends b out_b.alive (out_b.from ∙ sym out_a.from ∙ ap (origin_of s) is ∙ mesh.sound.joined b out_b.alive))
          | inr is ↦ absurd
              (mesh.sound.two_ends (prev_of s b) (prev-live mesh.sound b out_b.alive)
              (ap (origin_of s) (sym is) ∙ out_a.from ∙ sym out_b.from ∙ sym (ends_before m mesh b out_b.alive)))
        ]
      ]
    where
      turned : (x y z : ℕ) → (a ≡ x) ⊎ ((a ≡ y) ⊎ (a ≡ z)) → (a ≡ y) ⊎ ((a ≡ z) ⊎ (a ≡ x))
      turned x y z (inl is) = inr (inr is)
      turned x y z (inr (inl is)) = inl is
      turned x y z (inr (inr is)) = inr (inl is)

  apart : (a b : ℕ) → Out a → Out b → a ≢ b → AreDisjoint (at o) (at (end_of s a)) (at (end_of s (ccw a))) (at o) (at (end_of s b)) (at (end_of s (ccw b)))
  apart a b out_a out_b differ =
      six_corners at (origin_of s a) (origin_of s (next_of s a)) (origin_of s (prev_of s a)) (origin_of s b) (origin_of s (next_of s b)) (origin_of s (prev_of s b))
      o (end_of s a) (end_of s (ccw a)) o (end_of s b) (end_of s (ccw b))
      out_a.from (mesh.sound.joined a out_a.alive) (sym (end_next a)) out_b.from (mesh.sound.joined b out_b.alive) (sym (end_next b))
      (disjoint_at m mesh triangles at plane convex hull a b out_a.alive out_a.on out_b.alive out_b.on (λ same. differ (one_on_face a b out_a out_b same)))

  abbrev neighbor : ℕ → Point
  neighbor i = at (end_of m.shape (turns (ccw_of m.shape) i h))

  pub wheel : (k : ℕ) → spin k ≡ h → ((d : ℕ) → 0 < d → d < k → spin d ≢ h) → IsWheel (at o) (λ i. at (end_of m.shape (turns (ccw_of m.shape) i h))) k
  wheel k closed first = record {
    period = λ i. ap (λ n. at (end_of s n)) (turns_sum (ccw_of s) i k h ∙ ap (turns (ccw_of s) i) closed);
    left = λ i. next (λ q. TurnsLeft (at o) (neighbor i) q) i (left_out (spin i) (out i));
    once = λ i d more less after before.
        let differ : spin i ≢ spin (i + d) = λ is. first d more less (inject i d (sym is)) in
        overlap (at o) (neighbor i) (neighbor (suc i)) (neighbor (i + d)) (neighbor (suc (i + d))) (left_out (spin i) (out i)) (left_out (spin (i + d)) (out (i + d))) after
        (back_next (λ q. pos 0 <ℤ orient2d_of (at o) (neighbor (i + d)) q) i before) (apart (spin i) (spin (i + d)) (out i) (out (i + d)) differ);
  }
    where
      next : (P : Point → Type 0) (i : ℕ) → P (neighbor (suc i)) → P (neighbor (i + 1))
      next P i holds = (let e : suc i ≡ i + 1 = omega arith in subst (λ (n : ℕ). P (neighbor n)) e holds)

      back_next : (P : Point → Type 0) (i : ℕ) → P (neighbor (i + 1)) → P (neighbor (suc i))
      back_next P i holds = (let e : i + 1 ≡ suc i = omega arith in subst (λ (n : ℕ). P (neighbor n)) e holds)
