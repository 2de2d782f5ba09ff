-- What the circle test at an edge tells.
use Rattle.std.proofs.Common.{◌≡◌, ◌↔◌, inl, inr, ℕ, ◌+◌, ◌*◌, ◌<◌, Bool, true, IsTrue, refl, sym, ap, ◌∙◌, subst, pos, ◌<ℤ◌, arith}
use Rattle.std.proofs.lemmas.Bool.{cases_eq}
use Rattle.dcel_fixed.proofs.Halves.{rev-double}
use Rattle.dcel_predicates.specs.declared.point.Point.{Point}
use Rattle.dcel_predicates.specs.declared.line.Side.{Side}
use Rattle.dcel_predicates.specs.declared.line.Side.TheVariants.{Left}
use Rattle.dcel_predicates.specs.Determinants.{incircle_of, orient2d_of}
use Rattle.dcel_maps.specs.Conditions.{CanFlip, IsTriangle}
use Rattle.dcel_maps.specs.Shapes.{IsLive, IsMesh, Mesh, Shape, edge_is_live, face_of, next_of, origin_of, prev_of}
use Rattle.dcel_maps.specs.Sides.{IsOnHull}
use Rattle.dcel_maps.specs.Triangulations.{AllTriangles}
use Rattle.dcel_maps.proofs.Liveness.{even_live, odd_live}
use Rattle.dcel_maps.proofs.edits.Linking.{face_live-at, triangle_of}
use Rattle.dcel_plane.specs.Plane.{IsInner, TrianglesTurnLeft, TurnsLeft, point_at}
use Rattle.dcel_plane.proofs.edits.Corners.{corners_are, left_of_triangle}
use Rattle.dcel_planar.specs.Turning.{IsBetweenTriangles}

-- an edge that isn't on the hull lies between inner faces, which are triangles
pub inner_between : (s : Shape) (u : ℕ) → IsBetweenTriangles s u → ¬ IsOnHull s (2 * u) → IsInner s u
inner_between s u between off =
    let inner : 0 < face_of s (2 * u) = elim (cases_eq 0 (face_of s (2 * u))) [ inl is ↦ absurd (off (inl (sym is))) | inr not ↦ omega (arith, not) ] in
    let inner_facing : 0 < face_of s (2 * u + 1) =
    elim (cases_eq 0 (face_of s (2 * u + 1))) [
      | inl is ↦ absurd (off (inr (ap (face_of s) (rev-double u) ∙ sym is)))
      | inr not ↦ omega (arith, not)
    ] in
    record { live = between.live; triangle = between.triangle inner; facing = between.facing inner_facing; inner = inner; inner_facing = inner_facing }

-- one that can be flipped has triangles on both sides
pub flip_between : (s : Shape) (u : ℕ) → CanFlip s u → IsBetweenTriangles s u
flip_between s u can = record { live = can.live; triangle = λ inner. can.triangle; facing = λ inner. can.facing }

-- and lies between inner ones if it isn't on the hull
pub inner_from : (s : Shape) (u : ℕ) → CanFlip s u → ¬ IsOnHull s (2 * u) → IsInner s u
inner_from s u can = inner_between s u (flip_between s u can)

-- one on the hull does not
pub not_inner : (s : Shape) (u : ℕ) → IsOnHull s (2 * u) → ¬ IsInner s u
not_inner s u (inl outer) inner = omega (arith, outer, inner.inner)
not_inner s u (inr outer) inner =
    let is : face_of s (2 * u + 1) ≡ 0 = ap (face_of s) (sym (rev-double u)) ∙ outer in omega (arith, is, inner.inner_facing)

-- four points that are known by other names
pub circle_moves : (b : Bool) {p q r t p' q' r' t' : Point} → p ≡ p' → q ≡ q' → r ≡ r' → t ≡ t' → IsTrue b ↔ (pos 0 <ℤ incircle_of p q r t) → IsTrue b ↔ (pos 0 <ℤ incircle_of p' q' r' t')
circle_moves b {p} {q} {r} {t} {p'} {q'} {r'} {t'} ep eq er et told =
    subst (λ (k : Point). IsTrue b ↔ (pos 0 <ℤ incircle_of p' q' r' k)) et (subst (λ (k : Point). IsTrue b ↔ (pos 0 <ℤ incircle_of p' q' k t)) er
    (subst (λ (k : Point). IsTrue b ↔ (pos 0 <ℤ incircle_of p' k r t)) eq (subst (λ (k : Point). IsTrue b ↔ (pos 0 <ℤ incircle_of k q r t)) ep told)))

-- a side that is the left one, of points under other names
pub left_told : (b : Bool) (side : Side) {p q r p' q' r' : Point} → p ≡ p' → q ≡ q' → r ≡ r' → IsTrue b ↔ (side ≡ Left) → (side ≡ Left) ↔ (pos 0 <ℤ orient2d_of p q r)
    → IsTrue b ↔ (pos 0 <ℤ orient2d_of p' q' r')
left_told b side {p} {q} {r} {p'} {q'} {r'} ep eq er told left =
    subst (λ (k : Point). IsTrue b ↔ (pos 0 <ℤ orient2d_of p' q' k)) er
    (subst (λ (k : Point). IsTrue b ↔ (pos 0 <ℤ orient2d_of p' k r)) eq
    (subst (λ (k : Point). IsTrue b ↔ (pos 0 <ℤ orient2d_of k q r)) ep (λ yes. left.0 (told.0 yes), λ turns. told.1 (left.1 turns))))

module _ {DE UE F : Type 0} (m : Mesh Point DE UE F) (mesh : IsMesh m) (u : ℕ) where
  -- a live edge of a mesh of triangles has triangles on both sides
  pub all_between : AllTriangles m.shape → edge_is_live m.shape u ≡ true → IsBetweenTriangles m.shape u
  all_between triangles live = record {
    live = live;
    triangle = λ inner. at (2 * u) (even_live m.shape u live) inner;
    facing = λ inner. at (2 * u + 1) (odd_live m.shape u live) inner;
  }
    where
      at : (h : ℕ) → IsLive m.shape h → 0 < face_of m.shape h → IsTriangle m.shape (face_of m.shape h)
      at h on inner = let is = face_live-at m mesh (face_of m.shape h) h on refl in record { live = is; three = triangles (face_of m.shape h) inner is }

  -- the corners of the triangle on one side
  pub turns_at : TrianglesTurnLeft (point_at m) m.shape → IsInner m.shape u
      → TurnsLeft (point_at m (origin_of m.shape (2 * u))) (point_at m (origin_of m.shape (2 * u + 1))) (point_at m (origin_of m.shape (prev_of m.shape (2 * u))))
  turns_at plane inner =
      let h = 2 * u in
      let live = even_live m.shape u inner.live in
      corners_are (point_at m) refl (mesh.sound.joined h live ∙ ap (origin_of m.shape) (rev-double u)) refl
      (left_of_triangle (point_at m) m.shape mesh.sound plane (face_of m.shape h) h (next_of m.shape h) (prev_of m.shape h) inner.inner (triangle_of m mesh h live inner.triangle))

-- the same of four points that are known by other names
pub turns_moves : {p q r p' q' r' : Point} → p ≡ p' → q ≡ q' → r ≡ r' → TurnsLeft p' q' r' → TurnsLeft p q r
turns_moves {p} {q} {r} {p'} {q'} {r'} ep eq er turns =
    subst (λ (k : Point). TurnsLeft p q k) (sym er) (subst (λ (k : Point). TurnsLeft p k r') (sym eq) (subst (λ (k : Point). TurnsLeft k q' r') (sym ep) turns))
