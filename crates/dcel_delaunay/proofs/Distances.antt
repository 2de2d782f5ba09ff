-- Squares of distances, as machine numbers hold them.
use Rattle.std.proofs.Common.{◌≡◌, ◌+◌, ◌*◌, ◌^◌, ◌<◌, ◌≤◌, ℕ, ℤ, pos, ◌+ℤ◌, ◌-ℤ◌, ◌*ℤ◌, ◌<ℤ◌, ◌≤ℤ◌, unsigned_abs, refl, sym, ap, ◌∙◌, arith}
use Rattle.std.proofs.lemmas.Int.{by_lt_z, ints, unsigned_abs-mul}
use Rattle.std.proofs.Math.Nat.{mul-le-mul}
use Rattle.dcel_predicates.specs.declared.point.Point.{Point}
use Rattle.dcel_predicates.specs.Determinants.{squared_distance_of}
use Rattle.dcel_predicates.proofs.Machine.{held_64, in_64, x_within, y_within}
use Rattle.dcel_predicates.proofs.Signs.{square}
use Rattle.dcel_maps.specs.Shapes.{Mesh, end_of}
use Rattle.dcel_plane.specs.Plane.{point_at}

back : (z : ℤ) → pos 0 ≤ℤ z → pos (unsigned_abs z) ≡ z
back z more = omega (arith, ints)

squared : (z : ℤ) → pos (unsigned_abs z * unsigned_abs z) ≡ z *ℤ z
squared z = ap pos (sym (unsigned_abs-mul z z)) ∙ back (z *ℤ z) (square z)

-- coordinates, as an i64 holds them
pub held_x : (p : Point) → in_64 p.x ≡ p.x
held_x p = held_64 p.x (let h = p.x_in_range in omega arith)

pub held_y : (p : Point) → in_64 p.y ≡ p.y
held_y p = held_64 p.y (let h = p.y_in_range in omega arith)

module _ (p q : Point) where
  abbrev x : ℕ
  x = unsigned_abs (p.x -ℤ q.x)

  abbrev y : ℕ
  y = unsigned_abs (p.y -ℤ q.y)

  pub distance_within : (x * x) + (y * y) ≤ 2 ^ 109
  distance_within =
      let a = x_within p q in
      let b = y_within p q in
      let c : x * x ≤ 2 ^ 54 * 2 ^ 54 = mul-le-mul a a in
      let d : y * y ≤ 2 ^ 54 * 2 ^ 54 = mul-le-mul b b in
      omega (arith, c, d)

  pub distance_is : pos ((x * x) + (y * y)) ≡ squared_distance_of p q
  distance_is = let a = squared (p.x -ℤ q.x) in let b = squared (p.y -ℤ q.y) in sums (x * x) (y * y) ((p.x -ℤ q.x) *ℤ (p.x -ℤ q.x)) ((p.y -ℤ q.y) *ℤ (p.y -ℤ q.y)) a b
    where
      sums : (a b : ℕ) (u v : ℤ) → pos a ≡ u → pos b ≡ v → pos (a + b) ≡ u +ℤ v
      sums a b u v ha hb = rw (sym ha, sym hb) refl

-- a distance that falls
pub falls : (p r q : Point) → squared_distance_of p q <ℤ squared_distance_of r q → unsigned_abs (squared_distance_of p q) < unsigned_abs (squared_distance_of r q)
falls p r q less = let a = sym (distance_is p q) in let b = sym (distance_is r q) in rw (a, b) (omega (arith, ints, less, a, b))

-- distances compared as machine numbers
pub nearer_by : (a b : ℕ) {x y : ℤ} → pos a ≡ x → pos b ≡ y → a < b → x <ℤ y
nearer_by a b ex ey less = rw (sym ex, sym ey) (omega (arith, ints, less))

pub not_nearer_by : (a b : ℕ) {x y : ℤ} → pos a ≡ x → pos b ≡ y → b ≤ a → ¬ (x <ℤ y)
not_nearer_by a b ex ey more less = (let e = ex in let f = ey in omega (arith, ints, e, f, more, less))

pub at_most : (x y : ℤ) → ¬ (x <ℤ y) → y ≤ℤ x
at_most x y not = by_lt_z x y (λ less. absurd (not less)) (λ is. is)

-- the end of an out edge, and how far it is, by what is read from the edge
module _ {DE UE F : Type 0} (m lent edge_mesh : Mesh Point DE UE F) (i k : ℕ) (same : edge_mesh ≡ m) (end : i ≡ end_of edge_mesh.shape k) where
  pub end_read : i ≡ end_of m.shape k
  end_read = end ∙ ap (λ (x : Mesh Point DE UE F). end_of x.shape k) same

  pub distance_read : (d : ℕ) (q : Point) → lent ≡ edge_mesh → pos d ≡ squared_distance_of (point_at lent i) q → pos d ≡ squared_distance_of (point_at m (end_of m.shape k)) q
  distance_read d q at_end is = is ∙ ap (λ (x : Mesh Point DE UE F). squared_distance_of (point_at x i) q) (at_end ∙ same) ∙ ap (λ (j : ℕ). squared_distance_of (point_at m j) q) end_read
