use Rattle.std.proofs.Common.{◌≡◌, ◌≢◌, ◌⊎◌, ◌∙◌, ◌↔◌, Bool, IsTrue, false, ℕ, ◌<◌, Option, Some, None, inl, inr, refl, ap, sym, subst, arith}
use Rattle.std.proofs.lemmas.Bool.{cases_eq, false≢true}
use Rattle.dcel_convenience.specs.Surrounding.{HasLongFace, IsInTriangle, IsInside}
use Rattle.dcel_convenience.proofs.surrounding.look_around.Goals as goal
use Rattle.dcel_maps.specs.Shapes.{AnchorsVertex, Shape, face_of}
use Rattle.dcel_maps.specs.Walking.{IsOutEdge}

-- an anchor is an out edge
anchor_out : (s : Shape) (v x : ℕ) (anchor : Option ℕ) → AnchorsVertex s v anchor → Some x ≡ anchor → IsOutEdge s v x
anchor_out s v x anchor anchored is =
    let at : AnchorsVertex s v (Some x) = subst (AnchorsVertex s v) (sym is) anchored in record { live = at.0; start = at.1 }

-- where nothing is skipped, each out edge lies on an inner triangle
none_skipped : (s : Shape) (v : ℕ) (skipped : Option ℕ) → skipped ≡ None → ((h : ℕ) → IsOutEdge s v h → (skipped ≡ Some h) ⊎ IsInTriangle s h) → IsInside s v
none_skipped s v skipped none each h out = elim (each h out) [
  | inl is ↦ absurd (let both : ◌≡◌ {A = Option ℕ} None (Some h) = sym none ∙ is in cc)
  | inr on ↦ on
]

-- where no face is long, an out edge on no inner triangle is outer
odd_outer : (s : Shape) (v h : ℕ) → ¬ HasLongFace s v → IsOutEdge s v h → ¬ IsInTriangle s h → face_of s h ≡ 0
odd_outer s v h short out odd = elim (cases_eq (face_of s h) 0) [
  | inl is ↦ is
  | inr other ↦ absurd (
      let inner : 0 < face_of s h = omega (arith, other) in
      short (h, out, record { inner = inner; long = λ three. odd (record { inner = inner; triangle = three }) })
      )
]

-- where one is skipped, each other one does
others_in : (s : Shape) (v h : ℕ) → ((x : ℕ) → IsOutEdge s v x → (Some h ≡ Some x) ⊎ IsInTriangle s x) → (x : ℕ) → IsOutEdge s v x → x ≢ h → IsInTriangle s x
others_in s v h each x out other = elim (each x out) [
  | inl is ↦ absurd (other (let same : h ≡ x = cc in sym same))
  | inr on ↦ on
]

pub returns-in_default-odd_spoke : goal.returns-in_default-odd_spoke
returns-in_default-odd_spoke g c = (
  (c.in-Some.field-0, anchor_out c.args.dcel.now.shape c.args.vertex c.in-Some.field-0 _ (c.every_mesh.ensures.anchored.vertices c.args.vertex c.requires) c.in-Some.ensures),
  none_skipped c.args.dcel.now.shape c.args.vertex None refl c.in_default-odd_spoke.ensures,
)

-- no face is long
short : (s : Shape) (v : ℕ) (long : Bool) → (IsTrue long ↔ HasLongFace s v) → long ≡ false → ¬ HasLongFace s v
short s v long told is has = false≢true (sym is ∙ told.1 has)

pub returns-in_default-odd_spoke-2 : goal.returns-in_default-odd_spoke-2
returns-in_default-odd_spoke-2 g c =
    let s = c.args.dcel.now.shape in
    let odd = c.in-Some-odd_spoke in
    record {
      out = odd.ensures.0;
      outer = odd_outer s c.args.vertex odd.outside (short s c.args.vertex c.has_long_face.result c.has_long_face.ensures c.if-has_long_face.false) odd.ensures.0 odd.ensures.2;
      others = others_in s c.args.vertex odd.outside c.in_default-odd_spoke-2.ensures;
    }

pub returns : goal.returns
returns g c =
    let s = c.args.dcel.now.shape in
    let one = c.in-Some-odd_spoke in
    let other = c.in-Some-odd_spoke-2 in
    let none_long = short s c.args.vertex c.has_long_face.result c.has_long_face.ensures c.if-has_long_face.false in (
      record {
        one = one.outside;
        other = other.field-0;
        apart = λ same. other.ensures.1 (ap Some same);
        one_out = one.ensures.0;
        other_out = other.ensures.0;
        one_outer = odd_outer s c.args.vertex one.outside none_long one.ensures.0 one.ensures.2;
        other_outer = odd_outer s c.args.vertex other.field-0 none_long other.ensures.0 other.ensures.2;
      },
      none_long,
    )
