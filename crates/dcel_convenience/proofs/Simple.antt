-- When a flip keeps a mesh simple, from what the calls tell.
use Rattle.std.proofs.Common.{◌≡◌, ◌↔◌, ◌∙◌, inl, inr, ℕ, ◌+◌, ◌*◌, Bool, true, false, not, IsTrue, Option, Some, None, MatchOption, is_some, refl, sym, ap, subst, arith}
use Rattle.std.proofs.lemmas.Bool.{cases_eq, false≢true}
use Rattle.dcel_convenience.specs.Simple.{CanFlipSimple}
use Rattle.dcel_fixed.proofs.Halves.{rev-double}
use Rattle.dcel_fixed.specs.HalfEdges.{rev}
use Rattle.dcel_maps.specs.Conditions.{CanFlip}
use Rattle.dcel_maps.specs.Shapes.{Mesh, Shape, face_of, origin_of, prev_of}
use Rattle.dcel_maps.specs.Sides.{IsOnHull}
use Rattle.dcel_maps.specs.Walking.{Leads}

-- the vertex opposite the edge u beyond its half edge h
abbrev pub corner_of : Shape → ℕ → ℕ
corner_of s h = origin_of s (prev_of s h)

-- an edge off the hull whose opposite corners no half edge joins
simple_from : (s : Shape) (u : ℕ) → CanFlip s u → ¬ IsOnHull s (2 * u) → ((h : ℕ) → ¬ Leads s (corner_of s (2 * u)) (corner_of s (2 * u + 1)) h) → CanFlipSimple s u
simple_from s u can off apart = record {
  can = can;
  inner = elim (cases_eq 0 (face_of s (2 * u))) [ inl is ↦ absurd (off (inl (sym is))) | inr other ↦ omega (arith, other) ];
  inner_facing =
      elim (cases_eq 0 (face_of s (2 * u + 1))) [
        | inl is ↦ absurd (off (inr (ap (face_of s) (rev-double u) ∙ sym is)))
        | inr other ↦ omega (arith, other)
      ];
  apart = apart;
}

-- one on the hull is none
pub not_simple : (s : Shape) (u : ℕ) → IsOnHull s (2 * u) → ¬ CanFlipSimple s u
not_simple s u (inl outer) simple = omega (arith, outer, simple.inner)
not_simple s u (inr outer) simple =
    let is : face_of s (2 * u + 1) ≡ 0 = ap (face_of s) (sym (rev-double u)) ∙ outer in omega (arith, is, simple.inner_facing)

-- what is told of a half edge of a mesh
pub hull_told : {V DE UE F : Type 0} (b : Bool) (m lent : Mesh V DE UE F) (h k : ℕ) → lent ≡ m → k ≡ h → IsTrue b ↔ IsOnHull lent.shape k → IsTrue b ↔ IsOnHull m.shape h
hull_told {V} {DE} {UE} {F} b m lent h k mesh half told =
    subst (λ (n : ℕ). IsTrue b ↔ IsOnHull m.shape n) half (subst (λ (x : Mesh V DE UE F). IsTrue b ↔ IsOnHull x.shape k) mesh told)

-- whether a half edge that joins the corners is found tells the rest
found_tells : {E : Type 0} (s : Shape) (u : ℕ) (found : Option E) (number : E → ℕ) (b : Bool) → is_some found ≡ not b → CanFlip s u → ¬ IsOnHull s (2 * u)
    → MatchOption found ((h : ℕ) → ¬ Leads s (corner_of s (2 * u)) (corner_of s (2 * u + 1)) h) (λ edge. Leads s (corner_of s (2 * u)) (corner_of s (2 * u + 1)) (number edge))
    → IsTrue b ↔ CanFlipSimple s u
found_tells s u None number true told can off none = (λ yes. simple_from s u can off none, λ simple. refl)
found_tells s u None number false told can off none = absurd (false≢true told)
found_tells s u (Some edge) number true told can off leads = absurd (false≢true (sym told))
found_tells s u (Some edge) number false told can off leads = (λ no. absurd (false≢true no), λ simple. absurd (simple.apart (number edge) leads))

pub corners_tell : {E : Type 0} (s : Shape) (u near far : ℕ) (found : Option E) (number : E → ℕ) (b : Bool) → near ≡ corner_of s (2 * u) → far ≡ corner_of s (rev (2 * u))
    → is_some found ≡ not b → CanFlip s u → ¬ IsOnHull s (2 * u)
    → MatchOption found ((h : ℕ) → ¬ Leads s near far h) (λ edge. Leads s near far (number edge))
    → IsTrue b ↔ CanFlipSimple s u
corners_tell s u near far found number b at_near at_far told can off joined =
    found_tells s u found number b told can off
    (subst (λ (v : ℕ). MatchOption found ((h : ℕ) → ¬ Leads s (corner_of s (2 * u)) v h) (λ edge. Leads s (corner_of s (2 * u)) v (number edge)))
    (at_far ∙ ap (corner_of s) (rev-double u))
    (subst (λ (v : ℕ). MatchOption found ((h : ℕ) → ¬ Leads s v far h) (λ edge. Leads s v far (number edge))) at_near joined))

-- the corner beyond a half edge, read from it step by step
pub corner : {V DE UE F : Type 0} (before lent m : Mesh V DE UE F) (v p k h : ℕ) → v ≡ origin_of before.shape p → p ≡ prev_of lent.shape k → before ≡ lent → lent ≡ m → k ≡ h → v ≡ corner_of m.shape h
corner {V} {DE} {UE} {F} before lent m v p k h start back same mesh half =
    start ∙ ap (origin_of before.shape) back ∙ ap (λ (x : Mesh V DE UE F). origin_of x.shape (prev_of lent.shape k)) same
    ∙ ap (λ (x : Mesh V DE UE F). corner_of x.shape k) mesh ∙ ap (corner_of m.shape) half
