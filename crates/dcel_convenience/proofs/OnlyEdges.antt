-- Half edges with the same ends, seen from either end.
use Rattle.std.proofs.Common.{◌≡◌, ◌≢◌, ◌∙◌, inl, inr, ℕ, ◌+◌, ◌*◌, ◌/◌, ◌%◌, ◌<◌, ◌≤◌, true, sym, ap, subst, arith}
use Rattle.std.proofs.lemmas.Bool.{cases_lt}
use Rattle.dcel_convenience.specs.Simple.{IsOnly, IsSimple}
use Rattle.dcel_fixed.proofs.Halves.{rev-double, rev-half, rev-rev}
use Rattle.dcel_fixed.specs.HalfEdges.{rev}
use Rattle.dcel_maps.specs.Shapes.{IsLive, Mesh, Shape, edge_is_live, end_of, origin_of}
use Rattle.dcel_maps.specs.Walking.{IsOutEdge}
use Rattle.dcel_maps.proofs.walks.Links.{half-below}

-- of the out edges of the vertex where h starts, or of the one where it ends, x may have the same ends only if it is a half of the same edge
abbrev pub IsNoSecond : Shape → ℕ → ℕ → Type 0
IsNoSecond s h x = end_of s x ≡ end_of s h → x ≡ h

abbrev pub IsNoSecondBack : Shape → ℕ → ℕ → Type 0
IsNoSecondBack s h x = end_of s x ≡ origin_of s h → x ≡ rev h

module _ (s : Shape) (h : ℕ) where
  pub second_here : (x : ℕ) → IsOutEdge s (origin_of s h) x → end_of s x ≡ end_of s h → x ≢ h → ¬ IsOnly s h
  second_here x out ends other only = other (only x out.live out.start ends)

  pub second_there : (x : ℕ) → IsOutEdge s (end_of s h) x → end_of s x ≡ origin_of s h → x ≢ rev h → ¬ IsOnly s h
  second_there x out ends other only =
      let live : IsLive s (rev x) = ap (edge_is_live s) (rev-half x) ∙ out.live in
      let back : end_of s (rev x) ≡ end_of s h = ap (origin_of s) (rev-rev x) ∙ out.start in
      other (sym (rev-rev x) ∙ ap rev (only (rev x) live ends back))

  pub only_here : ((x : ℕ) → IsOutEdge s (origin_of s h) x → IsNoSecond s h x) → IsOnly s h
  only_here each k live start end = each k (record { live = live; start = start }) end

  pub only_there : ((x : ℕ) → IsOutEdge s (end_of s h) x → IsNoSecondBack s h x) → IsOnly s h
  only_there each k live start end =
      let turned : IsLive s (rev k) = ap (edge_is_live s) (rev-half k) ∙ live in
      let back : end_of s (rev k) ≡ origin_of s h = ap (origin_of s) (rev-rev k) ∙ start in
      sym (rev-rev k) ∙ ap rev (each (rev k) (record { live = turned; start = end }) back) ∙ rev-rev h

-- an edge is the only one where one of its halves is
pub only_turned : (s : Shape) (h : ℕ) → IsOnly s h → IsOnly s (rev h)
only_turned s h only k live start end =
    let turned : IsLive s (rev k) = ap (edge_is_live s) (rev-half k) ∙ live in
    sym (rev-rev k) ∙ ap rev (only (rev k) turned (end ∙ ap (origin_of s) (rev-rev h)) (ap (origin_of s) (rev-rev k) ∙ start))

-- so each half edge is the only one where each even one is
only_of-even : (s : Shape) (h : ℕ) → IsOnly s (2 * (h / 2)) → IsOnly s h
only_of-even s h only = elim (cases_lt (h % 2) 1) [
  | inl even ↦ subst (λ (x : ℕ). IsOnly s x) (let is : 2 * (h / 2) ≡ h = omega (arith, even) in is) only
  | inr odd ↦
      subst (λ (x : ℕ). IsOnly s x) (rev-double (h / 2) ∙ (let is : 2 * (h / 2) + 1 ≡ h = omega (arith, odd) in is))
      (only_turned s (2 * (h / 2)) only)
]

pub simple_of-even : (s : Shape) (n : ℕ) → s.edges ≤ n → ((u : ℕ) → u < n → edge_is_live s u ≡ true → IsOnly s (2 * u)) → IsSimple s
simple_of-even s n all each h k h_live k_live start end =
    let below : h / 2 < n = let far = half-below s h h_live in omega (arith, all, far) in
    sym (only_of-even s h (each (h / 2) below h_live) k k_live (sym start) (sym end))

-- what is read of a half edge of a mesh that is lent
pub read_at : {V DE UE F : Type 0} (read : Shape → ℕ → ℕ) (m lent : Mesh V DE UE F) (h k v : ℕ) → lent ≡ m → k ≡ h → v ≡ read lent.shape k → v ≡ read m.shape h
read_at {V} {DE} {UE} {F} read m lent h k v mesh number is = is ∙ ap (λ (x : Mesh V DE UE F). read x.shape k) mesh ∙ ap (read m.shape) number
