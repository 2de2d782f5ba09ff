-- A walk read from its back is the walk by the step back.
use Rattle.std.proofs.Common.{◌≡◌, ℕ, ◌*◌, ◌<◌, ◌≤◌, List, [], ◌∷◌, ◌++◌, length, reverse, refl, sym, ap, ◌∙◌, subst, arith}
use Rattle.std.proofs.lemmas.List.{length-append, length-reverse}
use Rattle.dcel_maps.specs.Maps.{By}
use Rattle.dcel_maps.specs.Shapes.{Shape, IsLive}
use Rattle.dcel_maps.specs.Walking.{IsLawful, IsUnderWay, StepsTo, walk_of}
use Rattle.dcel_maps.specs.theory.Cycles.{Path}
use Rattle.dcel_maps.specs.Words.{count_of}
use Rattle.dcel_maps.proofs.renumbering.GivenUp.{reverse_first}
use Rattle.dcel_maps.proofs.walks.Returning.{starts}
use Rattle.dcel_maps.proofs.walks.UnderWay.{listed}
use Rattle.dcel_maps.proofs.words.Counts.{count-append, count-same, count-reverse}
use Rattle.dcel_maps.proofs.words.Paths.{Path-append}
use Rattle.dcel_maps.proofs.words.Walking.{up_to-is}

-- a path the other way
Path-reversed : (R S : ℕ → ℕ → Type 0) → ((p q : ℕ) → R p q → S q p) → (x : ℕ) (r : List ℕ) (e : ℕ) → Path R x r e → Path S e (reverse r) x
Path-reversed R S back x [] e path = back x e path
Path-reversed R S back x (y ∷ r) e path =
    subst (λ w. Path S e w x) (sym (reverse_first y r))
    (Path-append S e (reverse r) y [] x (Path-reversed R S back y r e path.1) (back x y path.0))

module _ (s : Shape) (step : ℕ → ℕ) (h : ℕ) where
  -- from one step on, a walk round has the item that it began with at its end
  from_next : (r : List ℕ) → Path (By step) h r h → ((k : ℕ) → count_of k (h ∷ r) ≤ 1) → length r < 2 * s.edges
      → walk_of s step (step h) ≡ r ++ h ∷ []
  from_next [] path once few = rw path (up_to-is step (2 * s.edges) h h [] path refl few)
  from_next (y ∷ r) path once few =
      rw path.0 (up_to-is step (2 * s.edges) y y (r ++ h ∷ []) (Path-append (By step) y r h [] y path.1 path.0)
      (omega (arith, once y, count-append y r (h ∷ []), count-same y r)) (omega (arith, few, length-append r (h ∷ []))))

-- so it is for a lawful step
pub walk-reversed : {s : Shape} {step step_back : ℕ → ℕ} → IsLawful s step step_back → (h : ℕ) → IsLive s h
    → reverse (walk_of s step h) ≡ walk_of s step_back (step_back h)
walk-reversed {s} {step} {step_back} law h live =
    let u : IsUnderWay s step step_back h h = starts s step step_back law h live in
    let back = Path-reversed (StepsTo s step step_back) (By step_back) (λ p q along. along.back) h u.rest h u.path in
    ap reverse (listed s step step_back h h u) ∙ reverse_first h u.rest
    ∙ sym (from_next s step_back h (reverse u.rest) back (λ k. omega (arith, u.once k, count-reverse k u.rest))
    (omega (arith, u.few, length-reverse u.rest)))
