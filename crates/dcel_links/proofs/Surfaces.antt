-- What marks on faces and a count say of a claim.
use Rattle.std.proofs.Common.{◌≡◌, ◌≢◌, ℕ, ◌+◌, ◌-◌, ◌/◌, ◌<◌, ◌≤◌, Bool, false, List, length, get_or, sym, ap, ◌∙◌, arith}
use Rattle.dcel_maps.specs.Maps.{count}
use Rattle.dcel_links.specs.Checks.{HasEuler, HasRounds, UsesFaces}
use Rattle.dcel_links.specs.Claims.{Claim, halves}
use Rattle.dcel_links.specs.Faults.{IsNoSphere, genus_of}
use Rattle.dcel_links.specs.Marks.{Marked, MarksLabels}
use Rattle.dcel_links.proofs.Claiming.{counts_agree}

-- where each face is marked, each has a half edge
pub all_used : (c : Claim) (rounds : HasRounds c) (marks : List Bool) → MarksLabels c.face marks → length marks ≡ c.faces
    → ((k : ℕ) → 0 ≤ k → k < length marks → Marked marks k) → UsesFaces c
all_used c rounds marks marked len all f below want =
    let (h, b, e) = (marked f).0 (all f (omega arith) (omega arith)) in
    (h, omega (arith, rounds.each.links.lists.sides), e)

module _ (c : Claim) (rounds : HasRounds c) (vertices faces : List Bool) (v : MarksLabels c.origin vertices) (f : MarksLabels c.face faces) where
  pub euler_counted : count (λ k. get_or vertices k false) c.vertices + count (λ k. get_or faces k false) c.faces ≡ halves c / 2 + 2 → HasEuler c
  euler_counted e some = counts_agree c rounds vertices faces v f ∙ e

  pub no_sphere_counted : 0 < halves c
      → count (λ k. get_or vertices k false) c.vertices + count (λ k. get_or faces k false) c.faces ≢ halves c / 2 + 2 → IsNoSphere c
  no_sphere_counted some d = record {
    some_edge = some;
    euler = λ e. d (sym (counts_agree c rounds vertices faces v f) ∙ e);
  }

  pub genus_counted : (halves c / 2 + 2 - (count (λ k. get_or vertices k false) c.vertices + count (λ k. get_or faces k false) c.faces)) / 2 ≡ genus_of c
  genus_counted = ap (λ n. (halves c / 2 + 2 - n) / 2) (sym (counts_agree c rounds vertices faces v f))
