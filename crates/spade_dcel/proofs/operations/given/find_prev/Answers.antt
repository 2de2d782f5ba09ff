use Rattle.std.proofs.Common.{◌≡◌, List, ℕ, length, subst₂, arith}
use Rattle.dcel_links.specs.Claims.{IsMeshOf, claim_of}
use Rattle.dcel_links.specs.Faults.{IsFirst}
use Rattle.spade_dcel.specs.Linked.{claimed}
use Rattle.spade_dcel.proofs.Linked.{none_linked}
use Rattle.spade_dcel.proofs.operations.given.find_prev.Goals as goal

pub returns-in-Ok-Err-clause-reason : goal.returns-in-Ok-Err-clause-reason
returns-in-Ok-Err-clause-reason g c =
    let v : c.len.result ≡ length c.args.given.now.vertices.items = omega (arith, c.len.ensures, c.args.given.now.vertices.ok) in
    let f : c.len-2.result ≡ length c.args.given.now.faces.items = omega (arith, c.len-2.ensures, c.args.given.now.faces.ok) in
    let first : IsFirst (claimed c.args.links c.args.given.now) c.in-Ok-Err.fault =
    subst₂ (λ (a b : ℕ). IsFirst (claim_of c.args.links a b) c.in-Ok-Err.fault) v f (rw c.in-Ok-Err.field-0-is at c.in-Ok-Err.ensures.first) in
    let refused = rw c.in-Ok-Err.field-0-is at c.in-Ok-Err.ensures.refused in
    let none : (prev : List ℕ) → ¬ IsMeshOf (claimed c.args.links c.args.given.now) prev =
    λ prev. subst₂ (λ (a b : ℕ). ¬ IsMeshOf (claim_of c.args.links a b) prev) v f (refused prev) in
    (first, none_linked _ _ _ _ (claimed c.args.links c.args.given.now) none)
