use Rattle.std.proofs.Common.{◌≡◌, IfOk, rules, sym, subst}
use Rattle.dcel_constrained.specs.Constraints.{ListsFree}
use Rattle.dcel_delaunay.proofs.Copied.{outside_copied, triangles_copied}
use Rattle.dcel_maps.specs.Shapes.{Mesh}
use Rattle.dcel_predicates.specs.declared.point.Point.{Point}
use Rattle.dcel_regions.specs.declared.mark.Mark.{Mark}
use Rattle.std.specs.Prelude.{List, ℕ}
use Rattle.dcel_constrained.proofs.triangulation.ConstrainedTriangulation.try_clone.Goals as goal

abbrev Marked : Type 0
Marked = Mesh Point (Unit {0}) Mark (Unit {0})

pub invariant_of-planar : goal.invariant_of-planar
invariant_of-planar g c =
    let own = c.args.self.now.planar in
    let copied : IfOk c.try_clone.result (λ (m : Marked). m ≡ own.dcel) = c.try_clone.ensures.equal (λ x k is. is) (λ x k is. is) (λ x k is. is) (λ x k is. is) in
    let mesh : c.in_ok-dcel.dcel ≡ own.dcel = subst (λ r. IfOk r (λ (m : Marked). m ≡ own.dcel)) c.in_ok-dcel.was copied in
    let due : c.in_ok-due.due.items ≡ own.due.items = search rules in
    record {
      triangulated = triangles_copied own.dcel c.in_ok-dcel.dcel own.due.items c.in_ok-due.due.items mesh due own.triangulated;
      outlined = outside_copied own.dcel c.in_ok-dcel.dcel own.due.items c.in_ok-due.due.items mesh due own.outlined;
    }

pub invariant_of-result-clause-listed : goal.invariant_of-result-clause-listed
invariant_of-result-clause-listed g c =
    let own = c.args.self.now.planar in
    let copied : IfOk c.try_clone.result (λ (m : Marked). m ≡ own.dcel) = c.try_clone.ensures.equal (λ x k is. is) (λ x k is. is) (λ x k is. is) (λ x k is. is) in
    let mesh : c.in_ok-dcel.dcel ≡ own.dcel = subst (λ r. IfOk r (λ (m : Marked). m ≡ own.dcel)) c.in_ok-dcel.was copied in
    let due : c.in_ok-due.due.items ≡ own.due.items = search rules in
    subst (λ (k : Marked). ListsFree k c.in_ok-due.due.items) (sym mesh) (subst (λ (l : List ℕ). ListsFree own.dcel l) (sym due) c.args.self.now.listed)
