use Rattle.std.proofs.Common.{◌≡◌, IfOk, rules, subst}
use Rattle.dcel_delaunay.proofs.Copied.{listed_copied, outside_copied, triangles_copied}
use Rattle.dcel_delaunay.proofs.listing.Known.{Points}
use Rattle.dcel_delaunay.proofs.triangulation.Triangulation.try_clone.Goals as goal

pub invariant_of-planar : goal.invariant_of-planar
invariant_of-planar g c =
    let own = c.args.self.now.planar in
    let copied : IfOk c.try_clone.result (λ (m : Points). m ≡ own.dcel) = c.try_clone.ensures.equal (λ x k is. is) (λ x k is. is) (λ x k is. is) (λ x k is. is) in
    let mesh : c.in_ok-dcel.dcel ≡ own.dcel = subst (λ r. IfOk r (λ (m : Points). m ≡ own.dcel)) c.in_ok-dcel.was copied in
    let due : c.in_ok-due.due.items ≡ own.due.items = search rules in
    record {
      triangulated = triangles_copied own.dcel c.in_ok-dcel.dcel own.due.items c.in_ok-due.due.items mesh due own.triangulated;
      outlined = outside_copied own.dcel c.in_ok-dcel.dcel own.due.items c.in_ok-due.due.items mesh due own.outlined;
    }

pub invariant_of-result : goal.invariant_of-result
invariant_of-result g c =
    let own = c.args.self.now.planar in
    let copied : IfOk c.try_clone.result (λ (m : Points). m ≡ own.dcel) = c.try_clone.ensures.equal (λ x k is. is) (λ x k is. is) (λ x k is. is) (λ x k is. is) in
    let mesh : c.in_ok-dcel.dcel ≡ own.dcel = subst (λ r. IfOk r (λ (m : Points). m ≡ own.dcel)) c.in_ok-dcel.was copied in
    let due : c.in_ok-due.due.items ≡ own.due.items = search rules in
    record { listed = listed_copied own.dcel c.in_ok-dcel.dcel own.due.items c.in_ok-due.due.items mesh due c.args.self.now.listed }
