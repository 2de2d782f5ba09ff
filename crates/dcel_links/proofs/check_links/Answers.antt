use Rattle.std.proofs.Common.{◌≡◌, ◌∙◌, length, sym, subst}
use Rattle.dcel_links.specs.Claims.{Claim, IsMeshOf, claim_of}
use Rattle.dcel_links.proofs.Claiming.{passes_mesh}
use Rattle.dcel_links.proofs.Handed.{whole_slice}
use Rattle.dcel_links.proofs.Refuting.{no_mesh, only_prev}
use Rattle.dcel_links.proofs.check_links.Goals as goal

pub returns-in-Ok-clause-mesh : goal.returns-in-Ok-clause-mesh
returns-in-Ok-clause-mesh g c =
    let claimed : Claim = claim_of c.args.links c.args.vertices c.args.faces in
    let long : c.in_ok-prev.prev.len ≡ length c.check_each.new.prev = sym (c.check_each.auto.prev ∙ c.deref_mut.ensures.len) in
    subst (IsMeshOf claimed) (sym (whole_slice c.in_ok-prev.prev.len c.check_each.new.prev c.in_ok-prev.prev.items long))
    (passes_mesh claimed c.check_each.new.prev (sym long ∙ c.in_ok-prev.ensures.len) c.in_default.ensures.few c.in_default.ensures.some_face c.in_default.ensures.links
    (rw c.in-Ok.is at c.in_ok-check_whole.ensures.whole))

pub returns-in-Ok-clause-only : goal.returns-in-Ok-clause-only
returns-in-Ok-clause-only g c =
    let claimed : Claim = claim_of c.args.links c.args.vertices c.args.faces in
    let mesh = returns-in-Ok-clause-mesh g c in
    λ other same. only_prev claimed _ other mesh same

pub returns-in-Err-clause-refused : goal.returns-in-Err-clause-refused
returns-in-Err-clause-refused g c =
    let claimed : Claim = claim_of c.args.links c.args.vertices c.args.faces in
    no_mesh claimed c.in-Err.fault c.in-Err.ensures.fault

pub returns-in-Err-2-clause-refused : goal.returns-in-Err-2-clause-refused
returns-in-Err-2-clause-refused g c =
    let claimed : Claim = claim_of c.args.links c.args.vertices c.args.faces in
    no_mesh claimed c.in-Err-2.fault (rw c.in-Err-2.is at c.in_ok-check_whole.ensures.fault)
