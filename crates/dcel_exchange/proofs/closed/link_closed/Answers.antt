use Rattle.std.proofs.Common.{◌≡◌, ◌∙◌, ℕ, ◌+◌, ◌-◌, ◌<◌, [], length, slice_index_or, refl, sym, ap, subst, arith}
use Rattle.std.proofs.lemmas.List.{length-map}
use Rattle.dcel_exchange.specs.Closed.{without}
use Rattle.dcel_exchange.specs.Corners.{corners_of}
use Rattle.dcel_exchange.specs.Links.{lists_claim}
use Rattle.dcel_exchange.specs.Meshes.{AreLinks}
use Rattle.dcel_exchange.specs.Rounds.{GoesRound, HasOtherStart, StartsOutside}
use Rattle.std.specs.Prelude.{slice_index}
use Rattle.dcel_exchange.specs.declared.refusal.FacesError.TheVariants.{OutOfMemory}
use Rattle.dcel_exchange.proofs.ClosedFaces.{corners_at, length-without, lent, other_border}
use Rattle.dcel_exchange.proofs.closed.link_closed.Goals as goal

pub returns-in_default-clause-reason : goal.returns-in_default-clause-reason
returns-in_default-clause-reason g c = record { reason = OutOfMemory; means = tt; is = refl }

pub returns-then-is_border-clause-links : goal.returns-then-is_border-clause-links
returns-then-is_border-clause-links g c =
    let faces = corners_of c.args.faces.now in
    let as_many : length faces ≡ length c.args.faces.now = length-map c.args.faces.now (λ face. face.items) in
    let named : c.args.outer < length faces = omega (arith, c.if-outer-faces.false, as_many) in
    let same : lent c.deref.result.now ≡ without c.args.outer faces = ap lent c.deref.ensures.value ∙ c.in-Ok.ensures in
    let listed : length (lent c.deref.result.now) ≡ length c.deref.result.now = length-map c.deref.result.now (λ corners. corners.now) in
    let many : length c.deref.result.now + 1 ≡ length c.args.faces.now =
    omega (arith, listed, ap length same, length-without c.args.outer faces named, as_many) in
    subst (λ n. AreLinks c.args.vertices (without c.args.outer faces) (lists_claim c.in-Ok-link_faces.links c.args.vertices n)) many
    (subst (λ list. AreLinks c.args.vertices list (lists_claim c.in-Ok-link_faces.links c.args.vertices (length c.deref.result.now + 1))) same
    c.in-Ok-link_faces.ensures.links)

pub returns-then-is_border-clause-round : goal.returns-then-is_border-clause-round
returns-then-is_border-clause-round g c =
    let corners : c.deref-in-Ok-link_faces.result.now ≡ slice_index_or (corners_of c.args.faces.now) c.args.outer [] =
    c.deref-in-Ok-link_faces.ensures.value
    ∙ corners_at c.args.faces.now c.args.outer c.index-faces-outer.result (omega (arith, c.if-outer-faces.false)) c.index-faces-outer.is in
    subst (λ w. (start : ℕ) × GoesRound c.in-Ok-link_faces.links start w) corners (c.is_border.ensures.round c.if-is_border.true)

pub returns-in-Ok-link_faces-clause-reason : goal.returns-in-Ok-link_faces-clause-reason
returns-in-Ok-link_faces-clause-reason g c =
    let faces = corners_of c.args.faces.now in
    let same : lent c.deref.result.now ≡ without c.args.outer faces = ap lent c.deref.ensures.value ∙ c.in-Ok.ensures in
    let links : AreLinks c.args.vertices (without c.args.outer faces) (lists_claim c.in-Ok-link_faces.links c.args.vertices (length c.deref.result.now + 1)) =
    subst (λ list. AreLinks c.args.vertices list (lists_claim c.in-Ok-link_faces.links c.args.vertices (length c.deref.result.now + 1))) same
    c.in-Ok-link_faces.ensures.links in
    let corners : c.deref-in-Ok-link_faces.result.now ≡ slice_index_or faces c.args.outer [] =
    c.deref-in-Ok-link_faces.ensures.value
    ∙ corners_at c.args.faces.now c.args.outer c.index-faces-outer.result (omega (arith, c.if-outer-faces.false)) c.index-faces-outer.is in
    other_border c.in-Ok-link_faces.links c.args.vertices (length c.deref.result.now + 1) faces c.args.outer links
    (subst (λ w. (start : ℕ) → StartsOutside c.in-Ok-link_faces.links (slice_index w 0) start → HasOtherStart c.in-Ok-link_faces.links w) corners
    (c.is_border.ensures.other c.if-is_border.false))
