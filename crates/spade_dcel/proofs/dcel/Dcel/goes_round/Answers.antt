use Rattle.std.proofs.Common.{◌≢◌, sym, ◌∙◌, subst, eq-eqb}
use Rattle.std.proofs.lemmas.Bool.{both_ways}
use Rattle.dcel_maps.specs.Shapes.{IsLive, origin_of}
use Rattle.dcel_maps.proofs.removal.Sectors.{round_begins, round_goes_on}
use Rattle.dcel_maps.proofs.walks.Links.{links_lawful}
use Rattle.spade_dcel.proofs.dcel.Dcel.goes_round.Goals as goal

pub loop-edge-init : goal.loop-edge-init
loop-edge-init g c =
    rw (c.rev-out_edge.ensures, c.prev_edge.ensures.value)
    (round_begins c.args.self.now.shape c.every_mesh.ensures.sound (origin_of c.args.self.now.shape c.args.last) c.args.first_out c.args.others.now c.requires.live)

pub origin-requires : goal.origin-requires
origin-requires g c =
    let shape = c.args.self.now.shape in
    let sector = c.is_sector.ensures.0 c.if-not-is_sector.false in
    subst (IsLive shape) sector.after ((links_lawful c.every_mesh.ensures.sound).stays c.loop-edge.out_edge c.loop-edge.invariant.live)

pub loop-edge-preserved : goal.loop-edge-preserved
loop-edge-preserved g c =
    let shape = c.args.self.now.shape in
    let sector = c.is_sector.ensures.0 c.if-not-is_sector.false in
    let apart : origin_of shape c.in-Some.field-0-0.now ≢ origin_of shape c.args.last =
    λ same. both_ways c.eq.result c.if-eq.false (c.eq.ensures ∙ eq-eqb c.origin.result c.origin-apex.result (c.origin.ensures.value ∙ same ∙ sym c.origin-apex.ensures.value)) in
    rw (c.rev-out_edge-in-Some.ensures, c.prev_edge-in-Some.ensures.value)
    (round_goes_on shape (origin_of shape c.args.last) c.args.first_out c.args.others.now c.loop-edge.out_edge c.loop-edge.left.now c.loop-edge.invariant
    c.in-Some.field-0-0.now c.in-Some.before.now c.in-Some.ensures.cases.0 c.every_mesh.ensures.sound sector apart)
