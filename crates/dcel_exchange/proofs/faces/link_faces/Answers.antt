use Rattle.std.proofs.Common.{◌+◌, length, subst, arith, map}
use Rattle.std.proofs.lemmas.List.{length-map}
use Rattle.dcel_links.specs.Claims.{claim}
use Rattle.dcel_exchange.specs.Meshes.{AreLinks}
use Rattle.dcel_exchange.specs.Reasons.{Means}
use Rattle.dcel_exchange.specs.Closed.{IsInRange}
use Rattle.dcel_exchange.proofs.Borders.{made_links, passed_on, told}
use Rattle.dcel_exchange.proofs.ClosedFaces.{in_range}
use Rattle.dcel_exchange.proofs.FirstSides.{count_few}
use Rattle.dcel_exchange.proofs.Ranges.{afters_below, as_many_afters, as_many_ends, as_many_owners, ends_below, origins_below, owners_small}
use Rattle.dcel_exchange.proofs.faces.link_faces.Goals as goal

pub returns-in_err-sides-clause-reason : goal.returns-in_err-sides-clause-reason
returns-in_err-sides-clause-reason g c =
    passed_on (Means c.args.vertices (map g.S.AsSlice.items c.args.faces.now)) c.from_residual.result c.in_err-sides.field-0.0 c.from_residual.ensures
    (c.in_err-sides.ensures.reason c.args.vertices)

pub returns-in_err-sides-clause-in_range : goal.returns-in_err-sides-clause-in_range
returns-in_err-sides-clause-in_range g c =
    passed_on IsInRange c.from_residual.result c.in_err-sides.field-0.0 c.from_residual.ensures c.in_err-sides.ensures.in_range

pub returns-in_err-check_ends-clause-in_range : goal.returns-in_err-check_ends-clause-in_range
returns-in_err-check_ends-clause-in_range g c =
    passed_on IsInRange c.from_residual-in_err-check_ends.result c.in_err-check_ends.field-0.0 c.from_residual-in_err-check_ends.ensures
    (in_range c.args.vertices (map g.S.AsSlice.items c.args.faces.now) c.in_ok-sides.sides.from.items c.in_ok-sides.sides.to.items c.in_ok-sides.sides.face.items c.in_ok-sides.sides.after.items c.in_ok-sides.ensures.sides c.in_err-check_ends.field-0.0 c.in_err-check_ends.ensures.reason)

pub check_ends-requires-clause-ends : goal.check_ends-requires-clause-ends
check_ends-requires-clause-ends g c = as_many_ends (map g.S.AsSlice.items c.args.faces.now) c.in_ok-sides.sides.from.items c.in_ok-sides.sides.to.items c.in_ok-sides.sides.face.items c.in_ok-sides.sides.after.items c.in_ok-sides.ensures.sides

pub check_ends-requires-clause-faces : goal.check_ends-requires-clause-faces
check_ends-requires-clause-faces g c = as_many_owners (map g.S.AsSlice.items c.args.faces.now) c.in_ok-sides.sides.from.items c.in_ok-sides.sides.to.items c.in_ok-sides.sides.face.items c.in_ok-sides.sides.after.items c.in_ok-sides.ensures.sides

pub number_sides-requires-clause-ends : goal.number_sides-requires-clause-ends
number_sides-requires-clause-ends g c = as_many_ends (map g.S.AsSlice.items c.args.faces.now) c.in_ok-sides.sides.from.items c.in_ok-sides.sides.to.items c.in_ok-sides.sides.face.items c.in_ok-sides.sides.after.items c.in_ok-sides.ensures.sides

pub number_sides-requires-clause-faces : goal.number_sides-requires-clause-faces
number_sides-requires-clause-faces g c = as_many_owners (map g.S.AsSlice.items c.args.faces.now) c.in_ok-sides.sides.from.items c.in_ok-sides.sides.to.items c.in_ok-sides.sides.face.items c.in_ok-sides.sides.after.items c.in_ok-sides.ensures.sides

pub number_sides-requires-clause-stops : goal.number_sides-requires-clause-stops
number_sides-requires-clause-stops g c =
    ends_below (map g.S.AsSlice.items c.args.faces.now) c.in_ok-sides.sides.from.items c.in_ok-sides.sides.to.items c.in_ok-sides.sides.face.items c.in_ok-sides.sides.after.items c.in_ok-sides.ensures.sides c.args.vertices c.in_ok-check_ends.ensures.below

pub returns-in_err-numbering-clause-reason : goal.returns-in_err-numbering-clause-reason
returns-in_err-numbering-clause-reason g c =
    passed_on (Means c.args.vertices (map g.S.AsSlice.items c.args.faces.now)) c.from_residual-in_err-numbering.result c.in_err-numbering.field-0.0
    c.from_residual-in_err-numbering.ensures
    (told c.args.vertices (map g.S.AsSlice.items c.args.faces.now) c.in_ok-sides.sides.from.items c.in_ok-sides.sides.to.items c.in_ok-sides.sides.face.items c.in_ok-sides.sides.after.items c.in_ok-sides.ensures.sides c.in_err-numbering.field-0.0 (c.in_err-numbering.ensures.reason c.args.vertices))

pub returns-in_err-numbering-clause-in_range : goal.returns-in_err-numbering-clause-in_range
returns-in_err-numbering-clause-in_range g c =
    passed_on IsInRange c.from_residual-in_err-numbering.result c.in_err-numbering.field-0.0
    c.from_residual-in_err-numbering.ensures
    (in_range c.args.vertices (map g.S.AsSlice.items c.args.faces.now) c.in_ok-sides.sides.from.items c.in_ok-sides.sides.to.items c.in_ok-sides.sides.face.items c.in_ok-sides.sides.after.items c.in_ok-sides.ensures.sides c.in_err-numbering.field-0.0 (c.in_err-numbering.ensures.reason c.args.vertices))

pub find_border-requires-clause-few : goal.find_border-requires-clause-few
find_border-requires-clause-few g c =
    let edges = c.in_ok-numbering.ensures.numbered.edges in
    let few = count_few c.in_ok-sides.sides.from.items c.in_ok-sides.sides.to.items (length c.in_ok-sides.sides.from.items) in
    let sides = c.in_ok-sides.ensures.sides.few in
    omega (arith, edges, few, sides)

pub find_border-requires-clause-below : goal.find_border-requires-clause-below
find_border-requires-clause-below g c =
    origins_below c.in_ok-sides.sides.from.items c.in_ok-sides.sides.to.items c.args.vertices c.in_ok-numbering.numbering.half.items
    c.in_ok-numbering.numbering.side.items c.in_ok-numbering.numbering.origin.items c.in_ok-numbering.ensures.numbered c.in_ok-check_ends.ensures.below
    (ends_below (map g.S.AsSlice.items c.args.faces.now) c.in_ok-sides.sides.from.items c.in_ok-sides.sides.to.items c.in_ok-sides.sides.face.items c.in_ok-sides.sides.after.items c.in_ok-sides.ensures.sides c.args.vertices c.in_ok-check_ends.ensures.below)

pub list_links-requires-clause-afters : goal.list_links-requires-clause-afters
list_links-requires-clause-afters g c = as_many_afters (map g.S.AsSlice.items c.args.faces.now) c.in_ok-sides.sides.from.items c.in_ok-sides.sides.to.items c.in_ok-sides.sides.face.items c.in_ok-sides.sides.after.items c.in_ok-sides.ensures.sides

pub list_links-requires-clause-faces : goal.list_links-requires-clause-faces
list_links-requires-clause-faces g c = as_many_owners (map g.S.AsSlice.items c.args.faces.now) c.in_ok-sides.sides.from.items c.in_ok-sides.sides.to.items c.in_ok-sides.sides.face.items c.in_ok-sides.sides.after.items c.in_ok-sides.ensures.sides

pub list_links-requires-clause-after : goal.list_links-requires-clause-after
list_links-requires-clause-after g c = afters_below (map g.S.AsSlice.items c.args.faces.now) c.in_ok-sides.sides.from.items c.in_ok-sides.sides.to.items c.in_ok-sides.sides.face.items c.in_ok-sides.sides.after.items c.in_ok-sides.ensures.sides

pub list_links-requires-clause-few : goal.list_links-requires-clause-few
list_links-requires-clause-few g c = owners_small (map g.S.AsSlice.items c.args.faces.now) c.in_ok-sides.sides.from.items c.in_ok-sides.sides.to.items c.in_ok-sides.sides.face.items c.in_ok-sides.sides.after.items c.in_ok-sides.ensures.sides

pub list_links-requires-clause-below : goal.list_links-requires-clause-below
list_links-requires-clause-below g c =
    λ h within.
    let places = c.in_ok-border.ensures.places in
    let below = origins_below c.in_ok-sides.sides.from.items c.in_ok-sides.sides.to.items c.args.vertices c.in_ok-numbering.numbering.half.items
    c.in_ok-numbering.numbering.side.items c.in_ok-numbering.numbering.origin.items c.in_ok-numbering.ensures.numbered c.in_ok-check_ends.ensures.below
    (ends_below (map g.S.AsSlice.items c.args.faces.now) c.in_ok-sides.sides.from.items c.in_ok-sides.sides.to.items c.in_ok-sides.sides.face.items c.in_ok-sides.sides.after.items c.in_ok-sides.ensures.sides c.args.vertices c.in_ok-check_ends.ensures.below) h within in
    omega (arith, places, below)

pub returns-clause-links : goal.returns-clause-links
returns-clause-links g c =
    subst (λ n. AreLinks c.args.vertices (map g.S.AsSlice.items c.args.faces.now) (claim c.in_ok-next.next.items c.in_ok-numbering.numbering.origin.items c.in_ok-next.face.items c.args.vertices (n + 1)))
    (length-map c.args.faces.now g.S.AsSlice.items)
    (made_links c.args.vertices (map g.S.AsSlice.items c.args.faces.now) c.in_ok-sides.sides.from.items c.in_ok-sides.sides.to.items c.in_ok-sides.sides.face.items
    c.in_ok-sides.sides.after.items c.in_ok-numbering.numbering.half.items c.in_ok-numbering.numbering.side.items c.in_ok-numbering.numbering.origin.items
    c.in_ok-next.next.items c.in_ok-next.face.items c.in_ok-border.border.items c.in_ok-sides.ensures.sides c.in_ok-numbering.ensures.numbered
    c.in_ok-numbering.ensures.distinct c.in_ok-border.ensures.border c.in_ok-next.ensures)
