use Rattle.std.proofs.Common.{◌≡◌, ◌∙◌, ◌-◌, [], append_assoc, length, slice_get, sym, Some, rules, arith}
use Rattle.dcel_maps.specs.edits.Flip.{edge_flipped}
use Rattle.dcel_plane.specs.Plane.{point_at}
use Rattle.dcel_plane.proofs.edits.Flipped.{circled_can_flip}
use Rattle.dcel_planar.proofs.Circling.{begins, both_beyond, falls_by, one_longer, outlined_after, passes_by, popped_then, turns_by}
use Rattle.dcel_planar.proofs.GoingOn.{some_listed}
use Rattle.dcel_planar.proofs.Running.{outlined_outside}
use Rattle.dcel_planar.proofs.Settling.{flips_keep}
use Rattle.dcel_planar.proofs.Turned.{last_is, popped}
use Rattle.dcel_planar.proofs.Whole.{on_err}
use Rattle.dcel_planar.proofs.star.PlanarMesh+unit+A.legalize_star.Goals as goal

pub loop-edge-init : goal.loop-edge-init
loop-edge-init g c = record { way = begins c.args.vertex c.args.self.now.dcel c.args.self.now.due.items c.every_mesh.ensures c.args.self.now.triangulated c.requires.circles }

pub is_still_illegal-requires : goal.is_still_illegal-requires
is_still_illegal-requires g c = c.loop-edge.invariant.way.triangulated

pub loop-edge-preserved-then-not-is_still_illegal : goal.loop-edge-preserved-then-not-is_still_illegal
loop-edge-preserved-then-not-is_still_illegal g c =
    let items = c.loop-edge.self.due.items in
    let u = c.in-Some.field-0.now in
    let same = c.deref.ensures.value in
    let value = c.in-Some.ensures.value in
    let at : slice_get items (length items - 1) ≡ Some u = cc in
    let many : c.loop-edge.self.due.len ≡ length items = search (rules, c.deref.ensures.len) in
    record {
      way =
          passes_by c.args.vertex c.args.self.now.dcel c.args.self.now.due.items c.loop-edge.self.dcel items c.pop.new.self.items u
          (popped items c.pop.new.self.items c.loop-edge.self.due.len u many c.pop.ensures.rest at) c.loop-edge.invariant.way
          (λ both. let yes = c.is_still_illegal.ensures.1 both in let no = c.if-not-is_still_illegal.true in cc);
    }

pub returns-in_err-reserve-clause-lists : goal.returns-in_err-reserve-clause-lists
returns-in_err-reserve-clause-lists g c = λ lists. rw c.reserve.ensures.items (c.loop-edge.invariant.way.lists lists)

pub edges_beyond-beyond-requires : goal.edges_beyond-beyond-requires
edges_beyond-beyond-requires g c = (c.is_still_illegal.ensures.0 c.if-not-is_still_illegal.false).0.live

pub flip_cw-requires : goal.flip_cw-requires
flip_cw-requires g c =
    let both = c.is_still_illegal.ensures.0 c.if-not-is_still_illegal.false in
    circled_can_flip c.loop-edge.self.dcel c.loop-edge.invariant.way.mesh c.in-Some.field-0.now (point_at c.loop-edge.self.dcel) both.0 both.1

pub returns-clause-keeps : goal.returns-clause-keeps
returns-clause-keeps g c = flips_keep c.args.self.now.dcel c.loop-edge.self.dcel c.args.self.now.triangulated.closed c.loop-edge.invariant.way.turned

pub returns-in_err-reserve-clause-keeps : goal.returns-in_err-reserve-clause-keeps
returns-in_err-reserve-clause-keeps g c = flips_keep c.args.self.now.dcel c.loop-edge.self.dcel c.args.self.now.triangulated.closed c.loop-edge.invariant.way.turned

pub returns-clause-hull : goal.returns-clause-hull
returns-clause-hull g c = outlined_after c.args.self.now.dcel c.loop-edge.self.dcel c.every_mesh.ensures c.loop-edge.invariant.way.turned c.requires.hull

pub returns-in_err-reserve-clause-hull : goal.returns-in_err-reserve-clause-hull
returns-in_err-reserve-clause-hull g c = outlined_after c.args.self.now.dcel c.loop-edge.self.dcel c.every_mesh.ensures c.loop-edge.invariant.way.turned c.requires.hull

pub returns-in_err-reserve-clause-unfinished : goal.returns-in_err-reserve-clause-unfinished
returns-in_err-reserve-clause-unfinished g c =
    let items = c.loop-edge.self.due.items in
    let u = c.in-Some.field-0.now in
    let same = c.deref.ensures.value in
    let value = c.in-Some.ensures.value in
    let at : slice_get items (length items - 1) ≡ Some u = cc in
    on_err c.from_residual.result _ (λ none. some_listed _ [] items u (last_is items u at) (sym c.reserve.ensures.items ∙ none))

pub invariant_of-self : goal.invariant_of-self
invariant_of-self g c =
    let m = c.args.self.now.dcel in
    let way = c.loop-edge.invariant.way in
    record { triangulated = way.triangulated; outlined = ∣ outlined_outside _ _ (outlined_after m c.loop-edge.self.dcel c.every_mesh.ensures way.turned c.requires.hull) ∣₁ }

pub invariant_of-self-in-Break-1 : goal.invariant_of-self-in-Break-1
invariant_of-self-in-Break-1 g c =
    let m = c.args.self.now.dcel in
    let way = c.loop-edge.invariant.way in
    record { triangulated = way.triangulated; outlined = ∣ outlined_outside _ _ (outlined_after m c.loop-edge.self.dcel c.every_mesh.ensures way.turned c.requires.hull) ∣₁ }

pub invariant_of-self-in-Some : goal.invariant_of-self-in-Some
invariant_of-self-in-Some g c =
    let items = c.loop-edge.self.due.items in
    let u = c.in-Some.field-0.now in
    let same = c.deref.ensures.value in
    let value = c.in-Some.ensures.value in
    let at : slice_get items (length items - 1) ≡ Some u = cc in
    let both = c.is_still_illegal.ensures.0 c.if-not-is_still_illegal.false in
    let m = c.args.self.now.dcel in
    let n = c.loop-edge.self.dcel in
    let beyond = c.edges_beyond-beyond in
    let way = turns_by c.args.vertex m c.args.self.now.due.items n items _ u (last_is items u at) c.loop-edge.invariant.way both.0 both.1 _
    (both_beyond n u c.args.vertex beyond.result 0 0 beyond.ensures.near beyond.ensures.far) in
    record {
      triangulated = rw c.flip_cw.ensures.edit way.triangulated;
      outlined = ∣ outlined_outside _ _ (rw c.flip_cw.ensures.edit (outlined_after m (edge_flipped n u) c.every_mesh.ensures way.turned c.requires.hull)) ∣₁;
    }

pub loop-edge-smaller : goal.loop-edge-smaller
loop-edge-smaller g c =
    let items = c.loop-edge.self.due.items in
    let u = c.in-Some.field-0.now in
    let same = c.deref.ensures.value in
    let value = c.in-Some.ensures.value in
    let at : slice_get items (length items - 1) ≡ Some u = cc in
    let both = c.is_still_illegal.ensures.0 c.if-not-is_still_illegal.false in
    let less = falls_by c.args.vertex c.args.self.now.dcel c.args.self.now.due.items c.loop-edge.self.dcel items _ u (last_is items u at) c.loop-edge.invariant.way both.0 both.1
    c.flip_cw.new.dcel c.flip_cw.ensures.edit in
    let many : c.reserve.new.self.len ≡ length items = search (rules, c.deref.ensures.len, c.reserve.ensures.len) in
    let front = c.pop-in-Some.new.self in
    let longer = one_longer items front.items u
    (popped_then items c.reserve.new.self.items front.items c.reserve.new.self.len u c.reserve.ensures.items many c.pop-in-Some.ensures.rest at) in
    omega (arith, less, longer, c.loop-edge.self.due.ok, front.ok, c.push_reserved-in-Some.ensures.len, c.push_reserved.ensures.len)

pub loop-edge-preserved : goal.loop-edge-preserved
loop-edge-preserved g c =
    let items = c.loop-edge.self.due.items in
    let u = c.in-Some.field-0.now in
    let same = c.deref.ensures.value in
    let value = c.in-Some.ensures.value in
    let at : slice_get items (length items - 1) ≡ Some u = cc in
    let many : c.reserve.new.self.len ≡ length items = search (rules, c.deref.ensures.len, c.reserve.ensures.len) in
    let both = c.is_still_illegal.ensures.0 c.if-not-is_still_illegal.false in
    let n = c.loop-edge.self.dcel in
    let beyond = c.edges_beyond-beyond in
    record {
      way =
          rw (c.push_reserved-in-Some.ensures.items, c.push_reserved.ensures.items, c.flip_cw.ensures.edit, append_assoc)
          (turns_by c.args.vertex c.args.self.now.dcel c.args.self.now.due.items n items c.pop-in-Some.new.self.items u
          (popped_then items c.reserve.new.self.items c.pop-in-Some.new.self.items c.reserve.new.self.len u c.reserve.ensures.items many c.pop-in-Some.ensures.rest at)
          c.loop-edge.invariant.way both.0 both.1 _ (both_beyond n u c.args.vertex beyond.result c.index-beyond-0.result c.index-beyond-1.result beyond.ensures.near beyond.ensures.far));
    }
