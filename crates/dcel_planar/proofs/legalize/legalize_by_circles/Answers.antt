use Rattle.std.proofs.Common.{◌≡◌, ◌∙◌, ◌-◌, [], length, slice_get, sym, Some, None, rules, arith}
use Rattle.dcel_plane.specs.Plane.{point_at}
use Rattle.dcel_plane.proofs.edits.Flipped.{circled_can_flip}
use Rattle.dcel_planar.proofs.GoingOn.{some_listed}
use Rattle.dcel_planar.proofs.Whole.{on_err}
use Rattle.dcel_planar.proofs.Turned.{begins, delaunay, falls_by, last_is, no_last, passes_by, popped, turns_by}
use Rattle.dcel_planar.proofs.legalize.legalize_by_circles.Goals as goal

pub loop-edge-init : goal.loop-edge-init
loop-edge-init g c = record { way = begins c.args.dcel.now c.args.due.now.items c.every_mesh.ensures c.requires }

pub is_to_flip-requires : goal.is_to_flip-requires
is_to_flip-requires g c = c.loop-edge.invariant.way.plane

pub loop-edge-preserved-then-not-is_to_flip : goal.loop-edge-preserved-then-not-is_to_flip
loop-edge-preserved-then-not-is_to_flip g c =
    let items = c.loop-edge.due.items in
    let u = c.in-Some.field-0.now in
    let same = c.deref.ensures.value in
    let value = c.in-Some.ensures.value in
    let at : slice_get items (length items - 1) ≡ Some u = cc in
    let many : c.loop-edge.due.len ≡ length items = search (rules, c.deref.ensures.len) in
    record {
      way =
          passes_by c.args.dcel.now c.args.due.now.items c.loop-edge.dcel items c.pop.new.self.items u
          (popped items c.pop.new.self.items c.loop-edge.due.len u many c.pop.ensures.rest at) c.loop-edge.invariant.way
          (λ both. let yes = c.is_to_flip.ensures.1 both in let no = c.if-not-is_to_flip.true in cc);
    }

pub returns-in_err-reserve-clause-due : goal.returns-in_err-reserve-clause-due
returns-in_err-reserve-clause-due g c = λ lists. rw c.reserve.ensures.items (c.loop-edge.invariant.way.due lists)

pub returns-in_err-reserve-clause-others : goal.returns-in_err-reserve-clause-others
returns-in_err-reserve-clause-others g c = λ lacking lists. rw c.reserve.ensures.items (c.loop-edge.invariant.way.others lacking lists)

pub flip_cw-requires : goal.flip_cw-requires
flip_cw-requires g c =
    let both = c.is_to_flip.ensures.0 c.if-not-is_to_flip.false in
    circled_can_flip c.loop-edge.dcel c.loop-edge.invariant.way.mesh c.in-Some.field-0.now (point_at c.loop-edge.dcel) both.0 both.1

pub loop-edge-smaller : goal.loop-edge-smaller
loop-edge-smaller g c =
    let items = c.loop-edge.due.items in
    let u = c.in-Some.field-0.now in
    let same = c.deref.ensures.value in
    let value = c.in-Some.ensures.value in
    let at : slice_get items (length items - 1) ≡ Some u = cc in
    let both = c.is_to_flip.ensures.0 c.if-not-is_to_flip.false in
    let less = falls_by c.args.dcel.now c.args.due.now.items c.loop-edge.dcel items _ u (last_is items u at) c.loop-edge.invariant.way c.flip_cw.new.dcel c.flip_cw.ensures.edit both.0 both.1 in
    omega (arith, less, c.append_sides.ensures.len, c.reserve.ensures.len)

pub loop-edge-preserved : goal.loop-edge-preserved
loop-edge-preserved g c =
    let items = c.loop-edge.due.items in
    let u = c.in-Some.field-0.now in
    let same = c.deref.ensures.value in
    let value = c.in-Some.ensures.value in
    let at : slice_get items (length items - 1) ≡ Some u = cc in
    let both = c.is_to_flip.ensures.0 c.if-not-is_to_flip.false in
    record {
      way =
          rw (c.append_sides.ensures.items, c.flip_cw.ensures.edit, c.reserve.ensures.items)
          (turns_by c.args.dcel.now c.args.due.now.items c.loop-edge.dcel items _ u (last_is items u at) c.loop-edge.invariant.way both.0 both.1);
    }

pub returns-clause-delaunay : goal.returns-clause-delaunay
returns-clause-delaunay g c = λ lists.
    let items = c.loop-edge.due.items in
    let same = c.deref.ensures.value in
    let value = c.in_default.ensures.value in
    let none : slice_get items (length items - 1) ≡ None = search rules in
    delaunay c.args.dcel.now c.args.due.now.items c.loop-edge.dcel items c.loop-edge.invariant.way (no_last items none) lists

pub returns-in_err-reserve-clause-unfinished : goal.returns-in_err-reserve-clause-unfinished
returns-in_err-reserve-clause-unfinished g c =
    let items = c.loop-edge.due.items in
    let u = c.in-Some.field-0.now in
    let same = c.deref.ensures.value in
    let value = c.in-Some.ensures.value in
    let at : slice_get items (length items - 1) ≡ Some u = cc in
    on_err c.from_residual.result _ (λ none. some_listed _ [] items u (last_is items u at) (sym c.reserve.ensures.items ∙ none))
