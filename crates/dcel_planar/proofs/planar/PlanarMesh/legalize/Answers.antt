use Rattle.std.proofs.Common.{◌≡◌, ◌∙◌, ◌-◌, [], length, slice_get, sym, Some, rules, arith}
use Rattle.dcel_plane.specs.Plane.{point_at}
use Rattle.dcel_plane.proofs.edits.Flipped.{circled_can_flip}
use Rattle.dcel_planar.proofs.GoingOn.{some_listed}
use Rattle.dcel_planar.proofs.Whole.{on_err}
use Rattle.dcel_planar.proofs.Turned.{last_is, popped}
use Rattle.dcel_planar.proofs.Running.{falls_by, outlined_outside, passes_by, starts, turned_to, turns_by}
use Rattle.dcel_planar.proofs.Flat.{flips_flat}
use Rattle.dcel_planar.proofs.Hull.{flips_hull}
use Rattle.dcel_planar.proofs.planar.PlanarMesh.legalize.Goals as goal

pub loop-edge-init : goal.loop-edge-init
loop-edge-init g c = record { way = starts _ c.args.self.now.dcel c.args.self.now.due.items c.every_mesh.ensures c.args.self.now.triangulated c.requires.hull }

pub is_to_turn-requires : goal.is_to_turn-requires
is_to_turn-requires g c = c.loop-edge.invariant.way.triangulated

pub loop-edge-preserved-then-not-is_to_turn : goal.loop-edge-preserved-then-not-is_to_turn
loop-edge-preserved-then-not-is_to_turn g c =
    let items = c.loop-edge.self.due.items in
    let u = c.in-Some.field-0.now in
    let same = c.deref.ensures.value in
    let value = c.in-Some.ensures.value in
    let at : slice_get items (length items - 1) ≡ Some u = cc in
    let many : c.loop-edge.self.due.len ≡ length items = search (rules, c.deref.ensures.len) in
    record {
      way =
          passes_by _ c.args.self.now.dcel c.args.self.now.due.items c.loop-edge.self.dcel items c.pop.new.self.items u
          (popped items c.pop.new.self.items c.loop-edge.self.due.len u many c.pop.ensures.rest at) c.loop-edge.invariant.way
          (λ is. let yes = c.is_to_turn.ensures.1 is in let no = c.if-not-is_to_turn.true in cc);
    }

pub returns-in_err-reserve-clause-lists : goal.returns-in_err-reserve-clause-lists
returns-in_err-reserve-clause-lists g c = λ lists. rw c.reserve.ensures.items (c.loop-edge.invariant.way.lists lists)

pub flip_cw-requires : goal.flip_cw-requires
flip_cw-requires g c =
    let is = c.is_to_turn.ensures.0 c.if-not-is_to_turn.false in
    circled_can_flip c.loop-edge.self.dcel c.loop-edge.invariant.way.mesh c.in-Some.field-0.now (point_at c.loop-edge.self.dcel) is.inner is.circled

pub loop-edge-smaller : goal.loop-edge-smaller
loop-edge-smaller g c =
    let items = c.loop-edge.self.due.items in
    let u = c.in-Some.field-0.now in
    let same = c.deref.ensures.value in
    let value = c.in-Some.ensures.value in
    let at : slice_get items (length items - 1) ≡ Some u = cc in
    let is = c.is_to_turn.ensures.0 c.if-not-is_to_turn.false in
    let less = falls_by _ c.args.self.now.dcel c.args.self.now.due.items c.loop-edge.self.dcel items _ u (last_is items u at) c.loop-edge.invariant.way c.flip_cw.new.dcel c.flip_cw.ensures.edit is in
    omega (arith, less, c.append_sides.ensures.len, c.reserve.ensures.len)

pub loop-edge-preserved : goal.loop-edge-preserved
loop-edge-preserved g c =
    let items = c.loop-edge.self.due.items in
    let u = c.in-Some.field-0.now in
    let same = c.deref.ensures.value in
    let value = c.in-Some.ensures.value in
    let at : slice_get items (length items - 1) ≡ Some u = cc in
    let is = c.is_to_turn.ensures.0 c.if-not-is_to_turn.false in
    record {
      way =
          rw (c.append_sides.ensures.items, c.flip_cw.ensures.edit, c.reserve.ensures.items)
          (turns_by _ c.args.self.now.dcel c.args.self.now.due.items c.loop-edge.self.dcel items _ u (last_is items u at) c.loop-edge.invariant.way is);
    }

pub invariant_of-self-in-Break-1 : goal.invariant_of-self-in-Break-1
invariant_of-self-in-Break-1 g c =
    let way = c.loop-edge.invariant.way in
    record { triangulated = way.triangulated; outlined = ∣ outlined_outside _ _ way.hull ∣₁ }

pub invariant_of-self : goal.invariant_of-self
invariant_of-self g c =
    let way = c.loop-edge.invariant.way in
    record { triangulated = way.triangulated; outlined = ∣ outlined_outside _ _ way.hull ∣₁ }

pub invariant_of-self-in-Some : goal.invariant_of-self-in-Some
invariant_of-self-in-Some g c =
    let items = c.loop-edge.self.due.items in
    let u = c.in-Some.field-0.now in
    let same = c.deref.ensures.value in
    let value = c.in-Some.ensures.value in
    let at : slice_get items (length items - 1) ≡ Some u = cc in
    let is = c.is_to_turn.ensures.0 c.if-not-is_to_turn.false in
    let way = turns_by _ c.args.self.now.dcel c.args.self.now.due.items c.loop-edge.self.dcel items _ u (last_is items u at) c.loop-edge.invariant.way is in
    record {
      triangulated = rw c.flip_cw.ensures.edit way.triangulated;
      outlined = ∣ outlined_outside _ _ (rw c.flip_cw.ensures.edit way.hull) ∣₁;
    }

pub returns-clause-flat : goal.returns-clause-flat
returns-clause-flat g c = λ flat. let m = c.args.self.now.dcel in let n = c.loop-edge.self.dcel in flips_flat m n (turned_to _ m n c.loop-edge.invariant.way.flips) flat

pub returns-clause-hull : goal.returns-clause-hull
returns-clause-hull g c = λ has. let m = c.args.self.now.dcel in let n = c.loop-edge.self.dcel in flips_hull m n c.every_mesh.ensures (turned_to _ m n c.loop-edge.invariant.way.flips) has

pub returns-in_err-reserve-clause-flat : goal.returns-in_err-reserve-clause-flat
returns-in_err-reserve-clause-flat g c = λ flat. let m = c.args.self.now.dcel in let n = c.loop-edge.self.dcel in flips_flat m n (turned_to _ m n c.loop-edge.invariant.way.flips) flat

pub returns-in_err-reserve-clause-hull : goal.returns-in_err-reserve-clause-hull
returns-in_err-reserve-clause-hull g c = λ has. let m = c.args.self.now.dcel in let n = c.loop-edge.self.dcel in flips_hull m n c.every_mesh.ensures (turned_to _ m n c.loop-edge.invariant.way.flips) has

pub returns-in_err-reserve-clause-unfinished : goal.returns-in_err-reserve-clause-unfinished
returns-in_err-reserve-clause-unfinished g c =
    let items = c.loop-edge.self.due.items in
    let u = c.in-Some.field-0.now in
    let same = c.deref.ensures.value in
    let value = c.in-Some.ensures.value in
    let at : slice_get items (length items - 1) ≡ Some u = cc in
    on_err c.from_residual.result _ (λ none. some_listed _ [] items u (last_is items u at) (sym c.reserve.ensures.items ∙ none))
