use Rattle.std.proofs.Common.{append_assoc, refl, sym, ◌∙◌}
use mathlib.Core.Logic.{∥∥₁_map}
use Rattle.dcel_maps.specs.edits.Outside.{face_closed}
use Rattle.dcel_planar.specs.Growing.{Keeps}
use Rattle.dcel_planar.proofs.Ending.{still_way, turns_due}
use Rattle.dcel_planar.proofs.GoingOn.{close_goes_on, close_there, some_listed, turned_apart, turns_as}
use Rattle.dcel_planar.proofs.Growth.{closed-keeps, of_edit}
use Rattle.dcel_planar.proofs.Puts.{close_lists, close_triangulated, stays_outside, stays_triangulated}
use Rattle.dcel_planar.proofs.Ends.{close_edges}
use Rattle.dcel_planar.proofs.planar.PlanarMesh.close.Goals as goal

pub create_single_face_between_edge_and_next-requires-clause-can_close : goal.create_single_face_between_edge_and_next-requires-clause-can_close
create_single_face_between_edge_and_next-requires-clause-can_close g c =
    let old = c.args.self.now.dcel in
    let turns = turns_as old _ c.args.edge _ c.directed_edge.ensures.mesh c.directed_edge.ensures.number (c.turns_in.ensures.0 c.if-not-turns_in.false) in
    record { live = c.requires.outer.0; outer = c.requires.outer.1; apart = turned_apart old c.args.edge turns }

pub returns-clause-some : goal.returns-clause-some
returns-clause-some g c =
    close_there _ _ _ 1 1 c.args.self.now.dcel _ c.args.edge c.every_mesh.ensures c.args.self.now.triangulated c.requires.outer.0 c.requires.outer.1 (turns_as c.args.self.now.dcel _ c.args.edge _ c.directed_edge.ensures.mesh c.directed_edge.ensures.number (c.turns_in.ensures.0 c.if-not-turns_in.false)) c.in-Ok.ensures.edit
    c.create_single_face_between_edge_and_next.ensures.mesh _ c.in-Ok.ensures.answer

pub returns-clause-closes : goal.returns-clause-closes
returns-clause-closes g c =
    let old = c.args.self.now.dcel in
    let e = c.args.edge in
    record {
      keeps = of_edit _ _ _ 1 1 _ (face_closed old e) (λ m. Keeps old m) c.in-Ok.ensures.edit (λ h d f. closed-keeps old c.args.self.now.triangulated.closed e h d f);
      lists =
          close_lists _ _ _ 1 1 old _ e c.every_mesh.ensures c.requires.outer.0 c.in-Ok.ensures.edit c.create_single_face_between_edge_and_next.ensures.mesh c.args.self.now.due.items _
          (rw (
            c.push_reserved-3.ensures.items,
            c.push_reserved-2.ensures.items,
            c.push_reserved.ensures.items,
            c.reserve.ensures.items,
            c.new.ensures,
            c.as_undirected-2.ensures,
            c.as_undirected.ensures,
            c.num_undirected_edges-count.ensures.count,
            c.fix-next.ensures.value,
            c.next.ensures.number,
            c.directed_edge-2.ensures.mesh,
            c.directed_edge-2.ensures.number,
          ) (simp append_assoc));
      edges = close_edges _ _ _ 1 1 old _ e c.every_mesh.ensures c.in-Ok.ensures.edit;
      goes_on = close_goes_on _ _ _ 1 1 c.args.self.now.dcel _ c.args.edge c.every_mesh.ensures c.args.self.now.triangulated c.requires.outer.0 c.requires.outer.1
          (turns_as c.args.self.now.dcel _ c.args.edge _ c.directed_edge.ensures.mesh c.directed_edge.ensures.number (c.turns_in.ensures.0 c.if-not-turns_in.false))
          c.in-Ok.ensures.edit c.create_single_face_between_edge_and_next.ensures.mesh;
      listed = λ some. some_listed _ _ _ _ c.push_reserved-3.ensures.items;
    }

pub invariant_of-self-2-clause-triangulated : goal.invariant_of-self-2-clause-triangulated
invariant_of-self-2-clause-triangulated g c =
    close_triangulated _ _ _ 1 1 c.args.self.now.dcel _ c.args.edge c.every_mesh.ensures c.requires.outer.0 c.in-Ok.ensures.edit
    c.create_single_face_between_edge_and_next.ensures.mesh c.args.self.now.triangulated (turns_as c.args.self.now.dcel _ c.args.edge _ c.directed_edge.ensures.mesh c.directed_edge.ensures.number (c.turns_in.ensures.0 c.if-not-turns_in.false))

pub invariant_of-self-2-clause-outlined : goal.invariant_of-self-2-clause-outlined
invariant_of-self-2-clause-outlined g c =
    ∥∥₁_map c.args.self.now.outlined
    (λ way.
    still_way c.args.self.now.dcel c.create_single_face_between_edge_and_next.new.dcel c.args.self.now.due.items _ way
    (close_goes_on _ _ _ 1 1 c.args.self.now.dcel _ c.args.edge c.every_mesh.ensures c.args.self.now.triangulated c.requires.outer.0 c.requires.outer.1
    (turns_as c.args.self.now.dcel _ c.args.edge _ c.directed_edge.ensures.mesh c.directed_edge.ensures.number (c.turns_in.ensures.0 c.if-not-turns_in.false))
    c.in-Ok.ensures.edit c.create_single_face_between_edge_and_next.ensures.mesh)
    (λ some. some_listed _ _ _ _ c.push_reserved-3.ensures.items))

pub invariant_of-self-clause-outlined : goal.invariant_of-self-clause-outlined
invariant_of-self-clause-outlined g c =
    ∥∥₁_map c.args.self.now.outlined (stays_outside c.args.self.now.dcel c.args.self.now.dcel c.args.self.now.due.items _ refl c.reserve.ensures.items)

pub invariant_of-self-in_default-clause-triangulated : goal.invariant_of-self-in_default-clause-triangulated
invariant_of-self-in_default-clause-triangulated g c =
    stays_triangulated c.args.self.now.dcel _ c.in_default.ensures.refused c.args.self.now.triangulated

pub invariant_of-self-in_default-clause-outlined : goal.invariant_of-self-in_default-clause-outlined
invariant_of-self-in_default-clause-outlined g c =
    ∥∥₁_map c.args.self.now.outlined
    (stays_outside c.args.self.now.dcel _ c.args.self.now.due.items _ c.in_default.ensures.refused c.reserve.ensures.items)

pub returns-then-not-has_room-clause-unfinished : goal.returns-then-not-has_room-clause-unfinished
returns-then-not-has_room-clause-unfinished g c = (
  refl,
  turns_due c.args.self.now.dcel c.every_mesh.ensures c.args.self.now.due.items c.args.self.now.outlined c.args.edge c.requires.outer.0 c.requires.outer.1
      (turns_as c.args.self.now.dcel _ c.args.edge _ c.directed_edge.ensures.mesh c.directed_edge.ensures.number (c.turns_in.ensures.0 c.if-not-turns_in.false)),
)

pub returns-then-is_err-clause-unfinished : goal.returns-then-is_err-clause-unfinished
returns-then-is_err-clause-unfinished g c = (
  refl,
  λ none.
      turns_due c.args.self.now.dcel c.every_mesh.ensures c.args.self.now.due.items c.args.self.now.outlined c.args.edge c.requires.outer.0 c.requires.outer.1
      (turns_as c.args.self.now.dcel _ c.args.edge _ c.directed_edge.ensures.mesh c.directed_edge.ensures.number (c.turns_in.ensures.0 c.if-not-turns_in.false)) (sym c.reserve.ensures.items ∙ none),
)

pub returns-in_default-clause-unfinished : goal.returns-in_default-clause-unfinished
returns-in_default-clause-unfinished g c = (
  refl,
  λ none.
      turns_due c.args.self.now.dcel c.every_mesh.ensures c.args.self.now.due.items c.args.self.now.outlined c.args.edge c.requires.outer.0 c.requires.outer.1
      (turns_as c.args.self.now.dcel _ c.args.edge _ c.directed_edge.ensures.mesh c.directed_edge.ensures.number (c.turns_in.ensures.0 c.if-not-turns_in.false)) (sym c.reserve.ensures.items ∙ none),
)
