use Rattle.std.proofs.Common.{◌<◌, length, None, refl, sym, subst}
use Rattle.std.proofs.lemmas.List.Edits.{length-swap, swapped_from_swap}
use Rattle.dcel_edits.specs.Rename.{ccw_by, cw_by}
use Rattle.dcel_edits.specs.Rounds.{AnchorComesBack}
use Rattle.dcel_edits.proofs.rename.exchange_vertices.Goals as goal

pub rename_turn-requires : goal.rename_turn-requires
rename_turn-requires g c =
    let s = c.args.store.now in
    let a = c.args.first in
    let b = c.args.second in
    let one = c.requires.first_turns in
    let two = c.requires.second_turns in
    let swapped = swapped_from_swap s.vertex_anchors _ a b None one.anchor_in two.anchor_in refl in
    rw c.swap_vertices.ensures record {
      anchor_in = subst (λ n. a < n) (sym (length-swap s.vertex_anchors a b)) one.anchor_in;
      whole = one.whole;
      turns = subst (AnchorComesBack (ccw_by s.prev) (cw_by s.next) (length s.next)) (sym swapped.0) two.turns;
    }

pub rename_turn-requires-2 : goal.rename_turn-requires-2
rename_turn-requires-2 g c =
    let s = c.args.store.now in
    let a = c.args.first in
    let b = c.args.second in
    let one = c.requires.first_turns in
    let two = c.requires.second_turns in
    let swapped = swapped_from_swap s.vertex_anchors _ a b None one.anchor_in two.anchor_in refl in
    rw (c.rename_turn.ensures, c.swap_vertices.ensures) record {
      anchor_in = subst (λ n. b < n) (sym (length-swap s.vertex_anchors a b)) two.anchor_in;
      whole = two.whole;
      turns = subst (AnchorComesBack (ccw_by s.prev) (cw_by s.next) (length s.next)) (sym swapped.1) one.turns;
    }

pub returns : goal.returns
returns g c =
    let a_in = c.requires.first_turns.anchor_in in
    let b_in = c.requires.second_turns.anchor_in in
    let anchors = c.args.store.now.vertex_anchors in
    let swapped = swapped_from_swap anchors _ c.args.first c.args.second None a_in b_in refl in
    rw (
      c.rename_turn-2.ensures,
      c.rename_turn.ensures,
      c.swap_vertices.ensures,
      swapped.0,
      swapped.1,
    ) refl
