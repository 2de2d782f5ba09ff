use Rattle.std.proofs.Common.{◌∙◌, ap, sym, subst, length}
use Rattle.dcel_maps.proofs.words.Ascending.{Ascends, ascending-ascends}
use Rattle.dcel_record.proofs.Twice.{found-is}
use Rattle.dcel_record.proofs.given_up.GivenUp.contains.Goals as goal
use Rattle.dcel_record.specs.GivenUp.{second_half}

-- src/given_up.rt:52:5
pub returns : goal.returns
returns g c =
    let items = c.self.inside.handles.items in
    let up = subst Ascends (sym c.self.invariant.ascends) (ascending-ascends (second_half items)) in
    let len = c.len.ensures ∙ sym c.deref.ensures.len ∙ ap length c.deref.ensures.value in
    let said = rw (len, c.deref.ensures.value) at c.binary_search.ensures.position in
    rw (c.is_ok.ensures.value, ← c.self.view_is) (found-is _ c.args.handle.now _ up said)
