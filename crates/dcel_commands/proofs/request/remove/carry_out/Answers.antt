use Rattle.std.proofs.Common.{ap, rules, sym}
use Rattle.std.proofs.lemmas.Option.{get_or_from_slice_get}
use Rattle.dcel_commands.specs.Responses.{Removed}
use Rattle.dcel_commands.proofs.request.remove.carry_out.Goals as goal

pub returns : goal.returns
returns g c = λ limit.
    let removed = c.swap_remove_vertex-removed in
    let taken = removed.result.removed_vertex in
    let datum = sym (get_or_from_slice_get c.args.dcel.now.vertex_data c.args.vertex taken taken removed.ensures.datum) in
    let asked = c.in_ok-ask_removable.ensures in (
      (search rules, (asked.0, (asked.1.0, tt))),
      (
        (taken, datum, ap (λ moved. Removed taken moved) removed.ensures.moved),
        removed.ensures.edit,
      ),
    )
