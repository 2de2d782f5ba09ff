use Rattle.std.proofs.Common.{◌≡◌, ◌/◌, ◌∙◌, ap, sym, rules}
use Rattle.dcel_fixed.specs.HalfEdges.{rev}
use Rattle.dcel_edits.proofs.Dropping.{half_of-odd}
use Rattle.dcel_edits.proofs.removal.take_out.moved_half.Goals as goal

pub returns : goal.returns
returns c =
    let same : c.args.edge / 2 ≡ c.args.last = search rules in
    c.rev.ensures ∙ ap rev c.as_directed-moved.ensures ∙ sym (half_of-odd c.args.last c.args.to c.args.edge same (search rules))
