use Rattle.std.proofs.Common.{◌∙◌, ◌+◌, ◌++◌, ap, drop, take}
use Rattle.std.proofs.lemmas.List.{take_rest}
use Rattle.dcel_exchange.specs.Corners.{corners_of}
use Rattle.dcel_exchange.proofs.ClosedFaces.{lent, map-without}
use Rattle.dcel_exchange.proofs.closed.list_others.Goals as goal

pub returns : goal.returns
returns g c =
    c.in_ok-add_faces-2.ensures
    ∙ ap (λ behind. lent c.add_faces.new.list.items ++ corners_of behind) (take_rest c.args.faces.now (c.args.outer + 1))
    ∙ ap (λ front. front ++ corners_of (drop (c.args.outer + 1) c.args.faces.now))
    (c.in_ok-add_faces.ensures ∙ ap (λ items. lent items ++ corners_of (take c.args.outer c.args.faces.now)) c.in_ok-others.ensures.items)
    ∙ map-without (λ face. face.items) c.args.outer c.args.faces.now
