use Rattle.std.proofs.Common.{◌∙◌, sym, ap, None, slice_index_or}
use Rattle.dcel_exchange.proofs.Borders.{found_one, found_side}
use Rattle.dcel_exchange.proofs.FirstSides.{not_none}
use Rattle.dcel_exchange.proofs.linking.note_border.Goals as goal

pub returns-in-Some-clause-found : goal.returns-in-Some-clause-found
returns-in-Some-clause-found g c =
    found_side c.args.numbering.now.side.items c.args.numbering.now.origin.items c.args.half c.args.border.now.items c.requires.found
    (λ bare. not_none c.in-Some.field-0 (sym c.in-Some.is ∙ c.side.ensures ∙ bare))

pub returns-clause-found : goal.returns-clause-found
returns-clause-found g c =
    rw c.origin-origin.ensures
    (found_one c.args.numbering.now.side.items c.args.numbering.now.origin.items c.args.half c.args.border.now.items c.requires.found
    (sym c.side.ensures ∙ c.in-None.is) c.requires.within
    (ap (λ v. slice_index_or c.args.border.now.items v None) (sym c.origin-origin.ensures) ∙ sym c.found_at.ensures ∙ c.in-None-found_at.is))
