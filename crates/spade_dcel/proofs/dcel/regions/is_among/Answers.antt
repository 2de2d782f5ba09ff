use Rattle.std.proofs.Common.{sym, ◌∙◌}
use Rattle.dcel_maps.proofs.words.Mapped.{any_stands, stands_any}
use Rattle.spade_dcel.proofs.dcel.regions.is_among.Goals as goal

pub returns : goal.returns
returns g c = (
  λ is. any_stands c.args.item.now c.args.items.now (sym c.contains.ensures.value ∙ is),
  λ found. c.contains.ensures.value ∙ stands_any c.args.item.now c.args.items.now found,
)
