use Rattle.std.proofs.Common.{◌<◌, refl, sym, ◌∙◌, subst, eqb-true}
use Rattle.dcel_maps.specs.Words.{count_of}
use Rattle.dcel_maps.proofs.words.Mapped.{any_stands, count-at, stands_any}
use Rattle.spade_dcel.proofs.dcel.borders.stands_near.Goals as goal

pub returns-then-eq : goal.returns-then-eq
returns-then-eq g c =
    let same = sym c.index-items-place.is ∙ eqb-true c.index-items-place.result c.args.item (sym c.eq.ensures ∙ c.if-eq.true) in
    (λ is. subst (λ k. 0 < count_of k c.args.items.now) same (count-at c.args.items.now c.args.place c.index-items-place.result c.if-place-items.true), λ found. refl)

pub returns : goal.returns
returns g c = (
  λ is. any_stands c.args.item c.args.items.now (sym c.contains.ensures.value ∙ is),
  λ found. c.contains.ensures.value ∙ stands_any c.args.item c.args.items.now found,
)
