use Rattle.std.proofs.Common.{List, subst}
use Rattle.dcel_decimals.specs.declared.decimal.Decimal.{Decimal}
use Rattle.delaunay.specs.Placed.{IsFinest}
use Rattle.delaunay.proofs.Fitting.{coarser_finest}
use Rattle.delaunay.proofs.reading.Coordinates.grid.Goals as goal

pub returns : goal.returns
returns c =
    let grid = c.coarser.result in
    let these = c.deref.result.now in
    let those = c.deref-2.result.now in
    subst (λ (l : List Decimal). IsFinest grid l c.args.others.now.all.items) c.deref.ensures.value
    (subst (λ (l : List Decimal). IsFinest grid these l) c.deref-2.ensures.value
    (coarser_finest grid these those c.fit.result.halvings c.fit-2.result.halvings c.coarser.ensures c.fit.ensures.fits c.fit-2.ensures.fits c.fit.ensures.finest c.fit-2.ensures.finest))
