use Rattle.std.proofs.Common.{◌≡◌, ℕ, List, ◌∷◌, [], ◌++◌, ◌+◌, ◌≤◌, sym, ◌∙◌, arith}
use Rattle.dcel_maps.specs.Numbers.{numbers_between}
use Rattle.dcel_maps.proofs.walks.Numbers.{numbers-next, numbers-none}
use Rattle.spade_dcel.proofs.operations.fill.edges_between.Goals as goal

grown : (a b k : ℕ) (done : List ℕ) → done ≡ numbers_between a b → k ≡ b → a ≤ b → done ++ k ∷ [] ≡ numbers_between a (b + 1)
grown a b k done are is above = rw (are, is) (sym (numbers-next a b above))

pub loop-index-init : goal.loop-index-init
loop-index-init g c = c.in_ok-edges.ensures.items ∙ sym (numbers-none c.args.begin c.args.begin (omega arith))

pub loop-index-preserved : goal.loop-index-preserved
loop-index-preserved g c =
    c.in_ok-push.ensures.items
    ∙ grown c.args.begin c.loop-index.index c.new.result c.loop-index.edges.items c.loop-index.invariant c.new.ensures
    (omega (arith, c.loop-index.auto.index))
