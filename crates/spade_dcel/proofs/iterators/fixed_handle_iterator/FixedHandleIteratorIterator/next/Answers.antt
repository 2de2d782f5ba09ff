use Rattle.std.proofs.Common.{◌≡◌, [], sym, ◌∙◌, arith}
use Rattle.dcel_maps.proofs.walks.Numbers.{numbers-first, numbers-none}
use Rattle.dcel_maps.proofs.walks.Progress.{takes_first}
use Rattle.spade_dcel.proofs.iterators.fixed_handle_iterator.FixedHandleIteratorIterator.next.Goals as goal

pub returns-then-self-clause-steps : goal.returns-then-self-clause-steps
returns-then-self-clause-steps g c =
    let none : c.args.self.now ≡ [] = sym c.self.view_is ∙ numbers-none c.self.inside.start c.self.inside.end (omega arith) in
    (none, none)

pub returns-clause-steps : goal.returns-clause-steps
returns-clause-steps g c =
    rw (← c.self.view_is, c.new-handle.ensures) (numbers-first c.self.inside.start c.self.inside.end (omega arith))

pub returns-clause-goes : goal.returns-clause-goes
returns-clause-goes g c = takes_first (λ handles. handles) _ (returns-clause-steps g c)
