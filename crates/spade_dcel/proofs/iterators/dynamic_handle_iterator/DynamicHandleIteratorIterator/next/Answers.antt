use Rattle.std.proofs.Common.{◌<◌}
use Rattle.std.proofs.lemmas.List.Elements.{All-rest}
use Rattle.dcel_maps.specs.Kinds.{number_of_elements}
use Rattle.spade_dcel.proofs.iterators.dynamic_handle_iterator.DynamicHandleIteratorIterator.next.Goals as goal

pub invariant_of-self-2 : goal.invariant_of-self-2
invariant_of-self-2 g c =
    All-rest (λ n. n < number_of_elements g.Kind.DelaunayElementType.kind c.self.inside.dcel.now.shape) _ _ _
    c.in_ok-handle.ensures.steps c.self.invariant
