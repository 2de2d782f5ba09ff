use Rattle.std.proofs.Common.{◌≡◌, length, vec_len, arith, refl}
use Rattle.std.proofs.lemmas.Iterator.{length_from_collect}
use Rattle.std.proofs.lemmas.Iterator.Consumers.{YieldsList-from_first}
use Rattle.dcel_speed.proofs.remove.order_of.Goals as goal

pub shuffle-requires : goal.shuffle-requires
shuffle-requires g c =
    let listed = c.fixed_vertices.result in
    let ran = length_from_collect c.collect.result (length listed) c.collect.ensures.ran (YieldsList-from_first (λ x. x) (λ handles. handles) listed refl) refl in
    let long : vec_len c.in_ok-order.order ≡ length listed = rw c.in_ok-order.was at ran in
    omega (arith, c.split_at_mut-inside.ensures.back_len, c.deref_mut.ensures.len, c.fixed_vertices.ensures.few, long)
