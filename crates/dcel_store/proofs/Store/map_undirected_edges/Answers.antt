use Rattle.std.proofs.Common.{◌≡◌, vec_len, arith, refl}
use Rattle.dcel_store.proofs.Lengths.{agree_as_long, as_many}
use Rattle.dcel_store.proofs.Store.map_undirected_edges.Goals as goal

pub invariant_of-result : goal.invariant_of-result
invariant_of-result g c =
    let old = c.self.inside.undirected_data in
    let new = c.in-Ok.undirected_data in
    let many = as_many _ old.items new.items c.in-Ok.ensures.answered in
    let long : vec_len new ≡ vec_len old = omega (arith, many, old.ok, new.ok) in
    agree_as_long c.self.inside _ c.self.invariant refl refl refl refl refl long c.in-Ok.ensures.exact
