use Rattle.std.proofs.Common.{◌<◌, length, refl, arith}
use Rattle.std.proofs.lemmas.List.{length-map}
use Rattle.dcel_store.proofs.Exchanges.{map-swap}
use Rattle.dcel_store.proofs.Store.swap_vertices.Goals as goal

pub returns : goal.returns
returns g c =
    let a = c.args.first in
    let b = c.args.second in
    let entries = c.self.inside.vertices.items in
    let long = length-map entries (λ v. v.«data») in
    let a_in : a < length entries = omega (arith, long, rw (← c.self.view_is) at c.requires.first_in) in
    let b_in : b < length entries = omega (arith, long, rw (← c.self.view_is) at c.requires.second_in) in
    rw (
      ← c.self.view_is,
      c.swap.ensures.items,
      c.swap.ensures.len,
      c.swap.ensures.capacity,
      c.index.ensures.value,
      c.index-2.ensures.value,
      map-swap (λ v. v.«data») entries a b a_in b_in,
      map-swap (λ v. v.out_edge) entries a b a_in b_in,
    ) refl
