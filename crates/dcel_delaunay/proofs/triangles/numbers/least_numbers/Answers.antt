use Rattle.std.proofs.Common.{◌≡◌, ◌+◌, ◌-◌, ◌<◌, ◌≤◌, ◌∙◌, ℕ, Some, length, slice_get, set, sym, ap, subst, refl, rules, arith, vec_len}
use Rattle.std.proofs.lemmas.List.{length-set}
use Rattle.std.proofs.lemmas.Option.{slice_get_read}
use Rattle.dcel_delaunay.specs.Listing.{NamesLeast}
use Rattle.dcel_delaunay.proofs.listing.Numbers.{named_more, named_past}
use Rattle.dcel_delaunay.proofs.triangles.numbers.least_numbers.Goals as goal

pub loop-left-preserved-then-vertex-len : goal.loop-left-preserved-then-vertex-len
loop-left-preserved-then-vertex-len g c =
    let vertices = c.args.vertices.now in
    let numbers = c.loop-left.numbers.items in
    let k = c.loop-left.left - 1 in
    let w = c.index-vertex.result in
    let some = c.loop-left-test.true in
    let up_to = c.loop-left.invariant.up_to in
    let more : c.loop-left.left ≡ k + 1 = omega (arith, some) in
    let below : k < length vertices = omega (arith, some, up_to) in
    let at : slice_get vertices k ≡ Some w = slice_get_read vertices (length vertices) k c.index-vertices-left.result refl below c.index-vertices-left.is ∙ ap Some (sym c.index-vertex.ensures.value) in
    let named : NamesLeast vertices k (set numbers w k) = named_more vertices numbers k w at (subst (λ (n : ℕ). NamesLeast vertices n numbers) more c.loop-left.invariant.least) in
    record {
      up_to = omega (arith, up_to);
      count = length-set numbers w c.in-Ok.number ∙ c.loop-left.invariant.count;
      least = subst (λ (n : ℕ). NamesLeast vertices k (set numbers w n)) (sym c.in-Ok.ensures.1) named;
    }

pub loop-left-preserved : goal.loop-left-preserved
loop-left-preserved g c =
    let vertices = c.args.vertices.now in
    let numbers = c.loop-left.numbers.items in
    let k = c.loop-left.left - 1 in
    let w = c.index-vertex.result in
    let some = c.loop-left-test.true in
    let up_to = c.loop-left.invariant.up_to in
    let more : c.loop-left.left ≡ k + 1 = omega (arith, some) in
    let below : k < length vertices = omega (arith, some, up_to) in
    let at : slice_get vertices k ≡ Some w = slice_get_read vertices (length vertices) k c.index-vertices-left.result refl below c.index-vertices-left.is ∙ ap Some (sym c.index-vertex.ensures.value) in
    let long : length numbers ≡ vec_len c.loop-left.numbers = search rules in
    let len = c.len.ensures in
    let out = c.if-vertex-len.false in
    let past : length numbers ≤ w = omega (arith, long, len, out) in
    record {
      up_to = omega (arith, up_to);
      count = c.loop-left.invariant.count;
      least = named_past vertices numbers k w at past (subst (λ (n : ℕ). NamesLeast vertices n numbers) more c.loop-left.invariant.least);
    }
