use Rattle.std.proofs.Common.{◌≡◌, ◌<◌, ◌*◌, ◌∙◌, ap, arith, length, sym}
use Rattle.std.proofs.lemmas.List.{length-map}
use Rattle.dcel_maps.specs.Numbers.{numbers_between}
use Rattle.dcel_maps.specs.Shapes.{Shape}
use Rattle.dcel_maps.proofs.walks.Numbers.{length-numbers}
use Rattle.dcel_triangulations.specs.Lists.{links_of, links_told}
use Rattle.dcel_triangulations.proofs.Filling.{number_at, put_all, put_next, put_none}
use Rattle.dcel_triangulations.proofs.links.put_links.Goals as goal

length-told : (s : Shape) → length (links_told s) ≡ 2 * s.edges
length-told s = omega (arith, length-map (numbers_between 0 (2 * s.edges)) (links_of s), length-numbers 0 (2 * s.edges))

pub returns-then-half_edges-count : goal.returns-then-half_edges-count
returns-then-half_edges-count g c =
    let s = c.args.dcel.now.shape in
    let short = c.if-half_edges-count.true in
    put_none (links_told s) c.args.half_edges.now c.num_directed_edges-count.result (c.num_directed_edges-count.ensures.count ∙ sym (length-told s)) (omega (arith, short))

pub loop-number-preserved : goal.loop-number-preserved
loop-number-preserved g c =
    let s = c.args.dcel.now.shape in
    let k = c.loop-number.number in
    let test = c.loop-number-test.true in
    let fits = c.if-half_edges-count.false in
    let count = c.num_directed_edges-count.ensures.count in
    let below : k < 2 * s.edges = omega (arith, test, count) in
    record {
      up_to = omega (arith, test);
      put =
          put_next (links_of s) (numbers_between 0 (2 * s.edges)) c.args.half_edges.now c.loop-number.half_edges k k c.links.result (number_at (2 * s.edges) k below)
          (c.links.ensures ∙ ap (links_of s) c.new.ensures) (omega (arith, test, fits)) c.loop-number.invariant.put;
    }

pub returns : goal.returns
returns g c =
    let s = c.args.dcel.now.shape in
    let fits = c.if-half_edges-count.false in
    let test = c.loop-number-test.false in
    put_all (links_told s) c.args.half_edges.now c.loop-number.half_edges c.num_directed_edges-count.result c.loop-number.number
    (c.num_directed_edges-count.ensures.count ∙ sym (length-told s)) (omega (arith, fits)) (omega (arith, test)) c.loop-number.invariant.up_to c.loop-number.invariant.put
