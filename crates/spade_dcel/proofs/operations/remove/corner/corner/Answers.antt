use Rattle.std.proofs.Common.{[], ◌∷◌, ap, sym, ◌∙◌, arith}
use Rattle.dcel_maps.specs.Shapes.{origin_of, prev_of}
use Rattle.dcel_maps.specs.Words.{count_of, last_of}
use Rattle.dcel_maps.proofs.words.Counts.{count-append, count-same}
use Rattle.dcel_maps.proofs.words.EachSet.{last_of-is}
use Rattle.spade_dcel.proofs.StripItems.{listed_live}
use Rattle.spade_dcel.proofs.operations.remove.corner.corner.Goals as goal

pub prev_edge-requires : goal.prev_edge-requires
prev_edge-requires g c =
    let others = c.in-Some._others.now in
    let last = c.in-Some.field-0-0.now in
    let is = c.in-Some.ensures.cases.0 in
    listed_live c.args.dcel.now others last c.args.strip.now c.every_mesh.ensures c.requires.closed is c.requires.strip last
    (omega (arith, count-same last [], count-append last others (last ∷ []), ap (count_of last) is))

pub returns : goal.returns
returns g c =
    let s = c.args.dcel.now.shape in
    let others = c.in-Some._others.now in
    let last = c.in-Some.field-0-0.now in
    rw (c.origin.ensures.value, c.prev_edge.ensures.value)
    (ap (λ l. origin_of s (prev_of s l)) (sym (ap (last_of 0) c.in-Some.ensures.cases.0 ∙ last_of-is 0 others last)))
