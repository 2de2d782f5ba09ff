use Rattle.std.proofs.Common.{◌≡◌, ◌<◌, ◌++◌, ◌∷◌, [], length, map, pos, ap, ◌∙◌, arith}
use Rattle.std.proofs.lemmas.Option.{slice_get-get_or}
use Rattle.dcel_triangulations.specs.Points.{IsFar}
use Rattle.dcel_predicates.specs.declared.point.Point.{Point}
use Rattle.dcel_triangulations.specs.declared.points.DcelPoint.{DcelPoint}
use Rattle.dcel_triangulations.proofs.Read.{one_more, read_more}
use Rattle.dcel_triangulations.proofs.points.read_points.Goals as goal

pub loop-at-preserved : goal.loop-at-preserved
loop-at-preserved c =
    let given = c.args.given.now in
    let k = c.loop-at.at in
    let points = c.loop-at.points.items in
    let p = c.in-Some.point in
    let test = c.loop-at-test.true in
    let below : k < length given = omega (arith, test) in
    let at = slice_get-get_or given k (record { x = pos 0; y = pos 0 }) below in
    let items : c.push.new.self.items ≡ points ++ p ∷ [] = c.in-Ok-push.ensures.items in
    record {
      up_to = omega (arith, below);
      read = record {
        x = ap (map (λ (p : Point). p.x)) items ∙ read_more (λ (p : Point). p.x) (λ (p : DcelPoint). p.x) points given k p _ at c.in-Some.ensures.at.x c.loop-at.invariant.read.x;
        y = ap (map (λ (p : Point). p.y)) items ∙ read_more (λ (p : Point). p.y) (λ (p : DcelPoint). p.y) points given k p _ at c.in-Some.ensures.at.y c.loop-at.invariant.read.y;
      };
      near = one_more (λ (g : DcelPoint). ¬ IsFar g) given k _ at c.in-Some.ensures.near c.loop-at.invariant.near;
      untold = c.loop-at.invariant.untold;
    }
