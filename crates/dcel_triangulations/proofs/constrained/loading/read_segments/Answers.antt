use Rattle.std.proofs.Common.{◌≡◌, ◌<◌, ◌++◌, ◌∷◌, [], length, map, take, ap, ◌∙◌, arith}
use Rattle.std.proofs.lemmas.Option.{slice_get-get_or}
use Rattle.dcel_constrained.specs.declared.load.Segment.{Segment}
use Rattle.dcel_triangulations.specs.constrained.Loading.{segment_given}
use Rattle.dcel_triangulations.proofs.Read.{made_more}
use Rattle.dcel_triangulations.proofs.constrained.loading.read_segments.Goals as goal

pub loop-at-preserved : goal.loop-at-preserved
loop-at-preserved c =
    let given = c.args.given.now in
    let k = c.loop-at.at in
    let test = c.loop-at-test.true in
    let below : k < length given = omega (arith, test) in
    let made = c.segment_of.result in
    let items : c.push.new.self.items ≡ c.loop-at.list.items ++ made ∷ [] = c.in_ok-push.ensures.items in
    record {
      up_to = omega (arith, below);
      read =
          items ∙ ap (λ l. l ++ made ∷ []) c.loop-at.invariant.read ∙ ap (λ (s : Segment). map segment_given (take k given) ++ s ∷ []) c.segment_of.ensures
          ∙ made_more segment_given given k _ (slice_get-get_or given k (record { from = 0; to = 0 }) below);
    }
