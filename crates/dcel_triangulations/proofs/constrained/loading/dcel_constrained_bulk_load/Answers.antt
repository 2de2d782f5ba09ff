use Rattle.std.proofs.Common.{◌≡◌, ◌∙◌, List, ℕ, ap, rules, subst, sym}
use Rattle.dcel_exports.specs.Answers.{filled}
use Rattle.dcel_predicates.specs.declared.point.Point.{Point}
use Rattle.dcel_triangulations.specs.Calls.{IsSo}
use Rattle.dcel_triangulations.specs.Points.{AreRead}
use Rattle.dcel_triangulations.specs.constrained.Held.{Kept}
use Rattle.dcel_triangulations.specs.constrained.Loading.{HasLoaded}
use Rattle.dcel_triangulations.proofs.constrained.loading.dcel_constrained_bulk_load.Goals as goal

pub returns-in-Ok-bulk_load-clause-done : goal.returns-in-Ok-bulk_load-clause-done
returns-in-Ok-bulk_load-clause-done c =
    let read : c.deref.result.now ≡ c.in-Ok.read.items = search rules in
    let ends : c.deref-2.result.now ≡ c.in-Ok-read_segments.ends.items = search rules in
    let list : c.deref-in-Ok-bulk_load.result.now ≡ c.in-Ok-bulk_load.list.items = search rules in
    let zero : c.keep-status.result ≡ 0 = search rules in
    λ _.
    subst (λ (kept : Kept). IsSo (HasLoaded c.args.points.now c.args.segments.now c.args.vertices.now c.put_numbers.new.buffer) kept)
    (sym (c.keep-status.ensures.done zero)) (record {
      points = c.deref.result.now;
      are = subst (λ (l : List Point). AreRead c.args.points.now l) (sym read) c.in-Ok.ensures.read;
      vertices = c.in-Ok-bulk_load.list.items;
      stand = c.in-Ok-bulk_load.ensures.stand;
      from = c.in-Ok-bulk_load.ensures.points;
      segments = c.deref-2.result.now;
      given_as = ends ∙ c.in-Ok-read_segments.ensures;
      laid = c.in-Ok-bulk_load.ensures.laid;
      only = c.in-Ok-bulk_load.ensures.only;
      put = c.put_numbers.ensures ∙ ap (λ (l : List ℕ). filled l c.args.vertices.now) list;
      whole = c.in-Ok-bulk_load.ensures.whole;
    })

pub returns-clause-fails : goal.returns-clause-fails
returns-clause-fails c =
    let read : c.deref.result.now ≡ c.in-Ok.read.items = search rules in
    let ends : c.deref-2.result.now ≡ c.in-Ok-read_segments.ends.items = search rules in
    λ _ _ _ _. record {
      points = c.deref.result.now;
      are = subst (λ (l : List Point). AreRead c.args.points.now l) (sym read) c.in-Ok.ensures.read;
      segments = c.deref-2.result.now;
      given_as = ends ∙ c.in-Ok-read_segments.ensures;
      error = c.in-Err-bulk_load.error;
      why = c.status_of_load.ensures;
      told = (let known = c.row_of.ensures in let same = c.in-Ok.ensures.untold in cc);
      fails = c.in-Err-bulk_load.ensures.fails;
    }
