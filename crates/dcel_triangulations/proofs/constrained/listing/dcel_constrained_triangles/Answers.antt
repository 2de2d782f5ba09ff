use Rattle.std.proofs.Common.{subst}
use Rattle.dcel_triangulations.specs.Calls.{IsSo}
use Rattle.dcel_triangulations.specs.constrained.Calls.{IsWhole}
use Rattle.dcel_triangulations.specs.constrained.Held.{Kept, State}
use Rattle.dcel_triangulations.specs.constrained.Lists.{IsConstrainedTriangulation}
use Rattle.dcel_triangulations.proofs.constrained.listing.dcel_constrained_triangles.Goals as goal

pub returns-in-Ok-clause-constrained : goal.returns-in-Ok-clause-constrained
returns-in-Ok-clause-constrained c =
    let known = c.dcel.ensures in
    λ _ _.
    subst (λ (kept : Kept). IsSo (λ (t : State). IsWhole t → IsConstrainedTriangulation t) kept) c.as_mut.ensures.value
    (λ whole. record {
      closed = known.closed;
      triangles = known.triangles;
      joined = known.joined;
      plane = known.plane;
      apart = known.apart whole;
      covers = known.covers whole;
      single = known.single whole;
      hull = known.hull whole;
      constrained = known.constrained whole;
      visible = known.visible whole;
    })
