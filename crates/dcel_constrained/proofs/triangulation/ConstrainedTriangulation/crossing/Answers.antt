use Rattle.std.proofs.Common.{arith}
use Rattle.dcel_constrained.proofs.triangulation.ConstrainedTriangulation.crossing.Goals as goal

pub returns-then-index-vertices-clause-crosses : goal.returns-then-index-vertices-clause-crosses
returns-then-index-vertices-clause-crosses g c = (
  λ so. absurd (let no = so in cc),
  λ both. absurd (let ends = both.0 in omega (arith, ends.from, c.index.ensures.value, c.num_vertices-vertices.ensures.count, c.if-index-vertices.true)),
)

pub returns-then-index-vertices-2-clause-crosses : goal.returns-then-index-vertices-2-clause-crosses
returns-then-index-vertices-2-clause-crosses g c = (
  λ so. absurd (let no = so in cc),
  λ both. absurd (let ends = both.0 in omega (arith, ends.to, c.index-2.ensures.value, c.num_vertices-vertices.ensures.count, c.if-index-vertices-2.true)),
)

pub crossing_in-requires-clause-ends : goal.crossing_in-requires-clause-ends
crossing_in-requires-clause-ends g c = record {
  from = omega (arith, c.index.ensures.value, c.num_vertices-vertices.ensures.count, c.if-index-vertices.false);
  to = omega (arith, c.index-2.ensures.value, c.num_vertices-vertices.ensures.count, c.if-index-vertices-2.false);
}

pub returns-clause-crosses : goal.returns-clause-crosses
returns-clause-crosses g c = (
  λ so. (
    record {
      from = omega (arith, c.index.ensures.value, c.num_vertices-vertices.ensures.count, c.if-index-vertices.false);
      to = omega (arith, c.index-2.ensures.value, c.num_vertices-vertices.ensures.count, c.if-index-vertices-2.false);
    },
    c.crossing_in.ensures.crosses.0 so,
  ),
  λ both. c.crossing_in.ensures.crosses.1 both.1,
)
