use Rattle.std.proofs.Common.{inl, inr, arith}
use Rattle.std.proofs.lemmas.Bool.{both_ways, false≢true}
use Rattle.std.proofs.lemmas.Grind.{common_steps}
use Rattle.dcel_maps.proofs.removal.RingTests.{test_iff-ring}
use Rattle.dcel_maps.proofs.words.Counts.{count-reverse}
use Rattle.spade_dcel.proofs.dcel.Dcel.is_region_ring.Goals as goal

pub returns-then-not-lie_between : goal.returns-then-not-lie_between
returns-then-not-lie_between g c = (
  λ is. absurd (false≢true is),
  λ ring.
      let t = (test_iff-ring c.args.self.now.shape c.every_mesh.ensures.sound c.args.list.now c.args.edges.now c.args.faces.now).1 ring in
      absurd (both_ways c.lie_between.result c.if-not-lie_between.true (c.lie_between.ensures.1 t.edges_fit)),
)

pub returns-then-not-leads_round : goal.returns-then-not-leads_round
returns-then-not-leads_round g c = (
  λ is. absurd (false≢true is),
  λ ring.
      let t = (test_iff-ring c.args.self.now.shape c.every_mesh.ensures.sound c.args.list.now c.args.edges.now c.args.faces.now).1 ring in
      absurd (both_ways c.leads_round.result c.if-not-leads_round.true (c.leads_round.ensures.1 (t.begins, t.round, t.alone))),
)

pub returns : goal.returns
returns g c =
    let iff = test_iff-ring c.args.self.now.shape c.every_mesh.ensures.sound c.args.list.now c.args.edges.now c.args.faces.now in
    let round = c.leads_round.ensures.0 c.if-not-leads_round.false in (
      λ is. iff.0 (record {
        many = omega arith;
        fewer = first_of (omega arith, grind (arith, common_steps));
        edges_once = c.are_different.ensures.0 c.if-not-are_different.false;
        faces_once = (c.are_inner_faces.ensures.0 c.if-not-are_inner_faces.false).0;
        faces_fit = (c.are_inner_faces.ensures.0 c.if-not-are_inner_faces.false).1;
        edges_fit = c.lie_between.ensures.0 c.if-not-lie_between.false;
        begins = round.0;
        round = round.1;
        alone = round.2;
        covers = λ f there h found. elim (c.are_covered.ensures.0 is f there h found) [
          | inl listed ↦ inl listed
          | inr stands ↦ inr (omega (arith, stands, count-reverse h c.args.list.now))
        ];
      }),
      λ ring. c.are_covered.ensures.1 (λ f there h found. elim ((iff.1 ring).covers f there h found) [
        | inl listed ↦ inl listed
        | inr stands ↦ inr (omega (arith, stands, count-reverse h c.args.list.now))
      ]),
    )
