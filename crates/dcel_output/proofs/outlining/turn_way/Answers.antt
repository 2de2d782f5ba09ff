use Rattle.std.proofs.Common.{◌≡◌, ◌≢◌, ◌∙◌, ◌/◌, ◌<◌, ◌++◌, ◌∷◌, [], inl, ℕ, refl, arith, subst, sym}
use Rattle.std.proofs.lemmas.Bool.Decides.{nat_tests}
use Rattle.dcel_maps.specs.Shapes.{Shape, end_of}
use Rattle.dcel_constrained.proofs.Opening.{end_told}
use Rattle.dcel_constrained.proofs.Splits.{ends_below}
use Rattle.dcel_output.proofs.Parted.{IsPath, half_below, nearer, on_further, path_all, path_more, turns_more, turns_none}
use Rattle.dcel_output.proofs.outlining.turn_way.Goals as goal

pub loop-to-init : goal.loop-to-init
loop-to-init g c = record { shape = c.requires.shape; below = c.requires.ends.from; on = inl refl; halves = []; path = refl; turns = turns_none c.args.parted.now }

pub marked_along-requires : goal.marked_along-requires
marked_along-requires g c = record { from = c.loop-to.invariant.below; to = c.requires.ends.to }

pub returns-in_default-clause-shape : goal.returns-in_default-clause-shape
returns-in_default-clause-shape g c = c.loop-to.invariant.shape

pub returns-in_default-clause-broken : goal.returns-in_default-clause-broken
returns-in_default-clause-broken g c = λ no. record {
  vertex = c.loop-to.at;
  on = c.loop-to.invariant.on;
  before = grind (arith, nat_tests, c.loop-to-test.true);
  none = λ h leads. c.marked_along.ensures.none c.in_default.is h leads;
}

pub turn-requires : goal.turn-requires
turn-requires g c =
    let m = c.args.mesh.now in
    subst (λ (s : Shape). c.in-Some.half / 2 < s.edges) (sym c.loop-to.invariant.shape) (half_below m.shape c.in-Some.half c.in-Some.ensures.some.along.live)

pub loop-to-smaller : goal.loop-to-smaller
loop-to-smaller g c =
    let m = c.args.mesh.now in
    let half = c.in-Some.half in
    let edge = c.directed_edge in
    let end : c.fix-next.result ≡ end_of m.shape half =
    end_told m half edge.result.dcel.now edge.result.number c.fix-next.result c.to.result.number edge.ensures.mesh edge.ensures.number c.to.ensures.number c.fix-next.ensures.value in
    let differ : c.loop-to.at ≢ c.args.to = grind (arith, nat_tests, c.loop-to-test.true) in
    nearer m c.loop-to.at c.args.to c.fix-next.result half differ c.in-Some.ensures.some end

pub loop-to-preserved : goal.loop-to-preserved
loop-to-preserved g c =
    let m = c.args.mesh.now in
    let half = c.in-Some.half in
    let leads = c.in-Some.ensures.some in
    let known = c.loop-to.invariant in
    let edge = c.directed_edge in
    let end : c.fix-next.result ≡ end_of m.shape half =
    end_told m half edge.result.dcel.now edge.result.number c.fix-next.result c.to.result.number edge.ensures.mesh edge.ensures.number c.to.ensures.number c.fix-next.ensures.value in
    let halves = known.halves ++ half ∷ [] in
    record {
      shape = c.turn.ensures.shape ∙ known.shape;
      below = subst (λ (i : ℕ). i < m.shape.vertices) (sym end) (ends_below m c.every_mesh.ensures half leads.along.live);
      on = on_further m c.args.from c.args.to c.loop-to.at c.fix-next.result half known.on leads end;
      halves = halves;
      path =
          subst (λ (i : ℕ). IsPath m c.args.to c.args.from i halves) (sym end) (path_more m c.args.to c.args.from c.loop-to.at half known.halves known.path leads);
      turns = turns_more c.args.parted.now c.loop-to.parted c.turn.new.mesh known.halves half known.turns c.turn.ensures.turned;
    }

pub returns-clause-shape : goal.returns-clause-shape
returns-clause-shape g c = c.loop-to.invariant.shape

pub returns-clause-turned : goal.returns-clause-turned
returns-clause-turned g c = λ yes.
    let m = c.args.mesh.now in
    let known = c.loop-to.invariant in
    let there : c.loop-to.at ≡ c.args.to = grind (arith, nat_tests, c.loop-to-test.false) in
    (known.halves, path_all m c.args.to c.args.from known.halves (subst (λ (i : ℕ). IsPath m c.args.to c.args.from i known.halves) there known.path), known.turns)
