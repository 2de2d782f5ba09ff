use Rattle.std.proofs.Common.{◌≡◌, ◌∙◌, refl, sym, ap}
use Rattle.std.proofs.lemmas.Bool.{false≢true}
use Rattle.dcel_convenience.proofs.OnlyEdges.{IsNoSecond, IsNoSecondBack, only_here, only_there, read_at, second_here, second_there}
use Rattle.dcel_convenience.proofs.Passes.{passes_begin, passes_end, passes_next}
use Rattle.dcel_convenience.proofs.edges.is_only.Goals as goal
use Rattle.dcel_maps.specs.Shapes.{Mesh, end_of, origin_of}

pub loop-near-init : goal.loop-near-init
loop-near-init g c =
    let m = c.args.dcel.now in
    let s = m.shape in
    let h = c.args.half in
    let from_is : c.fix-from.result ≡ origin_of s h =
    read_at origin_of m c.directed_edge-edge.result.dcel.now h c.directed_edge-edge.result.number c.fix-from.result c.directed_edge-edge.ensures.mesh c.directed_edge-edge.ensures.number
    (c.fix-from.ensures.value ∙ c.from.ensures.number) in
    let to_is : c.fix-to.result ≡ end_of s h =
    read_at end_of m c.directed_edge-edge.result.dcel.now h c.directed_edge-edge.result.number c.fix-to.result c.directed_edge-edge.ensures.mesh c.directed_edge-edge.ensures.number
    (c.fix-to.ensures.value ∙ c.to.ensures.number) in (
      passes_begin m (origin_of s h) (IsNoSecond s h) c.out_edges-here.result.items
          (rw (c.vertex.ensures.mesh, c.vertex.ensures.number, from_is) at c.out_edges-here.ensures.items)
          (rw (c.vertex.ensures.mesh, c.vertex.ensures.number, from_is) at c.out_edges-here.ensures.each),
      passes_begin m (end_of s h) (IsNoSecondBack s h) c.out_edges-there.result.items
          (rw (c.vertex-2.ensures.mesh, c.vertex-2.ensures.number, to_is) at c.out_edges-there.ensures.items)
          (rw (c.vertex-2.ensures.mesh, c.vertex-2.ensures.number, to_is) at c.out_edges-there.ensures.each),
    )

pub returns-then-is_second : goal.returns-then-is_second
returns-then-is_second g c =
    let m = c.args.dcel.now in
    let s = m.shape in
    let h = c.args.half in
    let to_is : c.fix-to.result ≡ end_of s h =
    read_at end_of m c.directed_edge-edge.result.dcel.now h c.directed_edge-edge.result.number c.fix-to.result c.directed_edge-edge.ensures.mesh c.directed_edge-edge.ensures.number
    (c.fix-to.ensures.value ∙ c.to.ensures.number) in
    let near = passes_next m (origin_of s h) (IsNoSecond s h) _ _ _ _ c.loop-near.invariant.0 c.in-Some.ensures.steps.0 in
    let second = rw c.if-is_second.true at c.is_second.ensures.second in (
      λ no. absurd (false≢true no),
      λ only. absurd (second_here s h c.in-Some.near.number near.out ((rw near.same at second.0) ∙ to_is) second.1 only),
    )

pub returns-in_default-next : goal.returns-in_default-next
returns-in_default-next g c =
    let m = c.args.dcel.now in
    let s = m.shape in
    let h = c.args.half in (
      λ yes. only_there s h (passes_end m (end_of s h) (IsNoSecondBack s h) _ c.loop-near.invariant.1 c.in_default-next.ensures.steps.0.0),
      λ only. refl,
    )

pub returns-then-is_second-2 : goal.returns-then-is_second-2
returns-then-is_second-2 g c =
    let m = c.args.dcel.now in
    let s = m.shape in
    let h = c.args.half in
    let from_is : c.fix-from.result ≡ origin_of s h =
    read_at origin_of m c.directed_edge-edge.result.dcel.now h c.directed_edge-edge.result.number c.fix-from.result c.directed_edge-edge.ensures.mesh c.directed_edge-edge.ensures.number
    (c.fix-from.ensures.value ∙ c.from.ensures.number) in
    let far = passes_next m (end_of s h) (IsNoSecondBack s h) _ _ _ _ c.loop-near.invariant.1 c.in-Some-next.ensures.steps.0 in
    let second = rw c.if-is_second-2.true at c.is_second-in-Some.ensures.second in (
      λ no. absurd (false≢true no),
      λ only. absurd (second_there s h c.in-Some-next.far.number far.out ((rw far.same at second.0) ∙ from_is) (λ is. second.1 (is ∙ sym c.rev.ensures)) only),
    )

pub loop-near-preserved : goal.loop-near-preserved
loop-near-preserved g c =
    let m = c.args.dcel.now in
    let s = m.shape in
    let h = c.args.half in
    let from_is : c.fix-from.result ≡ origin_of s h =
    read_at origin_of m c.directed_edge-edge.result.dcel.now h c.directed_edge-edge.result.number c.fix-from.result c.directed_edge-edge.ensures.mesh c.directed_edge-edge.ensures.number
    (c.fix-from.ensures.value ∙ c.from.ensures.number) in
    let to_is : c.fix-to.result ≡ end_of s h =
    read_at end_of m c.directed_edge-edge.result.dcel.now h c.directed_edge-edge.result.number c.fix-to.result c.directed_edge-edge.ensures.mesh c.directed_edge-edge.ensures.number
    (c.fix-to.ensures.value ∙ c.to.ensures.number) in
    let near = passes_next m (origin_of s h) (IsNoSecond s h) _ _ _ _ c.loop-near.invariant.0 c.in-Some.ensures.steps.0 in
    let far = passes_next m (end_of s h) (IsNoSecondBack s h) _ _ _ _ c.loop-near.invariant.1 c.in-Some-next.ensures.steps.0 in
    let other = rw c.if-is_second.false at c.is_second.ensures.other in
    let other_back = rw c.if-is_second-2.false at c.is_second-in-Some.ensures.other in (
      near.goes_on (λ ends. other (ap (λ (x : Mesh g.row.V.Denot g.row.DE.Denot g.row.UE.Denot g.row.F.Denot). end_of x.shape c.in-Some.near.number) near.same ∙ ends ∙ sym to_is)),
      far.goes_on (λ ends. other_back (ap (λ (x : Mesh g.row.V.Denot g.row.DE.Denot g.row.UE.Denot g.row.F.Denot). end_of x.shape c.in-Some-next.far.number) far.same ∙ ends ∙ sym from_is) ∙ c.rev.ensures),
    )

pub returns : goal.returns
returns g c =
    let m = c.args.dcel.now in
    let s = m.shape in
    let h = c.args.half in (
      λ yes. only_here s h (passes_end m (origin_of s h) (IsNoSecond s h) _ c.loop-near.invariant.0 c.in_default.ensures.steps.0.0),
      λ only. refl,
    )
