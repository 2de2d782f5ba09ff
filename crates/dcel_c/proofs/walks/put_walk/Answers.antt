use Rattle.std.proofs.Common.{◌≡◌, ◌∷◌, ◌+◌, ◌∙◌, ℕ, List, map, ap, sym, subst, arith}
use Rattle.dcel_c.proofs.Buffers.{PutSoFar, put_goes_on, put_passes, put_ends}
use Rattle.dcel_c.proofs.walks.put_walk.Goals as goal
use Rattle.dcel_c.proofs.walks.put_walk.Goals.{then-needed-edges, else-needed-edges}

pub loop-edge-preserved : goal.loop-edge-preserved
loop-edge-preserved g c =
    let all : List ℕ = map (λ edge. edge.1) c.args.walk.items in
    let rest : List ℕ = map (λ edge. edge.1) c.loop-edge.edge-iterator.items in
    let more : List ℕ = map (λ edge. edge.1) c.next.new.self.items in
    let comes : rest ≡ c.in-Some.edge.number ∷ more = ap (map (λ edge. edge.1)) c.in-Some.ensures.steps.0 in
    elim c.if-needed-edges.branch [
      | then-needed-edges w ↦
          subst (λ (l : List ℕ). PutSoFar all more (c.loop-edge.needed + 1) c.args.edges.now l) (sym w.edges-is)
          (put_goes_on all rest more c.args.edges.now c.loop-edge.edges c.loop-edge.needed w.index.result c.loop-edge.invariant
          (comes ∙ ap (λ n. n ∷ more) (sym w.index.ensures.value)) w.if-needed-edges.true)
      | else-needed-edges w ↦
          subst (λ (l : List ℕ). PutSoFar all more (c.loop-edge.needed + 1) c.args.edges.now l) (sym w.edges-is)
          (put_passes all rest more c.args.edges.now c.loop-edge.edges c.loop-edge.needed c.in-Some.edge.number c.loop-edge.invariant comes (omega (arith, w.if-needed-edges.false)))
    ]

pub returns-clause-put : goal.returns-clause-put
returns-clause-put g c =
    (put_ends (map (λ edge. edge.1) c.args.walk.items) (map (λ edge. edge.1) c.loop-edge.edge-iterator.items) c.args.edges.now c.loop-edge.edges c.loop-edge.needed c.loop-edge.invariant
    (ap (map (λ edge. edge.1)) c.in-None.ensures.steps.0.0)).0
