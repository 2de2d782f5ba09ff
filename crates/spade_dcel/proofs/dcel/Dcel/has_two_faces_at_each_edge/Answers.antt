use Rattle.std.proofs.Common.{sym, ◌∙◌, arith, below_more, eq-eqb, eqb-true}
use Rattle.std.proofs.lemmas.Bool.{false≢true}
use Rattle.dcel_fixed.proofs.Halves.{rev-double}
use Rattle.dcel_maps.proofs.Liveness.{closed-live, closed-even_live, closed-odd_live}
use Rattle.spade_dcel.proofs.dcel.Dcel.has_two_faces_at_each_edge.Goals as goal

pub face_of_edge-requires : goal.face_of_edge-requires
face_of_edge-requires g c = rw c.new_normalized-edge.ensures (closed-even_live c.args.self.now.shape c.requires c.loop-index.index (omega arith))

pub face_of_edge-requires-in-loop-index : goal.face_of_edge-requires-in-loop-index
face_of_edge-requires-in-loop-index g c =
    rw (c.rev.ensures, c.new_normalized-edge.ensures, rev-double) (closed-odd_live c.args.self.now.shape c.requires c.loop-index.index (omega arith))

pub returns-then-eq : goal.returns-then-eq
returns-then-eq g c =
    let shape = c.args.self.now.shape in
    let live = closed-live shape c.requires c.loop-index.index (omega arith) in
    let even = rw c.new_normalized-edge.ensures at c.face_of_edge.ensures.value in
    let odd = rw (c.rev.ensures, c.new_normalized-edge.ensures, rev-double) at c.face_of_edge-in-loop-index.ensures.value in
    let same = eqb-true c.face_of_edge.result c.face_of_edge-in-loop-index.result (sym c.eq.ensures ∙ c.if-eq.true) in (
      λ no. absurd (false≢true no),
      λ all. absurd (all c.loop-index.index live (sym even ∙ same ∙ odd)),
    )

pub loop-index-preserved : goal.loop-index-preserved
loop-index-preserved g c =
    let even = rw c.new_normalized-edge.ensures at c.face_of_edge.ensures.value in
    let odd = rw (c.rev.ensures, c.new_normalized-edge.ensures, rev-double) at c.face_of_edge-in-loop-index.ensures.value in
    below_more _ _ c.loop-index.invariant
    (λ same. false≢true (sym c.if-eq.false ∙ c.eq.ensures ∙ eq-eqb c.face_of_edge.result c.face_of_edge-in-loop-index.result (even ∙ same ∙ sym odd)))
