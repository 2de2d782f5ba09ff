use Rattle.std.proofs.Common.{◌<◌, ◌∙◌, ◌++◌, ◌∷◌, [], ℕ, List, ap, subst, sym}
use Rattle.dcel_regions.specs.Marked.{IsMarked}
use Rattle.dcel_constrained.proofs.Freed.{anchored_told, bare_told, comes_below, comes_next, fewer_marks, freeing_begins, none_left}
use Rattle.dcel_constrained.proofs.remove.free_edges_of.Goals as goal

pub returns-in_default-clause-frees : goal.returns-in_default-clause-frees
returns-in_default-clause-frees g c = (freeing_begins c.args.dcel.now c.args.vertex c.args.due.now.items c.every_mesh.ensures c.requires.sound c.requires.hull).frees

pub returns-in_default-clause-free : goal.returns-in_default-clause-free
returns-in_default-clause-free g c =
    bare_told c.args.dcel.now c.vertex.result.dcel.now c.args.vertex c.vertex.result.number c.vertex.ensures.mesh c.vertex.ensures.number c.in_default.ensures.anchor c.out_edge.ensures.anchored

pub loop-marked-init : goal.loop-marked-init
loop-marked-init g c = record {
  way = freeing_begins c.args.dcel.now c.args.vertex c.args.due.now.items c.every_mesh.ensures c.requires.sound c.requires.hull;
  out =
      anchored_told c.args.dcel.now c.vertex.result.dcel.now c.args.vertex c.vertex.result.number c.fix-half.result _ c.vertex.ensures.mesh c.vertex.ensures.number c.in-Some.ensures.anchor
      c.out_edge.ensures.anchored c.fix-half.ensures.value;
}

pub marked_from-requires : goal.marked_from-requires
marked_from-requires g c = c.loop-marked.invariant.out.live

pub set_mark-requires : goal.set_mark-requires
set_mark-requires g c =
    let some = c.in-Some-marked_from.ensures.some in
    subst (λ (u : ℕ). u < c.loop-marked.dcel.shape.edges) (sym c.as_undirected-edge.ensures)
    (comes_below c.args.dcel.now c.loop-marked.dcel c.args.vertex c.loop-marked.half c.in-Some-marked_from.marked c.loop-marked.due.items c.loop-marked.invariant some.0 some.1
    c.loop-marked.invariant.way.mesh)

pub loop-marked-smaller : goal.loop-marked-smaller
loop-marked-smaller g c =
    fewer_marks c.loop-marked.dcel c.set_mark.new.dcel c.as_undirected-edge.result c.set_mark.ensures.edit
    (subst (λ (u : ℕ). IsMarked c.loop-marked.dcel u) (sym c.as_undirected-edge.ensures) c.in-Some-marked_from.ensures.some.1)

pub loop-marked-preserved : goal.loop-marked-preserved
loop-marked-preserved g c =
    let some = c.in-Some-marked_from.ensures.some in
    comes_next c.args.dcel.now c.loop-marked.dcel c.args.vertex c.loop-marked.half c.in-Some-marked_from.marked c.loop-marked.due.items c.loop-marked.invariant some.0 some.1 c.set_mark.new.dcel
    c.push_reserved.new.self.items c.as_undirected-edge.result c.as_undirected-edge.ensures c.set_mark.ensures.edit c.set_mark.ensures.mesh
    (c.push_reserved.ensures.items ∙ ap (λ (l : List ℕ). l ++ c.as_undirected-edge.result ∷ []) c.reserve.ensures.items)

pub returns-clause-free : goal.returns-clause-free
returns-clause-free g c =
    none_left c.args.dcel.now c.loop-marked.dcel c.args.vertex c.loop-marked.half c.loop-marked.due.items c.loop-marked.invariant c.in_default-marked_from.ensures.none
