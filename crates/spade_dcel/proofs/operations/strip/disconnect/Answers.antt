use Rattle.std.proofs.Common.{[], ◌∷◌, rules, sym, ap, ◌∙◌, arith, map}
use Rattle.dcel_maps.proofs.lists.Removing.{strip_listed}
use Rattle.dcel_maps.specs.edits.Strip.{but_last, strip_cut}
use Rattle.dcel_maps.specs.Shapes.{face_of}
use Rattle.dcel_maps.specs.Words.{count_of}
use Rattle.dcel_maps.proofs.words.Counts.{count-append}
use Rattle.dcel_maps.proofs.words.EachSet.{but_last-is}
use Rattle.spade_dcel.proofs.StripItems.{listed_live}
use Rattle.spade_dcel.proofs.operations.strip.disconnect.Goals as goal

pub edges_before-requires : goal.edges_before-requires
edges_before-requires g c =
    listed_live c.args.dcel.now c.in-Some.others.now c.in-Some.field-0-0.now c.args.list.now c.every_mesh.ensures c.requires.closed c.in-Some.ensures.cases.0
    c.requires.strip

pub faces_beside-requires : goal.faces_beside-requires
faces_beside-requires g c edge found =
    let others = c.in-Some.others.now in
    let last = c.in-Some.field-0-0.now in
    let is = c.in-Some.ensures.cases.0 in
    let counted = ap (count_of edge) is ∙ count-append edge others (last ∷ []) in
    listed_live c.args.dcel.now others last c.args.list.now c.every_mesh.ensures c.requires.closed is c.requires.strip edge
    (omega (arith, found, counted))

pub cut-requires-clause-faces : goal.cut-requires-clause-faces
cut-requires-clause-faces g c =
    c.deref-2.ensures.value ∙ c.in_ok-faces_to_remove.ensures
    ∙ sym (ap (map (face_of c.args.dcel.now.shape)) (but_last-is c.in-Some.others.now c.in-Some.field-0-0.now))

pub returns-clause-answer : goal.returns-clause-answer
returns-clause-answer g c =
    record {
      edges = search rules;
      faces =
          c.in_ok-faces_to_remove.ensures
          ∙ sym (ap (map (face_of c.args.dcel.now.shape)) (ap but_last c.in-Some.ensures.cases.0 ∙ but_last-is c.in-Some.others.now c.in-Some.field-0-0.now));
      new_edges = search rules;
      smallest = search rules;
    }

pub returns-clause-edits : goal.returns-clause-edits
returns-clause-edits g c =
    strip_listed c.args.dcel.now c.every_mesh.ensures _ c.args.list.now (c.in_ok-cut.ensures.edit ∙ ap (strip_cut c.args.dcel.now) (sym c.in-Some.ensures.cases.0))
    c.requires.closed c.requires.strip
