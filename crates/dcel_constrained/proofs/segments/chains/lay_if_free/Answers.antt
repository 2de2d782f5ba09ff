use Rattle.std.proofs.Common.{IfOk, OnErr, subst}
use Rattle.dcel_predicates.specs.declared.point.Point.{Point}
use Rattle.dcel_maps.specs.Shapes.{Mesh}
use Rattle.dcel_regions.specs.declared.mark.Mark.{Mark}
use Rattle.dcel_constrained.specs.Constraints.{IsFreeWay}
use Rattle.dcel_constrained.specs.Laying.{IsLaidIfFree, IsPart}
use Rattle.dcel_constrained.specs.Soundness.{MarksAnother}
use Rattle.dcel_constrained.specs.declared.segments.chains.Part.{Part}
use Rattle.dcel_constrained.proofs.Laid.{laid_at_once, only_at_once}
use Rattle.dcel_constrained.proofs.segments.chains.lay_if_free.Goals as goal

pub returns-in_err-lay_part-clause-lays : goal.returns-in_err-lay_part-clause-lays
returns-in_err-lay_part-clause-lays g c =
    let part = c.lay_part.ensures in
    record {
      mesh = part.mesh;
      sound = part.sound;
      hull = part.hull;
      keeps = part.marks.keeps;
      only = only_at_once c.args.planar.now.dcel c.lay_part.new.planar.dcel c.args.from c.args.to part.marks c.requires.ends.from c.requires.ends.to;
      points = part.marks.points;
      edges = part.marks.edges;
      same = part.same;
    }

pub returns-in-Laid-clause-lays : goal.returns-in-Laid-clause-lays
returns-in-Laid-clause-lays g c =
    let part = c.lay_part.ensures in
    record {
      mesh = part.mesh;
      sound = part.sound;
      hull = part.hull;
      keeps = part.marks.keeps;
      only = only_at_once c.args.planar.now.dcel c.lay_part.new.planar.dcel c.args.from c.args.to part.marks c.requires.ends.from c.requires.ends.to;
      points = part.marks.points;
      edges = part.marks.edges;
      same = part.same;
    }

pub returns-in-Laid-clause-laid : goal.returns-in-Laid-clause-laid
returns-in-Laid-clause-laid g c =
    let old = c.args.planar.now.dcel in
    let new = c.lay_part.new.planar.dcel in
    let part = subst (λ (p : Part). IsPart old new c.args.from c.args.to p) c.in-Laid.is c.in_ok-lay_part.ensures.part in
    let laid = laid_at_once old new c.args.from c.args.to c.lay_part.ensures.marks c.requires.ends.from c.requires.ends.to c.in-Laid.is_new c.lay_part.ensures.mesh
    c.lay_part.ensures.sound.closed part.0 (λ none. (c.lay_part.ensures.same none).0) in
    (laid.0, laid.1, part.1)

pub returns-in-Between-clause-laid : goal.returns-in-Between-clause-laid
returns-in-Between-clause-laid g c =
    let part = subst (λ (p : Part). IsPart c.args.planar.now.dcel c.lay_part.new.planar.dcel c.args.from c.args.to p) c.in-Between.is c.in_ok-lay_part.ensures.part in
    subst (λ (m : Mesh Point (Unit {0}) Mark (Unit {0})). IfOk c.lay_parts_if_free.result (IsLaidIfFree m c.lay_parts_if_free.new.planar.dcel c.args.from c.args.to)) part.0
    c.lay_parts_if_free.ensures.laid

pub returns-in-Between-clause-tested : goal.returns-in-Between-clause-tested
returns-in-Between-clause-tested g c =
    let part = subst (λ (p : Part). IsPart c.args.planar.now.dcel c.lay_part.new.planar.dcel c.args.from c.args.to p) c.in-Between.is c.in_ok-lay_part.ensures.part in
    subst
    (λ (m : Mesh Point (Unit {0}) Mark (Unit {0})).
    OnErr c.lay_parts_if_free.result (MarksAnother m c.lay_parts_if_free.new.planar.dcel → IsFreeWay m c.args.from c.args.to))
    part.0 c.lay_parts_if_free.ensures.tested
