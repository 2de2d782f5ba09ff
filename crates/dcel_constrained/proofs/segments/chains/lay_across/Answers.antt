use Rattle.std.proofs.Common.{◌/◌, inl, inr, rules, refl, ◌∙◌, arith}
use Rattle.std.proofs.lemmas.Bool.Decides.{nat_tests}
use Rattle.dcel_plane.specs.Plane.{point_at}
use Rattle.dcel_planar.specs.Growing.{KeepsListed}
use Rattle.dcel_planar.proofs.Whole.{on_err}
use Rattle.dcel_constrained.specs.Constraints.{IsFreeWay, ListsFree}
use Rattle.dcel_constrained.specs.Soundness.{MarksAnother}
use Rattle.dcel_constrained.proofs.Ending.{all_crossed, lists_still}
use Rattle.dcel_constrained.proofs.Free.{free_planar}
use Rattle.dcel_constrained.proofs.Loose.{of_loose, to_loose, turns_free}
use Rattle.dcel_constrained.proofs.Outlined.{ends_of, planar}
use Rattle.dcel_constrained.proofs.PartsLaid.{planar_marked}
use Rattle.dcel_constrained.proofs.Settled.{triangulated_of}
use Rattle.dcel_constrained.proofs.Through.{flips_keep, none_there, some_there, through_laid, through_marked, way_blocked, way_free}
use Rattle.dcel_constrained.proofs.segments.chains.lay_across.Goals as goal

pub gather-requires-clause-planar : goal.gather-requires-clause-planar
gather-requires-clause-planar g c = planar c.args.planar.now.dcel c.every_mesh.ensures c.args.planar.now.due.items c.requires.sound c.requires.hull

pub gather-requires-clause-ends : goal.gather-requires-clause-ends
gather-requires-clause-ends g c =
    ends_of c.args.planar.now.dcel c.every_mesh.ensures c.args.planar.now.due.items c.requires.sound c.args.from c.args.to c.requires.differ c.requires.ends.from c.requires.ends.to

pub connect-requires-clause-planar : goal.connect-requires-clause-planar
connect-requires-clause-planar g c = planar c.args.planar.now.dcel c.every_mesh.ensures c.args.planar.now.due.items c.requires.sound c.requires.hull

pub connect-requires-clause-channel : goal.connect-requires-clause-channel
connect-requires-clause-channel g c =
    all_crossed (point_at c.args.planar.now.dcel) c.args.planar.now.dcel.shape c.args.from c.args.to c.gather.new.crossed.items c.gather.new.due.items c.in-Ok.vertex c.in-Ok.ensures.come
    (grind (arith, nat_tests, c.ne.ensures, c.if-ne.false))

pub mark_between-requires-clause-closed : goal.mark_between-requires-clause-closed
mark_between-requires-clause-closed g c =
    let old = c.args.planar.now in
    let channel = all_crossed (point_at old.dcel) old.dcel.shape c.args.from c.args.to c.gather.new.crossed.items c.gather.new.due.items c.in-Ok.vertex c.in-Ok.ensures.come
    (grind (arith, nat_tests, c.ne.ensures, c.if-ne.false)) in
    let unmarked = none_there old.dcel c.gather.new.crossed.items c.deref.result.now c.deref.ensures.value (c.is_some_marked.ensures.none c.if-is_some_marked.false) in
    (flips_keep old.dcel c.every_mesh.ensures old.due.items c.requires.sound c.requires.hull c.args.from c.args.to c.requires.differ c.gather.new.crossed.items channel unmarked c.connect.new.dcel
    c.connect.ensures.turns c.connect.ensures.joined).removal ∙ c.requires.sound.closed

pub invariant_of-planar-2 : goal.invariant_of-planar-2
invariant_of-planar-2 g c =
    let old = c.args.planar.now in
    let channel = all_crossed (point_at old.dcel) old.dcel.shape c.args.from c.args.to c.gather.new.crossed.items c.gather.new.due.items c.in-Ok.vertex c.in-Ok.ensures.come
    (grind (arith, nat_tests, c.ne.ensures, c.if-ne.false)) in
    let unmarked = none_there old.dcel c.gather.new.crossed.items c.deref.result.now c.deref.ensures.value (c.is_some_marked.ensures.none c.if-is_some_marked.false) in
    let lists : KeepsListed old.dcel c.connect.new.dcel old.due.items c.gather.new.due.items = λ lacking lists.
    c.connect.ensures.lists c.gather.new.due.items lacking c.in-Ok.ensures.come.sides
    (lists_still (point_at old.dcel) old.dcel.shape old.due.items c.gather.new.due.items lacking c.gather.ensures.kept lists) in
    let before = through_marked old.dcel c.every_mesh.ensures old.due.items c.requires.sound c.requires.hull c.args.from c.args.to c.requires.differ c.gather.new.crossed.items channel unmarked
    c.connect.new.dcel c.connect.ensures.turns c.connect.ensures.joined c.args.first c.requires.begins.crosses c.requires.whole c.gather.new.due.items lists c.connect.ensures.planar
    c.mark_between.new.dcel c.mark_between.ensures.marked in
    record { triangulated = triangulated_of c.mark_between.new.dcel c.gather.new.due.items before.0; outlined = ∣ inr (inl before.1) ∣₁ }

pub legalize-requires : goal.legalize-requires
legalize-requires g c =
    let old = c.args.planar.now in
    let channel = all_crossed (point_at old.dcel) old.dcel.shape c.args.from c.args.to c.gather.new.crossed.items c.gather.new.due.items c.in-Ok.vertex c.in-Ok.ensures.come
    (grind (arith, nat_tests, c.ne.ensures, c.if-ne.false)) in
    let unmarked = none_there old.dcel c.gather.new.crossed.items c.deref.result.now c.deref.ensures.value (c.is_some_marked.ensures.none c.if-is_some_marked.false) in
    let lists : KeepsListed old.dcel c.connect.new.dcel old.due.items c.gather.new.due.items = λ lacking lists.
    c.connect.ensures.lists c.gather.new.due.items lacking c.in-Ok.ensures.come.sides
    (lists_still (point_at old.dcel) old.dcel.shape old.due.items c.gather.new.due.items lacking c.gather.ensures.kept lists) in
    let before = through_marked old.dcel c.every_mesh.ensures old.due.items c.requires.sound c.requires.hull c.args.from c.args.to c.requires.differ c.gather.new.crossed.items channel unmarked
    c.connect.new.dcel c.connect.ensures.turns c.connect.ensures.joined c.args.first c.requires.begins.crosses c.requires.whole c.gather.new.due.items lists c.connect.ensures.planar
    c.mark_between.new.dcel c.mark_between.ensures.marked in
    record { hull = inr before.1 }

pub returns-in_err-legalize : goal.returns-in_err-legalize
returns-in_err-legalize g c =
    let old = c.args.planar.now in
    let channel = all_crossed (point_at old.dcel) old.dcel.shape c.args.from c.args.to c.gather.new.crossed.items c.gather.new.due.items c.in-Ok.vertex c.in-Ok.ensures.come
    (grind (arith, nat_tests, c.ne.ensures, c.if-ne.false)) in
    let unmarked = none_there old.dcel c.gather.new.crossed.items c.deref.result.now c.deref.ensures.value (c.is_some_marked.ensures.none c.if-is_some_marked.false) in
    let lists : KeepsListed old.dcel c.connect.new.dcel old.due.items c.gather.new.due.items = λ lacking lists.
    c.connect.ensures.lists c.gather.new.due.items lacking c.in-Ok.ensures.come.sides
    (lists_still (point_at old.dcel) old.dcel.shape old.due.items c.gather.new.due.items lacking c.gather.ensures.kept lists) in
    let marked = c.mark_between.new.dcel in
    let planar_then = planar_marked c.connect.new.dcel marked (c.mark_between.ensures.marked.0 / 2) c.connect.ensures.planar c.mark_between.ensures.marked.2 c.mark_between.ensures.mesh in
    let turns = turns_free marked c.legalize.new.self.dcel planar_then c.legalize.ensures.flips in
    let goes_on : ListsFree marked c.gather.new.due.items → ListsFree c.legalize.new.self.dcel c.legalize.new.self.due.items =
    λ lists. of_loose c.legalize.new.self.dcel c.legalize.new.self.due.items (c.legalize.ensures.lists (to_loose marked c.gather.new.due.items lists)) in
    let free = way_free old.dcel c.every_mesh.ensures old.due.items c.requires.sound c.requires.hull c.args.from c.args.to c.requires.differ c.gather.new.crossed.items channel unmarked in
    let part = through_laid old.dcel c.every_mesh.ensures old.due.items c.requires.sound c.requires.hull c.args.from c.args.to c.requires.differ c.gather.new.crossed.items channel unmarked
    c.connect.new.dcel c.connect.ensures.turns c.connect.ensures.joined c.args.first c.requires.begins.crosses c.requires.whole c.gather.new.due.items lists c.connect.ensures.planar
    marked c.mark_between.ensures.marked c.legalize.new.self.dcel c.legalize.new.self.due.items c.mark_between.ensures.mesh turns goes_on in
    record {
      sound = part.sound;
      hull = part.has;
      part = search rules;
      tested = on_err c.from_residual.result (MarksAnother old.dcel c.legalize.new.self.dcel → IsFreeWay old.dcel c.args.from c.args.to) (λ another. free);
      marks = part.between;
      same = λ none. absurd (none (part.laid.half / 2, part.laid.marked, part.laid.added.0 refl));
      mesh = (free_planar marked c.legalize.new.self.dcel turns planar_then).mesh;
      whole = search rules;
      empty = c.connect.ensures.crossed;
    }

pub returns : goal.returns
returns g c =
    let old = c.args.planar.now in
    let channel = all_crossed (point_at old.dcel) old.dcel.shape c.args.from c.args.to c.gather.new.crossed.items c.gather.new.due.items c.in-Ok.vertex c.in-Ok.ensures.come
    (grind (arith, nat_tests, c.ne.ensures, c.if-ne.false)) in
    let unmarked = none_there old.dcel c.gather.new.crossed.items c.deref.result.now c.deref.ensures.value (c.is_some_marked.ensures.none c.if-is_some_marked.false) in
    let lists : KeepsListed old.dcel c.connect.new.dcel old.due.items c.gather.new.due.items = λ lacking lists.
    c.connect.ensures.lists c.gather.new.due.items lacking c.in-Ok.ensures.come.sides
    (lists_still (point_at old.dcel) old.dcel.shape old.due.items c.gather.new.due.items lacking c.gather.ensures.kept lists) in
    let marked = c.mark_between.new.dcel in
    let planar_then = planar_marked c.connect.new.dcel marked (c.mark_between.ensures.marked.0 / 2) c.connect.ensures.planar c.mark_between.ensures.marked.2 c.mark_between.ensures.mesh in
    let turns = turns_free marked c.legalize.new.self.dcel planar_then c.legalize.ensures.flips in
    let goes_on : ListsFree marked c.gather.new.due.items → ListsFree c.legalize.new.self.dcel c.legalize.new.self.due.items =
    λ lists. of_loose c.legalize.new.self.dcel c.legalize.new.self.due.items (c.legalize.ensures.lists (to_loose marked c.gather.new.due.items lists)) in
    let free = way_free old.dcel c.every_mesh.ensures old.due.items c.requires.sound c.requires.hull c.args.from c.args.to c.requires.differ c.gather.new.crossed.items channel unmarked in
    let part = through_laid old.dcel c.every_mesh.ensures old.due.items c.requires.sound c.requires.hull c.args.from c.args.to c.requires.differ c.gather.new.crossed.items channel unmarked
    c.connect.new.dcel c.connect.ensures.turns c.connect.ensures.joined c.args.first c.requires.begins.crosses c.requires.whole c.gather.new.due.items lists c.connect.ensures.planar
    marked c.mark_between.ensures.marked c.legalize.new.self.dcel c.legalize.new.self.due.items c.mark_between.ensures.mesh turns goes_on in
    record {
      sound = part.sound;
      hull = part.has;
      part = (part.laid, free);
      tested = search rules;
      marks = part.between;
      same = λ none. absurd (none (part.laid.half / 2, part.laid.marked, part.laid.added.0 refl));
      mesh = (free_planar marked c.legalize.new.self.dcel turns planar_then).mesh;
      whole = c.in_ok-legalize.ensures.whole;
      empty = c.connect.ensures.crossed;
    }

pub returns-then-is_some_marked-clause-part : goal.returns-then-is_some_marked-clause-part
returns-then-is_some_marked-clause-part g c =
    let old = c.args.planar.now in
    let channel = all_crossed (point_at old.dcel) old.dcel.shape c.args.from c.args.to c.gather.new.crossed.items c.gather.new.due.items c.in-Ok.vertex c.in-Ok.ensures.come
    (grind (arith, nat_tests, c.ne.ensures, c.if-ne.false)) in (
      refl,
      way_blocked old.dcel c.every_mesh.ensures old.due.items c.requires.sound c.requires.hull c.args.from c.args.to c.requires.differ c.gather.new.crossed.items channel
          (some_there old.dcel c.gather.new.crossed.items c.deref.result.now c.deref.ensures.value (c.is_some_marked.ensures.some c.if-is_some_marked.true)),
    )
