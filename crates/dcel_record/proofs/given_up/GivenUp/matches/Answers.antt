use Rattle.std.proofs.Common.{◌∙◌, sym, ap, subst, length}
use Rattle.std.proofs.lemmas.Bool.{false≢true}
use Rattle.std.specs.Cmp.Lexicographic.{same_text}
use Rattle.dcel_maps.proofs.words.Ascending.{length-ascending}
use Rattle.dcel_maps.specs.Removals.{ascending, GoesUp}
use Rattle.dcel_record.proofs.Matching.{listed, listed-all, listed-once}
use Rattle.dcel_record.proofs.Twice.{back-is, front-is}
use Rattle.dcel_record.proofs.given_up.GivenUp.matches.Goals as goal

-- src/given_up.rt:71:13
pub returns-then-list-ascending : goal.returns-then-list-ascending
returns-then-list-ascending g c =
    let inside = front-is _ _ _ _ _ (c.len.ensures ∙ sym c.deref.ensures.len) c.deref.ensures.value c.split_at.ensures.front c.self.view_is in (
      λ no. absurd (false≢true no),
      λ is. absurd (c.if-list-ascending.true (sym (length-ascending c.args.list.now) ∙ ap length (is ∙ sym inside))),
    )

-- src/given_up.rt:73:9
pub returns-then-eq : goal.returns-then-eq
returns-then-eq g c =
    let behind = back-is _ _ _ _ _ (c.len.ensures ∙ sym c.deref.ensures.len) c.deref.ensures.value c.split_at.ensures.back c.self.invariant c.self.view_is in
    (λ yes. ap ascending (same_text c.args.list.now c.split_at.result.1.now c.if-eq.ensures) ∙ behind, λ is. c.if-eq.true)

-- src/given_up.rt:65:5
pub returns-then-all_stand_in : goal.returns-then-all_stand_in
returns-then-all_stand_in g c =
    let inside = front-is _ _ _ _ _ (c.len.ensures ∙ sym c.deref.ensures.len) c.deref.ensures.value c.split_at.ensures.front c.self.view_is in (
      λ yes. listed c.args.list.now c.split_at.result.0.now (subst GoesUp (sym inside) c.requires) c.if-list-ascending.false
          (c.all_stand_in.ensures.0 c.if-all_stand_in.true) (c.names_none_twice.ensures.0 yes) ∙ inside,
      λ is. c.names_none_twice.ensures.1 (listed-once c.args.list.now c.args.self.now c.requires is),
    )

-- src/given_up.rt:65:5
pub returns-else-all_stand_in : goal.returns-else-all_stand_in
returns-else-all_stand_in g c =
    let inside = front-is _ _ _ _ _ (c.len.ensures ∙ sym c.deref.ensures.len) c.deref.ensures.value c.split_at.ensures.front c.self.view_is in (
      λ yes. absurd (false≢true (sym c.if-all_stand_in.false ∙ yes)),
      λ is. c.all_stand_in.ensures.1 (listed-all c.args.list.now c.split_at.result.0.now (is ∙ sym inside)),
    )
