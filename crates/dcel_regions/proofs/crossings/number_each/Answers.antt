use Rattle.std.proofs.Common.{◌≡◌, ℕ, List, [], ◌∷◌, refl, sym, ap, ◌∙◌, arith}
use Rattle.std.proofs.lemmas.Bool.{eqb-true}
use Rattle.std.proofs.lemmas.List.{nil_from_length}
use Rattle.dcel_regions.specs.Numbering.{work}
use Rattle.dcel_regions.proofs.Levels.{begins}
use Rattle.dcel_regions.proofs.Steps.{ended, risen}
use Rattle.dcel_regions.proofs.crossings.number_each.Goals as goal

pub loop-face-init : goal.loop-face-init
loop-face-init g c =
    let due : c.push.new.self.items ≡ 0 ∷ [] = rw (c.in_ok-push.ensures.items, c.new-due.ensures.items) refl in
    record {
      way = begins c.args.dcel.now c.every_mesh.ensures c.args.numbers.now.items c.push.new.self.items c.new-beyond.result.items c.requires due c.new-beyond.ensures.items;
      begun = λ none. c.new-beyond.ensures.items;
    }

pub loop-face-preserved-then-is_empty : goal.loop-face-preserved-then-is_empty
loop-face-preserved-then-is_empty g c =
    let due = c.number_face.new.due in
    let many : due.len ≡ 0 = eqb-true due.len 0 (sym c.is_empty.ensures ∙ c.if-is_empty.true) in
    let none : due.items ≡ [] = nil_from_length due.items (omega (arith, many, due.ok.0)) in
    let x : c.swap.new.x.items ≡ c.number_face.new.beyond.items = ap (λ v. v.items) c.swap.ensures.x_after in
    let y : c.swap.new.y.items ≡ due.items = ap (λ v. v.items) c.swap.ensures.y_after in
    let words = c.args.dcel.now.shape.words in
    let numbers = c.loop-face.numbers.items in
    let far = c.loop-face.beyond.items in
    let taken = ap (λ (l : List ℕ). work words numbers l far) c.in-Some.ensures.items in
    let less = c.in_ok-number_face.ensures.less in
    record {
      way =
          risen c.args.dcel.now c.every_mesh.ensures c.loop-face.level c.number_face.new.numbers.items due.items c.number_face.new.beyond.items
          c.swap.new.x.items c.swap.new.y.items c.in_ok-number_face.ensures.under_way none x y (omega (arith, less, taken, c.loop-face.invariant.way.few));
      begun = λ empty. y ∙ none;
    }

pub returns : goal.returns
returns g c =
    let due = c.loop-face.due in
    let none : due.items ≡ [] = nil_from_length due.items (omega (arith, c.in_default.ensures.cases.0, due.ok.0)) in
    ended c.args.dcel.now c.every_mesh.ensures c.loop-face.level c.loop-face.numbers.items due.items c.loop-face.beyond.items c.loop-face.invariant.way none
    (c.loop-face.invariant.begun none)
