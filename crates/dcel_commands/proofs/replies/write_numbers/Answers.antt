use Rattle.std.proofs.Common.{◌∷◌, ◌++◌, ◌∙◌, take, ap, sym, arith}
use Rattle.std.specs.Fmt.{decimal}
use Rattle.std.proofs.lemmas.List.{take_all, take_more}
use Rattle.dcel_text.specs.Texts.{listed}
use Rattle.dcel_text.proofs.Listing.{listed-push}
use Rattle.dcel_text.proofs.Writing.{writes_and, writes_nothing, writes_text}
use Rattle.dcel_commands.proofs.replies.write_numbers.Goals as goal

pub loop-element-init : goal.loop-element-init
loop-element-init g c = writes_nothing

pub loop-element-preserved : goal.loop-element-preserved
loop-element-preserved g c =
    let elements = c.args.elements.now in
    let at = c.loop-element.element-index in
    writes_text
    (ap (λ n. listed (take at elements) ++ 32 ∷ decimal n) (c.index.ensures.value ∙ c.element-item.is) ∙ sym (ap listed (take_more elements at _ (omega arith)) ∙ listed-push (take at elements) _))
    (writes_and c.loop-element.invariant c.spaced_number.ensures)

pub returns : goal.returns
returns g c = writes_text (ap listed (take_all c.loop-element.element-index c.args.elements.now (omega arith))) c.loop-element.invariant
