use Rattle.std.proofs.Common.{◌∷◌, ◌+◌, take, drop, arith, rules, ap, sym, ◌∙◌, ℕ, List}
use Rattle.std.proofs.lemmas.List.{take_all, drop_all, take_rest}
use Rattle.dcel_text.specs.Items.{items_of}
use Rattle.dcel_text.proofs.Cutting.{ahead, search_starts, search_goes_on, search_finds, search_ends}
use Rattle.dcel_text.proofs.items.first.Goals as goal

pub loop-i-init : goal.loop-i-init
loop-i-init c = search_starts c.args.bytes.now

pub returns-then-b-eq32 : goal.returns-then-b-eq32
returns-then-b-eq32 c =
    let bs = c.args.bytes.now in
    let i = c.loop-i.i in
    search_finds bs i (items_of bs) (omega arith) (search rules) c.loop-i.invariant ∙ ap (λ (x : List ℕ). take i bs ∷ items_of x) (sym (take_rest bs (i + 1)))

pub loop-i-preserved : goal.loop-i-preserved
loop-i-preserved c =
    let bs = c.args.bytes.now in
    search_goes_on bs c.loop-i.i (items_of bs) (omega arith) (search rules) c.loop-i.invariant

pub returns : goal.returns
returns c =
    let bs = c.args.bytes.now in
    let i = c.loop-i.i in
    search_ends bs (items_of bs) (c.loop-i.invariant ∙ ap (λ (x : List ℕ). ahead x (items_of (drop i bs))) (take_all i bs (omega arith)) ∙ ap (λ (x : List ℕ). ahead bs (items_of x)) (drop_all i bs (omega arith)))
