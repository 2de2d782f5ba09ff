use Rattle.std.proofs.Common.{◌≡◌, ◌∙◌, ◌+◌, ◌++◌, [], ◌∷◌, sym, ap, refl, arith}
use Rattle.std.proofs.lemmas.List.{append-nil, append_assoc}
use Rattle.dcel_maps.specs.Numbers.{numbers_between}
use Rattle.dcel_maps.proofs.walks.Numbers.{numbers-first, numbers-next, numbers-none}
use Rattle.dcel_exchange.specs.Corners.{turned}
use Rattle.dcel_exchange.proofs.sides.add_round.Goals as goal

pub loop-number-init : goal.loop-number-init
loop-number-init g c =
    sym (append-nil c.args.list.now.items) ∙ ap (λ xs. c.args.list.now.items ++ xs) (sym (numbers-none (c.args.first + 1) (c.args.first + 1) (omega arith)))

pub loop-number-preserved : goal.loop-number-preserved
loop-number-preserved g c =
    c.in_ok-push.ensures.items ∙ ap (λ xs. xs ++ c.loop-number.number ∷ []) c.loop-number.invariant
    ∙ append_assoc c.args.list.now.items (numbers_between (c.args.first + 1) c.loop-number.number) (c.loop-number.number ∷ [])
    ∙ ap (λ xs. c.args.list.now.items ++ xs) (sym (numbers-next (c.args.first + 1) c.loop-number.number c.loop-number.auto.number))

pub returns : goal.returns
returns g c =
    let all : c.loop-number.number ≡ c.args.end = omega (arith, c.loop-number-test.false, c.loop-number.auto.number-end, c.requires.some) in
    let round : turned (numbers_between c.args.first c.args.end) ≡ numbers_between (c.args.first + 1) c.args.end ++ c.args.first ∷ [] =
    rw (numbers-first c.args.first c.args.end c.requires.some) refl in
    c.in_ok-push-2.ensures.items ∙ ap (λ xs. xs ++ c.args.first ∷ []) c.loop-number.invariant
    ∙ append_assoc c.args.list.now.items (numbers_between (c.args.first + 1) c.loop-number.number) (c.args.first ∷ [])
    ∙ ap (λ n. c.args.list.now.items ++ (numbers_between (c.args.first + 1) n ++ c.args.first ∷ [])) all
    ∙ ap (λ xs. c.args.list.now.items ++ xs) (sym round)
