use Rattle.std.proofs.Common.{◌≡◌, ◌∙◌, ap, sym, refl, rules}
use Rattle.std.proofs.lemmas.Fn.{says_at}
use Rattle.dcel_maps.specs.Conditions.{CanFlip}
use Rattle.dcel_legalize.specs.Flipping.{corners_of}
use Rattle.dcel_legalize.proofs.legalize.is_due.Goals as goal

pub returns-clause-due : goal.returns-clause-due
returns-clause-due g c =
    λ w answers.
    let asked : c.wanted.result ≡ w (corners_of c.args.dcel.now.shape c.args.edge) =
    answers c.corners_round.result c.wanted.result c.corners_round.ensures.vertices (says_at g.W.Fn c.wanted.ensures refl)
    ∙ ap w c.corners_round.ensures.value in
    let can : CanFlip c.args.dcel.now.shape c.args.edge = search rules in
    (λ yes. record { can = can; wanted = sym asked ∙ yes }, λ due. asked ∙ due.wanted)
