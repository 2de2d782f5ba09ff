use Rattle.std.proofs.Common.{◌∙◌, sym, arith}
use Rattle.dcel_exchange.proofs.linking.face_of.Goals as goal

pub owner-requires : goal.owner-requires
owner-requires g c =
    let is = c.requires.numbered.only c.args.half c.in-Some.side (sym c.side.ensures ∙ c.in-Some.is) in
    omega (arith, is.0, c.requires.faces)
