use Rattle.std.proofs.Common.{◌≡◌, rules}
use Rattle.dcel_commands.specs.Replies.{ending_of}
use Rattle.dcel_legalize.specs.Outcome.{flips_told}
use Rattle.dcel_text.proofs.Writing.{writes_and, writes_text}
use Rattle.dcel_commands.proofs.replies.write_flips.Goals as goal

pub returns : goal.returns
returns g c =
    let number : c.flips.result ≡ flips_told c.args.legalized = search rules in
    let word : c.as_bytes.result.now ≡ ending_of c.args.legalized = search rules in
    writes_text (cc) (writes_and (writes_and c.numbered.ensures c.write.ensures) c.write-2.ensures)
