use Rattle.std.proofs.Common.{◌≡◌, rules}
use Rattle.dcel_commands.specs.Refusal.{refusal_number, name_of}
use Rattle.dcel_text.proofs.Writing.{writes_and, writes_text}
use Rattle.dcel_commands.proofs.replies.write_refusal.Goals as goal

pub returns : goal.returns
returns g c =
    let number : c.from.result ≡ refusal_number c.args.why = search rules in
    let name : c.as_bytes.result.now ≡ name_of c.args.why = search rules in
    writes_text (cc) (writes_and (writes_and (writes_and (writes_and c.write.ensures c.number-2.ensures) c.write-2.ensures) c.write-3.ensures) c.write-4.ensures)
