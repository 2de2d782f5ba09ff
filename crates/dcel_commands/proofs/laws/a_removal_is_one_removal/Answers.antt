use Rattle.dcel_commands.proofs.OneRemoval.{cleans-up, closes, opens-record}
use Rattle.dcel_commands.proofs.laws.a_removal_is_one_removal.Goals as goal

pub returns-clause-opened : goal.returns-clause-opened
returns-clause-opened g c = λ limit before begun edges faces vertex opens.
    opens-record g.DE.Default.is_default g.UE.Default.is_default g.F.Default.is_default limit before begun edges faces vertex opens

pub returns-clause-cleaned : goal.returns-clause-cleaned
returns-clause-cleaned g c = λ limit before begun middle cleaned edges faces us fs vertex reply opens goes takes.
    cleans-up g.DE.Default.is_default g.UE.Default.is_default g.F.Default.is_default limit before begun middle cleaned edges faces us fs vertex reply opens goes takes

pub returns-clause-closed : goal.returns-clause-closed
returns-clause-closed g c = λ limit before begun middle cleaned later closed edges faces us fs vertex given reply last_reply opens goes takes goes_later closing.
    closes g.DE.Default.is_default g.UE.Default.is_default g.F.Default.is_default limit before begun middle cleaned later closed edges faces us fs vertex given reply last_reply
    opens goes takes goes_later closing
