use Rattle.std.proofs.Common.{◌∙◌, [], ◌∷◌, ◌++◌, ◌&&◌, None, get_or, leb, subst}
use Rattle.std.specs.Io.KnownBytes.{Appends}
use Rattle.std.proofs.KnownBytes.{Appends-trans}
use Rattle.dcel_output.specs.Lines.{entry, neighbor_line, neighbors_from_least}
use Rattle.dcel_output.proofs.Lines.{one_of_three, parted}
use Rattle.dcel_output.proofs.writing.write_across.Goals as goal

pub returns : goal.returns
unfolding neighbor_line
returns g c =
    let t = c.args.triangle in
    let across = c.args.across in
    let items = neighbors_from_least (t, across) in
    let a = entry (get_or items 0 None) in
    let b = entry (get_or items 1 None) in
    let d = entry (get_or items 2 None) in
    let w0 = g.W.Write.contents c.args.writer.now in
    let w1 = g.W.Write.contents c.write_entry.new.writer in
    let w2 = g.W.Write.contents c.write_entry-2.new.writer in
    let w3 = g.W.Write.contents c.write_entry-3.new.writer in
    let first : Appends w0 w1 (a ++ 32 ∷ []) = rw c.across_from_least.ensures at c.in_ok-write_entry.ensures in
    let second : Appends w1 w2 (b ++ 32 ∷ []) = rw c.across_from_least.ensures at c.in_ok-write_entry-2.ensures in
    let third : Appends w2 w3 (d ++ 10 ∷ []) = rw c.across_from_least.ensures at c.in_ok-write_entry-3.ensures in
    subst (Appends w0 w3) (parted a b d ∙ one_of_three entry None (leb t.first t.second && leb t.first t.third) (leb t.second t.third) across.first across.second across.third)
    (Appends-trans w0 w2 w3 ((a ++ 32 ∷ []) ++ (b ++ 32 ∷ [])) (d ++ 10 ∷ []) (Appends-trans w0 w1 w2 (a ++ 32 ∷ []) (b ++ 32 ∷ []) first second) third)
