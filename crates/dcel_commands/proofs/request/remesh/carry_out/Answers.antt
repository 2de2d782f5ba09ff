use Rattle.std.proofs.Common.{◌≡◌, refl, rules}
use Rattle.dcel_commands.specs.request.Remesh.{remesh}
use Rattle.dcel_commands.proofs.WithoutMemory.{no_memory}
use Rattle.dcel_commands.proofs.request.remesh.carry_out.Goals as goal

pub returns : goal.returns
returns g c =
    let opened = c.in_ok-opened.ensures in
    let same_edges : c.in_ok-edges.edges.items ≡ c.args.edges.items = search rules in
    let same_faces : c.in_ok-faces.faces.items ≡ c.args.faces.items = search rules in (
      search rules,
      (
        rw (opened.answer.edges, opened.answer.faces, opened.answer.new_edges, opened.answer.smallest, same_edges, same_faces) refl,
        rw (same_edges, same_faces) at opened.edit,
      ),
    )

pub returns-in_err-opened : goal.returns-in_err-opened
returns-in_err-opened g c =
    no_memory g.DE.Default.is_default g.UE.Default.is_default g.F.Default.is_default c.args.limit c.args.dcel.now _
    (remesh c.args.list.items c.args.edges.items c.args.faces.items) _ c.from_residual-in_err-opened.ensures.1 (search rules) refl refl
    c.in_err-opened.ensures.refused
