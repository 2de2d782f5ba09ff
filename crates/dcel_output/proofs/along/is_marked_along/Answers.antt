use Rattle.std.proofs.Common.{ℕ, ◌<◌, subst, sym}
use Rattle.dcel_output.proofs.Parted.{half_below}
use Rattle.dcel_output.proofs.along.is_marked_along.Goals as goal

pub is_marked-requires : goal.is_marked-requires
is_marked-requires g c =
    let s = c.args.mesh.now.shape in
    subst (λ (u : ℕ). u < s.edges) (sym c.as_undirected.ensures) (half_below s c.args.half c.requires.out.live)
