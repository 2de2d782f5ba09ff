use Rattle.std.proofs.Common.{◌≡◌, ◌∙◌, ap, Some, None}
use Rattle.spade_dcel.specs.Handles.{mesh_behind, number_of}
use Rattle.dcel_maps.specs.Walking.{walk_from, walk_of, ccw_of}
use Rattle.dcel_text.specs.Texts.{listed}
use Rattle.dcel_commands.specs.request.Out.{least_out}
use Rattle.dcel_text.proofs.Writing.{writes_nothing, writes_text}
use Rattle.dcel_commands.proofs.request.out.write_half_edges.Goals as goal

pub returns-in_default : goal.returns-in_default
returns-in_default g c =
    let s = (mesh_behind c.args.vertex).shape in
    let none : None ≡ least_out s (number_of c.args.vertex) = rw (c.in_default.is) at c.least_out_edge.ensures.least in
    writes_text (ap (λ least. listed (walk_from s (ccw_of s) least)) none) writes_nothing

pub returns : goal.returns
returns g c =
    let s = (mesh_behind c.args.vertex).shape in
    let some : Some (number_of c.in-Some.least) ≡ least_out s (number_of c.args.vertex) = rw (c.in-Some.is) at c.least_out_edge.ensures.least in
    writes_text
    (ap (λ mesh. listed (walk_of mesh.shape (ccw_of mesh.shape) (number_of c.in-Some.least))) c.in-Some.ensures.mesh ∙ ap (λ least. listed (walk_from s (ccw_of s) least)) some)
    c.write_turn.ensures
