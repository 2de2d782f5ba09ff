use Rattle.std.proofs.Common.{◌≡◌, ℕ, ◌<◌, Bool, List, sym, subst}
use Rattle.dcel_legalize.specs.declared.legalized.Legalized.{Legalized}
use Rattle.dcel_legalize.specs.declared.legalized.Legalized.TheVariants.{Done}
use Rattle.dcel_legalize.specs.Flipping.{NoneDue}
use Rattle.dcel_legalize.specs.Outcome.{IsLegalized}
use Rattle.dcel_maps.specs.Shapes.{Mesh}
use Rattle.dcel_maps.specs.Words.{count_of}
use Rattle.dcel_maps.proofs.Liveness.{is_live-parts}
use Rattle.dcel_maps.specs.Removals.{gives_up_edge}
use Rattle.dcel_example.proofs.settling.settle.Goals as goal

-- done from a list with all edges, none is left
none_left : {V DE UE F : Type 0} (w : List ℕ → Bool) (old new : Mesh V DE UE F) (list : List ℕ) (max n : ℕ) (answer : Legalized) → answer ≡ Done n
    → ((u : ℕ) → u < old.shape.edges → 0 < count_of u list) → IsLegalized w old list max answer new → NoneDue w new
none_left w old new list max n answer is all legalized =
    let done : IsLegalized w old list max (Done n) new = rw is at legalized in
    subst (λ (m : Mesh _ _ _ _). NoneDue w m) (sym done.mesh)
    (done.ends.all (λ u due. all u (is_live-parts (gives_up_edge old.shape.removal) old.shape.edges u due.can.live).0))

pub returns-in-Done : goal.returns-in-Done
returns-in-Done g c = λ w answers _.
    none_left w c.args.dcel.now c.legalize_edges.new.dcel c.in_ok-list.list.items c.args.max_flips c.in-Done.flips c.legalize_edges.result c.in-Done.is
    c.in_ok-list.ensures (c.legalize_edges.ensures.run w answers)
