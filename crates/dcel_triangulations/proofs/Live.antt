-- A half edge of a mesh in which no removal is open is live, as it is read through a handle.
use Rattle.std.proofs.Common.{◌≡◌, ◌<◌, ◌*◌, ℕ, sym, subst}
use Rattle.dcel_maps.specs.Removals.{Closed}
use Rattle.dcel_maps.specs.Shapes.{IsLive, Mesh}
use Rattle.dcel_maps.proofs.Liveness.{closed-half_live}

pub live_there : {V DE UE F : Type 0} (k m : Mesh V DE UE F) (n h : ℕ) → k ≡ m → n ≡ h → m.shape.removal ≡ Closed → h < 2 * m.shape.edges → IsLive k.shape n
live_there {V} {DE} {UE} {F} k m n h is at closed below =
    subst (λ (x : Mesh V DE UE F). IsLive x.shape n) (sym is) (subst (λ (i : ℕ). IsLive m.shape i) (sym at) (closed-half_live m.shape closed h below))
