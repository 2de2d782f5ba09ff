-- Meshes that are lent are those behind them.
use Rattle.std.proofs.Common.{◌≡◌, subst}
use Rattle.dcel_maps.specs.Shapes.{IsMesh, Mesh}

-- one that is lent is sound, and so is the one behind it
pub mesh_is : {V DE UE F : Type 0} (lent m : Mesh V DE UE F) → lent ≡ m → IsMesh lent → IsMesh m
mesh_is {V} {DE} {UE} {F} lent m is mesh = subst (λ (k : Mesh V DE UE F). IsMesh k) is mesh
