-- Data that a type's default gives.
use Rattle.dcel_store.specs.declared.EdgeData.{EdgeData}

-- all three data of an edge are
abbrev pub HasDefaults : {DE UE : Type 0} → (DE → Type 0) → (UE → Type 0) → EdgeData DE UE → Type 0
HasDefaults half edge e = half e.normalized × half e.reversed × edge e.undirected
