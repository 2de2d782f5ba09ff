-- The data of a list of edges, as a store holds them.
use Rattle.std.specs.Prelude.{List, [], ◌∷◌, map}
use Rattle.dcel_store.specs.declared.EdgeData.{EdgeData}

-- the data of half edges, and those of edges
abbrev pub halves_data : {DE UE : Type 0} → List (EdgeData DE UE) → List DE
halves_data [] = []
halves_data (e ∷ rest) = e.normalized ∷ e.reversed ∷ halves_data rest

abbrev pub edges_data : {DE UE : Type 0} → List (EdgeData DE UE) → List UE
edges_data edges = map (λ e. e.undirected) edges
