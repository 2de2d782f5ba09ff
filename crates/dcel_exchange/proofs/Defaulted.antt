-- Default data of edges are default data of their halves.
use Rattle.std.proofs.Common.{List, [], ◌∷◌}
use Rattle.std.proofs.lemmas.List.Elements.{All-cons, All-head, All-map, All-nil, All-tail, All-weaker}
use Rattle.std.specs.List.{All}
use Rattle.dcel_store.specs.EdgeLists.{edges_data, halves_data}
use Rattle.dcel_store.specs.declared.EdgeData.{EdgeData}
use Rattle.dcel_exchange.specs.Defaults.{HasDefaults}

module _ {DE UE : Type 0} (half : DE → Type 0) (edge : UE → Type 0) where
  pub halves_default : (edges : List (EdgeData DE UE)) → All (HasDefaults half edge) edges → All half (halves_data edges)
  halves_default [] all = All-nil half
  halves_default (e ∷ rest) all =
      let here = All-head (HasDefaults half edge) e rest all in
      All-cons half e.normalized (e.reversed ∷ halves_data rest) here.0
      (All-cons half e.reversed (halves_data rest) here.1 (halves_default rest (All-tail (HasDefaults half edge) e rest all)))

  pub edges_default : (edges : List (EdgeData DE UE)) → All (HasDefaults half edge) edges → All edge (edges_data edges)
  edges_default edges all = All-map edge (λ e. e.undirected) edges (All-weaker (HasDefaults half edge) (λ e. edge e.undirected) (λ e is. is.2) edges all)
