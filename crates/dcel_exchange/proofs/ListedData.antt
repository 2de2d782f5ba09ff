-- The data of a mesh, listed number by number.
use Rattle.std.proofs.Common.{◌≡◌, ◌∙◌, ℕ, suc, ◌+◌, ◌*◌, List, [], ◌∷◌, ◌++◌, map, take, Some, slice_get, append_assoc, refl, sym, ap, subst, arith}
use Rattle.std.proofs.Math.Seq.{take-suc}
use Rattle.std.proofs.lemmas.Option.{get_or_from_slice_get, slice_get_within}
use Rattle.dcel_store.specs.EdgeLists.{edges_data, halves_data}
use Rattle.dcel_store.specs.declared.EdgeData.{EdgeData}

-- with the next item, the first items are one more
pub next_taken : {T : Type 0} (all list : List T) (n : ℕ) (x : T) → list ≡ take n all → slice_get all n ≡ Some x → list ++ x ∷ [] ≡ take (n + 1) all
next_taken all list n x so_far there =
    let one : suc n ≡ n + 1 = omega arith in
    ap (λ l. l ++ x ∷ []) so_far ∙ ap (λ y. take n all ++ y ∷ []) (sym (get_or_from_slice_get all n x x there))
    ∙ sym (take-suc all n x (slice_get_within all n x there)) ∙ ap (λ k. take k all) one

module _ {DE UE : Type 0} where
  halves-push : (list : List (EdgeData DE UE)) (e : EdgeData DE UE) → halves_data (list ++ e ∷ []) ≡ (halves_data list ++ e.normalized ∷ []) ++ e.reversed ∷ []
  halves-push [] e = refl
  halves-push (d ∷ rest) e = ap (λ l. d.normalized ∷ d.reversed ∷ l) (halves-push rest e)

  edges-push : (list : List (EdgeData DE UE)) (e : EdgeData DE UE) → edges_data (list ++ e ∷ []) ≡ edges_data list ++ e.undirected ∷ []
  edges-push [] e = refl
  edges-push (d ∷ rest) e = ap (λ l. d.undirected ∷ l) (edges-push rest e)

  pub next_halves : (all : List DE) (list more : List (EdgeData DE UE)) (n : ℕ) (e : EdgeData DE UE) → more ≡ list ++ e ∷ [] → halves_data list ≡ take (2 * n) all
      → slice_get all (2 * n) ≡ Some e.normalized → slice_get all (2 * n + 1) ≡ Some e.reversed → halves_data more ≡ take (2 * (n + 1)) all
  next_halves all list more n e is so_far normalized reversed =
      let two : 2 * n + 1 + 1 ≡ 2 * (n + 1) = omega arith in
      ap halves_data is ∙ halves-push list e
      ∙ next_taken all (halves_data list ++ e.normalized ∷ []) (2 * n + 1) e.reversed (next_taken all (halves_data list) (2 * n) e.normalized so_far normalized) reversed
      ∙ ap (λ k. take k all) two

  pub next_edges : (all : List UE) (list more : List (EdgeData DE UE)) (n : ℕ) (e : EdgeData DE UE) → more ≡ list ++ e ∷ [] → edges_data list ≡ take n all
      → slice_get all n ≡ Some e.undirected → edges_data more ≡ take (n + 1) all
  next_edges all list more n e is so_far there = ap edges_data is ∙ edges-push list e ∙ next_taken all (edges_data list) n e.undirected so_far there
