-- The search of a vertex's out edges for the first that ends at another vertex.
use Rattle.std.proofs.Common.{◌≡◌, ◌≢◌, ◌==◌, ℕ, ◌<◌, Bool, true, false, List, [], ◌∷◌, ◌++◌, ◌+◌, Option, Some, None, inl, inr, refl, sym, ap, ◌∙◌, arith, eq-eqb}
use Rattle.std.specs.Option.{option_or}
use Rattle.std.specs.Prelude.{find}
use Rattle.std.proofs.lemmas.Bool.{both_ways, ne_eqb}
use Rattle.std.proofs.lemmas.List.Folds.{find-append}
use Rattle.dcel_maps.specs.Shapes.{Mesh, end_of}
use Rattle.dcel_maps.specs.Walking.{IsOutEdge, Leads, ListsOnce, edge_between, in_mesh, out_edges_of}
use Rattle.dcel_maps.specs.Words.{count_of}
use Rattle.dcel_maps.proofs.walks.Items.{first_item, last_item, none_left}
use Rattle.dcel_maps.proofs.words.Counts.{count-append, count-later, count-same, first_or_later}

-- where none is found, no item passes
none_passes : (test : ℕ → Bool) (w : List ℕ) → find test w ≡ None → (h : ℕ) → 0 < count_of h w → test h ≡ false
none_passes test [] none h found = absurd (omega arith)
none_passes test (k ∷ w) none h found = elim (test k) as (λ b. test k ≡ b → test h ≡ false) [
  | true ↦ λ passes. let some : Some k ≡ None = rw passes at none in absurd cc
  | false ↦ λ fails. elim (first_or_later h k w found) [
    | inl same ↦ ap test same ∙ fails
    | inr later ↦ none_passes test w (rw fails at none) h later
  ]
] refl

or_none : (o : Option ℕ) → option_or o None ≡ o
or_none None = refl
or_none (Some x) = refl

or_some : (o : Option ℕ) (k : ℕ) (found : Option ℕ) → option_or (option_or o (Some k)) found ≡ option_or o (Some k)
or_some None k found = refl
or_some (Some x) k found = refl

module _ {V DE UE F : Type 0} where
  -- the test that finds it
  abbrev ends_at : Mesh V DE UE F → ℕ → ℕ → Bool
  ends_at m w h = end_of m.shape h == w

  -- The out edges of v are gone through from both ends. The first that ends at w of those that are left, or else the one that was found
  -- last from the back, is the first of all.
  pub record IsSearching (m : Mesh V DE UE F) (v w : ℕ) (items : List (Mesh V DE UE F × ℕ)) (found : Option ℕ) : Type 0 where
    pub left : List ℕ
    pub items_are : items ≡ in_mesh m left
    pub all_start : (h : ℕ) → 0 < count_of h left → IsOutEdge m.shape v h
    pub first_is : option_or (find (ends_at m w) left) found ≡ edge_between m v w

  -- an out edge came first: it is what is searched for where it ends at w, and elsewhere the search goes on
  pub record IsSearched (m : Mesh V DE UE F) (v w k : ℕ) (more : List (Mesh V DE UE F × ℕ)) (found : Option ℕ) : Type 0 where
    pub starts : IsOutEdge m.shape v k
    pub is_first : end_of m.shape k ≡ w → Some k ≡ edge_between m v w
    pub goes_on : end_of m.shape k ≢ w → IsSearching m v w more found

  -- an out edge came last: it is found where it ends at w
  pub record IsSearchedBack (m : Mesh V DE UE F) (v w k : ℕ) (others : List (Mesh V DE UE F × ℕ)) (found : Option ℕ) : Type 0 where
    pub starts : IsOutEdge m.shape v k
    pub finds : end_of m.shape k ≡ w → IsSearching m v w others (Some k)
    pub goes_on : end_of m.shape k ≢ w → IsSearching m v w others found

  module _ (m : Mesh V DE UE F) (v w : ℕ) where
    pub search_begins : (items : List (Mesh V DE UE F × ℕ)) → items ≡ in_mesh m (out_edges_of m v)
        → ListsOnce (IsOutEdge m.shape v) (out_edges_of m v) → IsSearching m v w items None
    search_begins items are lists = record { left = out_edges_of m v; items_are = are; all_start = lists.no_other; first_is = or_none (edge_between m v w) }

    pub search_continues : (items more : List (Mesh V DE UE F × ℕ)) (n : Mesh V DE UE F) (k : ℕ) (found : Option ℕ) → IsSearching m v w items found
        → items ≡ (n, k) ∷ more → (n ≡ m) × IsSearched m v w k more found
    search_continues items more n k found s e =
        let came = first_item m n k more s.left (sym e ∙ s.items_are) in
        let first_is : option_or (find (ends_at m w) (k ∷ came.rest)) found ≡ edge_between m v w =
        ap (λ left. option_or (find (ends_at m w) left) found) (sym came.left_is) ∙ s.first_is in (
          came.same_mesh,
          record {
            starts = s.all_start k (rw came.left_is (omega (arith, count-same k came.rest)));
            is_first = λ ends. rw (eq-eqb (end_of m.shape k) w ends) at first_is;
            goes_on = λ differs. record {
              left = came.rest;
              items_are = came.more_are;
              all_start = λ h is. s.all_start h (rw came.left_is (count-later h k came.rest is));
              first_is = rw (ne_eqb (end_of m.shape k) w differs) at first_is;
            };
          },
        )

    pub search_from_back : (items others : List (Mesh V DE UE F × ℕ)) (n : Mesh V DE UE F) (k : ℕ) (found : Option ℕ) → IsSearching m v w items found
        → items ≡ others ++ (n, k) ∷ [] → (n ≡ m) × IsSearchedBack m v w k others found
    search_from_back items others n k found s e =
        let came = last_item m n k others s.left (sym e ∙ s.items_are) in
        let counted : (h : ℕ) → count_of h s.left ≡ count_of h came.front + count_of h (k ∷ []) =
        λ h. ap (count_of h) came.left_is ∙ count-append h came.front (k ∷ []) in
        let all_start : (h : ℕ) → 0 < count_of h came.front → IsOutEdge m.shape v h = λ h is. s.all_start h (omega (arith, is, counted h)) in
        let first_is : option_or (option_or (find (ends_at m w) came.front) (find (ends_at m w) (k ∷ []))) found ≡ edge_between m v w =
        ap (λ o. option_or o found) (sym (ap (find (ends_at m w)) came.left_is ∙ find-append (ends_at m w) came.front (k ∷ []))) ∙ s.first_is in (
          came.same_mesh,
          record {
            starts = s.all_start k (omega (arith, count-same k [], counted k));
            finds = λ ends. record {
              left = came.front;
              items_are = came.others_are;
              all_start = all_start;
              first_is = sym (or_some (find (ends_at m w) came.front) k found) ∙ rw (eq-eqb (end_of m.shape k) w ends) at first_is;
            };
            goes_on = λ differs. record {
              left = came.front;
              items_are = came.others_are;
              all_start = all_start;
              first_is = ap (λ o. option_or o found) (sym (or_none (find (ends_at m w) came.front))) ∙ rw (ne_eqb (end_of m.shape k) w differs) at first_is;
            };
          },
        )

    pub search_ends : (items : List (Mesh V DE UE F × ℕ)) (found : Option ℕ) → IsSearching m v w items found → items ≡ [] → found ≡ edge_between m v w
    search_ends items found s none =
        ap (λ left. option_or (find (ends_at m w) left) found) (sym (none_left m s.left (sym none ∙ s.items_are))) ∙ s.first_is

    -- where no out edge of v ends at w, no half edge leads from v to w
    pub none_leads : ListsOnce (IsOutEdge m.shape v) (out_edges_of m v) → None ≡ edge_between m v w → (h : ℕ) → ¬ Leads m.shape v w h
    none_leads lists none h leads =
        let out : IsOutEdge m.shape v h = record { live = leads.live; start = leads.start } in
        let fails : ends_at m w h ≡ false = none_passes (ends_at m w) (out_edges_of m v) (sym none) h (omega (arith, lists.each h out)) in
        both_ways (ends_at m w h) fails (eq-eqb (end_of m.shape h) w leads.end)
