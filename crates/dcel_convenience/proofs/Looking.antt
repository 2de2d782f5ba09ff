-- A loop over the out edges of a vertex that looks for the first with a property.
use Rattle.std.proofs.Common.{◌≡◌, ◌∙◌, inl, inr, ℕ, ◌<◌, List, [], ◌∷◌, ◌++◌, append_assoc, append-nil, refl, sym, ap, subst, arith}
use Rattle.std.proofs.lemmas.Bool.{cases_lt}
use Rattle.dcel_maps.specs.Shapes.{Mesh}
use Rattle.dcel_maps.specs.Walking.{IsOutEdge, ListsOnce, in_mesh, out_edges_of}
use Rattle.dcel_maps.specs.Words.{count_of}
use Rattle.dcel_maps.proofs.walks.Items.{first_item, none_left}
use Rattle.dcel_maps.proofs.words.Counts.{count-append, count-same, first_or_later}

module _ {V DE UE F : Type 0} where
  -- those before have not the property, and the others are still to come
  pub record Looks (m : Mesh V DE UE F) (v : ℕ) (P : ℕ → Type 0) (items : List (Mesh V DE UE F × ℕ)) : Type 0 where
    pub before : List ℕ
    pub left : List ℕ
    pub are : out_edges_of m v ≡ before ++ left
    pub items_are : items ≡ in_mesh m left
    pub lists : ListsOnce (IsOutEdge m.shape v) (out_edges_of m v)
    pub none : (x : ℕ) → 0 < count_of x before → ¬ P x

  -- the out edge k came: it is the first with the property, or the loop goes on
  pub record Arrives (m : Mesh V DE UE F) (v : ℕ) (P : ℕ → Type 0) (n : Mesh V DE UE F) (k : ℕ) (more : List (Mesh V DE UE F × ℕ)) : Type 0 where
    pub same : n ≡ m
    pub out : IsOutEdge m.shape v k
    pub before : List ℕ
    pub after : List ℕ
    pub are : out_edges_of m v ≡ before ++ k ∷ after
    pub none : (x : ℕ) → 0 < count_of x before → ¬ P x
    pub goes_on : ¬ P k → Looks m v P more

  module _ (m : Mesh V DE UE F) (v : ℕ) (P : ℕ → Type 0) where
    pub looks_begin : (items : List (Mesh V DE UE F × ℕ)) → items ≡ in_mesh m (out_edges_of m v)
        → ListsOnce (IsOutEdge m.shape v) (out_edges_of m v) → Looks m v P items
    looks_begin items are lists = record {
      before = [];
      left = out_edges_of m v;
      are = refl;
      items_are = are;
      lists = lists;
      none = λ x found. absurd (omega (arith, found));
    }

    pub looks_next : (items more : List (Mesh V DE UE F × ℕ)) (n : Mesh V DE UE F) (k : ℕ) → Looks m v P items → items ≡ (n, k) ∷ more → Arrives m v P n k more
    looks_next items more n k p e =
        let came = first_item m n k more p.left (sym e ∙ p.items_are) in
        let are : out_edges_of m v ≡ p.before ++ k ∷ came.rest = p.are ∙ ap (λ w. p.before ++ w) came.left_is in
        let there : 0 < count_of k (out_edges_of m v) = rw are (omega (arith, count-append k p.before (k ∷ came.rest), count-same k came.rest)) in
        record {
          same = came.same_mesh;
          out = p.lists.no_other k there;
          before = p.before;
          after = came.rest;
          are = are;
          none = p.none;
          goes_on = λ lacks. record {
            before = p.before ++ k ∷ [];
            left = came.rest;
            are = are ∙ sym (append_assoc p.before (k ∷ []) came.rest);
            items_are = came.more_are;
            lists = p.lists;
            none = λ x found has. elim (cases_lt 0 (count_of x p.before)) [
              | inl earlier ↦ p.none x earlier has
              | inr new ↦ elim (first_or_later x k [] (omega (arith, found, new, count-append x p.before (k ∷ [])))) [
                | inl is ↦ lacks (subst P is has)
                | inr nothing ↦ absurd (omega (arith, nothing))
              ]
            ];
          };
        }

    pub looks_end : (items : List (Mesh V DE UE F × ℕ)) → Looks m v P items → items ≡ [] → (h : ℕ) → IsOutEdge m.shape v h → ¬ P h
    looks_end items p ended h out =
        let empty = none_left m p.left (sym ended ∙ p.items_are) in
        let are : out_edges_of m v ≡ p.before = p.are ∙ ap (λ w. p.before ++ w) empty ∙ append-nil p.before in
        p.none h (omega (arith, p.lists.each h out, ap (count_of h) are))

  -- the vertex is lent
  pub looks_from : (m lent : Mesh V DE UE F) (v k : ℕ) (P : ℕ → Type 0) (items : List (Mesh V DE UE F × ℕ)) → items ≡ in_mesh lent (out_edges_of lent k)
      → ListsOnce (IsOutEdge lent.shape k) (out_edges_of lent k) → lent ≡ m → k ≡ v → Looks m v P items
  looks_from m lent v k P items are lists same is =
      subst (λ (n : Mesh V DE UE F). Looks n v P items) same (subst (λ (x : ℕ). Looks lent x P items) is (looks_begin lent k P items are lists))
