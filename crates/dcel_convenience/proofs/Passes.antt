-- A loop over the out edges of a vertex that asks the same of each.
use Rattle.std.proofs.Common.{◌≡◌, ◌⊎◌, inl, inr, ℕ, ◌<◌, List, [], ◌∷◌, sym, ◌∙◌, subst, arith}
use Rattle.dcel_maps.specs.Shapes.{Mesh}
use Rattle.dcel_maps.specs.Walking.{IsOutEdge, ListsOnce, in_mesh, out_edges_of}
use Rattle.dcel_maps.specs.Words.{count_of}
use Rattle.dcel_maps.proofs.walks.Items.{first_item, none_left}
use Rattle.dcel_maps.proofs.words.Counts.{count-later, count-same, first_or_later}

module _ {V DE UE F : Type 0} where
  -- each out edge of v has the property, or is still to come
  pub record Passes (m : Mesh V DE UE F) (v : ℕ) (P : ℕ → Type 0) (items : List (Mesh V DE UE F × ℕ)) : Type 0 where
    pub left : List ℕ
    pub items_are : items ≡ in_mesh m left
    pub starts : (h : ℕ) → 0 < count_of h left → IsOutEdge m.shape v h
    pub passed : (h : ℕ) → IsOutEdge m.shape v h → (0 < count_of h left) ⊎ P h

  -- the out edge k came: if it has the property too, the loop goes on
  pub record Comes (m : Mesh V DE UE F) (v : ℕ) (P : ℕ → Type 0) (n : Mesh V DE UE F) (k : ℕ) (more : List (Mesh V DE UE F × ℕ)) : Type 0 where
    pub same : n ≡ m
    pub out : IsOutEdge m.shape v k
    pub goes_on : P k → Passes m v P more

  module _ (m : Mesh V DE UE F) (v : ℕ) (P : ℕ → Type 0) where
    pub passes_begin : (items : List (Mesh V DE UE F × ℕ)) → items ≡ in_mesh m (out_edges_of m v)
        → ListsOnce (IsOutEdge m.shape v) (out_edges_of m v) → Passes m v P items
    passes_begin items are lists = record {
      left = out_edges_of m v;
      items_are = are;
      starts = lists.no_other;
      passed = λ h out. inl (omega (arith, lists.each h out));
    }

    pub passes_next : (items more : List (Mesh V DE UE F × ℕ)) (n : Mesh V DE UE F) (k : ℕ) → Passes m v P items → items ≡ (n, k) ∷ more → Comes m v P n k more
    passes_next items more n k p e =
        let came = first_item m n k more p.left (sym e ∙ p.items_are) in
        record {
          same = came.same_mesh;
          out = p.starts k (rw came.left_is (omega (arith, count-same k came.rest)));
          goes_on = λ holds. record {
            left = came.rest;
            items_are = came.more_are;
            starts = λ h is. p.starts h (rw came.left_is (count-later h k came.rest is));
            passed = λ h out. elim (p.passed h out) [
              | inl there ↦ elim (first_or_later h k came.rest (rw came.left_is at there)) [
                | inl is ↦ inr (subst P (sym is) holds)
                | inr later ↦ inl later
              ]
              | inr done ↦ inr done
            ];
          };
        }

    pub passes_end : (items : List (Mesh V DE UE F × ℕ)) → Passes m v P items → items ≡ [] → (h : ℕ) → IsOutEdge m.shape v h → P h
    passes_end items p none h out = elim (p.passed h out) [
      | inl there ↦ absurd (let empty = none_left m p.left (sym none ∙ p.items_are) in let found : 0 < count_of h [] = rw empty at there in omega (arith, found))
      | inr done ↦ done
    ]
