-- What is left of a walk, item by item.
use Rattle.std.proofs.Common.{◌≡◌, ℕ, List, [], ◌∷◌, ◌++◌, refl, sym, ap, ◌∙◌}
use Rattle.dcel_maps.specs.Walking.{in_mesh}

-- the half edge k comes first of those that are left, and then the rest
pub record ComesFirst {M : Type 0} (mesh m : M) (k : ℕ) (more : List (M × ℕ)) (left : List ℕ) : Type 0 where
  pub rest : List ℕ
  pub left_is : left ≡ k ∷ rest
  pub same_mesh : m ≡ mesh
  pub more_are : more ≡ in_mesh mesh rest

pub first_item : {M : Type 0} (mesh m : M) (k : ℕ) (more : List (M × ℕ)) (left : List ℕ) → (m, k) ∷ more ≡ in_mesh mesh left
    → ComesFirst mesh m k more left
first_item mesh m k more [] e = absurd cc
first_item {M} mesh m k more (h ∷ rest) e = record {
  rest = rest;
  left_is = ap (λ (x : ℕ). x ∷ rest) (sym (ap (λ (x : M × ℕ). x.1) (head_is e)));
  same_mesh = ap (λ (x : M × ℕ). x.0) (head_is e);
  more_are = tail_is e;
}
  where
    head_is : (m, k) ∷ more ≡ (mesh, h) ∷ in_mesh mesh rest → ◌≡◌ {A = M × ℕ} (m, k) (mesh, h)
    head_is e = cc

    tail_is : (m, k) ∷ more ≡ (mesh, h) ∷ in_mesh mesh rest → more ≡ in_mesh mesh rest
    tail_is e = cc

-- no item is left
pub none_left : {M : Type 0} (mesh : M) (left : List ℕ) → [] ≡ in_mesh mesh left → left ≡ []
none_left mesh [] e = refl
none_left mesh (h ∷ left) e = absurd cc

-- the half edge k comes last of those that are left, after the others
pub record ComesLast {M : Type 0} (mesh m : M) (k : ℕ) (others : List (M × ℕ)) (left : List ℕ) : Type 0 where
  pub front : List ℕ
  pub left_is : left ≡ front ++ k ∷ []
  pub same_mesh : m ≡ mesh
  pub others_are : others ≡ in_mesh mesh front

pub last_item : {M : Type 0} (mesh m : M) (k : ℕ) (others : List (M × ℕ)) (left : List ℕ) → others ++ (m, k) ∷ [] ≡ in_mesh mesh left
    → ComesLast mesh m k others left
last_item mesh m k [] left e =
    let only = first_item mesh m k [] left e in
    record {
      front = [];
      left_is = only.left_is ∙ ap (λ rest. k ∷ rest) (none_left mesh only.rest only.more_are);
      same_mesh = only.same_mesh;
      others_are = refl;
    }
last_item mesh m k (item ∷ others) left e =
    let before = first_item mesh item.0 item.1 (others ++ (m, k) ∷ []) left e in
    let after = last_item mesh m k others before.rest before.more_are in
    record {
      front = item.1 ∷ after.front;
      left_is = before.left_is ∙ ap (λ rest. item.1 ∷ rest) after.left_is;
      same_mesh = after.same_mesh;
      others_are = ap (λ n. (n, item.1) ∷ others) before.same_mesh ∙ ap (λ rest. (mesh, item.1) ∷ rest) after.others_are;
    }
