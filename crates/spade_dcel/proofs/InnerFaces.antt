-- The live inner faces to come: none of them is the outer face.
use Rattle.std.proofs.Common.{◌≡◌, ℕ, ◌-◌, ◌<◌, List, [], ◌∷◌, Option, Some, None, IfSome, MatchOption, sym, subst, arith}
use Rattle.std.proofs.lemmas.List.Elements.{All-filter, All-head, All-map, All-nil, All-rest}
use Rattle.std.proofs.lemmas.List.FromFn.{get_or-range_with_len, length-range_with_len}
use Rattle.std.specs.List.{All}
use Rattle.dcel_maps.specs.Kinds.{Faces}
use Rattle.dcel_maps.specs.Numbers.{numbers_between}
use Rattle.dcel_maps.specs.Shapes.{Mesh}
use Rattle.dcel_maps.specs.Walking.{in_mesh}
use Rattle.spade_dcel.specs.Live.{element_is_live, live_ones}

numbers-above : (n : ℕ) → All (λ k. 0 < k) (numbers_between 1 n)
unfolding numbers_between
numbers-above n k d within =
    let few : k < n - 1 = omega (arith, within, length-range_with_len 1 (n - 1)) in
    omega (arith, get_or-range_with_len 1 (n - 1) k d few)

-- so it begins
pub inner-above : {V DE UE F : Type 0} (m : Mesh V DE UE F) (n : ℕ) (faces : List (Mesh V DE UE F × ℕ)) → faces ≡ live_ones Faces (in_mesh m (numbers_between 1 n))
    → All (λ face. 0 < face.1) faces
inner-above {V} {DE} {UE} {F} m n faces is =
    let P : Mesh V DE UE F × ℕ → Type 0 = λ face. 0 < face.1 in
    subst (All P) (sym is)
    (All-filter (λ face. element_is_live Faces face.0.shape face.1) P (in_mesh m (numbers_between 1 n))
    (All-map P (λ k. (m, k)) (numbers_between 1 n) (numbers-above n)))

-- what holds of all to come holds of one that is taken, and of those left
module _ {A X : Type 0} (P : X → Type 0) (view : A → X) where
  pub kept_first : (r : Option A) (s t : List X) → MatchOption r ((s ≡ []) × (t ≡ [])) (λ x. s ≡ view x ∷ t) → All P s
      → All P t × IfSome r (λ x. P (view x))
  kept_first None s t ends all = (subst (All P) (sym ends.1) (All-nil P), tt)
  kept_first (Some x) s t gives all = (All-rest P (view x) t s gives all, All-head P (view x) t (subst (All P) gives all))

-- two facts of one that is taken
pub both_of : {A : Type 0} (P Q : A → Type 0) (r : Option A) → IfSome r P → IfSome r Q → IfSome r (λ x. P x × Q x)
both_of P Q None p q = tt
both_of P Q (Some x) p q = (p, q)
