-- How what is told of the items of a list is put into a buffer, one after the other.
use Rattle.std.proofs.Common.{◌≡◌, ◌<◌, ◌≤◌, ◌+◌, ◌-◌, ◌++◌, ◌∷◌, [], ℕ, zero, suc, Bool, List, length, map, set, take, drop, min, refl, ap, sym, ◌∙◌, subst, arith, add-one, Some, slice_get, if◌then◌else◌}
use Rattle.std.proofs.lemmas.Bool.{le-ltb, lt-ltb}
use Rattle.std.proofs.lemmas.List.FromFn.{get_or-range_with_len, length-range_with_len}
use Rattle.std.proofs.lemmas.Option.{none-some, same_Some, slice_get-get_or}
use Rattle.std.proofs.Math.Nat.{min-eq_left}
use Rattle.dcel_maps.specs.Numbers.{numbers_between}
use Rattle.dcel_triangulations.specs.Lists.{IsPut}

module _ {A B : Type 0} (told : A → B) where
  put_behind : (list : List A) (before : List B) (k : ℕ) (x : A) → slice_get list k ≡ Some x → k < length before
      → set (take k (map told list) ++ drop k before) k (told x) ≡ take (suc k) (map told list) ++ drop (suc k) before
  put_behind [] before k x at lt = absurd (none-some x at)
  put_behind (y ∷ r) [] k x at lt = absurd (omega (arith, lt))
  put_behind (y ∷ r) (b ∷ bs) zero x at lt = ap (λ z. told z ∷ bs) (sym (same_Some y x at))
  put_behind (y ∷ r) (b ∷ bs) (suc k) x at lt = ap (λ l. told y ∷ l) (put_behind r bs k x at (omega (arith, lt)))

  -- the next item comes behind those that were put
  pub put_next : (list : List A) (before now : List B) (k : ℕ) (x : A) (z : B) → slice_get list k ≡ Some x → z ≡ told x → k < length before
      → now ≡ take k (map told list) ++ drop k before → set now k z ≡ take (k + 1) (map told list) ++ drop (k + 1) before
  put_next list before now k x z at tells lt so_far =
      ap (λ (l : List B). set l k z) so_far
      ∙ ap (set (take k (map told list) ++ drop k before) k) tells
      ∙ subst (λ (n : ℕ). set (take k (map told list) ++ drop k before) k (told x) ≡ take n (map told list) ++ drop n before) (sym (add-one k)) (put_behind list before k x at lt)

-- the number in each place from 0 on is its place
pub number_at : (n k : ℕ) → k < n → slice_get (numbers_between 0 n) k ≡ Some k
unfolding numbers_between
number_at n k below =
    let few : k < n - 0 = omega (arith, below) in
    slice_get-get_or (numbers_between 0 n) k 0 (omega (arith, length-range_with_len 0 (n - 0), few)) ∙ ap Some (get_or-range_with_len 0 (n - 0) k 0 few ∙ omega arith)

-- all items stand in the buffer
pub put_all : {T : Type 0} (list before after : List T) (needed k : ℕ) → needed ≡ length list → needed ≤ length before → needed ≤ k → k ≤ needed
    → after ≡ take k list ++ drop k before → IsPut list before after needed 0
put_all {T} list before after needed k counted fits up_to so_far put =
    let fewest : min (length list) (length before) ≡ length list = min-eq_left (omega (arith, counted, fits)) in
    let here : k ≡ min (length list) (length before) = omega (arith, counted, up_to, so_far, fewest) in
    record {
      counted = counted;
      told = sym (ap (λ (b : Bool). if b then 22 else 0) (le-ltb (length before) needed fits));
      put = λ _. put ∙ ap (λ (n : ℕ). take n list ++ drop n before) here;
      stays = λ other. absurd (other refl);
    }

-- they don't fit
pub put_none : {T : Type 0} (list before : List T) (needed : ℕ) → needed ≡ length list → length before < needed → IsPut list before before needed 22
put_none list before needed counted short = record {
  counted = counted;
  told = sym (ap (λ (b : Bool). if b then 22 else 0) (lt-ltb (length before) needed short));
  put = λ done. absurd (omega (arith, done));
  stays = λ _. refl;
}
