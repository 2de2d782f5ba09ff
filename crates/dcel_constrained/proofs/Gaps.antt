-- A list whose items are parted by a gap: where they stand, and how the gap moves.
use Rattle.std.proofs.Common.{◌≡◌, ℕ, zero, suc, ◌+◌, ◌<◌, ◌≤◌, List, [], ◌∷◌, ◌++◌, length, take, drop, slice_get, slice_index_or, slice_set, Some, refl, sym, ap, ◌∙◌, subst, arith}
use Rattle.std.proofs.lemmas.Option.{none-some, slice_get_within}
use Rattle.std.proofs.lemmas.List.{length-drop}
use Rattle.dcel_constrained.specs.Channels.{around}
use Rattle.dcel_constrained.proofs.Places.{get_there, no_items}

some_same : {A : Type 0} (x y : A) → Some x ≡ Some y → x ≡ y
some_same x y same = cc

-- items behind a place
get_dropped : (xs : List ℕ) (g k : ℕ) → slice_get (drop g xs) k ≡ slice_get xs (g + k)
get_dropped xs zero k = (let e : 0 + k ≡ k = omega arith in ap (slice_get xs) (sym e))
get_dropped [] (suc g) k = refl
get_dropped (x ∷ r) (suc g) k =
    get_dropped r g k ∙ (let e : suc (g + k) ≡ suc g + k = omega arith in ap (slice_get (x ∷ r)) e)

drop_there : (xs : List ℕ) (g x : ℕ) → slice_get xs g ≡ Some x → drop g xs ≡ x ∷ drop (suc g) xs
drop_there [] g x is = absurd (none-some x is)
drop_there (y ∷ r) zero x is = ap (λ (k : ℕ). k ∷ r) (some_same y x is)
drop_there (y ∷ r) (suc g) x is = drop_there r g x is

drop_set : (xs : List ℕ) (g x : ℕ) → g < length xs → drop g (slice_set xs g x) ≡ x ∷ drop (suc g) xs
drop_set [] g x below = absurd (omega (arith, below))
drop_set (y ∷ r) zero x below = refl
drop_set (y ∷ r) (suc g) x below = drop_set r g x (omega (arith, below))

pub length_around : (xs : List ℕ) (at gap : ℕ) → at + gap ≤ length xs → length (around xs at gap) + gap ≡ length xs
length_around xs zero gap within = (let a = length-drop gap xs in omega (arith, a, within))
length_around [] (suc at) gap within = absurd (omega (arith, within))
length_around (x ∷ r) (suc at) gap within = (let a = length_around r at gap (omega (arith, within)) in omega (arith, a))

-- what stands before the gap, and behind it
pub around_before : (xs : List ℕ) (at gap i : ℕ) → i < at → at ≤ length xs → slice_get (around xs at gap) i ≡ slice_get xs i
around_before xs zero gap i less within = absurd (omega (arith, less))
around_before [] (suc at) gap i less within = absurd (omega (arith, within))
around_before (x ∷ r) (suc at) gap zero less within = refl
around_before (x ∷ r) (suc at) gap (suc i) less within = around_before r at gap i (omega (arith, less)) (omega (arith, within))

pub around_behind : (xs : List ℕ) (at gap k : ℕ) → at ≤ length xs → slice_get (around xs at gap) (at + k) ≡ slice_get xs (at + (gap + k))
around_behind xs zero gap k within =
    (let e : 0 + k ≡ k = omega arith in
    let f : 0 + (gap + k) ≡ gap + k = omega arith in
    ap (slice_get (drop gap xs)) e ∙ get_dropped xs gap k ∙ ap (slice_get xs) (sym f))
around_behind [] (suc at) gap k within = absurd (omega (arith, within))
around_behind (x ∷ r) (suc at) gap k within =
    (let e : suc at + k ≡ suc (at + k) = omega arith in
    let f : suc at + (gap + k) ≡ suc (at + (gap + k)) = omega arith in
    ap (slice_get (around (x ∷ r) (suc at) gap)) e ∙ around_behind r at gap k (omega (arith, within)) ∙ ap (slice_get (x ∷ r)) (sym f))

-- the gap moves on by one, and back
pub moved_on : (xs : List ℕ) (at gap there x : ℕ) → there ≡ at + gap → slice_get xs there ≡ Some x → around (slice_set xs at x) (suc at) gap ≡ around xs at gap
moved_on [] at gap there x place is = absurd (none-some x is)
moved_on (y ∷ r) zero gap there x place is =
    (let e : there ≡ gap = omega (arith, place) in sym (drop_there (y ∷ r) gap x (subst (λ (k : ℕ). slice_get (y ∷ r) k ≡ Some x) e is)))
moved_on (y ∷ r) (suc at) gap zero x place is = absurd (omega (arith, place))
moved_on (y ∷ r) (suc at) gap (suc there) x place is = ap (λ (l : List ℕ). y ∷ l) (moved_on r at gap there x (omega (arith, place)) is)

pub moved_back : (xs : List ℕ) (at gap there x : ℕ) → there ≡ at + gap → there < length xs → slice_get xs at ≡ Some x → around (slice_set xs there x) at gap ≡ around xs (suc at) gap
moved_back [] at gap there x place below is = absurd (omega (arith, below))
moved_back (y ∷ r) zero gap there x place below is =
    (let e : there ≡ gap = omega (arith, place) in
    ap (λ (k : ℕ). drop gap (slice_set (y ∷ r) k x)) e ∙ drop_set (y ∷ r) gap x (omega (arith, below, e)) ∙ ap (λ (k : ℕ). k ∷ drop gap r) (sym (some_same y x is)))
moved_back (y ∷ r) (suc at) gap zero x place below is = absurd (omega (arith, place))
moved_back (y ∷ r) (suc at) gap (suc there) x place below is =
    ap (λ (l : List ℕ). y ∷ l) (moved_back r at gap there x (omega (arith, place)) (omega (arith, below)) is)

-- the item behind it is put anew, or taken out
take_around : (xs : List ℕ) (at gap : ℕ) → at ≤ length xs → take at (around xs at gap) ≡ take at xs
take_around xs zero gap within = refl
take_around [] (suc at) gap within = absurd (omega (arith, within))
take_around (x ∷ r) (suc at) gap within = ap (λ (l : List ℕ). x ∷ l) (take_around r at gap (omega (arith, within)))

drop_drop : (xs : List ℕ) (g : ℕ) → drop (suc zero) (drop g xs) ≡ drop (suc g) xs
drop_drop xs zero = refl
drop_drop [] (suc g) = refl
drop_drop (x ∷ r) (suc g) = drop_drop r g

drop_around : (xs : List ℕ) (at gap : ℕ) → at ≤ length xs → drop (suc at) (around xs at gap) ≡ drop (suc gap) (drop at xs)
drop_around xs zero gap within = drop_drop xs gap
drop_around [] (suc at) gap within = absurd (omega (arith, within))
drop_around (x ∷ r) (suc at) gap within = drop_around r at gap (omega (arith, within))

pub taken_out : (xs : List ℕ) (at gap : ℕ) → at ≤ length xs
    → around xs at (suc gap) ≡ take at (around xs at gap) ++ ([] ++ drop (suc at) (around xs at gap))
taken_out xs at gap within =
    ap (λ (l : List ℕ). l ++ drop (suc gap) (drop at xs)) (sym (take_around xs at gap within))
    ∙ ap (λ (l : List ℕ). take at (around xs at gap) ++ l) (sym (drop_around xs at gap within))

set_around : (xs : List ℕ) (at gap there x : ℕ) → there ≡ at + gap → there < length xs → around (slice_set xs there x) at gap ≡ take at xs ++ (x ∷ drop (suc gap) (drop at xs))
set_around xs zero gap there x place below =
    (let e : there ≡ gap = omega (arith, place) in ap (λ (k : ℕ). drop gap (slice_set xs k x)) e ∙ drop_set xs gap x (omega (arith, below, e)))
set_around [] (suc at) gap there x place below = absurd (omega (arith, below))
set_around (y ∷ r) (suc at) gap zero x place below = absurd (omega (arith, place))
set_around (y ∷ r) (suc at) gap (suc there) x place below =
    ap (λ (l : List ℕ). y ∷ l) (set_around r at gap there x (omega (arith, place)) (omega (arith, below)))

pub put_anew : (xs : List ℕ) (at gap there x : ℕ) → there ≡ at + gap → there < length xs
    → around (slice_set xs there x) at gap ≡ take at (around xs at gap) ++ ((x ∷ []) ++ drop (suc at) (around xs at gap))
put_anew xs at gap there x place below =
    let within : at ≤ length xs = omega (arith, place, below) in
    set_around xs at gap there x place below
    ∙ ap (λ (l : List ℕ). l ++ (x ∷ drop (suc gap) (drop at xs))) (sym (take_around xs at gap within))
    ∙ ap (λ (l : List ℕ). take at (around xs at gap) ++ (x ∷ l)) (sym (drop_around xs at gap within))

-- what is read behind the gap, next to that, and before the gap
pub here_around : (xs : List ℕ) (at gap there h : ℕ) → there ≡ at + gap → at ≤ length xs → slice_get xs there ≡ Some h → slice_get (around xs at gap) at ≡ Some h
here_around xs at gap there h place within is =
    let e : at ≡ at + 0 = omega arith in
    let f : at + (gap + 0) ≡ there = omega (arith, place) in
    ap (slice_get (around xs at gap)) e ∙ around_behind xs at gap 0 within ∙ ap (slice_get xs) f ∙ is

next_around : (xs : List ℕ) (at gap there h : ℕ) → there ≡ (at + gap) + 1 → at ≤ length xs → slice_get xs there ≡ Some h
    → slice_get (around xs at gap) (suc at) ≡ Some h
next_around xs at gap there h place within is =
    let e : suc at ≡ at + 1 = omega arith in
    let f : at + (gap + 1) ≡ there = omega (arith, place) in
    ap (slice_get (around xs at gap)) e ∙ around_behind xs at gap 1 within ∙ ap (slice_get xs) f ∙ is

module _ (xs list : List ℕ) (at gap : ℕ) (same : around xs at gap ≡ list) (there h d : ℕ) (below : there < length xs) (is : h ≡ slice_index_or xs there d) where
  got : slice_get xs there ≡ Some h
  got = get_there xs there h d below is

  pub read_here : there ≡ at + gap → slice_get list at ≡ Some h
  read_here place = subst (λ (l : List ℕ). slice_get l at ≡ Some h) same (here_around xs at gap there h place (omega (arith, place, below)) got)

  pub read_next : there ≡ (at + gap) + 1 → slice_get list (suc at) ≡ Some h
  read_next place = subst (λ (l : List ℕ). slice_get l (suc at) ≡ Some h) same (next_around xs at gap there h place (omega (arith, place, below)) got)

  pub read_last : (i : ℕ) → suc i ≡ at → there ≡ i → at ≤ length xs → slice_get list i ≡ Some h
  read_last i last place within =
      subst (λ (l : List ℕ). slice_get l i ≡ Some h) same
      (around_before xs at gap i (omega (arith, last)) within ∙ subst (λ (k : ℕ). slice_get xs k ≡ Some h) place got)

-- nothing is left where the gap is as long as the list, and no more than what isn't in it
pub none_around : (xs : List ℕ) (at gap : ℕ) → at + gap ≤ length xs → length xs ≤ gap → around xs at gap ≡ []
none_around xs at gap within all = no_items (around xs at gap) (let e = length_around xs at gap within in omega (arith, e, within, all))

pub not_past : (xs list : List ℕ) (at gap i k : ℕ) → around xs at gap ≡ list → at + gap ≤ length xs → slice_get list i ≡ Some k → i + gap < length xs
not_past xs list at gap i k same within there =
    let below = slice_get_within list i k there in
    let long = length_around xs at gap within in
    let e = ap length same in
    omega (arith, below, long, e)
