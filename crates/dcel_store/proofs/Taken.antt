-- An element taken out: what that leaves of its items in lists that are made of records, and in lists with two items for each element.
use Rattle.std.proofs.Common.{◌≡◌, ℕ, zero, suc, ◌+◌, ◌-◌, ◌*◌, ◌%◌, ◌<◌, List, [], ◌∷◌, length, map, take, slice_index_or, slice_set, swap_remove, refl, sym, ap, ◌∙◌, arith, Option, None}
use Rattle.std.proofs.lemmas.List.{get_or-map, get_or-set_other, get_or-take, get_or_default, length-map, length-set, length-take-le, map-set, set_comm, take-map, take-take}
use Rattle.dcel_store.specs.Taking.{pair_taken}

-- one item of each element
pub map-swap_remove : {A B : Type 0} (f : A → B) (xs : List A) (i : ℕ) (d : A) (e : B) → 0 < length xs
    → map f (swap_remove xs i d) ≡ swap_remove (map f xs) i e
map-swap_remove f xs i d e some =
    let last : ℕ = length xs - 1 in
    sym (take-map f last (slice_set xs i (slice_index_or xs last d)))
    ∙ ap (take last) (map-set f xs i (slice_index_or xs last d)
    ∙ ap (slice_set (map f xs) i) (sym (get_or-map f xs last d e (omega (arith, some)))))
    ∙ ap (λ n. take (n - 1) (slice_set (map f xs) i (slice_index_or (map f xs) (n - 1) e))) (sym (length-map xs f))

-- an element with a datum and an anchor taken out: what is made of the two lists and of the reserved places
pub element_taken : {E X L : Type 0} (datum : E → X) (anchor : E → Option ℕ) (make : List X → List (Option ℕ) → ℕ → L) (entries : List E) (x : E) (room : ℕ)
    {left : List E} {i j room' : ℕ}
    → left ≡ swap_remove entries j x → j ≡ i → i < length (map datum entries) → room' ≡ room + 1
    → make (map datum left) (map anchor left) room' ≡ make (swap_remove (map datum entries) i (datum x)) (swap_remove (map anchor entries) i None) (room + 1)
element_taken datum anchor make entries x room {i = i} is at within more =
    let some : 0 < length entries = omega (arith, within, length-map entries datum) in
    rw (is, at, more, map-swap_remove datum entries i x (datum x) some, map-swap_remove anchor entries i x None some) refl

-- a prefix of a list in which an item is written
take-set : {A : Type 0} (n : ℕ) (xs : List A) (i : ℕ) (x : A) → take n (slice_set xs i x) ≡ slice_set (take n xs) i x
take-set zero xs i x = refl
take-set (suc n) [] i x = refl
take-set (suc n) (y ∷ ys) zero x = refl
take-set (suc n) (y ∷ ys) (suc i) x = ap (λ l. y ∷ l) (take-set n ys i x)

-- the two items of element e taken out one after another, the second one first; a, b and d are read only of an empty list
pub pair_out : {A : Type 0} (xs : List A) (e : ℕ) (a b d : A) → length xs % 2 ≡ 0 → 2 * e < length xs
    → swap_remove (swap_remove xs (2 * e + 1) a) (2 * e) b ≡ pair_taken xs e d
pair_out {A} xs e a b d even within =
    let n : ℕ = length xs in
    let last : A = slice_index_or xs (n - 1) a in
    let written : List A = slice_set xs (2 * e + 1) last in
    let left : List A = take (n - 1) written in
    let long : length left ≡ n - 1 = length-take-le (n - 1) written (omega (arith, length-set xs (2 * e + 1) last)) in
    let end : length left - 1 ≡ n - 2 = omega (arith, long) in
    let last_is : last ≡ slice_index_or xs (n - 1) d = get_or_default xs (n - 1) a d (omega (arith, within)) in
    let last_but_one : slice_index_or left (n - 2) b ≡ slice_index_or xs (n - 2) d =
    get_or-take (n - 1) written (n - 2) b (omega (arith, even, within))
    ∙ get_or-set_other xs (2 * e + 1) (n - 2) last b (λ same. absurd (omega (arith, same, even, within)))
    ∙ get_or_default xs (n - 2) b d (omega (arith, within)) in
    ap (λ k. take k (slice_set left (2 * e) (slice_index_or left k b))) end
    ∙ ap (λ v. take (n - 2) (slice_set left (2 * e) v)) last_but_one
    ∙ take-set (n - 2) left (2 * e) (slice_index_or xs (n - 2) d)
    ∙ ap (λ l. slice_set l (2 * e) (slice_index_or xs (n - 2) d)) (take-take (n - 2) (n - 1) written (omega arith))
    ∙ sym (take-set (n - 2) written (2 * e) (slice_index_or xs (n - 2) d))
    ∙ ap (take (n - 2)) (set_comm xs (2 * e + 1) (2 * e) last (slice_index_or xs (n - 2) d) (λ same. absurd (omega (arith, same))))
    ∙ ap (λ v. take (n - 2) (slice_set (slice_set xs (2 * e) (slice_index_or xs (n - 2) d)) (2 * e + 1) v)) last_is
