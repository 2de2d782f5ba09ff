-- How half edges are put into a buffer, one after the other.
use Rattle.std.proofs.Common.{◌≡◌, ◌<◌, ◌+◌, ◌++◌, ◌∷◌, [], ℕ, zero, suc, List, length, set, drop, refl, ap, sym, ◌∙◌, subst, arith, add-one}
use Rattle.std.proofs.lemmas.List.{length-append}
use Rattle.dcel_maps.specs.Shapes.{Shape}
use Rattle.dcel_c.specs.HalfEdges.{links_of, links_below}
use Rattle.dcel_c.specs.declared.links.DcelHalfEdge.{DcelHalfEdge}

length-links : (s : Shape) (n : ℕ) → length (links_below s n) ≡ n
length-links s zero = refl
length-links s (suc n) = omega (arith, length-append (links_below s n) (links_of s n ∷ []), length-links s n)

set-between : {T : Type 0} → (xs before : List T) (x : T) → length xs < length before → set (xs ++ drop (length xs) before) (length xs) x ≡ (xs ++ x ∷ []) ++ drop (suc (length xs)) before
set-between xs [] x lt = absurd (omega arith)
set-between [] (b ∷ bs) x lt = refl
set-between (a ∷ xs) (b ∷ bs) x lt = ap (λ l. a ∷ l) (set-between xs bs x (omega arith))

-- the next one comes behind those that were put
pub put-next : (s : Shape) (n : ℕ) (before : List DcelHalfEdge) (x : DcelHalfEdge) → n < length before → x ≡ links_of s n → set (links_below s n ++ drop n before) n x ≡ links_below s (n + 1) ++ drop (n + 1) before
put-next s n before x lt own =
    let behind : set (links_below s n ++ drop (length (links_below s n)) before) (length (links_below s n)) (links_of s n) ≡ (links_below s n ++ links_of s n ∷ []) ++ drop (suc (length (links_below s n))) before =
    set-between (links_below s n) before (links_of s n) (omega (arith, lt, length-links s n)) in
    let at_n : set (links_below s n ++ drop n before) n (links_of s n) ≡ links_below s (suc n) ++ drop (suc n) before =
    subst (λ (k : ℕ). set (links_below s n ++ drop k before) k (links_of s n) ≡ (links_below s n ++ links_of s n ∷ []) ++ drop (suc k) before) (length-links s n) behind in
    ap (set (links_below s n ++ drop n before) n) own
    ∙ subst (λ (k : ℕ). set (links_below s n ++ drop n before) n (links_of s n) ≡ links_below s k ++ drop k before) (sym (add-one n)) at_n

pub put-all : (s : Shape) (n count : ℕ) (before after : List DcelHalfEdge) → n ≡ count → after ≡ links_below s n ++ drop n before → after ≡ links_below s count ++ drop count before
put-all s n count before after e put = subst (λ (k : ℕ). after ≡ links_below s k ++ drop k before) e put
