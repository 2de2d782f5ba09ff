-- The lists of a record, from the largest down, list what it gives up.
use Rattle.std.proofs.Common.{◌≡◌, ◌↔◌, inl, inr, ℕ, ◌<◌, ◌==◌, true, List, [], ◌∷◌, ◌++◌, reverse, sym, ap, subst, arith, eqb, eq-eqb, eqb-true}
use Rattle.std.proofs.lemmas.Bool.{false≢true, or_cases, or_left, or_right}
use Rattle.std.proofs.lemmas.List.{reverse-append}
use Rattle.std.specs.List.{list_any}
use Rattle.dcel_maps.specs.Removals.{Removal, Closed, Isolated, Cleaned, GoesUp, IsWithin, gives_up_edge, gives_up_face, IsListed, ascending}
use Rattle.dcel_maps.specs.Renumbering.{edges_down, faces_down}
use Rattle.dcel_maps.specs.Words.{count_of}
use Rattle.dcel_maps.specs.theory.Renumbering.{GoesDown, ListsDown}
use Rattle.dcel_maps.proofs.words.Counts.{count-equal, count-later, count-same, first_or_later, count-reverse}

-- what a list holds is found in it
pub any-counted : (u : ℕ) (xs : List ℕ) → (list_any (λ e. e == u) xs ≡ true) ↔ (0 < count_of u xs)
any-counted u [] = (λ found. absurd (false≢true found), λ found. absurd (omega (arith, found)))
any-counted u (x ∷ xs) = (
  λ found. elim (or_cases (eqb x u) (list_any (λ e. e == u) xs) found) [
    | inl same ↦ omega (arith, count-equal u x xs (sym (eqb-true x u same)))
    | inr later ↦ count-later u x xs ((any-counted u xs).0 later)
  ],
  λ found. elim (first_or_later u x xs found) [
    | inl same ↦ or_left (eqb x u) (list_any (λ e. e == u) xs) (eq-eqb x u (sym same))
    | inr later ↦ or_right (eqb x u) (list_any (λ e. e == u) xs) ((any-counted u xs).1 later)
  ],
)

pub reverse_first : (x : ℕ) (xs : List ℕ) → reverse (x ∷ xs) ≡ reverse xs ++ x ∷ []
reverse_first x xs = reverse-append (x ∷ []) xs

-- a list that goes down still does with a smaller item at its end
down-ended : (n x : ℕ) (ds : List ℕ) → GoesDown n ds → x < n → ((e : ℕ) → 0 < count_of e ds → x < e) → GoesDown n (ds ++ x ∷ [])
down-ended n x [] down below less = (below, tt)
down-ended n x (d ∷ ds) down below less =
    (down.0, down-ended d x ds down.1 (less d (omega (arith, count-same d ds))) (λ e found. less e (count-later e d ds found)))

reverse-down : (n : ℕ) (xs : List ℕ) → GoesUp xs → ((e : ℕ) → 0 < count_of e xs → e < n) → GoesDown n (reverse xs)
reverse-down n [] up below = tt
reverse-down n (x ∷ xs) up below =
    subst (GoesDown n) (sym (reverse_first x xs))
    (down-ended n x (reverse xs) (reverse-down n xs up.1 (λ e found. below e (count-later e x xs found)))
    (below x (omega (arith, count-same x xs)))
    (λ e found. up.0 e (omega (arith, found, count-reverse e xs))))

reverse-lists : (n : ℕ) (xs : List ℕ) → GoesUp xs → ((e : ℕ) → list_any (λ x. x == e) xs ≡ true → e < n)
    → ListsDown (λ e. list_any (λ x. x == e) xs ≡ true) n (reverse xs)
reverse-lists n xs up below = record {
  down = reverse-down n xs up (λ e found. below e ((any-counted e xs).1 found));
  each = λ e. (
    λ given. omega (arith, count-reverse e xs, (any-counted e xs).0 given),
    λ found. (any-counted e xs).1 (omega (arith, count-reverse e xs, found)),
  );
}

none_down : {passes : ℕ → Type 0} (n : ℕ) → ((e : ℕ) → passes e → ⊥) → ListsDown passes n []
none_down n none = record { down = tt; each = λ e. (λ passes. absurd (none e passes), λ found. absurd (omega (arith, found))) }

module _ {vertices edges faces : ℕ} where
  pub edges_down-list : (r : Removal) → IsWithin r vertices edges faces
      → ListsDown (λ u. gives_up_edge r u ≡ true) edges (edges_down r)
  unfolding gives_up_edge
  edges_down-list Closed within = none_down edges (λ e given. false≢true given)
  edges_down-list (Isolated es fs v) within = reverse-lists edges es within.in_order.0 within.edges
  edges_down-list (Cleaned v) within = none_down edges (λ e given. false≢true given)

  pub faces_down-list : (r : Removal) → IsWithin r vertices edges faces
      → ListsDown (λ f. gives_up_face r f ≡ true) faces (faces_down r)
  unfolding gives_up_face
  faces_down-list Closed within = none_down faces (λ e given. false≢true given)
  faces_down-list (Isolated es fs v) within = reverse-lists faces fs within.in_order.1 (λ f given. (within.faces f given).1)
  faces_down-list (Cleaned v) within = none_down faces (λ e given. false≢true given)

-- lists that name what is given up, in ascending order, are those
pub listed-down : (r : Removal) (es fs : List ℕ) → IsListed r es fs
    → (edges_down r ≡ reverse (ascending es)) × (faces_down r ≡ reverse (ascending fs))
listed-down Closed es fs listed = absurd listed
listed-down (Isolated edges faces vertex) es fs listed = (ap reverse (sym listed.0), ap reverse (sym listed.1))
listed-down (Cleaned vertex) es fs listed = absurd listed
