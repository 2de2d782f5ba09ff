-- What the removal record gives up once an edge, or a face, is taken out.
use Rattle.std.proofs.Common.{Bool, ◌≡◌, ◌≢◌, inl, inr, ℕ, ◌==◌, ◌||◌, false, not, List, [], ◌∷◌, filter, refl, sym, ap, ◌∙◌, eqb, eq-eqb, true}
use Rattle.std.proofs.lemmas.Bool.{cases_eq, ne_eqb, both_ways}
use Rattle.std.specs.List.{list_any}
use Rattle.dcel_maps.specs.Removals.{Removal, Closed, Isolated, Cleaned, IsInOrder, gives_up_edge, gives_up_face, gives_up_vertex}
use Rattle.dcel_maps.specs.Renumbering.{without_edge, without_face}
use Rattle.dcel_maps.proofs.words.Ascending.{goes_up-filter}

any-other : (d u : ℕ) (xs : List ℕ) → u ≢ d → list_any (λ e. e == u) (filter (λ e. not (e == d)) xs) ≡ list_any (λ e. e == u) xs
any-other d u [] other = refl
any-other d u (x ∷ xs) other = elim (cases_eq x d) [
  | inl same ↦ rw (eq-eqb x d same, ne_eqb x u (λ e. other (sym e ∙ same))) (any-other d u xs other)
  | inr differs ↦ rw (ne_eqb x d differs) (ap (λ b. eqb x u || b) (any-other d u xs other))
]

any-same : (d : ℕ) (xs : List ℕ) → list_any (λ e. e == d) (filter (λ e. not (e == d)) xs) ≡ false
any-same d [] = refl
any-same d (x ∷ xs) = elim (cases_eq x d) [
  | inl same ↦ rw (eq-eqb x d same) (any-same d xs)
  | inr differs ↦ rw (ne_eqb x d differs, ne_eqb x d differs) (any-same d xs)
]

-- r' gives up what r does but for one thing d: `one` tells what is given up of its kind, and `other` of the other kind
pub record Loses (one other : Removal → ℕ → Bool) (r r' : Removal) (d : ℕ) : Type 0 where
  pub gone : one r' d ≡ false
  pub rest : (k : ℕ) → k ≢ d → one r' k ≡ one r k
  pub others : (k : ℕ) → other r' k ≡ other r k
  pub vertices : (k : ℕ) → gives_up_vertex r' k ≡ gives_up_vertex r k

pub without_edge-loses : (r : Removal) (d : ℕ) → Loses gives_up_edge gives_up_face r (without_edge r d) d
unfolding gives_up_edge gives_up_face gives_up_vertex
without_edge-loses Closed d = record { gone = refl; rest = λ k other. refl; others = λ k. refl; vertices = λ k. refl }
without_edge-loses (Isolated edges faces vertex) d = record { gone = any-same d edges; rest = λ k. any-other d k edges; others = λ k. refl; vertices = λ k. refl }
without_edge-loses (Cleaned vertex) d = record { gone = refl; rest = λ k other. refl; others = λ k. refl; vertices = λ k. refl }

pub without_face-loses : (r : Removal) (d : ℕ) → Loses gives_up_face gives_up_edge r (without_face r d) d
unfolding gives_up_edge gives_up_face gives_up_vertex
without_face-loses Closed d = record { gone = refl; rest = λ k other. refl; others = λ k. refl; vertices = λ k. refl }
without_face-loses (Isolated edges faces vertex) d = record { gone = any-same d faces; rest = λ k. any-other d k faces; others = λ k. refl; vertices = λ k. refl }
without_face-loses (Cleaned vertex) d = record { gone = refl; rest = λ k other. refl; others = λ k. refl; vertices = λ k. refl }

-- what is still given up is another thing, and was given up
pub still_given : {one other : Removal → ℕ → Bool} {r r' : Removal} {d : ℕ} → Loses one other r r' d → (k : ℕ) → one r' k ≡ true
    → (k ≢ d) × (one r k ≡ true)
still_given {one} {other} {r} {r'} {d} loses k given =
    let differs : k ≢ d = λ same. both_ways (one r' k) (ap (one r') same ∙ loses.gone) given in (differs, sym (loses.rest k differs) ∙ given)

-- what is left is in order
pub without_edge-in_order : (r : Removal) (d : ℕ) → IsInOrder r → IsInOrder (without_edge r d)
without_edge-in_order Closed d up = up
without_edge-in_order (Isolated edges faces vertex) d up = (goes_up-filter (λ e. not (e == d)) edges up.0, up.1)
without_edge-in_order (Cleaned vertex) d up = up

pub without_face-in_order : (r : Removal) (d : ℕ) → IsInOrder r → IsInOrder (without_face r d)
without_face-in_order Closed d up = up
without_face-in_order (Isolated edges faces vertex) d up = (up.0, goes_up-filter (λ f. not (f == d)) faces up.1)
without_face-in_order (Cleaned vertex) d up = up
