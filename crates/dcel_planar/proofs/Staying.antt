-- The edges that have to stay, as a list: what is due with them is all that breaks Delaunay's condition.
use Rattle.std.proofs.Common.{◌≡◌, inl, inr, ℕ, zero, suc, ◌+◌, ◌<◌, Bool, true, false, List, [], ◌∷◌, ◌++◌, map, Some, refl, sym, ◌∙◌, subst, arith}
use Rattle.std.specs.List.{slice_get}
use Rattle.std.specs.Option.{option_map}
use Rattle.std.proofs.lemmas.Bool.{cases_lt}
use Rattle.dcel_predicates.specs.declared.point.Point.{Point}
use Rattle.dcel_legalize.specs.Flipping.{edges_flipped}
use Rattle.dcel_maps.specs.edits.Flip.{edge_flipped}
use Rattle.dcel_maps.specs.Shapes.{Mesh}
use Rattle.dcel_maps.specs.Words.{count_of}
use Rattle.dcel_maps.proofs.words.Counts.{count-append, count-equal, count-later, first_or_later}
use Rattle.dcel_plane.specs.Plane.{ListsCircled, point_at}
use Rattle.dcel_planar.specs.Legalization.{HasToStay, ListsLoose}

-- the places of `true` in a list, counted from n on
abbrev pub places_from : ℕ → List Bool → List ℕ
places_from n [] = []
places_from n (true ∷ rest) = n ∷ places_from (suc n) rest
places_from n (false ∷ rest) = places_from (suc n) rest

place_there : (n u : ℕ) (list : List Bool) → slice_get list u ≡ Some true → 0 < count_of (n + u) (places_from n list)
place_there n u [] is = absurd (cc)
place_there n zero (true ∷ rest) is = (let c = count-equal (n + 0) n (places_from (suc n) rest) (omega arith) in omega (arith, c))
place_there n zero (false ∷ rest) is = absurd (cc)
place_there n (suc u) (true ∷ rest) is =
    count-later (n + suc u) n (places_from (suc n) rest)
    (subst (λ (k : ℕ). 0 < count_of k (places_from (suc n) rest)) (omega arith) (place_there (suc n) u rest is))
place_there n (suc u) (false ∷ rest) is = subst (λ (k : ℕ). 0 < count_of k (places_from (suc n) rest)) (omega arith) (place_there (suc n) u rest is)

place_from : (n k : ℕ) (list : List Bool) → 0 < count_of k (places_from n list) → (u : ℕ) × (n + u ≡ k) × (slice_get list u ≡ Some true)
place_from n k [] there = absurd (omega (arith, there))
place_from n k (true ∷ rest) there = elim (first_or_later k n (places_from (suc n) rest) there) [
  | inl is ↦ (0, omega (arith, is), refl)
  | inr later ↦ let found = place_from (suc n) k rest later in (suc found.0, (let e = found.1 in omega (arith, e)), found.2)
]
place_from n k (false ∷ rest) there = let found = place_from (suc n) k rest there in (suc found.0, (let e = found.1 in omega (arith, e)), found.2)

mapped : {A : Type 0} (f : A → Bool) (list : List A) (u : ℕ) → slice_get (map f list) u ≡ option_map f (slice_get list u)
mapped f [] u = refl
mapped f (x ∷ rest) zero = refl
mapped f (x ∷ rest) (suc u) = mapped f rest u

module _ {DE UE F : Type 0} (stays : UE → Bool) where
  abbrev pub staying : Mesh Point DE UE F → List ℕ
  staying m = places_from 0 (map stays m.undirected_data)

  pub stays_listed : (m : Mesh Point DE UE F) (u : ℕ) → HasToStay stays m u → 0 < count_of u (staying m)
  stays_listed m u stay =
      subst (λ (k : ℕ). 0 < count_of k (staying m)) (omega arith) (place_there 0 u (map stays m.undirected_data) (mapped stays m.undirected_data u ∙ stay))

  pub listed_stays : (m : Mesh Point DE UE F) (u : ℕ) → 0 < count_of u (staying m) → HasToStay stays m u
  listed_stays m u there =
      let found = place_from 0 u (map stays m.undirected_data) there in
      subst (λ (k : ℕ). HasToStay stays m k) (let e = found.1 in omega (arith, e)) (sym (mapped stays m.undirected_data found.0) ∙ found.2)

  pub to_circled : (m : Mesh Point DE UE F) (due : List ℕ) → ListsLoose stays m due → ListsCircled (point_at m) m.shape (due ++ staying m)
  to_circled m due lists u inner circled =
      let parts = count-append u due (staying m) in
      elim (cases_lt 0 (count_of u (staying m))) [
        | inl there ↦ omega (arith, parts, there)
        | inr none ↦
            let found = lists u record { inner = inner; circled = circled; loose = λ stay. let c = stays_listed m u stay in omega (arith, c, none) } in
            omega (arith, parts, found)
      ]

  -- flips leave the data of edges
  pub flips_data : (m : Mesh Point DE UE F) (us : List ℕ) → (edges_flipped m us).undirected_data ≡ m.undirected_data
  flips_data m [] = refl
  flips_data m (u ∷ us) = flips_data (edge_flipped m u) us
