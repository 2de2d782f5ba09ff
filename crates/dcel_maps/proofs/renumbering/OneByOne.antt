-- Things of one kind, edges or faces, taken out one after another, from the largest down.
use Rattle.std.proofs.Common.{◌≡◌, inl, inr, ℕ, ◌-◌, ◌≤◌, Bool, true, false, List, [], ◌∷◌, fold, refl, ◌∙◌, arith}
use Rattle.std.proofs.lemmas.Bool.{false_from_ne_true}
use Rattle.dcel_maps.specs.Removals.{Removal, gives_up_vertex}
use Rattle.dcel_maps.specs.Shapes.{IsMesh, Mesh, Shape}
use Rattle.dcel_maps.specs.theory.Renumbering.{ListsDown}
use Rattle.dcel_maps.proofs.renumbering.Numbers.{down-below, down-more}
use Rattle.dcel_maps.proofs.renumbering.Records.{Loses, still_given}
use Rattle.dcel_maps.proofs.words.Counts.{count-later, count-same, first_or_later}

-- what the list names is given up, and the first is the largest
module _ (gone : ℕ → Bool) (n d : ℕ) (ds : List ℕ) (lists : ListsDown (λ k. gone k ≡ true) n (d ∷ ds)) where
  pub first-given : gone d ≡ true
  first-given = (lists.each d).1 (omega (arith, count-same d ds))

  pub first-largest : (k : ℕ) → gone k ≡ true → k ≤ d
  first-largest k given = elim (first_or_later k d ds ((lists.each k).0 given)) [
    | inl same ↦ omega (arith, same)
    | inr later ↦ omega (arith, down-below d ds lists.down.1 k later)
  ]

-- the numbers of the kind that a shape has given up
abbrev pub GivenUp : (Shape → ℕ) → (Removal → ℕ → Bool) → Shape → List ℕ → Type 0
GivenUp count gone s ds = ListsDown (λ k. gone s.removal k ≡ true) (count s) ds

-- each step takes out one thing of a kind of which there are `count`, and `gone` tells what is given up of it, `other` what of the other
pub record TakesOut {V DE UE F : Type 0} (step : Mesh V DE UE F → ℕ → Mesh V DE UE F) (count : Shape → ℕ) (gone other : Removal → ℕ → Bool) : Type 0 where
  pub loses : (m : Mesh V DE UE F) (d : ℕ) → Loses gone other m.shape.removal (step m d).shape.removal d
  pub left : (m : Mesh V DE UE F) (d : ℕ) → count (step m d).shape ≡ count m.shape - 1
  pub mesh : (m : Mesh V DE UE F) (d : ℕ) (ds : List ℕ) → IsMesh m → GivenUp count gone m.shape (d ∷ ds) → IsMesh (step m d)

module _ {V DE UE F : Type 0} {step : Mesh V DE UE F → ℕ → Mesh V DE UE F} {count : Shape → ℕ} {gone other : Removal → ℕ → Bool} (takes : TakesOut step count gone other) where
  -- after a step the others stay given up, with the same numbers
  pub rest-listed : (m : Mesh V DE UE F) (d : ℕ) (ds : List ℕ) → GivenUp count gone m.shape (d ∷ ds) → GivenUp count gone (step m d).shape ds
  rest-listed m d ds lists =
      let loses = takes.loses m d in
      record {
        down = down-more d (count (step m d).shape) ds (omega (arith, lists.down.0, takes.left m d)) lists.down.1;
        each = λ k. (
          λ given.
              let was = still_given loses k given in
              elim (first_or_later k d ds ((lists.each k).0 was.1)) [ inl same ↦ absurd (was.0 same) | inr later ↦ later ],
          λ found.
              loses.rest k (λ same. omega (arith, same, down-below d ds lists.down.1 k found)) ∙ (lists.each k).1 (count-later k d ds found),
        );
      }

  -- what is left once all are out is a mesh
  pub all_out-mesh : (m : Mesh V DE UE F) (ds : List ℕ) → IsMesh m → GivenUp count gone m.shape ds → IsMesh (fold step m ds)
  all_out-mesh m [] mesh lists = mesh
  all_out-mesh m (d ∷ ds) mesh lists = all_out-mesh (step m d) ds (takes.mesh m d ds mesh lists) (rest-listed m d ds lists)

  -- where nothing of the kind is given up any more, and what is else is given up as before
  pub all_out-none : (m : Mesh V DE UE F) (ds : List ℕ) → GivenUp count gone m.shape ds → (k : ℕ) → gone (fold step m ds).shape.removal k ≡ false
  all_out-none m [] lists k = false_from_ne_true (gone m.shape.removal k) (λ given. omega (arith, (lists.each k).0 given))
  all_out-none m (d ∷ ds) lists k = all_out-none (step m d) ds (rest-listed m d ds lists) k

  pub all_out-others : (m : Mesh V DE UE F) (ds : List ℕ) (k : ℕ) → other (fold step m ds).shape.removal k ≡ other m.shape.removal k
  all_out-others m [] k = refl
  all_out-others m (d ∷ ds) k = all_out-others (step m d) ds k ∙ (takes.loses m d).others k

  pub all_out-vertices : (m : Mesh V DE UE F) (ds : List ℕ) (v : ℕ)
      → gives_up_vertex (fold step m ds).shape.removal v ≡ gives_up_vertex m.shape.removal v
  all_out-vertices m [] v = refl
  all_out-vertices m (d ∷ ds) v = all_out-vertices (step m d) ds v ∙ (takes.loses m d).vertices v
