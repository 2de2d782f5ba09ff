-- The anchors of a mesh, gathered element by element.
use Rattle.std.proofs.Common.{◌≡◌, ◌∙◌, ℕ, ◌-◌, List, [], ◌∷◌, ◌++◌, length, map, slice_index_or, Option, None, refl, ap, arith}
use Rattle.std.proofs.lemmas.List.{ext_get_or, length-map}
use Rattle.std.proofs.lemmas.List.FromFn.{get_or-map-range_with_len}
use Rattle.dcel_maps.specs.Numbers.{numbers_between}
use Rattle.dcel_maps.specs.Walking.{in_mesh}
use Rattle.dcel_maps.proofs.walks.Numbers.{length-numbers}

-- the anchors that these elements have in their meshes
abbrev pub anchors_of : {M : Type 0} → (M → ℕ → Option ℕ) → List (M × ℕ) → List (Option ℕ)
anchors_of read elements = map (λ element. read element.0 element.1) elements

anchors_of-in_mesh : {M : Type 0} (read : M → ℕ → Option ℕ) (m : M) (numbers : List ℕ) → anchors_of read (in_mesh m numbers) ≡ map (read m) numbers
anchors_of-in_mesh read m [] = refl
anchors_of-in_mesh read m (n ∷ rest) = ap (λ list. read m n ∷ list) (anchors_of-in_mesh read m rest)

-- the items of a list, read one by one
each_read : (anchors : List (Option ℕ)) → map (λ n. slice_index_or anchors n None) (numbers_between 0 (length anchors)) ≡ anchors
unfolding numbers_between
each_read anchors =
    let read : ℕ → Option ℕ = λ n. slice_index_or anchors n None in
    let long : length (map read (numbers_between 0 (length anchors))) ≡ length anchors =
    length-map (numbers_between 0 (length anchors)) read ∙ omega (arith, length-numbers 0 (length anchors)) in
    ext_get_or None (map read (numbers_between 0 (length anchors))) anchors long
    (λ n below. get_or-map-range_with_len read 0 (length anchors - 0) n n None (omega arith) (omega arith))

-- with the anchors of what is to come, the list is the whole
abbrev pub Gathers : {M : Type 0} → (M → ℕ → Option ℕ) → List (Option ℕ) → List (Option ℕ) → List (M × ℕ) → Type 0
Gathers read whole list rest = list ++ anchors_of read rest ≡ whole

-- so it is where nothing is listed yet, and the elements are those of one mesh
pub gathers-none : {M : Type 0} (read : M → ℕ → Option ℕ) (whole : List (Option ℕ)) (m : M) (n : ℕ) (list : List (Option ℕ)) (rest : List (M × ℕ))
    → list ≡ [] → rest ≡ in_mesh m (numbers_between 0 n) → length whole ≡ n → read m ≡ (λ k. slice_index_or whole k None) → Gathers read whole list rest
gathers-none read whole m n list rest none are long reads =
    rw (none, are, anchors_of-in_mesh read m (numbers_between 0 n), reads, ← long) (each_read whole)
