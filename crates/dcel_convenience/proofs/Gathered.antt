-- What a loop over the half edges of a mesh lists, one by one.
use Rattle.std.proofs.Common.{◌≡◌, ◌∙◌, ℕ, List, [], ◌∷◌, ◌++◌, length, map, refl, ap}
use Rattle.std.proofs.lemmas.List.{length-map}
use Rattle.dcel_maps.specs.Walking.{in_mesh}

-- what is read of each element in its mesh
abbrev pub read_each : {M : Type 0} → (M → ℕ → ℕ) → List (M × ℕ) → List ℕ
read_each read elements = map (λ element. read element.0 element.1) elements

pub read_each-in_mesh : {M : Type 0} (read : M → ℕ → ℕ) (m : M) (numbers : List ℕ) → read_each read (in_mesh m numbers) ≡ map (read m) numbers
read_each-in_mesh read m [] = refl
read_each-in_mesh read m (n ∷ rest) = ap (λ list. read m n ∷ list) (read_each-in_mesh read m rest)

-- with what is read of the elements to come, the list is the whole
abbrev pub Gathers : {M : Type 0} → (M → ℕ → ℕ) → List ℕ → List ℕ → List (M × ℕ) → Type 0
Gathers read whole list rest = list ++ read_each read rest ≡ whole

-- so it is where nothing is listed yet, and the elements are those of one mesh
pub gathers-none : {M : Type 0} (read : M → ℕ → ℕ) (m : M) (numbers list : List ℕ) (rest : List (M × ℕ))
    → list ≡ [] → rest ≡ in_mesh m numbers → Gathers read (map (read m) numbers) list rest
gathers-none read m numbers list rest none are =
    ap (λ l. l ++ read_each read rest) none ∙ ap (read_each read) are ∙ read_each-in_mesh read m numbers

-- as many are to come as there are
pub length-in_mesh : {M : Type 0} (m : M) (numbers : List ℕ) (rest : List (M × ℕ)) → rest ≡ in_mesh m numbers → length rest ≡ length numbers
length-in_mesh m numbers rest are = ap length are ∙ length-map numbers (λ n. (m, n))
