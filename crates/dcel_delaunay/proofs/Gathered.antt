-- What a loop over elements of a mesh lists, one by one.
use Rattle.std.proofs.Common.{◌≡◌, ◌∙◌, ℕ, List, [], ◌∷◌, ◌++◌, map, true, refl, sym, ap}
use Rattle.std.proofs.lemmas.List.{append-nil}
use Rattle.std.proofs.lemmas.List.Elements.{All-head, All-tail}
use Rattle.std.specs.List.{All}
use Rattle.dcel_maps.specs.Kinds.{ElementKind}
use Rattle.dcel_maps.specs.Shapes.{Mesh}
use Rattle.dcel_maps.specs.Walking.{in_mesh}
use Rattle.spade_dcel.specs.Live.{element_is_live, live_ones}

module _ {M T : Type 0} (read : M → ℕ → T) where
  -- what is read of each element in its mesh
  abbrev pub read_each : List (M × ℕ) → List T
  read_each elements = map (λ element. read element.0 element.1) elements

  read_each-in_mesh : (m : M) (numbers : List ℕ) → read_each (in_mesh m numbers) ≡ map (read m) numbers
  read_each-in_mesh m [] = refl
  read_each-in_mesh m (n ∷ rest) = ap (λ list. read m n ∷ list) (read_each-in_mesh m rest)

  -- with what is read of the elements to come, the list is the whole
  abbrev pub Gathers : List T → List T → List (M × ℕ) → Type 0
  Gathers whole list rest = list ++ read_each rest ≡ whole

  -- so it is where nothing is listed yet, and the elements are those of one mesh
  pub gathers_none : (m : M) (numbers : List ℕ) (list : List T) (rest : List (M × ℕ)) → list ≡ [] → rest ≡ in_mesh m numbers → Gathers (map (read m) numbers) list rest
  gathers_none m numbers list rest none are = ap (λ l. l ++ read_each rest) none ∙ ap read_each are ∙ read_each-in_mesh m numbers

  -- and where none is to come, it is listed
  pub gathers_all : (whole list : List T) (rest : List (M × ℕ)) → Gathers whole list rest → rest ≡ [] → list ≡ whole
  gathers_all whole list rest so_far none = sym (append-nil list) ∙ ap (λ xs. list ++ read_each xs) (sym none) ∙ so_far

-- where all are live, the live ones are all
pub all_live : {V DE UE F : Type 0} (kind : ElementKind) (m : Mesh V DE UE F) (numbers : List ℕ) → All (λ n. element_is_live kind m.shape n ≡ true) numbers
    → live_ones kind (in_mesh m numbers) ≡ in_mesh m numbers
all_live kind m [] all = refl
all_live kind m (n ∷ rest) all =
    rw (All-head (λ k. element_is_live kind m.shape k ≡ true) n rest all)
    (ap (λ list. (m, n) ∷ list) (all_live kind m rest (All-tail (λ k. element_is_live kind m.shape k ≡ true) n rest all)))
