-- A list of edges without those that need not be looked at.
use Rattle.std.proofs.Common.{◌≡◌, ◌≢◌, inl, inr, ℕ, suc, ◌+◌, ◌-◌, ◌<◌, ◌==◌, true, false, Bool, List, [], ◌∷◌, length, slice_index_or, sym, ap, ◌∙◌, subst, arith}
use Rattle.std.specs.List.{list_any}
use Rattle.std.proofs.lemmas.Bool.{cases_eq, cases_lt, false_from_ne_true, false≢true}
use Rattle.dcel_maps.specs.Removals.{Cleaned, Closed, IsListed, Isolated, Removal, gives_up_edge}
use Rattle.dcel_maps.specs.Shapes.{Mesh, Shape, edge_is_live}
use Rattle.dcel_maps.specs.Words.{count_of}
use Rattle.dcel_maps.proofs.Liveness.{is_live-parts}
use Rattle.dcel_maps.proofs.words.Ascending.{any-ascending}
use Rattle.dcel_maps.proofs.words.Counts.{first_or_later}
use Rattle.dcel_maps.proofs.words.Mapped.{count-at}
use Rattle.dcel_predicates.specs.declared.point.Point.{Point}
use Rattle.dcel_delaunay.specs.Removing.{IsEmptied}

-- an item has a place
place_of : (u d : ℕ) (list : List ℕ) → 0 < count_of u list → (k : ℕ) × (k < length list) × (slice_index_or list k d ≡ u)
place_of u d [] there = absurd (omega (arith, there))
place_of u d (x ∷ rest) there = elim (first_or_later u x rest there) [
  | inl same ↦ (0, omega arith, sym same)
  | inr later ↦ let (k, within, is) = place_of u d rest later in (suc k, omega (arith, within), is)
]

-- what is given up isn't live
given_up_of : (r : Removal) (edges faces : List ℕ) → IsListed r edges faces → (u : ℕ) → list_any (λ e. e == u) edges ≡ true → gives_up_edge r u ≡ true
unfolding gives_up_edge
given_up_of Closed edges faces named u found = absurd named
given_up_of (Cleaned vertex) edges faces named u found = absurd named
given_up_of (Isolated given_edges given_faces vertex) edges faces named u found =
    ap (list_any (λ e. e == u)) (sym named.0) ∙ any-ascending (λ e. e == u) edges ∙ found

pub named_dead : (s : Shape) (edges faces : List ℕ) → IsListed s.removal edges faces → (u : ℕ) → list_any (λ e. e == u) edges ≡ true → edge_is_live s u ≡ false
named_dead s edges faces named u found =
    false_from_ne_true (edge_is_live s u) (λ live. false≢true (sym (is_live-parts (gives_up_edge s.removal) s.edges u live).1 ∙ given_up_of s.removal edges faces named u found))

-- the list has each needed item that an earlier one has
abbrev pub KeepsNeeded : (ℕ → Bool) → List ℕ → List ℕ → Type 0
KeepsNeeded needed list rest = (u : ℕ) → needed u ≡ true → 0 < count_of u list → 0 < count_of u rest

-- one item goes, and the last one gets its place
module _ (needed : ℕ → Bool) (list rest : List ℕ) (at x : ℕ) (within : at < length list) (read : x ≡ slice_index_or list at x) (short : length rest + 1 ≡ length list)
    (needless : needed x ≡ false) (len : ℕ) (many : len ≡ length list) (last : (d : ℕ) → at + 1 < len → slice_index_or rest at d ≡ slice_index_or list (len - 1) d)
    (others : (k d : ℕ) → k ≢ at → k + 1 < len → slice_index_or rest k d ≡ slice_index_or list k d) where
  left_at : (u k : ℕ) → k < length rest → slice_index_or rest k x ≡ u → 0 < count_of u rest
  left_at u k below is = subst (λ (y : ℕ). 0 < count_of y rest) is (count-at rest k x below)

  gone : (u : ℕ) → needed u ≡ true → x ≡ u → 0 < count_of u rest
  gone u live is = absurd (false≢true (sym needless ∙ ap needed is ∙ live))

  other : (u k : ℕ) → k < length list → k ≢ at → slice_index_or list k x ≡ u → 0 < count_of u rest
  other u k below not is = elim (cases_lt (k + 1) (length list)) [
    | inl before ↦ left_at u k (omega (arith, before, short)) (others k x not (omega (arith, before, many)) ∙ is)
    | inr end ↦
        let is_last : k ≡ len - 1 = omega (arith, end, below, many) in
        left_at u at (omega (arith, within, end, below, not, short))
        (last x (omega (arith, within, end, below, not, many)) ∙ ap (λ (i : ℕ). slice_index_or list i x) (sym is_last) ∙ is)
  ]

  pub needed_stay : KeepsNeeded needed list rest
  needed_stay u live there =
      let (k, below, is) = place_of u x list there in
      elim (cases_eq k at) [
        | inl same ↦ gone u live (read ∙ ap (λ (i : ℕ). slice_index_or list i x) (sym same) ∙ is)
        | inr not ↦ other u k below not is
      ]

-- a list of what is to be looked at after a removal
module _ {DE UE F : Type 0} where
  pub given_fewer : (is_constraint : UE → Bool) (old new : Mesh Point DE UE F) (v : ℕ) (before after fewer : List ℕ)
      → IsEmptied is_constraint old new v before after → KeepsNeeded (edge_is_live new.shape) after fewer → IsEmptied is_constraint old new v before fewer
  given_fewer is_constraint old new v before after fewer given keeps = record {
    mesh = given.mesh;
    vertices = given.vertices;
    points = given.points;
    edges = given.edges;
    faces = given.faces;
    removal = given.removal;
    euler = given.euler;
    triangles = given.triangles;
    plane = given.plane;
    listed = λ lists u is. keeps u is.inner.live (given.listed lists u is);
    left = given.left;
    staying = given.staying;
  }
