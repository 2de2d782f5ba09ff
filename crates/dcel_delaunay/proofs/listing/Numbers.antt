-- The least number of a point at each vertex, found from the last point on.
use Rattle.std.proofs.Common.{◌≡◌, inl, inr, ℕ, ◌+◌, ◌≤◌, List, length, sym, ap, ◌∙◌, subst, arith, slice_get, set, Some}
use Rattle.std.proofs.lemmas.Bool.{cases_eq}
use Rattle.std.proofs.lemmas.List.{length-set}
use Rattle.std.proofs.lemmas.Option.{same_Some, slice_get_within}
use Rattle.dcel_delaunay.specs.Listing.{NamesLeast}
use Rattle.dcel_delaunay.proofs.Items.{get_other, get_set}

-- one point more is named, the one before those that were
pub named_more : (vertices numbers : List ℕ) (k w : ℕ) → slice_get vertices k ≡ Some w → NamesLeast vertices (k + 1) numbers → NamesLeast vertices k (set numbers w k)
named_more vertices numbers k w at names i v from is below = elim (cases_eq v w) [
  | inl same ↦ (
    k,
    subst (λ (u : ℕ). slice_get (set numbers w k) u ≡ Some k) (sym same) (get_set numbers w k (let e = length-set numbers w k in omega (arith, below, e, same))),
    from,
    at ∙ ap Some (sym same),
  )
  | inr differs ↦ elim (cases_eq i k) [
    | inl first ↦ absurd (differs (same_Some v w (sym is ∙ ap (slice_get vertices) first ∙ at)))
    | inr later ↦
        let (j, has, least, stands) = names i v (omega (arith, from, later)) is (let e = length-set numbers w k in omega (arith, below, e)) in
        (j, get_other numbers w v k differs ∙ has, least, stands)
  ]
]

-- a vertex that has no place in the list is passed over
pub named_past : (vertices numbers : List ℕ) (k w : ℕ) → slice_get vertices k ≡ Some w → length numbers ≤ w → NamesLeast vertices (k + 1) numbers → NamesLeast vertices k numbers
named_past vertices numbers k w at past names i v from is below = elim (cases_eq i k) [
  | inl first ↦ absurd (let same = same_Some v w (sym is ∙ ap (slice_get vertices) first ∙ at) in omega (arith, same, past, below))
  | inr later ↦ names i v (omega (arith, from, later)) is below
]

-- before the first one none is
pub named_none : (vertices numbers : List ℕ) (from : ℕ) → length vertices ≤ from → NamesLeast vertices from numbers
named_none vertices numbers from all i v after is below =
    absurd (let e = slice_get_within vertices i v is in omega (arith, all, after, e))
