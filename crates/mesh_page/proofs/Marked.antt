-- The edges that are constraints, gathered one after another.
use Rattle.std.proofs.Common.{◌≡◌, ◌<◌, ◌+◌, ◌++◌, ◌∷◌, [], ℕ, Bool, true, false, cond, List, Option, None, Some, length, map, filter, option_map, slice_get, refl, sym, ap, ◌∙◌, subst, arith}
use Rattle.std.proofs.lemmas.List.{append-nil, length-map, map-append}
use Rattle.std.proofs.lemmas.List.Elements.{filter-append}
use Rattle.std.proofs.lemmas.Option.{same_Some, slice_get-map, slice_get_within}
use Rattle.dcel_delaunay.specs.Lists.{ends_of}
use Rattle.dcel_delaunay.specs.declared.lists.Ends.{Ends}
use Rattle.dcel_maps.specs.Numbers.{numbers_between}
use Rattle.dcel_maps.specs.Shapes.{Mesh}
use Rattle.dcel_maps.proofs.walks.Numbers.{length-numbers, numbers-next, numbers-none}
use Rattle.dcel_predicates.specs.declared.point.Point.{Point}
use Rattle.dcel_regions.specs.Marked.{IsMarked}
use Rattle.dcel_regions.specs.declared.mark.Mark.{Mark}
use Rattle.dcel_regions.specs.declared.mark.Mark.TheVariants.{Constraint, Free}
use Rattle.dcel_constrained.specs.Sight.{hides, is_marked_by}
use Rattle.mesh_page.proofs.Places.{number_at}

hides_if : (mark : Option Mark) → mark ≡ Some Constraint → is_marked_by mark ≡ true
hides_if mark is = ap is_marked_by is

hides_not : (mark : Option Mark) → ¬ (mark ≡ Some Constraint) → is_marked_by mark ≡ false
hides_not None free = refl
hides_not (Some Constraint) free = absurd (free refl)
hides_not (Some Free) free = refl

module _ {T : Type 0} (p : ℕ → Bool) (f : ℕ → T) (k : ℕ) where
  next : map f (filter p (numbers_between 0 (k + 1))) ≡ map f (filter p (numbers_between 0 k)) ++ map f (filter p (k ∷ []))
  next =
      ap (λ (l : List ℕ). map f (filter p l)) (numbers-next 0 k (omega arith)) ∙ ap (map f) (filter-append p (numbers_between 0 k) (k ∷ []))
      ∙ map-append f (filter p (numbers_between 0 k)) (filter p (k ∷ []))

  one : p k ≡ true → map f (filter p (k ∷ [])) ≡ f k ∷ []
  one is = ap (λ (b : Bool). map f (cond b (k ∷ []) [])) is

  none : p k ≡ false → map f (filter p (k ∷ [])) ≡ []
  none is = ap (λ (b : Bool). map f (cond b (k ∷ []) [])) is

  pub passed : p k ≡ true → map f (filter p (numbers_between 0 (k + 1))) ≡ map f (filter p (numbers_between 0 k)) ++ f k ∷ []
  passed is = next ∙ ap (λ (l : List T). map f (filter p (numbers_between 0 k)) ++ l) (one is)

  pub left_out : p k ≡ false → map f (filter p (numbers_between 0 (k + 1))) ≡ map f (filter p (numbers_between 0 k))
  left_out is = next ∙ ap (λ (l : List T). map f (filter p (numbers_between 0 k)) ++ l) (none is) ∙ append-nil (map f (filter p (numbers_between 0 k)))

-- none at first
pub none_yet : {T : Type 0} (p : ℕ → Bool) (f : ℕ → T) → map f (filter p (numbers_between 0 0)) ≡ []
none_yet p f = ap (λ (l : List ℕ). map f (filter p l)) (numbers-none 0 0 (omega arith))

-- the list of all edges of a mesh that is lent is that of the one behind it
pub listed_of : {DE F : Type 0} (lent m : Mesh Point DE Mark F) → lent ≡ m → (edges : List Ends) → edges ≡ map (ends_of lent.shape) (numbers_between 0 lent.shape.edges)
    → edges ≡ map (ends_of m.shape) (numbers_between 0 m.shape.edges)
listed_of {DE} {F} lent m is edges listed = subst (λ (k : Mesh Point DE Mark F). edges ≡ map (ends_of k.shape) (numbers_between 0 k.shape.edges)) is listed

module _ {DE F : Type 0} (m : Mesh Point DE Mark F) (k : ℕ) where
  pub marked_next : IsMarked m k → map (ends_of m.shape) (filter (hides m) (numbers_between 0 (k + 1)))
      ≡ map (ends_of m.shape) (filter (hides m) (numbers_between 0 k)) ++ ends_of m.shape k ∷ []
  marked_next marked = passed (hides m) (ends_of m.shape) k (hides_if (slice_get m.undirected_data k) marked)

  pub free_next : ¬ IsMarked m k → map (ends_of m.shape) (filter (hides m) (numbers_between 0 (k + 1)))
      ≡ map (ends_of m.shape) (filter (hides m) (numbers_between 0 k))
  free_next free = left_out (hides m) (ends_of m.shape) k (hides_not (slice_get m.undirected_data k) free)

  -- an item of the list of all edges
  pub ends_at : (edges : List Ends) (e : Ends) → edges ≡ map (ends_of m.shape) (numbers_between 0 m.shape.edges) → slice_get edges k ≡ Some e → e ≡ ends_of m.shape k
  ends_at edges e is at =
      let below : k < m.shape.edges =
      let within = slice_get_within edges k e at in
      let long = ap length is ∙ length-map (numbers_between 0 m.shape.edges) (ends_of m.shape) in
      let many = length-numbers 0 m.shape.edges in omega (arith, within, long, many) in
      same_Some e (ends_of m.shape k)
      (sym at ∙ ap (λ (l : List Ends). slice_get l k) is ∙ slice_get-map (ends_of m.shape) (numbers_between 0 m.shape.edges) k
      ∙ ap (option_map (ends_of m.shape)) (number_at m.shape.edges k below))
