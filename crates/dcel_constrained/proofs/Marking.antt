-- One edge marked, or freed: what is marked then, and that nothing else changes.
use Rattle.std.proofs.Common.{◌≡◌, ◌≢◌, ◌⊎◌, inl, inr, ℕ, zero, suc, ◌+◌, ◌<◌, false, List, [], ◌∷◌, ◌++◌, length, take, get_or, slice_set, Option, None, Some, count_by, refl, sym, ap, ◌∙◌, subst, arith}
use Rattle.std.specs.List.{slice_get}
use Rattle.std.proofs.lemmas.Bool.{cases_eq, cases_lt}
use Rattle.std.proofs.lemmas.List.{get_or-set_other, get_or-set_same, length-set}
use Rattle.std.proofs.lemmas.List.Sums.{count_by_more_no, count_by_more_yes}
use Rattle.std.proofs.lemmas.Option.{get_or_from_slice_get, slice_get-get_or, slice_get_past, slice_get_within}
use Rattle.dcel_predicates.specs.declared.point.Point.{Point}
use Rattle.dcel_maps.specs.edits.Data.{undirected_edge_updated}
use Rattle.dcel_maps.specs.Shapes.{IsMesh, Mesh}
use Rattle.dcel_maps.specs.Words.{count_of}
use Rattle.dcel_maps.proofs.words.Counts.{count-append, count-same}
use Rattle.dcel_regions.specs.Marked.{IsMarked, is_constraint}
use Rattle.dcel_regions.specs.declared.mark.Mark.{Mark}
use Rattle.dcel_regions.specs.declared.mark.Mark.TheVariants.{Constraint, Free}
use Rattle.dcel_constrained.specs.Constraints.{KeepsMarked}
use Rattle.dcel_planar.specs.Leaving.{IsOutlined}
use Rattle.dcel_constrained.specs.Soundness.{IsConstrained, MarksAllBut}

get-set : {X : Type 0} (xs : List X) (e : ℕ) (x : X) → e < length xs → slice_get (slice_set xs e x) e ≡ Some x
get-set xs e x below = slice_get-get_or (slice_set xs e x) e x (omega (arith, length-set xs e x, below)) ∙ ap Some (get_or-set_same xs e x x below)

get-set_other : {X : Type 0} (xs : List X) (e u : ℕ) (x : X) → u ≢ e → slice_get (slice_set xs e x) u ≡ slice_get xs u
get-set_other xs e u x differ = elim (cases_lt u (length xs)) [
  | inl below ↦
      slice_get-get_or (slice_set xs e x) u x (omega (arith, length-set xs e x, below)) ∙ ap Some (get_or-set_other xs e u x x differ)
      ∙ sym (slice_get-get_or xs u x below)
  | inr past ↦ slice_get_past (slice_set xs e x) u (omega (arith, length-set xs e x, past)) ∙ sym (slice_get_past xs u past)
]

module _ {X : Type 0} where
  set-itself : (xs : List X) (e : ℕ) (x : X) → slice_get xs e ≡ Some x → slice_set xs e x ≡ xs
  set-itself [] e x is = refl
  set-itself (y ∷ xs) zero x is = (let same : x ≡ y = cc in ap (λ (z : X). z ∷ xs) same)
  set-itself (y ∷ xs) (suc e) x is = ap (λ (l : List X). y ∷ l) (set-itself xs e x is)

mark_or_not : (o : Option Mark) → (o ≡ Some Constraint) ⊎ (o ≡ Some Constraint → ⊥)
mark_or_not None = inr (λ is. cc)
mark_or_not (Some Free) = inr (λ is. cc)
mark_or_not (Some Constraint) = inl refl

-- the marks are counted one after another
module _ (marks : List Mark) (i : ℕ) (below : i < length marks) where
  pub counts_one : slice_get marks i ≡ Some Constraint → count_by is_constraint (take (i + 1) marks) ≡ count_by is_constraint (take i marks) + 1
  counts_one is = count_by_more_yes is_constraint marks i Constraint below (ap is_constraint (get_or_from_slice_get marks i Constraint Constraint is))

  pub counts_none : (slice_get marks i ≡ Some Constraint → ⊥) → count_by is_constraint (take (i + 1) marks) ≡ count_by is_constraint (take i marks)
  counts_none not = count_by_more_no is_constraint marks i Free below (free (get_or marks i Free) (slice_get-get_or marks i Free below))
    where
      free : (k : Mark) → slice_get marks i ≡ Some k → is_constraint k ≡ false
      free Free is = refl
      free Constraint is = absurd (not is)

module _ {V DE F : Type 0} (m : Mesh V DE Mark F) where
  -- a marked edge has a number
  pub marked_below : IsMesh m → (u : ℕ) → IsMarked m u → u < m.shape.edges
  marked_below mesh u marked = let below = slice_get_within m.undirected_data u Constraint marked in omega (arith, below, mesh.sized.undirected_data)

  module _ (e : ℕ) where
    pub marked_itself : IsMesh m → e < m.shape.edges → IsMarked (undirected_edge_updated m e Constraint) e
    marked_itself mesh below = get-set m.undirected_data e Constraint (omega (arith, below, mesh.sized.undirected_data))

    pub freed_itself : ¬ IsMarked (undirected_edge_updated m e Free) e
    freed_itself marked = elim (cases_lt e (length m.undirected_data)) [
      | inl below ↦ absurd (let is = sym (get-set m.undirected_data e Free below) ∙ marked in cc)
      | inr past ↦
          absurd
          (let is = sym (slice_get_past (slice_set m.undirected_data e Free) e (omega (arith, length-set m.undirected_data e Free, past))) ∙ marked in cc)
    ]

    pub stays_marked : (k : Mark) (u : ℕ) → u ≢ e → IsMarked m u → IsMarked (undirected_edge_updated m e k) u
    stays_marked k u differ marked = get-set_other m.undirected_data e u k differ ∙ marked

    pub was_marked : (k : Mark) (u : ℕ) → u ≢ e → IsMarked (undirected_edge_updated m e k) u → IsMarked m u
    was_marked k u differ marked = sym (get-set_other m.undirected_data e u k differ) ∙ marked

    -- after e is marked
    pub marked_still : IsMesh m → (u : ℕ) → IsMarked m u → IsMarked (undirected_edge_updated m e Constraint) u
    marked_still mesh u marked = elim (cases_eq u e) [
      | inl is ↦
          subst (λ (i : ℕ). IsMarked (undirected_edge_updated m e Constraint) i) (sym is)
          (marked_itself mesh (subst (λ (i : ℕ). i < m.shape.edges) is (marked_below mesh u marked)))
      | inr differ ↦ stays_marked Constraint u differ marked
    ]

    pub marked_now : (u : ℕ) → IsMarked (undirected_edge_updated m e Constraint) u → (u ≡ e) ⊎ IsMarked m u
    marked_now u marked = elim (cases_eq u e) [ inl is ↦ inl is | inr differ ↦ inr (was_marked Constraint u differ marked) ]

    -- where it was marked, nothing changes
    pub marked_again : IsMarked m e → undirected_edge_updated m e Constraint ≡ m
    marked_again marked = ap (λ (d : List Mark). record m { undirected_data = d }) (set-itself m.undirected_data e Constraint marked)

    pub marked_or_not : IsMarked m e ⊎ (¬ IsMarked m e)
    marked_or_not = mark_or_not (slice_get m.undirected_data e)

    -- after e is freed
    pub freed_now : (u : ℕ) → IsMarked (undirected_edge_updated m e Free) u → IsMarked m u
    freed_now u marked = elim (cases_eq u e) [
      | inl is ↦ absurd (freed_itself (subst (λ (i : ℕ). IsMarked (undirected_edge_updated m e Free) i) is marked))
      | inr differ ↦ was_marked Free u differ marked
    ]

module _ {DE F : Type 0} (m : Mesh Point DE Mark F) (e : ℕ) where
  pub outlined_then : (k : Mark) → IsOutlined m → IsOutlined (undirected_edge_updated m e k)
  outlined_then k (inl flat) = inl (record { alone = flat.alone; straight = flat.straight })
  outlined_then k (inr has) = inr (record { inner = has.inner; convex = has.convex; hull = has.hull })

  pub marked_keeps : IsMesh m → KeepsMarked m (undirected_edge_updated m e Constraint)
  marked_keeps mesh = record { marked = marked_still m e mesh; from = λ u marked. refl; to = λ u marked. refl }

  pub constrained_more : (due : List ℕ) → IsMesh m → IsConstrained m due → IsConstrained (undirected_edge_updated m e Constraint) due
  constrained_more due mesh sound = record {
    closed = sound.closed;
    joined = sound.joined;
    triangles = sound.triangles;
    plane = sound.plane;
    listed = λ u inner circled free. sound.listed u inner circled (λ marked. free (marked_still m e mesh u marked));
  }

  pub freed_keeps : MarksAllBut m (undirected_edge_updated m e Free) e
  freed_keeps = record {
    no_other = freed_now m e;
    marked = λ u differ marked. stays_marked m e Free u differ marked;
    from = λ u marked. refl;
    to = λ u marked. refl;
  }

  -- e is to be looked at then
  pub constrained_less : (due : List ℕ) → IsConstrained m due → IsConstrained (undirected_edge_updated m e Free) (due ++ e ∷ [])
  constrained_less due sound = record {
    closed = sound.closed;
    joined = sound.joined;
    triangles = sound.triangles;
    plane = sound.plane;
    listed = λ u inner circled free. elim (cases_eq u e) [
      | inl is ↦ subst (λ (i : ℕ). 0 < count_of i (due ++ e ∷ [])) (sym is) (omega (arith, count-append e due (e ∷ []), count-same e []))
      | inr differ ↦
          let listed = sound.listed u inner circled (λ marked. free (stays_marked m e Free u differ marked)) in
          omega (arith, count-append u due (e ∷ []), listed)
    ];
  }

-- where the same edges are marked afterwards
module _ {DE F : Type 0} (old m new : Mesh Point DE Mark F) (keeps : KeepsMarked m new) (only : (u : ℕ) → IsMarked new u → IsMarked m u) where
  pub all_but_then : (e : ℕ) → MarksAllBut old m e → MarksAllBut old new e
  all_but_then e first = record {
    no_other = λ u marked. first.no_other u (only u marked);
    marked = λ u differ marked. keeps.marked u (first.marked u differ marked);
    from = λ u marked. (let was = only u marked in keeps.from u was ∙ first.from u was);
    to = λ u marked. (let was = only u marked in keeps.to u was ∙ first.to u was);
  }
