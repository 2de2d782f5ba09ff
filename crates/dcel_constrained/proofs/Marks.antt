-- The marked edges as a list: what is due with them is what is due without marks.
use Rattle.std.proofs.Common.{inl, inr, ℕ, ◌<◌, List, [], ◌++◌, append-nil, append_assoc, map, sym, ap, subst}
use Rattle.dcel_predicates.specs.declared.point.Point.{Point}
use Rattle.dcel_maps.specs.Shapes.{Mesh}
use Rattle.dcel_maps.specs.Words.{count_of}
use Rattle.dcel_maps.proofs.words.Counts.{in_either}
use Rattle.dcel_plane.specs.Plane.{ListsCircled, point_at}
use Rattle.dcel_planar.proofs.Staying.{listed_stays, places_from, staying, to_circled as every_circled}
use Rattle.dcel_regions.specs.Marked.{IsMarked, is_constraint}
use Rattle.dcel_regions.specs.declared.mark.Mark.{Mark}
use Rattle.dcel_constrained.specs.Constraints.{ListsFree, TurnsFree}
use Rattle.dcel_constrained.proofs.Free.{free_kept}
use Rattle.dcel_constrained.proofs.Loose.{of_stay, to_loose}

module _ {DE F : Type 0} where
  abbrev pub marked_edges : Mesh Point DE Mark F → List ℕ
  marked_edges m = staying is_constraint m

  pub listed_marked : (m : Mesh Point DE Mark F) (u : ℕ) → 0 < count_of u (marked_edges m) → IsMarked m u
  listed_marked m u there = of_stay m u (listed_stays is_constraint m u there)

  -- a list of the free edges that break the condition, and the marked ones: all that break it
  pub to_circled : (m : Mesh Point DE Mark F) (due : List ℕ) → ListsFree m due → ListsCircled (point_at m) m.shape (due ++ marked_edges m)
  to_circled m due lists = every_circled is_constraint m due (to_loose m due lists)

  pub from_circled : (m : Mesh Point DE Mark F) (due : List ℕ) → ListsCircled (point_at m) m.shape (due ++ marked_edges m) → ListsFree m due
  from_circled m due lists u inner circled free = elim (in_either u due (marked_edges m) (lists u inner circled)) [
    | inl there ↦ there
    | inr marked ↦ absurd (free (listed_marked m u marked))
  ]

  -- flips of free edges that list what they make due
  module _ (old new : Mesh Point DE Mark F) (due : List ℕ)
      (lists : (lacking : List ℕ) → ListsCircled (point_at old) old.shape lacking → ListsCircled (point_at new) new.shape (due ++ lacking)) (turns : TurnsFree old new) where
    pub joined_with : (before : List ℕ) → ListsFree old before → ListsFree new (due ++ before)
    joined_with before whole =
        from_circled new (due ++ before)
        (subst (λ (l : List ℕ). ListsCircled (point_at new) new.shape ((due ++ before) ++ l)) (ap (λ (d : List Mark). places_from 0 (map is_constraint d)) (sym (free_kept old new turns).marks))
        (subst (λ (l : List ℕ). ListsCircled (point_at new) new.shape l) (sym (append_assoc due before (marked_edges old)))
        (lists (before ++ marked_edges old) (to_circled old before whole))))

    pub joined_lists : ListsFree old [] → ListsFree new due
    joined_lists whole = subst (λ (l : List ℕ). ListsFree new l) (append-nil due) (joined_with [] whole)
