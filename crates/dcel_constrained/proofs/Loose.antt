-- Edges turned, or added, beside constraints: which are marked then, and where marked edges lead.
use Rattle.std.proofs.Common.{◌≡◌, ◌∙◌, inl, inr, ℕ, ◌*◌, ◌+◌, true, List, [], ◌∷◌, Option, Some, None, refl, sym, ap, subst, arith}
use Rattle.std.specs.List.{slice_get}
use Rattle.std.specs.Option.{option_map}
use Rattle.std.proofs.lemmas.Bool.{cases_lt}
use Rattle.dcel_predicates.specs.declared.point.Point.{Point}
use Rattle.dcel_legalize.specs.Flipping.{edges_flipped}
use Rattle.dcel_maps.specs.edits.Flip.{edge_flipped}
use Rattle.dcel_maps.specs.Shapes.{Mesh, origin_of}
use Rattle.dcel_maps.specs.Words.{count_of}
use Rattle.dcel_planar.specs.Growing.{Keeps}
use Rattle.dcel_planar.specs.Legalization.{HasToStay, ListsLoose, TurnsLoose}
use Rattle.dcel_planar.proofs.Staying.{flips_data}
use Rattle.dcel_regions.specs.declared.mark.Mark.{Mark}
use Rattle.dcel_regions.specs.declared.mark.Mark.TheVariants.{Constraint, Free}
use Rattle.dcel_regions.specs.Marked.{IsMarked}
use Rattle.dcel_regions.specs.Marked.{is_constraint}
use Rattle.dcel_planar.specs.Turning.{AreCircled}
use Rattle.dcel_plane.specs.Plane.{point_at}
use Rattle.dcel_plane.specs.segments.Segments.{CanTurnEach, TriangulatesItsHull, flipped_each}
use Rattle.dcel_plane.proofs.segments.Becoming.{turned_planar}
use Rattle.dcel_constrained.specs.Constraints.{ListsFree, TurnsFree}
use Rattle.dcel_plane.proofs.segments.Wholly.{circled_can_turn}
use Rattle.dcel_constrained.proofs.Free.{even_stays, odd_stays}
use Rattle.dcel_constrained.specs.Splitting.{StaysMarked}

of_map : (o : Option Mark) → option_map is_constraint o ≡ Some true → o ≡ Some Constraint
of_map None is = absurd (cc)
of_map (Some Constraint) is = refl
of_map (Some Free) is = absurd (cc)

module _ {DE F : Type 0} where
  pub to_stay : (m : Mesh Point DE Mark F) (u : ℕ) → IsMarked m u → HasToStay is_constraint m u
  to_stay m u marked = ap (option_map is_constraint) marked

  pub of_stay : (m : Mesh Point DE Mark F) (u : ℕ) → HasToStay is_constraint m u → IsMarked m u
  of_stay m u stay = of_map (slice_get m.undirected_data u) stay

  same_flips : (m : Mesh Point DE Mark F) (us : List ℕ) → edges_flipped m us ≡ flipped_each m us
  same_flips m [] = refl
  same_flips m (u ∷ us) = same_flips (edge_flipped m u) us

  module _ (old new : Mesh Point DE Mark F) (turns : TurnsLoose is_constraint old new) where
    flips : new ≡ flipped_each old turns.turned
    flips = turns.is ∙ same_flips old turns.turned

    unlisted : (u : ℕ) → IsMarked old u → count_of u turns.turned ≡ 0
    unlisted u marked = elim (cases_lt 0 (count_of u turns.turned)) [
      | inl there ↦ absurd (turns.loose u there (to_stay old u marked))
      | inr none ↦ omega (arith, none)
    ]

    marks : new.undirected_data ≡ old.undirected_data
    marks = ap (λ (m : Mesh Point DE Mark F). m.undirected_data) turns.is ∙ flips_data is_constraint old turns.turned

    -- turned edges leave the marked ones
    pub turns_stays : Keeps old new → StaysMarked old new
    turns_stays keeps = record {
      keeps = record {
        marked = λ u marked. subst (λ (d : List Mark). slice_get d u ≡ Some Constraint) (sym marks) marked;
        from = λ u marked. ap (λ (m : Mesh Point DE Mark F). origin_of m.shape (2 * u)) flips ∙ even_stays old turns.turned u (unlisted u marked);
        to = λ u marked. ap (λ (m : Mesh Point DE Mark F). origin_of m.shape (2 * u + 1)) flips ∙ odd_stays old turns.turned u (unlisted u marked);
      };
      only = λ u marked. subst (λ (d : List Mark). slice_get d u ≡ Some Constraint) marks marked;
      points = keeps.points;
    }

module _ {DE F : Type 0} (m : Mesh Point DE Mark F) (list : List ℕ) where
  -- the edges that are to be looked at, by their marks
  pub to_loose : ListsFree m list → ListsLoose is_constraint m list
  to_loose lists u is = lists u is.inner is.circled (λ marked. is.loose (to_stay m u marked))

  pub of_loose : ListsLoose is_constraint m list → ListsFree m list
  of_loose lists u inner circled free = lists u record { inner = inner; circled = circled; loose = λ stay. free (of_stay m u stay) }

module _ {DE F : Type 0} where
  -- edges that the circle test turns can be turned, one after another
  can_each : (m : Mesh Point DE Mark F) (us : List ℕ) → TriangulatesItsHull (point_at m) m → AreCircled m us → CanTurnEach (point_at m) m us
  can_each m [] planar are = tt
  can_each m (u ∷ us) planar are =
      let turn = circled_can_turn (point_at m) m u planar.mesh planar.plane are.0.0 are.0.1 in
      (turn, can_each (edge_flipped m u) us (turned_planar (point_at m) m u planar turn) are.1)

  pub turns_free : (m n : Mesh Point DE Mark F) → TriangulatesItsHull (point_at m) m → TurnsLoose is_constraint m n → TurnsFree m n
  turns_free m n planar turns = record {
    turned = turns.turned;
    can = can_each m turns.turned planar turns.circled;
    is = turns.is ∙ same_flips m turns.turned;
    free = λ u there marked. turns.loose u there (to_stay m u marked);
  }
