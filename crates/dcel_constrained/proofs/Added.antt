-- Edges added that are free: which are marked then, and where marked edges lead.
use Rattle.std.proofs.Common.{◌≡◌, inl, inr, ℕ, ◌*◌, ◌+◌, ◌-◌, ◌/◌, ◌<◌, List, [], ◌∷◌, ◌++◌, length, slice_index_or, Some, sym, ap, ◌∙◌, subst, arith}
use Rattle.std.specs.List.{All, slice_get}
use Rattle.std.proofs.lemmas.Bool.{cases_lt}
use Rattle.std.proofs.lemmas.List.{get_or-append-add, get_or_append_left, length-append}
use Rattle.std.proofs.lemmas.List.Elements.{All-get_or}
use Rattle.std.proofs.lemmas.Option.{get_or_from_slice_get, slice_get-get_or, slice_get_within}
use Rattle.dcel_fixed.specs.HalfEdges.{rev}
use Rattle.dcel_fixed.proofs.Halves.{rev-double, rev-half}
use Rattle.dcel_predicates.specs.declared.point.Point.{Point}
use Rattle.dcel_maps.specs.Removals.{Closed}
use Rattle.dcel_maps.specs.Shapes.{IsLive, IsMesh, Mesh, end_of, origin_of}
use Rattle.dcel_maps.proofs.Liveness.{closed-live}
use Rattle.dcel_plane.specs.Plane.{origin_point, point_at}
use Rattle.dcel_planar.specs.Edges.{KeepsEdgeData, KeepsStarts}
use Rattle.dcel_planar.specs.Growing.{Gains}
use Rattle.dcel_regions.specs.Marked.{IsMarked}
use Rattle.dcel_regions.specs.declared.mark.Mark.{Mark}
use Rattle.dcel_regions.specs.declared.mark.Mark.TheVariants.{Constraint, Free}
use Rattle.dcel_constrained.specs.Constraints.{IsPartOf}
use Rattle.dcel_constrained.specs.Splitting.{SplitsMarked, StaysMarked}
use Rattle.dcel_constrained.proofs.Marking.{marked_below}
use Rattle.dcel_constrained.proofs.Splits.{IsAsWas, constraints_kept}

get_more : (xs ys : List Mark) (u : ℕ) → slice_get xs u ≡ Some Constraint → slice_get (xs ++ ys) u ≡ Some Constraint
get_more xs ys u is =
    let below = slice_get_within xs u Constraint is in
    slice_get-get_or (xs ++ ys) u Constraint (omega (arith, below, length-append xs ys)) ∙ ap Some (get_or_append_left xs ys Constraint u below)
    ∙ sym (slice_get-get_or xs u Constraint below) ∙ is

abbrev mark_in : List Mark → ℕ → Mark
mark_in list i = slice_index_or list i Constraint

get_less : (is_free : Mark → Type 0) → ((x : Mark) → is_free x → x ≡ Free) → (xs ys : List Mark) (u : ℕ) → All is_free ys → slice_get (xs ++ ys) u ≡ Some Constraint
    → slice_get xs u ≡ Some Constraint
get_less is_free free xs ys u all is = elim (cases_lt u (length xs)) [
  | inl below ↦ slice_get-get_or xs u Constraint below ∙ ap Some (sym (get_or_append_left xs ys Constraint u below) ∙ get_or_from_slice_get (xs ++ ys) u Constraint Constraint is)
  | inr past ↦
      let within = slice_get_within (xs ++ ys) u Constraint is in
      let n = u - length xs in
      let here : mark_in ys n ≡ Constraint =
      sym (get_or-append-add xs ys n Constraint) ∙ ap (mark_in (xs ++ ys)) (omega (arith, past)) ∙ get_or_from_slice_get (xs ++ ys) u Constraint Constraint is in
      let not : mark_in ys n ≡ Free = free (mark_in ys n) (All-get_or is_free ys n Constraint (omega (arith, past, within, length-append xs ys)) all) in
      absurd (let both = sym here ∙ not in cc)
]

module _ {DE F : Type 0} (old new : Mesh Point DE Mark F) (is_free : Mark → Type 0) (free : (x : Mark) → is_free x → x ≡ Free) (added : KeepsEdgeData is_free old new) where
  pub marked_later : (u : ℕ) → IsMarked old u → IsMarked new u
  marked_later u marked = subst (λ (l : List Mark). slice_get l u ≡ Some Constraint) (sym added.data_are) (get_more old.undirected_data added.added u marked)

  pub marked_before : (u : ℕ) → IsMarked new u → IsMarked old u
  marked_before u marked =
      get_less is_free free old.undirected_data added.added u added.default (subst (λ (l : List Mark). slice_get l u ≡ Some Constraint) added.data_are marked)

  module _ (mesh : IsMesh old) (mesh_after : IsMesh new) (closed : new.shape.removal ≡ Closed) where
    -- a half edge that was there
    pub half_below : (h : ℕ) → IsMarked old (h / 2) → h < 2 * old.shape.edges
    half_below h marked = (let below = marked_below old mesh (h / 2) marked in omega (arith, below))

    pub marked_live : (h : ℕ) → IsMarked new (h / 2) → IsLive new.shape h
    marked_live h marked = closed-live new.shape closed (h / 2) (marked_below new mesh_after (h / 2) marked)

    -- one that starts and ends where it did
    pub as_was : (h : ℕ) → IsMarked old (h / 2) → origin_of new.shape h ≡ origin_of old.shape h → end_of new.shape h ≡ end_of old.shape h → IsAsWas old new h
    as_was h marked from to =
        let still = marked_later (h / 2) marked in
        record { leads = record { live = marked_live h still; start = from; end = to }; marked = still }

    -- if all marked ones do
    module _ (starts : (h : ℕ) → IsMarked old (h / 2) → origin_of new.shape h ≡ origin_of old.shape h) where
      ends : (h : ℕ) → IsMarked old (h / 2) → end_of new.shape h ≡ end_of old.shape h
      ends h marked = starts (rev h) (subst (IsMarked old) (sym (rev-half h)) marked)

      part_of_itself : (u : ℕ) → IsMarked old u → IsPartOf new (origin_of old.shape (2 * u)) (end_of old.shape (2 * u)) u
      part_of_itself u marked =
          let half : 2 * u / 2 ≡ u = omega arith in
          let is : IsMarked old (2 * u / 2) = subst (IsMarked old) (sym half) marked in
          record { from = inl (starts (2 * u) is); to = inr (inl (ap (origin_of new.shape) (sym (rev-double u)) ∙ ends (2 * u) is)) }

      pub splits_none : ((v : ℕ) → v < old.shape.vertices → point_at new v ≡ point_at old v) → SplitsMarked old new
      splits_none points = record {
        marked = marked_later;
        own = part_of_itself;
        constraints = constraints_kept old new mesh points (λ h live marked. inl (as_was h marked (starts h marked) (ends h marked)));
        parts = λ u marked.
            (let was = marked_before u marked in (2 * u, subst (IsMarked old) (let half : 2 * u / 2 ≡ u = omega arith in sym half) was, part_of_itself u was));
      }

    pub starts_marked : KeepsStarts old new → (h : ℕ) → IsMarked old (h / 2) → origin_of new.shape h ≡ origin_of old.shape h
    starts_marked starts h marked = starts h (half_below h marked)

  -- the same edges are marked
  pub stays_added : IsMesh old → KeepsStarts old new → new.vertex_data ≡ old.vertex_data → StaysMarked old new
  stays_added mesh starts points = record {
    keeps = record {
      marked = marked_later;
      from = λ u marked. starts (2 * u) (let below = marked_below old mesh u marked in omega (arith, below));
      to = λ u marked. starts (2 * u + 1) (let below = marked_below old mesh u marked in omega (arith, below));
    };
    only = marked_before;
    points = points;
  }

module _ {DE F : Type 0} where
  -- vertices of before stand where they stood
  pub points_before : (old new : Mesh Point DE Mark F) (p : Point) (t : ℕ) → IsMesh old → Gains old new p t → (v : ℕ) → v < old.shape.vertices → point_at new v ≡ point_at old v
  points_before old new p t mesh gains v below =
      ap (λ (d : List Point). slice_index_or d v origin_point) gains.points
      ∙ get_or_append_left old.vertex_data (p ∷ []) origin_point v (omega (arith, below, mesh.sized.vertex_data))

  -- and the new one at its point
  pub point_gained : (old new : Mesh Point DE Mark F) (p : Point) (t : ℕ) → IsMesh old → Gains old new p t → point_at new t ≡ p
  point_gained old new p t mesh gains =
      let is : t ≡ length old.vertex_data + 0 = omega (arith, gains.vertex, mesh.sized.vertex_data) in
      ap (λ (d : List Point). slice_index_or d t origin_point) gains.points ∙ ap (λ (i : ℕ). slice_index_or (old.vertex_data ++ p ∷ []) i origin_point) is
      ∙ get_or-append-add old.vertex_data (p ∷ []) 0 origin_point
