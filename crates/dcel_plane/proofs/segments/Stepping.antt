-- One step of the flips that make a segment an edge: a peak of the list is flipped, and what still crosses the segment stays in its place.
use Rattle.std.proofs.Common.{◌≡◌, ◌⊎◌, inl, inr, ℕ, ◌/◌, ◌<◌, List, [], ◌∷◌, ◌++◌, refl, sym, ◌∙◌, subst, ◌<ℤ◌, arith}
use Rattle.std.proofs.lemmas.Bool.{cases_eq}
use Rattle.dcel_fixed.specs.HalfEdges.{rev}
use Rattle.dcel_predicates.specs.declared.point.Point.{Point}
use Rattle.dcel_predicates.proofs.Signs.{ordered}
use Rattle.dcel_maps.specs.edits.Flip.{edge_flipped}
use Rattle.dcel_fixed.proofs.Halves.{rev-rev}
use Rattle.dcel_maps.specs.Shapes.{Mesh, Shape, face_of, map_of}
use Rattle.dcel_maps.proofs.maps.Soundness.{rev_live}
use Rattle.dcel_maps.specs.Words.{count_of}
use Rattle.dcel_maps.proofs.words.Counts.{count-append, count-same}
use Rattle.dcel_plane.specs.Plane.{ListsCircled}
use Rattle.dcel_plane.specs.removal.Wheels.{CanFlipInPlane}
use Rattle.dcel_plane.specs.segments.Segments.{AreEnds, BecomesCrossing, CanTurnEach, Crosses, HasSides, HasSidesOf, IsChannel, IsPeak, NarrowerBefore, NotWiderAfter, TriangulatesItsHull, flipped_each, widths}
use Rattle.dcel_plane.proofs.segments.Becoming.{in_old, kinds, turned_planar}
use Rattle.dcel_plane.proofs.segments.Channels.{all_cross, flip_keeps_channel}
use Rattle.dcel_plane.proofs.segments.Gates.{far, near, peak_can_turn}
use Rattle.dcel_plane.proofs.segments.Peaks.{ends_of, is_peak}
use Rattle.dcel_plane.proofs.segments.Sides.{lists_stay, sides_stay}

-- what is left of one that was flipped is one thing
one_only : (at : ℕ → Point) (s : Shape) (v w h : ℕ) (new other : List ℕ) → BecomesCrossing at s v w h new → BecomesCrossing at s v w h other → new ≡ other
one_only at s v w h new other (inl a) (inl b) = a.2 ∙ sym b.2
one_only at s v w h new other (inl a) (inr (inl b)) = absurd (let p = a.0 in let q = b.0 in omega (arith, ordered, p, q))
one_only at s v w h new other (inl a) (inr (inr b)) = absurd (b.0 a.0 a.1)
one_only at s v w h new other (inr (inl a)) (inl b) = absurd (let p = b.0 in let q = a.0 in omega (arith, ordered, p, q))
one_only at s v w h new other (inr (inl a)) (inr (inl b)) = a.2 ∙ sym b.2
one_only at s v w h new other (inr (inl a)) (inr (inr b)) = absurd (b.1 a.0 a.1)
one_only at s v w h new other (inr (inr a)) (inl b) = absurd (a.0 b.0 b.1)
one_only at s v w h new other (inr (inr a)) (inr (inl b)) = absurd (a.1 b.0 b.1)
one_only at s v w h new other (inr (inr a)) (inr (inr b)) = a.2 ∙ sym b.2

-- two half edges of one edge
same_halves : (j k : ℕ) → j / 2 ≡ k / 2 → (k ≡ j) ⊎ (k ≡ rev j)
unfolding rev
same_halves j k same = elim (cases_eq k j) [ inl is ↦ inl is | inr not ↦ inr (omega (arith, same, not)) ]

-- flips put after others
pub flipped-append : {V DE UE F : Type 0} (m : Mesh V DE UE F) (us : List ℕ) (u : ℕ) → flipped_each m (us ++ (u ∷ [])) ≡ edge_flipped (flipped_each m us) u
flipped-append m [] u = refl
flipped-append m (x ∷ us) u = flipped-append (edge_flipped m x) us u

pub turns-append : {V DE UE F : Type 0} (at : ℕ → Point) (m : Mesh V DE UE F) (us : List ℕ) (u : ℕ) → CanTurnEach at m us → CanFlipInPlane at (flipped_each m us).shape u
    → CanTurnEach at m (us ++ (u ∷ []))
turns-append at m [] u can one = (one, tt)
turns-append at m (x ∷ us) u can one = (can.0, turns-append at (edge_flipped m x) us u can.1 one)

module _ {V DE UE F : Type 0} (at : ℕ → Point) (m : Mesh V DE UE F) (planar : TriangulatesItsHull at m) (v w : ℕ) (front : List ℕ) (h : ℕ) (back : List ℕ)
    (channel : IsChannel at m.shape v w (front ++ (h ∷ back))) (before : NarrowerBefore at m.shape v w front h) (after : NotWiderAfter at m.shape v w h back) where
  abbrev list : List ℕ
  list = front ++ (h ∷ back)

  ends : AreEnds m.shape v w
  ends = ends_of at m.shape v w list channel

  in_list : 0 < count_of h list
  in_list = (let c = count-append h front (h ∷ back) in let d = count-same h back in omega (arith, c, d))

  crosses : Crosses at m.shape v w h
  crosses = all_cross at m.shape v w channel.first channel.last list channel.leads h in_list

  peak : IsPeak at m.shape v w h
  peak = is_peak m planar.mesh planar.triangles at planar.plane planar.convex v w ends front h back channel before after

  pub can_turn : CanFlipInPlane at m.shape (h / 2)
  can_turn = peak_can_turn m planar.mesh planar.triangles at planar.plane planar.convex v w ends h crosses peak

  pub planar_still : TriangulatesItsHull at (edge_flipped m (h / 2))
  planar_still = turned_planar at m (h / 2) planar can_turn

  module _ (new : List ℕ) (becomes : BecomesCrossing at m.shape v w h new) where
    abbrev n : Mesh V DE UE F
    n = edge_flipped m (h / 2)

    pub record IsStep : Type 0 where
      pub channel_left : IsChannel at n.shape v w (front ++ (new ++ back))
      pub narrower : widths at n.shape v w (front ++ (new ++ back)) <ℤ widths at m.shape v w list

    pub step : IsStep
    step =
        let left = flip_keeps_channel m planar.mesh planar.triangles at planar.plane planar.convex v w ends h crosses peak front back channel in
        let same = one_only at m.shape v w h left.new new left.becomes becomes in
        record {
          channel_left = subst (λ (l : List ℕ). IsChannel at n.shape v w (front ++ (l ++ back))) same left.channel;
          narrower = subst (λ (l : List ℕ). widths at n.shape v w (front ++ (l ++ back)) <ℤ widths at m.shape v w list) same left.narrower;
        }

    -- each that is left is of an edge that was in the list
    pub old_edge : (k : ℕ) → 0 < count_of k (front ++ (new ++ back)) → (j : ℕ) × (0 < count_of j list) × (j / 2 ≡ k / 2)
    old_edge = in_old h front new back list refl (kinds at m.shape v w h new becomes)

    -- a list that has all sides of the faces crossed has them still
    module _ (due : List ℕ) (sides : HasSidesOf due m.shape list) where
      own : (j : ℕ) → 0 < count_of j list → Crosses at m.shape v w j
      own = all_cross at m.shape v w channel.first channel.last list channel.leads

      pub sides_left : HasSidesOf due n.shape (front ++ (new ++ back))
      sides_left k found =
          let old = old_edge k found in
          let near_h = near m planar.mesh planar.triangles at planar.plane planar.convex v w ends h crosses in
          let far_h = far m planar.mesh planar.triangles at planar.plane planar.convex v w ends h crosses in
          let has = sides h in_list in
          let stay = sides_stay m planar.mesh h can_turn.can near_h far_h due has.0 has.1 in
          let old_sides = sides old.0 old.1 in
          let c = own old.0 old.1 in
          let live_back = rev_live (map_of m.shape) old.0 c.live in
          let first = stay old.0 c.live old_sides.0 in
          let second = stay (rev old.0) live_back old_sides.1 in
          elim (same_halves old.0 k old.2) [
            | inl is ↦ subst (λ (i : ℕ). HasSides due n.shape (face_of n.shape i) × HasSides due n.shape (face_of n.shape (rev i))) (sym is) (first, second)
            | inr is ↦ subst (λ (i : ℕ). HasSides due n.shape (face_of n.shape i) × HasSides due n.shape (face_of n.shape (rev i))) (sym is) (
              second,
              subst (λ (i : ℕ). HasSides due n.shape (face_of n.shape i)) (sym (rev-rev old.0)) first,
            )
          ]

      pub lists_left : (lacking : List ℕ) → ListsCircled at m.shape (due ++ lacking) → ListsCircled at n.shape (due ++ lacking)
      lists_left lacking =
          let near_h = near m planar.mesh planar.triangles at planar.plane planar.convex v w ends h crosses in
          let far_h = far m planar.mesh planar.triangles at planar.plane planar.convex v w ends h crosses in
          let has = sides h in_list in
          lists_stay m planar.mesh h can_turn.can near_h far_h due has.0 has.1 at lacking
