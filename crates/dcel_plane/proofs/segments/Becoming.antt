-- A segment between two vertices becomes an edge, by flips of the edges that it crosses.
use Rattle.std.proofs.Common.{◌≡◌, ◌≢◌, inl, inr, ℕ, zero, suc, ◌+◌, ◌/◌, ◌<◌, List, [], ◌∷◌, ◌++◌, append-nil, append_assoc, eq-zero-or-pos, refl, sym, ap, ◌∙◌, subst, ℤ, pos, negsuc, ◌<ℤ◌, ◌≤ℤ◌, unsigned_abs, arith}
use Rattle.std.proofs.lemmas.Bool.{cases_eq}
use Rattle.dcel_fixed.specs.HalfEdges.{rev}
use Rattle.dcel_fixed.proofs.Halves.{rev-half}
use Rattle.dcel_predicates.specs.declared.point.Point.{Point}
use Rattle.dcel_predicates.proofs.Signs.{ordered}
use Rattle.dcel_maps.specs.edits.Flip.{edge_flipped}
use Rattle.dcel_maps.specs.Shapes.{Mesh, Shape}
use Rattle.dcel_maps.proofs.Triangulations.{flipped}
use Rattle.dcel_maps.proofs.words.Counts.{count-append, count-other, count-same}
use Rattle.dcel_maps.specs.Words.{count_of}
use Rattle.dcel_plane.specs.Edges.{edges_of_flip}
use Rattle.dcel_plane.specs.Plane.{ListsCircled}
use Rattle.dcel_plane.proofs.edits.Flipped.{flip_lists}
use Rattle.dcel_maps.proofs.edits.Flips.{flipped_mesh}
use Rattle.dcel_plane.specs.segments.Segments.{BecomesCrossing, CanTurnEach, IsChannel, TriangulatesItsHull, flipped_each, touched, widths}
use Rattle.dcel_plane.specs.removal.Wheels.{CanFlipInPlane}
use Rattle.dcel_plane.proofs.segments.Channels.{all_cross, flip_keeps_channel}
use Rattle.dcel_plane.proofs.segments.Gates.{peak_can_turn}
use Rattle.dcel_plane.proofs.hull.Keeping.{flip_keeps_convex, flip_keeps_hull}
use Rattle.dcel_plane.proofs.segments.Peaks.{HasPeak, Joins, empty_joins, ends_of, has_peak, more_width}
use Rattle.dcel_plane.proofs.removal.Turnable.{turn_keeps_plane}
use Rattle.dcel_plane.proofs.hull.Becomes.{of_one}

within_abs : (z : ℤ) → z ≤ℤ pos (unsigned_abs z)
within_abs (pos n) = (let e : unsigned_abs (pos n) ≡ n = refl in omega (arith, ordered, e))
within_abs (negsuc n) = (let e : unsigned_abs (negsuc n) ≡ suc n = refl in omega (arith, ordered, e))

-- what stands in its place is a half of its edge
pub kinds : (at : ℕ → Point) (s : Shape) (v w h : ℕ) (new : List ℕ) → BecomesCrossing at s v w h new → (k : ℕ) → 0 < count_of k new → k / 2 ≡ h / 2
kinds at s v w h new (inl again) k there = ap (λ (i : ℕ). i / 2) (of_one k h (subst (λ (l : List ℕ). 0 < count_of k l) again.2 there))
kinds at s v w h new (inr (inl turned)) k there =
    ap (λ (i : ℕ). i / 2) (of_one k (rev h) (subst (λ (l : List ℕ). 0 < count_of k l) turned.2 there)) ∙ rev-half h
kinds at s v w h new (inr (inr gone)) k there = absurd (let e = subst (λ (l : List ℕ). 0 < count_of k l) gone.2 there in omega (arith, e))

-- what stands in the new list stood in the old one, or is a half of the edge
pub in_old : (top : ℕ) (front new back old : List ℕ) → old ≡ front ++ (top ∷ back) → ((k : ℕ) → 0 < count_of k new → k / 2 ≡ top / 2)
    → (k : ℕ) → 0 < count_of k (front ++ (new ++ back)) → (j : ℕ) × (0 < count_of j old) × (j / 2 ≡ k / 2)
in_old top front new back old parts halves k there =
    let a = count-append k front (new ++ back) in
    let b = count-append k new back in
    let c = count-append k front (top ∷ back) in
    let d = count-append k (top ∷ []) back in
    elim (eq-zero-or-pos (count_of k front + count_of k back)) [
      | inr some ↦ (k, subst (λ (l : List ℕ). 0 < count_of k l) (sym parts) (omega (arith, c, d, some)), refl)
      | inl none ↦ (
        top,
        subst (λ (l : List ℕ). 0 < count_of top l) (sym parts) (let e = count-append top front (top ∷ back) in let f = count-same top back in omega (arith, e, f)),
        sym (halves k (omega (arith, a, b, there, none))),
      )
    ]

pub turned_planar : {V DE UE F : Type 0} (at : ℕ → Point) (m : Mesh V DE UE F) (u : ℕ) → TriangulatesItsHull at m → CanFlipInPlane at m.shape u → TriangulatesItsHull at (edge_flipped m u)
turned_planar at m u whole turn = record {
  mesh = flipped_mesh m u whole.mesh turn.can;
  triangles = flipped m whole.triangles u;
  plane = turn_keeps_plane m whole.mesh at u turn whole.plane;
  convex = flip_keeps_convex m whole.mesh u turn.can at turn.inner turn.inner_facing whole.convex;
  hull = flip_keeps_hull m whole.mesh u turn.can at turn.inner turn.inner_facing whole.hull;
}

-- the flips after which the segment is an edge
pub record IsMade {V DE UE F : Type 0} (at : ℕ → Point) (m : Mesh V DE UE F) (v w : ℕ) (crossed : List ℕ) : Type 0 where
  pub edges : List ℕ
  pub can : CanTurnEach at m edges
  pub only : (u : ℕ) → 0 < count_of u edges → (h : ℕ) × (0 < count_of h crossed) × (h / 2 ≡ u)
  pub lists : (due : List ℕ) → ListsCircled at m.shape due → ListsCircled at (flipped_each m edges).shape (due ++ touched m edges)
  pub whole : TriangulatesItsHull at (flipped_each m edges)
  pub joins : Joins (flipped_each m edges) whole.mesh whole.triangles v w

module _ (V DE UE F : Type 0) (at : ℕ → Point) (v w : ℕ) (differ : v ≢ w) where
  abbrev Makes : ℕ → Type 0
  Makes n = (m : Mesh V DE UE F) → TriangulatesItsHull at m → (list : List ℕ) → IsChannel at m.shape v w list → widths at m.shape v w list ≤ℤ pos n → IsMade at m v w list

  -- one flip
  module _ (m : Mesh V DE UE F) (whole : TriangulatesItsHull at m) (h : ℕ) (rest : List ℕ) (channel : IsChannel at m.shape v w (h ∷ rest)) where
    found : HasPeak m whole.mesh whole.triangles at whole.plane whole.convex v w (ends_of at m.shape v w (h ∷ rest) channel) (h ∷ rest)
    found = has_peak m whole.mesh whole.triangles at whole.plane whole.convex v w (ends_of at m.shape v w (h ∷ rest) channel) h rest channel

    record IsStep : Type 0 where
      u : ℕ
      can : CanFlipInPlane at m.shape u
      next : TriangulatesItsHull at (edge_flipped m u)
      list : List ℕ
      again : IsChannel at (edge_flipped m u).shape v w list
      narrower : widths at (edge_flipped m u).shape v w list <ℤ widths at m.shape v w (h ∷ rest)
      among : (k : ℕ) → 0 < count_of k list → (j : ℕ) × (0 < count_of j (h ∷ rest)) × (j / 2 ≡ k / 2)
      itself : (j : ℕ) × (0 < count_of j (h ∷ rest)) × (j / 2 ≡ u)

    step : IsStep
    step =
        let top = found.top in
        let parted : IsChannel at m.shape v w (found.front ++ (found.top ∷ found.back)) = subst (λ (l : List ℕ). IsChannel at m.shape v w l) found.parts channel in
        let crosses = all_cross at m.shape v w parted.first parted.last (found.front ++ (found.top ∷ found.back)) parted.leads found.top
        (let c = count-append found.top found.front (found.top ∷ found.back) in let d = count-same found.top found.back in omega (arith, c, d)) in
        let ends = ends_of at m.shape v w (h ∷ rest) channel in
        let turn = peak_can_turn m whole.mesh whole.triangles at whole.plane whole.convex v w ends found.top crosses found.peak in
        let left = flip_keeps_channel m whole.mesh whole.triangles at whole.plane whole.convex v w ends found.top crosses found.peak found.front found.back parted in
        record {
          u = found.top / 2;
          can = turn;
          next = turned_planar at m (found.top / 2) whole turn;
          list = found.front ++ (left.new ++ found.back);
          again = left.channel;
          narrower =
              subst (λ (l : List ℕ). widths at (edge_flipped m (found.top / 2)).shape v w (found.front ++ (left.new ++ found.back)) <ℤ widths at m.shape v w l) (sym found.parts)
              left.narrower;
          among = λ k there. in_old found.top found.front left.new found.back (h ∷ rest) found.parts (kinds at m.shape v w found.top left.new left.becomes) k there;
          itself = (
            found.top,
            subst (λ (l : List ℕ). 0 < count_of found.top l) (sym found.parts)
                (let c = count-append found.top found.front (found.top ∷ found.back) in let d = count-same found.top found.back in omega (arith, c, d)),
            refl,
          );
        }

  makes : (n : ℕ) → Makes n
  makes n m whole [] channel less = record {
    edges = [];
    can = tt;
    only = λ u there. absurd (omega (arith, there));
    lists = λ due circled. subst (λ (l : List ℕ). ListsCircled at m.shape l) (sym (append-nil due)) circled;
    whole = whole;
    joins = empty_joins m whole.mesh whole.triangles at v w differ channel;
  }
  makes zero m whole (h ∷ rest) channel less =
      absurd (let a = more_width at m.shape v w channel.first channel.last h rest channel.leads in omega (arith, ordered, a, less))
  makes (suc n) m whole (h ∷ rest) channel less =
      let one = step m whole h rest channel in
      let made = makes n (edge_flipped m one.u) one.next one.list one.again (let a = one.narrower in omega (arith, ordered, a, less)) in
      record {
        edges = one.u ∷ made.edges;
        can = (one.can, made.can);
        only = λ k there. elim (cases_eq k one.u) [
          | inl is ↦ (one.itself.0, one.itself.1, one.itself.2 ∙ sym is)
          | inr not ↦
              let later = made.only k (let c = count-other k one.u made.edges not in omega (arith, c, there)) in
              let old = one.among later.0 later.1 in
              (old.0, old.1, old.2 ∙ later.2)
        ];
        lists = λ due circled.
            subst (λ (l : List ℕ). ListsCircled at (flipped_each (edge_flipped m one.u) made.edges).shape l)
            (append_assoc due (edges_of_flip m.shape one.u) (touched (edge_flipped m one.u) made.edges))
            (made.lists (due ++ edges_of_flip m.shape one.u) (flip_lists m whole.mesh one.u one.can.can at due circled));
        whole = made.whole;
        joins = made.joins;
      }

  pub made : (m : Mesh V DE UE F) → TriangulatesItsHull at m → (list : List ℕ) → IsChannel at m.shape v w list → IsMade at m v w list
  made m whole list channel = makes (unsigned_abs (widths at m.shape v w list)) m whole list channel (within_abs (widths at m.shape v w list))

pub made_of : {V DE UE F : Type 0} (at : ℕ → Point) (v w : ℕ) → v ≢ w → (m : Mesh V DE UE F) → TriangulatesItsHull at m → (list : List ℕ) → IsChannel at m.shape v w list → IsMade at m v w list
made_of {V} {DE} {UE} {F} at v w differ m whole list channel = made V DE UE F at v w differ m whole list channel
