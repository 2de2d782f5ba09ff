-- How joining two vertices ends.
use Rattle.std.proofs.Common.{◌≡◌, ◌≢◌, ℕ, ◌<◌, List, [], ◌++◌, inl, inr, refl, sym, ◌∙◌, subst, pos, ◌<ℤ◌, arith}
use Rattle.std.proofs.lemmas.Bool.{cases_eq}
use Rattle.dcel_predicates.specs.declared.point.Point.{Point}
use Rattle.dcel_predicates.proofs.Signs.{ordered}
use Rattle.dcel_fixed.specs.HalfEdges.{rev}
use Rattle.dcel_maps.specs.Shapes.{IsMesh, Mesh, Shape, end_of, map_of}
use Rattle.dcel_maps.specs.Words.{count_of}
use Rattle.dcel_maps.proofs.maps.Soundness.{rev_live}
use Rattle.dcel_maps.proofs.shapes.Maps.{map-sound}
use Rattle.dcel_maps.proofs.words.Counts.{count-append, in_either}
use Rattle.dcel_plane.specs.Plane.{ListsCircled, point_at}
use Rattle.dcel_plane.specs.covering.Covering.{dot}
use Rattle.dcel_plane.proofs.covering.Inside.{apart_end}
use Rattle.dcel_plane.specs.segments.Segments.{Crosses, IsChannel, LeadsAlong, TurnsInto, orient2d_by}
use Rattle.dcel_plane.proofs.segments.Channels.{all_cross}
use Rattle.dcel_constrained.specs.Meeting.{HasCome, IsJoinedAs, ListsStill}
use Rattle.dcel_constrained.specs.declared.segments.join.Joined.{Joined}
use Rattle.dcel_constrained.specs.declared.segments.join.Joined.TheVariants.{Between, Edge}

-- more edges that are due
pub lists_still : (at : ℕ → Point) (s : Shape) (before after lacking : List ℕ) → ListsStill before after → ListsCircled at s (before ++ lacking) → ListsCircled at s (after ++ lacking)
lists_still at s before after lacking kept lists u inner circled = elim (in_either u before lacking (lists u inner circled)) [
  | inl early ↦ (let a = count-append u after lacking in let b = kept u early in omega (arith, a, b))
  | inr late ↦ (let a = count-append u after lacking in omega (arith, a, late))
]

-- a segment that has come to its end has crossed all that it crosses
pub all_crossed : (at : ℕ → Point) (s : Shape) (v w : ℕ) (list due : List ℕ) (y : ℕ) → HasCome at s v w list due y → y ≡ w → IsChannel at s v w list
all_crossed at s v w list due y come is = elim come.there [
  | inl there ↦ there.1
  | inr between ↦ absurd
      (let less = subst (λ (i : ℕ). dot (at v) (at w) (at i) <ℤ pos 0) is between.inside in let zero = apart_end (at v) (at w) in omega (arith, ordered, less, zero))
]

pub each_crosses : (at : ℕ → Point) (s : Shape) (v w : ℕ) (list : List ℕ) → IsChannel at s v w list → (k : ℕ) → 0 < count_of k list → Crosses at s v w k
each_crosses at s v w list channel = all_cross at s v w channel.first channel.last list channel.leads

-- an edge from v to y along the segment
pub along_joins : {DE UE F : Type 0} (m : Mesh Point DE UE F) → IsMesh m → (v w y : ℕ) (joined : Joined) → (k : ℕ) × LeadsAlong (point_at m) m.shape v w k × (end_of m.shape k ≡ y)
    → (y ≡ w → joined ≡ Edge) → (y ≢ w → joined ≡ Between y) → IsJoinedAs m m v w joined
along_joins {DE} {UE} {F} m mesh v w y joined way edge between = elim (cases_eq y w) [
  | inl is ↦
      subst (λ (j : Joined). IsJoinedAs m m v w j) (sym (edge is))
      ((way.0, record { live = way.1.live; start = way.1.from; end = way.2 ∙ is }), ([], still, λ k there. absurd (omega (arith, there))))
  | inr not ↦
      subst (λ (j : Joined). IsJoinedAs m m v w j) (sym (between not)) (
        refl,
        subst (λ (i : ℕ). i < m.shape.vertices) way.2 ((map-sound mesh.sound).below_vertices (rev way.0) (rev_live (map_of m.shape) way.0 way.1.live)),
        record {
          on = subst (λ (i : ℕ). orient2d_by (point_at m) v w i ≡ pos 0) way.2 way.1.on;
          inside = elim way.1.ahead [
            | inl is ↦ absurd (not (sym way.2 ∙ is))
            | inr less ↦ subst (λ (i : ℕ). dot (point_at m v) (point_at m w) (point_at m i) <ℤ pos 0) way.2 less
          ];
        },
      )
]
  where
    still : TurnsInto (point_at m) m m []
    still = record { turned = []; can = tt; is = refl; only = λ u there. absurd (omega (arith, there)) }
