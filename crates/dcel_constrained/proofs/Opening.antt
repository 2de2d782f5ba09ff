-- Where a segment begins: along an edge, or in a triangle.
use Rattle.std.proofs.Common.{◌≡◌, ◌≢◌, ◌⊎◌, ◌↔◌, IsTrue, int_lt, Bool, ℕ, ◌<◌, inl, inr, sym, ap, ◌∙◌, subst, ℤ, pos, ◌<ℤ◌, eq-zero-or-pos}
use Rattle.dcel_predicates.specs.declared.point.Point.{Point}
use Rattle.dcel_predicates.proofs.Machine.{in_128}
use Rattle.dcel_maps.specs.Shapes.{IsLive, IsMesh, Mesh, Shape, end_of, face_of, next_of}
use Rattle.dcel_maps.specs.Walking.{IsOutEdge}
use Rattle.dcel_maps.proofs.shapes.Maps.{map-sound}
use Rattle.dcel_plane.specs.covering.Covering.{dot}
use Rattle.dcel_plane.proofs.covering.Inside.{on_start}
use Rattle.dcel_plane.specs.segments.Segments.{AreEnds, BeginsAt, LeadsAlong, OpensAt, TriangulatesItsHull, corner_before, orient2d_by}
use Rattle.dcel_plane.proofs.segments.Starting.{begins_opens, found, opens_begins}
use Rattle.dcel_constrained.specs.Channels.{HasVertices}
use Rattle.dcel_constrained.proofs.Widths.{apart_told}

pub vertices_of : {V DE UE F : Type 0} (m : Mesh V DE UE F) → IsMesh m → (v w : ℕ) → AreEnds m.shape v w → HasVertices m.shape v w
vertices_of m mesh v w ends = record {
  from = subst (λ (i : ℕ). i < m.shape.vertices) ends.from_i ((map-sound mesh.sound).below_vertices ends.i ends.live_i);
  to = subst (λ (i : ℕ). i < m.shape.vertices) ends.from_j ((map-sound mesh.sound).below_vertices ends.j ends.live_j);
}

-- the other half of a live half edge, told through handles
pub live_back : {V DE UE F : Type 0} (m : Mesh V DE UE F) (h : ℕ) (n : Mesh V DE UE F) (k : ℕ) (o : Mesh V DE UE F) (l : ℕ) → IsLive m.shape h → n ≡ m → k ≡ h
    → (IsLive n.shape k → IsLive o.shape l) → IsLive o.shape l
live_back {V} {DE} {UE} {F} m h n k o l live mesh number leads =
    leads (subst (λ (x : Mesh V DE UE F). IsLive x.shape k) (sym mesh) (subst (λ (i : ℕ). IsLive m.shape i) (sym number) live))

-- its end, and whether it lies on the outer face
pub end_told : {V DE UE F : Type 0} (m : Mesh V DE UE F) (h : ℕ) (n : Mesh V DE UE F) (k x y : ℕ) → n ≡ m → k ≡ h → y ≡ end_of n.shape k → x ≡ y → x ≡ end_of m.shape h
end_told {V} {DE} {UE} {F} m h n k x y mesh number end is = is ∙ end ∙ ap (λ (l : Mesh V DE UE F). end_of l.shape k) mesh ∙ ap (end_of m.shape) number

pub outer_back : {V DE UE F : Type 0} (m : Mesh V DE UE F) (h : ℕ) (n : Mesh V DE UE F) (k : ℕ) → n ≡ m → k ≡ h → face_of m.shape h ≡ 0 → face_of n.shape k ≡ 0
outer_back {V} {DE} {UE} {F} m h n k mesh number outer = ap (λ (l : Mesh V DE UE F). face_of l.shape k) mesh ∙ ap (face_of m.shape) number ∙ outer

-- an out edge of v that ends at y, where y is w or lies on the segment's line
module _ (at : ℕ → Point) (s : Shape) (v w h y : ℕ) (out : IsOutEdge s v h) (end : y ≡ end_of s h) where
  pub along_to_end : y ≡ w → LeadsAlong at s v w h
  along_to_end is = record {
    live = out.live;
    from = out.start;
    on = subst (λ (i : ℕ). orient2d_by at v w i ≡ pos 0) (sym is ∙ end) (on_start (at v) (at w));
    ahead = inl (sym end ∙ is);
  }

  pub along_by_sign : (r : ℤ) → y ≢ w → orient2d_by at v w y ≡ pos 0 → r ≡ dot (at v) (at w) (at y) → IsTrue (int_lt (in_128 r) (pos 0)) ↔ LeadsAlong at s v w h
  along_by_sign r other zero is =
      let told = apart_told r (at v) (at w) (at y) is in (
        λ yes. record {
          live = out.live;
          from = out.start;
          on = subst (λ (i : ℕ). orient2d_by at v w i ≡ pos 0) end zero;
          ahead = inr (subst (λ (i : ℕ). dot (at v) (at w) (at i) <ℤ pos 0) end (told.0 yes));
        },
        λ along. told.1 (elim along.ahead [
          | inl last ↦ absurd (other (end ∙ last))
          | inr less ↦ subst (λ (i : ℕ). dot (at v) (at w) (at i) <ℤ pos 0) (sym end) less
        ]),
      )

-- what the signs of two offsets say of the triangle of an out edge
pub opens_by_signs : (at : ℕ → Point) (s : Shape) (v w k x y : ℕ) (right left : ℤ) (b : Bool) → (face_of s k ≡ 0 → ⊥) → x ≡ end_of s k → y ≡ corner_before s k
    → right ≡ orient2d_by at v w x → left ≡ orient2d_by at v w y → IsTrue b ↔ ((right <ℤ pos 0) × (pos 0 <ℤ left)) → IsTrue b ↔ OpensAt at s v w k
opens_by_signs at s v w k x y right left b inner end corner right_is left_is told =
    let on_right : right ≡ orient2d_by at v w (end_of s k) = right_is ∙ ap (orient2d_by at v w) end in
    let on_left : left ≡ orient2d_by at v w (corner_before s k) = left_is ∙ ap (orient2d_by at v w) corner in (
      λ yes. record {
        inner = elim (eq-zero-or-pos (face_of s k)) [
          | inr is ↦ is
          | inl outer ↦ absurd (inner outer)
        ];
        right = subst (λ (z : ℤ). z <ℤ pos 0) on_right (told.0 yes).0;
        left = subst (λ (z : ℤ). pos 0 <ℤ z) on_left (told.0 yes).1;
      },
      λ opens. told.1 (subst (λ (z : ℤ). z <ℤ pos 0) (sym on_right) opens.right, subst (λ (z : ℤ). pos 0 <ℤ z) (sym on_left) opens.left),
    )

-- what a search of the out edges of v looks for
abbrev pub IsBeginning : (ℕ → Point) → Shape → ℕ → ℕ → ℕ → Type 0
IsBeginning at s v w k = LeadsAlong at s v w k ⊎ OpensAt at s v w k

module _ {V DE UE F : Type 0} (m : Mesh V DE UE F) (at : ℕ → Point) (planar : TriangulatesItsHull at m) (v w : ℕ) (differ : v ≢ w) (ends : AreEnds m.shape v w) where
  abbrev s : Shape
  s = m.shape

  pub begins_next : (k own h : ℕ) → IsOutEdge s v k → own ≡ k → OpensAt at s v w own → h ≡ next_of s k → BeginsAt at s v w h
  begins_next k own h out same opens is =
      subst (λ (i : ℕ). BeginsAt at s v w i) (sym is)
      (opens_begins m planar.mesh planar.triangles at planar.plane planar.convex planar.hull v w differ ends k out.live out.start
      (subst (λ (i : ℕ). OpensAt at s v w i) same opens))

  pub some_begins : (h : ℕ) × IsLive s h × (0 < face_of s h) → ((k : ℕ) → IsOutEdge s v k → ¬ IsBeginning at s v w k) → ⊥
  some_begins inner none =
      elim (found m planar.mesh planar.triangles at planar.plane planar.convex planar.hull v w differ ends inner.0 inner.1 inner.2) [
        | inl along ↦ none along.0 (record { live = along.1.live; start = along.1.from }) (inl along.1)
        | inr begins ↦
            let opens = begins_opens m planar.mesh planar.triangles at planar.plane planar.convex planar.hull v w differ ends begins.0 begins.1 in
            none opens.0 (record { live = opens.1; start = opens.2 }) (inr opens.3)
      ]
