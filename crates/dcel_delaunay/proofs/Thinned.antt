-- An edge of a vertex flipped between two triangles that turn left: what it keeps, and that the vertex has one edge less.
use Rattle.std.proofs.Common.{◌≡◌, ◌≢◌, ◌⊎◌, inl, inr, ℕ, ◌+◌, ◌*◌, ◌/◌, ◌<◌, Bool, IsTrue, ◌↔◌, List, [], ◌∷◌, ◌++◌, length, map, slice_set, true, refl, sym, ap, ◌∙◌, subst, eq-zero-or-pos, arith}
use Rattle.std.proofs.lemmas.Bool.{cases_eq, cases_lt}
use Rattle.std.proofs.lemmas.List.{length-set}
use Rattle.dcel_fixed.proofs.Halves.{rev-double}
use Rattle.dcel_maps.specs.Conditions.{CanFlip}
use Rattle.dcel_maps.specs.edits.Flip.{edge_flipped}
use Rattle.dcel_maps.specs.Shapes.{IsLive, IsMesh, Mesh, Shape, edge_is_live, face_count, face_of, origin_of, prev_of}
use Rattle.dcel_maps.specs.Sides.{IsOnHull}
use Rattle.dcel_maps.specs.Triangulations.{AllTriangles}
use Rattle.dcel_maps.specs.Walking.{IsOutEdge, ListsOnce, out_edges_of}
use Rattle.dcel_maps.specs.Words.{count_of}
use Rattle.dcel_maps.proofs.edits.Around.{at_edge}
use Rattle.dcel_maps.proofs.edits.Flips.{at_flip, flipped_mesh}
use Rattle.dcel_maps.proofs.Liveness.{even_live, odd_live}
use Rattle.dcel_maps.proofs.Triangulations.{flipped}
use Rattle.dcel_maps.proofs.walks.Turning.{mesh-out_edges}
use Rattle.dcel_maps.proofs.words.Counts.{count-append, count-equal, first_or_later}
use Rattle.dcel_maps.proofs.words.EachSet.{other-two_set}
use Rattle.dcel_maps.proofs.words.Mapped.{count-mapped, mapped_from}
use Rattle.dcel_predicates.specs.declared.point.Point.{Point}
use Rattle.dcel_predicates.proofs.Points.{orient2d-turned}
use Rattle.dcel_predicates.proofs.Signs.{ordered}
use Rattle.dcel_legalize.specs.Flipping.{sides_beside}
use Rattle.dcel_plane.specs.Plane.{TurnsLeft, point_at}
use Rattle.dcel_plane.proofs.covering.Inside.{on_start}
use Rattle.dcel_plane.proofs.covering.Triangles.{is_triangle}
use Rattle.dcel_plane.proofs.hull.Keeping.{flip_keeps_convex, flip_keeps_hull}
use Rattle.dcel_plane.specs.removal.Wheels.{CanFlipInPlane}
use Rattle.dcel_plane.proofs.removal.Fewer.{flip_keeps_inner, flip_takes_one}
use Rattle.dcel_plane.proofs.removal.FlippedInside.{outer_start, outer_stays}
use Rattle.dcel_plane.proofs.removal.Turnable.{turn_keeps_plane}
use Rattle.dcel_planar.specs.Corners.{StartsOutside}
use Rattle.dcel_planar.specs.Growing.{HasHull, IsTriangleMesh}
use Rattle.dcel_delaunay.specs.Removing.{IsInnerVertex, IsTurnable}
use Rattle.dcel_delaunay.specs.Staying.{HasConstraintAt, LeavesLegal}
use Rattle.dcel_delaunay.specs.Thinning.{IsThinned, IsThinning, ListsAround, with_spokes}
use Rattle.dcel_delaunay.proofs.Around.{far_listed, near_listed, still_around}
use Rattle.dcel_planar.proofs.Counting.{flipped_joined}
use Rattle.dcel_planar.proofs.Growth.{flipped-keeps, keeps-trans}
use Rattle.dcel_delaunay.proofs.Staying.{flip_listed, flip_loose, flip_staying, keeps_trans, legal_trans}

-- what can be flipped so lies between two inner triangles
pub hull_stays : (at : ℕ → Point) (s : Shape) (u : ℕ) → IsOnHull s (2 * u) → ¬ CanFlipInPlane at s u
hull_stays at s u (inl outer) turn = (let inside = turn.inner in omega (arith, outer, inside))
hull_stays at s u (inr outer) turn =
    let is : face_of s (2 * u + 1) ≡ 0 = ap (face_of s) (sym (rev-double u)) ∙ outer in
    let inside = turn.inner_facing in
    omega (arith, is, inside)

-- what lies between two inner triangles and leaves two that turn left can be flipped
pub can_turn_from : {DE UE F : Type 0} (m : Mesh Point DE UE F) → IsMesh m → AllTriangles m.shape → (u : ℕ) → edge_is_live m.shape u ≡ true → ¬ IsOnHull m.shape (2 * u)
    → TurnsLeft (point_at m (origin_of m.shape (prev_of m.shape (2 * u)))) (point_at m (origin_of m.shape (prev_of m.shape (2 * u + 1)))) (point_at m (origin_of m.shape (2 * u + 1)))
    → TurnsLeft (point_at m (origin_of m.shape (prev_of m.shape (2 * u + 1)))) (point_at m (origin_of m.shape (prev_of m.shape (2 * u)))) (point_at m (origin_of m.shape (2 * u)))
    → CanFlipInPlane (point_at m) m.shape u
can_turn_from m mesh triangles u live off first second =
    let s = m.shape in
    let at = point_at m in
    let near = at (origin_of s (prev_of s (2 * u))) in
    let end = at (origin_of s (2 * u + 1)) in
    let inner : 0 < face_of s (2 * u) = elim (eq-zero-or-pos (face_of s (2 * u))) [ inl outer ↦ absurd (off (inl outer)) | inr more ↦ more ] in
    let inner_facing : 0 < face_of s (2 * u + 1) = elim (eq-zero-or-pos (face_of s (2 * u + 1))) [
      | inl outer ↦ absurd (off (inr (ap (face_of s) (rev-double u) ∙ outer)))
      | inr more ↦ more
    ] in
    let same_turn = orient2d-turned end near near in
    let none = on_start end near in
    record {
      can = record {
        live = live;
        triangle = is_triangle m mesh triangles (2 * u) (even_live s u live) inner;
        facing = is_triangle m mesh triangles (2 * u + 1) (odd_live s u live) inner_facing;
        corners = λ same.
            (let turned : TurnsLeft near near end = subst (λ (k : ℕ). TurnsLeft near (at k) end) (sym same) first in
            omega (arith, ordered, turned, same_turn, none));
      };
      inner = inner;
      inner_facing = inner_facing;
      first = first;
      second = second;
    }

-- the hull test of a half edge that is read from an edge
pub hull_as : {DE UE F : Type 0} (b : Bool) (m lent half : Mesh Point DE UE F) (u v h : ℕ) → lent ≡ m → v ≡ u → half ≡ lent → h ≡ 2 * v → IsTrue b ↔ IsOnHull half.shape h
    → IsTrue b ↔ IsOnHull m.shape (2 * u)
hull_as {DE} {UE} {F} b m lent half u v h mesh number mesh_half number_half told =
    subst (λ (k : Mesh Point DE UE F). IsTrue b ↔ IsOnHull k.shape (2 * u)) (mesh_half ∙ mesh)
    (subst (λ (k : ℕ). IsTrue b ↔ IsOnHull half.shape k) (number_half ∙ ap (λ (k : ℕ). 2 * k) number) told)

-- three points by other names
pub left_as : (b : Bool) {p q r p' q' r' : Point} → p ≡ p' → q ≡ q' → r ≡ r' → IsTrue b ↔ TurnsLeft p q r → IsTrue b ↔ TurnsLeft p' q' r'
left_as b {p} {q} {r} {p'} {q'} {r'} ep eq er told =
    subst (λ (k : Point). IsTrue b ↔ TurnsLeft p' q' k) er (subst (λ (k : Point). IsTrue b ↔ TurnsLeft p' k r) eq (subst (λ (k : Point). IsTrue b ↔ TurnsLeft k q r) ep told))

-- items that another list has
abbrev AreAmong : List ℕ → List ℕ → Type 0
AreAmong list some = (k : ℕ) → 0 < count_of k some → 0 < count_of k list

one_among : (list : List ℕ) (x : ℕ) (rest : List ℕ) → 0 < count_of x list → AreAmong list rest → AreAmong list (x ∷ rest)
one_among list x rest own others k there = elim (first_or_later k x rest there) [
  | inl same ↦ subst (λ (y : ℕ). 0 < count_of y list) (sym same) own
  | inr later ↦ others k later
]

either_among : (list a b : List ℕ) → AreAmong list a → AreAmong list b → AreAmong list (a ++ b)
either_among list a b first second k there = elim (cases_lt 0 (count_of k a)) [
  | inl in_first ↦ first k in_first
  | inr not ↦ second k (let c = count-append k a b in omega (arith, c, there, not))
]

module _ {DE UE F : Type 0} where
  -- half edges of other edges start where they did
  starts_still : (m : Mesh Point DE UE F) (u h : ℕ) → h / 2 ≢ u → origin_of (edge_flipped m u).shape h ≡ origin_of m.shape h
  starts_still m u h other = other-two_set m.shape.origins (2 * u) (2 * u + 1) _ _ 0 h (λ is. other (omega (arith, is))) (λ is. other (omega (arith, is)))

  module _ (m : Mesh Point DE UE F) (mesh : IsMesh m) (e : ℕ) (turn : CanFlipInPlane (point_at m) m.shape (e / 2)) where
    abbrev n : Mesh Point DE UE F
    n = edge_flipped m (e / 2)

    half_spoke : (v : ℕ) → origin_of m.shape e ≡ v → (origin_of m.shape (2 * (e / 2)) ≡ v) ⊎ (origin_of m.shape (2 * (e / 2) + 1) ≡ v)
    half_spoke v from = elim (cases_eq e (2 * (e / 2))) [
      | inl even ↦ inl (ap (origin_of m.shape) (sym even) ∙ from)
      | inr not ↦ (let odd : 2 * (e / 2) + 1 ≡ e = omega (arith, not) in inr (ap (origin_of m.shape) odd ∙ from))
    ]

    module _ (v : ℕ) (from : origin_of m.shape e ≡ v) (list : List ℕ) (around : ListsAround m.shape v list) where
      half_around : ListsAround n.shape v list
      half_around = still_around m mesh v (e / 2) turn.can (half_spoke v from) turn.inner turn.inner_facing list around

      -- the edge and the other sides are listed already
      open (at_edge m.shape (e / 2)) use {ep, en, tp, tn}
      open (at_flip m (e / 2) mesh turn.can) use {was, facing}

      near : (k : ℕ) → IsLive m.shape k → face_of m.shape k ≡ face_of m.shape (2 * (e / 2)) → 0 < count_of (k / 2) list
      near = near_listed m mesh v (e / 2) turn.can (half_spoke v from) turn.inner turn.inner_facing list around

      far : (k : ℕ) → IsLive m.shape k → face_of m.shape k ≡ face_of m.shape (2 * (e / 2) + 1) → 0 < count_of (k / 2) list
      far = far_listed m mesh v (e / 2) turn.can (half_spoke v from) turn.inner turn.inner_facing list around

      half_own : 0 < count_of (e / 2) list
      half_own = (let there = near (2 * (e / 2)) was.live_x was.face_x in let half : 2 * (e / 2) / 2 ≡ e / 2 = omega arith in subst (λ (k : ℕ). 0 < count_of k list) half there)

      half_listed : (w : ℕ) → 0 < count_of w ((list ++ (e / 2) ∷ []) ++ sides_beside m.shape (e / 2)) → 0 < count_of w list
      half_listed w there =
          either_among list (list ++ (e / 2) ∷ []) (sides_beside m.shape (e / 2))
          (either_among list list ((e / 2) ∷ []) (λ k found. found) (one_among list (e / 2) [] half_own (λ k found. absurd (omega (arith, found)))))
          (one_among list (en / 2) (ep / 2 ∷ tn / 2 ∷ tp / 2 ∷ []) (near en was.live_y was.face_y)
          (one_among list (ep / 2) (tn / 2 ∷ tp / 2 ∷ []) (near ep was.live_z was.face_z)
          (one_among list (tn / 2) (tp / 2 ∷ []) (far tn facing.live_y facing.face_y)
          (one_among list (tp / 2) [] (far tp facing.live_z facing.face_z) (λ k found. absurd (omega (arith, found)))))))
          w there

      half_sound : (stays : UE → Bool) → IsTriangleMesh m → LeavesLegal stays m n list list
      half_sound stays sound = record {
        triangulated = record {
          closed = sound.closed;
          joined = flipped_joined m (e / 2) sound.joined;
          triangles = flipped m sound.triangles (e / 2);
          plane = turn_keeps_plane m mesh (point_at m) (e / 2) turn sound.plane;
        };
        listed = λ lists w is. half_listed w (flip_listed stays m mesh (e / 2) turn.can list lists w is);
      }

    half_hull : HasHull m → HasHull n
    half_hull has =
        let words = m.shape.words in
        let faces : face_count n.shape ≡ face_count m.shape = length-set (slice_set words _ _) _ _ ∙ length-set words _ _ in
        let more = has.inner in
        record {
          inner = omega (arith, faces, more);
          convex = flip_keeps_convex m mesh (e / 2) turn.can (point_at m) turn.inner turn.inner_facing has.convex;
          hull = flip_keeps_hull m mesh (e / 2) turn.can (point_at m) turn.inner turn.inner_facing has.hull;
        }

    half_inside : (v : ℕ) → IsInnerVertex m.shape v → IsInnerVertex n.shape v
    half_inside v inside k out =
        flip_keeps_inner m mesh (point_at m) e turn.can turn.inner turn.inner_facing v (λ i live from. inside i (record { live = live; start = from })) k out.live out.start

    half_outside : (v h : ℕ) → StartsOutside m v h → StartsOutside n v h
    half_outside v h is = record {
      live = is.live;
      outer = outer_stays m mesh (e / 2) turn.can turn.inner turn.inner_facing h is.live is.outer;
      start = outer_start m mesh (e / 2) turn.can turn.inner turn.inner_facing h is.live is.outer ∙ is.start;
    }

    half_less : (v : ℕ) → v < m.shape.vertices → origin_of m.shape e ≡ v → length (out_edges_of n v) < length (out_edges_of m v)
    half_less v below from =
        let first : ListsOnce (IsOutEdge m.shape (origin_of m.shape e)) (out_edges_of m v) =
        subst (λ (k : ℕ). ListsOnce (IsOutEdge m.shape k) (out_edges_of m v)) (sym from) (mesh-out_edges mesh v below) in
        let second : ListsOnce (IsOutEdge n.shape (origin_of m.shape e)) (out_edges_of n v) =
        subst (λ (k : ℕ). ListsOnce (IsOutEdge n.shape k) (out_edges_of n v)) (sym from) (mesh-out_edges (flipped_mesh m (e / 2) mesh turn.can) v below) in
        let less = flip_takes_one m mesh (point_at m) e turn.can (out_edges_of m v) (out_edges_of n v) first second in
        omega (arith, less)

module _ {DE UE F : Type 0} (stays : UE → Bool) where
  pub thin_begins : (m : Mesh Point DE UE F) (v : ℕ) (first list : List ℕ) → IsMesh m → IsTriangleMesh m → HasHull m → v < m.shape.vertices → ¬ HasConstraintAt stays m v
      → ((u : ℕ) → 0 < count_of u first → 0 < count_of u list) → IsThinned stays m m v first list
  thin_begins m v first list mesh sound has below loose more = record {
    mesh = mesh;
    below = below;
    keeps = record { closed = sound.closed; vertices = refl; points = refl; edges = omega arith };
    edges = refl;
    sound = record { triangulated = sound; listed = λ lists u is. more u (lists u is) };
    hull = has;
    inside = λ is. is;
    outside = λ h is. is;
    staying = λ a b. (λ is. is, λ is. is);
    loose = loose;
  }

  pub thinning_begins : (m : Mesh Point DE UE F) (v : ℕ) (due : List ℕ) → IsMesh m → IsTriangleMesh m → HasHull m → v < m.shape.vertices → ¬ HasConstraintAt stays m v
      → ListsAround m.shape v (with_spokes m v due) → IsThinning stays m m v (with_spokes m v due) due
  thinning_begins m v due mesh sound has below loose around = record {
    thinned = thin_begins m v (with_spokes m v due) (with_spokes m v due) mesh sound has below loose (λ u there. there);
    around = around;
  }

  -- one after another
  pub thin_trans : (l m n : Mesh Point DE UE F) (v : ℕ) (first due list : List ℕ) → IsThinned stays l m v first due → IsThinned stays m n v due list → IsThinned stays l n v first list
  thin_trans l m n v first due list was then = record {
    mesh = then.mesh;
    below = then.below;
    keeps = keeps-trans l m n was.keeps then.keeps;
    edges = then.edges ∙ was.edges;
    sound = legal_trans stays l m n first due list was.sound then.sound;
    hull = then.hull;
    inside = λ is. then.inside (was.inside is);
    outside = λ h is. then.outside h (was.outside h is);
    staying = keeps_trans stays l m n was.staying then.staying;
    loose = then.loose;
  }

  -- if the list at the end has more
  pub thin_more : (m n : Mesh Point DE UE F) (v : ℕ) (first list more : List ℕ) → ((u : ℕ) → 0 < count_of u list → 0 < count_of u more)
      → IsThinned stays m n v first list → IsThinned stays m n v first more
  thin_more m n v first list more has was = record {
    mesh = was.mesh;
    below = was.below;
    keeps = was.keeps;
    edges = was.edges;
    sound = record { triangulated = was.sound.triangulated; listed = λ lists u is. has u (was.sound.listed lists u is) };
    hull = was.hull;
    inside = was.inside;
    outside = was.outside;
    staying = was.staying;
    loose = was.loose;
  }

  pub thinning_after : (l m n : Mesh Point DE UE F) (v : ℕ) (first due list : List ℕ) → IsThinned stays l m v first due → IsThinning stays m n v due list → IsThinning stays l n v first list
  thinning_after l m n v first due list was then = record {
    thinned = thin_trans l m n v first due (with_spokes n v list) was then.thinned;
    around = then.around;
  }

  -- where more is listed, but no edge of v
  pub thin_listed : (m : Mesh Point DE UE F) (v : ℕ) (first due : List ℕ) → IsMesh m → IsTriangleMesh m → HasHull m → v < m.shape.vertices → ¬ HasConstraintAt stays m v
      → ((u : ℕ) → 0 < count_of u first → 0 < count_of u due) → IsThinned stays m m v first (with_spokes m v due)
  thin_listed m v first due mesh sound has below loose more =
      thin_begins m v first (with_spokes m v due) mesh sound has below loose
      (λ u there. let c = count-append u due (map (λ h. h / 2) (out_edges_of m v)) in let found = more u there in omega (arith, c, found))

  module _ (m n : Mesh Point DE UE F) (v : ℕ) (first due : List ℕ) (way : IsThinning stays m n v first due) where
    abbrev list : List ℕ
    list = with_spokes n v due

    at_half : (e : ℕ) → IsOutEdge n.shape v e → CanFlipInPlane (point_at n) n.shape (e / 2) → IsThinned stays n (edge_flipped n (e / 2)) v list list
    at_half e out turn = record {
      mesh = flipped_mesh n (e / 2) way.thinned.mesh turn.can;
      below = way.thinned.below;
      keeps = flipped-keeps n way.thinned.sound.closed (e / 2);
      edges = refl;
      sound = half_sound n way.thinned.mesh e turn v out.start list way.around stays way.thinned.sound.triangulated;
      hull = half_hull n way.thinned.mesh e turn way.thinned.hull;
      inside = λ inside. half_inside n way.thinned.mesh e turn v inside;
      outside = λ h is. half_outside n way.thinned.mesh e turn v h is;
      staying = flip_staying stays n (e / 2) (λ stay. way.thinned.loose (e, out, stay));
      loose = flip_loose stays n (e / 2) (λ stay. way.thinned.loose (e, out, stay)) v way.thinned.loose;
    }

    -- what is listed, or an edge of v, is so after the flip, once the flipped edge is listed
    still_listed : (u : ℕ) → CanFlip n.shape u → (k : ℕ) → 0 < count_of k (with_spokes n v due) → 0 < count_of k (with_spokes (edge_flipped n u) v (due ++ u ∷ []))
    still_listed u can k there =
        let after = edge_flipped n u in
        let own = map (λ h. h / 2) (out_edges_of after v) in
        let whole = count-append k (due ++ u ∷ []) own in
        let front = count-append k due (u ∷ []) in
        let was = count-append k due (map (λ h. h / 2) (out_edges_of n v)) in
        elim (cases_eq k u) [
          | inl same ↦ (let c = count-equal k u [] same in omega (arith, c, whole, front))
          | inr other ↦ elim (cases_lt 0 (count_of k due)) [
            | inl in_due ↦ omega (arith, in_due, whole, front)
            | inr not ↦
                (let (h, found, is) = mapped_from (λ h. h / 2) (out_edges_of n v) k (omega (arith, not, was, there)) in
                let out = (mesh-out_edges way.thinned.mesh v way.thinned.below).no_other h found in
                let off : h / 2 ≢ u = λ here. other (sym is ∙ here) in
                let once = (mesh-out_edges (flipped_mesh n u way.thinned.mesh can) v way.thinned.below).each h (record { live = out.live; start = starts_still n u h off ∙ out.start }) in
                let there_too = count-mapped (λ h. h / 2) (out_edges_of after v) h (omega (arith, once)) in
                let own_too : 0 < count_of k own = subst (λ (x : ℕ). 0 < count_of x own) is there_too in
                omega (arith, own_too, whole))
          ]
        ]

    module _ (u : ℕ) (turn : IsTurnable n v u) where
      can : CanFlipInPlane (point_at n) n.shape (turn.half / 2)
      can = subst (λ (k : ℕ). CanFlipInPlane (point_at n) n.shape k) (sym turn.is) turn.can

      stays_around : ListsAround (edge_flipped n u).shape v list
      stays_around = subst (λ (k : ℕ). ListsAround (edge_flipped n k).shape v list) turn.is (half_around n way.thinned.mesh turn.half can v turn.out.start list way.around)

      thinned_more : IsThinned stays n (edge_flipped n u) v list list
      thinned_more = subst (λ (k : ℕ). IsThinned stays n (edge_flipped n k) v list list) turn.is (at_half turn.half turn.out can)

      pub thins : (after : Mesh Point DE UE F) (more : List ℕ) → after ≡ edge_flipped n u → more ≡ due ++ u ∷ [] → IsThinning stays m after v first more
      thins after more is listed =
          let now = edge_flipped n u in
          let all = with_spokes now v (due ++ u ∷ []) in
          let keeps = still_listed u turn.can.can in
          subst (λ (x : Mesh Point DE UE F). IsThinning stays m x v first more) (sym is)
          (subst (λ (l : List ℕ). IsThinning stays m now v first l) (sym listed)
          (record {
            thinned = thin_more m now v first list all keeps (thin_trans m n now v first list list way.thinned thinned_more);
            around = λ h k live from inner live_k on. keeps (k / 2) (stays_around h k live from inner live_k on);
          }))

      pub one_less : (after : Mesh Point DE UE F) → after ≡ edge_flipped n u → length (out_edges_of after v) < length (out_edges_of n v)
      one_less after is =
          subst (λ (k : Mesh Point DE UE F). length (out_edges_of k v) < length (out_edges_of n v)) (sym is)
          (subst (λ (k : ℕ). length (out_edges_of (edge_flipped n k) v) < length (out_edges_of n v)) turn.is
          (half_less n way.thinned.mesh turn.half can v way.thinned.below turn.out.start))
