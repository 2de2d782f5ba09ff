-- A flip takes one half edge from each end of its edge.
use Rattle.std.proofs.Common.{◌≡◌, ◌≢◌, inl, inr, ℕ, suc, ◌+◌, ◌*◌, ◌/◌, ◌<◌, List, [], ◌∷◌, ◌++◌, length, refl, sym, ap, ◌∙◌, subst, eq-zero-or-pos, arith}
use Rattle.std.proofs.lemmas.Bool.{cases_eq, cases_lt}
use Rattle.std.proofs.lemmas.List.{length-append}
use Rattle.dcel_fixed.specs.HalfEdges.{rev}
use Rattle.dcel_fixed.proofs.Halves.{rev-double, rev-double-suc, rev-rev}
use Rattle.dcel_predicates.specs.declared.point.Point.{Point}
use Rattle.dcel_maps.specs.Conditions.{CanFlip}
use Rattle.dcel_maps.specs.edits.Flip.{edge_flipped}
use Rattle.dcel_maps.specs.Shapes.{IsLive, IsMesh, Mesh, Shape, end_of, face_of, map_of, next_of, origin_of, prev_of}
use Rattle.dcel_maps.specs.Walking.{IsOutEdge, ListsOnce}
use Rattle.dcel_maps.specs.Words.{count_of}
use Rattle.dcel_maps.proofs.edits.Flips.{at_flip}
use Rattle.dcel_maps.proofs.maps.Soundness.{rev_live}
use Rattle.dcel_maps.proofs.maps.Triangles.{IsTriangleOf}
use Rattle.dcel_maps.proofs.shapes.Maps.{map-sound}
use Rattle.dcel_maps.proofs.walks.Links.{prev-live}
use Rattle.dcel_maps.proofs.words.Counts.{count-append, count-equal, count-other, count-same, split_at}
use Rattle.dcel_plane.proofs.hull.Keeping.{flip_outer}
use Rattle.dcel_plane.proofs.edits.Flipped.{origin_e, origin_same, origin_t}

-- lists with the same items are equally long
pub equally_long : (a b : List ℕ) → ((k : ℕ) → count_of k a ≡ count_of k b) → length a ≡ length b
equally_long [] [] same = refl
equally_long [] (y ∷ r) same = absurd (let e = same y in let c = count-same y r in omega (arith, e, c))
equally_long (x ∷ a) b same =
    let found : 0 < count_of x b = (let e = same x in let c = count-same x a in omega (arith, e, c)) in
    let (l, r, parts) = split_at x b found in
    let rest = equally_long a (l ++ r) (λ k.
    let e = same k in
    let p = ap (count_of k) parts in
    let c = count-append k l (x ∷ r) in
    let d = count-append k l r in
    let f = count-append k (x ∷ []) a in
    let g = count-append k (x ∷ []) r in
    omega (arith, e, p, c, d, f, g)) in
    let n = length-append l (x ∷ r) in
    let o = length-append l r in
    let p = ap length parts in
    omega (arith, rest, n, o, p)

-- a list of each item with P, once, and one of those but e
pub one_fewer : (P Q : ℕ → Type 0) (e : ℕ) (w v : List ℕ) → P e → ((k : ℕ) → Q k → P k × (k ≢ e)) → ((k : ℕ) → P k → k ≢ e → Q k)
    → ListsOnce P w → ListsOnce Q v → length w ≡ suc (length v)
one_fewer P Q e w v is less more first second =
    let (l, r, parts) = split_at e w (let c = first.each e is in omega (arith, c)) in
    let counts : (k : ℕ) → count_of k w ≡ count_of k (e ∷ []) + count_of k (l ++ r) =
    λ k.
    (let p = ap (count_of k) parts in
    let c = count-append k l (e ∷ r) in
    let d = count-append k l r in
    let f = count-append k (e ∷ []) r in
    omega (arith, p, c, d, f)) in
    let same = equally_long (l ++ r) v (λ k. elim (cases_lt 0 (count_of k v)) [
      | inl there ↦
          (let q = second.no_other k there in
          let p = less k q in
          let one = second.each k q in
          let other = first.each k p.0 in
          let c = counts k in
          let z = count-other k e [] p.1 in
          omega (arith, one, other, c, z))
      | inr none ↦ elim (cases_lt 0 (count_of k (l ++ r))) [
        | inr none_too ↦ omega (arith, none, none_too)
        | inl there ↦ absurd
            (let c = counts k in
            let p = first.no_other k (omega (arith, c, there)) in
            let one = first.each k p in
            let differs : k ≢ e = λ same. (let z = count-equal k e [] same in omega (arith, z, one, c, there)) in
            let other = second.each k (more k p differs) in
            omega (arith, other, none))
      ]
    ]) in
    let n = length-append l (e ∷ r) in
    let o = length-append l r in
    let p = ap length parts in
    omega (arith, same, n, o, p)

-- what holds of the even half and the odd one, in either order, holds of a half edge and its other half
pub of_both_halves : (P : ℕ → ℕ → Type 0) → ((x y : ℕ) → P x y → P y x) → (e : ℕ) → P (2 * (e / 2)) (2 * (e / 2) + 1) → P e (rev e)
of_both_halves P swap e holds = elim (cases_eq e (2 * (e / 2))) [
  | inl even ↦
      let other : 2 * (e / 2) + 1 ≡ rev e = sym (ap rev even ∙ rev-double (e / 2)) in
      subst (λ (x : ℕ). P x (rev e)) (sym even) (subst (λ (y : ℕ). P (2 * (e / 2)) y) other holds)
  | inr not ↦
      let odd : e ≡ 2 * (e / 2) + 1 = omega (arith, not) in
      let other : 2 * (e / 2) ≡ rev e = sym (ap rev odd ∙ rev-double-suc (e / 2)) in
      subst (λ (x : ℕ). P x (rev e)) (sym odd) (subst (λ (y : ℕ). P (2 * (e / 2) + 1) y) other (swap (2 * (e / 2)) (2 * (e / 2) + 1) holds))
]

module _ {V DE UE F : Type 0} (m : Mesh V DE UE F) (mesh : IsMesh m) (at : ℕ → Point) (e : ℕ) (can : CanFlip m.shape (e / 2)) where
  abbrev s : Shape
  s = m.shape

  abbrev n : Shape
  n = (edge_flipped m (e / 2)).shape

  open (at_flip m (e / 2) mesh can) use {was, facing}

  live : IsLive s e
  live = can.live

  record Turned (x y : ℕ) : Type 0 where
    moves : origin_of n x ≡ origin_of s (prev_of s x)
    moves_too : origin_of n y ≡ origin_of s (prev_of s y)
    triangle : IsTriangleOf (map_of s) (face_of s x) x (next_of s x) (prev_of s x)
    triangle_too : IsTriangleOf (map_of s) (face_of s y) y (next_of s y) (prev_of s y)
    stays : (k : ℕ) → IsLive s k → k ≢ x → k ≢ y → origin_of n k ≡ origin_of s k

  turned : Turned e (rev e)
  turned =
      of_both_halves Turned
      (λ x y is. record { moves = is.moves_too; moves_too = is.moves; triangle = is.triangle_too; triangle_too = is.triangle; stays = λ k live_k not_y not_x. is.stays k live_k not_x not_y })
      e
      (record {
        moves = origin_e m mesh (e / 2) can;
        moves_too = origin_t m mesh (e / 2) can;
        triangle = was;
        triangle_too = facing;
        stays = λ k live_k not_x not_y. origin_same m mesh (e / 2) can at k live_k not_x not_y;
      })

  abbrev o : ℕ
  o = origin_of m.shape e

  -- the corners opposite the edge aren't its ends
  not_before : origin_of s (prev_of s e) ≢ o
  not_before is =
      let live_p = prev-live mesh.sound e live in
      mesh.sound.two_ends (prev_of s e) live_p (is ∙ ap (origin_of s) (sym ((map-sound mesh.sound).next-prev e live)) ∙ mesh.sound.joined (prev_of s e) live_p)

  not_beyond : origin_of s (prev_of s (rev e)) ≢ o
  not_beyond is =
      let tri = turned.triangle_too in
      let start : origin_of s (next_of s (rev e)) ≡ o = mesh.sound.joined (rev e) (rev_live (map_of s) e live) ∙ ap (origin_of s) (rev-rev e) in
      let end : end_of s (next_of s (rev e)) ≡ origin_of s (prev_of s (rev e)) = sym (mesh.sound.joined (next_of s (rev e)) tri.live_y) ∙ ap (origin_of s) tri.next_y in
      mesh.sound.two_ends (next_of s (rev e)) tri.live_y (start ∙ sym is ∙ sym end)

  fewer : (k : ℕ) → IsOutEdge n (origin_of m.shape e) k → IsOutEdge s (origin_of m.shape e) k × (k ≢ e)
  fewer k out = elim (cases_eq k e) [
    | inl is ↦ absurd (not_before (sym turned.moves ∙ ap (origin_of n) (sym is) ∙ out.start))
    | inr not_e ↦ elim (cases_eq k (rev e)) [
      | inl is ↦ absurd (not_beyond (sym turned.moves_too ∙ ap (origin_of n) (sym is) ∙ out.start))
      | inr not_t ↦ (record { live = out.live; start = sym (turned.stays k out.live not_e not_t) ∙ out.start }, not_e)
    ]
  ]

  still : (k : ℕ) → IsOutEdge s (origin_of m.shape e) k → k ≢ e → IsOutEdge n (origin_of m.shape e) k
  still k out not_e =
      let not_t : k ≢ rev e = λ is. mesh.sound.two_ends e live (sym out.start ∙ ap (origin_of s) is) in
      record { live = out.live; start = turned.stays k out.live not_e not_t ∙ out.start }

  pub flip_takes_one : (w v : List ℕ) → ListsOnce (IsOutEdge m.shape (origin_of m.shape e)) w
      → ListsOnce (IsOutEdge (edge_flipped m (e / 2)).shape (origin_of m.shape e)) v → length w ≡ suc (length v)
  flip_takes_one w v first second =
      one_fewer (IsOutEdge s (origin_of m.shape e)) (IsOutEdge n (origin_of m.shape e)) e w v (record { live = live; start = refl }) fewer still first second

  -- and a vertex inside stays inside
  pub flip_keeps_inner : 0 < face_of m.shape (2 * (e / 2)) → 0 < face_of m.shape (2 * (e / 2) + 1) → (v : ℕ)
      → ((k : ℕ) → IsLive m.shape k → origin_of m.shape k ≡ v → 0 < face_of m.shape k)
      → (k : ℕ) → IsLive (edge_flipped m (e / 2)).shape k → origin_of (edge_flipped m (e / 2)).shape k ≡ v → 0 < face_of (edge_flipped m (e / 2)).shape k
  flip_keeps_inner one two v inner k live_k from = elim (eq-zero-or-pos (face_of n k)) [
    | inr more ↦ more
    | inl none ↦ absurd
        (let was = flip_outer m mesh (e / 2) can at one two k live_k none in
        let i = inner k was.live (was.start ∙ from) in
        let z = was.on in
        omega (arith, i, z))
  ]
