-- Where a hole is filled with triangles that turn left, the mesh stays in the plane, and the hull is kept.
use Rattle.std.proofs.Common.{◌≡◌, inl, inr, ℕ, zero, suc, ◌+◌, ◌-◌, ◌*◌, ◌/◌, ◌<◌, ◌≤◌, false, List, [], ◌∷◌, ◌++◌, length, slice_index, sym, ap, ◌∙◌, subst, arith}
use Rattle.std.proofs.lemmas.Bool.{cases_Bool, cases_lt, false_from_ne_true}
use Rattle.std.proofs.lemmas.List.{get_or-append-add, get_or_append_left}
use Rattle.dcel_fixed.specs.HalfEdges.{rev}
use Rattle.dcel_predicates.specs.declared.point.Point.{Point}
use Rattle.dcel_maps.specs.edits.Fill.{ear_origins, ears, ring_filled}
use Rattle.dcel_maps.specs.Removals.{Closed, Removal, gives_up_edge, gives_up_face, shown}
use Rattle.dcel_maps.specs.Shapes.{IsLive, IsMesh, Mesh, Shape, face_count, face_of, map_of, origin_of}
use Rattle.dcel_maps.specs.Words.{count_of, word_of}
use Rattle.dcel_maps.proofs.Liveness.{is_live-parts}
use Rattle.dcel_maps.proofs.maps.Soundness.{rev_live}
use Rattle.dcel_maps.proofs.removal.Filled.{face_below, filled-sound, from_old, item_kept, word-ear, word-given, word-kept}
use Rattle.dcel_maps.proofs.removal.Hollows.{HollowOf}
use Rattle.dcel_maps.proofs.Shown.{length-shown, slice_index-shown_live}
use Rattle.dcel_maps.proofs.walks.Links.{half-below, links_stand}
use Rattle.dcel_maps.proofs.words.Counts.{count-later, count-same}
use Rattle.dcel_maps.proofs.words.Reading.{face_in_word, live_in, stands_in_face}
use Rattle.dcel_plane.specs.Plane.{ListsCircled, TrianglesTurnLeft, TurnsLeft}
use Rattle.dcel_plane.proofs.edits.Corners.{corners_are, left-from_least}
use Rattle.dcel_plane.specs.covering.Covering.{IsConvex, IsHull}
use Rattle.dcel_plane.specs.removal.Wheels.{EarsLeft}
use Rattle.dcel_plane.proofs.hull.Keeping.{KeepsOuter, StartsOld, keeps_convex, keeps_hull}
use Rattle.dcel_plane.proofs.removal.Listing.{lists_still}

-- the ears of a ring turn left, where their half edges start at the corners
ears_left : (at : ℕ → Point) (t : Shape) (os : ℕ → ℕ) (apex m p q r : ℕ) (rest : List ℕ) → origin_of t p ≡ apex → origin_of t q ≡ os q → origin_of t r ≡ os r
    → ((y : ℕ) → 0 < count_of y rest → origin_of t y ≡ os y) → ((i : ℕ) → i < 2 * length rest → origin_of t (2 * m + i) ≡ slice_index (ear_origins os apex r rest) i)
    → EarsLeft at os apex q r rest → (i x y z : ℕ) → word_of (ears m p q r rest) i ≡ x ∷ y ∷ z ∷ [] → TurnsLeft (at (origin_of t x)) (at (origin_of t y)) (at (origin_of t z))
ears_left at t os apex m p q r [] at_p at_q at_r old new lefts zero x y z is =
    left-from_least at t p q r x y z is (corners_are at (sym at_p) (sym at_q) (sym at_r) lefts)
ears_left at t os apex m p q r [] at_p at_q at_r old new lefts (suc i) x y z is = absurd (let long = ap length is in omega (arith, long))
ears_left at t os apex m p q r (c ∷ rest) at_p at_q at_r old new lefts zero x y z is =
    let e : 2 * m + 0 ≡ 2 * m = omega arith in
    left-from_least at t p q (2 * m) x y z is
    (corners_are at (sym at_p) (sym at_q) (sym (ap (origin_of t) (sym e) ∙ new 0 (omega arith))) lefts.0)
ears_left at t os apex m p q r (c ∷ rest) at_p at_q at_r old new lefts (suc i) x y z is =
    ears_left at t os apex (suc m) (2 * m + 1) r c rest (new 1 (omega arith)) at_r (old c (let n = count-same c rest in omega (arith, n)))
    (λ y found. old y (count-later y c rest found))
    (λ j below.
    let e : 2 * suc m + j ≡ 2 * m + suc (suc j) = omega arith in
    ap (origin_of t) e ∙ new (suc (suc j)) (omega (arith, below)))
    lefts.1 i x y z is

module _ {V DE UE F : Type 0} (m : Mesh V DE UE F) (p q r : ℕ) (rest : List ℕ) (halves : List DE) (edges : List UE) (faces : List F) (mesh : IsMesh m)
    (closed : m.shape.removal ≡ Closed) (removal : Removal) (hole : HollowOf m.shape removal (p ∷ q ∷ r ∷ rest) (face_count m.shape + length rest)) (at : ℕ → Point) where
  abbrev s : Shape
  s = m.shape

  abbrev t : Shape
  t = (ring_filled m removal p q r rest halves edges faces).shape

  -- an old half edge that is still live starts where it did
  same_start : (x : ℕ) → IsLive s x → IsLive t x → origin_of t x ≡ origin_of s x
  same_start x was live =
      let many = mesh.sized.origins in
      let below = half-below s x was in
      get_or_append_left (shown (gives_up_edge removal) s.origins) (ear_origins (origin_of s) (origin_of s p) r rest) 0 x
      (let l = length-shown (gives_up_edge removal) s.origins in omega (arith, l, many, below))
      ∙ slice_index-shown_live (gives_up_edge removal) s.origins x (is_live-parts (gives_up_edge removal) (s.edges + length rest) (x / 2) live).1

  new_start : (i : ℕ) → origin_of t (2 * s.edges + i) ≡ slice_index (ear_origins (origin_of s) (origin_of s p) r rest) i
  new_start i =
      let many = mesh.sized.origins in
      let l = length-shown (gives_up_edge removal) s.origins in
      ap (slice_index t.origins) (let e : 2 * s.edges + i ≡ length (shown (gives_up_edge removal) s.origins) + i = omega (arith, l, many) in e)
      ∙ get_or-append-add (shown (gives_up_edge removal) s.origins) (ear_origins (origin_of s) (origin_of s p) r rest) i 0

  kept_at : (y : ℕ) → 0 < count_of y (p ∷ q ∷ r ∷ rest) → origin_of t y ≡ origin_of s y
  kept_at y found = (item_kept m p q r rest halves edges faces mesh closed removal hole y found).1

  -- the half edges of a face that is kept
  in_kept : (f x : ℕ) → f < face_count s → 0 < count_of x (word_of t.words f) → word_of t.words f ≡ word_of s.words f → IsLive s x × IsLive t x × (origin_of t x ≡ origin_of s x)
  in_kept f x below found same =
      let live : IsLive t x = live_in (map_of t) t.words (links_stand (filled-sound m p q r rest halves edges faces mesh closed removal hole)) x f found in
      let was : IsLive s x = live_in (map_of s) s.words (links_stand mesh.sound) x f (subst (λ (w : List ℕ). 0 < count_of x w) same found) in
      (was, live, same_start x was live)

  pub filled_plane : EarsLeft at (origin_of m.shape) (origin_of m.shape p) q r rest → TrianglesTurnLeft at s → TrianglesTurnLeft at t
  filled_plane lefts plane = record {
    left = λ f x y z inner is. elim (cases_lt f (face_count s)) [
      | inl below ↦ elim (cases_Bool (gives_up_face removal f)) [
        | inl given ↦ absurd
            (let long = ap length (sym (word-given m p q r rest halves edges faces mesh closed removal hole f given) ∙ is) in omega (arith, long))
        | inr kept ↦
            let same = word-kept m p q r rest halves edges faces mesh closed removal hole f below kept in
            let found : (h : ℕ) → 0 < count_of h (x ∷ y ∷ z ∷ []) → origin_of s h ≡ origin_of t h =
            λ h there. sym (in_kept f h below (subst (λ (w : List ℕ). 0 < count_of h w) (sym is) there) same).2 in
            corners_are at (found x (let c = count-same x (y ∷ z ∷ []) in omega (arith, c)))
            (found y (count-later y x (y ∷ z ∷ []) (let c = count-same y (z ∷ []) in omega (arith, c))))
            (found z (count-later z x (y ∷ z ∷ []) (count-later z y (z ∷ []) (let c = count-same z [] in omega (arith, c)))))
            (plane.left f x y z inner (sym same ∙ is))
      ]
      | inr past ↦
          let i = f - face_count s in
          let e : face_count s + i ≡ f = omega (arith, past) in
          let ear = word-ear m p q r rest halves edges faces mesh closed removal hole i in
          ears_left at t (origin_of s) (origin_of s p) s.edges p q r rest (kept_at p (let c = count-same p (q ∷ r ∷ rest) in omega (arith, c)))
          (kept_at q (count-later q p (q ∷ r ∷ rest) (let c = count-same q (r ∷ rest) in omega (arith, c))))
          (kept_at r (count-later r p (q ∷ r ∷ rest) (count-later r q (r ∷ rest) (let c = count-same r rest in omega (arith, c)))))
          (λ y found. kept_at y (count-later y p (q ∷ r ∷ rest) (count-later y q (r ∷ rest) (count-later y r rest found))))
          (λ j below. new_start j) lefts i x y z (sym ear ∙ ap (word_of t.words) e ∙ is)
    ];
  }

  outer_kept : gives_up_face removal 0 ≡ false
  outer_kept = false_from_ne_true (gives_up_face removal 0) (λ given. let b = (face_below m p q r rest halves edges faces mesh closed removal hole 0 given).0 in omega (arith, b))

  filled_outer : KeepsOuter s t
  filled_outer h live on =
      let sound = filled-sound m p q r rest halves edges faces mesh closed removal hole in
      let there : 0 < count_of h (word_of t.words 0) = subst (λ (f : ℕ). 0 < count_of h (word_of t.words f)) on (stands_in_face (map_of t) t.words (links_stand sound) h live) in
      let same = word-kept m p q r rest halves edges faces mesh closed removal hole 0 (let o = mesh.sized.outer in o) outer_kept in
      let found = in_kept 0 h mesh.sized.outer there same in
      let back = rev_live (map_of s) h found.0 in
      record {
        live = found.0;
        on = face_in_word (map_of s) s.words (links_stand mesh.sound) h 0 (subst (λ (w : List ℕ). 0 < count_of h w) same there);
        start = sym found.2;
        end = sym (same_start (rev h) back (rev_live (map_of t) h live));
      }

  filled_starts : StartsOld s t
  filled_starts k live = from_old m p q r rest halves edges faces mesh closed removal hole k live

  pub filled_convex : IsConvex at s → IsConvex at t
  filled_convex = keeps_convex at s t filled_outer filled_starts

  pub filled_hull : IsHull at s → IsHull at t
  filled_hull = keeps_hull at s t filled_outer filled_starts

  -- the edges of the new faces are listed beside those that were
  pub filled_lists : (due list : List ℕ) → ((h : ℕ) → IsLive t h → face_count s ≤ face_of t h → 0 < count_of (h / 2) list) → ListsCircled at s due
      → ListsCircled at t (due ++ list)
  filled_lists due list new lists =
      lists_still s t mesh.sound (filled-sound m p q r rest halves edges faces mesh closed removal hole) same_start at (face_count s)
      (λ f inner below some. elim (cases_Bool (gives_up_face removal f)) [
        | inl given ↦ absurd
            (let none = ap length (word-given m p q r rest halves edges faces mesh closed removal hole f given) in omega (arith, some, none))
        | inr kept ↦ word-kept m p q r rest halves edges faces mesh closed removal hole f below kept
      ])
      due list new lists
