-- No place lies inside two triangles of a mesh in the plane whose outer face is a convex hull: the half edges that pass above it to the right are
-- as many as those to the left, the outer face has at most one more to the right, and each triangle around the place one less.
use Rattle.std.specs.List.{concat}
use Rattle.std.proofs.Common.{◌≡◌, ◌≢◌, inl, inr, ℕ, zero, suc, ◌+◌, ◌≤◌, ◌<◌, ◌/◌, Bool, true, false, List, [], ◌∷◌, length, refl, sym, ap, ◌∙◌, subst, arith}
use Rattle.std.proofs.lemmas.Bool.{cases_Bool, cases_lt}
use Rattle.std.proofs.lemmas.List.{get_or_past}
use Rattle.dcel_fixed.specs.HalfEdges.{rev}
use Rattle.dcel_fixed.proofs.Halves.{rev-half, rev-rev}
use Rattle.dcel_predicates.specs.declared.point.Point.{Point}
use Rattle.dcel_maps.specs.Shapes.{IsLive, IsMesh, Mesh, Shape, edge_is_live, face_is_live, face_of, map_of, next_of, origin_of, prev_of}
use Rattle.dcel_maps.specs.Triangulations.{AllTriangles}
use Rattle.dcel_maps.specs.Words.{count_of, occurs, word_of}
use Rattle.dcel_maps.proofs.maps.Soundness.{rev_live}
use Rattle.dcel_maps.proofs.walks.Links.{links_stand}
use Rattle.dcel_maps.proofs.words.Counts.{count-concat, count-le_occurs}
use Rattle.dcel_maps.proofs.words.Reading.{face_in_word, live_in}
use Rattle.dcel_plane.specs.Plane.{TrianglesTurnLeft}
use Rattle.dcel_plane.proofs.edits.Corners.{left_of_triangle, three_items}
use Rattle.dcel_plane.specs.covering.Covering.{HasDisjointTriangles, IsConvex, IsHull}
use Rattle.dcel_plane.specs.covering.Places.{IsStrictlyIn, Place}
use Rattle.dcel_plane.proofs.covering.Columns.{IsHit, hit, hit_most, hit_says, passed}
use Rattle.dcel_plane.proofs.covering.Hulls.{Bounds, one_start}
use Rattle.dcel_plane.proofs.covering.Sums.{one_gains, sum-concat, sum-one, sum-some, sum-rev, sum_over, sum_words, two_gain}
use Rattle.dcel_plane.proofs.covering.Triangles.{at_word, round}

module _ {V DE UE F : Type 0} (m : Mesh V DE UE F) (mesh : IsMesh m) (triangles : AllTriangles m.shape) (at : ℕ → Point) (plane : TrianglesTurnLeft at m.shape)
    (pl : Place)
    (one_passes : (h k : ℕ) → IsLive m.shape h → IsLive m.shape k → face_of m.shape h ≡ 0 → face_of m.shape k ≡ 0
    → IsHit (at (origin_of m.shape h)) (at (origin_of m.shape (rev h))) pl → IsHit (at (origin_of m.shape k)) (at (origin_of m.shape (rev k))) pl → h ≡ k) where
  abbrev s : Shape
  s = m.shape

  abbrev p : ℕ → Point
  p h = at (origin_of s h)

  -- how often half edges of a word pass above the place to the right, and to the left
  abbrev passes : ℕ → ℕ
  passes h = hit (p h) (p (rev h)) pl

  abbrev right : List ℕ → ℕ
  right w = sum_over passes w

  abbrev left : List ℕ → ℕ
  left w = sum_over (λ h. passes (rev h)) w

  -- all in all as often
  even : (h : ℕ) → count_of h (concat s.words) ≡ count_of (rev h) (concat s.words)
  even h = count-concat h s.words ∙ same (edge_is_live s (h / 2)) refl ∙ sym (count-concat (rev h) s.words)
    where
      same : (t : Bool) → edge_is_live s (h / 2) ≡ t → occurs h s.words ≡ occurs (rev h) s.words
      same true live = mesh.sound.once h live ∙ sym (mesh.sound.once (rev h) (rev_live (map_of s) h live))
      same false dead = mesh.sound.no_other h dead ∙ sym (mesh.sound.no_other (rev h) (ap (edge_is_live s) (rev-half h) ∙ dead))

  balance : sum_words right s.words ≡ sum_words left s.words
  balance = sym (sum-concat passes s.words) ∙ sum-rev passes (concat s.words) even ∙ sum-concat (λ h. passes (rev h)) s.words

  -- an inner triangle
  record Passes (x y z : ℕ) : Type 0 where
    most : right (x ∷ y ∷ z ∷ []) ≤ left (x ∷ y ∷ z ∷ [])
    gains : IsStrictlyIn (p x) (p y) (p z) pl → right (x ∷ y ∷ z ∷ []) + 1 ≤ left (x ∷ y ∷ z ∷ [])

  passes_turned : (x y z : ℕ) → Passes x y z → Passes y z x
  passes_turned x y z h = record {
    most = let e = h.most in omega (arith, e);
    gains = λ inside. let e = h.gains (inside.2, inside.0, inside.1) in omega (arith, e);
  }

  at_triangle : (h : ℕ) → IsLive s h → 0 < face_of s h → Passes h (next_of s h) (prev_of s h)
  at_triangle h live inner =
      let tri = round m mesh triangles h live inner in
      let n = next_of s h in
      let b = prev_of s h in
      let turn = left_of_triangle at s mesh.sound plane (face_of s h) h n b inner tri in
      let end_h : p (rev h) ≡ p n = ap at (sym (mesh.sound.joined h live)) in
      let end_n : p (rev n) ≡ p b = ap at (sym (mesh.sound.joined n tri.live_y) ∙ ap (origin_of s) tri.next_y) in
      let end_b : p (rev b) ≡ p h = ap at (sym (mesh.sound.joined b tri.live_z) ∙ ap (origin_of s) tri.next_z) in
      let back : (k : ℕ) → p (rev (rev k)) ≡ p k = λ k. ap p (rev-rev k) in
      let fh : passes h ≡ hit (p h) (p n) pl = ap (λ (q : Point). hit (p h) q pl) end_h in
      let fn : passes n ≡ hit (p n) (p b) pl = ap (λ (q : Point). hit (p n) q pl) end_n in
      let fb : passes b ≡ hit (p b) (p h) pl = ap (λ (q : Point). hit (p b) q pl) end_b in
      let gh : passes (rev h) ≡ hit (p n) (p h) pl = ap (λ (q : Point). hit (p (rev h)) q pl) (back h) ∙ ap (λ (q : Point). hit q (p h) pl) end_h in
      let gn : passes (rev n) ≡ hit (p b) (p n) pl = ap (λ (q : Point). hit (p (rev n)) q pl) (back n) ∙ ap (λ (q : Point). hit q (p n) pl) end_n in
      let gb : passes (rev b) ≡ hit (p h) (p b) pl = ap (λ (q : Point). hit (p (rev b)) q pl) (back b) ∙ ap (λ (q : Point). hit q (p b) pl) end_b in
      let known = passed (p h) (p n) (p b) pl turn in
      record {
        most = let k = known.most in omega (arith, k, fh, fn, fb, gh, gn, gb);
        gains = λ inside. let k = known.gains inside in omega (arith, k, fh, fn, fb, gh, gn, gb);
      }

  at_triangle_word : (f x y z : ℕ) → 0 < f → word_of s.words f ≡ x ∷ y ∷ z ∷ [] → Passes x y z
  at_triangle_word = at_word m mesh triangles Passes passes_turned at_triangle

  inner_most : (f : ℕ) → 0 < f → right (word_of s.words f) ≤ left (word_of s.words f)
  inner_most f inner = elim (cases_Bool (face_is_live s f)) [
    | inl live ↦
        let (x, y, z, is) = three_items (word_of s.words f) (triangles f inner live) in
        subst (λ (w : List ℕ). right w ≤ left w) (sym is) (at_triangle_word f x y z inner is).most
    | inr dead ↦ subst (λ (w : List ℕ). right w ≤ left w) (sym (mesh.sound.bare f dead)) (omega arith)
  ]

  inner_gains : (f x y z : ℕ) → 0 < f → word_of s.words f ≡ x ∷ y ∷ z ∷ [] → IsStrictlyIn (p x) (p y) (p z) pl → right (word_of s.words f) + 1 ≤ left (word_of s.words f)
  inner_gains f x y z inner is inside = subst (λ (w : List ℕ). right w + 1 ≤ left w) (sym is) ((at_triangle_word f x y z inner is).gains inside)

  -- the outer face
  outer_one : right (word_of s.words 0) ≤ 1
  outer_one =
      sum-one passes (word_of s.words 0) (λ h. hit_most (p h) (p (rev h)) pl)
      (λ h k in_h in_k one_h one_k.
      let live_h = live_in (map_of s) s.words (links_stand mesh.sound) h 0 in_h in
      let live_k = live_in (map_of s) s.words (links_stand mesh.sound) k 0 in_k in
      let on_h = face_in_word (map_of s) s.words (links_stand mesh.sound) h 0 in_h in
      let on_k = face_in_word (map_of s) s.words (links_stand mesh.sound) k 0 in_k in
      elim (hit_says (p h) (p (rev h)) pl) [
        | inl first ↦ elim (hit_says (p k) (p (rev k)) pl) [
          | inl second ↦ one_passes h k live_h live_k on_h on_k first.1 second.1
          | inr none ↦ absurd (let e = none.0 in omega (arith, e, one_k))
        ]
        | inr none ↦ absurd (let e = none.0 in omega (arith, e, one_h))
      ])
      (λ h. let e = count-le_occurs h s.words 0 in at_most h e)
    where
      at_most : (h : ℕ) → count_of h (word_of s.words 0) ≤ occurs h s.words → count_of h (word_of s.words 0) ≤ 1
      at_most h le = elim (cases_Bool (edge_is_live s (h / 2))) [
        | inl live ↦ (let e = mesh.sound.once h live in omega (arith, e, le))
        | inr dead ↦ (let e = mesh.sound.no_other h dead in omega (arith, e, le))
      ]

  -- so not two inner faces
  not_two : (ws : List (List ℕ)) → s.words ≡ ws → (f g : ℕ) → f ≢ g → 0 < f → 0 < g → f < length ws → g < length ws
      → right (word_of s.words f) + 1 ≤ left (word_of s.words f) → right (word_of s.words g) + 1 ≤ left (word_of s.words g) → ⊥
  not_two [] is f g differ inner_f inner_g below_f below_g gain_f gain_g = omega (arith, below_f)
  not_two (w ∷ ws) is zero g differ inner_f inner_g below_f below_g gain_f gain_g = omega (arith, inner_f)
  not_two (w ∷ ws) is (suc f) zero differ inner_f inner_g below_f below_g gain_f gain_g = omega (arith, inner_g)
  not_two (w ∷ ws) is (suc f) (suc g) differ inner_f inner_g below_f below_g gain_f gain_g =
      let same : (i : ℕ) → word_of s.words (suc i) ≡ word_of ws i = λ i. ap (λ (l : List (List ℕ)). word_of l (suc i)) is in
      let most : (i : ℕ) → right (word_of ws i) ≤ left (word_of ws i) = λ i. subst (λ (l : List ℕ). right l ≤ left l) (same i) (inner_most (suc i) (omega arith)) in
      let two = two_gain right left ws most f g (λ e. differ (ap suc e)) (omega (arith, below_f)) (omega (arith, below_g))
      (subst (λ (l : List ℕ). right l + 1 ≤ left l) (same f) gain_f) (subst (λ (l : List ℕ). right l + 1 ≤ left l) (same g) gain_g) in
      let whole : sum_words right (w ∷ ws) ≡ sum_words left (w ∷ ws) = subst (λ (l : List (List ℕ)). sum_words right l ≡ sum_words left l) is balance in
      let one : right w ≤ 1 = subst (λ (l : List (List ℕ)). right (word_of l 0) ≤ 1) is outer_one in
      omega (arith, two, whole, one)

  -- and each place inside an inner face has a half edge of the outer face above it
  some_outer : (ws : List (List ℕ)) → s.words ≡ ws → (f : ℕ) → 0 < f → f < length ws → right (word_of s.words f) + 1 ≤ left (word_of s.words f) → 1 ≤ right (word_of s.words 0)
  some_outer [] is f inner below gain = absurd (omega (arith, below))
  some_outer (w ∷ ws) is zero inner below gain = absurd (omega (arith, inner))
  some_outer (w ∷ ws) is (suc f) inner below gain =
      let same : (i : ℕ) → word_of s.words (suc i) ≡ word_of ws i = λ i. ap (λ (l : List (List ℕ)). word_of l (suc i)) is in
      let most : (i : ℕ) → right (word_of ws i) ≤ left (word_of ws i) = λ i. subst (λ (l : List ℕ). right l ≤ left l) (same i) (inner_most (suc i) (omega arith)) in
      let gains = one_gains right left ws most f (omega (arith, below)) (subst (λ (l : List ℕ). right l + 1 ≤ left l) (same f) gain) in
      let whole : sum_words right (w ∷ ws) ≡ sum_words left (w ∷ ws) = subst (λ (l : List (List ℕ)). sum_words right l ≡ sum_words left l) is balance in
      let first : word_of s.words 0 ≡ w = ap (λ (l : List (List ℕ)). word_of l 0) is in
      subst (λ (l : List ℕ). 1 ≤ right l) (sym first) (omega (arith, gains, whole))

  below_length : (f x y z : ℕ) → word_of s.words f ≡ x ∷ y ∷ z ∷ [] → f < length s.words
  below_length f x y z is = elim (cases_lt f (length s.words)) [
    | inl less ↦ less
    | inr past ↦ absurd (let none = ap length (sym (get_or_past s.words f [] past) ∙ is) in omega (arith, none))
  ]

  pub record Above : Type 0 where
    pub h : ℕ
    pub live : IsLive s h
    pub outer : face_of s h ≡ 0
    pub hits : IsHit (p h) (p (rev h)) pl

  pub some_above : (f x y z : ℕ) → 0 < f → word_of s.words f ≡ x ∷ y ∷ z ∷ [] → IsStrictlyIn (p x) (p y) (p z) pl → Above
  some_above f x y z inner is inside =
      let some = some_outer s.words refl f inner (below_length f x y z is) (inner_gains f x y z inner is inside) in
      let (h, found, counts) = sum-some passes (word_of s.words 0) (omega (arith, some)) in
      record {
        h = h;
        live = live_in (map_of s) s.words (links_stand mesh.sound) h 0 found;
        outer = face_in_word (map_of s) s.words (links_stand mesh.sound) h 0 found;
        hits = elim (hit_says (p h) (p (rev h)) pl) [ inl first ↦ first.1 | inr none ↦ absurd (let e = none.0 in omega (arith, e, counts)) ];
      }

  pub in_one : (f g x y z x' y' z' : ℕ) → 0 < f → 0 < g → f ≢ g → word_of s.words f ≡ x ∷ y ∷ z ∷ [] → word_of s.words g ≡ x' ∷ y' ∷ z' ∷ []
      → IsStrictlyIn (p x) (p y) (p z) pl → IsStrictlyIn (p x') (p y') (p z') pl → ⊥
  in_one f g x y z x' y' z' inner_f inner_g differ is_f is_g in_f in_g =
      not_two s.words refl f g differ inner_f inner_g (below_length f x y z is_f) (below_length g x' y' z' is_g)
      (inner_gains f x y z inner_f is_f in_f) (inner_gains g x' y' z' inner_g is_g in_g)

-- an edge of a convex hull
module _ {V DE UE F : Type 0} (m : Mesh V DE UE F) (mesh : IsMesh m) (at : ℕ → Point) (convex : IsConvex at m.shape) (hull : IsHull at m.shape) (pl : Place) where
  abbrev o : ℕ → Point
  o h = at (origin_of m.shape h)

  outer_bounds : (h k : ℕ) → IsLive m.shape h → IsLive m.shape k → face_of m.shape h ≡ 0 → Bounds (o h) (o (rev h)) (o k) (o (rev k))
  outer_bounds h k live_h live_k outer = record {
    start = (convex.supports h k live_h outer live_k).0;
    end = (convex.supports h (rev k) live_h outer (rev_live (map_of m.shape) k live_k)).0;
    between = (convex.supports h k live_h outer live_k).1;
  }

  hull_passes : (h k : ℕ) → IsLive m.shape h → IsLive m.shape k → face_of m.shape h ≡ 0 → face_of m.shape k ≡ 0
      → IsHit (o h) (o (rev h)) pl → IsHit (o k) (o (rev k)) pl → h ≡ k
  hull_passes h k live_h live_k on_h on_k first second =
      let start = one_start (o h) (o (rev h)) (o k) (o (rev k)) pl first second (outer_bounds h k live_h live_k on_h) (outer_bounds k h live_k live_h on_k) in
      hull.once h k live_h live_k on_h on_k (hull.distinct h k live_h live_k start.0 start.1)

pub disjoint_triangles : {V DE UE F : Type 0} (m : Mesh V DE UE F) → IsMesh m → AllTriangles m.shape → (at : ℕ → Point) → TrianglesTurnLeft at m.shape
    → IsConvex at m.shape → IsHull at m.shape → HasDisjointTriangles at m.shape
disjoint_triangles m mesh triangles at plane convex hull = record {
  disjoint = λ f g x y z x' y' z' inner_f inner_g differ is_f is_g pl in_f in_g.
      in_one m mesh triangles at plane pl (hull_passes m mesh at convex hull pl) f g x y z x' y' z' inner_f inner_g differ is_f is_g in_f in_g;
}
