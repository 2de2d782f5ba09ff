-- `disconnect_edge_strip` at a hollow corner of the hull: the mesh stays in the plane, and its hull is convex.
use Rattle.std.proofs.Common.{◌≡◌, ◌≢◌, inl, inr, ℕ, suc, ◌+◌, ◌-◌, ◌*◌, ◌<◌, List, [], ◌∷◌, ◌++◌, length, map, slice_set, refl, sym, ap, ◌∙◌, subst, eq-zero-or-pos, arith, pos}
use Rattle.std.proofs.lemmas.Bool.{cases_Bool, cases_lt}
use Rattle.dcel_fixed.specs.HalfEdges.{rev}
use Rattle.dcel_fixed.proofs.Halves.{rev-rev}
use Rattle.dcel_predicates.specs.declared.point.Point.{Point}
use Rattle.dcel_predicates.specs.Determinants.{orient2d_of}
use Rattle.dcel_maps.specs.Cyclic.{from_least}
use Rattle.dcel_maps.specs.edits.Strip.{strip_cut, strip_record}
use Rattle.dcel_maps.specs.Hiding.{kept_words}
use Rattle.dcel_maps.specs.Removals.{Closed, Removal, gives_up_edge, gives_up_face, shown}
use Rattle.dcel_maps.specs.Shapes.{IsLive, IsMesh, IsSound, Mesh, Shape, end_of, face_of, map_of, next_of, origin_of, prev_of}
use Rattle.dcel_maps.specs.Strips.{IsEdgeStrip, IsStripAround}
use Rattle.dcel_maps.specs.Triangulations.{AllTriangles}
use Rattle.dcel_maps.specs.Walking.{IsOutEdge, ListsOnce, ccw_of, walk_of}
use Rattle.dcel_maps.specs.Words.{count_of, word_of}
use Rattle.dcel_maps.proofs.Liveness.{even_live, odd_live}
use Rattle.dcel_maps.proofs.maps.Halves.{rev_or_same}
use Rattle.dcel_maps.proofs.maps.Soundness.{rev_live}
use Rattle.dcel_maps.proofs.removal.StripItems.{strip-is, strip_gives}
use Rattle.dcel_maps.proofs.removal.StripMeshes.{strip_word-is}
use Rattle.dcel_maps.proofs.removal.StripShapes as cutting
use Rattle.dcel_maps.proofs.removal.StripShapes.{GivesUpStrip}
use Rattle.dcel_maps.proofs.removal.StripSpokes.{OuterWord, outer_word, spoke_inner, trip}
use Rattle.dcel_maps.proofs.walks.Links.{links_stand}
use Rattle.dcel_maps.proofs.walks.Turning.{walk-out_edges}
use Rattle.dcel_maps.proofs.words.Counts.{count-append, count-later, count-same}
use Rattle.dcel_maps.proofs.words.Reading.{face_in_word, live_in, stands_in_face}
use Rattle.dcel_maps.proofs.words.Turns.{count-turn, from_least-turn}
use Rattle.dcel_plane.specs.Plane.{ListsCircled, TrianglesTurnLeft}
use Rattle.dcel_plane.proofs.edits.Corners.{corners_are}
use Rattle.dcel_plane.specs.covering.Covering.{IsConvex, IsHull}
use Rattle.dcel_plane.specs.removal.Wheels.{IsHollow, TrianglesTurnLeftBut, turns}
use Rattle.dcel_plane.proofs.removal.Flat.{flat_convex, flat_hull}
use Rattle.dcel_plane.proofs.removal.Listing.{Stays, stays, was_circled}
use Rattle.dcel_plane.proofs.removal.Cutting.{IsCutOff, cut_convex, cut_hull}
use Rattle.dcel_plane.proofs.removal.Stripping.{some_spoke}
use Rattle.dcel_plane.proofs.removal.Strung.{strung}
use Rattle.dcel_plane.specs.hull.Straight.{IsStraight}
use Rattle.dcel_plane.proofs.covering.Triangles.{round}

module _ {V DE UE F : Type 0} (m : Mesh V DE UE F) (mesh : IsMesh m) (closed : m.shape.removal ≡ Closed) (v h : ℕ) (around : IsStripAround m.shape v h)
    (removal : Removal) (gives : GivesUpStrip m.shape v removal) (y : ℕ) (r : List ℕ) (outer : OuterWord m.shape mesh.sound mesh.sphere v h around y r) where
  abbrev s : Shape
  s = m.shape

  abbrev pub t : Shape
  t = cutting.t m.shape mesh.sound mesh.sphere v h around closed removal gives mesh.sized.outer y r outer

  abbrev items : List ℕ
  items = map (next_of m.shape) (trip m.shape mesh.sound mesh.sphere v h around).rest

  cut : IsCutOff m.shape t v
  cut = record {
    old = λ x live. cutting.was_live m.shape mesh.sound mesh.sphere v h around closed removal gives mesh.sized.outer y r outer x live;
    same = λ x live. cutting.same_origin m.shape mesh.sound mesh.sphere v h around closed removal gives mesh.sized.outer y r outer x live;
    none = λ x live. cutting.none_at m.shape mesh.sound mesh.sphere v h around closed removal gives mesh.sized.outer y r outer x live;
    outer = λ x live on.
        let sound = cutting.cut-sound m.shape mesh.sound mesh.sphere v h around closed removal gives mesh.sized.outer y r outer in
        let there : 0 < count_of x (word_of t.words 0) = subst (λ (f : ℕ). 0 < count_of x (word_of t.words f)) on (stands_in_face (map_of t) t.words (links_stand sound) x live) in
        let word = cutting.word-outer m.shape mesh.sound mesh.sphere v h around closed removal gives mesh.sized.outer y r outer in
        let found : 0 < count_of x (from_least (y ∷ r ++ items)) = subst (λ (w : List ℕ). 0 < count_of x w) word there in
        let c = count-turn x (from_least-turn (y ∷ r ++ items)) in
        let d = count-append x (y ∷ r) items in
        elim (cases_lt 0 (count_of x items)) [
          | inl item ↦
              let i = cutting.item_of m.shape mesh.sound mesh.sphere v h around closed removal gives mesh.sized.outer y r outer x item in
              let not_outer = spoke_inner s mesh.sound mesh.sphere v h around i.spoke i.is_spoke in
              inr (
                i.spoke,
                i.is_spoke.out.live,
                i.is_spoke.out.start,
                elim (eq-zero-or-pos (face_of s i.spoke)) [ inr more ↦ more | inl none ↦ absurd (not_outer none) ],
                i.next,
              )
          | inr none ↦
              let a = count-turn x outer.turn in
              let b = count-append x (h ∷ y ∷ r) (prev_of s h ∷ []) in
              let e = count-append x (h ∷ []) (y ∷ r) in
              inl
              (face_in_word (map_of s) s.words (links_stand mesh.sound) x (face_of s h) (omega (arith, found, c, d, none, a, b, e))
              ∙ around.outer)
        ];
  }

  turned : (x : ℕ) → IsLive t x → IsLive t (rev x)
  turned x live = rev_live (map_of t) x live

  strip_plane : (at : ℕ → Point) → TrianglesTurnLeft at s → TrianglesTurnLeft at t
  strip_plane at plane = record {
    left = λ f x z w inner is. elim (cases_Bool (gives_up_face removal f)) [
      | inl given ↦ absurd
          (let long = ap length (sym (cutting.word-given m.shape mesh.sound mesh.sphere v h around closed removal gives mesh.sized.outer y r outer f given) ∙ is) in omega (arith, long))
      | inr kept ↦
          let sound = cutting.cut-sound m.shape mesh.sound mesh.sphere v h around closed removal gives mesh.sized.outer y r outer in
          let same = cutting.word-kept m.shape mesh.sound mesh.sphere v h around closed removal gives mesh.sized.outer y r outer f (λ zero_f. omega (arith, zero_f, inner)) kept in
          let found : (k : ℕ) → 0 < count_of k (x ∷ z ∷ w ∷ []) → origin_of s k ≡ origin_of t k =
          λ k there. sym (cut.same k (live_in (map_of t) t.words (links_stand sound) k f (subst (λ (l : List ℕ). 0 < count_of k l) (sym is) there))) in
          corners_are at (found x (let c = count-same x (z ∷ w ∷ []) in omega (arith, c)))
          (found z (count-later z x (z ∷ w ∷ []) (let c = count-same z (w ∷ []) in omega (arith, c))))
          (found w (count-later w x (z ∷ w ∷ []) (count-later w z (w ∷ []) (let c = count-same w [] in omega (arith, c)))))
          (plane.left f x z w inner (sym same ∙ is))
    ];
  }

  -- where only triangles at v may not turn left
  strip_plane_but : (at : ℕ → Point) → TrianglesTurnLeftBut at s v → TrianglesTurnLeft at t
  strip_plane_but at plane = record {
    left = λ f x z w inner is. elim (cases_Bool (gives_up_face removal f)) [
      | inl given ↦ absurd
          (let long = ap length (sym (cutting.word-given m.shape mesh.sound mesh.sphere v h around closed removal gives mesh.sized.outer y r outer f given) ∙ is) in omega (arith, long))
      | inr kept ↦
          let sound = cutting.cut-sound m.shape mesh.sound mesh.sphere v h around closed removal gives mesh.sized.outer y r outer in
          let same = cutting.word-kept m.shape mesh.sound mesh.sphere v h around closed removal gives mesh.sized.outer y r outer f (λ zero_f. omega (arith, zero_f, inner)) kept in
          let live : (k : ℕ) → 0 < count_of k (x ∷ z ∷ w ∷ []) → IsLive t k =
          λ k there. live_in (map_of t) t.words (links_stand sound) k f (subst (λ (l : List ℕ). 0 < count_of k l) (sym is) there) in
          let found : (k : ℕ) → 0 < count_of k (x ∷ z ∷ w ∷ []) → origin_of s k ≡ origin_of t k = λ k there. sym (cut.same k (live k there)) in
          let off : (k : ℕ) → 0 < count_of k (x ∷ z ∷ w ∷ []) → origin_of s k ≢ v = λ k there at_v. cut.none k (live k there) (cut.same k (live k there) ∙ at_v) in
          let in_x : 0 < count_of x (x ∷ z ∷ w ∷ []) = (let c = count-same x (z ∷ w ∷ []) in omega (arith, c)) in
          let in_z : 0 < count_of z (x ∷ z ∷ w ∷ []) = count-later z x (z ∷ w ∷ []) (let c = count-same z (w ∷ []) in omega (arith, c)) in
          let in_w : 0 < count_of w (x ∷ z ∷ w ∷ []) = count-later w x (z ∷ w ∷ []) (count-later w z (w ∷ []) (let c = count-same w [] in omega (arith, c))) in
          corners_are at (found x in_x) (found z in_z) (found w in_w) (plane.left f x z w inner (sym same ∙ is) (off x in_x) (off z in_z) (off w in_w))
    ];
  }

  -- an edge that is circled was so
  strip_lists : (at : ℕ → Point) (due : List ℕ) → ListsCircled at s due → ListsCircled at t due
  strip_lists at due lists u inner circled =
      let sound = cutting.cut-sound m.shape mesh.sound mesh.sphere v h around closed removal gives mesh.sized.outer y r outer in
      let word : (x : ℕ) → IsLive t x → 0 < face_of t x → word_of t.words (face_of t x) ≡ word_of s.words (face_of t x) =
      λ x live inside. elim (cases_Bool (gives_up_face removal (face_of t x))) [
        | inl given ↦ absurd
            (let none = ap (count_of x) (cutting.word-given m.shape mesh.sound mesh.sphere v h around closed removal gives mesh.sized.outer y r outer (face_of t x) given) in
            let some = stands_in_face (map_of t) t.words (links_stand sound) x live in
            omega (arith, none, some))
        | inr kept ↦
            cutting.word-kept m.shape mesh.sound mesh.sphere v h around closed removal gives mesh.sized.outer y r outer (face_of t x) (λ outside. omega (arith, outside, inside)) kept
      ] in
      let stay : (x : ℕ) → IsLive t x → 0 < face_of t x → Stays s t mesh.sound sound (λ k was live. cut.same k live) x =
      λ x live inside. stays s t mesh.sound sound (λ k was live. cut.same k live) x live (word x live inside) in
      let was =
      was_circled s t mesh.sound sound (λ k was live. cut.same k live) at u (stay (2 * u) (even_live t u inner.live) inner.inner)
      (stay (2 * u + 1) (odd_live t u inner.live) inner.inner_facing) inner circled in
      lists u was.0 was.1

  module _ (at : ℕ → Point) (triangles : AllTriangles m.shape) (convex : IsConvex at m.shape) (hull : IsHull at m.shape) (two : length (walk_of m.shape (ccw_of m.shape) h) ≡ 2)
      (flat : orient2d_of (at v) (at (end_of m.shape (ccw_of m.shape h))) (at (end_of m.shape h)) ≡ pos 0) where
    here : v ≡ origin_of m.shape h
    here = sym around.out.start

    lists : ListsOnce (IsOutEdge m.shape (origin_of m.shape h)) (walk_of m.shape (ccw_of m.shape) h)
    lists = subst (λ (k : ℕ). ListsOnce (IsOutEdge s k) (walk_of s (ccw_of s) h)) here (walk-out_edges mesh.sound v h around.out)

    flat' : orient2d_of (at (origin_of m.shape h)) (at (end_of m.shape (ccw_of m.shape h))) (at (end_of m.shape h)) ≡ pos 0
    flat' = subst (λ (k : ℕ). orient2d_of (at k) (at (end_of m.shape (ccw_of m.shape h))) (at (end_of m.shape h)) ≡ pos 0) here flat

    strip_flat_convex : IsConvex at t
    strip_flat_convex =
        flat_convex m mesh triangles at convex hull h around.out.live around.outer (walk_of s (ccw_of s) h) (trip s mesh.sound mesh.sphere v h around) lists two flat'
        t (subst (λ (k : ℕ). IsCutOff s t k) here cut) turned

    strip_flat_hull : IsHull at t
    strip_flat_hull =
        flat_hull m mesh triangles at convex hull h around.out.live around.outer (walk_of s (ccw_of s) h) (trip s mesh.sound mesh.sphere v h around) lists two flat'
        t (subst (λ (k : ℕ). IsCutOff s t k) here cut) turned

  strip_convex : (at : ℕ → Point) → AllTriangles m.shape → TrianglesTurnLeft at s → IsConvex at s → IsHull at s
      → IsHollow (at v) (λ i. at (end_of m.shape (turns (ccw_of m.shape) (suc i) h))) (length (walk_of m.shape (ccw_of m.shape) h) - 1) → IsConvex at t
  strip_convex at triangles plane convex hull hollow =
      let is : v ≡ origin_of s h = sym around.out.start in
      cut_convex m mesh triangles at plane convex hull h around.out.live around.outer (walk_of s (ccw_of s) h) (trip s mesh.sound mesh.sphere v h around)
      (subst (λ (k : ℕ). ListsOnce (IsOutEdge s k) (walk_of s (ccw_of s) h)) is (walk-out_edges mesh.sound v h around.out))
      (subst (λ (k : ℕ). IsHollow (at k) (λ i. at (end_of m.shape (turns (ccw_of m.shape) (suc i) h))) (length (walk_of m.shape (ccw_of m.shape) h) - 1)) is hollow)
      t (subst (λ (k : ℕ). IsCutOff s t k) is cut) turned

  -- a half edge of no edge at v is still live
  still_live : (x : ℕ) → IsLive s x → origin_of s x ≢ v → end_of s x ≢ v → IsLive t x
  still_live x live not_start not_end =
      cutting.still_live m.shape mesh.sound mesh.sphere v h around closed removal gives mesh.sized.outer y r outer x live
      (λ k out same. elim (rev_or_same x k same) [
        | inl is ↦ not_start (ap (origin_of s) is ∙ out.start)
        | inr is ↦ not_end (ap (end_of s) is ∙ ap (origin_of s) (rev-rev k) ∙ out.start)
      ])

  strip_hull : (at : ℕ → Point) → AllTriangles m.shape → TrianglesTurnLeft at s → IsConvex at s → IsHull at s
      → IsHollow (at v) (λ i. at (end_of m.shape (turns (ccw_of m.shape) (suc i) h))) (length (walk_of m.shape (ccw_of m.shape) h) - 1)
      → (g : ℕ) → IsLive s g → 0 < face_of s g → origin_of s g ≢ v → origin_of s (next_of s g) ≢ v → origin_of s (prev_of s g) ≢ v → IsHull at t
  strip_hull at triangles plane convex hull hollow g live_g inner_g one two three =
      let is : v ≡ origin_of s h = sym around.out.start in
      let tri = round m mesh triangles g live_g inner_g in
      let end_g : end_of s g ≡ origin_of s (next_of s g) = sym (mesh.sound.joined g live_g) in
      let end_n : end_of s (next_of s g) ≡ origin_of s (prev_of s g) = sym (mesh.sound.joined (next_of s g) tri.live_y) ∙ ap (origin_of s) tri.next_y in
      let end_p : end_of s (prev_of s g) ≡ origin_of s g = sym (mesh.sound.joined (prev_of s g) tri.live_z) ∙ ap (origin_of s) tri.next_z in
      cut_hull m mesh triangles at plane convex hull h around.out.live around.outer (walk_of s (ccw_of s) h) (trip s mesh.sound mesh.sphere v h around)
      (subst (λ (k : ℕ). ListsOnce (IsOutEdge s k) (walk_of s (ccw_of s) h)) is (walk-out_edges mesh.sound v h around.out))
      (subst (λ (k : ℕ). IsHollow (at k) (λ i. at (end_of m.shape (turns (ccw_of m.shape) (suc i) h))) (length (walk_of m.shape (ccw_of m.shape) h) - 1)) is hollow)
      t (subst (λ (k : ℕ). IsCutOff s t k) is cut) turned g live_g inner_g
      (still_live g live_g one (λ e. two (sym end_g ∙ e))) (still_live (next_of s g) tri.live_y two (λ e. three (sym end_n ∙ e)))
      (still_live (prev_of s g) tri.live_z three (λ e. one (sym end_p ∙ e)))

  -- an inner half edge of what is left was one, and so was its triangle
  module _ (g : ℕ) (live : IsLive t g) (inside : 0 < face_of t g) where
    sound_t : IsSound t
    sound_t = cutting.cut-sound m.shape mesh.sound mesh.sphere v h around closed removal gives mesh.sized.outer y r outer

    same_word : word_of t.words (face_of t g) ≡ word_of s.words (face_of t g)
    same_word = elim (cases_Bool (gives_up_face removal (face_of t g))) [
      | inl given ↦ absurd
          (let none = ap (count_of g) (cutting.word-given m.shape mesh.sound mesh.sphere v h around closed removal gives mesh.sized.outer y r outer (face_of t g) given) in
          let some = stands_in_face (map_of t) t.words (links_stand sound_t) g live in
          omega (arith, none, some))
      | inr kept ↦ cutting.word-kept m.shape mesh.sound mesh.sphere v h around closed removal gives mesh.sized.outer y r outer (face_of t g) (λ none. omega (arith, none, inside)) kept
    ]

    was_on : face_of s g ≡ face_of t g
    was_on =
        face_in_word (map_of s) s.words (links_stand mesh.sound) g (face_of t g)
        (subst (λ (w : List ℕ). 0 < count_of g w) same_word (stands_in_face (map_of t) t.words (links_stand sound_t) g live))

    -- what lies on its face is left
    beside_off : (x : ℕ) → IsLive s x → face_of s x ≡ face_of s g → origin_of s x ≢ v
    beside_off x live_x on at_v =
        let in_word : 0 < count_of x (word_of t.words (face_of t g)) =
        subst (λ (w : List ℕ). 0 < count_of x w) (sym same_word)
        (subst (λ (f : ℕ). 0 < count_of x (word_of s.words f)) (on ∙ was_on) (stands_in_face (map_of s) s.words (links_stand mesh.sound) x live_x)) in
        let live_t = live_in (map_of t) t.words (links_stand sound_t) x (face_of t g) in_word in
        cut.none x live_t (cut.same x live_t ∙ at_v)

    strip_outline : (at : ℕ → Point) → AllTriangles m.shape → TrianglesTurnLeft at s → IsConvex at s → IsHull at s
        → IsHollow (at v) (λ i. at (end_of m.shape (turns (ccw_of m.shape) (suc i) h))) (length (walk_of m.shape (ccw_of m.shape) h) - 1) → IsHull at t
    strip_outline at triangles plane convex hull hollow =
        let was = cut.old g live in
        let inner : 0 < face_of s g = subst (λ (f : ℕ). 0 < f) (sym was_on) inside in
        let tri = round m mesh triangles g was inner in
        strip_hull at triangles plane convex hull hollow g was inner (beside_off g was refl) (beside_off (next_of s g) tri.live_y tri.face_y)
        (beside_off (prev_of s g) tri.live_z tri.face_z)

  -- where nothing inner is left, the rest is a line
  strip_strung : (at : ℕ → Point) → AllTriangles m.shape → TrianglesTurnLeft at s → IsConvex at s → IsHull at s
      → IsHollow (at v) (λ i. at (end_of m.shape (turns (ccw_of m.shape) (suc i) h))) (length (walk_of m.shape (ccw_of m.shape) h) - 1)
      → (g : ℕ) → IsLive s g → 0 < face_of s g → ((x : ℕ) → IsLive t x → face_of t x ≡ 0) → IsStraight at t
  strip_strung at triangles plane convex hull hollow g live_g inner_g bare =
      let is : v ≡ origin_of s h = sym around.out.start in
      strung m mesh triangles at plane convex hull h around.out.live around.outer (walk_of s (ccw_of s) h) (trip s mesh.sound mesh.sphere v h around)
      (subst (λ (k : ℕ). ListsOnce (IsOutEdge s k) (walk_of s (ccw_of s) h)) is (walk-out_edges mesh.sound v h around.out))
      (subst (λ (k : ℕ). IsHollow (at k) (λ i. at (end_of m.shape (turns (ccw_of m.shape) (suc i) h))) (length (walk_of m.shape (ccw_of m.shape) h) - 1)) is hollow)
      (some_spoke m mesh triangles at plane convex hull h around.out.live around.outer g live_g inner_g) t (subst (λ (k : ℕ). IsCutOff s t k) is cut) turned
      (λ x live start end. still_live x live (λ e. start (e ∙ is)) (λ e. end (e ∙ is))) bare

-- what holds of the shape above holds of the edit
module _ {V DE UE F : Type 0} (m : Mesh V DE UE F) (mesh : IsMesh m) (closed : m.shape.removal ≡ Closed) (list : List ℕ) (strip : IsEdgeStrip m.shape list) where
  abbrev whole : List ℕ
  whole = map (next_of m.shape) (trip m.shape mesh.sound mesh.sphere strip.vertex strip.half strip.around).rest ++ next_of m.shape strip.half ∷ []

  of_strip : (P : Shape → Type 0)
      → ((gives : GivesUpStrip m.shape strip.vertex (strip_record m.shape whole)) (y : ℕ) (r : List ℕ) (outer : OuterWord m.shape mesh.sound mesh.sphere strip.vertex strip.half strip.around y r)
      → P (t m mesh closed strip.vertex strip.half strip.around (strip_record m.shape whole) gives y r outer))
      → P (strip_cut m list).shape
  of_strip P holds =
      let (y, r, outer) = outer_word m.shape mesh.sound mesh.sphere strip.vertex strip.half strip.around in
      let gives = strip_gives m.shape mesh.sound mesh.sphere strip.vertex strip.half strip.around in
      subst (λ (l : List ℕ). P (strip_cut m l).shape) (sym (strip.is ∙ strip-is m.shape mesh.sound mesh.sphere strip.vertex strip.half strip.around))
      (subst (λ (w : List ℕ). P (record m.shape {
        words = kept_words (strip_record m.shape whole) (slice_set m.shape.words 0 w);
        origins = shown (gives_up_edge (strip_record m.shape whole)) m.shape.origins;
        removal = strip_record m.shape whole;
      })) (sym (strip_word-is m mesh strip.vertex strip.half strip.around closed (strip_record m.shape whole) gives y r outer)) (holds gives y r outer))

  pub cut_plane : (at : ℕ → Point) → TrianglesTurnLeft at m.shape → TrianglesTurnLeft at (strip_cut m list).shape
  cut_plane at plane =
      of_strip (TrianglesTurnLeft at) (λ gives y r outer. strip_plane m mesh closed strip.vertex strip.half strip.around (strip_record m.shape whole) gives y r outer at plane)

  pub hollow_convex : (at : ℕ → Point) → AllTriangles m.shape → TrianglesTurnLeft at m.shape → IsConvex at m.shape → IsHull at m.shape
      → IsHollow (at strip.vertex) (λ i. at (end_of m.shape (turns (ccw_of m.shape) (suc i) strip.half))) (length (walk_of m.shape (ccw_of m.shape) strip.half) - 1)
      → IsConvex at (strip_cut m list).shape
  hollow_convex at triangles plane convex hull hollow =
      of_strip (IsConvex at)
      (λ gives y r outer. strip_convex m mesh closed strip.vertex strip.half strip.around (strip_record m.shape whole) gives y r outer at triangles plane convex hull hollow)

  pub hollow_hull : (at : ℕ → Point) → AllTriangles m.shape → TrianglesTurnLeft at m.shape → IsConvex at m.shape → IsHull at m.shape
      → IsHollow (at strip.vertex) (λ i. at (end_of m.shape (turns (ccw_of m.shape) (suc i) strip.half))) (length (walk_of m.shape (ccw_of m.shape) strip.half) - 1)
      → (g : ℕ) → IsLive m.shape g → 0 < face_of m.shape g → origin_of m.shape g ≢ strip.vertex → origin_of m.shape (next_of m.shape g) ≢ strip.vertex
      → origin_of m.shape (prev_of m.shape g) ≢ strip.vertex → IsHull at (strip_cut m list).shape
  hollow_hull at triangles plane convex hull hollow g live_g inner_g one two three =
      of_strip (IsHull at)
      (λ gives y r outer. strip_hull m mesh closed strip.vertex strip.half strip.around (strip_record m.shape whole) gives y r outer at triangles plane convex hull hollow g live_g inner_g one two three)

  pub hollow_outline : (at : ℕ → Point) → AllTriangles m.shape → TrianglesTurnLeft at m.shape → IsConvex at m.shape → IsHull at m.shape
      → IsHollow (at strip.vertex) (λ i. at (end_of m.shape (turns (ccw_of m.shape) (suc i) strip.half))) (length (walk_of m.shape (ccw_of m.shape) strip.half) - 1)
      → (g : ℕ) → IsLive (strip_cut m list).shape g → 0 < face_of (strip_cut m list).shape g → IsHull at (strip_cut m list).shape
  hollow_outline at triangles plane convex hull hollow g =
      of_strip (λ k. IsLive k g → 0 < face_of k g → IsHull at k)
      (λ gives y r outer live inner.
      strip_outline m mesh closed strip.vertex strip.half strip.around (strip_record m.shape whole) gives y r outer g live inner at triangles plane convex hull hollow)

  pub hollow_strung : (at : ℕ → Point) → AllTriangles m.shape → TrianglesTurnLeft at m.shape → IsConvex at m.shape → IsHull at m.shape
      → IsHollow (at strip.vertex) (λ i. at (end_of m.shape (turns (ccw_of m.shape) (suc i) strip.half))) (length (walk_of m.shape (ccw_of m.shape) strip.half) - 1)
      → (g : ℕ) → IsLive m.shape g → 0 < face_of m.shape g → ((x : ℕ) → IsLive (strip_cut m list).shape x → face_of (strip_cut m list).shape x ≡ 0)
      → IsStraight at (strip_cut m list).shape
  hollow_strung at triangles plane convex hull hollow g live_g inner_g =
      of_strip (λ k. ((x : ℕ) → IsLive k x → face_of k x ≡ 0) → IsStraight at k)
      (λ gives y r outer bare.
      strip_strung m mesh closed strip.vertex strip.half strip.around (strip_record m.shape whole) gives y r outer at triangles plane convex hull hollow g live_g inner_g bare)

  pub cut_plane_but : (at : ℕ → Point) → TrianglesTurnLeftBut at m.shape strip.vertex → TrianglesTurnLeft at (strip_cut m list).shape
  cut_plane_but at plane =
      of_strip (TrianglesTurnLeft at) (λ gives y r outer. strip_plane_but m mesh closed strip.vertex strip.half strip.around (strip_record m.shape whole) gives y r outer at plane)

  pub flat_corner_convex : (at : ℕ → Point) → AllTriangles m.shape → IsConvex at m.shape → IsHull at m.shape → length (walk_of m.shape (ccw_of m.shape) strip.half) ≡ 2
      → orient2d_of (at strip.vertex) (at (end_of m.shape (ccw_of m.shape strip.half))) (at (end_of m.shape strip.half)) ≡ pos 0 → IsConvex at (strip_cut m list).shape
  flat_corner_convex at triangles convex hull two flat =
      of_strip (IsConvex at)
      (λ gives y r outer. strip_flat_convex m mesh closed strip.vertex strip.half strip.around (strip_record m.shape whole) gives y r outer at triangles convex hull two flat)

  pub flat_corner_hull : (at : ℕ → Point) → AllTriangles m.shape → IsConvex at m.shape → IsHull at m.shape → length (walk_of m.shape (ccw_of m.shape) strip.half) ≡ 2
      → orient2d_of (at strip.vertex) (at (end_of m.shape (ccw_of m.shape strip.half))) (at (end_of m.shape strip.half)) ≡ pos 0 → IsHull at (strip_cut m list).shape
  flat_corner_hull at triangles convex hull two flat =
      of_strip (IsHull at)
      (λ gives y r outer. strip_flat_hull m mesh closed strip.vertex strip.half strip.around (strip_record m.shape whole) gives y r outer at triangles convex hull two flat)

  pub cut_lists : (at : ℕ → Point) (due : List ℕ) → ListsCircled at m.shape due → ListsCircled at (strip_cut m list).shape due
  cut_lists at due lists =
      of_strip (λ k. ListsCircled at k due)
      (λ gives y r outer. strip_lists m mesh closed strip.vertex strip.half strip.around (strip_record m.shape whole) gives y r outer at due lists)
