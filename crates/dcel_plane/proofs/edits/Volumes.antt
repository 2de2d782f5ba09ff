-- A flip of an edge with a corner inside the circle of the other side makes the volume below a mesh less.
use Rattle.std.proofs.Common.{◌≡◌, ◌≢◌, inl, inr, ℕ, suc, ◌+◌, ◌*◌, ◌<◌, List, [], ◌∷◌, length, slice_set, refl, sym, ap, ◌∙◌, subst, ℤ, pos, negsuc, unsigned_abs, ◌+ℤ◌, ◌<ℤ◌, ◌≤ℤ◌, arith}
use Rattle.std.specs.List.{sum_by}
use Rattle.std.proofs.lemmas.Bool.{cases_eq}
use Rattle.std.proofs.lemmas.List.{get_or-set_other, length-set}
use Rattle.std.proofs.lemmas.List.Sums.{sum_by-cons, sum_by-set}
use Rattle.dcel_predicates.specs.declared.point.Point.{Point}
use Rattle.dcel_predicates.specs.Determinants.{height_of, incircle_of, orient2d_of, volume_of}
use Rattle.dcel_predicates.proofs.Lifted.{flip-lowers, volume-turned}
use Rattle.dcel_predicates.proofs.Signs.{ordered, square, times}
use Rattle.dcel_maps.specs.Conditions.{CanFlip}
use Rattle.dcel_maps.specs.Cyclic.{from_least}
use Rattle.dcel_maps.specs.edits.Flip.{edge_flipped}
use Rattle.dcel_maps.specs.Shapes.{IsMesh, Mesh, Shape, face_count, face_of, map_of, origin_of}
use Rattle.dcel_maps.specs.Words.{TurnsTo, count_of, word_of}
use Rattle.dcel_maps.proofs.edits.Around.{at_edge, known}
use Rattle.dcel_maps.proofs.edits.Flips.{at_flip}
use Rattle.dcel_maps.proofs.words.Counts.{count-later, count-same}
use Rattle.dcel_maps.proofs.words.EachSet.{first-two_set, length-two_set, other-two_set, second-two_set, two_set}
use Rattle.dcel_maps.proofs.words.Triangles.{triangle_written}
use Rattle.dcel_maps.proofs.words.Turns.{from_least-turn, length-turn}
use Rattle.dcel_plane.specs.Plane.{IsCircled, TrianglesTurnLeft, TurnsLeft}
use Rattle.dcel_plane.specs.Volume.{volume_below, volume_under}
use Rattle.dcel_plane.proofs.edits.Corners.{three_items, turned_along}
use Rattle.dcel_plane.proofs.edits.Flipped.{from_end, from_start, left_before, new_corners, origin_after, origin_e, origin_far, origin_near, origin_t, origin_t_after, right_before, starts_else}

-- sums of items that are the same
sums_agree : (a b : List ℕ → ℕ) (l : List (List ℕ)) → ((k : ℕ) → k < length l → a (word_of l k) ≡ b (word_of l k)) → sum_by a l ≡ sum_by b l
sums_agree a b [] same = refl
sums_agree a b (w ∷ r) same =
    let first : a w ≡ b w = same 0 (omega arith) in
    let rest : sum_by a r ≡ sum_by b r = sums_agree a b r (λ k within. same (suc k) (omega (arith, within))) in
    omega (arith, first, rest, sum_by-cons a w r, sum_by-cons b w r)

-- two words are replaced, and the others weigh as much as before
module _ (a b : List ℕ → ℕ) (ws : List (List ℕ)) (f g : ℕ) (u v : List ℕ) (f_in : f < length ws) (g_in : g < length ws) (differ : f ≢ g)
    (none_a : a [] ≡ 0) (none_b : b [] ≡ 0) (same : (k : ℕ) → k < length ws → k ≢ f → k ≢ g → a (word_of ws k) ≡ b (word_of ws k)) where
  abbrev two : List ℕ → List ℕ → List (List ℕ)
  two x y = two_set ws f x g y

  replaced_two : (c : List ℕ → ℕ) (x y : List ℕ) → sum_by c (two x y) + (c (word_of ws f) + c (word_of ws g)) ≡ sum_by c ws + (c x + c y)
  replaced_two c x y =
      let other : word_of (slice_set ws f x) g ≡ word_of ws g = get_or-set_other ws f g x [] (λ is. differ (sym is)) in
      let second = sum_by-set c (slice_set ws f x) g y [] (omega (arith, g_in, length-set ws f x)) in
      let first = sum_by-set c ws f x [] f_in in
      omega (arith, first, second, ap c other)

  -- without the two
  others : sum_by a (two [] []) ≡ sum_by b (two [] [])
  others = sums_agree a b (two [] []) (λ k within. elim (cases_eq k g) [
    | inl on_g ↦ none_there k (ap (word_of (two [] [])) on_g ∙ second-two_set ws f g [] [] [] g_in)
    | inr not_g ↦ elim (cases_eq k f) [
      | inl on_f ↦ none_there k (ap (word_of (two [] [])) on_f ∙ first-two_set ws f g [] [] [] differ f_in)
      | inr not_f ↦
          let is : word_of (two [] []) k ≡ word_of ws k = other-two_set ws f g [] [] [] k not_f not_g in
          ap a is ∙ same k (omega (arith, within, length-two_set ws f g [] [])) not_f not_g ∙ ap b (sym is)
    ]
  ])
    where
      none_there : (k : ℕ) → word_of (two [] []) k ≡ [] → a (word_of (two [] []) k) ≡ b (word_of (two [] []) k)
      none_there k is = ap a is ∙ none_a ∙ sym none_b ∙ ap b (sym is)

  pub sum_of_two : sum_by b (two u v) + (a (word_of ws f) + a (word_of ws g)) ≡ sum_by a ws + (b u + b v)
  sum_of_two = omega (arith, replaced_two a [] [], replaced_two b [] [], replaced_two b u v, others, none_a, none_b)

-- what is not negative
held : (z : ℤ) → pos 0 ≤ℤ z → z ≡ pos (unsigned_abs z)
held (pos n) least = refl
held (negsuc n) least = absurd (omega (arith, ordered))

height_least : (p : Point) → pos 0 ≤ℤ height_of p
height_least p = let across = square p.x in let up = square p.y in omega (arith, ordered)

volume_least : (a b c : Point) → TurnsLeft a b c → pos 0 ≤ℤ volume_of a b c
volume_least a b c left =
    let at_a = height_least a in
    let at_b = height_least b in
    let at_c = height_least c in
    times (orient2d_of a b c) (height_of a +ℤ height_of b +ℤ height_of c) (omega (arith, ordered)) (sum_least (height_of a) (height_of b) (height_of c) at_a at_b at_c)
  where
    sum_least : (x y z : ℤ) → pos 0 ≤ℤ x → pos 0 ≤ℤ y → pos 0 ≤ℤ z → pos 0 ≤ℤ (x +ℤ y +ℤ z)
    sum_least x y z hx hy hz = omega (arith, ordered)

fewer : (a b c d i : ℤ) → pos 0 ≤ℤ a → pos 0 ≤ℤ b → pos 0 ≤ℤ c → pos 0 ≤ℤ d → pos 0 <ℤ i → a +ℤ b ≡ (c +ℤ d) +ℤ i → unsigned_abs c + unsigned_abs d < unsigned_abs a + unsigned_abs b
fewer a b c d i ha hb hc hd hi is = least (unsigned_abs a) (unsigned_abs b) (unsigned_abs c) (unsigned_abs d)
    (ap (λ z. z +ℤ pos (unsigned_abs b)) (sym (held a ha)) ∙ ap (λ z. a +ℤ z) (sym (held b hb)) ∙ is ∙ ap (λ z. (z +ℤ d) +ℤ i) (held c hc) ∙ ap (λ z. (pos (unsigned_abs c) +ℤ z) +ℤ i) (held d hd))
  where
    least : (k l m n : ℕ) → pos k +ℤ pos l ≡ (pos m +ℤ pos n) +ℤ i → m + n < k + l
    least k l m n e = omega (arith, ordered)

-- the word of three, from any of its half edges on
module _ (at : ℕ → Point) (s : Shape) where
  abbrev Weighs : ℕ → ℕ → ℕ → ℕ → Type 0
  Weighs total x y z = volume_under at s (x ∷ y ∷ z ∷ []) ≡ total

  weighs_turned : (total x y z : ℕ) → Weighs total x y z → Weighs total y z x
  weighs_turned total x y z is = ap unsigned_abs (volume-turned (at (origin_of s x)) (at (origin_of s y)) (at (origin_of s z))) ∙ is

  volume_least_first : (x y z : ℕ) → volume_under at s (from_least (x ∷ y ∷ z ∷ [])) ≡ volume_under at s (x ∷ y ∷ z ∷ [])
  volume_least_first x y z =
      let turn = from_least-turn (x ∷ y ∷ z ∷ []) in
      let (a, b, c, is) = three_items (from_least (x ∷ y ∷ z ∷ [])) (length-turn turn) in
      ap (volume_under at s) is
      ∙ turned_along (Weighs (volume_under at s (x ∷ y ∷ z ∷ []))) (weighs_turned (volume_under at s (x ∷ y ∷ z ∷ []))) x y z a b c
      (subst (λ (l : List ℕ). TurnsTo (x ∷ y ∷ z ∷ []) l) is turn) refl

volumes_are : (at : ℕ → Point) {a b c a' b' c' : ℕ} → a ≡ a' → b ≡ b' → c ≡ c' → unsigned_abs (volume_of (at a) (at b) (at c)) ≡ unsigned_abs (volume_of (at a') (at b') (at c'))
volumes_are at {a} {b} {c} {a'} {b'} {c'} ea eb ec =
    ap (λ k. unsigned_abs (volume_of (at k) (at b) (at c))) ea ∙ ap (λ k. unsigned_abs (volume_of (at a') (at k) (at c))) eb
    ∙ ap (λ k. unsigned_abs (volume_of (at a') (at b') (at k))) ec

-- words whose half edges start where they did
same_under : (at : ℕ → Point) (s n : Shape) (w : List ℕ) → ((h : ℕ) → 0 < count_of h w → origin_of n h ≡ origin_of s h) → volume_under at s w ≡ volume_under at n w
same_under at s n [] same = refl
same_under at s n (x ∷ []) same = refl
same_under at s n (x ∷ y ∷ []) same = refl
same_under at s n (x ∷ y ∷ z ∷ []) same =
    let at_x = same x (omega (arith, count-same x (y ∷ z ∷ []))) in
    let at_y = same y (count-later y x (y ∷ z ∷ []) (omega (arith, count-same y (z ∷ [])))) in
    let at_z = same z (count-later z x (y ∷ z ∷ []) (count-later z y (z ∷ []) (omega (arith, count-same z [])))) in
    volumes_are at (sym at_x) (sym at_y) (sym at_z)
same_under at s n (x ∷ y ∷ z ∷ t ∷ r) same = refl

module _ {V DE UE F : Type 0} (m : Mesh V DE UE F) (mesh : IsMesh m) (u : ℕ) (can : CanFlip m.shape u) (at : ℕ → Point) (f_inner : 0 < face_of m.shape (2 * u))
    (g_inner : 0 < face_of m.shape (2 * u + 1)) (circled : IsCircled at m.shape u) (plane : TrianglesTurnLeft at m.shape) where
  abbrev s : Shape
  s = m.shape

  abbrev n : Shape
  n = (edge_flipped m u).shape

  open (at_edge s u) use {e, t, f, g, ep, en, tp, tn}
  open (known m mesh) use {sound, stands}
  open (at_flip m u mesh can) use {was, facing, differ}

  abbrev start : Point
  start = at (origin_of s e)

  abbrev end : Point
  end = at (origin_of s t)

  abbrev near : Point
  near = at (origin_of s ep)

  abbrev far : Point
  far = at (origin_of s tp)

  first_before : volume_under at s (word_of s.words f) ≡ unsigned_abs (volume_of start end near)
  first_before =
      ap (volume_under at s) (triangle_written (map_of s) sound f e en ep was s.words stands)
      ∙ volume_least_first at s e en ep ∙ ap (λ k. unsigned_abs (volume_of start (at k) near)) (from_end m mesh u can)

  second_before : volume_under at s (word_of s.words g) ≡ unsigned_abs (volume_of end start far)
  second_before =
      ap (volume_under at s) (triangle_written (map_of s) sound g t tn tp facing s.words stands)
      ∙ volume_least_first at s t tn tp ∙ ap (λ k. unsigned_abs (volume_of end (at k) far)) (from_start m mesh u can)

  first_after : volume_under at n (from_least (e ∷ tp ∷ en ∷ [])) ≡ unsigned_abs (volume_of near far end)
  first_after =
      volume_least_first at n e tp en
      ∙ volumes_are at (origin_e m mesh u can) (origin_far m mesh u can at) (origin_after m mesh u can at ∙ from_end m mesh u can)

  second_after : volume_under at n (from_least (t ∷ ep ∷ tn ∷ [])) ≡ unsigned_abs (volume_of far near start)
  second_after =
      volume_least_first at n t ep tn
      ∙ volumes_are at (origin_t m mesh u can) (origin_near m mesh u can at) (origin_t_after m mesh u can at ∙ from_start m mesh u can)

  elsewhere : (k : ℕ) → k < face_count s → k ≢ f → k ≢ g → volume_under at s (word_of s.words k) ≡ volume_under at n (word_of s.words k)
  elsewhere k within not_f not_g = same_under at s n (word_of s.words k) (λ h. starts_else m mesh u can k h not_f not_g)

  pub volume_falls : volume_below at n < volume_below at s
  volume_falls =
      let new = new_corners m mesh u can at plane f_inner g_inner circled in
      let less = fewer (volume_of start end near) (volume_of end start far) (volume_of near far end) (volume_of far near start) (incircle_of start end near far)
      (volume_least start end near (left_before m mesh u can at plane f_inner)) (volume_least end start far (right_before m mesh u can at plane g_inner))
      (volume_least near far end new.first) (volume_least far near start new.second) circled (flip-lowers start end near far) in
      let both = sum_of_two (volume_under at s) (volume_under at n) s.words f g (from_least (e ∷ tp ∷ en ∷ [])) (from_least (t ∷ ep ∷ tn ∷ []))
      (sound.below_faces e was.live_x) (sound.below_faces t facing.live_x) differ refl refl elsewhere in
      omega (arith, less, both, first_before, second_before, first_after, second_after)
