-- What a strip cut links: the outer face goes from before the strip along it to its last half edge, and all else stays.
use Rattle.std.proofs.Common.{◌≡◌, ◌≢◌, ◌⊎◌, inl, inr, ◌/◌, ◌<◌, ◌≤◌, ℕ, false, List, [], ◌∷◌, ◌++◌, map, slice_set, sym, refl, ap, ◌∙◌, subst, arith}
use Rattle.std.proofs.lemmas.Bool.{cases_eq, cases_lt, false_from_ne_true}
use Rattle.dcel_maps.specs.Cyclic.{from_least}
use Rattle.dcel_maps.specs.edits.Strip.{but_last, strip_cut, strip_record, strip_word}
use Rattle.dcel_maps.specs.Hiding.{kept_words}
use Rattle.dcel_maps.specs.Maps.{Live, Map}
use Rattle.dcel_maps.specs.Removals.{Closed, Removal, gives_up_edge, gives_up_face, shown}
use Rattle.dcel_maps.specs.Shapes.{IsLive, IsMesh, IsSound, IsSphere, Mesh, Shape, face_count, face_of, map_of, next_of, origin_of, prev_of}
use Rattle.dcel_maps.specs.Strips.{IsEdgeStrip, IsStripAround}
use Rattle.dcel_maps.specs.theory.Cycles.{IsCycle, Path}
use Rattle.dcel_maps.specs.theory.Standing.{Follows}
use Rattle.dcel_maps.specs.Words.{count_of, last_of, word_of}
use Rattle.dcel_maps.proofs.maps.Agreement.{Agrees}
use Rattle.dcel_maps.proofs.removal.Spokes.{path_item}
use Rattle.dcel_maps.proofs.removal.StripItems.{strip-is, strip_gives}
use Rattle.dcel_maps.proofs.removal.StripMeshes.{strip_word-is}
use Rattle.dcel_maps.proofs.removal.StripShapes.{GivesUpStrip, M, agrees, hole, in_map, items, keeps, ring_once, same_origin, t, vacant, was_live, word-outer, words_stand}
use Rattle.dcel_maps.proofs.removal.StripSpokes.{OuterWord, outer_word, trip}
use Rattle.dcel_maps.proofs.shapes.Maps.{map-sound}
use Rattle.dcel_maps.proofs.words.Counts.{count-append, count-same, first_or_later}
use Rattle.dcel_maps.proofs.words.EachSet.{but_last-is, last_of-is}
use Rattle.dcel_maps.proofs.words.Paths.{Path-changed, Path-split, last_of-leads}
use Rattle.dcel_maps.proofs.words.Reading.{stands_in_face}
use Rattle.dcel_maps.proofs.words.Turns.{count-turn, from_least-turn}

-- the links lead from a to b on the face f
pub record LeadsOn (s : Shape) (f a b : ℕ) : Type 0 where
  pub live : IsLive s a
  pub next : next_of s a ≡ b
  pub prev : prev_of s b ≡ a
  pub face : face_of s a ≡ f

-- what a strip cut links: its items come between `before` and `last`, on the outer face
pub record CutLinks (s t : Shape) (before last : ℕ) (items : List ℕ) : Type 0 where
  pub path : Path (LeadsOn t 0) before items last
  pub once : (k : ℕ) → count_of k items ≤ 1
  pub before_apart : count_of before items ≡ 0
  pub last_apart : count_of last items ≡ 0
  pub last_live : IsLive t last
  pub was_live : (x : ℕ) → IsLive t x → IsLive s x
  pub next_other : (x : ℕ) → IsLive t x → count_of x items ≡ 0 → x ≢ before → next_of t x ≡ next_of s x
  pub prev_other : (x : ℕ) → IsLive t x → count_of x items ≡ 0 → x ≢ last → prev_of t x ≡ prev_of s x
  pub face_other : (x : ℕ) → IsLive t x → count_of x items ≡ 0 → face_of t x ≡ face_of s x
  pub origin : (x : ℕ) → IsLive t x → origin_of t x ≡ origin_of s x

-- a path goes on where another one over the same list does, but at its last item
both_go : (R S : ℕ → ℕ → Type 0) (x : ℕ) (r : List ℕ) (e k : ℕ) → Path R x r e → Path S x r k → (z : ℕ) → 0 < count_of z (x ∷ r)
    → (z ≡ last_of x r) ⊎ ((w : ℕ) × R z w × S z w)
both_go R S x [] e k p q z found = elim (first_or_later z x [] found) [ inl is ↦ inl is | inr none ↦ absurd (omega (arith, none)) ]
both_go R S x (y ∷ r) e k p q z found = elim (first_or_later z x (y ∷ r) found) [
  | inl is ↦ inr (y, subst (λ u. R u y) (sym is) p.0, subst (λ u. S u y) (sym is) q.0)
  | inr later ↦ both_go R S y r e k p.1 q.1 z later
]

-- and comes from where the other one does, but at its first item
both_come : (R S : ℕ → ℕ → Type 0) (x : ℕ) (r : List ℕ) (e k : ℕ) → Path R x r e → Path S x r k → (z : ℕ) → 0 < count_of z r
    → (w : ℕ) × R w z × S w z
both_come R S x [] e k p q z found = absurd (omega (arith, found))
both_come R S x (y ∷ r) e k p q z found = elim (first_or_later z y r found) [
  | inl is ↦ (x, subst (R x) (sym is) p.0, subst (S x) (sym is) q.0)
  | inr later ↦ both_come R S y r e k p.1 q.1 z later
]

-- the last part of a path
path_on : (R : ℕ → ℕ → Type 0) (x : ℕ) (r more : List ℕ) (e : ℕ) → Path R x (r ++ more) e → Path R (last_of x r) more e
path_on R x [] more e p = p
path_on R x (y ∷ r) more e p = path_on R y r more e p.1

-- its first part, to whatever comes then
path_up_to : (R : ℕ → ℕ → Type 0) (x : ℕ) (r more : List ℕ) (e : ℕ) → Path R x (r ++ more) e → (k : ℕ) × Path R x r k
path_up_to R x [] [] e p = (e, p)
path_up_to R x [] (i ∷ more) e p = (i, p.0)
path_up_to R x (y ∷ r) more e p = let (k, q) = path_up_to R y r more e p.1 in (k, (p.0, q))

last_stands : (x : ℕ) (r : List ℕ) → 0 < count_of (last_of x r) (x ∷ r)
last_stands x [] = omega (arith, count-same x [])
last_stands x (y ∷ r) = omega (arith, last_stands y r)

module _ (s : Shape) (sound : IsSound s) (sphere : IsSphere s) (v h : ℕ) (around : IsStripAround s v h) (closed : s.removal ≡ Closed)
    (removal : Removal) (gives : GivesUpStrip s v removal) (some_face : 0 < face_count s)
    (y : ℕ) (r : List ℕ) (outer : OuterWord s sound sphere v h around y r) where
  abbrev strip : List ℕ
  strip = items s sound sphere v h around closed removal gives some_face y r outer

  abbrev u : Shape
  u = t s sound sphere v h around closed removal gives some_face y r outer

  abbrev N : Map
  N = M s sound sphere v h around closed removal gives some_face y r outer

  around_hole : IsCycle (Follows N 0) (y ∷ r ++ strip)
  around_hole = (hole s sound sphere v h around closed removal gives some_face y r outer).cycle

  to_map : (x : ℕ) → IsLive u x → Live N x
  to_map = in_map s sound sphere v h around closed removal gives some_face y r outer

  same : Agrees N (map_of u)
  same = agrees s sound sphere v h around closed removal gives some_face y r outer

  on_ring : (x : ℕ) → 0 < count_of x (y ∷ r ++ strip) → Live N x × (N.face x ≡ 0)
  on_ring = path_item N 0 y (r ++ strip) y around_hole

  -- a half edge that is left is an old one of the outer face, an item of the strip, or linked as before
  abbrev Kept : ℕ → Type 0
  Kept x = (N.next x ≡ next_of s x) × (N.prev x ≡ prev_of s x) × (N.face x ≡ face_of s x)

  ring_or_kept : (x : ℕ) → Live N x → (0 < count_of x (y ∷ r)) ⊎ ((0 < count_of x strip) ⊎ Kept x)
  ring_or_kept x live = elim (cases_eq (N.face x) 0) [
    | inl outside ↦
        let there = stands_in_face N u.words (words_stand s sound sphere v h around closed removal gives some_face y r outer) x live in
        let found : 0 < count_of x (word_of u.words 0) = subst (λ f. 0 < count_of x (word_of u.words f)) outside there in
        let along : 0 < count_of x (y ∷ r ++ strip) =
        omega (arith, found, ap (count_of x) (word-outer s sound sphere v h around closed removal gives some_face y r outer), count-turn x (from_least-turn (y ∷ r ++ strip))) in
        elim (cases_lt 0 (count_of x strip)) [
          | inl item ↦ inr (inl item)
          | inr none ↦ inl (omega (arith, along, none, count-append x (y ∷ r) strip))
        ]
    | inr inside ↦
        let kept : gives_up_face removal (N.face x) ≡ false =
        false_from_ne_true (gives_up_face removal (N.face x)) (λ given. vacant s sound sphere v h around closed removal gives some_face y r outer (N.face x) given x live refl) in
        let keep = keeps s sound sphere v h around closed removal gives some_face y r outer (N.face x) inside kept in
        let was = keep.comes x live refl in
        inr (inr (keep.next x was.0 was.1, keep.prev x was.0 was.1, sym was.1))
  ]

  old_part : (k : ℕ) × Path (Follows N 0) y r k
  old_part = path_up_to (Follows N 0) y r strip y around_hole

  was_part : Path (Follows (map_of s) (face_of s h)) y r (prev_of s h)
  was_part = (Path-split (Follows (map_of s) (face_of s h)) h (y ∷ r) (prev_of s h) [] h outer.cycle).0.1

  old_next : (x : ℕ) → 0 < count_of x (y ∷ r) → x ≢ last_of y r → N.next x ≡ next_of s x
  old_next x found other =
      elim (both_go (Follows N 0) (Follows (map_of s) (face_of s h)) y r old_part.0 (prev_of s h) old_part.1 was_part x found) [
        | inl is ↦ absurd (other is)
        | inr (w, now, was) ↦ now.next ∙ sym was.next
      ]

  old_prev : (x : ℕ) → 0 < count_of x (y ∷ r) → x ≢ y → N.prev x ≡ prev_of s x
  old_prev x found other = elim (first_or_later x y r found) [
    | inl is ↦ absurd (other is)
    | inr later ↦
        let (w, now, was) = both_come (Follows N 0) (Follows (map_of s) (face_of s h)) y r old_part.0 (prev_of s h) old_part.1 was_part x later in
        now.prev ∙ sym was.prev
  ]

  old_face : (x : ℕ) → 0 < count_of x (y ∷ r) → face_of s x ≡ 0
  old_face x found = (path_item (map_of s) (face_of s h) y r (prev_of s h) was_part x found).1 ∙ around.outer

  -- the links of the shape are those of the map
  leads : (a b : ℕ) → Follows N 0 a b → Live N b → LeadsOn u 0 a b
  leads a b link live = record {
    live = same.edge (a / 2) ∙ link.live;
    next = same.next a link.live ∙ link.next;
    prev = same.prev b live ∙ link.prev;
    face = same.face a link.live ∙ link.face;
  }

  apart_old : (x : ℕ) → 0 < count_of x (y ∷ r) → count_of x strip ≡ 0
  apart_old x found = omega (arith, found, ring_once s sound sphere v h around closed removal gives some_face y r outer x, count-append x (y ∷ r) strip)

  -- what is off the strip is on the ring or kept
  off_strip : {P : Type 0} (x : ℕ) → Live N x → count_of x strip ≡ 0 → (0 < count_of x (y ∷ r) → P) → (Kept x → P) → P
  off_strip x lives none on_old on_kept = elim (ring_or_kept x lives) [
    | inl old ↦ on_old old
    | inr (inl item) ↦ absurd (omega (arith, none, item))
    | inr (inr kept) ↦ on_kept kept
  ]

  pub cut_links : CutLinks s u (last_of y r) y strip
  cut_links =
      let first : 0 < count_of y (y ∷ r) = omega (arith, count-same y r) in
      record {
        path =
            Path-changed (Follows N 0) (LeadsOn u 0) (last_of y r) strip y y
            (λ a b a_in b_in link. leads a b link (on_ring b (omega (arith, b_in, count-append b (y ∷ r) strip))).0)
            (λ a a_in link. leads a y link (on_ring y (omega (arith, first, count-append y (y ∷ r) strip))).0)
            (path_on (Follows N 0) y r strip y around_hole);
        once = λ k. omega (arith, ring_once s sound sphere v h around closed removal gives some_face y r outer k, count-append k (y ∷ r) strip);
        before_apart = apart_old (last_of y r) (last_stands y r);
        last_apart = apart_old y first;
        last_live = same.edge (y / 2) ∙ (on_ring y (omega (arith, first, count-append y (y ∷ r) strip))).0;
        was_live = λ x live. was_live s sound sphere v h around closed removal gives some_face y r outer x live;
        next_other = λ x live none other.
            let lives = to_map x live in same.next x lives ∙ off_strip x lives none (λ old. old_next x old other) (λ kept. kept.0);
        prev_other = λ x live none other.
            let lives = to_map x live in same.prev x lives ∙ off_strip x lives none (λ old. old_prev x old other) (λ kept. kept.1);
        face_other = λ x live none.
            let lives = to_map x live in
            same.face x lives ∙ off_strip x lives none
            (λ old. (on_ring x (omega (arith, old, count-append x (y ∷ r) strip))).1 ∙ sym (old_face x old)) (λ kept. kept.2);
        origin = λ x live. same_origin s sound sphere v h around closed removal gives some_face y r outer x live;
      }

module _ {V DE UE F : Type 0} (m : Mesh V DE UE F) (mesh : IsMesh m) (closed : m.shape.removal ≡ Closed) (v h : ℕ)
    (strip_around : IsStripAround m.shape v h) (y : ℕ) (r : List ℕ) (outer : OuterWord m.shape mesh.sound mesh.sphere v h strip_around y r) where
  abbrev es : List ℕ
  es = map (next_of m.shape) (trip m.shape mesh.sound mesh.sphere v h strip_around).rest

  abbrev whole : List ℕ
  whole = es ++ next_of m.shape h ∷ []

  gives_whole : GivesUpStrip m.shape v (strip_record m.shape whole)
  gives_whole = strip_gives m.shape mesh.sound mesh.sphere v h strip_around

  before_is : prev_of m.shape (prev_of m.shape (prev_of m.shape (next_of m.shape h))) ≡ last_of y r
  before_is =
      let back : prev_of m.shape (next_of m.shape h) ≡ h = (map-sound mesh.sound).prev-next h strip_around.out.live in
      let parts = Path-split (Follows (map_of m.shape) (face_of m.shape h)) h (y ∷ r) (prev_of m.shape h) [] h outer.cycle in
      ap (λ k. prev_of m.shape (prev_of m.shape k)) back
      ∙ (last_of-leads (Follows (map_of m.shape) (face_of m.shape h)) y r (prev_of m.shape h) parts.0.1).prev

  word : strip_word m.shape whole ≡ from_least (y ∷ r ++ es)
  word = strip_word-is m mesh v h strip_around closed (strip_record m.shape whole) gives_whole y r outer

  links_whole : CutLinks m.shape (strip_cut m whole).shape (last_of y r) y es
  links_whole =
      subst (λ (w : List ℕ). CutLinks m.shape (record m.shape {
        words = kept_words (strip_record m.shape whole) (slice_set m.shape.words 0 w);
        origins = shown (gives_up_edge (strip_record m.shape whole)) m.shape.origins;
        removal = strip_record m.shape whole;
      }) (last_of y r) y es) (sym word)
      (cut_links m.shape mesh.sound mesh.sphere v h strip_around closed (strip_record m.shape whole) gives_whole mesh.sized.outer y r outer)

  strip_links_at : (front : List ℕ) (last : ℕ) → front ≡ es → last ≡ next_of m.shape h
      → CutLinks m.shape (strip_cut m (front ++ last ∷ [])).shape (prev_of m.shape (prev_of m.shape (prev_of m.shape last))) last front
  strip_links_at front last begin end =
      subst (λ f. CutLinks m.shape (strip_cut m (f ++ last ∷ [])).shape (prev_of m.shape (prev_of m.shape (prev_of m.shape last))) last f) (sym begin)
      (subst (λ z. CutLinks m.shape (strip_cut m (es ++ z ∷ [])).shape (prev_of m.shape (prev_of m.shape (prev_of m.shape z))) z es) (sym end)
      (subst (λ p. CutLinks m.shape (strip_cut m whole).shape p (next_of m.shape h) es) (sym before_is)
      (subst (λ z. CutLinks m.shape (strip_cut m whole).shape (last_of y r) z es) (sym outer.cycle.0.next) links_whole)))

-- what a strip cut links, in a mesh
pub strip_links : {V DE UE F : Type 0} (m : Mesh V DE UE F) (items : List ℕ) (last : ℕ) → IsMesh m → m.shape.removal ≡ Closed
    → IsEdgeStrip m.shape (items ++ last ∷ [])
    → CutLinks m.shape (strip_cut m (items ++ last ∷ [])).shape (prev_of m.shape (prev_of m.shape (prev_of m.shape last))) last items
strip_links m front last mesh closed strip =
    let s = m.shape in
    let h = strip.half in
    let v = strip.vertex in
    let es = map (next_of m.shape) (trip m.shape mesh.sound mesh.sphere strip.vertex strip.half strip.around).rest in
    let (y, r, outer) = outer_word m.shape mesh.sound mesh.sphere strip.vertex strip.half strip.around in
    let both : front ++ last ∷ [] ≡ es ++ next_of s h ∷ [] = strip.is ∙ strip-is m.shape mesh.sound mesh.sphere strip.vertex strip.half strip.around in
    let end : last ≡ next_of s h = sym (last_of-is 0 front last) ∙ ap (last_of 0) both ∙ last_of-is 0 es (next_of s h) in
    let begin : front ≡ es = sym (but_last-is front last) ∙ ap but_last both ∙ but_last-is es (next_of s h) in
    strip_links_at m mesh closed v h strip.around y r outer front last begin end
