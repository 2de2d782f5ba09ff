-- The words, origins and anchors that a fan leaves.
use Rattle.std.proofs.Common.{◌≡◌, ◌≢◌, inl, inr, ◌+◌, ◌*◌, ◌<◌, ◌≤◌, ℕ, zero, suc, List, [], ◌∷◌, length, slice_index, slice_index_or, slice_set, Option, Some, None, sym, refl, ap, ◌∙◌, subst, arith}
use Rattle.std.proofs.lemmas.Bool.{cases_eq}
use Rattle.std.proofs.lemmas.List.{get_or-set_other, get_or-set_same, length-set}
use Rattle.dcel_maps.specs.Maps.{Live, Map}
use Rattle.dcel_maps.specs.theory.Sound.{Sound}
use Rattle.dcel_maps.specs.Shapes.{AnchorsWord}
use Rattle.dcel_maps.specs.Words.{count_of, word_of}
use Rattle.dcel_maps.proofs.words.Counts.{count-later, count-same, first_or_later}
use Rattle.dcel_maps.proofs.words.Faces.{IsWordOf}
use Rattle.dcel_maps.proofs.maps.Triangles.{IsTriangleOf}
use Rattle.dcel_maps.specs.Cyclic.{from_least}
use Rattle.dcel_maps.proofs.words.Triangles.{triangle-word_of}
use Rattle.dcel_maps.proofs.words.Turns.{count-turn, from_least-turn, length-turn}
use Rattle.dcel_maps.specs.edits.Fill.{ear_anchors, ear_origins, ears, anchors_round}
use Rattle.dcel_maps.proofs.removal.Fans.{EarTriangles, EarOrigins}

-- an item of a word stands in its least form
stands_least : (h : ℕ) (w : List ℕ) → 0 < count_of h w → 0 < count_of h (from_least w)
stands_least h w found = omega (arith, found, count-turn h (from_least-turn w))

pub length-ears : (m p q r : ℕ) (rest : List ℕ) → length (ears m p q r rest) ≡ suc (length rest)
length-ears m p q r [] = refl
length-ears m p q r (x ∷ rest) = ap suc (length-ears (suc m) (2 * m + 1) r x rest)

pub length-ear_anchors : (m p : ℕ) (rest : List ℕ) → length (ear_anchors m p rest) ≡ suc (length rest)
length-ear_anchors m p [] = refl
length-ear_anchors m p (x ∷ rest) = ap suc (length-ear_anchors (suc m) (2 * m + 1) rest)

pub length-ear_origins : (o : ℕ → ℕ) (a r : ℕ) (rest : List ℕ) → length (ear_origins o a r rest) ≡ 2 * length rest
length-ear_origins o a r [] = refl
length-ear_origins o a r (x ∷ rest) = omega (arith, length-ear_origins o a x rest)

-- each ear is the word of its face
pub ear_words : (M : Map) → Sound M → (m g p q r : ℕ) (rest : List ℕ) → EarTriangles M m g p q r rest → (k : ℕ) → k < suc (length rest)
    → IsWordOf M (g + k) (word_of (ears m p q r rest) k)
ear_words M sound m g p q r [] triangles zero within = subst (λ f. IsWordOf M f (from_least (p ∷ q ∷ r ∷ []))) (omega arith) (triangle-word_of M sound g p q r triangles)
ear_words M sound m g p q r [] triangles (suc k) within = absurd (omega (arith, within))
ear_words M sound m g p q r (x ∷ rest) triangles zero within =
    subst (λ f. IsWordOf M f (from_least (p ∷ q ∷ 2 * m ∷ []))) (omega arith) (triangle-word_of M sound g p q (2 * m) triangles.0)
ear_words M sound m g p q r (x ∷ rest) triangles (suc k) within =
    subst (λ f. IsWordOf M f (word_of (ears (suc m) (2 * m + 1) r x rest) k)) (omega arith)
    (ear_words M sound (suc m) (suc g) (2 * m + 1) r x rest triangles.1 k (omega (arith, within)))

-- no ear is empty, and its anchor stands in it
pub ear_anchored : (m p q r : ℕ) (rest : List ℕ) (k : ℕ) → k < suc (length rest)
    → AnchorsWord (word_of (ears m p q r rest) k) (slice_index_or (ear_anchors m p rest) k None)
ear_anchored m p q r [] zero within = stands_least p (p ∷ q ∷ r ∷ []) (omega (arith, count-same p (q ∷ r ∷ [])))
ear_anchored m p q r [] (suc k) within = absurd (omega (arith, within))
ear_anchored m p q r (x ∷ rest) zero within =
    stands_least (2 * m) (p ∷ q ∷ 2 * m ∷ []) (count-later (2 * m) p (q ∷ 2 * m ∷ []) (count-later (2 * m) q (2 * m ∷ []) (omega (arith, count-same (2 * m) []))))
ear_anchored m p q r (x ∷ rest) (suc k) within = ear_anchored (suc m) (2 * m + 1) r x rest k (omega (arith, within))

pub ear_full : (m p q r : ℕ) (rest : List ℕ) (k : ℕ) → k < suc (length rest) → length (word_of (ears m p q r rest) k) ≡ 3
ear_full m p q r [] zero within = length-turn (from_least-turn (p ∷ q ∷ r ∷ []))
ear_full m p q r [] (suc k) within = absurd (omega (arith, within))
ear_full m p q r (x ∷ rest) zero within = length-turn (from_least-turn (p ∷ q ∷ 2 * m ∷ []))
ear_full m p q r (x ∷ rest) (suc k) within = ear_full (suc m) (2 * m + 1) r x rest k (omega (arith, within))

-- the listed origins are those of the map
pub listed_origin : (M : Map) (m : ℕ) (o : ℕ → ℕ) (a r : ℕ) (rest : List ℕ) → EarOrigins M m o a r rest → (i : ℕ) → i < 2 * length rest
    → slice_index (ear_origins o a r rest) i ≡ M.origin (2 * m + i)
listed_origin M m o a r [] at i within = absurd (omega (arith, within))
listed_origin M m o a r (x ∷ rest) at zero within = sym (ap M.origin (omega arith) ∙ at.0)
listed_origin M m o a r (x ∷ rest) at (suc zero) within = sym at.1
listed_origin M m o a r (x ∷ rest) at (suc (suc i)) within =
    listed_origin M (suc m) o a x rest at.2 i (omega (arith, within)) ∙ ap M.origin (omega arith)

-- and each is that of a vertex of the ring
pub new_origin : (M : Map) (Q : ℕ → Type 0) (m : ℕ) (o : ℕ → ℕ) (a r : ℕ) (rest : List ℕ) → EarOrigins M m o a r rest → Q a
    → ((y : ℕ) → 0 < count_of y (r ∷ rest) → Q (o y)) → (i : ℕ) → i < 2 * length rest → Q (M.origin (2 * m + i))
new_origin M Q m o a r [] at apex items i within = absurd (omega (arith, within))
new_origin M Q m o a r (x ∷ rest) at apex items zero within =
    subst Q (sym (ap M.origin (omega arith) ∙ at.0)) (items r (omega (arith, count-same r (x ∷ rest))))
new_origin M Q m o a r (x ∷ rest) at apex items (suc zero) within = subst Q (sym at.1) apex
new_origin M Q m o a r (x ∷ rest) at apex items (suc (suc i)) within =
    subst (λ h. Q (M.origin h)) (omega arith)
    (new_origin M Q (suc m) o a x rest at.2 apex (λ y found. items y (count-later y r (x ∷ rest) found)) i (omega (arith, within)))

-- the first item of the last ear
abbrev pub last_first : ℕ → ℕ → List ℕ → ℕ
last_first m p [] = p
last_first m p (x ∷ rest) = last_first (suc m) (2 * m + 1) rest

pub last_live : (M : Map) (m g p q r : ℕ) (rest : List ℕ) → EarTriangles M m g p q r rest → Live M (last_first m p rest)
last_live M m g p q r [] triangles = triangles.live_x
last_live M m g p q r (x ∷ rest) triangles = last_live M (suc m) (suc g) (2 * m + 1) r x rest triangles.1

pub last_origin : (M : Map) (m : ℕ) (o : ℕ → ℕ) (a p r : ℕ) (rest : List ℕ) → EarOrigins M m o a r rest → M.origin p ≡ a
    → M.origin (last_first m p rest) ≡ a
last_origin M m o a p r [] at first = first
last_origin M m o a p r (x ∷ rest) at first = last_origin M (suc m) o a (2 * m + 1) x rest at.2 at.1

pub length-anchors_round : (o : ℕ → ℕ) (a : ℕ) (anchors : List (Option ℕ)) (m p q r : ℕ) (rest : List ℕ)
    → length (anchors_round o a anchors m p q r rest) ≡ length anchors
length-anchors_round o a anchors m p q r [] =
    let one = slice_set anchors (o r) (Some r) in
    let two = slice_set one (o q) (Some q) in
    length-set two a (Some p) ∙ length-set one (o q) (Some q) ∙ length-set anchors (o r) (Some r)
length-anchors_round o a anchors m p q r (x ∷ rest) =
    length-anchors_round o a (slice_set anchors (o q) (Some q)) (suc m) (2 * m + 1) r x rest ∙ length-set anchors (o q) (Some q)

-- an anchor that is set at one place
set_at : (Q : Option ℕ → Type 0) (anchors : List (Option ℕ)) (u h w : ℕ) → w < length anchors → (u ≡ w → Q (Some h))
    → (u ≢ w → Q (slice_index_or anchors w None)) → Q (slice_index_or (slice_set anchors u (Some h)) w None)
set_at Q anchors u h w within new old = elim (cases_eq w u) [
  | inl same ↦
      subst Q (sym (ap (λ z. slice_index_or (slice_set anchors u (Some h)) z None) same ∙ get_or-set_same anchors u (Some h) None (omega (arith, within, same))))
      (new (sym same))
  | inr other ↦ subst Q (sym (get_or-set_other anchors u w (Some h) None other)) (old (λ i. other (sym i)))
]

-- the anchor of a vertex w: an item of the ring that starts there, and the old one where none does
pub round_anchor : (Q : Option ℕ → Type 0) (o : ℕ → ℕ) (a w : ℕ) (rest : List ℕ) (anchors : List (Option ℕ)) (m p q r : ℕ)
    → w < length anchors → ((y : ℕ) → 0 < count_of y (q ∷ r ∷ rest) → o y ≡ w → Q (Some y)) → (a ≡ w → Q (Some (last_first m p rest)))
    → (((y : ℕ) → 0 < count_of y (q ∷ r ∷ rest) → o y ≢ w) → a ≢ w → Q (slice_index_or anchors w None))
    → Q (slice_index_or (anchors_round o a anchors m p q r rest) w None)
round_anchor Q o a w [] anchors m p q r within items apex old =
    let one = slice_set anchors (o r) (Some r) in
    let two = slice_set one (o q) (Some q) in
    let long_one = length-set anchors (o r) (Some r) in
    let long_two = length-set one (o q) (Some q) in
    set_at Q two a p w (omega (arith, within, long_one, long_two)) apex (λ off_a.
    set_at Q one (o q) q w (omega (arith, within, long_one)) (items q (omega (arith, count-same q (r ∷ [])))) (λ off_q.
    set_at Q anchors (o r) r w within (items r (count-later r q (r ∷ []) (omega (arith, count-same r [])))) (λ off_r.
    old (λ y found at. elim (first_or_later y q (r ∷ []) found) [
      | inl i ↦ off_q (ap o (sym i) ∙ at)
      | inr later ↦ elim (first_or_later y r [] later) [ inl i ↦ off_r (ap o (sym i) ∙ at) | inr none ↦ omega (arith, none) ]
    ]) off_a)))
round_anchor Q o a w (x ∷ rest) anchors m p q r within items apex old =
    round_anchor Q o a w rest (slice_set anchors (o q) (Some q)) (suc m) (2 * m + 1) r x (omega (arith, within, length-set anchors (o q) (Some q)))
    (λ y found. items y (count-later y q (r ∷ x ∷ rest) found)) apex (λ off off_a.
    set_at Q anchors (o q) q w within (items q (omega (arith, count-same q (r ∷ x ∷ rest)))) (λ off_q.
    old (λ y found at. elim (first_or_later y q (r ∷ x ∷ rest) found) [
      | inl i ↦ off_q (ap o (sym i) ∙ at)
      | inr later ↦ off y later at
    ]) off_a))

-- ears of one map are those of another that links them alike
pub ears_same : (M T : Map) → ((f x y z : ℕ) → IsTriangleOf M f x y z → IsTriangleOf T f x y z) → (m g p q r : ℕ) (rest : List ℕ)
    → EarTriangles M m g p q r rest → EarTriangles T m g p q r rest
ears_same M T same m g p q r [] triangles = same g p q r triangles
ears_same M T same m g p q r (x ∷ rest) triangles =
    (same g p q (2 * m) triangles.0, ears_same M T same (suc m) (suc g) (2 * m + 1) r x rest triangles.1)

-- each item of the ring lies on an ear
pub ring_in_ears : (M : Map) (m g p q r : ℕ) (rest : List ℕ) → EarTriangles M m g p q r rest → (y : ℕ) → 0 < count_of y (p ∷ q ∷ r ∷ rest) → g ≤ M.face y
ring_in_ears M m g p q r [] a y found = elim (first_or_later y p (q ∷ r ∷ []) found) [
  | inl i ↦ omega (arith, ap M.face i, a.face_x)
  | inr later ↦ elim (first_or_later y q (r ∷ []) later) [
    | inl i ↦ omega (arith, ap M.face i, a.face_y)
    | inr last ↦ elim (first_or_later y r [] last) [ inl i ↦ omega (arith, ap M.face i, a.face_z) | inr none ↦ absurd (omega (arith, none)) ]
  ]
]
ring_in_ears M m g p q r (x ∷ rest) a y found = elim (first_or_later y p (q ∷ r ∷ x ∷ rest) found) [
  | inl i ↦ omega (arith, ap M.face i, a.0.face_x)
  | inr later ↦ elim (first_or_later y q (r ∷ x ∷ rest) later) [
    | inl i ↦ omega (arith, ap M.face i, a.0.face_y)
    | inr last ↦
        omega (arith, ring_in_ears M (suc m) (suc g) (2 * m + 1) r x rest a.1 y (count-later y (2 * m + 1) (r ∷ x ∷ rest) last))
  ]
]
