-- A mesh that has the links of faces has their corners.
use Rattle.std.proofs.Common.{◌≡◌, ◌∙◌, inl, inr, ℕ, zero, suc, ◌+◌, ◌<◌, List, [], ◌∷◌, ◌++◌, length, map, slice_index, refl, sym, ap, subst, arith}
use Rattle.std.proofs.lemmas.List.{append_assoc, length-append}
use Rattle.dcel_fixed.specs.HalfEdges.{rev}
use Rattle.dcel_fixed.proofs.Halves.{rev-rev, rev_within}
use Rattle.dcel_links.specs.Claims.{Claim, halves}
use Rattle.dcel_links.specs.Meshes.{IsLinked}
use Rattle.dcel_maps.specs.Numbers.{numbers_between}
use Rattle.dcel_maps.specs.Shapes.{IsLive, Shape, face_of, origin_of}
use Rattle.dcel_maps.specs.Words.{TurnsTo, word_of}
use Rattle.dcel_maps.proofs.walks.Links.{half-below}
use Rattle.dcel_exchange.specs.Corners.{owners, starts}
use Rattle.dcel_exchange.specs.Meshes.{AreLinks, AreWords, HasFaces, side_count}
use Rattle.dcel_exchange.specs.Simple.{HasCorners, IsSimple}
use Rattle.dcel_exchange.proofs.Placed.{find_below, made_between, part_at}

-- the half edges of each face, the first side of which has the number p
abbrev rounds_from : (ℕ → ℕ) → ℕ → List (List ℕ) → List (List ℕ)
rounds_from number p [] = []
rounds_from number p (w ∷ ws) = map number (numbers_between p (p + length w)) ∷ rounds_from number (p + length w) ws

rounds_turn : (words : List (List ℕ)) (number : ℕ → ℕ) (ws : List (List ℕ)) (k p : ℕ) → AreWords words number k p ws
    → (f : ℕ) → f < length ws → TurnsTo (word_of words (k + f)) (word_of (rounds_from number p ws) f)
rounds_turn words number [] k p are f below = absurd (omega (arith, below))
rounds_turn words number (w ∷ ws) k p are zero below =
    let same : k ≡ k + 0 = omega arith in
    subst (λ g. TurnsTo (word_of words g) (map number (numbers_between p (p + length w)))) same are.0
rounds_turn words number (w ∷ ws) k p are (suc f) below =
    let same : suc k + f ≡ k + suc f = omega arith in
    subst (λ g. TurnsTo (word_of words g) (word_of (rounds_from number (p + length w) ws) f)) same
    (rounds_turn words number ws (suc k) (p + length w) are.1 f (omega (arith, below)))

map-twice : (f g : ℕ → ℕ) (w : List ℕ) → map f (map g w) ≡ map (λ k. f (g k)) w
map-twice f g [] = refl
map-twice f g (x ∷ w) = ap (λ r. f (g x) ∷ r) (map-twice f g w)

-- they start at the corners, if each side does
rounds_corners : (start number : ℕ → ℕ) (ws : List (List ℕ)) (front : List ℕ) (p : ℕ) → length front ≡ p
    → ((q : ℕ) → q < length (front ++ starts ws) → start (number q) ≡ slice_index (front ++ starts ws) q) → map (map start) (rounds_from number p ws) ≡ ws
rounds_corners start number [] front p long each = refl
rounds_corners start number (w ∷ ws) front p long each =
    let row : List ℕ = front ++ (w ++ starts ws) in
    let first : map start (map number (numbers_between p (p + length w))) ≡ w =
    map-twice start number (numbers_between p (p + length w))
    ∙ made_between (λ q. start (number q)) w p (λ k below.
    each (p + k) (omega (arith, long, below, length-append front (w ++ starts ws), length-append w (starts ws)))
    ∙ part_at front w (starts ws) p k long below) in
    let rest : map (map start) (rounds_from number (p + length w) ws) ≡ ws =
    rounds_corners start number ws (front ++ w) (p + length w) (length-append front w ∙ ap (λ n. n + length w) long)
    (subst (λ (r : List ℕ). (q : ℕ) → q < length r → start (number q) ≡ slice_index r q) (sym (append_assoc front w (starts ws))) each) in
    ap (λ u. u ∷ map (map start) (rounds_from number (p + length w) ws)) first ∙ ap (λ us. w ∷ us) rest

-- where the links are those of the faces, a half edge is told by its ends
module _ (vertices : ℕ) (faces : List (List ℕ)) (c : Claim) (links : AreLinks vertices faces c) where
  side_told : (p k : ℕ) → p < side_count faces → k < halves c → slice_index c.origin (links.number p) ≡ slice_index c.origin k
      → slice_index c.origin (rev (links.number p)) ≡ slice_index c.origin (rev k) → links.number p ≡ k
  side_told p k below within start end = elim (find_below links.number k (side_count faces)) [
    | inl (q, q_in, is) ↦
        let one : p ≡ q =
        links.distinct p q below q_in
        (sym (links.start p below) ∙ start ∙ ap (slice_index c.origin) (sym is) ∙ links.start q q_in)
        (sym (links.end p below) ∙ end ∙ ap (λ h. slice_index c.origin (rev h)) (sym is) ∙ links.end q q_in) in
        ap links.number one ∙ is
    | inr none ↦
        let b = links.beyond k within none in
        absurd (b.alone p below (
          sym (links.start p below) ∙ start ∙ ap (slice_index c.origin) (sym b.turn) ∙ links.end b.side b.within,
          sym (links.end p below) ∙ end ∙ ap (λ h. slice_index c.origin (rev h)) (sym b.turn)
              ∙ ap (slice_index c.origin) (rev-rev (links.number b.side)) ∙ links.start b.side b.within,
        ))
  ]

  pub told_by_ends : (h k : ℕ) → h < halves c → k < halves c → slice_index c.origin h ≡ slice_index c.origin k
      → slice_index c.origin (rev h) ≡ slice_index c.origin (rev k) → h ≡ k
  told_by_ends h k h_in k_in start end = elim (find_below links.number h (side_count faces)) [
    | inl (p, below, is) ↦
        sym is ∙ side_told p k below k_in (ap (slice_index c.origin) is ∙ start) (ap (λ x. slice_index c.origin (rev x)) is ∙ end)
    | inr none ↦
        let b = links.beyond h h_in none in
        let turn : links.number b.side ≡ rev h = sym (rev-rev (links.number b.side)) ∙ ap rev b.turn in
        let one : links.number b.side ≡ rev k =
        side_told b.side (rev k) b.within (rev_within k (halves c) links.lists.even k_in) (ap (slice_index c.origin) turn ∙ end)
        (ap (slice_index c.origin) (b.turn) ∙ start ∙ ap (slice_index c.origin) (sym (rev-rev k))) in
        sym (rev-rev h) ∙ ap rev (sym turn ∙ one) ∙ rev-rev k
  ]

module _ (s : Shape) (vertices : ℕ) (faces : List (List ℕ)) (c : Claim) (linked : IsLinked s c) (links : AreLinks vertices faces c) where
  within : (h : ℕ) → IsLive s h → h < halves c
  within h live = let e = linked.half_edges in omega (arith, e, half-below s h live)

  side_inner : (p h : ℕ) → p < side_count faces → links.number p ≡ h → face_of s h ≡ slice_index (owners 0 faces) p + 1
  side_inner p h below is = ap (face_of s) (sym is) ∙ linked.face (links.number p) (links.below p below) ∙ links.face p below

  -- each edge has a side, which lies on an inner face
  inside : (h : ℕ) → IsLive s h → face_of s h ≡ 0 → face_of s (rev h) ≡ 0 → ⊥
  inside h live outer turned = elim (find_below links.number h (side_count faces)) [
    | inl (p, below, is) ↦ omega (arith, side_inner p h below is, outer)
    | inr none ↦
        let b = links.beyond h (within h live) none in
        omega (arith, side_inner b.side (rev h) b.within (sym (rev-rev (links.number b.side)) ∙ ap rev b.turn), turned)
  ]

  pub has_corners : HasFaces s vertices faces → HasCorners s vertices faces
  has_corners has = record {
    closed = linked.closed;
    vertices_are = has.vertices_are;
    faces_are = has.faces_are;
    rounds = rounds_from has.number 0 faces;
    turns = λ f below.
        let same : 1 + f ≡ f + 1 = omega arith in
        subst (λ g. TurnsTo (word_of s.words g) (word_of (rounds_from has.number 0 faces) f)) same (rounds_turn s.words has.number faces 1 0 has.words f below);
    corners = rounds_corners (origin_of s) has.number faces [] 0 refl has.corners;
    inside = inside;
  }

  -- and no other edge has its ends
  pub is_simple : IsSimple s
  is_simple h k h_live k_live start end =
      told_by_ends vertices faces c links h k (within h h_live) (within k k_live)
      (ap (λ list. slice_index list h) (sym linked.origin) ∙ start ∙ ap (λ list. slice_index list k) linked.origin)
      (ap (λ list. slice_index list (rev h)) (sym linked.origin) ∙ end ∙ ap (λ list. slice_index list (rev k)) linked.origin)
