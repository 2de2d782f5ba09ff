-- The half edges of a mesh that has given corners, as the sides of its faces in one row.
use Rattle.std.proofs.Common.{◌≡◌, ◌≢◌, ◌⊎◌, ◌∙◌, inl, inr, ℕ, zero, suc, ◌+◌, ◌-◌, ◌<◌, ◌≤◌, List, [], ◌∷◌, ◌++◌, length, map, replicate, slice_index, refl, sym, ap, subst, arith}
use Rattle.std.proofs.lemmas.List.{append_assoc, ext_get_or, get_or-append-add, get_or-map, get_or-replicate, get_or_append_left, length-append, length-map, length-replicate, map-append}
use Rattle.std.proofs.lemmas.List.Elements.{All-get_or}
use Rattle.std.proofs.lemmas.Bool.{cases_eq, cases_lt}
use Rattle.dcel_maps.specs.Maps.{By}
use Rattle.dcel_maps.specs.Numbers.{numbers_between}
use Rattle.dcel_maps.specs.Shapes.{IsLive, IsSound, Shape, end_of, face_of, map_of, next_of, origin_of}
use Rattle.dcel_maps.specs.Words.{TurnsTo, count_of, occurs, word_of}
use Rattle.dcel_maps.specs.theory.Cycles.{IsCycle, Path}
use Rattle.dcel_maps.specs.theory.Standing.{Follows, Stands}
use Rattle.dcel_maps.proofs.walks.Links.{links_stand}
use Rattle.dcel_maps.proofs.walks.Numbers.{length-numbers}
use Rattle.dcel_maps.proofs.words.Counts.{count-append, count-le_occurs, count-same, first_or_later}
use Rattle.dcel_maps.proofs.words.Mapped.{count-at}
use Rattle.dcel_maps.proofs.words.Paths.{IsCycle-weaker}
use Rattle.dcel_maps.proofs.words.Reading.{face-below, face_in_word, live_in, occurs-le, stands_in_face}
use Rattle.dcel_maps.proofs.words.Turns.{IsCycle-turn, count-turn}
use Rattle.dcel_exchange.specs.Corners.{afters, ends, owners, starts, turned}
use Rattle.dcel_exchange.specs.Meshes.{side_count}
use Rattle.dcel_exchange.specs.Simple.{HasCorners}
use Rattle.dcel_exchange.proofs.FaceWords.{number_at}
use Rattle.dcel_exchange.proofs.Ranges.{all_afters}
use Rattle.dcel_exchange.proofs.Rows.{length-afters, length-ends}

-- what stands in a list has a place there, and one place where it stands once
place_of : (y : ℕ) (w : List ℕ) → 0 < count_of y w → (j : ℕ) × (j < length w) × (slice_index w j ≡ y)
place_of y [] found = absurd (omega (arith, found))
place_of y (x ∷ w) found = elim (first_or_later y x w found) [
  | inl same ↦ (0, omega arith, sym same)
  | inr later ↦ let at = place_of y w later in (suc at.0, omega (arith, at.1), at.2)
]

pub one_place : (w : List ℕ) (j k : ℕ) → ((x : ℕ) → count_of x w ≤ 1) → j < length w → k < length w → slice_index w j ≡ slice_index w k → j ≡ k
one_place [] j k once j_in k_in same = absurd (omega (arith, j_in))
one_place (x ∷ w) zero zero once j_in k_in same = refl
one_place (x ∷ w) zero (suc k) once j_in k_in same =
    let there : 0 < count_of x w = subst (λ y. 0 < count_of y w) (sym same) (count-at w k 0 (omega (arith, k_in))) in
    absurd (omega (arith, once x, count-same x w, there))
one_place (x ∷ w) (suc j) zero once j_in k_in same =
    let there : 0 < count_of x w = subst (λ y. 0 < count_of y w) same (count-at w j 0 (omega (arith, j_in))) in
    absurd (omega (arith, once x, count-same x w, there))
one_place (x ∷ w) (suc j) (suc k) once j_in k_in same =
    ap suc (one_place w j k (λ y. let all = once y in omega (arith, all)) (omega (arith, j_in)) (omega (arith, k_in)) same)

-- one of the numbers below n goes to h, or none does
pub find_below : (f : ℕ → ℕ) (h n : ℕ) → ((p : ℕ) × (p < n) × (f p ≡ h)) ⊎ ((p : ℕ) → p < n → f p ≢ h)
find_below f h zero = inr (λ p below. absurd (omega arith))
find_below f h (suc n) = elim (cases_eq (f n) h) [
  | inl last ↦ inl (n, omega arith, last)
  | inr other ↦ elim (find_below f h n) [
    | inl at ↦ inl (at.0, omega (arith, at.1), at.2)
    | inr none ↦ inr (λ p below. elim (cases_lt p n) [
      | inl less ↦ none p less
      | inr past ↦ λ same. other (ap f (omega (arith, below, past)) ∙ same)
    ])
  ]
]

-- rows under a function
pub turned-map : (f : ℕ → ℕ) (w : List ℕ) → map f (turned w) ≡ turned (map f w)
turned-map f [] = refl
turned-map f (x ∷ w) = map-append f w (x ∷ [])

starts-map : (f : ℕ → ℕ) (ws : List (List ℕ)) → starts (map (map f) ws) ≡ map f (starts ws)
starts-map f [] = refl
starts-map f (w ∷ ws) = ap (λ r. map f w ++ r) (starts-map f ws) ∙ sym (map-append f w (starts ws))

ends-map : (f : ℕ → ℕ) (ws : List (List ℕ)) → ends (map (map f) ws) ≡ map f (ends ws)
ends-map f [] = refl
ends-map f (w ∷ ws) =
    ap (λ r. turned (map f w) ++ r) (ends-map f ws) ∙ ap (λ r. r ++ map f (ends ws)) (sym (turned-map f w))
    ∙ sym (map-append f (turned w) (ends ws))

owners-map : (f : ℕ → ℕ) (g : ℕ) (ws : List (List ℕ)) → owners g (map (map f) ws) ≡ owners g ws
owners-map f g [] = refl
owners-map f g (w ∷ ws) =
    ap (λ n. replicate n g ++ owners (suc g) (map (map f) ws)) (length-map w f) ∙ ap (λ r. replicate (length w) g ++ r) (owners-map f (suc g) ws)

afters-map : (f : ℕ → ℕ) (p : ℕ) (ws : List (List ℕ)) → afters p (map (map f) ws) ≡ afters p ws
afters-map f p [] = refl
afters-map f p (w ∷ ws) =
    ap (λ n. turned (numbers_between p (p + n)) ++ afters (p + n) (map (map f) ws)) (length-map w f)
    ∙ ap (λ r. turned (numbers_between p (p + length w)) ++ r) (afters-map f (p + length w) ws)

-- the items of a cycle, moved on by a step
path-map : (f : ℕ → ℕ) (x : ℕ) (r : List ℕ) (e : ℕ) → Path (By f) x r e → map f (x ∷ r) ≡ r ++ e ∷ []
path-map f x [] e path = ap (λ y. y ∷ []) path
path-map f x (y ∷ r) e path = ap (λ z. z ∷ map f (y ∷ r)) path.0 ∙ ap (λ w. y ∷ w) (path-map f y r e path.1)

pub cycle-map : (f : ℕ → ℕ) (w : List ℕ) → IsCycle (By f) w → map f w ≡ turned w
cycle-map f [] cycle = refl
cycle-map f (x ∷ r) cycle = path-map f x r x cycle

rounds-map : (f : ℕ → ℕ) (ws : List (List ℕ)) → ((g : ℕ) → g < length ws → IsCycle (By f) (word_of ws g)) → map f (starts ws) ≡ ends ws
rounds-map f [] cycles = refl
rounds-map f (w ∷ ws) cycles =
    map-append f w (starts ws) ∙ ap (λ r. r ++ map f (starts ws)) (cycle-map f w (cycles 0 (omega arith)))
    ∙ ap (λ r. turned w ++ r) (rounds-map f ws (λ g below. cycles (suc g) (omega (arith, below))))

-- what is made of the numbers from p on
pub made_between : (g : ℕ → ℕ) (w : List ℕ) (p : ℕ) → ((k : ℕ) → k < length w → g (p + k) ≡ slice_index w k)
    → map g (numbers_between p (p + length w)) ≡ w
made_between g w p each =
    let numbers : List ℕ = numbers_between p (p + length w) in
    let many : length numbers ≡ length w = length-numbers p (p + length w) ∙ omega arith in
    ext_get_or 0 (map g numbers) w (length-map numbers g ∙ many) (λ k within.
    let below : k < length w = omega (arith, within, length-map numbers g, many) in
    get_or-map g numbers k 0 0 (omega (arith, below, many)) ∙ ap g (number_at p (p + length w) k (omega (arith, below))) ∙ each k below)

-- a part of a row
pub part_at : (front w back : List ℕ) (p k : ℕ) → length front ≡ p → k < length w → slice_index (front ++ (w ++ back)) (p + k) ≡ slice_index w k
part_at front w back p k long below =
    ap (λ n. slice_index (front ++ (w ++ back)) (n + k)) (sym long) ∙ get_or-append-add front (w ++ back) k 0 ∙ get_or_append_left w back 0 k below

-- the items at the places of what comes after
afters-items : (ws : List (List ℕ)) (front : List ℕ) (p : ℕ) → length front ≡ p → map (λ k. slice_index (front ++ starts ws) k) (afters p ws) ≡ ends ws
afters-items [] front p long = refl
afters-items (w ∷ ws) front p long =
    let row : List ℕ = front ++ (w ++ starts ws) in
    let numbers : List ℕ = numbers_between p (p + length w) in
    let rest : map (λ k. slice_index row k) (afters (p + length w) ws) ≡ ends ws =
    subst (λ (r : List ℕ). map (λ k. slice_index r k) (afters (p + length w) ws) ≡ ends ws) (append_assoc front w (starts ws))
    (afters-items ws (front ++ w) (p + length w) (length-append front w ∙ ap (λ n. n + length w) long)) in
    map-append (λ k. slice_index row k) (turned numbers) (afters (p + length w) ws)
    ∙ ap (λ r. r ++ map (λ k. slice_index row k) (afters (p + length w) ws))
    (turned-map (λ k. slice_index row k) numbers
    ∙ ap turned (made_between (λ k. slice_index row k) w p (λ k below. part_at front w (starts ws) p k long below)))
    ∙ ap (λ r. turned w ++ r) rest

-- each item of the row stands in the word of its owner
pub record InRound (ws : List (List ℕ)) (f p : ℕ) : Type 0 where
  pub place : ℕ
  pub owner : slice_index (owners f ws) p ≡ f + place
  pub below : place < length ws
  pub stands : 0 < count_of (slice_index (starts ws) p) (word_of ws place)

in_round : (ws : List (List ℕ)) (f p : ℕ) → p < length (starts ws) → InRound ws f p
in_round [] f p within = absurd (omega (arith, within))
in_round (w ∷ ws) f p within = elim (cases_lt p (length w)) [
  | inl less ↦ record {
    place = 0;
    owner =
        get_or_append_left (replicate (length w) f) (owners (suc f) ws) 0 p (omega (arith, less, length-replicate (length w) f))
        ∙ get_or-replicate (length w) p f 0 less ∙ omega arith;
    below = omega arith;
    stands = subst (λ x. 0 < count_of x w) (sym (get_or_append_left w (starts ws) 0 p less)) (count-at w p 0 less);
  }
  | inr past ↦
      let k : ℕ = p - length w in
      let is : length w + k ≡ p = omega (arith, past) in
      let later : InRound ws (suc f) k = in_round ws (suc f) k (omega (arith, within, past, length-append w (starts ws))) in record {
        place = suc later.place;
        owner =
            ap (λ n. slice_index (owners f (w ∷ ws)) n) (sym is) ∙ ap (λ n. slice_index (owners f (w ∷ ws)) (n + k)) (sym (length-replicate (length w) f))
            ∙ get_or-append-add (replicate (length w) f) (owners (suc f) ws) k 0 ∙ later.owner ∙ omega arith;
        below = let b = later.below in omega (arith, b);
        stands =
            subst (λ x. 0 < count_of x (word_of ws later.place))
            (sym (ap (λ n. slice_index (w ++ starts ws) n) (sym is) ∙ get_or-append-add w (starts ws) k 0)) later.stands;
      }
]

count-starts : (h : ℕ) (ws : List (List ℕ)) → count_of h (starts ws) ≡ occurs h ws
count-starts h [] = refl
count-starts h (w ∷ ws) = count-append h w (starts ws) ∙ ap (λ n. count_of h w + n) (count-starts h ws)

-- words that hold the same items
occurs-same : (h : ℕ) (ws vs : List (List ℕ)) → length ws ≡ length vs
    → ((g : ℕ) → g < length ws → count_of h (word_of ws g) ≡ count_of h (word_of vs g)) → occurs h ws ≡ occurs h vs
occurs-same h [] [] long same = refl
occurs-same h [] (v ∷ vs) long same = absurd (omega (arith, long))
occurs-same h (w ∷ ws) [] long same = absurd (omega (arith, long))
occurs-same h (w ∷ ws) (v ∷ vs) long same =
    omega (arith, same 0 (omega arith), occurs-same h ws vs (omega (arith, long)) (λ g below. same (suc g) (omega (arith, below))))

-- what occurs in inner words occurs in all
occurs-inner : (h : ℕ) (ws vs : List (List ℕ)) → length vs ≡ length ws + 1
    → ((g : ℕ) → g < length ws → count_of h (word_of ws g) ≡ count_of h (word_of vs (g + 1))) → occurs h ws ≤ occurs h vs
occurs-inner h ws [] long same = absurd (omega (arith, long))
occurs-inner h ws (v ∷ vs) long same =
    let next : (g : ℕ) → g + 1 ≡ suc g = λ g. omega arith in
    omega (arith, occurs-same h ws vs (omega (arith, long)) (λ g below. same g below ∙ ap (λ k. count_of h (word_of (v ∷ vs) k)) (next g)))

-- half edges of the shape, one for each side of the faces, with its links and ends; and each half edge of an inner face is one
pub record Placed (s : Shape) (faces : List (List ℕ)) (item : ℕ → ℕ) : Type 0 where
  pub live : (p : ℕ) → p < side_count faces → IsLive s (item p)
  pub start : (p : ℕ) → p < side_count faces → origin_of s (item p) ≡ slice_index (starts faces) p
  pub end : (p : ℕ) → p < side_count faces → end_of s (item p) ≡ slice_index (ends faces) p
  pub after_below : (p : ℕ) → p < side_count faces → slice_index (afters 0 faces) p < side_count faces
  pub next : (p : ℕ) → p < side_count faces → next_of s (item p) ≡ item (slice_index (afters 0 faces) p)
  pub face : (p : ℕ) → p < side_count faces → face_of s (item p) ≡ slice_index (owners 0 faces) p + 1
  pub apart : (p q : ℕ) → p < side_count faces → q < side_count faces → item p ≡ item q → p ≡ q
  pub onto : (x : ℕ) → IsLive s x → face_of s x ≢ 0 → (p : ℕ) × (p < side_count faces) × (item p ≡ x)

module _ (s : Shape) (sound : IsSound s) (vertices : ℕ) (faces : List (List ℕ)) (has : HasCorners s vertices faces) where
  abbrev ws : List (List ℕ)
  ws = has.rounds

  abbrev pub item_of : ℕ → ℕ
  item_of p = slice_index (starts ws) p

  stands : Stands (map_of s) s.words
  stands = links_stand sound

  pub as_many : length ws ≡ length faces
  as_many = sym (length-map ws (map (origin_of s))) ∙ ap length has.corners

  starts_are : starts faces ≡ map (origin_of s) (starts ws)
  starts_are = ap starts (sym has.corners) ∙ starts-map (origin_of s) ws

  ends_are : ends faces ≡ map (origin_of s) (ends ws)
  ends_are = ap ends (sym has.corners) ∙ ends-map (origin_of s) ws

  owners_are : owners 0 faces ≡ owners 0 ws
  owners_are = ap (owners 0) (sym has.corners) ∙ owners-map (origin_of s) 0 ws

  afters_are : afters 0 faces ≡ afters 0 ws
  afters_are = ap (afters 0) (sym has.corners) ∙ afters-map (origin_of s) 0 ws

  sides_are : side_count faces ≡ length (starts ws)
  sides_are = ap length starts_are ∙ length-map (starts ws) (origin_of s)

  turn : (g : ℕ) → g < length ws → TurnsTo (word_of s.words (g + 1)) (word_of ws g)
  turn g below = has.turns g (omega (arith, below, as_many))

  same_count : (h g : ℕ) → g < length ws → count_of h (word_of ws g) ≡ count_of h (word_of s.words (g + 1))
  same_count h g below = count-turn h (turn g below)

  pub round_cycle : (g : ℕ) → g < length ws → IsCycle (By (next_of s)) (word_of ws g)
  round_cycle g below =
      IsCycle-turn (By (next_of s)) (turn g below)
      (IsCycle-weaker (Follows (map_of s) (g + 1)) (By (next_of s)) (word_of s.words (g + 1)) (λ p q i j k. k.next)
      (stands.cycles (g + 1) (let n = has.faces_are in omega (arith, below, as_many))))

  -- where the item at p stands
  found : (p : ℕ) → p < length (starts ws)
      → (0 < count_of (item_of p) (word_of s.words (slice_index (owners 0 ws) p + 1)))
  found p within =
      let r = in_round ws 0 p within in
      let is : slice_index (owners 0 ws) p ≡ r.place = r.owner ∙ omega arith in
      subst (λ g. 0 < count_of (item_of p) (word_of s.words (g + 1))) (sym is)
      (subst (λ n. 0 < n) (same_count (item_of p) r.place r.below) r.stands)

  next_end : (p : ℕ) → p < length (starts ws) → next_of s (item_of p) ≡ slice_index (ends ws) p
  next_end p within =
      sym (get_or-map (next_of s) (starts ws) p 0 0 within) ∙ ap (λ list. slice_index list p) (rounds-map (next_of s) ws round_cycle)

  after_item : (p : ℕ) → p < length (starts ws) → item_of (slice_index (afters 0 ws) p) ≡ slice_index (ends ws) p
  after_item p within =
      sym (get_or-map item_of (afters 0 ws) p 0 0 (omega (arith, within, length-afters 0 ws)))
      ∙ ap (λ list. slice_index list p) (afters-items ws [] 0 refl)

  once : (h : ℕ) → count_of h (starts ws) ≤ 1
  once h =
      let n = has.faces_are in
      omega (arith, count-starts h ws, occurs-inner h ws s.words (omega (arith, n, as_many)) (same_count h), occurs-le (map_of s) s.words stands h)

  onto : (x : ℕ) → IsLive s x → face_of s x ≢ 0 → (p : ℕ) × (p < length (starts ws)) × (item_of p ≡ x)
  onto x live inner =
      let f : ℕ = face_of s x in
      let g : ℕ = f - 1 in
      let is : f ≡ g + 1 = omega (arith, inner) in
      let below : g < length ws = let n = has.faces_are in omega (arith, is, as_many, face-below (map_of s) s.words stands x live) in
      let there : 0 < count_of x (word_of s.words (g + 1)) = subst (λ k. 0 < count_of x (word_of s.words k)) is (stands_in_face (map_of s) s.words stands x live) in
      place_of x (starts ws) (omega (arith, there, same_count x g below, count-le_occurs x ws g, count-starts x ws))

  pub placed : Placed s faces item_of
  placed = record {
    live = λ p below. live_in (map_of s) s.words stands (item_of p) (slice_index (owners 0 ws) p + 1) (found p (omega (arith, below, sides_are)));
    start = λ p below.
        sym (ap (λ list. slice_index list p) starts_are ∙ get_or-map (origin_of s) (starts ws) p 0 0 (omega (arith, below, sides_are)));
    end = λ p below.
        let within : p < length (starts ws) = omega (arith, below, sides_are) in
        let live = live_in (map_of s) s.words stands (item_of p) (slice_index (owners 0 ws) p + 1) (found p within) in
        sym (sound.joined (item_of p) live) ∙ ap (origin_of s) (next_end p within)
        ∙ sym (ap (λ list. slice_index list p) ends_are ∙ get_or-map (origin_of s) (ends ws) p 0 0 (omega (arith, within, length-ends ws)));
    after_below = λ p below.
        let at : slice_index (afters 0 faces) p < 0 + side_count faces =
        All-get_or (λ k. k < 0 + side_count faces) (afters 0 faces) p 0 (omega (arith, below, length-afters 0 faces)) (all_afters 0 faces) in
        omega (arith, at);
    next = λ p below.
        let within : p < length (starts ws) = omega (arith, below, sides_are) in
        next_end p within ∙ sym (after_item p within) ∙ ap (λ list. item_of (slice_index list p)) (sym afters_are);
    face = λ p below.
        face_in_word (map_of s) s.words stands (item_of p) (slice_index (owners 0 ws) p + 1) (found p (omega (arith, below, sides_are)))
        ∙ ap (λ list. slice_index list p + 1) (sym owners_are);
    apart = λ p q p_in q_in same.
        one_place (starts ws) p q once (omega (arith, p_in, sides_are)) (omega (arith, q_in, sides_are)) same;
    onto = λ x live inner. let r = onto x live inner in (r.0, omega (arith, r.1, sides_are), r.2);
  }
