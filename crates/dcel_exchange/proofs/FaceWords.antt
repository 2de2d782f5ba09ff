-- A mesh that has the links of faces has these faces: the word of each is that of its sides.
use Rattle.std.proofs.Common.{◌≡◌, ◌≢◌, ◌∙◌, inl, inr, ℕ, zero, suc, ◌+◌, ◌-◌, ◌/◌, ◌<◌, ◌≤◌, List, [], ◌∷◌, ◌++◌, length, map, replicate, slice_index, slice_index_or, refl, sym, ap, subst, arith}
use Rattle.std.proofs.lemmas.List.{get_or-append-add, get_or-replicate, get_or_append_left, get_or_at, length-append, length-replicate}
use Rattle.std.proofs.lemmas.List.FromFn.{get_or-range_with_len}
use Rattle.dcel_links.specs.Claims.{Claim}
use Rattle.dcel_links.specs.Meshes.{IsLinked}
use Rattle.dcel_maps.proofs.Liveness.{closed-live}
use Rattle.dcel_maps.proofs.removal.Sectors.{same_path}
use Rattle.dcel_maps.proofs.walks.Numbers.{length-numbers, numbers-first, numbers-none}
use Rattle.dcel_maps.proofs.words.Counts.{count-none, count-same, first_or_later}
use Rattle.dcel_maps.proofs.words.Mapped.{mapped_from}
use Rattle.dcel_maps.proofs.words.Reading.{says}
use Rattle.dcel_maps.specs.Headline.{FacesAreCycles}
use Rattle.dcel_maps.specs.Maps.{By}
use Rattle.dcel_maps.specs.Numbers.{numbers_between}
use Rattle.dcel_maps.specs.Shapes.{IsLive, Shape, face_of, next_of}
use Rattle.dcel_maps.specs.Words.{TurnsTo, count_of, word_of}
use Rattle.dcel_maps.specs.theory.Cycles.{Path}
use Rattle.dcel_exchange.specs.Corners.{afters, owners, starts, turned}
use Rattle.dcel_exchange.specs.Meshes.{AreLinks, AreWords, HasFaces}

-- what stands between two numbers
between : (n a y : ℕ) → 0 < count_of y (numbers_between a (a + n)) → (a ≤ y) × (y < a + n)
between zero a y found = absurd (let none : count_of y (numbers_between a (a + 0)) ≡ 0 = rw (numbers-none a (a + 0) (omega arith)) refl in omega (arith, found, none))
between (suc n) a y found =
    let split : numbers_between a (a + suc n) ≡ a ∷ numbers_between (a + 1) (a + 1 + n) =
    numbers-first a (a + suc n) (omega arith) ∙ ap (λ b. a ∷ numbers_between (a + 1) b) (omega arith) in
    let there : 0 < count_of y (a ∷ numbers_between (a + 1) (a + 1 + n)) = subst (λ w. 0 < count_of y w) split found in
    elim (first_or_later y a (numbers_between (a + 1) (a + 1 + n)) there) [
      | inl first ↦ (omega (arith, first), omega (arith, first))
      | inr later ↦ let rest = between n (a + 1) y later in (omega (arith, rest.0), omega (arith, rest.1))
    ]

-- the numbers of a face's sides, from the second one on, and then the first
turned_numbers : (p m : ℕ) → turned (numbers_between p (p + suc m)) ≡ numbers_between (p + 1) (p + suc m) ++ p ∷ []
turned_numbers p m = rw (numbers-first p (p + suc m) (omega arith)) refl

pub number_at : (a b k : ℕ) → k < b - a → slice_index (numbers_between a b) k ≡ a + k
unfolding numbers_between
number_at a b k below = get_or-range_with_len a (b - a) k 0 below

module _ (s : Shape) (cycles : FacesAreCycles s) where
  -- steps round from a half edge are its face's word
  pub round_word : (h : ℕ) (rest : List ℕ) → IsLive s h → Path (By (next_of s)) h rest h → count_of h rest ≡ 0 → TurnsTo (word_of s.words (face_of s h)) (h ∷ rest)
  round_word h rest live path once =
      let f : ℕ = face_of s h in
      let stands : 0 < count_of h (word_of s.words f) = (says h s.words (let o = cycles.once h live in omega arith)).holds in
      let trip = cycles.round f h (cycles.on_live h live) stands in
      let turns = cycles.word f h (cycles.on_live h live) stands in
      let single : count_of h (h ∷ trip.rest) ≤ 1 = subst (λ w. count_of h w ≤ 1) trip.from (trip.once h) in
      let same : trip.rest ≡ rest = same_path (next_of s) h h trip.rest rest trip.round path (omega (arith, single, count-same h trip.rest)) once in
      subst (λ w. TurnsTo (word_of s.words f) w) (trip.from ∙ ap (λ r. h ∷ r) same) turns

  module _ (number : ℕ → ℕ) where
    along : (m q e : ℕ) → ((x : ℕ) → q ≤ x → x < q + m → next_of s (number x) ≡ number (x + 1)) → ((x : ℕ) → x ≡ q + m → next_of s (number x) ≡ e)
        → Path (By (next_of s)) (number q) (map number (numbers_between (q + 1) (q + suc m))) e
    along zero q e steps last = rw (numbers-none (q + 1) (q + suc zero) (omega arith)) (last q (omega arith))
    along (suc m) q e steps last =
        let split : numbers_between (q + 1) (q + suc (suc m)) ≡ (q + 1) ∷ numbers_between (q + 1 + 1) (q + 1 + suc m) =
        numbers-first (q + 1) (q + suc (suc m)) (omega arith) ∙ ap (λ b. (q + 1) ∷ numbers_between (q + 1 + 1) b) (omega arith) in
        rw split
        (steps q (omega arith) (omega arith), along m (q + 1) e (λ x above below. steps x (omega (arith, above)) (omega (arith, below))) (λ x is. last x (omega (arith, is))))

    face_word : (p m f : ℕ) → ((x : ℕ) → p ≤ x → x < p + m → next_of s (number x) ≡ number (x + 1)) → ((x : ℕ) → x ≡ p + m → next_of s (number x) ≡ number p)
        → IsLive s (number p) → face_of s (number p) ≡ f → ((x : ℕ) → p < x → x < p + suc m → number x ≢ number p)
        → TurnsTo (word_of s.words f) (map number (numbers_between p (p + suc m)))
    face_word p m f steps last live on apart =
        let rest : List ℕ = map number (numbers_between (p + 1) (p + suc m)) in
        let wide : p + 1 + m ≡ p + suc m = omega arith in
        let once : count_of (number p) rest ≡ 0 = count-none (number p) rest (λ x found same.
        let from = mapped_from number (numbers_between (p + 1) (p + suc m)) x found in
        let within = between m (p + 1) from.0 (subst (λ b. 0 < count_of from.0 (numbers_between (p + 1) b)) (sym wide) from.1) in
        apart from.0 (omega (arith, within.0)) (omega (arith, within.1)) (from.2 ∙ sym same)) in
        let turns : TurnsTo (word_of s.words (face_of s (number p))) (number p ∷ rest) = round_word (number p) rest live (along m p (number p) steps last) once in
        let split : map number (numbers_between p (p + suc m)) ≡ number p ∷ rest = ap (map number) (numbers-first p (p + suc m) (omega arith)) in
        subst (λ w. TurnsTo (word_of s.words f) w) (sym split) (subst (λ g. TurnsTo (word_of s.words g) (number p ∷ rest)) on turns)

    -- the sides from p on are those of these faces, the first of which has the place f
    pub record Sided (p f : ℕ) (ws : List (List ℕ)) : Type 0 where
      pub long : (g : ℕ) → g < length ws → 0 < length (slice_index_or ws g [])
      pub next : (k : ℕ) → k < length (starts ws) → next_of s (number (p + k)) ≡ number (slice_index (afters p ws) k)
      pub face : (k : ℕ) → k < length (starts ws) → face_of s (number (p + k)) ≡ slice_index (owners f ws) k + 1
      pub live : (k : ℕ) → k < length (starts ws) → IsLive s (number (p + k))
      pub apart : (j k : ℕ) → j < length (starts ws) → k < length (starts ws) → number (p + j) ≡ number (p + k) → j ≡ k

    module _ (p f m : ℕ) (w : List ℕ) (ws : List (List ℕ)) (size : length w ≡ suc m) (d : Sided p f (w ∷ ws)) where
      longer : length (starts (w ∷ ws)) ≡ length w + length (starts ws)
      longer = length-append w (starts ws)

      numbers_are : turned (numbers_between p (p + length w)) ≡ numbers_between (p + 1) (p + suc m) ++ p ∷ []
      numbers_are = ap (λ n. turned (numbers_between p (p + n))) size ∙ turned_numbers p m

      size_between : length (numbers_between (p + 1) (p + suc m)) ≡ m
      size_between = length-numbers (p + 1) (p + suc m) ∙ omega arith

      size_numbers : length (turned (numbers_between p (p + length w))) ≡ length w
      size_numbers = ap length numbers_are ∙ length-append (numbers_between (p + 1) (p + suc m)) (p ∷ []) ∙ omega (arith, size_between, size)

      after_inner : (k : ℕ) → k < m → slice_index (afters p (w ∷ ws)) k ≡ p + k + 1
      after_inner k below =
          get_or_append_left (turned (numbers_between p (p + length w))) (afters (p + length w) ws) 0 k (omega (arith, below, size_numbers, size))
          ∙ ap (λ xs. slice_index xs k) numbers_are
          ∙ get_or_append_left (numbers_between (p + 1) (p + suc m)) (p ∷ []) 0 k (omega (arith, below, size_between))
          ∙ number_at (p + 1) (p + suc m) k (omega (arith, below)) ∙ omega arith

      after_last : slice_index (afters p (w ∷ ws)) m ≡ p
      after_last =
          get_or_append_left (turned (numbers_between p (p + length w))) (afters (p + length w) ws) 0 m (omega (arith, size_numbers, size))
          ∙ ap (λ xs. slice_index xs m) numbers_are ∙ get_or_at (numbers_between (p + 1) (p + suc m)) p [] 0 m size_between

      owner : slice_index (owners f (w ∷ ws)) 0 ≡ f
      owner =
          get_or_append_left (replicate (length w) f) (owners (suc f) ws) 0 0 (omega (arith, length-replicate (length w) f, size))
          ∙ get_or-replicate (length w) 0 f 0 (omega (arith, size))

      steps : (x : ℕ) → p ≤ x → x < p + m → next_of s (number x) ≡ number (x + 1)
      steps x above below =
          let is : p + (x - p) ≡ x = omega (arith, above) in
          ap (λ y. next_of s (number y)) (sym is) ∙ d.next (x - p) (omega (arith, above, below, longer, size))
          ∙ ap number (after_inner (x - p) (omega (arith, above, below)) ∙ omega (arith, above))

      last : (x : ℕ) → x ≡ p + m → next_of s (number x) ≡ number p
      last x is = ap (λ y. next_of s (number y)) is ∙ d.next m (omega (arith, longer, size)) ∙ ap number after_last

      apart_here : (x : ℕ) → p < x → x < p + suc m → number x ≢ number p
      apart_here x above below same =
          let is : p + (x - p) ≡ x = omega (arith, above) in
          let none : p + 0 ≡ p = omega arith in
          let equal : x - p ≡ 0 = d.apart (x - p) 0 (omega (arith, above, below, longer, size)) (omega (arith, longer, size)) (ap number is ∙ same ∙ ap number (sym none)) in
          omega (arith, equal, above)

      this_word : TurnsTo (word_of s.words (suc f)) (map number (numbers_between p (p + length w)))
      this_word =
          let none : p + 0 ≡ p = omega arith in
          let first : 0 < length (starts (w ∷ ws)) = omega (arith, longer, size) in
          subst (λ n. TurnsTo (word_of s.words (suc f)) (map number (numbers_between p (p + n)))) (sym size)
          (face_word p m (suc f) steps last (subst (λ x. IsLive s (number x)) none (d.live 0 first))
          (ap (λ x. face_of s (number x)) (sym none) ∙ d.face 0 first ∙ ap (λ n. n + 1) owner ∙ omega arith) apart_here)

      shift : (k : ℕ) → p + (length w + k) ≡ p + length w + k
      shift k = omega arith

      later : Sided (p + length w) (suc f) ws
      later = record {
        long = λ g below. d.long (suc g) (omega (arith, below));
        next = λ k below.
            ap (λ x. next_of s (number x)) (sym (shift k)) ∙ d.next (length w + k) (omega (arith, below, longer))
            ∙ ap number (ap (λ n. slice_index (afters p (w ∷ ws)) (n + k)) (sym size_numbers)
            ∙ get_or-append-add (turned (numbers_between p (p + length w))) (afters (p + length w) ws) k 0);
        face = λ k below.
            ap (λ x. face_of s (number x)) (sym (shift k)) ∙ d.face (length w + k) (omega (arith, below, longer))
            ∙ ap (λ n. n + 1) (ap (λ n. slice_index (owners f (w ∷ ws)) (n + k)) (sym (length-replicate (length w) f))
            ∙ get_or-append-add (replicate (length w) f) (owners (suc f) ws) k 0);
        live = λ k below. subst (λ x. IsLive s (number x)) (shift k) (d.live (length w + k) (omega (arith, below, longer)));
        apart = λ j k lj lk same.
            let equal : length w + j ≡ length w + k = d.apart (length w + j) (length w + k) (omega (arith, lj, longer)) (omega (arith, lk, longer))
            (ap number (shift j) ∙ same ∙ ap number (sym (shift k))) in
            omega (arith, equal);
      }

    words_are : (ws : List (List ℕ)) (p f : ℕ) → Sided p f ws → AreWords s.words number (suc f) p ws
    words_are [] p f d = tt
    words_are ([] ∷ ws) p f d = absurd (let l : 0 < length (slice_index_or ([] ∷ ws) 0 []) = d.long 0 (omega arith) in omega (arith, l))
    words_are ((x ∷ r) ∷ ws) p f d =
        (this_word p f (length r) (x ∷ r) ws refl d, words_are ws (p + length (x ∷ r)) (suc f) (later p f (length r) (x ∷ r) ws refl d))

  -- the mesh has the faces of its links
  pub has_faces : (vertices : ℕ) (faces : List (List ℕ)) (c : Claim) → IsLinked s c → AreLinks vertices faces c → HasFaces s vertices faces
  has_faces vertices faces c linked links =
      let zeros : (k : ℕ) → 0 + k ≡ k = λ k. omega arith in record {
        number = links.number;
        numbered = links.numbered;
        vertices_are = linked.vertices ∙ links.vertices_are;
        edges_are = let one = linked.half_edges in let other = links.half_edges in omega arith;
        faces_are = linked.faces ∙ links.faces_are;
        corners = λ p below. ap (λ list. slice_index list (links.number p)) linked.origin ∙ links.start p below;
        words = words_are links.number faces 0 0 record {
          long = λ g below. let three = links.long g below in omega arith;
          next = λ k below. ap (λ x. next_of s (links.number x)) (zeros k) ∙ linked.next (links.number k) (links.below k below) ∙ links.next k below;
          face = λ k below. ap (λ x. face_of s (links.number x)) (zeros k) ∙ linked.face (links.number k) (links.below k below) ∙ links.face k below;
          live = λ k below. subst (λ x. IsLive s (links.number x)) (sym (zeros k))
              (closed-live s linked.closed (links.number k / 2) (let l = links.below k below in let e = linked.half_edges in omega arith));
          apart = λ j k lj lk same. links.one_to_one j k lj lk (ap links.number (sym (zeros j)) ∙ same ∙ ap links.number (zeros k));
        };
      }
