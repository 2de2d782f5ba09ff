-- The faces of a mesh in which no removal is open, listed as triangles.
use Rattle.std.proofs.Common.{◌≡◌, ◌≢◌, ◌∙◌, inl, inr, ℕ, ◌+◌, ◌-◌, ◌<◌, List, [], ◌∷◌, ◌++◌, length, map, slice_index_or, append_assoc, refl, sym, ap, subst, arith}
use Rattle.std.proofs.lemmas.Bool.{cases_lt}
use Rattle.std.proofs.lemmas.List.{get_or-append-add, get_or_append_left, length-append, length-map}
use Rattle.dcel_exchange.specs.FaceCorners.{AreCorners, corners_round}
use Rattle.dcel_exchange.specs.Triangles.{IsFirstOther}
use Rattle.dcel_exchange.proofs.FaceLists.{corners_turn, live_face}
use Rattle.dcel_maps.specs.Numbers.{numbers_between}
use Rattle.dcel_maps.specs.Removals.{Closed}
use Rattle.dcel_maps.specs.Shapes.{IsMesh, Mesh, face_count, origin_of}
use Rattle.dcel_maps.specs.Words.{word_of}
use Rattle.dcel_maps.proofs.words.Turns.{length-turn}

-- each of these lists has three items
abbrev pub AreThrees : List (List ℕ) → Type 0
AreThrees lists = (i : ℕ) → i < length lists → length (slice_index_or lists i []) ≡ 3

threes-push : (lists : List (List ℕ)) (w : List ℕ) → AreThrees lists → length w ≡ 3 → AreThrees (lists ++ w ∷ [])
threes-push lists w threes three i below = elim (cases_lt i (length lists)) [
  | inl before ↦ ap length (get_or_append_left lists (w ∷ []) [] i before) ∙ threes i before
  | inr not_before ↦
      let last : length lists + 0 ≡ i = omega (arith, below, not_before, length-append lists (w ∷ [])) in
      ap (λ k. length (slice_index_or (lists ++ w ∷ []) k [])) (sym last) ∙ ap length (get_or-append-add lists (w ∷ []) 0 []) ∙ three
]

module _ {V DE UE F : Type 0} (m : Mesh V DE UE F) where
  -- with the faces to come the list has all, and those listed are triangles
  pub record Lists (list rest : List (List ℕ)) : Type 0 where
    pub so_far : list ++ rest ≡ map (corners_round m) (numbers_between 1 (face_count m.shape))
    pub threes : AreThrees list

  pub lists_begin : (list rest : List (List ℕ)) → list ≡ [] → rest ≡ map (corners_round m) (numbers_between 1 (face_count m.shape)) → Lists list rest
  lists_begin list rest none are = record {
    so_far = ap (λ l. l ++ rest) none ∙ are;
    threes = subst AreThrees (sym none) (λ i below. absurd (omega (arith, below)));
  }

  pub lists_next : (list more rest left : List (List ℕ)) (w t : List ℕ) → Lists list rest → rest ≡ w ∷ left → more ≡ list ++ t ∷ [] → (t ≡ w) × (length w ≡ 3) → Lists more left
  lists_next list more rest left w t so_far came pushed is =
      let grown : more ≡ list ++ w ∷ [] = pushed ∙ ap (λ x. list ++ x ∷ []) is.0 in
      record {
        so_far = ap (λ l. l ++ left) grown ∙ append_assoc list (w ∷ []) left ∙ ap (λ r. list ++ r) (sym came) ∙ so_far.so_far;
        threes = subst AreThrees (sym grown) (threes-push list w so_far.threes is.1);
      }

  module _ (mesh : IsMesh m) (closed : m.shape.removal ≡ Closed) where
    -- the face that comes is the first that is no triangle
    pub lists_stop : (list rest left : List (List ℕ)) (w : List ℕ) (k : ℕ) → Lists list rest → rest ≡ w ∷ left → length w ≢ 3 → k ≡ length list
        → IsFirstOther m.shape (k + 1)
    lists_stop list rest left w k so_far came other long =
        let s = m.shape in
        let all = list ++ w ∷ left in
        let are : all ≡ map (corners_round m) (numbers_between 1 (face_count s)) = ap (λ r. list ++ r) (sym came) ∙ so_far.so_far in
        let corners = corners_turn m mesh all are in
        let many = length-append list (w ∷ left) in
        let as_long : (f : ℕ) → f < length all → length (word_of s.words (f + 1)) ≡ length (slice_index_or all f []) =
        λ f below. (
        let (round, turn, is) = corners.each f below in
        sym (length-turn turn) ∙ sym (length-map round (origin_of s)) ∙ ap length (sym is)) in
        let here : slice_index_or all (length list) [] ≡ w =
        ap (λ k. slice_index_or all k []) (let last : length list ≡ length list + 0 = omega arith in last) ∙ get_or-append-add list (w ∷ left) 0 [] in
        let place : k + 1 ≡ length list + 1 = ap (λ n. n + 1) long in
        record {
          inner = omega arith;
          within = omega (arith, long, corners.as_many, many);
          other = λ triangle. other (ap length (sym here) ∙ sym (as_long (length list) (omega (arith, many))) ∙ sym (ap (λ f. length (word_of s.words f)) place) ∙ triangle.three);
          before = λ g inner below.
              let number : g - 1 + 1 ≡ g = omega (arith, inner) in
              let early : g - 1 < length list = omega (arith, inner, below, long) in
              record {
                live = live_face m closed g (omega (arith, below, long, corners.as_many, many));
                three = ap (λ f. length (word_of s.words f)) (sym number) ∙ as_long (g - 1) (omega (arith, early, many))
                    ∙ ap length (get_or_append_left list (w ∷ left) [] (g - 1) early) ∙ so_far.threes (g - 1) early;
              };
        }
