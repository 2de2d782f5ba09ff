-- The sides of faces, listed face by face.
use Rattle.std.proofs.Common.{◌≡◌, ◌∙◌, ℕ, suc, ◌+◌, ◌^◌, ◌<◌, ◌≤◌, List, [], ◌∷◌, ◌++◌, length, take, drop, replicate, slice_index_or, refl, sym, ap, subst, arith}
use Rattle.std.proofs.lemmas.List.{append-nil, append_assoc, drop_all, drop_more, length-append, length-drop, length-replicate, length-take}
use Rattle.dcel_maps.specs.Numbers.{numbers_between}
use Rattle.dcel_maps.proofs.walks.Numbers.{length-numbers}
use Rattle.dcel_exchange.specs.Corners.{AreSides, afters, ends, owners, starts, turned}
use Rattle.dcel_exchange.proofs.FirstSides.{each_below}

-- the sides of the first i faces are listed; what is to come completes the lists
pub record SoFar (faces : List (List ℕ)) (i : ℕ) (from to face after : List ℕ) : Type 0 where
  pub from_goes : from ++ starts (drop i faces) ≡ starts faces
  pub to_goes : to ++ ends (drop i faces) ≡ ends faces
  pub face_goes : face ++ owners i (drop i faces) ≡ owners 0 faces
  pub after_goes : after ++ afters (length from) (drop i faces) ≡ afters 0 faces
  pub few : length from ≤ 2 ^ 31
  pub as_many : length face ≡ length from
  pub few_faces : i ≤ length from
  pub long : (f : ℕ) → f < i → 3 ≤ length (slice_index_or faces f [])

module _ (faces : List (List ℕ)) where
  module _ (i : ℕ) (from to face after w : List ℕ) (s : SoFar faces i from to face after) (below : i < length faces) (is : w ≡ slice_index_or faces i []) where
    left : drop i faces ≡ w ∷ drop (i + 1) faces
    left = drop_more faces i [] below ∙ ap (λ x. x ∷ drop (i + 1) faces) (sym is)

    pub too_many : 2 ^ 31 < length from + length w → 2 ^ 31 < length (starts faces)
    too_many many =
        let whole : from ++ (w ++ starts (drop (i + 1) faces)) ≡ starts faces = ap (λ x. from ++ starts x) (sym left) ∙ s.from_goes in
        let long = ap length whole in
        let outer = length-append from (w ++ starts (drop (i + 1) faces)) in
        let inner = length-append w (starts (drop (i + 1) faces)) in
        omega arith

    pub row_one : 3 ≤ length w → length from + length w ≤ 2 ^ 31 → (from' to' face' after' : List ℕ) → from' ≡ from ++ w → to' ≡ to ++ turned w
        → face' ≡ face ++ replicate (length w) i → after' ≡ after ++ turned (numbers_between (length from) (length from + length w))
        → SoFar faces (i + 1) from' to' face' after'
    row_one long few from' to' face' after' from_is to_is face_is after_is =
        let more : length from' ≡ length from + length w = ap length from_is ∙ length-append from w in
        let next : suc i ≡ i + 1 = omega arith in
        let n = s.few_faces in record {
          from_goes =
              ap (λ x. x ++ starts (drop (i + 1) faces)) from_is ∙ append_assoc from w (starts (drop (i + 1) faces)) ∙ ap (λ x. from ++ starts x) (sym left) ∙ s.from_goes;
          to_goes =
              ap (λ x. x ++ ends (drop (i + 1) faces)) to_is ∙ append_assoc to (turned w) (ends (drop (i + 1) faces)) ∙ ap (λ x. to ++ ends x) (sym left) ∙ s.to_goes;
          face_goes =
              ap (λ x. x ++ owners (i + 1) (drop (i + 1) faces)) face_is ∙ append_assoc face (replicate (length w) i) (owners (i + 1) (drop (i + 1) faces))
              ∙ ap (λ k. face ++ (replicate (length w) i ++ owners k (drop (i + 1) faces))) (sym next) ∙ ap (λ x. face ++ owners i x) (sym left) ∙ s.face_goes;
          after_goes =
              ap (λ x. x ++ afters (length from') (drop (i + 1) faces)) after_is
              ∙ append_assoc after (turned (numbers_between (length from) (length from + length w))) (afters (length from') (drop (i + 1) faces))
              ∙ ap (λ k. after ++ (turned (numbers_between (length from) (length from + length w)) ++ afters k (drop (i + 1) faces))) more
              ∙ ap (λ x. after ++ afters (length from) x) (sym left) ∙ s.after_goes;
          few = omega arith;
          as_many = ap length face_is ∙ length-append face (replicate (length w) i) ∙ let a = s.as_many in let r = length-replicate (length w) i in omega arith;
          few_faces = omega arith;
          long = each_below (λ f. 3 ≤ length (slice_index_or faces f [])) i s.long (subst (λ x. 3 ≤ length x) is long);
        }

  pub row_all : (i : ℕ) (from to face after : List ℕ) → SoFar faces i from to face after → i ≡ length faces → AreSides faces from to face after
  row_all i from to face after s all =
      let none : drop i faces ≡ [] = drop_all i faces (omega (arith, all)) in record {
        from_is = sym (append-nil from) ∙ ap (λ x. from ++ starts x) (sym none) ∙ s.from_goes;
        to_is = sym (append-nil to) ∙ ap (λ x. to ++ ends x) (sym none) ∙ s.to_goes;
        face_is = sym (append-nil face) ∙ ap (λ x. face ++ owners i x) (sym none) ∙ s.face_goes;
        after_is = sym (append-nil after) ∙ ap (λ x. after ++ afters (length from) x) (sym none) ∙ s.after_goes;
        few = s.few;
        long = λ f below. s.long f (omega (arith, all, below));
      }

length-turned : (w : List ℕ) → length (turned w) ≡ length w
length-turned w =
    length-append (drop 1 w) (take 1 w) ∙ omega (arith, length-drop 1 w, length-take 1 w)

-- the lists have an item for each side
pub length-ends : (faces : List (List ℕ)) → length (ends faces) ≡ length (starts faces)
length-ends [] = refl
length-ends (w ∷ ws) = omega (arith, length-append (turned w) (ends ws), length-append w (starts ws), length-turned w, length-ends ws)

pub length-owners : (f : ℕ) (faces : List (List ℕ)) → length (owners f faces) ≡ length (starts faces)
length-owners f [] = refl
length-owners f (w ∷ ws) =
    omega (arith, length-append (replicate (length w) f) (owners (suc f) ws), length-append w (starts ws), length-replicate (length w) f, length-owners (suc f) ws)

pub length-afters : (p : ℕ) (faces : List (List ℕ)) → length (afters p faces) ≡ length (starts faces)
length-afters p [] = refl
length-afters p (w ∷ ws) =
    let numbers = numbers_between p (p + length w) in
    omega (arith, length-append (turned numbers) (afters (p + length w) ws), length-append w (starts ws), length-turned numbers, length-numbers p (p + length w), length-afters (p + length w) ws)
