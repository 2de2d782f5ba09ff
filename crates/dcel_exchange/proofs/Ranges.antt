-- What stands in the lists of sides is in range.
use Rattle.std.proofs.Common.{◌≡◌, ℕ, suc, ◌+◌, ◌^◌, ◌<◌, ◌≤◌, List, [], ◌∷◌, ◌++◌, length, take, drop, replicate, slice_index, slice_index_or, Option, Some, None, refl, sym, ap, ◌∙◌, subst, arith}
use Rattle.std.proofs.lemmas.List.{drop_at, length-append, take_at}
use Rattle.std.proofs.lemmas.List.Elements.{All-append, All-drop, All-from_get_or, All-get_or, All-nil, All-replicate, All-take, All-weaker}
use Rattle.std.specs.List.{All}
use Rattle.dcel_maps.specs.Numbers.{numbers_between}
use Rattle.dcel_maps.proofs.walks.Numbers.{length-numbers}
use Rattle.dcel_exchange.specs.Corners.{AreSides, afters, ends, owners, starts, turned}
use Rattle.dcel_exchange.specs.Numbering.{AreNumbered}
use Rattle.dcel_exchange.proofs.FaceWords.{number_at}
use Rattle.dcel_exchange.proofs.Rows.{length-afters, length-ends, length-owners}

module _ (P : ℕ → Type 0) where
  all_front : (w r : List ℕ) → All P (w ++ r) → All P w
  all_front w r all = subst (All P) (take_at w r (length w) refl) (All-take P (length w) (w ++ r) all)

  all_back : (w r : List ℕ) → All P (w ++ r) → All P r
  all_back w r all = subst (All P) (drop_at w r (length w) refl) (All-drop P (length w) (w ++ r) all)

  all_turned : (w : List ℕ) → All P w → All P (turned w)
  all_turned w all = All-append P (drop 1 w) (take 1 w) (All-drop P 1 w all) (All-take P 1 w all)

  -- where sides end, sides start
  all_ends : (faces : List (List ℕ)) → All P (starts faces) → All P (ends faces)
  all_ends [] all = All-nil P
  all_ends (w ∷ ws) all =
      All-append P (turned w) (ends ws) (all_turned w (all_front w (starts ws) all)) (all_ends ws (all_back w (starts ws) all))

pub all_numbers : (a b : ℕ) → All (λ k. k < b) (numbers_between a b)
all_numbers a b =
    All-from_get_or (λ k. k < b) (numbers_between a b) 0
    (λ k below. let l = length-numbers a b in let at = number_at a b k (omega (arith, below)) in omega (arith, below))

pub all_afters : (p : ℕ) (faces : List (List ℕ)) → All (λ k. k < p + length (starts faces)) (afters p faces)
all_afters p [] = All-nil (λ k. k < p + 0)
all_afters p (w ∷ ws) =
    let long = length-append w (starts ws) in
    let P : ℕ → Type 0 = λ k. k < p + length (w ++ starts ws) in
    All-append P (turned (numbers_between p (p + length w))) (afters (p + length w) ws)
    (all_turned P (numbers_between p (p + length w)) (All-weaker (λ k. k < p + length w) P (λ k below. omega (arith, below, long)) (numbers_between p (p + length w)) (all_numbers p (p + length w))))
    (All-weaker (λ k. k < p + length w + length (starts ws)) P (λ k below. omega (arith, below, long)) (afters (p + length w) ws) (all_afters (p + length w) ws))

all_owners : (f : ℕ) (faces : List (List ℕ)) → All (λ k. k < f + length faces) (owners f faces)
all_owners f [] = All-nil (λ k. k < f + 0)
all_owners f (w ∷ ws) =
    All-append (λ k. k < f + length (w ∷ ws)) (replicate (length w) f) (owners (suc f) ws)
    (All-replicate (λ k. k < f + length (w ∷ ws)) (length w) f (omega arith))
    (All-weaker (λ k. k < suc f + length ws) (λ k. k < f + length (w ∷ ws)) (λ k below. omega (arith, below)) (owners (suc f) ws) (all_owners (suc f) ws))

few_faces : (faces : List (List ℕ)) → ((f : ℕ) → f < length faces → 3 ≤ length (slice_index_or faces f [])) → length faces ≤ length (starts faces)
few_faces [] long = omega arith
few_faces (w ∷ ws) long =
    let here : 3 ≤ length w = long 0 (omega arith) in
    let rest = few_faces ws (λ f below. long (suc f) (omega (arith, below))) in
    omega (arith, here, rest, length-append w (starts ws))

module _ (faces : List (List ℕ)) (from to face after : List ℕ) (s : AreSides faces from to face after) where
  pub as_many_ends : length to ≡ length from
  as_many_ends = ap length s.to_is ∙ length-ends faces ∙ sym (ap length s.from_is)

  pub as_many_afters : length after ≡ length from
  as_many_afters = ap length s.after_is ∙ length-afters 0 faces ∙ sym (ap length s.from_is)

  pub afters_below : (p : ℕ) → p < length from → slice_index after p < length from
  afters_below p below =
      let long = ap length s.from_is in
      let many = as_many_afters in
      let at : slice_index after p < 0 + length (starts faces) =
      subst (λ list. slice_index list p < 0 + length (starts faces)) (sym s.after_is)
      (All-get_or (λ k. k < 0 + length (starts faces)) (afters 0 faces) p 0 (let l = length-afters 0 faces in omega (arith, below, long)) (all_afters 0 faces)) in
      omega (arith, at, long)

  pub as_many_owners : length face ≡ length from
  as_many_owners = ap length s.face_is ∙ length-owners 0 faces ∙ sym (ap length s.from_is)

  pub owners_small : (p : ℕ) → p < length from → slice_index face p + 1 < 2 ^ 32
  owners_small p below =
      let long = ap length s.from_is in
      let at : slice_index face p < 0 + length faces =
      subst (λ list. slice_index list p < 0 + length faces) (sym s.face_is)
      (All-get_or (λ k. k < 0 + length faces) (owners 0 faces) p 0 (let l = length-owners 0 faces in omega (arith, below, long)) (all_owners 0 faces)) in
      let few = few_faces faces s.long in
      let bound = s.few in
      omega (arith, at, few, bound, long)

  pub ends_below : (n : ℕ) → ((p : ℕ) → p < length from → slice_index from p < n) → (p : ℕ) → p < length from → slice_index to p < n
  ends_below n below p within =
      let long = ap length s.from_is in
      let all : All (λ k. k < n) (starts faces) = subst (All (λ k. k < n)) s.from_is (All-from_get_or (λ k. k < n) from 0 below) in
      subst (λ list. slice_index list p < n) (sym s.to_is)
      (All-get_or (λ k. k < n) (ends faces) p 0 (let l = length-ends faces in omega (arith, within, long)) (all_ends (λ k. k < n) faces all))

-- half edges start at vertices
pub origins_below : (from to : List ℕ) (n : ℕ) (half : List ℕ) (side : List (Option ℕ)) (origin : List ℕ) → AreNumbered from to (length from) half side origin
    → ((p : ℕ) → p < length from → slice_index from p < n) → ((p : ℕ) → p < length from → slice_index to p < n)
    → (h : ℕ) → h < length origin → slice_index origin h < n
origins_below from to n half side origin u starts_below ends_below h within = of_option (slice_index_or side h None) refl
  where
    of_option : (o : Option ℕ) → slice_index_or side h None ≡ o → slice_index origin h < n
    of_option None is =
        let p = u.bare h within is in
        subst (λ v. v < n) (sym (u.end p.0 p.1) ∙ ap (slice_index origin) p.2) (ends_below p.0 p.1)
    of_option (Some p) is =
        let was = u.only h p is in
        subst (λ v. v < n) (sym (u.start p was.0) ∙ ap (slice_index origin) was.1) (starts_below p was.0)
