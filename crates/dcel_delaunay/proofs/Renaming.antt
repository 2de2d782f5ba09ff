-- Listed edges under the numbers that they have once others are taken out.
use Rattle.std.proofs.Common.{◌≡◌, inl, inr, ℕ, zero, suc, ◌+◌, ◌-◌, ◌<◌, ◌≤◌, List, [], ◌∷◌, ◌++◌, length, map, reverse, slice_index_or, slice_set, refl, sym, ap, ◌∙◌, arith}
use Rattle.std.proofs.lemmas.Bool.{cases_lt}
use Rattle.std.proofs.lemmas.List.{length-append, length-reverse, reverse-append}
use Rattle.dcel_maps.specs.Removals.{IsListed, ascending}
use Rattle.dcel_maps.specs.Renumbered.{new_edge}
use Rattle.dcel_maps.specs.Renumbering.{edges_down, moved, new_number}
use Rattle.dcel_maps.specs.Shapes.{IsMesh, Mesh, Shape}
use Rattle.dcel_maps.proofs.renumbering.GivenUp.{listed-down}
use Rattle.dcel_maps.proofs.renumbering.Moves.{moved-last, moved-other}
use Rattle.dcel_plane.proofs.removal.Cleaned.{cleaned_is}

-- what is left to be taken out makes of this number what all make of the edge
pub record Renames (last : ℕ) (left : List ℕ) (number count : ℕ) (taken : List ℕ) (edge : ℕ) : Type 0 where
  pub same : new_number last (reverse left) number ≡ new_number count (reverse taken) edge
  pub few : length left ≤ last

one_out : (last gone number : ℕ) (rest : List ℕ) → new_number last (gone ∷ rest) number ≡ new_number (last - 1) rest (moved (last - 1) gone number)
unfolding new_number
one_out last gone number rest = refl

-- the number of the last one
pub moved_hit : (last gone edge : ℕ) → edge ≡ last → gone ≡ moved last gone edge
moved_hit last gone edge is = sym (moved-last last gone) ∙ ap (moved last gone) (sym is)

-- what is below all that may move stays
low_stays : (n : ℕ) (taken : List ℕ) (edge : ℕ) → edge + length taken < n → new_number n taken edge ≡ edge
unfolding new_number
low_stays n [] edge below = refl
low_stays n (x ∷ rest) edge below =
    ap (new_number (n - 1) rest) (moved-other (n - 1) x edge (λ is. omega (arith, is, below))) ∙ low_stays (n - 1) rest edge (omega (arith, below))

-- and so does what is past the last one
high_stays : (n : ℕ) (taken : List ℕ) (edge : ℕ) → length taken ≤ n → n ≤ edge → new_number n taken edge ≡ edge
unfolding new_number
high_stays n [] edge few past = refl
high_stays n (x ∷ rest) edge few past =
    ap (new_number (n - 1) rest) (moved-other (n - 1) x edge (λ is. omega (arith, is, few, past))) ∙ high_stays (n - 1) rest edge (omega (arith, few)) (omega (arith, past))

-- until it is the last one, it stays
skip_over : (n : ℕ) (first rest : List ℕ) (edge : ℕ) → edge + length first < n → new_number n (first ++ rest) edge ≡ new_number (n - length first) rest edge
unfolding new_number
skip_over n [] rest edge below = ap (λ (k : ℕ). new_number k rest edge) (omega arith)
skip_over n (x ∷ first) rest edge below =
    ap (new_number (n - 1) (first ++ rest)) (moved-other (n - 1) x edge (λ is. omega (arith, is, below)))
    ∙ skip_over (n - 1) first rest edge (omega (arith, below)) ∙ ap (λ (k : ℕ). new_number k rest edge) (omega arith)

pub renames_far : (last gone number count edge : ℕ) (left before after others taken : List ℕ) → left ≡ before ++ after → length after + number + 1 ≡ last → before ≡ others ++ gone ∷ []
    → Renames last left number count taken edge → Renames number others gone count taken edge
renames_far last gone number count edge left before after others taken parts far is renames =
    let long = length-reverse after in
    let turned : reverse left ≡ reverse after ++ gone ∷ reverse others =
    ap reverse parts ∙ reverse-append before after ∙ ap (λ (l : List ℕ). reverse after ++ l) (ap reverse is ∙ reverse-append others (gone ∷ [])) in
    let here : last - length (reverse after) ≡ number + 1 = omega (arith, long, far) in
    let back : number + 1 - 1 ≡ number = omega arith in
    record {
      same =
          ap (new_number number (reverse others)) (moved_hit number gone number refl)
          ∙ ap (λ (k : ℕ). new_number k (reverse others) (moved k gone number)) (sym back)
          ∙ sym (one_out (number + 1) gone number (reverse others))
          ∙ ap (λ (k : ℕ). new_number k (gone ∷ reverse others) number) (sym here)
          ∙ sym (skip_over last (reverse after) (gone ∷ reverse others) number (omega (arith, long, far)))
          ∙ ap (λ (l : List ℕ). new_number last l number) (sym turned) ∙ renames.same;
      few =
          (let whole = ap length parts in
          let both = length-append before after in
          let own = ap length is in
          let two = length-append others (gone ∷ []) in
          let fits = renames.few in
          omega (arith, whole, both, own, two, fits, far));
    }

pub renames_still : (last number count edge : ℕ) (left taken : List ℕ) → ¬ ((number < last) × (last ≤ number + length left)) → Renames last left number count taken edge
    → number ≡ new_number count (reverse taken) edge
renames_still last number count edge left taken not renames =
    let long = length-reverse left in
    let fits = renames.few in
    let stays : new_number last (reverse left) number ≡ number =
    elim (cases_lt number last) [
      | inl below ↦ elim (cases_lt (number + length left) last) [
        | inl far ↦ low_stays last (reverse left) number (omega (arith, long, far))
        | inr near ↦ absurd (not (below, near))
      ]
      | inr past ↦ high_stays last (reverse left) number (omega (arith, long, fits)) past
    ] in
    sym stays ∙ renames.same

-- the first i items under new names
pub partly : (ℕ → ℕ) → ℕ → List ℕ → List ℕ
partly f zero xs = xs
partly f (suc i) [] = []
partly f (suc i) (x ∷ xs) = f x ∷ partly f i xs

pub partly_none : (f : ℕ → ℕ) (xs : List ℕ) → xs ≡ partly f 0 xs
unfolding partly
partly_none f xs = refl

pub partly_long : (f : ℕ → ℕ) (i : ℕ) (xs : List ℕ) → length (partly f i xs) ≡ length xs
unfolding partly
partly_long f zero xs = refl
partly_long f (suc i) [] = refl
partly_long f (suc i) (x ∷ xs) = ap suc (partly_long f i xs)

pub partly_more : (f : ℕ → ℕ) (i : ℕ) (xs : List ℕ) (d : ℕ) → i < length xs → slice_set (partly f i xs) i (f (slice_index_or (partly f i xs) i d)) ≡ partly f (suc i) xs
unfolding partly
partly_more f zero [] d below = absurd (omega (arith, below))
partly_more f zero (x ∷ xs) d below = refl
partly_more f (suc i) [] d below = absurd (omega (arith, below))
partly_more f (suc i) (x ∷ xs) d below = ap (λ (l : List ℕ). f x ∷ l) (partly_more f i xs d (omega (arith, below)))

pub partly_all : (f : ℕ → ℕ) (i : ℕ) (xs : List ℕ) → length xs ≤ i → partly f i xs ≡ map f xs
unfolding partly
partly_all f zero [] past = refl
partly_all f zero (x ∷ xs) past = absurd (omega (arith, past))
partly_all f (suc i) [] past = refl
partly_all f (suc i) (x ∷ xs) past = ap (λ (l : List ℕ). f x ∷ l) (partly_all f i xs (omega (arith, past)))

-- one more item is renamed
pub partly_put : (f : ℕ → ℕ) (i edge number : ℕ) (xs before after : List ℕ) → before ≡ partly f i xs → i < length before → edge ≡ slice_index_or before i edge → number ≡ f edge
    → after ≡ slice_set before i number → after ≡ partly f (i + 1) xs
partly_put f i edge number xs before after was below read named written =
    let long = ap length was ∙ partly_long f i xs in
    written ∙ ap (slice_set before i) (named ∙ ap f (read ∙ ap (λ (l : List ℕ). slice_index_or l i edge) was))
    ∙ ap (λ (l : List ℕ). slice_set l i (f (slice_index_or (partly f i xs) i edge))) was ∙ partly_more f i xs edge (omega (arith, below, long))
    ∙ ap (λ (n : ℕ). partly f n xs) (let e : suc i ≡ i + 1 = omega arith in e)

-- the numbers after cleanup, by the lists that it leaves
pub renamed_as : (s : Shape) (es fs lent old new : List ℕ) (count : ℕ) → IsListed s.removal es fs → lent ≡ ascending es → count ≡ s.edges
    → new ≡ map (new_number count (reverse lent)) old → new ≡ map (new_edge s) old
renamed_as s es fs lent old new count listed are many is =
    is ∙ ap (λ (n : ℕ). map (new_number n (reverse lent)) old) many
    ∙ ap (λ (ds : List ℕ). map (new_number s.edges ds) old) (ap reverse are ∙ sym (listed-down s.removal es fs listed).0)

-- and how many there are
pub listed_fits : {V DE UE F : Type 0} (m : Mesh V DE UE F) → IsMesh m → (es fs lent : List ℕ) (count : ℕ) → IsListed m.shape.removal es fs → lent ≡ ascending es
    → count ≡ m.shape.edges → length lent ≤ count
listed_fits m mesh es fs lent count listed are many =
    let down = (listed-down m.shape.removal es fs listed).0 in
    let long : length (edges_down m.shape.removal) ≡ length lent = ap length (down ∙ ap reverse (sym are)) ∙ length-reverse lent in
    let few = (cleaned_is m mesh).few_edges in
    omega (arith, long, few, many)
