-- Numbers that stand one after another among the items of a line.
use Rattle.std.proofs.Common.{◌≡◌, ◌≢◌, ℕ, ◌+◌, ◌<◌, ◌≤◌, ◌^◌, List, [], ◌∷◌, ◌++◌, length, get_or, map, refl, sym, ap, ◌∙◌, arith, inl, inr}
use Rattle.std.specs.Fmt.{decimal}
use Rattle.std.specs.List.{AllByRecursion}
use Rattle.std.proofs.lemmas.Bool.{cases_eq}
use Rattle.std.proofs.lemmas.Fmt.{decimal_injective}
use Rattle.dcel_text.specs.Items.{items_of, before, slash, BeginsWith}
use Rattle.dcel_text.specs.Numbers.{IsNumber}
use Rattle.dcel_text.proofs.Cutting.{items_of-byte, items_of-nil, items_of-space}
use Rattle.dcel_text.proofs.Decimals.{first_digit}

-- ---- how many items there are

length-before : (b : ℕ) (items : List (List ℕ)) → length (before b items) ≤ length items + 1
length-before b [] = omega arith
length-before b (item ∷ items) = omega arith

pub items_of-few : (bs : List ℕ) → length (items_of bs) ≤ length bs + 1
items_of-few [] = rw items_of-nil (omega arith)
items_of-few (b ∷ bs) =
    let fewer = items_of-few bs in
    elim (cases_eq b 32) [
      | inl e ↦ omega (arith, fewer, ap (λ (x : ℕ). length (items_of (x ∷ bs))) e, ap length (items_of-space bs))
      | inr ne ↦ omega (arith, fewer, ap length (items_of-byte b bs ne), length-before b (items_of bs))
    ]

-- ---- what no number is

pub slash_is_no_number : (n : ℕ) → n < 10 ^ 19 → slash ≢ decimal n
slash_is_no_number n lt e = omega (arith, first_digit n lt, ap (λ (x : List ℕ). get_or x 0 0) e)

pub slash_ends : (n : ℕ) (others more : List (List ℕ)) → IsNumber n → slash ∷ others ≢ decimal n ∷ more
slash_ends n others more is e =
    slash_is_no_number n (omega arith) (cc)

pub nothing_ends : (n : ℕ) (more : List (List ℕ)) → IsNumber n → [] ≢ decimal n ∷ more
nothing_ends n more is e = absurd cc

-- ---- numbers, as far as they were read

-- the items begin with these numbers
pub record Runs (items : List (List ℕ)) (numbers : List ℕ) (others : List (List ℕ)) : Type 0 where
  pub whole : items ≡ map decimal numbers ++ others
  pub in_range : AllByRecursion IsNumber numbers

in_range-push : (numbers : List ℕ) (n : ℕ) → AllByRecursion IsNumber numbers → IsNumber n → AllByRecursion IsNumber (numbers ++ n ∷ [])
in_range-push [] n all is = (is, tt)
in_range-push (m ∷ numbers) n all is = (all.0, in_range-push numbers n all.1 is)

numbers-push : (numbers : List ℕ) (n : ℕ) (more : List (List ℕ)) → map decimal numbers ++ decimal n ∷ more ≡ map decimal (numbers ++ n ∷ []) ++ more
numbers-push [] n more = refl
numbers-push (m ∷ numbers) n more = ap (λ (x : List (List ℕ)). decimal m ∷ x) (numbers-push numbers n more)

pub runs_on : (items : List (List ℕ)) (numbers : List ℕ) (others more : List (List ℕ)) (n : ℕ)
    → Runs items numbers others → others ≡ decimal n ∷ more → IsNumber n → Runs items (numbers ++ n ∷ []) more
runs_on items numbers others more n runs next is = record {
  whole = runs.whole ∙ ap (λ (x : List (List ℕ)). map decimal numbers ++ x) next ∙ numbers-push numbers n more;
  in_range = in_range-push numbers n runs.in_range is;
}

pub runs_out : (items : List (List ℕ)) (numbers : List ℕ) (others : List (List ℕ))
    → Runs items numbers others → ((n : ℕ) (more : List (List ℕ)) → IsNumber n → others ≢ decimal n ∷ more) → BeginsWith items numbers others
runs_out items numbers others runs ends = record { whole = runs.whole; in_range = runs.in_range; ends = ends }

-- as many items as numbers were read
length-numbers : (ns : List ℕ) (rest : List (List ℕ)) → length (map decimal ns ++ rest) ≡ length ns + length rest
length-numbers [] rest = omega arith
length-numbers (n ∷ ns) rest = omega (arith, length-numbers ns rest)

pub runs-length : (items : List (List ℕ)) (numbers : List ℕ) (others : List (List ℕ)) → Runs items numbers others → length items ≡ length numbers + length others
runs-length items numbers others runs = ap length runs.whole ∙ length-numbers numbers others

pub runs_to_the_end : (items : List (List ℕ)) (numbers : List ℕ) (others : List (List ℕ)) → Runs items numbers others → length items ≤ length numbers → BeginsWith items numbers others
runs_to_the_end items numbers [] runs few = runs_out items numbers [] runs nothing_ends
runs_to_the_end items numbers (item ∷ others) runs few = absurd (omega (arith, runs-length items numbers (item ∷ others) runs))

-- ---- items begin with one list of numbers

pub begins_one : (items : List (List ℕ)) (ms ns : List ℕ) (xs ys : List (List ℕ)) → BeginsWith items ms xs → BeginsWith items ns ys → (ms ≡ ns) × (xs ≡ ys)
begins_one items [] [] xs ys b c = (refl, sym b.whole ∙ c.whole)
begins_one items [] (n ∷ ns) xs ys b c = absurd (b.ends n (map decimal ns ++ ys) c.in_range.0 (sym b.whole ∙ c.whole))
begins_one items (m ∷ ms) [] xs ys b c = absurd (c.ends m (map decimal ms ++ xs) b.in_range.0 (sym c.whole ∙ b.whole))
begins_one items (m ∷ ms) (n ∷ ns) xs ys b c =
    let e : decimal m ∷ (map decimal ms ++ xs) ≡ decimal n ∷ (map decimal ns ++ ys) = sym b.whole ∙ c.whole in
    let first : decimal m ≡ decimal n = cc in
    let rest : map decimal ms ++ xs ≡ map decimal ns ++ ys = cc in
    let here = decimal_injective m n (omega (arith, b.in_range.0)) (omega (arith, c.in_range.0)) first in
    let there = begins_one (map decimal ms ++ xs) ms ns xs ys
    (record { whole = refl; in_range = b.in_range.1; ends = b.ends })
    (record { whole = rest; in_range = c.in_range.1; ends = c.ends }) in
    (ap (λ (k : ℕ). k ∷ ms) here ∙ ap (λ (ks : List ℕ). n ∷ ks) there.0, there.1)

-- where one more comes, more numbers stand there than were read
pub runs_within : (items : List (List ℕ)) (ms ns : List ℕ) (others more xs : List (List ℕ)) (n : ℕ)
    → Runs items ms others → others ≡ decimal n ∷ more → IsNumber n → BeginsWith items ns xs → length ms < length ns
runs_within items [] [] others more xs n runs next is begins = absurd (begins.ends n more is (sym begins.whole ∙ (runs.whole ∙ next)))
runs_within items [] (k ∷ ns) others more xs n runs next is begins = omega arith
runs_within items (m ∷ ms) [] others more xs n runs next is begins = absurd (begins.ends m (map decimal ms ++ others) runs.in_range.0 (sym begins.whole ∙ runs.whole))
runs_within items (m ∷ ms) (k ∷ ns) others more xs n runs next is begins =
    let e : decimal m ∷ (map decimal ms ++ others) ≡ decimal k ∷ (map decimal ns ++ xs) = sym runs.whole ∙ begins.whole in
    let rest : map decimal ms ++ others ≡ map decimal ns ++ xs = cc in
    omega (
      arith,
      runs_within (map decimal ms ++ others) ms ns others more xs n
          (record { whole = refl; in_range = runs.in_range.1 }) next is
          (record { whole = rest; in_range = begins.in_range.1; ends = begins.ends }),
    )
