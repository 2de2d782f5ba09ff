-- Decimals, written from the last digit to the first.
use Rattle.std.proofs.Common.{◌≡◌, ℕ, ◌+◌, ◌/◌, ◌%◌, ◌<◌, ◌≤◌, ◌^◌, List, [], ◌∷◌, ◌++◌, length, drop, set, sym, ap, ◌∙◌, arith, append_assoc}
use Rattle.std.specs.Fmt.{decimal}
use Rattle.std.proofs.lemmas.List.{drop-set, length_push}
use Rattle.std.proofs.lemmas.Fmt.{decimal_step, decimal_digit, decimal_nonempty}

-- without its last digit a number is shorter by one
pub length-decimal-div : (n : ℕ) → 10 ≤ n → n < 2 ^ 64 → (length (decimal n) ≡ length (decimal (n / 10)) + 1) × (0 < length (decimal (n / 10)))
length-decimal-div n le lt = (ap length (decimal_step n le lt) ∙ length_push (decimal (n / 10)) (48 + n % 10), decimal_nonempty (n / 10) (omega arith))

-- the last digit of n is put before those that stand
pub digit_put : (all : List ℕ) (n i : ℕ) (digits : List ℕ) → 10 ≤ n → n < 2 ^ 64 → i < length digits → all ≡ decimal n ++ drop (i + 1) digits → all ≡ decimal (n / 10) ++ drop i (set digits i (48 + n % 10))
digit_put all n i digits le lt l e =
    e ∙ ap (λ (x : List ℕ). x ++ drop (i + 1) digits) (decimal_step n le lt)
    ∙ append_assoc (decimal (n / 10)) ((48 + n % 10) ∷ []) (drop (i + 1) digits)
    ∙ ap (λ (x : List ℕ). decimal (n / 10) ++ x) (sym (drop-set digits i (48 + n % 10) l))

-- the first digit is put
pub first_digit_put : (all : List ℕ) (n i : ℕ) (digits : List ℕ) → n < 10 → i < length digits → all ≡ decimal n ++ drop (i + 1) digits → drop i (set digits i (48 + n)) ≡ all
first_digit_put all n i digits lt l e = drop-set digits i (48 + n) l ∙ sym (e ∙ ap (λ (x : List ℕ). x ++ drop (i + 1) digits) (decimal_digit n lt))
