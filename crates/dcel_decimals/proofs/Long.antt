-- Digits of which more stand before the zeros at the end than a mantissa has room for.
use Rattle.std.proofs.Common.{◌≡◌, ℕ, zero, suc, ◌+◌, ◌*◌, ◌^◌, ◌<◌, ◌≤◌, ◌%◌, List, [], ◌∷◌, ◌++◌, take, drop, length, get_or, ap, sym, subst, ◌∙◌, arith, inl, inr, refl}
use Rattle.std.specs.Str.Parse.{AllDigits, digits_value_after}
use Rattle.std.specs.Char.{digit_value}
use Rattle.std.proofs.lemmas.Bool.{cases_eq}
use Rattle.dcel_decimals.specs.Digits.{IsLong}
use Rattle.dcel_decimals.proofs.Powers.{keeps, times_ten, larger}

-- q stays before the zeros at the end, or a greater number stands there
pub lasts : (q s : ℕ) (more : List ℕ) (m t : ℕ) → 10 ^ 25 ≤ q → (q % 10 ≡ 0 → q ≡ 0) → AllDigits 10 more → digits_value_after 10 (q * 10 ^ s) more ≡ m * 10 ^ t → 10 ^ 25 ≤ m
lasts q s [] m t h n d e = let r = keeps q s m t (omega arith) n e in omega (arith, r.1)
lasts q s (c ∷ cs) m t h n d e =
    let small : digit_value c < 10 = d.0 in
    elim (cases_eq (digit_value c) 0) [
      | inl none ↦
          let same : (q * 10 ^ s) * 10 + digit_value c ≡ q * 10 ^ suc s = omega (arith, times_ten q s) in
          lasts q (suc s) cs m t h n d.1 (ap (λ (v : ℕ). digits_value_after 10 v cs) (sym same) ∙ e)
      | inr one ↦
          let v = (q * 10 ^ s) * 10 + digit_value c in
          let large : 10 ^ 25 ≤ v = omega (arith, larger q s) in
          let same : v ≡ v * 10 ^ 0 = omega arith in
          lasts v 0 cs m t large (λ z. absurd (omega arith)) d.1 (ap (λ (v : ℕ). digits_value_after 10 v cs) (sym same) ∙ e)
    ]

pub value_of_both : (n : ℕ) (xs ys : List ℕ) → digits_value_after 10 n (xs ++ ys) ≡ digits_value_after 10 (digits_value_after 10 n xs) ys
value_of_both n [] ys = refl
value_of_both n (x ∷ xs) ys = value_of_both (n * 10 + digit_value x) xs ys

pub digits_of_both : (xs ys : List ℕ) → AllDigits 10 xs → AllDigits 10 ys → AllDigits 10 (xs ++ ys)
digits_of_both [] ys d e = e
digits_of_both (x ∷ xs) ys d e = (d.0, digits_of_both xs ys d.1 e)

-- a number that is long stays so
pub stays_long : (n : ℕ) (more : List ℕ) → AllDigits 10 more → IsLong n → IsLong (digits_value_after 10 n more)
stays_long n more d long next m t e f = long (more ++ next) m t (digits_of_both more next d e) (value_of_both n more next ∙ f)

-- and it has more than 25 digits
pub long_is_large : (n : ℕ) → IsLong n → 10 ^ 25 ≤ n
long_is_large n long = long [] n 0 tt (omega arith)

-- a number above the range is long if its last digit isn't 0
pub becomes_long : (n : ℕ) → 10 ^ 25 ≤ n → (n % 10 ≡ 0 → n ≡ 0) → IsLong n
becomes_long n h last more m t d e = lasts n 0 more m t h last d (ap (λ (v : ℕ). digits_value_after 10 v more) (omega arith) ∙ e)

value_at : (n : ℕ) (bs : List ℕ) (i : ℕ) → i < length bs → digits_value_after 10 n (take (suc i) bs) ≡ digits_value_after 10 n (take i bs) * 10 + digit_value (get_or bs i 0)
value_at n [] i h = absurd (omega arith)
value_at n (b ∷ bs) zero h = refl
value_at n (b ∷ bs) (suc i) h = value_at (n * 10 + digit_value b) bs i (omega arith)

pub value_next : (n : ℕ) (bs : List ℕ) (i : ℕ) → i < length bs → digits_value_after 10 n (take (i + 1) bs) ≡ digits_value_after 10 n (take i bs) * 10 + digit_value (get_or bs i 0)
value_next n bs i h = let same : i + 1 ≡ suc i = omega arith in ap (λ (k : ℕ). digits_value_after 10 n (take k bs)) same ∙ value_at n bs i h

pub value_rest : (n : ℕ) (bs : List ℕ) (i : ℕ) → digits_value_after 10 n bs ≡ digits_value_after 10 (digits_value_after 10 n (take i bs)) (drop i bs)
value_rest n [] zero = refl
value_rest n [] (suc i) = refl
value_rest n (b ∷ bs) zero = refl
value_rest n (b ∷ bs) (suc i) = value_rest (n * 10 + digit_value b) bs i

pub digits_rest : (bs : List ℕ) (i : ℕ) → AllDigits 10 bs → AllDigits 10 (drop i bs)
digits_rest [] zero d = d
digits_rest [] (suc i) d = d
digits_rest (b ∷ bs) zero d = d
digits_rest (b ∷ bs) (suc i) d = digits_rest bs i d.1

-- the digits so far are long, so all are
pub long_early : (n : ℕ) (bs : List ℕ) (i v d : ℕ) → i < length bs → AllDigits 10 bs → v ≡ digits_value_after 10 n (take i bs) → d ≡ digit_value (get_or bs i 0) → 0 < d → d < 10 → 10 ^ 25 ≤ v * 10 + d → IsLong (digits_value_after 10 n bs)
long_early n bs i v d h all ev ed above below large =
    let next : digits_value_after 10 n (take (i + 1) bs) ≡ v * 10 + d = omega (arith, value_next n bs i h) in
    let long : IsLong (v * 10 + d) = becomes_long (v * 10 + d) large (λ z. absurd (omega arith)) in
    let more = stays_long (v * 10 + d) (drop (i + 1) bs) (digits_rest bs (i + 1) all) long in
    let same = value_rest n bs (i + 1) ∙ ap (λ (x : ℕ). digits_value_after 10 x (drop (i + 1) bs)) next in
    let P : ℕ → Type 0 = λ x. IsLong x in
    subst P (sym same) more

-- a number whose digits are read in two parts
pub long_whole : (n : ℕ) (w xs ys : List ℕ) → n ≡ 0 → w ≡ xs → AllDigits 10 ys → IsLong (digits_value_after 10 n w) → IsLong (digits_value_after 10 0 (xs ++ ys))
long_whole n w xs ys none same d long =
    let P : ℕ → Type 0 = λ v. IsLong v in
    let begun : digits_value_after 10 n w ≡ digits_value_after 10 0 xs = rw (none, same) refl in
    subst P (sym (value_of_both 0 xs ys)) (stays_long (digits_value_after 10 0 xs) ys d (subst P begun long))

pub value_is : (n m : ℕ) (w f xs ys : List ℕ) → n ≡ 0 → w ≡ xs → f ≡ ys → m ≡ digits_value_after 10 n w → digits_value_after 10 m f ≡ digits_value_after 10 0 (xs ++ ys)
value_is n m w f xs ys none whole fraction e = rw (e, none, whole, fraction) (sym (value_of_both 0 xs ys))
