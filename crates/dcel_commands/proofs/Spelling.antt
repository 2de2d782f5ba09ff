-- Which lines say what.
use Rattle.std.proofs.Common.{◌≡◌, ◌≢◌, ℕ, ◌<◌, ◌≤◌, ◌^◌, suc, List, [], ◌∷◌, length, get_or, map, refl, sym, ap, ◌∙◌, arith, ne_eqb, Bool, true, false, cond, Option, Some, None}
use Rattle.std.specs.Prelude.{ℤ, pos, negsuc}
use Rattle.std.specs.List.{AllByRecursion}
use Rattle.std.specs.declared.alloc.AllocError.{AllocError}
use Rattle.std.specs.declared.result.Result.TheVariants.{Ok, Err}
use Rattle.std.specs.declared.result.Result.{Result}
use Rattle.std.specs.Str.{bytes_eq}
use Rattle.std.specs.Str.Parse.{AllDigits}
use Rattle.std.specs.Fmt.{decimal}
use Rattle.std.proofs.lemmas.Bool.{false≢true}
use Rattle.std.proofs.lemmas.Fmt.{digits_decimal, signed_decimal_injective}
use Rattle.std.proofs.lemmas.Str.Parse.{digit_from_value}
use Rattle.dcel_commands.specs.declared.commands.query.Query.TheVariants.{Counts}
use Rattle.dcel_commands.specs.declared.request.Request.{Request}
use Rattle.dcel_commands.specs.Grammar.{Item, Number, Datum, Slash, item_text, IsInRange}
use Rattle.dcel_commands.specs.Instructions.{Append, Saying, Edit, Ask}
use Rattle.dcel_commands.specs.Spelling.{HasList, Reads, Says, Spells, given, word, written}
use Rattle.dcel_commands.specs.Written.{IsWritten}
use Rattle.dcel_text.specs.Items.{items_of, slash, spaced}
use Rattle.dcel_text.proofs.Cutting.{has_no_space, NoSpaces, spaced-items_of, items_of-spaced}
use Rattle.dcel_text.proofs.Decimals.{numerals}
use Rattle.dcel_text.proofs.Runs.{slash_is_no_number}
use Rattle.dcel_commands.proofs.Rows.{Of, value_of, request_of, request_of-word}

first_item : (a b : List ℕ) (xs ys : List (List ℕ)) → a ∷ xs ≡ b ∷ ys → a ≡ b
first_item a b xs ys e = cc

pub other_items : (a b : List ℕ) (xs ys : List (List ℕ)) → a ∷ xs ≡ b ∷ ys → xs ≡ ys
other_items a b xs ys e = cc

-- a line that begins with one word doesn't begin with another
pub other_word : (w v : List ℕ) (xs ys : List (List ℕ)) → bytes_eq w w ≡ true → bytes_eq v w ≡ false → w ∷ xs ≡ v ∷ ys → ⊥
other_word w v xs ys same differs e = false≢true (sym differs ∙ (ap (λ (x : List ℕ). bytes_eq x w) (sym (first_item w v xs ys e)) ∙ same))

-- ---- no item has a space

no_space_word : (said : Saying) → has_no_space (word said) ≡ true
no_space_word (Edit (Append datum)) = refl
no_space_word (Ask Counts) = refl
no_space_word _ = refl

no_space_digits : (digits : List ℕ) → AllDigits 10 digits → has_no_space digits ≡ true
no_space_digits [] d = refl
no_space_digits (b ∷ digits) d =
    let r = digit_from_value b d.0 in
    ap (λ (x : Bool). cond x false (has_no_space digits)) (ne_eqb b 32 (λ e. omega arith)) ∙ no_space_digits digits d.1

no_space_decimal : (n : ℕ) → n < 2 ^ 64 → has_no_space (decimal n) ≡ true
no_space_decimal n lt = no_space_digits (decimal n) (digits_decimal numerals n lt)

no_space_item : (item : Item ℤ) → IsInRange item → has_no_space (item_text item) ≡ true
no_space_item (Number n) r = no_space_decimal n (omega arith)
no_space_item (Datum (pos n)) r = no_space_decimal n (omega arith)
no_space_item (Datum (negsuc n)) r = no_space_decimal (suc n) (omega arith)
no_space_item Slash r = refl

no_space_items : (items : List (Item ℤ)) → AllByRecursion IsInRange items → NoSpaces (map item_text items)
no_space_items [] r = tt
no_space_items (item ∷ items) r = (no_space_item item r.0, no_space_items items r.1)

-- ---- a line and its items

items_of-spells : (said : Saying) (line : List ℕ) → Spells said line → items_of line ≡ written said
items_of-spells said line h = ap items_of h.spelled ∙ items_of-spaced (word said) (map item_text (given said)) (no_space_word said) (no_space_items (given said) h.in_range)

-- what the items of a line say, the line says
pub reads : {A : Type 0} (line first : List ℕ) (others : List (List ℕ)) (said : Option (Result (Request A) AllocError)) → length line ≤ 4096 → items_of line ≡ first ∷ others
    → Says first others said → Reads line said
unfolding Says
reads line first others None short e says = λ other h. says other h.in_range (sym e ∙ items_of-spells other line h)
reads line first others (Some (Ok request)) short e says =
    record { in_range = says.0; short = short; spelled = sym (spaced-items_of line) ∙ ap spaced (e ∙ says.1) }
reads line first others (Some (Err error)) short e says = (
  says.0,
  record { in_range = says.1; short = short; spelled = sym (spaced-items_of line) ∙ ap spaced (e ∙ says.2) },
  says.3,
)

pub no_word : (A : Type 0) (first : List ℕ) (others : List (List ℕ)) → ((said : Saying) → first ≢ word said) → Says {A = A} first others None
unfolding Says
no_word A first others none said in_range e = none said (first_item first (word said) others (map item_text (given said)) e)

-- a list that is written there found no memory
pub no_memory : (A : Type 0) (error : AllocError) (first : List ℕ) (items : List (List ℕ)) (said : Saying) → first ≡ word said → IsWritten (given said) items → HasList said
    → Says {A = A} first items (Some (Err error))
unfolding Says
no_memory A error first items said begins written has = (said, written.0, rw (begins, written.1) refl, has)

-- ---- a line says one thing

slash_is_no_datum : (d : ℤ) → IsInRange (Datum d) → slash ≢ item_text (Datum d)
slash_is_no_datum (pos n) r e = slash_is_no_number n (omega arith) e
slash_is_no_datum (negsuc n) r e = absurd (omega (arith, ap (λ (x : List ℕ). get_or x 0 0) e))

same_value : (i j : Item ℤ) → IsInRange i → IsInRange j → item_text i ≡ item_text j → value_of i ≡ value_of j
unfolding value_of
same_value (Number m) (Number n) r q e = ap Of (signed_decimal_injective (pos m) (pos n) (omega arith) (omega arith) e)
same_value (Number m) (Datum d) r q e = ap Of (signed_decimal_injective (pos m) d (omega arith) (omega (arith, q)) e)
same_value (Number m) Slash r q e = absurd (slash_is_no_number m (omega arith) (sym e))
same_value (Datum c) (Number n) r q e = ap Of (signed_decimal_injective c (pos n) (omega (arith, r)) (omega arith) e)
same_value (Datum c) (Datum d) r q e = ap Of (signed_decimal_injective c d (omega (arith, r)) (omega (arith, q)) e)
same_value (Datum c) Slash r q e = absurd (slash_is_no_datum c r (sym e))
same_value Slash (Number n) r q e = absurd (slash_is_no_number n (omega arith) e)
same_value Slash (Datum d) r q e = absurd (slash_is_no_datum d q e)
same_value Slash Slash r q e = refl

same_values : (is js : List (Item ℤ)) → AllByRecursion IsInRange is → AllByRecursion IsInRange js → map item_text is ≡ map item_text js → map value_of is ≡ map value_of js
same_values [] [] r q e = refl
same_values [] (j ∷ js) r q e = absurd cc
same_values (i ∷ is) [] r q e = absurd cc
same_values (i ∷ is) (j ∷ js) r q e =
    let here = same_value i j r.0 q.0 (first_item (item_text i) (item_text j) (map item_text is) (map item_text js) e) in
    let there = same_values is js r.1 q.1 (other_items (item_text i) (item_text j) (map item_text is) (map item_text js) e) in
    rw (here, there) refl

some_injective : (p q : Saying) (said : Option Saying) → said ≡ Some p → said ≡ Some q → p ≡ q
some_injective p q said e f = cc

-- a line is at most one command or query
pub one_spelling : (p q : Saying) (line : List ℕ) → Spells p line → Spells q line → p ≡ q
one_spelling p q line a b =
    let e = sym (items_of-spells p line a) ∙ items_of-spells q line b in
    let words = first_item (word p) (word q) (map item_text (given p)) (map item_text (given q)) e in
    let values = same_values (given p) (given q) a.in_range b.in_range (other_items (word p) (word q) (map item_text (given p)) (map item_text (given q)) e) in
    some_injective p q (request_of (word p) (map value_of (given p))) (request_of-word p) (rw (words, values) (request_of-word q))
