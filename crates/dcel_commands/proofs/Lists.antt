-- Lists of numbers among the items of a line.
use Rattle.std.proofs.Common.{◌≡◌, ◌≢◌, ℕ, List, [], ◌∷◌, ◌++◌, map, refl, sym, ap, ◌∙◌, append-nil}
use Rattle.std.specs.Prelude.{ℤ}
use Rattle.std.specs.Fmt.{decimal}
use Rattle.std.specs.List.{AllByRecursion}
use Rattle.dcel_commands.specs.Grammar.{Item, Number, Slash, item_text, IsInRange, numbers}
use Rattle.dcel_commands.specs.Written.{IsWritten}
use Rattle.dcel_text.specs.Items.{BeginsWith, slash}
use Rattle.dcel_text.specs.Numbers.{IsNumber}
use Rattle.dcel_text.proofs.Runs.{begins_one, nothing_ends, slash_ends}
use Rattle.dcel_commands.proofs.Spelling.{other_items}

-- ---- how lists are written

in_range-numbers : (ns : List ℕ) → AllByRecursion IsNumber ns → AllByRecursion IsInRange (numbers ns)
in_range-numbers [] all = tt
in_range-numbers (n ∷ ns) all = (all.0, in_range-numbers ns all.1)

numbers-in_range : (ns : List ℕ) → AllByRecursion IsInRange (numbers ns) → AllByRecursion IsNumber ns
numbers-in_range [] all = tt
numbers-in_range (n ∷ ns) all = (all.0, numbers-in_range ns all.1)

item_text-numbers : (ns : List ℕ) → map item_text (numbers ns) ≡ map decimal ns
item_text-numbers [] = refl
item_text-numbers (n ∷ ns) = ap (λ (x : List (List ℕ)). decimal n ∷ x) (item_text-numbers ns)

-- a list before a slash
in_range-before : (ns : List ℕ) (later : List (Item ℤ)) → AllByRecursion IsNumber ns → AllByRecursion IsInRange later → AllByRecursion IsInRange (numbers ns ++ Slash ∷ later)
in_range-before [] later all others = (tt, others)
in_range-before (n ∷ ns) later all others = (all.0, in_range-before ns later all.1 others)

before-in_range : (ns : List ℕ) (later : List (Item ℤ)) → AllByRecursion IsInRange (numbers ns ++ Slash ∷ later) → AllByRecursion IsNumber ns × AllByRecursion IsInRange later
before-in_range [] later all = (tt, all.1)
before-in_range (n ∷ ns) later all = let others = before-in_range ns later all.1 in ((all.0, others.0), others.1)

item_text-before : (ns : List ℕ) (later : List (Item ℤ)) → map item_text (numbers ns ++ Slash ∷ later) ≡ map decimal ns ++ slash ∷ map item_text later
item_text-before [] later = refl
item_text-before (n ∷ ns) later = ap (λ (x : List (List ℕ)). decimal n ∷ x) (item_text-before ns later)

-- ---- what was read, and what stands there

-- numbers alone
alone : (items : List (List ℕ)) (ns : List ℕ) → IsWritten (numbers ns) items → BeginsWith items ns []
alone items ns written = record {
  whole = written.1 ∙ item_text-numbers ns ∙ sym (append-nil (map decimal ns));
  in_range = numbers-in_range ns written.0;
  ends = nothing_ends;
}

pub list_read : (items rest : List (List ℕ)) (ns : List ℕ) → BeginsWith items ns rest → rest ≡ [] → IsWritten (numbers ns) items
list_read items rest ns begins none = (
  in_range-numbers ns begins.in_range,
  begins.whole ∙ ap (λ (x : List (List ℕ)). map decimal ns ++ x) none ∙ append-nil (map decimal ns) ∙ sym (item_text-numbers ns),
)

-- something else comes after the numbers
pub no_list : (items rest : List (List ℕ)) (ms : List ℕ) → BeginsWith items ms rest → rest ≢ [] → (ns : List ℕ) → ¬ IsWritten (numbers ns) items
no_list items rest ms begins more ns written = more (begins_one items ms ns rest [] begins (alone items ns written)).1

-- numbers up to a slash
up_to : (items : List (List ℕ)) (ns : List ℕ) (later : List (Item ℤ)) → IsWritten (numbers ns ++ Slash ∷ later) items → BeginsWith items ns (slash ∷ map item_text later)
up_to items ns later written = record {
  whole = written.1 ∙ item_text-before ns later;
  in_range = (before-in_range ns later written.0).0;
  ends = λ n rest. slash_ends n (map item_text later) rest;
}

pub list_before : (items rest second : List (List ℕ)) (ns : List ℕ) (later : List (Item ℤ)) → BeginsWith items ns rest → rest ≡ slash ∷ second → IsWritten later second
    → IsWritten (numbers ns ++ Slash ∷ later) items
list_before items rest second ns later begins cut written = (
  in_range-before ns later begins.in_range written.0,
  begins.whole ∙ ap (λ (x : List (List ℕ)). map decimal ns ++ x) (cut ∙ ap (λ (x : List (List ℕ)). slash ∷ x) written.1) ∙ sym (item_text-before ns later),
)

-- no slash comes after them
pub no_slash : (items rest : List (List ℕ)) (ms : List ℕ) → BeginsWith items ms rest → ((more : List (List ℕ)) → rest ≢ slash ∷ more)
    → (ns : List ℕ) (later : List (Item ℤ)) → ¬ IsWritten (numbers ns ++ Slash ∷ later) items
no_slash items rest ms begins none ns later written =
    none (map item_text later) (begins_one items ms ns rest (slash ∷ map item_text later) begins (up_to items ns later written)).1

after_slash : (xs ys : List (List ℕ)) → slash ∷ xs ≡ slash ∷ ys → xs ≡ ys
after_slash xs ys e = cc

-- a slash comes, but something else after it
pub no_later : (items rest second : List (List ℕ)) (ms : List ℕ) → BeginsWith items ms rest → rest ≡ slash ∷ second
    → (ns : List ℕ) (later : List (Item ℤ)) → ¬ IsWritten later second → ¬ IsWritten (numbers ns ++ Slash ∷ later) items
no_later items rest second ms begins cut ns later other written =
    let one = begins_one items ms ns rest (slash ∷ map item_text later) begins (up_to items ns later written) in
    other ((before-in_range ns later written.0).1, after_slash second (map item_text later) (sym cut ∙ one.1))

-- after a number there is no list
pub no_list_after : (items others : List (List ℕ)) (item : List ℕ) → items ≡ item ∷ others → ((ns : List ℕ) → ¬ IsWritten (numbers ns) others)
    → (n : ℕ) (ns : List ℕ) → ¬ IsWritten (Number n ∷ numbers ns) items
no_list_after items others item e none n ns written =
    none ns (written.0.1, other_items item (decimal n) others (map item_text (numbers ns)) (sym e ∙ written.1))
