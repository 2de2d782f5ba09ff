-- A row for each line: the request that its word makes of values, and of a command its laws.
use Rattle.std.proofs.Common.{◌≡◌, ℕ, ◌<◌, List, [], ◌∷◌, ◌++◌, map, refl, ap, ◌∙◌, cond, Option, Some, None}
use Rattle.std.specs.Prelude.{ℤ, pos, negsuc, codes}
use Rattle.std.specs.Str.{bytes_eq}
use Rattle.std.specs.List.Sorted.{IsNonDecreasingBy}
use Rattle.dcel_commands.specs.declared.commands.query.Query.TheVariants.{Counts, Words, Hull, Out, Origin, Between, Get, Check}
use Rattle.dcel_commands.specs.Grammar.{Item, Number, Datum, Slash, numbers}
use Rattle.dcel_commands.specs.Instructions.{Instruction, Append, Triangle, Setup, Extend, Line, Close, Outside, Insert, Half, Split, Flip, Swap, Put, Isolate, Remesh, Strip, Cleanup, Remove, Degenerate, Legalize, Clear, Saying, Edit, Ask}
use Rattle.dcel_commands.specs.Spelling.{given, word}
use Rattle.dcel_commands.specs.Conditions.{FirstUnmet, entry_number}
use Rattle.dcel_commands.specs.Refusal.{refusal_number}
use Rattle.dcel_commands.specs.Steps.{asks}
use Rattle.dcel_commands.specs.declared.refusal.Refusal.{Refusal}
use Rattle.dcel_commands.proofs.Columns.{ascends, first-below}
use Rattle.dcel_commands.proofs.Lawful.{Lawful}
use Rattle.dcel_commands.proofs.lines.Append.{append}
use Rattle.dcel_commands.proofs.lines.Cleanup.{cleanup}
use Rattle.dcel_commands.proofs.lines.Clear.{clear}
use Rattle.dcel_commands.proofs.lines.Close.{close}
use Rattle.dcel_commands.proofs.lines.Degenerate.{degenerate}
use Rattle.dcel_commands.proofs.lines.Extend.{extend}
use Rattle.dcel_commands.proofs.lines.Flip.{flip}
use Rattle.dcel_commands.proofs.lines.Half.{half}
use Rattle.dcel_commands.proofs.lines.Insert.{insert}
use Rattle.dcel_commands.proofs.lines.Isolate.{isolate}
use Rattle.dcel_commands.proofs.lines.Legalize.{legalize}
use Rattle.dcel_commands.proofs.lines.Line.{line}
use Rattle.dcel_commands.proofs.lines.Outside.{outside}
use Rattle.dcel_commands.proofs.lines.Put.{put}
use Rattle.dcel_commands.proofs.lines.Remesh.{remesh}
use Rattle.dcel_commands.proofs.lines.Remove.{remove}
use Rattle.dcel_commands.proofs.lines.Setup.{setup}
use Rattle.dcel_commands.proofs.lines.Split.{split}
use Rattle.dcel_commands.proofs.lines.Strip.{strip}
use Rattle.dcel_commands.proofs.lines.Swap.{swap}
use Rattle.dcel_commands.proofs.lines.Triangle.{triangle}
use Rattle.dcel_maps.specs.Shapes.{Shape}

-- an item by its value
pub data Value : Type 0 where
  Of : ℤ → Value
  Stroke : Value

unfoldable pub value_of : Item ℤ → Value
value_of (Number n) = Of (pos n)
value_of (Datum d) = Of d
value_of Slash = Stroke

number_in : ℤ → ℕ
number_in (pos n) = n
number_in (negsuc n) = 0

nothing : Saying → List Value → Option Saying
nothing make [] = Some make
nothing make _ = None

one : (ℤ → Saying) → List Value → Option Saying
one make (Of x ∷ []) = Some (make x)
one make _ = None

two : (ℤ → ℤ → Saying) → List Value → Option Saying
two make (Of x ∷ Of y ∷ []) = Some (make x y)
two make _ = None

three : (ℤ → ℤ → ℤ → Saying) → List Value → Option Saying
three make (Of x ∷ Of y ∷ Of z ∷ []) = Some (make x y z)
three make _ = None

-- the numbers before the first stroke, and the values after it
front : List Value → List ℕ
front [] = []
front (Of x ∷ values) = number_in x ∷ front values
front (Stroke ∷ values) = []

back : List Value → List Value
back [] = []
back (Of x ∷ values) = back values
back (Stroke ∷ values) = values

front_alone : (ns : List ℕ) → front (map value_of (numbers ns)) ≡ ns
unfolding front value_of number_in
front_alone [] = refl
front_alone (n ∷ ns) = ap (λ (x : List ℕ). n ∷ x) (front_alone ns)

front_first : (ns : List ℕ) (items : List (Item ℤ)) → front (map value_of (numbers ns ++ Slash ∷ items)) ≡ ns
unfolding front value_of number_in
front_first [] items = refl
front_first (n ∷ ns) items = ap (λ (x : List ℕ). n ∷ x) (front_first ns items)

back_last : (ns : List ℕ) (items : List (Item ℤ)) → back (map value_of (numbers ns ++ Slash ∷ items)) ≡ map value_of items
unfolding back value_of
back_last [] items = refl
back_last (n ∷ ns) items = back_last ns items

-- a number, and a list after it
unfoldable led : (ℤ → List ℕ → Saying) → List Value → Option Saying
led make (Of x ∷ values) = Some (make x (front values))
led make _ = None

remeshed : (a b c hs us fs : List ℕ) → a ≡ hs → b ≡ us → c ≡ fs → Some (Edit (Remesh a b c)) ≡ Some (Edit (Remesh hs us fs))
remeshed a b c hs us fs first second third = rw (first, second, third) refl

unfoldable request_in : List (List ℕ × (List Value → Option Saying)) → List ℕ → List Value → Option Saying
request_in [] first values = None
request_in (row ∷ rows) first values = cond (bytes_eq first row.0) (row.1 values) (request_in rows first values)

-- the request that a word makes of values
pub request_of : List ℕ → List Value → Option Saying
request_of = request_in (
    (codes "append", one (λ d. Edit (Append d))) ∷
    (codes "triangle", three (λ x y z. Edit (Triangle x y z))) ∷
    (codes "setup", two (λ a b. Edit (Setup (number_in a) (number_in b)))) ∷
    (codes "extend", two (λ a b. Edit (Extend (number_in a) (number_in b)))) ∷
    (codes "line", two (λ h b. Edit (Line (number_in h) (number_in b)))) ∷
    (codes "close", one (λ h. Edit (Close (number_in h)))) ∷
    (codes "outside", two (λ h b. Edit (Outside (number_in h) (number_in b)))) ∷
    (codes "insert", two (λ v f. Edit (Insert (number_in v) (number_in f)))) ∷
    (codes "half", two (λ h b. Edit (Half (number_in h) (number_in b)))) ∷
    (codes "split", two (λ h b. Edit (Split (number_in h) (number_in b)))) ∷
    (codes "flip", one (λ u. Edit (Flip (number_in u)))) ∷
    (codes "swap", two (λ a b. Edit (Swap (number_in a) (number_in b)))) ∷
    (codes "put", two (λ v d. Edit (Put (number_in v) d))) ∷
    (codes "isolate", led (λ v hs. Edit (Isolate (number_in v) hs))) ∷
    (codes "remesh", λ values. Some (Edit (Remesh (front values) (front (back values)) (front (back (back values)))))) ∷
    (codes "strip", λ values. Some (Edit (Strip (front values)))) ∷
    (codes "cleanup", λ values. Some (Edit (Cleanup (front values) (front (back values))))) ∷
    (codes "remove", one (λ v. Edit (Remove (number_in v)))) ∷
    (codes "degenerate", one (λ v. Edit (Degenerate (number_in v)))) ∷
    (codes "legalize", led (λ n us. Edit (Legalize (number_in n) us))) ∷
    (codes "clear", nothing (Edit Clear)) ∷
    (codes "counts", nothing (Ask Counts)) ∷
    (codes "words", nothing (Ask Words)) ∷
    (codes "hull", nothing (Ask Hull)) ∷
    (codes "out", one (λ v. Ask (Out (number_in v)))) ∷
    (codes "origin", one (λ h. Ask (Origin (number_in h)))) ∷
    (codes "between", two (λ v w. Ask (Between (number_in v) (number_in w)))) ∷
    (codes "get", one (λ v. Ask (Get (number_in v)))) ∷
    (codes "check", nothing (Ask Check)) ∷
    [])

pub request_of-word : (said : Saying) → request_of (word said) (map value_of (given said)) ≡ Some said
unfolding request_of request_in nothing one two three led value_of number_in
request_of-word (Edit (Append datum)) = refl
request_of-word (Edit (Isolate v hs)) = ap (λ (ns : List ℕ). Some (Edit (Isolate v ns))) (front_alone hs)
request_of-word (Edit (Remesh hs us fs)) =
    let later = back_last hs (numbers us ++ Slash ∷ numbers fs) in
    remeshed _ _ _ hs us fs (front_first hs (numbers us ++ Slash ∷ numbers fs)) (ap front later ∙ front_first us (numbers fs))
    (ap (λ (values : List Value). front (back values)) later ∙ ap front (back_last us (numbers fs)) ∙ front_alone fs)
request_of-word (Edit (Strip hs)) = ap (λ (ns : List ℕ). Some (Edit (Strip ns))) (front_alone hs)
request_of-word (Edit (Cleanup us fs)) =
    ap (λ (ns : List ℕ). Some (Edit (Cleanup ns (front (back (map value_of (numbers us ++ Slash ∷ numbers fs))))))) (front_first us (numbers fs))
    ∙ ap (λ (ns : List ℕ). Some (Edit (Cleanup us ns))) (ap front (back_last us (numbers fs)) ∙ front_alone fs)
request_of-word (Edit (Legalize n us)) = ap (λ (ns : List ℕ). Some (Edit (Legalize n ns))) (front_alone us)
request_of-word (Ask Counts) = refl
request_of-word _ = refl

-- ---- commands

pub lawful : {V : Type 0} (command : Instruction V) → Lawful command
lawful (Append datum) = append datum
lawful (Triangle x y z) = triangle x y z
lawful (Setup a b) = setup a b
lawful (Extend a b) = extend a b
lawful (Line h b) = line h b
lawful (Close h) = close h
lawful (Outside h b) = outside h b
lawful (Insert v f) = insert v f
lawful (Half h b) = half h b
lawful (Split h b) = split h b
lawful (Flip u) = flip u
lawful (Swap a b) = swap a b
lawful (Put v datum) = put v datum
lawful (Isolate v hs) = isolate v hs
lawful (Remesh hs us fs) = remesh hs us fs
lawful (Strip hs) = strip hs
lawful (Cleanup us fs) = cleanup us fs
lawful (Remove v) = remove v
lawful (Degenerate v) = degenerate v
lawful (Legalize n us) = legalize n us
lawful Clear = clear

pub command-ascends : {V : Type 0} (limit : ℕ) (command : Instruction V) → IsNonDecreasingBy entry_number (asks limit command)
command-ascends limit command = ascends 1 (asks limit command) ((lawful command).column limit)

-- no condition of a command has the refusal for want of memory
pub refused-below : {V : Type 0} (s : Shape) (limit : ℕ) (command : Instruction V) (why : Refusal) → FirstUnmet s (asks limit command) why → refusal_number why < 20
refused-below s limit command why unmet = first-below s 1 (asks limit command) why ((lawful command).column limit) unmet
