use Rattle.std.proofs.Common.{◌≡◌, ◌∷◌, ℕ, ℤ, List, [], map, refl, rules, None}
use Rattle.std.specs.Prelude.{codes}
use Rattle.dcel_commands.specs.declared.commands.query.Query.TheVariants.{Counts}
use Rattle.dcel_commands.specs.Grammar.{Datum, item_text}
use Rattle.dcel_commands.specs.Instructions.{Append, Triangle, Edit, Ask}
use Rattle.dcel_commands.specs.Spelling.{Says, given, word}
use Rattle.dcel_commands.specs.Written.{IsWritten}
use Rattle.dcel_commands.proofs.Spelling.{other_items, other_word}
use Rattle.dcel_commands.proofs.reading.read_plain.Goals as goal

no_triangle : (A : Type 0) (items : List (List ℕ)) → ((x y z : ℤ) → ¬ IsWritten (Datum x ∷ Datum y ∷ Datum z ∷ []) items) → Says {A = A} (codes "triangle") items None
unfolding Says
no_triangle A items none (Edit (Append d)) in_range e = absurd (other_word (codes "triangle") (codes "append") items (map item_text (given (Edit (Append d)))) refl refl e)
no_triangle A items none (Edit (Triangle x y z)) in_range e = none x y z (in_range, other_items (codes "triangle") (codes "triangle") items _ e)
no_triangle A items none (Ask Counts) in_range e = absurd (other_word (codes "triangle") (codes "counts") items [] refl refl e)
no_triangle A items none said in_range e = absurd (other_word (codes "triangle") (word said) items (map item_text (given said)) refl refl e)

pub returns-in-None-three_data : goal.returns-in-None-three_data
returns-in-None-three_data g c =
    let begins : c.args.word.now ≡ codes "triangle" = search rules in
    rw begins (no_triangle _ _ c.in-None-three_data.ensures)
