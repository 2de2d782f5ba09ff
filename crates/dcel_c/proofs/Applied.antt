-- Edits of a list, one after the other.
use Rattle.std.proofs.Common.{◌≡◌, ◌<◌, ◌+◌, ◌++◌, ◌∷◌, ◌∙◌, [], ℕ, zero, suc, List, length, take, drop, get_or, set, refl, ap, sym, subst, arith, add-one}
use Rattle.std.proofs.lemmas.List.{drop-set-lt, take_more, take_more_set}
use Rattle.dcel_c.specs.Batch.{Answers, AppliesAll}
use Rattle.dcel_c.specs.Held.{Kept}
use Rattle.dcel_c.specs.declared.batch.DcelEdit.{DcelEdit}
use Rattle.dcel_c.specs.declared.batch.DcelReply.{DcelReply}

-- one more edit behind those that were answered
applies_more : (edits : List DcelEdit) (replies : List DcelReply) (a b c : Kept) (edit : DcelEdit) (reply : DcelReply)
    → AppliesAll a edits b replies → Answers b edit c reply → AppliesAll a (edits ++ edit ∷ []) c (replies ++ reply ∷ [])
applies_more [] replies a b c edit reply so_far next = subst (λ rs. AppliesAll a (edit ∷ []) c (rs ++ reply ∷ [])) (sym so_far.1) (c, subst (λ before. Answers before edit c reply) so_far.0 next, (refl, refl))
applies_more (e ∷ es) [] a b c edit reply so_far next = absurd so_far
applies_more (e ∷ es) (r ∷ rs) a b c edit reply so_far next = (so_far.0, so_far.1, applies_more es rs so_far.0 b c edit reply so_far.2 next)

-- the edit at the next place, answered there
pub applies_next : (edits : List DcelEdit) (replies : List DcelReply) (a b c : Kept) (at : ℕ) (none : DcelEdit) (reply : DcelReply) → at < length edits → at < length replies
    → AppliesAll a (take at edits) b (take at replies) → Answers b (get_or edits at none) c reply → AppliesAll a (take (at + 1) edits) c (take (at + 1) (set replies at reply))
applies_next edits replies a b c at none reply lt room so_far next =
    let edit = get_or edits at none in
    subst (λ es. AppliesAll a es c (take (at + 1) (set replies at reply))) (sym (take_more edits at none lt))
    (subst (λ rs. AppliesAll a (take at edits ++ edit ∷ []) c rs) (sym (take_more_set replies at reply room))
    (applies_more (take at edits) (take at replies) a b c edit reply so_far next))

rest : {T : Type 0} → (n : ℕ) (xs : List T) → drop (suc n) xs ≡ drop 1 (drop n xs)
rest zero xs = refl
rest (suc n) [] = refl
rest (suc n) (x ∷ xs) = rest n xs

-- what is behind the next place stays
pub stays_behind : {T : Type 0} → (now before : List T) (at : ℕ) (x : T) → drop at now ≡ drop at before → drop (at + 1) (set now at x) ≡ drop (at + 1) before
stays_behind now before at x so_far =
    drop-set-lt (at + 1) now at x (omega arith)
    ∙ subst (λ n. drop n now ≡ drop n before) (sym (add-one at)) (rest at now ∙ ap (drop 1) so_far ∙ sym (rest at before))
