-- How the items of a walk are put into a buffer, one after the other.
use Rattle.std.proofs.Common.{◌≡◌, ◌<◌, ◌≤◌, ◌+◌, ◌++◌, ◌∷◌, [], ℕ, suc, List, length, set, refl, ap, sym, ◌∙◌, arith, append_assoc, append-nil}
use Rattle.std.proofs.lemmas.List.{length-append}
use native.Mathlib.Numerals.{unary_clauses}
use Rattle.dcel_exports.specs.Answers.{filled}

-- a list put over the beginning of a buffer, item by item
abbrev pub put_over : {T : Type 0} → List T → List T → List T
put_over [] before = before
put_over (x ∷ xs) [] = []
put_over (x ∷ xs) (b ∷ bs) = x ∷ put_over xs bs

filled-over : {T : Type 0} → (list before : List T) → filled list before ≡ put_over list before
filled-over [] before = simp unary_clauses refl
filled-over (a ∷ xs) [] = simp unary_clauses refl
filled-over (a ∷ xs) (b ∷ bs) = simp unary_clauses (ap (λ l. a ∷ l) (filled-over xs bs))

-- the next item comes behind those that were put, if there is a place
over-next : {T : Type 0} → (passed before : List T) (x : T) → length passed < length before → put_over (passed ++ x ∷ []) before ≡ set (put_over passed before) (length passed) x
over-next [] [] x lt = absurd (omega arith)
over-next [] (b ∷ bs) x lt = refl
over-next (a ∷ xs) [] x lt = absurd (omega arith)
over-next (a ∷ xs) (b ∷ bs) x lt = ap (λ l. a ∷ l) (over-next xs bs x (omega arith))

-- and nothing else changes if there is none
over-full : {T : Type 0} → (passed before : List T) (x : T) → length before ≤ length passed → put_over (passed ++ x ∷ []) before ≡ put_over passed before
over-full [] [] x le = refl
over-full [] (b ∷ bs) x le = absurd (omega arith)
over-full (a ∷ xs) [] x le = refl
over-full (a ∷ xs) (b ∷ bs) x le = ap (λ l. a ∷ l) (over-full xs bs x (omega arith))

length-over : {T : Type 0} → (list before : List T) → length (put_over list before) ≡ length before
length-over [] before = refl
length-over (a ∷ xs) [] = refl
length-over (a ∷ xs) (b ∷ bs) = ap suc (length-over xs bs)

-- of all items some have passed and the rest is to come; so many were counted, and those that fit stand in the buffer
pub record PutSoFar (all rest : List ℕ) (counted : ℕ) (before now : List ℕ) : Type 0 where
  pub passed : List ℕ
  pub both : all ≡ passed ++ rest
  pub count : counted ≡ length passed
  pub put : now ≡ put_over passed before
  pub room : length now ≡ length before

pub put_begins : (all rest before : List ℕ) → rest ≡ all → PutSoFar all rest 0 before before
put_begins all rest before are = record { passed = []; both = sym are; count = refl; put = refl; room = refl }

pub put_goes_on : (all rest more before now : List ℕ) (counted x : ℕ) (so_far : PutSoFar all rest counted before now) → rest ≡ x ∷ more → counted < length now
    → PutSoFar all more (counted + 1) before (set now counted x)
put_goes_on all rest more before now counted x so_far comes lt =
    let passed = so_far.passed in
    let put : set now counted x ≡ put_over (passed ++ x ∷ []) before =
    rw (so_far.put, so_far.count) (sym (over-next passed before x (omega (arith, lt, so_far.count, so_far.room)))) in
    record {
      passed = passed ++ x ∷ [];
      both = so_far.both ∙ ap (λ l. passed ++ l) comes ∙ sym (append_assoc passed (x ∷ []) more);
      count = omega (arith, so_far.count, length-append passed (x ∷ []));
      put = put;
      room = ap length put ∙ length-over (passed ++ x ∷ []) before;
    }

pub put_passes : (all rest more before now : List ℕ) (counted x : ℕ) (so_far : PutSoFar all rest counted before now) → rest ≡ x ∷ more → length now ≤ counted
    → PutSoFar all more (counted + 1) before now
put_passes all rest more before now counted x so_far comes le =
    let passed = so_far.passed in
    record {
      passed = passed ++ x ∷ [];
      both = so_far.both ∙ ap (λ l. passed ++ l) comes ∙ sym (append_assoc passed (x ∷ []) more);
      count = omega (arith, so_far.count, length-append passed (x ∷ []));
      put = so_far.put ∙ sym (over-full passed before x (omega (arith, le, so_far.count, so_far.room)));
      room = so_far.room;
    }

pub put_ends : (all rest before now : List ℕ) (counted : ℕ) (so_far : PutSoFar all rest counted before now) → rest ≡ [] → (now ≡ filled all before) × (counted ≡ length all)
put_ends all rest before now counted so_far none =
    let whole : all ≡ so_far.passed = so_far.both ∙ ap (λ l. so_far.passed ++ l) none ∙ append-nil so_far.passed in
    (so_far.put ∙ ap (λ l. put_over l before) (sym whole) ∙ sym (filled-over all before), rw whole so_far.count)
