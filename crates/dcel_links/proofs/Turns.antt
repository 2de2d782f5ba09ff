-- Steps about the vertices, written into a list.
use Rattle.std.proofs.Common.{◌≡◌, ℕ, ◌<◌, List, length, slice_index, sym, ap, ◌∙◌, subst}
use Rattle.dcel_fixed.specs.HalfEdges.{rev}
use Rattle.dcel_fixed.proofs.Halves.{rev-rev, rev_within}
use Rattle.dcel_maps.specs.Maps.{By, Reaches}
use Rattle.dcel_maps.proofs.maps.Reaching.{reroutes, step}
use Rattle.dcel_links.specs.Checks.{HasWholeVertices, IsWhole, PassesLinks, Undoes}
use Rattle.dcel_links.specs.Claims.{Claim, halves}
use Rattle.dcel_links.specs.Faults.{InParts, turned}
use Rattle.dcel_links.specs.Marks.{IsOneToOne}
use Rattle.dcel_links.specs.Rounds.{AreTurns}

-- links that are undone are one to one
pub undone_apart : (next prev : List ℕ) → Undoes next prev → IsOneToOne next
undone_apart next prev undone x y b c e = sym (undone x b) ∙ ap (λ h. slice_index prev h) e ∙ undone y c

-- functions that agree reach the same
same_steps : (P : ℕ → Type 0) (f g : ℕ → ℕ) → ((x : ℕ) → P x → P (f x)) → ((x : ℕ) → P x → f x ≡ g x) → {x y : ℕ} → P x
    → Reaches (By f) x y → Reaches (By g) x y
same_steps P f g stays same p w =
    reroutes (By f) (By g) P (λ z. z) (λ a b q s. subst P s (stays a q)) (λ a b q s. step (sym (same a q) ∙ s)) p w

-- turns, handed over as a slice
pub lent_turns : {next turns slice : List ℕ} → slice ≡ turns → AreTurns next turns → AreTurns next slice
lent_turns {next = next} same are = subst (AreTurns next) (sym same) are

module _ (c : Claim) (prev : List ℕ) (links : PassesLinks c prev) (turns : List ℕ) (are : AreTurns c.next turns) where
  other_in : (h : ℕ) → h < halves c → rev h < halves c
  other_in h b = rev_within h (halves c) links.lists.even b

  turned_in : (h : ℕ) → h < halves c → turned c.next h < halves c
  turned_in h b = links.in_range.next (rev h) (other_in h b)

  turn_in : (h : ℕ) → h < halves c → slice_index turns h < halves c
  turn_in h b = subst (λ k. k < halves c) (sym (are.each h b)) (turned_in h b)

  pub turns_apart : IsOneToOne turns
  turns_apart x y b d e =
      let b' : x < halves c = subst (λ n. x < n) are.as_many b in
      let d' : y < halves c = subst (λ n. y < n) are.as_many d in
      let same : rev x ≡ rev y =
      undone_apart c.next prev links.undone (rev x) (rev y) (other_in x b') (other_in y d') (sym (are.each x b') ∙ e ∙ are.each y d') in
      sym (rev-rev x) ∙ ap rev same ∙ rev-rev y

  pub turns_along : (x : ℕ) → x < length turns → slice_index c.origin (slice_index turns x) ≡ slice_index c.origin x
  turns_along x b =
      let b' : x < halves c = subst (λ n. x < n) are.as_many b in
      ap (λ h. slice_index c.origin h) (are.each x b') ∙ links.fit.joined (rev x) (other_in x b') ∙ ap (λ h. slice_index c.origin h) (rev-rev x)

  pub turns_whole : IsWhole (length turns) (λ x. slice_index turns x) (λ x. slice_index c.origin x) → HasWholeVertices c
  turns_whole whole x y b d e =
      same_steps (λ h. h < halves c) (λ h. slice_index turns h) (turned c.next) turn_in are.each b
      (whole x y (subst (λ n. x < n) (sym are.as_many) b) (subst (λ n. y < n) (sym are.as_many) d) e)

  pub turns_parts : (v : ℕ) → InParts (length turns) (λ x. slice_index turns x) (λ x. slice_index c.origin x) v
      → InParts (halves c) (turned c.next) (λ h. slice_index c.origin h) v
  turns_parts v parts =
      let b : parts.one < halves c = subst (λ n. parts.one < n) are.as_many parts.one_in in
      record {
        one = parts.one;
        other = parts.other;
        one_in = b;
        other_in = subst (λ n. parts.other < n) are.as_many parts.other_in;
        one_label = parts.one_label;
        other_label = parts.other_label;
        apart = λ w. parts.apart
            (same_steps (λ h. h < halves c) (turned c.next) (λ h. slice_index turns h) turned_in (λ h l. sym (are.each h l)) b w);
      }
