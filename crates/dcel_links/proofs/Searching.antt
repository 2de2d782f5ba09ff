-- A search marks all that is reached.
use Rattle.std.proofs.Common.{◌≡◌, inl, inr, ℕ, ◌+◌, ◌<◌, ◌≤◌, Bool, true, false, List, length, get_or, set, sym, ap, ◌∙◌, subst, arith, get_or-set_same, get_or-set_other, length-set}
use Rattle.std.proofs.lemmas.Bool.{cases_eq}
use Rattle.dcel_fixed.specs.HalfEdges.{rev}
use Rattle.dcel_maps.specs.Maps.{Reaches}
use Rattle.dcel_maps.specs.Maps.Reaches.{here}
use Rattle.dcel_maps.proofs.maps.Reaching.{reaches_stays, step, then}
use Rattle.dcel_links.specs.Marks.{IsBlank, Marked}
use Rattle.dcel_links.specs.Search.{Leads, Queue, Visits}
use Rattle.dcel_links.proofs.Marking.{marked_cases, marked_kept, marked_new, marks_fall}

-- what isn't marked is put at the end
pub visit_new : (half : ℕ) (marks : List Bool) (order : List ℕ) (tail : ℕ) → Queue marks order tail → half < length marks
    → get_or marks half false ≡ false → Visits half marks order tail (set marks half true) (set order tail half) (tail + 1)
visit_new half marks order tail queue below unmarked =
    let falls = marks_fall marks half below unmarked in
    let room = queue.room in
    let tail_in : tail < length order = omega arith in
    let kept = marked_kept marks half in
    let first = marked_new marks half below in
    let same : (p : ℕ) → p < tail → get_or (set order tail half) p 0 ≡ get_or order p 0 =
    λ p l. get_or-set_other order tail p half 0 (omega arith) in
    let last : get_or (set order tail half) tail 0 ≡ half = get_or-set_same order tail half 0 tail_in in
    record {
      queue = record {
        listed = λ p l. elim (cases_eq p tail) [
          | inl e ↦ subst (Marked (set marks half true)) (sym (ap (λ q. get_or (set order tail half) q 0) e ∙ last)) first
          | inr d ↦
              let l' : p < tail = omega arith in
              subst (Marked (set marks half true)) (sym (same p l')) (kept (get_or order p 0) (queue.listed p l'))
        ];
        found = λ x m. elim (marked_cases marks half x m) [
          | inl e ↦ (tail, omega arith, last ∙ sym e)
          | inr old ↦ let (p, l, e) = queue.found x old in (p, omega arith, same p l ∙ e)
        ];
        room = let len = length-set order tail half in omega arith;
      };
      marked = first;
      kept = kept;
      new = λ x m. elim (marked_cases marks half x m) [ inl e ↦ inr e | inr old ↦ inl old ];
      same = same;
      grows = omega arith;
    }

-- what is marked is reached, and what stands before `head` has led on
pub record Searches (next : List ℕ) (marks : List Bool) (order : List ℕ) (head tail : ℕ) : Type 0 where
  pub queue : Queue marks order tail
  pub first : Marked marks 0
  pub reached : (x : ℕ) → Marked marks x → Reaches (Leads next) 0 x
  pub done : (p : ℕ) → p < head → Marked marks (get_or next (get_or order p 0) 0) × Marked marks (rev (get_or order p 0))
  pub head_in : head ≤ tail

module _ (next : List ℕ) where
  pub search_begins : (marks marks' : List Bool) (order order' : List ℕ) (tail' : ℕ) → IsBlank marks
      → Visits 0 marks order 0 marks' order' tail' → Searches next marks' order' 0 tail'
  search_begins marks marks' order order' tail' blank visit = record {
    queue = visit.queue;
    first = visit.marked;
    reached = λ x m. elim (visit.new x m) [
      | inl old ↦ absurd (blank x old)
      | inr e ↦ subst (Reaches (Leads next) 0) (sym e) here
    ];
    done = λ p l. absurd (omega arith);
    head_in = omega arith;
  }

  pub search_goes : (marks marks₁ marks₂ : List Bool) (order order₁ order₂ : List ℕ) (head tail tail₁ tail₂ : ℕ)
      → Searches next marks order head tail → head < tail
      → Visits (get_or next (get_or order head 0) 0) marks order tail marks₁ order₁ tail₁
      → Visits (rev (get_or order head 0)) marks₁ order₁ tail₁ marks₂ order₂ tail₂
      → Searches next marks₂ order₂ (head + 1) tail₂
  search_goes marks marks₁ marks₂ order order₁ order₂ head tail tail₁ tail₂ search more one two =
      let half = get_or order head 0 in
      let grown = one.grows in
      let grown' = two.grows in
      let head_in = search.head_in in
      let kept : (x : ℕ) → Marked marks x → Marked marks₂ x = λ x m. two.kept x (one.kept x m) in
      let way : Reaches (Leads next) 0 half = search.reached half (search.queue.listed head more) in
      let at : (p : ℕ) → p < tail → get_or order₂ p 0 ≡ get_or order p 0 = λ p l. two.same p (omega arith) ∙ one.same p l in
      record {
        queue = two.queue;
        first = kept 0 search.first;
        reached = λ x m. elim (two.new x m) [
          | inl m₁ ↦ elim (one.new x m₁) [
            | inl old ↦ search.reached x old
            | inr e ↦ then way (step (inl (sym e)))
          ]
          | inr e ↦ then way (step (inr (sym e)))
        ];
        done = λ p l. elim (cases_eq p head) [
          | inl e ↦
              let same : get_or order₂ p 0 ≡ half = ap (λ q. get_or order₂ q 0) e ∙ at head more in (
                subst (λ h. Marked marks₂ (get_or next h 0)) (sym same) (two.kept (get_or next half 0) one.marked),
                subst (λ h. Marked marks₂ (rev h)) (sym same) two.marked,
              )
          | inr d ↦
              let l' : p < head = omega arith in
              let same : get_or order₂ p 0 ≡ get_or order p 0 = at p (omega arith) in
              let was = search.done p l' in (
                subst (λ h. Marked marks₂ (get_or next h 0)) (sym same) (kept (get_or next (get_or order p 0) 0) was.0),
                subst (λ h. Marked marks₂ (rev h)) (sym same) (kept (rev (get_or order p 0)) was.1),
              )
        ];
        head_in = omega arith;
      }

  -- at the end what is reached is marked
  pub search_ends : (marks : List Bool) (order : List ℕ) (head tail : ℕ) → Searches next marks order head tail → tail ≤ head
      → (x : ℕ) → Reaches (Leads next) 0 x → Marked marks x
  search_ends marks order head tail search end x way =
      reaches_stays (Leads next) (Marked marks)
      (λ a b m s.
      let (p, l, e) = search.queue.found a m in
      let was = search.done p (omega arith) in
      elim s [
        | inl i ↦ subst (Marked marks) (ap (λ h. get_or next h 0) e ∙ i) was.0
        | inr i ↦ subst (Marked marks) (ap rev e ∙ i) was.1
      ])
      search.first way
