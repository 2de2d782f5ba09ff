-- A walk that marks what steps lead to from a number, until they lead back to it.
use Rattle.std.proofs.Common.{◌≡◌, ◌≢◌, ◌⊎◌, inl, inr, ℕ, ◌<◌, Bool, true, false, List, length, get_or, set, sym, refl, ap, ◌∙◌, subst, arith}
use Rattle.std.proofs.lemmas.Bool.{false≢true, false_from_ne_true}
use Rattle.dcel_maps.specs.Maps.{By, Reaches}
use Rattle.dcel_maps.specs.Maps.Reaches.{here}
use Rattle.dcel_maps.proofs.maps.Reaching.{step, then}
use Rattle.dcel_links.specs.Checks.{AreBelow}
use Rattle.dcel_links.specs.Marks.{IsClosed, IsOneToOne, Marked, MarksRound, step_of}
use Rattle.dcel_links.proofs.Marking.{marked_below, marked_cases, marked_kept, marked_new}

-- the walk has marked what lies from `start` up to `at`, which is still to come
pub record Walks (steps : List ℕ) (start at : ℕ) (was now : List Bool) : Type 0 where
  pub at_below : at < length steps
  pub way : Reaches (By (step_of steps)) start at
  pub first : Marked now start
  pub kept : (x : ℕ) → Marked was x → Marked now x
  pub stays : (x : ℕ) → Marked now x → Marked now (step_of steps x) ⊎ (step_of steps x ≡ at)
  pub comes : (x : ℕ) → Marked now x → (x ≡ start) ⊎ ((z : ℕ) × Marked now z × (step_of steps z ≡ x))
  pub last : (z : ℕ) × Marked now z × (step_of steps z ≡ at)
  pub fresh : Marked now at → at ≡ start
  pub new : (x : ℕ) → Marked now x → Marked was x ⊎ (Reaches (By (step_of steps)) start x × Reaches (By (step_of steps)) x at)

module _ (steps : List ℕ) (below : AreBelow (length steps) steps) (apart : IsOneToOne steps) where
  -- it begins
  pub walk_begins : (start : ℕ) (was : List Bool) → length was ≡ length steps → start < length steps → get_or was start false ≡ false
      → IsClosed steps was → Walks steps start (step_of steps start) was (set was start true)
  walk_begins start was len start_in unmarked closed =
      let first = marked_new was start (omega arith) in
      record {
        at_below = below start start_in;
        way = step refl;
        first = first;
        kept = marked_kept was start;
        stays = λ x m. elim (marked_cases was start x m) [
          | inl e ↦ inr (ap (step_of steps) e)
          | inr old ↦ inl (marked_kept was start (step_of steps x) (closed.stays x old))
        ];
        comes = λ x m. elim (marked_cases was start x m) [
          | inl e ↦ inl e
          | inr old ↦ let (z, mz, e) = closed.comes x old in inr (z, marked_kept was start z mz, e)
        ];
        last = (start, first, refl);
        fresh = λ m. elim (marked_cases was start (step_of steps start) m) [
          | inl e ↦ e
          | inr old ↦
              let (z, mz, e) = closed.comes (step_of steps start) old in
              let b = marked_below was z mz in
              let same : z ≡ start = apart z start (omega arith) start_in e in
              absurd (false≢true (sym unmarked ∙ subst (Marked was) same mz))
        ];
        new = λ x m. elim (marked_cases was start x m) [
          | inl e ↦ inr (subst (Reaches (By (step_of steps)) start) (sym e) here, step (ap (step_of steps) e))
          | inr old ↦ inl old
        ];
      }

  module _ (start at : ℕ) (was now : List Bool) (len : length now ≡ length steps) (walk : Walks steps start at was now) where
    -- what is to come is not marked
    pub walk_unmarked : at ≢ start → get_or now at false ≡ false
    walk_unmarked other = false_from_ne_true (get_or now at false) (λ m. other (walk.fresh m))

    -- it goes on
    pub walk_goes : at ≢ start → Walks steps start (step_of steps at) was (set now at true)
    walk_goes other =
        let at_in = walk.at_below in
        let here_now = marked_new now at (omega arith) in
        let kept = marked_kept now at in
        let same : (z : ℕ) → Marked now z → step_of steps z ≡ step_of steps at → ⊥ =
        λ z mz e.
        let b = marked_below now z mz in
        other (walk.fresh (subst (Marked now) (apart z at (omega arith) at_in e) mz)) in
        record {
          at_below = below at at_in;
          way = then walk.way (step refl);
          first = kept start walk.first;
          kept = λ x m. kept x (walk.kept x m);
          stays = λ x m. elim (marked_cases now at x m) [
            | inl e ↦ inr (ap (step_of steps) e)
            | inr old ↦ elim (walk.stays x old) [
              | inl s ↦ inl (kept (step_of steps x) s)
              | inr s ↦ inl (subst (Marked (set now at true)) (sym s) here_now)
            ]
          ];
          comes = λ x m. elim (marked_cases now at x m) [
            | inl e ↦ let (z, mz, s) = walk.last in inr (z, kept z mz, s ∙ sym e)
            | inr old ↦ elim (walk.comes x old) [
              | inl e ↦ inl e
              | inr p ↦ let (z, mz, s) = p in inr (z, kept z mz, s)
            ]
          ];
          last = (at, here_now, refl);
          fresh = λ m. elim (marked_cases now at (step_of steps at) m) [
            | inl e ↦ let (z, mz, s) = walk.last in absurd (same z mz (s ∙ sym e))
            | inr old ↦ elim (walk.comes (step_of steps at) old) [
              | inl e ↦ e
              | inr p ↦ let (z, mz, s) = p in absurd (same z mz s)
            ]
          ];
          new = λ x m. elim (marked_cases now at x m) [
            | inl e ↦ inr (subst (Reaches (By (step_of steps)) start) (sym e) walk.way, step (ap (step_of steps) e))
            | inr old ↦ elim (walk.new x old) [
              | inl o ↦ inl o
              | inr p ↦ inr (p.0, then p.1 (step refl))
            ]
          ];
        }

    -- it ends where it began
    pub walk_ends : at ≡ start → MarksRound steps start was now
    walk_ends back = record {
      closed = record {
        stays = λ x m. elim (walk.stays x m) [
          | inl s ↦ s
          | inr s ↦ subst (Marked now) (sym (s ∙ back)) walk.first
        ];
        comes = λ x m. elim (walk.comes x m) [
          | inl e ↦ let (z, mz, s) = walk.last in (z, mz, s ∙ back ∙ sym e)
          | inr p ↦ p
        ];
      };
      first = walk.first;
      kept = walk.kept;
      new = λ x m. elim (walk.new x m) [
        | inl o ↦ inl o
        | inr p ↦ inr (p.0, subst (Reaches (By (step_of steps)) x) back p.1)
      ];
    }
