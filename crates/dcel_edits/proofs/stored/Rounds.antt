-- Rounds by stored links are walks in the mesh that the lists hold; and lists that are written all the way.
use Rattle.std.proofs.Common.{◌≡◌, ◌≢◌, inl, inr, ℕ, ◌*◌, ◌<◌, List, [], ◌∷◌, length, slice_index, slice_set, Option, Some, None, refl, ap, ◌∙◌, arith}
use Rattle.std.proofs.lemmas.Bool.{cases_eq, cases_lt}
use Rattle.std.proofs.lemmas.List.{get_or-set_other, get_or-set_same, length-set}
use Rattle.dcel_store.specs.Lists.{Lists}
use Rattle.dcel_edits.specs.Rounds.{AnchorComesBack, ComesBack, all_set, round_from}
use Rattle.dcel_maps.specs.Maps.{By}
use Rattle.dcel_maps.specs.Removals.{Removal}
use Rattle.dcel_maps.specs.Renumbering.{moved}
use Rattle.dcel_maps.specs.Shapes.{IsLive, Mesh}
use Rattle.dcel_maps.specs.Walking.{IsLawful, walk_from, walk_of}
use Rattle.dcel_maps.specs.Words.{count_of}
use Rattle.dcel_edits.proofs.stored.Changes.{held_edges, held_lists}
use Rattle.dcel_edits.proofs.stored.Holding.{Holds}
use Rattle.dcel_maps.proofs.renumbering.Moves.{moved-last, moved-other}
use Rattle.dcel_maps.proofs.walks.Links.{half-below}
use Rattle.dcel_maps.proofs.walks.UnderWay.{up_to-agrees, walk-live, walk-round}
use Rattle.dcel_maps.proofs.words.Counts.{absent_head, first_or_later}
use Rattle.dcel_maps.proofs.words.Paths.{Path-changed}

-- the items at these places are v, and the others stay
pub length-all_set : (l places : List ℕ) (v : ℕ) → length (all_set l places v) ≡ length l
length-all_set l [] v = refl
length-all_set l (k ∷ places) v = length-all_set (slice_set l k v) places v ∙ length-set l k v

pub all_set-away : (l places : List ℕ) (v h : ℕ) → count_of h places ≡ 0 → slice_index (all_set l places v) h ≡ slice_index l h
all_set-away l [] v h away = refl
all_set-away l (k ∷ places) v h away =
    all_set-away (slice_set l k v) places v h (omega (arith, away)) ∙ get_or-set_other l k h v 0 (absent_head h k places away)

pub all_set-here : (l places : List ℕ) (v h : ℕ) → 0 < count_of h places → h < length l → slice_index (all_set l places v) h ≡ v
all_set-here l [] v h found within = absurd (omega arith)
all_set-here l (k ∷ places) v h found within = elim (cases_lt 0 (count_of h places)) [
  | inl later ↦ all_set-here (slice_set l k v) places v h later (omega (arith, within, length-set l k v))
  | inr none ↦ elim (first_or_later h k places found) [
    | inl first ↦ all_set-away (slice_set l k v) places v h (omega (arith, none)) ∙ rw first (get_or-set_same l k v 0 (omega (arith, within, first)))
    | inr later ↦ absurd (omega (arith, none, later))
  ]
]

-- where the places are those of the items that were `last`, these are d
pub all_set-moves : (l places : List ℕ) (last d h : ℕ) → h < length l → (slice_index l h ≡ last → 0 < count_of h places)
    → (slice_index l h ≢ last → count_of h places ≡ 0) → slice_index (all_set l places d) h ≡ moved last d (slice_index l h)
all_set-moves l places last d h within here away = elim (cases_eq (slice_index l h) last) [
  | inl same ↦ all_set-here l places d h (here same) within ∙ rw same (rw (moved-last last d) refl)
  | inr other ↦ all_set-away l places d h (away other) ∙ rw (moved-other last d (slice_index l h) other) refl
]

-- `other` is how a step of the mesh is read in the lists
module _ {V DE UE F : Type 0} {s : Lists V DE UE F} {r : Removal} {m : Mesh V DE UE F} (held : Holds s r m) {step step_back : ℕ → ℕ}
    (law : IsLawful m.shape step step_back) (other : ℕ → ℕ) (agree : (h : ℕ) → IsLive m.shape h → other h ≡ step h) where
  halves : length s.next ≡ 2 * m.shape.edges
  halves = omega (arith, (held_lists s r m held).lengths.of_next, held_edges s r m held)

  round-walk : (h : ℕ) → IsLive m.shape h → round_from other (length s.next) (Some h) ≡ walk_of m.shape step h
  round-walk h live = rw halves (up_to-agrees m.shape step other agree law.stays (2 * m.shape.edges) h h live)

  -- the round from an anchor that is live, if there is one, is the walk from it
  pub round-from : (anchor : Option ℕ) → ((h : ℕ) → anchor ≡ Some h → IsLive m.shape h)
      → round_from other (length s.next) anchor ≡ walk_from m.shape step anchor
  round-from None live = refl
  round-from (Some h) live = round-walk h (live h refl)

  -- and `other_back` is how the step back is read
  module _ (other_back : ℕ → ℕ) (agree_back : (h : ℕ) → IsLive m.shape h → other_back h ≡ step_back h) where
    comes_back : (h : ℕ) → IsLive m.shape h → ComesBack other other_back (length s.next) h
    comes_back h live =
        let same = round-walk h live in
        let trip = walk-round law h live in
        let lives : (k : ℕ) → 0 < count_of k (h ∷ trip.rest) → IsLive m.shape k = λ k found. walk-live law h live k (rw trip.from found) in
        let found_live : (k : ℕ) → 0 < count_of k (round_from other (length s.next) (Some h)) → IsLive m.shape k =
        λ k found. walk-live law h live k (rw same at found) in
        record {
          trip = record {
            rest = trip.rest;
            from = same ∙ trip.from;
            round =
                Path-changed (By step) (By other) h trip.rest h h
                (λ p q p_in q_in stepped. agree p (lives p p_in) ∙ stepped)
                (λ p p_in stepped. agree p (lives p p_in) ∙ stepped) trip.round;
            once = λ k. rw same (trip.once k);
          };
          stored = λ k found. omega (arith, half-below m.shape k (found_live k found), halves);
          undone = λ k found.
              let at = found_live k found in
              ap other_back (agree k at) ∙ agree_back (step k) (law.stays k at) ∙ law.back-step k at;
        }

    pub anchor_comes_back : (anchor : Option ℕ) → ((h : ℕ) → anchor ≡ Some h → IsLive m.shape h)
        → AnchorComesBack other other_back (length s.next) anchor
    anchor_comes_back None live = tt
    anchor_comes_back (Some h) live = comes_back h (live h refl)
