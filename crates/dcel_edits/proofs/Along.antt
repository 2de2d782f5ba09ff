-- Half edges moved to another face, and links led along half edges, one after another.
use Rattle.std.proofs.Common.{◌≡◌, ◌<◌, ℕ, List, [], ◌∷◌, inl, inr, length, slice_index, slice_set, None, Some, refl, ap, ◌∙◌, subst, arith}
use Rattle.std.proofs.lemmas.Bool.{cases_eq, cases_lt}
use Rattle.std.proofs.lemmas.List.{get_or-set_other, get_or-set_same, get_or_past, length-set}
use Rattle.dcel_edits.specs.Strip.{CanCutStrip, CanLeadAlong, CanMoveOut, all_moved_out, led_along, moved_out, next_along, prev_along, rooted}
use Rattle.dcel_maps.specs.Words.{count_of, last_of}
use Rattle.dcel_maps.proofs.words.Counts.{count-later, count-same, first_or_later}
use Rattle.dcel_maps.proofs.words.EachSet.{length-each_set}
use Rattle.dcel_maps.specs.edits.Strip.{each_set}
use Rattle.dcel_store.specs.Lists.{Lists}

module _ {V DE UE F : Type 0} where
  -- under way: what is left to move makes the same of the lists
  pub record MovesOut (s : Lists V DE UE F) (items : List ℕ) (now : Lists V DE UE F) (left : List ℕ) : Type 0 where
    pub same : all_moved_out now left ≡ all_moved_out s items
    pub can : CanMoveOut now left

  pub record LeadsAlong (s : Lists V DE UE F) (before : ℕ) (list : List ℕ) (now : Lists V DE UE F) (last : ℕ) (left : List ℕ) : Type 0 where
    pub same : led_along now last left ≡ led_along s before list
    pub ends : last_of last left ≡ last_of before list
    pub can : CanLeadAlong now last left

  module _ (s : Lists V DE UE F) (before : ℕ) (list : List ℕ) (now : Lists V DE UE F) (last : ℕ) (left : List ℕ)
      (on : LeadsAlong s before list now last left) (edge : ℕ) (after : List ℕ) (parts : left ≡ edge ∷ after) where
    can_here : CanLeadAlong now last (edge ∷ after)
    can_here = subst (λ (l : List ℕ). CanLeadAlong now last l) parts on.can

    here : 0 < count_of edge (edge ∷ after)
    here = omega (arith, count-same edge after)

    pub lead_can : CanLeadAlong now last (edge ∷ [])
    lead_can = record {
      before_in = can_here.before_in;
      edge_in = λ e found. can_here.edge_in e (omega (arith, found));
      origin_in = λ e found. can_here.origin_in e (omega (arith, found));
    }

    long : length (slice_set now.next last edge) ≡ length now.next
    long = length-set now.next last edge

    pub lead_goes_on : LeadsAlong s before list (led_along now last (edge ∷ [])) edge after
    lead_goes_on = record {
      same = subst (λ (l : List ℕ). led_along now last l ≡ led_along s before list) parts on.same;
      ends = subst (λ (l : List ℕ). last_of last l ≡ last_of before list) parts on.ends;
      can = record {
        before_in = omega (arith, can_here.edge_in edge here, long);
        edge_in = λ e found. omega (arith, can_here.edge_in e (count-later e edge after found), long);
        origin_in = λ e found.
            omega (
              arith,
              can_here.origin_in e (count-later e edge after found),
              length-set now.vertex_anchors (slice_index now.origin edge) (Some edge),
            );
      };
    }

-- what is in range can move, whatever moved before
pub can_move : {V DE UE F : Type 0} (s : Lists V DE UE F) (items : List ℕ) → 0 < length s.face_anchors → ((e : ℕ) → 0 < count_of e items → e < length s.next)
    → ((e : ℕ) → 0 < count_of e items → slice_index s.face e < length s.face_anchors) → CanMoveOut s items
can_move s [] some edge_in face_in = tt
can_move s (e ∷ es) some edge_in face_in =
    let here : 0 < count_of e (e ∷ es) = omega (arith, count-same e es) in
    let long = length-set s.face_anchors (slice_index s.face e) None in (
      edge_in e here,
      face_in e here,
      can_move (moved_out s e) es (omega (arith, some, long)) (λ k found. edge_in k (count-later k e es found))
          (λ k found. elim (cases_eq k e) [
            | inl is ↦ elim (cases_lt e (length s.face)) [
              | inl below ↦ omega (arith, some, long, ap (slice_index (slice_set s.face e 0)) is ∙ get_or-set_same s.face e 0 0 below)
              | inr past ↦ omega (arith, some, long, ap (slice_index (slice_set s.face e 0)) is ∙ get_or_past (slice_set s.face e 0) e 0 (omega (arith, past, length-set s.face e 0)))
            ]
            | inr other ↦ omega (arith, long, get_or-set_other s.face e k 0 0 other, face_in k (count-later k e es found))
          ]),
    )

-- moving changes faces and their anchors alone
pub moved_rest : {V DE UE F : Type 0} (s : Lists V DE UE F) (items : List ℕ)
    → all_moved_out s items ≡ record s { face_anchors = (all_moved_out s items).face_anchors; face = (all_moved_out s items).face }
moved_rest s [] = refl
moved_rest s (e ∷ es) = moved_rest (moved_out s e) es

pub length-next_along : (before : ℕ) (list xs : List ℕ) → length (next_along before list xs) ≡ length xs
length-next_along before [] xs = refl
length-next_along before (e ∷ es) xs = length-next_along e es (slice_set xs before e) ∙ length-set xs before e

pub length-prev_along : (before : ℕ) (list xs : List ℕ) → length (prev_along before list xs) ≡ length xs
length-prev_along before [] xs = refl
length-prev_along before (e ∷ es) xs = length-prev_along e es (slice_set xs e before) ∙ length-set xs e before

-- the last of a list, or what comes before it, is in range where they are
last_in : (n before : ℕ) (items : List ℕ) → before < n → ((e : ℕ) → 0 < count_of e items → e < n) → last_of before items < n
last_in n before [] first all = first
last_in n before (e ∷ es) first all = last_in n e es (all e (omega (arith, count-same e es))) (λ k found. all k (count-later k e es found))

-- so a strip can be cut
module _ {V DE UE F : Type 0} (s : Lists V DE UE F) (items : List ℕ) (last : ℕ) (can : CanCutStrip s items last) where
  abbrev before : ℕ
  before = slice_index s.prev (slice_index s.prev (slice_index s.prev last))

  pub cut_moves : CanMoveOut (rooted s last) items
  cut_moves =
      let long = length-set s.face_anchors 0 (Some last) in
      can_move (rooted s last) items (omega (arith, can.outer_in, long)) can.edge_in (λ e found. omega (arith, can.face_in e found, long))

  pub cut_leads : CanLeadAlong (all_moved_out (rooted s last) items) before items
  cut_leads =
      rw (moved_rest (rooted s last) items) record { before_in = can.before_in; edge_in = can.edge_in; origin_in = can.origin_in }

  pub cut_ends : CanLeadAlong (led_along (all_moved_out (rooted s last) items) before items) (last_of before items) (last ∷ [])
  cut_ends =
      let is_last : (e : ℕ) → 0 < count_of e (last ∷ []) → e ≡ last = λ e found. elim (first_or_later e last [] found) [
        | inl is ↦ is
        | inr none ↦ absurd (omega (arith, none))
      ] in
      let long = length-next_along before items s.next in
      let anchors = length-each_set (λ e. slice_index s.origin e) (λ e. Some e) items s.vertex_anchors in
      rw (moved_rest (rooted s last) items) record {
        before_in = omega (arith, last_in (length s.next) before items can.before_in can.edge_in, long);
        edge_in = λ e found. omega (arith, is_last e found, can.last_in, long);
        origin_in = λ e found. omega (arith, ap (slice_index s.origin) (is_last e found), can.end_in, anchors);
      }

  pub cut_vertex : slice_index s.origin (slice_index s.prev last)
      < length (led_along (led_along (all_moved_out (rooted s last) items) before items) (last_of before items) (last ∷ [])).vertex_anchors
  cut_vertex =
      let anchors = length-each_set (λ e. slice_index s.origin e) (λ e. Some e) items s.vertex_anchors in
      let again = length-set (each_set (λ e. slice_index s.origin e) (λ e. Some e) s.vertex_anchors items) (slice_index s.origin last) (Some last) in
      rw (moved_rest (rooted s last) items) (omega (arith, can.vertex_in, anchors, again))
