-- What the store leaves of lists from which an element is taken out: their last items are put at its place.
use Rattle.std.proofs.Common.{◌≡◌, ◌≢◌, ℕ, suc, ◌+◌, ◌-◌, ◌*◌, ◌/◌, ◌%◌, ◌<◌, ◌≤◌, List, [], ◌∷◌, length, take, drop, slice_index_or, slice_set, swap_remove, refl, sym, ap, ◌∙◌, Option, Some, None, arith, eq-eqb}
use Rattle.std.proofs.lemmas.Bool.{cond_both, ne_eqb}
use Rattle.std.proofs.lemmas.List.{drop_all, drop_more, length-set}
use Rattle.dcel_fixed.specs.HalfEdges.{rev}
use Rattle.dcel_store.specs.declared.HalfEdgeLinks.{HalfEdgeLinks}
use Rattle.dcel_store.specs.Lists.{Lists, LengthsAgree}
use Rattle.dcel_store.specs.Taking.{pair_taken}
use Rattle.dcel_maps.specs.Removals.{is_this}
use Rattle.dcel_maps.specs.Renumbering.{half_of, last_put, moved, set_from}
use Rattle.dcel_maps.proofs.renumbering.Moves.{half_of-bit, half_of-half, moved-last}
use Rattle.dcel_edits.specs.Rename.{turn_renamed}
use Rattle.dcel_edits.specs.TakingOut.{CanRename, anchor_renamed, edge_dropped, edge_moved, edge_out, face_dropped, face_out, half_renamed, vertex_dropped, vertex_out, word_renamed}

module _ {A : Type 0} (xs : List A) (d : ℕ) (z : A) where
  pub swap_remove-last_put : 0 < length xs → swap_remove xs d z ≡ last_put 1 xs d
  unfolding last_put
  swap_remove-last_put some =
      let n : ℕ = length xs - 1 in
      let last : drop n xs ≡ slice_index_or xs n z ∷ [] =
      drop_more xs n z (omega (arith, some)) ∙ ap (λ r. slice_index_or xs n z ∷ r) (drop_all (n + 1) xs (omega (arith, some))) in
      ap (λ ys. take n (set_from xs d ys)) (sym last)

  pub pair_taken-last_put : 2 ≤ length xs → pair_taken xs d z ≡ last_put 2 xs (2 * d)
  unfolding last_put
  pair_taken-last_put two =
      let n : ℕ = length xs - 2 in
      let next : n + 1 ≡ length xs - 1 = omega (arith, two) in
      let odd : suc (2 * d) ≡ 2 * d + 1 = omega arith in
      let last : drop n xs ≡ slice_index_or xs n z ∷ slice_index_or xs (length xs - 1) z ∷ [] =
      drop_more xs n z (omega (arith, two))
      ∙ ap (λ r. slice_index_or xs n z ∷ r) (drop_more xs (n + 1) z (omega (arith, two))
      ∙ ap (λ i. slice_index_or xs i z ∷ drop (n + 1 + 1) xs) next
      ∙ ap (λ r. slice_index_or xs (length xs - 1) z ∷ r) (drop_all (n + 1 + 1) xs (omega (arith, two)))) in
      ap (λ i. take n (slice_set (slice_set xs (2 * d) (slice_index_or xs n z)) i (slice_index_or xs (length xs - 1) z))) (sym odd)
      ∙ ap (λ ys. take n (set_from xs (2 * d) ys)) (sym last)

module _ {V DE UE F : Type 0} (s : Lists V DE UE F) (d : ℕ) (lengths : LengthsAgree s) where
  -- what the store leaves once an element is taken out
  pub edge_dropped-is : {t : Lists V DE UE F} (normalized : DE) (edge : UE) → d < length s.undirected_data
      → t ≡ record s {
        next = pair_taken s.next d 0;
        prev = pair_taken s.prev d 0;
        origin = pair_taken s.origin d 0;
        face = pair_taken s.face d 0;
        directed_data = pair_taken s.directed_data d normalized;
        undirected_data = swap_remove s.undirected_data d edge;
        edge_room = s.edge_room + 1;
      } → t ≡ edge_dropped s d
  edge_dropped-is normalized edge within is =
      let two : 2 ≤ length s.next = omega (arith, lengths.of_next, within) in
      is ∙ rw (
        pair_taken-last_put s.next d 0 two,
        pair_taken-last_put s.prev d 0 (omega (arith, two, lengths.of_prev)),
        pair_taken-last_put s.origin d 0 (omega (arith, two, lengths.of_origin)),
        pair_taken-last_put s.face d 0 (omega (arith, two, lengths.of_face)),
        pair_taken-last_put s.directed_data d normalized (omega (arith, two, lengths.of_directed_data)),
        swap_remove-last_put s.undirected_data d edge (omega (arith, within)),
      ) refl

  pub face_dropped-is : {t : Lists V DE UE F} (datum : F) → d < length s.face_data
      → t ≡ record s {
        face_data = swap_remove s.face_data d datum;
        face_anchors = swap_remove s.face_anchors d None;
        face_room = s.face_room + 1;
      } → t ≡ face_dropped s d
  face_dropped-is datum within is =
      is ∙ rw (
        swap_remove-last_put s.face_data d datum (omega (arith, within)),
        swap_remove-last_put s.face_anchors d None (omega (arith, within, lengths.of_face_anchors)),
      ) refl

  pub vertex_dropped-is : {t : Lists V DE UE F} (datum : V) → d < length s.vertex_data
      → t ≡ record s {
        vertex_data = swap_remove s.vertex_data d datum;
        vertex_anchors = swap_remove s.vertex_anchors d None;
        vertex_room = s.vertex_room + 1;
      } → t ≡ vertex_dropped s d
  vertex_dropped-is datum within is =
      is ∙ rw (
        swap_remove-last_put s.vertex_data d datum (omega (arith, within)),
        swap_remove-last_put s.vertex_anchors d None (omega (arith, within, lengths.of_vertex_anchors)),
      ) refl

module _ {V DE UE F : Type 0} (s : Lists V DE UE F) (d : ℕ) where
  -- the last element is dropped, and else it moves
  pub edge_out-last : d ≡ length s.undirected_data - 1 → edge_out s d ≡ edge_dropped s d
  edge_out-last last = rw (eq-eqb d (length s.undirected_data - 1) last) refl

  pub edge_out-moved : d ≢ length s.undirected_data - 1 → edge_out s d ≡ edge_moved s d
  edge_out-moved other = rw (ne_eqb d (length s.undirected_data - 1) other) refl

  pub face_out-last : d ≡ length s.face_data - 1 → face_out s d ≡ face_dropped s d
  face_out-last last = rw (eq-eqb d (length s.face_data - 1) last) refl

  pub face_out-moved : d ≢ length s.face_data - 1 → face_out s d ≡ word_renamed (face_dropped s d) d
  face_out-moved other = rw (ne_eqb d (length s.face_data - 1) other) refl

  pub vertex_out-last : d ≡ length s.vertex_data - 1 → vertex_out s d ≡ vertex_dropped s d
  vertex_out-last last = rw (eq-eqb d (length s.vertex_data - 1) last) refl

  pub vertex_out-moved : d ≢ length s.vertex_data - 1 → vertex_out s d ≡ turn_renamed (vertex_dropped s d) d
  vertex_out-moved other = rw (ne_eqb d (length s.vertex_data - 1) other) refl

-- the odd half of the last edge
pub half_of-odd : (last d h : ℕ) → h / 2 ≡ last → h % 2 ≢ 0 → half_of (moved last d) h ≡ rev (2 * d)
unfolding rev
half_of-odd last d h same odd =
    let whole = half_of-half (moved last d) h ∙ ap (moved last d) same ∙ moved-last last d in
    omega (arith, whole, half_of-bit (moved last d) h, odd)

-- a write to what names one half edge leaves the others where they are
length-anchor_renamed : (anchors : List (Option ℕ)) (k old new : ℕ) → length (anchor_renamed anchors k old new) ≡ length anchors
length-anchor_renamed anchors k old new =
    cond_both (is_this old (slice_index_or anchors k None)) (slice_set anchors k (Some new)) anchors (λ l. length l ≡ length anchors)
    (λ named. length-set anchors k (Some new)) (λ other. refl)

pub still_can_rename : {V DE UE F : Type 0} (s : Lists V DE UE F) (written links : HalfEdgeLinks) (old new : ℕ) → CanRename s links
    → CanRename (half_renamed s written old new) links
still_can_rename s written links old new can =
    let nexts = length-set s.next written.prev new in
    record {
      next_in = omega (arith, can.next_in, nexts);
      prev_in = omega (arith, can.prev_in, nexts);
      origin_in = omega (arith, can.origin_in, length-anchor_renamed s.vertex_anchors written.origin old new);
      face_in = omega (arith, can.face_in, length-anchor_renamed s.face_anchors written.face old new);
    }
