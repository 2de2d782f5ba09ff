-- What the stored lists have to be once an edge is taken out.
use Rattle.std.proofs.Common.{◌≡◌, ◌≢◌, inl, inr, ℕ, ◌-◌, ◌*◌, ◌/◌, ◌<◌, Bool, cond, List, length, map, option_map, slice_index, sym, ap, ◌∙◌, arith, Option}
use Rattle.std.proofs.lemmas.Bool.{cases_eq, false_from_ne_true, both_ways}
use Rattle.std.proofs.lemmas.List.{ext_get_or}
use Rattle.dcel_store.specs.Lists.{Lists, LengthsAgree}
use Rattle.dcel_edits.specs.Stored.{IsStored, mesh_of, stored_map}
use Rattle.dcel_maps.specs.Maps.{Live}
use Rattle.dcel_maps.specs.Removals.{Removal, gives_up_edge, shown}
use Rattle.dcel_maps.specs.Renumbering.{edge_taken_out, half_of, last_put, moved, without_edge}
use Rattle.dcel_maps.specs.Shapes.{IsMesh, Mesh}
use Rattle.dcel_edits.proofs.Public.{mesh-is-mesh}
use Rattle.dcel_maps.proofs.Shown.{length-shown, slice_index-shown}
use Rattle.dcel_edits.proofs.stored.Held.{own_data}
use Rattle.dcel_edits.proofs.stored.Holding.{Holds}
use Rattle.dcel_maps.proofs.Liveness.{is_live-parts}
use Rattle.dcel_maps.proofs.renumbering.Edges.{IsLastEdgeOut, edge-renamed}
use Rattle.dcel_maps.proofs.renumbering.LastPut.{length-last_put}
use Rattle.dcel_maps.proofs.renumbering.Meshes.{edge_out-mesh}
use Rattle.dcel_maps.proofs.renumbering.Moves.{half_of-back, half_of-half, last_put-half, moved-back, moved-last, moved-other, moved-within}
use Rattle.dcel_maps.proofs.renumbering.Records.{without_edge-loses}
use Rattle.dcel_edits.specs.TakingOut.{edge_dropped}
use Rattle.dcel_edits.proofs.stored.Renumbered.{renumbered_holds}

-- origins that are masked move with their half edges
shown-last_put : (g g' : ℕ → Bool) (xs : List ℕ) (n d : ℕ) → length xs ≡ 2 * n → d < n
    → ((u : ℕ) → u < n - 1 → g' u ≡ g (moved d (n - 1) u))
    → shown g' (last_put 2 xs (2 * d)) ≡ last_put 2 (shown g xs) (2 * d)
shown-last_put g g' xs n d long below kept =
    let long_left = length-shown g' (last_put 2 xs (2 * d)) in
    let long_right = length-last_put 2 (shown g xs) (2 * d) in
    let short = length-last_put 2 xs (2 * d) in
    let masked = length-shown g xs in
    ext_get_or 0 (shown g' (last_put 2 xs (2 * d))) (last_put 2 (shown g xs) (2 * d)) (omega (arith, long_left, long_right, short, masked)) (λ i i_in.
    let within : i / 2 < n - 1 = omega (arith, i_in, long_left, short, long) in
    let h : ℕ = half_of (moved d (n - 1)) i in
    let whole : h / 2 ≡ moved d (n - 1) (i / 2) = half_of-half (moved d (n - 1)) i in
    let old_in : moved d (n - 1) (i / 2) < n = moved-within d n (i / 2) below within in
    let other : moved d (n - 1) (i / 2) ≢ d = λ e. elim (cases_eq (i / 2) d) [
      | inl same ↦ let last = ap (moved d (n - 1)) same ∙ moved-last d (n - 1) in omega (arith, e, last, same, within)
      | inr differs ↦ differs (sym (moved-other d (n - 1) (i / 2) differs) ∙ e)
    ] in
    let back : half_of (moved (n - 1) d) h ≡ i =
    half_of-back (moved d (n - 1)) (moved (n - 1) d) i (moved-back d (n - 1) (i / 2) (λ e. omega (arith, e, within))) in
    let here : slice_index (last_put 2 xs (2 * d)) i ≡ slice_index xs h =
    ap (slice_index (last_put 2 xs (2 * d))) (sym back)
    ∙ last_put-half 0 xs n d h long below (omega (arith, whole, old_in)) (λ e. other (sym whole ∙ e)) in
    let there : slice_index (last_put 2 (shown g xs) (2 * d)) i ≡ slice_index (shown g xs) h =
    ap (slice_index (last_put 2 (shown g xs) (2 * d))) (sym back)
    ∙ last_put-half 0 (shown g xs) n d h (masked ∙ long) below (omega (arith, whole, old_in)) (λ e. other (sym whole ∙ e)) in
    slice_index-shown g' (last_put 2 xs (2 * d)) i
    ∙ ap (λ v. cond (g' (i / 2)) 0 v) here
    ∙ ap (λ b. cond b 0 (slice_index xs h)) (kept (i / 2) within ∙ ap g (sym whole))
    ∙ sym (slice_index-shown g xs h)
    ∙ sym there)

module _ {V DE UE F : Type 0} (s : Lists V DE UE F) (r : Removal) (d : ℕ) (stored : IsStored s r) (out : IsLastEdgeOut (mesh_of s r).shape d) where
  abbrev m : Mesh V DE UE F
  m = mesh_of s r

  abbrev n : Mesh V DE UE F
  n = edge_taken_out m d

  abbrev half : ℕ → ℕ
  half = half_of (moved (length s.undirected_data - 1) d)

  abbrev back : ℕ → ℕ
  back = half_of (moved d (length s.undirected_data - 1))

  mesh : IsMesh m
  mesh = mesh-is-mesh s r stored

  -- the record of a number below the new count gives up what it gave up
  given : (u : ℕ) → u < length s.undirected_data - 1
      → gives_up_edge (without_edge r d) u ≡ gives_up_edge r (moved d (length s.undirected_data - 1) u)
  given u within = elim (cases_eq u d) [
    | inl same ↦
        ap (gives_up_edge (without_edge r d)) same ∙ (without_edge-loses r d).gone
        ∙ sym (ap (gives_up_edge r) (ap (moved d (length s.undirected_data - 1)) same ∙ moved-last d (length s.undirected_data - 1))
        ∙ false_from_ne_true (gives_up_edge r (length s.undirected_data - 1))
        (λ gone. omega (arith, within, same, out.largest (length s.undirected_data - 1) gone)))
    | inr other ↦ (without_edge-loses r d).rest u other ∙ sym (ap (gives_up_edge r) (moved-other d (length s.undirected_data - 1) u other))
  ]

  origins : length s.origin ≡ 2 * length s.undirected_data
  origins = stored.lengths.of_origin ∙ stored.lengths.of_next

  pub half_stays : (h : ℕ) → Live (stored_map s r) h → h / 2 ≢ d
  half_stays h live same =
      both_ways (gives_up_edge r (h / 2)) (is_live-parts (gives_up_edge r) (length s.undirected_data) (h / 2) live).1
      (ap (gives_up_edge r) same ∙ out.given)

  face-moved : (h : ℕ) → Live (stored_map s r) h → slice_index (last_put 2 s.face (2 * d)) (half h) ≡ slice_index s.face h
  face-moved h live =
      last_put-half 0 s.face (length s.undirected_data) d h (stored.lengths.of_face ∙ stored.lengths.of_next) out.below
      (stored.sound.below_edges h live) (half_stays h live)

  -- without the edge, and with these links and anchors, where other half edges are named by their new numbers
  module _ (nexts prevs : List ℕ) (vertex_anchors face_anchors : List (Option ℕ)) where
    abbrev edge_left : Lists V DE UE F
    edge_left = record (edge_dropped s d) { next = nexts; prev = prevs; vertex_anchors = vertex_anchors; face_anchors = face_anchors }

    -- such lists hold the mesh without the edge
    pub edge_out-held : LengthsAgree edge_left
        → ((h : ℕ) → Live (stored_map s r) h → slice_index nexts (half h) ≡ half (slice_index s.next h))
        → ((h : ℕ) → Live (stored_map s r) h → slice_index prevs (half h) ≡ half (slice_index s.prev h))
        → vertex_anchors ≡ map (option_map half) s.vertex_anchors → face_anchors ≡ map (option_map half) s.face_anchors
        → Holds edge_left (without_edge r d) n
    edge_out-held lengths next prev vertex_same face_same =
        renumbered_holds s edge_left r n half back (λ v. v) (λ v. v) (λ g. g) (λ g. g) stored (edge-renamed m.shape d mesh.sound out)
        record {
          lengths = lengths;
          next = next;
          prev = prev;
          face = face-moved;
          shown_origins =
              shown-last_put (gives_up_edge r) (gives_up_edge (without_edge r d)) s.origin (length s.undirected_data) d origins out.below given;
          vertex_anchors = vertex_same;
          face_anchors = face_same;
          has_data = own_data edge_left;
        } (edge_out-mesh m d mesh out)
