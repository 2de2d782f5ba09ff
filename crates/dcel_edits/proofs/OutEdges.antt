-- What a vertex's stored anchor says of its out edges.
use Rattle.std.proofs.Common.{◌≡◌, ◌↔◌, ℕ, true, Some, None, sym, ◌∙◌}
use Rattle.std.specs.Prelude.{slice_index, slice_index_or}
use Rattle.dcel_fixed.specs.HalfEdges.{rev}
use Rattle.dcel_store.specs.Lists.{Lists}
use Rattle.dcel_maps.specs.Conditions.{IsLineEnd, IsUnconnected}
use Rattle.dcel_maps.specs.Removals.{Removal}
use Rattle.dcel_maps.specs.Shapes.{vertex_is_live}
use Rattle.dcel_edits.specs.Stored.{IsStored, mesh_of}
use Rattle.dcel_edits.proofs.Reading.{anchor_starts, anchored-live, none_starts, only_out-iff, unanchored-iff}

module _ {V DE UE F : Type 0} {s : Lists V DE UE F} {r : Removal} (stored : IsStored s r) (v : ℕ) where
  -- a live vertex is unconnected just where it has no anchor
  pub unconnected-iff : vertex_is_live (mesh_of s r).shape v ≡ true
      → (slice_index_or s.vertex_anchors v None ≡ None) ↔ IsUnconnected (mesh_of s r).shape v
  unconnected-iff live =
      let bare = unanchored-iff stored v in
      (λ none. record { live = live; bare = bare.0 none }, λ free. bare.1 free.bare)

  -- a vertex with an anchor ends a line just where turning round the vertex leads from the anchor to itself
  pub line_end-iff : (out : ℕ) → slice_index_or s.vertex_anchors v None ≡ Some out
      → (rev (slice_index s.prev out) ≡ out) ↔ IsLineEnd (mesh_of s r).shape v
  line_end-iff out some =
      let anchored = anchor_starts stored v out some in
      let only = only_out-iff stored v out some in (
        λ stays. record {
          live = anchored-live stored v out some;
          one = (out, record { edge = record { live = anchored.0; start = anchored.1 }; only = only.0 stays });
        },
        λ end. only.1 (λ k live starts. end.one.1.only k live starts ∙ sym (end.one.1.only out anchored.0 anchored.1)),
      )

  -- a vertex without an anchor ends no line
  pub no_line_end : slice_index_or s.vertex_anchors v None ≡ None → IsLineEnd (mesh_of s r).shape v → ⊥
  no_line_end none end = none_starts stored v none end.one.0 end.one.1.out end.one.1.from
