-- What the writes leave that make a line longer holds the longer line.
use Rattle.std.proofs.Common.{◌≡◌, ◌≢◌, ◌<◌, ℕ, List, slice_index_or, Some, None, append-nil, refl, sym, ◌∙◌, subst, arith}
use Rattle.std.proofs.Math.Nat.{sub-zero}
use Rattle.dcel_fixed.specs.HalfEdges.{rev}
use Rattle.dcel_store.specs.Lists.{Lists}
use Rattle.dcel_maps.specs.edits.DefaultData.{AddsEdge}
use Rattle.dcel_maps.specs.Conditions.{HasRoom, IsLineEnd, IsUnconnected}
use Rattle.dcel_maps.specs.edits.Line.{line_extended}
use Rattle.dcel_maps.specs.Removals.{Removal}
use Rattle.dcel_maps.specs.Shapes.{IsMesh, Mesh}
use Rattle.dcel_maps.proofs.edits.Lines.{EndsLine, extension, extension_is, extension_is_edit, line_end}
use Rattle.dcel_edits.specs.Line.{CanSpur, spur_stored}
use Rattle.dcel_edits.proofs.stored.Changes.{HoldsEdge, edge_holds, held_edges, held_mesh, held_vertex, held_vertex_anchor, written}
use Rattle.dcel_edits.proofs.stored.Halves.{HoldsHalf, holds_half}
use Rattle.dcel_edits.proofs.stored.Holding.{Holds}

some-same : {a b : ℕ} → Some a ≡ Some b → a ≡ b
some-same e = cc

-- the end of a line has an anchor
pub extend_anchored : {V DE UE F : Type 0} {s : Lists V DE UE F} {r : Removal} {m : Mesh V DE UE F} → Holds s r m → (end : ℕ) → IsLineEnd m.shape end
    → slice_index_or s.vertex_anchors end None ≢ None
extend_anchored {s = s} {r = r} {m = m} held end line none =
    let (out, ends) = line_end m (held_mesh s r m held) end line in
    let bad : None ≡ Some out = sym none ∙ sym (held_vertex_anchor s r m held end) ∙ ends.anchor in cc

module _ {V DE UE F : Type 0} {s : Lists V DE UE F} {r : Removal} {m : Mesh V DE UE F} (held : Holds s r m) (end tip : ℕ)
    (line : IsLineEnd m.shape end) (unconnected : IsUnconnected m.shape tip) (room : HasRoom m.shape 0 1 0) where
  mesh : IsMesh m
  mesh = held_mesh s r m held

  module _ (out : ℕ) (anchored : slice_index_or s.vertex_anchors end None ≡ Some out) where
    at : EndsLine m end out
    at =
        let (o, ends) = line_end m mesh end line in
        let same : o ≡ out = some-same (sym ends.anchor ∙ held_vertex_anchor s r m held end ∙ anchored) in
        subst (λ i. EndsLine m end i) same ends

    last : HoldsHalf s m (rev out)
    last = holds_half held (rev out) at.back

    pub extend_can : 0 < s.edge_room → CanSpur s (rev out) tip
    extend_can place = record {
      place = place;
      few = omega (arith, room.for_edges, held_edges s r m held);
      before_in = last.within.edge_in;
      after_in = last.within.next_in;
      tip_in = held_vertex s r m held tip unconnected.live;
    }

    -- the numbers that are read are those of the mesh
    read : (halves : List DE) (edges : List UE) → spur_stored s (rev out) tip halves edges ≡ written s (extension m end out tip halves edges)
    read halves edges =
        rw (held_edges s r m held, last.next ∙ at.turns, last.face, (holds_half held out at.live).origin ∙ at.from)
        (simp (append-nil, sub-zero) refl)

    pub extended : {is_half : DE → Type 0} {is_edge : UE → Type 0} {t : Lists V DE UE F}
        → AddsEdge is_half is_edge t (spur_stored s (rev out) tip) → HoldsEdge is_half is_edge t r (line_extended m end tip)
    extended added =
        edge_holds held (extension m end out tip) (line_extended m end tip) read
        (λ halves edges two one.
        (extension_is m end out tip halves edges mesh at, extension_is_edit m end out tip halves edges mesh at unconnected room two one))
        added
