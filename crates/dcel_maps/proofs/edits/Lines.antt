-- A line made longer at an end: the out edge of the end, and the spur put in before it.
use Rattle.std.proofs.Common.{◌≡◌, ℕ, ◌+◌, ◌*◌, List, [], ◌∷◌, length, unwrap_or, Option, Some, None, add-zero, append-nil, refl, sym, ap, ◌∙◌, subst}
use Rattle.dcel_fixed.specs.HalfEdges.{rev}
use Rattle.dcel_fixed.proofs.Halves.{rev-rev}
use Rattle.dcel_maps.specs.Conditions.{HasRoom, IsLineEnd, IsUnconnected}
use Rattle.dcel_maps.specs.EditLists.{ComesBy}
use Rattle.dcel_maps.specs.EditLists.EditKind.{spur_added}
use Rattle.dcel_maps.specs.edits.Line.{line_extended}
use Rattle.dcel_maps.specs.Shapes.{out_edge_of, IsLive, IsMesh, AnchorsVertex, Mesh, face_of, map_of, next_of, origin_of, vertex_anchor}
use Rattle.dcel_maps.specs.theory.Sound.{Sound}
use Rattle.dcel_maps.proofs.Liveness.{vertex_live-parts}
use Rattle.dcel_maps.proofs.edits.Changes.{Change, IsEdit, changed, map_after}
use Rattle.dcel_maps.proofs.edits.Spurs.{spur, spur_made, spur_is_edit}
use Rattle.dcel_maps.proofs.maps.Soundness.{rev_live}
use Rattle.dcel_maps.proofs.shapes.Maps.{map-sound}
use Rattle.dcel_maps.proofs.walks.Links.{next-live}
use Rattle.dcel_maps.proofs.words.Spurs.{with_spur-set}

-- the end of a line, and its out edge
pub record EndsLine {V DE UE F : Type 0} (m : Mesh V DE UE F) (end out : ℕ) : Type 0 where
  pub anchor : vertex_anchor m end ≡ Some out
  pub live : IsLive m.shape out
  pub back : IsLive m.shape (rev out)
  pub turns : next_of m.shape (rev out) ≡ out
  pub from : origin_of m.shape out ≡ end

module _ {V DE UE F : Type 0} (m : Mesh V DE UE F) (mesh : IsMesh m) (end : ℕ) (line : IsLineEnd m.shape end) where
  anchored : (o : Option ℕ) → AnchorsVertex m.shape end o → (out : ℕ) × (o ≡ Some out) × IsLive m.shape out × (origin_of m.shape out ≡ end)
  anchored None bare = absurd (bare line.one.0 line.one.1.out line.one.1.from)
  anchored (Some out) some = (out, refl, some.0, some.1)

  pub line_end : (out : ℕ) × EndsLine m end out
  line_end =
      let below = (vertex_live-parts m.shape end line.live).0 in
      let (out, is, live, from) = anchored (vertex_anchor m end) (mesh.anchored.vertices end below) in
      let sound : Sound (map_of m.shape) = map-sound mesh.sound in
      let back : IsLive m.shape (rev out) = rev_live (map_of m.shape) out live in
      let after = next_of m.shape (rev out) in
      let starts : origin_of m.shape after ≡ end = sound.origin-next (rev out) back ∙ ap (origin_of m.shape) (rev-rev out) ∙ from in (
        out,
        record {
          anchor = is;
          live = live;
          back = back;
          turns = line.one.1.only after (next-live mesh.sound (rev out) back) starts ∙ sym (line.one.1.only out live from);
          from = from;
        },
      )

-- the spur that makes the line longer
module _ {V DE UE F : Type 0} (m : Mesh V DE UE F) (end out tip : ℕ) (halves : List DE) (edges : List UE) where
  abbrev pub extension : Change V DE UE F
  extension = spur m (2 * m.shape.edges) (rev out) out (face_of m.shape (rev out)) end tip halves edges

  module _ (mesh : IsMesh m) (at : EndsLine m end out) where
    pub extension_is : changed m extension ≡ line_extended m end tip halves edges
    extension_is =
        let is : out_edge_of m end ≡ out = ap (λ o. unwrap_or o 0) at.anchor in
        let words = with_spur-set m.shape.words (rev out) (2 * m.shape.edges + 1) (2 * m.shape.edges) (mesh.sound.once (rev out) at.back) in
        rw (is, words) (simp (add-zero, append-nil) refl)

    pub extension_is_edit : IsUnconnected m.shape tip → HasRoom m.shape 0 1 0 → length halves ≡ 2 → length edges ≡ 1 → IsEdit m extension
    extension_is_edit unconnected room two one =
        let edit = spur_is_edit m mesh (rev out) tip at.back unconnected room halves edges two one in
        let from : origin_of m.shape (next_of m.shape (rev out)) ≡ end = ap (origin_of m.shape) at.turns ∙ at.from in
        let start : (after v : ℕ) → Change V DE UE F = λ after v. spur m (2 * m.shape.edges) (rev out) after (face_of m.shape (rev out)) v tip halves edges in
        subst (λ after. IsEdit m (start after end)) at.turns (subst (λ v. IsEdit m (start (next_of m.shape (rev out)) v)) from edit)

    pub extension_made : IsUnconnected m.shape tip → HasRoom m.shape 0 1 0 → length halves ≡ 2 → length edges ≡ 1
        → ComesBy (spur_added ∷ []) (map_of m.shape) (map_after m.shape extension)
    extension_made unconnected room two one =
        let edit = spur_made m mesh (rev out) tip at.back unconnected room halves edges two one in
        let from : origin_of m.shape (next_of m.shape (rev out)) ≡ end = ap (origin_of m.shape) at.turns ∙ at.from in
        let start : (after v : ℕ) → Change V DE UE F = λ after v. spur m (2 * m.shape.edges) (rev out) after (face_of m.shape (rev out)) v tip halves edges in
        let Comes : (after v : ℕ) → Type 0 = λ after v. ComesBy (spur_added ∷ []) (map_of m.shape) (map_after m.shape (start after v)) in
        subst (λ after. Comes after end) at.turns (subst (λ v. Comes (next_of m.shape (rev out)) v) from edit)
