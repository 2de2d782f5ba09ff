-- The ends of a line that grows.
use Rattle.std.proofs.Common.{◌≡◌, ◌≢◌, ℕ, ◌+◌, ◌*◌, ◌/◌, ◌<◌, ◌≤◌, List, [], ◌∷◌, ◌++◌, slice_index, true, false, refl, subst, ap, sym, ◌∙◌, inl, inr, arith}
use Rattle.std.proofs.lemmas.Bool.{cases_eq, cases_lt}
use Rattle.std.proofs.lemmas.List.{get_or-append-add, get_or_append_left}
use Rattle.dcel_maps.specs.edits.DefaultData.{AddsEdge}
use Rattle.dcel_maps.specs.Conditions.{IsLineEnd, IsUnconnected}
use Rattle.dcel_maps.specs.edits.Create.{vertex_appended}
use Rattle.dcel_maps.specs.edits.Line.{line_extended}
use Rattle.dcel_maps.specs.Removals.{gives_up_edge, gives_up_vertex}
use Rattle.dcel_maps.specs.Shapes.{Shape, Mesh, IsMesh, IsLive, origin_of, vertex_is_live}
use Rattle.dcel_maps.proofs.Liveness.{gives_up_edge-past, is_live-from, is_live-grown, is_live-last, is_live-parts}

-- more vertices leave a live one live
pub still_live : (s : Shape) (n v : ℕ) → s.vertices ≤ n → vertex_is_live s v ≡ true → vertex_is_live (record s { vertices = n }) v ≡ true
still_live s n v more live =
    let parts = is_live-parts (gives_up_vertex s.removal) s.vertices v live in
    is_live-from (gives_up_vertex s.removal) n v (omega (arith, parts.0)) parts.1

module _ {V DE UE F : Type 0} (m : Mesh V DE UE F) where
  -- an appended vertex leaves live what is live, and an end an end
  appended_end : (datum : V) (end : ℕ) → IsLineEnd m.shape end → IsLineEnd (vertex_appended m datum).shape end
  appended_end datum end line = record {
    live = still_live m.shape (m.shape.vertices + 1) end (omega arith) line.live;
    one = (line.one.0, record { edge = record { live = line.one.1.out; start = line.one.1.from }; only = line.one.1.only });
  }

  pub end_after : (n : Mesh V DE UE F) (datum : V) (end : ℕ) → n ≡ vertex_appended m datum → IsLineEnd m.shape end → IsLineEnd n.shape end
  end_after n datum end is line =
      let P : Mesh V DE UE F → Type 0 = λ u. IsLineEnd u.shape end in
      subst P (sym is) (appended_end datum end line)

  module _ (mesh : IsMesh m) where
    -- the new vertex is the end of the longer line
    module _ (end tip : ℕ) (line : IsLineEnd m.shape end) (bare : IsUnconnected m.shape tip) where
      origin_old : (k : ℕ) → k < 2 * m.shape.edges → slice_index (m.shape.origins ++ tip ∷ end ∷ []) k ≡ origin_of m.shape k
      origin_old k below = get_or_append_left m.shape.origins (tip ∷ end ∷ []) 0 k (omega (arith, mesh.sized.origins))

      origin_new : (k : ℕ) → slice_index (m.shape.origins ++ tip ∷ end ∷ []) (2 * m.shape.edges + k) ≡ slice_index (tip ∷ end ∷ []) k
      origin_new k =
          ap (λ z. slice_index (m.shape.origins ++ tip ∷ end ∷ []) (z + k)) (sym mesh.sized.origins)
          ∙ get_or-append-add m.shape.origins (tip ∷ end ∷ []) k 0

      apart : end ≢ tip
      apart same = bare.bare line.one.0 line.one.1.out (line.one.1.from ∙ same)

      extended_end : (halves : List DE) (edges : List UE) → IsLineEnd (line_extended m end tip halves edges).shape tip
      extended_end halves edges =
          let g = gives_up_edge m.shape.removal in
          let e = m.shape.edges in
          let kept : g e ≡ false = gives_up_edge-past mesh.sized.within e (omega arith) in
          let half : 2 * e / 2 ≡ e = omega arith in
          let out : IsLive (line_extended m end tip halves edges).shape (2 * e) = rw half (is_live-last g e kept) in
          let only : (k : ℕ) → IsLive (line_extended m end tip halves edges).shape k
          → slice_index (m.shape.origins ++ tip ∷ end ∷ []) k ≡ tip → k ≡ 2 * e =
          λ k live starts.
          elim (cases_lt k (2 * e)) [
            | inl old ↦
                let was : IsLive m.shape k = sym (is_live-grown g e (k / 2) (λ same. omega (arith, old, same))) ∙ live in
                absurd (bare.bare k was (sym (origin_old k old) ∙ starts))
            | inr new ↦
                let below = (is_live-parts g (e + 1) (k / 2) live).0 in
                elim (cases_eq k (2 * e)) [
                  | inl same ↦ same
                  | inr other ↦
                      let last : k ≡ 2 * e + 1 = omega (arith, below) in
                      absurd (apart (sym (origin_new 1) ∙ subst (λ z. slice_index (m.shape.origins ++ tip ∷ end ∷ []) z ≡ tip) last starts))
                ]
          ] in
          let last : 2 * e ≡ 2 * e + 0 = omega arith in
          record {
            live = bare.live;
            one = (
              2 * e,
              record {
                edge = record { live = out; start = ap (slice_index (m.shape.origins ++ tip ∷ end ∷ [])) last ∙ origin_new 0 };
                only = only;
              },
            );
          }

      pub longer_end : {is_half : DE → Type 0} {is_edge : UE → Type 0} (p : Mesh V DE UE F) (v : ℕ) → v ≡ tip
          → AddsEdge is_half is_edge p (line_extended m end tip) → IsLineEnd p.shape v
      longer_end p v same adds =
          let P : Mesh V DE UE F → Type 0 = λ u. IsLineEnd u.shape tip in
          rw same (subst P (sym adds.is) (extended_end adds.directed_data adds.undirected_data))
