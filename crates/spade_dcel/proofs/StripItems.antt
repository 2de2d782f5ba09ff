-- The half edges of a strip, and the record of what is given up with it.
use Rattle.std.proofs.Common.{◌≡◌, inl, inr, ℕ, ◌<◌, List, [], ◌∷◌, ◌++◌, sym, ap, ◌∙◌, subst, arith}
use Rattle.std.proofs.lemmas.Bool.{cases_eq}
use Rattle.dcel_maps.specs.edits.Strip.{strip_cut, strip_edges, strip_faces, strip_record}
use Rattle.dcel_maps.specs.Removals.{Closed, opened}
use Rattle.dcel_maps.specs.Shapes.{IsLive, IsMesh, Mesh, Shape, origin_of, prev_of}
use Rattle.dcel_maps.specs.Strips.{IsEdgeStrip}
use Rattle.dcel_maps.specs.Words.{count_of}
use Rattle.dcel_maps.proofs.removal.StripLinks.{LeadsOn, strip_links}
use Rattle.dcel_maps.proofs.words.Counts.{count-append, count-other}
use Rattle.dcel_maps.proofs.words.EachSet.{last_of-is}
use Rattle.dcel_maps.proofs.words.Paths.{path_next}

-- each is live
pub listed_live : {V DE UE F : Type 0} (m : Mesh V DE UE F) (items : List ℕ) (last : ℕ) (list : List ℕ) → IsMesh m → m.shape.removal ≡ Closed
    → list ≡ items ++ last ∷ [] → IsEdgeStrip m.shape list → (k : ℕ) → 0 < count_of k list → IsLive m.shape k
listed_live m items last list mesh closed is strip k found =
    let links = strip_links m items last mesh closed (subst (IsEdgeStrip m.shape) is strip) in
    let t = (strip_cut m (items ++ last ∷ [])).shape in
    let counted = ap (count_of k) is ∙ count-append k items (last ∷ []) in
    elim (cases_eq k last) [
      | inl same ↦ subst (IsLive m.shape) (sym same) (links.was_live last links.last_live)
      | inr other ↦
          let (j, link, rest) = path_next (LeadsOn t 0) (prev_of m.shape (prev_of m.shape (prev_of m.shape last))) items last links.path k
          (omega (arith, found, counted, count-other k last [] other)) in
          links.was_live k link.live
    ]

-- the record once these edges and faces are given up is that of the strip
pub record_is : (s : Shape) (items : List ℕ) (last : ℕ) (edges faces : List ℕ) (half vertex : ℕ)
    → edges ≡ strip_edges s (items ++ last ∷ []) → faces ≡ strip_faces s (items ++ last ∷ [])
    → half ≡ prev_of s last → vertex ≡ origin_of s half → opened edges faces vertex ≡ strip_record s (items ++ last ∷ [])
record_is s items last edges faces half vertex edges_are faces_are at start =
    let strip = items ++ last ∷ [] in
    ap (λ x. opened x faces vertex) edges_are
    ∙ ap (λ x. opened (strip_edges s strip) x vertex) faces_are
    ∙ ap (opened (strip_edges s strip) (strip_faces s strip)) (start ∙ ap (origin_of s) at)
    ∙ ap (λ l. opened (strip_edges s strip) (strip_faces s strip) (origin_of s (prev_of s l))) (sym (last_of-is 0 items last))
