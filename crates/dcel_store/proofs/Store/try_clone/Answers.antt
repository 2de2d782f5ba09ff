use Rattle.std.proofs.Common.{◌≡◌, vec_len, arith, refl, ◌∙◌}
use Rattle.dcel_store.specs.Lists.{Lists}
use Rattle.dcel_store.specs.Vectors.{lists_of}
use Rattle.dcel_store.specs.Whole.{with_data}
use Rattle.dcel_store.proofs.Answering.{parts_answer, parts_stay}
use Rattle.dcel_store.proofs.Lengths.{agree_as_long, as_many}
use Rattle.dcel_store.proofs.Store.try_clone.Goals as goal

-- lists with the same links and anchors
same_links : {V DE UE F : Type 0} (lists clones : Lists V DE UE F) → clones.vertex_anchors ≡ lists.vertex_anchors
    → clones.next ≡ lists.next → clones.prev ≡ lists.prev → clones.origin ≡ lists.origin → clones.face ≡ lists.face
    → clones.face_anchors ≡ lists.face_anchors
    → clones ≡ record (with_data lists clones.vertex_data clones.directed_data clones.undirected_data clones.face_data) {
      vertex_room = clones.vertex_room;
      edge_room = clones.edge_room;
      face_room = clones.face_room;
    }
same_links lists clones vertex_anchors next prev origin face face_anchors =
    rw (← vertex_anchors, ← next, ← prev, ← origin, ← face, ← face_anchors) refl

pub invariant_of-result : goal.invariant_of-result
invariant_of-result g c =
    let old = c.self.inside.undirected_data in
    let new = c.in_ok-undirected_data.undirected_data in
    let many = as_many _ old.items new.items (rw c.deref-7.ensures.value at c.in_ok-undirected_data.ensures.clones) in
    let long : vec_len new ≡ vec_len old = omega (arith, many, old.ok, new.ok) in
    agree_as_long c.self.inside _ c.self.invariant
    (c.in_ok-next.ensures.len ∙ c.deref-2.ensures.len)
    (c.in_ok-prev.ensures.len ∙ c.deref-3.ensures.len)
    (c.in_ok-origin.ensures.len ∙ c.deref-4.ensures.len)
    (c.in_ok-face.ensures.len ∙ c.deref-5.ensures.len)
    (c.in_ok-directed_data.ensures.len ∙ c.deref-6.ensures.len)
    long
    c.in_ok-undirected_data.ensures.exact

pub returns : goal.returns
returns g c =
    let vertices = rw c.deref.ensures.value at c.in_ok-vertices.ensures.ok in
    let faces = rw c.deref-8.ensures.value at c.in_ok-faces.ensures.ok in
    let vertex_anchors = parts_stay (λ v. v.out_edge) (λ v. v.out_edge) (λ x y r. r.1) _ _ vertices in
    let face_anchors = parts_stay (λ f. f.adjacent_edge) (λ f. f.adjacent_edge) (λ x y r. r.1) _ _ faces in
    let next = c.in_ok-next.ensures.items ∙ c.deref-2.ensures.value in
    let prev = c.in_ok-prev.ensures.items ∙ c.deref-3.ensures.value in
    let origin = c.in_ok-origin.ensures.items ∙ c.deref-4.ensures.value in
    let face = c.in_ok-face.ensures.items ∙ c.deref-5.ensures.value in
    rw (← c.self.view_is) record {
      vertex_data = parts_answer _ _ _ (λ x y r. r.0) _ _ vertices;
      directed_data = rw c.deref-6.ensures.value at c.in_ok-directed_data.ensures.ok;
      undirected_data = rw c.deref-7.ensures.value at c.in_ok-undirected_data.ensures.clones;
      face_data = parts_answer _ _ _ (λ x y r. r.0) _ _ faces;
      same = same_links (lists_of c.self.inside) _ vertex_anchors next prev origin face face_anchors;
    }
