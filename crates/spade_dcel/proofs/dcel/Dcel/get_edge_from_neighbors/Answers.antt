use Rattle.std.proofs.Common.{◌≡◌, ◌==◌, ℕ, Bool, false, List, [], ◌∷◌, ◌++◌, IfSome, MatchOption, Option, Some, None, refl, sym, ap, subst, ◌∙◌, eq-eqb, eqb-true}
use Rattle.std.proofs.lemmas.Bool.{both_ways}
use Rattle.std.specs.Option.{option_map}
use Rattle.spade_dcel.specs.Handles.{number_of}
use Rattle.dcel_maps.specs.Shapes.{Mesh, end_of}
use Rattle.dcel_maps.proofs.walks.Searching.{IsSearching, none_leads, search_begins, search_continues, search_ends, search_from_back}
use Rattle.spade_dcel.proofs.dcel.Dcel.get_edge_from_neighbors.Goals as goal

-- what holds of an answer that was found, and what where none was
first_part : {X : Type 0} (P Q : X → Type 0) (o : Option X) → IfSome o (λ x. P x × Q x) → IfSome o P
first_part P Q None held = tt
first_part P Q (Some x) held = held.0

or_absent : {X : Type 0} (Absent : Type 0) (P Q : X → Type 0) (o : Option X) → (o ≡ None → Absent) → IfSome o (λ x. P x × Q x) → MatchOption o Absent Q
or_absent Absent P Q None absent held = absent refl
or_absent Absent P Q (Some x) absent held = held.1

module _ {V DE UE F : Type 0} (m : Mesh V DE UE F) (v w : ℕ) (items more : List (Mesh V DE UE F × ℕ)) (n : Mesh V DE UE F) (k end : ℕ) (is_it : Bool) (found : Option ℕ) where
  -- the half edge that came, from the front or from the back, isn't what is searched for
  past_first : IsSearching m v w items found → items ≡ (n, k) ∷ more → end ≡ end_of n.shape k → is_it ≡ (end == w) → is_it ≡ false
      → IsSearching m v w more found
  past_first s e at tests fails =
      let came = search_continues m v w items more n k found s e in
      came.1.goes_on (λ ends. both_ways is_it fails (tests ∙ eq-eqb end w (at ∙ ap (λ (x : Mesh V DE UE F). end_of x.shape k) came.0 ∙ ends)))

  past_last : IsSearching m v w items found → items ≡ more ++ (n, k) ∷ [] → end ≡ end_of n.shape k → is_it ≡ (end == w) → is_it ≡ false
      → IsSearching m v w more found
  past_last s e at tests fails =
      let came = search_from_back m v w items more n k found s e in
      came.1.goes_on (λ ends. both_ways is_it fails (tests ∙ eq-eqb end w (at ∙ ap (λ (x : Mesh V DE UE F). end_of x.shape k) came.0 ∙ ends)))

pub loop-edge-init : goal.loop-edge-init
loop-edge-init g c = (
  search_begins c.args.self.now c.args.from c.args.to c.out_edges-edges.result.items
      (rw (c.vertex.ensures.mesh, c.vertex.ensures.number) at c.out_edges-edges.ensures.items)
      (rw (c.vertex.ensures.mesh, c.vertex.ensures.number) at c.out_edges-edges.ensures.each),
  tt,
)

pub to-requires : goal.to-requires
to-requires g c =
    let came = search_continues c.args.self.now c.args.from c.args.to _ _ _ _ _ c.loop-edge.invariant.0 c.in-Some.ensures.steps.0 in
    rw came.0 came.1.starts.live

pub returns-then-eq : goal.returns-then-eq
returns-then-eq g c =
    let came = search_continues c.args.self.now c.args.from c.args.to _ _ _ _ _ c.loop-edge.invariant.0 c.in-Some.ensures.steps.0 in
    let end : c.fix.result ≡ end_of c.args.self.now.shape (number_of c.in-Some.edge) = c.fix.ensures.value ∙ rw came.0 at c.to.ensures.number in
    let ends = sym end ∙ eqb-true c.fix.result c.args.to (sym c.eq.ensures ∙ c.if-eq.true) in
    record {
      first = came.1.is_first ends;
      mesh = came.0;
      joined = record { live = came.1.starts.live; start = came.1.starts.start; end = ends };
    }

pub to-requires-in-Some-next_back : goal.to-requires-in-Some-next_back
to-requires-in-Some-next_back g c =
    let came = search_from_back c.args.self.now c.args.from c.args.to _ _ _ _ _ (past_first c.args.self.now c.args.from c.args.to _ _ _ _ _ _ _ c.loop-edge.invariant.0 c.in-Some.ensures.steps.0 (c.fix.ensures.value ∙ c.to.ensures.number) c.eq.ensures c.if-eq.false) c.in-Some-next_back.ensures.steps.0 in
    rw came.0 came.1.starts.live

pub loop-edge-preserved-then-eq-2 : goal.loop-edge-preserved-then-eq-2
loop-edge-preserved-then-eq-2 g c =
    let came = search_from_back c.args.self.now c.args.from c.args.to _ _ _ _ _ (past_first c.args.self.now c.args.from c.args.to _ _ _ _ _ _ _ c.loop-edge.invariant.0 c.in-Some.ensures.steps.0 (c.fix.ensures.value ∙ c.to.ensures.number) c.eq.ensures c.if-eq.false) c.in-Some-next_back.ensures.steps.0 in
    let end : c.fix-in-Some-next_back.result ≡ end_of c.args.self.now.shape (number_of c.in-Some-next_back.edge) =
    c.fix-in-Some-next_back.ensures.value ∙ rw came.0 at c.to-in-Some-next_back.ensures.number in
    let ends = sym end ∙ eqb-true c.fix-in-Some-next_back.result c.args.to (sym c.eq-in-Some-next_back.ensures ∙ c.if-eq-2.true) in
    (came.1.finds ends, (came.0, record { live = came.1.starts.live; start = came.1.starts.start; end = ends }))

pub loop-edge-preserved-else-eq-2 : goal.loop-edge-preserved-else-eq-2
loop-edge-preserved-else-eq-2 g c = (
  past_last c.args.self.now c.args.from c.args.to _ _ _ _ _ _ _ (past_first c.args.self.now c.args.from c.args.to _ _ _ _ _ _ _ c.loop-edge.invariant.0 c.in-Some.ensures.steps.0 (c.fix.ensures.value ∙ c.to.ensures.number) c.eq.ensures c.if-eq.false) c.in-Some-next_back.ensures.steps.0
      (c.fix-in-Some-next_back.ensures.value ∙ c.to-in-Some-next_back.ensures.number) c.eq-in-Some-next_back.ensures c.if-eq-2.false,
  c.loop-edge.invariant.1,
)

pub loop-edge-preserved : goal.loop-edge-preserved
loop-edge-preserved g c =
    let both_empty = c.in_default-next_back.ensures.steps.0 in (
      subst (λ items. IsSearching c.args.self.now c.args.from c.args.to items (option_map (λ edge. number_of edge) c.loop-edge.found))
          (both_empty.0 ∙ sym both_empty.1) (past_first c.args.self.now c.args.from c.args.to _ _ _ _ _ _ _ c.loop-edge.invariant.0 c.in-Some.ensures.steps.0 (c.fix.ensures.value ∙ c.to.ensures.number) c.eq.ensures c.if-eq.false),
      c.loop-edge.invariant.1,
    )

pub returns : goal.returns
returns g c =
    let first = search_ends c.args.self.now c.args.from c.args.to _ _ c.loop-edge.invariant.0 c.in_default.ensures.steps.0.0 in
    let lists = rw (c.vertex.ensures.mesh, c.vertex.ensures.number) at c.out_edges-edges.ensures.each in
    record {
      first = first;
      mesh = first_part _ _ c.loop-edge.found c.loop-edge.invariant.1;
      joined = or_absent _ _ _ c.loop-edge.found
          (λ none. none_leads c.args.self.now c.args.from c.args.to lists (sym (ap (option_map (λ edge. number_of edge)) none) ∙ first)) c.loop-edge.invariant.1;
    }
