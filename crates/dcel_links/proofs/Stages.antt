-- The stages of the checks: what the earlier ones have ruled out.
use Rattle.std.proofs.Common.{◌≡◌, inl, inr, ℕ, zero, suc, ◌+◌, ◌<◌, List, slice_index, refl, sym, ap, ◌∙◌, subst, arith}
use Rattle.std.proofs.lemmas.Bool.{cases_eq}
use Rattle.dcel_links.specs.Checks.{ComesTo, Finds, Fit, InRange, Undoes}
use Rattle.dcel_links.specs.Claims.{Claim, HasFewFaces, HasLists, IsFew}
use Rattle.dcel_links.specs.Faults.{IsFirst, Means, TwoLead, stage}
use Rattle.dcel_links.specs.Stages.{Stage, place}
use Rattle.dcel_links.specs.Stages as stages
use Rattle.dcel_links.specs.declared.fault.LinksFault.{LinksFault}
use Rattle.dcel_links.specs.declared.fault.LinksFault.TheVariants.{Lengths, TooMany, NoFace, MoreFaces, NextOutOfRange, OriginOutOfRange, FaceOutOfRange, TwoLeadTo, OneEnd, Apart, LeavesFace, FaceInParts, VertexInParts, UnusedFace, NotConnected, NotSphere}

-- no fault of a stage that found none is true
pub rules_out : (c : Claim) (s : Stage) → ComesTo c s → (other : LinksFault) → place (stage other) < place s → ¬ Means c other
rules_out c s passes Lengths less m = m (passes.found stages.Lengths less)
rules_out c s passes TooMany less m = m (passes.found stages.Sizes less)
rules_out c s passes NoFace less m = let some : 0 < c.faces = passes.found stages.OuterFace less in omega arith
rules_out c s passes MoreFaces less m = m (passes.found stages.FaceCount less)
rules_out c s passes (NextOutOfRange h) less m = let below = (passes.found stages.Ranges less).next h m.0 in let past = m.1 in omega arith
rules_out c s passes (OriginOutOfRange h) less m =
    let same = (passes.found stages.Lengths (omega arith)).origins in
    let (h_in, past) = m in
    let below = (passes.found stages.Ranges less).origin h (omega arith) in omega arith
rules_out c s passes (FaceOutOfRange h) less m =
    let same = (passes.found stages.Lengths (omega arith)).sides in
    let (h_in, past) = m in
    let below = (passes.found stages.Ranges less).face h (omega arith) in omega arith
rules_out c s passes (TwoLeadTo h) less m = passes.found stages.Leading less h m
rules_out c s passes (OneEnd h) less m = (passes.found stages.Fitting less).two_ends h m.0 m.1
rules_out c s passes (Apart h) less m = m.1 ((passes.found stages.Fitting less).joined h m.0)
rules_out c s passes (LeavesFace h) less m = m.1 ((passes.found stages.Fitting less).same_face h m.0)
rules_out c s passes (FaceInParts f) less m =
    m.apart (passes.found stages.FaceRounds less m.one m.other m.one_in m.other_in (m.one_label ∙ sym m.other_label))
rules_out c s passes (VertexInParts v) less m =
    m.apart (passes.found stages.VertexRounds less m.one m.other m.one_in m.other_in (m.one_label ∙ sym m.other_label))
rules_out c s passes (UnusedFace f) less m =
    let (h, below, at) = passes.found stages.UsedFaces less f m.below m.wanted in m.empty h below at
rules_out c s passes (NotConnected h) less m = m.apart (passes.found stages.Connection less h m.below)
rules_out c s passes (NotSphere genus) less m = m.0.euler (passes.found stages.Euler less m.0.some_edge)

-- a stage is told by its place
abbrev at : ℕ → Stage
at zero = stages.Lengths
at (suc zero) = stages.Sizes
at (suc (suc zero)) = stages.OuterFace
at (suc (suc (suc zero))) = stages.FaceCount
at (suc (suc (suc (suc zero)))) = stages.Ranges
at (suc (suc (suc (suc (suc zero))))) = stages.Leading
at (suc (suc (suc (suc (suc (suc zero)))))) = stages.Fitting
at (suc (suc (suc (suc (suc (suc (suc zero))))))) = stages.FaceRounds
at (suc (suc (suc (suc (suc (suc (suc (suc zero)))))))) = stages.VertexRounds
at (suc (suc (suc (suc (suc (suc (suc (suc (suc zero))))))))) = stages.UsedFaces
at (suc (suc (suc (suc (suc (suc (suc (suc (suc (suc zero)))))))))) = stages.Connection
at (suc (suc (suc (suc (suc (suc (suc (suc (suc (suc (suc n))))))))))) = stages.Euler

at-place : (s : Stage) → at (place s) ≡ s
at-place stages.Lengths = refl
at-place stages.Sizes = refl
at-place stages.OuterFace = refl
at-place stages.FaceCount = refl
at-place stages.Ranges = refl
at-place stages.Leading = refl
at-place stages.Fitting = refl
at-place stages.FaceRounds = refl
at-place stages.VertexRounds = refl
at-place stages.UsedFaces = refl
at-place stages.Connection = refl
at-place stages.Euler = refl

same_stage : (s t : Stage) → place s ≡ place t → s ≡ t
same_stage s t e = sym (at-place s) ∙ ap at e ∙ at-place t

-- one stage more
pub comes_on : (c : Claim) (s t : Stage) → place t ≡ place s + 1 → ComesTo c s → Finds c s → ComesTo c t
comes_on c s t next passes finds = record {
  found = λ before less. elim (cases_eq (place before) (place s)) [
    | inl same ↦ subst (Finds c) (sym (same_stage before s same)) finds
    | inr other ↦ passes.found before (omega arith)
  ];
}

-- a fault is the first where the claim comes to its stage
pub first_fault : (c : Claim) (fault : LinksFault) → Means c fault → ComesTo c (stage fault) → IsFirst c fault
first_fault c fault means before = record { means = means; first = rules_out c (stage fault) before }

-- where a list of links backwards undoes the links, no two lead to one
pub one_leads : (next prev : List ℕ) → Undoes next prev → (h : ℕ) → ¬ TwoLead next h
one_leads next prev undone h two =
    two.apart (sym (undone two.one two.one_in) ∙ ap (λ k. slice_index prev k) (two.one_leads ∙ sym two.other_leads) ∙ undone two.other two.other_in)

module _ (c : Claim) (lists : HasLists c) where
  pub comes_to_sizes : ComesTo c stages.Sizes
  comes_to_sizes = comes_on c stages.Lengths stages.Sizes refl (record { found = λ before less. absurd (omega arith) }) lists

  pub comes_to_outer_face : IsFew c → ComesTo c stages.OuterFace
  comes_to_outer_face few = comes_on c stages.Sizes stages.OuterFace refl comes_to_sizes few

  pub comes_to_face_count : IsFew c → 0 < c.faces → ComesTo c stages.FaceCount
  comes_to_face_count few some = comes_on c stages.OuterFace stages.FaceCount refl (comes_to_outer_face few) some

  pub comes_to_ranges : IsFew c → 0 < c.faces → HasFewFaces c → ComesTo c stages.Ranges
  comes_to_ranges few some few_faces = comes_on c stages.FaceCount stages.Ranges refl (comes_to_face_count few some) few_faces

module _ (c : Claim) where
  pub comes_to_leading : ComesTo c stages.Ranges → InRange c → ComesTo c stages.Leading
  comes_to_leading = comes_on c stages.Ranges stages.Leading refl

  pub comes_to_fitting : ComesTo c stages.Leading → (prev : List ℕ) → Undoes c.next prev → ComesTo c stages.Fitting
  comes_to_fitting passed prev undone = comes_on c stages.Leading stages.Fitting refl passed (one_leads c.next prev undone)

  pub comes_to_face_rounds : ComesTo c stages.Fitting → Fit c → ComesTo c stages.FaceRounds
  comes_to_face_rounds = comes_on c stages.Fitting stages.FaceRounds refl
