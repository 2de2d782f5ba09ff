-- Each fault is one: where it is true of a claim, the claim is that of no mesh.
use Rattle.std.proofs.Common.{◌≡◌, ◌⊎◌, inl, inr, ℕ, ◌/◌, ◌<◌, true, List, slice_index, sym, refl, ap, ◌∙◌, arith}
use Rattle.std.proofs.lemmas.Bool.{cases_eq, cases_lt}
use Rattle.std.proofs.lemmas.List.{ext_get_or}
use Rattle.dcel_maps.specs.Maps.{Live, ccw, count}
use Rattle.dcel_maps.specs.theory.Sound.{has_word}
use Rattle.dcel_maps.specs.Removals.{Closed, gives_up_edge}
use Rattle.dcel_maps.proofs.Liveness.{gives_up_edge-closed, is_live-from}
use Rattle.dcel_maps.proofs.maps.Counts.{used_gives}
use Rattle.dcel_maps.proofs.maps.Halves.{rev-rev}
use Rattle.dcel_maps.proofs.maps.Reaching.{step}
use Rattle.dcel_maps.proofs.maps.Soundness.{ccw_live}
use Rattle.dcel_links.specs.Claims.{Claim, HasFewFaces, IsMeshOf, claimed_map, halves}
use Rattle.dcel_links.specs.Faults.{InParts, IsCutOff, IsNoSphere, IsUnused, Means, TwoLead, turned}
use Rattle.dcel_links.specs.declared.fault.LinksFault.{LinksFault}
use Rattle.dcel_links.specs.declared.fault.LinksFault.TheVariants.{Lengths, TooMany, NoFace, MoreFaces, NextOutOfRange, OriginOutOfRange, FaceOutOfRange, TwoLeadTo, OneEnd, Apart, LeavesFace, FaceInParts, VertexInParts, UnusedFace, NotConnected, NotSphere}
use Rattle.dcel_links.proofs.Claiming.{count_all, count_edges, is_below, is_half, same_starts, same_words}
use Rattle.dcel_links.proofs.Paths.{backwards}

module _ (c : Claim) (prev : List ℕ) (mesh : IsMeshOf c prev) where
  live : (h : ℕ) → h < halves c → Live (claimed_map c prev) h
  live h = is_half c prev h mesh.lists.even

  turn_back : (h : ℕ) → Live (claimed_map c prev) h → turned c.next (ccw (claimed_map c prev) h) ≡ h
  unfolding ccw
  turn_back h l = ap (λ k. slice_index c.next k) (rev-rev (slice_index prev h)) ∙ mesh.sound.next-prev h l

  no_two : (k : ℕ) → ¬ TwoLead c.next k
  no_two k two = two.apart (
      sym (mesh.sound.prev-next two.one (live two.one two.one_in)) ∙ ap (λ h. slice_index prev h) (two.one_leads ∙ sym two.other_leads)
      ∙ mesh.sound.prev-next two.other (live two.other two.other_in))

  no_face_in_parts : (f : ℕ) → ¬ InParts (halves c) (λ h. slice_index c.next h) (λ h. slice_index c.face h) f
  no_face_in_parts f parts = parts.apart
      ((mesh.sound.one_face parts.one parts.other (live parts.one parts.one_in) (live parts.other parts.other_in)).0 (parts.one_label ∙ sym parts.other_label))

  no_vertex_in_parts : (v : ℕ) → ¬ InParts (halves c) (turned c.next) (λ h. slice_index c.origin h) v
  no_vertex_in_parts v parts =
      let l = live parts.one parts.one_in in
      let m = live parts.other parts.other_in in
      parts.apart (backwards (Live (claimed_map c prev)) (turned c.next) (ccw (claimed_map c prev)) (ccw_live (claimed_map c prev) mesh.sound) turn_back m
      ((mesh.sound.one_origin parts.other parts.one m l).0 (parts.other_label ∙ sym parts.one_label)))

  word : (f : ℕ) → f < c.faces → (0 < f) ⊎ (0 < halves c) → has_word (claimed_map c prev) f ≡ true
  word f below wanted = elim (cases_eq f 0) [
    | inl outer ↦ let some : 0 < halves c = elim wanted [ inl inner ↦ absurd (omega arith) | inr some ↦ some ] in
        ap (has_word (claimed_map c prev)) outer ∙ mesh.outer some
    | inr inner ↦ mesh.inner f (omega arith) below
  ]

  no_unused : (f : ℕ) → ¬ IsUnused c f
  unfolding has_word
  no_unused f unused =
      let u = used_gives (claimed_map c prev) (claimed_map c prev).face f (word f unused.below unused.wanted) in
      unused.empty u.half (is_below c prev u.half u.live) u.is

  no_cut_off : (h : ℕ) → ¬ IsCutOff c h
  no_cut_off h cut =
      let b = cut.below in
      cut.apart (mesh.sphere.connected 0 h (live 0 (omega arith)) (live h b))

  no_sphere : ¬ IsNoSphere c
  no_sphere none =
      let some = none.some_edge in
      let e = mesh.lists.even in
      let edge = is_live-from (gives_up_edge Closed) (halves c / 2) 0 (omega arith) (gives_up_edge-closed 0) in
      none.euler (rw (same_starts c prev, same_words c prev, count_edges c prev) at (mesh.sphere.euler 0 edge))

  few_faces : HasFewFaces c
  unfolding has_word
  few_faces = elim (cases_lt 0 (halves c)) [
    | inl some ↦
        let e = mesh.lists.even in
        let edge = is_live-from (gives_up_edge Closed) (halves c / 2) 0 (omega arith) (gives_up_edge-closed 0) in
        let all : count (has_word (claimed_map c prev)) c.faces ≡ c.faces =
        count_all (has_word (claimed_map c prev)) c.faces (λ f below. word f below (inr some)) in
        omega (arith, mesh.sphere.euler 0 edge, count_edges c prev, all)
    | inr none ↦ elim (cases_lt 1 c.faces) [
      | inl more ↦
          let u = used_gives (claimed_map c prev) (claimed_map c prev).face 1 (mesh.inner 1 (omega arith) more) in
          let below = is_below c prev u.half u.live in absurd (omega arith)
      | inr one ↦ omega arith
    ]
  ]

  -- no fault is true of a mesh
  pub refutes : (fault : LinksFault) → ¬ Means c fault
  refutes Lengths m = m mesh.lists
  refutes TooMany m = m mesh.few
  refutes NoFace m = let s = mesh.some_face in omega arith
  refutes MoreFaces m = m few_faces
  refutes (NextOutOfRange h) m =
      let b = is_below c prev _ (mesh.sound.live_next h (live h m.0)) in let p = m.1 in omega arith
  refutes (OriginOutOfRange h) m = let b = mesh.sound.below_vertices h (live h m.0) in let p = m.1 in omega arith
  refutes (FaceOutOfRange h) m = let b = mesh.sound.below_faces h (live h m.0) in let p = m.1 in omega arith
  refutes (TwoLeadTo k) m = no_two k m
  refutes (OneEnd h) m = mesh.sound.two_ends h (live h m.0) m.1
  refutes (Apart h) m = m.1 (mesh.sound.origin-next h (live h m.0))
  refutes (LeavesFace h) m =
      let l = live h m.0 in
      m.1 (sym ((mesh.sound.one_face h (slice_index c.next h) l (mesh.sound.live_next h l)).1 (step refl)))
  refutes (FaceInParts f) m = no_face_in_parts f m
  refutes (VertexInParts v) m = no_vertex_in_parts v m
  refutes (UnusedFace f) m = no_unused f m
  refutes (NotConnected h) m = no_cut_off h m
  refutes (NotSphere genus) m = no_sphere m.0

pub no_mesh : (c : Claim) (fault : LinksFault) → Means c fault → (prev : List ℕ) → ¬ IsMeshOf c prev
no_mesh c fault means prev mesh = refutes c prev mesh fault means

-- and there is one list backwards at most
pub only_prev : (c : Claim) (prev other : List ℕ) → IsMeshOf c prev → IsMeshOf c other → other ≡ prev
only_prev c prev other mesh same =
    ext_get_or 0 other prev (same.backwards ∙ sym mesh.backwards) (λ h within.
    let below : h < halves c = omega (arith, same.backwards) in
    let live : Live (claimed_map c other) h = is_half c other h same.lists.even below in
    let before : ℕ = slice_index other h in
    let before_in : before < halves c = is_below c other before (same.sound.live_prev h live) in
    sym (mesh.sound.prev-next before (is_half c prev before mesh.lists.even before_in)) ∙ ap (λ k. slice_index prev k) (same.sound.next-prev h live))
