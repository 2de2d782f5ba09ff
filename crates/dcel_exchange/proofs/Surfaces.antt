-- What the first fault of the links of faces says of their surface: that it is closed, or has several borders, or several parts.
use Rattle.std.proofs.Common.{◌≡◌, ◌≢◌, ◌⊎◌, ◌∙◌, inl, inr, ℕ, zero, suc, ◌+◌, ◌*◌, ◌/◌, ◌<◌, ◌≤◌, List, [], length, slice_index, refl, sym, ap, subst, arith}
use Rattle.dcel_fixed.specs.HalfEdges.{rev}
use Rattle.dcel_fixed.proofs.Halves.{rev-rev, rev_within}
use Rattle.dcel_links.specs.Claims.{Claim, claimed_map, halves}
use Rattle.dcel_links.specs.Faults.{InParts, IsCutOff, IsUnused}
use Rattle.dcel_links.specs.declared.fault.LinksFault.{LinksFault}
use Rattle.dcel_links.specs.declared.fault.LinksFault.TheVariants as links
use Rattle.dcel_maps.specs.Maps.{By, NextOrRev, Reaches, count}
use Rattle.dcel_maps.specs.Maps.Reaches.{go, here}
use Rattle.dcel_maps.proofs.maps.Reaching.{step, then}
use Rattle.dcel_exchange.specs.Closed.{IsInRange}
use Rattle.dcel_exchange.specs.Corners.{LeadsBack, afters, ends, is_first, owners, starts}
use Rattle.dcel_exchange.specs.Meshes.{AreLinks, IsNoSide, side_count}
use Rattle.dcel_exchange.specs.Reasons.{HasFault, Means, fault_reason, reason_for}
use Rattle.dcel_exchange.specs.Surfaces.{GoesOn, HasBorders, HasParts, IsAlone, IsBeside, IsClosed}
use Rattle.dcel_exchange.proofs.FaceCorners.{told_by_ends}
use Rattle.dcel_exchange.proofs.FirstSides.{count_few}
use Rattle.dcel_exchange.proofs.Placed.{find_below}
use Rattle.spade_dcel.specs.Linked.{Refuses}
use Rattle.spade_dcel.specs.declared.operations.given.LinksError.{LinksError}
use Rattle.spade_dcel.specs.declared.operations.given.LinksError.TheVariants as refused

module _ (vertices : ℕ) (faces : List (List ℕ)) (c : Claim) (l : AreLinks vertices faces c) where
  abbrev n : ℕ
  n = side_count faces

  -- the half edge of the outer face beyond a side that none leads back from
  pub turned_in : (p : ℕ) → p < n → rev (l.number p) < halves c
  turned_in p below = rev_within (l.number p) (halves c) l.lists.even (l.below p below)

  pub alone_bare : (p : ℕ) → IsAlone faces p → IsNoSide faces l.number (rev (l.number p))
  alone_bare p a q below is =
      a.alone q below (
        sym (l.start q below) ∙ ap (slice_index c.origin) is ∙ l.end p a.below,
        sym (l.end q below) ∙ ap (λ h. slice_index c.origin (rev h)) is ∙ ap (slice_index c.origin) (rev-rev (l.number p)) ∙ l.start p a.below,
      )

  pub alone_outer : (p : ℕ) → IsAlone faces p → slice_index c.face (rev (l.number p)) ≡ 0
  alone_outer p a = l.border (rev (l.number p)) (turned_in p a.below) (alone_bare p a)

  -- and what lies on the outer face is one
  pub outer_bare : (h : ℕ) → slice_index c.face h ≡ 0 → IsNoSide faces l.number h
  outer_bare h outer p below is =
      let on : slice_index c.face h ≡ slice_index (owners 0 faces) p + 1 = ap (slice_index c.face) (sym is) ∙ l.face p below in
      omega (arith, on, outer)

  pub beyond : (h : ℕ) → h < halves c → slice_index c.face h ≡ 0 → (p : ℕ) × IsAlone faces p × (rev (l.number p) ≡ h)
  beyond h below outer =
      let b = l.beyond h below (outer_bare h outer) in
      (b.side, record { below = b.within; alone = b.alone }, b.turn)

  -- a side that leads back is the other half
  back_number : (p q : ℕ) → p < n → q < n → LeadsBack (starts faces) (ends faces) p q → l.number q ≡ rev (l.number p)
  back_number p q p_in q_in back =
      told_by_ends vertices faces c l (l.number q) (rev (l.number p)) (l.below q q_in) (turned_in p p_in)
      (l.start q q_in ∙ back.0 ∙ sym (l.end p p_in))
      (l.end q q_in ∙ back.1 ∙ sym (l.start p p_in) ∙ ap (slice_index c.origin) (sym (rev-rev (l.number p))))

  -- no half edge is left: the surface is closed
  some_side : 0 < halves c → 0 < n
  some_side some =
      let e = l.half_edges in
      let few = count_few (starts faces) (ends faces) n in
      omega (arith, some, e, few)

  pub closed : IsUnused c 0 → IsClosed faces
  closed unused = record {
    some = elim unused.wanted [
      | inl inner ↦ absurd (omega (arith, inner))
      | inr some ↦ some_side some
    ];
    back = λ p below. elim (find_below l.number (rev (l.number p)) n) [
      | inl (q, q_in, is) ↦ (
        q,
        q_in,
        (
          sym (l.start q q_in) ∙ ap (slice_index c.origin) is ∙ l.end p below,
          sym (l.end q q_in) ∙ ap (λ h. slice_index c.origin (rev h)) is ∙ ap (slice_index c.origin) (rev-rev (l.number p)) ∙ l.start p below,
        ),
      )
      | inr none ↦ absurd (unused.empty (rev (l.number p)) (turned_in p below) (l.border (rev (l.number p)) (turned_in p below) none))
    ];
  }

  -- the border turned round
  pub goes_back : (p q : ℕ) → GoesOn faces p q → slice_index c.next (rev (l.number q)) ≡ rev (l.number p)
  goes_back p q g =
      l.around (rev (l.number q)) (rev (l.number p)) (turned_in q g.to.below) (turned_in p g.from.below) (alone_bare q g.to) (alone_bare p g.from)
      (l.end p g.from.below ∙ sym g.joined ∙ sym (l.start q g.to.below) ∙ ap (slice_index c.origin) (sym (rev-rev (l.number q))))

  border_back : {p q : ℕ} → Reaches (GoesOn faces) p q → Reaches (By (λ h. slice_index c.next h)) (rev (l.number q)) (rev (l.number p))
  border_back here = here
  border_back (go s way) = then (border_back way) (step (goes_back _ _ s))

  pub borders : InParts (halves c) (λ h. slice_index c.next h) (λ h. slice_index c.face h) 0 → HasBorders faces
  borders two =
      let one = beyond two.other two.other_in two.other_label in
      let other = beyond two.one two.one_in two.one_label in record {
        one = one.0;
        other = other.0;
        one_alone = one.1;
        other_alone = other.1;
        apart = λ way. two.apart (subst (λ h. Reaches (By (λ k. slice_index c.next k)) h two.other) other.2
            (subst (λ h. Reaches (By (λ k. slice_index c.next k)) (rev (l.number other.0)) h) one.2 (border_back way)));
      }

  -- the half edges of sides hang together where the sides do
  one_beside : (p q : ℕ) → IsBeside faces p q → NextOrRev (claimed_map c []) (l.number p) (l.number q)
  one_beside p q s = elim s.by [
    | inl after ↦ inl (l.next p s.from ∙ ap l.number after)
    | inr back ↦ inr (sym (back_number p q s.from s.to back))
  ]

  sides_hang : {p q : ℕ} → Reaches (IsBeside faces) p q → Reaches (NextOrRev (claimed_map c [])) (l.number p) (l.number q)
  sides_hang here = here
  sides_hang (go s way) = go (one_beside _ _ s) (sides_hang way)

  first_number : 0 < n → l.number 0 ≡ 0
  first_number some = l.numbered.first 0 some refl

  pub parts : (h : ℕ) → IsCutOff c h → HasParts faces
  parts h cut = elim (find_below l.number h n) [
    | inl (p, below, is) ↦ record {
      side = p;
      below = below;
      apart = λ way. cut.apart (subst (λ k. Reaches (NextOrRev (claimed_map c [])) k h) (first_number (omega (arith, below)))
          (subst (Reaches (NextOrRev (claimed_map c [])) (l.number 0)) is (sides_hang way)));
    }
    | inr none ↦
        let b = l.beyond h cut.below none in record {
          side = b.side;
          below = b.within;
          apart = λ way. cut.apart (subst (λ k. Reaches (NextOrRev (claimed_map c [])) k h) (let w = b.within in first_number (omega (arith, w)))
              (then (sides_hang way) (step (inr b.turn))));
        }
  ]

-- what the first fault says of the faces
pub fault_told : (vertices : ℕ) (faces : List (List ℕ)) (fault : LinksFault) → HasFault vertices faces fault → Means vertices faces (fault_reason fault)
fault_told vertices faces (links.UnusedFace zero) f = (closed vertices faces f.claim f.linked f.first.means, f)
fault_told vertices faces (links.UnusedFace (suc k)) f = (refl, f)
fault_told vertices faces (links.FaceInParts zero) f = (borders vertices faces f.claim f.linked f.first.means, f)
fault_told vertices faces (links.FaceInParts (suc k)) f = (refl, f)
fault_told vertices faces (links.NotConnected h) f = (parts vertices faces f.claim f.linked h f.first.means, f)
fault_told vertices faces links.Lengths f = (refl, f)
fault_told vertices faces links.TooMany f = (refl, f)
fault_told vertices faces links.NoFace f = (refl, f)
fault_told vertices faces links.MoreFaces f = (refl, f)
fault_told vertices faces (links.NextOutOfRange h) f = (refl, f)
fault_told vertices faces (links.OriginOutOfRange h) f = (refl, f)
fault_told vertices faces (links.FaceOutOfRange h) f = (refl, f)
fault_told vertices faces (links.TwoLeadTo h) f = (refl, f)
fault_told vertices faces (links.OneEnd h) f = (refl, f)
fault_told vertices faces (links.Apart h) f = (refl, f)
fault_told vertices faces (links.LeavesFace h) f = (refl, f)
fault_told vertices faces (links.VertexInParts v) f = (refl, f)
fault_told vertices faces (links.NotSphere g) f = (refl, f)

-- what a refusal of the links says of the faces
pub reason_told : (V DE UE F : Type 0) (c : Claim) (edges vertices : ℕ) (faces : List (List ℕ)) → AreLinks vertices faces c → (reason : LinksError)
    → Refuses V DE UE F c edges reason → Means vertices faces (reason_for reason)
reason_told V DE UE F c edges vertices faces l refused.Edges refuses = tt
reason_told V DE UE F c edges vertices faces l refused.Anchors refuses = tt
reason_told V DE UE F c edges vertices faces l (refused.Links fault) refuses =
    fault_told vertices faces fault (record { claim = c; linked = l; first = refuses.0 })
reason_told V DE UE F c edges vertices faces l (refused.VertexAnchor v) refuses = tt
reason_told V DE UE F c edges vertices faces l (refused.FaceAnchor f) refuses = tt
reason_told V DE UE F c edges vertices faces l refused.OutOfMemory refuses = tt

-- and such a reason speaks of no face by its place
fault_in_range : (fault : LinksFault) → IsInRange (fault_reason fault)
fault_in_range (links.UnusedFace zero) = tt
fault_in_range (links.UnusedFace (suc k)) = tt
fault_in_range (links.FaceInParts zero) = tt
fault_in_range (links.FaceInParts (suc k)) = tt
fault_in_range other = tt

pub named_in_range : (reason : LinksError) → IsInRange (reason_for reason)
named_in_range (refused.Links fault) = fault_in_range fault
named_in_range other = tt
