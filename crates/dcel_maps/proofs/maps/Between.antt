-- A subdivision of an edge that leads on: where the two halves don't follow each other at its end, each link that changes is one link.
use Rattle.std.proofs.Common.{◌≡◌, ◌≢◌, inl, inr, ℕ, sym, ap, ◌∙◌}
use Rattle.std.proofs.lemmas.Bool.{cases_eq}
use Rattle.dcel_fixed.specs.HalfEdges.{rev}
use Rattle.dcel_maps.specs.Maps.{Live, Map}
use Rattle.dcel_maps.specs.theory.Sound.{Sound}
use Rattle.dcel_maps.proofs.maps.Edits.{MiddlePut, Subdivide, first_part, last_part}
use Rattle.dcel_maps.proofs.maps.Soundness.{rev_live}
use Rattle.dcel_maps.proofs.maps.Subdivides.{first-other, first-rev, last-h, last-other}

-- where k and the other half of k and of h start, where h becomes (h, k) around the vertex v
pub record StartsBetween (S : Map) (origin : ℕ → ℕ) (h k v : ℕ) : Type 0 where
  pub origin_k : origin k ≡ v
  pub origin_l : origin (rev k) ≡ S.origin (rev h)
  pub origin_rev : origin (rev h) ≡ v
  pub origin_other : (x : ℕ) → Live S x → x ≢ rev h → origin x ≡ S.origin x

-- h becomes (h, k), where its other half does not follow it, and rev h becomes (rev k, rev h); the vertex in the middle is v
pub record Between (S T : Map) (h k v : ℕ) : Type 0 where
  pub middle : MiddlePut S T h k v
  pub open middle use *
  pub leads_on : S.next h ≢ rev h
  pub next_k : T.next k ≡ S.next h
  pub next_before : T.next (S.prev (rev h)) ≡ rev k
  pub next_other : (x : ℕ) → Live S x → x ≢ h → x ≢ S.prev (rev h) → T.next x ≡ S.next x
  pub prev_after : T.prev (S.next h) ≡ k
  pub prev_l : T.prev (rev k) ≡ S.prev (rev h)
  pub prev_other : (x : ℕ) → Live S x → x ≢ rev h → x ≢ S.next h → T.prev x ≡ S.prev x
  pub starts : StartsBetween S T.origin h k v
  pub open starts use *
  pub face_k : T.face k ≡ S.face h
  pub face_l : T.face (rev k) ≡ S.face (rev h)
  pub face_other : (x : ℕ) → Live S x → T.face x ≡ S.face x

module _ (S T : Map) (h k v : ℕ) (s : Sound S) (b : Between S T h k v) where
  abbrev first : ℕ → ℕ
  first = first_part h k

  abbrev last : ℕ → ℕ
  last = last_part h k

  before≢h : S.prev (rev h) ≢ h
  before≢h is = b.leads_on (ap S.next (sym is) ∙ s.next-prev (rev h) (rev_live S h b.lives))

  next_last : (x : ℕ) → Live S x → T.next (last x) ≡ first (S.next x)
  next_last x live = elim (cases_eq x h) [
    | inl is ↦
        ap (λ z. T.next (last z)) is ∙ ap T.next (last-h h k) ∙ b.next_k ∙ sym (first-other h k (S.next h) b.leads_on)
        ∙ ap (λ z. first (S.next z)) (sym is)
    | inr not_h ↦ ap T.next (last-other h k x not_h) ∙ elim (cases_eq x (S.prev (rev h))) [
      | inl is ↦
          ap T.next is ∙ b.next_before ∙ sym (first-rev h k) ∙ ap first (sym (s.next-prev (rev h) (rev_live S h b.lives)))
          ∙ ap (λ z. first (S.next z)) (sym is)
      | inr not_before ↦
          b.next_other x live not_h not_before
          ∙ sym (first-other h k (S.next x) (λ is. not_before (sym (s.prev-next x live) ∙ ap S.prev is)))
    ]
  ]

  prev_first : (x : ℕ) → Live S x → T.prev (first x) ≡ last (S.prev x)
  prev_first x live = elim (cases_eq x (rev h)) [
    | inl is ↦
        ap (λ z. T.prev (first z)) is ∙ ap T.prev (first-rev h k) ∙ b.prev_l ∙ sym (last-other h k (S.prev (rev h)) before≢h)
        ∙ ap (λ z. last (S.prev z)) (sym is)
    | inr not_rev ↦ ap T.prev (first-other h k x not_rev) ∙ elim (cases_eq x (S.next h)) [
      | inl is ↦
          ap T.prev is ∙ b.prev_after ∙ sym (last-h h k) ∙ ap last (sym (s.prev-next h b.lives))
          ∙ ap (λ z. last (S.prev z)) (sym is)
      | inr not_after ↦
          b.prev_other x live not_rev not_after
          ∙ sym (last-other h k (S.prev x) (λ is. not_after (sym (s.next-prev x live) ∙ ap S.next is)))
    ]
  ]

  origin_first : (x : ℕ) → Live S x → T.origin (first x) ≡ S.origin x
  origin_first x live = elim (cases_eq x (rev h)) [
    | inl is ↦ ap (λ z. T.origin (first z)) is ∙ ap T.origin (first-rev h k) ∙ b.origin_l ∙ ap S.origin (sym is)
    | inr not_rev ↦ ap T.origin (first-other h k x not_rev) ∙ b.origin_other x live not_rev
  ]

  face_first : (x : ℕ) → Live S x → T.face (first x) ≡ S.face x
  face_first x live = elim (cases_eq x (rev h)) [
    | inl is ↦ ap (λ z. T.face (first z)) is ∙ ap T.face (first-rev h k) ∙ b.face_l ∙ ap S.face (sym is)
    | inr not_rev ↦ ap T.face (first-other h k x not_rev) ∙ b.face_other x live
  ]

  face_last : (x : ℕ) → Live S x → T.face (last x) ≡ S.face x
  face_last x live = elim (cases_eq x h) [
    | inl is ↦ ap (λ z. T.face (last z)) is ∙ ap T.face (last-h h k) ∙ b.face_k ∙ ap S.face (sym is)
    | inr not_h ↦ ap T.face (last-other h k x not_h) ∙ b.face_other x live
  ]

  pub between_subdivides : Subdivide S T h k v
  between_subdivides = record {
    middle = b.middle;
    parts = record { next_last = next_last; prev_first = prev_first; origin_first = origin_first; face_first = face_first; face_last = face_last };
    origin_k = b.origin_k;
    origin_rev = b.origin_rev;
  }
