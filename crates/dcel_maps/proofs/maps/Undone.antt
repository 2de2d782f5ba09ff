-- What the edits taken back share: S is before the edit, T after it, and T is known.
use Rattle.std.proofs.Common.{◌≡◌, ◌≢◌, inl, inr, ◌/◌, ◌<◌, ℕ, false, sym, ap, ◌∙◌, subst, subst₂, arith}
use Rattle.dcel_maps.specs.Maps.{By, Connected, Live, Map, NextOrRev, Reaches, ccw}
use Rattle.dcel_maps.specs.Maps.Reaches.{go, here}
use Rattle.dcel_maps.specs.theory.Sound.{Sound}
use Rattle.dcel_fixed.specs.HalfEdges.{rev}
use Rattle.dcel_maps.proofs.maps.Cycles.{Cycles, same_label_iff}
use Rattle.dcel_maps.proofs.maps.Edits.{Drawn}
use Rattle.dcel_maps.proofs.maps.Growth.{Grown, drawn_grown, each_live, live_cases, not_h, not_rev, still_live}
use Rattle.dcel_maps.proofs.maps.Halves.{rev-rev, rev_differs}
use Rattle.dcel_maps.proofs.maps.Reaching.{reroutes, step}
use Rattle.dcel_maps.proofs.maps.Soundness.{live_step, rev_live, sound_from}
use Rattle.dcel_maps.proofs.maps.Updates.{put, put_other, put_same}

-- p stands for h and q for its other half, and every other number for itself
abbrev pub stand_in : ℕ → ℕ → ℕ → ℕ → ℕ
stand_in h p q = put (put (λ x. x) h p) (rev h) q

pub stand_in-h : (h p q : ℕ) → stand_in h p q h ≡ p
stand_in-h h p q = put_other (put (λ x. x) h p) (rev h) q h (λ i. rev_differs h (sym i)) ∙ put_same (λ x. x) h p

pub stand_in-rev : (h p q : ℕ) → stand_in h p q (rev h) ≡ q
stand_in-rev h p q = put_same (put (λ x. x) h p) (rev h) q

-- where each item x of P has a place `first x` in P', for which x stands, ways between places are ways between items
pub retraced : (P P' : ℕ → Type 0) (R Q : ℕ → ℕ → Type 0) (first back : ℕ → ℕ) → ((x : ℕ) → P x → P' (first x)) → ((x : ℕ) → P x → back (first x) ≡ x)
    → ((x y : ℕ) → P' x → R x y → P' y) → ((x y : ℕ) → P' x → R x y → Reaches Q (back x) (back y))
    → (x y : ℕ) → P x → P y → Reaches R (first x) (first y) → Reaches Q x y
retraced P P' R Q first back firsts returns stays by x y p q way =
    subst₂ (Reaches Q) (returns x p) (returns y q) (reroutes R Q P' back stays by (firsts x p) way)

-- so the cycles of the places are those of the items, where steps on either side are ways on the other
pub shrunk : (P P' : ℕ → Type 0) (f f' label label' first back : ℕ → ℕ) → Cycles P' f' label'
    → ((x : ℕ) → P x → P' (first x)) → ((x : ℕ) → P x → back (first x) ≡ x) → ((x : ℕ) → P x → P (f x))
    → ((x : ℕ) → P x → Reaches (By f') (first x) (first (f x)))
    → ((y : ℕ) → P' y → Reaches (By f) (back y) (back (f' y)))
    → ((x : ℕ) → P x → label' (first x) ≡ label x) → Cycles P f label
shrunk P P' f f' label label' first back c firsts returns stays forth backs labels = record {
  stays = stays;
  along = λ x p.
      let onto = stays x p in
      let same = (same_label_iff P' f' label' c (first x) (first (f x)) (firsts x p) (firsts (f x) onto)).1 (forth x p) in
      sym (labels (f x) onto) ∙ sym same ∙ labels x p;
  joined = λ x y p q same.
      retraced P P' (By f') (By f) first back firsts returns (λ u w l s. subst P' s (c.stays u l))
      (λ u w l s. subst (λ z. Reaches (By f) (back u) (back z)) s (backs u l)) x y p q
      (c.joined (first x) (first y) (firsts x p) (firsts y q) (labels x p ∙ same ∙ sym (labels y q)));
}

-- a way by `next` is one by `next` and `rev`
pub next_reaches : (M : Map) → {x y : ℕ} → Reaches (By M.next) x y → Reaches (NextOrRev M) x y
next_reaches M here = here
next_reaches M (go one rest) = go (inl one) (next_reaches M rest)

-- and a map is connected where the places are
pub connected_less : (S T : Map) (first back : ℕ → ℕ) → Sound T → ((x : ℕ) → Live S x → Live T (first x)) → ((x : ℕ) → Live S x → back (first x) ≡ x)
    → ((y : ℕ) → Live T y → Reaches (NextOrRev S) (back y) (back (T.next y)))
    → ((y : ℕ) → Live T y → Reaches (NextOrRev S) (back y) (back (rev y))) → Connected T → Connected S
connected_less S T first back t firsts returns nexts turns c x y l m =
    retraced (Live S) (Live T) (NextOrRev T) (NextOrRev S) first back firsts returns (live_step T t)
    (λ u w k s. elim s [
      | inl i ↦ subst (λ z. Reaches (NextOrRev S) (back u) (back z)) i (nexts u k)
      | inr i ↦ subst (λ z. Reaches (NextOrRev S) (back u) (back z)) i (turns u k)
    ]) x y l m (c (first x) (first y) (firsts x l) (firsts y m))

module _ (S T : Map) (h : ℕ) (g : Grown S T h) where
  -- a live half edge that is not of the new edge is an old one
  pub old_live : (x : ℕ) → Live T x → x ≢ h → x ≢ rev h → Live S x
  old_live x l not_h not_rev = elim (live_cases S T h g x l) [
    | inl old ↦ old
    | inr (inl i) ↦ absurd (not_h i)
    | inr (inr i) ↦ absurd (not_rev i)
  ]

  -- an old half edge stands for itself
  pub stand_in-old : (p q x : ℕ) → Live S x → stand_in h p q x ≡ x
  stand_in-old p q x l =
      put_other (put (λ x. x) h p) (rev h) q x (not_rev S T h g x l) ∙ put_other (λ x. x) h p x (not_h S T h g x l)

  -- p and q stand for the halves of the new edge, and each other half edge for itself
  pub record StandIn (p q : ℕ) : Type 0 where
    pub for_h : stand_in h p q h ≡ p
    pub for_rev : stand_in h p q (rev h) ≡ q
    pub for_old : (x : ℕ) → Live S x → stand_in h p q x ≡ x

  pub standing_in : (p q : ℕ) → StandIn p q
  standing_in p q = record { for_h = stand_in-h h p q; for_rev = stand_in-rev h p q; for_old = stand_in-old p q }

  -- where there are ways between p and q, turning round is a way in the smaller map too
  pub stand_in-turns : (p q : ℕ) → Reaches (NextOrRev S) p q → Reaches (NextOrRev S) q p
      → (y : ℕ) → Live T y → Reaches (NextOrRev S) (stand_in h p q y) (stand_in h p q (rev y))
  stand_in-turns p q there again = each_live S T h g (λ y. Reaches (NextOrRev S) (stand_in h p q y) (stand_in h p q (rev y)))
      (λ x l. step (inr (ap rev (stand_in-old p q x l) ∙ sym (stand_in-old p q (rev x) (rev_live S x l)))))
      (subst₂ (Reaches (NextOrRev S)) (sym (stand_in-h h p q)) (sym (stand_in-rev h p q)) there)
      (subst₂ (Reaches (NextOrRev S)) (sym (stand_in-rev h p q)) (sym (ap (stand_in h p q) (rev-rev h) ∙ stand_in-h h p q)) again)

-- without an edge between two vertices, a map is sound by its numbers of edges and faces, its links and its cycles
pub undrawn_sound : (S T : Map) (h from to : ℕ) → S.edge (h / 2) ≡ false → Drawn S T h from to → Sound T
    → ((x : ℕ) → Live S x → x / 2 < S.edges) → ((x : ℕ) → Live S x → S.face x < S.faces)
    → ((x : ℕ) → Live S x → S.prev (S.next x) ≡ x) → ((x : ℕ) → Live S x → S.next (S.prev x) ≡ x)
    → Cycles (Live S) S.next S.face → Cycles (Live S) (ccw S) S.origin → Sound S
undrawn_sound S T h from to fresh e t below_edges below_faces prev-next next-prev faces vertices =
    let still = still_live S T h (drawn_grown S T h from to fresh e) in
    sound_from S below_edges
    (λ x l. omega (arith, t.below_vertices x (still x l), e.vertices, e.origin_other x l)) below_faces prev-next next-prev
    (λ x l same. t.two_ends x (still x l) (e.origin_other x l ∙ same ∙ sym (e.origin_other (rev x) (rev_live S x l))))
    faces vertices
