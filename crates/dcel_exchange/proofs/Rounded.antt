-- Walks round the border: the outer face of the mesh, and the face that lies beyond the border.
use Rattle.std.proofs.Common.{◌≡◌, ◌≢◌, ◌∙◌, inl, inr, ℕ, zero, suc, ◌+◌, ◌-◌, ◌/◌, ◌<◌, ◌≤◌, List, [], ◌∷◌, ◌++◌, length, map, slice_index, refl, sym, ap, subst, arith}
use Rattle.std.proofs.lemmas.Bool.{cases_lt}
use Rattle.std.proofs.lemmas.List.{get_or_append_left, get_or_at}
use Rattle.dcel_fixed.specs.HalfEdges.{rev}
use Rattle.dcel_fixed.proofs.Halves.{rev-rev}
use Rattle.dcel_links.specs.Meshes.{IsLinked}
use Rattle.dcel_maps.specs.Headline.{FacesAreCycles}
use Rattle.dcel_maps.specs.Maps.{By}
use Rattle.dcel_maps.specs.Shapes.{IsLive, Shape, face_of, next_of, origin_of}
use Rattle.dcel_maps.specs.Words.{TurnsTo, count_of, word_of}
use Rattle.dcel_maps.specs.theory.Cycles.{Path}
use Rattle.dcel_maps.proofs.Liveness.{closed-live}
use Rattle.dcel_maps.proofs.words.Counts.{count-none, first_or_later}
use Rattle.dcel_exchange.specs.Closed.{HasOutside}
use Rattle.dcel_exchange.specs.Corners.{ends, starts, turned}
use Rattle.dcel_exchange.specs.Links.{lists_claim}
use Rattle.dcel_exchange.specs.Meshes.{AreLinks}
use Rattle.dcel_exchange.specs.Rounds.{GoesBy, GoesRound, HasOtherStart, StartsOutside}
use Rattle.dcel_exchange.specs.Surfaces.{IsAlone, LiesBeyond}
use Rattle.dcel_exchange.specs.declared.lists.LinkLists.{LinkLists}
use Rattle.dcel_exchange.proofs.FaceWords.{round_word}
use Rattle.dcel_exchange.proofs.Surfaces.{alone_bare, alone_outer, outer_bare, turned_in}

-- the half edges by which it goes, one for each corner
abbrev along : {A : Type 0} → LinkLists A → ℕ → List ℕ → List ℕ
along links h [] = []
along links h (b ∷ w) = h ∷ along links (slice_index links.next.items h) w

module _ {A : Type 0} (links : LinkLists A) (vertices faces : ℕ) (s : Shape) (linked : IsLinked s (lists_claim links vertices faces)) where
  step : (h : ℕ) → h < length links.next.items → next_of s h ≡ slice_index links.next.items h
  step h below = linked.next h below

  way : (first start x : ℕ) (w : List ℕ) → x < length links.next.items → GoesBy links first start (slice_index links.next.items x) w
      → Path (By (next_of s)) x (along links (slice_index links.next.items x) w) start
  way first start x [] below ends = step x below ∙ ends
  way first start x (b ∷ w) below goes = (step x below, way first start (slice_index links.next.items x) w goes.0.below goes.2)

  starts_are : (first start h : ℕ) (w : List ℕ) → GoesBy links first start h w → map (origin_of s) (along links h w) ≡ w
  starts_are first start h [] goes = refl
  starts_are first start h (b ∷ w) goes =
      let here : origin_of s h ≡ b = ap (λ list. slice_index list h) linked.origin ∙ goes.0.start in
      ap (λ y. y ∷ map (origin_of s) (along links (slice_index links.next.items h) w)) here
      ∙ ap (λ ys. b ∷ ys) (starts_are first start (slice_index links.next.items h) w goes.2)

  elsewhere : (first start h : ℕ) (w : List ℕ) → GoesBy links first start h w → (x : ℕ) → 0 < count_of x (along links h w)
      → slice_index links.origin.items x ≢ first
  elsewhere first start h [] goes x found = absurd (omega (arith, found))
  elsewhere first start h (b ∷ w) goes x found = elim (first_or_later x h (along links (slice_index links.next.items h) w) found) [
    | inl same ↦ λ is. goes.1 (sym goes.0.start ∙ ap (slice_index links.origin.items) (sym same) ∙ is)
    | inr later ↦ elsewhere first start (slice_index links.next.items h) w goes.2 x later
  ]

  pub outside : FacesAreCycles s → (start : ℕ) (w : List ℕ) → GoesRound links start w → HasOutside s w
  outside cycles start [] goes = absurd goes
  outside cycles start (a ∷ w) goes =
      let rest : List ℕ = along links (slice_index links.next.items start) w in
      let live : IsLive s start = closed-live s linked.closed (start / 2) (let b = goes.0.below in let e = linked.half_edges in omega (arith, b, e)) in
      let on : face_of s start ≡ 0 = linked.face start goes.0.below ∙ goes.0.outer in
      let once : count_of start rest ≡ 0 =
      count-none start rest (λ x found same. elsewhere a start (slice_index links.next.items start) w goes.1 x found
      (ap (slice_index links.origin.items) (sym same) ∙ goes.0.start)) in record {
        round = start ∷ rest;
        turns = subst (λ f. TurnsTo (word_of s.words f) (start ∷ rest)) on
            (round_word s cycles start rest live (way a start start w goes.0.below goes.1) once);
        starts =
            ap (λ y. y ∷ map (origin_of s) rest) (ap (λ list. slice_index list start) linked.origin ∙ goes.0.start)
            ∙ ap (λ ys. a ∷ ys) (starts_are a start (slice_index links.next.items start) w goes.1);
      }

-- the corner after each one
turned_next : (w : List ℕ) (k : ℕ) → k + 1 < length w → slice_index (turned w) k ≡ slice_index w (k + 1)
turned_next [] k below = absurd (omega (arith, below))
turned_next (a ∷ w) k below =
    let is : k + 1 ≡ suc k = omega arith in
    get_or_append_left w (a ∷ []) 0 k (omega (arith, below)) ∙ ap (slice_index (a ∷ w)) (sym is)

pub turned_last : (w : List ℕ) (k : ℕ) → k + 1 ≡ length w → slice_index (turned w) k ≡ slice_index w 0
turned_last [] k last = absurd (omega (arith, last))
turned_last (a ∷ w) k last = get_or_at w a [] 0 k (omega (arith, last))

module _ {A : Type 0} (links : LinkLists A) (vertices many : ℕ) (others : List (List ℕ)) (l : AreLinks vertices others (lists_claim links vertices many))
    (w : List ℕ) (b : LiesBeyond others w) where
  -- the half edges that lie there
  abbrev at : (k : ℕ) → k < length w → ℕ
  at k below = rev (l.number (b.back k below).0)

  at_in : (k : ℕ) (below : k < length w) → at k below < length links.next.items
  at_in k below = turned_in vertices others (lists_claim links vertices many) l (b.back k below).0 (b.back k below).1.below

  at_outer : (k : ℕ) (below : k < length w) → slice_index links.face.items (at k below) ≡ 0
  at_outer k below = alone_outer vertices others (lists_claim links vertices many) l (b.back k below).0 (b.back k below).1

  at_start : (k : ℕ) (below : k < length w) → slice_index links.origin.items (at k below) ≡ slice_index w k
  at_start k below = l.end (b.back k below).0 (b.back k below).1.below ∙ (b.back k below).2

  at_end : (k : ℕ) (below : k < length w) → slice_index links.origin.items (rev (at k below)) ≡ slice_index (turned w) k
  at_end k below =
      ap (slice_index links.origin.items) (rev-rev (l.number (b.back k below).0)) ∙ l.start (b.back k below).0 (b.back k below).1.below ∙ (b.back k below).3

  -- what comes after one of them is the one half edge of the border that starts there
  goes_on : (k x : ℕ) (below : k < length w) → x < length links.next.items → slice_index links.face.items x ≡ 0
      → slice_index links.origin.items x ≡ slice_index (turned w) k → slice_index links.next.items (at k below) ≡ x
  goes_on k x below within outer start =
      l.around (at k below) x (at_in k below) within
      (outer_bare vertices others (lists_claim links vertices many) l (at k below) (at_outer k below))
      (outer_bare vertices others (lists_claim links vertices many) l x outer)
      (start ∙ sym (at_end k below))

  first_in : 0 < length w
  first_in = b.some

  goes : (first start : ℕ) (r : List ℕ) (k x : ℕ) (below : k < length w) → first ≡ slice_index w 0 → StartsOutside links (slice_index w 0) start
      → k + 1 + length r ≡ length w → ((i : ℕ) → i < length r → slice_index r i ≡ slice_index w (k + 1 + i))
      → x ≡ slice_index links.next.items (at k below) → GoesBy links first start x r
  goes first start [] k x below is s all each from =
      from ∙ goes_on k start below s.below s.outer (s.start ∙ sym (turned_last w k (omega (arith, all))))
  goes first start (c ∷ r) k x below is s all each from =
      let more : k + 1 < length w = omega (arith, all) in
      let here : x ≡ at (k + 1) more =
      from ∙ goes_on k (at (k + 1) more) below (at_in (k + 1) more) (at_outer (k + 1) more) (at_start (k + 1) more ∙ sym (turned_next w k more)) in
      let plus : k + 1 + 0 ≡ k + 1 = omega arith in
      let corner : c ≡ slice_index w (k + 1) = each 0 (omega arith) ∙ ap (slice_index w) plus in (
        record {
          below = subst (λ h. h < length links.next.items) (sym here) (at_in (k + 1) more);
          outer = ap (slice_index links.face.items) here ∙ at_outer (k + 1) more;
          start = ap (slice_index links.origin.items) here ∙ at_start (k + 1) more ∙ sym corner;
        },
        λ same. b.once (k + 1) (omega arith) more (sym corner ∙ same ∙ is),
        goes first start r (k + 1) (slice_index links.next.items x) more is s (omega (arith, all))
            (λ i inside. let more : k + 1 + suc i ≡ k + 1 + 1 + i = omega arith in each (suc i) (omega (arith, inside)) ∙ ap (slice_index w) more)
            (ap (slice_index links.next.items) here),
      )

  -- it begins where the last one of them leads
  abbrev last : ℕ
  last = length w - 1

  last_in : last < length w
  last_in = let some = b.some in omega (arith, some)

  first_step : (x : ℕ) → StartsOutside links (slice_index w 0) x → slice_index links.next.items (at last last_in) ≡ x
  first_step x t = goes_on last x last_in t.below t.outer (t.start ∙ sym (turned_last w last (let some = b.some in omega (arith, some))))

  first_at : StartsOutside links (slice_index w 0) (at 0 first_in)
  first_at = record { below = at_in 0 first_in; outer = at_outer 0 first_in; start = at_start 0 first_in }

  of_list : (u : List ℕ) → w ≡ u → (start : ℕ) → StartsOutside links (slice_index w 0) start → GoesRound links start u
  of_list [] is start s = absurd (let some = b.some in omega (arith, some, ap length is))
  of_list (a ∷ r) is start s =
      let first : slice_index w 0 ≡ a = ap (λ list. slice_index list 0) is in
      let same : start ≡ at 0 first_in = sym (first_step start s) ∙ first_step (at 0 first_in) first_at in (
        record { below = s.below; outer = s.outer; start = s.start ∙ first },
        goes a start r 0 (slice_index links.next.items start) first_in (sym first) s (omega (arith, ap length is))
            (λ i inside. let plus : suc i ≡ 0 + 1 + i = omega arith in sym (ap (λ list. slice_index list (suc i)) is) ∙ ap (slice_index w) plus)
            (ap (slice_index links.next.items) same),
      )

  -- so the outer face goes round it, from wherever it starts at the first corner
  pub goes_round : (start : ℕ) → StartsOutside links (slice_index w 0) start → GoesRound links start w
  goes_round start s = of_list w refl start s

  -- and no other start is found
  pub no_other : ((start : ℕ) → StartsOutside links (slice_index w 0) start → HasOtherStart links w) → ⊥
  no_other other =
      let o = other (at 0 first_in) first_at in
      o.apart (goes_round o.start o.starts)
