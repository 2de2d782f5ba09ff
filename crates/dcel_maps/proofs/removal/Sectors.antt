-- A border loop, sector by sector: each of its half edges lies opposite an out edge, and turning leads from one of these to the next.
use Rattle.std.proofs.Common.{◌≡◌, ◌≢◌, ◌↔◌, inl, inr, ℕ, ◌<◌, true, List, [], ◌∷◌, ◌++◌, drop, length, map, reverse, slice_index, refl, sym, ap, ◌∙◌, subst, arith}
use Rattle.std.proofs.lemmas.List.{length-reverse, reverse-append}
use Rattle.dcel_maps.specs.Borders.{IsBorderLoop, StartsAlone}
use Rattle.dcel_maps.specs.Conditions.{IsTriangle}
use Rattle.dcel_maps.specs.Maps.{By}
use Rattle.dcel_maps.specs.Shapes.{IsLive, IsSound, Shape, face_of, next_of, origin_of, prev_of, vertex_is_live}
use Rattle.dcel_maps.specs.Walking.{IsOutEdge, ccw_of, walk_of}
use Rattle.dcel_maps.specs.Words.{count_of}
use Rattle.dcel_maps.specs.theory.Cycles.{Path}
use Rattle.dcel_maps.specs.theory.Sectors.{IsRingRound, IsSector, Sectors}
use Rattle.dcel_maps.proofs.walks.Links.{ccw-lawful, links_lawful}
use Rattle.dcel_maps.proofs.walks.Turning.{walk-out_edges}
use Rattle.dcel_maps.proofs.walks.UnderWay.{walk-round}
use Rattle.dcel_maps.proofs.words.Counts.{absent_head, count-later, count-none, count-same, first_or_later}
use Rattle.dcel_maps.proofs.words.Mapped.{count-mapped, mapped_from}

-- two paths of a function to the first return are one
pub same_path : (f : ℕ → ℕ) (x e : ℕ) (r u : List ℕ) → Path (By f) x r e → Path (By f) x u e → count_of e r ≡ 0 → count_of e u ≡ 0 → r ≡ u
same_path f x e [] [] p q none none_u = refl
same_path f x e [] (z ∷ u) p q none none_u = absurd (absent_head e z u none_u (sym p ∙ q.0))
same_path f x e (y ∷ r) [] p q none none_u = absurd (absent_head e y r none (sym q ∙ p.0))
same_path f x e (y ∷ r) (z ∷ u) p q none none_u =
    let same : y ≡ z = sym p.0 ∙ q.0 in
    let rest = same_path f y e r u p.1 (subst (λ k. Path (By f) k u e) (sym same) q.1) (omega (arith, none)) (omega (arith, none_u)) in
    ap (λ k. k ∷ r) same ∙ ap (λ w. z ∷ w) rest

module _ (s : Shape) (apex e : ℕ) where
  -- the out edges that sectors are seen from
  pub record Seen (h : ℕ) (r : List ℕ) : Type 0 where
    pub rest : List ℕ
    pub path : Path (By (ccw_of s)) h rest e
    pub ring : r ≡ map (next_of s) rest
    pub sectors : (k : ℕ) → 0 < count_of k rest → IsSector s k (next_of s k) × (origin_of s (next_of s k) ≢ apex)

  pub sectors_seen : (h : ℕ) (r : List ℕ) → Sectors s apex (ccw_of s h) r e → Seen h r
  sectors_seen h [] back = record { rest = []; path = back; ring = refl; sectors = λ k found. absurd (omega arith) }
  sectors_seen h (x ∷ r) (sector, apart, others) =
      let o = ccw_of s h in
      let later = sectors_seen o r others in
      record {
        rest = o ∷ later.rest;
        path = (refl, later.path);
        ring = ap (λ y. y ∷ r) (sym sector.after) ∙ ap (λ u. next_of s o ∷ u) later.ring;
        sectors = λ k found. elim (first_or_later k o later.rest found) [
          | inl is ↦
              subst (λ z. IsSector s z (next_of s z) × (origin_of s (next_of s z) ≢ apex)) (sym is)
              (record { after = refl; inner = sector.inner; triangle = sector.triangle }, λ at. apart (ap (origin_of s) (sym sector.after) ∙ at))
          | inr after ↦ later.sectors k after
        ];
      }

  pub sectors_from : (h : ℕ) (rest : List ℕ) → Path (By (ccw_of s)) h rest e
      → ((k : ℕ) → 0 < count_of k rest → IsSector s k (next_of s k) × (origin_of s (next_of s k) ≢ apex))
      → Sectors s apex (ccw_of s h) (map (next_of s) rest) e
  sectors_from h [] back each = back
  sectors_from h (k ∷ rest) path each =
      subst (λ o. Sectors s apex o (map (next_of s) (k ∷ rest)) e) (sym path.0)
      (let here = each k (omega (arith, count-same k rest)) in
      (here.0, here.1, sectors_from k rest path.1 (λ j found. each j (count-later j k rest found))))

module _ (s : Shape) (sound : IsSound s) (border : List ℕ) (v x : ℕ) (r : List ℕ) (reads : reverse border ≡ x ∷ r) where
  -- a border loop is a ring
  pub ring_of-loop : IsBorderLoop s border v → IsRingRound s v x r
  ring_of-loop l =
      let h = l.first in
      let trip = walk-round (ccw-lawful sound) h l.out.live in
      let ring : x ∷ r ≡ next_of s h ∷ map (next_of s) trip.rest = sym reads ∙ l.ring ∙ ap (map (next_of s)) trip.from in
      let first : x ≡ next_of s h = ap (λ w. slice_index w 0) ring in
      let rest : r ≡ map (next_of s) trip.rest = ap (drop 1) ring in
      let back : prev_of s x ≡ h = ap (prev_of s) first ∙ (links_lawful sound).back-step h l.out.live in
      let sector : (k : ℕ) → IsOutEdge s v k → IsSector s k (next_of s k) =
      λ k out. let on = l.triangles k out in record { after = refl; inner = on.0; triangle = on.1 } in
      let alone : StartsAlone s (x ∷ r) = subst (StartsAlone s) reads l.alone in
      let outs = walk-out_edges sound v h l.out in
      let out_of : (k : ℕ) → 0 < count_of k trip.rest → IsOutEdge s v k =
      λ k found. outs.no_other k (rw trip.from (count-later k h trip.rest found)) in
      record {
        live = subst (IsLive s) (sym first) ((links_lawful sound).stays h l.out.live);
        center = ap (origin_of s) back ∙ l.out.start;
        many = omega (arith, l.many, length-reverse border, ap length reads);
        first = subst (λ k. IsSector s k x) (sym back) (subst (IsSector s h) (sym first) (sector h l.out));
        others =
            subst (λ k. Sectors s (origin_of s x) (ccw_of s k) r k) (sym back)
            (subst (λ w. Sectors s (origin_of s x) (ccw_of s h) w h) (sym rest)
            (sectors_from s (origin_of s x) h h trip.rest trip.round
            (λ k found. (sector k (out_of k found), alone (next_of s k) (rw rest (count-mapped (next_of s) trip.rest k found))))));
      }

  -- and a ring is a border loop
  pub loop_of-ring : IsRingRound s v x r → IsBorderLoop s border v
  loop_of-ring ring =
      let h = prev_of s x in
      let live : IsLive s h = (links_lawful sound).stays_back x ring.live in
      let out : IsOutEdge s v h = record { live = live; start = ring.center } in
      let seen = sectors_seen s (origin_of s x) h h r ring.others in
      let trip = walk-round (ccw-lawful sound) h live in
      let once_h = trip.once h in
      let none : count_of h trip.rest ≡ 0 = omega (arith, rw trip.from at once_h, count-same h trip.rest) in
      let apart : count_of h seen.rest ≡ 0 = count-none h seen.rest (λ k found is. (seen.sectors k found).1 (ap (λ z. origin_of s (next_of s z)) (sym is) ∙ ap (origin_of s) ring.first.after)) in
      let walk : walk_of s (ccw_of s) h ≡ h ∷ seen.rest = trip.from ∙ ap (λ w. h ∷ w) (same_path (ccw_of s) h h trip.rest seen.rest trip.round seen.path none apart) in
      record {
        live = subst (λ w. vertex_is_live s w ≡ true) ring.center (sound.starts_live h live);
        triangles = λ k at.
            let found : 0 < count_of k (h ∷ seen.rest) = let each = (walk-out_edges sound v h out).each k at in omega (arith, rw walk at each) in
            elim (first_or_later k h seen.rest found) [
              | inl is ↦ subst (λ z. (0 < face_of s z) × IsTriangle s (face_of s z)) (sym is) (ring.first.inner, ring.first.triangle)
              | inr later ↦ let sector = (seen.sectors k later).0 in (sector.inner, sector.triangle)
            ];
        many = omega (arith, ring.many, length-reverse border, ap length reads);
        first = h;
        out = out;
        ring = reads ∙ ap (λ y. y ∷ r) (sym ring.first.after) ∙ ap (λ w. next_of s h ∷ w) seen.ring ∙ ap (map (next_of s)) (sym walk);
        alone = subst (StartsAlone s) (sym reads) (λ y found at.
            let (k, there, is) = mapped_from (next_of s) seen.rest y (rw seen.ring at found) in
            (seen.sectors k there).1 (ap (origin_of s) is ∙ at));
      }

-- under way round a ring: `left` is still to come, and is read from its end
pub record GoesRound (s : Shape) (apex first : ℕ) (others : List ℕ) (now : ℕ) (left : List ℕ) : Type 0 where
  pub live : IsLive s now
  pub same : Sectors s apex now (reverse left) first ↔ Sectors s apex (ccw_of s first) (reverse others) first

pub round_begins : (s : Shape) → IsSound s → (apex first : ℕ) (others : List ℕ) → IsLive s first → GoesRound s apex first others (ccw_of s first) others
round_begins s sound apex first others live = record { live = (ccw-lawful sound).stays first live; same = (λ is. is, λ is. is) }

module _ (s : Shape) (apex first : ℕ) (others : List ℕ) (now : ℕ) (left : List ℕ) (on : GoesRound s apex first others now left) where
  module _ (edge : ℕ) (before : List ℕ) (parts : left ≡ before ++ edge ∷ []) where
    turned : reverse left ≡ edge ∷ reverse before
    turned = ap reverse parts ∙ reverse-append before (edge ∷ [])

    -- goes on by a sector
    pub round_goes_on : IsSound s → IsSector s now edge → origin_of s edge ≢ apex → GoesRound s apex first others (ccw_of s now) before
    round_goes_on sound sector apart = record {
      live = (ccw-lawful sound).stays now on.live;
      same = (
        λ rest. on.same.0 (subst (λ w. Sectors s apex now w first) (sym turned) (sector, apart, rest)),
        λ whole. (subst (λ w. Sectors s apex now w first) turned (on.same.1 whole)).2,
      );
    }

-- a list that ends with `last` is a border loop just where it is a ring from there
pub loop_iff-ring : (s : Shape) → IsSound s → (border others : List ℕ) (v last : ℕ) → border ≡ others ++ last ∷ []
    → IsBorderLoop s border v ↔ IsRingRound s v last (reverse others)
loop_iff-ring s sound border others v last parts =
    let reads : reverse border ≡ last ∷ reverse others = ap reverse parts ∙ reverse-append others (last ∷ []) in
    (ring_of-loop s sound border v last (reverse others) reads, loop_of-ring s sound border v last (reverse others) reads)
