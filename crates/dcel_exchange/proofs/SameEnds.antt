-- A map and a claim whose half edges are told by their ends, and whose links have the same ends: the claim is that of a mesh where the map is.
use Rattle.std.proofs.Common.{◌≡◌, ◌⊎◌, inl, inr, ℕ, ◌/◌, ◌<◌, ◌≤◌, Bool, true, false, List, slice_index, refl, sym, ap, ◌∙◌, arith}
use Rattle.std.proofs.lemmas.Bool.{cases_lt, false≢true}
use Rattle.dcel_fixed.specs.HalfEdges.{rev}
use Rattle.dcel_maps.specs.Elementary.{Renamed}
use Rattle.dcel_maps.specs.Maps.{Live, Map}
use Rattle.dcel_maps.specs.theory.Sound.{Sound, Sphere, has_word}
use Rattle.dcel_maps.proofs.maps.Counts.{used_from}
use Rattle.dcel_maps.proofs.maps.Halves.{rev-rev}
use Rattle.dcel_maps.proofs.maps.Renames.{renamed_sound, renamed_sphere}
use Rattle.dcel_maps.proofs.maps.Soundness.{rev_live}
use Rattle.dcel_maps.proofs.walks.Numbers.{length-listed, listed, listed-at}
use Rattle.dcel_links.specs.Claims.{Claim, HasLists, IsFew, IsMeshOf, claimed_map, halves}
use Rattle.dcel_links.proofs.Claiming.{is_below, is_half}
use Rattle.dcel_fixed.proofs.Halves.{rev_within}

-- x of the map and h of the claim have the same ends
pub record SameEnds (S : Map) (c : Claim) (x h : ℕ) : Type 0 where
  pub start : S.origin x ≡ slice_index c.origin h
  pub end : S.origin (rev x) ≡ slice_index c.origin (rev h)

-- each half edge of one is told by its ends and has one of the other with the same ends; what follows them has the same ends too, and they
-- lie on the same face
pub record Matches (S : Map) (c : Claim) : Type 0 where
  pub told : (x y : ℕ) → Live S x → Live S y → S.origin x ≡ S.origin y → S.origin (rev x) ≡ S.origin (rev y) → x ≡ y
  pub told_claim : (h k : ℕ) → h < halves c → k < halves c → slice_index c.origin h ≡ slice_index c.origin k
      → slice_index c.origin (rev h) ≡ slice_index c.origin (rev k) → h ≡ k
  pub forth : (x : ℕ) → Live S x → (h : ℕ) × (h < halves c) × SameEnds S c x h
  pub back : (h : ℕ) → h < halves c → (x : ℕ) × Live S x × SameEnds S c x h
  pub next : (x h : ℕ) → Live S x → h < halves c → SameEnds S c x h
      → (slice_index c.next h < halves c) × SameEnds S c (S.next x) (slice_index c.next h)
  pub face : (x h : ℕ) → Live S x → h < halves c → SameEnds S c x h → S.face x ≡ slice_index c.face h
  pub vertices : S.vertices ≡ c.vertices
  pub faces : S.faces ≡ c.faces

module _ (S : Map) (c : Claim) (sound : Sound S) (lists : HasLists c) (m : Matches S c) where
  -- the half edge of the claim with the ends of x
  abbrev claimed : (x : ℕ) (b : Bool) → S.edge (x / 2) ≡ b → ℕ
  claimed x true live = (m.forth x live).0
  claimed x false dead = 0

  abbrev to : ℕ → ℕ
  to x = claimed x (S.edge (x / 2)) refl

  to_same : (x : ℕ) → Live S x → (to x < halves c) × SameEnds S c x (to x)
  to_same x live = of_bool (S.edge (x / 2)) refl
    where
      of_bool : (b : Bool) (is : S.edge (x / 2) ≡ b) → (claimed x b is < halves c) × SameEnds S c x (claimed x b is)
      of_bool true is = let r = m.forth x is in (r.1, r.2)
      of_bool false is = absurd (false≢true (sym is ∙ live))

  -- the half edge of the map with the ends of h
  abbrev mapped : (h : ℕ) → (h < halves c) ⊎ (halves c ≤ h) → ℕ
  mapped h (inl below) = (m.back h below).0
  mapped h (inr past) = 0

  abbrev fro : ℕ → ℕ
  fro h = mapped h (cases_lt h (halves c))

  fro_same : (h : ℕ) → h < halves c → Live S (fro h) × SameEnds S c (fro h) h
  fro_same h below = of_case (cases_lt h (halves c))
    where
      of_case : (d : (h < halves c) ⊎ (halves c ≤ h)) → Live S (mapped h d) × SameEnds S c (mapped h d) h
      of_case (inl less) = let r = m.back h less in (r.1, r.2)
      of_case (inr past) = absurd (omega arith)

  -- the links backwards
  abbrev pub prevs : List ℕ
  prevs = listed (λ h. to (S.prev (fro h))) (halves c)

  abbrev T : Map
  T = claimed_map c prevs

  live : (h : ℕ) → h < halves c → Live T h
  live h = is_half c prevs h lists.even

  below : (h : ℕ) → Live T h → h < halves c
  below = is_below c prevs

  fro-to : (x : ℕ) → Live S x → fro (to x) ≡ x
  fro-to x l =
      let there = to_same x l in
      let again = fro_same (to x) there.0 in
      m.told (fro (to x)) x again.0 l (again.1.start ∙ sym there.1.start) (again.1.end ∙ sym there.1.end)

  to-fro : (h : ℕ) → h < halves c → to (fro h) ≡ h
  to-fro h l =
      let there = fro_same h l in
      let again = to_same (fro h) there.0 in
      m.told_claim (to (fro h)) h again.0 l (sym again.1.start ∙ there.1.start) (sym again.1.end ∙ there.1.end)

  to-turn : (x : ℕ) → Live S x → rev (to x) ≡ to (rev x)
  to-turn x l =
      let one = to_same x l in
      let other = to_same (rev x) (rev_live S x l) in
      m.told_claim (rev (to x)) (to (rev x)) (rev_within (to x) (halves c) lists.even one.0) other.0 (sym one.1.end ∙ other.1.start)
      (ap (slice_index c.origin) (rev-rev (to x)) ∙ sym one.1.start ∙ ap S.origin (sym (rev-rev x)) ∙ other.1.end)

  to-next : (x : ℕ) → Live S x → T.next (to x) ≡ to (S.next x)
  to-next x l =
      let one = to_same x l in
      let after = m.next x (to x) l one.0 one.1 in
      let other = to_same (S.next x) (sound.live_next x l) in
      m.told_claim (T.next (to x)) (to (S.next x)) after.0 other.0 (sym after.1.start ∙ other.1.start) (sym after.1.end ∙ other.1.end)

  to-prev : (x : ℕ) → Live S x → T.prev (to x) ≡ to (S.prev x)
  to-prev x l = listed-at (λ h. to (S.prev (fro h))) (halves c) (to x) (to_same x l).0 ∙ ap (λ y. to (S.prev y)) (fro-to x l)

  renamed : Renamed S T to fro (λ v. v) (λ f. f)
  renamed = record {
    lives = λ x l. live (to x) (to_same x l).0;
    comes = λ h l. (fro_same h (below h l)).0;
    forth = fro-to;
    back = λ h l. to-fro h (below h l);
    turn = to-turn;
    next = to-next;
    prev = to-prev;
    origin = λ x l. sym (to_same x l).1.start;
    face = λ x l. let r = to_same x l in sym (m.face x (to x) l r.0 r.1);
    apart_origin = λ x y l k same. same;
    apart_face = λ x y l k same. same;
    below_edges = λ h l. let b = below h l in let even = lists.even in omega arith;
    below_vertices = λ h l.
        let r = fro_same h (below h l) in
        let v = sound.below_vertices (fro h) r.0 in
        let same = r.1.start in
        let n = m.vertices in
        omega arith;
    below_faces = λ h l.
        let r = fro_same h (below h l) in
        let f = sound.below_faces (fro h) r.0 in
        let same = m.face (fro h) h r.0 (below h l) r.1 in
        let n = m.faces in
        omega arith;
  }

  sound_claim : Sound T
  sound_claim = renamed_sound S T to fro (λ v. v) (λ f. f) renamed sound

  used : (f : ℕ) → (x : ℕ) × Live S x × (S.face x ≡ f) → has_word T f ≡ true
  unfolding has_word
  used f (x, l, is) =
      let r = to_same x l in
      used_from T sound_claim T.face f record { half = to x; live = live (to x) r.0; is = sym (m.face x (to x) l r.0 r.1) ∙ is }

  -- so the claim is that of a mesh, if it isn't too long, and each face has a half edge that is to have one
  pub matched_mesh : Sphere S → IsFew c → 0 < c.faces → ((f : ℕ) → 0 < f → f < c.faces → (x : ℕ) × Live S x × (S.face x ≡ f))
      → ((x : ℕ) → Live S x → (y : ℕ) × Live S y × (S.face y ≡ 0)) → IsMeshOf c prevs
  matched_mesh sphere few some_face inner outer = record {
    lists = lists;
    backwards = length-listed (λ h. to (S.prev (fro h))) (halves c);
    few = few;
    sound = sound_claim;
    sphere = renamed_sphere S T to fro (λ v. v) (λ f. f) renamed sound sphere;
    some_face = some_face;
    inner = λ f some l. used f (inner f some l);
    outer = λ some. used 0 (let r = fro_same 0 some in outer (fro 0) r.0);
  }
