-- Faces of a closed surface without the outer one, and what a refusal leaves.
use Rattle.std.proofs.Common.{Bor, ◌≡◌, ◌≢◌, ◌∙◌, inl, inr, ℕ, zero, suc, ◌+◌, ◌-◌, ◌^◌, ◌<◌, ◌≤◌, List, [], ◌∷◌, ◌++◌, drop, length, map, slice_index, slice_index_or, take, refl, sym, ap, subst, arith}
use Rattle.std.specs.declared.vec.Vec.{Vec}
use Rattle.std.proofs.lemmas.List.{drop-map, get_or-map, length-append, length-drop, length-map, length-take-le, take-map}
use Rattle.dcel_fixed.specs.HalfEdges.{rev}
use Rattle.dcel_links.specs.Claims.{Claim}
use Rattle.dcel_maps.specs.Maps.{By, Map}
use Rattle.dcel_maps.specs.Shapes.{IsLive, IsMesh, Mesh, Shape, end_of, face_of, map_of, next_of, origin_of}
use Rattle.dcel_maps.specs.Words.{TurnsTo, count_of, word_of}
use Rattle.dcel_maps.specs.theory.Cycles.{IsCycle}
use Rattle.dcel_maps.specs.theory.Standing.{Follows, Stands}
use Rattle.dcel_maps.proofs.maps.Halves.{rev-rev}
use Rattle.dcel_maps.proofs.maps.Soundness.{rev_live}
use Rattle.dcel_maps.proofs.walks.Links.{links_stand}
use Rattle.dcel_maps.proofs.words.Mapped.{count-at}
use Rattle.dcel_maps.proofs.words.Paths.{IsCycle-weaker}
use Rattle.dcel_maps.proofs.words.Reading.{count-le, face_in_word, live_in}
use Rattle.dcel_maps.proofs.words.Turns.{IsCycle-turn, count-turn}
use Rattle.dcel_exchange.specs.Closed.{HasAllCorners, HasOtherBorder, IsInRange, LeavesOf, LeavesOthers, MeansOf, RefusesOthers, told_in, without}
use Rattle.dcel_exchange.specs.Corners.{AreSides, LeadsBack, corners_of, ends, owners, starts, turned}
use Rattle.dcel_exchange.specs.Meshes.{AreLinks, side_count}
use Rattle.dcel_exchange.specs.Reasons.{Means, Tells}
use Rattle.dcel_exchange.specs.Simple.{HasCorners, IsSimple}
use Rattle.dcel_exchange.specs.Surfaces.{IsAlone, LiesBeyond}
use Rattle.dcel_exchange.specs.declared.closed.ClosedFacesError.{ClosedFacesError}
use Rattle.dcel_exchange.specs.declared.closed.ClosedFacesError.TheVariants.{NoFace, OtherBorder, Others}
use Rattle.dcel_exchange.specs.declared.refusal.FacesError.{FacesError}
use Rattle.dcel_exchange.specs.declared.refusal.FacesError.TheVariants.{BorderTwice, Borders, Closed, FewCorners, Links, NotConnected, NoVertex, OneEnd, OutOfMemory, SideTwice, TooManyCorners}
use Rattle.dcel_exchange.specs.Links.{lists_claim}
use Rattle.dcel_exchange.specs.Rounds.{GoesRound, HasOtherStart, StartsOutside}
use Rattle.dcel_exchange.specs.declared.lists.LinkLists.{LinkLists}
use Rattle.dcel_links.specs.Meshes.{IsLinked}
use Rattle.dcel_maps.specs.Headline.{FacesAreCycles}
use Rattle.dcel_exchange.proofs.FaceCorners.{has_corners}
use Rattle.dcel_exchange.proofs.FaceWords.{has_faces}
use Rattle.dcel_exchange.proofs.Leaving.{leaves}
use Rattle.dcel_exchange.proofs.Placed.{Placed, cycle-map, item_of, one_place, placed, turned-map}
use Rattle.dcel_exchange.proofs.Ranges.{owners_small}
use Rattle.dcel_exchange.proofs.Rounded.{no_other, outside, turned_last}
use Rattle.dcel_exchange.proofs.Surfaces.{alone_bare, turned_in}

-- a list without one item
pub length-without : {T : Type 0} (k : ℕ) (list : List T) → k < length list → length (without k list) + 1 ≡ length list
length-without k list below =
    omega (arith, below, length-append (take k list) (drop (suc k) list), length-take-le k list (omega (arith, below)), length-drop (suc k) list)

pub map-without : {T U : Type 0} (f : T → U) (k : ℕ) (list : List T) → map f (take k list) ++ map f (drop (k + 1) list) ≡ without k (map f list)
map-without f k list =
    let next : k + 1 ≡ suc k = omega arith in
    ap (λ n. map f (take k list) ++ map f (drop n list)) next
    ∙ ap (λ front. front ++ map f (drop (suc k) list)) (sym (take-map f k list)) ∙ ap (λ back. take k (map f list) ++ back) (sym (drop-map f (suc k) list))

-- the corners that slices lend
abbrev pub lent : List (Bor (List ℕ)) → List (List ℕ)
lent list = map (λ corners. corners.now) list

-- the corners of the face that was read
pub corners_at : {A : Type 0} (faces : List (Vec ℕ A)) (k : ℕ) (face : Vec ℕ A) → k < length faces → face ≡ slice_index_or faces k face
    → face.items ≡ slice_index_or (corners_of faces) k []
corners_at faces k face below is = ap (λ f. f.items) is ∙ sym (get_or-map (λ f. f.items) faces k face [] below)

-- places in a reason are those of faces
module _ (vertices : ℕ) (faces : List (List ℕ)) (from to face after : List ℕ) (s : AreSides faces from to face after) where
  small : (p f : ℕ) → p < length from → slice_index face p ≡ f → suc f < 2 ^ 32
  small p f below is = let few = owners_small faces from to face after s p below in omega (arith, few, is)

  pub in_range : (reason : FacesError) → Tells from to face vertices reason → IsInRange reason
  in_range (FewCorners f) tells = absurd tells
  in_range TooManyCorners tells = tt
  in_range (NoVertex f a) tells = small tells.side f tells.is.below tells.is.owner
  in_range (OneEnd f a) tells = small tells.side f tells.is.below tells.is.owner
  in_range (SideTwice f g a b) tells = (small tells.one f tells.one_is.below tells.one_is.owner, small tells.other g tells.other_is.below tells.other_is.owner)
  in_range (BorderTwice a) tells = tt
  in_range Closed tells = tt
  in_range Borders tells = tt
  in_range (NotConnected h) tells = tt
  in_range (Links fault) tells = tt
  in_range OutOfMemory tells = tt

-- in a simple mesh of all faces the outer one lies beyond the border of the others
module _ {V DE UE F : Type 0} (m : Mesh V DE UE F) (mesh : IsMesh m) (simple : IsSimple m.shape) (vertices : ℕ) (faces : List (List ℕ)) (outer : ℕ)
    (has : HasAllCorners m.shape vertices faces outer) (c : Claim) (l : AreLinks vertices (without outer faces) c) where
  abbrev s : Shape
  s = m.shape

  abbrev others : List (List ℕ)
  others = without outer faces

  abbrev w : List ℕ
  w = slice_index_or faces outer []

  abbrev u : List ℕ
  u = has.outside.round

  abbrev item : ℕ → ℕ
  item = item_of s mesh.sound vertices others has.inner

  sides : Placed s others item
  sides = placed s mesh.sound vertices others has.inner

  stands : Stands (map_of s) s.words
  stands = links_stand mesh.sound

  as_long : length u ≡ length w
  as_long = sym (length-map u (origin_of s)) ∙ ap length has.outside.starts

  in_word : (k : ℕ) → k < length u → 0 < count_of (slice_index u k) (word_of s.words 0)
  in_word k below = omega (arith, count-at u k 0 below, count-turn (slice_index u k) has.outside.turns)

  live : (k : ℕ) → k < length u → IsLive s (slice_index u k)
  live k below = live_in (map_of s) s.words stands (slice_index u k) 0 (in_word k below)

  on_outer : (k : ℕ) → k < length u → face_of s (slice_index u k) ≡ 0
  on_outer k below = face_in_word (map_of s) s.words stands (slice_index u k) 0 (in_word k below)

  start : (k : ℕ) → k < length u → origin_of s (slice_index u k) ≡ slice_index w k
  start k below = sym (get_or-map (origin_of s) u k 0 0 below) ∙ ap (λ list. slice_index list k) has.outside.starts

  round : IsCycle (By (next_of s)) u
  round =
      IsCycle-turn (By (next_of s)) has.outside.turns
      (IsCycle-weaker (Follows (map_of s) 0) (By (next_of s)) (word_of s.words 0) (λ p q i j k. k.next)
      (stands.cycles 0 (let n = has.inner.faces_are in omega (arith, n))))

  end : (k : ℕ) → k < length u → end_of s (slice_index u k) ≡ slice_index (turned w) k
  end k below =
      let turns : map (λ x. origin_of s (next_of s x)) u ≡ turned w =
      map-two u ∙ ap (map (origin_of s)) (cycle-map (next_of s) u round) ∙ turned-map (origin_of s) u ∙ ap turned has.outside.starts in
      sym (mesh.sound.joined (slice_index u k) (live k below))
      ∙ sym (get_or-map (λ x. origin_of s (next_of s x)) u k 0 0 below) ∙ ap (λ list. slice_index list k) turns
    where
      map-two : (r : List ℕ) → map (λ x. origin_of s (next_of s x)) r ≡ map (origin_of s) (map (next_of s) r)
      map-two [] = refl
      map-two (x ∷ r) = ap (λ ys. origin_of s (next_of s x) ∷ ys) (map-two r)

  -- the side of the others that leads back
  back : (k : ℕ) → k < length u → (q : ℕ) × (q < side_count others) × (item q ≡ rev (slice_index u k))
  back k below =
      sides.onto (rev (slice_index u k)) (rev_live (map_of s) (slice_index u k) (live k below)) (has.inner.inside (slice_index u k) (live k below) (on_outer k below))

  back_end : (k : ℕ) (below : k < length u) → slice_index (ends others) (back k below).0 ≡ slice_index w k
  back_end k below =
      let b = back k below in
      sym (sides.end b.0 b.1) ∙ ap (end_of s) b.2 ∙ ap (origin_of s) (rev-rev (slice_index u k)) ∙ start k below

  back_start : (k : ℕ) (below : k < length u) → slice_index (starts others) (back k below).0 ≡ slice_index (turned w) k
  back_start k below = let b = back k below in sym (sides.start b.0 b.1) ∙ ap (origin_of s) b.2 ∙ end k below

  back_alone : (k : ℕ) (below : k < length u) → IsAlone others (back k below).0
  back_alone k below =
      let b = back k below in record {
        below = b.1;
        alone = λ q q_in leads.
            let one : item q ≡ slice_index u k =
            simple (item q) (slice_index u k) (sides.live q q_in) (live k below)
            (sides.start q q_in ∙ leads.0 ∙ back_end k below ∙ sym (start k below))
            (sides.end q q_in ∙ leads.1 ∙ back_start k below ∙ sym (end k below)) in
            omega (arith, sides.face q q_in, ap (face_of s) one, on_outer k below);
      }

  -- what follows on the border is told by where it starts
  follows : (j k : ℕ) (j_in : j < length u) (k_in : k < length u) → slice_index w k ≡ slice_index (turned w) j
      → slice_index c.next (rev (l.number (back j j_in).0)) ≡ rev (l.number (back k k_in).0)
  follows j k j_in k_in joined =
      let b = back j j_in in
      let d = back k k_in in
      l.around (rev (l.number b.0)) (rev (l.number d.0)) (turned_in vertices others c l b.0 b.1) (turned_in vertices others c l d.0 d.1)
      (alone_bare vertices others c l b.0 (back_alone j j_in)) (alone_bare vertices others c l d.0 (back_alone k k_in))
      (l.end d.0 d.1 ∙ back_end k k_in ∙ joined ∙ sym (back_start j j_in) ∙ sym (l.start b.0 b.1) ∙ ap (slice_index c.origin) (sym (rev-rev (l.number b.0))))

  once : (k : ℕ) → 0 < k → k < length w → slice_index w k ≢ slice_index w 0
  once k some below same =
      let k_in : k < length u = omega (arith, below, as_long) in
      let zero_in : 0 < length u = omega (arith, k_in) in
      let last : ℕ = length u - 1 in
      let last_in : last < length u = omega (arith, zero_in) in
      let wraps : slice_index (turned w) last ≡ slice_index w 0 = turned_last w last (omega (arith, as_long, zero_in)) in
      let equal : rev (l.number (back k k_in).0) ≡ rev (l.number (back 0 zero_in).0) =
      sym (follows last k last_in k_in (same ∙ sym wraps)) ∙ follows last 0 last_in zero_in (sym wraps) in
      let number : l.number (back k k_in).0 ≡ l.number (back 0 zero_in).0 =
      sym (rev-rev (l.number (back k k_in).0)) ∙ ap rev equal ∙ rev-rev (l.number (back 0 zero_in).0) in
      let side : (back k k_in).0 ≡ (back 0 zero_in).0 = l.one_to_one (back k k_in).0 (back 0 zero_in).0 (back k k_in).1 (back 0 zero_in).1 number in
      let turn : rev (slice_index u k) ≡ rev (slice_index u 0) = sym (back k k_in).2 ∙ ap item side ∙ (back 0 zero_in).2 in
      let one : slice_index u k ≡ slice_index u 0 = sym (rev-rev (slice_index u k)) ∙ ap rev turn ∙ rev-rev (slice_index u 0) in
      let place : k ≡ 0 = one_place u k 0 each_once k_in zero_in one in
      omega (arith, place, some)
    where
      each_once : (x : ℕ) → count_of x u ≤ 1
      each_once x = omega (arith, count-turn x has.outside.turns, count-le (map_of s) s.words stands x 0)

  pub lies_beyond : LiesBeyond others w
  lies_beyond = record {
    some = has.some;
    back = λ k below.
        let k_in : k < length u = omega (arith, below, as_long) in
        ((back k k_in).0, back_alone k k_in, back_end k k_in, back_start k k_in);
    once = once;
  }

-- what a refusal leaves
module _ (V DE UE F : Type 0) (vertices : ℕ) (faces : List (List ℕ)) (outer : ℕ) where
  pub others_leave : (told : FacesError) (reason : FacesError) → Means vertices (without outer faces) reason → told ≡ told_in outer reason
      → LeavesOthers V DE UE F vertices faces outer told
  others_leave told (FewCorners f) means is = subst (LeavesOthers V DE UE F vertices faces outer) (sym is) (λ m mesh simple has. leaves V DE UE F vertices (without outer faces) (FewCorners f) means m mesh simple has.inner)
  others_leave told TooManyCorners means is = subst (LeavesOthers V DE UE F vertices faces outer) (sym is) tt
  others_leave told (NoVertex f a) means is = subst (LeavesOthers V DE UE F vertices faces outer) (sym is) (λ m mesh simple has. leaves V DE UE F vertices (without outer faces) (NoVertex f a) means m mesh simple has.inner)
  others_leave told (OneEnd f a) means is = subst (LeavesOthers V DE UE F vertices faces outer) (sym is) (λ m mesh simple has. leaves V DE UE F vertices (without outer faces) (OneEnd f a) means m mesh simple has.inner)
  others_leave told (SideTwice f g a b) means is = subst (LeavesOthers V DE UE F vertices faces outer) (sym is) (λ m mesh simple has. leaves V DE UE F vertices (without outer faces) (SideTwice f g a b) means m mesh simple has.inner)
  others_leave told (BorderTwice a) means is = subst (LeavesOthers V DE UE F vertices faces outer) (sym is) (λ m mesh simple has. leaves V DE UE F vertices (without outer faces) (BorderTwice a) means m mesh simple has.inner)
  others_leave told Closed means is = subst (LeavesOthers V DE UE F vertices faces outer) (sym is) (λ m mesh simple has. leaves V DE UE F vertices (without outer faces) Closed means m mesh simple has.inner)
  others_leave told Borders means is = subst (LeavesOthers V DE UE F vertices faces outer) (sym is) (λ m mesh simple has. leaves V DE UE F vertices (without outer faces) Borders means m mesh simple has.inner)
  others_leave told (NotConnected h) means is = subst (LeavesOthers V DE UE F vertices faces outer) (sym is) (λ m mesh simple has. leaves V DE UE F vertices (without outer faces) (NotConnected h) means m mesh simple has.inner)
  others_leave told (Links fault) means is = subst (LeavesOthers V DE UE F vertices faces outer) (sym is) (λ m mesh simple has. leaves V DE UE F vertices (without outer faces) (Links fault) means m mesh simple has.inner)
  others_leave told OutOfMemory means is = subst (LeavesOthers V DE UE F vertices faces outer) (sym is) tt

  pub leaves_closed : (reason : ClosedFacesError) → MeansOf vertices faces outer reason → LeavesOf V DE UE F vertices faces outer reason
  leaves_closed NoFace means = λ m mesh simple has. let named = has.named in omega (arith, named, means)
  leaves_closed OtherBorder means = λ m mesh simple has. means.other (lies_beyond m mesh simple vertices faces outer has means.claim means.linked)
  leaves_closed (Others told) means = others_leave told means.reason means.means means.is

-- the mesh of links whose border goes round the outer face
round_some : {A : Type 0} (links : LinkLists A) (start : ℕ) (w : List ℕ) → GoesRound links start w → 0 < length w
round_some links start [] goes = absurd goes
round_some links start (a ∷ w) goes = omega arith

pub made_all : {A : Type 0} (links : LinkLists A) (vertices many : ℕ) (s : Shape) (faces : List (List ℕ)) (outer : ℕ) → FacesAreCycles s → outer < length faces
    → IsLinked s (lists_claim links vertices many) → AreLinks vertices (without outer faces) (lists_claim links vertices many)
    → ((start : ℕ) × GoesRound links start (slice_index_or faces outer [])) → HasAllCorners s vertices faces outer
made_all links vertices many s faces outer cycles named linked l round = record {
  named = named;
  some = round_some links round.0 (slice_index_or faces outer []) round.1;
  inner =
      has_corners s vertices (without outer faces) (lists_claim links vertices many) linked l
      (has_faces s cycles vertices (without outer faces) (lists_claim links vertices many) linked l);
  outside = outside links vertices many s linked cycles round.0 (slice_index_or faces outer []) round.1;
}

-- links whose border doesn't go round it show that it lies elsewhere
pub other_border : {A : Type 0} (links : LinkLists A) (vertices many : ℕ) (faces : List (List ℕ)) (outer : ℕ)
    → AreLinks vertices (without outer faces) (lists_claim links vertices many)
    → ((start : ℕ) → StartsOutside links (slice_index (slice_index_or faces outer []) 0) start → HasOtherStart links (slice_index_or faces outer []))
    → HasOtherBorder vertices faces outer
other_border links vertices many faces outer l other = record {
  claim = lists_claim links vertices many;
  linked = l;
  other = λ lies. no_other links vertices many (without outer faces) l (slice_index_or faces outer []) lies other;
}
