-- Places inside triangles, and on one side of lines.
use Rattle.std.proofs.Common.{◌≡◌, [], ◌∷◌, ℤ, pos, ◌+ℤ◌, ◌*ℤ◌, ◌<ℤ◌, ◌≤ℤ◌, neg_ℤ, refl, sym, subst, arith}
use Rattle.std.proofs.lemmas.Int.{by_lt_z}
use Rattle.dcel_predicates.specs.Determinants.{orient2d_of}
use Rattle.dcel_predicates.specs.declared.point.Point.{Point}
use Rattle.dcel_predicates.proofs.Ring.{Term, by_terms, minus, num, plus, times as by, var}
use Rattle.dcel_predicates.proofs.Signs.{ordered, square, times, times_positive}
use Rattle.dcel_predicates.proofs.Terms.{Where, orient, orient_in, place, spot}
use Rattle.dcel_plane.specs.covering.Covering.{Covers, dot}
use Rattle.dcel_plane.specs.covering.Places.{AreDisjoint, IsIn, IsStrictlyIn, Place, orient_at}
use Rattle.dcel_plane.proofs.covering.Products.{outweighs, sum_not_below, sum_positive}

pub on_start : (a d : Point) → orient2d_of a d d ≡ pos 0
on_start a d = by_terms (a.x ∷ a.y ∷ d.x ∷ d.y ∷ []) (orient (spot 0) (spot 1) (spot 1)) (num (pos 0)) refl

pub on_end : (d b : Point) → orient2d_of d b d ≡ pos 0
on_end d b = by_terms (d.x ∷ d.y ∷ b.x ∷ b.y ∷ []) (orient (spot 0) (spot 1) (spot 0)) (num (pos 0)) refl

pub same_place : (a b c d : Point) → c.x ≡ d.x → c.y ≡ d.y → orient2d_of a b c ≡ orient2d_of a b d
same_place a b c d ex ey = rw (ex, ey) refl

pub apart_start : (a b : Point) → dot a b a ≡ pos 0
apart_start a b =
    by_terms (a.x ∷ a.y ∷ b.x ∷ b.y ∷ [])
    (plus (by (minus (spot 0).x (spot 0).x) (minus (spot 1).x (spot 0).x)) (by (minus (spot 0).y (spot 0).y) (minus (spot 1).y (spot 0).y))) (num (pos 0)) refl

pub apart_end : (a b : Point) → dot a b b ≡ pos 0
apart_end a b =
    by_terms (a.x ∷ a.y ∷ b.x ∷ b.y ∷ [])
    (plus (by (minus (spot 0).x (spot 1).x) (minus (spot 1).x (spot 1).x)) (by (minus (spot 0).y (spot 1).y) (minus (spot 1).y (spot 1).y))) (num (pos 0)) refl

pub other_way : (a b : Point) (p : Place) → orient_at b a p ≡ neg_ℤ (orient_at a b p)
other_way a b p = back (orient_at b a p) (orient_at a b p) sums
  where
    sums : orient_at b a p +ℤ orient_at a b p ≡ pos 0
    sums =
        by_terms (a.x ∷ a.y ∷ b.x ∷ b.y ∷ p.x ∷ p.y ∷ p.w ∷ []) (plus (orient_in (spot 1) (spot 0) (place 4)) (orient_in (spot 0) (spot 1) (place 4))) (num (pos 0)) refl

    back : (x y : ℤ) → x +ℤ y ≡ pos 0 → x ≡ neg_ℤ y
    back x y is = omega (arith, ordered, is)

-- a vertex as a place
abbrev pub place_of : Point → Place
place_of v = record { x = v.x; y = v.y; w = pos 1; above = omega (arith, ordered) }

pub as_place : (a b v : Point) → orient_at a b (place_of v) ≡ orient2d_of a b v
as_place a b v =
    by_terms (a.x ∷ a.y ∷ b.x ∷ b.y ∷ v.x ∷ v.y ∷ [])
    (orient_in (spot 0) (spot 1) (record { x = (spot 2).x; y = (spot 2).y; w = num (pos 1) })) (orient (spot 0) (spot 1) (spot 2)) refl

pub as_covered : (a b c v : Point) → Covers a b c v → IsIn a b c (place_of v)
as_covered a b c v covers =
    (subst (λ z. pos 0 ≤ℤ z) (sym (as_place a b v)) covers.0, subst (λ z. pos 0 ≤ℤ z) (sym (as_place b c v)) covers.1, subst (λ z. pos 0 ≤ℤ z) (sym (as_place c a v)) covers.2)

-- On which side of the line from e to f a place lies, by the corners of a triangle.
module _ (a b c e f : Point) (p : Place) where
  pub weighed : orient_at e f p *ℤ orient2d_of a b c
      ≡ ((orient_at b c p *ℤ orient2d_of e f a) +ℤ (orient_at c a p *ℤ orient2d_of e f b)) +ℤ (orient_at a b p *ℤ orient2d_of e f c)
  weighed =
      by_terms (a.x ∷ a.y ∷ b.x ∷ b.y ∷ c.x ∷ c.y ∷ e.x ∷ e.y ∷ f.x ∷ f.y ∷ p.x ∷ p.y ∷ p.w ∷ [])
      (by (orient_in (spot 3) (spot 4) (place 10)) (orient (spot 0) (spot 1) (spot 2)))
      (plus (plus (by (orient_in (spot 1) (spot 2) (place 10)) (orient (spot 3) (spot 4) (spot 0)))
      (by (orient_in (spot 2) (spot 0) (place 10)) (orient (spot 3) (spot 4) (spot 1))))
      (by (orient_in (spot 0) (spot 1) (place 10)) (orient (spot 3) (spot 4) (spot 2)))) refl

  module _ (turn : pos 0 <ℤ orient2d_of a b c) (at_a : pos 0 ≤ℤ orient2d_of e f a) (at_b : pos 0 ≤ℤ orient2d_of e f b) (at_c : pos 0 ≤ℤ orient2d_of e f c) where
    pub not_right : IsIn a b c p → pos 0 ≤ℤ orient_at e f p
    not_right h =
        sum_not_below (orient_at e f p) (orient2d_of a b c) (orient_at b c p) (orient_at c a p) (orient_at a b p) (orient2d_of e f a) (orient2d_of e f b) (orient2d_of e f c)
        weighed turn h.1 h.2 h.0 at_a at_b at_c

    pub left : pos 0 <ℤ (orient2d_of e f a +ℤ orient2d_of e f b +ℤ orient2d_of e f c) → IsStrictlyIn a b c p → pos 0 <ℤ orient_at e f p
    left some h =
        sum_positive (orient_at e f p) (orient2d_of a b c) (orient_at b c p) (orient_at c a p) (orient_at a b p) (orient2d_of e f a) (orient2d_of e f b) (orient2d_of e f c)
        weighed turn h.1 h.2 h.0 at_a at_b at_c some

-- n times the place p, and q
pub nudged : (n : ℤ) → pos 0 <ℤ n → Place → Place → Place
nudged n more p q = record {
  x = (n *ℤ p.x) +ℤ q.x;
  y = (n *ℤ p.y) +ℤ q.y;
  w = (n *ℤ p.w) +ℤ q.w;
  above = let t = times_positive n p.w more p.above in let a = q.above in omega (arith, ordered, t, a);
}

pub nudged-is : (n : ℤ) (more : pos 0 <ℤ n) (p q : Place) (a b : Point) → orient_at a b (nudged n more p q) ≡ (n *ℤ orient_at a b p) +ℤ orient_at a b q
unfolding nudged
nudged-is n more p q a b =
    by_terms (a.x ∷ a.y ∷ b.x ∷ b.y ∷ p.x ∷ p.y ∷ p.w ∷ q.x ∷ q.y ∷ q.w ∷ n ∷ [])
    (orient_in (spot 0) (spot 1) (record { x = plus (by n' (place 4).x) (place 7).x; y = plus (by n' (place 4).y) (place 7).y; w = plus (by n' (place 4).w) (place 7).w }))
    (plus (by n' (orient_in (spot 0) (spot 1) (place 4))) (orient_in (spot 0) (spot 1) (place 7))) refl
  where
    n' : Term
    n' = var 10

-- the middle of a triangle lies inside it
abbrev pub middle : Point → Point → Point → Place
middle a b c = record { x = a.x +ℤ b.x +ℤ c.x; y = a.y +ℤ b.y +ℤ c.y; w = pos 3; above = omega (arith, ordered) }

module _ (a b c : Point) where
  abbrev middle_in : Where
  middle_in = record { x = plus (plus (spot 0).x (spot 1).x) (spot 2).x; y = plus (plus (spot 0).y (spot 1).y) (spot 2).y; w = num (pos 3) }

  pub middle-first : orient_at a b (middle a b c) ≡ orient2d_of a b c
  middle-first = by_terms (a.x ∷ a.y ∷ b.x ∷ b.y ∷ c.x ∷ c.y ∷ []) (orient_in (spot 0) (spot 1) middle_in) (orient (spot 0) (spot 1) (spot 2)) refl

  pub middle-second : orient_at b c (middle a b c) ≡ orient2d_of a b c
  middle-second = by_terms (a.x ∷ a.y ∷ b.x ∷ b.y ∷ c.x ∷ c.y ∷ []) (orient_in (spot 1) (spot 2) middle_in) (orient (spot 0) (spot 1) (spot 2)) refl

  pub middle-third : orient_at c a (middle a b c) ≡ orient2d_of a b c
  middle-third = by_terms (a.x ∷ a.y ∷ b.x ∷ b.y ∷ c.x ∷ c.y ∷ []) (orient_in (spot 2) (spot 0) middle_in) (orient (spot 0) (spot 1) (spot 2)) refl

  pub middle_inside : pos 0 <ℤ orient2d_of a b c → IsStrictlyIn a b c (middle a b c)
  middle_inside turn =
      (subst (λ z. pos 0 <ℤ z) (sym middle-first) turn, subst (λ z. pos 0 <ℤ z) (sym middle-second) turn, subst (λ z. pos 0 <ℤ z) (sym middle-third) turn)

-- Near a place p that lies left of four lines and in a triangle, or on its border, is one that lies left of them too, and inside the triangle.
pub record IsNear (a b a' b' a'' b'' a''' b''' : Point) (x y z : Point) : Type 0 where
  pub place : Place
  pub first : pos 0 <ℤ orient_at a b place
  pub second : pos 0 <ℤ orient_at a' b' place
  pub third : pos 0 <ℤ orient_at a'' b'' place
  pub fourth : pos 0 <ℤ orient_at a''' b''' place
  pub inside : IsStrictlyIn x y z place

pub near_place : (a b a' b' a'' b'' a''' b''' x y z : Point) (p : Place) → pos 0 <ℤ orient_at a b p → pos 0 <ℤ orient_at a' b' p → pos 0 <ℤ orient_at a'' b'' p
    → pos 0 <ℤ orient_at a''' b''' p → pos 0 <ℤ orient2d_of x y z → IsIn x y z p → IsNear a b a' b' a'' b'' a''' b''' x y z
near_place a b a' b' a'' b'' a''' b''' x y z p first second third fourth turn within =
    let q = middle x y z in
    let i = orient_at a b q in
    let j = orient_at a' b' q in
    let k = orient_at a'' b'' q in
    let l = orient_at a''' b''' q in
    let n = pos 1 +ℤ (i *ℤ i) +ℤ (j *ℤ j) +ℤ (k *ℤ k) +ℤ (l *ℤ l) in
    let si = square i in
    let sj = square j in
    let sk = square k in
    let sl = square l in
    let more : pos 0 <ℤ n = omega (arith, ordered, si, sj, sk, sl) in
    let m = middle_inside x y z turn in
    record {
      place = nudged n more p q;
      first = subst (λ z. pos 0 <ℤ z) (sym (nudged-is n more p q a b)) (outweighs n (orient_at a b p) i first (omega (arith, ordered, sj, sk, sl)));
      second = subst (λ z. pos 0 <ℤ z) (sym (nudged-is n more p q a' b')) (outweighs n (orient_at a' b' p) j second (omega (arith, ordered, si, sk, sl)));
      third = subst (λ z. pos 0 <ℤ z) (sym (nudged-is n more p q a'' b'')) (outweighs n (orient_at a'' b'' p) k third (omega (arith, ordered, si, sj, sl)));
      fourth = subst (λ z. pos 0 <ℤ z) (sym (nudged-is n more p q a''' b''')) (outweighs n (orient_at a''' b''' p) l fourth (omega (arith, ordered, si, sj, sk)));
      inside = (
        subst (λ z. pos 0 <ℤ z) (sym (nudged-is n more p q x y)) (both n (orient_at x y p) (orient_at x y q) more within.0 m.0),
        subst (λ z. pos 0 <ℤ z) (sym (nudged-is n more p q y z)) (both n (orient_at y z p) (orient_at y z q) more within.1 m.1),
        subst (λ z. pos 0 <ℤ z) (sym (nudged-is n more p q z x)) (both n (orient_at z x p) (orient_at z x q) more within.2 m.2),
      );
    }
  where
    both : (n s t : ℤ) → pos 0 <ℤ n → pos 0 ≤ℤ s → pos 0 <ℤ t → pos 0 <ℤ ((n *ℤ s) +ℤ t)
    both n s t more not is = let h = times n s (omega (arith, ordered)) not in omega (arith, ordered, h)

-- so of two disjoint triangles none has a place of the other one's inside on its border either
pub closed_disjoint : (a b c x y z : Point) → AreDisjoint a b c x y z → pos 0 <ℤ orient2d_of x y z → (p : Place) → IsStrictlyIn a b c p → IsIn x y z p → ⊥
closed_disjoint a b c x y z disjoint turn p inside within =
    let near = near_place a b b c c a c a x y z p inside.0 inside.1 inside.2 inside.2 turn within in
    disjoint near.place (near.first, near.second, near.third) near.inside

-- two triangles (a, b, c) and (b, a, d) at an edge, disjoint from (x, y, z)
module _ (a b c d x y z : Point) (near : pos 0 <ℤ orient2d_of a b c) (first : AreDisjoint a b c x y z) (second : AreDisjoint b a d x y z) where
  -- so is their quadrilateral
  pub none_in_both : (p : Place) → pos 0 <ℤ orient_at b c p → pos 0 <ℤ orient_at c a p → pos 0 <ℤ orient_at a d p → pos 0 <ℤ orient_at d b p → IsStrictlyIn x y z p → ⊥
  none_in_both p bc ca ad db inside =
      by_lt_z (pos 0) (orient_at a b p) (λ more. first p (more, bc, ca) inside)
      (λ not. by_lt_z (orient_at a b p) (pos 0)
      (λ less. let e = other_way a b p in second p (omega (arith, ordered, e, less), ad, db) inside)
      (λ on. closed_disjoint x y z a b c (λ q one other. first q other one) near p inside (on, omega (arith, ordered, bc), omega (arith, ordered, ca))))

  -- and a point within it lies in no other triangle
  pub split_new_apart : (q : Point) → pos 0 <ℤ orient2d_of b c q → pos 0 <ℤ orient2d_of c a q → pos 0 <ℤ orient2d_of a d q → pos 0 <ℤ orient2d_of d b q
      → pos 0 <ℤ orient2d_of x y z → ¬ Covers x y z q
  split_new_apart q bc ca ad db turn covers =
      let near_q = near_place b c c a a d d b x y z (place_of q)
      (subst (λ i. pos 0 <ℤ i) (sym (as_place b c q)) bc) (subst (λ i. pos 0 <ℤ i) (sym (as_place c a q)) ca)
      (subst (λ i. pos 0 <ℤ i) (sym (as_place a d q)) ad) (subst (λ i. pos 0 <ℤ i) (sym (as_place d b q)) db) turn (as_covered x y z q covers) in
      none_in_both near_q.place near_q.first near_q.second near_q.third near_q.fourth near_q.inside
