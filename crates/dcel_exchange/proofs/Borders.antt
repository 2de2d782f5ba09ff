-- The border that numbered sides leave, and the links.
use Rattle.std.proofs.Common.{◌≡◌, ◌≢◌, inl, inr, ℕ, ◌+◌, ◌^◌, ◌<◌, ◌≤◌, List, [], ◌∷◌, ◌++◌, length, slice_index, slice_index_or, slice_set, Option, Some, None, Result, Ok, Err, IfErr, IsErr, IsErrAnd, refl, sym, ap, ◌∙◌, subst, arith}
use Rattle.std.proofs.lemmas.Bool.{cases_eq}
use Rattle.std.proofs.lemmas.List.{get_or-set_other, get_or-set_same, get_or_append_left, get_or_at, length_push}
use Rattle.dcel_fixed.specs.HalfEdges.{rev}
use Rattle.dcel_links.specs.Claims.{claim}
use Rattle.dcel_exchange.specs.Bordering.{AreFound, AreLinked}
use Rattle.dcel_exchange.specs.Corners.{AreSides, afters, ends, owners, starts}
use Rattle.dcel_exchange.specs.Meshes.{AreLinks, side_count}
use Rattle.dcel_exchange.specs.Numbering.{AreDistinct, AreNumbered}
use Rattle.dcel_exchange.specs.Reasons.{EndTwice, Means, Tells}
use Rattle.dcel_exchange.specs.declared.refusal.FacesError.{FacesError}
use Rattle.dcel_exchange.specs.declared.refusal.FacesError.TheVariants.{BorderTwice, Borders, Closed, FewCorners, Links, NotConnected, NoVertex, OneEnd, OutOfMemory, SideTwice, TooManyCorners}
use Rattle.dcel_exchange.proofs.FirstSides.{each_below, not_none, one_of}

module _ (side : List (Option ℕ)) (origin : List ℕ) where
  module _ (n : ℕ) (border : List (Option ℕ)) (f : AreFound side origin n border) where
    -- the next one is a side
    pub found_side : slice_index_or side n None ≢ None → AreFound side origin (n + 1) border
    found_side other = record {
      each = each_below (λ h. slice_index_or side h None ≡ None → slice_index_or border (slice_index origin h) None ≡ Some h) n f.each (λ bare. absurd (other bare));
      only = λ v h found. let was = f.only v h found in (omega (arith, was.0), was.1, was.2);
    }

    -- the next one is none, and the first at its vertex
    pub found_one : slice_index_or side n None ≡ None → slice_index origin n < length border → slice_index_or border (slice_index origin n) None ≡ None
        → AreFound side origin (n + 1) (slice_set border (slice_index origin n) (Some n))
    found_one bare within free =
        let v : ℕ = slice_index origin n in
        let here : slice_index_or (slice_set border v (Some n)) v None ≡ Some n = get_or-set_same border v (Some n) None within in record {
          each = each_below (λ h. slice_index_or side h None ≡ None → slice_index_or (slice_set border v (Some n)) (slice_index origin h) None ≡ Some h) n
              (λ h below is. let was = f.each h below is in
              get_or-set_other border v (slice_index origin h) (Some n) None
              (λ same. not_none h (sym was ∙ ap (λ k. slice_index_or border k None) same ∙ free)) ∙ was)
              (λ is. here);
          only = λ w h found. elim (cases_eq w v) [
            | inl same ↦ let is : n ≡ h = one_of n h (sym here ∙ ap (λ k. slice_index_or (slice_set border v (Some n)) k None) (sym same) ∙ found) in
                subst (λ k. (k < n + 1) × (slice_index_or side k None ≡ None) × (slice_index origin k ≡ w)) is (omega arith, bare, sym same)
            | inr apart ↦ let was = f.only w h (sym (get_or-set_other border v w (Some n) None apart) ∙ found) in (omega (arith, was.0), was.1, was.2)
          ];
        }

-- two half edges at one vertex lie beyond two sides that end there
pub end_twice : (from to face half : List ℕ) (side : List (Option ℕ)) (origin : List ℕ) (border : List (Option ℕ)) (n v h : ℕ)
    → AreNumbered from to (length from) half side origin → AreFound side origin n border → n < length origin
    → slice_index_or side n None ≡ None → slice_index origin n ≡ v → slice_index_or border v None ≡ Some h → EndTwice from to face v
end_twice from to face half side origin border n v h u f within bare at found =
    let other = f.only v h found in
    let one = u.bare h (omega (arith, other.0)) other.1 in
    let two = u.bare n within bare in record {
      one = one.0;
      other = two.0;
      apart = λ same. let equal : h ≡ n = sym one.2 ∙ ap (λ p. rev (slice_index half p)) same ∙ two.2 in omega (arith, equal, other.0);
      one_below = one.1;
      other_below = two.1;
      one_ends = sym (u.end one.0 one.1) ∙ ap (slice_index origin) one.2 ∙ other.2;
      other_ends = sym (u.end two.0 two.1) ∙ ap (slice_index origin) two.2 ∙ at;
      one_alone = one.3;
      other_alone = two.3;
    }

module _ (side : List (Option ℕ)) (half after face origin : List ℕ) (border : List (Option ℕ)) where
  pub linked_one : (n : ℕ) (nexts faces nexts' faces' : List ℕ) (x y : ℕ) → AreLinked side half after face origin border n nexts faces
      → nexts' ≡ nexts ++ x ∷ [] → faces' ≡ faces ++ y ∷ []
      → ((p : ℕ) → slice_index_or side n None ≡ Some p → x ≡ slice_index half (slice_index after p))
      → ((p : ℕ) → slice_index_or side n None ≡ Some p → y ≡ slice_index face p + 1)
      → (slice_index_or side n None ≡ None → y ≡ 0)
      → ((k : ℕ) → slice_index_or side n None ≡ None → slice_index_or border (slice_index origin (rev n)) None ≡ Some k → x ≡ k)
      → AreLinked side half after face origin border (n + 1) nexts' faces'
  linked_one n nexts faces nexts' faces' x y l nexts_is faces_is next on bare around =
      let old_next : (h : ℕ) → h < n → slice_index nexts' h ≡ slice_index nexts h =
      λ h below. ap (λ list. slice_index list h) nexts_is ∙ get_or_append_left nexts (x ∷ []) 0 h (let many = l.as_many in omega arith) in
      let old_face : (h : ℕ) → h < n → slice_index faces' h ≡ slice_index faces h =
      λ h below. ap (λ list. slice_index list h) faces_is ∙ get_or_append_left faces (y ∷ []) 0 h (let many = l.as_many_faces in omega arith) in
      let new_next : slice_index nexts' n ≡ x = ap (λ list. slice_index list n) nexts_is ∙ get_or_at nexts x [] 0 n l.as_many in
      let new_face : slice_index faces' n ≡ y = ap (λ list. slice_index list n) faces_is ∙ get_or_at faces y [] 0 n l.as_many_faces in record {
        as_many = ap length nexts_is ∙ length_push nexts x ∙ ap (λ k. k + 1) l.as_many;
        as_many_faces = ap length faces_is ∙ length_push faces y ∙ ap (λ k. k + 1) l.as_many_faces;
        next = λ h p below. each_below (λ k. slice_index_or side k None ≡ Some p → slice_index nexts' k ≡ slice_index half (slice_index after p)) n
            (λ k less is. old_next k less ∙ l.next k p less is) (λ is. new_next ∙ next p is) h below;
        face = λ h p below. each_below (λ k. slice_index_or side k None ≡ Some p → slice_index faces' k ≡ slice_index face p + 1) n
            (λ k less is. old_face k less ∙ l.face k p less is) (λ is. new_face ∙ on p is) h below;
        outer = each_below (λ k. slice_index_or side k None ≡ None → slice_index faces' k ≡ 0) n
            (λ k less is. old_face k less ∙ l.outer k less is) (λ is. new_face ∙ bare is);
        around = λ h k below. each_below (λ h. slice_index_or side h None ≡ None → slice_index_or border (slice_index origin (rev h)) None ≡ Some k → slice_index nexts' h ≡ k) n
            (λ h less is found. old_next h less ∙ l.around h k less is found) (λ is found. new_next ∙ around k is found) h below;
      }

-- what is told of the lists of sides is told of the faces
pub told : (vertices : ℕ) (faces : List (List ℕ)) (from to face after : List ℕ) → AreSides faces from to face after → (reason : FacesError)
    → Tells from to face vertices reason → Means vertices faces reason
told vertices faces from to face after s (FewCorners f) tells = absurd tells
told vertices faces from to face after s TooManyCorners tells = absurd tells
told vertices faces from to face after s (NoVertex f a) tells = rw (← s.from_is, ← s.to_is, ← s.face_is) tells
told vertices faces from to face after s (OneEnd f a) tells = rw (← s.from_is, ← s.to_is, ← s.face_is) tells
told vertices faces from to face after s (SideTwice f g a b) tells = rw (← s.from_is, ← s.to_is, ← s.face_is) tells
told vertices faces from to face after s (BorderTwice a) tells = rw (← s.from_is, ← s.to_is, ← s.face_is) tells
told vertices faces from to face after s Closed tells = absurd tells
told vertices faces from to face after s Borders tells = absurd tells
told vertices faces from to face after s (NotConnected h) tells = absurd tells
told vertices faces from to face after s (Links fault) tells = absurd tells
told vertices faces from to face after s OutOfMemory tells = tt

-- the links of numbered sides are links of the faces
module _ (vertices : ℕ) (faces : List (List ℕ)) (half : List ℕ) (side : List (Option ℕ)) (origin nexts on : List ℕ) (border : List (Option ℕ))
    (u : AreNumbered (starts faces) (ends faces) (side_count faces) half side origin) (f : AreFound side origin (length origin) border)
    (l : AreLinked side half (afters 0 faces) (owners 0 faces) origin border (length origin) nexts on)
    (long : (f : ℕ) → f < length faces → 3 ≤ length (slice_index_or faces f [])) (few : side_count faces ≤ 2 ^ 31)
    (distinct : AreDistinct (starts faces) (ends faces) (side_count faces)) where
  are_links : AreLinks vertices faces (claim nexts origin on vertices (length faces + 1))
  are_links =
      let many = l.as_many in record {
        long = long;
        few = few;
        distinct = distinct;
        number = λ p. slice_index half p;
        numbered = record { first = u.first; second = u.second };
        lists = record { even = let e = u.edges in omega (arith, many, e); origins = sym many; sides = l.as_many_faces ∙ sym many };
        vertices_are = refl;
        half_edges = l.as_many ∙ u.edges;
        faces_are = refl;
        below = λ p below. let r = u.in_range p below in omega arith;
        one_to_one = λ p q lp lq same. one_of p q (sym (u.placed p lp) ∙ ap (λ h. slice_index_or side h None) same ∙ u.placed q lq);
        next = λ p below. l.next (slice_index half p) p (u.in_range p below) (u.placed p below);
        start = u.start;
        end = u.end;
        face = λ p below. l.face (slice_index half p) p (u.in_range p below) (u.placed p below);
        border = λ h below none. l.outer h (omega (arith, below, many)) (bare h none);
        beyond = λ h below none.
            let b = u.bare h (omega (arith, below, many)) (bare h none) in
            record { side = b.0; within = b.1; turn = b.2; alone = b.3 };
        around = λ h k h_in k_in h_none k_none start.
            l.around h k (omega (arith, h_in, many)) (bare h h_none)
            (ap (λ v. slice_index_or border v None) (sym start) ∙ f.each k (omega (arith, k_in, many)) (bare k k_none));
      }
    where
      bare : (h : ℕ) → ((p : ℕ) → p < side_count faces → slice_index half p ≢ h) → slice_index_or side h None ≡ None
      bare h none = of_option (slice_index_or side h None) (λ p is. let was = u.only h p is in none p was.0 was.1)
        where
          of_option : (o : Option ℕ) → ((p : ℕ) → o ≡ Some p → ⊥) → o ≡ None
          of_option None none_such = refl
          of_option (Some p) none_such = absurd (none_such p refl)

pub made_links : (vertices : ℕ) (faces : List (List ℕ)) (from to face after half : List ℕ) (side : List (Option ℕ)) (origin nexts on : List ℕ) (border : List (Option ℕ))
    → AreSides faces from to face after → AreNumbered from to (length from) half side origin → AreDistinct from to (length from)
    → AreFound side origin (length origin) border → AreLinked side half after face origin border (length origin) nexts on
    → AreLinks vertices faces (claim nexts origin on vertices (length faces + 1))
made_links vertices faces from to face after half side origin nexts on border s u d f l =
    are_links vertices faces half side origin nexts on border (rw (← s.from_is, ← s.to_is) u) f (rw (← s.after_is, ← s.face_is) l) s.long
    (let many = ap length s.from_is in let most = s.few in omega (arith, many, most)) (rw (← s.from_is, ← s.to_is) d)

-- an error that is passed on
pub passed_on : {T : Type 0} (P : FacesError → Type 0) (r : Result T FacesError) (e : FacesError) → IsErr r × IsErrAnd r (λ y. y ≡ e) → P e → IfErr r P
passed_on P (Ok x) e both p = tt
passed_on P (Err y) e both p = subst P (sym both.1) p
