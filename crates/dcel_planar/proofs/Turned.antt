-- A run of flips that is under way: what it keeps, and that it ends.
use Rattle.std.proofs.Common.{◌≡◌, inl, inr, ℕ, ◌-◌, ◌<◌, List, [], ◌∷◌, ◌++◌, length, slice_get, take, Some, None, refl, sym, ap, ◌∙◌, subst, arith}
use Rattle.std.proofs.lemmas.Bool.{cases_lt}
use Rattle.std.proofs.lemmas.List.{append-nil}
use Rattle.dcel_predicates.specs.declared.point.Point.{Point}
use Rattle.dcel_maps.specs.Conditions.{CanFlip}
use Rattle.dcel_maps.specs.edits.Flip.{edge_flipped}
use Rattle.dcel_maps.specs.Shapes.{IsMesh, Mesh}
use Rattle.dcel_maps.specs.Words.{count_of}
use Rattle.dcel_maps.proofs.edits.Flips.{flipped_mesh}
use Rattle.dcel_maps.proofs.words.Counts.{count-append, last_or_before}
use Rattle.dcel_plane.specs.Plane.{IsCircled, IsInner, IsLocallyDelaunay, ListsCircled, TrianglesTurnLeft, point_at}
use Rattle.dcel_plane.specs.Volume.{volume_below}
use Rattle.dcel_plane.proofs.edits.Flipped.{circled_can_flip, flip_lists, flip_plane}
use Rattle.dcel_plane.proofs.edits.Volumes.{volume_falls}
use Rattle.dcel_legalize.specs.Flipping.{edges_flipped, sides_beside}
use Rattle.dcel_legalize.proofs.Course.{flipped-append}
use Rattle.dcel_planar.specs.Turning.{AreCircled, IsTurnedTo}

-- a list by what stands before its last item
last_at : (x : ℕ) (r : List ℕ) (u : ℕ) → slice_get (x ∷ r) (length r) ≡ Some u → x ∷ r ≡ take (length r) (x ∷ r) ++ u ∷ []
last_at x [] u is = let same : x ≡ u = cc in ap (λ (k : ℕ). k ∷ []) same
last_at x (y ∷ r) u is = ap (λ (l : List ℕ). x ∷ l) (last_at y r u is)

pub last_is : (l : List ℕ) (u : ℕ) → slice_get l (length l - 1) ≡ Some u → l ≡ take (length l - 1) l ++ u ∷ []
last_is [] u is = absurd (cc)
last_is (x ∷ r) u is =
    let at : length (x ∷ r) - 1 ≡ length r = omega arith in
    subst (λ (i : ℕ). x ∷ r ≡ take i (x ∷ r) ++ u ∷ []) (sym at) (last_at x r u (ap (slice_get (x ∷ r)) (sym at) ∙ is))

-- the same by what `pop` leaves
pub popped : (l front : List ℕ) (k u : ℕ) → k ≡ length l → front ≡ take (k - 1) l → slice_get l (length l - 1) ≡ Some u → l ≡ front ++ u ∷ []
popped l front k u many rest is =
    last_is l u is ∙ ap (λ (r : List ℕ). r ++ u ∷ []) (ap (λ (i : ℕ). take (i - 1) l) (sym many) ∙ sym rest)

none_at : (x : ℕ) (r : List ℕ) → slice_get (x ∷ r) (length r) ≡ None → ⊥
none_at x [] is = cc
none_at x (y ∷ r) is = none_at y r is

-- a list without a last item
pub no_last : (l : List ℕ) → slice_get l (length l - 1) ≡ None → l ≡ []
no_last [] is = refl
no_last (x ∷ r) is = let at : length r ≡ length (x ∷ r) - 1 = omega arith in absurd (none_at x r (ap (slice_get (x ∷ r)) at ∙ is))

module _ {DE UE F : Type 0} where
  circled-append : (m : Mesh Point DE UE F) (us : List ℕ) (u : ℕ) → AreCircled m us
      → IsInner (edges_flipped m us).shape u × IsCircled (point_at (edges_flipped m us)) (edges_flipped m us).shape u → AreCircled m (us ++ u ∷ [])
  circled-append m [] u are last = (last, tt)
  circled-append m (v ∷ us) u are last = (are.0, circled-append (edge_flipped m v) us u are.1 last)

  pub unturned : (m : Mesh Point DE UE F) → IsTurnedTo m m
  unturned m = record { turned = []; circled = tt; is = refl }

  pub turned_more : (m n : Mesh Point DE UE F) (u : ℕ) → IsTurnedTo m n → IsInner n.shape u → IsCircled (point_at n) n.shape u → IsTurnedTo m (edge_flipped n u)
  turned_more m n u before inner circled =
      let at : n ≡ edges_flipped m before.turned = before.is in
      record {
        turned = before.turned ++ u ∷ [];
        circled =
            circled-append m before.turned u before.circled
            (subst (λ (k : Mesh Point DE UE F). IsInner k.shape u × IsCircled (point_at k) k.shape u) at (inner, circled));
        is = ap (λ (k : Mesh Point DE UE F). edge_flipped k u) at ∙ sym (flipped-append m before.turned (u ∷ []));
      }

  -- what is kept of the mesh m and the list that a run began with
  pub record IsUnderWay (m : Mesh Point DE UE F) (list : List ℕ) (n : Mesh Point DE UE F) (rest : List ℕ) : Type 0 where
    pub mesh : IsMesh n
    pub plane : TrianglesTurnLeft (point_at n) n.shape
    pub turned : IsTurnedTo m n
    pub due : ListsCircled (point_at m) m.shape list → ListsCircled (point_at n) n.shape rest
    pub others : (lacking : List ℕ) → ListsCircled (point_at m) m.shape (list ++ lacking) → ListsCircled (point_at n) n.shape (rest ++ lacking)

  -- a list that lacks none
  none_lack : (m n : Mesh Point DE UE F) (list rest : List ℕ)
      → ((lacking : List ℕ) → ListsCircled (point_at m) m.shape (list ++ lacking) → ListsCircled (point_at n) n.shape (rest ++ lacking))
      → ListsCircled (point_at m) m.shape list → ListsCircled (point_at n) n.shape rest
  none_lack m n list rest others lists =
      subst (λ (l : List ℕ). ListsCircled (point_at n) n.shape l) (append-nil rest)
      (others [] (subst (λ (l : List ℕ). ListsCircled (point_at m) m.shape l) (sym (append-nil list)) lists))

  pub begins : (m : Mesh Point DE UE F) (list : List ℕ) → IsMesh m → TrianglesTurnLeft (point_at m) m.shape → IsUnderWay m list m list
  begins m list mesh plane = record { mesh = mesh; plane = plane; turned = unturned m; due = λ lists. lists; others = λ lacking lists. lists }

  module _ (m : Mesh Point DE UE F) (list : List ℕ) (n : Mesh Point DE UE F) (front : List ℕ) (u : ℕ) (way : IsUnderWay m list n (front ++ u ∷ [])) where
    -- an edge that isn't circled is taken off
    pub passes : ¬ (IsInner n.shape u × IsCircled (point_at n) n.shape u) → IsUnderWay m list n front
    passes not =
        let others : (lacking : List ℕ) → ListsCircled (point_at m) m.shape (list ++ lacking) → ListsCircled (point_at n) n.shape (front ++ lacking) =
        λ lacking lists v inner circled.
        let found = way.others lacking lists v inner circled in
        let whole = count-append v (front ++ u ∷ []) lacking in
        let wanted = count-append v front lacking in
        elim (cases_lt 0 (count_of v (front ++ u ∷ []))) [
          | inl listed ↦ elim (last_or_before v u front listed) [
            | inl is ↦ absurd (not (subst (λ (k : ℕ). IsInner n.shape k × IsCircled (point_at n) n.shape k) is (inner, circled)))
            | inr there ↦ omega (arith, wanted, there)
          ]
          | inr unlisted ↦ omega (arith, found, whole, wanted, unlisted)
        ] in
        record {
          mesh = way.mesh;
          plane = way.plane;
          turned = way.turned;
          due = none_lack m n list front others;
          others = others;
        }

    module _ (inner : IsInner n.shape u) (circled : IsCircled (point_at n) n.shape u) where
      pub can_flip : CanFlip n.shape u
      can_flip = circled_can_flip n way.mesh u (point_at n) inner circled

      turns_others : (lacking : List ℕ) → ListsCircled (point_at m) m.shape (list ++ lacking)
          → ListsCircled (point_at (edge_flipped n u)) (edge_flipped n u).shape (((front ++ u ∷ []) ++ sides_beside n.shape u) ++ lacking)
      turns_others lacking lists v in_v circled_v =
          let whole = front ++ u ∷ [] in
          let sides = sides_beside n.shape u in
          let found : 0 < count_of v ((whole ++ lacking) ++ (sides ++ u ∷ [])) =
          flip_lists n way.mesh u can_flip (point_at n) (whole ++ lacking) (way.others lacking lists) v in_v circled_v in
          let in_all = count-append v (whole ++ lacking) (sides ++ u ∷ []) in
          let in_whole = count-append v whole lacking in
          let in_sides = count-append v sides (u ∷ []) in
          let own = count-append v front (u ∷ []) in
          let wanted = count-append v (whole ++ sides) lacking in
          let wanted_whole = count-append v whole sides in
          omega (arith, found, in_all, in_whole, in_sides, own, wanted, wanted_whole)

      -- one that is is flipped
      pub turns : IsUnderWay m list (edge_flipped n u) ((front ++ u ∷ []) ++ sides_beside n.shape u)
      turns = record {
        mesh = flipped_mesh n u way.mesh can_flip;
        plane = flip_plane n way.mesh u can_flip (point_at n) inner.inner inner.inner_facing circled way.plane;
        turned = turned_more m n u way.turned inner circled;
        due = none_lack m (edge_flipped n u) list ((front ++ u ∷ []) ++ sides_beside n.shape u) turns_others;
        others = turns_others;
      }

      pub falls : volume_below (point_at (edge_flipped n u)) (edge_flipped n u).shape < volume_below (point_at n) n.shape
      falls = volume_falls n way.mesh u can_flip (point_at n) inner.inner inner.inner_facing circled way.plane

  -- the same for a list that is known to end so
  module _ (m : Mesh Point DE UE F) (list : List ℕ) (n : Mesh Point DE UE F) (rest front : List ℕ) (u : ℕ) (is : rest ≡ front ++ u ∷ []) (way : IsUnderWay m list n rest) where
    pub passes_by : ¬ (IsInner n.shape u × IsCircled (point_at n) n.shape u) → IsUnderWay m list n front
    passes_by not = passes m list n front u (subst (λ (l : List ℕ). IsUnderWay m list n l) is way) not

    pub turns_by : IsInner n.shape u → IsCircled (point_at n) n.shape u → IsUnderWay m list (edge_flipped n u) (rest ++ sides_beside n.shape u)
    turns_by inner circled =
        subst (λ (l : List ℕ). IsUnderWay m list (edge_flipped n u) (l ++ sides_beside n.shape u)) (sym is)
        (turns m list n front u (subst (λ (l : List ℕ). IsUnderWay m list n l) is way) inner circled)

    pub falls_by : (after : Mesh Point DE UE F) → after ≡ edge_flipped n u → IsInner n.shape u → IsCircled (point_at n) n.shape u
        → volume_below (point_at after) after.shape < volume_below (point_at n) n.shape
    falls_by after edit inner circled =
        subst (λ (k : Mesh Point DE UE F). volume_below (point_at k) k.shape < volume_below (point_at n) n.shape) (sym edit)
        (falls m list n front u (subst (λ (l : List ℕ). IsUnderWay m list n l) is way) inner circled)

  -- with an empty list all is done
  pub delaunay : (m : Mesh Point DE UE F) (list : List ℕ) (n : Mesh Point DE UE F) (rest : List ℕ) → IsUnderWay m list n rest → rest ≡ []
      → ListsCircled (point_at m) m.shape list → IsLocallyDelaunay (point_at n) n.shape
  delaunay m list n rest way none lists = record {
    plane = way.plane;
    empty = λ u inner circled.
        let found : 0 < count_of u [] = subst (λ (l : List ℕ). 0 < count_of u l) none (way.due lists u inner circled) in
        omega (arith, found);
  }
