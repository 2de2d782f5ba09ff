-- A run of flips of edges that need not stay: what it keeps, and that it ends.
use Rattle.std.proofs.Common.{◌≡◌, inl, inr, ℕ, ◌<◌, Bool, List, [], ◌∷◌, ◌++◌, refl, sym, ap, ◌∙◌, subst, arith}
use Rattle.std.proofs.lemmas.Bool.{cases_lt}
use Rattle.dcel_predicates.specs.declared.point.Point.{Point}
use Rattle.dcel_maps.specs.Conditions.{CanFlip}
use Rattle.dcel_maps.specs.edits.Flip.{edge_flipped}
use Rattle.dcel_maps.specs.Shapes.{IsMesh, Mesh}
use Rattle.dcel_maps.specs.Words.{count_of}
use Rattle.dcel_maps.proofs.edits.Flips.{flipped_mesh}
use Rattle.dcel_maps.proofs.words.Counts.{count-append, first_or_later, in_either, last_or_before}
use Rattle.dcel_plane.specs.Plane.{IsCircled, IsInner, point_at}
use Rattle.dcel_plane.specs.Volume.{volume_below}
use Rattle.dcel_plane.proofs.edits.Flipped.{circled_can_flip, flip_lists, flip_plane}
use Rattle.dcel_plane.proofs.edits.Volumes.{volume_falls}
use Rattle.dcel_legalize.specs.Flipping.{edges_flipped, sides_beside}
use Rattle.dcel_legalize.proofs.Course.{flipped-append}
use Rattle.dcel_planar.specs.Turning.{AreCircled, IsTurnedTo}
use Rattle.dcel_planar.specs.Growing.{HasOutside, IsTriangleMesh, Keeps}
use Rattle.dcel_planar.specs.Leaving.{IsOutlined}
use Rattle.dcel_planar.specs.Legalization.{HasToStay, IsToTurn, ListsLoose, TurnsLoose}
use Rattle.dcel_planar.proofs.Flat.{flips_flat}
use Rattle.dcel_planar.proofs.Hull.{flips_hull}
use Rattle.dcel_planar.proofs.Settling.{flips_keep, flips_triangulated}
use Rattle.dcel_planar.proofs.Staying.{flips_data, listed_stays, staying, to_circled}

circled-append : {DE UE F : Type 0} (m : Mesh Point DE UE F) (us : List ℕ) (u : ℕ) → AreCircled m us
    → IsInner (edges_flipped m us).shape u × IsCircled (point_at (edges_flipped m us)) (edges_flipped m us).shape u → AreCircled m (us ++ u ∷ [])
circled-append m [] u are last = (last, tt)
circled-append m (v ∷ us) u are last = (are.0, circled-append (edge_flipped m v) us u are.1 last)

module _ {DE UE F : Type 0} (stays : UE → Bool) where
  pub turned_to : (m n : Mesh Point DE UE F) → TurnsLoose stays m n → IsTurnedTo m n
  turned_to m n turns = record { turned = turns.turned; circled = turns.circled; is = turns.is }

  stays_after : (m n : Mesh Point DE UE F) → TurnsLoose stays m n → (u : ℕ) → HasToStay stays m u → HasToStay stays n u
  stays_after m n turns u stay =
      subst (λ (k : Mesh Point DE UE F). HasToStay stays k u) (sym turns.is)
      (rw (flips_data stays m turns.turned) stay)

  turns_more : (m n : Mesh Point DE UE F) (u : ℕ) → TurnsLoose stays m n → IsToTurn stays n u → TurnsLoose stays m (edge_flipped n u)
  turns_more m n u before is = record {
    turned = before.turned ++ u ∷ [];
    circled =
        circled-append m before.turned u before.circled
        (subst (λ (k : Mesh Point DE UE F). IsInner k.shape u × IsCircled (point_at k) k.shape u) before.is (is.inner, is.circled));
    is = ap (λ (k : Mesh Point DE UE F). edge_flipped k u) before.is ∙ sym (flipped-append m before.turned (u ∷ []));
    loose = λ v there stay. elim (in_either v before.turned (u ∷ []) there) [
      | inl early ↦ before.loose v early stay
      | inr late ↦ elim (first_or_later v u [] late) [
        | inl same ↦ is.loose (subst (λ (k : ℕ). HasToStay stays n k) same (stays_after m n before v stay))
        | inr none ↦ absurd (omega (arith, none))
      ]
    ];
  }

  -- what is kept of the mesh m and the list that a run began with
  pub record IsRunning (m : Mesh Point DE UE F) (list : List ℕ) (n : Mesh Point DE UE F) (rest : List ℕ) : Type 0 where
    pub mesh : IsMesh n
    pub triangulated : IsTriangleMesh n
    pub hull : IsOutlined n
    pub flips : TurnsLoose stays m n
    pub keeps : Keeps m n
    pub lists : ListsLoose stays m list → ListsLoose stays n rest

  pub starts : (m : Mesh Point DE UE F) (list : List ℕ) → IsMesh m → IsTriangleMesh m → IsOutlined m → IsRunning m list m list
  starts m list mesh triangulated hull = record {
    mesh = mesh;
    triangulated = triangulated;
    hull = hull;
    flips = record { turned = []; circled = tt; is = refl; loose = λ u there. absurd (omega (arith, there)) };
    keeps = flips_keep m m triangulated.closed record { turned = []; circled = tt; is = refl };
    lists = λ lists. lists;
  }

  module _ (m : Mesh Point DE UE F) (list : List ℕ) (n : Mesh Point DE UE F) (front : List ℕ) (u : ℕ) (way : IsRunning m list n (front ++ u ∷ [])) where
    -- an edge that isn't to be turned is taken off
    passes : ¬ IsToTurn stays n u → IsRunning m list n front
    passes not = record {
      mesh = way.mesh;
      triangulated = way.triangulated;
      hull = way.hull;
      flips = way.flips;
      keeps = way.keeps;
      lists = λ lists v is. elim (last_or_before v u front (way.lists lists v is)) [
        | inl same ↦ absurd (not (subst (λ (k : ℕ). IsToTurn stays n k) same is))
        | inr there ↦ there
      ];
    }

    module _ (is : IsToTurn stays n u) where
      can : CanFlip n.shape u
      can = circled_can_flip n way.mesh u (point_at n) is.inner is.circled

      lists_then : ListsLoose stays m list → ListsLoose stays (edge_flipped n u) ((front ++ u ∷ []) ++ sides_beside n.shape u)
      lists_then lists v is_v =
          let whole = front ++ u ∷ [] in
          let sides = sides_beside n.shape u in
          let still = staying stays n in
          let found : 0 < count_of v ((whole ++ still) ++ (sides ++ u ∷ [])) =
          flip_lists n way.mesh u can (point_at n) (whole ++ still) (to_circled stays n whole (way.lists lists)) v is_v.inner is_v.circled in
          let in_all = count-append v (whole ++ still) (sides ++ u ∷ []) in
          let in_whole = count-append v whole still in
          let in_sides = count-append v sides (u ∷ []) in
          let own = count-append v front (u ∷ []) in
          let wanted = count-append v whole sides in
          elim (cases_lt 0 (count_of v still)) [
            | inl there ↦ absurd (is_v.loose (listed_stays stays n v there))
            | inr none ↦ omega (arith, found, in_all, in_whole, in_sides, own, wanted, none)
          ]

      abbrev one : IsTurnedTo n (edge_flipped n u)
      one = record { turned = u ∷ []; circled = ((is.inner, is.circled), tt); is = refl }

      -- one that is is flipped
      turns : IsRunning m list (edge_flipped n u) ((front ++ u ∷ []) ++ sides_beside n.shape u)
      turns =
          let more = turns_more m n u way.flips is in
          record {
            mesh = flipped_mesh n u way.mesh can;
            triangulated =
                flips_triangulated n (edge_flipped n u) way.triangulated one
                (flip_plane n way.mesh u can (point_at n) is.inner.inner is.inner.inner_facing is.circled way.triangulated.plane);
            hull = elim way.hull [
              | inl flat ↦ inl (flips_flat n (edge_flipped n u) one flat)
              | inr has ↦ inr (flips_hull n (edge_flipped n u) way.mesh one has)
            ];
            flips = more;
            keeps = keeps_more;
            lists = lists_then;
          }
        where
          keeps_more : Keeps m (edge_flipped n u)
          keeps_more =
              let k = way.keeps in
              let l = flips_keep n (edge_flipped n u) k.closed one in
              record { closed = l.closed; vertices = l.vertices ∙ k.vertices; points = l.points ∙ k.points; edges = (let a = k.edges in let b = l.edges in omega (arith, a, b)) }

      falls : volume_below (point_at (edge_flipped n u)) (edge_flipped n u).shape < volume_below (point_at n) n.shape
      falls = volume_falls n way.mesh u can (point_at n) is.inner.inner is.inner.inner_facing is.circled way.triangulated.plane

  -- the same for a list that is known to end so
  module _ (m : Mesh Point DE UE F) (list : List ℕ) (n : Mesh Point DE UE F) (rest front : List ℕ) (u : ℕ) (same : rest ≡ front ++ u ∷ []) (way : IsRunning m list n rest) where
    parted : IsRunning m list n (front ++ u ∷ [])
    parted = subst (λ (l : List ℕ). IsRunning m list n l) same way

    pub passes_by : ¬ IsToTurn stays n u → IsRunning m list n front
    passes_by not = passes m list n front u parted not

    pub turns_by : IsToTurn stays n u → IsRunning m list (edge_flipped n u) (rest ++ sides_beside n.shape u)
    turns_by is =
        subst (λ (l : List ℕ). IsRunning m list (edge_flipped n u) (l ++ sides_beside n.shape u)) (sym same)
        (turns m list n front u parted is)

    pub falls_by : (after : Mesh Point DE UE F) → after ≡ edge_flipped n u → IsToTurn stays n u
        → volume_below (point_at after) after.shape < volume_below (point_at n) n.shape
    falls_by after edit is =
        subst (λ (k : Mesh Point DE UE F). volume_below (point_at k) k.shape < volume_below (point_at n) n.shape) (sym edit)
        (falls m list n front u parted is)

-- a line or a hull is not to be closed
pub outlined_outside : {DE UE F : Type 0} (m : Mesh Point DE UE F) (due : List ℕ) → IsOutlined m → HasOutside m due
outlined_outside m due (inl flat) = inl flat
outlined_outside m due (inr has) = inr (inl has)
