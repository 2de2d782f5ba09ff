-- Edges that have to stay, while edges of a vertex without such ones are flipped, given up, and taken out.
use Rattle.std.proofs.Common.{◌≡◌, ◌≢◌, ◌↔◌, ◌⊎◌, inl, inr, ℕ, ◌+◌, ◌-◌, ◌*◌, ◌/◌, ◌%◌, ◌<◌, ◌≤◌, Bool, true, false, List, [], ◌∷◌, ◌++◌, length, map, filter, slice_index_or, zero, suc, Option, Some, None, All, refl, sym, ap, ◌∙◌, subst, slice_get, arith}
use Rattle.std.specs.Option.{option_map}
use Rattle.std.proofs.lemmas.Bool.{cases_Bool, cases_lt, false_from_ne_true, false≢true}
use Rattle.std.proofs.lemmas.List.{get_or-append-add, get_or_append_left, length-append}
use Rattle.std.proofs.lemmas.List.Elements.{All-get_or}
use Rattle.std.proofs.lemmas.Option.{get_or_from_slice_get, slice_get-get_or, slice_get_read, slice_get_within}
use Rattle.dcel_fixed.specs.HalfEdges.{rev}
use Rattle.dcel_fixed.proofs.Halves.{rev-half, rev-rev}
use Rattle.dcel_maps.specs.Borders.{IsEdgeAt}
use Rattle.dcel_maps.specs.Conditions.{CanFlip}
use Rattle.dcel_maps.specs.edits.Flip.{edge_flipped}
use Rattle.dcel_maps.specs.Removals.{Closed, gives_up_edge}
use Rattle.dcel_maps.specs.Renumbered.{LeavesLive, new_edge, new_half}
use Rattle.dcel_maps.specs.Renumbering.{cleaned_up, half_of}
use Rattle.dcel_maps.specs.Shapes.{IsLive, IsMesh, Mesh, edge_is_live, map_of, origin_of, vertex_is_live}
use Rattle.dcel_maps.specs.Walking.{Leads}
use Rattle.dcel_maps.specs.Words.{count_of}
use Rattle.dcel_maps.proofs.Liveness.{closed-live, even_live, is_live-from, is_live-parts}
use Rattle.dcel_maps.proofs.maps.Halves.{rev_or_same}
use Rattle.dcel_maps.proofs.maps.Soundness.{rev_live}
use Rattle.dcel_maps.proofs.renumbering.Renumbered.{leaves_live}
use Rattle.dcel_maps.proofs.words.Counts.{count-append, count-equal, count-later, first_or_later}
use Rattle.dcel_maps.proofs.words.EachSet.{other-two_set}
use Rattle.dcel_maps.proofs.words.Mapped.{mapped_from}
use Rattle.dcel_predicates.specs.declared.point.Point.{Point}
use Rattle.dcel_legalize.specs.Flipping.{sides_beside}
use Rattle.dcel_plane.specs.Plane.{ListsCircled, point_at}
use Rattle.dcel_plane.proofs.edits.Flipped.{flip_lists}
use Rattle.dcel_planar.specs.Legalization.{HasToStay, ListsLoose}
use Rattle.dcel_planar.proofs.Staying.{listed_stays, staying, to_circled}
use Rattle.dcel_delaunay.specs.Staying.{HasConstraintAt, KeepsOthersStaying, KeepsStaying, LeavesLegal, StaysBetween}

-- items that pass a test
kept_in : (p : ℕ → Bool) (k : ℕ) (xs : List ℕ) → p k ≡ true → 0 < count_of k xs → 0 < count_of k (filter p xs)
kept_in p k [] pass there = there
kept_in p k (x ∷ r) pass there = elim (first_or_later k x r there) [
  | inl is ↦ (let own : p x ≡ true = ap p (sym is) ∙ pass in rw own (let c = count-equal k x (filter p r) is in omega (arith, c)))
  | inr later ↦ elim (cases_Bool (p x)) [
    | inl own ↦ rw own (count-later k x (filter p r) (kept_in p k r pass later))
    | inr gone ↦ rw gone (kept_in p k r pass later)
  ]
]

kept_pass : (p : ℕ → Bool) (k : ℕ) (xs : List ℕ) → 0 < count_of k (filter p xs) → (p k ≡ true) × (0 < count_of k xs)
kept_pass p k [] there = absurd (omega (arith, there))
kept_pass p k (x ∷ r) there = elim (cases_Bool (p x)) [
  | inl own ↦ elim (first_or_later k x (filter p r) (rw own at there)) [
    | inl is ↦ (ap p is ∙ own, let c = count-equal k x r is in omega (arith, c))
    | inr later ↦ let found = kept_pass p k r later in (found.0, count-later k x r found.1)
  ]
  | inr gone ↦ let found = kept_pass p k r (rw gone at there) in (found.0, count-later k x r found.1)
]

in_either : (u : ℕ) (a b : List ℕ) → 0 < count_of u (a ++ b) → (0 < count_of u a) ⊎ (0 < count_of u b)
in_either u a b found = elim (cases_lt 0 (count_of u a)) [ inl there ↦ inl there | inr none ↦ inr (let c = count-append u a b in omega (arith, c, found, none)) ]

-- an edge and one of its halves
halved : (h e : ℕ) → h / 2 < e → h < 2 * e
halved h e below = omega (arith, below)

module _ {UE : Type 0} where
  -- the datum of an edge that stays
  datum_of : (stays : UE → Bool) (o : Option UE) → option_map stays o ≡ Some true → (x : UE) × (o ≡ Some x) × (stays x ≡ true)
  datum_of stays None stay = absurd (cc)
  datum_of stays (Some x) stay = (x, refl, (let same : stays x ≡ true = cc in same))

  -- data before others that are appended
  pub same_before : (xs ys : List UE) (u : ℕ) → u < length xs → slice_get (xs ++ ys) u ≡ slice_get xs u
  same_before xs ys u below = by_item (slice_get xs u) refl
    where
      none_there : (l : List UE) (i : ℕ) → i < length l → slice_get l i ≡ None → ⊥
      none_there [] i within none = omega (arith, within)
      none_there (y ∷ r) zero within none = cc
      none_there (y ∷ r) (suc i) within none = none_there r i (omega (arith, within)) none

      by_item : (o : Option UE) → slice_get xs u ≡ o → slice_get (xs ++ ys) u ≡ slice_get xs u
      by_item None is = absurd (none_there xs u below is)
      by_item (Some x) is =
          slice_get-get_or (xs ++ ys) u x (let l = length-append xs ys in omega (arith, below, l)) ∙ ap Some (get_or_append_left xs ys x u below ∙ get_or_from_slice_get xs u x x is) ∙ sym is

module _ {DE UE F : Type 0} (stays : UE → Bool) where
  stay_by : (m : Mesh Point DE UE F) (u : ℕ) (x : UE) → slice_get m.undirected_data u ≡ Some x → stays x ≡ true → HasToStay stays m u
  stay_by m u x is does = ap (option_map stays) is ∙ ap Some does

  -- an edge stays if its datum says so
  pub told_stay : (m : Mesh Point DE UE F) (u : ℕ) (x : UE) (b : Bool) → slice_get m.undirected_data u ≡ Some x → b ≡ stays x → (b ≡ true) ↔ HasToStay stays m u
  told_stay m u x b is told = (
    λ yes. stay_by m u x is (sym told ∙ yes),
    λ stay. (let some : Some (stays x) ≡ Some true = sym (ap (option_map stays) is) ∙ stay in let same : stays x ≡ true = cc in told ∙ same),
  )

  -- an edge that stays has a number
  pub stay_below : (m : Mesh Point DE UE F) → IsMesh m → (u : ℕ) → m.shape.edges ≤ u → ¬ HasToStay stays m u
  stay_below m mesh u past stay =
      let found = datum_of stays (slice_get m.undirected_data u) stay in
      let below = slice_get_within m.undirected_data u found.0 found.1 in
      omega (arith, below, past, mesh.sized.undirected_data)

  -- what is due with edges that stay
  pub of_circled : (m : Mesh Point DE UE F) (due others : List ℕ) → ((u : ℕ) → 0 < count_of u others → HasToStay stays m u)
      → ListsCircled (point_at m) m.shape (due ++ others) → ListsLoose stays m due
  of_circled m due others stay lists u is = elim (in_either u due others (lists u is.inner is.circled)) [
    | inl there ↦ there
    | inr there ↦ absurd (is.loose (stay u there))
  ]

  -- an edge that need not stay is flipped
  module _ (m : Mesh Point DE UE F) (u : ℕ) (loose : ¬ HasToStay stays m u) where
    off : (h : ℕ) → HasToStay stays m (h / 2) → h / 2 ≢ u
    off h stay is = loose (subst (λ (k : ℕ). HasToStay stays m k) is stay)

    start_stays : (h : ℕ) → h / 2 ≢ u → origin_of (edge_flipped m u).shape h ≡ origin_of m.shape h
    start_stays h other = other-two_set m.shape.origins (2 * u) (2 * u + 1) _ _ 0 h (λ is. other (omega (arith, is))) (λ is. other (omega (arith, is)))

    end_stays : (h : ℕ) → h / 2 ≢ u → origin_of (edge_flipped m u).shape (rev h) ≡ origin_of m.shape (rev h)
    end_stays h other = start_stays (rev h) (λ is. other (sym (rev-half h) ∙ is))

    pub flip_staying : KeepsStaying stays m (edge_flipped m u)
    flip_staying a b = (
      λ given.
          (let other = off given.0 given.2 in
          (given.0, record { live = given.1.live; start = start_stays given.0 other ∙ given.1.start; end = end_stays given.0 other ∙ given.1.end }, given.2)),
      λ given.
          (let other = off given.0 given.2 in
          (given.0, record { live = given.1.live; start = sym (start_stays given.0 other) ∙ given.1.start; end = sym (end_stays given.0 other) ∙ given.1.end }, given.2)),
    )

    pub flip_loose : (v : ℕ) → ¬ HasConstraintAt stays m v → ¬ HasConstraintAt stays (edge_flipped m u) v
    flip_loose v none at = none (at.0, record { live = at.1.live; start = sym (start_stays at.0 (off at.0 at.2)) ∙ at.1.start }, at.2)

  -- a flip whose edge is listed, with the sides beside it
  pub flip_listed : (m : Mesh Point DE UE F) → IsMesh m → (u : ℕ) → CanFlip m.shape u → (due : List ℕ) → ListsLoose stays m due
      → ListsLoose stays (edge_flipped m u) ((due ++ u ∷ []) ++ sides_beside m.shape u)
  flip_listed m mesh u can due lists w is =
      let sides = sides_beside m.shape u in
      let own = u ∷ [] in
      let stay = staying stays m in
      let found : 0 < count_of w ((due ++ stay) ++ (sides ++ own)) =
      flip_lists m mesh u can (point_at m) (due ++ stay) (to_circled stays m due lists) w is.inner is.circled in
      let whole = count-append w (due ++ stay) (sides ++ own) in
      let both = count-append w due stay in
      let parts = count-append w sides own in
      let wanted = count-append w (due ++ own) sides in
      let first = count-append w due own in
      elim (cases_lt 0 (count_of w stay)) [
        | inl there ↦ absurd (is.loose (listed_stays stays m w there))
        | inr none ↦ omega (arith, found, whole, both, parts, wanted, first, none)
      ]

  pub legal_trans : (l m n : Mesh Point DE UE F) (first due items : List ℕ) → LeavesLegal stays l m first due → LeavesLegal stays m n due items → LeavesLegal stays l n first items
  legal_trans l m n first due items was then = record { triangulated = then.triangulated; listed = λ lists. then.listed (was.listed lists) }

  pub keeps_trans : (l m n : Mesh Point DE UE F) → KeepsStaying stays l m → KeepsStaying stays m n → KeepsStaying stays l n
  keeps_trans l m n first then a b = (λ given. (then a b).0 ((first a b).0 given), λ given. (first a b).1 ((then a b).1 given))

  -- v is given up with its edges, and what is new need not stay
  pub record LosesSpokes (m n : Mesh Point DE UE F) (v : ℕ) : Type 0 where
    pub closed : m.shape.removal ≡ Closed
    pub given : (u : ℕ) → gives_up_edge n.shape.removal u ≡ true → IsEdgeAt m.shape v u
    pub more : m.shape.edges ≤ n.shape.edges
    pub starts : (h : ℕ) → h < 2 * m.shape.edges → gives_up_edge n.shape.removal (h / 2) ≡ false → origin_of n.shape h ≡ origin_of m.shape h
    pub same : (u : ℕ) → u < m.shape.edges → slice_get n.undirected_data u ≡ slice_get m.undirected_data u
    pub fresh : (u : ℕ) → m.shape.edges ≤ u → ¬ HasToStay stays n u

  module _ (m n : Mesh Point DE UE F) (v : ℕ) (loses : LosesSpokes m n v) where
    module _ (h : ℕ) (below : h / 2 < m.shape.edges) (kept : gives_up_edge n.shape.removal (h / 2) ≡ false) where
      start_kept : origin_of n.shape h ≡ origin_of m.shape h
      start_kept = loses.starts h (halved h m.shape.edges below) kept

      end_kept : origin_of n.shape (rev h) ≡ origin_of m.shape (rev h)
      end_kept =
          let half = rev-half h in
          loses.starts (rev h) (halved (rev h) m.shape.edges (omega (arith, half, below))) (ap (gives_up_edge n.shape.removal) half ∙ kept)

    not_given : (a b h : ℕ) → a ≢ v → b ≢ v → Leads m.shape a b h → gives_up_edge n.shape.removal (h / 2) ≡ false
    not_given a b h not_a not_b leads = false_from_ne_true (gives_up_edge n.shape.removal (h / 2)) (λ given.
        let at = loses.given (h / 2) given in
        elim (rev_or_same h at.half (sym at.is)) [
          | inl is ↦ not_a (sym leads.start ∙ ap (origin_of m.shape) is ∙ at.out.start)
          | inr is ↦ not_b (sym leads.end ∙ ap (λ (k : ℕ). origin_of m.shape (rev k)) is ∙ ap (origin_of m.shape) (rev-rev at.half) ∙ at.out.start)
        ])

    pub spokes_staying : KeepsOthersStaying stays m n v
    spokes_staying a b not_a not_b = (
      λ given.
          (let h = given.0 in
          let leads = given.1 in
          let below = (is_live-parts (gives_up_edge m.shape.removal) m.shape.edges (h / 2) leads.live).0 in
          let kept = not_given a b h not_a not_b leads in
          let more = loses.more in (
            h,
            record {
              live = is_live-from (gives_up_edge n.shape.removal) n.shape.edges (h / 2) (omega (arith, below, more)) kept;
              start = start_kept h below kept ∙ leads.start;
              end = end_kept h below kept ∙ leads.end;
            },
            ap (option_map stays) (loses.same (h / 2) below) ∙ given.2,
          )),
      λ given.
          (let h = given.0 in
          let leads = given.1 in
          elim (cases_lt (h / 2) m.shape.edges) [
            | inr past ↦ absurd (loses.fresh (h / 2) past given.2)
            | inl below ↦
                let kept = (is_live-parts (gives_up_edge n.shape.removal) n.shape.edges (h / 2) leads.live).1 in (
                  h,
                  record {
                    live = closed-live m.shape loses.closed (h / 2) below;
                    start = sym (start_kept h below kept) ∙ leads.start;
                    end = sym (end_kept h below kept) ∙ leads.end;
                  },
                  sym (ap (option_map stays) (loses.same (h / 2) below)) ∙ given.2,
                )
          ]),
    )

  -- data that are appended
  pub loose_after : (is_default : UE → Type 0) → ((x : UE) → is_default x → stays x ≡ false) → (m : Mesh Point DE UE F) (xs ys : List UE) → m.undirected_data ≡ xs ++ ys
      → All is_default ys → (u : ℕ) → length xs ≤ u → ¬ HasToStay stays m u
  loose_after is_default default m xs ys is all u past stay =
      let found = datum_of stays (slice_get (xs ++ ys) u) (ap (λ (d : List UE). option_map stays (slice_get d u)) (sym is) ∙ stay) in
      let x = found.0 in
      let within = slice_get_within (xs ++ ys) u x found.1 in
      let long = length-append xs ys in
      let k = u - length xs in
      let at : u ≡ length xs + k = omega (arith, past) in
      let item = All-get_or is_default ys k x (omega (arith, within, long, past)) all in
      let read = get_or_from_slice_get (xs ++ ys) u x x found.1 in
      false≢true (sym (default x (subst (λ (z : UE). is_default z) (sym (get_or-append-add xs ys k x) ∙ ap (λ (i : ℕ). get_at (xs ++ ys) i x) (sym at) ∙ read) item)) ∙ found.2)
    where
      get_at : List UE → ℕ → UE → UE
      get_at l i x = slice_index_or l i x

  -- what is live stands under other numbers
  module _ (m t : Mesh Point DE UE F) (half vertex face : ℕ → ℕ) (leaves : LeavesLive m t half vertex face) (long_m : length m.undirected_data ≡ m.shape.edges)
      (long_t : length t.undirected_data ≡ t.shape.edges) where
    pub stay_there : (h : ℕ) → IsLive m.shape h → HasToStay stays m (h / 2) → HasToStay stays t (half h / 2)
    stay_there h live stay =
        let found = datum_of stays (slice_get m.undirected_data (h / 2)) stay in
        let x = found.0 in
        let below = (is_live-parts (gives_up_edge t.shape.removal) t.shape.edges (half h / 2) (leaves.half_edge h live)).0 in
        stay_by t (half h / 2) x
        (slice_get_read t.undirected_data t.shape.edges (half h / 2) x (sym long_t) below
        (sym (leaves.undirected h x live ∙ get_or_from_slice_get m.undirected_data (h / 2) x x found.1))) found.2

    stayed_there : (h : ℕ) → IsLive m.shape h → HasToStay stays t (half h / 2) → HasToStay stays m (h / 2)
    stayed_there h live stay =
        let found = datum_of stays (slice_get t.undirected_data (half h / 2)) stay in
        let x = found.0 in
        let below = (is_live-parts (gives_up_edge m.shape.removal) m.shape.edges (h / 2) live).0 in
        stay_by m (h / 2) x
        (slice_get_read m.undirected_data m.shape.edges (h / 2) x (sym long_m) below
        (sym (sym (leaves.undirected h x live) ∙ get_or_from_slice_get t.undirected_data (half h / 2) x x found.1))) found.2

    pub leaves_staying : (a b : ℕ) → IsMesh m → StaysBetween stays m a b → StaysBetween stays t (vertex a) (vertex b)
    leaves_staying a b mesh given =
        let h = given.0 in
        let leads = given.1 in (
          half h,
          record {
            live = leaves.half_edge h leads.live;
            start = leaves.origin h leads.live ∙ ap vertex leads.start;
            end =
                ap (origin_of t.shape) (leaves.turn h) ∙ leaves.origin (rev h) (rev_live (map_of m.shape) h leads.live) ∙ ap vertex leads.end;
          },
          stay_there h leads.live given.2,
        )

    -- and nothing else does, where no two vertices get one number
    pub left_staying : (a b : ℕ) → IsMesh m → ((w : ℕ) → vertex_is_live m.shape w ≡ true → vertex w ≡ vertex a → w ≡ a)
        → ((w : ℕ) → vertex_is_live m.shape w ≡ true → vertex w ≡ vertex b → w ≡ b) → StaysBetween stays t (vertex a) (vertex b) → StaysBetween stays m a b
    left_staying a b mesh one_a one_b given =
        let leads = given.1 in
        let (h, live, is) = leaves.each_half_edge given.0 leads.live in
        let live_r = rev_live (map_of m.shape) h live in (
          h,
          record {
            live = live;
            start =
                one_a (origin_of m.shape h) (mesh.sound.starts_live h live) (sym (leaves.origin h live) ∙ ap (origin_of t.shape) is ∙ leads.start);
            end =
                one_b (origin_of m.shape (rev h)) (mesh.sound.starts_live (rev h) live_r)
                (sym (leaves.origin (rev h) live_r) ∙ ap (origin_of t.shape) (sym (leaves.turn h)) ∙ ap (λ (k : ℕ). origin_of t.shape (rev k)) is ∙ leads.end);
          },
          stayed_there h live (subst (λ (k : ℕ). HasToStay stays t (k / 2)) (sym is) given.2),
        )

  -- edges that are live and stay, as a list
  abbrev pub live_staying : Mesh Point DE UE F → List ℕ
  live_staying m = filter (edge_is_live m.shape) (staying stays m)

  pub lists_live : (m : Mesh Point DE UE F) (due : List ℕ) → ListsLoose stays m due → ListsCircled (point_at m) m.shape (due ++ live_staying m)
  lists_live m due lists u inner circled = elim (in_either u due (staying stays m) (to_circled stays m due lists u inner circled)) [
    | inl there ↦ (let c = count-append u due (live_staying m) in omega (arith, c, there))
    | inr there ↦
        (let kept = kept_in (edge_is_live m.shape) u (staying stays m) inner.live there in let c = count-append u due (live_staying m) in omega (arith, c, kept))
  ]

  own_number : (m : Mesh Point DE UE F) (u : ℕ) → new_half m.shape (2 * u) / 2 ≡ new_edge m.shape u
  unfolding half_of
  own_number m u =
      let back : 2 * u / 2 ≡ u = omega arith in
      let even : 2 * u % 2 ≡ 0 = omega arith in
      let r = new_edge m.shape (2 * u / 2) in
      let same : (2 * r + 2 * u % 2) / 2 ≡ r = omega (arith, even) in
      same ∙ ap (new_edge m.shape) back

  -- cleanup renumbers what is due
  module _ (m : Mesh Point DE UE F) (mesh : IsMesh m) (clean : IsMesh (cleaned_up m)) where
    stays_clean : (u : ℕ) → edge_is_live m.shape u ≡ true → HasToStay stays m u → HasToStay stays (cleaned_up m) (new_edge m.shape u)
    stays_clean u live stay =
        let back : 2 * u / 2 ≡ u = omega arith in
        subst (λ (k : ℕ). HasToStay stays (cleaned_up m) k) (own_number m u)
        (stay_there m (cleaned_up m) (new_half m.shape) (λ v. v) _ (leaves_live m mesh) mesh.sized.undirected_data clean.sized.undirected_data (2 * u) (even_live m.shape u live)
        (subst (λ (k : ℕ). HasToStay stays m k) (sym back) stay))

    pub renumbered_stays : (u : ℕ) → 0 < count_of u (map (new_edge m.shape) (live_staying m)) → HasToStay stays (cleaned_up m) u
    renumbered_stays u there =
        let (x, listed, is) = mapped_from (new_edge m.shape) (live_staying m) u there in
        let pass = kept_pass (edge_is_live m.shape) x (staying stays m) listed in
        subst (λ (k : ℕ). HasToStay stays (cleaned_up m) k) is (stays_clean x pass.0 (listed_stays stays m x pass.1))
