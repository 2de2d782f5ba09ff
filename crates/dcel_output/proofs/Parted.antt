-- Edges turned over along the sides of an outline.
use Rattle.std.proofs.Common.{◌≡◌, ◌≢◌, ◌↔◌, inl, inr, ◌⊎◌, ℕ, suc, ◌+◌, ◌/◌, ◌%◌, ◌<◌, ◌≤◌, Bool, true, cond, eqb, eq-eqb, List, [], ◌∷◌, ◌++◌, Some, drop, get_or, length, map, take, slice_get, slice_index, refl, sym, ap, ◌∙◌, subst, arith}
use Rattle.std.specs.List.{AllZip}
use Rattle.std.proofs.lemmas.Bool.{cases_eq, ne_eqb}
use Rattle.std.proofs.lemmas.List.{map-append, take_more}
use Rattle.std.proofs.lemmas.Option.{get_or_from_slice_get, none-some, slice_get_within}
use Rattle.dcel_predicates.specs.declared.point.Point.{Point}
use Rattle.dcel_maps.specs.Removals.{Closed, gives_up_edge}
use Rattle.dcel_maps.specs.Shapes.{IsLive, IsMesh, Mesh, Shape, end_of, face_count, face_is_live}
use Rattle.dcel_maps.specs.Words.{count_of}
use Rattle.dcel_maps.specs.edits.Data.{undirected_edge_updated}
use Rattle.dcel_maps.proofs.Liveness.{is_live-parts}
use Rattle.dcel_maps.proofs.words.Counts.{count-append, count-other, count-same}
use Rattle.dcel_plane.proofs.covering.Starts.{face_live}
use Rattle.dcel_plane.specs.Plane.{point_at}
use Rattle.dcel_plane.specs.segments.Segments.{LeadsAlong}
use Rattle.dcel_regions.specs.Marked.{IsMarked}
use Rattle.dcel_regions.specs.Regions.{IsReached}
use Rattle.dcel_regions.specs.declared.mark.Mark.{Mark}
use Rattle.dcel_regions.specs.declared.mark.Mark.TheVariants.{Constraint, Free}
use Rattle.dcel_constrained.specs.Constraints.{IsMarkedWay, LiesOnSegment}
use Rattle.dcel_constrained.proofs.Between.{leads_ahead, leads_ends, shorter_later, span}
use Rattle.dcel_constrained.proofs.Marking.{freed_itself, marked_itself, stays_marked, was_marked}
use Rattle.dcel_output.proofs.Faces.{mapped_at}
use Rattle.dcel_output.specs.Outlining.{HaveOddDepth, LeadsMarked, MarksOdd, TurnsEach, is_odd, passes}

-- the mark of the edge e alone is turned over
abbrev pub IsTurned : {DE F : Type 0} → Mesh Point DE Mark F → Mesh Point DE Mark F → ℕ → Type 0
IsTurned old new e =
    (IsMarked old e × (new ≡ undirected_edge_updated old e Free)) ⊎ ((¬ IsMarked old e) × (new ≡ undirected_edge_updated old e Constraint))

-- the edge of a live half edge
pub half_below : (s : Shape) (h : ℕ) → IsLive s h → h / 2 < s.edges
half_below s h live = (is_live-parts (gives_up_edge s.removal) s.edges (h / 2) live).0

-- one more
odd_next : (n : ℕ) → (n % 2 ≡ 1) → (n + 1) % 2 ≡ 1 → ⊥
odd_next n odd next = omega (arith, odd, next)

next_odd : (n : ℕ) → ((n % 2 ≡ 1) → ⊥) → (n + 1) % 2 ≡ 1
next_odd n even = elim (cases_eq (n % 2) 1) [
  | inl odd ↦ absurd (even odd)
  | inr not ↦ omega (arith, not)
]

abbrev pub halved : List ℕ → List ℕ
halved halves = map (λ h. h / 2) halves

module _ {DE F : Type 0} where
  module _ (old new : Mesh Point DE Mark F) (mesh : IsMesh old) (h : ℕ) (below : h / 2 < old.shape.edges) (turned : IsTurned old new (h / 2)) (times : ℕ → ℕ) (odd : MarksOdd old times) where
    abbrev e : ℕ
    e = h / 2

    itself : IsMarked new e ↔ ((times e + 1) % 2 ≡ 1)
    itself = elim turned [
      | inl was ↦ (
        λ marked. absurd (freed_itself old e (subst (λ (m : Mesh Point DE Mark F). IsMarked m e) was.1 marked)),
        λ next. absurd (odd_next (times e) ((odd e below).0 was.0) next),
      )
      | inr not ↦ (
        λ marked. next_odd (times e) (λ is. not.0 ((odd e below).1 is)),
        λ next. subst (λ (m : Mesh Point DE Mark F). IsMarked m e) (sym not.1) (marked_itself old e mesh below),
      )
    ]

    other : (u : ℕ) → u < old.shape.edges → u ≢ e → IsMarked new u ↔ (times u % 2 ≡ 1)
    other u within differs = elim turned [
      | inl was ↦ (
        λ marked. (odd u within).0 (was_marked old e Free u differs (subst (λ (m : Mesh Point DE Mark F). IsMarked m u) was.1 marked)),
        λ is. subst (λ (m : Mesh Point DE Mark F). IsMarked m u) (sym was.1) (stays_marked old e Free u differs ((odd u within).1 is)),
      )
      | inr not ↦ (
        λ marked. (odd u within).0 (was_marked old e Constraint u differs (subst (λ (m : Mesh Point DE Mark F). IsMarked m u) not.1 marked)),
        λ is. subst (λ (m : Mesh Point DE Mark F). IsMarked m u) (sym not.1) (stays_marked old e Constraint u differs ((odd u within).1 is)),
      )
    ]

    edges_same : new.shape.edges ≡ old.shape.edges
    edges_same = elim turned [
      | inl was ↦ ap (λ (m : Mesh Point DE Mark F). m.shape.edges) was.1
      | inr not ↦ ap (λ (m : Mesh Point DE Mark F). m.shape.edges) not.1
    ]

    -- the number of the edge is one more
    pub turned_once : MarksOdd new (λ u. times u + count_of u (e ∷ []))
    turned_once u within = elim (cases_eq u e) [
      | inl is ↦
          let one : times e + count_of e (e ∷ []) ≡ times e + 1 = omega (arith, count-same e []) in
          subst (λ (i : ℕ). IsMarked new i ↔ ((times i + count_of i (e ∷ [])) % 2 ≡ 1)) (sym is)
          (subst (λ (n : ℕ). IsMarked new e ↔ (n % 2 ≡ 1)) (sym one) itself)
      | inr differs ↦
          let same : times u + count_of u (e ∷ []) ≡ times u = omega (arith, count-other u e [] differs) in
          subst (λ (n : ℕ). IsMarked new u ↔ (n % 2 ≡ 1)) (sym same) (other u (omega (arith, within, edges_same)) differs)
    ]

  -- numbers that are the same
  pub odd_as : (m : Mesh Point DE Mark F) (f g : ℕ → ℕ) → ((u : ℕ) → g u ≡ f u) → MarksOdd m f → MarksOdd m g
  odd_as m f g same odd u within = subst (λ (n : ℕ). IsMarked m u ↔ (n % 2 ≡ 1)) (sym (same u)) (odd u within)

  pub turns_none : (m : Mesh Point DE Mark F) → TurnsEach m m []
  turns_none m times odd = odd_as m times (λ u. times u + 0) (λ u. omega arith) odd

  pub turns_more : (start old new : Mesh Point DE Mark F) (halves : List ℕ) (h : ℕ) → TurnsEach start old halves → TurnsEach old new (h ∷ []) → TurnsEach start new (halves ++ h ∷ [])
  turns_more start old new halves h before turned times odd =
      odd_as new (λ u. times u + count_of u (halved halves) + count_of u (h / 2 ∷ [])) (λ u. times u + count_of u (halved (halves ++ h ∷ [])))
      (λ u. let more = ap (count_of u) (map-append (λ h. h / 2) halves (h ∷ [])) ∙ count-append u (halved halves) (h / 2 ∷ []) in omega (arith, more))
      (turned (λ u. times u + count_of u (halved halves)) (before times odd))

  -- no edge is marked: no side leads along one
  pub odd_none : (m : Mesh Point DE Mark F) → ((u : ℕ) → ¬ IsMarked m u) → MarksOdd m (passes [])
  odd_none m free u within = (λ marked. absurd (free u marked), λ odd. absurd (omega (arith, odd)))

  -- marked half edges lead from y to z along the segment from y to w
  abbrev pub IsPath : Mesh Point DE Mark F → ℕ → ℕ → ℕ → List ℕ → Type 0
  IsPath m w y z [] = y ≡ z
  IsPath m w y z (h ∷ rest) = LeadsAlong (point_at m) m.shape y w h × IsMarked m (h / 2) × IsPath m w (end_of m.shape h) z rest

  pub path_more : (m : Mesh Point DE Mark F) (w y z h : ℕ) (list : List ℕ) → IsPath m w y z list → LeadsMarked m z w h → IsPath m w y (end_of m.shape h) (list ++ h ∷ [])
  path_more m w y z h [] is leads = (subst (λ (i : ℕ). LeadsAlong (point_at m) m.shape i w h) (sym is) leads.along, leads.marked, refl)
  path_more m w y z h (k ∷ rest) path leads = (path.0, path.1, path_more m w (end_of m.shape k) z h rest path.2 leads)

  pub path_all : (m : Mesh Point DE Mark F) (w y : ℕ) (list : List ℕ) → IsPath m w y w list → IsMarkedWay m w y list
  path_all m w y [] is = is
  path_all m w y (k ∷ rest) path = (path.0, path.1, path_all m w (end_of m.shape k) rest path.2)

  -- how far it is to the end, which is 0 there alone
  abbrev pub ahead : Mesh Point DE Mark F → ℕ → ℕ → ℕ
  ahead m w v = cond (eqb v w) 0 (suc (span (point_at m) v w))

  pub nearer : (m : Mesh Point DE Mark F) (v w y h : ℕ) → v ≢ w → LeadsMarked m v w h → y ≡ end_of m.shape h → ahead m w y < ahead m w v
  nearer m v w y h differ leads is =
      subst (λ (n : ℕ). ahead m w y < n) (sym (from_here differ)) (elim (leads_ahead (point_at m) m.shape v w y h leads.along (sym is)) [
        | inl end ↦ let none : ahead m w y ≡ 0 = subst (λ (i : ℕ). ahead m w i ≡ 0) (sym end) at_end in omega (arith, none)
        | inr lies ↦ elim (cases_eq y w) [
          | inl end ↦ let none : ahead m w y ≡ 0 = subst (λ (i : ℕ). ahead m w i ≡ 0) (sym end) at_end in omega (arith, none)
          | inr before ↦ let less = shorter_later (point_at m) v w y lies in let own = there before in omega (arith, less, own)
        ]
      ])
    where
      at_end : ahead m w w ≡ 0
      at_end = rw (eq-eqb w w refl) refl

      from_here : v ≢ w → ahead m w v ≡ suc (span (point_at m) v w)
      from_here other = rw (ne_eqb v w other) refl

      there : y ≢ w → ahead m w y ≡ suc (span (point_at m) y w)
      there other = rw (ne_eqb y w other) refl

  -- what follows lies on the segment
  pub on_further : (m : Mesh Point DE Mark F) (v w y z h : ℕ) → LiesOnSegment (point_at m) v w y → LeadsMarked m y w h → z ≡ end_of m.shape h → LiesOnSegment (point_at m) v w z
  on_further m v w y z h on leads is = subst (LiesOnSegment (point_at m) v w) (sym is) (leads_ends (point_at m) v w m.shape y h on leads.along).1

-- a list that a function makes of another one, one item after another
pub mapped_more : {A B : Type 0} (f : A → B) (xs : List A) (i : ℕ) (x : A) → i < length xs → x ≡ get_or xs i x → map f (take (i + 1) xs) ≡ map f (take i xs) ++ f x ∷ []
mapped_more f xs i x below is = ap (map f) (take_more xs i x below) ∙ map-append f (take i xs) (get_or xs i x ∷ []) ∙ ap (λ (y : _). map f (take i xs) ++ f y ∷ []) (sym is)

-- the parity of a number behind the first
pub odd_at : (numbers : List ℕ) (i : ℕ) (flag : Bool) → slice_get (map is_odd (drop 1 numbers)) i ≡ Some flag → (i + 1 < length numbers) × (flag ≡ is_odd (slice_index numbers (i + 1)))
odd_at [] i flag at = absurd (none-some flag at)
odd_at (n ∷ rest) i flag at =
    let (x, there, is) = mapped_at is_odd rest i flag at in
    let within = slice_get_within rest i x there in
    let next : i + 1 ≡ suc i = omega arith in
    let own : x ≡ slice_index (n ∷ rest) (i + 1) = sym (get_or_from_slice_get rest i x 0 there) ∙ ap (slice_index (n ∷ rest)) (sym next) in
    (omega (arith, within), is ∙ ap is_odd own)

-- the flags of the inner faces, from the depths of all faces
pub odd_depths : {DE F : Type 0} (m : Mesh Point DE Mark F) → IsMesh m → m.shape.removal ≡ Closed → (depths : List ℕ) → length depths ≡ face_count m.shape
    → ((f : ℕ) → face_is_live m.shape f ≡ true → IsReached m f (slice_index depths f)) → ((f k : ℕ) → IsReached m f k → slice_index depths f ≤ k)
    → (flags : List Bool) → flags ≡ map is_odd (drop 1 depths) → HaveOddDepth m flags
odd_depths m mesh closed depths count reached least flags are i flag at =
    let found = odd_at depths i flag (sym (ap (λ (l : List Bool). slice_get l i) are) ∙ at) in
    let within = found.0 in
    (slice_index depths (i + 1), record { reached = reached (i + 1) (face_live m mesh closed (i + 1) (omega (arith, within, count))); least = λ n way. least (i + 1) n way }, found.1)

-- two lists with one more
pub zip_more : {A B : Type 0} (R : A → B → Type 0) (xs : List A) (ys : List B) (x : A) (y : B) → AllZip R xs ys → R x y → AllZip R (xs ++ x ∷ []) (ys ++ y ∷ [])
zip_more R [] [] x y all one = (one, tt)
zip_more R [] (b ∷ ys) x y all one = absurd all
zip_more R (a ∷ xs) [] x y all one = absurd all
zip_more R (a ∷ xs) (b ∷ ys) x y all one = (all.0, zip_more R xs ys x y all.1 one)

-- chains with one more
pub passes_more : (chains : List (List ℕ)) (halves : List ℕ) (u : ℕ) → passes (chains ++ halves ∷ []) u ≡ passes chains u + count_of u (halved halves)
passes_more [] halves u = omega arith
passes_more (chain ∷ chains) halves u = let rest = passes_more chains halves u in omega (arith, rest)
