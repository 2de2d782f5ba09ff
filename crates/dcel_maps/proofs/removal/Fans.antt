-- A face cut into ears, all at one vertex.
use Rattle.std.proofs.Common.{◌≡◌, ◌≢◌, ◌⊎◌, inl, inr, ◌+◌, ◌*◌, ◌/◌, ◌<◌, ◌≤◌, ℕ, suc, true, List, [], ◌∷◌, length, sym, refl, ap, ◌∙◌, subst, arith}
use Rattle.std.proofs.lemmas.Bool.{cases_eq}
use Rattle.dcel_fixed.specs.HalfEdges.{rev}
use Rattle.dcel_maps.specs.EditLists.{ComesBy}
use Rattle.dcel_maps.specs.EditLists.EditKind.{ear_cut}
use Rattle.dcel_maps.specs.Maps.{Live, Map}
use Rattle.dcel_maps.specs.theory.Sound.{Sound, Sphere}
use Rattle.dcel_maps.specs.theory.Standing.{Follows}
use Rattle.dcel_maps.specs.theory.Cycles.{IsCycle, Path}
use Rattle.dcel_maps.specs.Words.{count_of}
use Rattle.dcel_maps.proofs.maps.Counts.{edge_past}
use Rattle.dcel_maps.proofs.maps.Ears.{EarSite, ear_keeps, ear_site}
use Rattle.dcel_maps.proofs.maps.Edits.{Ear, EarAt}
use Rattle.dcel_maps.proofs.maps.Growth.{Grown, drawn_grown, each_live, live_cases, still_live}
use Rattle.dcel_maps.proofs.maps.Lists.{comes_first, ear_edit, extends_same, one_each}
use Rattle.dcel_maps.proofs.removal.Eared.{ear, ear_face-h, ear_face-n, ear_face-other, ear_face-p, ear_is, ear_next-n, ear_next-other}
use Rattle.dcel_maps.proofs.maps.Soundness.{face_cycles, rev_live}
use Rattle.dcel_maps.proofs.maps.Triangles.{IsTriangleOf, SameLinks, triangle_from, triangle_kept}
use Rattle.dcel_maps.proofs.words.Counts.{count-later, count-same, first_or_later}
use Rattle.dcel_maps.proofs.words.Faces.{KeepsFace, keeps_face-then}
use Rattle.dcel_maps.proofs.words.Paths.{Path-changed}
use Rattle.dcel_maps.proofs.removal.Spokes.{follows, path_item}
use Rattle.dcel_maps.proofs.removal.Without.{keeps-itself}
use Rattle.dcel_fixed.proofs.Halves.{rev-double-suc}

-- the face of (p, q, r, ..) cut into ears: edges from m on, faces from g on
unfoldable pub fan : Map → ℕ → ℕ → ℕ → ℕ → ℕ → List ℕ → Map
fan S m g p q r [] = S
fan S m g p q r (x ∷ rest) = fan (ear S p q r (2 * m + 1) g) (suc m) (suc g) (2 * m + 1) r x rest

-- each ear is a triangle
abbrev pub EarTriangles : Map → ℕ → ℕ → ℕ → ℕ → ℕ → List ℕ → Type 0
EarTriangles M m g p q r [] = IsTriangleOf M g p q r
EarTriangles M m g p q r (x ∷ rest) = IsTriangleOf M g p q (2 * m) × EarTriangles M (suc m) (suc g) (2 * m + 1) r x rest

-- where the new half edges start
abbrev pub EarOrigins : Map → ℕ → (ℕ → ℕ) → ℕ → ℕ → List ℕ → Type 0
EarOrigins M m origin apex r [] = Unit {0}
EarOrigins M m origin apex r (x ∷ rest) = (M.origin (2 * m) ≡ origin r) × (M.origin (2 * m + 1) ≡ apex) × EarOrigins M (suc m) origin apex x rest

-- what a fan asks: the face n goes along the ring, whose first item starts where none from the third on does; no other face has a
-- number from g on, and n is the last face
pub record FanAt (S : Map) (m g n p q r : ℕ) (rest : List ℕ) : Type 0 where
  pub sound : Sound S
  pub sphere : Sphere S
  pub cycle : IsCycle (Follows S n) (p ∷ q ∷ r ∷ rest)
  pub alone : (y : ℕ) → 0 < count_of y (r ∷ rest) → S.origin y ≢ S.origin p
  pub edges : S.edges ≡ m
  pub faces : S.faces ≡ suc n
  pub last : g + length rest ≡ n
  pub occupied : (x : ℕ) → Live S x → (S.face x < g) ⊎ (S.face x ≡ n)

-- what it leaves
pub record Fanned (S M : Map) (m g n p q r : ℕ) (rest : List ℕ) : Type 0 where
  pub sound : Sound M
  pub sphere : Sphere M
  pub triangles : EarTriangles M m g p q r rest
  pub keeps_face : (f : ℕ) → f < g → KeepsFace S M f
  pub edge_old : (u : ℕ) → u < m → M.edge u ≡ S.edge u
  pub edge_new : (u : ℕ) → m ≤ u → u < m + length rest → M.edge u ≡ true
  pub origin_old : (x : ℕ) → Live S x → M.origin x ≡ S.origin x
  pub stays_live : (x : ℕ) → Live S x → Live M x
  pub origins : EarOrigins M m S.origin (S.origin p) r rest
  pub edges : M.edges ≡ m + length rest
  pub vertices : M.vertices ≡ S.vertices
  pub faces : M.faces ≡ suc n

-- a triangle on a face that is kept is one
kept_triangle : (T M : Map) (f x y z : ℕ) → KeepsFace T M f → IsTriangleOf T f x y z → IsTriangleOf M f x y z
kept_triangle T M f x y z keeps a =
    let same : (h : ℕ) → Live T h → T.face h ≡ f → SameLinks T M h =
    λ h live at. record { next = keeps.next h live at; prev = keeps.prev h live at; face = keeps.face h live at ∙ sym at } in
    triangle_kept T M f x y z a
    (keeps.live x a.live_x a.face_x) (keeps.live y a.live_y a.face_y) (keeps.live z a.live_z a.face_z)
    (same x a.live_x a.face_x) (same y a.live_y a.face_y) (same z a.live_z a.face_z)

-- an item after the first comes after an item
path_before : (J : Map) (f x : ℕ) (w : List ℕ) (e : ℕ) → Path (Follows J f) x w e → (y : ℕ) → 0 < count_of y w → 0 < count_of (J.prev y) (x ∷ w)
path_before J f x [] e path y found = absurd (omega (arith, found))
path_before J f x (z ∷ w) e path y found = elim (first_or_later y z w found) [
  | inl same ↦ subst (λ u. 0 < count_of u (x ∷ z ∷ w)) (sym (ap J.prev same ∙ path.0.prev)) (omega (arith, count-same x (z ∷ w)))
  | inr later ↦ count-later (J.prev y) x (z ∷ w) (path_before J f z w e path.1 y later)
]

ear_edges : (S : Map) (p n q m g : ℕ) → S.edges ≡ m → (ear S p n q (2 * m + 1) g).edges ≡ suc m
unfolding ear
ear_edges S p n q m g same = omega (arith, same)

ear_faces : (S : Map) (p n q h g k : ℕ) → S.faces ≡ suc k → g < k → (ear S p n q h g).faces ≡ suc k
unfolding ear
ear_faces S p n q h g k same below = omega (arith, same, below)

-- origins that are the same on the ring
pub origins_same : (M : Map) (o o' : ℕ → ℕ) (a a' : ℕ) → a ≡ a' → (m r : ℕ) (rest : List ℕ) → ((y : ℕ) → 0 < count_of y (r ∷ rest) → o y ≡ o' y)
    → EarOrigins M m o a r rest → EarOrigins M m o' a' r rest
origins_same M o o' a a' at m r [] same origins = tt
origins_same M o o' a a' at m r (x ∷ rest) same origins = (
  origins.0 ∙ same r (omega (arith, count-same r (x ∷ rest))),
  origins.1 ∙ at,
  origins_same M o o' a a' at (suc m) x rest (λ y found. same y (count-later y r (x ∷ rest) found)) origins.2,
)

-- the first ear
module _ (S : Map) (m g n p q r x : ℕ) (rest : List ℕ) (a : FanAt S m g n p q r (x ∷ rest)) where
  abbrev h : ℕ
  h = 2 * m + 1

  half : h / 2 ≡ m
  half = omega arith

  at : EarAt S p q r h g
  at = record {
    lives = a.cycle.0.live;
    next_p = a.cycle.0.next;
    next_n = a.cycle.1.0.next;
    apart = λ i. a.alone r (omega (arith, count-same r (x ∷ rest))) (sym i);
    fresh = ap S.edge half ∙ edge_past S a.sound m (omega (arith, a.edges));
    vacant = λ y live i. elim (a.occupied y live) [ inl below ↦ omega (arith, below, i) | inr last ↦ omega (arith, last, i, a.last) ];
  }

  pub T : Map
  T = ear S p q r (2 * m + 1) g

  e : Ear S T p q r h g
  unfolding T
  e = ear_is S p q r h g at a.sound

  site : EarSite S p q r
  site = ear_site S p q r h g a.sound at

  keeps_T : Sound T × Sphere T
  keeps_T = ear_keeps S T p q r h g e a.sound a.sphere

  grown : Grown S T h
  grown = drawn_grown S T h (S.origin p) (S.origin r) at.fresh e.drawn

  next_q : T.next q ≡ rev h
  next_q = ear_next-n S T p q r h g e site

  next_other : (y : ℕ) → Live S y → y ≢ S.prev p → y ≢ q → T.next y ≡ S.next y
  next_other = ear_next-other S T p q r h g e site

  face_h : T.face h ≡ S.face p
  face_h = ear_face-h S T p q r h g e site

  face_p : T.face p ≡ g
  face_p = ear_face-p S T p q r h g e site

  face_q : T.face q ≡ g
  face_q = ear_face-n S T p q r h g e site

  face_other : (y : ℕ) → Live S y → y ≢ p → y ≢ q → T.face y ≡ S.face y
  face_other = ear_face-other S T p q r h g e site

  item : (y : ℕ) → 0 < count_of y (r ∷ x ∷ rest) → Live S y × (S.face y ≡ n)
  item y found = path_item S n r (x ∷ rest) p a.cycle.1.1 y found

  not_p : (y : ℕ) → 0 < count_of y (r ∷ x ∷ rest) → y ≢ p
  not_p y found i = a.alone y found (ap S.origin i)

  not_q : (y : ℕ) → 0 < count_of y (r ∷ x ∷ rest) → y ≢ q
  not_q y found i = elim (first_or_later y r (x ∷ rest) found) [
    | inl same ↦ site.n≢q (sym i ∙ same)
    | inr later ↦ not_p (S.prev y) (path_before S n r (x ∷ rest) p a.cycle.1.1 y later) (ap S.prev i ∙ site.prev_n)
  ]

  -- what is left of the ring, with h in place of p and q
  step : (y z : ℕ) → 0 < count_of y (r ∷ x ∷ rest) → 0 < count_of z (x ∷ rest) → Follows S n y z → Follows T n y z
  step y z y_in z_in link =
      follows T keeps_T.0 n y z (still_live S T h grown y link.live)
      (next_other y link.live (λ i. not_p z (count-later z r (x ∷ rest) z_in) (sym link.next ∙ ap S.next i ∙ a.sound.next-prev p at.lives)) (not_q y y_in) ∙ link.next)
      (face_other y link.live (not_p y y_in) (not_q y y_in) ∙ link.face)

  last : (y : ℕ) → 0 < count_of y (r ∷ x ∷ rest) → Follows S n y p → Follows T n y h
  last y y_in link =
      follows T keeps_T.0 n y h (still_live S T h grown y link.live) (ap T.next (sym link.prev) ∙ e.next_to_h)
      (face_other y link.live (not_p y y_in) (not_q y y_in) ∙ link.face)

  left : IsCycle (Follows T n) (h ∷ r ∷ x ∷ rest)
  left = (
    follows T keeps_T.0 n h r e.edge_here e.next_h (face_h ∙ a.cycle.0.face),
    Path-changed (Follows S n) (Follows T n) r (x ∷ rest) p h step last a.cycle.1.1,
  )

  turn : rev h ≡ 2 * m
  turn = rev-double-suc m

  live_rev : Live T (2 * m)
  live_rev = subst (Live T) turn (rev_live T h e.edge_here)

  -- the ear itself
  pub cut : IsTriangleOf T g p q (2 * m)
  cut =
      triangle_from T keeps_T.0 g p q (2 * m) (still_live S T h grown p at.lives) (next_other p at.lives (λ i. site.back≢p (sym i)) site.p≢n ∙ at.next_p)
      (next_q ∙ turn) (ap T.next (sym turn) ∙ e.next_rev) face_p

  pub next_at : FanAt T (suc m) (suc g) n (2 * m + 1) r x rest
  unfolding T
  next_at = record {
    sound = keeps_T.0;
    sphere = keeps_T.1;
    cycle = left;
    alone = λ y found i.
        let found_r = count-later y r (x ∷ rest) found in
        a.alone y found_r (sym (e.origin_other y (item y found_r).0) ∙ i ∙ e.origin_h);
    edges = ear_edges S p q r m g a.edges;
    faces = ear_faces S p q r h g n a.faces (omega (arith, a.last));
    last = omega (arith, a.last);
    occupied =
        each_live S T h grown (λ y. (T.face y < suc g) ⊎ (T.face y ≡ n))
        (λ y live. elim (cases_eq y p) [
          | inl i ↦ let new : T.face y ≡ g = ap T.face i ∙ face_p in inl (omega (arith, new))
          | inr d ↦ elim (cases_eq y q) [
            | inl i ↦ let new : T.face y ≡ g = ap T.face i ∙ face_q in inl (omega (arith, new))
            | inr k ↦
                let old : T.face y ≡ S.face y = face_other y live d k in
                elim (a.occupied y live) [ inl below ↦ inl (omega (arith, old, below)) | inr same ↦ inr (old ∙ same) ]
          ]
        ])
        (inr (face_h ∙ a.cycle.0.face)) (let new = e.face_rev in inl (omega (arith, new)));
  }

  keeps_ear : (f : ℕ) → f < g → KeepsFace S T f
  keeps_ear f below =
      let off_n : n ≢ f = λ i. omega (arith, below, i, a.last) in
      let was_p = a.cycle.0.face in
      let was_q = a.cycle.1.0.face in
      record {
        comes = λ y live i. elim (live_cases S T h grown y live) [
          | inl old ↦ elim (cases_eq y p) [
            | inl same ↦ absurd (omega (arith, below, sym i ∙ ap T.face same ∙ face_p))
            | inr d ↦ elim (cases_eq y q) [
              | inl same ↦ absurd (omega (arith, below, sym i ∙ ap T.face same ∙ face_q))
              | inr k ↦ (old, sym (face_other y old d k) ∙ i)
            ]
          ]
          | inr (inl same) ↦ absurd (off_n (sym was_p ∙ sym face_h ∙ ap T.face (sym same) ∙ i))
          | inr (inr same) ↦ absurd (omega (arith, below, sym i ∙ ap T.face same ∙ e.face_rev))
        ];
        live = λ y live i. still_live S T h grown y live;
        next = λ y live i.
            next_other y live
            (λ j. off_n (sym (sym i ∙ sym ((face_cycles S a.sound).along y live) ∙ ap S.face (ap S.next j ∙ a.sound.next-prev p at.lives) ∙ was_p)))
            (λ j. off_n (sym was_q ∙ ap S.face (sym j) ∙ i));
        prev = λ y live i.
            e.prev_other y live (λ j. off_n (sym was_p ∙ ap S.face (sym j) ∙ i))
            (λ j. off_n (sym (item r (omega (arith, count-same r (x ∷ rest)))).1 ∙ ap S.face (sym j) ∙ i));
        face = λ y live i.
            face_other y live (λ j. off_n (sym was_p ∙ ap S.face (sym j) ∙ i)) (λ j. off_n (sym was_q ∙ ap S.face (sym j) ∙ i)) ∙ i;
      }

  -- the first ear, and then the others
  pub then_fanned : (M : Map) → Fanned T M (suc m) (suc g) n (2 * m + 1) r x rest → Fanned S M m g n p q r (x ∷ rest)
  then_fanned M o = record {
    sound = o.sound;
    sphere = o.sphere;
    triangles = (kept_triangle T M g p q (2 * m) (o.keeps_face g (omega arith)) cut, o.triangles);
    keeps_face = λ f below. keeps_face-then S T M f (keeps_ear f below) (o.keeps_face f (omega (arith, below)));
    edge_old = λ u below. o.edge_old u (omega (arith, below)) ∙ e.edge_other u (λ i. omega (arith, below, i, half));
    edge_new = λ u from to. elim (cases_eq u m) [
      | inl same ↦ o.edge_old u (omega (arith, same)) ∙ ap T.edge (same ∙ sym half) ∙ e.edge_here
      | inr other ↦ o.edge_new u (omega (arith, from, other)) (omega (arith, to))
    ];
    origin_old = λ y live. o.origin_old y (still_live S T h grown y live) ∙ e.origin_other y live;
    stays_live = λ y live. o.stays_live y (still_live S T h grown y live);
    origins = (
      o.origin_old (2 * m) live_rev ∙ ap T.origin (sym turn) ∙ e.origin_rev,
      o.origin_old h e.edge_here ∙ e.origin_h,
      origins_same M T.origin S.origin (T.origin h) (S.origin p) e.origin_h (suc m) x rest
          (λ y found. e.origin_other y (item y (count-later y r (x ∷ rest) found)).0) o.origins,
    );
    edges = omega (arith, o.edges);
    vertices = o.vertices ∙ e.vertices;
    faces = o.faces;
  }

-- a fan keeps a map sound and a sphere, and leaves its ears
pub fanned : (rest : List ℕ) (S : Map) (m g n p q r : ℕ) → FanAt S m g n p q r rest → Fanned S (fan S m g p q r rest) m g n p q r rest
unfolding fan T
fanned [] S m g n p q r a =
    let same : n ≡ g = omega (arith, a.last) in
    record {
      sound = a.sound;
      sphere = a.sphere;
      triangles = triangle_from S a.sound g p q r a.cycle.0.live a.cycle.0.next a.cycle.1.0.next a.cycle.1.1.next (a.cycle.0.face ∙ same);
      keeps_face = λ f below. keeps-itself S f;
      edge_old = λ u below. refl;
      edge_new = λ u from to. absurd (omega (arith, from, to));
      origin_old = λ y live. refl;
      stays_live = λ y live. live;
      origins = tt;
      edges = omega (arith, a.edges);
      vertices = refl;
      faces = a.faces;
    }
fanned (x ∷ rest) S m g n p q r a =
    then_fanned S m g n p q r x rest a (fan (ear S p q r (2 * m + 1) g) (suc m) (suc g) (2 * m + 1) r x rest)
    (fanned rest (ear S p q r (2 * m + 1) g) (suc m) (suc g) n (2 * m + 1) r x (next_at S m g n p q r x rest a))

-- it is an ear for each item after the third
pub fan_comes : (rest : List ℕ) (S : Map) (m g n p q r : ℕ) → FanAt S m g n p q r rest → ComesBy (one_each ear_cut rest) S (fan S m g p q r rest)
unfolding fan T
fan_comes [] S m g n p q r a = extends_same S
fan_comes (x ∷ rest) S m g n p q r a =
    comes_first ear_cut (one_each ear_cut rest) S (ear S p q r (2 * m + 1) g) (fan (ear S p q r (2 * m + 1) g) (suc m) (suc g) (2 * m + 1) r x rest)
    (ear_edit S (ear S p q r (2 * m + 1) g) p q r (2 * m + 1) g (e S m g n p q r x rest a) a.sound)
    (fan_comes rest (ear S p q r (2 * m + 1) g) (suc m) (suc g) n (2 * m + 1) r x (next_at S m g n p q r x rest a))
