-- The triangles round a vertex become one face: its spokes but one are taken away, one after another.
use Rattle.std.proofs.Common.{◌≡◌, ◌≢◌, ◌⊎◌, inl, inr, ◌/◌, ◌<◌, ℕ, false, List, [], ◌∷◌, ◌++◌, map, sym, refl, ap, ◌∙◌, subst, arith}
use Rattle.std.proofs.lemmas.Bool.{cases_eq}
use Rattle.std.proofs.lemmas.List.{append_assoc}
use Rattle.dcel_fixed.specs.HalfEdges.{rev}
use Rattle.dcel_maps.specs.EditLists.{ComesBy}
use Rattle.dcel_maps.specs.EditLists.EditKind.{words_joined}
use Rattle.dcel_maps.specs.Maps.{Live, Map}
use Rattle.dcel_maps.specs.theory.Sound.{Sound, Sphere}
use Rattle.dcel_maps.specs.theory.Standing.{Follows}
use Rattle.dcel_maps.specs.theory.Cycles.{Path}
use Rattle.dcel_maps.specs.Words.{count_of}
use Rattle.dcel_maps.proofs.maps.Halves.{rev_or_same}
use Rattle.dcel_maps.proofs.maps.Lists.{comes_first, comes_once, one_each}
use Rattle.dcel_maps.proofs.maps.Soundness.{face_cycles, next_differs}
use Rattle.dcel_maps.proofs.words.Counts.{count-append, count-later, count-none, count-other, count-same, first_or_later}
use Rattle.dcel_maps.proofs.words.Faces.{KeepsFace, keeps_face-then}
use Rattle.dcel_maps.proofs.words.Paths.{Path-append, Path-changed}
use Rattle.dcel_maps.proofs.maps.Joins.{join, join_keeps, join_edit}
use Rattle.dcel_maps.proofs.removal.Without.{Without, live_join, without, without-keeps}

-- a triangle between two spokes: p, what comes after it, and the other half of q
pub record Sector (J : Map) (p q : ℕ) : Type 0 where
  pub live : Live J p
  pub next : J.next (J.next p) ≡ rev q
  pub back : J.next (rev q) ≡ p

-- the face f is (h, w, rev k): the triangles from the spoke h up to the spoke k are one face
pub record Merged (J : Map) (f h : ℕ) (w : List ℕ) (k : ℕ) : Type 0 where
  pub sound : Sound J
  pub sphere : Sphere J
  pub path : Path (Follows J f) h w (rev k)
  pub close : Follows J f (rev k) h
  pub apart : count_of (rev k) (h ∷ w) ≡ 0
  pub once : count_of h w ≡ 0

-- spokes on different faces, none of which is f
abbrev pub Different : Map → ℕ → List ℕ → Type 0
Different J f [] = Unit {0}
Different J f (k ∷ ks) = ((x : ℕ) → 0 < count_of x (k ∷ ks) → J.face x ≢ f) × Different J (J.face k) ks

-- in a sound map the link forth is enough
pub follows : (J : Map) → Sound J → (f p q : ℕ) → Live J p → J.next p ≡ q → J.face p ≡ f → Follows J f p q
follows J sound f p q live next face = record {
  live = live;
  next = next;
  prev = ap J.prev (sym next) ∙ sound.prev-next p live;
  face = face;
}

-- each item of a path lies on its face, and is live
pub path_item : (J : Map) (f x : ℕ) (w : List ℕ) (e : ℕ) → Path (Follows J f) x w e → (y : ℕ) → 0 < count_of y (x ∷ w)
    → Live J y × (J.face y ≡ f)
path_item J f x [] e path y found = elim (first_or_later y x [] found) [
  | inl same ↦ (subst (Live J) (sym same) path.live, ap J.face same ∙ path.face)
  | inr later ↦ absurd (omega (arith, later))
]
path_item J f x (z ∷ w) e path y found = elim (first_or_later y x (z ∷ w) found) [
  | inl same ↦ (subst (Live J) (sym same) path.0.live, ap J.face same ∙ path.0.face)
  | inr later ↦ path_item J f z w e path.1 y later
]

module _ (J : Map) (f h : ℕ) (w : List ℕ) (k l : ℕ) (m : Merged J f h w k) (sector : Sector J k l) (off : J.face k ≢ f) where
  abbrev r : ℕ
  r = J.next k

  abbrev g : ℕ
  g = J.face k

  along : (x : ℕ) → Live J x → J.face (J.next x) ≡ J.face x
  along = (face_cycles J m.sound).along

  sides : J.face k ≢ J.face (rev k)
  sides same = off (same ∙ m.close.face)

  away : Without J (join J k) k
  away = without J k m.sound sector.live sides

  keeps : Sound (join J k) × Sphere (join J k)
  keeps = join_keeps J k m.sound m.sphere sector.live sides

  live_r : Live J r
  live_r = m.sound.live_next k sector.live

  live_l : Live J (rev l)
  live_l = subst (Live J) sector.next (m.sound.live_next r live_r)

  face_r : J.face r ≡ g
  face_r = along k sector.live

  face_l : J.face (rev l) ≡ g
  face_l = ap J.face (sym sector.next) ∙ along r live_r ∙ face_r

  before_k : J.prev k ≡ rev l
  before_k = ap J.prev (sym sector.back) ∙ m.sound.prev-next (rev l) live_l

  on_f : (y : ℕ) → 0 < count_of y (h ∷ w) → J.face y ≡ f
  on_f y found = (path_item J f h w (rev k) m.path y found).1

  -- an item of (h, w) is live after it, and lies on g
  item_live : (p : ℕ) → 0 < count_of p (h ∷ w) → Live J p → Live (join J k) p
  item_live p found live =
      live_join J k p live (λ i. off (ap J.face (sym i) ∙ on_f p found))
      (λ i. let there : 0 < count_of (rev k) (h ∷ w) = subst (λ z. 0 < count_of z (h ∷ w)) i found in omega (arith, there, m.apart))

  item_face : (p : ℕ) → 0 < count_of p (h ∷ w) → (join J k).face p ≡ g
  item_face p found = away.face_beyond p (on_f p found ∙ sym m.close.face)

  step : (p q : ℕ) → 0 < count_of p (h ∷ w) → 0 < count_of q w → Follows J f p q → Follows (join J k) g p q
  step p q p_in q_in link =
      follows (join J k) keeps.0 g p q (item_live p p_in link.live)
      (away.next_other p
      (λ i. off (ap J.face (sym (m.sound.next-prev k sector.live) ∙ ap J.next (sym i)) ∙ along p link.live ∙ link.face))
      (λ i.
      let same : q ≡ rev k = sym link.next ∙ ap J.next i ∙ m.sound.next-prev (rev k) m.close.live in
      let there : 0 < count_of (rev k) w = subst (λ z. 0 < count_of z w) same q_in in
      omega (arith, count-later (rev k) h w there, m.apart))
      ∙ link.next)
      (item_face p p_in)

  last : (p : ℕ) → 0 < count_of p (h ∷ w) → Follows J f p (rev k) → Follows (join J k) g p r
  last p p_in link =
      follows (join J k) keeps.0 g p r (item_live p p_in link.live) (ap (join J k).next (sym link.prev) ∙ away.next_before_rev) (item_face p p_in)

  r_differs : r ≢ rev l
  r_differs i = next_differs J m.sound r live_r (sector.next ∙ sym i)

  to_l : Follows (join J k) g r (rev l)
  to_l =
      follows (join J k) keeps.0 g r (rev l)
      (live_join J k r live_r (next_differs J m.sound k sector.live) (λ i. sides (sym face_r ∙ ap J.face i)))
      (away.next_other r (λ i. r_differs (i ∙ before_k))
      (λ i. sides (sym face_l ∙ ap J.face (sym sector.next ∙ ap J.next i ∙ m.sound.next-prev (rev k) m.close.live)))
      ∙ sector.next)
      (away.face_other r (λ i. sides (sym face_r ∙ i)) ∙ face_r)

  round : Follows (join J k) g (rev l) h
  round =
      follows (join J k) keeps.0 g (rev l) h
      (live_join J k (rev l) live_l (λ i. next_differs J m.sound (rev l) live_l (sector.back ∙ sym i)) (λ i. sides (sym face_l ∙ ap J.face i)))
      (ap (join J k).next (sym before_k) ∙ away.next_before ∙ m.close.next)
      (away.face_other (rev l) (λ i. sides (sym face_l ∙ i)) ∙ face_l)

  not_here : (x : ℕ) → 0 < count_of x (h ∷ (w ++ r ∷ [])) → rev l ≢ x
  not_here x found same = elim (cases_eq x r) [
    | inl i ↦ r_differs (sym (same ∙ i))
    | inr d ↦ off (sym face_l ∙ ap J.face same ∙ on_f x (omega (arith, found, count-append x (h ∷ w) (r ∷ []), count-other x r [] d)))
  ]

  -- one more triangle
  pub merged-step : Merged (join J k) (J.face k) h (w ++ J.next k ∷ []) l
  merged-step = record {
    sound = keeps.0;
    sphere = keeps.1;
    path = Path-append (Follows (join J k) g) h w r [] (rev l) (Path-changed (Follows J f) (Follows (join J k) g) h w (rev k) r step last m.path) to_l;
    close = round;
    apart = count-none (rev l) (h ∷ (w ++ r ∷ [])) not_here;
    once =
        let d : h ≢ r = λ i. off (sym face_r ∙ ap J.face (sym i) ∙ on_f h (omega (arith, count-same h w))) in
        omega (arith, m.once, count-append h w (r ∷ []), count-other h r [] d);
  }

-- no spoke of the list, and not the merged face, lies on the face n
pub record Untouched (S : Map) (f : ℕ) (spokes : List ℕ) (n : ℕ) : Type 0 where
  pub off : n ≢ f
  pub away : (x : ℕ) → 0 < count_of x spokes → S.face x ≢ n

-- J is S without the spokes: their faces and f are one face g, which is (h, w, rev h)
pub record Opened (S J : Map) (f h : ℕ) (spokes w : List ℕ) (g : ℕ) : Type 0 where
  pub merged : Merged J g h w h
  pub origin : (x : ℕ) → J.origin x ≡ S.origin x
  pub gone : (x : ℕ) → 0 < count_of x spokes → J.edge (x / 2) ≡ false
  pub kept : (u : ℕ) → ((x : ℕ) → 0 < count_of x spokes → u ≢ x / 2) → J.edge u ≡ S.edge u
  pub edges : J.edges ≡ S.edges
  pub vertices : J.vertices ≡ S.vertices
  pub faces : J.faces ≡ S.faces
  pub keeps_face : (n : ℕ) → Untouched S f spokes n → KeepsFace S J n
  pub cases : (x : ℕ) → Live J x → (J.face x ≡ g) ⊎ Untouched S f spokes (J.face x)
  pub comes : ComesBy (one_each words_joined spokes) S J

-- functions that are the same on a list
map_same : (f g : ℕ → ℕ) (w : List ℕ) → ((x : ℕ) → 0 < count_of x w → f x ≡ g x) → map f w ≡ map g w
map_same f g [] same = refl
map_same f g (x ∷ w) same = ap (λ y. y ∷ map f w) (same x (omega (arith, count-same x w))) ∙ ap (λ u. g x ∷ u) (map_same f g w (λ y found. same y (count-later y x w found)))

different_kept : (J K : Map) (f : ℕ) (ks : List ℕ) → ((x : ℕ) → 0 < count_of x ks → K.face x ≡ J.face x) → Different J f ks → Different K f ks
different_kept J K f [] same different = tt
different_kept J K f (k ∷ ks) same different = (
  λ x found at. different.0 x found (sym (same x found) ∙ at),
  subst (λ n. Different K n ks) (sym (same k (omega (arith, count-same k ks))))
      (different_kept J K (J.face k) ks (λ x found. same x (count-later x k ks found)) different.1),
)

-- a triangle on a face that is kept is kept
sector_kept : (J K : Map) → Sound J → (p q : ℕ) → KeepsFace J K (J.face p) → Sector J p q → Sector K p q
sector_kept J K sound p q keeps sector =
    let along = (face_cycles J sound).along in
    let live_n = sound.live_next p sector.live in
    let live_b = sound.live_next (J.next p) live_n in
    let face_n = along p sector.live in
    let face_b = along (J.next p) live_n ∙ face_n in
    record {
      live = keeps.live p sector.live refl;
      next = ap K.next (keeps.next p sector.live refl) ∙ keeps.next (J.next p) live_n face_n ∙ sector.next;
      back = keeps.next (rev q) (subst (Live J) sector.next live_b) (ap J.face (sym sector.next) ∙ face_b) ∙ sector.back;
    }

-- spokes are live
sector_live : (J : Map) (p : ℕ) (r : List ℕ) (e : ℕ) → Path (Sector J) p r e → (x : ℕ) → 0 < count_of x (p ∷ r) → Live J x
sector_live J p [] e path x found = elim (first_or_later x p [] found) [
  | inl same ↦ subst (Live J) (sym same) path.live
  | inr later ↦ absurd (omega (arith, later))
]
sector_live J p (q ∷ r) e path x found = elim (first_or_later x p (q ∷ r) found) [
  | inl same ↦ subst (Live J) (sym same) path.0.live
  | inr later ↦ sector_live J q r e path.1 x later
]

-- one spoke taken away
module _ (J : Map) (f h : ℕ) (w : List ℕ) (k : ℕ) (sound : Sound J) (live : Live J k) (beyond : J.face (rev k) ≡ f) (off : J.face k ≢ f) where
  one_sides : J.face k ≢ J.face (rev k)
  one_sides same = off (same ∙ beyond)

  one : Without J (join J k) k
  one = without J k sound live one_sides

  one_face : (x : ℕ) → J.face x ≢ f → (join J k).face x ≡ J.face x
  one_face x other = one.face_other x (λ i. other (i ∙ beyond))

  one_keeps : (n : ℕ) → n ≢ J.face k → n ≢ f → KeepsFace J (join J k) n
  one_keeps n other out = without-keeps J k sound live one_sides n other (λ i. out (i ∙ beyond))

  -- nothing lies on f any more
  one_vacant : (x : ℕ) → (join J k).face x ≢ f
  one_vacant x at = elim (cases_eq (J.face x) f) [
    | inl same ↦ off (sym (one.face_beyond x (same ∙ sym beyond)) ∙ at)
    | inr other ↦ other (sym (one_face x other) ∙ at)
  ]

-- the last spoke but h taken away
last_opened : (J : Map) (f h : ℕ) (w : List ℕ) (k : ℕ) → Merged J f h w k → Sector J k h → J.face k ≢ f
    → Opened J (join J k) f h (k ∷ []) (w ++ J.next k ∷ []) (J.face k)
last_opened J f h w k m sector off =
    let away = one J f h w k m.sound sector.live m.close.face off in
    let is_k : (x : ℕ) → 0 < count_of x (k ∷ []) → x ≡ k = λ x found. elim (first_or_later x k [] found) [ inl same ↦ same | inr none ↦ absurd (omega (arith, none)) ] in
    record {
      merged = merged-step J f h w k h m sector off;
      origin = away.origin;
      gone = λ x found. ap (λ z. (join J k).edge (z / 2)) (is_k x found) ∙ away.edge_here;
      kept = λ u apart. away.edge_other u (apart k (omega (arith, count-same k [])));
      edges = away.edges;
      vertices = away.vertices;
      faces = away.faces;
      keeps_face = λ n untouched.
          one_keeps J f h w k m.sound sector.live m.close.face off n (λ i. untouched.away k (omega (arith, count-same k [])) (sym i)) untouched.off;
      cases = λ x live. elim (cases_eq ((join J k).face x) (J.face k)) [
        | inl same ↦ inl same
        | inr other ↦ inr (record {
          off = one_vacant J f h w k m.sound sector.live m.close.face off x;
          away = λ y found at. other (sym at ∙ ap J.face (is_k y found));
        })
      ];
      comes = comes_once words_joined J (join J k) (join_edit J k m.sound sector.live (one_sides J f h w k m.sound sector.live m.close.face off));
    }

-- one spoke taken away, and then the others
then_opened : (J K : Map) (f h : ℕ) (w : List ℕ) (k : ℕ) (ks ring : List ℕ) (g : ℕ) → Merged J f h w k → Live J k → J.face k ≢ f
    → ((x : ℕ) → 0 < count_of x ks → J.face x ≢ f) → ((x : ℕ) → 0 < count_of x ks → J.face x ≢ J.face k)
    → Opened (join J k) K (J.face k) h ks ring g → Opened J K f h (k ∷ ks) ring g
then_opened J K f h w k ks ring g m live off offs others o =
    let away = one J f h w k m.sound live m.close.face off in
    let face_of_other : (x : ℕ) → 0 < count_of x ks → (join J k).face x ≡ J.face x = λ x found. one_face J f h w k m.sound live m.close.face off x (offs x found) in
    record {
      merged = o.merged;
      origin = λ x. o.origin x ∙ away.origin x;
      gone = λ x found. elim (first_or_later x k ks found) [
        | inl same ↦ ap (λ z. K.edge (z / 2)) same ∙ o.kept (k / 2) (λ y there half. elim (rev_or_same y k (sym half)) [
          | inl i ↦ others y there (ap J.face i)
          | inr i ↦ offs y there (ap J.face i ∙ m.close.face)
        ]) ∙ away.edge_here
        | inr later ↦ o.gone x later
      ];
      kept = λ u apart. o.kept u (λ x found. apart x (count-later x k ks found)) ∙ away.edge_other u (apart k (omega (arith, count-same k ks)));
      edges = o.edges ∙ away.edges;
      vertices = o.vertices ∙ away.vertices;
      faces = o.faces ∙ away.faces;
      keeps_face = λ n untouched.
          let n_k : n ≢ J.face k = λ i. untouched.away k (omega (arith, count-same k ks)) (sym i) in
          keeps_face-then J (join J k) K n (one_keeps J f h w k m.sound live m.close.face off n n_k untouched.off)
          (o.keeps_face n (record { off = n_k; away = λ x found at. untouched.away x (count-later x k ks found) (sym (face_of_other x found) ∙ at) }));
      cases = λ x lives. elim (o.cases x lives) [
        | inl same ↦ inl same
        | inr untouched ↦ inr (record {
          off = λ i. one_vacant J f h w k m.sound live m.close.face off x (((o.keeps_face (K.face x) untouched).comes x lives refl).1 ∙ i);
          away = λ y found. elim (first_or_later y k ks found) [
            | inl same ↦ λ at. untouched.off (sym at ∙ ap J.face same)
            | inr later ↦ λ at. untouched.away y later (face_of_other y later ∙ at)
          ];
        })
      ];
      comes = comes_first words_joined (one_each words_joined ks) J (join J k) K
          (join_edit J k m.sound live (one_sides J f h w k m.sound live m.close.face off)) o.comes;
    }

-- all spokes but h taken away
pub opened : (ks : List ℕ) (J : Map) (f h : ℕ) (w : List ℕ) (k : ℕ) → Merged J f h w k → Path (Sector J) k ks h → Different J f (k ∷ ks)
    → (K : Map) × (g : ℕ) × Opened J K f h (k ∷ ks) (w ++ map J.next (k ∷ ks)) g
opened [] J f h w k m sectors different =
    (join J k, J.face k, last_opened J f h w k m sectors (different.0 k (omega (arith, count-same k []))))
opened (l ∷ ks) J f h w k m sectors different =
    let live = sectors.0.live in
    let off = different.0 k (omega (arith, count-same k (l ∷ ks))) in
    let offs : (x : ℕ) → 0 < count_of x (l ∷ ks) → J.face x ≢ f = λ x found. different.0 x (count-later x k (l ∷ ks) found) in
    let others : (x : ℕ) → 0 < count_of x (l ∷ ks) → J.face x ≢ J.face k = different.1.0 in
    let keeps : (x : ℕ) → 0 < count_of x (l ∷ ks) → KeepsFace J (join J k) (J.face x) =
    λ x found. one_keeps J f h w k m.sound live m.close.face off (J.face x) (others x found) (offs x found) in
    let sectors_kept : Path (Sector (join J k)) l ks h =
    Path-changed (Sector J) (Sector (join J k)) l ks h h
    (λ p q p_in q_in s. sector_kept J (join J k) m.sound p q (keeps p p_in) s) (λ p p_in s. sector_kept J (join J k) m.sound p h (keeps p p_in) s) sectors.1 in
    let live_of : (x : ℕ) → 0 < count_of x (l ∷ ks) → Live J x = sector_live J l ks h sectors.1 in
    let rest = opened ks (join J k) (J.face k) h (w ++ J.next k ∷ []) l (merged-step J f h w k l m sectors.0 off) sectors_kept
    (different_kept J (join J k) (J.face k) (l ∷ ks) (λ x found. one_face J f h w k m.sound live m.close.face off x (offs x found)) different.1) in
    let ring : (w ++ J.next k ∷ []) ++ map (join J k).next (l ∷ ks) ≡ w ++ map J.next (k ∷ l ∷ ks) =
    ap (λ u. (w ++ J.next k ∷ []) ++ u) (map_same (join J k).next J.next (l ∷ ks) (λ x found. (keeps x found).next x (live_of x found) refl))
    ∙ append_assoc w (J.next k ∷ []) (map J.next (l ∷ ks)) in (
      rest.0,
      rest.1,
      subst (λ u. Opened J rest.0 f h (k ∷ l ∷ ks) u rest.1) ring
          (then_opened J rest.0 f h w k (l ∷ ks) ((w ++ J.next k ∷ []) ++ map (join J k).next (l ∷ ks)) rest.1 m live off offs others rest.2),
    )
