-- A vertex taken away with its triangles: the hole is one face, which goes along the ring.
use Rattle.std.proofs.Common.{◌≡◌, ◌≢◌, ◌⊎◌, ◌-◌, inl, inr, ◌/◌, ◌<◌, ◌≤◌, ℕ, suc, max, false, List, [], ◌∷◌, ◌++◌, sym, ap, ◌∙◌, subst, arith, length, replicate}
use Rattle.std.proofs.lemmas.Bool.{cases_eq}
use Rattle.dcel_fixed.specs.HalfEdges.{rev}
use Rattle.dcel_maps.specs.EditLists.{ComesBy, EditKind, vertex_cut_off}
use Rattle.dcel_maps.specs.EditLists.EditKind.{numbers_changed, spur_dropped, words_joined}
use Rattle.dcel_maps.specs.Maps.{Live, Map}
use Rattle.dcel_maps.specs.theory.Sound.{Sound, Sphere}
use Rattle.dcel_maps.specs.theory.Standing.{Follows}
use Rattle.dcel_maps.specs.theory.Cycles.{IsCycle}
use Rattle.dcel_maps.specs.Words.{count_of}
use Rattle.dcel_maps.proofs.maps.Halves.{rev-rev, rev_half}
use Rattle.dcel_maps.proofs.maps.Lists.{comes_first, comes_once, comes_then, one_each, one_each-replicate}
use Rattle.dcel_maps.proofs.maps.Soundness.{face_cycles}
use Rattle.dcel_maps.proofs.words.Counts.{absent_head, count-same, first_or_later}
use Rattle.dcel_maps.proofs.words.Faces.{KeepsFace, keeps_face-then}
use Rattle.dcel_maps.proofs.words.Paths.{Path-changed}
use Rattle.dcel_maps.proofs.removal.RenumberedFaces.{Numbered, numbered, renumbered_face, renumbered_edit}
use Rattle.dcel_maps.proofs.removal.Spokes.{Merged, Opened, Untouched, follows, path_item}
use Rattle.dcel_maps.proofs.removal.Tips.{SpurGone, away_live, live_away, spur_away, spur_away_keeps, spur_gone, spur_away_edit}

-- the spokes but the first are joined away, this one is a spur then, and the face gets its number
abbrev pub hole_kinds : List ℕ → List EditKind
hole_kinds [] = []
hole_kinds (h ∷ ks) = one_each words_joined ks ++ spur_dropped ∷ numbers_changed ∷ []

pub hole_kinds-is : (spokes : List ℕ) (k : ℕ) → 0 < k → length spokes ≡ k → hole_kinds spokes ≡ vertex_cut_off k
hole_kinds-is [] k some long = absurd (omega (arith, some, long))
hole_kinds-is (h ∷ ks) k some long =
    let same : length ks ≡ k - 1 = omega (arith, long) in
    ap (λ kinds. kinds ++ spur_dropped ∷ numbers_changed ∷ []) (one_each-replicate words_joined ks ∙ ap (λ n. replicate n words_joined) same)

-- P is S without the spokes; the face n of P goes along the ring
pub record HoleOf (S P : Map) (spokes ring : List ℕ) (n : ℕ) : Type 0 where
  pub sound : Sound P
  pub sphere : Sphere P
  pub cycle : IsCycle (Follows P n) ring
  pub origin : (x : ℕ) → P.origin x ≡ S.origin x
  pub gone : (x : ℕ) → 0 < count_of x spokes → P.edge (x / 2) ≡ false
  pub kept : (u : ℕ) → ((x : ℕ) → 0 < count_of x spokes → u ≢ x / 2) → P.edge u ≡ S.edge u
  pub edges : P.edges ≡ S.edges
  pub vertices : P.vertices ≡ S.vertices
  pub faces : P.faces ≡ max S.faces (suc n)
  pub keeps_face : (f : ℕ) → f ≢ n → ((x : ℕ) → 0 < count_of x spokes → S.face x ≢ f) → KeepsFace S P f
  pub cases : (x : ℕ) → Live P x → (P.face x ≡ n) ⊎ ((y : ℕ) → 0 < count_of y spokes → S.face y ≢ P.face x)
  pub comes : ComesBy (hole_kinds spokes) S P

module _ (S K : Map) (h : ℕ) (ks : List ℕ) (b : ℕ) (rest : List ℕ) (g n : ℕ) (o : Opened S K (S.face h) h ks (b ∷ rest) g)
    (free : (x : ℕ) → Live K x → K.face x ≢ g → K.face x ≢ n) where
  abbrev m : Merged K g h (b ∷ rest) h
  m = o.merged

  abbrev k : ℕ
  k = rev h

  live_k : Live K k
  live_k = m.close.live

  turn : rev k ≡ h
  turn = rev-rev h

  next_k : K.next k ≡ rev k
  next_k = m.close.next ∙ sym turn

  next_h : K.next (rev k) ≡ b
  next_h = ap K.next turn ∙ m.path.0.next

  b_apart : b ≢ k
  b_apart i = absent_head k b rest (omega (arith, m.apart)) (sym i)

  U : Map
  U = spur_away K k

  pub hollow : Map
  hollow = renumbered_face U g n

  gone_k : SpurGone K U k
  unfolding U
  gone_k = spur_gone K k

  keeps_U : Sound U × Sphere U
  unfolding U
  keeps_U = spur_away_keeps K k m.sound m.sphere live_k next_k (λ i. b_apart (sym next_h ∙ i))

  live_U : (x : ℕ) → Live U x → Live K x × (x / 2 ≢ k / 2)
  unfolding U
  live_U x l = live_away K k x l

  -- none lies on n yet, where n isn't g
  vacant : (x : ℕ) → Live U x → U.face x ≢ g → U.face x ≢ n
  vacant x l other at = free x (live_U x l).0 (λ i. other (gone_k.face x ∙ i)) (sym (gone_k.face x) ∙ at)

  num : Numbered U hollow g n
  unfolding hollow
  num = numbered U g n keeps_U.0 keeps_U.1 vacant

  face_hollow-other : (x : ℕ) → K.face x ≢ g → hollow.face x ≡ K.face x
  face_hollow-other x other = num.face_other x (λ i. other (sym (gone_k.face x) ∙ i)) ∙ gone_k.face x

  face_hollow-ring : (x : ℕ) → K.face x ≡ g → hollow.face x ≡ n
  face_hollow-ring x at = num.face_there x (gone_k.face x ∙ at)

  live_hollow : (x : ℕ) → Live K x → x ≢ k → x ≢ h → Live hollow x
  unfolding U
  live_hollow x l not_k not_h = num.edge (x / 2) ∙ away_live K k x l not_k (λ i. not_h (i ∙ turn))

  was_live : (x : ℕ) → Live hollow x → Live U x
  was_live x l = sym (num.edge (x / 2)) ∙ l

  item : (y : ℕ) → 0 < count_of y (b ∷ rest) → Live K y × (K.face y ≡ g)
  item y found = path_item K g h (b ∷ rest) k m.path y (omega (arith, found))

  not_k : (y : ℕ) → 0 < count_of y (b ∷ rest) → y ≢ k
  not_k y found i = let there : 0 < count_of k (b ∷ rest) = subst (λ z. 0 < count_of z (b ∷ rest)) i found in omega (arith, there, m.apart)

  not_h : (y : ℕ) → 0 < count_of y (b ∷ rest) → y ≢ h
  not_h y found i = let there : 0 < count_of h (b ∷ rest) = subst (λ z. 0 < count_of z (b ∷ rest)) i found in omega (arith, there, m.once)

  ring_step : (p q : ℕ) → 0 < count_of p (b ∷ rest) → 0 < count_of q rest → Follows K g p q → Follows hollow n p q
  ring_step p q p_in q_in link =
      follows hollow num.sound n p q (live_hollow p link.live (not_k p p_in) (not_h p p_in))
      (num.next p
      ∙ gone_k.next_other p (λ i. not_k q (omega (arith, q_in)) (sym link.next ∙ ap K.next i ∙ m.sound.next-prev k live_k))
      ∙ link.next)
      (face_hollow-ring p link.face)

  ring_end : (p : ℕ) → 0 < count_of p (b ∷ rest) → Follows K g p k → Follows hollow n p b
  ring_end p p_in link =
      follows hollow num.sound n p b (live_hollow p link.live (not_k p p_in) (not_h p p_in))
      (num.next p ∙ ap U.next (sym link.prev) ∙ gone_k.next_before ∙ next_h)
      (face_hollow-ring p link.face)

  around : IsCycle (Follows hollow n) (b ∷ rest)
  around = Path-changed (Follows K g) (Follows hollow n) b rest k b ring_step ring_end m.path.1

  -- the faces that are kept
  keeps_K : (f : ℕ) → f ≢ n → f ≢ g → KeepsFace K hollow f
  keeps_K f off_n off_g = record {
    comes = λ x l at. (
      (live_U x (was_live x l)).0,
      elim (cases_eq (K.face x) g) [
        | inl same ↦ absurd (off_n (sym at ∙ face_hollow-ring x same))
        | inr other ↦ sym (face_hollow-other x other) ∙ at
      ],
    );
    live = λ x l at. live_hollow x l (λ i. off_g (sym at ∙ ap K.face i ∙ m.close.face)) (λ i. off_g (sym at ∙ ap K.face i ∙ m.path.0.face));
    next = λ x l at.
        num.next x
        ∙ gone_k.next_other x (λ i. off_g (sym at ∙ sym ((face_cycles K m.sound).along x l) ∙ ap K.face (ap K.next i ∙ m.sound.next-prev k live_k) ∙ m.close.face));
    prev = λ x l at. num.prev x ∙ gone_k.prev_other x (λ i. off_g (sym at ∙ ap K.face (i ∙ next_h) ∙ (item b (omega (arith, count-same b rest))).1));
    face = λ x l at. face_hollow-other x (λ i. off_g (sym at ∙ i)) ∙ at;
  }

  untouched : (f : ℕ) → ((x : ℕ) → 0 < count_of x (h ∷ ks) → S.face x ≢ f) → Untouched S (S.face h) ks f
  untouched f away = record { off = λ i. away h (omega (arith, count-same h ks)) (sym i); away = λ x found. away x (omega (arith, found)) }

  -- g is the face of spokes alone
  merged_off : (f : ℕ) → Untouched S (S.face h) ks f → f ≢ g
  merged_off f u i =
      let old = (o.keeps_face f u).comes h m.path.0.live (m.path.0.face ∙ sym i) in
      u.off (sym old.1)

  hollow_comes : ComesBy (hole_kinds (h ∷ ks)) S hollow
  unfolding U hollow
  hollow_comes =
      comes_then (one_each words_joined ks) (spur_dropped ∷ numbers_changed ∷ []) S K hollow o.comes
      (comes_first spur_dropped (numbers_changed ∷ []) K U hollow
      (spur_away_edit K k m.sound live_k next_k (λ i. b_apart (sym next_h ∙ i)))
      (comes_once numbers_changed U hollow (renumbered_edit U g n keeps_U.0 vacant)))

  pub is_hollow : HoleOf S hollow (h ∷ ks) (b ∷ rest) n
  is_hollow = record {
    sound = num.sound;
    sphere = num.sphere;
    cycle = around;
    origin = λ x. num.origin x ∙ gone_k.origin x ∙ o.origin x;
    gone = λ x found. elim (first_or_later x h ks found) [
      | inl same ↦ ap (λ z. hollow.edge (z / 2)) same ∙ num.edge (h / 2) ∙ ap U.edge (sym (rev_half h)) ∙ gone_k.edge_here
      | inr later ↦ elim (cases_eq (x / 2) (k / 2)) [
        | inl half ↦ ap hollow.edge half ∙ num.edge (k / 2) ∙ gone_k.edge_here
        | inr other ↦ num.edge (x / 2) ∙ gone_k.edge_other (x / 2) other ∙ o.gone x later
      ]
    ];
    kept = λ u apart.
        num.edge u ∙ gone_k.edge_other u (λ i. apart h (omega (arith, count-same h ks)) (i ∙ rev_half h))
        ∙ o.kept u (λ x found. apart x (omega (arith, found)));
    edges = num.edge_count ∙ gone_k.edges ∙ o.edges;
    vertices = num.vertex_count ∙ gone_k.vertices ∙ o.vertices;
    faces = omega (arith, num.face_number, gone_k.faces, o.faces);
    keeps_face = λ f off away.
        let u = untouched f away in
        keeps_face-then S K hollow f (o.keeps_face f u) (keeps_K f off (merged_off f u));
    cases = λ x l.
        let lives = (live_U x (was_live x l)).0 in
        elim (cases_eq (K.face x) g) [
          | inl same ↦ inl (face_hollow-ring x same)
          | inr other ↦ elim (o.cases x lives) [
            | inl at ↦ absurd (other at)
            | inr u ↦ inr (λ y found at. elim (first_or_later y h ks found) [
              | inl same ↦ u.off (sym (face_hollow-other x other) ∙ sym at ∙ ap S.face same)
              | inr later ↦ u.away y later (at ∙ face_hollow-other x other)
            ])
          ]
        ];
    comes = hollow_comes;
  }

-- the same where n is no number of a face yet
module _ (S K : Map) (h : ℕ) (ks : List ℕ) (b : ℕ) (rest : List ℕ) (g n : ℕ) (o : Opened S K (S.face h) h ks (b ∷ rest) g)
    (sound : Sound S) (live : Live S h) (above : S.faces ≤ n) where
  free : (x : ℕ) → Live K x → K.face x ≢ g → K.face x ≢ n
  free x l other at = let below = o.merged.sound.below_faces x l in omega (arith, below, o.faces, above, at)

  pub P : Map
  P = hollow S K h ks b rest g n o free

  pub hole : HoleOf S P (h ∷ ks) (b ∷ rest) n
  unfolding P
  hole = is_hollow S K h ks b rest g n o free
