-- Triangles of a map.
use Rattle.std.proofs.Common.{◌≡◌, ◌≢◌, ◌⊎◌, inl, inr, ℕ, refl, sym, ap, ◌∙◌, subst}
use Rattle.std.proofs.lemmas.Bool.{cases_eq}
use Rattle.dcel_fixed.specs.HalfEdges.{rev}
use Rattle.dcel_maps.specs.Maps.{By, Live, Map}
use Rattle.dcel_maps.specs.theory.Sound.{Sound}
use Rattle.dcel_maps.proofs.maps.Halves.{rev-rev, rev_differs}
use Rattle.dcel_maps.proofs.maps.Reaching.{reaches_stays}
use Rattle.dcel_maps.proofs.maps.Soundness.{face_cycles, next_differs, rev_live}

-- h is live on the face f, between `before` and `after`
pub record IsLinked (M : Map) (f before h after : ℕ) : Type 0 where
  pub live : Live M h
  pub next : M.next h ≡ after
  pub prev : M.prev h ≡ before
  pub face : M.face h ≡ f

-- the face f is the triangle (x, y, z)
pub record IsTriangleOf (M : Map) (f x y z : ℕ) : Type 0 where
  pub at_x : IsLinked M f z x y
  pub open at_x use {live as live_x, next as next_x, prev as prev_x, face as face_x}
  pub at_y : IsLinked M f x y z
  pub open at_y use {live as live_y, next as next_y, prev as prev_y, face as face_y}
  pub at_z : IsLinked M f y z x
  pub open at_z use {live as live_z, next as next_z, prev as prev_z, face as face_z}
  pub x≢y : x ≢ y
  pub y≢z : y ≢ z
  pub x≢z : x ≢ z

-- three steps that come back go round a triangle
pub triangle_from : (M : Map) → Sound M → (f x y z : ℕ) → Live M x → M.next x ≡ y → M.next y ≡ z → M.next z ≡ x → M.face x ≡ f
    → IsTriangleOf M f x y z
triangle_from M s f x y z live first second third face =
    let live_y : Live M y = subst (Live M) first (s.live_next x live) in
    let live_z : Live M z = subst (Live M) second (s.live_next y live_y) in
    let along = (face_cycles M s).along in
    let face_y : M.face y ≡ f = ap M.face (sym first) ∙ along x live ∙ face in
    record {
      at_x = record { live = live; next = first; prev = ap M.prev (sym third) ∙ s.prev-next z live_z; face = face };
      at_y = record { live = live_y; next = second; prev = ap M.prev (sym first) ∙ s.prev-next x live; face = face_y };
      at_z = record { live = live_z; next = third; prev = ap M.prev (sym second) ∙ s.prev-next y live_y; face = ap M.face (sym second) ∙ along y live_y ∙ face_y };
      x≢y = λ same. next_differs M s x live (first ∙ sym same);
      y≢z = λ same. next_differs M s y live_y (second ∙ sym same);
      x≢z = λ same. next_differs M s z live_z (third ∙ same);
    }

-- a triangle is one from its last half edge on
pub triangle_turned : (M : Map) (f x y z : ℕ) → IsTriangleOf M f x y z → IsTriangleOf M f z x y
triangle_turned M f x y z a = record {
  at_x = a.at_z;
  at_y = a.at_x;
  at_z = a.at_y;
  x≢y = λ is. a.x≢z (sym is);
  y≢z = a.x≢y;
  x≢z = λ is. a.y≢z (sym is);
}

-- nothing lies on the face f but these
abbrev pub Alone : Map → ℕ → ℕ → ℕ → ℕ → Type 0
Alone M f x y z = (h : ℕ) → Live M h → M.face h ≡ f → (h ≡ x) ⊎ ((h ≡ y) ⊎ (h ≡ z))

pub alone_turned : (M : Map) (f x y z : ℕ) → Alone M f x y z → Alone M f z x y
alone_turned M f x y z alone h live at = elim (alone h live at) [ inl is ↦ inr (inl is) | inr (inl is) ↦ inr (inr is) | inr (inr is) ↦ inl is ]

-- the triangle of a half edge from which two steps lead to the one before
pub triangle_at : (M : Map) → Sound M → (h : ℕ) → Live M h → M.next (M.next h) ≡ M.prev h
    → IsTriangleOf M (M.face h) h (M.next h) (M.prev h)
triangle_at M s h live back = triangle_from M s (M.face h) h (M.next h) (M.prev h) live refl back (s.next-prev h live) refl

-- h is not in the triangle (x, y, z)
abbrev pub Off : ℕ → ℕ → ℕ → ℕ → Type 0
Off h x y z = (h ≢ x) × (h ≢ y) × (h ≢ z)

-- what holds of the three, and of h where it is none of them, holds of h
pub by_triangle : (P : ℕ → Type 0) (x y z h : ℕ) → P x × P y × P z → (Off h x y z → P h) → P h
by_triangle P x y z h three rest = elim (cases_eq h x) [
  | inl is ↦ subst P (sym is) three.0
  | inr not_x ↦ elim (cases_eq h y) [
    | inl is ↦ subst P (sym is) three.1
    | inr not_y ↦ elim (cases_eq h z) [ inl is ↦ subst P (sym is) three.2 | inr not_z ↦ rest (not_x, not_y, not_z) ]
  ]
]

-- what has another face than a triangle is none of its half edges
pub off_another : (M : Map) (f x y z : ℕ) → IsTriangleOf M f x y z → (k : ℕ) → f ≢ k → (P : ℕ → Type 0)
    → (M.face x ≡ k → P x) × (M.face y ≡ k → P y) × (M.face z ≡ k → P z)
off_another M f x y z a k differs P = (
  λ at. absurd (differs (sym a.face_x ∙ at)),
  λ at. absurd (differs (sym a.face_y ∙ at)),
  λ at. absurd (differs (sym a.face_z ∙ at)),
)

-- other half edges lie on other faces
pub off_triangle : (M : Map) → Sound M → (f x y z : ℕ) → IsTriangleOf M f x y z → (h : ℕ) → Live M h → Off h x y z → M.face h ≢ f
off_triangle M s f x y z a h live (not_x, not_y, not_z) at =
    let found : (h ≡ x) ⊎ ((h ≡ y) ⊎ (h ≡ z)) =
    reaches_stays (By M.next) (λ k. (k ≡ x) ⊎ ((k ≡ y) ⊎ (k ≡ z)))
    (λ k l k_in steps. elim k_in [
      | inl is ↦ inr (inl (sym steps ∙ ap M.next is ∙ a.next_x))
      | inr (inl is) ↦ inr (inr (sym steps ∙ ap M.next is ∙ a.next_y))
      | inr (inr is) ↦ inl (sym steps ∙ ap M.next is ∙ a.next_z)
    ]) (inl refl) ((s.one_face x h a.live_x live).0 (a.face_x ∙ sym at)) in
    elim found [ inl is ↦ not_x is | inr (inl is) ↦ not_y is | inr (inr is) ↦ not_z is ]

-- and what lies on another face is off it
pub off_face : (M : Map) (f x y z : ℕ) → IsTriangleOf M f x y z → (h : ℕ) → M.face h ≢ f → Off h x y z
off_face M f x y z a h away =
    (λ is. away (ap M.face is ∙ a.face_x), λ is. away (ap M.face is ∙ a.face_y), λ is. away (ap M.face is ∙ a.face_z))

-- so the half edges (x, y, z) of one triangle are off another one
pub record IsApart (e a b x y z : ℕ) : Type 0 where
  pub x_off : Off x e a b
  pub y_off : Off y e a b
  pub z_off : Off z e a b

pub triangles_apart : (M : Map) (f e a b g x y z : ℕ) → IsTriangleOf M f e a b → IsTriangleOf M g x y z → f ≢ g → IsApart e a b x y z
triangles_apart M f e a b g x y z near far differ =
    let off : (h : ℕ) → M.face h ≡ g → Off h e a b = λ h at. off_face M f e a b near h (λ is. differ (sym is ∙ at)) in
    record { x_off = off x far.face_x; y_off = off y far.face_y; z_off = off z far.face_z }

-- the other half of one of its half edges lies on another face: else a half edge would come back to where it starts
pub triangle_faces_another : (M : Map) → Sound M → (f x y z : ℕ) → IsTriangleOf M f x y z → M.face (rev x) ≢ f
triangle_faces_another M s f x y z a at =
    let live : Live M (rev x) = rev_live M x a.live_x in
    let from_y : M.origin y ≡ M.origin (rev x) = ap M.origin (sym a.next_x) ∙ s.origin-next x a.live_x in
    let from_z : M.origin z ≡ M.origin (rev y) = ap M.origin (sym a.next_y) ∙ s.origin-next y a.live_y in
    let from_x : M.origin x ≡ M.origin (rev z) = ap M.origin (sym a.next_z) ∙ s.origin-next z a.live_z in
    elim (cases_eq (rev x) y) [
      | inl is ↦ s.two_ends z a.live_z (from_z ∙ ap (λ h. M.origin (rev h)) (sym is) ∙ ap M.origin (rev-rev x) ∙ from_x)
      | inr not_y ↦ elim (cases_eq (rev x) z) [
        | inl is ↦ s.two_ends y a.live_y (from_y ∙ ap M.origin is ∙ from_z)
        | inr not_z ↦ off_triangle M s f x y z a (rev x) live (rev_differs x, not_y, not_z) at
      ]
    ]

-- so two triangles with an edge between them are two faces
pub facing_differ : (M : Map) → Sound M → (f e a b g t c d : ℕ) → IsTriangleOf M f e a b → IsTriangleOf M g t c d → rev e ≡ t → f ≢ g
facing_differ M s f e a b g t c d near far turn is = triangle_faces_another M s f e a b near (ap M.face turn ∙ far.face_x ∙ sym is)

-- T links h as S does
pub record SameLinks (S T : Map) (h : ℕ) : Type 0 where
  pub next : T.next h ≡ S.next h
  pub prev : T.prev h ≡ S.prev h
  pub face : T.face h ≡ S.face h

-- a triangle whose half edges a map links in the same way is one of it
linked_kept : (S T : Map) (f before h after : ℕ) → IsLinked S f before h after → Live T h → SameLinks S T h → IsLinked T f before h after
linked_kept S T f before h after was live same =
    record { live = live; next = same.next ∙ was.next; prev = same.prev ∙ was.prev; face = same.face ∙ was.face }

pub triangle_kept : (S T : Map) (f x y z : ℕ) → IsTriangleOf S f x y z → Live T x → Live T y → Live T z
    → SameLinks S T x → SameLinks S T y → SameLinks S T z → IsTriangleOf T f x y z
triangle_kept S T f x y z was live_x live_y live_z same_x same_y same_z = record {
  at_x = linked_kept S T f z x y was.at_x live_x same_x;
  at_y = linked_kept S T f x y z was.at_y live_y same_y;
  at_z = linked_kept S T f y z x was.at_z live_z same_z;
  x≢y = was.x≢y;
  y≢z = was.y≢z;
  x≢z = was.x≢z;
}
