-- Each live face is reached, and no other.
use Rattle.std.proofs.Common.{◌≡◌, ◌≢◌, ◌⊎◌, inl, inr, ℕ, suc, ◌/◌, ◌<◌, true, List, [], ◌∷◌, Option, Some, None, slice_get, refl, sym, ap, ◌∙◌, subst, eq-zero-or-pos, arith}
use Rattle.std.proofs.lemmas.Bool.{true_from_ne_false}
use Rattle.dcel_fixed.specs.HalfEdges.{rev}
use Rattle.dcel_fixed.proofs.Halves.{rev-half}
use Rattle.dcel_maps.specs.Maps.{NextOrRev}
use Rattle.dcel_maps.specs.Removals.{gives_up_face}
use Rattle.dcel_maps.specs.Shapes.{IsLive, IsMesh, IsSound, Mesh, Shape, edge_is_live, face_count, face_is_live, face_of, map_of}
use Rattle.dcel_maps.specs.Words.{count_of, word_of}
use Rattle.dcel_maps.proofs.Liveness.{gives_up_face-outer, is_live-from, is_live-parts}
use Rattle.dcel_maps.proofs.maps.Reaching.{reaches_stays}
use Rattle.dcel_maps.proofs.walks.Faces.{word-lists}
use Rattle.dcel_maps.proofs.walks.Links.{links_stand, next-live}
use Rattle.dcel_maps.proofs.words.Counts.{count-same}
use Rattle.dcel_maps.proofs.words.Reading.{face-next, stands_in_face}
use Rattle.dcel_regions.specs.declared.mark.Mark.{Mark}
use Rattle.dcel_regions.specs.declared.mark.Mark.TheVariants.{Constraint, Free}
use Rattle.dcel_regions.specs.Regions.{IsReached}
use Rattle.dcel_regions.specs.Regions.IsReached.{outside, over_free, over_marked}

pub rev_live : (s : Shape) (h : ℕ) → IsLive s h → IsLive s (rev h)
rev_live s h live = ap (edge_is_live s) (rev-half h) ∙ live

-- a face that a live half edge lies on is live
pub lies_live : (s : Shape) → IsSound s → (h : ℕ) → IsLive s h → face_is_live s (face_of s h) ≡ true
lies_live s sound h live =
    true_from_ne_false (face_is_live s (face_of s h)) (λ dead.
    let none : count_of h (word_of s.words (face_of s h)) ≡ 0 = ap (count_of h) (sound.bare (face_of s h) dead) in
    let some = stands_in_face (map_of s) s.words (links_stand sound) h live in
    omega (arith, none, some))

-- a word that isn't empty has a first half edge, which lies on its face
first_of : (w : List ℕ) → w ≢ [] → (h : ℕ) × (0 < count_of h w)
first_of [] some = absurd (some refl)
first_of (x ∷ rest) some = (x, omega (arith, count-same x rest))

module _ {V DE F : Type 0} (m : Mesh V DE Mark F) (mesh : IsMesh m) where
  pub outer_live : face_is_live m.shape 0 ≡ true
  outer_live = is_live-from (gives_up_face m.shape.removal) (face_count m.shape) 0 mesh.sized.outer (gives_up_face-outer mesh.sized.within)

  pub reached_live : (f k : ℕ) → IsReached m f k → face_is_live m.shape f ≡ true
  reached_live _ _ outside = outer_live
  reached_live _ _ (over_free h live free way) = lies_live m.shape mesh.sound (rev h) (rev_live m.shape h live)
  reached_live _ _ (over_marked h live marked way) = lies_live m.shape mesh.sound (rev h) (rev_live m.shape h live)

  pub reached_within : (f k : ℕ) → IsReached m f k → f < face_count m.shape
  reached_within f k way = (is_live-parts (gives_up_face m.shape.removal) (face_count m.shape) f (reached_live f k way)).0

  -- an edge is marked, or it isn't
  pub marked_or_not : (o : Option Mark) → (o ≡ Some Constraint) ⊎ (¬ (o ≡ Some Constraint))
  marked_or_not None = inr (λ is. cc)
  marked_or_not (Some Free) = inr (λ is. cc)
  marked_or_not (Some Constraint) = inl refl

  -- the face of a live half edge is reached
  abbrev IsAlong : ℕ → Type 0
  IsAlong h = IsLive m.shape h × ((k : ℕ) × IsReached m (face_of m.shape h) k)

  along : (x y : ℕ) → IsAlong x → NextOrRev (map_of m.shape) x y → IsAlong y
  along x y (live, (k, way)) (inl next) =
      subst IsAlong next
      (next-live mesh.sound x live, (k, subst (λ (f : ℕ). IsReached m f k) (sym (face-next (map_of m.shape) m.shape.words (links_stand mesh.sound) x live)) way))
  along x y (live, (k, way)) (inr back) =
      subst IsAlong back (
        rev_live m.shape x live,
        elim (marked_or_not (slice_get m.undirected_data (x / 2))) [
          | inl marked ↦ (suc k, over_marked x live marked way)
          | inr free ↦ (k, over_free x live free way)
        ],
      )

  -- from some half edge of the outer face each other is reached
  half_reached : (h : ℕ) → IsLive m.shape h → (k : ℕ) × IsReached m (face_of m.shape h) k
  half_reached h live =
      let some = first_of (word_of m.shape.words 0) (λ none. let dead = mesh.sound.outer.0 none (h / 2) in absurd (let is = live in cc)) in
      let lies = (word-lists mesh.sound 0).no_other some.0 some.1 in
      let begin : IsAlong some.0 = (lies.live, (0, subst (λ (f : ℕ). IsReached m f 0) (sym lies.face) outside)) in
      (reaches_stays (NextOrRev (map_of m.shape)) IsAlong along begin (mesh.sphere.connected some.0 h lies.live live)).1

  pub live_reached : (f : ℕ) → face_is_live m.shape f ≡ true → (k : ℕ) × IsReached m f k
  live_reached f live = elim (eq-zero-or-pos f) [
    | inl is ↦ (0, subst (λ (g : ℕ). IsReached m g 0) (sym is) outside)
    | inr inner ↦
        let some = first_of (word_of m.shape.words f) (mesh.sound.inner f inner live) in
        let lies = (word-lists mesh.sound f).no_other some.0 some.1 in
        let found = half_reached some.0 lies.live in
        (found.0, subst (λ (g : ℕ). IsReached m g found.0) lies.face found.1)
  ]
