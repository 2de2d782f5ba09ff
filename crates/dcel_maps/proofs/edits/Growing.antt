-- The map after an edit: its live half edges are the old ones and those of the new edges, and its links are replaced or new.
use Rattle.std.proofs.Common.{◌≡◌, inl, inr, ℕ, zero, suc, ◌+◌, ◌*◌, ◌/◌, ◌<◌, ◌≤◌, sym, ◌∙◌, subst, arith}
use Rattle.std.proofs.lemmas.Bool.{cases_eq, cases_lt}
use Rattle.dcel_maps.specs.Maps.{Live, Map}
use Rattle.dcel_maps.specs.Removals.{IsWithin, gives_up_edge}
use Rattle.dcel_maps.specs.Shapes.{IsLive, Shape, edge_is_live, face_count, face_of, map_of, next_of, origin_of, prev_of}
use Rattle.dcel_maps.proofs.Liveness.{gives_up_edge-past, is_live-from, is_live-more, is_live-parts}
use Rattle.dcel_maps.proofs.edits.Changes.{Change, map_after}
use Rattle.dcel_maps.proofs.edits.Patches.{patched_at-old, puts}
use Rattle.dcel_maps.proofs.maps.Counts.{Used}
use Rattle.dcel_maps.proofs.maps.Edits.{Grows}
use Rattle.dcel_maps.proofs.maps.Labels.{KeepsLabel}
use Rattle.dcel_maps.proofs.walks.Links.{half-below}

-- so many numbers from n on have the property
abbrev pub FromOn : (ℕ → Type 0) → ℕ → ℕ → Type 0
FromOn P n zero = Unit {0}
FromOn P n (suc zero) = P n
FromOn P n (suc (suc k)) = FromOn P n (suc k) × P (n + suc k)

pub from_on : (P : ℕ → Type 0) (n k : ℕ) → FromOn P n k → (h : ℕ) → n ≤ h → h < n + k → P h
from_on P n zero each h past below = absurd (omega arith)
from_on P n (suc zero) each h past below = let is : n ≡ h = omega arith in subst P is each
from_on P n (suc (suc k)) each h past below = elim (cases_eq h (n + suc k)) [
  | inl is ↦ subst P (sym is) each.1
  | inr differs ↦ from_on P n (suc k) each.0 h past (omega (arith, differs))
]

pub from_on-weaker : (P Q : ℕ → Type 0) → ((h : ℕ) → P h → Q h) → (n k : ℕ) → FromOn P n k → FromOn Q n k
from_on-weaker P Q weaker n zero each = tt
from_on-weaker P Q weaker n (suc zero) each = weaker n each
from_on-weaker P Q weaker n (suc (suc k)) each = (from_on-weaker P Q weaker n (suc k) each.0, weaker (n + suc k) each.1)

module _ {V DE UE F : Type 0} (s : Shape) (c : Change V DE UE F) where
  abbrev T : Map
  T = map_after s c

  -- what was live still is, and the half edges of new edges are
  pub after-still : (h : ℕ) → IsLive s h → Live T h
  after-still h live =
      let parts = is_live-parts (gives_up_edge s.removal) s.edges (h / 2) live in
      is_live-from (gives_up_edge s.removal) (s.edges + c.edges) (h / 2) (omega (arith, parts.0)) parts.1

  pub after-new : IsWithin s.removal s.vertices s.edges (face_count s) → (h : ℕ) → 2 * s.edges ≤ h → h < 2 * s.edges + 2 * c.edges → Live T h
  after-new within h past below =
      is_live-from (gives_up_edge s.removal) (s.edges + c.edges) (h / 2) (omega arith) (gives_up_edge-past within (h / 2) (omega arith))

  -- those of one new edge
  pub after-pair : IsWithin s.removal s.vertices s.edges (face_count s) → c.edges ≡ 1 → Live T (2 * s.edges) × Live T (2 * s.edges + 1)
  after-pair within one = (after-new within (2 * s.edges) (omega arith) (omega arith), after-new within (2 * s.edges + 1) (omega arith) (omega arith))

  -- an edge that isn't new is live as before
  pub after-edge : (u : ℕ) → (u < s.edges + c.edges → u < s.edges) → T.edge u ≡ edge_is_live s u
  after-edge u old = is_live-more (gives_up_edge s.removal) s.edges (s.edges + c.edges) u (omega arith) old

  pub after-was : (h : ℕ) → h < 2 * s.edges → Live T h → IsLive s h
  after-was h below live = sym (after-edge (h / 2) (λ less. omega (arith, below))) ∙ live

  pub after-below : (h : ℕ) → Live T h → h < 2 * s.edges + 2 * c.edges
  after-below h live =
      let parts = is_live-parts (gives_up_edge s.removal) (s.edges + c.edges) (h / 2) live in omega (arith, parts.0)

  -- one new edge, between old vertices
  pub after-grows : IsWithin s.removal s.vertices s.edges (face_count s) → c.edges ≡ 1 → c.vertices ≡ 0 → (h : ℕ) → 2 * s.edges ≤ h
      → h < 2 * s.edges + 2 → Grows (map_of s) T h
  after-grows within one none h past below = record {
    edge_here = after-new within h past (omega (arith, one));
    edge_other = λ u differs. after-edge u (λ less. omega (arith, less, differs, one));
    edges = omega arith;
    edge_below = omega (arith, one);
    vertices = omega (arith, none);
  }

  -- what holds of the old half edges and of the new ones holds of each
  pub after-each : (P : ℕ → Type 0) → ((h : ℕ) → IsLive s h → P h) → FromOn P (2 * s.edges) (2 * c.edges) → (h : ℕ) → Live T h → P h
  after-each P old new h live = elim (cases_lt h (2 * s.edges)) [
    | inl below ↦ old h (after-was h below live)
    | inr past ↦ from_on P (2 * s.edges) (2 * c.edges) new h past (after-below h live)
  ]

  -- the links of old half edges
  pub after-next : (h : ℕ) → IsLive s h → T.next h ≡ puts (next_of s) c.next.set h
  after-next h live = patched_at-old (next_of s) (2 * s.edges) c.next h (half-below s h live)

  pub after-prev : (h : ℕ) → IsLive s h → T.prev h ≡ puts (prev_of s) c.prev.set h
  after-prev h live = patched_at-old (prev_of s) (2 * s.edges) c.prev h (half-below s h live)

  pub after-origin : (h : ℕ) → IsLive s h → T.origin h ≡ puts (origin_of s) c.origin.set h
  after-origin h live = patched_at-old (origin_of s) (2 * s.edges) c.origin h (half-below s h live)

  pub after-face : (h : ℕ) → IsLive s h → T.face h ≡ puts (face_of s) c.face.set h
  after-face h live = patched_at-old (face_of s) (2 * s.edges) c.face h (half-below s h live)

  -- where old half edges keep their label, and new ones don't have it or some old one had it, anchors with that label stay right
  pub still_labelled : (label label' : ℕ → ℕ) (v : ℕ) → ((h : ℕ) → IsLive s h → label' h ≡ label h)
      → FromOn (λ h. label' h ≡ v → Used (map_of s) label v) (2 * s.edges) (2 * c.edges) → KeepsLabel (map_of s) T label label' v
  still_labelled label label' v same new = record {
    stays = λ h live at. (after-still h live, same h live ∙ at);
    comes = after-each (λ h. label' h ≡ v → Used (map_of s) label v) (λ h live at. record { half = h; live = live; is = sym (same h live) ∙ at }) new;
  }
