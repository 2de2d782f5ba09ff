-- Where the half edges of an edited mesh start: at live vertices, and the anchors of the other vertices stay right.
use Rattle.std.proofs.Common.{◌≡◌, ◌≢◌, ◌⊎◌, inl, inr, ℕ, ◌*◌, true, false, sym, ap, ◌∙◌, subst}
use Rattle.std.proofs.lemmas.Bool.{cases_eq}
use Rattle.dcel_maps.specs.Maps.{Live, Map}
use Rattle.dcel_maps.specs.Removals.{gives_up_vertex}
use Rattle.dcel_maps.specs.Shapes.{IsLive, IsMesh, Mesh, Shape, map_of, origin_of, vertex_is_live}
use Rattle.dcel_maps.proofs.Liveness.{start-parts, vertex_live-parts}
use Rattle.dcel_maps.proofs.edits.Changes.{Change, map_after}
use Rattle.dcel_maps.proofs.edits.Growing.{FromOn, after-each, after-still, from_on-weaker, still_labelled}
use Rattle.dcel_maps.proofs.maps.Counts.{Used}
use Rattle.dcel_maps.proofs.maps.Labels.{KeepsLabel}

module _ {V DE UE F : Type 0} (s : Shape) (c : Change V DE UE F) where
  abbrev T : Map
  T = map_after s c

  -- the old half edges start where they did
  abbrev pub StartsSame : Type 0
  StartsSame = (h : ℕ) → IsLive s h → T.origin h ≡ origin_of s h

  -- all of them but t
  abbrev pub StartsSameBut : ℕ → Type 0
  StartsSameBut t = (h : ℕ) → IsLive s h → h ≢ t → T.origin h ≡ origin_of s h

  -- h starts at `tip`, or where an old half edge did
  abbrev StartsAt : ℕ → ℕ → Type 0
  StartsAt tip h = (T.origin h ≡ tip) ⊎ ((k : ℕ) × IsLive s k × (T.origin h ≡ origin_of s k))

  -- and so does each new one
  abbrev pub NewStart : ℕ → Type 0
  NewStart tip = FromOn (StartsAt tip) (2 * s.edges) (2 * c.edges)

  abbrev Joins : ℕ → ℕ → Type 0
  Joins v h = T.origin h ≡ v → Used (map_of s) (origin_of s) v

  new_joins : (tip : ℕ) → NewStart tip → (v : ℕ) → v ≢ tip → FromOn (Joins v) (2 * s.edges) (2 * c.edges)
  new_joins tip new v differs =
      from_on-weaker (StartsAt tip) (Joins v) (λ h start at. elim start [
        | inl is ↦ absurd (differs (sym at ∙ is))
        | inr (k, live, is) ↦ record { half = k; live = live; is = sym is ∙ at }
      ]) (2 * s.edges) (2 * c.edges) new

  -- so the anchors of other vertices stay right
  pub start_labelled : StartsSame → (tip : ℕ) → NewStart tip → (v : ℕ) → v ≢ tip → KeepsLabel (map_of s) T (origin_of s) T.origin v
  start_labelled same tip new v differs = still_labelled s c (origin_of s) T.origin v same (new_joins tip new v differs)

  -- and where t starts at `tip` now, those of the vertices that it doesn't join
  pub moved_labelled : (t from tip : ℕ) → StartsSameBut t → origin_of s t ≡ from → T.origin t ≡ tip → NewStart tip
      → (v : ℕ) → v ≢ from → v ≢ tip → KeepsLabel (map_of s) T (origin_of s) T.origin v
  moved_labelled t from tip same was is new v not_from not_tip = record {
    stays = λ h live at. (after-still s c h live, same h live (λ i. not_from (sym at ∙ ap (origin_of s) i ∙ was)) ∙ at);
    comes = after-each s c (Joins v)
        (λ h live at. elim (cases_eq h t) [
          | inl i ↦ absurd (not_tip (sym at ∙ ap T.origin i ∙ is))
          | inr differs ↦ record { half = h; live = live; is = sym (same h live differs) ∙ at }
        ]) (new_joins tip new v not_tip);
  }

module _ {V DE UE F : Type 0} (m : Mesh V DE UE F) (mesh : IsMesh m) (c : Change V DE UE F) where
  abbrev U : Map
  U = map_after m.shape c

  abbrev pub StartsLive : ℕ → Type 0
  StartsLive h = gives_up_vertex m.shape.removal (U.origin h) ≡ false

  -- what starts where an old half edge did starts at a live vertex
  pub starts-as : (h k : ℕ) → IsLive m.shape k → U.origin h ≡ origin_of m.shape k → StartsLive h
  starts-as h k live is = ap (gives_up_vertex m.shape.removal) is ∙ (start-parts m.shape mesh.sound k live).1

  kept : (tip : ℕ) → vertex_is_live m.shape tip ≡ true → gives_up_vertex m.shape.removal tip ≡ false
  kept tip lives = (vertex_live-parts m.shape tip lives).1

  new_live : (tip : ℕ) → vertex_is_live m.shape tip ≡ true → NewStart m.shape c tip → FromOn StartsLive (2 * m.shape.edges) (2 * c.edges)
  new_live tip lives =
      from_on-weaker (StartsAt m.shape c tip) StartsLive (λ h start. elim start [
        | inl is ↦ ap (gives_up_vertex m.shape.removal) is ∙ kept tip lives
        | inr (k, live, is) ↦ starts-as h k live is
      ]) (2 * m.shape.edges) (2 * c.edges)

  -- so each half edge does, where the old ones start where they did
  pub starts-still : StartsSame m.shape c → FromOn StartsLive (2 * m.shape.edges) (2 * c.edges) → (h : ℕ) → Live U h → StartsLive h
  starts-still same = after-each m.shape c StartsLive (λ h live. starts-as h h live (same h live))

  pub starts-new : StartsSame m.shape c → (tip : ℕ) → vertex_is_live m.shape tip ≡ true → NewStart m.shape c tip
      → (h : ℕ) → Live U h → StartsLive h
  starts-new same tip lives new = starts-still same (new_live tip lives new)

  -- or where one alone starts at the live vertex `tip` now
  pub starts-moved : (t tip : ℕ) → StartsSameBut m.shape c t → U.origin t ≡ tip → vertex_is_live m.shape tip ≡ true
      → NewStart m.shape c tip → (h : ℕ) → Live U h → StartsLive h
  starts-moved t tip same moved lives new =
      after-each m.shape c StartsLive (λ h live. elim (cases_eq h t) [
        | inl is ↦ subst StartsLive (sym is) (ap (gives_up_vertex m.shape.removal) moved ∙ kept tip lives)
        | inr differs ↦ starts-as h h live (same h live differs)
      ]) (new_live tip lives new)
