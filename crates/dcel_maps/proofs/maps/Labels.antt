-- Anchors: a half edge for each vertex and each face, or for whatever half edges are labelled with.
use Rattle.std.proofs.Common.{◌≡◌, ◌≢◌, ℕ, Option, Some, None}
use Rattle.dcel_maps.specs.Maps.{Live, Map}
use Rattle.dcel_maps.proofs.maps.Counts.{Used}

-- a live half edge with the label v, and None where there is none
abbrev pub Labelled : Map → (ℕ → ℕ) → ℕ → Option ℕ → Type 0
Labelled M label v None = (h : ℕ) → Live M h → label h ≢ v
Labelled M label v (Some h) = Live M h × (label h ≡ v)

-- an edit keeps the label v: half edges that have it keep it, and it comes to none where there was none
pub record KeepsLabel (S T : Map) (label label' : ℕ → ℕ) (v : ℕ) : Type 0 where
  pub stays : (h : ℕ) → Live S h → label h ≡ v → Live T h × (label' h ≡ v)
  pub comes : (h : ℕ) → Live T h → label' h ≡ v → Used S label v

-- then its anchor stays right
pub labelled-kept : (S T : Map) (label label' : ℕ → ℕ) (v : ℕ) (o : Option ℕ) → KeepsLabel S T label label' v
    → Labelled S label v o → Labelled T label' v o
labelled-kept S T label label' v None keeps none = λ h live at. let was = keeps.comes h live at in none was.half was.live was.is
labelled-kept S T label label' v (Some h) keeps some = keeps.stays h some.0 some.1
