-- Walks along the border that links have: lists of the next half edge, the origin and the face of each one.
use Rattle.std.specs.Prelude.{◌≡◌, ◌≢◌, ℕ, ◌<◌, List, [], ◌∷◌, length, slice_index}
use Rattle.dcel_exchange.specs.declared.lists.LinkLists.{LinkLists}

-- h is a half edge of the outer face, and starts at a
pub record StartsOutside {A : Type 0} (links : LinkLists A) (a h : ℕ) : Type 0 where
  pub below : h < length links.next.items
  pub outer : slice_index links.face.items h ≡ 0
  pub start : slice_index links.origin.items h ≡ a

-- from the half edge h the outer face goes by these corners, none of which is the first one, and then comes to `start`
abbrev pub GoesBy : {A : Type 0} → LinkLists A → ℕ → ℕ → ℕ → List ℕ → Type 0
GoesBy links first start h [] = h ≡ start
GoesBy links first start h (a ∷ w) = StartsOutside links a h × (a ≢ first) × GoesBy links first start (slice_index links.next.items h) w

-- the outer face goes round these corners, from the half edge `start` on
abbrev pub GoesRound : {A : Type 0} → LinkLists A → ℕ → List ℕ → Type 0
GoesRound links start [] = ⊥
GoesRound links start (a ∷ w) = StartsOutside links a start × GoesBy links a start (slice_index links.next.items start) w

-- a half edge of the outer face starts at the first corner, and from there the face doesn't go round them
pub record HasOtherStart {A : Type 0} (links : LinkLists A) (w : List ℕ) : Type 0 where
  pub start : ℕ
  pub starts : StartsOutside links (slice_index w 0) start
  pub apart : ¬ GoesRound links start w
