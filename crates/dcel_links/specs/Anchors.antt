-- Anchors: a half edge for each vertex, or for each face, that has one. Labels say of each half edge at which vertex it starts, or on
-- which face it lies.
use Rattle.std.specs.Prelude.{◌≡◌, ◌≢◌, ℕ, ◌<◌, List, length, slice_index, slice_index_or, Option, Some, None}

-- h is a half edge with the label v
abbrev pub IsAnchoredAt : List ℕ → ℕ → ℕ → Type 0
IsAnchoredAt labels v h = (h < length labels) × (slice_index labels h ≡ v)

-- a half edge with the label v, or none where no half edge has it
abbrev pub IsAnchor : List ℕ → ℕ → Option ℕ → Type 0
IsAnchor labels v None = (h : ℕ) → h < length labels → slice_index labels h ≢ v
IsAnchor labels v (Some h) = IsAnchoredAt labels v h

-- the anchor that is given for v
abbrev pub anchor_of : List (Option ℕ) → ℕ → Option ℕ
anchor_of anchors v = slice_index_or anchors v None

-- each anchor is one of its number
abbrev pub AreAnchors : List ℕ → List (Option ℕ) → Type 0
AreAnchors labels anchors = (v : ℕ) → v < length anchors → IsAnchor labels v (anchor_of anchors v)
