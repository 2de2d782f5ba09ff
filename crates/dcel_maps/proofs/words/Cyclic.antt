-- The least form of a cyclic list.
use Rattle.std.proofs.Common.{◌≡◌, ◌≢◌, ℕ, ◌≤◌, List, [], ◌∷◌, refl}
use Rattle.dcel_maps.specs.Maps.{Map}
use Rattle.dcel_maps.specs.theory.Sound.{Sound}
use Rattle.dcel_maps.specs.theory.Standing.{Follows}
use Rattle.dcel_maps.specs.theory.Cycles.{IsCycle}
use Rattle.dcel_maps.specs.Words.{count_of, IsLeastFirst, TurnsTo}
use Rattle.dcel_maps.proofs.words.Faces.{IsWordOf, cycle_is_word}
use Rattle.dcel_maps.proofs.words.Turns.{count-turn, IsLeastFirst-from_least, from_least-is, from_least-turn, turns_on, turns_to_itself}
use Rattle.dcel_maps.specs.Cyclic.{from_least}

-- the least form holds what the list holds
pub count-from_least : (h : ℕ) (w : List ℕ) → count_of h (from_least w) ≡ count_of h w
count-from_least h w = count-turn h (from_least-turn w)

-- two forms of one cyclic list have one least form
pub from_least-same : {w u : List ℕ} → TurnsTo w u → ((h : ℕ) → count_of h w ≤ 1) → from_least w ≡ from_least u
from_least-same {w} {u} turn single =
    from_least-is (turns_on turn (from_least-turn u)) (IsLeastFirst-from_least u) single

-- a list with its least item first is its least form
pub from_least-kept : (w : List ℕ) → IsLeastFirst w → ((h : ℕ) → count_of h w ≤ 1) → from_least w ≡ w
from_least-kept w least single = from_least-is (turns_to_itself w) least single

-- and a list that leads round a face of a sound map gives the face's word
pub from_least-word : (M : Map) → Sound M → (f x : ℕ) (r : List ℕ) → IsCycle (Follows M f) (x ∷ r)
    → ((h : ℕ) → count_of h (x ∷ r) ≤ 1) → IsWordOf M f (from_least (x ∷ r))
from_least-word M sound f x r cycle single =
    cycle_is_word M sound f x r (from_least (x ∷ r)) cycle single (from_least-turn (x ∷ r)) (IsLeastFirst-from_least (x ∷ r))

pub from_least-full : (M : Map) → Sound M → (f : ℕ) (w : List ℕ) → w ≢ [] → IsCycle (Follows M f) w
    → ((h : ℕ) → count_of h w ≤ 1) → IsWordOf M f (from_least w)
from_least-full M sound f [] full cycle single = absurd (full refl)
from_least-full M sound f (x ∷ r) full cycle single = from_least-word M sound f x r cycle single
