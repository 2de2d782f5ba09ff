-- The outer face alone is a mesh.
use Rattle.std.proofs.Common.{◌≡◌, ℕ, zero, suc, ◌/◌, false, [], ◌∷◌, refl, arith}
use Rattle.std.proofs.lemmas.Bool.{both_ways}
use Rattle.dcel_maps.specs.edits.Create.{outer_alone}
use Rattle.dcel_maps.specs.Removals.{Closed, gives_up_edge, gives_up_face}
use Rattle.dcel_maps.specs.Shapes.{IsLive, IsMesh, IsSound, Shape, edge_is_live, map_of}
use Rattle.dcel_maps.specs.theory.Standing.{Stands}
use Rattle.dcel_maps.specs.Words.{word_of}
use Rattle.dcel_maps.proofs.Liveness.{IsWithin-closed, is_live-parts, is_live-past}
use Rattle.dcel_maps.proofs.maps.Agreement.{empty_sound, empty_sphere}
use Rattle.dcel_maps.proofs.shapes.Maps.{sound-from_map, sphere-from_map}
use Rattle.dcel_maps.proofs.shapes.Sizes.{sized_from}

-- the outer face alone
abbrev pub alone : Shape
alone = record { vertices = 0; edges = 0; words = [] ∷ []; origins = []; removal = Closed }

no_edge_alone : (u : ℕ) → edge_is_live alone u ≡ false
no_edge_alone u = is_live-past (gives_up_edge Closed) 0 u (omega arith)

pub no_half_alone : (h : ℕ) → IsLive alone h → ⊥
no_half_alone h live = both_ways (edge_is_live alone (h / 2)) (no_edge_alone (h / 2)) live

no_word : (f : ℕ) → word_of alone.words f ≡ []
no_word zero = refl
no_word (suc f) = refl

alone_stands : Stands (map_of alone) alone.words
alone_stands = record {
  faces = refl;
  cycles = λ f within. rw (no_word f) tt;
  once = λ h live. absurd (no_half_alone h live);
  least = λ f within. rw (no_word f) tt;
  short = omega arith;
}

alone_sound : IsSound alone
alone_sound =
    sound-from_map alone (empty_sound (map_of alone) no_edge_alone) alone_stands
    (λ f dead. no_word f)
    (λ f inside live. let below = (is_live-parts (gives_up_face Closed) 1 f live).0 in absurd (omega (arith, below, inside)))
    (λ empty u. no_edge_alone u, λ dead. refl) (λ h live. absurd (no_half_alone h live))

-- is a mesh
module _ {V DE UE F : Type 0} (datum : F) where
  pub alone_is_mesh : IsMesh {V = V} {DE = DE} {UE = UE} (outer_alone datum)
  alone_is_mesh = record {
    sound = alone_sound;
    sphere = sphere-from_map alone_sound (empty_sphere (map_of alone) no_edge_alone);
    anchored = record {
      vertices = λ v below. absurd (omega (arith, below));
      faces = λ f below. let first : f ≡ 0 = omega (arith, below) in rw first refl;
    };
    sized =
        sized_from (record { long = refl; anchored = refl; few = omega arith })
        (record { long = refl; halves_long = refl; origins_long = refl; few = omega arith }) (record { long = refl; anchored = refl; few = omega arith })
        (omega arith) (IsWithin-closed 0 0 1);
  }
