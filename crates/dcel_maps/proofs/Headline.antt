-- The headline holds of every mesh.
use Rattle.std.proofs.Common.{◌≡◌, ℕ, true, false, inl, inr, [], subst, arith}
use Rattle.std.proofs.lemmas.Bool.{cases_eq}
use Rattle.dcel_maps.specs.Headline.{CountsTwo, FacesAreCycles, Headline, VerticesAreCycles}
use Rattle.dcel_maps.specs.Shapes.{IsMesh, IsSound, IsSphere, Mesh, Shape, edge_is_live, face_is_live}
use Rattle.dcel_maps.specs.Words.{word_of}
use Rattle.dcel_maps.proofs.shapes.Maps.{face-live}
use Rattle.dcel_maps.proofs.walks.Faces.{walk-turn, word-lists}
use Rattle.dcel_maps.proofs.walks.Links.{ccw-lawful, links_lawful}
use Rattle.dcel_maps.proofs.walks.Turning.{walk-out_edges}
use Rattle.dcel_maps.proofs.walks.UnderWay.{walk-round}

module _ {s : Shape} (sound : IsSound s) where
  -- the outer face alone may have no half edge
  empty_outer : (f : ℕ) → face_is_live s f ≡ true → word_of s.words f ≡ [] → (f ≡ 0) × ((u : ℕ) → edge_is_live s u ≡ false)
  empty_outer f live empty = elim (cases_eq f 0) [
    | inl outer ↦ (outer, sound.outer.0 (subst (λ g. word_of s.words g ≡ []) outer empty))
    | inr inner ↦ absurd (sound.inner f (omega (arith, inner)) live empty)
  ]

  pub faces_cycles : FacesAreCycles s
  faces_cycles = record {
    round = λ f h live stands. walk-round (links_lawful sound) h ((word-lists sound f).no_other h stands).live;
    word = λ f h live stands. walk-turn sound f h ((word-lists sound f).no_other h stands);
    once = sound.once;
    on_live = face-live sound;
    no_other = sound.no_other;
    empty = empty_outer;
  }

  pub vertices_cycles : VerticesAreCycles s
  vertices_cycles = record {
    round = λ v h out. walk-round (ccw-lawful sound) h out.live;
    each = λ v h out. walk-out_edges sound v h out;
    at_live = sound.starts_live;
  }

pub counts_two : {s : Shape} → IsSphere s → CountsTwo s
counts_two sphere = sphere.euler

pub mesh-headline : {V DE UE F : Type 0} {m : Mesh V DE UE F} → IsMesh m → Headline m
mesh-headline mesh = record {
  faces = faces_cycles mesh.sound;
  vertices = vertices_cycles mesh.sound;
  connected = mesh.sphere.connected;
  two = counts_two mesh.sphere;
  anchored = mesh.anchored;
}
