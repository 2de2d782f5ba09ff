-- Maps that agree on all that is live, and maps with no live edge.
use Rattle.std.proofs.Common.{◌≡◌, ◌/◌, ℕ, false, sym, refl, ◌∙◌, arith}
use Rattle.std.proofs.lemmas.Bool.{false≢true}
pub use Rattle.dcel_maps.specs.EditLists.{Extends, LinksAgree}
use Rattle.dcel_maps.specs.Maps.{Live, Map}
use Rattle.dcel_maps.specs.theory.Sound.{Sound, Sphere}
use Rattle.dcel_maps.proofs.maps.Edits.{Renamed}
use Rattle.dcel_maps.proofs.maps.Renames.{renamed_keeps, renamed_sound}

-- T has the counts of S and its live edges, linked as S links them
pub record Agrees (S T : Map) : Type 0 where
  pub vertices : T.vertices ≡ S.vertices
  pub edges : T.edges ≡ S.edges
  pub faces : T.faces ≡ S.faces
  pub edge : (u : ℕ) → T.edge u ≡ S.edge u
  pub links : LinksAgree S T
  pub open links use *

pub extends_renamed : (S T : Map) → Extends S T → Sound S → Renamed S T (λ x. x) (λ x. x) (λ v. v) (λ f. f)
extends_renamed S T a s =
    let live : (x : ℕ) → Live T x → Live S x = λ x l. sym (a.edge (x / 2)) ∙ l in
    record {
      lives = λ x l. a.edge (x / 2) ∙ l;
      comes = live;
      forth = λ x l. refl;
      back = λ x l. refl;
      turn = λ x l. refl;
      next = a.next;
      prev = a.prev;
      origin = a.origin;
      face = a.face;
      apart_origin = λ x y l m e. e;
      apart_face = λ x y l m e. e;
      below_edges = λ x l. let b = s.below_edges x (live x l) in let e = a.edges in omega arith;
      below_vertices = λ x l.
          let b = s.below_vertices x (live x l) in let i = a.origin x (live x l) in let e = a.vertices in omega arith;
      below_faces = λ x l.
          let b = s.below_faces x (live x l) in let i = a.face x (live x l) in let e = a.faces in omega arith;
    }

-- more room keeps a map sound
extends_sound : (S T : Map) → Extends S T → Sound S → Sound T
extends_sound S T a s = renamed_sound S T (λ x. x) (λ x. x) (λ v. v) (λ f. f) (extends_renamed S T a s) s

-- and a sphere
pub extends_keeps : (S T : Map) → Extends S T → Sound S → Sphere S → Sound T × Sphere T
extends_keeps S T a s = renamed_keeps S T (λ x. x) (λ x. x) (λ v. v) (λ f. f) (extends_renamed S T a s) s

pub agrees_extends : (S T : Map) → Agrees S T → Extends S T
agrees_extends S T a = record {
  vertices = let e = a.vertices in omega arith;
  edges = let e = a.edges in omega arith;
  faces = let e = a.faces in omega arith;
  edge = a.edge;
  links = a.links;
}

-- a map that agrees with a sound one is sound
pub agrees-sound : (S T : Map) → Agrees S T → Sound S → Sound T
agrees-sound S T a = extends_sound S T (agrees_extends S T a)

-- a map that agrees with a sound sphere is one
pub agrees_keeps : (S T : Map) → Agrees S T → Sound S → Sphere S → Sound T × Sphere T
agrees_keeps S T a = extends_keeps S T (agrees_extends S T a)

pub agrees-sphere : (S T : Map) → Agrees S T → Sound S → Sphere S → Sphere T
agrees-sphere S T a s m = (agrees_keeps S T a s m).1

pub none_live : (M : Map) → ((u : ℕ) → M.edge u ≡ false) → (x : ℕ) → Live M x → ⊥
none_live M none x l = false≢true (sym (none (x / 2)) ∙ l)

-- a map with no live edge is sound
pub empty_sound : (M : Map) → ((u : ℕ) → M.edge u ≡ false) → Sound M
empty_sound M none =
    let no = none_live M none in
    record {
      below_edges = λ x l. absurd (no x l);
      below_vertices = λ x l. absurd (no x l);
      below_faces = λ x l. absurd (no x l);
      live_next = λ x l. absurd (no x l);
      live_prev = λ x l. absurd (no x l);
      prev-next = λ x l. absurd (no x l);
      next-prev = λ x l. absurd (no x l);
      origin-next = λ x l. absurd (no x l);
      two_ends = λ x l. absurd (no x l);
      one_face = λ x y l m. absurd (no x l);
      one_origin = λ x y l m. absurd (no x l);
    }

-- a map with no live edge is a sphere
pub empty_sphere : (M : Map) → ((u : ℕ) → M.edge u ≡ false) → Sphere M
empty_sphere M none = record {
  connected = λ x y l m. absurd (none_live M none x l);
  euler = λ u l. absurd (false≢true (sym (none u) ∙ l));
}
