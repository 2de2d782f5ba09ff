-- Lists of elementary edits: put after each other, and what they keep.
use Rattle.std.proofs.Common.{◌≡◌, ◌/◌, ℕ, List, [], ◌∷◌, ◌++◌, length, map, replicate, refl, ap, ◌∙◌, arith, sym}
use Rattle.dcel_maps.specs.EditLists.{ComesBy, Edit, EditKind}
use Rattle.dcel_maps.specs.EditLists.EditKind.{ear_cut, edge_subdivided, edges_joined, emptied, first_edge, numbers_changed, spur_added, spur_dropped, word_cut, words_joined}
use Rattle.dcel_maps.specs.Elementary.{Renamed}
use Rattle.dcel_maps.specs.Maps.{Live, Map}
use Rattle.dcel_maps.specs.theory.Sound.{Sound, Sphere}
use Rattle.dcel_maps.proofs.maps.Agreement.{Extends, empty_sound, empty_sphere, extends_keeps}
use Rattle.dcel_maps.proofs.maps.Chords.{chord_keeps}
use Rattle.dcel_maps.proofs.maps.Ears.{ear_chord}
use Rattle.dcel_maps.proofs.maps.Edits.{Ear}
use Rattle.dcel_maps.proofs.maps.Firsts.{first_keeps}
use Rattle.dcel_maps.proofs.maps.Renames.{renamed_keeps}
use Rattle.dcel_maps.proofs.maps.Spurs.{spur_keeps}
use Rattle.dcel_maps.proofs.maps.Subdivides.{subdivide_keeps}
use Rattle.dcel_maps.proofs.maps.Unchords.{unchord_keeps}
use Rattle.dcel_maps.proofs.maps.Unspurs.{unspur_keeps}
use Rattle.dcel_maps.proofs.maps.Unsubdivides.{unsubdivide_keeps}

pub extends_same : (S : Map) → Extends S S
extends_same S = record {
  vertices = omega arith;
  edges = omega arith;
  faces = omega arith;
  edge = λ u. refl;
  links = record { next = λ x l. refl; prev = λ x l. refl; origin = λ x l. refl; face = λ x l. refl };
}

pub extends_then : (S M T : Map) → Extends S M → Extends M T → Extends S T
extends_then S M T a b =
    let live : (x : ℕ) → Live S x → Live M x = λ x l. a.edge (x / 2) ∙ l in
    record {
      vertices = let i = a.vertices in let j = b.vertices in omega arith;
      edges = let i = a.edges in let j = b.edges in omega arith;
      faces = let i = a.faces in let j = b.faces in omega arith;
      edge = λ u. b.edge u ∙ a.edge u;
      links = record {
        next = λ x l. b.next x (live x l) ∙ a.next x l;
        prev = λ x l. b.prev x (live x l) ∙ a.prev x l;
        origin = λ x l. b.origin x (live x l) ∙ a.origin x l;
        face = λ x l. b.face x (live x l) ∙ a.face x l;
      };
    }

-- what isn't live may change before the first edit, and after the last one
pub comes_before : (kinds : List EditKind) (R S T : Map) → Extends R S → ComesBy kinds S T → ComesBy kinds R T
comes_before [] R S T a rest = extends_then R S T a rest
comes_before (kind ∷ kinds) R S T a (M, N, b, edit, rest) = (M, N, extends_then R S M a b, edit, rest)

-- one list after another
pub comes_then : (kinds more : List EditKind) (S M T : Map) → ComesBy kinds S M → ComesBy more M T → ComesBy (kinds ++ more) S T
comes_then [] more S M T a rest = comes_before more S M T a rest
comes_then (kind ∷ kinds) more S M T (L, N, b, edit, first) rest = (L, N, b, edit, comes_then kinds more N M T first rest)

pub comes_after : (kinds : List EditKind) (S T U : Map) → ComesBy kinds S T → Extends T U → ComesBy kinds S U
comes_after [] S T U a b = extends_then S T U a b
comes_after (kind ∷ kinds) S T U (M, N, a, edit, rest) b = (M, N, a, edit, comes_after kinds N T U rest b)

-- one edit, and one edit first
pub comes_first : (kind : EditKind) (kinds : List EditKind) (S M T : Map) → Edit kind S M → ComesBy kinds M T → ComesBy (kind ∷ kinds) S T
comes_first kind kinds S M T edit rest = (S, M, extends_same S, edit, rest)

pub comes_once : (kind : EditKind) (S T : Map) → Edit kind S T → ComesBy (kind ∷ []) S T
comes_once kind S T edit = (S, T, extends_same S, edit, extends_same T)

pub ear_edit : (S T : Map) (p n q h g : ℕ) → Ear S T p n q h g → Sound S → Edit ear_cut S T
ear_edit S T p n q h g e sound = (p, n, q, h, g, e.at.next_p, e.at.next_n, ear_chord S T p n q h g e sound)

-- each edit keeps a map sound and a sphere
pub edit_keeps : (kind : EditKind) (S T : Map) → Edit kind S T → Sound S → Sphere S → Sound T × Sphere T
edit_keeps spur_added S T (a, h, v, e) sound sphere = spur_keeps S T a h v e sound sphere
edit_keeps spur_dropped S T (a, h, v, e) sound sphere = unspur_keeps T S a h v e sound sphere
edit_keeps edge_subdivided S T (h, k, v, e) sound sphere = subdivide_keeps S T h k v e sound sphere
edit_keeps edges_joined S T (h, k, v, e) sound sphere = unsubdivide_keeps T S h k v e sound sphere
edit_keeps word_cut S T (p, q, h, g, arc, e) sound sphere = chord_keeps S T p q h g arc e sound sphere
edit_keeps ear_cut S T (p, n, q, h, g, i, j, e) sound sphere = chord_keeps S T p q h g _ e sound sphere
edit_keeps words_joined S T (p, q, h, g, arc, e) sound sphere = unchord_keeps T S p q h g arc e sound sphere
edit_keeps first_edge S T (h, a, b, none, e) sound sphere = first_keeps T h a b e
edit_keeps numbers_changed S T (half, back, vertex, face, e) sound sphere = renamed_keeps S T half back vertex face e sound sphere
edit_keeps emptied S T none sound sphere = (empty_sound T none, empty_sphere T none)

-- and so does each list
pub comes_keeps : (kinds : List EditKind) (S T : Map) → ComesBy kinds S T → Sound S → Sphere S → Sound T × Sphere T
comes_keeps [] S T a sound sphere = extends_keeps S T a sound sphere
comes_keeps (kind ∷ kinds) S T (M, N, a, edit, rest) sound sphere =
    let m = extends_keeps S M a sound sphere in
    let n = edit_keeps kind M N edit m.0 m.1 in
    comes_keeps kinds N T rest n.0 n.1

-- an ear put last
pub ear_after : (kinds : List EditKind) (S M T : Map) (p n q h g : ℕ) → Sound S → Sphere S → ComesBy kinds S M → Ear M T p n q h g
    → ComesBy (kinds ++ ear_cut ∷ []) S T
ear_after kinds S M T p n q h g sound sphere comes ear =
    comes_then kinds (ear_cut ∷ []) S M T comes (comes_once ear_cut M T (ear_edit M T p n q h g ear (comes_keeps kinds S M comes sound sphere).0))

-- one edit of a kind for each item of a list
abbrev pub one_each : EditKind → List ℕ → List EditKind
one_each kind w = map (λ x. kind) w

pub one_each-replicate : (kind : EditKind) (w : List ℕ) → one_each kind w ≡ replicate (length w) kind
one_each-replicate kind [] = refl
one_each-replicate kind (x ∷ w) = ap (λ kinds. kind ∷ kinds) (one_each-replicate kind w)

-- two renumberings are one
renumbered_twice : (S M N T : Map) (f f' o w g g' p v : ℕ → ℕ) → Renamed S M f f' o w → Extends M N → Renamed N T g g' p v
    → Renamed S T (λ x. g (f x)) (λ y. f' (g' y)) (λ x. p (o x)) (λ x. v (w x))
renumbered_twice S M N T f f' o w g g' p v e a d =
    let on : (x : ℕ) → Live S x → Live N (f x) = λ x l. a.edge (f x / 2) ∙ e.lives x l in
    let back : (y : ℕ) → Live T y → Live M (g' y) = λ y l. sym (a.edge (g' y / 2)) ∙ d.comes y l in
    let origin : (x : ℕ) → Live S x → N.origin (f x) ≡ o (S.origin x) = λ x l. a.origin (f x) (e.lives x l) ∙ e.origin x l in
    let face : (x : ℕ) → Live S x → N.face (f x) ≡ w (S.face x) = λ x l. a.face (f x) (e.lives x l) ∙ e.face x l in
    record {
      lives = λ x l. d.lives (f x) (on x l);
      comes = λ y l. e.comes (g' y) (back y l);
      forth = λ x l. ap f' (d.forth (f x) (on x l)) ∙ e.forth x l;
      back = λ y l. ap g (e.back (g' y) (back y l)) ∙ d.back y l;
      turn = λ x l. d.turn (f x) (on x l) ∙ ap g (e.turn x l);
      next = λ x l. d.next (f x) (on x l) ∙ ap g (a.next (f x) (e.lives x l) ∙ e.next x l);
      prev = λ x l. d.prev (f x) (on x l) ∙ ap g (a.prev (f x) (e.lives x l) ∙ e.prev x l);
      origin = λ x l. d.origin (f x) (on x l) ∙ ap p (origin x l);
      face = λ x l. d.face (f x) (on x l) ∙ ap v (face x l);
      apart_origin = λ x y l m same.
          e.apart_origin x y l m
          (sym (origin x l) ∙ d.apart_origin (f x) (f y) (on x l) (on y m) (ap p (origin x l) ∙ same ∙ sym (ap p (origin y m))) ∙ origin y m);
      apart_face = λ x y l m same.
          e.apart_face x y l m
          (sym (face x l) ∙ d.apart_face (f x) (f y) (on x l) (on y m) (ap v (face x l) ∙ same ∙ sym (ap v (face y m))) ∙ face y m);
      below_edges = d.below_edges;
      below_vertices = d.below_vertices;
      below_faces = d.below_faces;
    }

-- so the second of two is left out
pub renumbered_once : (kinds : List EditKind) (S T : Map) → ComesBy (numbers_changed ∷ numbers_changed ∷ kinds) S T → ComesBy (numbers_changed ∷ kinds) S T
renumbered_once kinds S T (M, N, a, (f, f', o, w, e), (K, L, b, (g, g', p, v, d), rest)) =
    (M, L, a, (λ x. g (f x), λ y. f' (g' y), λ x. p (o x), λ x. v (w x), renumbered_twice M N K L f f' o w g g' p v e b d), rest)

pub second_once : (kind : EditKind) (kinds : List EditKind) (S T : Map) → ComesBy (kind ∷ numbers_changed ∷ numbers_changed ∷ kinds) S T
    → ComesBy (kind ∷ numbers_changed ∷ kinds) S T
second_once kind kinds S T (M, N, a, edit, rest) = (M, N, a, edit, renumbered_once kinds N T rest)
