-- How many edges are live after a list of elementary edits.
use Rattle.std.proofs.Common.{◌≡◌, ◌+◌, ◌/◌, ℕ, false, [], ◌∷◌, List, refl, sym, ◌∙◌, ap, arith}
use Rattle.dcel_maps.specs.EditLists.{ComesBy, Edit, EditKind, Extends, edges_after, edges_then}
use Rattle.dcel_maps.specs.EditLists.EditKind.{ear_cut, edge_subdivided, edges_joined, emptied, first_edge, numbers_changed, spur_added, spur_dropped, word_cut, words_joined}
use Rattle.dcel_maps.specs.Maps.{Map, count}
use Rattle.dcel_maps.specs.theory.Sound.{Sound, Sphere}
use Rattle.dcel_maps.proofs.maps.Agreement.{extends_keeps, extends_renamed}
use Rattle.dcel_maps.proofs.maps.Chords.{chord_grown}
use Rattle.dcel_maps.proofs.maps.Counts.{count_more, count_none, count_same}
use Rattle.dcel_maps.proofs.maps.Growth.{grown_edges}
use Rattle.dcel_maps.proofs.maps.Lists.{edit_keeps}
use Rattle.dcel_maps.proofs.maps.Renames.{edges_even}
use Rattle.dcel_maps.proofs.maps.Spurs.{spur_grown}
use Rattle.dcel_maps.proofs.maps.Subdivides.{subdivide_grown}

abbrev live : Map → ℕ
live M = count M.edge M.edges

edit_counted : (kind : EditKind) (S T : Map) → Edit kind S T → Sound S → Sound T → live T ≡ edges_then kind (live S)
edit_counted spur_added S T (a, h, v, e) s t = grown_edges S T h (spur_grown S T a h v e) s
edit_counted spur_dropped S T (a, h, v, e) s t = let less = grown_edges T S h (spur_grown T S a h v e.spur) t in omega arith
edit_counted edge_subdivided S T (h, k, v, e) s t = grown_edges S T k (subdivide_grown S T h k v e) s
edit_counted edges_joined S T (h, k, v, e) s t = let less = grown_edges T S k (subdivide_grown T S h k v e.subdivide) t in omega arith
edit_counted word_cut S T (p, q, h, g, arc, e) s t = grown_edges S T h (chord_grown S T p q h g arc e) s
edit_counted words_joined S T (p, q, h, g, arc, e) s t = let less = grown_edges T S h (chord_grown T S p q h g arc e.chord) t in omega arith
edit_counted ear_cut S T (p, n, q, h, g, i, j, e) s t = grown_edges S T h (chord_grown S T p q h g _ e) s
edit_counted first_edge S T (h, a, b, none, e) s t =
    count_more (λ k. false) T.edge T.edges (h / 2) e.edge_below refl e.edge_here (λ j below other. sym (e.edge_other j other))
    ∙ ap (λ n. n + 1) (count_none T.edges)
edit_counted numbers_changed S T (half, back, vertex, face, e) s t = edges_even S T half back vertex face e s
edit_counted emptied S T none s t = count_same T.edge (λ k. false) T.edges (λ k below. none k) ∙ count_none T.edges

extends_counted : (S T : Map) → Extends S T → Sound S → live T ≡ live S
extends_counted S T a s = edges_even S T (λ x. x) (λ x. x) (λ v. v) (λ f. f) (extends_renamed S T a s) s

pub comes_counted : (kinds : List EditKind) (S T : Map) → ComesBy kinds S T → Sound S → Sphere S → live T ≡ edges_after kinds (live S)
comes_counted [] S T a sound sphere = extends_counted S T a sound
comes_counted (kind ∷ kinds) S T (M, N, a, edit, rest) sound sphere =
    let m = extends_keeps S M a sound sphere in
    let n = edit_keeps kind M N edit m.0 m.1 in
    comes_counted kinds N T rest n.0 n.1
    ∙ ap (edges_after kinds) (edit_counted kind M N edit m.0 n.0 ∙ ap (edges_then kind) (extends_counted S M a sound))
