-- A path with a vertex between two edges given up, and one of these: its other edge joins the two neighbours.
use Rattle.std.proofs.Common.{◌≡◌, ◌≢◌, ◌*◌, ◌/◌, ◌<◌, ℕ, [], ◌∷◌, length, slice_index, Some, sym, ap, ◌∙◌, subst, arith, inl, inr}
use Rattle.std.proofs.lemmas.Bool.{cases_eq}
use Rattle.std.proofs.lemmas.List.{get_or-set_other, get_or-set_same}
use Rattle.dcel_fixed.specs.HalfEdges.{rev}
use Rattle.dcel_maps.specs.Cyclic.{from_least}
use Rattle.dcel_maps.specs.Degenerate.{IsPath}
use Rattle.dcel_maps.specs.EditLists.{ComesBy}
use Rattle.dcel_maps.specs.EditLists.EditKind.{edges_joined}
use Rattle.dcel_maps.specs.Maps.{Map}
use Rattle.dcel_maps.specs.Removals.{Closed}
use Rattle.dcel_maps.specs.Shapes.{IsLive, IsSound, IsSphere, Shape, end_of, face_of, map_of, origin_of}
use Rattle.dcel_maps.specs.theory.Sound.{Sound, Sphere}
use Rattle.dcel_maps.specs.Walking.{IsOutEdge, ccw_of}
use Rattle.dcel_maps.specs.Words.{become, word_of}
use Rattle.dcel_maps.proofs.maps.Edits.{first_part}
use Rattle.dcel_maps.proofs.maps.Halves.{rev-rev, rev_or_same}
use Rattle.dcel_maps.proofs.maps.Lists.{comes_once}
use Rattle.dcel_maps.proofs.maps.Soundness.{rev_live}
use Rattle.dcel_maps.proofs.maps.Straightened.{Left, StraightensAt, left, middle_bare, straightened, straightened_keeps, straightened_edit}
use Rattle.dcel_maps.proofs.maps.Subdivides.{first-other, first-rev}
use Rattle.dcel_maps.proofs.removal.PathCuts.{IsLeft, after, edge_kept, on_outer, origin-after, starts, left_comes}
use Rattle.dcel_maps.proofs.removal.PathEdits.{IsStandIn}
use Rattle.dcel_maps.proofs.removal.Paths.{ends_differ, next_rev_a, next_rev_b, out_b}
use Rattle.dcel_maps.proofs.shapes.Maps.{map-sound, map-sphere}
use Rattle.dcel_maps.proofs.walks.Links.{links_stand}
use Rattle.dcel_maps.proofs.words.Faces.{IsWordOf}
use Rattle.dcel_maps.proofs.words.Straightened.{straightened_word}

module _ (s : Shape) (sound : IsSound s) (sphere : IsSphere s) (path : IsPath s) (closed : s.removal ≡ Closed)
    (long : length s.origins ≡ 2 * s.edges) (v a : ℕ) (within : v < s.vertices) (out : IsOutEdge s v a) (many : 2 < s.vertices)
    (other : a ≢ ccw_of s a) where
  abbrev T : Map
  T = map_of s

  abbrev b : ℕ
  b = ccw_of s a

  t : Sound T
  t = map-sound sound

  b_out : IsOutEdge s v b
  b_out = out_b s sound sphere path v a within out

  back : rev (rev a) ≡ a
  back = rev-rev a

  on_face : (x : ℕ) → IsLive s x → face_of s x ≡ 0
  on_face x live = omega (arith, t.below_faces x live, path.one_face)

  at : StraightensAt T (rev a) b
  at = record {
    lives = rev_live T a out.live;
    next_h = next_rev_a s sound sphere path v a within out;
    next_rev = next_rev_b s sound sphere path v a within out ∙ sym back;
    bent = λ is. other (sym back ∙ sym is);
    apart = ends_differ s sound sphere path v a within out many other;
  }

  abbrev M : Map
  M = straightened T (rev a) b

  links : Left T (rev a) b t at
  links = left T (rev a) b t at

  keeps : Sound M × Sphere M
  keeps = straightened_keeps T (rev a) b t at (map-sphere sound sphere)

  abbrev written : ℕ → ℕ
  written h = slice_index (starts s v a b closed path.one_face) h

  origins : (h : ℕ) → M.origin h ≡ written h
  origins h = elim (cases_eq h a) [
    | inl is ↦
        links.origin h ∙ ap (λ z. origin_of s (first_part (rev a) b z)) (is ∙ sym back) ∙ ap (origin_of s) (first-rev (rev a) b)
        ∙ sym (ap written is ∙ get_or-set_same s.origins a (end_of s b) 0 (omega (arith, t.below_edges a out.live, long)))
    | inr apart ↦
        links.origin h ∙ ap (origin_of s) (first-other (rev a) b h (λ is. apart (is ∙ back)))
        ∙ sym (get_or-set_other s.origins a h (end_of s b) 0 apart)
  ]

  pub middle_left : IsLeft s v a b closed path.one_face (straightened T (rev a) b)
  middle_left = record {
    vertices = links.vertices;
    edges = links.edges;
    faces = links.faces;
    edge_here = links.edge_here;
    edge_other = links.edge_other;
    origin = λ h live. origins h;
    word = subst (λ f. IsWordOf M f (from_least (become (rev b) [] (become b [] (word_of s.words f)))))
        (on_face (rev a) at.lives)
        (straightened_word T (rev a) b t at keeps.0 s.words (links_stand sound)
        (on_face (rev (rev a)) (rev_live T (rev a) at.lives) ∙ sym (on_face (rev a) at.lives)));
    sound = keeps.0;
    sphere = keeps.1;
    isolated = λ h live is. middle_bare T (rev a) b t at h live (is ∙ sym b_out.start);
  }

  pub middle_stands_in : IsStandIn (after s v a b closed path.one_face) (end_of s b) (Some a)
  middle_stands_in =
      let live : IsLive (after s v a b closed path.one_face) a =
      edge_kept s v a b closed path.one_face (a / 2) (λ half. elim (rev_or_same a b half) [
        | inl is ↦ other is
        | inr is ↦ t.two_ends b b_out.live (b_out.start ∙ sym out.start ∙ ap (origin_of s) is)
      ]) ∙ out.live in
      record {
        vertex = (
          live,
          origin-after s v a b closed path.one_face a live
              ∙ get_or-set_same s.origins a (end_of s b) 0 (omega (arith, t.below_edges a out.live, long)),
        );
        word = on_outer s v a b closed path.one_face M middle_left a live;
      }

  -- two edges are joined
  pub middle_comes : ComesBy (edges_joined ∷ []) T (map_of (after s v a b closed path.one_face))
  middle_comes =
      left_comes s v a b closed path.one_face M middle_left (edges_joined ∷ []) (comes_once edges_joined T M (straightened_edit T (rev a) b t at))
