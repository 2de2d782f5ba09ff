-- An edge of a mesh turned between two triangles.
use Rattle.std.proofs.Common.{◌≡◌, ◌≢◌, inl, inr, ℕ, ◌/◌, [], ◌∷◌, Some, add-zero, append-nil, refl, sym, ap, ◌∙◌, subst, arith}
use Rattle.std.proofs.Math.Logic.{Ne-symm}
use Rattle.std.proofs.lemmas.Bool.{cases_eq}
use Rattle.dcel_fixed.specs.HalfEdges.{rev}
use Rattle.dcel_fixed.proofs.Halves.{rev-double}
use Rattle.dcel_maps.specs.Conditions.{CanFlip}
use Rattle.dcel_maps.specs.Cyclic.{from_least}
use Rattle.dcel_maps.specs.EditLists.{ComesBy}
use Rattle.dcel_maps.specs.EditLists.EditKind.{ear_cut, words_joined}
use Rattle.dcel_maps.specs.edits.Flip.{edge_flipped}
use Rattle.dcel_maps.specs.Maps.{Live}
use Rattle.dcel_maps.specs.theory.Sound.{Sound, Sphere}
use Rattle.dcel_maps.specs.Shapes.{IsLive, IsMesh, Mesh, face_count, face_of, map_of, origin_of}
use Rattle.dcel_maps.proofs.Liveness.{even_live, odd_live}
use Rattle.dcel_maps.proofs.edits.Changes.{Change, IsEdit, changed, edit_makes_mesh, fits_with, map_after}
use Rattle.dcel_maps.proofs.edits.Growing.{after-each, after-edge, after-origin, after-still}
use Rattle.dcel_maps.proofs.edits.Linking.{face_live-at, linked-old, triangle_full, triangle_linked, triangle_of, stays-linked}
use Rattle.dcel_maps.proofs.edits.Patches.{Untouched, puts_away, puts_here, replacing}
use Rattle.dcel_maps.proofs.edits.Starting.{starts-as}
use Rattle.dcel_maps.proofs.maps.Flips.{Flip, flip_comes}
use Rattle.dcel_maps.proofs.maps.Halves.{turn_back}
use Rattle.dcel_maps.proofs.maps.Labels.{KeepsLabel}
use Rattle.dcel_maps.proofs.maps.Lists.{comes_keeps}
use Rattle.dcel_maps.proofs.maps.Triangles.{IsTriangleOf, Off, SameLinks, by_triangle, facing_differ, off_another, off_face, triangles_apart, IsLinked}
use Rattle.dcel_maps.proofs.shapes.Maps.{map-sphere}
use Rattle.dcel_maps.proofs.words.Faces.{KeepsFace}
use Rattle.dcel_maps.proofs.edits.Around.{at_edge, edited, known}

-- the edge of e and t, from x to y, between the triangles (e, a, b) of f and (t, c, d) of g: these become (e, d, a) and (t, b, c), and the
-- edge leads from z to w, where b and d start
abbrev pub flipping : {V DE UE F : Type 0} → (f g e a b t c d x y z w : ℕ) → Change V DE UE F
flipping f g e a b t c d x y z w = record {
  vertices = 0;
  edges = 0;
  faces = 0;
  words = replacing ((f, from_least (e ∷ d ∷ a ∷ [])) ∷ (g, from_least (t ∷ b ∷ c ∷ [])) ∷ []);
  next = replacing ((e, d) ∷ (d, a) ∷ (a, e) ∷ (t, b) ∷ (b, c) ∷ (c, t) ∷ []);
  prev = replacing ((e, a) ∷ (d, e) ∷ (a, d) ∷ (t, c) ∷ (b, t) ∷ (c, b) ∷ []);
  origin = replacing ((e, z) ∷ (t, w) ∷ []);
  face = replacing ((d, f) ∷ (b, g) ∷ []);
  vertex_anchors = replacing ((x, Some c) ∷ (y, Some a) ∷ []);
  face_anchors = replacing ((f, Some e) ∷ (g, Some t) ∷ []);
  vertex_data = [];
  directed_data = [];
  undirected_data = [];
  face_data = [];
}

module _ {V DE UE F : Type 0} (m : Mesh V DE UE F) (mesh : IsMesh m) (f g e a b t c d x y : ℕ) (turn : rev e ≡ t)
    (was : IsTriangleOf (map_of m.shape) f e a b) (facing : IsTriangleOf (map_of m.shape) g t c d)
    (start : origin_of m.shape e ≡ x) (end : origin_of m.shape t ≡ y) (corners : origin_of m.shape b ≢ origin_of m.shape d) where
  abbrev ch : Change V DE UE F
  ch = flipping f g e a b t c d x y (origin_of m.shape b) (origin_of m.shape d)

  open (edited m ch) use {S, T}
  open (known m mesh) use {sound}

  differ : f ≢ g
  differ = facing_differ S sound f e a b g t c d was facing turn

  open (triangles_apart S f e a b g t c d was facing differ) use {x_off as t_off, y_off as c_off, z_off as d_off}

  -- the half edges of both triangles
  at_e : IsLinked T f a e d
  at_e =
      let apart : Untouched e ((d, a) ∷ (a, e) ∷ (t, b) ∷ (b, c) ∷ (c, t) ∷ []) =
      (Ne-symm d_off.0, (was.x≢y, (Ne-symm t_off.0, (was.x≢z, (Ne-symm c_off.0, tt))))) in
      linked-old m.shape ch f a e d was.live_x
      (puts_here _ e d ((d, a) ∷ (a, e) ∷ (t, b) ∷ (b, c) ∷ (c, t) ∷ []) apart)
      (puts_here _ e a ((d, e) ∷ (a, d) ∷ (t, c) ∷ (b, t) ∷ (c, b) ∷ []) apart)
      (puts_away _ ch.face.set e (Ne-symm d_off.0, (was.x≢z, tt)) ∙ was.face_x)

  at_d : IsLinked T f e d a
  at_d =
      let apart : Untouched d ((a, e) ∷ (t, b) ∷ (b, c) ∷ (c, t) ∷ []) =
      (d_off.1, (Ne-symm facing.x≢z, (d_off.2, (Ne-symm facing.y≢z, tt)))) in
      linked-old m.shape ch f e d a facing.live_z
      (puts_here _ d a ((a, e) ∷ (t, b) ∷ (b, c) ∷ (c, t) ∷ []) apart)
      (puts_here _ d e ((a, d) ∷ (t, c) ∷ (b, t) ∷ (c, b) ∷ []) apart)
      (puts_here _ d f ((b, g) ∷ []) (d_off.2, tt))

  at_a : IsLinked T f d a e
  at_a =
      let apart : Untouched a ((t, b) ∷ (b, c) ∷ (c, t) ∷ []) =
      (Ne-symm t_off.1, (was.y≢z, (Ne-symm c_off.1, tt))) in
      linked-old m.shape ch f d a e was.live_y
      (puts_here _ a e ((t, b) ∷ (b, c) ∷ (c, t) ∷ []) apart)
      (puts_here _ a d ((t, c) ∷ (b, t) ∷ (c, b) ∷ []) apart)
      (puts_away _ ch.face.set a (Ne-symm d_off.1, (was.y≢z, tt)) ∙ was.face_y)

  at_t : IsLinked T g c t b
  at_t =
      linked-old m.shape ch g c t b facing.live_x
      (puts_here _ t b ((b, c) ∷ (c, t) ∷ []) (t_off.2, (facing.x≢y, tt)))
      (puts_here _ t c ((b, t) ∷ (c, b) ∷ []) (t_off.2, (facing.x≢y, tt)))
      (puts_away _ ch.face.set t (facing.x≢z, (t_off.2, tt)) ∙ facing.face_x)

  at_b : IsLinked T g t b c
  at_b =
      linked-old m.shape ch g t b c was.live_z
      (puts_here _ b c ((c, t) ∷ []) (Ne-symm c_off.2, tt))
      (puts_here _ b t ((c, b) ∷ []) (Ne-symm c_off.2, tt))
      (puts_here _ b g [] tt)

  at_c : IsLinked T g b c t
  at_c =
      linked-old m.shape ch g b c t facing.live_y
      (puts_here _ c t [] tt) (puts_here _ c b [] tt) (puts_away _ ch.face.set c (facing.y≢z, (c_off.2, tt)) ∙ facing.face_y)

  first : IsTriangleOf T f e d a
  first = triangle_linked T f e d a at_e at_d at_a (Ne-symm d_off.0) d_off.1 was.x≢y

  second : IsTriangleOf T g t b c
  second = triangle_linked T g t b c at_t at_b at_c t_off.2 (Ne-symm c_off.2) facing.x≢y

  -- the others stay
  others : (h : ℕ) → IsLive m.shape h → Off h e a b → Off h t c d → SameLinks S T h
  others h live here there =
      let apart : Untouched h ch.next.set = (here.0, (there.2, (here.1, (there.0, (here.2, (there.1, tt)))))) in
      stays-linked m.shape ch h live apart apart (there.2, (here.2, tt))

  origin_other : (h : ℕ) → IsLive m.shape h → h ≢ e → h ≢ t → T.origin h ≡ origin_of m.shape h
  origin_other h live not_e not_t = after-origin m.shape ch h live ∙ puts_away _ ch.origin.set h (not_e, (not_t, tt))

  is_flip : Flip S T f g e a b t c d
  is_flip = record {
    was = was;
    facing = facing;
    turn = turn;
    corners = corners;
    first = first;
    second = second;
    others = others;
    origin_e = after-origin m.shape ch e was.live_x ∙ puts_here _ e (origin_of m.shape b) ((t, origin_of m.shape d) ∷ []) (Ne-symm t_off.0, tt);
    origin_t = after-origin m.shape ch t facing.live_x ∙ puts_here _ t (origin_of m.shape d) [] tt;
    origin_other = origin_other;
    edge = λ k. after-edge m.shape ch k (λ less. omega (arith, less));
    vertices = add-zero m.shape.vertices;
    edges = add-zero m.shape.edges;
    faces = add-zero (face_count m.shape);
  }

  flip_made : ComesBy (words_joined ∷ ear_cut ∷ []) S T
  flip_made = flip_comes S T f g e a b t c d sound is_flip (map-sphere mesh.sound mesh.sphere)

  keeps : Sound T × Sphere T
  keeps = comes_keeps (words_joined ∷ ear_cut ∷ []) S T flip_made sound (map-sphere mesh.sound mesh.sphere)

  -- what holds on both triangles, and of what stays, holds of each live half edge
  each : (P : ℕ → Type 0) → P e × P d × P a → P t × P b × P c → ((h : ℕ) → IsLive m.shape h → Off h e a b → Off h t c d → P h)
      → (h : ℕ) → Live T h → P h
  each P on_first on_second rest =
      after-each m.shape ch P
      (λ h live.
      by_triangle P e a b h (on_first.0, on_first.2, on_second.1) (λ here.
      by_triangle P t c d h (on_second.0, on_second.2, on_first.1) (rest h live here)))
      tt

  -- the other faces stay
  keeps_face : (k : ℕ) → k ≢ f → k ≢ g → KeepsFace S T k
  keeps_face k not_f not_g =
      let here : (h : ℕ) → face_of m.shape h ≡ k → Off h e a b = λ h at. off_face S f e a b was h (λ is. not_f (sym at ∙ is)) in
      let there : (h : ℕ) → face_of m.shape h ≡ k → Off h t c d = λ h at. off_face S g t c d facing h (λ is. not_g (sym at ∙ is)) in
      let P : ℕ → Type 0 = λ h. IsLive m.shape h × (face_of m.shape h ≡ k) in
      record {
        comes = each (λ h. T.face h ≡ k → P h)
            (off_another T f e d a first k (Ne-symm not_f) P) (off_another T g t b c second k (Ne-symm not_g) P)
            (λ h live not_here not_there at. (live, sym (others h live not_here not_there).face ∙ at));
        live = λ h live at. after-still m.shape ch h live;
        next = λ h live at. (others h live (here h at) (there h at)).next;
        prev = λ h live at. (others h live (here h at) (there h at)).prev;
        face = λ h live at. (others h live (here h at) (there h at)).face ∙ at;
      }

  -- each half edge starts where one did, so the other vertices stay
  started : (h : ℕ) → Live T h → (k : ℕ) × IsLive m.shape k × (T.origin h ≡ origin_of m.shape k)
  started =
      after-each m.shape ch (λ h. (k : ℕ) × IsLive m.shape k × (T.origin h ≡ origin_of m.shape k))
      (λ h live. elim (cases_eq h e) [
        | inl is ↦ (b, was.live_z, ap T.origin is ∙ is_flip.origin_e)
        | inr not_e ↦ elim (cases_eq h t) [
          | inl is ↦ (d, facing.live_z, ap T.origin is ∙ is_flip.origin_t)
          | inr not_t ↦ (h, live, origin_other h live not_e not_t)
        ]
      ])
      tt

  keeps_vertex : (v : ℕ) → v ≢ x → v ≢ y → KeepsLabel S T (origin_of m.shape) T.origin v
  keeps_vertex v not_x not_y = record {
    stays = λ h live at. (
      after-still m.shape ch h live,
      origin_other h live (λ is. not_x (sym at ∙ ap S.origin is ∙ start)) (λ is. not_y (sym at ∙ ap S.origin is ∙ end)) ∙ at,
    );
    comes = λ h live at. let (k, lives, is) = started h live in record { half = k; live = lives; is = sym is ∙ at };
  }

  -- and the old ends have the half edges after those of the edge
  at_start : T.origin c ≡ x
  at_start =
      origin_other c facing.live_y c_off.0 (Ne-symm facing.x≢y)
      ∙ ap S.origin (sym facing.next_x) ∙ sound.origin-next t facing.live_x ∙ ap S.origin (turn_back e t turn) ∙ start

  at_end : T.origin a ≡ y
  at_end =
      origin_other a was.live_y (Ne-symm was.x≢y) (Ne-symm t_off.1)
      ∙ ap S.origin (sym was.next_x) ∙ sound.origin-next e was.live_x ∙ ap S.origin turn ∙ end

  pub flipping_is_edit : IsEdit m ch
  flipping_is_edit = record {
    room = record {
      for_vertices = omega (arith, mesh.sized.few_vertices);
      for_edges = omega (arith, mesh.sized.few_edges);
      for_faces = omega (arith, mesh.sized.few_faces);
    };
    fits = fits_with ch refl refl refl refl refl refl refl refl refl refl refl;
    on_live = record {
      next = (was.live_x, (facing.live_z, (was.live_y, (facing.live_x, (was.live_z, (facing.live_y, tt))))));
      prev = (was.live_x, (facing.live_z, (was.live_y, (facing.live_x, (was.live_z, (facing.live_y, tt))))));
      origin = (was.live_x, (facing.live_x, tt));
      face = (facing.live_z, (was.live_z, tt));
    };
    sound = keeps.0;
    sphere = keeps.1;
    starts = λ h live. let (k, lives, is) = started h live in starts-as m mesh ch h k lives is;
    words = (
      (triangle_full T keeps.0 f e d a first, face_live-at m mesh f e was.live_x was.face_x),
      ((triangle_full T keeps.0 g t b c second, face_live-at m mesh g t facing.live_x facing.face_x), tt),
    );
    new_words = tt;
    other_words = λ k k_in off. keeps_face k off.0 off.1.0;
    outer = λ k lives off. (e / 2, was.live_x);
    vertex_anchors = ((second.live_z, at_start), ((first.live_z, at_end), tt));
    new_vertex_anchors = tt;
    other_vertices = λ v v_in off. keeps_vertex v off.0 off.1.0;
    face_anchors = ((first.live_x, first.face_x), ((second.live_x, second.face_x), tt));
    new_face_anchors = tt;
    other_faces = λ k k_in off. inl (off.0, (off.1.0, tt));
  }

-- an edge between two triangles
module _ {V DE UE F : Type 0} (m : Mesh V DE UE F) (u : ℕ) where
  open (at_edge m.shape u) use {e, t, f, g, ep, en, tp, tn}

  abbrev pub edge_flipping : Change V DE UE F
  edge_flipping =
      flipping f g e en ep t tn tp (origin_of m.shape e) (origin_of m.shape t) (origin_of m.shape ep) (origin_of m.shape tp)

  pub edge_flipping_is : changed m edge_flipping ≡ edge_flipped m u
  edge_flipping_is = simp (add-zero, append-nil) refl

  module _ (mesh : IsMesh m) (can : CanFlip m.shape u) where
    open (known m mesh) use {sound}

    was : IsTriangleOf (map_of m.shape) f e en ep
    was = triangle_of m mesh e (even_live m.shape u can.live) can.triangle

    facing : IsTriangleOf (map_of m.shape) g t tn tp
    facing = triangle_of m mesh t (odd_live m.shape u can.live) can.facing

    pub edge_flipping_is_edit : IsEdit m edge_flipping
    edge_flipping_is_edit =
        flipping_is_edit m mesh f g e en ep t tn tp (origin_of m.shape e) (origin_of m.shape t) (rev-double u) was facing refl refl can.corners

    pub edge_flipping_made : ComesBy (words_joined ∷ ear_cut ∷ []) (map_of m.shape) (map_after m.shape edge_flipping)
    edge_flipping_made =
        flip_made m mesh f g e en ep t tn tp (origin_of m.shape e) (origin_of m.shape t) (rev-double u) was facing refl refl can.corners

    pub flipped_mesh : IsMesh (edge_flipped m u)
    flipped_mesh = subst (λ (n : Mesh V DE UE F). IsMesh n) edge_flipping_is (edit_makes_mesh m edge_flipping mesh edge_flipping_is_edit)

    -- the two triangles: `open (at_flip m u mesh can) use {was, facing, differ}`
    pub record AtFlip : Type 0 where
      pub was : IsTriangleOf (map_of m.shape) f e en ep
      pub facing : IsTriangleOf (map_of m.shape) g t tn tp
      pub differ : f ≢ g

    pub at_flip : AtFlip
    at_flip = record {
      was = was;
      facing = facing;
      differ = facing_differ (map_of m.shape) sound f e en ep g t tn tp was facing (rev-double u);
    }
