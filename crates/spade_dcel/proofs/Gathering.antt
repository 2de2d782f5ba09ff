-- What is read of each half edge of a list, one after another.
use Rattle.std.proofs.Common.{◌≡◌, ℕ, ◌<◌, List, [], ◌∷◌, ◌++◌, map, sym, ap, ◌∙◌, subst, arith, append_assoc, append-nil}
use Rattle.dcel_maps.specs.Shapes.{IsLive, Mesh, Shape}
use Rattle.dcel_maps.specs.Walking.{in_mesh, out_edges_of}
use Rattle.dcel_maps.specs.Words.{count_of}
use Rattle.dcel_maps.proofs.walks.Items.{first_item, none_left}
use Rattle.dcel_maps.proofs.words.Counts.{count-later, count-same}

-- `done` is what was read of the first half edges of the list, and `left` are the others, all of them live
pub record Gathers (s : Shape) (read : ℕ → ℕ) (list done left : List ℕ) : Type 0 where
  pub live : (e : ℕ) → 0 < count_of e left → IsLive s e
  pub is : done ++ map read left ≡ map read list

module _ {V DE UE F : Type 0} where
  -- the same for the out edges of a vertex, with those that are still to come
  pub record GathersRound (m : Mesh V DE UE F) (v : ℕ) (read : ℕ → ℕ) (done : List ℕ) (items : List (Mesh V DE UE F × ℕ)) : Type 0 where
    pub left : List ℕ
    pub items_are : items ≡ in_mesh m left
    pub gathers : Gathers m.shape read (out_edges_of m v) done left

  -- a half edge came
  pub record Comes (m n : Mesh V DE UE F) (v : ℕ) (read : ℕ → ℕ) (done : List ℕ) (k : ℕ) (more : List (Mesh V DE UE F × ℕ)) : Type 0 where
    pub same_mesh : n ≡ m
    pub live : IsLive m.shape k
    pub goes_on : GathersRound m v read (done ++ read k ∷ []) more

  pub round_comes : (m n : Mesh V DE UE F) (v : ℕ) (read : ℕ → ℕ) (done : List ℕ) (k : ℕ) (items more : List (Mesh V DE UE F × ℕ))
      → GathersRound m v read done items → items ≡ (n, k) ∷ more → Comes m n v read done k more
  round_comes m n v read done k items more g e =
      let came = first_item m n k more g.left (sym e ∙ g.items_are) in
      let live : (h : ℕ) → 0 < count_of h (k ∷ came.rest) → IsLive m.shape h =
      λ h found. g.gathers.live h (subst (λ z. 0 < count_of h z) (sym came.left_is) found) in
      record {
        same_mesh = came.same_mesh;
        live = live k (omega (arith, count-same k came.rest));
        goes_on = record {
          left = came.rest;
          items_are = came.more_are;
          gathers = record {
            live = λ h found. live h (count-later h k came.rest found);
            is = append_assoc done (read k ∷ []) (map read came.rest) ∙ ap (λ z. done ++ map read z) (sym came.left_is) ∙ g.gathers.is;
          };
        };
      }

  pub round_ends : (m : Mesh V DE UE F) (v : ℕ) (read : ℕ → ℕ) (done : List ℕ) (items : List (Mesh V DE UE F × ℕ))
      → GathersRound m v read done items → items ≡ [] → done ≡ map read (out_edges_of m v)
  round_ends m v read done items g none =
      sym (append-nil done) ∙ ap (λ z. done ++ map read z) (sym (none_left m g.left (sym none ∙ g.items_are))) ∙ g.gathers.is
