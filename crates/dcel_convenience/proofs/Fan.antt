-- The edges of a fan: with the half edges that stay they make a simple mesh, where none of them joins what was joined.
use Rattle.std.proofs.Common.{◌≡◌, ◌≢◌, ◌⊎◌, ◌∙◌, inl, inr, ℕ, zero, suc, ◌+◌, ◌-◌, ◌*◌, ◌/◌, ◌%◌, ◌<◌, false, List, [], ◌∷◌, length, slice_index, refl, sym, ap, arith}
use Rattle.std.proofs.lemmas.Bool.{cases_lt}
use Rattle.std.proofs.lemmas.List.{get_or-append-add, get_or_append_left}
use Rattle.dcel_convenience.specs.Simple.{AreJoined, IsSimple}
use Rattle.dcel_fixed.proofs.Halves.{rev-double, rev-double-suc, rev-half, rev-rev}
use Rattle.dcel_fixed.specs.HalfEdges.{rev}
use Rattle.dcel_maps.specs.Removals.{Closed, Removal, gives_up_edge, shown}
use Rattle.dcel_maps.specs.Shapes.{IsLive, IsMesh, Mesh, Shape, edge_is_live, end_of, origin_of}
use Rattle.dcel_maps.specs.edits.Fill.{ear_origins, ring_filled}
use Rattle.dcel_maps.proofs.Liveness.{closed-live, is_live-parts}
use Rattle.dcel_maps.proofs.Shown.{length-shown, slice_index-shown_live}

-- where the halves of new edge j start: the first at its vertex of the ring, the second at the one that all share
ears-even : (o : ℕ → ℕ) (a r : ℕ) (rest : List ℕ) (j : ℕ) → j < length rest → slice_index (ear_origins o a r rest) (2 * j) ≡ o (slice_index (r ∷ rest) j)
ears-even o a r [] j within = absurd (omega (arith, within))
ears-even o a r (x ∷ rest) zero within = refl
ears-even o a r (x ∷ rest) (suc j) within =
    ap (slice_index (ear_origins o a r (x ∷ rest))) (let twice : 2 * suc j ≡ suc (suc (2 * j)) = omega arith in twice)
    ∙ ears-even o a x rest j (omega (arith, within))

ears-odd : (o : ℕ → ℕ) (a r : ℕ) (rest : List ℕ) (j : ℕ) → j < length rest → slice_index (ear_origins o a r rest) (2 * j + 1) ≡ a
ears-odd o a r [] j within = absurd (omega (arith, within))
ears-odd o a r (x ∷ rest) zero within = refl
ears-odd o a r (x ∷ rest) (suc j) within =
    ap (slice_index (ear_origins o a r (x ∷ rest))) (let twice : 2 * suc j + 1 ≡ suc (suc (2 * j + 1)) = omega arith in twice)
    ∙ ears-odd o a x rest j (omega (arith, within))

-- a half edge of t that was one of s, and one of new edge j that leads to the vertex w or away from it
pub record IsOld (s t : Shape) (x : ℕ) : Type 0 where
  pub live : IsLive s x
  pub start : origin_of t x ≡ origin_of s x
  pub end : end_of t x ≡ end_of s x

pub record LeadsIn (t : Shape) (a : ℕ → ℕ) (w n m x : ℕ) : Type 0 where
  pub j : ℕ
  pub within : j < n
  pub is : x ≡ 2 * (m + j)
  pub start : origin_of t x ≡ a j
  pub end : end_of t x ≡ w

pub record LeadsOut (t : Shape) (a : ℕ → ℕ) (w n m x : ℕ) : Type 0 where
  pub j : ℕ
  pub within : j < n
  pub is : x ≡ 2 * (m + j) + 1
  pub start : origin_of t x ≡ w
  pub end : end_of t x ≡ a j

-- new edges join w to n different vertices a j, which no edge joined it to
pub record IsFan (s : Shape) (a : ℕ → ℕ) (w n : ℕ) : Type 0 where
  pub new : (j : ℕ) → j < n → ¬ AreJoined s w (a j)
  pub off : (j : ℕ) → j < n → a j ≢ w
  pub apart : (i j : ℕ) → i < n → j < n → a i ≡ a j → i ≡ j

module _ (s t : Shape) (a : ℕ → ℕ) (w n m : ℕ) (fan : IsFan s a w n) where
  new_back : (j : ℕ) → j < n → ¬ AreJoined s (a j) w
  new_back j within (k, leads) = fan.new j within (
    rev k,
    record {
      live = ap (edge_is_live s) (rev-half k) ∙ leads.live;
      start = leads.end;
      end = ap (origin_of s) (rev-rev k) ∙ leads.start;
    },
  )

  old_in : (x y : ℕ) → IsOld s t x → LeadsIn t a w n m y → origin_of t x ≡ origin_of t y → end_of t x ≡ end_of t y → ⊥
  old_in x y old new start end =
      new_back new.j new.within (x, record { live = old.live; start = sym old.start ∙ start ∙ new.start; end = sym old.end ∙ end ∙ new.end })

  old_out : (x y : ℕ) → IsOld s t x → LeadsOut t a w n m y → origin_of t x ≡ origin_of t y → end_of t x ≡ end_of t y → ⊥
  old_out x y old new start end =
      fan.new new.j new.within (x, record { live = old.live; start = sym old.start ∙ start ∙ new.start; end = sym old.end ∙ end ∙ new.end })

  abbrev pub Sorts : ℕ → Type 0
  Sorts x = IsOld s t x ⊎ (LeadsIn t a w n m x ⊎ LeadsOut t a w n m x)

  same : IsSimple s → (x y : ℕ) → Sorts x → Sorts y → origin_of t x ≡ origin_of t y → end_of t x ≡ end_of t y → x ≡ y
  same simple x y (inl p) (inl q) start end = simple x y p.live q.live (sym p.start ∙ start ∙ q.start) (sym p.end ∙ end ∙ q.end)
  same simple x y (inl p) (inr (inl q)) start end = absurd (old_in x y p q start end)
  same simple x y (inl p) (inr (inr q)) start end = absurd (old_out x y p q start end)
  same simple x y (inr (inl p)) (inl q) start end = absurd (old_in y x q p (sym start) (sym end))
  same simple x y (inr (inr p)) (inl q) start end = absurd (old_out y x q p (sym start) (sym end))
  same simple x y (inr (inl p)) (inr (inl q)) start end =
      p.is ∙ ap (λ i. 2 * (m + i)) (fan.apart p.j q.j p.within q.within (sym p.start ∙ start ∙ q.start)) ∙ sym q.is
  same simple x y (inr (inr p)) (inr (inr q)) start end =
      p.is ∙ ap (λ i. 2 * (m + i) + 1) (fan.apart p.j q.j p.within q.within (sym p.end ∙ end ∙ q.end)) ∙ sym q.is
  same simple x y (inr (inl p)) (inr (inr q)) start end = absurd (fan.off p.j p.within (sym p.start ∙ start ∙ q.start))
  same simple x y (inr (inr p)) (inr (inl q)) start end = absurd (fan.off q.j q.within (sym q.start ∙ sym start ∙ p.start))

  pub fan_simple : IsSimple s → ((x : ℕ) → IsLive t x → Sorts x) → IsSimple t
  fan_simple simple sorts x y x_live y_live start end = same simple x y (sorts x x_live) (sorts y y_live) start end

-- where the first half of new edge j starts on the ring, of which r and the rest are filled
abbrev pub corner_at : Shape → ℕ → List ℕ → ℕ → ℕ
corner_at s r rest j = origin_of s (slice_index (r ∷ rest) j)

-- the ring (p, q, r, ..), filled from where p starts
module _ {V DE UE F : Type 0} (m : Mesh V DE UE F) (mesh : IsMesh m) (closed : m.shape.removal ≡ Closed) (removal : Removal) (p q r : ℕ) (rest : List ℕ) (halves : List DE) (edges : List UE) (faces : List F) where
  abbrev s : Shape
  s = m.shape

  abbrev t : Shape
  t = (ring_filled m removal p q r rest halves edges faces).shape

  abbrev ears : List ℕ
  ears = ear_origins (origin_of s) (origin_of s p) r rest

  long : length (shown (gives_up_edge removal) s.origins) ≡ 2 * s.edges
  long = length-shown (gives_up_edge removal) s.origins ∙ mesh.sized.origins

  start-old : (x : ℕ) → x < 2 * s.edges → gives_up_edge removal (x / 2) ≡ false → origin_of t x ≡ origin_of s x
  start-old x below kept =
      get_or_append_left (shown (gives_up_edge removal) s.origins) ears 0 x (omega (arith, below, long))
      ∙ slice_index-shown_live (gives_up_edge removal) s.origins x kept

  start-new : (i : ℕ) → origin_of t (2 * s.edges + i) ≡ slice_index ears i
  start-new i =
      ap (λ k. origin_of t (k + i)) (sym long) ∙ get_or-append-add (shown (gives_up_edge removal) s.origins) ears i 0

  start-even : (j : ℕ) → j < length rest → origin_of t (2 * (s.edges + j)) ≡ corner_at s r rest j
  start-even j within =
      ap (origin_of t) (let is : 2 * (s.edges + j) ≡ 2 * s.edges + 2 * j = omega arith in is) ∙ start-new (2 * j)
      ∙ ears-even (origin_of s) (origin_of s p) r rest j within

  start-odd : (j : ℕ) → j < length rest → origin_of t (2 * (s.edges + j) + 1) ≡ origin_of s p
  start-odd j within =
      ap (origin_of t) (let is : 2 * (s.edges + j) + 1 ≡ 2 * s.edges + (2 * j + 1) = omega arith in is) ∙ start-new (2 * j + 1)
      ∙ ears-odd (origin_of s) (origin_of s p) r rest j within

  sorted : (x : ℕ) → IsLive t x → IsOld s t x ⊎ (LeadsIn t (corner_at s r rest) (origin_of s p) (length rest) s.edges x ⊎ LeadsOut t (corner_at s r rest) (origin_of s p) (length rest) s.edges x)
  sorted x live =
      let parts = is_live-parts (gives_up_edge removal) (s.edges + length rest) (x / 2) live in
      elim (cases_lt (x / 2) s.edges) [
        | inl below ↦ inl (record {
          live = closed-live s closed (x / 2) below;
          start = start-old x (omega (arith, below)) parts.1;
          end = start-old (rev x) (omega (arith, below, rev-half x)) (ap (gives_up_edge removal) (rev-half x) ∙ parts.1);
        })
        | inr past ↦
            let j = x / 2 - s.edges in
            let within : j < length rest = omega (arith, past, parts.0) in
            let half : s.edges + j ≡ x / 2 = omega (arith, past) in
            inr (elim (cases_lt (x % 2) 1) [
              | inl even ↦
                  let is : x ≡ 2 * (s.edges + j) = omega (arith, half, even) in
                  inl (record {
                    j = j;
                    within = within;
                    is = is;
                    start = ap (origin_of t) is ∙ start-even j within;
                    end = ap (λ k. origin_of t (rev k)) is ∙ ap (origin_of t) (rev-double (s.edges + j)) ∙ start-odd j within;
                  })
              | inr odd ↦
                  let is : x ≡ 2 * (s.edges + j) + 1 = omega (arith, half, odd) in
                  inr (record {
                    j = j;
                    within = within;
                    is = is;
                    start = ap (origin_of t) is ∙ start-odd j within;
                    end = ap (λ k. origin_of t (rev k)) is ∙ ap (origin_of t) (rev-double-suc (s.edges + j)) ∙ start-even j within;
                  })
            ])
      ]

  -- a fan in a simple mesh leaves a simple one
  pub filled_simple : IsFan m.shape (corner_at m.shape r rest) (origin_of m.shape p) (length rest) → IsSimple m.shape
      → IsSimple (ring_filled m removal p q r rest halves edges faces).shape
  filled_simple fan simple = fan_simple s t (corner_at s r rest) (origin_of s p) (length rest) s.edges fan simple sorted
