-- Origins with those of given-up edges masked.
use Rattle.std.proofs.Common.{◌≡◌, ℕ, zero, suc, ◌+◌, ◌*◌, ◌/◌, ◌≤◌, Bool, false, cond, List, [], ◌∷◌, ◌++◌, length, slice_index, slice_set, refl, ap, ◌∙◌, arith, add-zero, add-suc, suc-add, zero-add}
use Rattle.std.proofs.lemmas.Bool.{cond_both}
use Rattle.dcel_maps.specs.Removals.{shown, shown_from}
use Rattle.dcel_maps.proofs.edits.Patches.{Each, Patch, length-replaced, patched, replaced}

module _ (g : ℕ → Bool) where
  length-shown_from : (h : ℕ) (vs : List ℕ) → length (shown_from g h vs) ≡ length vs
  length-shown_from h [] = refl
  length-shown_from h (v ∷ vs) = ap suc (length-shown_from (suc h) vs)

  pub length-shown : (vs : List ℕ) → length (shown g vs) ≡ length vs
  length-shown vs = length-shown_from 0 vs

  index-shown_from : (h : ℕ) (vs : List ℕ) (i : ℕ)
      → slice_index (shown_from g h vs) i ≡ cond (g ((h + i) / 2)) 0 (slice_index vs i)
  index-shown_from h [] i = cond_both (g ((h + i) / 2)) 0 0 (λ v. 0 ≡ v) (λ yes. refl) (λ no. refl)
  index-shown_from h (v ∷ vs) zero = rw add-zero refl
  index-shown_from h (v ∷ vs) (suc i) = rw (add-suc, ← suc-add) (index-shown_from (suc h) vs i)

  -- each origin is masked where its edge is given up
  pub slice_index-shown : (vs : List ℕ) (h : ℕ) → slice_index (shown g vs) h ≡ cond (g (h / 2)) 0 (slice_index vs h)
  slice_index-shown vs h = index-shown_from 0 vs h ∙ rw zero-add refl

  pub slice_index-shown_live : (vs : List ℕ) (h : ℕ) → g (h / 2) ≡ false → slice_index (shown g vs) h ≡ slice_index vs h
  slice_index-shown_live vs h live = slice_index-shown vs h ∙ rw live refl

  shown_from-append : (h : ℕ) (vs us : List ℕ)
      → shown_from g h (vs ++ us) ≡ shown_from g h vs ++ shown_from g (h + length vs) us
  shown_from-append h [] us = rw add-zero refl
  shown_from-append h (v ∷ vs) us = rw (add-suc, ← suc-add) (ap (λ z. cond (g (h / 2)) 0 v ∷ z) (shown_from-append (suc h) vs us))

  shown_from-set : (h : ℕ) (vs : List ℕ) (i a : ℕ) → g ((h + i) / 2) ≡ false
      → shown_from g h (slice_set vs i a) ≡ slice_set (shown_from g h vs) i a
  shown_from-set h [] i a live = refl
  shown_from-set h (v ∷ vs) zero a live =
      let here : g (h / 2) ≡ false = rw add-zero at live in
      rw here refl
  shown_from-set h (v ∷ vs) (suc i) a live =
      ap (λ z. cond (g (h / 2)) 0 v ∷ z) (shown_from-set (suc h) vs i a (rw (add-suc, ← suc-add) at live))

  -- a write to the origin of a live edge shows
  pub shown-set : (vs : List ℕ) (h a : ℕ) → g (h / 2) ≡ false → shown g (slice_set vs h a) ≡ slice_set (shown g vs) h a
  shown-set vs h a live = shown_from-set 0 vs h a (rw zero-add live)

  pub shown_from-kept : (h : ℕ) (vs : List ℕ) → ((u : ℕ) → h / 2 ≤ u → g u ≡ false) → shown_from g h vs ≡ vs
  shown_from-kept h [] kept = refl
  shown_from-kept h (v ∷ vs) kept =
      rw (kept (h / 2) (omega arith)) (ap (λ z. v ∷ z) (shown_from-kept (suc h) vs (λ u past. kept u (omega (arith, past)))))

  -- where no edge is given up, all origins show
  pub shown-kept : (vs : List ℕ) → ((u : ℕ) → g u ≡ false) → shown g vs ≡ vs
  shown-kept vs kept = shown_from-kept 0 vs (λ u past. kept u)

  shown-replaced : (vs : List ℕ) (cs : List (ℕ × ℕ)) → Each (λ h v. g (h / 2) ≡ false) cs → shown g (replaced vs cs) ≡ replaced (shown g vs) cs
  shown-replaced vs [] live = refl
  shown-replaced vs (c ∷ r) live =
      shown-replaced (slice_set vs c.0 c.1) r live.1 ∙ ap (λ l. replaced l r) (shown-set vs c.0 c.1 live.0)

  -- writes to the origins of live edges show, and so do origins of edges past m, which are not given up
  pub shown-patched : (vs : List ℕ) (p : Patch ℕ) (m : ℕ) → length vs ≡ 2 * m → Each (λ h v. g (h / 2) ≡ false) p.set
      → ((u : ℕ) → m ≤ u → g u ≡ false) → shown g (patched vs p) ≡ patched (shown g vs) p
  shown-patched vs p m long live kept =
      shown_from-append 0 (replaced vs p.set) p.more
      ∙ ap (λ l. l ++ shown_from g (0 + length (replaced vs p.set)) p.more) (shown-replaced vs p.set live)
      ∙ ap (λ l. replaced (shown g vs) p.set ++ l)
      (shown_from-kept (0 + length (replaced vs p.set)) p.more (λ u past. kept u (omega (arith, past, long, length-replaced vs p.set))))

-- where the same is given up, the same shows
shown_from-same : (g g' : ℕ → Bool) → ((u : ℕ) → g' u ≡ g u) → (h : ℕ) (vs : List ℕ) → shown_from g' h vs ≡ shown_from g h vs
shown_from-same g g' same h [] = refl
shown_from-same g g' same h (v ∷ vs) = rw (same (h / 2)) (ap (λ z. cond (g (h / 2)) 0 v ∷ z) (shown_from-same g g' same (suc h) vs))

pub shown-same : (g g' : ℕ → Bool) → ((u : ℕ) → g' u ≡ g u) → (vs : List ℕ) → shown g' vs ≡ shown g vs
shown-same g g' same vs = shown_from-same g g' same 0 vs

-- and where nothing is given up, all
pub shown-none : (g : ℕ → Bool) → ((u : ℕ) → g u ≡ false) → (vs : List ℕ) → shown g vs ≡ vs
shown-none g none vs = shown_from-kept g 0 vs (λ u past. none u)
