-- The writes that mend what pointed at an edge that has moved.
use Rattle.std.proofs.Common.{◌≡◌, ◌≢◌, ◌⊎◌, inl, inr, ℕ, ◌-◌, ◌*◌, ◌/◌, ◌<◌, true, List, [], ◌∷◌, length, map, fold, option_map, slice_index, slice_index_or, slice_set, Option, None, refl, sym, ap, ◌∙◌, subst, arith, Some, cond, ◌==◌, zero, suc, eq-eqb}
use Rattle.dcel_maps.proofs.maps.Soundness.{rev_live}
use Rattle.dcel_maps.proofs.maps.Halves.{rev_or_same}
use Rattle.dcel_edits.specs.TakingOut.{anchor_renamed}
use Rattle.dcel_maps.specs.Removals.{is_this}
use Rattle.dcel_fixed.specs.HalfEdges.{rev}
use Rattle.std.specs.Prelude.{unwrap_or}
use Rattle.std.proofs.lemmas.Bool.{cases_eq, both_ways, cases_Bool, false≢true, ne_eqb}
use Rattle.std.proofs.lemmas.List.{ext_get_or, get_or-map, get_or-set_other, get_or-set_same, length-map, length-set}
use Rattle.dcel_maps.specs.Maps.{Live, Map}
use Rattle.dcel_maps.specs.Renumbering.{half_of, last_put, moved}
use Rattle.dcel_maps.specs.Words.{count_of}
use Rattle.dcel_maps.specs.theory.Sound.{Sound}
use Rattle.dcel_maps.proofs.renumbering.LastPut.{length-last_put}
use Rattle.dcel_maps.proofs.renumbering.Moves.{half_of-back, half_of-bit, half_of-half, last_put-half, moved-back, moved-below, moved-last, moved-other, half_of-rev}
use Rattle.dcel_maps.proofs.words.Counts.{count-later, count-same, first_or_later}

-- the list l, with the new number of link k at the new number of k, for each k of a list
abbrev pub mended : (ℕ → ℕ) → (ℕ → ℕ) → List ℕ → List ℕ → List ℕ
mended half link l ks = fold (λ l k. slice_set l (half k) (half (link k))) l ks

module _ (P : ℕ → Type 0) (half link : ℕ → ℕ) (apart : (j k : ℕ) → P j → P k → half j ≡ half k → j ≡ k) where
  -- one write leaves a right link right, and makes that of k right
  one_write : (l : List ℕ) (j k : ℕ) → P j → P k → half k < length l → (j ≡ k) ⊎ (slice_index l (half j) ≡ half (link j))
      → slice_index (slice_set l (half k) (half (link k))) (half j) ≡ half (link j)
  one_write l j k is_j is_k within right = elim (cases_eq (half j) (half k)) [
    | inl same ↦
        ap (slice_index (slice_set l (half k) (half (link k)))) same ∙ get_or-set_same l (half k) (half (link k)) 0 within
        ∙ ap (λ x. half (link x)) (sym (apart j k is_j is_k same))
    | inr differs ↦
        get_or-set_other l (half k) (half j) (half (link k)) 0 differs
        ∙ elim right [ inl same ↦ absurd (differs (ap half same)) | inr is ↦ is ]
  ]

  -- all writes leave each link right that was right, or is written
  pub mended-right : (l : List ℕ) (ks : List ℕ) → ((k : ℕ) → 0 < count_of k ks → P k × (half k < length l)) → (j : ℕ) → P j
      → (0 < count_of j ks) ⊎ (slice_index l (half j) ≡ half (link j)) → slice_index (mended half link l ks) (half j) ≡ half (link j)
  mended-right l [] each j is_j right = elim right [ inl none ↦ absurd (omega (arith, none)) | inr is ↦ is ]
  mended-right l (k ∷ ks) each j is_j right =
      let first = each k (omega (arith, count-same k ks)) in
      let rest : (i : ℕ) → 0 < count_of i ks → P i × (half i < length (slice_set l (half k) (half (link k)))) =
      λ i found. let is = each i (count-later i k ks found) in (is.0, omega (arith, is.1, length-set l (half k) (half (link k)))) in
      mended-right (slice_set l (half k) (half (link k))) ks rest j is_j
      (elim right [
        | inl found ↦ elim (first_or_later j k ks found) [
          | inl same ↦ inr (one_write l j k is_j first.0 first.1 (inl same))
          | inr later ↦ inl later
        ]
        | inr is ↦ inr (one_write l j k is_j first.0 first.1 (inr is))
      ])

-- half edges of other edges than the last keep their numbers
pub half-kept : (last d h : ℕ) → h / 2 ≢ last → half_of (moved last d) h ≡ h
half-kept last d h other =
    let whole = half_of-half (moved last d) h ∙ moved-other last d (h / 2) other in
    omega (arith, whole, half_of-bit (moved last d) h)

-- S is a sound map of n edges in which edge d is not live, and links are what is stored of its half edges
module _ (S : Map) (n d : ℕ) (edges : S.edges ≡ n) (below : d < n) (out : (h : ℕ) → Live S h → h / 2 ≢ d) (sound : Sound S)
    (link : ℕ → ℕ) (links : List ℕ) (long : length links ≡ 2 * n) (are : (h : ℕ) → Live S h → slice_index links h ≡ link h) where
  abbrev half : ℕ → ℕ
  half = half_of (moved (n - 1) d)

  half-apart : (j k : ℕ) → Live S j → Live S k → half j ≡ half k → j ≡ k
  half-apart j k live_j live_k same =
      let undo : (h : ℕ) → Live S h → half_of (moved d (n - 1)) (half h) ≡ h =
      λ h live. half_of-back (moved (n - 1) d) (moved d (n - 1)) h (moved-back (n - 1) d (h / 2) (out h live)) in
      sym (undo j live_j) ∙ ap (half_of (moved d (n - 1))) same ∙ undo k live_k

  within : (h : ℕ) → Live S h → half h < length (last_put 2 links (2 * d))
  within h live =
      let whole = half_of-half (moved (n - 1) d) h in
      let under = sound.below_edges h live in
      let is = moved-below (n - 1) d (h / 2) (omega (arith, below)) (omega (arith, under, edges)) (out h live) in
      omega (arith, whole, is, long, length-last_put 2 links (2 * d))

  -- where neither a half edge nor its link is a half of the last edge, its link is right from the start
  right_before : (h : ℕ) → Live S h → link h / 2 ≢ n - 1 → slice_index (last_put 2 links (2 * d)) (half h) ≡ half (link h)
  right_before h live apart =
      let under : h / 2 < n = omega (arith, sound.below_edges h live, edges) in
      last_put-half 0 links n d h long below under (out h live) ∙ are h live ∙ sym (half-kept (n - 1) d (link h) apart)

  -- the halves of the last edge and those that lead to them are written
  pub links-mended : (ks : List ℕ) → ((k : ℕ) → 0 < count_of k ks → Live S k)
      → ((h : ℕ) → Live S h → link h / 2 ≡ n - 1 → 0 < count_of h ks)
      → (h : ℕ) → Live S h → slice_index (mended half link (last_put 2 links (2 * d)) ks) (half h) ≡ half (link h)
  links-mended ks each all h live =
      mended-right (Live S) half link half-apart (last_put 2 links (2 * d)) ks (λ k found. (each k found, within k (each k found))) h live
      (elim (cases_eq (link h / 2) (n - 1)) [
        | inl last ↦ inl (all h live last)
        | inr apart ↦ inr (right_before h live apart)
      ])

  -- two writes do: where back undoes the link, they name the halves of the last edge by their new numbers
  pub two-mended : (back : ℕ → ℕ) → ((h : ℕ) → Live S h → Live S (back h)) → ((h : ℕ) → Live S h → link (back h) ≡ h)
      → ((h : ℕ) → Live S h → back (link h) ≡ h) → S.edge (n - 1) ≡ true → (h : ℕ) → Live S h
      → slice_index (slice_set (slice_set (last_put 2 links (2 * d)) (half (back (2 * (n - 1)))) (2 * d)) (half (back (rev (2 * (n - 1))))) (rev (2 * d))) (half h)
      ≡ half (link h)
  two-mended back comes link-back back-link last_live h live =
      let a : ℕ = 2 * (n - 1) in
      let b : ℕ = rev (2 * (n - 1)) in
      let edge_a : a / 2 ≡ n - 1 = omega arith in
      let live_a : Live S a = ap S.edge edge_a ∙ last_live in
      let live_b : Live S b = rev_live S a live_a in
      let a_moved : half a ≡ 2 * d =
      let whole = half_of-half (moved (n - 1) d) a ∙ ap (moved (n - 1) d) edge_a ∙ moved-last (n - 1) d in
      omega (arith, whole, half_of-bit (moved (n - 1) d) a) in
      let new_a : half (link (back a)) ≡ 2 * d = ap half (link-back a live_a) ∙ a_moved in
      let new_b : half (link (back b)) ≡ rev (2 * d) =
      ap half (link-back b live_b) ∙ sym (half_of-rev (moved (n - 1) d) a) ∙ ap rev a_moved in
      let ks : List ℕ = back a ∷ back b ∷ [] in
      let each : (k : ℕ) → 0 < count_of k ks → Live S k =
      λ k found. elim (first_or_later k (back a) (back b ∷ []) found) [
        | inl same ↦ subst (Live S) (sym same) (comes a live_a)
        | inr later ↦ elim (first_or_later k (back b) [] later) [
          | inl same ↦ subst (Live S) (sym same) (comes b live_b)
          | inr none ↦ absurd (omega (arith, none))
        ]
      ] in
      let all : (k : ℕ) → Live S k → link k / 2 ≡ n - 1 → 0 < count_of k ks =
      λ k live_k names. elim (rev_or_same (link k) a (names ∙ sym edge_a)) [
        | inl first ↦
            let is : k ≡ back a = sym (back-link k live_k) ∙ ap back first in
            subst (λ z. 0 < count_of z ks) (sym is) (omega (arith, count-same (back a) (back b ∷ [])))
        | inr second ↦
            let is : k ≡ back b = sym (back-link k live_k) ∙ ap back second in
            subst (λ z. 0 < count_of z ks) (sym is) (count-later (back b) (back a) (back b ∷ []) (omega (arith, count-same (back b) [])))
      ] in
      ap (λ v. slice_index (slice_set (slice_set (last_put 2 links (2 * d)) (half (back a)) v) (half (back b)) (rev (2 * d))) (half h)) (sym new_a)
      ∙ ap (λ v. slice_index (slice_set (slice_set (last_put 2 links (2 * d)) (half (back a)) (half (link (back a)))) (half (back b)) v) (half h)) (sym new_b)
      ∙ links-mended ks each all h live

-- an anchor under another name
abbrev pub renamed_anchor : ℕ → ℕ → Option ℕ → Option ℕ
renamed_anchor old new None = None
renamed_anchor old new (Some h) = cond (h == old) (Some new) (Some h)

-- where no other anchor names it, all that name it are renamed
pub anchor_renamed-map : (anchors : List (Option ℕ)) (v old new : ℕ) → v < length anchors
    → ((k : ℕ) → slice_index_or anchors k None ≡ Some old → k ≡ v) → anchor_renamed anchors v old new ≡ map (renamed_anchor old new) anchors
anchor_renamed-map anchors v old new within only =
    let same_length = length-map anchors (renamed_anchor old new) in
    elim (cases_Bool (is_this old (slice_index_or anchors v None))) [
      | inl named ↦
          rw named (ext_get_or None (slice_set anchors v (Some new)) (map (renamed_anchor old new) anchors)
          (length-set anchors v (Some new) ∙ sym same_length) (λ k below.
          let k_in : k < length anchors = omega (arith, below, length-set anchors v (Some new)) in
          elim (cases_eq k v) [
            | inl here ↦
                rw here (get_or-set_same anchors v (Some new) None within
                ∙ sym (get_or-map (renamed_anchor old new) anchors v None None within ∙ renames (slice_index_or anchors v None) named))
            | inr other ↦
                get_or-set_other anchors v k (Some new) None other
                ∙ sym (get_or-map (renamed_anchor old new) anchors k None None k_in ∙ keeps (slice_index_or anchors k None) (λ names. other (only k names)))
          ]))
      | inr not ↦
          rw not (ext_get_or None anchors (map (renamed_anchor old new) anchors) (sym same_length) (λ k k_in.
          sym (get_or-map (renamed_anchor old new) anchors k None None k_in
          ∙ keeps (slice_index_or anchors k None) (λ names.
          let at : slice_index_or anchors v None ≡ Some old = ap (λ i. slice_index_or anchors i None) (sym (only k names)) ∙ names in
          both_ways (is_this old (slice_index_or anchors v None)) not (rw at (eq-eqb old old refl))))))
    ]
  where
    renames : (o : Option ℕ) → is_this old o ≡ true → renamed_anchor old new o ≡ Some new
    renames None named = absurd (false≢true named)
    renames (Some h) named = rw named refl

    keeps : (o : Option ℕ) → (o ≢ Some old) → renamed_anchor old new o ≡ o
    keeps None other = refl
    keeps (Some h) other = rw (ne_eqb h old (λ same. other (ap (λ (k : ℕ). Some k) same))) refl

-- what becomes of each anchor
anchor-at : (f : Option ℕ → Option ℕ) → f None ≡ None → (anchors : List (Option ℕ)) (k : ℕ)
    → slice_index_or (map f anchors) k None ≡ f (slice_index_or anchors k None)
anchor-at f none [] k = sym none
anchor-at f none (o ∷ anchors) zero = refl
anchor-at f none (o ∷ anchors) (suc k) = anchor-at f none anchors k

module _ (half : ℕ → ℕ) (a b : ℕ) (apart : half a ≢ b) where
  -- the second rename leaves the first
  twice : (o : Option ℕ) → ((h : ℕ) → o ≡ Some h → h ≢ a → h ≢ b → half h ≡ h)
      → renamed_anchor b (half b) (renamed_anchor a (half a) o) ≡ option_map half o
  twice None others = refl
  twice (Some h) others = elim (cases_eq h a) [
    | inl first ↦ rw (first, eq-eqb a a refl, ne_eqb (half a) b apart) refl
    | inr not_a ↦ rw (ne_eqb h a not_a) (elim (cases_eq h b) [
      | inl second ↦ rw (second, eq-eqb b b refl) refl
      | inr not_b ↦ rw (ne_eqb h b not_b) (ap (λ (k : ℕ). Some k) (sym (others h refl not_a not_b)))
    ])
  ]

  named_before : (o : Option ℕ) → renamed_anchor a (half a) o ≡ Some b → o ≡ Some b
  named_before None names = names
  named_before (Some h) names = elim (cases_eq h a) [
    | inl first ↦
        let is : Some (half a) ≡ Some b = rw (first, eq-eqb a a refl) at names in absurd (apart (ap (λ o. unwrap_or o 0) is))
    | inr other ↦ rw (ne_eqb h a other) at names
  ]

  -- anchors that name the half edges a and b of the last edge are renamed, each at the one place where it is named
  pub anchors-mended : (anchors : List (Option ℕ)) (v w : ℕ) → v < length anchors → w < length anchors
      → ((k : ℕ) → slice_index_or anchors k None ≡ Some a → k ≡ v) → ((k : ℕ) → slice_index_or anchors k None ≡ Some b → k ≡ w)
      → ((k h : ℕ) → slice_index_or anchors k None ≡ Some h → h ≢ a → h ≢ b → half h ≡ h)
      → anchor_renamed (anchor_renamed anchors v a (half a)) w b (half b) ≡ map (option_map half) anchors
  anchors-mended anchors v w v_in w_in at_v at_w others =
      let once : List (Option ℕ) = map (renamed_anchor a (half a)) anchors in
      let long = length-map anchors (renamed_anchor a (half a)) in
      let both = length-map once (renamed_anchor b (half b)) in
      let mapped = length-map anchors (option_map half) in
      let at = anchor-at (renamed_anchor a (half a)) refl anchors in
      ap (λ l. anchor_renamed l w b (half b)) (anchor_renamed-map anchors v a (half a) v_in at_v)
      ∙ anchor_renamed-map once w b (half b) (omega (arith, w_in, long))
      (λ k names. at_w k (named_before (slice_index_or anchors k None) (sym (at k) ∙ names)))
      ∙ ext_get_or None (map (renamed_anchor b (half b)) once) (map (option_map half) anchors) (both ∙ long ∙ sym mapped) (λ k below.
      anchor-at (renamed_anchor b (half b)) refl once k ∙ ap (renamed_anchor b (half b)) (at k)
      ∙ twice (slice_index_or anchors k None) (others k)
      ∙ sym (anchor-at (option_map half) refl anchors k))
