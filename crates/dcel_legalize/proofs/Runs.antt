-- What the rule gives.
use Rattle.std.proofs.Common.{◌≡◌, ◌⊎◌, inl, inr, ℕ, zero, suc, ◌+◌, ◌<◌, ◌≤◌, Bool, List, [], ◌∷◌, ◌++◌, length, add-one, refl, sym, ap, ◌∙◌, subst, arith}
use Rattle.std.proofs.lemmas.Bool.{cases_lt}
use Rattle.dcel_maps.specs.edits.Flip.{edge_flipped}
use Rattle.dcel_maps.specs.EditLists.{EditKind, EditedBy, flip_edits}
use Rattle.dcel_maps.specs.EditLists.EditKind.{ear_cut, words_joined}
use Rattle.dcel_maps.specs.Shapes.{IsMesh, Mesh, map_of}
use Rattle.dcel_maps.specs.Words.{count_of}
use Rattle.dcel_maps.proofs.edits.Flips.{flipped_mesh}
use Rattle.dcel_maps.proofs.lists.Growing.{flip_listed}
use Rattle.dcel_maps.proofs.maps.Lists.{comes_then, extends_same}
use Rattle.dcel_maps.proofs.words.Counts.{count-append, in_either, last_or_before}
use Rattle.dcel_legalize.specs.Flipping.{EachInTurn, Ending, Follows, IsDue, IsOffered, IsSettled, IsTurn, SomeDue, edges_beside, edges_flipped}
use Rattle.dcel_legalize.specs.Flipping.Ending.{Settled, AtLimit, NoMemory}
use Rattle.dcel_legalize.specs.Flipping.Follows.{settles, skips, stops, gives_up, flips}
use Rattle.dcel_legalize.proofs.Untouched.{beside-listed, due_was, its_own, listed-beside, own-listed}

in_front : (v : ℕ) (list more : List ℕ) → 0 < count_of v list → 0 < count_of v (list ++ more)
in_front v list more found = omega (arith, found, count-append v list more)

in_back : (v : ℕ) (list more : List ℕ) → 0 < count_of v more → 0 < count_of v (list ++ more)
in_back v list more found = omega (arith, found, count-append v list more)

none_before : (x : ℕ) (before after : List ℕ) → [] ≡ before ++ (x ∷ after) → ⊥
none_before x [] after is = cc
none_before x (b ∷ before) after is = cc

-- one flip more
flip_edits-next : (n : ℕ) → flip_edits n ++ words_joined ∷ ear_cut ∷ [] ≡ flip_edits (suc n)
flip_edits-next zero = refl
flip_edits-next (suc n) = ap (λ (kinds : List EditKind). words_joined ∷ ear_cut ∷ kinds) (flip_edits-next n)

pub flips_once_more : {V DE UE F : Type 0} (n : ℕ) (old m new : Mesh V DE UE F) → EditedBy (flip_edits n) old m → EditedBy (words_joined ∷ ear_cut ∷ []) m new
    → EditedBy (flip_edits (n + 1)) old new
flips_once_more n old m new first last =
    subst (λ (kinds : List EditKind). EditedBy kinds old new) (flip_edits-next n ∙ ap flip_edits (sym (add-one n)))
    (comes_then (flip_edits n) (words_joined ∷ ear_cut ∷ []) (map_of old.shape) (map_of m.shape) (map_of new.shape) first last)

module _ {V DE UE F : Type 0} (w : List ℕ → Bool) where
  -- an edge that was not due, or stands in the list, or comes to lie beside a flipped edge, is not due at the end of a run that settles
  settled : (m : Mesh V DE UE F) (list : List ℕ) (left : ℕ) (us : List ℕ) → IsMesh m → Follows w m list left us Settled
      → (v : ℕ) → (¬ IsDue w m.shape v) ⊎ IsOffered m list us v → ¬ IsDue w (edges_flipped m us).shape v
  settled m list left us mesh (settles _ _) v (inl not) = not
  settled m list left us mesh (settles _ _) v (inr (inl found)) = absurd (omega (arith, found))
  settled m list left us mesh (settles _ _) v (inr (inr beside)) = absurd beside
  settled m list left us mesh (skips _ rest u _ _ _ undue run) v (inl not) = settled m rest left us mesh run v (inl not)
  settled m list left us mesh (skips _ rest u _ _ _ undue run) v (inr (inl found)) =
      settled m rest left us mesh run v
      (elim (last_or_before v u rest found) [
        | inl is ↦ inl (subst (λ (x : ℕ). ¬ IsDue w m.shape x) (sym is) undue)
        | inr there ↦ inr (inl there)
      ])
  settled m list left us mesh (skips _ rest u _ _ _ undue run) v (inr (inr beside)) = settled m rest left us mesh run v (inr (inr beside))
  settled m list left us mesh (flips _ rest u less more _ due run) v how =
      let n = edge_flipped m u in
      let near = edges_beside n.shape u in
      settled n (rest ++ near) less more (flipped_mesh m u mesh due.can) run v
      (elim (cases_lt 0 (count_of v near)) [
        | inl beside ↦ inr (inl (in_back v rest near beside))
        | inr not ↦ elim how [
          | inl undue ↦ inl (λ (is : IsDue w n.shape v).
              undue (due_was m mesh u due.can w v (λ lies. omega (arith, not, listed-beside m mesh u due.can v lies)) is))
          | inr (inl found) ↦ elim (last_or_before v u rest found) [
            | inl is ↦ inr (inl (in_back v rest near (own-listed n.shape u v is)))
            | inr there ↦ inr (inl (in_front v rest near there))
          ]
          | inr (inr (inl lies)) ↦ inr (inl (in_back v rest near (listed-beside m mesh u due.can v lies)))
          | inr (inr (inr later)) ↦ inr (inr later)
        ]
      ])

  pub settled-is : (m : Mesh V DE UE F) (list : List ℕ) (left : ℕ) (us : List ℕ) → IsMesh m → Follows w m list left us Settled → IsSettled w m list us
  settled-is m list left us mesh run = record {
    offered = λ v offered. settled m list left us mesh run v (inr offered);
    all = λ each v. settled m list left us mesh run v (elim (cases_lt 0 (count_of v list)) [
      | inl there ↦ inr (inl there)
      | inr not ↦ inl (λ due. omega (arith, not, each v due))
    ]);
  }

  -- a run is so many flips
  pub run_listed : (m : Mesh V DE UE F) (list : List ℕ) (left : ℕ) (us : List ℕ) (end : Ending) → IsMesh m → Follows w m list left us end
      → EditedBy (flip_edits (length us)) m (edges_flipped m us)
  run_listed m list left us end mesh (settles _ _) = extends_same (map_of m.shape)
  run_listed m list left us end mesh (skips _ rest u _ _ _ undue run) = run_listed m rest left us end mesh run
  run_listed m list left us end mesh (stops _ rest u due) = extends_same (map_of m.shape)
  run_listed m list left us end mesh (gives_up _ rest u less due) = extends_same (map_of m.shape)
  run_listed m list left us end mesh (flips _ rest u less more _ due run) =
      let n = edge_flipped m u in
      comes_then (words_joined ∷ ear_cut ∷ []) (flip_edits (length more)) (map_of m.shape) (map_of n.shape) (map_of (edges_flipped n more).shape)
      (flip_listed m mesh u n refl due.can) (run_listed n (rest ++ edges_beside n.shape u) less more end (flipped_mesh m u mesh due.can) run)

  -- no more are flipped than were allowed
  pub few : (m : Mesh V DE UE F) (list : List ℕ) (left : ℕ) (us : List ℕ) (end : Ending) → Follows w m list left us end → length us ≤ left
  few m list left us end (settles _ _) = omega arith
  few m list left us end (skips _ rest u _ _ _ undue run) = few m rest left us end run
  few m list left us end (stops _ rest u due) = omega arith
  few m list left us end (gives_up _ rest u less due) = omega arith
  few m list left us end (flips _ rest u less more _ due run) = omega (arith, few (edge_flipped m u) _ less more end run)

  -- at the limit as many are, and one more is due; without memory fewer are
  pub at_limit : (m : Mesh V DE UE F) (list : List ℕ) (left : ℕ) (us : List ℕ) → Follows w m list left us AtLimit
      → (length us ≡ left) × SomeDue w (edges_flipped m us)
  at_limit m list left us (skips _ rest u _ _ _ undue run) = at_limit m rest left us run
  at_limit m list left us (stops _ rest u due) = (refl, (u, due))
  at_limit m list left us (flips _ rest u less more _ due run) =
      let rec = at_limit (edge_flipped m u) _ less more run in (ap suc rec.0, rec.1)

  pub without_memory : (m : Mesh V DE UE F) (list : List ℕ) (left : ℕ) (us : List ℕ) → Follows w m list left us NoMemory
      → (length us < left) × SomeDue w (edges_flipped m us)
  without_memory m list left us (skips _ rest u _ _ _ undue run) = without_memory m rest left us run
  without_memory m list left us (gives_up _ rest u less due) = (omega arith, (u, due))
  without_memory m list left us (flips _ rest u less more _ due run) =
      let rec = without_memory (edge_flipped m u) _ less more run in (omega (arith, rec.0), rec.1)

  -- each was due in its turn, and came of the list or of flips before
  pub in_turn : (m : Mesh V DE UE F) (list : List ℕ) (left : ℕ) (us : List ℕ) (end : Ending) → IsMesh m → Follows w m list left us end
      → EachInTurn w m list us
  in_turn m list left us end mesh (settles _ _) before after x is = absurd (none_before x before after is)
  in_turn m list left us end mesh (stops _ rest u due) before after x is = absurd (none_before x before after is)
  in_turn m list left us end mesh (gives_up _ rest u less due) before after x is = absurd (none_before x before after is)
  in_turn m list left us end mesh (skips _ rest u _ _ _ undue run) before after x is =
      let turn = in_turn m rest left us end mesh run before after x is in
      record {
        due = turn.due;
        offered = elim turn.offered [ inl found ↦ inl (in_front x rest (u ∷ []) found) | inr beside ↦ inr beside ];
      }
  in_turn m list left us end mesh (flips _ rest u less more _ due run) [] after x is =
      let same : x ≡ u = cc in
      record {
        due = subst (λ (y : ℕ). IsDue w m.shape y) (sym same) due;
        offered = inl (in_back x rest (u ∷ []) (its_own x u [] same));
      }
  in_turn m list left us end mesh (flips _ rest u less more _ due run) (b ∷ before) after x is =
      let same : u ≡ b = cc in
      let later : more ≡ before ++ (x ∷ after) = cc in
      let n = edge_flipped m u in
      let turn = in_turn n (rest ++ edges_beside n.shape u) less more end (flipped_mesh m u mesh due.can) run before after x later in
      subst (λ (y : ℕ). IsTurn w m list (y ∷ before) x) same record {
        due = turn.due;
        offered = elim turn.offered [
          | inl found ↦ elim (in_either x rest (edges_beside n.shape u) found) [
            | inl there ↦ inl (in_front x rest (u ∷ []) there)
            | inr near ↦ inr (inl (beside-listed m mesh u due.can x near))
          ]
          | inr beside ↦ inr (inr beside)
        ];
      }
