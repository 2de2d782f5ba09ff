-- A run that is under way: what has been flipped, and what is left to do.
use Rattle.std.proofs.Common.{◌≡◌, ℕ, suc, ◌+◌, ◌-◌, ◌<◌, Bool, List, [], ◌∷◌, ◌++◌, length, refl, sym, ap, ◌∙◌, subst, append_assoc, append-nil, length-append, arith}
use Rattle.dcel_maps.specs.edits.Flip.{edge_flipped}
use Rattle.dcel_maps.specs.Shapes.{IsMesh, Mesh}
use Rattle.dcel_legalize.specs.Outcome.{Ends, IsLegalized, ending_told, flips_told}
use Rattle.dcel_legalize.specs.Flipping.{Ending, Follows, IsDue, edges_beside, edges_flipped}
use Rattle.dcel_legalize.specs.Flipping.Ending.{Settled, AtLimit, NoMemory}
use Rattle.dcel_legalize.specs.Flipping.Follows.{settles, skips, stops, gives_up, flips}
use Rattle.dcel_legalize.specs.declared.legalized.Legalized.{Legalized}
use Rattle.dcel_legalize.specs.declared.legalized.Legalized.TheVariants.{Done, Stopped, OutOfMemory}
use Rattle.dcel_legalize.proofs.Runs.{at_limit, few, in_turn, settled-is, without_memory}

module _ {V DE UE F : Type 0} where
  -- some flips and then others
  pub flipped-append : (m : Mesh V DE UE F) (us vs : List ℕ) → edges_flipped m (us ++ vs) ≡ edges_flipped (edges_flipped m us) vs
  flipped-append m [] vs = refl
  flipped-append m (u ∷ us) vs = flipped-append (edge_flipped m u) us vs

  -- so many flips of `max` are made, which lead from m to n, and what the rule makes of n and the rest completes the run
  pub record IsUnderWay (w : List ℕ → Bool) (m : Mesh V DE UE F) (list : List ℕ) (max : ℕ) (n : Mesh V DE UE F) (rest : List ℕ) (made : ℕ) : Type 0 where
    pub turned : List ℕ
    pub mesh : n ≡ edges_flipped m turned
    pub many : length turned ≡ made
    pub then : (us : List ℕ) (end : Ending) → Follows w n rest (max - made) us end → Follows w m list max (turned ++ us) end

  module _ (w : List ℕ → Bool) (m : Mesh V DE UE F) (list : List ℕ) (max : ℕ) where
    pub begins : IsUnderWay w m list max m list 0
    begins = record {
      turned = [];
      mesh = refl;
      many = refl;
      then = λ us end run. let all : max - 0 ≡ max = omega arith in subst (λ (k : ℕ). Follows w m list k us end) all run;
    }

    module _ (n : Mesh V DE UE F) (rest : List ℕ) (made u : ℕ) (way : IsUnderWay w m list max n (rest ++ u ∷ []) made) where
      -- the last edge is skipped
      pub passes : ¬ IsDue w n.shape u → IsUnderWay w m list max n rest made
      passes undue = record {
        turned = way.turned;
        mesh = way.mesh;
        many = way.many;
        then = λ us end run. way.then us end (skips n rest u (max - made) us end undue run);
      }

      -- it is flipped
      pub turns : made < max → IsDue w n.shape u
          → IsUnderWay w m list max (edge_flipped n u) (rest ++ edges_beside (edge_flipped n u).shape u) (made + 1)
      turns less due = record {
        turned = way.turned ++ (u ∷ []);
        mesh = ap (λ k. edge_flipped k u) way.mesh ∙ sym (flipped-append m way.turned (u ∷ []));
        many = length-append way.turned (u ∷ []) ∙ omega (arith, way.many);
        then = λ us end run.
            let one_less : suc (max - (made + 1)) ≡ max - made = omega (arith, less) in
            subst (λ (l : List ℕ). Follows w m list max l end) (sym (append_assoc way.turned (u ∷ []) us))
            (way.then (u ∷ us) end
            (subst (λ (k : ℕ). Follows w n (rest ++ u ∷ []) k (u ∷ us) end) one_less (flips n rest u (max - (made + 1)) us end due run)));
      }

    module _ (mesh : IsMesh m) (n : Mesh V DE UE F) (rest : List ℕ) (made : ℕ) (way : IsUnderWay w m list max n rest made) where
      run : (end : Ending) → Follows w n rest (max - made) [] end → Follows w m list max way.turned end
      run end last = subst (λ (l : List ℕ). Follows w m list max l end) (append-nil way.turned) (way.then [] end last)

      answers : (answer : Legalized) → flips_told answer ≡ made → (whole : Follows w m list max way.turned (ending_told answer))
          → Ends w m list max way.turned answer → IsLegalized w m list max answer n
      answers answer told whole ends = record {
        turned = way.turned;
        rule = whole;
        mesh = way.mesh;
        number = told ∙ sym way.many;
        few = few w m list max way.turned (ending_told answer) whole;
        in_turn = in_turn w m list max way.turned (ending_told answer) mesh whole;
        ends = ends;
      }

      pub done : rest ≡ [] → IsLegalized w m list max (Done made) n
      done none =
          let whole : Follows w m list max way.turned Settled =
          run Settled (subst (λ (l : List ℕ). Follows w n l (max - made) [] Settled) (sym none) (settles n (max - made))) in
          answers (Done made) refl whole (settled-is w m list max way.turned mesh whole)

      pub stopped : (front : List ℕ) (u : ℕ) → rest ≡ front ++ u ∷ [] → made ≡ max → IsDue w n.shape u → IsLegalized w m list max (Stopped made) n
      stopped front u is at due =
          let none : 0 ≡ max - made = omega (arith, at) in
          let last : Follows w n (front ++ u ∷ []) (max - made) [] AtLimit =
          subst (λ (k : ℕ). Follows w n (front ++ u ∷ []) k [] AtLimit) none (stops n front u due) in
          let whole : Follows w m list max way.turned AtLimit =
          run AtLimit (subst (λ (l : List ℕ). Follows w n l (max - made) [] AtLimit) (sym is) last) in
          answers (Stopped made) refl whole (at, (at_limit w m list max way.turned whole).1)

      pub out_of_memory : (front : List ℕ) (u : ℕ) → rest ≡ front ++ u ∷ [] → made < max → IsDue w n.shape u
          → IsLegalized w m list max (OutOfMemory made) n
      out_of_memory front u is less due =
          let some : suc (max - (made + 1)) ≡ max - made = omega (arith, less) in
          let last : Follows w n (front ++ u ∷ []) (max - made) [] NoMemory =
          subst (λ (k : ℕ). Follows w n (front ++ u ∷ []) k [] NoMemory) some (gives_up n front u (max - (made + 1)) due) in
          let whole : Follows w m list max way.turned NoMemory =
          run NoMemory (subst (λ (l : List ℕ). Follows w n l (max - made) [] NoMemory) (sym is) last) in
          answers (OutOfMemory made) refl whole (less, (without_memory w m list max way.turned whole).1)
