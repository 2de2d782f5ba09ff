-- Faces are numbered one by one, level by level.
use Rattle.std.proofs.Common.{◌≡◌, inl, inr, ℕ, zero, suc, ◌+◌, ◌-◌, ◌/◌, ◌^◌, ◌<◌, ◌≤◌, List, [], ◌∷◌, ◌++◌, length, get_or, set, replicate, Option, Some, None, slice_get, refl, sym, ap, ◌∙◌, subst, arith}
use Rattle.std.specs.Prelude.{slice_index}
use Rattle.std.proofs.lemmas.Bool.{cases_eq}
use Rattle.std.proofs.lemmas.List.{get_or-set_other, get_or-set_same, length-append, length-replicate, length-set}
use Rattle.std.proofs.lemmas.Option.{slice_get-get_or}
use Rattle.dcel_fixed.specs.HalfEdges.{rev}
use Rattle.dcel_maps.specs.Shapes.{IsLive, IsMesh, Mesh, face_count, face_of}
use Rattle.dcel_maps.specs.Walking.{IsOnFace, ListsOnce, in_mesh}
use Rattle.dcel_maps.specs.Words.{count_of, total_length, word_of}
use Rattle.dcel_maps.proofs.walks.Links.{half-below, links_stand}
use Rattle.dcel_maps.proofs.words.Counts.{count-append, count-same, in_either, last_or_before}
use Rattle.dcel_regions.specs.declared.mark.Mark.{Mark}
use Rattle.dcel_regions.specs.declared.mark.Mark.TheVariants.{Constraint, Free}
use Rattle.dcel_regions.specs.Marked.{IsMarked}
use Rattle.dcel_regions.specs.Numbering.{IsNumbered, IsSettled, IsUnderWay, faces_over, unseen, work}
use Rattle.dcel_regions.specs.Regions.{IsReached}
use Rattle.dcel_regions.specs.Regions.IsReached.{outside, over_free, over_marked}
use Rattle.dcel_regions.proofs.Over.{over_few, over_from, over_to}
use Rattle.dcel_regions.proofs.Reached.{reached_within}

-- no face is numbered at first
no_number : (n f : ℕ) → slice_index (replicate n 0) f ≡ 0
no_number zero f = refl
no_number (suc n) zero = refl
no_number (suc n) (suc f) = no_number n f

all_unseen : (words : List (List ℕ)) → unseen words (replicate (length words) 0) ≡ total_length words
all_unseen [] = refl
all_unseen (w ∷ words) = ap (λ (n : ℕ). length w + n) (all_unseen words)

-- a face that gets a number is seen from then on
pub seen : (words : List (List ℕ)) (numbers : List ℕ) (f k : ℕ) → length numbers ≡ length words → f < length words → get_or numbers f 0 ≡ 0
    → unseen words (set numbers f (suc k)) + length (word_of words f) ≡ unseen words numbers
seen [] numbers f k same below none = absurd (omega (arith, below))
seen (w ∷ words) [] f k same below none = absurd (omega (arith, same))
seen (w ∷ words) (zero ∷ numbers) zero k same below none = omega arith
seen (w ∷ words) (suc n ∷ numbers) zero k same below none = absurd (cc)
seen (w ∷ words) (zero ∷ numbers) (suc f) k same below none =
    let rest = seen words numbers f k (omega (arith, same)) (omega (arith, below)) none in omega (arith, rest)
seen (w ∷ words) (suc n ∷ numbers) (suc f) k same below none = seen words numbers f k (omega (arith, same)) (omega (arith, below)) none

-- a face that lies on no list any more has its number
settled_skips : (level : ℕ) (numbers due beyond : List ℕ) (f g n : ℕ) → 0 < get_or numbers f 0 → get_or numbers f 0 ≤ suc level
    → IsSettled level numbers (due ++ f ∷ []) beyond g n → IsSettled level numbers due beyond g n
settled_skips level numbers due beyond f g n some below (inl numbered) = inl numbered
settled_skips level numbers due beyond f g n some below (inr (inr next)) = inr (inr next)
settled_skips level numbers due beyond f g n some below (inr (inl (listed, few))) = elim (last_or_before g f due listed) [
  | inl is ↦ inl (subst (λ (i : ℕ). (0 < get_or numbers i 0) × (get_or numbers i 0 ≤ suc n)) (sym is) (some, omega (arith, below, few)))
  | inr before ↦ inr (inl (before, few))
]

settled_enters : (level : ℕ) (numbers due beyond more further : List ℕ) (f g n : ℕ) → f < length numbers → get_or numbers f 0 ≡ 0
    → IsSettled level numbers (due ++ f ∷ []) beyond g n → IsSettled level (set numbers f (suc level)) (due ++ more) (beyond ++ further) g n
settled_enters level numbers due beyond more further f g n within none (inl (some, few)) =
    let other = get_or-set_other numbers f g (suc level) 0 (λ is. let same = ap (λ (i : ℕ). get_or numbers i 0) is in omega (arith, some, same, none)) in
    inl (omega (arith, some, other), omega (arith, few, other))
settled_enters level numbers due beyond more further f g n within none (inr (inr (listed, few))) =
    inr (inr (omega (arith, listed, count-append g beyond further), few))
settled_enters level numbers due beyond more further f g n within none (inr (inl (listed, few))) = elim (last_or_before g f due listed) [
  | inl is ↦
      let at = get_or-set_same numbers f (suc level) 0 within in
      inl (subst (λ (i : ℕ). (0 < get_or (set numbers f (suc level)) i 0) × (get_or (set numbers f (suc level)) i 0 ≤ suc n)) (sym is) (omega (arith, at), omega (arith, at, few)))
  | inr before ↦ inr (inl (omega (arith, before, count-append g due more), few))
]

settled_rises : (level : ℕ) (numbers beyond : List ℕ) (g n : ℕ) → IsSettled level numbers [] beyond g n → IsSettled (suc level) numbers beyond [] g n
settled_rises level numbers beyond g n (inl numbered) = inl numbered
settled_rises level numbers beyond g n (inr (inl (listed, few))) = absurd (omega (arith, listed))
settled_rises level numbers beyond g n (inr (inr next)) = inr (inl next)

settled_ends : (level : ℕ) (numbers : List ℕ) (g n : ℕ) → IsSettled level numbers [] [] g n → (0 < get_or numbers g 0) × (get_or numbers g 0 ≤ suc n)
settled_ends level numbers g n (inl numbered) = numbered
settled_ends level numbers g n (inr (inl (listed, few))) = absurd (omega (arith, listed))
settled_ends level numbers g n (inr (inr (listed, few))) = absurd (omega (arith, listed))

free_else : (o : Option Mark) → ¬ (o ≡ None) → ¬ (o ≡ Some Constraint) → o ≡ Some Free
free_else None some not = absurd (some refl)
free_else (Some Free) some not = refl
free_else (Some Constraint) some not = absurd (not refl)

module _ {V DE F : Type 0} (m : Mesh V DE Mark F) where
  -- an edge that isn't marked is free
  free_there : IsMesh m → (h : ℕ) → IsLive m.shape h → ¬ IsMarked m (h / 2) → slice_get m.undirected_data (h / 2) ≡ Some Free
  free_there mesh h live not =
      let within : h / 2 < length m.undirected_data = omega (arith, half-below m.shape h live, mesh.sized.undirected_data) in
      let some = slice_get-get_or m.undirected_data (h / 2) Free within in
      free_else (slice_get m.undirected_data (h / 2)) (λ none. absurd (cc)) not

  -- at first the outer face is due, and has no number
  pub begins : IsMesh m → (numbers due beyond : List ℕ) → numbers ≡ replicate (face_count m.shape) 0 → due ≡ 0 ∷ [] → beyond ≡ [] → IsUnderWay m 0 numbers due beyond
  begins mesh numbers due beyond none first empty =
      subst (λ (l : List ℕ). IsUnderWay m 0 l due beyond) (sym none) (subst (λ (l : List ℕ). IsUnderWay m 0 (replicate (face_count m.shape) 0) l beyond) (sym first)
      (subst (λ (l : List ℕ). IsUnderWay m 0 (replicate (face_count m.shape) 0) (0 ∷ []) l) (sym empty) record {
        many = length-replicate (face_count m.shape) 0;
        reached = λ f k is. absurd (let zero_is = no_number (face_count m.shape) f in omega (arith, is, zero_is));
        below = λ f. omega (arith, no_number (face_count m.shape) f);
        reached_now = λ f listed. elim (last_or_before f 0 [] listed) [
          | inl is ↦ subst (λ (g : ℕ). IsReached m g 0) (sym is) outside
          | inr before ↦ absurd (omega (arith, before))
        ];
        reached_next = λ f listed. absurd (omega (arith, listed));
        outer = inr (inl (omega arith, omega arith));
        free = λ h k live not is. absurd (let zero_is = no_number (face_count m.shape) (face_of m.shape h) in omega (arith, is, zero_is));
        marked = λ h k live not is. absurd (let zero_is = no_number (face_count m.shape) (face_of m.shape h) in omega (arith, is, zero_is));
        few = omega (arith, all_unseen m.shape.words, (links_stand mesh.sound).short, mesh.sized.few_edges);
      }))

  module _ (level : ℕ) (numbers due beyond : List ℕ) (f : ℕ) (way : IsUnderWay m level numbers (due ++ f ∷ []) beyond) where
    shorter : length (due ++ f ∷ []) ≡ length due + 1
    shorter = length-append due (f ∷ [])

    -- the face was numbered before
    pub skips : 0 < get_or numbers f 0 → IsUnderWay m level numbers due beyond
    skips some = record {
      many = way.many;
      reached = way.reached;
      below = way.below;
      reached_now = λ g listed. way.reached_now g (omega (arith, listed, count-append g due (f ∷ [])));
      reached_next = way.reached_next;
      outer = settled_skips level numbers due beyond f 0 0 some (way.below f) way.outer;
      free = λ h k live not is. settled_skips level numbers due beyond f (face_of m.shape (rev h)) k some (way.below f) (way.free h k live not is);
      marked = λ h k live is_marked is. settled_skips level numbers due beyond f (face_of m.shape (rev h)) (suc k) some (way.below f) (way.marked h k live is_marked is);
      few = omega (arith, way.few, shorter);
    }

    pub skips_less : work m.shape.words numbers due beyond < work m.shape.words numbers (due ++ f ∷ []) beyond
    skips_less = omega (arith, shorter)

    pub due_reached : IsReached m f level
    due_reached = way.reached_now f (omega (arith, count-append f due (f ∷ []), count-same f []))

    module _ (mesh : IsMesh m) where
      pub due_within : f < length numbers
      due_within = omega (arith, reached_within m mesh f level due_reached, way.many)

      module _ (none : get_or numbers f 0 ≡ 0) (edges : List ℕ) (each : ListsOnce (IsOnFace m.shape f) edges) (long : length edges ≡ length (word_of m.shape.words f)) where
        abbrev free_over : List ℕ
        free_over = faces_over Free (in_mesh m edges)

        abbrev marked_over : List ℕ
        marked_over = faces_over Constraint (in_mesh m edges)

        abbrev after : List ℕ
        after = set numbers f (suc level)

        at_face : get_or after f 0 ≡ suc level
        at_face = get_or-set_same numbers f (suc level) 0 due_within

        elsewhere : (g : ℕ) → ¬ (g ≡ f) → get_or after g 0 ≡ get_or numbers g 0
        elsewhere g differs = get_or-set_other numbers f g (suc level) 0 differs

        settles : (g n : ℕ) → IsSettled level numbers (due ++ f ∷ []) beyond g n → IsSettled level after (due ++ free_over) (beyond ++ marked_over) g n
        settles = λ g n. settled_enters level numbers due beyond free_over marked_over f g n due_within none

        on_face : (h : ℕ) → 0 < count_of h edges → IsOnFace m.shape f h
        on_face h listed = each.no_other h listed

        after_reached : (g k : ℕ) → get_or after g 0 ≡ suc k → IsReached m g k
        after_reached g k is = elim (cases_eq g f) [
          | inl same ↦
              let at : get_or after g 0 ≡ suc level = ap (λ (i : ℕ). get_or after i 0) same ∙ at_face in
              let number : level ≡ k = omega (arith, at, is) in
              subst (λ (n : ℕ). IsReached m g n) number (subst (λ (i : ℕ). IsReached m i level) (sym same) due_reached)
          | inr differs ↦ way.reached g k (sym (elsewhere g differs) ∙ is)
        ]

        after_below : (g : ℕ) → get_or after g 0 ≤ suc level
        after_below g = elim (cases_eq g f) [
          | inl same ↦ let at : get_or after g 0 ≡ suc level = ap (λ (i : ℕ). get_or after i 0) same ∙ at_face in omega (arith, at)
          | inr differs ↦ omega (arith, elsewhere g differs, way.below g)
        ]

        free_reached : (g : ℕ) → 0 < count_of g free_over → IsReached m g level
        free_reached g listed =
            let over = over_from m Free edges g listed in
            let lies = on_face over.half over.listed in
            subst (λ (i : ℕ). IsReached m i level) over.face
            (over_free over.half lies.live (λ marked. let free = over.with_mark in let is : Some Free ≡ Some Constraint = sym free ∙ marked in absurd cc)
            (subst (λ (i : ℕ). IsReached m i level) (sym lies.face) due_reached))

        marked_reached : (g : ℕ) → 0 < count_of g marked_over → IsReached m g (suc level)
        marked_reached g listed =
            let over = over_from m Constraint edges g listed in
            let lies = on_face over.half over.listed in
            subst (λ (i : ℕ). IsReached m i (suc level)) over.face
            (over_marked over.half lies.live over.with_mark (subst (λ (i : ℕ). IsReached m i level) (sym lies.face) due_reached))

        -- the number that a half edge's face has got
        got : (h k : ℕ) → face_of m.shape h ≡ f → get_or after (face_of m.shape h) 0 ≡ suc k → level ≡ k
        got h k same is =
            let at : get_or after (face_of m.shape h) 0 ≡ suc level = ap (λ (i : ℕ). get_or after i 0) same ∙ at_face in
            omega (arith, at, is)

        beside : (h : ℕ) → IsLive m.shape h → face_of m.shape h ≡ f → 0 < count_of h edges
        beside h live same = omega (arith, each.each h record { live = live; face = same })

        after_free : (h k : ℕ) → IsLive m.shape h → ¬ IsMarked m (h / 2) → get_or after (face_of m.shape h) 0 ≡ suc k
            → IsSettled level after (due ++ free_over) (beyond ++ marked_over) (face_of m.shape (rev h)) k
        after_free h k live not is = elim (cases_eq (face_of m.shape h) f) [
          | inl same ↦
              let number = got h k same is in
              let there = over_to m Free edges h (beside h live same) (free_there mesh h live not) in
              inr (inl (omega (arith, there, count-append (face_of m.shape (rev h)) due free_over), omega (arith, number)))
          | inr differs ↦ settles (face_of m.shape (rev h)) k (way.free h k live not (sym (elsewhere (face_of m.shape h) differs) ∙ is))
        ]

        after_marked : (h k : ℕ) → IsLive m.shape h → IsMarked m (h / 2) → get_or after (face_of m.shape h) 0 ≡ suc k
            → IsSettled level after (due ++ free_over) (beyond ++ marked_over) (face_of m.shape (rev h)) (suc k)
        after_marked h k live is_marked is = elim (cases_eq (face_of m.shape h) f) [
          | inl same ↦
              let number = got h k same is in
              let there = over_to m Constraint edges h (beside h live same) is_marked in
              inr (inr (omega (arith, there, count-append (face_of m.shape (rev h)) beyond marked_over), omega (arith, number)))
          | inr differs ↦ settles (face_of m.shape (rev h)) (suc k) (way.marked h k live is_marked (sym (elsewhere (face_of m.shape h) differs) ∙ is))
        ]

        pub enters_less : work m.shape.words after (due ++ free_over) (beyond ++ marked_over) < work m.shape.words numbers (due ++ f ∷ []) beyond
        enters_less =
            let fewer = seen m.shape.words numbers f level way.many (reached_within m mesh f level due_reached) none in
            omega (arith, fewer, long, over_few m edges, shorter, length-append due free_over, length-append beyond marked_over)

        -- the face gets a number, and the faces beside it are listed
        pub enters : IsUnderWay m level after (due ++ free_over) (beyond ++ marked_over)
        enters = record {
          many = length-set numbers f (suc level) ∙ way.many;
          reached = after_reached;
          below = after_below;
          reached_now = λ g listed. elim (in_either g due free_over listed) [
            | inl before ↦ way.reached_now g (omega (arith, before, count-append g due (f ∷ [])))
            | inr new ↦ free_reached g new
          ];
          reached_next = λ g listed. elim (in_either g beyond marked_over listed) [ inl before ↦ way.reached_next g before | inr new ↦ marked_reached g new ];
          outer = settles 0 0 way.outer;
          free = after_free;
          marked = after_marked;
          few = omega (arith, way.few, enters_less);
        }

  -- the next level begins where this one has no more faces due
  pub rises : (level : ℕ) (numbers beyond : List ℕ) → IsUnderWay m level numbers [] beyond → suc level + work m.shape.words numbers [] beyond < 2 ^ 34
      → IsUnderWay m (suc level) numbers beyond []
  rises level numbers beyond way few = record {
    many = way.many;
    reached = way.reached;
    below = λ f. omega (arith, way.below f);
    reached_now = way.reached_next;
    reached_next = λ f listed. absurd (omega (arith, listed));
    outer = settled_rises level numbers beyond 0 0 way.outer;
    free = λ h k live not is. settled_rises level numbers beyond (face_of m.shape (rev h)) k (way.free h k live not is);
    marked = λ h k live is_marked is. settled_rises level numbers beyond (face_of m.shape (rev h)) (suc k) (way.marked h k live is_marked is);
    few = omega (arith, few);
  }

  -- in the end each way leads to a number that is no higher than what it crosses
  module _ (level : ℕ) (numbers : List ℕ) (way : IsUnderWay m level numbers [] []) where
    below_ways : (f k : ℕ) → IsReached m f k → (0 < get_or numbers f 0) × (get_or numbers f 0 ≤ suc k)
    below_ways _ _ outside = settled_ends level numbers 0 0 way.outer
    below_ways _ _ (over_free h {k} live free on) =
        let before = below_ways (face_of m.shape h) k on in
        let number = get_or numbers (face_of m.shape h) 0 in
        let is : number ≡ suc (number - 1) = omega (arith, before.0) in
        let after = settled_ends level numbers (face_of m.shape (rev h)) (number - 1) (way.free h (number - 1) live free is) in
        (after.0, omega (arith, after.1, before.1, is))
    below_ways _ _ (over_marked h {k} live marked on) =
        let before = below_ways (face_of m.shape h) k on in
        let number = get_or numbers (face_of m.shape h) 0 in
        let is : number ≡ suc (number - 1) = omega (arith, before.0) in
        let after = settled_ends level numbers (face_of m.shape (rev h)) (suc (number - 1)) (way.marked h (number - 1) live marked is) in
        (after.0, omega (arith, after.1, before.1, is))

    pub ends : IsNumbered m numbers
    ends = record { many = way.many; reached = way.reached; least = below_ways }
