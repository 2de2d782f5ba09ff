-- Words under other numbers: those of a map stand for it under the other numbers, each from its least item.
use Rattle.std.proofs.Common.{◌≡◌, ◌↔◌, inl, inr, ℕ, ◌<◌, List, [], ◌∷◌, length, map, refl, sym, ap, ◌∙◌, subst, arith}
use Rattle.std.proofs.lemmas.Bool.{cases_eq}
use Rattle.dcel_maps.specs.Cyclic.{from_least}
use Rattle.dcel_maps.specs.Maps.{Live, Map}
use Rattle.dcel_maps.specs.Words.{TurnsTo, count_of, word_of}
use Rattle.dcel_maps.specs.theory.Cycles.{IsCycle, Path}
use Rattle.dcel_maps.specs.theory.Sound.{Sound}
use Rattle.dcel_maps.specs.theory.Standing.{Follows, Stands}
use Rattle.dcel_maps.proofs.maps.Edits.{Renamed}
use Rattle.dcel_maps.proofs.words.Counts.{count-equal, count-later, count-other, count-same}
use Rattle.dcel_maps.proofs.words.Cyclic.{count-from_least}
use Rattle.dcel_maps.proofs.words.Faces.{IsWordOf, stands_from_faces, word_of_face}
use Rattle.dcel_maps.proofs.words.Reading.{live_in}
use Rattle.dcel_maps.proofs.words.Turns.{IsCycle-turn, IsLeastFirst-from_least, count-turn, from_least-turn}

-- an item stands as often under another number, where no other item of the list gets that number
pub count-map : (f : ℕ → ℕ) (a : ℕ) (w : List ℕ) → ((z : ℕ) → 0 < count_of z w → f a ≡ f z → a ≡ z)
    → count_of (f a) (map f w) ≡ count_of a w
count-map f a [] apart = refl
count-map f a (z ∷ w) apart =
    let rest = count-map f a w (λ y found. apart y (count-later y z w found)) in
    elim (cases_eq a z) [
      | inl same ↦ omega (arith, rest, count-equal (f a) (f z) (map f w) (ap f same), count-equal a z w same)
      | inr differs ↦
          omega (
            arith,
            rest,
            count-other (f a) (f z) (map f w) (λ e. differs (apart z (omega (arith, count-same z w)) e)),
            count-other a z w differs,
          )
    ]

-- what stands in a list stands in it under its other number
pub count-map-more : (f : ℕ → ℕ) (a : ℕ) (w : List ℕ) → 0 < count_of a w → 0 < count_of (f a) (map f w)
count-map-more f a [] found = absurd (omega (arith, found))
count-map-more f a (z ∷ w) found = elim (cases_eq a z) [
  | inl same ↦ omega (arith, count-equal (f a) (f z) (map f w) (ap f same))
  | inr differs ↦ count-later (f a) (f z) (map f w) (count-map-more f a w (omega (arith, found, count-other a z w differs)))
]

Path-map : (R Q : ℕ → ℕ → Type 0) (f : ℕ → ℕ) → ((p q : ℕ) → R p q → Q (f p) (f q)) → (x : ℕ) (r : List ℕ) (e : ℕ) → Path R x r e
    → Path Q (f x) (map f r) (f e)
Path-map R Q f goes x [] e path = goes x e path
Path-map R Q f goes x (y ∷ r) e path = (goes x y path.0, Path-map R Q f goes y r e path.1)

-- a cycle under other numbers
pub IsCycle-map : (R Q : ℕ → ℕ → Type 0) (f : ℕ → ℕ) → ((p q : ℕ) → R p q → Q (f p) (f q)) → (w : List ℕ) → IsCycle R w
    → IsCycle Q (map f w)
IsCycle-map R Q f goes [] cycle = tt
IsCycle-map R Q f goes (x ∷ r) cycle = Path-map R Q f goes x r x cycle

no_items : (w : List ℕ) → ((h : ℕ) → count_of h w ≡ 0) → w ≡ []
no_items [] none = refl
no_items (x ∷ w) none = absurd (omega (arith, none x, count-same x w))

-- a cyclic list is empty in each form, or in none
turn_empty : {w u : List ℕ} → TurnsTo w u → (u ≡ []) ↔ (w ≡ [])
turn_empty {w} {u} turn = (
  λ none. no_items w (λ h. sym (count-turn h turn) ∙ ap (count_of h) none),
  λ none. no_items u (λ h. count-turn h turn ∙ ap (count_of h) none),
)

-- a word under other numbers is empty just where it was
pub renamed_empty : (f : ℕ → ℕ) (w : List ℕ) → (from_least (map f w) ≡ []) ↔ (w ≡ [])
renamed_empty f w = (
  λ empty. bare w ((turn_empty (from_least-turn (map f w))).0 empty),
  λ none. (turn_empty (from_least-turn (map f w))).1 (ap (map f) none),
)
  where
    bare : (u : List ℕ) → map f u ≡ [] → u ≡ []
    bare [] e = refl
    bare (x ∷ u) e = cc

-- us are the words ws under other numbers: half edges by f, faces by w (back by w')
pub record WordsRenamed (S : Map) (f w w' : ℕ → ℕ) (ws us : List (List ℕ)) : Type 0 where
  pub forth : (x : ℕ) → Live S x → w' (w (S.face x)) ≡ S.face x
  pub back : (g : ℕ) → g < length us → w (w' g) ≡ g
  pub word : (g : ℕ) → g < length us → word_of us g ≡ from_least (map f (word_of ws (w' g)))

module _ (S T : Map) (f f' o w w' : ℕ → ℕ) (e : Renamed S T f f' o w) (sound : Sound S) (ws us : List (List ℕ)) (st : Stands S ws)
    (words : WordsRenamed S f w w' ws us) where
  -- neighbours follow each other under the other numbers
  follows : (g : ℕ) → g < length us → (p q : ℕ) → Follows S (w' g) p q → Follows T g (f p) (f q)
  follows g below p q k =
      let live_q : Live S q = subst (Live S) k.next (sound.live_next p k.live) in
      record {
        live = e.lives p k.live;
        next = e.next p k.live ∙ ap f k.next;
        prev = e.prev q live_q ∙ ap f k.prev;
        face = e.face p k.live ∙ ap w k.face ∙ words.back g below;
      }

  -- a live half edge stands as often in the word of its new face
  count-renamed : (g x : ℕ) → Live T x → count_of x (from_least (map f (word_of ws g))) ≡ count_of (f' x) (word_of ws g)
  count-renamed g x live =
      count-from_least x (map f (word_of ws g)) ∙ ap (λ z. count_of z (map f (word_of ws g))) (sym (e.back x live))
      ∙ count-map f (f' x) (word_of ws g) (λ z found same.
      sym (e.forth (f' x) (e.comes x live)) ∙ ap f' same ∙ e.forth z (live_in S ws st z g found))

  -- the face of a live half edge, under its old number
  face-was : (g x : ℕ) → Live T x → T.face x ≡ g → S.face (f' x) ≡ w' g
  face-was g x live at_g =
      let was = e.comes x live in
      sym (words.forth (f' x) was) ∙ ap w' (sym (e.face (f' x) was) ∙ ap T.face (e.back x live) ∙ at_g)

  word : (g : ℕ) → g < length us → IsWordOf T g (word_of us g)
  word g below =
      let was = word_of_face S ws st (w' g) in
      subst (IsWordOf T g) (sym (words.word g below)) record {
        cycle = IsCycle-turn (Follows T g) (from_least-turn (map f (word_of ws (w' g))))
            (IsCycle-map (Follows S (w' g)) (Follows T g) f (follows g below) (word_of ws (w' g)) was.cycle);
        once = λ x live at_g. count-renamed (w' g) x live ∙ was.once (f' x) (e.comes x live) (face-was g x live at_g);
        least = IsLeastFirst-from_least (map f (word_of ws (w' g)));
      }

  -- words that stand for a map stand under other numbers for the map under these numbers
  pub renamed_stand : Sound T → length us ≡ T.faces → Stands T us
  renamed_stand good long = stands_from_faces T good us long word
