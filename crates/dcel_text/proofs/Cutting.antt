-- The items of a line: how they are cut off, and that joining them gives the line back.
use Rattle.std.proofs.Common.{◌≡◌, ◌≢◌, ℕ, ◌+◌, ◌<◌, List, [], ◌∷◌, ◌++◌, length, get_or, take, drop, refl, sym, ap, ◌∙◌, append_assoc, append-nil, inl, inr, ne_eqb, Bool, true, false, cond, eqb}
use Rattle.std.specs.Prelude.{◌⊎◌}
use Rattle.std.specs.List.{AllByRecursion}
use Rattle.std.proofs.lemmas.List.{take_more, drop_more}
use Rattle.std.proofs.lemmas.Bool.{cases_eq, false≢true}
use Rattle.dcel_text.specs.Items.{items_of, before}
use Rattle.dcel_text.specs.Items.{spaced}

pub items_of-byte : (b : ℕ) (bs : List ℕ) → b ≢ 32 → items_of (b ∷ bs) ≡ before b (items_of bs)
unfolding items_of
items_of-byte b bs ne = rw (ne_eqb b 32 ne) refl

pub items_of-space : (bs : List ℕ) → items_of (32 ∷ bs) ≡ [] ∷ items_of bs
unfolding items_of
items_of-space bs = refl

pub items_of-nil : items_of [] ≡ [] ∷ []
unfolding items_of
items_of-nil = refl

before-cons : (b : ℕ) (items : List (List ℕ)) → (item : List ℕ) × (others : List (List ℕ)) × (before b items ≡ item ∷ others)
before-cons b [] = (b ∷ [], [], refl)
before-cons b (item ∷ others) = (b ∷ item, others, refl)

-- there is always a first item
pub items_of-cons : (bs : List ℕ) → (item : List ℕ) × (others : List (List ℕ)) × (items_of bs ≡ item ∷ others)
items_of-cons [] = ([], [], items_of-nil)
items_of-cons (b ∷ bs) = go (cases_eq b 32)
  where
    go : (b ≡ 32) ⊎ (b ≢ 32) → (item : List ℕ) × (others : List (List ℕ)) × (items_of (b ∷ bs) ≡ item ∷ others)
    go (inl e) = ([], items_of bs, ap (λ (x : ℕ). items_of (x ∷ bs)) e ∙ items_of-space bs)
    go (inr ne) = let h = before-cons b (items_of bs) in (h.0, h.1, items_of-byte b bs ne ∙ h.2)

pub items_of-nonempty : (bs : List ℕ) → items_of bs ≢ []
items_of-nonempty bs e = let h = items_of-cons bs in let wrong : [] ≡ h.0 ∷ h.1 = sym e ∙ h.2 in absurd cc

-- ---- a search for the first space

-- bytes before the first item
abbrev pub ahead : List ℕ → List (List ℕ) → List (List ℕ)
ahead bs [] = bs ∷ []
ahead bs (item ∷ others) = (bs ++ item) ∷ others

ahead-before : (bs : List ℕ) (b : ℕ) (items : List (List ℕ)) → ahead bs (before b items) ≡ ahead (bs ++ b ∷ []) items
ahead-before bs b [] = refl
ahead-before bs b (item ∷ others) = ap (λ (x : List ℕ). x ∷ others) (sym (append_assoc bs (b ∷ []) item))

ahead_nothing : (items : List (List ℕ)) (item : List ℕ) (others : List (List ℕ)) → items ≡ item ∷ others → items ≡ ahead [] items
ahead_nothing [] item others e = absurd cc
ahead_nothing (x ∷ xs) item others e = refl

pub search_starts : (bs : List ℕ) → items_of bs ≡ ahead [] (items_of bs)
search_starts bs = let h = items_of-cons bs in ahead_nothing (items_of bs) h.0 h.1 h.2

pub search_goes_on : (bs : List ℕ) (i : ℕ) (all : List (List ℕ)) → i < length bs → get_or bs i 0 ≢ 32 → all ≡ ahead (take i bs) (items_of (drop i bs)) → all ≡ ahead (take (i + 1) bs) (items_of (drop (i + 1) bs))
search_goes_on bs i all lt ne e =
    e ∙ ap (λ (x : List ℕ). ahead (take i bs) (items_of x)) (drop_more bs i 0 lt)
    ∙ ap (ahead (take i bs)) (items_of-byte (get_or bs i 0) (drop (i + 1) bs) ne)
    ∙ ahead-before (take i bs) (get_or bs i 0) (items_of (drop (i + 1) bs))
    ∙ ap (λ (x : List ℕ). ahead x (items_of (drop (i + 1) bs))) (sym (take_more bs i 0 lt))

pub search_finds : (bs : List ℕ) (i : ℕ) (all : List (List ℕ)) → i < length bs → get_or bs i 0 ≡ 32 → all ≡ ahead (take i bs) (items_of (drop i bs)) → all ≡ take i bs ∷ items_of (drop (i + 1) bs)
search_finds bs i all lt eq e =
    e ∙ ap (λ (x : List ℕ). ahead (take i bs) (items_of x)) (drop_more bs i 0 lt ∙ ap (λ (b : ℕ). b ∷ drop (i + 1) bs) eq)
    ∙ ap (ahead (take i bs)) (items_of-space (drop (i + 1) bs))
    ∙ ap (λ (x : List ℕ). x ∷ items_of (drop (i + 1) bs)) (append-nil (take i bs))

pub search_ends : (bs : List ℕ) (all : List (List ℕ)) → all ≡ ahead bs (items_of []) → all ≡ bs ∷ []
search_ends bs all e = e ∙ ap (ahead bs) items_of-nil ∙ ap (λ (x : List ℕ). x ∷ []) (append-nil bs)

-- ---- the items, joined

spaced-before : (b : ℕ) (item : List ℕ) (others : List (List ℕ)) → spaced ((b ∷ item) ∷ others) ≡ b ∷ spaced (item ∷ others)
spaced-before b item [] = refl
spaced-before b item (next ∷ others) = refl

spaced-byte : (b : ℕ) (items : List (List ℕ)) (item : List ℕ) (others : List (List ℕ)) → items ≡ item ∷ others → spaced (before b items) ≡ b ∷ spaced items
spaced-byte b [] item others e = absurd cc
spaced-byte b (x ∷ xs) item others e = spaced-before b x xs

spaced-space : (items : List (List ℕ)) (item : List ℕ) (others : List (List ℕ)) → items ≡ item ∷ others → spaced ([] ∷ items) ≡ 32 ∷ spaced items
spaced-space [] item others e = absurd cc
spaced-space (x ∷ xs) item others e = refl

pub spaced-items_of : (bs : List ℕ) → spaced (items_of bs) ≡ bs
spaced-items_of [] = ap spaced items_of-nil
spaced-items_of (b ∷ bs) = go (spaced-items_of bs) (cases_eq b 32)
  where
    h : (item : List ℕ) × (others : List (List ℕ)) × (items_of bs ≡ item ∷ others)
    h = items_of-cons bs

    go : spaced (items_of bs) ≡ bs → (b ≡ 32) ⊎ (b ≢ 32) → spaced (items_of (b ∷ bs)) ≡ b ∷ bs
    go r (inl e) = ap (λ (x : ℕ). spaced (items_of (x ∷ bs))) e ∙ ap spaced (items_of-space bs) ∙ spaced-space (items_of bs) h.0 h.1 h.2 ∙ ap (λ (x : List ℕ). 32 ∷ x) r ∙ ap (λ (x : ℕ). x ∷ bs) (sym e)
    go r (inr ne) = ap spaced (items_of-byte b bs ne) ∙ spaced-byte b (items_of bs) h.0 h.1 h.2 ∙ ap (λ (x : List ℕ). b ∷ x) r

-- ---- items without a space, cut apart again

abbrev pub has_no_space : List ℕ → Bool
has_no_space [] = true
has_no_space (b ∷ bs) = cond (eqb b 32) false (has_no_space bs)

abbrev pub NoSpaces : List (List ℕ) → Type 0
NoSpaces items = AllByRecursion (λ item. has_no_space item ≡ true) items

no_space_parts : (b : ℕ) (bs : List ℕ) → has_no_space (b ∷ bs) ≡ true → (b ≢ 32) × (has_no_space bs ≡ true)
no_space_parts b bs s = go (cases_eq b 32)
  where
    go : (b ≡ 32) ⊎ (b ≢ 32) → (b ≢ 32) × (has_no_space bs ≡ true)
    go (inl e) = absurd (false≢true (sym (ap (λ (x : ℕ). cond (eqb x 32) false (has_no_space bs)) e) ∙ s))
    go (inr ne) = (ne, ap (λ (x : Bool). cond x false (has_no_space bs)) (sym (ne_eqb b 32 ne)) ∙ s)

items_of-one : (item : List ℕ) → has_no_space item ≡ true → items_of item ≡ item ∷ []
items_of-one [] s = items_of-nil
items_of-one (b ∷ item) s = let h = no_space_parts b item s in items_of-byte b item h.0 ∙ ap (before b) (items_of-one item h.1)

items_of-append : (item rest : List ℕ) → has_no_space item ≡ true → items_of (item ++ 32 ∷ rest) ≡ item ∷ items_of rest
items_of-append [] rest s = items_of-space rest
items_of-append (b ∷ item) rest s = let h = no_space_parts b item s in items_of-byte b (item ++ 32 ∷ rest) h.0 ∙ ap (before b) (items_of-append item rest h.1)

pub items_of-spaced : (item : List ℕ) (others : List (List ℕ)) → has_no_space item ≡ true → NoSpaces others → items_of (spaced (item ∷ others)) ≡ item ∷ others
items_of-spaced item [] s ss = items_of-one item s
items_of-spaced item (next ∷ others) s ss = items_of-append item (spaced (next ∷ others)) s ∙ ap (λ (x : List (List ℕ)). item ∷ x) (items_of-spaced next others ss.0 ss.1)
