-- Bytes, cut at their line feeds.
use Rattle.std.proofs.Common.{◌≡◌, ◌≢◌, ℕ, ◌+◌, ◌<◌, ◌≤◌, List, [], ◌∷◌, ◌++◌, length, get_or, take, drop, refl, sym, ap, subst, ◌∙◌, arith, append_assoc, append-nil, Bool, true, false, cond, ne_eqb, take-append-drop}
use Rattle.std.proofs.lemmas.List.{take_more, take_all, drop_more}
use Rattle.dcel_text.specs.Lines.{line_feed, lines, onto, joined, HasNoFeed}

-- ---- the first line feed

HasNoFeed-push : (bs : List ℕ) (b : ℕ) → HasNoFeed bs → b ≢ line_feed → HasNoFeed (bs ++ b ∷ [])
HasNoFeed-push [] b h ne = (ne, tt)
HasNoFeed-push (x ∷ bs) b h ne = (h.0, HasNoFeed-push bs b h.1 ne)

pub no_feed_so_far : (bs : List ℕ) (i : ℕ) → i < length bs → get_or bs i 0 ≢ line_feed → HasNoFeed (take i bs) → HasNoFeed (take (i + 1) bs)
no_feed_so_far bs i lt ne h = subst HasNoFeed (sym (take_more bs i 0 lt)) (HasNoFeed-push (take i bs) (get_or bs i 0) h ne)

pub no_feed_at_all : (bs : List ℕ) (i : ℕ) → length bs ≤ i → HasNoFeed (take i bs) → HasNoFeed bs
no_feed_at_all bs i le h = subst HasNoFeed (take_all i bs le) h

pub split_at_feed : (bs : List ℕ) (i : ℕ) → i < length bs → get_or bs i 0 ≡ line_feed → bs ≡ take i bs ++ line_feed ∷ drop (i + 1) bs
split_at_feed bs i lt e = sym (take-append-drop i bs) ∙ ap (λ (x : List ℕ). take i bs ++ x) (drop_more bs i 0 lt ∙ ap (λ (b : ℕ). b ∷ drop (i + 1) bs) e)

-- ---- lines

pub lines-nil : (u : Bool) → lines u [] ≡ []
unfolding lines
lines-nil u = refl

pub lines-feed : (u : Bool) (bs : List ℕ) → lines u (line_feed ∷ bs) ≡ [] ∷ lines u bs
unfolding lines
lines-feed u bs = refl

lines-byte : (u : Bool) (b : ℕ) (bs : List ℕ) → b ≢ line_feed → lines u (b ∷ bs) ≡ onto u b (lines u bs)
unfolding lines
lines-byte u b bs ne = ap (λ (x : Bool). cond x ([] ∷ lines u bs) (onto u b (lines u bs))) (ne_eqb b line_feed ne)

pub joined-append : (u : Bool) (xs ys : List ℕ) (ls : List (List ℕ)) → joined u (xs ++ ys) ls ≡ joined u xs (joined u ys ls)
joined-append u [] ys ls = refl
joined-append u (b ∷ xs) ys ls = ap (onto u b) (joined-append u xs ys ls)

pub joined-cons : (u : Bool) (xs line : List ℕ) (ls : List (List ℕ)) → joined u xs (line ∷ ls) ≡ (xs ++ line) ∷ ls
joined-cons u [] line ls = refl
joined-cons u (b ∷ xs) line ls = ap (onto u b) (joined-cons u xs line ls)

pub joined-whole : (xs : List ℕ) → joined false xs [] ≡ []
joined-whole [] = refl
joined-whole (b ∷ xs) = ap (onto false b) (joined-whole xs)

pub joined-unended : (xs : List ℕ) → 0 < length xs → joined true xs [] ≡ xs ∷ []
joined-unended [] h = absurd (omega arith)
joined-unended (b ∷ []) h = refl
joined-unended (b ∷ c ∷ xs) h = ap (onto true b) (joined-unended (c ∷ xs) (omega arith))

pub lines-begun : (u : Bool) (xs bs : List ℕ) → HasNoFeed xs → lines u (xs ++ bs) ≡ joined u xs (lines u bs)
lines-begun u [] bs h = refl
lines-begun u (b ∷ xs) bs h = lines-byte u b (xs ++ bs) h.0 ∙ ap (onto u b) (lines-begun u xs bs h.1)

-- a line, with what was begun of it
pub lines-line : (u : Bool) (begun xs bs : List ℕ) → HasNoFeed xs → joined u begun (lines u ((xs ++ line_feed ∷ []) ++ bs)) ≡ (begun ++ xs) ∷ lines u bs
lines-line u begun xs bs h =
    ap (λ (x : List ℕ). joined u begun (lines u x)) (append_assoc xs (line_feed ∷ []) bs)
    ∙ ap (joined u begun) (lines-begun u xs (line_feed ∷ bs) h ∙ ap (joined u xs) (lines-feed u bs) ∙ joined-cons u xs [] (lines u bs))
    ∙ joined-cons u begun (xs ++ []) (lines u bs)
    ∙ ap (λ (x : List ℕ). (begun ++ x) ∷ lines u bs) (append-nil xs)

-- a front of the bytes, and one line more
pub front-line : (bytes front line rest others : List ℕ) → bytes ≡ front ++ rest → rest ≡ line ++ line_feed ∷ others → bytes ≡ (front ++ (line ++ line_feed ∷ [])) ++ others
front-line bytes front line rest others e f =
    e ∙ ap (λ (x : List ℕ). front ++ x) (f ∙ sym (append_assoc line (line_feed ∷ []) others)) ∙ sym (append_assoc front (line ++ line_feed ∷ []) others)
