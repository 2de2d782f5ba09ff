-- Functions with another value at one place.
use Rattle.std.proofs.Common.{◌≡◌, ◌≢◌, ℕ, eqb, eq-eqb, refl, ◌∙◌}
use Rattle.std.proofs.lemmas.Bool.{ne_eqb, cond-true, cond-false}
unfoldable pub use Rattle.dcel_maps.specs.Elementary.{put}

-- at a it is v
pub put_same : {A : Type 0} → (f : ℕ → A) (a : ℕ) (v : A) → put f a v a ≡ v
unfolding put
put_same f a v = cond-true (eqb a a) v (f a) (eq-eqb a a refl)

-- elsewhere it is f
pub put_other : {A : Type 0} → (f : ℕ → A) (a : ℕ) (v : A) (x : ℕ) → x ≢ a → put f a v x ≡ f x
unfolding put
put_other f a v x d = cond-false (eqb x a) v (f x) (ne_eqb x a d)

-- f, but v at a and then w at b: where the two differ, v is still at a
pub put_twice-first : {A : Type 0} → (f : ℕ → A) (a b : ℕ) (v w : A) → a ≢ b → put (put f a v) b w a ≡ v
put_twice-first f a b v w d = put_other (put f a v) b w a d ∙ put_same f a v

-- and elsewhere it is f
pub put_twice-other : {A : Type 0} → (f : ℕ → A) (a b : ℕ) (v w : A) (x : ℕ) → x ≢ a → x ≢ b → put (put f a v) b w x ≡ f x
put_twice-other f a b v w x not_a not_b = put_other (put f a v) b w x not_b ∙ put_other f a v x not_a
