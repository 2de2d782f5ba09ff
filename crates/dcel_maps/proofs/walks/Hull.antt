-- The hull is the outer word, from its anchor on.
use Rattle.std.proofs.Common.{◌≡◌, ◌↔◌, ℕ, false, Option, Some, None, IfSome, [], length, reverse, sym, ap, ◌∙◌}
use Rattle.std.proofs.lemmas.List.{nil_from_length}
use Rattle.dcel_maps.specs.Shapes.{Shape, Mesh, AnchorsWord, IsMesh, IsSound, edge_is_live, face_anchor, next_of, prev_of}
use Rattle.dcel_maps.specs.Walking.{IsOnFace, IsRoundTrip, ListsOnce, hull_of, walk_from, walk_of}
use Rattle.dcel_maps.specs.Words.{TurnsTo, word_of}
use Rattle.dcel_maps.proofs.walks.Faces.{anchor-lists, anchor-turn, word-lists}
use Rattle.dcel_maps.proofs.walks.Links.{links_lawful}
use Rattle.dcel_maps.proofs.walks.Reversed.{walk-reversed}
use Rattle.dcel_maps.proofs.walks.UnderWay.{walk-round}
use Rattle.dcel_maps.proofs.words.Turns.{length-turn}

-- from its anchor on, and round
anchor-round : {s : Shape} → IsSound s → (f : ℕ) (anchor : Option ℕ) → AnchorsWord (word_of s.words f) anchor
    → IfSome anchor (λ a. IsRoundTrip (next_of s) a (walk_from s (next_of s) anchor))
anchor-round sound f None anchored = tt
anchor-round sound f (Some a) anchored = walk-round (links_lawful sound) a ((word-lists sound f).no_other a anchored).live

-- and from the back it is the walk by `prev`, from the half edge before the anchor
anchor-reversed : {s : Shape} → IsSound s → (f : ℕ) (anchor : Option ℕ) → AnchorsWord (word_of s.words f) anchor
    → IfSome anchor (λ a. reverse (walk_from s (next_of s) anchor) ≡ walk_of s (prev_of s) (prev_of s a))
anchor-reversed sound f None anchored = tt
anchor-reversed sound f (Some a) anchored = walk-reversed (links_lawful sound) a ((word-lists sound f).no_other a anchored).live

module _ {V DE UE F : Type 0} {m : Mesh V DE UE F} (mesh : IsMesh m) where
  pub hull-turn : TurnsTo (word_of m.shape.words 0) (hull_of m)
  hull-turn = anchor-turn mesh.sound 0 (face_anchor m 0) (mesh.anchored.faces 0 mesh.sized.outer)

  pub hull-round : IfSome (face_anchor m 0) (λ a. IsRoundTrip (next_of m.shape) a (hull_of m))
  hull-round = anchor-round mesh.sound 0 (face_anchor m 0) (mesh.anchored.faces 0 mesh.sized.outer)

  pub hull-reversed : IfSome (face_anchor m 0) (λ a. reverse (hull_of m) ≡ walk_of m.shape (prev_of m.shape) (prev_of m.shape a))
  hull-reversed = anchor-reversed mesh.sound 0 (face_anchor m 0) (mesh.anchored.faces 0 mesh.sized.outer)

  -- it lists what lies on the outer face
  pub hull-lists : ListsOnce (IsOnFace m.shape 0) (hull_of m)
  hull-lists = anchor-lists mesh 0 mesh.sized.outer

  -- and nothing just where no edge is live
  pub hull-empty : (hull_of m ≡ []) ↔ ((u : ℕ) → edge_is_live m.shape u ≡ false)
  hull-empty = (
    λ none. mesh.sound.outer.0 (nil_from_length (word_of m.shape.words 0) (sym (length-turn hull-turn) ∙ ap length none)),
    λ dead. nil_from_length (hull_of m) (length-turn hull-turn ∙ ap length (mesh.sound.outer.1 dead)),
  )
