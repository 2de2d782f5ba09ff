-- Maps that link the same half edges stand for the same words.
use Rattle.std.proofs.Common.{ℕ, ◌/◌, List, sym, ◌∙◌, arith}
use Rattle.dcel_maps.specs.Maps.{Map}
use Rattle.dcel_maps.specs.theory.Standing.{Follows, Stands}
use Rattle.dcel_maps.specs.Words.{word_of}
use Rattle.dcel_maps.proofs.words.Paths.{IsCycle-weaker}
use Rattle.dcel_maps.proofs.words.Reading.{live_in}
use Rattle.dcel_maps.proofs.maps.Agreement.{Agrees}

-- where T agrees with S, it stands for the words of S
pub same_words_stand : (S T : Map) → Agrees S T → (ws : List (List ℕ)) → Stands S ws → Stands T ws
same_words_stand S T same ws st = record {
  faces = st.faces ∙ sym same.faces;
  cycles = λ f within.
      IsCycle-weaker (Follows S f) (Follows T f) (word_of ws f)
      (λ p q p_in q_in k. record {
        live = same.edge (p / 2) ∙ k.live;
        next = same.next p k.live ∙ k.next;
        prev = same.prev q (live_in S ws st q f q_in) ∙ k.prev;
        face = same.face p k.live ∙ k.face;
      })
      (st.cycles f within);
  once = λ h live. st.once h (sym (same.edge (h / 2)) ∙ live);
  least = st.least;
  short = omega (arith, st.short, same.edges);
}
