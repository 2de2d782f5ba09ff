use Rattle.std.proofs.Common.{◌∙◌, ◌++◌, [], ◌∷◌, inl, inr, length, refl, slice_index, sym, ap}
use Rattle.dcel_fixed.proofs.Halves.{rev-rev}
use Rattle.dcel_fixed.specs.HalfEdges.{rev}
use Rattle.dcel_exchange.proofs.Chained.{both_ok, chained_put, first_starts, hangs_there, rev_next, second_starts}
use Rattle.dcel_exchange.proofs.chains.Chains.add.Goals as goal

pub returns-then-hangs_at : goal.returns-then-hangs_at
returns-then-hangs_at g c =
    let origin = c.args.origin.now in
    let starts = c.args.self.now.starts.items in
    let last = c.args.self.now.last.items in
    let before = c.args.self.now.before.items in
    let v = length last in
    both_ok c.put.result _ _ _
    (λ lasts befores. chained_put v starts origin last before c.requires.chained c.args.from c.args.to c.args.from c.args.to (length origin) (inl refl)
    (first_starts v starts origin last before c.requires.chained c.args.from c.args.to)
    (ap (slice_index (origin ++ c.args.from ∷ c.args.to ∷ [])) (rev_next v starts origin last before c.requires.chained c.args.from c.args.to)
    ∙ second_starts v starts origin last before c.requires.chained c.args.from c.args.to)
    (sym c.hangs_at.ensures ∙ c.if-hangs_at.true) c.requires.start
    c.put.new.self.starts.items c.put.new.self.last.items c.put.new.self.before.items c.put.ensures.starts lasts befores)
    c.put.ensures.last c.put.ensures.before

pub returns-else-hangs_at : goal.returns-else-hangs_at
returns-else-hangs_at g c =
    let origin = c.args.origin.now in
    let starts = c.args.self.now.starts.items in
    let last = c.args.self.now.last.items in
    let before = c.args.self.now.before.items in
    let v = length last in
    let odd = c.other_half.ensures.value ∙ rev_next v starts origin last before c.requires.chained c.args.from c.args.to in
    both_ok c.put-else-hangs_at.result _ _ _
    (λ lasts befores. chained_put v starts origin last before c.requires.chained c.args.from c.args.to c.args.to c.args.from c.other_half.result (inr odd)
    (ap (slice_index (origin ++ c.args.from ∷ c.args.to ∷ [])) odd ∙ second_starts v starts origin last before c.requires.chained c.args.from c.args.to)
    (ap (λ h. slice_index (origin ++ c.args.from ∷ c.args.to ∷ []) (rev h)) c.other_half.ensures.value
    ∙ ap (slice_index (origin ++ c.args.from ∷ c.args.to ∷ [])) (rev-rev (length origin))
    ∙ first_starts v starts origin last before c.requires.chained c.args.from c.args.to)
    (hangs_there starts c.args.from c.args.to c.requires.apart (sym c.hangs_at.ensures ∙ c.if-hangs_at.false)) c.requires.end
    c.put-else-hangs_at.new.self.starts.items c.put-else-hangs_at.new.self.last.items c.put-else-hangs_at.new.self.before.items c.put-else-hangs_at.ensures.starts lasts befores)
    c.put-else-hangs_at.ensures.last c.put-else-hangs_at.ensures.before
