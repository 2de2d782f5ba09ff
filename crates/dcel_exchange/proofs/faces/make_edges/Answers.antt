use Rattle.std.proofs.Common.{◌∙◌, ◌+◌, length, ap}
use Rattle.std.proofs.lemmas.List.{length_push}
use Rattle.std.proofs.lemmas.List.Elements.{All-push, All-same}
use Rattle.dcel_exchange.specs.Defaults.{HasDefaults}
use Rattle.dcel_exchange.proofs.faces.make_edges.Goals as goal

pub loop-number-preserved : goal.loop-number-preserved
loop-number-preserved g c =
    record {
      count = ap length c.in_ok-push.ensures.items ∙ length_push c.loop-number.made.items _ ∙ ap (λ n. n + 1) c.loop-number.invariant.count;
      each =
          All-same (HasDefaults g.DE.Default.is_default g.UE.Default.is_default) c.push.new.self.items _ c.in_ok-push.ensures.items
          (All-push (HasDefaults g.DE.Default.is_default g.UE.Default.is_default) c.loop-number.made.items _ c.loop-number.invariant.each
          (c.default.ensures, c.default-in-loop-number.ensures, c.default-in-loop-number-2.ensures));
    }
