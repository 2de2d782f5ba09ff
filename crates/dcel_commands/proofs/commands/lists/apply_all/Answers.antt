use Rattle.std.proofs.Common.{◌≡◌, ◌∷◌, [], inr, length, map, refl, rules, sym, ap, ◌∙◌, arith, vec_len}
use Rattle.std.proofs.lemmas.Grind.{common_steps}
use Rattle.std.proofs.lemmas.List.{length-map, map-append}
use Rattle.std.specs.Vec.Iter.{into_iter_items}
use Rattle.dcel_commands.specs.Instructions.{instruction}
use Rattle.dcel_commands.specs.Responses.{response}
use Rattle.dcel_maps.proofs.Headline.{mesh-headline}
use Rattle.dcel_commands.proofs.Edits.{none_edits, stopped_edits, whole_edits}
use Rattle.dcel_commands.proofs.Runs.{under_way-start, under_way-next, under_way-end, under_way-stopped}
use Rattle.dcel_commands.proofs.Triangles.{stopped-triangles, whole-triangles}
use Rattle.dcel_commands.proofs.commands.lists.apply_all.Goals as goal

pub loop-command-init : goal.loop-command-init
loop-command-init g c =
    let all : into_iter_items c.into_iter-command-iterator.result ≡ c.args.commands.items = search rules in
    let long : length c.args.commands.items ≡ vec_len c.args.commands = search rules in
    record {
      room = omega (arith, ap length all, long, c.in-Ok.ensures.len, c.in-Ok.ensures.exact, c.len.ensures);
      under_way = rw (c.in-Ok.ensures.items, all) (under_way-start g.DE.Default.is_default g.UE.Default.is_default g.F.Default.is_default c.args.limit c.args.dcel.now (map instruction c.args.commands.items));
      mesh = c.every_mesh.ensures;
    }

pub loop-command-preserved : goal.loop-command-preserved
loop-command-preserved g c =
    let kept = c.loop-command.invariant in
    let took : into_iter_items c.loop-command.command-iterator ≡ c.in-Some.command ∷ into_iter_items c.next.new.self = search rules in
    record {
      room = omega (arith, ap length took, kept.room, c.push_reserved.ensures.len, c.push_reserved.ensures.capacity);
      under_way = rw (c.push_reserved.ensures.items, map-append)
          (under_way-next g.DE.Default.is_default g.UE.Default.is_default g.F.Default.is_default c.args.limit c.args.dcel.now c.loop-command.dcel c.apply.new.dcel
          (map instruction c.args.commands.items) (map response c.loop-command.done.items) (instruction c.in-Some.command) (map instruction (into_iter_items c.next.new.self))
          (response c.in-Ok-apply.reply) (rw took at kept.under_way) record {
            legal = c.in-Ok-apply.ensures.legal;
            step = c.in-Ok-apply.ensures.step;
            mesh = c.in-Ok-apply.ensures.mesh;
          });
      mesh = c.in-Ok-apply.ensures.mesh;
    }

pub returns-in-Err-apply-clause-stopped : goal.returns-in-Err-apply-clause-stopped
returns-in-Err-apply-clause-stopped g c =
    let kept = c.loop-command.invariant in
    let took : into_iter_items c.loop-command.command-iterator ≡ c.in-Some.command ∷ into_iter_items c.next.new.self = search rules in
    let long : length c.loop-command.done.items ≡ vec_len c.loop-command.done = search rules in
    inr (under_way-stopped g.DE.Default.is_default g.UE.Default.is_default g.F.Default.is_default c.args.limit c.args.dcel.now c.loop-command.dcel c.apply.new.dcel
    (map instruction c.args.commands.items) (map response c.loop-command.done.items) (instruction c.in-Some.command) (map instruction (into_iter_items c.next.new.self))
    c.len-at.result c.in-Err-apply.refused (rw took at kept.under_way) c.in-Err-apply.ensures.refused c.in-Err-apply.ensures.unchanged
    (c.len-at.ensures ∙ sym long ∙ sym (length-map c.loop-command.done.items response)))

pub returns-clause-run : goal.returns-clause-run
returns-clause-run g c =
    let ends = c.in-None.ensures in
    let left = c.loop-command.command-iterator.rest in
    let none : left.items ≡ [] = grind (arith, common_steps) in
    under_way-end g.DE.Default.is_default g.UE.Default.is_default g.F.Default.is_default c.args.limit c.args.dcel.now c.loop-command.dcel
    (map instruction c.args.commands.items) (map response c.loop-command.done.items) (rw none at c.loop-command.invariant.under_way)

pub returns-clause-triangles : goal.returns-clause-triangles
returns-clause-triangles g c =
    whole-triangles g.DE.Default.is_default g.UE.Default.is_default g.F.Default.is_default c.args.limit c.args.dcel.now c.loop-command.dcel
    (map instruction c.args.commands.items) (map response c.loop-command.done.items) c.every_mesh.ensures (returns-clause-run g c)

pub returns-in-Err-apply-clause-triangles : goal.returns-in-Err-apply-clause-triangles
returns-in-Err-apply-clause-triangles g c =
    stopped-triangles g.DE.Default.is_default g.UE.Default.is_default g.F.Default.is_default c.args.limit c.args.dcel.now c.apply.new.dcel
    (map instruction c.args.commands.items) (map response c.loop-command.done.items) c.len-at.result c.in-Err-apply.refused c.every_mesh.ensures
    (returns-in-Err-apply-clause-stopped g c)

pub returns-clause-edits : goal.returns-clause-edits
returns-clause-edits g c =
    whole_edits g.DE.Default.is_default g.UE.Default.is_default g.F.Default.is_default c.args.limit c.requires c.args.dcel.now c.loop-command.dcel
    (map instruction c.args.commands.items) (map response c.loop-command.done.items) c.every_mesh.ensures (returns-clause-run g c)

pub returns-in-Err-clause-edits : goal.returns-in-Err-clause-edits
returns-in-Err-clause-edits g c =
    let none : map response c.new.result.items ≡ [] = grind (arith, common_steps) in
    none_edits g.DE.Default.is_default g.UE.Default.is_default g.F.Default.is_default c.args.limit c.requires c.args.dcel.now c.args.dcel.now
    (map instruction c.args.commands.items) (map response c.new.result.items) none refl

pub returns-in-Err-apply-clause-edits : goal.returns-in-Err-apply-clause-edits
returns-in-Err-apply-clause-edits g c =
    stopped_edits g.DE.Default.is_default g.UE.Default.is_default g.F.Default.is_default c.args.limit c.requires c.args.dcel.now c.apply.new.dcel
    (map instruction c.args.commands.items) (map response c.loop-command.done.items) c.len-at.result c.in-Err-apply.refused c.every_mesh.ensures
    (returns-in-Err-apply-clause-stopped g c)

pub returns-in-Err-clause-headline : goal.returns-in-Err-clause-headline
returns-in-Err-clause-headline g c = mesh-headline c.every_mesh.ensures

pub returns-in-Err-apply-clause-headline : goal.returns-in-Err-apply-clause-headline
returns-in-Err-apply-clause-headline g c = mesh-headline c.in-Err-apply.ensures.mesh

pub returns-clause-headline : goal.returns-clause-headline
returns-clause-headline g c = mesh-headline c.loop-command.invariant.mesh
