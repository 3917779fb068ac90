use Rattle.std.proofs.Common.{◌+◌, ◌∷◌, [], ◌++◌, map, ap, sym, ◌∙◌, append_assoc}
use Rattle.std.specs.List.{range_with_len}
use Rattle.wq_rescuer.specs.Contexts.{context_at}
use Rattle.wq_rescuer.proofs.ContextLemmas.{helpers_more}
use Rattle.wq_rescuer.proofs.contexts.add_contexts_on.Goals as goal

pub loop-h-preserved : goal.loop-h-preserved
loop-h-preserved g c =
    let lane = c.args.lane in
    let old = c.args.contexts.now.items in
    let h = c.loop-h.h in
    let first = context_at lane 0 ∷ map (context_at lane) (range_with_len 1 h) in
    c.in_ok-push-2.ensures.items ∙ ap (λ cs. cs ++ (context_at lane (h + 1) ∷ [])) c.loop-h.invariant
    ∙ append_assoc old first (context_at lane (h + 1) ∷ [])
    ∙ ap (λ cs. old ++ (context_at lane 0 ∷ cs)) (sym (helpers_more lane h))
