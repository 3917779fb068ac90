use Rattle.std.proofs.Common.{◌≡◌, true, false, None, sym, ap, ◌∙◌, rules}
use Rattle.std.specs.Prelude.{is_some}
use Rattle.std.proofs.lemmas.Bool.{both_ways, not-false, eq-eqb}
use Rattle.wq_core.specs.State.{Lane, lane_at, run_by, is_running}
use Rattle.wq_core.proofs.Starts.{help-lawful, not_help-lane, not_help-context, not_help-busy, not_help-runs}
use Rattle.wq_core.proofs.machine.Core.may_help.Goals.{else-eq-via-then-eq+then-has_context+then-is_none+else-not-is_running, else-eq-via-then-eq+then-has_context+else-is_none, else-eq-via-then-eq+else-has_context, else-eq-via-else-eq}
use Rattle.wq_core.proofs.machine.Core.may_help.Goals as goal

pub returns-then-not-is_running : goal.returns-then-not-is_running
returns-then-not-is_running g c =
    let m = c.args.self.now in
    let none : c.running_in.result ≡ None = search rules in
    let idle : run_by (lane_at m.state c.args.context.lane) c.args.context.number ≡ None = sym
    c.running_in.ensures.running ∙ none in
    let own : c.lane_of.result ≡ c.args.context.lane = search rules in
    let free : is_running (lane_at m.state c.args.context.lane) c.args.item ≡ false = sym
    (ap (λ (l : Lane). is_running l c.args.item) c.lane.ensures.lane) ∙ sym c.is_running.ensures ∙
    c.if-not-is_running.true in
    let some = c.in_ok-entry.ensures.some in
    help-lawful m.wiring m.state c.args.context.lane c.running_in.ensures.machine.state c.args.context.number
    c.args.item c.in_ok-entry.entry c.requires (c.has_context.ensures.0 c.if-has_context.true) idle some.0 some.1
    (sym c.lane_of.ensures.lane ∙ own) free

pub returns-else-eq : goal.returns-else-eq
returns-else-eq g c =
    let m = c.args.self.now in
    let q = c.args.context.lane in
    let h = c.args.context.number in
    let i = c.args.item in
    let sound = c.in_ok-entry.ensures.machine.state in
    elim c.else-eq.branch [
      | else-eq-via-then-eq+then-has_context+then-is_none+else-not-is_running w ↦ (
          let runs : is_running (lane_at m.state q) i ≡ true = sym (ap (λ (l : Lane). is_running l i) w.lane.ensures.lane) ∙ sym w.is_running.ensures ∙ w.if-not-is_running.false in
          not_help-runs m.wiring m.state q sound h i runs
          )
      | else-eq-via-then-eq+then-has_context+else-is_none w ↦
          not_help-busy m.wiring m.state q sound h i (λ none. both_ways w.is_none.result w.if-is_none.false (not-false w.is_none.result (sym w.is_none.ensures ∙ ap is_some (w.running_in.ensures.running ∙ none))))
      | else-eq-via-then-eq+else-has_context w ↦ not_help-context m.wiring m.state q sound h i (λ has. both_ways w.has_context.result w.if-has_context.false (w.has_context.ensures.1 has))
      | else-eq-via-else-eq w ↦ not_help-lane m.wiring m.state q sound h i (λ same. let at : c.lane_of.result ≡ q = c.lane_of.ensures.lane ∙ same in both_ways c.eq.result w.if-eq.false (c.eq.ensures ∙ eq-eqb c.lane_of.result q at))
    ]
