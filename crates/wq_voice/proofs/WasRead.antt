-- What was found in a text that was read: workqueues of the declared groups, and steps.
use Rattle.std.proofs.Common.{◌≡◌, ℕ, List, length, Option, Some, None, Ok, sym, ap, subst, ◌∙◌}
use Rattle.std.specs.Prelude.{IfSome, Vec, option_map}
use Rattle.wq_cert.specs.Part.{made_of}
use Rattle.wq_cert.specs.Texts.{workqueues_of_text}
use Rattle.wq_cert.proofs.LanesRead.{AreWorkqueuesOf-workqueues_of_text}
use Rattle.wq_core.specs.declared.step.Step.{Step}
use Rattle.wq_core.specs.Workqueues.{Workqueues}
use Rattle.wq_hang.specs.declared.hop.Hop.{Hop}
use Rattle.wq_hang.specs.Answer.{IsHangOf}
use Rattle.wq_circles.proofs.Found.{AnswersIn-read}
use Rattle.wq_commands.specs.declared.deadlocking.Verdict.{Verdict}
use Rattle.wq_commands.specs.declared.end.End.{End}
use Rattle.wq_commands.specs.declared.found.Found.TheVariants.{Read}
use Rattle.wq_commands.specs.declared.found.Which.TheVariants.{Certificate as SecondText, Run}
use Rattle.wq_commands.specs.declared.replaying.Replayed.{Replayed}
use Rattle.wq_commands.specs.Commands.{FindsEnd, FindsVerdict, JudgesText, ReplaysOn, ReplaysTexts}
use Rattle.wq_commands.specs.Deadlocking.{JudgesBy}
use Rattle.wq_commands.proofs.FoundLemmas.{JudgesBy-walk}
use Rattle.wq_groups.specs.DeclaredGroups.{declared_waits, Declared, IsSound}

-- each declared group is on one of the workqueues that were read
pub assigned_read : (s : Declared) (text : List ℕ) (ws : Workqueues) → IsSound s
    → workqueues_of_text s.table.names s.partition text ≡ Ok ws
    → length ws.assignment.lane_of_group ≡ s.partition.groups
assigned_read s text ws sound is =
    let are = AreWorkqueuesOf-workqueues_of_text s.table.names s.partition sound.partition (sym sound.one_group_each)
    text ws is in
    are.assignment.assignment.one_each

-- they hang by the walk that was found, if one was
walk_found : {A : Type 0} (s : Declared) (ws : Workqueues) (found : Option (Vec Hop A)) (end : End) (out : List ℕ)
    → JudgesBy s ws (option_map (λ (hops : Vec Hop A). hops.items) found) end out
    → IfSome found (λ (hops : Vec Hop A). (steps : List Step) × IsHangOf (declared_waits s) ws hops.items steps)
walk_found s ws (Some hops) end out by = JudgesBy-walk s ws hops.items end out by
walk_found s ws None end out by = tt

-- the verdict is on these workqueues, and they hang by the walk that was found
pub JudgesText-read : {A : Type 0} (s : Declared) (text : List ℕ) (v : Verdict A) (end : End) (out : List ℕ)
    → JudgesText s text (Read v) end out
    → (workqueues_of_text s.table.names s.partition text ≡ Ok v.workqueues)
    × IfSome v.hops (λ (hops : Vec Hop A). (steps : List Step)
    × IsHangOf (declared_waits s) v.workqueues hops.items steps)
JudgesText-read {A} s text v end out judged =
    let (ws, read, finds) = AnswersIn-read SecondText (workqueues_of_text s.table.names s.partition text)
    (λ ws. FindsVerdict s ws) v end out judged in
    let same : finds.verdict ≡ v = (let is = finds.is in cc) in
    let workqueues : v.workqueues ≡ ws = ap (λ (x : Verdict A). x.workqueues) (sym same) ∙ finds.workqueues in
    let by : JudgesBy s ws (option_map (λ (hops : Vec Hop A). hops.items) v.hops) end out =
    subst (λ (x : Verdict A). JudgesBy s ws (option_map (λ (hops : Vec Hop A). hops.items) x.hops) end out) same
    finds.judged in (
      read ∙ ap (λ (w : Workqueues). Ok w) (sym workqueues),
      walk_found s v.workqueues v.hops end out
          (subst (λ (w : Workqueues). JudgesBy s w (option_map (λ (hops : Vec Hop A). hops.items) v.hops) end out)
          (sym workqueues) by),
    )

-- the run was made on these workqueues; the unsure flushes that it keeps, and its steps
pub ReplaysTexts-read : {A : Type 0} (s : Declared) (lanes text : List ℕ) (r : Replayed A) (end : End) (out : List ℕ)
    → ReplaysTexts s lanes text (Read r) end out
    → (workqueues_of_text s.table.names s.partition lanes ≡ Ok r.workqueues)
    × (made_of s.table.names s.table.waits text
    ≡ Ok (option_map (λ places. places.items) r.kept, r.steps.items))
ReplaysTexts-read {A} s lanes text r end out replayed =
    let (ws, read, on) = AnswersIn-read SecondText (workqueues_of_text s.table.names s.partition lanes)
    (λ ws. ReplaysOn s ws text) r end out replayed in
    let (run, made_from, finds) = AnswersIn-read Run (made_of s.table.names s.table.waits text)
    (λ run. FindsEnd s ws run.0 run.1) r end out on in
    let same : finds.replayed ≡ r = (let is = finds.is in cc) in
    let workqueues : r.workqueues ≡ ws = ap (λ (x : Replayed A). x.workqueues) (sym same) ∙ finds.workqueues in
    let kept : option_map (λ places. places.items) r.kept ≡ run.0 =
    ap (λ (x : Replayed A). option_map (λ places. places.items) x.kept) (sym same) ∙ finds.keeps in
    let made : r.steps.items ≡ run.1 = ap (λ (x : Replayed A). x.steps.items) (sym same) ∙ finds.made in (
      read ∙ ap (λ (w : Workqueues). Ok w) (sym workqueues),
      made_from ∙ ap (λ (k : Option (List ℕ)). Ok (k, run.1)) (sym kept)
          ∙ ap (λ (l : List Step). Ok (option_map (λ places. places.items) r.kept, l)) (sym made),
    )
