use Rattle.std.proofs.Common.{◌≡◌, ◌≢◌, ◌++◌, ℕ, List, ap, subst, ◌∙◌}
use Rattle.wq_meter.specs.Meter.{WritesPrefix, WritesWhole}
use Rattle.wq_meter.specs.declared.fault.Fault.TheVariants.{Memory, Read, Write}
use Rattle.wq_run.specs.declared.fault.CommandFault.{CommandFault}
use Rattle.wq_run.specs.declared.fault.CommandFault.TheVariants.{Common, Tally, Thread}
use Rattle.wqplan.specs.Status.{unheld}
use Rattle.wqplan.proofs.AskedLemmas.{IsToldAsAsked-written}
use Rattle.wqplan.proofs.performing.perform_above.Goals as goal

-- what is held is written
pub returns-in_ok-write_text-in-Ok-clause-promised : goal.returns-in_ok-write_text-in-Ok-clause-promised
returns-in_ok-write_text-in-Ok-clause-promised g c =
    let promised = c.in-Ok.ensures.promised in
    let out = promised.0 in
    let same : c.deref.result.now ≡ out =
    c.deref.ensures.value ∙ ap (λ v. v.items) c.into_inner.ensures ∙ promised.2.appended
    ∙ ap (λ m. m.device.items ++ out) c.new-held.ensures ∙ ap (λ (l : List ℕ). l ++ out) c.new.ensures.items in (
      out,
      promised.1,
      subst (λ (l : List ℕ). WritesWhole g.W.Write.contents c.args.writer.now c.write_text.new.writer l) same
          c.in_ok-write_text-in-Ok.ensures.whole,
    )

pub returns-in_ok-write_text-in-Ok-clause-told : goal.returns-in_ok-write_text-in-Ok-clause-told
returns-in_ok-write_text-in-Ok-clause-told g c =
    IsToldAsAsked-written (λ l h.
    let same : c.deref.result.now ≡ l =
    c.deref.ensures.value ∙ ap (λ v. v.items) c.into_inner.ensures ∙ h.appended
    ∙ ap (λ m. m.device.items ++ l) c.new-held.ensures ∙ ap (λ (k : List ℕ). k ++ l) c.new.ensures.items in
    subst (λ (l : List ℕ). WritesWhole g.W.Write.contents c.args.writer.now c.write_text.new.writer l) same
    c.in_ok-write_text-in-Ok.ensures.whole) c.in-Ok.ensures.told

pub returns-in_err-write_text-in-Ok-clause-told_first : goal.returns-in_err-write_text-in-Ok-clause-told_first
returns-in_err-write_text-in-Ok-clause-told_first g c = λ _. (
  c.in-Ok.end,
  IsToldAsAsked-written (λ l h.
      let same : c.deref.result.now ≡ l =
      c.deref.ensures.value ∙ ap (λ v. v.items) c.into_inner.ensures ∙ h.appended
      ∙ ap (λ m. m.device.items ++ l) c.new-held.ensures ∙ ap (λ (k : List ℕ). k ++ l) c.new.ensures.items in
      subst (λ (l : List ℕ). WritesPrefix g.W.Write.contents c.args.writer.now c.write_text.new.writer l) same
      c.in_err-write_text-in-Ok.ensures.prefix) c.in-Ok.ensures.told,
)

-- an answer that is held isn't stopped by a write
never_written : (fault : CommandFault) → unheld fault ≢ Common Write
never_written (Common Memory) = λ is. cc
never_written (Common Read) = λ is. cc
never_written (Common Write) = λ is. cc
never_written Thread = λ is. cc
never_written Tally = λ is. cc

pub returns-in-Err-clause-told_first : goal.returns-in-Err-clause-told_first
returns-in-Err-clause-told_first g c = λ is. absurd (never_written c.in-Err.fault cc)
