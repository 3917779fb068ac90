-- From what is found to what is answered, and from the bytes that are kept to the texts.
use Rattle.std.proofs.Common.{◌≡◌, ℕ, ◌+◌, inl, inr, List, length, None, Result, subst, sym}
use Rattle.std.specs.Prelude.{take}
use Rattle.std.proofs.lemmas.Result.{MatchResult-weaker}
use Rattle.wq_text.specs.Limits.{limit_fault}
use Rattle.wq_text.specs.Refusal.{Refusal}
use Rattle.wq_groups.specs.DeclaredGroups.{declared_waits, Declared}
use Rattle.wq_core.specs.Workqueues.{Workqueues}
use Rattle.wq_fixed.specs.Fixed.{Fixed, start}
use Rattle.wq_fixed.proofs.StartKeeps.{IsAssignmentOf-start}
use Rattle.wq_cert.specs.declared.fault.CertError.{CertError}
use Rattle.wq_cert.specs.declared.fault.CertError.TheVariants as faults
use Rattle.wq_cert.specs.AroundReading.{around_of_text, around_reading}
use Rattle.wq_cert.specs.FixedReading.{fixed_of_text, fixed_reading}
use Rattle.wq_cert.specs.Reading.{answer_reading}
use Rattle.wq_cert.specs.Texts.{IsCertFaultOf, cert_refusal, max_certificate, max_certificate_line}
use Rattle.wq_cert.proofs.ReadRanges.{IsReadSo-text_reading}
use Rattle.wq_around.specs.declared.answer.Around.{Around}
use Rattle.wq_around.specs.declared.answer.Around.TheVariants as around
use Rattle.wq_around.specs.Around.{PlansAround}
use Rattle.wq_meter.specs.Shell.{Given, kept}
use Rattle.wq_commands.specs.declared.end.End.{End}
use Rattle.wq_commands.specs.declared.found.Found.{Found}
use Rattle.wq_commands.specs.declared.found.Found.TheVariants.{Read}
use Rattle.wq_commands.specs.declared.found.Which.{Which}
use Rattle.wq_commands.specs.declared.found.Which.TheVariants.{Certificate as SecondText, Run as ThirdText}
use Rattle.wq_commands.specs.Answer.{PrintsRefusal}
use Rattle.wq_commands.specs.Checking.{AnswersCheck}
use Rattle.wq_commands.specs.Commands.{three_texts, two_texts}
use Rattle.wq_commands.specs.Declaration.{declaration}
use Rattle.wq_commands.specs.Found.{AnswersIn, IsUnread}
use Rattle.wq_commands.specs.Shell.{AnswersTexts}
use Rattle.wq_commands.proofs.FoundLemmas.{AnswersIn-match, AnswersTexts-match, ChecksText-declared}
use Rattle.wq_commands.proofs.InputLemmas.{read-kept, text-kept}
use Rattle.wq_circles.proofs.Found.{AnswersIn-read}
use Rattle.wq_around_command.specs.declared.checking.Checked.{Checked}
use Rattle.wq_around_command.specs.declared.planning.Planned.{Planned}
use Rattle.wq_around_command.specs.declared.planning.Planned.TheVariants as planned
use Rattle.wq_around_command.specs.Checking.{AnswersCheckAround, ChecksAround, ChecksDeclaredAround, ChecksFixed}
use Rattle.wq_around_command.specs.Checking.{ChecksOn}
use Rattle.wq_around_command.specs.Checking.{ChecksTexts, FindsCheckAround}
use Rattle.wq_around_command.specs.Planning.{AnswersFixed, FindsPlanned, Plans, PlansDeclared, PlansText, PrintsAround}
use Rattle.wq_around_command.specs.Planning.{PrintsFixed}

-- a text that can't be read is answered by its refusal
pub AnswersIn-unread : {V T : Type 0} (which : Which) (read : Result V CertError)
    (Finds : V → Found T → End → List ℕ → Type 0) (fault : CertError) (found : Found T) (end : End) (out : List ℕ)
    → IsCertFaultOf fault read → IsUnread which fault found end out → AnswersIn which read Finds found end out
AnswersIn-unread which read Finds (faults.BadCertLine line) found end out is unread =
    subst (λ r. AnswersIn which r Finds found end out) (sym is) unread
AnswersIn-unread which read Finds (faults.NotAllItems line) found end out is unread =
    subst (λ r. AnswersIn which r Finds found end out) (sym is) unread
AnswersIn-unread which read Finds (faults.GroupSplit line) found end out is unread =
    subst (λ r. AnswersIn which r Finds found end out) (sym is) unread
AnswersIn-unread which read Finds (faults.NumberOutOfRange line) found end out is unread =
    subst (λ r. AnswersIn which r Finds found end out) (sym is) unread
AnswersIn-unread which read Finds faults.OutOfMemory found end out is unread = absurd unread

-- ---- `plan`

module _ {A : Type 0} (s : Declared) where
  -- what is printed of an answer is the answer to the fixed workqueues
  printed : (f : Fixed) (answer : Around A) (end : End) (out : List ℕ) → PlansAround (declared_waits s) f answer
      → PrintsAround s f answer end out → PrintsFixed s f end out
  printed f (around.Plan workqueues order chain) end out plans (good, text) =
      subst (λ (e : End). PrintsFixed s f e out) (sym good)
      (record { workqueues = workqueues; order = order.items; chain = chain.items; planned = plans; text = text })
  printed f (around.Circle arcs) end out plans (bad, steps, hang, text) =
      subst (λ (e : End). PrintsFixed s f e out) (sym bad)
      (inl (record { circle = arcs.items; circled = plans; steps = steps; hang = hang; text = text }))
  printed f (around.NoRescuer arc) end out plans (bad, steps, hang, text) =
      subst (λ (e : End). PrintsFixed s f e out) (sym bad)
      (inr (record { arc = arc; held = plans; steps = steps; hang = hang; text = text }))

  answered : (found : Found (Planned A)) (end : End) (out : List ℕ) (f : Fixed) → FindsPlanned s f found end out
      → AnswersFixed s f end out
  answered found end out f (inl (none, is, answers)) = inl (none, answers)
  answered found end out f (inr (some, finds)) =
      inr (some, printed f finds.answer end out finds.plans finds.printed)

  pub PlansText-declared : (text : List ℕ) (found : Found (Planned A)) (end : End) (out : List ℕ)
      → PlansText s text found end out → PlansDeclared s text end out
  PlansText-declared text found end out =
      AnswersIn-match SecondText (fixed_of_text s.table.names s.partition text) (λ f. FindsPlanned s f)
      (λ f. AnswersFixed s f) found end out (answered found end out)

  -- ---- what is said of what was found

  -- where there is a fixed workqueue, the start is one of the declared groups, and the text is within the limits
  pub PlansText-around : (text : List ℕ) (ws : Workqueues) (answer : Around A) (end : End) (out : List ℕ)
      → PlansText {A = A} s text (Read (planned.Around ws answer)) end out
      → (limit_fault max_certificate max_certificate_line text ≡ None)
      × (length ws.assignment.lane_of_group ≡ s.partition.groups)
  PlansText-around text ws answer end out h =
      let (f, read, finds) = AnswersIn-read SecondText (fixed_of_text s.table.names s.partition text)
      (λ f. FindsPlanned {A = A} s f) (planned.Around ws answer) end out h in
      ((IsReadSo-text_reading (fixed_reading s.table.names s.partition) text f read).within, around_groups f finds)
    where
      around_groups : (f : Fixed) → FindsPlanned {A = A} s f (Read (planned.Around ws answer)) end out
          → length ws.assignment.lane_of_group ≡ s.partition.groups
      around_groups f (inl (none, is, answers)) = absurd cc
      around_groups f (inr (some, finds)) =
          let is = finds.is in
          let same : start f ≡ ws = cc in
          subst (λ (w : Workqueues). length w.assignment.lane_of_group ≡ s.partition.groups) same
          (IsAssignmentOf-start s.partition.groups f finds.fixed).assignment.one_each

-- what is past a limit changes no answer
pub plan_around-kept : {A : Type 0} (texts : Given) (found : Result (Found (Planned A)) Refusal) (end : End)
    (out : List ℕ)
    → AnswersTexts (λ s t (f : Found (Planned A)) e o. PlansText s t.second f e o) (kept two_texts texts) found end out
    → Plans texts.first texts.second end out
plan_around-kept {A} texts found end out h =
    let text = take (max_certificate + 1) texts.second in
    read-kept end out (λ s. fixed_reading s.table.names s.partition) (λ _ _ s f. AnswersFixed s f end out) texts.first
    texts.second
    (AnswersTexts-match (λ s t (f : Found (Planned A)) e o. PlansText s t.second f e o) (λ s. PlansDeclared s text)
    (kept two_texts texts) found end out (λ s f. PlansText-declared s text f end out) h)

-- ---- `check`

module _ (s : Declared) where
  checks_fixed : (text : List ℕ) (found : Found Checked) (end : End) (out : List ℕ) (f : Fixed)
      → ChecksOn s f text found end out → ChecksFixed s f text end out
  checks_fixed text found end out f (inl (none, plain, is, checks)) =
      inl (none, ChecksText-declared s text plain end out checks)
  checks_fixed text found end out f (inr (some, own, is, checks)) =
      inr (
        some,
        AnswersIn-match SecondText (around_of_text s.table.names s.partition f text)
            (λ c. FindsCheckAround s f c) (λ c. AnswersCheckAround s f c) own end out (λ c h. (h.0, h.2, h.3)) checks,
      )

  pub ChecksTexts-declared : (text fixed : List ℕ) (found : Found Checked) (end : End) (out : List ℕ)
      → ChecksTexts s text fixed found end out → ChecksDeclaredAround s text fixed end out
  ChecksTexts-declared text fixed found end out =
      AnswersIn-match ThirdText (fixed_of_text s.table.names s.partition fixed) (λ f. ChecksOn s f text)
      (λ f. ChecksFixed s f text) found end out (checks_fixed text found end out)

-- an answer to what is kept of a certificate is one to its text
checks-kept : (s : Declared) (text : List ℕ) (end : End) (out : List ℕ) (f : Fixed)
    → ChecksFixed s f (take (max_certificate + 1) text) end out → ChecksFixed s f text end out
checks-kept s text end out f (inl (none, checks)) =
    inl (
      none,
      text-kept (answer_reading s.table.names s.partition) (λ _ c. AnswersCheck s c end out)
          (λ fault. PrintsRefusal (cert_refusal fault) end out) text checks,
    )
checks-kept s text end out f (inr (some, checks)) =
    inr (
      some,
      text-kept (around_reading s.table.names s.partition f) (λ _ c. AnswersCheckAround s f c end out)
          (λ fault. PrintsRefusal (cert_refusal fault) end out) text checks,
    )

pub check_around-kept : (texts : Given) (found : Result (Found Checked) Refusal) (end : End) (out : List ℕ)
    → AnswersTexts (λ s t f e o. ChecksTexts s t.second t.third f e o) (kept three_texts texts) found end out
    → ChecksAround texts.first texts.second texts.third end out
check_around-kept texts found end out h =
    let text = take (max_certificate + 1) texts.second in
    let fixed = take (max_certificate + 1) texts.third in
    MatchResult-weaker (declaration texts.first)
    (read-kept end out (λ s. fixed_reading s.table.names s.partition) (λ _ _ s f. ChecksFixed s f text end out)
    texts.first
    texts.third
    (AnswersTexts-match (λ s t f e o. ChecksTexts s t.second t.third f e o) (λ s. ChecksDeclaredAround s text fixed)
    (kept three_texts texts) found end out (λ s f. ChecksTexts-declared s text fixed f end out) h))
    (λ s read. MatchResult-weaker (fixed_of_text s.table.names s.partition texts.third) read
    (checks-kept s texts.second end out) (λ fault refused. refused))
    (λ r refused. refused)
