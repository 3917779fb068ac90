-- The text that was read, and the text that there was: the answer to the prefix that was read is the answer to the text.
use Rattle.std.proofs.Common.{◌≡◌, ℕ, ◌+◌, List, length, Option, Result, Ok, Err, inl, inr, refl, sym, subst, ◌∙◌}
use Rattle.std.proofs.Common.{arith}
use Rattle.std.specs.Prelude.{MatchResult, take}
use Rattle.std.proofs.lemmas.Bool.{cases_lt}
use Rattle.std.proofs.lemmas.List.{take_all}
use Rattle.std.proofs.lemmas.Result.{MatchResult-weaker}
use Rattle.wq_text.specs.Refusal.{Refusal}
use Rattle.wq_core.specs.Workqueues.{Workqueues}
use Rattle.wq_core.specs.declared.step.Step.{Step}
use Rattle.wq_cert.specs.declared.fault.CertError.{CertError}
use Rattle.wq_cert.specs.declared.fault.CertError.TheVariants.{BadCertLine}
use Rattle.wq_cert.specs.Lines.{CertLine}
use Rattle.wq_cert.specs.Part.{made_of, made_reading}
use Rattle.wq_cert.specs.Reading.{answer_reading, lanes_reading}
use Rattle.wq_cert.specs.Texts.{text_reading, workqueues_of_text, cert_refusal, max_certificate}
use Rattle.wq_cert.proofs.LongCertificates.{text_reading-long, text_reading-take}
use Rattle.wq_commands.specs.declared.end.End.{End}
use Rattle.wq_commands.specs.Answer.{PrintsRefusal}
use Rattle.wq_commands.specs.Checking.{AnswersCheck, Checks}
use Rattle.wq_commands.specs.Deadlocking.{JudgesAssigned, Judges}
use Rattle.wq_groups.specs.DeclaredGroups.{Declared}
use Rattle.wq_commands.specs.Declaration.{declaration, max_declaration}
use Rattle.wq_commands.specs.Replaying.{AnswersReplay, ReplaysRun}
use Rattle.wq_commands.proofs.AnswerLemmas.{declaration-take, too_long}

-- ---- a text that is no longer than it may be was read to its end

-- so was what is a declaration
declaration-whole : (text : List ℕ) (s : Declared) → declaration text ≡ Ok s → take (max_declaration + 1) text ≡ text
declaration-whole text s is = elim (cases_lt max_declaration (length text)) [
  | inl long ↦ absurd (let never : Err (record { code = 1; line = 0 }) ≡ Ok s = sym (too_long text long) ∙ is in cc)
  | inr short ↦ take_all (max_declaration + 1) text (omega (arith, short))
]

-- and so was any other text that says something
text_reading-whole : {V : Type 0} (read : List CertLine → Result V CertError) (text : List ℕ) (v : V)
    → text_reading read text ≡ Ok v → take (max_certificate + 1) text ≡ text
text_reading-whole {V} read text v is = elim (cases_lt max_certificate (length text)) [
  | inl long ↦ absurd (let never : Err (BadCertLine 0) ≡ Ok v = sym (text_reading-long read text long) ∙ is in cc)
  | inr short ↦ take_all (max_certificate + 1) text (omega (arith, short))
]

-- ---- answers to prefixes

-- an answer to what a text says, which may depend on the bytes of the text. The kept bytes say the same
module _ {V E : Type 0} (Answers : List ℕ → V → Type 0) (Refuses : E → Type 0) (kept text : List ℕ) where
  of_whole : (said : Result V E) → ((v : V) → said ≡ Ok v → kept ≡ text)
      → MatchResult said (Answers kept) Refuses → MatchResult said (Answers text) Refuses
  of_whole (Ok v) whole answer = subst (λ (bytes : List ℕ). Answers bytes v) (whole v refl) answer
  of_whole (Err e) whole refused = refused

  of_kept : (read : List ℕ → Result V E) → read kept ≡ read text → ((v : V) → read text ≡ Ok v → kept ≡ text)
      → MatchResult (read kept) (Answers kept) Refuses → MatchResult (read text) (Answers text) Refuses
  of_kept read same whole answer =
      of_whole (read text) whole (subst (λ (said : Result V E). MatchResult said (Answers kept) Refuses) same answer)

-- of a declaration
pub declaration-kept : (Answers : List ℕ → Declared → Type 0) (Refuses : Refusal → Type 0) (text : List ℕ)
    → MatchResult (declaration (take (max_declaration + 1) text)) (Answers (take (max_declaration + 1) text)) Refuses
    → MatchResult (declaration text) (Answers text) Refuses
declaration-kept Answers Refuses text =
    of_kept Answers Refuses (take (max_declaration + 1) text) text declaration (declaration-take text)
    (declaration-whole text)

-- of any other text
pub text-kept : {V : Type 0} (read : List CertLine → Result V CertError) (Answers : List ℕ → V → Type 0)
    (Refuses : CertError → Type 0) (text : List ℕ)
    → MatchResult (text_reading read (take (max_certificate + 1) text)) (Answers (take (max_certificate + 1) text))
    Refuses
    → MatchResult (text_reading read text) (Answers text) Refuses
text-kept {V} read Answers Refuses text =
    of_kept Answers Refuses (take (max_certificate + 1) text) text (text_reading read) (text_reading-take read text)
    (text_reading-whole read text)

-- of a declaration, and of a text that is read for its items
pub both-kept : {V : Type 0} (read : Declared → List CertLine → Result V CertError)
    (Answers : List ℕ → List ℕ → Declared → V → Type 0) (Refuses : CertError → Type 0) (RefusesFirst : Refusal → Type 0)
    (declared text : List ℕ)
    → MatchResult (declaration (take (max_declaration + 1) declared))
    (λ s. MatchResult (text_reading (read s) (take (max_certificate + 1) text))
    (Answers (take (max_declaration + 1) declared) (take (max_certificate + 1) text) s) Refuses) RefusesFirst
    → MatchResult (declaration declared)
    (λ s. MatchResult (text_reading (read s) text) (Answers declared text s) Refuses) RefusesFirst
both-kept {V} read Answers Refuses RefusesFirst declared text answer =
    MatchResult-weaker (declaration declared)
    (declaration-kept (λ bytes s. MatchResult (text_reading (read s) (take (max_certificate + 1) text))
    (Answers bytes (take (max_certificate + 1) text) s) Refuses) RefusesFirst declared answer)
    (λ s. text-kept (read s) (λ bytes. Answers declared bytes s) Refuses text)
    (λ r refused. refused)

-- of a declaration, an assignment of it, and a run
pub run-kept : (Answers : Declared → Workqueues → Option (List ℕ) × List Step
    → Type 0) (RefusesRun RefusesSecond : CertError → Type 0)
    (RefusesFirst : Refusal → Type 0) (declared lanes steps : List ℕ)
    → MatchResult (declaration (take (max_declaration + 1) declared))
    (λ s. MatchResult (workqueues_of_text s.table.names s.partition (take (max_certificate + 1) lanes))
    (λ ws. MatchResult (made_of s.table.names s.table.waits (take (max_certificate + 1) steps)) (Answers s ws)
    RefusesRun)
    RefusesSecond) RefusesFirst
    → MatchResult (declaration declared)
    (λ s. MatchResult (workqueues_of_text s.table.names s.partition lanes)
    (λ ws. MatchResult (made_of s.table.names s.table.waits steps) (Answers s ws) RefusesRun) RefusesSecond)
    RefusesFirst
run-kept Answers RefusesRun RefusesSecond RefusesFirst declared lanes steps answer =
    MatchResult-weaker (declaration declared)
    (both-kept (λ s. lanes_reading s.table.names s.partition)
    (λ _ _ s ws. MatchResult (made_of s.table.names s.table.waits (take (max_certificate + 1) steps)) (Answers s ws)
    RefusesRun)
    RefusesSecond RefusesFirst declared lanes answer)
    (λ s read. MatchResult-weaker (workqueues_of_text s.table.names s.partition lanes) read
    (λ ws. text-kept (made_reading s.table.names s.table.waits) (λ _. Answers s ws) RefusesRun steps)
    (λ fault refused. refused))
    (λ r refused. refused)

-- ---- the commands

module _ (end : End) (out : List ℕ) where
  -- an answer to a declaration, or its refusal
  pub declared-kept : (Answers : List ℕ → Declared → Type 0) (text : List ℕ)
      → MatchResult (declaration (take (max_declaration + 1) text)) (Answers (take (max_declaration + 1) text))
      (λ r. PrintsRefusal r end out)
      → MatchResult (declaration text) (Answers text) (λ r. PrintsRefusal r end out)
  declared-kept Answers = declaration-kept Answers (λ r. PrintsRefusal r end out)

  -- an answer to a declaration and another text, or the refusal of the first of them that is refused
  pub read-kept : {V : Type 0} (read : Declared → List CertLine → Result V CertError)
      (Answers : List ℕ → List ℕ → Declared → V → Type 0) (declared text : List ℕ)
      → MatchResult (declaration (take (max_declaration + 1) declared))
      (λ s. MatchResult (text_reading (read s) (take (max_certificate + 1) text))
      (Answers (take (max_declaration + 1) declared) (take (max_certificate + 1) text) s)
      (λ fault. PrintsRefusal (cert_refusal fault) end out)) (λ r. PrintsRefusal r end out)
      → MatchResult (declaration declared) (λ s. MatchResult (text_reading (read s) text) (Answers declared text s)
      (λ fault. PrintsRefusal (cert_refusal fault) end out)) (λ r. PrintsRefusal r end out)
  read-kept {V} read Answers =
      both-kept read Answers (λ fault. PrintsRefusal (cert_refusal fault) end out) (λ r. PrintsRefusal r end out)

  -- if the other text is an assignment
  pub assigned-kept : (Answers : List ℕ → List ℕ → Declared → Workqueues → Type 0) (declared text : List ℕ)
      → MatchResult (declaration (take (max_declaration + 1) declared))
      (λ s. MatchResult (workqueues_of_text s.table.names s.partition (take (max_certificate + 1) text))
      (Answers (take (max_declaration + 1) declared) (take (max_certificate + 1) text) s)
      (λ fault. PrintsRefusal (cert_refusal fault) end out)) (λ r. PrintsRefusal r end out)
      → MatchResult (declaration declared)
      (λ s. MatchResult (workqueues_of_text s.table.names s.partition text) (Answers declared text s)
      (λ fault. PrintsRefusal (cert_refusal fault) end out)) (λ r. PrintsRefusal r end out)
  assigned-kept = read-kept (λ s. lanes_reading s.table.names s.partition)

  pub Checks-take : (text claim : List ℕ)
      → Checks (take (max_declaration + 1) text) (take (max_certificate + 1) claim) end out → Checks text claim end out
  Checks-take =
      read-kept (λ s. answer_reading s.table.names s.partition) (λ _ _ s c. AnswersCheck s c end out)

  pub Judges-take : (declared text : List ℕ)
      → Judges (take (max_declaration + 1) declared) (take (max_certificate + 1) text) end out
      → Judges declared text end out
  Judges-take = assigned-kept (λ _ _ s ws. JudgesAssigned s ws end out)

  pub ReplaysRun-take : (text lanes steps : List ℕ)
      → ReplaysRun (take (max_declaration + 1) text) (take (max_certificate + 1) lanes)
      (take (max_certificate + 1) steps) end out → ReplaysRun text lanes steps end out
  ReplaysRun-take =
      run-kept (λ s ws run. AnswersReplay s ws run.0 run.1 end out)
      (λ fault. PrintsRefusal (cert_refusal fault) end out)
      (λ fault. PrintsRefusal (cert_refusal fault) end out) (λ r. PrintsRefusal r end out)
