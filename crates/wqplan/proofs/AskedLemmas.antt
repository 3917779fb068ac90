-- A command was carried out on its files: so ended, and so was told, what was asked for.
use Rattle.std.proofs.Common.{◌≡◌, ◌≤◌, Bool, false, true, ℕ, List, [], Option, Some, Result, Ok, Err, arith, inl, inr}
use Rattle.std.proofs.Common.{refl, subst, sym}
use Rattle.std.specs.Prelude.{IfOk}
use Rattle.clap.specs.Words.{Text}
use Rattle.wq_text.specs.Refusal.{Refusal}
use Rattle.wq_meter.specs.Meter.{Meter, WritesWhole}
use Rattle.wq_meter.specs.Shell.{Given, Tells, kept}
use Rattle.wq_meter.specs.declared.texts.Limits.{Limits}
use Rattle.wq_commands.specs.Commands.{one_or_two_texts}
use Rattle.wq_groups.specs.DeclaredGroups.{Declared}
use Rattle.wq_commands.specs.Declaration.{max_declaration}
use Rattle.wq_commands.specs.Shell.{AnswersTexts, IsAnswered, SaysOfTexts}
use Rattle.wq_commands.specs.declared.end.End.{End}
use Rattle.wq_diagnosis.specs.Refused.{Diagnoses}
use Rattle.wq_run.specs.declared.fault.CommandFault.{CommandFault}
use Rattle.wqplan.specs.CommandLine.{Asked, Behind, HasFew, helpers, helpers_asked, names, nothing, word, word_asked}
use Rattle.wqplan.specs.Ended.{EndedBy, EndsAsAsked, EndsExplain, EndsOn, HasTexts, limits_of}
use Rattle.wqplan.specs.Files.{EndsIn, HaveTexts}
use Rattle.wqplan.specs.Told.{IsSaidOf, IsToldAsAsked, Names, SaysOn, names_of_files}
use Rattle.wqplan.specs.declared.command_line.Files.{Files}
use Rattle.wqplan.specs.declared.commands.Verb.{Verb}
use Rattle.wqplan.specs.declared.commands.Verb.TheVariants.{Explain}
use Rattle.wqplan.proofs.EndedLemmas.{EndedBy-weaker}

-- what is said of more is said
pub Tells-weaker : {W : Type 0} (contents : W → Option (List ℕ)) (old new : Meter W) (P Q : Option (List ℕ) → Type 0)
    → ((said : Option (List ℕ)) → P said → Q said) → Tells contents old new P → Tells contents old new Q
Tells-weaker contents old new P Q f (inl same) = inl same
Tells-weaker contents old new P Q f (inr h) = inr (h.0, f h.0 h.1, h.2)

-- a command with or without an assignment reads a declaration, whichever it is
pub first_limit : (assigned : Bool) → (one_or_two_texts assigned).first ≡ max_declaration
first_limit false = refl
first_limit true = refl

-- at most 8 helpers are asked for, if any
pub few_helpers : (behind : Behind) → HasFew behind → helpers_asked behind ≤ 8
few_helpers nothing few = omega arith
few_helpers (names given) few = omega arith
few_helpers (helpers count) few = few
few_helpers (word given) few = omega arith

module _ (Holds : Text → List ℕ → Type 0) (Input : List ℕ → Type 0) (verb : Verb) (files : Files Text)
    (behind : Behind) {F : Type 0} (limits : Limits) (Answers : Declared → Given → F → End → List ℕ → Type 0)
    (have : (t : Given) → HaveTexts Holds Input limits files t → HasTexts Holds Input verb files t)
    (ends : (t : Given) (found : Result F Refusal) (end : End) (out : List ℕ)
    → AnswersTexts Answers (kept limits t) found end out → EndsOn verb files behind t end out) where
  -- what is asked for: this command on these files
  abbrev pub on : Verb → Asked
  on v = record { verb = v; files = files; behind = behind }

  module _ {W : Type 0} (contents : W → Option (List ℕ)) (old new : Meter W) (v : Verb) (is : v ≡ verb)
      (result : Result End CommandFault) where
    pub ended_as : EndedBy contents old new (EndsIn (HaveTexts Holds Input limits files) limits Answers) result
        → EndedBy contents old new (EndsAsAsked Holds Input (on v)) result
    ended_as h =
        subst (λ w. EndedBy contents old new (EndsAsAsked Holds Input (on w)) result) (sym is)
        (EndedBy-weaker contents old new (EndsIn (HaveTexts Holds Input limits files) limits Answers)
        (EndsAsAsked Holds Input (on verb))
        (λ end out h. (h.0, have h.0 h.1, ends h.0 h.2 end out h.3)) result h)

    module _ (A : Type 0) (Says : Names → Declared → Given → F → Option (List ℕ) → Type 0)
        (says : (t : Given) (end : End) (out : List ℕ) (said : Option (List ℕ))
        → IsSaidOf (names_of_files files).declaration Answers (Says (names_of_files files)) (kept limits t) end out said
        → SaysOn A (names_of_files files) verb files behind (kept (limits_of verb files) t) end out said)
        (n : Names) (named : n ≡ names_of_files files) {E : Type 0} (told : E → Option (List ℕ))
        (teller told_by : Meter E) where
      -- what a voice with these names says of what is found
      abbrev pub By : Names → Given → Result F Refusal → Option (List ℕ) → Type 0
      By m t found = SaysOfTexts (Says m) (λ _ r words. Diagnoses m.declaration (Some r) words) t found

      told_so : (end : End)
          → IsAnswered limits (HaveTexts Holds Input limits files) (λ t found out. AnswersTexts Answers t found end out)
          (WritesWhole contents old new) (λ t found. Tells told teller told_by (By n t found))
          → IsToldAsAsked A Holds Input (on verb) end (WritesWhole contents old new) (Tells told teller told_by)
      told_so end h = record {
        texts = h.texts;
        have = have h.texts h.from;
        out = h.out;
        answer = ends h.texts h.found end h.out h.answer;
        written = h.written;
        told = Tells-weaker told teller told_by (By n (kept limits h.texts) h.found)
            (SaysOn A (names_of_files files) verb files behind (kept (limits_of verb files) h.texts) end h.out)
            (λ said s. says h.texts end h.out said (
              h.found,
              h.answer,
              subst (λ m. By m (kept limits h.texts) h.found said) named s,
            )) h.told;
      }

      of_ok : (r : Result End CommandFault)
          → IfOk r (λ end.
          IsAnswered limits (HaveTexts Holds Input limits files) (λ t found out. AnswersTexts Answers t found end out)
          (WritesWhole contents old new) (λ t found. Tells told teller told_by (By n t found)))
          → IfOk r (λ end.
          IsToldAsAsked A Holds Input (on verb) end (WritesWhole contents old new) (Tells told teller told_by))
      of_ok (Ok end) h = told_so end h
      of_ok (Err fault) h = tt

      pub told_as : IfOk result (λ end.
          IsAnswered limits (HaveTexts Holds Input limits files) (λ t found out. AnswersTexts Answers t found end out)
          (WritesWhole contents old new) (λ t found. Tells told teller told_by (By n t found)))
          → IfOk result (λ end.
          IsToldAsAsked A Holds Input (on v) end (WritesWhole contents old new) (Tells told teller told_by))
      told_as h =
          subst (λ w. IfOk result (λ end.
          IsToldAsAsked A Holds Input (on w) end (WritesWhole contents old new) (Tells told teller told_by))) (sym is)
          (of_ok result h)

-- what is said of an answer doesn't depend on how the answer is written
pub IsToldAsAsked-written : {A : Type 0} {Holds : Text → List ℕ → Type 0} {Input : List ℕ → Type 0} {asked : Asked}
    {end : End} {IsWritten IsPut : List ℕ → Type 0} {IsTold : (Option (List ℕ) → Type 0) → Type 0}
    → ((out : List ℕ) → IsWritten out → IsPut out) → IsToldAsAsked A Holds Input asked end IsWritten IsTold
    → IsToldAsAsked A Holds Input asked end IsPut IsTold
IsToldAsAsked-written f h = record {
  texts = h.texts;
  have = h.have;
  out = h.out;
  answer = h.answer;
  written = f h.out h.written;
  told = h.told;
}

-- ---- `explain`, which reads nothing and says nothing

module _ (A : Type 0) (Holds : Text → List ℕ → Type 0) (Input : List ℕ → Type 0) (files : Files Text) (behind : Behind)
    (v : Verb) (is : v ≡ Explain) {W : Type 0} (contents : W → Option (List ℕ)) (old new : Meter W) where
  abbrev pub explaining : Verb → Asked
  explaining w = record { verb = w; files = files; behind = behind }

  -- texts that nobody reads
  no_texts : Given
  no_texts = record { first = []; second = []; third = [] }

  pub explain_ended : (result : Result End CommandFault)
      → EndedBy contents old new (EndsExplain (word_asked behind)) result
      → EndedBy contents old new (EndsAsAsked Holds Input (explaining v)) result
  explain_ended result h =
      subst (λ w. EndedBy contents old new (EndsAsAsked Holds Input (explaining w)) result) (sym is)
      (EndedBy-weaker contents old new (EndsExplain (word_asked behind)) (EndsAsAsked Holds Input (explaining Explain))
      (λ end out h. (no_texts, tt, h)) result h)

  module _ {E : Type 0} (told : E → Option (List ℕ)) (teller : Meter E) where
    explain_so : (result : Result End CommandFault) → EndedBy contents old new (EndsExplain (word_asked behind)) result
        → IfOk result (λ end.
        IsToldAsAsked A Holds Input (explaining Explain) end (WritesWhole contents old new) (Tells told teller teller))
    explain_so (Ok end) h = record {
      texts = no_texts;
      have = tt;
      out = h.0;
      answer = h.1;
      written = h.2;
      told = inl refl;
    }
    explain_so (Err fault) h = tt

    pub explain_told : (result : Result End CommandFault)
        → EndedBy contents old new (EndsExplain (word_asked behind)) result
        → IfOk result (λ end.
        IsToldAsAsked A Holds Input (explaining v) end (WritesWhole contents old new) (Tells told teller teller))
    explain_told result h =
        subst (λ w. IfOk result (λ end.
        IsToldAsAsked A Holds Input (explaining w) end (WritesWhole contents old new) (Tells told teller teller)))
        (sym is) (explain_so result h)
