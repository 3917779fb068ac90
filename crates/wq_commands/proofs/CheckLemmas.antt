-- Answers to certificates and to runs.
use Rattle.std.proofs.Common.{◌≡◌, ℕ, ◌<◌, List, length, Result, Ok, Err, subst, sym, inl, inr, ap, arith}
use Rattle.std.specs.Prelude.{MatchResult, IfErr, Contains, []}
use Rattle.std.specs.List.{All}
use Rattle.std.proofs.lemmas.Bool.{cases_lt}
use Rattle.std.proofs.lemmas.List.{get_or_past}
use Rattle.std.proofs.lemmas.List.Elements.{All-contains}
use Rattle.wq_items.specs.declared.target.Target.{Target}
use Rattle.wq_items.specs.Table.{targets_of}
use Rattle.wq_items.proofs.Tables.{targets_of-below}
use Rattle.wq_cert.specs.Certificate.{Certificate, PlanCertificate, CircleCertificate, OfPlan, OfCircle}
use Rattle.wq_cert.specs.Ranges.{IsArcOf, IsCertificateOf}
use Rattle.wq_cert.specs.Texts.{answer_of}
use Rattle.wq_cert.proofs.ReadRanges.{IsCertificateOf-answer_of}
use Rattle.wq_checker.specs.declared.answer.Yes.{Yes}
use Rattle.wq_checker.specs.declared.answer.Yes.TheVariants as yes
use Rattle.wq_checker.specs.declared.answer.No.{No}
use Rattle.wq_checker.specs.declared.answer.No.TheVariants.{NotFalling, LengthDiffers, ChainBroken, CircleBroken, RunBroken}
use Rattle.wq_checker.specs.Answers.{IsAsked, AnswersPlan, AnswersCircle, AnswersCertificate}
use Rattle.wq_checker.specs.Falling.{IsFirstNotFalling}
use Rattle.wq_groups.specs.DeclaredGroups.{declared_waits, Declared}
use Rattle.wq_commands.specs.Checking.{NamesItems}
use Rattle.wq_commands.proofs.AnswerLemmas.{IsSound}

-- what is said about the value of a result, if the value is known
pub MatchResult-ok : {V E : Type 0} (r : Result V E) (v : V) (Good : V → Type 0) (Bad : E → Type 0) → r ≡ Ok v → Good v → MatchResult r Good Bad
MatchResult-ok {V} {E} r v Good Bad is good = subst (λ (s : Result V E). MatchResult s Good Bad) (sym is) good

-- what is in range can be asked about
IsAsked-in_range : (s : Declared) (c : Certificate) → IsSound s → IsCertificateOf (length s.table.names) s.partition.groups c → IsAsked (declared_waits s) c
IsAsked-in_range s (OfPlan c) sound is = record {
  assignment = is.assignment.assignment;
  arcs = subst (λ n. All (IsArcOf n) c.arcs) (sym sound.table.one_list_each) is.arcs;
  count = is.count;
}
IsAsked-in_range s (OfCircle c) sound is = record {
  arcs = subst (λ n. All (IsArcOf n) c.arcs) (sym sound.table.one_list_each) is.arcs;
  some = is.some;
  few = is.few;
  few_steps = λ steps e. (is.run steps e).few;
}

-- what is read can be asked about
pub IsAsked-read : (s : Declared) (text : List ℕ) (c : Certificate) → IsSound s → answer_of s.table.names s.partition text ≡ Ok c → IsAsked (declared_waits s) c
IsAsked-read s text c sound read = IsAsked-in_range s c sound (IsCertificateOf-answer_of s.table.names s.partition sound.partition (sym sound.one_group_each) text c read)

-- an item that declares a flush exists
declaring-below : (waits : List (List Target)) (i : ℕ) (t : Target) → Contains (targets_of waits i) t → i < length waits
declaring-below waits i t inside = elim (cases_lt i (length waits)) [
  | inl below ↦ below
  | inr past ↦
      let long : length (targets_of waits i) ≡ 0 = ap length (get_or_past waits i [] past) in
      absurd (omega (arith, inside.1, long))
]

-- the items of a flush that doesn't fall exist
not_falling-items : (s : Declared) (sound : IsSound s) (c : PlanCertificate) (i j : ℕ) → IsFirstNotFalling (declared_waits s) c.assignment i j → NamesItems s.table.names (NotFalling i j)
not_falling-items s sound c i j first =
    let item : i < length s.table.waits = declaring-below s.table.waits i first.target first.declares in
    let target : first.target.item < length s.table.names =
    All-contains (λ (t : Target). t.item < length s.table.names) (targets_of s.table.waits i) first.target (targets_of-below (length s.table.names) s.table.waits i sound.table.targets_are_items) first.declares in
    (omega (arith, item, sound.table.one_list_each), subst (λ n. n < length s.table.names) first.of_target target)

pub NamesItems-plan : (s : Declared) → IsSound s → (c : PlanCertificate) (answer : Result Yes No) → AnswersPlan (declared_waits s) c answer → IfErr answer (NamesItems s.table.names)
NamesItems-plan s sound c (Ok y) answered = tt
NamesItems-plan s sound c (Err (NotFalling i j)) answered = not_falling-items s sound c i j answered
NamesItems-plan s sound c (Err LengthDiffers) answered = tt
NamesItems-plan s sound c (Err (ChainBroken at)) answered = tt
NamesItems-plan s sound c (Err (CircleBroken at)) answered = tt
NamesItems-plan s sound c (Err RunBroken) answered = tt

pub NamesItems-circle : (s : Declared) (c : CircleCertificate) (answer : Result Yes No) → AnswersCircle (declared_waits s) c answer → IfErr answer (NamesItems s.table.names)
NamesItems-circle s c (Ok y) answered = tt
NamesItems-circle s c (Err (NotFalling i j)) answered = absurd answered
NamesItems-circle s c (Err LengthDiffers) answered = tt
NamesItems-circle s c (Err (ChainBroken at)) answered = tt
NamesItems-circle s c (Err (CircleBroken at)) answered = tt
NamesItems-circle s c (Err RunBroken) answered = tt

-- the items that a no names exist
pub NamesItems-answered : (s : Declared) → IsSound s → (c : Certificate) (answer : Result Yes No) → AnswersCertificate (declared_waits s) c answer → IfErr answer (NamesItems s.table.names)
NamesItems-answered s sound (OfPlan c) answer answered = NamesItems-plan s sound c answer answered
NamesItems-answered s sound (OfCircle c) answer answered = NamesItems-circle s c answer answered
