-- A text has one end of `run`, and one answer if no plan was run.
use Rattle.std.proofs.Common.{◌≡◌, ◌≢◌, ℕ, ◌<◌, ◌≤◌, List, Result, Ok, Err, refl, sym, ap, ◌∙◌, arith}
use Rattle.std.specs.Prelude.{MatchResult}
use Rattle.wq_text.specs.Refusal.{Refusal}
use Rattle.wq_groups.specs.Assignment.{Assignment}
use Rattle.wq_plan.specs.Plan.{IsPlan}
use Rattle.wq_plan.proofs.Plans.{IsPlan-unique}
use Rattle.wq_held.specs.Locked.{max_runtime_lanes}
use Rattle.wq_commands.specs.declared.end.End.{End}
use Rattle.wq_commands.specs.declared.end.End.TheVariants.{Good, Bad, Refused}
use Rattle.wq_groups.specs.DeclaredGroups.{declared_waits, Declared}
use Rattle.wq_commands.specs.Answer.{Answers, AnswersDeclared, PrintsRefusal}
use Rattle.wq_commands.specs.Declaration.{declaration}
use Rattle.wq_commands.proofs.AnswerLemmas.{IsSound, IsSound-declaration}
use Rattle.wq_commands.proofs.Uniqueness.{not_both, PrintsCircle-unique}
use Rattle.wq_run.specs.Running.{HasRuntime, IsRunnable, RunsPlan, RunsDeclared}

-- a plan doesn't have both too many workqueues and few enough
one_width : (s : Declared) (a b : Assignment) → IsPlan (declared_waits s) a → IsPlan (declared_waits s) b → a.lanes ≤ max_runtime_lanes → max_runtime_lanes < b.lanes → ⊥
one_width s a b one two few many =
    let same : a.lanes ≡ b.lanes = ap (λ (x : Assignment). x.lanes) (IsPlan-unique (declared_waits s) a b one two) in
    absurd (omega (arith, same, few, many))

one_end : (helpers others : ℕ) (s : Declared) (end other : End) (out printed : List ℕ) → IsSound s → RunsDeclared helpers s end out → RunsDeclared others s other printed → end ≡ other
one_end helpers others s Good Good out printed sound one two = refl
one_end helpers others s Good Bad out printed sound one two = absurd (not_both s one.assignment two.circle sound one.plan two.walked)
one_end helpers others s Good Refused out printed sound one two = absurd (one_width s one.assignment two.assignment one.plan two.plan one.few two.many)
one_end helpers others s Bad Good out printed sound one two = absurd (not_both s two.assignment one.circle sound two.plan one.walked)
one_end helpers others s Bad Bad out printed sound one two = refl
one_end helpers others s Bad Refused out printed sound one two = absurd (not_both s two.assignment one.circle sound two.plan one.walked)
one_end helpers others s Refused Good out printed sound one two = absurd (one_width s two.assignment one.assignment two.plan one.plan two.few one.many)
one_end helpers others s Refused Bad out printed sound one two = absurd (not_both s one.assignment two.circle sound one.plan two.walked)
one_end helpers others s Refused Refused out printed sound one two = refl

one_text : (helpers others : ℕ) (s : Declared) (end : End) (out printed : List ℕ) → IsSound s → end ≢ Good → RunsDeclared helpers s end out → RunsDeclared others s end printed → out ≡ printed
one_text helpers others s Good out printed sound other one two = absurd (other refl)
one_text helpers others s Bad out printed sound other one two = PrintsCircle-unique s out printed sound one two
one_text helpers others s Refused out printed sound other one two = one.text ∙ sym two.text

ends : (helpers others : ℕ) (declared : Result Declared Refusal) (end other : End) (out printed : List ℕ) → ((s : Declared) → declared ≡ Ok s → IsSound s)
    → MatchResult declared (λ s. RunsDeclared helpers s end out) (λ r. PrintsRefusal r end out)
    → MatchResult declared (λ s. RunsDeclared others s other printed) (λ r. PrintsRefusal r other printed) → end ≡ other
ends helpers others (Ok s) end other out printed sound one two = one_end helpers others s end other out printed (sound s refl) one two
ends helpers others (Err r) end other out printed sound one two = one.0 ∙ sym two.0

texts : (helpers others : ℕ) (declared : Result Declared Refusal) (end : End) (out printed : List ℕ) → ((s : Declared) → declared ≡ Ok s → IsSound s) → end ≢ Good
    → MatchResult declared (λ s. RunsDeclared helpers s end out) (λ r. PrintsRefusal r end out)
    → MatchResult declared (λ s. RunsDeclared others s end printed) (λ r. PrintsRefusal r end printed) → out ≡ printed
texts helpers others (Ok s) end out printed sound other one two = one_text helpers others s end out printed (sound s refl) other one two
texts helpers others (Err r) end out printed sound other one two = one.1 ∙ sym two.1

pub RunsPlan-end : (helpers others : ℕ) (text : List ℕ) (end other : End) (out printed : List ℕ) → RunsPlan helpers text end out → RunsPlan others text other printed → end ≡ other
RunsPlan-end helpers others text end other out printed = ends helpers others (declaration text) end other out printed (IsSound-declaration text)

pub RunsPlan-text : (helpers others : ℕ) (text : List ℕ) (end : End) (out printed : List ℕ) → end ≢ Good → RunsPlan helpers text end out → RunsPlan others text end printed → out ≡ printed
RunsPlan-text helpers others text end out printed = texts helpers others (declaration text) end out printed (IsSound-declaration text)

refused : (helpers : ℕ) (declared : Result Declared Refusal) (out : List ℕ) → MatchResult declared (λ s. AnswersDeclared s Refused out) (λ r. PrintsRefusal r Refused out)
    → MatchResult declared (λ s. RunsDeclared helpers s Refused out) (λ r. PrintsRefusal r Refused out)
refused helpers (Ok s) out is = absurd is
refused helpers (Err r) out is = is

pub RunsPlan-refused : (helpers : ℕ) (text out : List ℕ) → Answers text Refused out → RunsPlan helpers text Refused out
RunsPlan-refused helpers text out = refused helpers (declaration text) out

runnable : (helpers : ℕ) (declared : Result Declared Refusal) (out : List ℕ) → MatchResult declared (λ s. RunsDeclared helpers s Good out) (λ r. PrintsRefusal r Good out)
    → MatchResult declared HasRuntime (λ r. ⊥)
runnable helpers (Ok s) out is = record { assignment = is.assignment; plan = is.plan; few = is.few }
runnable helpers (Err r) out is = absurd (let same : Good ≡ Refused = is.0 in cc)

pub IsRunnable-run : (helpers : ℕ) (text out : List ℕ) → RunsPlan helpers text Good out → IsRunnable text
IsRunnable-run helpers text out = runnable helpers (declaration text) out

good_end : (helpers : ℕ) (s : Declared) (end : End) (out : List ℕ) → IsSound s → HasRuntime s → RunsDeclared helpers s end out → end ≡ Good
good_end helpers s Good out sound has is = refl
good_end helpers s Bad out sound has is = absurd (not_both s has.assignment is.circle sound has.plan is.walked)
good_end helpers s Refused out sound has is = absurd (one_width s has.assignment is.assignment has.plan is.plan has.few is.many)

good_ends : (helpers : ℕ) (declared : Result Declared Refusal) (end : End) (out : List ℕ) → ((s : Declared) → declared ≡ Ok s → IsSound s) → MatchResult declared HasRuntime (λ r. ⊥)
    → MatchResult declared (λ s. RunsDeclared helpers s end out) (λ r. PrintsRefusal r end out) → end ≡ Good
good_ends helpers (Ok s) end out sound has is = good_end helpers s end out (sound s refl) has is
good_ends helpers (Err r) end out sound has is = absurd has

pub RunsPlan-runnable : (helpers : ℕ) (text : List ℕ) (end : End) (out : List ℕ) → IsRunnable text → RunsPlan helpers text end out → end ≡ Good
RunsPlan-runnable helpers text end out = good_ends helpers (declaration text) end out (IsSound-declaration text)
