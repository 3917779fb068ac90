-- An answer to what is read, or its refusal: if both kinds have one, there is one.
use Rattle.std.proofs.Common.{◌≡◌, List, ℕ, Result, Ok, Err, refl, sym, ◌∙◌}
use Rattle.std.specs.Prelude.{MatchResult}
use Rattle.wq_text.specs.Refusal.{Refusal}
use Rattle.wq_commands.specs.declared.end.End.{End}
use Rattle.wq_commands.specs.declared.end.End.TheVariants.{Refused}
use Rattle.wq_commands.specs.Answer.{PrintsRefusal, refusal_text}

-- one end and one text, if both belong to the same value or to the same error
pub MatchResult-unique : {V E : Type 0} (r : Result V E) (Good : V → End → List ℕ → Type 0) (Bad : E → End → List ℕ → Type 0) (end other : End) (out printed : List ℕ)
    → ((v : V) → r ≡ Ok v → Good v end out → Good v other printed → (end ≡ other) × (out ≡ printed))
    → ((e : E) → Bad e end out → Bad e other printed → (end ≡ other) × (out ≡ printed))
    → MatchResult r (λ v. Good v end out) (λ e. Bad e end out) → MatchResult r (λ v. Good v other printed) (λ e. Bad e other printed)
    → (end ≡ other) × (out ≡ printed)
MatchResult-unique (Ok v) Good Bad end other out printed good bad one two = good v refl one two
MatchResult-unique (Err e) Good Bad end other out printed good bad one two = bad e one two

-- an end and a text, if there are some for each value and for each error
pub MatchResult-exist : {V E : Type 0} (r : Result V E) (Good : V → End → List ℕ → Type 0) (Bad : E → End → List ℕ → Type 0)
    → ((v : V) → r ≡ Ok v → (end : End) × (out : List ℕ) × Good v end out) → ((e : E) → (end : End) × (out : List ℕ) × Bad e end out)
    → (end : End) × (out : List ℕ) × MatchResult r (λ v. Good v end out) (λ e. Bad e end out)
MatchResult-exist (Ok v) Good Bad good bad = good v refl
MatchResult-exist (Err e) Good Bad good bad = bad e

pub PrintsRefusal-unique : (r : Refusal) (end other : End) (out printed : List ℕ) → PrintsRefusal r end out → PrintsRefusal r other printed → (end ≡ other) × (out ≡ printed)
PrintsRefusal-unique r end other out printed one two = (one.0 ∙ sym two.0, one.1 ∙ sym two.1)

pub PrintsRefusal-exist : (r : Refusal) → (end : End) × (out : List ℕ) × PrintsRefusal r end out
PrintsRefusal-exist r = (Refused, refusal_text r, (refl, refl))
