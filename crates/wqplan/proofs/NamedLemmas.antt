-- Commands with names behind their files: `hang`, `replay` and `circles`, where items must go on.
use Rattle.std.proofs.Common.{◌≡◌, Bool, false, true, ℕ, List, [], ◌∷◌, Option, length, map, refl, sym, arith}
use Rattle.std.specs.Prelude.{◌==◌}
use Rattle.std.specs.Borrow.{Bor}
use Rattle.clap.specs.Words.{Text}
use Rattle.wq_commands.specs.declared.end.End.{End}
use Rattle.wq_meter.specs.Shell.{Given}
use Rattle.wq_circles.specs.Circling.{AnswersCircles}
use Rattle.wqplan.specs.CommandLine.{Behind, check_asked, named_asked, names_asked, plan_asked}
use Rattle.wqplan.specs.Ended.{EndsCircles, names_behind}
use Rattle.wqplan.specs.Told.{IsToldAsAsked, Names, SaysAllCircles, SaysCirclesNamed}
use Rattle.wqplan.specs.declared.command_line.Files.{Files}
use Rattle.wqplan.specs.declared.commands.Verb.TheVariants.{Check, Circles, Hang, Plan, Replay}

-- what holds without names
pub of_none : (xs : List (Bor Text)) → (length xs == 0) ≡ true → (P : List Text → Type 0) → P []
    → P (map (λ n. n.now) xs)
of_none [] none P p = p
of_none (x ∷ xs) none P p =
    let some : (length (x ∷ xs) == 0) ≡ false = grind arith in
    absurd cc

-- what holds with at least one name
pub of_some : (xs : List (Bor Text)) → (length xs == 0) ≡ false → (P Q : List Text → Type 0)
    → ((name : Text) (more : List Text) → P (name ∷ more) → Q (name ∷ more)) → P (map (λ n. n.now) xs)
    → Q (map (λ n. n.now) xs)
of_some [] some P Q f p = absurd cc
of_some (x ∷ xs) some P Q f p = f x.now (map (λ n. n.now) xs) p

-- without names behind an assignment it is as if none were given
module _ (assigned : Bool) (all : List Text) (xs : List (Bor Text))
    (behind : map (λ n. n.now) xs ≡ names_behind assigned all) where
  pub none_behind : (length xs == 0) ≡ true → names_behind assigned all ≡ []
  none_behind none = of_none xs none (λ l. l ≡ names_behind assigned all → names_behind assigned all ≡ []) sym behind

  -- names stand behind an assignment
  pub some_behind : (length xs == 0) ≡ false → (assigned ≡ true) × (map (λ n. n.now) xs ≡ all)
  some_behind some = by assigned behind
    where
      by : (b : Bool) → map (λ n. n.now) xs ≡ names_behind b all → (b ≡ true) × (map (λ n. n.now) xs ≡ all)
      by true is = (refl, is)
      by false is = absurd (of_some xs some (λ l. l ≡ []) (λ l. ⊥) (λ name more never. absurd cc) is)

pub circles_none : (assigned : Bool) (all : List Text) → names_behind assigned all ≡ [] → (t : Given) (end : End)
    (out : List ℕ) → AnswersCircles assigned t end out → EndsCircles assigned all t end out
circles_none false all none t end out h = h
circles_none true [] none t end out h = h
circles_none true (name ∷ more) none t end out h = absurd cc

pub said_none : (A : Type 0) (n : Names) (assigned : Bool) (all : List Text) → names_behind assigned all ≡ []
    → (t : Given) (end : End) (out : List ℕ) (said : Option (List ℕ)) → SaysAllCircles A n assigned t end out said
    → SaysCirclesNamed A n assigned all t end out said
said_none A n false all none t end out said h = h
said_none A n true [] none t end out said h = h
said_none A n true (name ∷ more) none t end out said h = absurd cc

-- what stands behind the files is told of by its names alone
module _ {A : Type 0} {Holds : Text → List ℕ → Type 0} {Input : List ℕ → Type 0} (files : Files Text) (behind : Behind)
    {end : End} {IsWritten : List ℕ → Type 0} {IsTold : (Option (List ℕ) → Type 0) → Type 0} where
  pub hang_told : IsToldAsAsked A Holds Input (named_asked Hang files (names_asked behind)) end IsWritten IsTold
      → IsToldAsAsked A Holds Input (record { verb = Hang; files = files; behind = behind }) end IsWritten IsTold
  hang_told h = record {
    texts = h.texts;
    have = h.have;
    out = h.out;
    answer = h.answer;
    written = h.written;
    told = h.told;
  }

  pub replay_told : IsToldAsAsked A Holds Input (named_asked Replay files (names_asked behind)) end IsWritten IsTold
      → IsToldAsAsked A Holds Input (record { verb = Replay; files = files; behind = behind }) end IsWritten IsTold
  replay_told h = record {
    texts = h.texts;
    have = h.have;
    out = h.out;
    answer = h.answer;
    written = h.written;
    told = h.told;
  }

  pub circles_told : IsToldAsAsked A Holds Input (named_asked Circles files (names_asked behind)) end IsWritten IsTold
      → IsToldAsAsked A Holds Input (record { verb = Circles; files = files; behind = behind }) end IsWritten IsTold
  circles_told h = record {
    texts = h.texts;
    have = h.have;
    out = h.out;
    answer = h.answer;
    written = h.written;
    told = h.told;
  }

  -- nothing stands behind the files of `plan` and `check`
  pub plan_told : IsToldAsAsked A Holds Input (plan_asked files) end IsWritten IsTold
      → IsToldAsAsked A Holds Input (record { verb = Plan; files = files; behind = behind }) end IsWritten IsTold
  plan_told h = record {
    texts = h.texts;
    have = h.have;
    out = h.out;
    answer = h.answer;
    written = h.written;
    told = h.told;
  }

  pub check_told : IsToldAsAsked A Holds Input (check_asked files) end IsWritten IsTold
      → IsToldAsAsked A Holds Input (record { verb = Check; files = files; behind = behind }) end IsWritten IsTold
  check_told h = record {
    texts = h.texts;
    have = h.have;
    out = h.out;
    answer = h.answer;
    written = h.written;
    told = h.told;
  }
