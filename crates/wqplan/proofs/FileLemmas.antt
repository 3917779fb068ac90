-- The files of a command: they are opened, and have texts.
use Rattle.std.proofs.Common.{◌≡◌, ◌⊎◌, ◌+◌, ℕ, List, [], ◌∷◌, Option, Some, None, arith, inl, inr, refl, subst}
use Rattle.std.proofs.Common.{sym}
use Rattle.std.proofs.lemmas.List.Elements.{All-cons, All-nil}
use Rattle.std.specs.Io.KnownBytes.{Consumes}
use Rattle.std.specs.List.{All}
use Rattle.clap.specs.Words.{Text}
use Rattle.wq_meter.specs.Input.{IsInput}
use Rattle.wq_meter.specs.Meter.{LosesPrefix, Meter}
use Rattle.wq_meter.specs.Shell.{AreFrom, Given, HasFailedIf}
use Rattle.wq_meter.specs.declared.texts.Limits.{Limits}
use Rattle.wq_commands.specs.Commands.{one_text}
use Rattle.wq_run.specs.Run.{only}
use Rattle.wqplan.specs.Cause.{IsOpened, MayFail, TakesInput, Unless}
use Rattle.wqplan.specs.CommandLine.{listed}
use Rattle.wqplan.specs.Ended.{Has, IsInputIf}
use Rattle.wqplan.specs.Files.{AreOpened, HaveTexts, HoldsIf, first_if}
use Rattle.wqplan.specs.declared.command_line.Files.{Files}
use Rattle.wqplan.specs.declared.command_line.Files.TheVariants.{One, Three, Two, Unnamed}

-- some are named
abbrev pub AreNamed : {T : Type 0} → Files T → Type 0
AreNamed Unnamed = ⊥
AreNamed _ = Unit {0}

module _ {F : Type 0} (Opens : Text → Option F → Type 0) where
  -- all are opened
  pub all_opened : (paths : Files Text) (files : Files F) → AreOpened Opens paths files
      → All (IsOpened Opens) (listed paths)
  all_opened Unnamed files opened = All-nil (IsOpened Opens)
  all_opened (One first) (One a) opened = All-cons (IsOpened Opens) first [] (a, opened) (All-nil (IsOpened Opens))
  all_opened (Two first second) (Two a b) opened =
      All-cons (IsOpened Opens) first (second ∷ []) (a, opened.0)
      (All-cons (IsOpened Opens) second [] (b, opened.1) (All-nil (IsOpened Opens)))
  all_opened (Three first second third) (Three a b d) opened =
      All-cons (IsOpened Opens) first (second ∷ third ∷ []) (a, opened.0)
      (All-cons (IsOpened Opens) second (third ∷ []) (b, opened.1)
      (All-cons (IsOpened Opens) third [] (d, opened.2) (All-nil (IsOpened Opens))))
  all_opened (One first) Unnamed opened = absurd opened
  all_opened (One first) (Two a b) opened = absurd opened
  all_opened (One first) (Three a b d) opened = absurd opened
  all_opened (Two first second) Unnamed opened = absurd opened
  all_opened (Two first second) (One a) opened = absurd opened
  all_opened (Two first second) (Three a b d) opened = absurd opened
  all_opened (Three first second third) Unnamed opened = absurd opened
  all_opened (Three first second third) (One a) opened = absurd opened
  all_opened (Three first second third) (Two a b) opened = absurd opened

  -- if no file is opened, none is named; if some are opened, some are named
  pub none_named : (paths : Files Text) → AreOpened Opens paths Unnamed → paths ≡ Unnamed
  none_named Unnamed opened = refl
  none_named (One first) opened = absurd opened
  none_named (Two first second) opened = absurd opened
  none_named (Three first second third) opened = absurd opened

  pub some_named : (paths : Files Text) (files : Files F) → AreOpened Opens paths files → AreNamed files
      → AreNamed paths
  some_named Unnamed Unnamed opened named = named
  some_named Unnamed (One a) opened named = absurd opened
  some_named Unnamed (Two a b) opened named = absurd opened
  some_named Unnamed (Three a b d) opened named = absurd opened
  some_named (One first) files opened named = tt
  some_named (Two first second) files opened named = tt
  some_named (Three first second third) files opened named = tt

  -- ---- the texts of what is opened

  module _ (remaining : F → Option (List ℕ)) (Input : List ℕ → Type 0) where
    holds_if : (limit : Option ℕ) (path : Text) (a : F) (text : List ℕ) → Opens path (Some a)
        → IsInputIf limit (remaining a) text
        → HoldsIf (Has Opens remaining) limit path text
    holds_if None path a text opened given = given
    holds_if (Some limit) path a text opened given = (a, opened, given)

    -- what the readers of a command had are the texts of what was named; the first is read by a meter of what was
    -- opened
    module _ (limits : Limits) where
      abbrev pub Have : Files Text → Given → Type 0
      Have paths t = HaveTexts (Has Opens remaining) Input limits paths t

      abbrev pub From : (List ℕ → Type 0) → Option (List ℕ) → Option (List ℕ) → Given → Type 0
      From First second third t = AreFrom First (IsInputIf limits.second second) (IsInputIf limits.third third) t

      pub from_input : (paths : Files Text) → AreOpened Opens paths Unnamed → (second third : Option (List ℕ))
          (t : Given) → From Input second third t → Have paths t
      from_input paths opened second third t from = subst (λ p. Have p t) (sym (none_named paths opened)) from.0

      pub from_one : (paths : Files Text) (a m : F) → AreOpened Opens paths (One a) → m ≡ a
          → (second third : Option (List ℕ)) (t : Given) → From (IsInput (remaining m)) second third t → Have paths t
      from_one (One first) a m opened is second third t from =
          (a, opened, subst (λ f. IsInput (remaining f) t.first) is from.0)
      from_one Unnamed a m opened is second third t from = absurd opened
      from_one (Two one two) a m opened is second third t from = absurd opened
      from_one (Three one two three) a m opened is second third t from = absurd opened

      pub from_two : (paths : Files Text) (a b m : F) → AreOpened Opens paths (Two a b) → m ≡ a
          → (third : Option (List ℕ)) (t : Given) → From (IsInput (remaining m)) (remaining b) third t → Have paths t
      from_two (Two one two) a b m opened is third t from = (
        (a, opened.0, subst (λ f. IsInput (remaining f) t.first) is from.0),
        holds_if limits.second two b t.second opened.1 from.1,
      )
      from_two Unnamed a b m opened is third t from = absurd opened
      from_two (One one) a b m opened is third t from = absurd opened
      from_two (Three one two three) a b m opened is third t from = absurd opened

      pub from_three : (paths : Files Text) (a b d m : F) → AreOpened Opens paths (Three a b d) → m ≡ a → (t : Given)
          → From (IsInput (remaining m)) (remaining b) (remaining d) t → Have paths t
      from_three (Three one two three) a b d m opened is t from = (
        (a, opened.0, subst (λ f. IsInput (remaining f) t.first) is from.0),
        holds_if limits.second two b t.second opened.1 from.1,
        holds_if limits.third three d t.third opened.2 from.2,
      )
      from_three Unnamed a b d m opened is t from = absurd opened
      from_three (One one) a b d m opened is t from = absurd opened
      from_three (Two one two) a b d m opened is t from = absurd opened

    -- a command that has one text has that of the first file
    module _ (text : List ℕ) where
      abbrev pub HaveOnly : Files Text → Type 0
      HaveOnly paths = HaveTexts (Has Opens remaining) Input one_text paths (only text)

      have_first : (paths : Files Text) (files : Files F) → AreOpened Opens paths files → (a : F)
          → first_if files ≡ Some a → IsInput (remaining a) text → HaveOnly paths
      have_first Unnamed Unnamed opened a is given = let never : ⊥ = cc in absurd never
      have_first (One first) (One b) opened a is given =
          let same : a ≡ b = cc in (b, opened, subst (λ f. IsInput (remaining f) text) same given)
      have_first (Two first second) (Two b d) opened a is given =
          let same : a ≡ b = cc in ((b, opened.0, subst (λ f. IsInput (remaining f) text) same given), refl)
      have_first (Three first second third) (Three b d e) opened a is given =
          let same : a ≡ b = cc in
          ((b, opened.0, subst (λ f. IsInput (remaining f) text) same given), refl, refl)
      have_first Unnamed (One b) opened a is given = absurd opened
      have_first Unnamed (Two b d) opened a is given = absurd opened
      have_first Unnamed (Three b d e) opened a is given = absurd opened
      have_first (One first) Unnamed opened a is given = absurd opened
      have_first (One first) (Two b d) opened a is given = absurd opened
      have_first (One first) (Three b d e) opened a is given = absurd opened
      have_first (Two first second) Unnamed opened a is given = absurd opened
      have_first (Two first second) (One b) opened a is given = absurd opened
      have_first (Two first second) (Three b d e) opened a is given = absurd opened
      have_first (Three first second third) Unnamed opened a is given = absurd opened
      have_first (Three first second third) (One b) opened a is given = absurd opened
      have_first (Three first second third) (Two b d) opened a is given = absurd opened

      pub have_input : (paths : Files Text) (files : Files F) → AreOpened Opens paths files → files ≡ Unnamed
          → Input text → HaveOnly paths
      have_input paths files opened is given =
          subst HaveOnly (sym (none_named paths (subst (AreOpened Opens paths) is opened))) given

      pub have_only : (paths : Files Text) (files : Files F) → AreOpened Opens paths files → (a m : F)
          → first_if files ≡ Some a → m ≡ a → IsInput (remaining m) text → HaveOnly paths
      have_only paths files opened a m first is given =
          have_first paths files opened a first (subst (λ f. IsInput (remaining f) text) is given)

-- if there is a first file, some are named; if there is none, none is named
pub AreNamed-first : {T : Type 0} (files : Files T) (a : T) → first_if files ≡ Some a → AreNamed files
AreNamed-first Unnamed a is = cc
AreNamed-first (One first) a is = tt
AreNamed-first (Two first second) a is = tt
AreNamed-first (Three first second third) a is = tt

pub unnamed : {T : Type 0} (files : Files T) → first_if files ≡ None → files ≡ Unnamed
unnamed Unnamed is = refl
unnamed (One first) is = let never : ⊥ = cc in absurd never
unnamed (Two first second) is = let never : ⊥ = cc in absurd never
unnamed (Three first second third) is = let never : ⊥ = cc in absurd never

-- ---- what is read of them

-- a reader that isn't touched gives and loses nothing
none_consumed : (known : Option (List ℕ)) → Consumes known known []
none_consumed None = tt
none_consumed (Some xs) = refl

nothing_lost : {I : Type 0} (remaining : I → Option (List ℕ)) (m : Meter I) (most : ℕ)
    → LosesPrefix remaining m m most
nothing_lost remaining m most = record {
  lost = [];
  within = omega arith;
  consumed = none_consumed (remaining m.device);
  counted = omega arith;
}

-- so nothing is taken from it
pub none_taken : {I : Type 0} (remaining : I → Option (List ℕ)) (m : Meter I) (limit : ℕ) (paths : Files Text)
    → TakesInput remaining m m limit paths
none_taken remaining m limit Unnamed = (nothing_lost remaining m (limit + 1), omega arith)
none_taken remaining m limit (One first) = refl
none_taken remaining m limit (Two first second) = refl
none_taken remaining m limit (Three first second third) = refl

-- a read of a file may always have failed
pub may_fail : (InputFailed : Type 0) (limits : Limits) (paths : Files Text) → AreNamed paths
    → MayFail InputFailed limits paths
may_fail InputFailed limits Unnamed named = absurd named
may_fail InputFailed limits (One first) named = tt
may_fail InputFailed limits (Two first second) named = tt
may_fail InputFailed limits (Three first second third) named = tt

unless : (limit : Option ℕ) (Holds : Type 0) → Holds → Unless limit Holds
unless None Holds h = h
unless (Some limit) Holds h = tt

unless_failed : {R : Type 0} (old new : Meter R) (limit : Option ℕ) (Holds : Type 0) → HasFailedIf old new limit
    → Unless limit Holds
unless_failed old new None Holds h = absurd h
unless_failed old new (Some limit) Holds h = tt

-- a read of standard input failed, or the command has another text
pub one_failed : {S T : Type 0} (old new : Meter S) (third_old third_new : Meter T) (limits : Limits)
    {A B C D E G H : Type 0}
    → (A × B × C) ⊎ (D × HasFailedIf old new limits.second × E) ⊎ (G × H × HasFailedIf third_old third_new limits.third)
    → MayFail A limits Unnamed
one_failed old new third_old third_new limits {A} (inl h) =
    unless limits.second (Unless limits.third A) (unless limits.third A h.0)
one_failed old new third_old third_new limits {A} (inr (inl h)) =
    unless_failed old new limits.second (Unless limits.third A) h.1
one_failed old new third_old third_new limits {A} (inr (inr h)) =
    unless limits.second (Unless limits.third A) (unless_failed third_old third_new limits.third A h.2)
