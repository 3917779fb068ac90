-- What `check` answers around fixed workqueues to what `plan` prints around them.
use Rattle.std.specs.Prelude.{◌≡◌, ◌⊎◌, ◌<◌, ℕ, List, length, MatchResult, Ok}
use Rattle.wq_text.specs.LineText.{line_text}
use Rattle.wq_groups.specs.DeclaredGroups.{Declared}
use Rattle.wq_fixed.specs.Fixed.{Fixed, fixed_lanes}
use Rattle.wq_cert.specs.AroundReading.{AroundCertificate, OfPlanAround, OfCircleAround, OfNoRescuer, around_of_text}
use Rattle.wq_cert.specs.Certificate.{Certificate, OfPlan, OfCircle}
use Rattle.wq_cert.specs.FixedReading.{fixed_of_text}
use Rattle.wq_cert.specs.Texts.{answer_of}
use Rattle.wq_checker.specs.declared.answer.Yes.{Yes}
use Rattle.wq_checker.specs.declared.answer.Yes.TheVariants as yes
use Rattle.wq_checker.specs.declared.around.YesAround.{YesAround}
use Rattle.wq_checker.specs.declared.around.YesAround.TheVariants as yes_around
use Rattle.wq_checker.specs.Around.{new_planned}
use Rattle.wq_commands.specs.declared.end.End.{End}
use Rattle.wq_commands.specs.declared.end.End.TheVariants.{Good, Bad, Refused}
use Rattle.wq_commands.specs.Checking.{yes_words}
use Rattle.wq_commands.specs.Declaration.{declaration}
use Rattle.wq_around_command.specs.Checking.{ChecksAround, yes_around_words}

-- the yes to a certificate: to a plan `yes K`, where K is the number of its new workqueues; to a circle `yes circle N`,
-- where N is the number of its arcs; and to a flush to no rescuer `yes norescuer`
abbrev pub yes_to_around : Fixed → AroundCertificate → YesAround
yes_to_around f (OfPlanAround c) = yes_around.Plain (yes.Plan (new_planned f c))
yes_to_around f (OfCircleAround c) = yes_around.Plain (yes.Circle (length c.arcs))
yes_to_around f (OfNoRescuer c) = yes_around.NoRescuer

-- how `plan` ends with a certificate
abbrev pub end_around : AroundCertificate → End
end_around (OfPlanAround c) = Good
end_around (OfCircleAround c) = Bad
end_around (OfNoRescuer c) = Bad

-- a certificate around the fixed workqueues is read from the bytes, and `check` answers the yes to it
pub record ChecksYesFixed (declared fixed : List ℕ) (s : Declared) (f : Fixed) (end : End) (out : List ℕ)
    : Type 0 where
  pub certificate : AroundCertificate
  pub read : around_of_text s.table.names s.partition f out ≡ Ok certificate
  pub ended : end ≡ end_around certificate
  pub checked : ChecksAround declared out fixed Good (line_text (yes_around_words (yes_to_around f certificate)))

-- ---- where there is no fixed workqueue

-- the yes to a certificate: to a plan `yes K`, where K is the number of its workqueues; and to a circle `yes circle N`,
-- where N is the number of its arcs
abbrev pub yes_to : Certificate → Yes
yes_to (OfPlan c) = yes.Plan c.assignment.lanes
yes_to (OfCircle c) = yes.Circle (length c.arcs)

-- how `plan` ends with a certificate
abbrev pub end_with : Certificate → End
end_with (OfPlan c) = Good
end_with (OfCircle c) = Bad

-- a certificate is read from the bytes, and `check` answers the yes to it
pub record ChecksYesPlain (declared fixed : List ℕ) (s : Declared) (end : End) (out : List ℕ) : Type 0 where
  pub certificate : Certificate
  pub read : answer_of s.table.names s.partition out ≡ Ok certificate
  pub ended : end ≡ end_with certificate
  pub checked : ChecksAround declared out fixed Good (line_text (yes_words (yes_to certificate)))

-- ---- any texts

-- `check` answers yes to what is printed for these texts of a declaration and of fixed workqueues, unless one of them
-- is refused
abbrev pub ChecksYesAround : List ℕ → List ℕ → List ℕ → End → Type 0
ChecksYesAround declared fixed out end =
    MatchResult (declaration declared)
    (λ s. MatchResult (fixed_of_text s.table.names s.partition fixed)
    (λ f. ((fixed_lanes f ≡ 0) × ChecksYesPlain declared fixed s end out)
    ⊎ ((0 < fixed_lanes f) × ChecksYesFixed declared fixed s f end out))
    (λ _. end ≡ Refused))
    (λ _. end ≡ Refused)
