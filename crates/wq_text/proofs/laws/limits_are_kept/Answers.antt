use Rattle.wq_text.proofs.LimitLaws.{fits-limit_fault, limit_fault-fits, long_line-limit_fault, limit_fault-long_line}
use Rattle.wq_text.proofs.laws.limits_are_kept.Goals as goal

pub returns-clause-none : goal.returns-clause-none
returns-clause-none c = λ max_text max_line text. (fits-limit_fault max_text max_line text, limit_fault-fits max_text max_line text)

pub returns-clause-line_too_long : goal.returns-clause-line_too_long
returns-clause-line_too_long c =
    λ max_text max_line n text.
    (λ h. let found = long_line-limit_fault max_text max_line text n h in (found.0, found.1.0, found.1.1), λ h. limit_fault-long_line max_text max_line text n (h.0, (h.1, h.2)))
