use Rattle.std.proofs.Common.{ℕ, drop, ap, ◌∙◌, arith}
use Rattle.std.proofs.lemmas.List.Sums.{prefix_len-le-length}
use Rattle.wq_names.specs.Comments.{is_lead}
use Rattle.wq_names.proofs.comment.without_lead.Goals as goal

pub split_at-requires : goal.split_at-requires
split_at-requires c = omega (arith, c.lead.ensures, prefix_len-le-length is_lead c.args.bytes.now)

pub returns : goal.returns
returns c = c.split_at.ensures.back ∙ ap (λ (n : ℕ). drop n c.args.bytes.now) c.lead.ensures
