use Rattle.std.proofs.Common.{◌≡◌, ℕ, List, sym, subst, rules}
use Rattle.std.specs.List.{AllByRecursion}
use Rattle.wq_decl.specs.declared.directive.Directive.{Directive}
use Rattle.wq_decl.specs.Reading.{HasNames}
use Rattle.std.proofs.lemmas.Result.{err_from_is_err_and}
use Rattle.wq_items.proofs.ReadLemmas.{Made-none, Made-more, Made-ran_out, Made-out_at_end}
use Rattle.wq_items.proofs.table.ItemTable.read_seeded.Goals as goal

pub loop-line-init : goal.loop-line-init
loop-line-init g c =
    let all : c.into_iter-line-iterator.result ≡ c.args.view.now = search rules in (
      Made-none c.empty-table.result c.into_iter-line-iterator.result c.args.view.now c.empty-table.ensures all,
      search rules,
      subst (λ (ds : List (ℕ × Directive)). AllByRecursion (λ (d : ℕ × Directive). HasNames d.1) ds) (sym all) c.directives-line-items.ensures.names,
    )

pub loop-line-preserved : goal.loop-line-preserved
loop-line-preserved g c = (
  Made-more c.loop-line.table c.in_ok-table.table c.in-Some.line c.in-Some.directive c.loop-line.line-iterator c.next.new.self c.args.view.now c.in-Some.ensures.steps c.in_ok-table.ensures.table c.loop-line.invariant.0,
  search rules,
  search rules,
)

pub returns-in_err-table-clause-memory : goal.returns-in_err-table-clause-memory
returns-in_err-table-clause-memory g c =
    let p = err_from_is_err_and c.from_residual.result c.from_residual.ensures.1 in
    rw (p.1, p.2) (λ out. Made-ran_out c.loop-line.table c.in-Some.line c.in-Some.directive c.loop-line.line-iterator c.next.new.self c.args.view.now c.in-Some.ensures.steps (c.in_err-table.ensures.memory out) (c.in_err-table.ensures.grows out) c.loop-line.invariant.0)

pub returns-in_err-finish-clause-memory : goal.returns-in_err-finish-clause-memory
returns-in_err-finish-clause-memory g c =
    let p = err_from_is_err_and c.from_residual-in_err-finish.result c.from_residual-in_err-finish.ensures.1 in
    rw (p.1, p.2) (λ out. Made-out_at_end c.loop-line.table c.loop-line.line-iterator c.args.view.now c.in-None.ensures.steps.0 c.in_err-finish.ensures.memory c.loop-line.invariant.0)
