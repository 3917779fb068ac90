use Rattle.std.proofs.Common.{◌≡◌, ℕ, List, length, map, take, drop, min, sym, ap, subst, ◌∙◌}
use Rattle.std.specs.List.{All}
use Rattle.std.proofs.lemmas.List.Elements.{All-take, All-drop}
use Rattle.wq_items.specs.Table.{Table}
use Rattle.wq_groups.specs.Partition.{Partition}
use Rattle.wq_core.specs.Workqueues.{Workqueues}
use Rattle.wq_groups.specs.DeclaredGroups.{Declared}
use Rattle.wq_changes.specs.declared.change.Change.{Change}
use Rattle.wq_changes.specs.Changes.{changes_of, IsOf}
use Rattle.wq_changes.specs.Told.{AreEach, IsTold, IsToldWhy, most_reasons}
use Rattle.wq_changes.proofs.Each.{All-IsOf, take_least, drop_least}
use Rattle.wq_changes.proofs.telling.of_changes.Goals as goal

pub changes-requires-clause-old : goal.changes-requires-clause-old
changes-requires-clause-old g c =
    ap (λ (ws : Workqueues). length ws.assignment.lane_of_group) c.workqueues.ensures.is
    ∙ c.workqueues.ensures.assigned.assignment.assignment.one_each
    ∙ sym (c.len-groups.ensures.len ∙ ap (λ (p : Partition). p.groups) c.groups.ensures.is)

pub changes-requires-clause-new : goal.changes-requires-clause-new
changes-requires-clause-new g c =
    c.requires.new ∙ sym (c.len-groups.ensures.len ∙ ap (λ (p : Partition). p.groups) c.groups.ensures.is)

pub all_whys-requires-clause-changes : goal.all_whys-requires-clause-changes
all_whys-requires-clause-changes g c =
    let r = c.args.repair.now in
    let groups = r.old.now.declared.partition.groups in
    let all : c.as_slice-list.result.now ≡ changes_of groups r.old.now.workqueues r.new.now =
    c.as_slice-list.ensures.value
    ∙ c.in_ok-all.ensures ∙ ap (λ (n : ℕ). changes_of n c.workqueues.result.now r.new.now)
    (c.len-groups.ensures.len ∙ ap (λ (p : Partition). p.groups) c.groups.ensures.is)
    ∙ ap (λ (ws : Workqueues). changes_of groups ws r.new.now) c.workqueues.ensures.is in
    subst (All (IsOf groups)) (sym c.split_at.ensures.front)
    (All-take (IsOf groups) c.min.result c.as_slice-list.result.now
    (subst (All (IsOf groups)) (sym all) (All-IsOf groups r.old.now.workqueues r.new.now)))

pub with_all_told-requires-clause-changes : goal.with_all_told-requires-clause-changes
with_all_told-requires-clause-changes g c =
    let r = c.args.repair.now in
    let groups = r.old.now.declared.partition.groups in
    let all : c.as_slice-list.result.now ≡ changes_of groups r.old.now.workqueues r.new.now =
    c.as_slice-list.ensures.value
    ∙ c.in_ok-all.ensures ∙ ap (λ (n : ℕ). changes_of n c.workqueues.result.now r.new.now)
    (c.len-groups.ensures.len ∙ ap (λ (p : Partition). p.groups) c.groups.ensures.is)
    ∙ ap (λ (ws : Workqueues). changes_of groups ws r.new.now) c.workqueues.ensures.is in
    subst (All (IsOf groups)) (sym c.split_at.ensures.back)
    (All-drop (IsOf groups) c.min.result c.as_slice-list.result.now
    (subst (All (IsOf groups)) (sym all) (All-IsOf groups r.old.now.workqueues r.new.now)))

pub returns : goal.returns
returns g c =
    let r = c.args.repair.now in
    let groups = r.old.now.declared.partition.groups in
    let s : Declared = r.old.now.declared in
    let names = map (λ n. n.now) r.names.now in
    let cs = changes_of groups r.old.now.workqueues r.new.now in
    let all : c.as_slice-list.result.now ≡ cs = c.as_slice-list.ensures.value ∙ c.in_ok-all.ensures
    ∙ ap (λ (n : ℕ). changes_of n c.workqueues.result.now r.new.now)
    (c.len-groups.ensures.len ∙ ap (λ (p : Partition). p.groups) c.groups.ensures.is)
    ∙ ap (λ (ws : Workqueues). changes_of groups ws r.new.now) c.workqueues.ensures.is in
    let most : ℕ = most_reasons (length s.table.names) in
    let is_most : c.most_reasons.result ≡ most = c.most_reasons.ensures
    ∙ ap most_reasons (c.len-items.ensures.len ∙ ap (λ (t : Table). length t.names) c.table.ensures.is) in
    let mid : c.min.result ≡ min (length cs) most =
    c.min.ensures ∙ ap (λ (l : List Change). min (length l) c.most_reasons.result) all ∙ ap (min (length cs)) is_most in
    let front : c.split_at.result.0.now ≡ take most cs =
    c.split_at.ensures.front ∙ ap (λ (n : ℕ). take n c.as_slice-list.result.now) mid ∙ ap
    (λ (l : List Change). take (min (length cs) most) l) all ∙ take_least most cs in
    let back : c.split_at.result.1.now ≡ drop most cs =
    c.split_at.ensures.back
    ∙ ap (λ (n : ℕ). drop n c.as_slice-list.result.now) mid
    ∙ ap (λ (l : List Change). drop (min (length cs) most) l) all
    ∙ drop_least most cs in
    let Whys = IsToldWhy r.declaration.file.now r.assignment.file.now s names r.old.now.workqueues r.new.now in
    let Told = IsTold r.assignment.file.now s names r.old.now.workqueues r.new.now in
    let (others, is, each) = c.in_ok-text.ensures in (
      c.in_ok-whys.whys.items,
      others,
      is,
      subst (λ (l : List Change). AreEach Whys l c.in_ok-whys.whys.items) front c.in_ok-whys.ensures,
      subst (λ (l : List Change). AreEach Told l others) back each,
    )
