use Rattle.std.proofs.Common.{◌≡◌, ◌<◌, ℕ, List, length, sym, ap, subst, ◌∙◌, arith}
use Rattle.std.specs.Prelude.{slice_index}
use Rattle.std.specs.List.{All}
use Rattle.std.proofs.lemmas.Result.{IfOk-weaker}
use Rattle.wq_groups.specs.Declaration.{IsDeclaration}
use Rattle.wq_groups.specs.DeclaredGroups.{IsSound, declared_waits}
use Rattle.wq_items.specs.Table.{Table}
use Rattle.wq_groups.proofs.Declarations.{IsDeclaration-of}
use Rattle.wq_repair.specs.Changes.{IsNamed}
use Rattle.wq_repair.specs.Needed.{NeedsRescuer, NeedsRescuerOf}
use Rattle.wq_repair.proofs.Marks.{Marks-as}
use Rattle.wq_repair.proofs.Rescuers.{NeedsRescuerOf-any}
use Rattle.wq_repair.proofs.Answered.{IsNamed-all, NeedsRescuer-all}
use Rattle.wq_repair.proofs.repairing.always_needed.Goals as goal

pub needed_groups-requires : goal.needed_groups-requires
needed_groups-requires g c =
    subst (λ (t : Table). All (λ (i : ℕ). i < length t.names) c.as_slice.result.now) c.table.ensures.is
    (subst (All (λ (i : ℕ). i < length c.table.result.now.names)) (sym c.as_slice.ensures.value)
    c.in_ok-all.ensures.below)

pub returns : goal.returns
returns g c =
    let a = c.args.assigned.now in
    let d = declared_waits a.declared in
    let sound : IsSound a.declared = c.table.ensures.assigned.declared in
    let declaration : IsDeclaration d =
    IsDeclaration-of a.declared.table a.declared.partition sound.table sound.partition sound.one_group_each in
    let items = c.as_slice.result.now in
    let one_each : length d.group_of ≡ length c.table.result.now.names =
    sound.one_group_each ∙ sym (ap (λ (t : Table). length t.names) c.table.ensures.is) in
    let numbers : (i : ℕ) → i < length d.group_of → slice_index items i ≡ i =
    λ i lt. subst (λ (xs : List ℕ). slice_index xs i ≡ i) (sym c.as_slice.ensures.value)
    (c.in_ok-all.ensures.all i (omega (arith, lt, one_each))) in
    let all_named : (h : ℕ) → h < d.groups → IsNamed d items h =
    IsNamed-all d items declaration numbers (ap length c.as_slice.ensures.value ∙ c.in_ok-all.ensures.one_each
    ∙ sym one_each) in
    IfOk-weaker c.needed_groups.result _ _ (λ always are.
    Marks-as (NeedsRescuerOf d a.workqueues items) (NeedsRescuer d a.workqueues) d.groups always.items
    (λ h lt. (
      NeedsRescuer-all d a.workqueues items all_named declaration h,
      NeedsRescuerOf-any d a.workqueues items h,
    )) are) c.needed_groups.ensures
