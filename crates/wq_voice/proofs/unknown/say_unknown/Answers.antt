use Rattle.std.proofs.Common.{◌≡◌, Some, map, refl, sym, ap, subst, ◌∙◌}
use Rattle.std.specs.Prelude.{option_map}
use Rattle.wq_groups.specs.DeclaredGroups.{Declared}
use Rattle.wq_voice.specs.Unknown.{SaysNoItem, first_unknown}
use Rattle.wq_voice.proofs.unknown.say_unknown.Goals as goal

pub returns-in_ok-of_name-in-Some : goal.returns-in_ok-of_name-in-Some
returns-in_ok-of_name-in-Some g c =
    let given = map (λ n. n.now) c.args.names.now in
    let name = c.in-Some.name.now in
    let text = c.in_ok-of_name-in-Some.field-0.items in
    let same : first_unknown c.args.declared.now.table.names given ≡ Some name =
    ap (λ (d : Declared). first_unknown d.table.names given) (sym c.declared.view_is) ∙ sym c.first_unknown.ensures
    ∙ ap (option_map (λ n. n.now)) c.in-Some.is in
    rw same (
      text,
      refl,
      subst (λ (d : Declared). SaysNoItem c.args.declaration.file.now d.table.names name text)
          c.declared.view_is c.in_ok-of_name-in-Some.ensures,
    )
