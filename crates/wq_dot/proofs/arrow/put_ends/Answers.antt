use Rattle.std.proofs.Common.{◌≡◌, ◌++◌, [], sym, refl}
use Rattle.std.specs.Prelude.{codes}
use Rattle.std.proofs.lemmas.Option.{get_or_from_slice_get}
use Rattle.std.proofs.lemmas.Result.{on_ok_weaker}
use Rattle.wq_cert.specs.PlanText.{name_of}
use Rattle.wq_dot.proofs.Pieces.{put_more}
use Rattle.wq_dot.proofs.arrow.put_ends.Goals as goal

pub returns : goal.returns
returns g c =
    let names = c.args.table.now.names in
    let out = c.args.out.now.items in
    let one = name_of names c.args.one in
    let other = name_of names c.args.other in
    let one_is : c.name.result.now ≡ one = sym (get_or_from_slice_get names c.args.one c.name.result.now [] c.name.ensures) in
    let other_is : c.name-2.result.now ≡ other = sym (get_or_from_slice_get names c.args.other c.name-2.result.now [] c.name-2.ensures) in
    let front = codes "  \"" in
    let to = codes "\" -> \"" in
    let quote = codes "\"" in
    let h2 = put_more out front _ one _ _ c.in_ok-put.ensures.added c.in_ok-put-2.ensures.added one_is in
    let h3 = put_more out (front ++ one) _ to _ _ h2 c.in_ok-put-3.ensures.added refl in
    let h4 = put_more out (front ++ one ++ to) _ other _ _ h3 c.in_ok-put-4.ensures.added other_is in
    on_ok_weaker c.put-5.result (λ e. put_more out (front ++ one ++ to ++ other) _ quote _ _ h4 e refl) c.put-5.ensures.added
