use Rattle.std.proofs.Common.{get_or, ◌≡◌, ◌++◌, ◌∷◌, [], ℕ, List, sym, ap, ◌∙◌}
use Rattle.std.specs.Prelude.{codes, decimal, flat_map, true}
use Rattle.std.proofs.lemmas.Option.{get_or_from_slice_get}
use Rattle.std.proofs.lemmas.Result.{on_ok_weaker}
use Rattle.wq_groups.specs.Assignment.{group_lane, item_lane}
use Rattle.wq_text.specs.LineText.{spaced, line_text}
use Rattle.wq_cert.specs.PlanText.{name_of}
use Rattle.wq_counts.specs.declared.kind.Kind.{Kind}
use Rattle.wq_counts.specs.Counting.{made}
use Rattle.wq_groups.specs.DeclaredGroups.{Declared}
use Rattle.wq_run.specs.Report.{kind_count_words, item_line}
use Rattle.wq_run.proofs.ReportLemmas.{line_text-more}
use Rattle.wq_run.proofs.report.put_item_line.Goals as goal

pub returns : goal.returns
returns g c =
    let out = c.args.out.now.items in
    let a = c.args.assignment.now in
    let group_of = c.declared.inside.groups.group_of in
    let i = c.args.item in
    let name = name_of c.declared.inside.table.names i in
    let lane = decimal (item_lane a group_of i) in
    let words = kind_count_words (λ (kind : Kind). made c.args.counts.now i kind true) in
    let group : get_or group_of i 0 ≡ c.of.result = get_or_from_slice_get group_of i c.of.result 0 c.of.ensures.group in
    let served : item_lane a group_of i ≡ c.lane-lane.result =
    ap (group_lane a) group ∙ get_or_from_slice_get a.lane_of_group c.of.result c.lane-lane.result 0 c.lane-lane.ensures in
    let printed : c.from.result ≡ item_lane a group_of i = c.from.ensures ∙ c.get.ensures ∙ sym served in
    let one : c.put_word.new.out.items ≡ (out ++ codes "item") ++ spaced name =
    c.in_ok-put_word.ensures.added ∙ ap (λ (o : List ℕ). o ++ spaced c.name.result.now) c.in_ok-put.ensures.added
    ∙ ap (λ (n : List ℕ). (out ++ codes "item") ++ spaced n)
    (sym (get_or_from_slice_get c.declared.inside.table.names i c.name.result.now [] c.name.ensures)) in
    let two : c.put_word-2.new.out.items ≡ ((out ++ codes "item") ++ spaced name) ++ spaced (codes "wq") =
    c.in_ok-put_word-2.ensures.added ∙ ap (λ (o : List ℕ). o ++ spaced (codes "wq")) one in
    let three : c.put_number.new.out.items ≡ (((out ++ codes "item") ++ spaced name) ++ spaced (codes "wq")) ++ spaced lane =
    c.in_ok-put_number.ensures.added ∙ ap (λ (n : ℕ). c.put_word-2.new.out.items ++ spaced (decimal n)) printed ∙ ap (λ (o : List ℕ). o ++ spaced lane) two in
    on_ok_weaker c.put_end.result (λ e.
    e ∙ ap (λ (o : List ℕ). o ++ (10 ∷ [])) (c.in_ok-put_counts.ensures ∙ ap (λ (o : List ℕ). o ++ flat_map spaced words) three)
    ∙ line_text-more out (codes "item") name (codes "wq") lane words
    ∙ ap (λ (s : Declared). out ++ line_text (item_line s a
    (λ (j : ℕ) (kind : Kind). made c.args.counts.now j kind true) i))
    c.declared.view_is) c.put_end.ensures.added
