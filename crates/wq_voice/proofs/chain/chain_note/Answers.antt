use Rattle.std.proofs.Common.{◌≡◌, ◌++◌, [], ℕ, List, length, inl, inr, sym, ap, subst, ◌∙◌, arith}
use Rattle.std.specs.Prelude.{filter_map, flat_map}
use Rattle.std.proofs.lemmas.Bool.{eqb-true}
use Rattle.std.proofs.lemmas.Result.{IfOk-weaker}
use Rattle.wq_text.specs.LineText.{line_text}
use Rattle.wq_groups.specs.DeclaredGroups.{Declared}
use Rattle.wq_voice.specs.Chain.{unsure_wait, IsNeededNote}
use Rattle.wq_voice.proofs.ChainNotes.{lines-none, no-bytes}
use Rattle.wq_voice.proofs.chain.chain_note.Goals as goal

pub returns-then-is_empty : goal.returns-then-is_empty
returns-then-is_empty g c =
    let t = c.declared.inside.table in
    let arcs = c.args.arcs.now in
    let lines = filter_map (unsure_wait t.names t.waits) arcs in
    let out = c.put_unsure_waits.new.out in
    let empty : length out.items ≡ 0 =
    omega (arith, out.ok.0, eqb-true out.len 0 (sym c.is_empty.ensures ∙ c.if-is_empty.true)) in
    let is : out.items ≡ flat_map line_text lines =
    c.in_ok-put_unsure_waits.ensures ∙ ap (λ (l : List ℕ). l ++ flat_map line_text lines) c.new-lines.ensures.items in
    let none : lines ≡ [] = lines-none lines (sym (ap length is) ∙ empty) in
    inl (
      no-bytes out.items empty,
      ap (λ (s : Declared). filter_map (unsure_wait s.table.names s.table.waits) arcs) (sym c.declared.view_is) ∙ none,
    )

pub returns : goal.returns
returns g c =
    let t = c.declared.inside.table in
    let arcs = c.args.arcs.now in
    let lines = filter_map (unsure_wait t.names t.waits) arcs in
    let said : Declared = c.args.declared.now in
    let is : c.deref.result.now ≡ flat_map line_text (filter_map (unsure_wait said.table.names said.table.waits) arcs) =
    c.deref.ensures.value ∙ c.in_ok-put_unsure_waits.ensures
    ∙ ap (λ (l : List ℕ). l ++ flat_map line_text lines) c.new-lines.ensures.items
    ∙ ap (λ (s : Declared). flat_map line_text (filter_map (unsure_wait s.table.names s.table.waits) arcs))
    c.declared.view_is in
    IfOk-weaker c.needed_note.result _ _ (λ note needed. inr (subst (λ (l : List ℕ).
    IsNeededNote c.args.file.now c.args.declared.now c.args.count l note.items) is needed)) c.needed_note.ensures
