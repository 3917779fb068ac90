use Rattle.std.proofs.Common.{◌≡◌, ◌++◌, ◌∷◌, [], ℕ, List, refl, sym, ap, subst, ◌∙◌, append_assoc, append-nil}
use Rattle.std.specs.Prelude.{codes}
use Rattle.std.proofs.lemmas.Option.{get_or_from_slice_get}
use Rattle.std.proofs.lemmas.Result.{on_ok_weaker, on_err_weaker}
use Rattle.wq_items.proofs.WaitLemmas.{OnErr-always}
use Rattle.wq_text.specs.LineText.{IsBegun, line_text, spaced}
use Rattle.wq_text.proofs.Begun.{IsBegun-first, IsBegun-second}
use Rattle.wq_text.proofs.LineTextLemmas.{line_text-three}
use Rattle.wq_cert.specs.PlanText.{name_of, arc_line}
use Rattle.wq_cert.proofs.arc_printing.put_arc_line.Goals as goal

-- a word was added behind what stood there
word_added : (before out new word name : List ℕ) → out ≡ before → name ≡ word → new ≡ out ++ spaced name → new ≡ before ++ spaced word
word_added before out new word name was is added =
    added ∙ ap (λ (o : List ℕ). o ++ spaced name) was ∙ ap (λ (n : List ℕ). before ++ spaced n) is

-- the pieces of a line of three words
in_line : (w a b old new : List ℕ) → IsBegun (w ++ (spaced a ++ (spaced b ++ (10 ∷ [])))) old new → IsBegun (line_text (w ∷ a ∷ b ∷ [])) old new
in_line w a b old new part =
    subst (λ (text : List ℕ). IsBegun text old new)
    (sym (ap (λ (rest : List ℕ). w ++ rest) (append_assoc (spaced a) (spaced b ++ []) (10 ∷ []) ∙ ap (λ (rest : List ℕ). spaced a ++ (rest ++ (10 ∷ []))) (append-nil (spaced b))))) part

pub returns-in_err-put-clause-part : goal.returns-in_err-put-clause-part
returns-in_err-put-clause-part g c =
    let names = c.args.table.now.names in
    let out = c.args.out.now.items in
    let new = c.put.new.out.items in
    let source = name_of names c.args.arc.0 in
    let target = name_of names c.args.arc.1 in
    OnErr-always c.from_residual.result (IsBegun (line_text (arc_line names c.args.arc)) out new)
    (in_line (codes "arc") source target out new
    (IsBegun-first (codes "arc") (spaced source ++ (spaced target ++ (10 ∷ []))) out new c.in_err-put.ensures.part))

pub returns-in_err-put_word-clause-part : goal.returns-in_err-put_word-clause-part
returns-in_err-put_word-clause-part g c =
    let names = c.args.table.now.names in
    let out = c.args.out.now.items in
    let middle = c.put.new.out.items in
    let new = c.put_word.new.out.items in
    let source = name_of names c.args.arc.0 in
    let target = name_of names c.args.arc.1 in
    let part : IsBegun (spaced source) middle new =
    subst (λ (name : List ℕ). IsBegun (spaced name) middle new) (sym (get_or_from_slice_get names c.args.arc.0 c.name.result.now [] c.name.ensures)) c.in_err-put_word.ensures.part in
    OnErr-always c.from_residual-in_err-put_word.result (IsBegun (line_text (arc_line names c.args.arc)) out new)
    (in_line (codes "arc") source target out new
    (IsBegun-second (codes "arc") (spaced source ++ (spaced target ++ (10 ∷ []))) out middle new c.in_ok-put.ensures.added
    (IsBegun-first (spaced source) (spaced target ++ (10 ∷ [])) middle new part)))

pub returns-in_err-put_word-2-clause-part : goal.returns-in_err-put_word-2-clause-part
returns-in_err-put_word-2-clause-part g c =
    let names = c.args.table.now.names in
    let out = c.args.out.now.items in
    let middle = c.put_word.new.out.items in
    let new = c.put_word-2.new.out.items in
    let source = name_of names c.args.arc.0 in
    let target = name_of names c.args.arc.1 in
    let first = word_added (out ++ codes "arc") c.put.new.out.items middle source c.name.result.now c.in_ok-put.ensures.added
    (sym (get_or_from_slice_get names c.args.arc.0 c.name.result.now [] c.name.ensures)) c.in_ok-put_word.ensures.added in
    let part : IsBegun (spaced target) middle new =
    subst (λ (name : List ℕ). IsBegun (spaced name) middle new) (sym (get_or_from_slice_get names c.args.arc.1 c.name-2.result.now [] c.name-2.ensures)) c.in_err-put_word-2.ensures.part in
    OnErr-always c.from_residual-in_err-put_word-2.result (IsBegun (line_text (arc_line names c.args.arc)) out new)
    (in_line (codes "arc") source target out new
    (IsBegun-second (codes "arc") (spaced source ++ (spaced target ++ (10 ∷ []))) out (out ++ codes "arc") new refl
    (IsBegun-second (spaced source) (spaced target ++ (10 ∷ [])) (out ++ codes "arc") middle new first
    (IsBegun-first (spaced target) (10 ∷ []) middle new part))))

pub returns-clause-added : goal.returns-clause-added
returns-clause-added g c =
    let names = c.args.table.now.names in
    let out = c.args.out.now.items in
    let source = name_of names c.args.arc.0 in
    let target = name_of names c.args.arc.1 in
    let first = word_added (out ++ codes "arc") c.put.new.out.items c.put_word.new.out.items source c.name.result.now c.in_ok-put.ensures.added
    (sym (get_or_from_slice_get names c.args.arc.0 c.name.result.now [] c.name.ensures)) c.in_ok-put_word.ensures.added in
    let second = word_added ((out ++ codes "arc") ++ spaced source) c.put_word.new.out.items c.put_word-2.new.out.items target c.name-2.result.now first
    (sym (get_or_from_slice_get names c.args.arc.1 c.name-2.result.now [] c.name-2.ensures)) c.in_ok-put_word-2.ensures.added in
    on_ok_weaker c.put_end.result (λ e. e ∙ ap (λ (o : List ℕ). o ++ (10 ∷ [])) second ∙ line_text-three out (codes "arc") source target) c.put_end.ensures.added

pub returns-clause-part : goal.returns-clause-part
returns-clause-part g c =
    let names = c.args.table.now.names in
    let out = c.args.out.now.items in
    let middle = c.put_word-2.new.out.items in
    let new = c.put_end.new.out.items in
    let source = name_of names c.args.arc.0 in
    let target = name_of names c.args.arc.1 in
    let first = word_added (out ++ codes "arc") c.put.new.out.items c.put_word.new.out.items source c.name.result.now c.in_ok-put.ensures.added
    (sym (get_or_from_slice_get names c.args.arc.0 c.name.result.now [] c.name.ensures)) c.in_ok-put_word.ensures.added in
    let second = word_added ((out ++ codes "arc") ++ spaced source) c.put_word.new.out.items middle target c.name-2.result.now first
    (sym (get_or_from_slice_get names c.args.arc.1 c.name-2.result.now [] c.name-2.ensures)) c.in_ok-put_word-2.ensures.added in
    on_err_weaker c.put_end.result (λ part. in_line (codes "arc") source target out new
    (IsBegun-second (codes "arc") (spaced source ++ (spaced target ++ (10 ∷ []))) out (out ++ codes "arc") new refl
    (IsBegun-second (spaced source) (spaced target ++ (10 ∷ [])) (out ++ codes "arc") ((out ++ codes "arc") ++ spaced source) new refl
    (IsBegun-second (spaced target) (10 ∷ []) ((out ++ codes "arc") ++ spaced source) middle new second part)))) c.put_end.ensures.part
