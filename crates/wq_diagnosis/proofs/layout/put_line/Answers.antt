use Rattle.std.proofs.Common.{◌≡◌, ℕ, List, ◌∷◌, [], ◌++◌, map, take, sym, ap, ◌∙◌, append_assoc, arith}
use Rattle.std.proofs.lemmas.List.{take_all}
use Rattle.wq_findings.specs.Shown.{shown}
use Rattle.wq_diagnosis.proofs.layout.put_line.Goals as goal
use Rattle.wq_diagnosis.proofs.layout.put_line.Goals.{then-is_shown_as_it_is+in_ok-extend_from_slice}
use Rattle.wq_diagnosis.proofs.layout.put_line.Goals.{else-is_shown_as_it_is+else-loop-byte-test}

pub returns : goal.returns
returns g c =
    let line : List ℕ = c.args.line.now in
    let before = c.args.out.now.items in
    let so_far : c.if-is_shown_as_it_is.out.items ≡ before ++ map shown line =
    elim c.if-is_shown_as_it_is.branch [
      | then-is_shown_as_it_is+in_ok-extend_from_slice w ↦
          rw w.out-is
          (w.in_ok-extend_from_slice.ensures.items
          ∙ ap (λ (l : List ℕ). before ++ l) (sym (c.is_shown_as_it_is.ensures w.if-is_shown_as_it_is.true)))
      | else-is_shown_as_it_is+else-loop-byte-test w ↦
          rw w.out-is
          (w.loop-byte.invariant
          ∙ ap (λ (l : List ℕ). before ++ map shown l)
          (take_all w.loop-byte.byte-index line (omega (arith, w.loop-byte-test.false))))
    ] in
    c.in_ok-push-2.ensures.items
    ∙ ap (λ (l : List ℕ). l ++ (10 ∷ [])) so_far
    ∙ append_assoc before (map shown line) (10 ∷ [])
