use Rattle.std.proofs.Common.{◌≡◌, ℕ, not, List, Option, Result, IsOk, sym, ap, subst, ◌∙◌}
use Rattle.std.specs.List.{list_all}
use Rattle.wq_text.specs.Words.{words_of}
use Rattle.wq_decl.specs.declared.directive.Directive.{Directive}
use Rattle.wq_decl.specs.declared.fault.DeclError.{DeclError}
use Rattle.wq_decl.specs.Reading.{is_text_byte, words_reading}
use Rattle.wq_decl.proofs.TextLemmas.{reading-text, reading-words}
use Rattle.wq_decl.proofs.reading.read_line.Goals as goal
use Rattle.wq_decl.proofs.reading.read_line.Goals.{else-is_err-via-then-is_err+else-not-are_text_bytes, else-is_err-via-else-is_err}

pub returns : goal.returns
returns c =
    let line = c.args.line.now in
    let found : c.read_words-found.result ≡ words_reading line.no (words_of line) = c.read_words-found.ensures in
    elim c.else-is_err.branch [
      | else-is_err-via-then-is_err+else-not-are_text_bytes w ↦
          found ∙ reading-text line (sym (w.are_text_bytes.ensures ∙ ap (λ (bs : List ℕ). list_all is_text_byte bs) w.content.ensures) ∙ w.if-not-are_text_bytes.false)
      | else-is_err-via-else-is_err w ↦
          let ok : IsOk (words_reading line.no (words_of line)) = subst (λ (r : Result (Option Directive) DeclError). IsOk r) found (c.is_err.ensures.negation ∙ ap not w.if-is_err.false) in
          found ∙ reading-words line ok
    ]
