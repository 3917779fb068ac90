use Rattle.std.proofs.Common.{◌+◌, ◌∷◌, [], List, length, refl, sym, subst}
use Rattle.wq_text.specs.Lines.{LineView, pieces, lines_from}
use Rattle.wq_text.specs.Words.{WordView, BeginsWithWords}
use Rattle.wq_text.proofs.PlainLines.{BeginsWithWords-single}
use Rattle.wq_text.proofs.line.Lines.next_single.Goals as goal

pub returns-clause-single : goal.returns-clause-single
returns-clause-single c =
    let s = c.self.inside in
    let keyword = c.args.keyword.now in
    let name = c.in_ok-name.name.now in
    let rest = c.in_ok-name.rest.now in
    let first = s.start + (length keyword + 1) in
    let end = first + (length name + 1) in
    let left = lines_from (s.before + 1 + 1) end (pieces rest) in
    let one : WordView = record { start = first; bytes = name } in
    let begins : BeginsWithWords keyword (one ∷ []) (lines_from (s.before + 1) s.start (pieces s.rest.now)) left =
    BeginsWithWords-single (s.before + 1) s.start first (s.before + 1 + 1) s.rest.now keyword c.in_ok-after.after.now
    name c.in_ok-after.ensures c.requires.plain c.requires.some
    c.in_ok-name.ensures.greater c.in_ok-name.ensures.some refl refl rest end c.in_ok-name.ensures.whole refl in
    subst (λ (w : WordView). BeginsWithWords keyword (w ∷ []) c.args.self.now left) (sym c.of.ensures)
    (subst (λ (lines : List LineView). BeginsWithWords keyword (one ∷ []) lines left) c.self.view_is begins)
