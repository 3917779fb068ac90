use Rattle.std.proofs.Common.{◌+◌, ◌∷◌, [], List, length, refl, sym, subst}
use Rattle.wq_text.specs.Lines.{LineView, pieces, lines_from}
use Rattle.wq_text.specs.Words.{WordView, BeginsWithWords}
use Rattle.wq_text.proofs.PlainLines.{BeginsWithWords-pair}
use Rattle.wq_text.proofs.line.Lines.next_pair.Goals as goal

pub returns-clause-pair : goal.returns-clause-pair
returns-clause-pair c =
    let s = c.self.inside in
    let keyword = c.args.keyword.now in
    let name = c.in_ok-name.name.now in
    let target = c.in_ok-target.target.now in
    let rest = c.in_ok-target.rest.now in
    let first = s.start + (length keyword + 1) in
    let second = first + (length name + 1) in
    let end = second + (length target + 1) in
    let left = lines_from (s.before + 1 + 1) end (pieces rest) in
    let one : WordView = record { start = first; bytes = name } in
    let two : WordView = record { start = second; bytes = target } in
    let begins : BeginsWithWords keyword (one ∷ two ∷ []) (lines_from (s.before + 1) s.start (pieces s.rest.now)) left =
    BeginsWithWords-pair (s.before + 1) s.start first (s.before + 1 + 1) s.rest.now keyword c.in_ok-after.after.now name
    c.in_ok-after.ensures c.requires.plain c.requires.some
    c.in_ok-name.ensures.greater c.in_ok-name.ensures.some refl refl c.in_ok-name.behind.now target rest second end
    c.in_ok-name.ensures.whole c.in_ok-target.ensures.whole c.in_ok-target.ensures.greater
    c.in_ok-target.ensures.some refl refl in
    subst (λ (w : WordView). BeginsWithWords keyword (w ∷ c.of-2.result ∷ []) c.args.self.now left) (sym c.of.ensures)
    (subst (λ (w : WordView). BeginsWithWords keyword (one ∷ w ∷ []) c.args.self.now left) (sym c.of-2.ensures)
    (subst (λ (lines : List LineView). BeginsWithWords keyword (one ∷ two ∷ []) lines left) c.self.view_is begins))
