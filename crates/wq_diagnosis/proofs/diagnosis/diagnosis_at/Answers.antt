use Rattle.std.proofs.Common.{◌<◌, [], ◌∷◌, inl, inr, map, refl, arith}
use Rattle.std.proofs.lemmas.Result.{IfOk-weaker}
use Rattle.wq_diagnosis.proofs.Lines.{diagnosis_of}
use Rattle.wq_diagnosis.proofs.diagnosis.diagnosis_at.Goals as goal

pub returns-then-line-eq0 : goal.returns-then-line-eq0
returns-then-line-eq0 g c =
    let refusal = c.args.refusal in
    let details = map (λ line. line.items) c.args.details.now in
    IfOk-weaker c.whole_text.result _ _ (λ said is.
    diagnosis_of c.args.file.now refusal.word.now c.args.what.now refusal.code refusal.line [] details said.items
    (inl (c.if-line-eq0.true, refl)) is) c.whole_text.ensures

pub returns-in-Some : goal.returns-in-Some
returns-in-Some g c =
    let refusal = c.args.refusal in
    let details = map (λ line. line.items) c.args.details.now in
    let some : 0 < refusal.line = omega (arith, c.if-line-eq0.false) in
    IfOk-weaker c.whole_text-in-Some.result _ _ (λ said is.
    diagnosis_of c.args.file.now refusal.word.now c.args.what.now refusal.code refusal.line (refusal.line ∷ c.column.result ∷ []) details said.items
    (inr (some, inr (c.column.result, refl))) is) c.whole_text-in-Some.ensures

pub returns-in-None : goal.returns-in-None
returns-in-None g c =
    let refusal = c.args.refusal in
    let details = map (λ line. line.items) c.args.details.now in
    let some : 0 < refusal.line = omega (arith, c.if-line-eq0.false) in
    IfOk-weaker c.whole_text-in-None.result _ _ (λ said is.
    diagnosis_of c.args.file.now refusal.word.now c.args.what.now refusal.code refusal.line (refusal.line ∷ []) details said.items
    (inr (some, inl refl)) is) c.whole_text-in-None.ensures
