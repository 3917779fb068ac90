-- The numbers that the program prints, and the numbers that have an explanation.
use Rattle.std.proofs.Common.{◌≡◌, ℕ, Bool, true, false, cond, List, [], ◌∷◌, Option, Some, None, refl, subst}
use Rattle.std.specs.List.{cons_option, filter_map}
use Rattle.std.proofs.lemmas.Bool.{eqb-true}
use Rattle.wq_text.specs.declared.text.TextError.TheVariants.{TextTooLong, LineTooLong}
use Rattle.wq_decl.specs.declared.fault.DeclError.TheVariants.{BadByte, UnknownWord, MissingName, ExtraWord, BadName}
use Rattle.wq_items.specs.declared.fault.ItemError.TheVariants as items
use Rattle.wq_groups.specs.declared.fault.GroupError.TheVariants as groups
use Rattle.wq_cert.specs.declared.fault.CertError.TheVariants as certificates
use Rattle.wq_checker.specs.declared.answer.No.TheVariants.{NotFalling, LengthDiffers, ChainBroken, CircleBroken}
use Rattle.wq_checker.specs.declared.answer.No.TheVariants.{RunBroken}
use Rattle.wq_checker.specs.declared.around.NoAround.TheVariants.{HasRescuer, Plain}
use Rattle.wq_commands.specs.Numbers.{IsPrinted, of_limit, of_line, of_item, of_group, of_certificate, of_no}
use Rattle.wqplan.specs.Numbers.{IsPrintedByProgram, of_around, of_text, of_plan}
use Rattle.wq_explain.specs.declared.explain.Explained.TheVariants.{Known}
use Rattle.wq_explain.specs.Explaining.{Row, explanations, known_or_not, number_end, numbered, numbers, with_number}

-- the number of a refused text, or of a `no`, has an explanation
Known-text : (code : ℕ) → IsPrinted code → number_end code ≡ Known
Known-text code (of_limit TextTooLong) = refl
Known-text code (of_limit (LineTooLong line)) = refl
Known-text code (of_line (BadByte line)) = refl
Known-text code (of_line (UnknownWord line)) = refl
Known-text code (of_line (MissingName line)) = refl
Known-text code (of_line (ExtraWord line)) = refl
Known-text code (of_line (BadName line)) = refl
Known-text code (of_item (items.ItemTwice line) some) = refl
Known-text code (of_item (items.UnknownItem line) some) = refl
Known-text code (of_item (items.TooManyItems line) some) = refl
Known-text code (of_item (items.TooManyFlushes line) some) = refl
Known-text code (of_item items.OutOfMemory some) = absurd (some refl)
Known-text code (of_group (groups.GroupedTwice line) some) = refl
Known-text code (of_group groups.OutOfMemory some) = absurd (some refl)
Known-text code (of_certificate (certificates.BadCertLine line) some) = refl
Known-text code (of_certificate (certificates.NotAllItems line) some) = refl
Known-text code (of_certificate (certificates.GroupSplit line) some) = refl
Known-text code (of_certificate (certificates.NumberOutOfRange line) some) = refl
Known-text code (of_certificate certificates.OutOfMemory some) = absurd (some refl)
Known-text code (of_no (NotFalling item target)) = refl
Known-text code (of_no (ChainBroken at)) = refl
Known-text code (of_no LengthDiffers) = refl
Known-text code (of_no (CircleBroken at)) = refl
Known-text code (of_no RunBroken) = refl

-- so has each printed number
pub Known-printed : (code : ℕ) → IsPrintedByProgram code → number_end code ≡ Known
Known-printed code (of_text printed) = Known-text code printed
Known-printed code (of_around (Plain reason)) = Known-text code (of_no reason)
Known-printed code (of_around HasRescuer) = refl
Known-printed code of_plan = refl

-- each of these numbers is printed
abbrev AllPrinted : List ℕ → Type 0
AllPrinted [] = Unit {0}
AllPrinted (code ∷ codes) = IsPrintedByProgram code × AllPrinted codes

-- the number of a row, if it has one, is printed, and so are the numbers of the rows after it
printed_at : (own : Option ℕ) (codes : List ℕ) (code : ℕ) → AllPrinted (cons_option own codes)
    → numbered own code ≡ true → IsPrintedByProgram code
printed_at (Some own) codes code printed is = subst IsPrintedByProgram (eqb-true own code is) printed.0
printed_at None codes code printed is = cc

printed_after : (own : Option ℕ) (codes : List ℕ) → AllPrinted (cons_option own codes) → AllPrinted codes
printed_after (Some own) codes printed = printed.1
printed_after None codes printed = printed

-- a number that one of the rows has is one of theirs
printed_in : (rows : List Row) → AllPrinted (filter_map (λ (row : Row). row.code) rows) → (code : ℕ)
    → known_or_not (with_number rows code) ≡ Known → IsPrintedByProgram code
printed_in [] printed code known = absurd cc
printed_in (row ∷ rows) printed code known =
    let others = filter_map (λ (row : Row). row.code) rows in
    go (numbered row.code code) refl known (printed_in rows (printed_after row.code others printed) code)
  where
    go : (same : Bool) → numbered row.code code ≡ same
        → known_or_not (cond same (Some row) (with_number rows code)) ≡ Known
        → (known_or_not (with_number rows code) ≡ Known → IsPrintedByProgram code) → IsPrintedByProgram code
    go true is found others = printed_at row.code (filter_map (λ (row : Row). row.code) rows) code printed is
    go false is found others = others found

-- in the order of the numbers
all_printed : AllPrinted numbers
all_printed = (
  of_text (of_limit TextTooLong),
  (
    of_text (of_limit (LineTooLong 0)),
    (
      of_text (of_line (BadByte 0)),
      (
        of_text (of_line (UnknownWord 0)),
        (
          of_text (of_line (MissingName 0)),
          (
            of_text (of_line (BadName 0)),
            (
              of_text (of_item (items.ItemTwice 0) (λ is. cc)),
              (
                of_text (of_item (items.UnknownItem 0) (λ is. cc)),
                (
                  of_text (of_item (items.TooManyItems 0) (λ is. cc)),
                  (
                    of_text (of_item (items.TooManyFlushes 0) (λ is. cc)),
                    (
                      of_text (of_group (groups.GroupedTwice 0) (λ is. cc)),
                      (
                        of_text (of_line (ExtraWord 0)),
                        (
                          of_text (of_certificate (certificates.BadCertLine 0) (λ is. cc)),
                          (
                            of_text (of_certificate (certificates.NotAllItems 0) (λ is. cc)),
                            (
                              of_text (of_certificate (certificates.GroupSplit 0) (λ is. cc)),
                              (
                                of_text (of_certificate (certificates.NumberOutOfRange 0) (λ is. cc)),
                                (
                                  of_text (of_no (NotFalling 0 0)),
                                  (
                                    of_text (of_no (ChainBroken 0)),
                                    (
                                      of_text (of_no LengthDiffers),
                                      (
                                        of_text (of_no (CircleBroken 0)),
                                        (
                                          of_text (of_no RunBroken),
                                          (
                                            of_around HasRescuer,
                                            (
                                              of_plan,
                                              tt,
                                            ),
                                          ),
                                        ),
                                      ),
                                    ),
                                  ),
                                ),
                              ),
                            ),
                          ),
                        ),
                      ),
                    ),
                  ),
                ),
              ),
            ),
          ),
        ),
      ),
    ),
  ),
)

-- a number that has an explanation is printed
pub IsPrinted-known : (code : ℕ) → number_end code ≡ Known → IsPrintedByProgram code
IsPrinted-known = printed_in explanations all_printed
