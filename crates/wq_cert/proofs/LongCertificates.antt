-- Texts that are too long: a prefix shows it.
use Rattle.std.proofs.Common.{◌≡◌, ℕ, ◌+◌, ◌<◌, List, length, take, Result, Err, refl, sym, ap, ◌∙◌, arith, inl, inr}
use Rattle.std.proofs.lemmas.Bool.{cases_lt, lt-ltb}
use Rattle.std.proofs.lemmas.List.{length-take, take_all}
use Rattle.wq_cert.specs.declared.fault.CertError.{CertError}
use Rattle.wq_cert.specs.declared.fault.CertError.TheVariants.{BadCertLine}
use Rattle.wq_cert.specs.Lines.{CertLine}
use Rattle.wq_cert.specs.Texts.{max_certificate, text_reading}

module _ {V : Type 0} (read : List CertLine → Result V CertError) where
  pub text_reading-long : (text : List ℕ) → max_certificate < length text → text_reading read text ≡ Err (BadCertLine 0)
  text_reading-long text long = rw (lt-ltb max_certificate (length text) long) refl

  pub text_reading-take : (text : List ℕ) → text_reading read (take (max_certificate + 1) text) ≡ text_reading read text
  text_reading-take text = elim (cases_lt (max_certificate + 1) (length text)) [
    | inl long ↦ text_reading-long (take (max_certificate + 1) text) (omega (arith, length-take (max_certificate + 1) text)) ∙ sym (text_reading-long text (omega arith))
    | inr whole ↦ ap (text_reading read) (take_all (max_certificate + 1) text whole)
  ]
