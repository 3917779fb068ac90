-- Numbers that are printed: those of refusals and of the reasons of a `no`.
use Rattle.std.specs.Prelude.{◌≢◌, ℕ}
use Rattle.wq_text.specs.declared.text.TextError.{TextError}
use Rattle.wq_text.specs.Limits.{text_refusal}
use Rattle.wq_decl.specs.declared.fault.DeclError.{DeclError}
use Rattle.wq_decl.specs.Reading.{decl_refusal}
use Rattle.wq_items.specs.declared.fault.ItemError.{ItemError}
use Rattle.wq_items.specs.declared.fault.ItemError.TheVariants as items
use Rattle.wq_items.specs.Building.{item_refusal}
use Rattle.wq_groups.specs.declared.fault.GroupError.{GroupError}
use Rattle.wq_groups.specs.declared.fault.GroupError.TheVariants as groups
use Rattle.wq_groups.specs.Grouping.{group_refusal}
use Rattle.wq_cert.specs.declared.fault.CertError.{CertError}
use Rattle.wq_cert.specs.declared.fault.CertError.TheVariants as certificates
use Rattle.wq_cert.specs.Texts.{cert_refusal}
use Rattle.wq_checker.specs.declared.answer.No.{No}
use Rattle.wq_checker.specs.Codes.{no_code}

-- the number of a refusal of a declaration by one of its four passes, of a refusal of a certificate, or of a `no`;
-- running out of memory isn't a refusal of a text
pub data IsPrinted : ℕ → Type 0 where
  of_limit : (e : TextError) → IsPrinted (text_refusal e).code
  of_line : (e : DeclError) → IsPrinted (decl_refusal e).code
  of_item : (e : ItemError) → e ≢ items.OutOfMemory → IsPrinted (item_refusal e).code
  of_group : (e : GroupError) → e ≢ groups.OutOfMemory → IsPrinted (group_refusal e).code
  of_certificate : (e : CertError) → e ≢ certificates.OutOfMemory → IsPrinted (cert_refusal e).code
  of_no : (reason : No) → IsPrinted (no_code reason)
