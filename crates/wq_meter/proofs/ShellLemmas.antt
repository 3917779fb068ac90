-- The texts that came, and those that the readers had.
use Rattle.std.proofs.Common.{◌≡◌, ℕ, List, Option, Some, subst, ap, ◌∙◌}
use Rattle.wq_meter.specs.Meter.{Meter}
use Rattle.wq_meter.specs.declared.texts.Limits.{Limits}
use Rattle.wq_meter.specs.Shell.{AreFrom, AreKept, Came, Given, GivesIf, kept}

abbrev pub given : List ℕ → List ℕ → List ℕ → Given
given first second third = record { first = first; second = second; third = third }

given-same : {first second third first' second' third' : List ℕ} → first ≡ first' → second ≡ second' → third ≡ third'
    → given first second third ≡ given first' second' third'
given-same {first} {second} {third} {first'} {second'} {third'} p q r =
    ap (λ t. given t second third) p ∙ ap (λ t. given first' t third) q ∙ ap (λ t. given first' second' t) r

module _ {D S T : Type 0} {first_known : D → Option (List ℕ)} {second_known : S → Option (List ℕ)} {third_known : T → Option (List ℕ)}
    {first_old first_new : Meter D} {second_old second_new : Meter S} {third_old third_new : Meter T} {texts : Given}
    (read limits : Limits) (is : read ≡ limits)
    (first_came : Came first_known first_old first_new (Some read.first) texts.first)
    (second_came : Came second_known second_old second_new read.second texts.second)
    (third_came : Came third_known third_old third_new read.third texts.third) where
  abbrev pub had : Given
  had = given first_came.text second_came.text third_came.text

  same : texts ≡ kept limits had
  same = given-same first_came.prefix second_came.prefix third_came.prefix ∙ ap (λ (l : Limits). kept l had) is

  abbrev pub From : Given → Type 0
  From = AreFrom (GivesIf first_known first_old first_new (Some limits.first)) (GivesIf second_known second_old second_new limits.second) (GivesIf third_known third_old third_new limits.third)

  from : From had
  from = (
    subst (λ (l : Limits). GivesIf first_known first_old first_new (Some l.first) first_came.text) is first_came.gives,
    subst (λ (l : Limits). GivesIf second_known second_old second_new l.second second_came.text) is second_came.gives,
    subst (λ (l : Limits). GivesIf third_known third_old third_new l.third third_came.text) is third_came.gives,
  )

  pub kept_of_readers : AreKept limits From texts
  kept_of_readers = record { had = had; from = from; is = same }
