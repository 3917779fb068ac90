-- What `hang` with names promises follows from what it answers.
use Rattle.std.proofs.Common.{◌≡◌, ℕ, Bool, true, false, List, [], Option, Some, None, Result, Ok, Err, refl, sym, ap}
use Rattle.std.proofs.Common.{subst, ◌∙◌}
use Rattle.std.specs.Prelude.{MatchResult, option_map}
use Rattle.std.specs.Result.{result_ok}
use Rattle.wq_text.specs.Refusal.{Refusal}
use Rattle.wq_groups.specs.DeclaredGroups.{declared_waits, Declared}
use Rattle.wq_core.specs.declared.step.Step.{Step}
use Rattle.wq_core.specs.Wiring.{Wiring}
use Rattle.wq_core.specs.Workqueues.{Workqueues, wiring_of}
use Rattle.wq_cert.specs.declared.fault.CertError.{CertError}
use Rattle.wq_cert.specs.Part.{has_unsure, made_of}
use Rattle.wq_cert.specs.Ranges.{AreWorkqueuesOf}
use Rattle.wq_cert.specs.Texts.{workqueues_of_text, cert_refusal}
use Rattle.wq_cert.proofs.LanesRead.{AreWorkqueuesOf-workqueues_of_text}
use Rattle.wq_hang.specs.ShortestFor.{IsFewestFor}
use Rattle.wq_hang.specs.Walk.{needs}
use Rattle.wq_commands.specs.declared.end.End.{End}
use Rattle.wq_commands.specs.declared.end.End.TheVariants.{Good, Bad, Refused}
use Rattle.wq_commands.specs.Answer.{PrintsRefusal}
use Rattle.wq_commands.specs.Declaration.{declaration}
use Rattle.wq_commands.specs.DeclaredIn.{named_of}
use Rattle.wq_commands.specs.HangPromise.{IsRunText, KeepsHold, SayBoth}
use Rattle.wq_commands.specs.Named.{items_with_names, IfNamed, unknown_item}
use Rattle.wq_commands.proofs.AnswerLemmas.{IsSound, IsSound-declaration}
use Rattle.wq_commands.proofs.DeclaredLemmas.{declared_in-declaration}
use Rattle.wq_hang_command.specs.Holding.{Holds, HoldsAssigned, PrintsHold}
use Rattle.wq_hang_command.proofs.HoldLemmas.{made_of-held, made_of-held_sure, needs-none_held, IsSafeFor-reading}

module _ (names : List (List ℕ)) (declared lanes out : List ℕ) where
  refused : (end : End) (r : Refusal) → PrintsRefusal r end out → KeepsHold names declared lanes end out
  refused end r h = record {
    safe = λ e. absurd (let never : Refused ≡ Good = sym h.0 ∙ e in cc);
    held = λ e. absurd (let never : Refused ≡ Bad = sym h.0 ∙ e in cc);
  }

  -- both texts are read, and each name is that of an item
  module _ (s : Declared) (is : declaration declared ≡ Ok s) (sound : IsSound s) (ws : Workqueues)
      (read : workqueues_of_text s.table.names s.partition lanes ≡ Ok ws)
      (assigned : AreWorkqueuesOf s.partition.groups ws)
      (named : List ℕ) (are : items_with_names s.table.names names ≡ Some named) where
    abbrev w : Wiring
    w = wiring_of (declared_waits s) ws

    says : SayBoth declared lanes (named_of s) ws
    says = record {
      declares = declared_in-declaration declared
          ∙ ap (λ (r : Result Declared Refusal). option_map named_of (result_ok r)) is;
      assigns = read;
    }

    bad : (kept : List ℕ) (steps : List Step) → IsRunText (named_of s) out kept steps → IsFewestFor w named kept steps
        → KeepsHold names declared lanes Bad out
    bad kept steps text fewest = record {
      safe = λ e. absurd cc;
      held = λ e. record {
        s = named_of s;
        ws = ws;
        says = says;
        named = named;
        are = are;
        kept = kept;
        steps = steps;
        text = text;
        fewest = fewest;
      };
    }

    by_kind : (h : PrintsHold s ws named out) (some : Bool) → has_unsure s.table.waits ≡ some
        → KeepsHold names declared lanes Bad out
    by_kind h false none =
        let made = subst (λ (bytes : List ℕ). made_of s.table.names s.table.waits bytes ≡ Ok (None, h.steps))
        (sym h.text) (made_of-held_sure s sound ws assigned.assignment named h.item h.hops h.steps h.held none) in
        let fewest : IsFewestFor w named [] h.steps = subst (λ (kept : List ℕ). IsFewestFor w named kept h.steps)
        (needs-none_held s sound ws assigned.assignment named h.item h.hops h.steps h.held none) h.held.fewest in
        bad [] h.steps (None, made, refl) fewest
    by_kind h true some =
        let made = subst (λ (bytes : List ℕ). made_of s.table.names s.table.waits bytes
        ≡ Ok (Some (needs h.hops), h.steps)) (sym h.text)
        (made_of-held s sound ws assigned.assignment named h.item h.hops h.steps h.held some) in
        bad (needs h.hops) h.steps (Some (needs h.hops), made, refl) h.held.fewest

    of_named : (end : End) → HoldsAssigned s ws named end out → KeepsHold names declared lanes end out
    of_named Good h = record {
      safe = λ e. (named_of s, ws, named, says, are, IsSafeFor-reading s sound ws assigned.assignment named h.1);
      held = λ e. absurd cc;
    }
    of_named Bad h = by_kind h (has_unsure s.table.waits) refl
    of_named Refused h = absurd h

  module _ (end : End) where
    by_names : (s : Declared) → declaration declared ≡ Ok s → IsSound s → (ws : Workqueues)
        → workqueues_of_text s.table.names s.partition lanes ≡ Ok ws → AreWorkqueuesOf s.partition.groups ws
        → (named : Option (List ℕ)) → items_with_names s.table.names names ≡ named
        → IfNamed named (HoldsAssigned s ws) end out → KeepsHold names declared lanes end out
    by_names s is sound ws read assigned None are h = refused end unknown_item h
    by_names s is sound ws read assigned (Some named) are h = of_named s is sound ws read assigned named are end h

    by_lanes : (s : Declared) → declaration declared ≡ Ok s → IsSound s → (r : Result Workqueues CertError)
        → workqueues_of_text s.table.names s.partition lanes ≡ r
        → MatchResult r (λ ws. IfNamed (items_with_names s.table.names names) (HoldsAssigned s ws) end out)
        (λ fault. PrintsRefusal (cert_refusal fault) end out) → KeepsHold names declared lanes end out
    by_lanes s is sound (Ok ws) read h =
        by_names s is sound ws read
        (AreWorkqueuesOf-workqueues_of_text s.table.names s.partition sound.partition (sym sound.one_group_each) lanes
        ws read) (items_with_names s.table.names names) refl h
    by_lanes s is sound (Err fault) read h = refused end (cert_refusal fault) h

    by_texts : (r : Result Declared Refusal) → declaration declared ≡ r → ((s : Declared) → r ≡ Ok s → IsSound s)
        → MatchResult r (λ s. MatchResult (workqueues_of_text s.table.names s.partition lanes)
        (λ ws. IfNamed (items_with_names s.table.names names) (HoldsAssigned s ws) end out)
        (λ fault. PrintsRefusal (cert_refusal fault) end out))
        (λ r. PrintsRefusal r end out) → KeepsHold names declared lanes end out
    by_texts (Ok s) is sound h =
        by_lanes s is (sound s refl) (workqueues_of_text s.table.names s.partition lanes) refl h
    by_texts (Err r) is sound h = refused end r h

pub KeepsHold-holds : (names : List (List ℕ)) (declared lanes : List ℕ) (end : End) (out : List ℕ)
    → Holds names declared lanes end out → KeepsHold names declared lanes end out
KeepsHold-holds names declared lanes end out h =
    by_texts names declared lanes out end (declaration declared) refl (IsSound-declaration declared) h
