-- What `hang` promises follows from what it answers.
use Rattle.std.proofs.Common.{
  ◌≡◌,
  ℕ,
  ◌<◌,
  Bool,
  true,
  false,
  List,
  [],
  length,
  Some,
  None,
  Result,
  Ok,
  Err,
  refl,
  sym,
  ap,
  subst,
  ◌∙◌,
}
use Rattle.std.specs.Prelude.{MatchResult, option_map}
use Rattle.std.specs.Result.{result_ok}
use Rattle.wq_text.specs.Refusal.{Refusal}
use Rattle.wq_groups.specs.DeclaredGroups.{declared_waits, Declared}
use Rattle.wq_core.specs.declared.step.Step.{Step}
use Rattle.wq_core.specs.Deadlock.{IsSafe}
use Rattle.wq_core.specs.Readings.{reading}
use Rattle.wq_core.specs.Wiring.{Wiring}
use Rattle.wq_core.specs.Workqueues.{Workqueues, wiring_of}
use Rattle.wq_core.proofs.MoreFlushes.{IsSafeAnyway-all}
use Rattle.wq_cert.specs.declared.fault.CertError.{CertError}
use Rattle.wq_cert.specs.Part.{has_unsure, made_of}
use Rattle.wq_cert.specs.Ranges.{AreWorkqueuesOf}
use Rattle.wq_cert.specs.Texts.{workqueues_of_text, cert_refusal}
use Rattle.wq_cert.proofs.LanesRead.{AreWorkqueuesOf-workqueues_of_text}
use Rattle.wq_hang.specs.Shortest.{IsFewest}
use Rattle.wq_hang.specs.Walk.{needs}
use Rattle.wq_commands.specs.declared.end.End.{End}
use Rattle.wq_commands.specs.declared.end.End.TheVariants.{Good, Bad, Refused}
use Rattle.wq_commands.specs.Answer.{PrintsRefusal}
use Rattle.wq_commands.specs.Declaration.{declaration}
use Rattle.wq_commands.specs.DeclaredIn.{Named, named_of}
use Rattle.wq_commands.specs.HangPromise.{IsRunText, KeepsHang, PrintsFewest, SayBoth}
use Rattle.wq_commands.proofs.AnswerLemmas.{IsSound, IsSound-declaration}
use Rattle.wq_commands.proofs.DeclaredLemmas.{declared_in-declaration}
use Rattle.wq_hang_command.specs.Hanging.{Hangs, HangsAssigned}
use Rattle.wq_hang_command.proofs.HangLemmas.{made_of-shortest, made_of-sure, needs-none}

-- an answer that keeps its promise in both cases, `safe` and a run
pub record KeepsBoth (Holds : Wiring → List ℕ → List Step → Type 0) (declared lanes : List ℕ) (end : End)
    (out : List ℕ) : Type 0 where
  pub safe : end ≡ Good → (s : Named) × (ws : Workqueues) × SayBoth declared lanes s ws
      × IsSafe (wiring_of s.declared ws)
  pub hangs : end ≡ Bad → PrintsFewest Holds declared lanes out

module _ (Holds : Wiring → List ℕ → List Step → Type 0) (declared lanes out : List ℕ) where
  refused : (end : End) (r : Refusal) → PrintsRefusal r end out → KeepsBoth Holds declared lanes end out
  refused end r h = record {
    safe = λ e. absurd (let never : Refused ≡ Good = sym h.0 ∙ e in cc);
    hangs = λ e. absurd (let never : Refused ≡ Bad = sym h.0 ∙ e in cc);
  }

  -- both texts are read
  module _ (s : Declared) (is : declaration declared ≡ Ok s) (ws : Workqueues)
      (read : workqueues_of_text s.table.names s.partition lanes ≡ Ok ws) where
    says : SayBoth declared lanes (named_of s) ws
    says = record {
      declares = declared_in-declaration declared
          ∙ ap (λ (r : Result Declared Refusal). option_map named_of (result_ok r)) is;
      assigns = read;
    }

    good : IsSafe (wiring_of (declared_waits s) ws) → KeepsBoth Holds declared lanes Good out
    good safe = record { safe = λ e. (named_of s, ws, says, safe); hangs = λ e. absurd cc }

    bad : (kept : List ℕ) (steps : List Step) → IsRunText (named_of s) out kept steps
        → Holds (wiring_of (declared_waits s) ws) kept steps
        → ((others : List ℕ) → length others < length kept → IsSafe (reading (wiring_of (declared_waits s) ws) others))
        → KeepsBoth Holds declared lanes Bad out
    bad kept steps text holds fewest = record {
      safe = λ e. absurd cc;
      hangs = λ e. record {
        s = named_of s;
        ws = ws;
        says = says;
        kept = kept;
        steps = steps;
        text = text;
        holds = holds;
        fewest = fewest;
      };
    }

  -- for any texts: it is enough that the promise is kept for texts that are read
  module _ (Assigned : Declared → Workqueues → End → List ℕ → Type 0)
      (each : (s : Declared) → declaration declared ≡ Ok s → IsSound s → (ws : Workqueues)
      → workqueues_of_text s.table.names s.partition lanes ≡ Ok ws → AreWorkqueuesOf s.partition.groups ws
      → (end : End) → Assigned s ws end out → KeepsBoth Holds declared lanes end out) (end : End) where
    by_lanes : (s : Declared) → declaration declared ≡ Ok s → IsSound s → (r : Result Workqueues CertError)
        → workqueues_of_text s.table.names s.partition lanes ≡ r
        → MatchResult r (λ ws. Assigned s ws end out) (λ fault. PrintsRefusal (cert_refusal fault) end out)
        → KeepsBoth Holds declared lanes end out
    by_lanes s is sound (Ok ws) read h =
        each s is sound ws read
        (AreWorkqueuesOf-workqueues_of_text s.table.names s.partition sound.partition (sym sound.one_group_each) lanes
        ws read) end h
    by_lanes s is sound (Err fault) read h = refused end (cert_refusal fault) h

    by_texts : (r : Result Declared Refusal) → declaration declared ≡ r → ((s : Declared) → r ≡ Ok s → IsSound s)
        → MatchResult r (λ s. MatchResult (workqueues_of_text s.table.names s.partition lanes)
        (λ ws. Assigned s ws end out) (λ fault. PrintsRefusal (cert_refusal fault) end out))
        (λ r. PrintsRefusal r end out) → KeepsBoth Holds declared lanes end out
    by_texts (Ok s) is sound h =
        by_lanes s is (sound s refl) (workqueues_of_text s.table.names s.partition lanes) refl h
    by_texts (Err r) is sound h = refused end r h

module _ (declared lanes out : List ℕ) where
  of_hangs : (s : Declared) → declaration declared ≡ Ok s → IsSound s → (ws : Workqueues)
      → workqueues_of_text s.table.names s.partition lanes ≡ Ok ws → AreWorkqueuesOf s.partition.groups ws
      → (end : End) → HangsAssigned s ws end out → KeepsBoth IsFewest declared lanes end out
  of_hangs s is sound ws read are Good h = good IsFewest declared lanes out s is ws read h.1
  of_hangs s is sound ws read are Bad h = by_kind (has_unsure s.table.waits) refl
    where
      w : Wiring
      w = wiring_of (declared_waits s) ws

      by_kind : (some : Bool) → has_unsure s.table.waits ≡ some → KeepsBoth IsFewest declared lanes Bad out
      by_kind false none =
          let made = subst (λ (bytes : List ℕ). made_of s.table.names s.table.waits bytes ≡ Ok (None, h.steps))
          (sym h.text) (made_of-sure s sound ws are.assignment h.hops h.steps h.hang none) in
          let fewest : IsFewest w [] h.steps = subst (λ (kept : List ℕ). IsFewest w kept h.steps)
          (needs-none s sound ws are.assignment h.hops h.steps h.hang none) h.hang.fewest in
          bad IsFewest declared lanes out s is ws read [] h.steps (None, made, refl) fewest fewest.fewest
      by_kind true some =
          let made = subst (λ (bytes : List ℕ). made_of s.table.names s.table.waits bytes
          ≡ Ok (Some (needs h.hops), h.steps)) (sym h.text)
          (made_of-shortest s sound ws are.assignment h.hops h.steps h.hang some) in
          bad IsFewest declared lanes out s is ws read (needs h.hops) h.steps (Some (needs h.hops), made, refl)
          h.hang.fewest h.hang.fewest.fewest
  of_hangs s is sound ws read are Refused h = absurd h

pub KeepsHang-hangs : (declared lanes : List ℕ) (end : End) (out : List ℕ) → Hangs declared lanes end out
    → KeepsHang declared lanes end out
KeepsHang-hangs declared lanes end out h =
    let kept = by_texts IsFewest declared lanes out HangsAssigned (of_hangs declared lanes out) end
    (declaration declared) refl (IsSound-declaration declared) h in
    record {
      safe = λ e.
          let found = kept.safe e in
          (found.0, found.1, found.2, (IsSafeAnyway-all (wiring_of found.0.declared found.1)).0 found.3);
      hang = kept.hangs;
    }
