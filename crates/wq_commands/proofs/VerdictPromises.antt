-- What a verdict promises, in terms of what the two texts say.
use Rattle.std.proofs.Common.{◌≡◌, ℕ, ◌<◌, ◌||◌, Bool, true, false, cond, List, [], ◌∷◌, ◌++◌, length, map, Option}
use Rattle.std.proofs.Common.{Some, None, Result, Ok, Err, refl, sym, ap, ap₂, subst, ◌∙◌, arith}
use Rattle.std.specs.Prelude.{MatchResult, filter, option_map}
use Rattle.std.specs.Result.{result_ok}
use Rattle.std.specs.List.{list_any}
use Rattle.wq_text.specs.Refusal.{Refusal}
use Rattle.wq_items.specs.declared.target.Target.{Target}
use Rattle.wq_items.specs.Readings.{is_among, unsure_places}
use Rattle.wq_items.specs.Table.{places}
use Rattle.wq_groups.specs.Assignment.{IsAssignmentOf}
use Rattle.wq_groups.specs.DeclaredGroups.{declared_waits, Declared}
use Rattle.wq_core.specs.declared.step.Step.{Step}
use Rattle.wq_core.specs.Wiring.{Wiring}
use Rattle.wq_core.specs.Workqueues.{Workqueues, wiring_of}
use Rattle.wq_core.specs.Readings.{reading}
use Rattle.wq_core.specs.Deadlock.{IsSafe, DeadlocksBy}
use Rattle.wq_core.proofs.MoreFlushes.{IsSafeAnyway-all, reading-all}
use Rattle.wq_cert.specs.declared.fault.CertError.{CertError}
use Rattle.wq_cert.specs.Part.{has_unsure, made_of}
use Rattle.wq_cert.specs.Texts.{workqueues_of_text, cert_refusal}
use Rattle.wq_cert.proofs.LanesRead.{AreWorkqueuesOf-workqueues_of_text}
use Rattle.wq_hang.specs.Walk.{needs}
use Rattle.wq_commands.specs.declared.end.End.{End}
use Rattle.wq_commands.specs.declared.end.End.TheVariants.{Good, Bad, Refused}
use Rattle.wq_commands.specs.Answer.{PrintsRefusal}
use Rattle.wq_commands.specs.Deadlocking.{PrintsRun, JudgesAssigned, JudgesDeclared, Judges}
use Rattle.wq_commands.specs.Declaration.{declaration}
use Rattle.wq_commands.specs.DeclaredIn.{declared_in, named_of}
use Rattle.wq_commands.specs.HangPromise.{SayBoth, AreSafeAnyway, IsRunText, PrintsFewest, KeepsVerdict}
use Rattle.wq_commands.proofs.AnswerLemmas.{IsSound, IsSound-declaration}
use Rattle.wq_commands.proofs.DeclaredLemmas.{declared_in-declaration}
use Rattle.wq_commands.proofs.ReadingLemmas.{deadlock-reading, AreKeptPlaces-needs, made_of-deadlock, made_of-reading}

-- ---- without unsure flushes

none_left : (ts : List Target) → list_any (λ (t : Target). t.unsure) ts ≡ false
    → filter (λ (t : Target). t.unsure) ts ≡ []
none_left [] none = refl
none_left (t ∷ ts) none = by t.unsure none (none_left ts)
  where
    by : (b : Bool) → (b || list_any (λ (t : Target). t.unsure) ts) ≡ false
        → (list_any (λ (t : Target). t.unsure) ts ≡ false → filter (λ (t : Target). t.unsure) ts ≡ [])
        → cond b (t ∷ filter (λ (t : Target). t.unsure) ts) (filter (λ (t : Target). t.unsure) ts) ≡ []
    by true none rest = absurd cc
    by false none rest = rest none

pub no_unsure_places : (waits : List (List Target)) → has_unsure waits ≡ false → unsure_places waits ≡ []
no_unsure_places [] none = refl
no_unsure_places (ts ∷ waits) none = by (list_any (λ (t : Target). t.unsure) ts) refl none (no_unsure_places waits)
  where
    by : (b : Bool) → list_any (λ (t : Target). t.unsure) ts ≡ b → (b || has_unsure waits) ≡ false
        → (has_unsure waits ≡ false → unsure_places waits ≡ []) → unsure_places (ts ∷ waits) ≡ []
    by true is none rest = absurd cc
    by false is none rest =
        ap (λ (l : List Target). map (λ (t : Target). t.place) l ++ unsure_places waits) (none_left ts is) ∙ rest none

-- there is one reading
pub reading-sure : (w : Wiring) (kept : List ℕ) → has_unsure w.waits ≡ false → reading w kept ≡ w
reading-sure w kept sure =
    reading-all w kept (λ p among. let never : is_among [] p ≡ true =
    ap (λ (l : List ℕ). is_among l p) (sym (no_unsure_places w.waits sure)) ∙ among in absurd cc)

-- ---- what the texts say

module _ (declared lanes : List ℕ) (s : Declared) (is : declaration declared ≡ Ok s) (ws : Workqueues)
    (read : workqueues_of_text s.table.names s.partition lanes ≡ Ok ws) where
  pub say_both : SayBoth declared lanes (named_of s) ws
  say_both = record {
    declares =
        declared_in-declaration declared
        ∙ ap (λ (r : Result Declared Refusal). option_map named_of (result_ok r)) is;
    assigns = read;
  }

  pub safe_anyway : IsSafe (wiring_of (declared_waits s) ws) → AreSafeAnyway declared lanes
  safe_anyway safe = (named_of s, ws, say_both, (IsSafeAnyway-all (wiring_of (declared_waits s) ws)).0 safe)

  module _ (sound : IsSound s) (assigned : IsAssignmentOf s.partition.groups ws.assignment) where
    prints_fewest : (b : Bool) (out : List ℕ) → has_unsure s.table.waits ≡ b → PrintsRun b s ws out
        → PrintsFewest (λ w kept steps. DeadlocksBy (reading w kept) steps) declared lanes out
    prints_fewest false out sure (steps, hang, text) = record {
      s = named_of s;
      ws = ws;
      says = say_both;
      kept = [];
      steps = steps;
      text = (
        None,
        ap (λ (bytes : List ℕ). made_of s.table.names s.table.waits bytes) text
            ∙ made_of-deadlock s sound ws assigned steps hang.deadlocks,
        refl,
      );
      holds = subst (λ (w : Wiring). DeadlocksBy w steps)
          (sym (reading-sure (wiring_of (declared_waits s) ws) [] sure)) hang.deadlocks;
      fewest = λ others fewer. absurd (omega (arith, fewer));
    }
    prints_fewest true out some (hops, (soonest, hang, steps, own, text)) = record {
      s = named_of s;
      ws = ws;
      says = say_both;
      kept = needs hops;
      steps = steps;
      text = (
        Some (needs hops),
        ap (λ (bytes : List ℕ). made_of s.table.names s.table.waits bytes) text
            ∙ made_of-reading s sound ws assigned steps (needs hops) (AreKeptPlaces-needs s ws hops soonest hang)
            own.deadlocks some,
        refl,
      );
      holds = deadlock-reading s ws (needs hops) steps own.deadlocks;
      fewest = hang.fewest.fewest;
    }

    keeps_assigned : (end : End) (out : List ℕ) → JudgesAssigned s ws end out → KeepsVerdict declared lanes end out
    keeps_assigned Good out judged = record { safe = λ good. safe_anyway judged.1; deadlocks = λ bad. absurd cc }
    keeps_assigned Bad out judged =
        record {
          safe = λ good. absurd cc;
          deadlocks =
              λ bad. prints_fewest (has_unsure s.table.waits) out refl judged;
        }
    keeps_assigned Refused out never = absurd never

-- nothing is promised of a refusal
pub keeps_refused : (declared lanes : List ℕ) (end : End) (out : List ℕ) → end ≡ Refused
    → KeepsVerdict declared lanes end out
keeps_refused declared lanes end out refused = record {
  safe = λ good. absurd (let never : Good ≡ Refused = sym good ∙ refused in cc);
  deadlocks = λ bad. absurd (let never : Bad ≡ Refused = sym bad ∙ refused in cc);
}

keeps_declared : (declared lanes : List ℕ) (s : Declared) → declaration declared ≡ Ok s → (end : End) (out : List ℕ)
    → JudgesDeclared s lanes end out → KeepsVerdict declared lanes end out
keeps_declared declared lanes s is end out = by (workqueues_of_text s.table.names s.partition lanes) refl
  where
    by : (r : Result Workqueues CertError) → workqueues_of_text s.table.names s.partition lanes ≡ r
        → MatchResult r (λ ws. JudgesAssigned s ws end out) (λ fault. PrintsRefusal (cert_refusal fault) end out)
        → KeepsVerdict declared lanes end out
    by (Ok ws) read judged =
        let sound = IsSound-declaration declared s is in
        let assigned = (AreWorkqueuesOf-workqueues_of_text s.table.names s.partition sound.partition
        (sym sound.one_group_each) lanes ws read).assignment in
        keeps_assigned declared lanes s is ws read sound assigned end out judged
    by (Err fault) read refused = keeps_refused declared lanes end out refused.0

pub KeepsVerdict-judges : (declared lanes : List ℕ) (end : End) (out : List ℕ) → Judges declared lanes end out
    → KeepsVerdict declared lanes end out
KeepsVerdict-judges declared lanes end out = by (declaration declared) refl
  where
    by : (r : Result Declared Refusal) → declaration declared ≡ r
        → MatchResult r (λ s. JudgesDeclared s lanes end out) (λ refusal. PrintsRefusal refusal end out)
        → KeepsVerdict declared lanes end out
    by (Ok s) is judged = keeps_declared declared lanes s is end out judged
    by (Err refusal) is refused = keeps_refused declared lanes end out refused.0
