-- Calls: what a scripted caller's seat counts, call by call.
use Rattle.std.proofs.Common.{◌≡◌, ℕ, ◌+◌, ◌<◌, List, [], ◌∷◌, ◌++◌, length, take, drop, get_or, refl, sym, ap, subst, ◌∙◌}
use Rattle.std.proofs.lemmas.List.{take-append-drop, take_more, drop_more}
use Rattle.wq_core.specs.Wiring.{Wiring}
use Rattle.wq_history.specs.declared.fault.CallError.{CallError}
use Rattle.wq_script.specs.declared.acting.Act.{Act}
use Rattle.wq_script.specs.Acts.{CountsAct, RefusedAct, CountsActs, RefusedActs}

-- ---- acts in order

CountsActs-more : (w : Wiring) (old now after : List ℕ) (acts : List Act) (act : Act) → CountsActs w old now acts → CountsAct w now after act
    → CountsActs w old after (acts ++ (act ∷ []))
CountsActs-more w old now after [] act none one = (after, subst (λ (c : List ℕ). CountsAct w c after act) none one, refl)
CountsActs-more w old now after (first ∷ acts) act many one = (many.0, many.1, CountsActs-more w many.0 now after acts act many.2 one)

pub CountsActs-next : (w : Wiring) (acts : List Act) (k : ℕ) (act : Act) (old now after : List ℕ) → k < length acts → act ≡ get_or acts k act
    → CountsActs w old now (take k acts) → CountsAct w now after act → CountsActs w old after (take (k + 1) acts)
CountsActs-next w acts k act old now after lt is so_far here =
    subst (λ (done : List Act). CountsActs w old after done) (ap (λ (a : Act). take k acts ++ (a ∷ [])) is ∙ sym (take_more acts k act lt))
    (CountsActs-more w old now after (take k acts) act so_far here)

pub RefusedActs-at : (w : Wiring) (acts : List Act) (k : ℕ) (one : Act) (old now after : List ℕ) (e : CallError) → k < length acts → one ≡ get_or acts k one
    → CountsActs w old now (take k acts) → RefusedAct w now after one e → RefusedActs w old after acts e
RefusedActs-at w acts k one old now after e lt is so_far why = record {
  answered = take k acts;
  act = one;
  left = drop (k + 1) acts;
  parts =
      sym (take-append-drop k acts) ∙ ap (λ (l : List Act). take k acts ++ l) (drop_more acts k one lt)
      ∙ ap (λ (a : Act). take k acts ++ (a ∷ drop (k + 1) acts)) (sym is);
  between = now;
  counted = so_far;
  refused = why;
}
