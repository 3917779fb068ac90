-- The first flush by place that doesn't fall.
use Rattle.std.proofs.Common.{◌≡◌, ℕ, ◌+◌, ◌<◌, ◌≤◌, ◌⊎◌, inl, inr, Bool, true, false, cond, ltb, [], length, get_or}
use Rattle.std.proofs.Common.{Option, Some, None, refl, sym, ap, subst, arith}
use Rattle.std.proofs.lemmas.Bool.{cases_lt, ltb-true, ltb-false}
use Rattle.std.proofs.lemmas.List.{get_or_past}
use Rattle.wq_items.specs.declared.target.Target.{Target}
use Rattle.wq_items.specs.Table.{ItemWaits, PlacesRise, targets_of}
use Rattle.wq_items.proofs.Tables.{PlacesRise-places}
use Rattle.wq_groups.specs.Declaration.{Declaration}
use Rattle.wq_groups.specs.Assignment.{Assignment}
use Rattle.wq_checker.specs.declared.falling.DeclaredFlush.{DeclaredFlush}
use Rattle.wq_checker.specs.Falling.{Falls, AllFall, Declares, IsFirstNotFalling}
use Rattle.wq_checker.specs.Searching.{IsFirstOf, FindsFirst, OfItem, OfItemsBelow, earlier}

-- an item that declares something is there
pub Declares-within : (d : Declaration) (i : ℕ) (target : Target) → Declares d i target → i < length d.waits
Declares-within d i target declares = elim (cases_lt i (length d.waits)) [
  | inl within ↦ within
  | inr past ↦ absurd (omega (arith, declares.1, ap length (get_or_past d.waits i [] past)))
]

pub Declares-waits : (d : Declaration) (i j : ℕ) → ItemWaits d.waits i j
    → (target : Target) × Declares d i target × (target.item ≡ j)
Declares-waits d i j waits = (waits.1, (waits.0, waits.2, waits.3), waits.4)

pub Declares-ItemWaits : (d : Declaration) (i j : ℕ) (target : Target) → Declares d i target → target.item ≡ j
    → ItemWaits d.waits i j
Declares-ItemWaits d i j target there of = (there.0, target, there.1, there.2, of)

module _ (d : Declaration) (Fall : ℕ → ℕ → Type 0) where
  -- the first of an item that doesn't fall is the one at the lowest place, if places rise
  pub IsFirstOf-item : (i k : ℕ) (target : Target) → PlacesRise (targets_of d.waits i)
      → k < length (targets_of d.waits i) → target ≡ get_or (targets_of d.waits i) k target → (¬ Fall i target.item)
      → ((m : ℕ) (e : Target) → m < k → Fall i (get_or (targets_of d.waits i) m e).item)
      → IsFirstOf Fall (OfItem d i) (record { item = i; target = target })
  IsFirstOf-item i k target rise within is stays before = record {
    there = (refl, (k, within, sym is));
    stays = stays;
    first = λ n other of less. subst (λ (m : ℕ). Fall m other.item) (sym of.0)
        (falls_below other (subst (λ (m : ℕ). Declares d m other) of.0 of.1) less);
  }
    where
      falls_below : (other : Target) → Declares d i other → other.place < target.place → Fall i other.item
      falls_below other there less = elim (cases_lt there.0 k) [
        | inl earlier_one ↦ subst (λ (t : Target). Fall i t.item) there.2 (before there.0 other earlier_one)
        | inr later ↦
            let rises : (get_or (targets_of d.waits i) k target).place ≤ (get_or (targets_of d.waits i) there.0
            other).place = PlacesRise-places (targets_of d.waits i) k there.0 target other rise later there.1 in
            let one : target.place ≡ (get_or (targets_of d.waits i) k target).place = ap (λ (t : Target). t.place) is in
            let two : (get_or (targets_of d.waits i) there.0 other).place ≡ other.place =
            ap (λ (t : Target). t.place) there.2 in
            absurd (omega (arith, less, rises, one, two))
      ]

  -- an item below n + 1 is one below n, or n
  below_or_last : (n k : ℕ) (target : Target) → OfItemsBelow d (n + 1) k target
      → OfItemsBelow d n k target ⊎ OfItem d n k target
  below_or_last n k target of = elim (cases_lt k n)
      [ inl less ↦ inl (less, of.1) | inr last ↦ inr (omega (arith, of.0, last), of.1) ]

  -- the earlier of the first below n and the first of n
  pub FindsFirst-earlier : (n : ℕ) (one other : Option DeclaredFlush) → FindsFirst Fall (OfItemsBelow d n) one
      → FindsFirst Fall (OfItem d n) other → FindsFirst Fall (OfItemsBelow d (n + 1)) (earlier one other)
  FindsFirst-earlier n None None low last =
      λ k target of. elim (below_or_last n k target of) [ inl x ↦ low k target x | inr y ↦ last k target y ]
  FindsFirst-earlier n None (Some g) low last = record {
    there = (omega (arith, last.there.0), last.there.1);
    stays = last.stays;
    first = λ k target of less. elim (below_or_last n k target of)
        [ inl x ↦ low k target x | inr y ↦ last.first k target y less ];
  }
  FindsFirst-earlier n (Some f) None low last = record {
    there = (omega (arith, low.there.0), low.there.1);
    stays = low.stays;
    first = λ k target of less. elim (below_or_last n k target of)
        [ inl x ↦ low.first k target x less | inr y ↦ last k target y ];
  }
  FindsFirst-earlier n (Some f) (Some g) low last = choose (ltb g.target.place f.target.place) refl
    where
      choose : (b : Bool) → ltb g.target.place f.target.place ≡ b
          → FindsFirst Fall (OfItemsBelow d (n + 1)) (cond b (Some g) (Some f))
      choose true is =
          let below : g.target.place < f.target.place = ltb-true g.target.place f.target.place is in
          record {
            there = (omega (arith, last.there.0), last.there.1);
            stays = last.stays;
            first = λ k target of less. elim (below_or_last n k target of)
                [ inl x ↦ low.first k target x (omega (arith, less, below)) | inr y ↦ last.first k target y less ];
          }
      choose false is =
          let above : f.target.place ≤ g.target.place = ltb-false g.target.place f.target.place is in
          record {
            there = (omega (arith, low.there.0), low.there.1);
            stays = low.stays;
            first = λ k target of less. elim (below_or_last n k target of)
                [ inl x ↦ low.first k target x less | inr y ↦ last.first k target y (omega (arith, less, above)) ];
          }

  -- of all items
  pub falls_found : (n : ℕ) → length d.waits ≤ n → FindsFirst Fall (OfItemsBelow d n) None → (i j : ℕ)
      → ItemWaits d.waits i j → Fall i j
  falls_found n all found i j waits =
      let flush = Declares-waits d i j waits in
      subst (Fall i) flush.2 (found i flush.0 (omega (arith, all, Declares-within d i flush.0 flush.1), flush.1))

  pub first_found : (n : ℕ) (flush : DeclaredFlush) → length d.waits ≤ n
      → FindsFirst Fall (OfItemsBelow d n) (Some flush)
      → (k : ℕ) (other : Target) → Declares d k other → other.place < flush.target.place → Fall k other.item
  first_found n flush all found k other declares less =
      found.first k other (omega (arith, all, Declares-within d k other declares), declares) less

pub IsFirstNotFalling-found : (d : Declaration) (a : Assignment) (n : ℕ) (flush : DeclaredFlush) → length d.waits ≤ n
    → FindsFirst (Falls d a) (OfItemsBelow d n) (Some flush)
    → IsFirstNotFalling d a flush.item flush.target.item
IsFirstNotFalling-found d a n flush all found = record {
  target = flush.target;
  declares = found.there.1;
  of_target = refl;
  stays = found.stays;
  first = first_found d (Falls d a) n flush all found;
}

pub AllFall-found : (d : Declaration) (a : Assignment) (n : ℕ) → length d.waits ≤ n
    → FindsFirst (Falls d a) (OfItemsBelow d n) None → AllFall d a
AllFall-found d a n all found = falls_found d (Falls d a) n all found
