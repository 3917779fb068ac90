use Rattle.std.proofs.Common.{◌≡◌, ◌+◌, ◌<◌, ◌≤◌, [], ◌∷◌, ◌++◌, length, ap, sym, ◌∙◌, subst, arith, rules}
use Rattle.std.specs.Prelude.{IsOk, Bool, true, if◌then◌else◌, List, ℕ}
use Rattle.std.specs.Vec.{vec_capacity}
use Rattle.wq_rows.specs.Packing.{packed}
use Rattle.wq_rows.specs.Stored.{HistoryView, rows_of}
use Rattle.wq_rows.proofs.StoredLemmas.{IsRoomy-memory, IsRoomy-push, rows_of-push}
use Rattle.wq_rows.proofs.history.History.push.Goals as goal

-- what was to be appended is at the end, if it was appended
appended : (done : Bool) (old new written bytes : List ℕ) → new ≡ (if done then old ++ written else old) → done ≡ true → written ≡ bytes → new ≡ old ++ bytes
appended done old new written bytes is so same =
    is ∙ ap (λ (d : Bool). if d then old ++ written else old) so ∙ ap (λ (l : List ℕ). old ++ l) same

pub prove-unreachable-requires : goal.prove-unreachable-requires
prove-unreachable-requires g c =
    let below : length (rows_of c.self.inside.bytes.items) < c.self.inside.room = subst (λ (h : HistoryView). length h.rows < h.room) (sym c.self.view_is) c.requires.room in
    let memory : length c.self.inside.bytes.items + 12 ≤ vec_capacity c.self.inside.bytes = IsRoomy-memory _ _ _ c.self.invariant below in
    let ok : IsOk c.extend_from_slice-written.result = c.extend_from_slice-written.ensures.succeeds (rw (c.pack.ensures.bytes) (omega arith)) in
    search rules

pub invariant_of-self : goal.invariant_of-self
invariant_of-self g c =
    let below : length (rows_of c.self.inside.bytes.items) < c.self.inside.room = subst (λ (h : HistoryView). length h.rows < h.room) (sym c.self.view_is) c.requires.room in
    let items : c.extend_from_slice-written.new.self.items ≡ c.self.inside.bytes.items ++ packed c.args.row.now =
    appended _ _ _ _ _ c.extend_from_slice-written.ensures.items (sym c.is_ok.ensures.value ∙ c.if-prove.false) c.pack.ensures.bytes in
    rw items (IsRoomy-push _ _ _ _ c.args.row.now c.self.invariant below c.extend_from_slice-written.ensures.capacity c.requires.packable c.pack.ensures.in_range)

pub returns-clause-rows : goal.returns-clause-rows
returns-clause-rows g c =
    let items : c.extend_from_slice-written.new.self.items ≡ c.self.inside.bytes.items ++ packed c.args.row.now =
    appended _ _ _ _ _ c.extend_from_slice-written.ensures.items (sym c.is_ok.ensures.value ∙ c.if-prove.false) c.pack.ensures.bytes in
    ap rows_of items ∙ rows_of-push c.self.inside.bytes.items c.args.row.now c.self.invariant.stored c.requires.packable c.pack.ensures.in_range
    ∙ ap (λ (h : HistoryView). h.rows ++ (c.args.row.now ∷ [])) c.self.view_is
