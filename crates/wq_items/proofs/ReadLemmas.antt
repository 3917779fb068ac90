-- Going through the directives of a declaration: what those so far have made.
use Rattle.std.proofs.Common.{◌≡◌, ℕ, ◌<◌, inl, List, [], ◌∷◌, ◌++◌, length, Option, Some, None, Result, Ok, Err, refl, sym, ap, subst, ◌∙◌, arith, append_assoc, append-nil}
use Rattle.std.specs.Prelude.{IsOk, IsSome}
use Rattle.std.specs.List.{filter_map, cons_option}
use Rattle.wq_decl.specs.declared.directive.Directive.{Directive}
use Rattle.wq_items.specs.declared.fault.ItemError.{ItemError}
use Rattle.wq_items.specs.Table.{Table}
use Rattle.wq_items.specs.Building.{empty_table, declared, and_then, table_after, table_of}
use Rattle.wq_items.specs.FirstFault.{RanOut, DeclaresMore}
use Rattle.wq_items.specs.Flushes.{item_name}
use Rattle.wq_items.proofs.BuildingLemmas.{table_after-append, names-table_of, IsAccepted-table_of}

-- the directives before `rest` made the table t
pub record Made (t : Table) (rest ds : List (ℕ × Directive)) : Type 0 where
  pub before : List (ℕ × Directive)
  pub parts : ds ≡ before ++ rest
  pub makes : table_of before ≡ Ok t

pub Made-none : (t : Table) (rest ds : List (ℕ × Directive)) → t ≡ empty_table → rest ≡ ds → Made t rest ds
Made-none t rest ds empty all = record { before = []; parts = sym all; makes = ap (λ (u : Table). Ok u) (sym empty) }

pub Made-more : (t u : Table) (n : ℕ) (d : Directive) (left rest ds : List (ℕ × Directive)) → left ≡ (n, d) ∷ rest → declared t n d ≡ Ok u → Made t left ds → Made u rest ds
Made-more t u n d left rest ds step taken m = record {
  before = m.before ++ ((n, d) ∷ []);
  parts = m.parts ∙ ap (λ (ds : List (ℕ × Directive)). m.before ++ ds) step ∙ sym (append_assoc m.before ((n, d) ∷ []) rest);
  makes = table_after-append empty_table m.before ((n, d) ∷ []) ∙ ap (λ (r : Result Table ItemError). and_then (λ (v : Table). table_after v ((n, d) ∷ [])) r) m.makes
      ∙ ap (λ (r : Result Table ItemError). and_then (λ (v : Table). table_after v []) r) taken;
}

is_read : (r : Result Table ItemError) → IsOk r → IsOk (and_then (λ (u : Table). Ok u) r)
is_read (Ok u) ok = ok
is_read (Err e) ok = ok

pub Made-ran_out : (t : Table) (n : ℕ) (d : Directive) (left rest ds : List (ℕ × Directive)) → left ≡ (n, d) ∷ rest → IsOk (declared t n d) → DeclaresMore (n, d) → Made t left ds → RanOut ds
Made-ran_out t n d left rest ds step ok grows m =
    let whole : table_of (m.before ++ ((n, d) ∷ [])) ≡ and_then (λ (u : Table). Ok u) (declared t n d) =
    table_after-append empty_table m.before ((n, d) ∷ []) ∙ ap (λ (r : Result Table ItemError). and_then (λ (u : Table). table_after u ((n, d) ∷ [])) r) m.makes in
    record {
      before = m.before;
      line = (n, d);
      after = rest;
      parts = m.parts ∙ ap (λ (ds : List (ℕ × Directive)). m.before ++ ds) step;
      faultless = subst IsOk (sym whole) (is_read (declared t n d) ok);
      grows = grows;
    }

-- ---- memory that runs out at the end

-- the line that declares the first item, and the lines around it
record FirstItem (ds : List (ℕ × Directive)) : Type 0 where
  before : List (ℕ × Directive)
  line : ℕ × Directive
  after : List (ℕ × Directive)
  parts : ds ≡ before ++ (line ∷ after)
  item : IsSome (item_name line)

first_item : (ds : List (ℕ × Directive)) → 0 < length (filter_map item_name ds) → FirstItem ds
first_item [] some = absurd (omega arith)
first_item (d ∷ ds) some = by (item_name d) refl some (λ (later : 0 < length (filter_map item_name ds)). first_item ds later)
  where
    by : (o : Option (List ℕ)) → item_name d ≡ o → 0 < length (cons_option o (filter_map item_name ds)) → (0 < length (filter_map item_name ds) → FirstItem ds) → FirstItem (d ∷ ds)
    by (Some name) is some rest = record { before = []; line = d; after = ds; parts = refl; item = subst IsSome (sym is) refl }
    by None is some rest =
        let f = rest some in
        record { before = d ∷ f.before; line = f.line; after = f.after; parts = ap (λ (l : List (ℕ × Directive)). d ∷ l) f.parts; item = f.item }

-- if the lines make a table with an item, memory can run out
pub RanOut-table_of : (ds : List (ℕ × Directive)) (t : Table) → table_of ds ≡ Ok t → 0 < length t.names → RanOut ds
RanOut-table_of ds t made some =
    let f = first_item ds (subst (λ (names : List (List ℕ)). 0 < length names) (names-table_of ds t made) some) in
    let a = IsAccepted-table_of ds t f.before f.line f.after made f.parts in
    let whole : table_of (f.before ++ (f.line ∷ [])) ≡ and_then (λ (u : Table). table_after u (f.line ∷ [])) (Ok a.table) =
    table_after-append empty_table f.before (f.line ∷ []) ∙ ap (λ (r : Result Table ItemError). and_then (λ (u : Table). table_after u (f.line ∷ [])) r) a.makes in
    record {
      before = f.before;
      line = f.line;
      after = f.after;
      parts = f.parts;
      faultless = subst IsOk (sym (whole ∙ ap (λ (r : Result Table ItemError). and_then (λ (u : Table). Ok u) r) a.taken)) refl;
      grows = inl f.item;
    }

-- so it can if the lines so far are all of them
pub Made-out_at_end : (t : Table) (left ds : List (ℕ × Directive)) → left ≡ [] → 0 < length t.names → Made t left ds → RanOut ds
Made-out_at_end t left ds none some m = RanOut-table_of ds t (ap table_of (m.parts ∙ ap (λ (l : List (ℕ × Directive)). m.before ++ l) none ∙ append-nil m.before) ∙ m.makes) some
