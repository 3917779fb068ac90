use Rattle.std.proofs.Common.{rules, arith, List, length, ◌≡◌, ◌||◌, Bool, Option, Ok, Some, None, sym, ap, subst, ◌∙◌}
use Rattle.wq_text.specs.Lines.{LineView, lines_of}
use Rattle.wq_decl.specs.declared.directive.Directive.{Directive}
use Rattle.wq_decl.specs.Reading.{reading, is_ordered}
use Rattle.wq_items.specs.AtOnce.{Foretells}
use Rattle.wq_items.specs.Table.{Table}
use Rattle.wq_items.specs.declared.at_once.Orders.{Orders}
use Rattle.wq_items.proofs.AtOnceLemmas.{
  SoFar,
  SoFar-none,
  SoFar-blank,
  SoFar-more,
  SoFar-ran_out,
  SoFar-out_at_end,
  IfNone-always,
  IsTable-SoFar,
  OrdersSoFar,
  OrdersSoFar-none,
  OrdersSoFar-blank,
  OrdersSoFar-noted,
  IsNoted,
  SoFar-taken,
  OrdersSoFar-taken,
  SoFar-refused,
  length-taken,
}
use Rattle.wq_items.proofs.at_once.read_at_once.Goals as goal
use Rattle.wq_items.proofs.at_once.read_at_once.Goals.{in-Some-2+in_ok-take, in_default-2}

pub loop-line-init : goal.loop-line-init
loop-line-init g c =
    let all = lines_of c.args.text.now in
    let start : c.lines-lines.result ≡ all = c.lines-lines.ensures in
    record {
      made = subst (λ (b : Bool). SoFar c.new-parts.result b c.lines-lines.result all) (sym c.none-seen.ensures.0) (SoFar-none c.new-parts.result c.lines-lines.result all c.new-parts.ensures start);
      ordered = OrdersSoFar-none c.none-seen.result.any c.none-seen.result.lines c.none-seen.result.count c.lines-lines.result all c.none-seen.ensures.2 (c.none-seen.ensures.1 ∙ c.lines.ensures) start;
      at = c.lines-here.ensures ∙ sym start;
    }

pub plain-init : goal.plain-init
plain-init g c =
    let line = c.in-Some.line in
    let before = c.loop-line in
    let rest = c.next.new.self in
    let all = lines_of c.args.text.now in
    let step = c.in-Some.ensures.steps in
    elim c.match-branch-2.branch [
      | in-Some-2+in_ok-take w ↦
          let d = w.in-Some-2.directive in
          let said : Foretells (Some (Some d)) (reading line) = subst (λ (o : Option Directive). Foretells (Some o) (reading line)) w.in-Some-2.is c.in_ok-directive.ensures in
          let is : reading line ≡ Ok (Some d) = said.0 w.in_ok-take.ensures.whole in
          let taken = w.take.new.self in
          let noted = w.note.new.self in
          let ordered : w.is_ordered-is_ordered.result ≡ is_ordered d = w.is_ordered-is_ordered.ensures in
          let any : noted.any ≡ (before.seen.any || is_ordered d) = w.note.ensures.any ∙ ap (λ (b : Bool). before.seen.any || b) ordered in
          let notes : IsNoted (is_ordered d) before.seen.any before.seen.lines before.seen.count before.here noted.any noted.lines noted.count = record {
            some = any;
            other = λ isnt. let same = w.note.ensures.other (ordered ∙ isnt) in (ap (λ (o : Orders). o.lines) same, ap (λ (o : Orders). o.count) same);
            begins = λ is none. w.note.ensures.first (ordered ∙ is) none;
            later = λ some. w.note.ensures.later some;
            more = λ is n e. w.note.ensures.count (ordered ∙ is) n e;
          } in
          record {
            made =
                subst (λ (t : Table). SoFar t c.match-branch-2.seen.any rest all) (sym w.parts-is) (
                subst (λ (b : Bool). SoFar taken b rest all) (sym (ap (λ (o : Orders). o.any) w.seen-is ∙ any)) (
                SoFar-more before.parts taken before.seen.any line d before.lines rest all step is (w.in_ok-take.ensures.table line.no) before.invariant.made
                )
                );
            ordered =
                subst (λ (o : Orders). OrdersSoFar o.any o.lines o.count rest all) (sym w.seen-is) (
                OrdersSoFar-noted before.seen.any before.seen.lines before.seen.count before.here noted.any noted.lines noted.count line d before.lines rest all step is before.invariant.at before.invariant.made.sound notes before.invariant.ordered
                );
            fewer = omega arith;
          }
      | in_default-2 w ↦
          let blank : reading line ≡ Ok None = subst (λ (o : Option Directive). Foretells (Some o) (reading line)) w.in_default-2.is c.in_ok-directive.ensures in
          record {
            made =
                subst (λ (t : Table). SoFar t c.match-branch-2.seen.any rest all) (sym w.parts-is) (
                subst (λ (b : Bool). SoFar before.parts b rest all) (sym (ap (λ (o : Orders). o.any) w.seen-is)) (
                SoFar-blank before.parts before.seen.any line before.lines rest all step blank before.invariant.made
                )
                );
            ordered =
                subst (λ (o : Orders). OrdersSoFar o.any o.lines o.count rest all) (sym w.seen-is) (
                OrdersSoFar-blank before.seen.any before.seen.lines before.seen.count line before.lines rest all step blank before.invariant.ordered
                );
            fewer = omega arith;
          }
    ]

pub plain-preserved : goal.plain-preserved
plain-preserved g c =
    let all = lines_of c.args.text.now in
    let before = c.plain in
    let taken = c.in_ok-take_plain.ensures.taken c.if-branch.true in
    record {
      made = SoFar-taken before.parts c.take_plain.new.self _ before.lines c.take_plain.new.lines all taken
          before.invariant.made;
      ordered = OrdersSoFar-taken before.parts c.take_plain.new.self _ _ _ before.lines c.take_plain.new.lines all taken
          before.invariant.ordered;
      fewer = omega (
        arith,
        length-taken before.parts c.take_plain.new.self before.lines c.take_plain.new.lines taken,
        before.invariant.fewer,
      );
    }

pub plain-smaller : goal.plain-smaller
plain-smaller g c = length-taken c.plain.parts c.take_plain.new.self c.plain.lines c.take_plain.new.lines
    (c.in_ok-take_plain.ensures.taken c.if-branch.true)

pub loop-line-preserved : goal.loop-line-preserved
loop-line-preserved g c =
    let all = lines_of c.args.text.now in
    let same = c.in_ok-take_plain.ensures.other c.if-branch.false in
    record {
      made =
          subst (λ (t : Table). SoFar t c.match-branch-2.seen.any c.take_plain.new.lines all) (sym same.0)
          (subst (λ (ls : List LineView). SoFar c.plain.parts c.match-branch-2.seen.any ls all) (sym same.1)
          c.plain.invariant.made);
      ordered =
          subst (λ (ls : List LineView). OrdersSoFar c.match-branch-2.seen.any c.match-branch-2.seen.lines
          c.match-branch-2.seen.count ls all) (sym same.1) c.plain.invariant.ordered;
      at = c.again-here.ensures;
    }

pub loop-line-smaller : goal.loop-line-smaller
loop-line-smaller g c =
    let same = c.in_ok-take_plain.ensures.other c.if-branch.false in
    omega (
      arith,
      ap (λ (ls : List LineView). length ls) same.1,
      c.plain.invariant.fewer,
      ap (λ (ls : List LineView). length ls) c.in-Some.ensures.steps,
    )

pub returns-in_err-take_plain-clause-memory : goal.returns-in_err-take_plain-clause-memory
returns-in_err-take_plain-clause-memory g c =
    IfNone-always c.from_residual-in_err-take_plain.result _
    (SoFar-refused c.plain.parts _ c.plain.lines (lines_of c.args.text.now) c.in_err-take_plain.ensures.memory
    c.plain.invariant.made)

pub take_plain-requires : goal.take_plain-requires
take_plain-requires g c = IsTable-SoFar c.plain.parts _ c.plain.lines (lines_of c.args.text.now) c.plain.invariant.made

pub returns-in_err-take-clause-memory : goal.returns-in_err-take-clause-memory
returns-in_err-take-clause-memory g c =
    let line = c.in-Some.line in
    let d = c.in-Some-2.directive in
    let said : Foretells (Some (Some d)) (reading line) = subst (λ (o : Option Directive). Foretells (Some o) (reading line)) c.in-Some-2.is c.in_ok-directive.ensures in
    IfNone-always c.from_residual-in_err-take.result _ (
    SoFar-ran_out c.loop-line.parts c.loop-line.seen.any line d c.loop-line.lines c.next.new.self (lines_of c.args.text.now) c.in-Some.ensures.steps said (c.in_err-take.ensures.memory line.no) c.loop-line.invariant.made
    )

pub returns-in_err-table-clause-memory : goal.returns-in_err-table-clause-memory
returns-in_err-table-clause-memory g c =
    IfNone-always c.from_residual-in_err-table.result _ (λ sound made.
    SoFar-out_at_end c.loop-line.parts c.loop-line.seen.any c.loop-line.lines (lines_of c.args.text.now) c.in_default.ensures.steps.0 (search rules) c.loop-line.invariant.made)

pub take-requires : goal.take-requires
take-requires g c = IsTable-SoFar c.loop-line.parts c.loop-line.seen.any c.loop-line.lines (lines_of c.args.text.now) c.loop-line.invariant.made

pub finish-requires : goal.finish-requires
finish-requires g c = IsTable-SoFar c.loop-line.parts c.loop-line.seen.any c.loop-line.lines (lines_of c.args.text.now) c.loop-line.invariant.made
