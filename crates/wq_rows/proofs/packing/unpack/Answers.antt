use Rattle.std.proofs.Common.{◌≡◌, [], ◌∷◌, get_or, rules}
use Rattle.std.specs.Int.{w16, w32, to_le_bytes}
use Rattle.wq_rows.specs.Packing.{item_in, lane_in}
use Rattle.wq_rows.proofs.PackingLemmas.{number-may, holds_row}
use Rattle.wq_rows.proofs.packing.unpack.Goals as goal

pub returns-clause-some : goal.returns-clause-some
returns-clause-some c =
    let bs = c.args.bytes.now in
    let event = c.in_ok-event.event in
    let number = c.from_le_bytes-number.result in
    let item_bytes : to_le_bytes w16 (item_in event) ≡ get_or bs 2 0 ∷ get_or bs 3 0 ∷ [] = search rules in
    let lane_bytes : to_le_bytes w16 (lane_in event) ≡ get_or bs 4 0 ∷ get_or bs 5 0 ∷ [] = search rules in
    let number_bytes : to_le_bytes w32 number ≡ get_or bs 8 0 ∷ get_or bs 9 0 ∷ get_or bs 10 0 ∷ get_or bs 11 0 ∷ [] = search rules in
    record {
      packable = c.in_ok-event.ensures.answer;
      in_range = record {
        item = search rules;
        lane = search rules;
        number = search rules;
        helper = number-may event c.in_ok-yes.yes c.in_ok-event.ensures.answer;
      };
      holds =
          holds_row bs (record { event = event; yes = c.in_ok-yes.yes; number = number }) (search rules) (search rules) (search rules)
          item_bytes lane_bytes c.in_ok-event.ensures.helper (search rules) number_bytes;
    }
