use Rattle.std.proofs.Common.{◌≡◌, ◌+◌, ◌≤◌, ◌++◌, drop, length}
use Rattle.std.specs.List.{All, flat_map}
use Rattle.std.specs.Vec.{vec_capacity}
use Rattle.mqb_packet.specs.Plain.{plain_spelling}
use Rattle.mqb_packet.specs.Values.{IsPacket}
use Rattle.mqb_model.specs.calls.pump.Pump.{packet_for}
use Rattle.mqb_choosing.specs.Choices.{bytes_in, shown_in}
use Rattle.mqb_choosing.proofs.spelling.put_choices.Given as goal

abbrev pub invariant-loop-choice : goal.invariant-loop-choice
invariant-loop-choice l = record {
  -- there is room for those that are left
  room : length l.out.items + bytes_in l.contents.lists (drop l.choice-index l.choices.choices) ≤ vec_capacity l.out;
  text : l.out.items ++ flat_map (λ given. plain_spelling (packet_for l.to l.now given)) (shown_in l.contents.lists (drop l.choice-index l.choices.choices))
      ≡ l.fn.out.items ++ flat_map (λ given. plain_spelling (packet_for l.to l.now given)) (shown_in l.contents.lists l.choices.choices);
  fits : All (λ given. IsPacket (packet_for l.to l.now given)) (shown_in l.contents.lists (drop l.choice-index l.choices.choices))
      → All (λ given. IsPacket (packet_for l.to l.now given)) (shown_in l.contents.lists l.choices.choices);
}
