use Rattle.std.proofs.Common.{length, ◌-◌, ◌≡◌, ◌≤◌, List}
use Rattle.std.specs.Prelude.{flat_map}
use Rattle.mqb_packet.specs.Plain.{plain_spelling}
use Rattle.mqb_packet.specs.declared.packet.Packet.{Packet}
use Rattle.mqb_posts.specs.Packets.{AreWritable}
use Rattle.mqb_posts.specs.Posting.{IsWithin}
use Rattle.mqb_posts.proofs.Packets.{IsPartly}
use Rattle.mqb_posts.proofs.posting.post_packets.Given as goal

abbrev pub invariant-loop-at : goal.invariant-loop-at
invariant-loop-at g l = record {
  place : l.at ≤ length l.bytes;
  within : IsWithin (g.M.Medium.strings l.medium);
  each : (packets : List Packet) → AreWritable packets → l.bytes ≡ flat_map plain_spelling packets
      → IsPartly packets l.bytes l.at (g.M.Medium.strings l.initial.medium) (g.M.Medium.strings l.medium);
}

abbrev pub decreases-loop-at : goal.decreases-loop-at
decreases-loop-at g l = length l.bytes - l.at
