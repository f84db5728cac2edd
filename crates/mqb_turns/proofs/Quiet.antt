-- Events that call no disk.
use Rattle.std.proofs.Common.{◌≡◌, ℕ, Bool, true, false, cond, List, [], Option, None, Some, refl, sym, ap, subst, ◌∙◌}
use Rattle.std.proofs.lemmas.List.{append-nil}
use Rattle.std.specs.Option.{option_map_or}
use Rattle.std.specs.Prelude.{◌-◌, is_some, slice_set}
use Rattle.mqb_base.specs.declared.ledger.Line.{Line}
use Rattle.mqb_model.specs.calls.Link.{resend}
use Rattle.mqb_model.specs.managers.Manager.{Manager}
use Rattle.mqb_model.specs.managers.Outcomes.{succeeded}
use Rattle.mqb_seats.specs.Holding.{StaysStored}
use Rattle.mqb_seats.specs.Stored.{same_stores}
use Rattle.mqb_seats.specs.Seats.{SeatState, seated}
use Rattle.mqb_network.specs.Answers.{Answer, only}
use Rattle.mqb_network.specs.Changes.{as_dropped, dropped, ended, succeeded_at, with_lines}
use Rattle.mqb_network.specs.Connecting.{disconnect, resend_by}
use Rattle.mqb_network.specs.Courses.{course_from, moved}
use Rattle.mqb_network.specs.Delivering.{drop_packet}
use Rattle.mqb_network.specs.Network.{Network, Note, is_connected, manager_at, with_manager}
use Rattle.mqb_network.specs.Replies as network
use Rattle.mqb_queue.specs.Places.{numbered}
use Rattle.mqb_script.specs.declared.managers.Which.{Which}
use Rattle.mqb_script.specs.declared.managers.Which.TheVariants.{Alpha, Beta}
use Rattle.mqb_traffic.specs.Networks.{index_of, network_with, notes_of}
use Rattle.mqb_traffic.specs.States.{TrafficState}
use Rattle.mqb_transcript.specs.declared.replies.Reply.TheVariants as reply
use Rattle.mqb_turns.specs.Counts.{CountsGo, counts_at}
use Rattle.mqb_turns.specs.Settling.{IsParted}
use Rattle.mqb_turns.specs.Turns.{IsQuiet}
use Rattle.mqb_turns.specs.Sides.{Side, network_at, side}
use Rattle.mqb_turns.specs.lemmas.Counting.{counts_same, counts_stored}
use Rattle.mqb_turns.proofs.Turning.{own_at, with_own}

module _ (which : Which) (x : Side) where
  abbrev n : Network
  n = network_at which x

  same_counts : CountsGo (counts_at which x) (counts_at which x) []
  same_counts = counts_same (counts_at which x)

  -- The connection ends.

  abbrev disconnected : Answer
  disconnected = record { reply = network.Disconnected; after = moved (ended 0) (course_from n) }

  abbrev unlinked : Answer
  unlinked = only (course_from n) network.Unlinked

  pub disconnect_none : is_connected n 0 ≡ false → IsQuiet which x x (disconnect 0 (course_from n)) reply.Unlinked
  disconnect_none none = subst (λ (b : Bool). IsQuiet which x x (cond b disconnected unlinked) reply.Unlinked) (sym none)
      (record { reply = refl; network = refl; sent = refl; counted = same_counts; own = same_stores x.own; beside = same_stores x.other })

  pub disconnect_one : (y : Side) → is_connected n 0 ≡ true → IsParted which x y → IsQuiet which x y (disconnect 0 (course_from n)) reply.Disconnected
  disconnect_one y one parted = subst (λ (b : Bool). IsQuiet which x y (cond b disconnected unlinked) reply.Disconnected) (sym one)
      (record { reply = refl; network = parted.network Alpha; sent = refl; counted = counts_stored which x y parted.own parted.beside; own = parted.own; beside = parted.beside })

  -- Rows begin anew.

  abbrev i : ℕ
  i = index_of which

  abbrev resent : Answer
  resent = record { reply = network.Resent; after = moved (succeeded_at i (resend (manager_at n i))) (course_from n) }

  pub resend_none : is_connected n i ≡ false → IsQuiet which x x (resend_by i (course_from n)) reply.Unlinked
  resend_none none = subst (λ (b : Bool). IsQuiet which x x (cond b resent unlinked) reply.Unlinked) (sym none)
      (record { reply = refl; network = refl; sent = refl; counted = same_counts; own = same_stores x.own; beside = same_stores x.other })

  no_lines : (m : Network) → with_lines [] m ≡ m
  no_lines m = ap (λ (ls : List Line). record m { ledger = ls }) (append-nil m.ledger)

  pub resend_one : (t : SeatState) → is_connected n i ≡ true → seated t ≡ succeeded (seated x.own) (resend (seated x.own)) → StaysStored x.own t
      → IsQuiet which x (side t x.other x.traffic) (resend_by i (course_from n)) reply.Done
  resend_one t one left stored = subst (λ (b : Bool). IsQuiet which x (side t x.other x.traffic) (cond b resent unlinked) reply.Done) (sym one)
      (record {
        reply = refl;
        network = ap (λ (m : Manager). with_lines [] (with_manager n i (succeeded m (resend m)))) (own_at which x) ∙ no_lines (with_manager n i (succeeded (seated x.own) (resend (seated x.own))))
            ∙ ap (with_manager n i) (sym left) ∙ with_own which x.own t x.other x.traffic;
        sent = refl;
        counted = counts_stored which x (side t x.other x.traffic) stored (same_stores x.other);
        own = stored;
        beside = same_stores x.other;
      })

  -- A packet is dropped.

  abbrev dropped_at : ℕ → Answer
  dropped_at k = record { reply = network.Dropped; after = moved (dropped k) (course_from n) }

  abbrev no_packet : Answer
  no_packet = only (course_from n) network.NoPacket

  pub drop_one : (k : ℕ) (v : TrafficState) → is_some (numbered n.notes k) ≡ true → network_at which (side x.own x.other v) ≡ dropped k n
      → IsQuiet which x (side x.own x.other v) (drop_packet k (course_from n)) reply.Dropped
  drop_one k v there is = subst (λ (b : Bool). IsQuiet which x (side x.own x.other v) (cond b (dropped_at k) no_packet) reply.Dropped) (sym there)
      (record { reply = refl; network = sym is; sent = refl; counted = counts_stored which x (side x.own x.other v) (same_stores x.own) (same_stores x.other); own = same_stores x.own; beside = same_stores x.other })

  none_dropped : (k : ℕ) (o : Option Note) → numbered n.notes k ≡ o → is_some o ≡ false → dropped k n ≡ n
  none_dropped k None is none = ap (λ (o : Option Note). record n { notes = option_map_or (λ y. slice_set n.notes (k - 1) (as_dropped y)) o n.notes }) is
  none_dropped k (Some y) is none = absurd (let no : ⊥ = cc in no)

  pub drop_none : (k : ℕ) (v : TrafficState) → is_some (numbered n.notes k) ≡ false → network_at which (side x.own x.other v) ≡ dropped k n
      → IsQuiet which x (side x.own x.other v) (drop_packet k (course_from n)) reply.NoPacket
  drop_none k v none is = subst (λ (b : Bool). IsQuiet which x (side x.own x.other v) (cond b (dropped_at k) no_packet) reply.NoPacket) (sym none)
      (record { reply = refl; network = sym (is ∙ none_dropped k (numbered n.notes k) refl none); sent = refl; counted = counts_stored which x (side x.own x.other v) (same_stores x.own) (same_stores x.other); own = same_stores x.own; beside = same_stores x.other })

-- Of two managers whatever they are.

pub there_so : (which : Which) (s b : SeatState) (u : TrafficState) (k : ℕ) → is_some (numbered (network_at which (side s b u)).notes k) ≡ is_some (numbered (notes_of u) k)
there_so Alpha s b u k = refl
there_so Beta s b u k = refl

pub dropped_so : (which : Which) (s b : SeatState) (u v : TrafficState) (k : ℕ) → ((alpha beta : Manager) → network_with alpha beta v ≡ dropped k (network_with alpha beta u))
    → network_at which (side s b v) ≡ dropped k (network_at which (side s b u))
dropped_so Alpha s b u v k says = says (seated s) (seated b)
dropped_so Beta s b u v k says = says (seated b) (seated s)
