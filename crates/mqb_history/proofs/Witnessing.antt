-- Each run of the network is a run of the stream world, for each channel.
use Rattle.mqb_base.specs.declared.ids.Guid.{Guid}
use Rattle.mqb_model.specs.managers.Manager.{Manager}
use Rattle.mqb_model.specs.calls.Call.{Pump, outcome_of}
use Rattle.mqb_orders.specs.Rows.{Row}
use Rattle.mqb_history.specs.Acked.{IsDecidedThere, is_order_ack}
use Rattle.mqb_history.proofs.Spelling.{IsRightPacket, SpellsRow, pumps_right}
use Rattle.mqb_history.proofs.Distinct.{AreDistinctIn, distinct_by_records}
use Rattle.mqb_history.proofs.Receipting.{AreTelling}
use Rattle.std.specs.Prelude.{Bool, List, ℕ, ◌≡◌, None, true}
use Rattle.std.proofs.Common.{refl, inl}
use Rattle.mqb_base.specs.declared.ids.Identity.{Identity}
use Rattle.mqb_base.specs.declared.queue_names.QueueName.{QueueName}
use Rattle.mqb_exactly_once.specs.Words.{In}
use Rattle.mqb_network.specs.Courses.{Course}
use Rattle.mqb_network.specs.Doubts.{settled}
use Rattle.mqb_network.specs.Laws.{AreApart}
use Rattle.mqb_network.specs.Network.{manager_at}
use Rattle.mqb_network.specs.Runs.{IsRun, Move, after_run, beginning}
use Rattle.mqb_packet.specs.declared.packet.Packet.TheVariants as packet
use Rattle.mqb_packet.specs.declared.packet.UserPacket.{UserPacket}
use Rattle.mqb_history.specs.Decided.{written_of}
use Rattle.mqb_history.specs.Finals.{AreFatesTold}
use Rattle.mqb_history.specs.Laws.{AlwaysExactlyOnce, AlwaysOneStreamWorld, AlwaysShown, AlwaysStreamInvariant}
use Rattle.mqb_history.proofs.Chained.{Route, channel_on}
use Rattle.mqb_history.proofs.Committing.{all_in}
use Rattle.mqb_history.proofs.Finality.{finals_tell_fates}
use Rattle.mqb_history.proofs.Informed.{IsInformed, informed_begins, informed_closed, informed_fates}
use Rattle.mqb_history.proofs.Invariants.{are_exactly_once, have_invariants, have_one, one_is_shown}
use Rattle.mqb_history.proofs.Keeping.{IsClosed}
use Rattle.mqb_history.proofs.Later.{IsAckedTruly, Known, Vacant}
use Rattle.mqb_history.proofs.Linked.{IsAckedAt}
use Rattle.mqb_history.proofs.Receiving.{AreFinalsReceived, received_begins, received_keeps}
use Rattle.mqb_history.proofs.Runs.{always_kept}
use Rattle.mqb_history.proofs.Showing.{IsChained, are_shown, chained_begins, chained_closed}
use Rattle.mqb_history.proofs.Leaves.{always_leave}
use Rattle.mqb_history.proofs.Whither.{acked_at, it_is}
use Rattle.mqb_history.proofs.Written.{begins_with, change_keeps}

-- What is known of each course, whatever stream world it shows.
pub record IsWitnessed (known : List Identity) (c : Course) : Type 0 where
  pub informed : IsInformed known c
  pub distinct : (i : ℕ) → AreDistinctIn (manager_at c.network i).state (written_of i c.written)
  pub received : AreFinalsReceived c

module _ (known : List Identity) (apart : AreApart known) where
  witnessed_closed : IsClosed known (IsWitnessed known)
  witnessed_closed = record {
    orderly = λ c h. h.informed.credible.carrying.0.0;
    keeps = λ c x may h. record {
      informed = (informed_closed known apart).keeps c x may h.informed;
      distinct = change_keeps known AreDistinctIn distinct_by_records c x may h.informed.credible.carrying.0.0 h.distinct;
      received = received_keeps c x may h.received;
    };
  }

  witnessed_begins : IsWitnessed known (beginning known)
  witnessed_begins = record {
    informed = informed_begins known;
    distinct = (begins_with known AreDistinctIn distinct_by_records).1;
    received = received_begins known;
  }

  -- what is acknowledged was decided where the channel leads
  witnessed_acked : (c : Course) → IsWitnessed known c → (i j : ℕ) (d : QueueName) (r : Route known i j d) → IsAckedAt c i j (channel_on known i j d r) d r.peer
  witnessed_acked c h i j d r = acked_at known apart c h.informed.credible.carrying.0.0 h.informed.order i j d r
      (λ row inside. all_in (IsAckedTruly c i) (manager_at c.network i).state.outs row (h.informed.credible.honest.managers i).rows inside)

  -- the rows of which order acknowledgements tell, and that these tell of rows
  witnessed_telling : (c : Course) → IsWitnessed known c → (a : ℕ) → AreTelling (manager_at c.network a).state (written_of a c.written)
  witnessed_telling c h a = (h.distinct a, h.informed.credible.told a)

  witnessed_spells : (c : Course) → IsWitnessed known c → (a now : ℕ) (p : UserPacket) → In (packet.User p) (outcome_of (manager_at c.network a) (Pump now)).packets → p.tx ≡ None
      → is_order_ack p.message ≡ true → SpellsRow (manager_at c.network a).state p.to p.message
  witnessed_spells c h a now p inside t is = (all_in (IsRightPacket own (Known known c a) (Vacant c a) (λ id e. inl e) m.state) (outcome_of m (Pump now)).packets (packet.User p)
      (pumps_right own (Known known c a) (Vacant c a) (λ id e. inl e) m now (h.informed.credible.honest.managers a).knows).packets inside p refl t).order is
    where
      m : Manager
      m = manager_at c.network a

      own : Guid
      own = m.state.identity.guid

  -- who decides what is acknowledged
  witnessed_decider : (c : Course) → IsWitnessed known c → (i j : ℕ) (d : QueueName) (r : Route known i j d) (row : Row) (n : ℕ) → row.peer ≡ r.peer → (there : IsDecidedThere c i row n) → there.decider ≡ j
  witnessed_decider c h i j d r row n same there = it_is known apart c h.informed.credible.carrying.0.0 h.informed.order i j d r row n same there

  -- what final acknowledgements tell
  witnessed_fates : (c : Course) → IsWitnessed known c → AreFatesTold c
  witnessed_fates c h = informed_fates known apart c h.informed

  module _ (ms : List Move) (run : IsRun known ms) (kept : ℕ → Bool) where
    chained : IsChained known apart (IsWitnessed known) witnessed_closed witnessed_acked witnessed_telling witnessed_spells (λ c h. h.informed.credible) witnessed_decider witnessed_fates (λ c h. h.received)
        (settled kept (after_run known ms))
    chained = always_kept known (IsChained known apart (IsWitnessed known) witnessed_closed witnessed_acked witnessed_telling witnessed_spells (λ c h. h.informed.credible) witnessed_decider witnessed_fates (λ c h. h.received))
        (chained_closed known apart (IsWitnessed known) witnessed_closed witnessed_acked witnessed_telling witnessed_spells (λ c h. h.informed.credible) witnessed_decider witnessed_fates (λ c h. h.received)) ms run kept
        (chained_begins known apart (IsWitnessed known) witnessed_closed witnessed_acked witnessed_telling witnessed_spells (λ c h. h.informed.credible) witnessed_decider witnessed_fates (λ c h. h.received)
        (witnessed_begins))

-- The laws.

shown : AlwaysShown
shown known ms apart run kept = let h = chained known apart ms run kept in are_shown known (settled kept (after_run known ms)) h.carrying.0.0 (always_leave known ms apart run kept)
    (finals_tell_fates known ms apart run kept) h.linked

pub always_one_stream_world : AlwaysOneStreamWorld
always_one_stream_world known ms apart run kept = have_one (settled kept (after_run known ms)) (shown known ms apart run kept)

-- What follows from the one world.

pub always_shown : AlwaysOneStreamWorld → AlwaysShown
always_shown one known ms apart run kept = one_is_shown (settled kept (after_run known ms)) (one known ms apart run kept)

pub always_exactly_once : AlwaysOneStreamWorld → AlwaysExactlyOnce
always_exactly_once one known ms apart run kept = are_exactly_once (settled kept (after_run known ms)) (one known ms apart run kept)

pub always_stream_invariant : AlwaysOneStreamWorld → AlwaysStreamInvariant
always_stream_invariant one known ms apart run kept = have_invariants (settled kept (after_run known ms)) (one known ms apart run kept)
