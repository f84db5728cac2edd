-- The parts of the invariant of the network hold at each point of each run.
use Rattle.std.proofs.Common.{ap, sym, ◌∙◌, subst}
use Rattle.std.specs.Prelude.{List, ◌<◌, ℕ}
use Rattle.mqb_base.specs.declared.ids.Guid.{Guid}
use Rattle.mqb_base.specs.declared.ids.Identity.{Identity}
use Rattle.mqb_base.specs.declared.ids.MessageId.{MessageId}
use Rattle.mqb_base.specs.declared.message.Message.{Message}
use Rattle.mqb_exactly_once.specs.World.{Commitment}
use Rattle.mqb_network.specs.Courses.{Course}
use Rattle.mqb_network.specs.Doubts.{settled}
use Rattle.mqb_network.specs.Network.{manager_at}
use Rattle.mqb_network.specs.Runs.{after_run}
use Rattle.mqb_exactly_once.specs.Words.{In}
use Rattle.mqb_plain.specs.Plain.{PlainLists}
use Rattle.mqb_plain.specs.declared.outgoing.Outgoing.{Outgoing}
use Rattle.mqb_history.specs.Committed.{commitments}
use Rattle.mqb_history.specs.Decided.{written_of}
use Rattle.mqb_history.specs.Carried.{AreDecidedTruly}
use Rattle.mqb_history.specs.Told.{AreCommitmentsTold}
use Rattle.mqb_history.specs.Invariants.{AreListedApart, AreListedBelow, AreOwnBelow, AreSentApart, AreSentBelow, AreTransactional}
use Rattle.mqb_history.specs.Laws.{AlwaysMachineInvariant}
use Rattle.mqb_history.proofs.Acknowledged.{always_acknowledged_truly, always_acknowledging_truly, always_waiting_until_decided}
use Rattle.mqb_history.proofs.Across.{always_decided_across}
use Rattle.mqb_history.proofs.Answering.{IsCredible, credible_begins, credible_closed}
use Rattle.mqb_history.proofs.Begun.{always_begun_in_order}
use Rattle.mqb_history.proofs.Borne.{AreBorne, always_borne}
use Rattle.mqb_history.proofs.Carrying.{always_carried_truly, always_decided_truly}
use Rattle.mqb_history.proofs.Committing.{IsOwnBelow, all_in}
use Rattle.mqb_history.proofs.Deciding.{always_decided_in_order}
use Rattle.mqb_history.proofs.Due.{always_expired_duly}
use Rattle.mqb_history.proofs.Later.{Known, Vacant}
use Rattle.mqb_history.proofs.Led.{always_decided_by_one, always_decided_where_led}
use Rattle.mqb_history.proofs.Lists.{get_within}
use Rattle.mqb_history.proofs.Naming.{ArePlain, IsSafe}
use Rattle.mqb_history.proofs.Numbering.{always_committed_in_order}
use Rattle.mqb_history.proofs.Offering.{always_offers_kept}
use Rattle.mqb_history.proofs.Runs.{always_kept}
use Rattle.mqb_history.proofs.Skipping.{always_unskipped}
use Rattle.mqb_history.proofs.Storage.{IsStoring, begins_storing, storage_is_always_kept, storing_closed}
use Rattle.mqb_history.proofs.Telling.{always_told_commitments}
use Rattle.mqb_history.proofs.Undecided.{IsKnown, always_undecided, committed_one}
use Rattle.mqb_history.proofs.Waiting.{always_waiting}
use Rattle.mqb_history.proofs.Witnessing.{always_one_stream_world}
use Rattle.mqb_history.proofs.AskedFor.{committed_is_asked}
use Rattle.mqb_history.proofs.Copies.{always_copied_rightly}
use Rattle.mqb_history.proofs.Counts.{sessions_counted}
use Rattle.mqb_history.proofs.Finality.{finals_tell_fates}
use Rattle.mqb_history.proofs.Gone.{IsAccounted, always_accounted}
use Rattle.mqb_history.proofs.Numbered.{correlations_numbered, lines_numbered, messages_numbered, notices_apart}
use Rattle.mqb_history.proofs.Orderly.{begins_orderly}
use Rattle.mqb_history.proofs.Parts.{durable_below, express_above, kept_committed, listed_unsent, locals_apart, next_apart, packets_unsent, streams_away}
use Rattle.mqb_history.proofs.Puts.{IsOfTransaction, all_transact, put_is_the_committed_message}
use Rattle.mqb_history.proofs.Received.{always_received_truly}
use Rattle.mqb_history.proofs.SentOnce.{always_sent_rightly}
use Rattle.mqb_history.proofs.Truthful.{always_truthful}

module _ (known : List Identity) (c : Course) (h : IsCredible known c) where
  own_below : AreOwnBelow c
  own_below i m inside = all_in (IsOwnBelow (manager_at c.network i).state.identity.guid (manager_at c.network i).state.next_number) (commitments (written_of i c.written)) m
      (h.carrying.0.1 i).0.0.0.0.0.own_ids inside

  module _ (i : ℕ) (p : PlainLists) (o : Outgoing) (there : In p (manager_at c.network i).state.plain) (waits : In o p.recoverable) where
    abbrev own : Guid
    own = (manager_at c.network i).state.identity.guid

    plain : ArePlain own (Known known c i) (Vacant c i) (manager_at c.network i).state.next_number p
    plain = all_in (ArePlain own (Known known c i) (Vacant c i) (manager_at c.network i).state.next_number) (manager_at c.network i).state.plain p (h.honest.managers i).knows.plain there

    safe : IsSafe own (Known known c i) (Vacant c i) (manager_at c.network i).state.next_number o
    safe = all_in (IsSafe own (Known known c i) (Vacant c i) (manager_at c.network i).state.next_number) p.recoverable o plain.recoverable waits

  listed_below : AreListedBelow c
  listed_below i p o there waits = let s = safe i p o there waits in (s.source, s.below)

  sent_below : AreSentBelow c
  sent_below k note p e f t durable = let n = (h.honest.packets k note p e f).plain t in
      ((n.plain durable).source, λ i low same. ((n.plain durable).unused i (subst (λ len. i < len) h.carrying.0.0.count low) same).below)

  listed_apart : AreListedApart c
  listed_apart i m p o inside there waits same = (safe i p o there waits).unused m inside (ap (λ (x : MessageId). x.number) (sym same))

  sent_apart : AreSentApart c
  sent_apart i k m note p inside e f t durable same = ((((h.honest.packets k note p e f).plain t).plain durable).unused i (get_within known i source.own source.there)
      (sym (own_below i m inside).0 ∙ ap (λ (x : MessageId). x.qm) (sym same))).uncommitted m inside (ap (λ (x : MessageId). x.number) (sym same))
    where
      source : IsKnown known c i
      source = committed_one known c i m h.carrying.0.0 (h.carrying.0.1 i).0.0.0 inside

pub always_machine_invariant : AlwaysMachineInvariant
always_machine_invariant known ms apart run kept = record {
  orderly = h.carrying.0.0;
  committed_in_order = always_committed_in_order known ms apart run kept;
  commitments_are_told = always_told_commitments known ms apart run kept;
  own_below = own_below known c h;
  listed_below = listed_below known c h;
  sent_below = sent_below known c h;
  listed_apart = listed_apart known c h;
  sent_apart = sent_apart known c h;
  kept_committed = kept_committed known apart c accounts told truly h (always_carried_truly known ms apart run kept) (always_expired_duly known ms apart run kept) (always_decided_in_order known ms apart run kept);
  locals_apart = locals_apart known apart c accounts told truly h (always_carried_truly known ms apart run kept) (always_expired_duly known ms apart run kept) (always_decided_in_order known ms apart run kept);
  listed_unsent = listed_unsent known apart c accounts told truly;
  packets_unsent = packets_unsent known apart c accounts told truly;
  streams_away = streams_away known apart c accounts told truly h (always_carried_truly known ms apart run kept) (always_expired_duly known ms apart run kept) (always_decided_in_order known ms apart run kept);
  express_above = express_above known apart c accounts;
  durable_below = durable_below known apart c accounts;
  next_apart = next_apart known apart c accounts;
  lines_numbered = lines_numbered known apart c accounts (own_below known c h) truly (always_expired_duly known ms apart run kept) (storage_is_always_kept known ms apart run kept).1 told borne;
  messages_numbered = messages_numbered known apart c accounts (own_below known c h) truly (always_expired_duly known ms apart run kept) (storage_is_always_kept known ms apart run kept).1 told borne;
  correlations_numbered = correlations_numbered known apart c accounts (own_below known c h) truly (always_expired_duly known ms apart run kept) (storage_is_always_kept known ms apart run kept).1 told borne;
  notices_apart = notices_apart known apart c accounts (own_below known c h) truly (always_expired_duly known ms apart run kept) (storage_is_always_kept known ms apart run kept).1 told borne;
  sent_rightly = always_sent_rightly known ms apart run kept;
  transactional = transactional;
  waiting = always_waiting known ms apart run kept;
  waiting_until_decided = always_waiting_until_decided known ms apart run kept;
  expired_duly = always_expired_duly known ms apart run kept;
  offers_are_kept = always_offers_kept known ms apart run kept;
  undecided = always_undecided known ms apart run kept;
  carried_truly = always_carried_truly known ms apart run kept;
  decided_truly = always_decided_truly known ms apart run kept;
  decided_in_order = always_decided_in_order known ms apart run kept;
  decided_where_led = always_decided_where_led known ms apart run kept;
  decided_by_one = always_decided_by_one known ms apart run kept;
  unskipped = always_unskipped known ms apart run kept;
  acknowledging_truly = always_acknowledging_truly known ms apart run kept;
  acknowledged_truly = always_acknowledged_truly known ms apart run kept;
  begun_in_order = always_begun_in_order known ms apart run kept;
  decided_across = always_decided_across known ms apart run kept;
  put_truly = put_is_the_committed_message known ms apart run kept;
  copies_right = always_copied_rightly known ms apart run kept;
  truthful = always_truthful known ms apart run kept;
  received_truly = always_received_truly known ms apart run kept;
  fates_told = finals_tell_fates known ms apart run kept;
  sessions_counted = sessions_counted c (always_kept known (IsStoring known) (storing_closed known apart) ms run kept (begins_orderly known, begins_storing known)).1;
  released_truly = (storage_is_always_kept known ms apart run kept).0;
  storage_is_kept = (storage_is_always_kept known ms apart run kept).1;
  one_stream_world = always_one_stream_world known ms apart run kept;
}
  where
    c : Course
    c = settled kept (after_run known ms)

    h : IsCredible known c
    h = always_kept known (IsCredible known) (credible_closed known apart) ms run kept (credible_begins known)

    accounts : IsAccounted known c
    accounts = always_accounted known apart ms run kept

    told : AreCommitmentsTold c
    told = always_told_commitments known ms apart run kept

    borne : AreBorne known c
    borne = always_borne known apart ms run kept

    truly : AreDecidedTruly c
    truly = always_decided_truly known ms apart run kept

    transactional : AreTransactional c
    transactional i m inside = (
      all_in (λ (x : Commitment). IsOfTransaction x.message) (commitments (written_of i c.written)) m (all_transact (written_of i c.written)) inside,
      let asked = committed_is_asked known ms apart run kept i m inside in ap (λ (x : Message). x.class) asked.message,
    )
