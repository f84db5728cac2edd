-- Messages are decided where their rows lead, and those of one channel by one manager.
use Rattle.std.proofs.Common.{refl, ap, sym, subst, ◌∙◌, arith}
use Rattle.std.specs.Prelude.{◌<◌, ◌≡◌, List, length, slice_get, true, ℕ}
use Rattle.mqb_base.specs.Same.{same_guid, same_name}
use Rattle.mqb_base.specs.declared.ids.Guid.{Guid}
use Rattle.mqb_base.specs.declared.ids.Identity.{Identity}
use Rattle.mqb_base.specs.declared.queue_names.QueueName.{QueueName}
use Rattle.mqb_exactly_once.specs.Words.{In}
use Rattle.mqb_exactly_once.specs.World.{Channel, Position}
use Rattle.mqb_model.specs.declared.target.Target.TheVariants.{AtPeer}
use Rattle.mqb_model.specs.state.Resolving.{resolved}
use Rattle.mqb_model.specs.state.State.{State}
use Rattle.mqb_network.specs.Courses.{Course, Written}
use Rattle.mqb_network.specs.Doubts.{settled}
use Rattle.mqb_network.specs.Laws.{AreApart}
use Rattle.mqb_network.specs.Network.{manager_at}
use Rattle.mqb_network.specs.Runs.{after_run}
use Rattle.mqb_orders.specs.Rows.{Row}
use Rattle.mqb_packet.specs.declared.packet.UserPacket.{UserPacket}
use Rattle.mqb_history.specs.Decided.{decisions, written_of}
use Rattle.mqb_history.specs.Laws.{AlwaysDecidedByOne, AlwaysDecidedWhereLed}
use Rattle.mqb_history.specs.Led.{AreDecidedByOne, AreDecidedWhereLed}
use Rattle.mqb_history.proofs.Acknowledged.{committer}
use Rattle.mqb_history.proofs.Acting.{DecidesPacket}
use Rattle.mqb_history.proofs.Answering.{IsCredible, credible_begins, credible_closed, sound_of}
use Rattle.mqb_history.proofs.Committing.{all_in}
use Rattle.mqb_history.proofs.Crediting.{row_of}
use Rattle.mqb_history.proofs.Later.{CameRightly, LeadsFrom}
use Rattle.mqb_history.proofs.Lists.{some_is, split_and, within_get}
use Rattle.mqb_history.proofs.Names.{same_guid_is, same_name_is}
use Rattle.mqb_history.proofs.Rows.{HasRow}
use Rattle.mqb_history.proofs.Runs.{always_kept}
use Rattle.mqb_history.proofs.Skipping.{Decides}
use Rattle.mqb_history.proofs.Undecided.{IsKnown, in_decisions, known_one, one_manager}

peer_is : (j k : ℕ) → AtPeer j ≡ AtPeer k → j ≡ k
peer_is j k e = cc

-- a name leads to one manager
one_lead : (s : State) (a b : Guid) (d : QueueName) → LeadsFrom s a d → LeadsFrom s b d → a ≡ b
one_lead s a b d x y = sym x.is ∙ ap (λ (p : Identity). p.guid) same ∙ y.is
  where
    same : x.peer ≡ y.peer
    same = some_is x.peer y.peer (sym x.there ∙ ap (slice_get s.peers) (peer_is x.index y.index (sym x.resolves ∙ y.resolves)) ∙ y.there)

module _ (known : List Identity) (apart : AreApart known) (c : Course) (h : IsCredible known c) where
  abbrev guid_at : ℕ → Guid
  guid_at i = (manager_at c.network i).state.identity.guid

  -- whatever is decided of a channel came from where its destination leads there
  record IsOfChannel (j : ℕ) (channel : Channel) : Type 0 where
    pub packet : UserPacket
    pub came : CameRightly known c j packet
    pub source : packet.message.id.qm ≡ channel.source
    pub destination : packet.message.destination ≡ channel.destination

  of_channel : (j : ℕ) (channel : Channel) (p : Position) → In p (decisions channel (written_of j c.written)) → IsOfChannel j channel
  of_channel j channel p inside = record {
    packet = d.packet;
    came = h.honest.written j found.0 found.1 d.packet (subst (λ r. DecidesPacket r d.packet) (sym d.entry) refl);
    source = same_guid_is d.packet.message.id.qm channel.source within.0;
    destination = same_name_is d.packet.message.destination channel.destination within.1;
  }
    where
      found : (w : Written) × In w (written_of j c.written) × Decides channel w.entry p
      found = in_decisions channel p (written_of j c.written) inside

      d : Decides channel found.0.entry p
      d = found.2

      within : (same_guid d.packet.message.id.qm channel.source ≡ true) × (same_name d.packet.message.destination channel.destination ≡ true)
      within = split_and (same_guid d.packet.message.id.qm channel.source) (same_name d.packet.message.destination channel.destination) d.inside

  known_at : (j : ℕ) → j < length known → IsKnown known c j
  known_at j low = let x = within_get c.network.managers j (let count = h.carrying.0.0.count in omega (arith, low, count)) in known_one known c j x.0 h.carrying.0.0 x.1

  -- it leads from each known manager of the source
  leads_here : (i j : ℕ) (channel : Channel) → IsKnown known c i → guid_at i ≡ channel.source → IsOfChannel j channel → LeadsFrom (manager_at c.network i).state (guid_at j) channel.destination
  leads_here i j channel is own of = subst (LeadsFrom (manager_at c.network i).state (guid_at j)) of.destination
      (subst (λ k. LeadsFrom (manager_at c.network k).state (guid_at j) of.packet.message.destination) same of.came.leads)
    where
      same : of.came.source ≡ i
      same = one_manager known c of.came.source i apart (known_at of.came.source of.came.within) is (of.came.own ∙ of.source ∙ sym own)

  by_one : AreDecidedByOne c
  by_one j k channel p q inside behind = one_manager known c j k apart (known_at j first.came.here) (known_at k second.came.here)
      (one_lead (manager_at c.network first.came.source).state (guid_at j) (guid_at k) channel.destination (leads first) (leads second))
    where
      first : IsOfChannel j channel
      first = of_channel j channel p inside

      second : IsOfChannel k channel
      second = of_channel k channel q behind

      leads : {n : ℕ} → IsOfChannel n channel → LeadsFrom (manager_at c.network first.came.source).state (guid_at n) channel.destination
      leads {n} of = leads_here first.came.source n channel (known_at first.came.source first.came.within) (first.came.own ∙ first.source) of

  pub where_led : AreDecidedWhereLed c
  where_led i j m inside decided = record {
    row = place.0;
    there = place.1;
    sequence = place.2;
    destination = place.3;
    leads = record {
      peer = leads.peer;
      there = ap (slice_get (manager_at c.network i).state.peers) (peer_is place.0.peer leads.index (sym led ∙ leads.resolves)) ∙ leads.there;
      is = sym leads.is;
    };
  }
    where
      place : HasRow (manager_at c.network i).state.outs m
      place = row_of known apart c (sound_of known c h) i m inside

      leads : LeadsFrom (manager_at c.network i).state (guid_at j) m.message.destination
      leads = leads_here i j (record { source = guid_at i; destination = m.message.destination }) (committer known apart c h i m inside) refl
          (of_channel j (record { source = guid_at i; destination = m.message.destination }) m.position decided)

      led : resolved (manager_at c.network i).state m.message.destination ≡ AtPeer place.0.peer
      led = ap (resolved (manager_at c.network i).state) (sym place.3)
          ∙ all_in (λ (x : Row). resolved (manager_at c.network i).state x.destination ≡ AtPeer x.peer) (manager_at c.network i).state.outs place.0 (h.rolling i).led place.1

-- The laws.

pub always_decided_where_led : AlwaysDecidedWhereLed
always_decided_where_led known ms apart run kept = where_led known apart (settled kept (after_run known ms))
    (always_kept known (IsCredible known) (credible_closed known apart) ms run kept (credible_begins known))

pub always_decided_by_one : AlwaysDecidedByOne
always_decided_by_one known ms apart run kept = by_one known apart (settled kept (after_run known ms))
    (always_kept known (IsCredible known) (credible_closed known apart) ms run kept (credible_begins known))
