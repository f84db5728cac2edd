-- What is known of messages that were decided, and of identifiers that no transaction has, stays known in later courses.
use Rattle.std.proofs.Common.{refl, ap, sym, subst, ◌∙◌, arith, inl, inr}
use Rattle.std.specs.Prelude.{[], ◌++◌, ◌<◌, ◌∷◌, ◌≡◌, ◌≤◌, ◌⊎◌, List, None, Option, Some, false, length, slice_get, true, ℕ}
use Rattle.mqb_base.specs.declared.heads.TxHead.{TxHead}
use Rattle.mqb_base.specs.declared.ids.Guid.{Guid}
use Rattle.mqb_base.specs.declared.ids.Identity.{Identity}
use Rattle.mqb_base.specs.declared.ids.MessageId.{MessageId}
use Rattle.mqb_exactly_once.specs.Words.{In}
use Rattle.mqb_exactly_once.specs.World.{Channel, Commitment, Position}
use Rattle.mqb_fate.specs.Asking.{is_ordinary}
use Rattle.mqb_model.specs.managers.Manager.{Manager, doubt_of}
use Rattle.mqb_model.specs.records.Applying.{apply}
use Rattle.mqb_model.specs.records.Record.{Record}
use Rattle.mqb_model.specs.records.Record as entry
use Rattle.mqb_model.specs.state.Places.{is_express}
use Rattle.mqb_base.specs.declared.queue_names.QueueName.{QueueName}
use Rattle.mqb_model.specs.declared.target.Target.TheVariants.{AtPeer}
use Rattle.mqb_model.specs.state.Resolving.{resolved}
use Rattle.mqb_model.specs.state.State.{State}
use Rattle.mqb_history.proofs.Rowwise.{resolved_peer}
use Rattle.mqb_history.proofs.Staying.{IsSameManager}
use Rattle.mqb_network.specs.Choices.{Failure}
use Rattle.mqb_network.specs.Courses.{Course, Written, written_by}
use Rattle.mqb_network.specs.Network.{Note, manager_at}
use Rattle.mqb_orders.specs.Rows.{Row}
use Rattle.mqb_packet.specs.declared.packet.Packet.{Packet}
use Rattle.mqb_packet.specs.declared.packet.UserPacket.{UserPacket}
use Rattle.mqb_queue.specs.Places.{numbered}
use Rattle.mqb_history.specs.Acked.{IsDecidedThere, SpellsDecided, is_order_ack}
use Rattle.mqb_model.specs.calls.Call.{Call, Hear, Pump, outcome_of}
use Rattle.mqb_history.specs.Changes.{Change, Calls, Finds, Hears, Pumps, calling, changed, hearing, may_change}
use Rattle.mqb_history.specs.Committed.{commitments, commitments_in}
use Rattle.mqb_history.specs.Decided.{decisions, written_of}
use Rattle.mqb_history.specs.Made.{IsMade}
use Rattle.mqb_history.specs.Orderly.{IsOrderly}
use Rattle.mqb_history.proofs.Applying.{applied_manager, made_of_no_peer}
use Rattle.mqb_history.proofs.Committing.{in_append, in_split}
use Rattle.mqb_history.proofs.Fresh.{commits_within, record_rises}
use Rattle.mqb_history.proofs.Lists.{append_nothing}
use Rattle.mqb_history.proofs.Numbering.{commitments_more}
use Rattle.mqb_history.proofs.Pumped.{filter_append}
use Rattle.mqb_history.proofs.Written.{IsLasting, change_lasts, of_append}

-- Identifiers.

-- no transaction of a manager has a number that it gave
pub record IsUnused (s : State) (ws : List Written) (n : ℕ) : Type 0 where
  pub below : n < s.next_number
  pub uncommitted : (m : Commitment) → In m (commitments ws) → m.message.id.number ≡ n → ⊥

-- no transaction of the manager of an identifier has it
abbrev pub Unused : List Identity → Course → MessageId → Type 0
Unused known c id = (i : ℕ) → i < length known → (manager_at c.network i).state.identity.guid ≡ id.qm → IsUnused (manager_at c.network i).state (written_of i c.written) id.number

-- records decide the message of an identifier
pub record DecideIt (ws : List Written) (id : MessageId) : Type 0 where
  pub written : Written
  pub there : In written ws
  pub now : ℕ
  pub numbers : List ℕ
  pub packet : UserPacket
  pub head : TxHead
  pub entry : written.entry ≡ entry.Arrived now numbers (entry.Decided packet)
  pub tx : packet.tx ≡ Some head
  pub names : packet.message.id ≡ id

-- What a manager met: its own messages, those that it decided, and those of no transaction.
abbrev pub Known : List Identity → Course → ℕ → MessageId → Type 0
Known known c j id = (id.qm ≡ (manager_at c.network j).state.identity.guid) ⊎ (DecideIt (written_of j c.written) id ⊎ Unused known c id)

-- a manager committed nothing under a number
abbrev pub Vacant : Course → ℕ → ℕ → Type 0
Vacant c j n = (m : Commitment) → In m (commitments (written_of j c.written)) → m.message.id.number ≡ n → ⊥

-- Later courses.

pub record Later (known : List Identity) (c d : Course) : Type 0 where
  pub identity : (j : ℕ) → (manager_at d.network j).state.identity ≡ (manager_at c.network j).state.identity
  pub guid : (j : ℕ) → (manager_at d.network j).state.identity.guid ≡ (manager_at c.network j).state.identity.guid
  pub peers : (j : ℕ) → (manager_at d.network j).state.peers ≡ (manager_at c.network j).state.peers
  pub more : List Written
  pub written : d.written ≡ c.written ++ more
  pub unused : (id : MessageId) → Unused known c id → Unused known d id

-- at most one record is written
abbrev WrittenOn : Course → Course → Type 0
WrittenOn c d = (more : List Written) × (d.written ≡ c.written ++ more) × (length more ≤ 1)

nothing_written : (c : Course) → WrittenOn c c
nothing_written c = ([], sym (append_nothing c.written), omega arith)

by_one : (i : ℕ) (m : Manager) (o : Option Record) → length (written_by i m o) ≤ 1
by_one i m None = omega arith
by_one i m (Some r) = omega arith

calling_written : (i : ℕ) (call : Call) (failure : Option Failure) (c : Course) → WrittenOn c (calling i call failure c)
calling_written i call None c = let m = manager_at c.network i in (written_by i m (outcome_of m call).entry, refl, by_one i m (outcome_of m call).entry)
calling_written i call (Some how) c = nothing_written c

hearing_written : (note : Option Note) (p : Option Packet) (now : ℕ) (failure : Option Failure) (c : Course) → WrittenOn c (hearing note p now failure c)
hearing_written None p now failure c = nothing_written c
hearing_written (Some note) None now failure c = nothing_written c
hearing_written (Some note) (Some p) now failure c = calling_written note.receiver (Hear now p) failure c

pub change_written : (c : Course) (x : Change) → WrittenOn c (changed x c)
change_written c (Calls i call failure) = calling_written i call failure c
change_written c (Pumps i now failure) = calling_written i (Pump now) failure c
change_written c (Hears k now failure) = hearing_written (numbered c.network.notes k) (numbered c.sent k) now failure c
change_written c (Finds i) = let m = manager_at c.network i in (written_by i m (doubt_of m.condition), refl, by_one i m (doubt_of m.condition))
change_written c x = nothing_written c

-- what is unused stays so
pub unused_grows : (i : ℕ) (s : State) (r : Record) (ws : List Written) (n : ℕ) → IsMade s r → IsUnused s ws n → IsUnused (apply s r) (ws ++ record { by = i; before = s; entry = r } ∷ []) n
unused_grows i s r ws n made h = record {
  below = let low = h.below in let more = (record_rises s r made).numbers in omega (arith, low, more);
  uncommitted = λ m inside same. at m same (in_split (commitments ws) (commitments_in s r) m (subst (In m) (commitments_more ws (record { by = i; before = s; entry = r })) inside));
}
  where
    at : (m : Commitment) → m.message.id.number ≡ n → In m (commitments ws) ⊎ In m (commitments_in s r) → ⊥
    at m same (inl j) = h.uncommitted m j same
    at m same (inr j) = let low = h.below in let high = (commits_within s r m made j).0 in omega (arith, low, high, same)

unused_lasts : (known : List Identity) (id : MessageId) → IsLasting (λ i s ws. i < length known → s.identity.guid ≡ id.qm → IsUnused s ws id.number)
unused_lasts known id = record {
  quiet = λ i a b ws same h within e. let old = h within (sym (ap (λ (x : Identity). x.guid) same.manager.identity) ∙ e) in
      record { below = let low = old.below in let more = same.numbers in omega (arith, low, more); uncommitted = old.uncommitted };
  grows = λ i s r ws made h within e. unused_grows i s r ws id.number made
      (h within (sym (ap (λ (x : Identity). x.guid) (applied_manager s r (made_of_no_peer s r made)).identity) ∙ e));
}

pub change_later : (known : List Identity) (c : Course) (x : Change) → may_change c x ≡ true → IsOrderly known c → Later known c (changed x c)
change_later known c x may o = let more = change_written c x in record {
  identity = change_lasts known (λ j s ws. s.identity ≡ (manager_at c.network j).state.identity) (record {
    quiet = λ i a b ws same h. same.manager.identity ∙ h;
    grows = λ i s r ws made h. (applied_manager s r (made_of_no_peer s r made)).identity ∙ h;
  }) c x may o (λ j. refl);
  guid = change_lasts known (λ j s ws. s.identity.guid ≡ (manager_at c.network j).state.identity.guid) (record {
    quiet = λ i a b ws same h. ap (λ (x : Identity). x.guid) same.manager.identity ∙ h;
    grows = λ i s r ws made h. ap (λ (x : Identity). x.guid) (applied_manager s r (made_of_no_peer s r made)).identity ∙ h;
  }) c x may o (λ j. refl);
  peers = change_lasts known (λ j s ws. s.peers ≡ (manager_at c.network j).state.peers) (record {
    quiet = λ i a b ws same h. same.manager.peers ∙ h;
    grows = λ i s r ws made h. (applied_manager s r (made_of_no_peer s r made)).peers ∙ h;
  }) c x may o (λ j. refl);
  more = more.0;
  written = more.1;
  unused = λ id h. change_lasts known (λ i s ws. i < length known → s.identity.guid ≡ id.qm → IsUnused s ws id.number) (unused_lasts known id) c x may o h;
}

module _ (known : List Identity) (c d : Course) (later : Later known c d) where
  pub of_later : (j : ℕ) → written_of j d.written ≡ written_of j c.written ++ written_of j later.more
  of_later j = ap (written_of j) later.written ∙ of_append j c.written later.more

  pub decided_later : (j : ℕ) (channel : Channel) (p : Position) → In p (decisions channel (written_of j c.written)) → In p (decisions channel (written_of j d.written))
  decided_later j channel p h = subst (In p) (sym (ap (decisions channel) (of_later j) ∙ filter_append _ (written_of j c.written) (written_of j later.more)))
      (in_append (decisions channel (written_of j c.written)) (decisions channel (written_of j later.more)) p h)

  pub known_later : (j : ℕ) (id : MessageId) → Known known c j id → Known known d j id
  known_later j id (inl e) = inl (e ∙ sym (later.guid j))
  known_later j id (inr (inl h)) = inr (inl (record {
    written = h.written;
    there = subst (In h.written) (sym (of_later j)) (in_append (written_of j c.written) (written_of j later.more) h.written h.there);
    now = h.now;
    numbers = h.numbers;
    packet = h.packet;
    head = h.head;
    entry = h.entry;
    tx = h.tx;
    names = h.names;
  }))
  known_later j id (inr (inr h)) = inr (inr (later.unused id h))

  pub spelled_later : (j : ℕ) (p : UserPacket) → SpellsDecided c j p → SpellsDecided d j p
  spelled_later j p h = record {
    source = h.source ∙ sym (later.guid j);
    position = h.position;
    spelled = h.spelled;
    destination = h.destination;
    decided = decided_later j (record { source = p.to; destination = h.destination }) h.position h.decided;
  }

  pub there_later : (i : ℕ) (row : Row) (n : ℕ) → IsDecidedThere c i row n → IsDecidedThere d i row n
  there_later i row n h = record {
    decider = h.decider;
    leads = record {
      peer = h.leads.peer;
      there = ap (λ (ps : List Identity). slice_get ps row.peer) (later.peers i) ∙ h.leads.there;
      is = later.guid h.decider ∙ h.leads.is;
    };
    decided = subst (λ (g : Guid). In {A = Position} (record { sequence = row.sequence; number = n }) (decisions (record { source = g; destination = row.destination }) (written_of h.decider d.written))) (sym (later.guid i))
        (decided_later h.decider (record { source = (manager_at c.network i).state.identity.guid; destination = row.destination }) (record { sequence = row.sequence; number = n }) h.decided);
  }

-- Packets, and rows.

-- a message of no transaction that went: it is its sender's own, and no transaction has its identifier. It is ordinary, or names what its sender met
pub record IsNote (known : List Identity) (c : Course) (j : ℕ) (p : UserPacket) : Type 0 where
  pub within : j < length known
  pub source : p.message.id.qm ≡ (manager_at c.network j).state.identity.guid
  pub unused : Unused known c p.message.id
  pub about : (is_ordinary p.message ≡ true) ⊎ Known known c j p.message.correlation

-- what is known of a packet that is in no stream
pub record IsTold (known : List Identity) (c : Course) (j : ℕ) (p : UserPacket) : Type 0 where
  pub order : is_order_ack p.message ≡ true → SpellsDecided c j p
  pub plain : is_express p.message.delivery ≡ false → IsNote known c j p

pub told_later : (known : List Identity) (c d : Course) → Later known c d → (j : ℕ) (p : UserPacket) → IsTold known c j p → IsTold known d j p
told_later known c d later j p h = record {
  order = λ e. spelled_later known c d later j p (h.order e);
  plain = λ e. let note = h.plain e in record { within = note.within; source = note.source ∙ sym (later.guid j); unused = later.unused p.message.id note.unused; about = at note.about };
}
  where
    at : (is_ordinary p.message ≡ true) ⊎ Known known c j p.message.correlation → (is_ordinary p.message ≡ true) ⊎ Known known d j p.message.correlation
    at (inl e) = inl e
    at (inr k) = inr (known_later known c d later j p.message.correlation k)

-- the acknowledged number of a row was decided where it leads
abbrev pub IsAckedTruly : Course → ℕ → Row → Type 0
IsAckedTruly c i row = (row.acked ≡ 0) ⊎ IsDecidedThere c i row row.acked

-- Streams.

-- a name leads from a manager to the one of an identifier
pub record LeadsFrom (s : State) (to : Guid) (d : QueueName) : Type 0 where
  pub index : ℕ
  pub resolves : resolved s d ≡ AtPeer index
  pub peer : Identity
  pub there : slice_get s.peers index ≡ Some peer
  pub is : peer.guid ≡ to

pub leads_later : (s t : State) (to : Guid) (d : QueueName) → IsSameManager s t → LeadsFrom s to d → LeadsFrom t to d
leads_later s t to d same h = record {
  index = h.index;
  resolves = resolved_peer s t same d h.index h.resolves;
  peer = h.peer;
  there = ap (λ (ps : List Identity). slice_get ps h.index) same.peers ∙ h.there;
  is = h.is;
}

-- a message came from the manager whose identifier it bears, and its name leads from there to the manager that it reached
pub record CameRightly (known : List Identity) (c : Course) (j : ℕ) (p : UserPacket) : Type 0 where
  pub source : ℕ
  pub within : source < length known
  pub own : (manager_at c.network source).state.identity.guid ≡ p.message.id.qm
  pub here : j < length known
  pub leads : LeadsFrom (manager_at c.network source).state (manager_at c.network j).state.identity.guid p.message.destination

module _ (known : List Identity) (c d : Course) (later : Later known c d) where
  pub led_later : (i : ℕ) (to : Guid) (name : QueueName) → LeadsFrom (manager_at c.network i).state to name → LeadsFrom (manager_at d.network i).state to name
  led_later i to name h = leads_later (manager_at c.network i).state (manager_at d.network i).state to name (record { identity = later.identity i; peers = later.peers i }) h

  pub came_later : (j : ℕ) (p : UserPacket) → CameRightly known c j p → CameRightly known d j p
  came_later j p h = record {
    source = h.source;
    within = h.within;
    own = later.guid h.source ∙ h.own;
    here = h.here;
    leads = subst (λ g. LeadsFrom (manager_at d.network h.source).state g p.message.destination) (sym (later.guid j))
        (led_later h.source (manager_at c.network j).state.identity.guid p.message.destination h.leads);
  }
