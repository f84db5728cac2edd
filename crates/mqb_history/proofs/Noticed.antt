-- Each refusal of a committed message names one that expired or was refused.
use Rattle.std.proofs.Common.{refl, ap, sym, subst, ◌∙◌, arith, inl, inr}
use Rattle.std.specs.List.{AllByRecursion, cons_option, flat_map}
use Rattle.std.specs.Prelude.{[], ◌+◌, ◌++◌, ◌<◌, ◌==◌, ◌∷◌, ◌≡◌, ◌⊎◌, Bool, List, None, Option, Some, cond, false, filter_map, slice_get, suc, true, unwrap_or, ℕ, map}
use Rattle.mqb_base.specs.declared.ids.Guid.{Guid}
use Rattle.mqb_base.specs.declared.ids.Identity.{Identity}
use Rattle.mqb_base.specs.declared.ids.MessageId.{MessageId}
use Rattle.mqb_base.specs.declared.ledger.Line.{Line}
use Rattle.mqb_base.specs.declared.ledger.Line.TheVariants as line
use Rattle.mqb_base.specs.declared.message.Message.{Message}
use Rattle.mqb_exactly_once.specs.Words.{In}
use Rattle.mqb_model.specs.declared.limits.TheConstants.{FIRST_EXPRESS}
use Rattle.mqb_model.specs.managers.Manager.{Manager}
use Rattle.mqb_model.specs.records.Applying.{lines_of}
use Rattle.mqb_model.specs.records.Commit.{sends_of}
use Rattle.mqb_model.specs.records.Record.{Part, Record}
use Rattle.mqb_model.specs.records.Record as entry
use Rattle.mqb_model.specs.state.State.{State}
use Rattle.mqb_network.specs.Courses.{Course, Written}
use Rattle.mqb_network.specs.Laws.{AreApart, lines_written}
use Rattle.mqb_network.specs.Network.{manager_at, nobody}
use Rattle.mqb_orders.specs.declared.kept.Kept.{Kept}
use Rattle.mqb_packet.specs.declared.packet.Packet.{Packet}
use Rattle.mqb_packet.specs.declared.packet.Packet.TheVariants as packet
use Rattle.mqb_packet.specs.declared.packet.UserPacket.{UserPacket}
use Rattle.mqb_plain.specs.Lists.{messages_of}
use Rattle.mqb_plain.specs.Plain.{PlainLists}
use Rattle.mqb_plain.specs.declared.outgoing.Outgoing.{Outgoing}
use Rattle.mqb_queue.specs.Lists.{Lists}
use Rattle.mqb_queue.specs.Places.{Places, Queue}
use Rattle.mqb_history.specs.Decided.{written_of}
use Rattle.mqb_history.specs.Orderly.{IsOrderly}
use Rattle.mqb_history.specs.Truths.{AreRefusalsTrue, all_of, committed_in, failed_in, for_peer, held, in_places, in_queue, message_in, noticed, told_by, in_row}
use Rattle.mqb_history.proofs.Accounted.{IsPlainId, NamesOwn, resting}
use Rattle.mqb_history.proofs.Between.{all_in, in_either}
use Rattle.mqb_history.proofs.Committing.{in_append}
use Rattle.mqb_history.proofs.Courses.{Agrees, HeardIn, known_of, one_guid, who_is}
use Rattle.mqb_history.proofs.Fates.{AllFrom, Frame, IsFailureOf, IsFair, IsFairExpress, IsTold, Keeps, ListsFair, PlainFair, WaitsFairly, RowFair}
use Rattle.mqb_history.proofs.Having.{PlacesHave, QueueHas}
use Rattle.mqb_history.proofs.Lists.{all_append, all_weaker, get_within, none_some, same_number, some_is, within_get}
use Rattle.mqb_history.proofs.Locals.{IsSendOf}
use Rattle.mqb_history.proofs.Puts.{told_in}
use Rattle.mqb_history.proofs.Recorded.{IsPlainPacket}
use Rattle.mqb_history.proofs.Saying.{RecordSays, Says, Sayings, record_says}

-- Every message there is is fair.

pub all_flat : {X Y : Type 0} (P : Y → Type 0) (f : X → List Y) (xs : List X) → AllByRecursion (λ x. AllByRecursion P (f x)) xs → AllByRecursion P (flat_map f xs)
all_flat P f [] h = tt
all_flat P f (x ∷ xs) h = all_append P (f x) (flat_map f xs) h.0 (all_flat P f xs h.1)

pub all_messages : (P : Message → Type 0) (os : List Outgoing) → AllByRecursion (λ o. P o.message) os → AllByRecursion P (messages_of os)
all_messages P [] h = tt
all_messages P (o ∷ os) h = (h.0, all_messages P os h.1)

pub all_got : {X : Type 0} (P : X → Type 0) (xs : List X) → ((k : ℕ) (x : X) → slice_get xs k ≡ Some x → P x) → AllByRecursion P xs
all_got P [] h = tt
all_got P (x ∷ xs) h = (h 0 x refl, all_got P xs (λ k y e. h (suc k) y e))

module _ (f : Frame) (T : Line → Type 0) where
  lists_all : (l : Lists) → ListsFair T l → AllByRecursion (IsFair T) (all_of l)
  lists_all l h = all_append (IsFair T) l.durable l.express h.durable (all_weaker (IsFairExpress T) (IsFair T) (λ m g. g.0) l.express h.express)

  queue_all : (q : Queue) → QueueHas (ListsFair T) q → AllByRecursion (IsFair T) (in_queue q)
  queue_all q h = all_append (IsFair T) (all_of q.lists) (all_of q.journal) (lists_all q.lists h.0) (lists_all q.journal h.1)

  places_all : (p : Places) → PlacesHave (ListsFair T) p → AllByRecursion (IsFair T) (in_places p)
  places_all p h = all_append (IsFair T) (flat_map in_queue p.queues ++ all_of p.dead ++ all_of p.dead_xact) (all_of p.journal)
      (all_append (IsFair T) (flat_map in_queue p.queues ++ all_of p.dead) (all_of p.dead_xact)
      (all_append (IsFair T) (flat_map in_queue p.queues) (all_of p.dead)
      (all_flat (IsFair T) in_queue p.queues (all_weaker (QueueHas (ListsFair T)) (λ q. AllByRecursion (IsFair T) (in_queue q)) queue_all p.queues h.queues))
      (lists_all p.dead h.dead)) (lists_all p.dead_xact h.dead_xact)) (lists_all p.journal h.journal)

  peer_all : (goes : ℕ → ℕ) (next k : ℕ) (p : PlainLists) → PlainFair f T goes next k p → AllByRecursion (IsFair T) (for_peer p)
  peer_all goes next k p h = all_append (IsFair T) (messages_of p.recoverable) (messages_of p.express)
      (all_messages (IsFair T) p.recoverable (all_weaker (WaitsFairly f T goes next k) (λ o. IsFair T o.message) (λ o g. g.0) p.recoverable h.recoverable))
      (all_messages (IsFair T) p.express (all_weaker (λ (o : Outgoing). IsFairExpress T o.message) (λ o. IsFair T o.message) (λ o g. g.0) p.express h.express))

  peers_all : (goes : ℕ → ℕ) (next k : ℕ) (ps : List PlainLists) → AllFrom (PlainFair f T goes next) k ps → AllByRecursion (IsFair T) (flat_map for_peer ps)
  peers_all goes next k [] h = tt
  peers_all goes next k (p ∷ ps) h = all_append (IsFair T) (for_peer p) (flat_map for_peer ps) (peer_all goes next k p h.0) (peers_all goes next (k + 1) ps h.1)

  kept_all : (ks : List Kept) → AllByRecursion (λ (x : Kept). IsFair T x.message) ks → AllByRecursion (IsFair T) (map (λ k. k.message) ks)
  kept_all [] h = tt
  kept_all (k ∷ ks) h = (h.0, kept_all ks h.1)

  held_all : (s : State) → Keeps f T s → AllByRecursion (IsFair T) (held s)
  held_all s h = all_append (IsFair T) (in_places s.places ++ flat_map for_peer s.plain) (flat_map in_row s.outs)
      (all_append (IsFair T) (in_places s.places) (flat_map for_peer s.plain) (places_all s.places h.places) (peers_all h.goes s.next_number 0 s.plain h.plain))
      (all_flat (IsFair T) in_row s.outs (all_weaker (RowFair T) (λ row. AllByRecursion (IsFair T) (in_row row)) (λ row g. kept_all row.kept g) s.outs h.outs))

-- what a word finds in a list comes from a member
pub told_from : {X Y : Type 0} (word : X → Option Y) (xs : List X) (y : Y) → In y (filter_map word xs) → (x : X) × In x xs × (word x ≡ Some y)
told_from word [] y i = absurd i
told_from {X} {Y} word (x ∷ xs) y i = at (word x) refl i (told_from word xs y)
  where
    at : (o : Option Y) → word x ≡ o → In y (cons_option o (filter_map word xs)) → (In y (filter_map word xs) → (z : X) × In z xs × (word z ≡ Some y)) → (z : X) × In z (x ∷ xs) × (word z ≡ Some y)
    at None e j rest = let g = rest j in (g.0, inr g.1, g.2)
    at (Some z) e (inl f) rest = (x, inl refl, e ∙ ap (λ w. Some w) f)
    at (Some z) e (inr j) rest = let g = rest j in (g.0, inr g.1, g.2)

pub message_is : (x : Packet) (m : Message) → message_in x ≡ Some m → (p : UserPacket) × (x ≡ packet.User p) × (p.message ≡ m)
message_is (packet.User p) m e = (p, refl, some_is p.message m e)
message_is x m f = absurd (none_some f)

-- the lines that are told of a course
abbrev pub Told : Course → Line → Type 0
Told c l = In l (lines_written c.written)

module _ (known : List Identity) (c : Course) (o : IsOrderly known c) (h : Agrees known c) where
  pub noticed_fair : (m : Message) → In m (noticed c) → IsFair (Told c) m
  noticed_fair m i = at (in_either (flat_map (λ (x : Manager). held x.state) c.network.managers) (filter_map message_in c.sent) m i)
    where
      managers : AllByRecursion (λ (x : Manager). AllByRecursion (IsFair (Told c)) (held x.state)) c.network.managers
      managers = all_got (λ (x : Manager). AllByRecursion (IsFair (Told c)) (held x.state)) c.network.managers (λ k x e. of k x e)
        where
          of : (k : ℕ) (x : Manager) → slice_get c.network.managers k ≡ Some x → AllByRecursion (IsFair (Told c)) (held x.state)
          of k x e = let own = within_get known k (subst (λ n. k < n) o.count (get_within c.network.managers k x e)) in let s = h.stand k own.0 own.1 in
              subst (λ (y : Option Manager). AllByRecursion (IsFair (Told c)) (held (unwrap_or y nobody).state)) e
              (held_all (resting (manager_at c.network k).state s.went (lines_written (written_of k c.written))) (Told c) (manager_at c.network k).state s.keeps)

      at : In m (flat_map (λ (x : Manager). held x.state) c.network.managers) ⊎ In m (filter_map message_in c.sent) → IsFair (Told c) m
      at (inl j) = all_in (IsFair (Told c)) (flat_map (λ (x : Manager). held x.state) c.network.managers) m (all_flat (IsFair (Told c)) (λ (x : Manager). held x.state) c.network.managers managers) j
      at (inr j) = let x = told_from message_in c.sent m j in let p = message_is x.0 m x.2 in subst (IsFair (Told c)) p.2 (h.fair p.0 (subst (λ y. In y c.sent) p.1 x.1))

-- Whose a line is.

pub in_flat : {X Y : Type 0} (f : X → List Y) (xs : List X) (y : Y) → In y (flat_map f xs) → (x : X) × In x xs × In y (f x)
in_flat f [] y i = absurd i
in_flat {X} {Y} f (x ∷ xs) y i = at (in_either (f x) (flat_map f xs) y i) (in_flat f xs y)
  where
    at : In y (f x) ⊎ In y (flat_map f xs) → (In y (flat_map f xs) → (z : X) × In z xs × In y (f z)) → (z : X) × In z (x ∷ xs) × In y (f z)
    at (inl j) rest = (x, inl refl, j)
    at (inr j) rest = let g = rest j in (g.0, inr g.1, g.2)

behind_in : {X : Type 0} (xs ys : List X) (x : X) → In x ys → In x (xs ++ ys)
behind_in [] ys x i = i
behind_in (z ∷ xs) ys x i = inr (behind_in xs ys x i)

pub flat_in : {X Y : Type 0} (f : X → List Y) (xs : List X) (x : X) (y : Y) → In x xs → In y (f x) → In y (flat_map f xs)
flat_in f [] x y i j = absurd i
flat_in f (z ∷ xs) x y (inl e) j = in_append (f z) (flat_map f xs) y (subst (λ w. In y (f w)) (sym e) j)
flat_in f (z ∷ xs) x y (inr i) j = behind_in (f z) (flat_map f xs) y (flat_in f xs x y i j)

pub own_written : (ws : List Written) (w : Written) → In w ws → In w (written_of w.by ws)
own_written [] w i = absurd i
own_written (v ∷ ws) w (inl e) = subst (λ b. In w (cond b (v ∷ written_of w.by ws) (written_of w.by ws))) (sym (ap (λ (x : Written). x.by == w.by) e ∙ same_number w.by)) (inl e)
own_written (v ∷ ws) w (inr i) = at (v.by == w.by) (own_written ws w i)
  where
    at : (b : Bool) → In w (written_of w.by ws) → In w (cond b (v ∷ written_of w.by ws) (written_of w.by ws))
    at true j = inr j
    at false j = j

-- What a record says of messages.

-- it sends one, it decides one, it stores one
abbrev pub SentBy : Record → MessageId → Type 0
SentBy (entry.Commit now ops) id = (m : Message) × In m (sends_of ops) × (m.id ≡ id)
SentBy (entry.Plain now p) id = p.message.id ≡ id
SentBy _ id = ⊥

abbrev pub DecidedBy : Record → MessageId → Type 0
DecidedBy (entry.Arrived now numbers (entry.Decided p)) id = p.message.id ≡ id
DecidedBy _ id = ⊥

abbrev pub StoredBy : Record → MessageId → Type 0
StoredBy (entry.Arrived now numbers (entry.Stored p)) id = p.message.id ≡ id
StoredBy (entry.Arrived now numbers (entry.Final p)) id = p.message.id ≡ id
StoredBy _ id = ⊥

abbrev pub sayings : Record → Sayings
sayings r = record { Sends = SentBy r; Decides = DecidedBy r; Stores = StoredBy r; Expires = λ id. Unit {0}; Empties = λ id. Unit {0} }

all_members : (P : Message → Type 0) (ms : List Message) → ((m : Message) → In m ms → P m) → AllByRecursion P ms
all_members P [] h = tt
all_members P (m ∷ ms) h = (h m (inl refl), all_members P ms (λ x i. h x (inr i)))

pub says_truly : (s : State) (r : Record) → AllByRecursion (Says (sayings r)) (lines_of s r)
says_truly s r = record_says (sayings r) s r (at r)
  where
    part : (now : ℕ) (numbers : List ℕ) (p : Part) → RecordSays (sayings (entry.Arrived now numbers p)) (entry.Arrived now numbers p)
    part now numbers entry.Nothing = tt
    part now numbers (entry.OrderAcknowledged ordinal number) = tt
    part now numbers p = refl

    at : (x : Record) → RecordSays (sayings x) x
    at (entry.Commit now ops) = all_members (λ m. SentBy (entry.Commit now ops) m.id) (sends_of ops) (λ m i. (m, i, refl))
    at (entry.Plain now p) = refl
    at (entry.Arrived now numbers p) = part now numbers p
    at (entry.Taken now from id) = λ none other. tt
    at (entry.Purged now from) = λ none other. tt
    at (entry.Ticked now) = λ id. tt
    at x = tt

-- the packet that a record stored
pub record IsStoring (sent : List Packet) (own : Guid) (id : MessageId) : Type 0 where
  pub heard : UserPacket
  pub sent_it : In (packet.User heard) sent
  pub plain : IsPlainPacket heard
  pub names : heard.message.id ≡ id
  pub to : heard.to ≡ own

pub stored_packet : (known : List Identity) (sent : List Packet) (i : ℕ) (r : Record) (id : MessageId) (h : HeardIn known sent i r) → StoredBy r id → IsStoring sent h.0.guid id
stored_packet known sent i (entry.Arrived now numbers (entry.Stored p)) id h e = record { heard = p; sent_it = h.2.0; plain = h.2.2; names = e; to = h.2.1 }
stored_packet known sent i (entry.Arrived now numbers (entry.Final p)) id h e = record { heard = p; sent_it = h.2.0; plain = h.2.2; names = e; to = h.2.1 }
stored_packet known sent i r id h e = absurd e

-- A message that a line says was sent, and the manager that sent it.
pub record IsSentBy (known : List Identity) (c : Course) (id : MessageId) : Type 0 where
  pub sender : ℕ
  pub own : Identity
  pub there : slice_get known sender ≡ Some own
  pub source : id.qm ≡ own.guid
  pub number : id.number < FIRST_EXPRESS
  pub says : Line
  pub inside : In says (lines_written (written_of sender c.written))
  pub sends : IsSendOf id says

module _ (known : List Identity) (apart : AreApart known) (c : Course) (o : IsOrderly known c) (h : Agrees known c) where
  abbrev mine : ℕ → List Line
  mine i = lines_written (written_of i c.written)

  -- the record of a line
  pub written_in : (l : Line) → Told c l → (w : Written) × In w c.written × In l (lines_of w.before w.entry)
  written_in l i = in_flat (λ (w : Written). lines_of w.before w.entry) c.written l i

  pub heard_in : (w : Written) → In w c.written → HeardIn known c.sent w.by w.entry
  heard_in w i = all_in (λ (v : Written). HeardIn known c.sent v.by v.entry) c.written w h.heard.written i

  pub own_line : (w : Written) (l : Line) → In w c.written → In l (lines_of w.before w.entry) → In l (mine w.by)
  own_line w l i j = flat_in (λ (v : Written). lines_of v.before v.entry) (written_of w.by c.written) w l (own_written c.written w i) j

  pub names_in : (i : ℕ) (own : Identity) → slice_get known i ≡ Some own → (l : Line) → In l (mine i) → NamesOwn (manager_at c.network i).state.identity.guid (manager_at c.network i).state.next_number (mine i) l
  names_in i own e l j = all_in (NamesOwn (manager_at c.network i).state.identity.guid (manager_at c.network i).state.next_number (mine i)) (mine i) l (h.stand i own e).names j

  pub guid_of : (i : ℕ) (own : Identity) → slice_get known i ≡ Some own → (manager_at c.network i).state.identity.guid ≡ own.guid
  guid_of i own e = ap (λ (x : Identity). x.guid) (who_is known c i own (known_of known c o) e)

  -- a line of a send
  pub sent_by : (l : Line) (id : MessageId) → Told c l → IsSendOf id l → IsSentBy known c id
  sent_by l id told sends = by l sends (names_in w.0.by g.0 g.1 l here)
    where
      w : (w : Written) × In w c.written × In l (lines_of w.before w.entry)
      w = written_in l told

      g : HeardIn known c.sent w.0.by w.0.entry
      g = heard_in w.0 w.1

      here : In l (mine w.0.by)
      here = own_line w.0 l w.1 w.2

      own : (other : MessageId) → other ≡ id → (other.qm ≡ (manager_at c.network w.0.by).state.identity.guid) × (other.number < (manager_at c.network w.0.by).state.next_number) → IsSentBy known c id
      own other e n = record {
        sender = w.0.by;
        own = g.0;
        there = g.1;
        source = ap (λ (x : MessageId). x.qm) (sym e) ∙ n.0 ∙ guid_of w.0.by g.0 g.1;
        number = let lt = n.1 in let high = (h.stand w.0.by g.0 g.1).keeps.high in subst (λ (x : MessageId). x.number < FIRST_EXPRESS) e (omega (arith, lt, high));
        says = l;
        inside = here;
        sends = sends;
      }

      by : (x : Line) → IsSendOf id x → NamesOwn (manager_at c.network w.0.by).state.identity.guid (manager_at c.network w.0.by).state.next_number (mine w.0.by) x → IsSentBy known c id
      by (line.Committed stream number other) e n = own other e n
      by (line.Local other) e n = own other e n
      by x e n = absurd e

  -- what was sent bears no number of a plain message
  pub not_plain : (id : MessageId) (s : IsSentBy known c id) (i : ℕ) (own : Identity) → slice_get known i ≡ Some own → IsPlainId (manager_at c.network i).state.identity.guid (manager_at c.network i).state.next_number (mine i) id → ⊥
  not_plain id s i own e plain = plain.apart s.says (subst (λ k. In s.says (mine k)) same s.inside) s.sends
    where
      same : s.sender ≡ i
      same = one_guid known s.sender i s.own own apart s.there e (sym s.source ∙ plain.source ∙ guid_of i own e)

  -- so it was not stored
  pub not_stored : (id : MessageId) → IsSentBy known c id → (w : Written) → In w c.written → StoredBy w.entry id → ⊥
  not_stored id s w i stored = let p = stored_packet known c.sent w.by w.entry id (heard_in w i) stored in let sender = h.senders p.heard p.sent_it p.plain in
      not_plain id s sender.sender sender.own sender.there (subst (IsPlainId (manager_at c.network sender.sender).state.identity.guid (manager_at c.network sender.sender).state.next_number (mine sender.sender)) p.names
      ((h.stand sender.sender sender.own sender.there).packets p.heard p.sent_it (sender.source ∙ sym (guid_of sender.sender sender.own sender.there)) p.plain).plain)

  -- and what is told of its failure is that it expired or was refused
  pub failure_of : (id : MessageId) → IsSentBy known c id → IsTold (Told c) IsFailureOf id → In id (told_by failed_in c)
  failure_of id s (inr high) = let lt = s.number in absurd (omega (arith, lt, high))
  failure_of id s (inl (l, told, says)) = by l says told (written_in l told)
    where
      by : (x : Line) → IsFailureOf id x → Told c x → (w : Written) × In w c.written × In x (lines_of w.before w.entry) → In id (told_by failed_in c)
      by (line.Expired stream number other moment) e i w = told_in failed_in (lines_written c.written) (line.Expired stream number other moment) id i (ap (λ y. Some y) e)
      by (line.Refused stream number class other) e i w = told_in failed_in (lines_written c.written) (line.Refused stream number class other) id i (ap (λ y. Some y) e)
      by (line.Bounced class other) e i w = absurd (not_stored id s w.0 w.1 (subst (StoredBy w.0.entry) e
          (all_in (Says (sayings w.0.entry)) (lines_of w.0.before w.0.entry) (line.Bounced class other) (says_truly w.0.before w.0.entry) w.2)))
      by (line.Lapsed other) e i w = let g = heard_in w.0 w.1 in absurd (not_plain id s w.0.by g.0 g.1 (subst (IsPlainId (manager_at c.network w.0.by).state.identity.guid (manager_at c.network w.0.by).state.next_number (mine w.0.by)) e
          (names_in w.0.by g.0 g.1 (line.Lapsed other) (own_line w.0 (line.Lapsed other) w.1 w.2))))
      by x e i w = absurd e

  pub committed_by : (id : MessageId) → In id (told_by committed_in c) → IsSentBy known c id
  committed_by id i = let l = told_from committed_in (lines_written c.written) id i in sent_by l.0 id l.1 (sends l.0 l.2)
    where
      sends : (x : Line) → committed_in x ≡ Some id → IsSendOf id x
      sends (line.Committed stream number other) e = some_is other id e
      sends x e = absurd (none_some e)

  pub refusals_true : AreRefusalsTrue c
  refusals_true m id inside refuses committed = failure_of id (committed_by id committed) (subst (IsTold (Told c) IsFailureOf) refuses.0 ((noticed_fair known c o h m inside).fate.fails refuses.1))
