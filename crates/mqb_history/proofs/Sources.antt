-- What expired, or was decided, was committed by one manager, once, and is decided by the manager to which it goes.
use Rattle.std.proofs.Common.{refl, ap, sym, subst, ◌∙◌, arith, inl, inr}
use Rattle.std.specs.List.{AllByRecursion, cons_option}
use Rattle.std.specs.Prelude.{[], ◌&&◌, ◌++◌, ◌<◌, ◌==◌, ◌||◌, ◌∷◌, ◌≡◌, Bool, List, None, Option, Some, false, filter_map, map, nat_lt, slice_get, true, ℕ}
use Rattle.std.proofs.lemmas.Bool.Decides.{nat_tests}
use Rattle.mqb_base.specs.Same.{same_guid, same_id}
use Rattle.mqb_base.specs.declared.class.Class.{Class}
use Rattle.mqb_base.specs.declared.heads.TxHead.{TxHead}
use Rattle.mqb_base.specs.declared.ids.Identity.{Identity}
use Rattle.mqb_base.specs.declared.ids.MessageId.{MessageId}
use Rattle.mqb_base.specs.declared.ledger.Line.{Line}
use Rattle.mqb_base.specs.declared.ledger.Line.TheVariants as line
use Rattle.mqb_base.specs.declared.ledger.Stream.{Stream}
use Rattle.mqb_base.specs.declared.message.Message.{Message}
use Rattle.mqb_exactly_once.specs.Words.{In, position_of, precedes}
use Rattle.mqb_exactly_once.specs.World.{Commitment, Position}
use Rattle.mqb_model.specs.records.Applying.{lines_of}
use Rattle.mqb_model.specs.records.Decisions.{decided_line, stream_heard}
use Rattle.mqb_model.specs.records.Record as entry
use Rattle.mqb_model.specs.rules.Arrivals.{refusal_of}
use Rattle.mqb_network.specs.Courses.{Course, Written}
use Rattle.mqb_network.specs.Laws.{AreApart, lines_written}
use Rattle.mqb_network.specs.Network.{manager_at, others}
use Rattle.mqb_packet.specs.declared.packet.Packet.TheVariants as packet
use Rattle.mqb_packet.specs.declared.packet.UserPacket.{UserPacket}
use Rattle.mqb_history.specs.Carried.{AreDecidedTruly, ComesFromItsSource}
use Rattle.mqb_history.specs.Committed.{IdentifiersDiffer, commitments, commitments_in}
use Rattle.mqb_history.specs.Decided.{RiseStrictly, written_of}
use Rattle.mqb_history.specs.Expired.{AreExpiredDuly, WasDue}
use Rattle.mqb_history.specs.Orderly.{IsOrderly}
use Rattle.mqb_history.specs.Told.{AreCommitmentsTold, Joined, commitment_told, joined_by}
use Rattle.mqb_history.proofs.Accounted.{NamesOwn}
use Rattle.mqb_history.proofs.Between.{all_in}
use Rattle.mqb_history.proofs.Committing.{in_append}
use Rattle.mqb_history.proofs.Courses.{Agrees, GoesTo, HeardIn, one_guid}
use Rattle.mqb_history.proofs.Leads.{led}
use Rattle.mqb_history.proofs.Lists.{clash, join_and, none_some, same_number, some_is}
use Rattle.mqb_history.proofs.Names.{same_guid_refl}
use Rattle.mqb_history.proofs.Noticed.{flat_in, in_flat, guid_of, heard_in, own_line, own_written, told_from}
use Rattle.mqb_history.proofs.Numbering.{AreCounted}
use Rattle.mqb_history.proofs.Outside.{filtered_in}
use Rattle.mqb_history.proofs.Puts.{IsDeciding, decision_line, put_decides, refused_decides, told_in}

-- Lists.

split_at : {X : Type 0} (xs : List X) (x : X) → In x xs → (before : List X) × (behind : List X) × (xs ≡ before ++ x ∷ behind)
split_at [] x i = absurd i
split_at (y ∷ xs) x (inl e) = ([], xs, ap (λ z. z ∷ xs) e)
split_at (y ∷ xs) x (inr i) = let g = split_at xs x i in (y ∷ g.0, g.1, ap (λ zs. y ∷ zs) g.2)

itself : (a : MessageId) → same_id a a ≡ true
itself a = join_and (same_guid a.qm a.qm) (a.number == a.number) (same_guid_refl a.qm) (same_number a.number)

-- messages that differ have one commitment under one identifier
differing : (a b : Commitment) (cs : List Commitment) → a.message.id ≡ b.message.id → In b cs → AllByRecursion (λ (d : Commitment). same_id a.message.id d.message.id ≡ false) cs → ⊥
differing a b cs e i h = clash (sym (subst (λ x. same_id a.message.id x ≡ true) e (itself a.message.id)) ∙ all_in (λ (d : Commitment). same_id a.message.id d.message.id ≡ false) cs b h i)

one_named : (cs : List Commitment) (a b : Commitment) → IdentifiersDiffer cs → In a cs → In b cs → a.message.id ≡ b.message.id → a ≡ b
one_named [] a b h i j e = absurd i
one_named (x ∷ cs) a b h (inl f) (inl g) e = sym f ∙ g
one_named (x ∷ cs) a b h (inl f) (inr j) e = absurd (differing x b cs (ap (λ (y : Commitment). y.message.id) f ∙ e) j h.0)
one_named (x ∷ cs) a b h (inr i) (inl g) e = absurd (differing x a cs (ap (λ (y : Commitment). y.message.id) g ∙ sym e) i h.0)
one_named (x ∷ cs) a b h (inr i) (inr j) e = one_named cs a b h.1 i j e

-- positions that rise differ
not_below : (n : ℕ) → nat_lt n n ≡ false
not_below n = at (nat_lt n n) refl
  where
    at : (b : Bool) → nat_lt n n ≡ b → nat_lt n n ≡ false
    at false e = e
    at true e = let lt : n < n = grind (arith, nat_tests, e) in absurd (omega (arith, lt))

pub not_itself : (p : Position) → precedes p p ≡ true → ⊥
not_itself p e = clash (sym e ∙ by (nat_lt p.sequence.ordinal p.sequence.ordinal) (nat_lt p.sequence.stamp p.sequence.stamp) (nat_lt p.number p.number)
    (p.sequence.ordinal == p.sequence.ordinal) (p.sequence.ordinal == p.sequence.ordinal && p.sequence.stamp == p.sequence.stamp)
    (not_below p.sequence.ordinal) (not_below p.sequence.stamp) (not_below p.number))
  where
    by : (a b d : Bool) (e f : Bool) → a ≡ false → b ≡ false → d ≡ false → ((a || (e && b)) || (f && d)) ≡ false
    by a b d e f x y z = ap (λ t. (t || (e && b)) || (f && d)) x ∙ ap (λ t. (e && t) || (f && d)) y ∙ at e f d z
      where
        at : (e f d : Bool) → d ≡ false → ((e && false) || (f && d)) ≡ false
        at true true d z = z
        at true false d z = refl
        at false true d z = z
        at false false d z = refl

-- two lines that tell of one decision are one
pub told_once : (tells : Line → Option Position) (ls : List Line) (k l : Line) (p : Position) → In k ls → In l ls → tells k ≡ Some p → tells l ≡ Some p → RiseStrictly (filter_map tells ls) → k ≡ l
told_once tells [] k l p i j e f rise = absurd i
told_once tells (x ∷ ls) k l p (inl g) (inl h) e f rise = sym g ∙ h
told_once tells (x ∷ ls) k l p (inl g) (inr j) e f rise = absurd (not_itself p (all_in (λ q. precedes p q ≡ true) (filter_map tells ls) p
    (subst (λ o. RiseStrictly (cons_option o (filter_map tells ls))) (ap tells g ∙ e) rise).0 (told_in tells ls l p j f)))
told_once tells (x ∷ ls) k l p (inr i) (inl h) e f rise = absurd (not_itself p (all_in (λ q. precedes p q ≡ true) (filter_map tells ls) p
    (subst (λ o. RiseStrictly (cons_option o (filter_map tells ls))) (ap tells h ∙ f) rise).0 (told_in tells ls k p i e)))
told_once tells (x ∷ ls) k l p (inr i) (inr j) e f rise = at (tells x) rise (told_once tells ls k l p i j e f)
  where
    at : (o : Option Position) → RiseStrictly (cons_option o (filter_map tells ls)) → (RiseStrictly (filter_map tells ls) → k ≡ l) → k ≡ l
    at None g rest = rest g
    at (Some q) g rest = rest g.1

-- Where a message was committed.
pub record IsCommittedAt (known : List Identity) (c : Course) (id : MessageId) : Type 0 where
  pub source : ℕ
  pub own : Identity
  pub there : slice_get known source ≡ Some own
  pub commitment : Commitment
  pub inside : In commitment (commitments (written_of source c.written))
  pub names : commitment.message.id ≡ id

-- A line tells of a decision: of a packet that went to the manager which decided it.
pub record IsDecidedAt (known : List Identity) (c : Course) (by : ℕ) (stream : Stream) (number : ℕ) (id : MessageId) : Type 0 where
  pub own : Identity
  pub there : slice_get known by ≡ Some own
  pub heard : UserPacket
  pub head : TxHead
  pub has : heard.tx ≡ Some head
  pub sent_it : In (packet.User heard) c.sent
  pub to : heard.to ≡ own.guid
  pub stream_is : stream ≡ stream_heard heard.message head
  pub number_is : number ≡ head.number
  pub id_is : id ≡ heard.message.id
  pub committed : IsCommittedAt known c id
  pub position : committed.commitment.position ≡ position_of head
  pub destination : committed.commitment.message.destination ≡ heard.message.destination

pub record IsLineOf (stream : Stream) (number : ℕ) (id : MessageId) (m : Message) (tx : TxHead) : Type 0 where
  pub stream_is : stream ≡ stream_heard m tx
  pub number_is : number ≡ tx.number
  pub id_is : id ≡ m.id

pub put_line : (m : Message) (tx : TxHead) (o : Option Class) (stream : Stream) (number : ℕ) (id : MessageId) → decided_line m tx o ≡ line.Put stream number id → IsLineOf stream number id m tx
put_line m tx None stream number id e = record { stream_is = cc; number_is = cc; id_is = cc }
put_line m tx (Some class) stream number id e = absurd (let none : ⊥ = cc in none)

pub refused_line : (m : Message) (tx : TxHead) (o : Option Class) (stream : Stream) (number : ℕ) (class : Class) (id : MessageId) → decided_line m tx o ≡ line.Refused stream number class id → IsLineOf stream number id m tx
refused_line m tx None stream number class id e = absurd (let none : ⊥ = cc in none)
refused_line m tx (Some why) stream number class id e = record { stream_is = cc; number_is = cc; id_is = cc }

module _ (known : List Identity) (apart : AreApart known) (c : Course) (o : IsOrderly known c) (h : Agrees known c) (counted : (i : ℕ) → AreCounted (manager_at c.network i).state (written_of i c.written)) where
  abbrev mine : ℕ → List Line
  mine i = lines_written (written_of i c.written)

  -- it bears its source's GUID
  pub of_source : (id : MessageId) (x : IsCommittedAt known c id) → id.qm ≡ x.own.guid
  of_source id x = ap (λ (i : MessageId). i.qm) (sym x.names) ∙ (all_in _ (commitments (written_of x.source c.written)) x.commitment (counted x.source).own_ids x.inside).0 ∙ guid_of known apart c o h x.source x.own x.there

  -- there is one commitment of an identifier
  pub one_source : (id : MessageId) (x y : IsCommittedAt known c id) → x.source ≡ y.source
  one_source id x y = one_guid known x.source y.source x.own y.own apart x.there y.there (sym (of_source id x) ∙ of_source id y)

  pub one_commitment : (id : MessageId) (x y : IsCommittedAt known c id) → x.commitment ≡ y.commitment
  one_commitment id x y = one_named (commitments (written_of y.source c.written)) x.commitment y.commitment (counted y.source).differ
      (subst (λ i. In x.commitment (commitments (written_of i c.written))) (one_source id x y) x.inside) y.inside (x.names ∙ sym y.names)

  -- the record of a commitment
  committed_in : (i : ℕ) (ws : List Written) (m : Commitment) → ((v : Written) → In v ws → In v c.written) → In m (commitments (written_of i ws)) → (x : IsCommittedAt known c m.message.id) × (x.commitment ≡ m)
  committed_in i ws m sub inside = (
    record {
      source = v.by;
      own = heard.0;
      there = heard.1;
      commitment = m;
      inside = flat_in (λ (w : Written). commitments_in w.before w.entry) (written_of v.by c.written) v m (own_written c.written v met) found.2;
      names = refl;
    },
    refl,
  )
    where
      found : (v : Written) × In v (written_of i ws) × In m (commitments_in v.before v.entry)
      found = in_flat (λ (w : Written). commitments_in w.before w.entry) (written_of i ws) m inside

      v : Written
      v = found.0

      met : In v c.written
      met = sub v (filtered_in (λ (w : Written). w.by == i) ws v found.1)

      heard : HeardIn known c.sent v.by v.entry
      heard = heard_in known apart c o h v met

  -- what is told to have expired
  pub expired_at : AreExpiredDuly c → (w : Written) (stream : Stream) (number : ℕ) (id : MessageId) (moment : ℕ) → In w c.written → In (line.Expired stream number id moment) (lines_of w.before w.entry)
      → (x : IsCommittedAt known c id) × (x.commitment.position ≡ record { sequence = stream.sequence; number = number }) × (id.qm ≡ (manager_at c.network w.by).state.identity.guid)
  expired_at duly w stream number id moment i inside = subst (λ k. (x : IsCommittedAt known c k) × (x.commitment.position ≡ record { sequence = stream.sequence; number = number }) × (k.qm ≡ (manager_at c.network w.by).state.identity.guid))
      (ap (λ (j : Joined). j.id) due.joined) (
        at.0,
        ap (λ (m : Commitment). m.position) at.1 ∙ ap (λ (j : Joined). record { sequence = j.stream.sequence; number = j.number }) due.joined,
        (all_in _ (commitments (written_of w.by c.written)) due.commitment (counted w.by).own_ids due.there).0,
      )
    where
      due : WasDue (manager_at c.network w.by).state.identity.guid (commitments (written_of w.by c.written)) stream number id moment
      due = duly w.by stream number id moment (own_line known apart c o h w (line.Expired stream number id moment) i inside)

      at : (x : IsCommittedAt known c due.commitment.message.id) × (x.commitment ≡ due.commitment)
      at = committed_in w.by c.written due.commitment (λ v j. j) due.there

  -- the line of a decision
  decided_at : AreDecidedTruly c → (w : Written) (stream : Stream) (number : ℕ) (id : MessageId) → In w c.written → (d : IsDeciding w.entry)
      → IsLineOf stream number id d.packet.message d.head → IsDecidedAt known c w.by stream number id
  decided_at truly w stream number id i d g = record {
    own = heard.0;
    there = heard.1;
    heard = d.packet;
    head = d.head;
    has = d.there;
    sent_it = heard.2.0;
    to = heard.2.1;
    stream_is = g.stream_is;
    number_is = g.number_is;
    id_is = g.id_is;
    committed = committed.0;
    position = committed.1;
    destination = committed.2;
  }
    where
      heard : HeardIn known c.sent w.by (entry.Arrived d.now d.numbers (entry.Decided d.packet))
      heard = subst (HeardIn known c.sent w.by) d.entry (heard_in known apart c o h w i)

      split : (before : List Written) × (behind : List Written) × (c.written ≡ before ++ w ∷ behind)
      split = split_at c.written w i

      from : ComesFromItsSource c split.0 d.packet d.head
      from = truly split.0 split.1 w d.now d.numbers d.packet d.head split.2 d.entry d.there

      at : (x : IsCommittedAt known c from.committed.commitment.message.id) × (x.commitment ≡ from.committed.commitment)
      at = committed_in from.source split.0 from.committed.commitment (λ v j. subst (In v) (sym split.2) (in_append split.0 (w ∷ split.1) v j)) from.committed.there

      committed : (x : IsCommittedAt known c id) × (x.commitment.position ≡ position_of d.head) × (x.commitment.message.destination ≡ d.packet.message.destination)
      committed = subst (λ k. (x : IsCommittedAt known c k) × (x.commitment.position ≡ position_of d.head) × (x.commitment.message.destination ≡ d.packet.message.destination))
          (ap (λ (m : Message). m.id) (sym from.committed.message) ∙ sym g.id_is) (
            at.0,
            ap (λ (m : Commitment). m.position) at.1 ∙ from.committed.position,
            ap (λ (m : Commitment). m.message.destination) at.1 ∙ ap (λ (m : Message). m.destination) (sym from.committed.message),
          )

  pub put_at : AreDecidedTruly c → (w : Written) (stream : Stream) (number : ℕ) (id : MessageId) → In w c.written → In (line.Put stream number id) (lines_of w.before w.entry) → IsDecidedAt known c w.by stream number id
  put_at truly w stream number id i inside = let d = put_decides w.before w.entry stream number id inside in
      decided_at truly w stream number id i d (put_line d.packet.message d.head (refusal_of w.before d.packet) stream number id
      (decision_line w.before d.now d.numbers d.packet d.head (line.Put stream number id) d.there (λ none. none) (subst (λ r. In (line.Put stream number id) (lines_of w.before r)) d.entry inside)))

  pub refused_at : AreDecidedTruly c → (w : Written) (stream : Stream) (number : ℕ) (class : Class) (id : MessageId) → In w c.written → In (line.Refused stream number class id) (lines_of w.before w.entry) → IsDecidedAt known c w.by stream number id
  refused_at truly w stream number class id i inside = let d = refused_decides w.before w.entry stream number class id inside in
      decided_at truly w stream number id i d (refused_line d.packet.message d.head (refusal_of w.before d.packet) stream number class id
      (decision_line w.before d.now d.numbers d.packet d.head (line.Refused stream number class id) d.there (λ none. none) (subst (λ r. In (line.Refused stream number class id) (lines_of w.before r)) d.entry inside)))

  -- a line tells of it
  pub committed_told : AreCommitmentsTold c → (id : MessageId) (x : IsCommittedAt known c id) → (stream : Stream) × (number : ℕ) × In (line.Committed stream number id) (mine x.source)
  committed_told told id x = let l = told_from commitment_told (mine x.source) (joined_by (manager_at c.network x.source).state.identity.guid x.commitment) told_it in at l.0 l.1 l.2
    where
      told_it : In (joined_by (manager_at c.network x.source).state.identity.guid x.commitment) (filter_map commitment_told (mine x.source))
      told_it = subst (In (joined_by (manager_at c.network x.source).state.identity.guid x.commitment)) (sym (told x.source)) (in_map (commitments (written_of x.source c.written)) x.inside)
        where
          in_map : (cs : List Commitment) → In x.commitment cs → In (joined_by (manager_at c.network x.source).state.identity.guid x.commitment) (map (joined_by (manager_at c.network x.source).state.identity.guid) cs)
          in_map [] j = absurd j
          in_map (z ∷ cs) (inl e) = inl (ap (joined_by (manager_at c.network x.source).state.identity.guid) e)
          in_map (z ∷ cs) (inr j) = inr (in_map cs j)

      at : (l : Line) → In l (mine x.source) → commitment_told l ≡ Some (joined_by (manager_at c.network x.source).state.identity.guid x.commitment) → (stream : Stream) × (number : ℕ) × In (line.Committed stream number id) (mine x.source)
      at (line.Committed stream number other) j e = (stream, number, subst (λ y. In (line.Committed stream number y) (mine x.source)) (ap (λ (y : Joined). y.id) (some_is _ _ e) ∙ x.names) j)
      at l j e = absurd (none_some e)

  -- one that was committed was not put at its source
  pub not_here : AreCommitmentsTold c → (id : MessageId) → IsCommittedAt known c id → (w : Written) → In w c.written → In (line.Local id) (lines_of w.before w.entry) → ⊥
  not_here told id x w i inside = let k = committed_told told id x in (h.stand x.source x.own x.there).locals id k.0 k.1 (subst (λ j. In (line.Local id) (mine j)) same here) k.2
    where
      here : In (line.Local id) (mine w.by)
      here = own_line known apart c o h w (line.Local id) i inside

      heard : HeardIn known c.sent w.by w.entry
      heard = heard_in known apart c o h w i

      same : w.by ≡ x.source
      same = one_guid known w.by x.source heard.0 x.own apart heard.1 x.there (sym (guid_of known apart c o h w.by heard.0 heard.1)
          ∙ sym (all_in (NamesOwn (manager_at c.network w.by).state.identity.guid (manager_at c.network w.by).state.next_number (mine w.by)) (mine w.by) (line.Local id) (h.stand w.by heard.0 heard.1).names here).0
          ∙ of_source id x)

  -- One manager decides it.

  -- two packets of one message go to one manager
  one_target : (p q : UserPacket) → p.message.id ≡ q.message.id → p.message.destination ≡ q.message.destination → GoesTo known p → GoesTo known q → p.to ≡ q.to
  one_target p q ids names a b = a.leads.same ∙ ap (λ (x : Identity). x.guid) (some_is a.leads.peer b.leads.peer (sym a.leads.there ∙ places ∙ b.leads.there)) ∙ sym b.leads.same
    where
      senders : a.sender ≡ b.sender
      senders = one_guid known a.sender b.sender a.own b.own apart a.there b.there (sym a.goes.0 ∙ ap (λ (i : MessageId). i.qm) ids ∙ b.goes.0)

      owns : a.own ≡ b.own
      owns = some_is a.own b.own (sym a.there ∙ ap (slice_get known) senders ∙ b.there)

      indices : a.index ≡ b.index
      indices = some_is a.index b.index (sym a.goes.1 ∙ ap (λ x. led x (others known x) p.message.destination) owns ∙ ap (led b.own (others known b.own)) names ∙ b.goes.1)

      places : slice_get (others known a.own) a.index ≡ slice_get (others known b.own) b.index
      places = ap (λ x. slice_get (others known x) a.index) owns ∙ ap (slice_get (others known b.own)) indices

  -- it is decided at one place, and told of one
  pub one_decision : (i j : ℕ) (s t : Stream) (m n : ℕ) (id : MessageId) (a : IsDecidedAt known c i s m id) (b : IsDecidedAt known c j t n id) → (i ≡ j) × (s ≡ t) × (m ≡ n)
  one_decision i j s t m n id a b = (places, streams, numbers)
    where
      same : position_of a.head ≡ position_of b.head
      same = sym a.position ∙ ap (λ (x : Commitment). x.position) (one_commitment id a.committed b.committed) ∙ b.position

      numbers : m ≡ n
      numbers = a.number_is ∙ ap (λ (p : Position). p.number) same ∙ sym b.number_is

      names : a.heard.message.destination ≡ b.heard.message.destination
      names = sym a.destination ∙ ap (λ (x : Commitment). x.message.destination) (one_commitment id a.committed b.committed) ∙ b.destination

      ids : a.heard.message.id ≡ b.heard.message.id
      ids = sym a.id_is ∙ b.id_is

      streams : s ≡ t
      streams = a.stream_is ∙ ap (λ (x : MessageId). record { source = x.qm; destination = a.heard.message.destination; sequence = a.head.sequence }) ids
          ∙ ap (λ d. record { source = b.heard.message.id.qm; destination = d; sequence = a.head.sequence }) names
          ∙ ap (λ (p : Position). record { source = b.heard.message.id.qm; destination = b.heard.message.destination; sequence = p.sequence }) same ∙ sym b.stream_is

      places : i ≡ j
      places = one_guid known i j a.own b.own apart a.there b.there (sym a.to
          ∙ one_target a.heard b.heard ids names (h.streams a.heard a.sent_it a.head a.has) (h.streams b.heard b.sent_it b.head b.has) ∙ b.to)
