-- What a manager keeps, and what it sent, agrees with the ledger: each record that it makes keeps that.
use Rattle.std.proofs.Common.{refl, sym, subst, ◌∙◌, arith, inl, inr}
use Rattle.std.specs.List.{AllByRecursion}
use Rattle.std.specs.Prelude.{[], ◌+◌, ◌++◌, ◌<◌, ◌∷◌, ◌≡◌, ◌≤◌, ◌⊎◌, Bool, List, Some, cond, false, length, slice_get, true, ℕ}
use Rattle.mqb_base.specs.declared.ids.Guid.{Guid}
use Rattle.mqb_base.specs.declared.ids.Identity.{Identity}
use Rattle.mqb_base.specs.declared.ids.MessageId.{MessageId}
use Rattle.mqb_base.specs.declared.ledger.Line.{Line}
use Rattle.mqb_base.specs.declared.ledger.Line.TheVariants as line
use Rattle.mqb_base.specs.declared.message.Message.{Message}
use Rattle.mqb_exactly_once.specs.Words.{In}
use Rattle.mqb_model.specs.declared.limits.TheConstants.{FIRST_EXPRESS}
use Rattle.mqb_model.specs.declared.target.Target.TheVariants.{AtPeer, Here, Nowhere}
use Rattle.mqb_model.specs.records.Commit.{sends_of}
use Rattle.mqb_model.specs.records.Record.{Part, Record}
use Rattle.mqb_model.specs.records.Record as entry
use Rattle.mqb_model.specs.rules.Effects.{Effect}
use Rattle.mqb_model.specs.rules.Numbers.{own_id}
use Rattle.mqb_model.specs.state.Resolving.{resolved}
use Rattle.mqb_model.specs.state.State.{State}
use Rattle.mqb_packet.specs.declared.packet.Packet.{Packet}
use Rattle.mqb_packet.specs.declared.packet.Packet.TheVariants as packet
use Rattle.mqb_packet.specs.declared.packet.UserPacket.{UserPacket}
use Rattle.mqb_plain.specs.Plain.{PlainLists}
use Rattle.mqb_plain.specs.declared.outgoing.Outgoing.{Outgoing}
use Rattle.mqb_history.specs.Made.{AreNumbered}
use Rattle.mqb_history.proofs.Between.{all_in, in_either}
use Rattle.mqb_history.proofs.Committing.{in_append}
use Rattle.mqb_history.proofs.Fated.{IsSent, PartFair}
use Rattle.mqb_history.proofs.Fates.{AllFrom, Frame, IsWaiting, Keeps, PlainFair, WaitsFairly, from_weaker, going, keeps_more}
use Rattle.mqb_history.proofs.Lists.{all_append, all_weaker}
use Rattle.mqb_history.proofs.Locals.{IsSendOf, LocalsApart, locals_join}
use Rattle.mqb_history.proofs.Recorded.{IsPlainPacket}
use Rattle.mqb_history.proofs.Staying.{IsSameManager, manager_then}
use Rattle.mqb_history.proofs.Walks.{IsRightLine, Known, Walks}

-- Which messages the ledger says were sent.

-- no line says so
abbrev pub IsApart : List Line → MessageId → Type 0
IsApart ls id = (l : Line) → In l ls → IsSendOf id l → ⊥

-- a manager's own number below the next one, which no line says was sent
pub record IsPlainId (own : Guid) (next : ℕ) (ls : List Line) (id : MessageId) : Type 0 where
  pub source : id.qm ≡ own
  pub below : id.number < next
  pub apart : IsApart ls id

-- the lines of a manager name its own messages: those that were sent, and those that lapsed
abbrev pub NamesOwn : Guid → ℕ → List Line → Line → Type 0
NamesOwn own next ls (line.Committed stream number id) = (id.qm ≡ own) × (id.number < next)
NamesOwn own next ls (line.Local id) = (id.qm ≡ own) × (id.number < next)
NamesOwn own next ls (line.Lapsed id) = IsPlainId own next ls id
NamesOwn own next ls _ = Unit {0}

-- an index leads to a manager
pub record LeadsTo (peers : List Identity) (k : ℕ) (guid : Guid) : Type 0 where
  pub peer : Identity
  pub there : slice_get peers k ≡ Some peer
  pub same : guid ≡ peer.guid

-- a plain packet of a manager bears an own number, and went to the peer for which its message waited
pub record IsPacketOf (own : Guid) (peers : List Identity) (next : ℕ) (went : ℕ → ℕ) (ls : List Line) (p : UserPacket) : Type 0 where
  pub plain : IsPlainId own next ls p.message.id
  pub leads : LeadsTo peers (went p.message.id.number) p.to

-- between records
abbrev pub resting : State → (ℕ → ℕ) → List Line → Frame
resting s went mine = record { own = s.identity.guid; low = s.next_number; base = s.next_number; went = went; Old = IsApart mine }

-- in an earlier state each plain message waited for the peer to which its number went
pub record HadWaiting (went : ℕ → ℕ) (next : ℕ) (t : State) : Type 0 where
  pub below : t.next_number ≤ next
  pub waits : AllFrom (λ k p. AllByRecursion (λ o. (o.message.id.number < t.next_number) × (went o.message.id.number ≡ k)) p.recoverable) 0 t.plain

-- What holds of a manager, of all lines and its own ones, of the states that its records met, and of the packets that were ever sent.
pub record Stands (all mine : List Line) (past : List State) (sent : List Packet) (s : State) : Type 0 where
  pub went : ℕ → ℕ
  pub waited : AllByRecursion (HadWaiting went s.next_number) past
  pub selves : AllByRecursion (λ t. IsSameManager t s) past
  pub keeps : Keeps (resting s went mine) (λ l. In l all) s
  pub names : AllByRecursion (NamesOwn s.identity.guid s.next_number mine) mine
  pub locals : LocalsApart mine
  pub packets : (p : UserPacket) → In (packet.User p) sent → p.message.id.qm ≡ s.identity.guid → IsPlainPacket p
      → IsPacketOf s.identity.guid s.peers s.next_number went mine p

-- Records.

-- a record may be applied in a state: what it sends bears the next numbers, and what arrived is fair
abbrev pub IsSendRecord : State → Message → Type 0
IsSendRecord s m = IsSent m × (m.id ≡ own_id s s.next_number) × (s.next_number + 1 ≤ FIRST_EXPRESS)

pub record IsCommitRecord (s : State) (ms : List Message) : Type 0 where
  pub numbered : AreNumbered s.identity.guid s.next_number ms
  pub sent : AllByRecursion IsSent ms
  pub high : s.next_number + length ms ≤ FIRST_EXPRESS

abbrev pub MayApply : (Line → Type 0) → State → Record → Type 0
MayApply T s (entry.Commit now ops) = IsCommitRecord s (sends_of ops)
MayApply T s (entry.Plain now p) = IsSendRecord s p.message
MayApply T s (entry.Arrived now numbers part) = PartFair T part
MayApply T s (entry.Peer peer) = ⊥
MayApply T s _ = Unit {0}

-- how many numbers are given to what it sends
abbrev base_for : State → Record → ℕ
base_for s (entry.Commit now ops) = s.next_number + length (sends_of ops)
base_for s (entry.Plain now p) = elim (resolved s p.message.destination) [ AtPeer k ↦ s.next_number | Here queue ↦ s.next_number + 1 | Nowhere ↦ s.next_number + 1 ]
base_for s _ = s.next_number

abbrev pub frame_for : State → (ℕ → ℕ) → List Line → ℕ → Frame
frame_for s went mine base = record { own = s.identity.guid; low = s.next_number; base = base; went = went; Old = IsApart mine }

-- numbers are given and taken: the plain messages that waited bear others
pub given_numbers : (all mine : List Line) (s : State) (went new : ℕ → ℕ) (base next : ℕ) → Keeps (resting s went mine) (λ l. In l all) s → ((n : ℕ) → n < s.next_number → new n ≡ went n)
    → s.next_number ≤ base → base ≤ next → next ≤ FIRST_EXPRESS → (k : Keeps (frame_for s new mine base) (λ l. In l all) (record s { next_number = next })) × (k.goes ≡ new)
given_numbers all mine s went new base next h same low more high = (
  record {
    own = refl;
    order = low;
    low = more;
    high = high;
    express = h.express;
    places = h.places;
    goes = new;
    same = λ n lt. refl;
    plain = from_weaker (PlainFair (resting s went mine) (λ l. In l all) h.goes s.next_number) (PlainFair (frame_for s new mine base) (λ l. In l all) new next) lists 0 s.plain h.plain;
    outs = h.outs;
  },
  refl,
)
  where
    waits : (k : ℕ) (m : Message) → IsWaiting (resting s went mine) h.goes s.next_number k m → IsWaiting (frame_for s new mine base) new next k m
    waits k m g = record {
      durable = g.durable;
      source = g.source;
      below = let lt = g.below in omega (arith, lt, low, more);
      place = same m.id.number g.below ∙ sym (h.same m.id.number g.below) ∙ g.place;
      known = by g.known;
    }
      where
        by : ((m.id.number < s.next_number) × IsApart mine m.id) ⊎ (s.next_number ≤ m.id.number) → ((m.id.number < s.next_number) × IsApart mine m.id) ⊎ (base ≤ m.id.number)
        by (inl d) = inl d
        by (inr le) = let lt = g.below in absurd (omega (arith, le, lt))

    lists : (k : ℕ) (p : PlainLists) → PlainFair (resting s went mine) (λ l. In l all) h.goes s.next_number k p → PlainFair (frame_for s new mine base) (λ l. In l all) new next k p
    lists k p g = record {
      recoverable = all_weaker (WaitsFairly (resting s went mine) (λ l. In l all) h.goes s.next_number k) (WaitsFairly (frame_for s new mine base) (λ l. In l all) new next k)
          (λ o d. (d.0, waits k o.message d.1)) p.recoverable g.recoverable;
      express = g.express;
    }

-- Behind a record.

-- a send of a manager bears a number below the next one
send_below : (own : Guid) (low : ℕ) (mine : List Line) (x : Line) (id : MessageId) → NamesOwn own low mine x → IsSendOf id x → id.number < low
send_below own low mine (line.Committed stream number other) id g e = subst (λ (i : MessageId). i.number < low) e g.1
send_below own low mine (line.Local other) id g e = subst (λ (i : MessageId). i.number < low) e g.1
send_below own low mine x id g e = absurd e

-- lines of sends between two numbers leave the others apart
more_apart : (own : Guid) (mine more : List Line) (low base next : ℕ) (id : MessageId) → AllByRecursion (NamesOwn own low mine) mine
    → ((l : Line) → In l more → IsSendOf id l → (low ≤ id.number) × (id.number < base))
    → ((id.number < low) × IsApart mine id) ⊎ (base ≤ id.number) → low ≤ base → IsApart (mine ++ more) id
more_apart own mine more low base next id names sends known le l inside says = at (in_either mine more l inside)
  where
    at : In l mine ⊎ In l more → ⊥
    at (inl i) = old known i
      where
        old : ((id.number < low) × IsApart mine id) ⊎ (base ≤ id.number) → In l mine → ⊥
        old (inl k) j = k.1 l j says
        old (inr high) j = let lt = send_below own low mine l id (all_in (NamesOwn own low mine) mine l names j) says in omega (arith, lt, high, le)
    at (inr i) = new known (sends l i says)
      where
        new : ((id.number < low) × IsApart mine id) ⊎ (base ≤ id.number) → (low ≤ id.number) × (id.number < base) → ⊥
        new (inl k) g = let a = k.0 in let b = g.0 in omega (arith, a, b)
        new (inr high) g = let b = g.1 in omega (arith, high, b)

-- a line that is right says what a frame gives
sends_given : (f : Frame) (next : ℕ) (id : MessageId) (l : Line) → IsRightLine f next l → IsSendOf id l → (f.low ≤ id.number) × (id.number < f.base)
sends_given f next id (line.Committed stream number other) g e = subst (λ (i : MessageId). (f.low ≤ i.number) × (i.number < f.base)) e (g.low, g.below)
sends_given f next id (line.Local other) g e = subst (λ (i : MessageId). (f.low ≤ i.number) × (i.number < f.base)) e (g.low, g.below)
sends_given f next id l g e = absurd e

-- what is known of lines, where more lines join
names_more : (own : Guid) (a b : ℕ) (ls more : List Line) → a ≤ b → ((id : MessageId) → id.number < a → IsApart ls id → IsApart more id) → (l : Line) → NamesOwn own a ls l → NamesOwn own b more l
names_more own a b ls more le apart (line.Committed stream number id) h = (h.0, let lt = h.1 in omega (arith, lt, le))
names_more own a b ls more le apart (line.Local id) h = (h.0, let lt = h.1 in omega (arith, lt, le))
names_more own a b ls more le apart (line.Lapsed id) h = record { source = h.source; below = let lt = h.below in omega (arith, lt, le); apart = apart id h.below h.apart }
names_more own a b ls more le apart x h = tt

-- a record's lines name own messages
right_names : (f : Frame) (next : ℕ) (more : List Line) → f.base ≤ next → ((id : MessageId) → ((id.number < f.low) × f.Old id) ⊎ (f.base ≤ id.number) → IsApart more id)
    → (l : Line) → IsRightLine f next l → NamesOwn f.own next more l
right_names f next more le apart (line.Committed stream number id) h = (h.source, let lt = h.below in omega (arith, lt, le))
right_names f next more le apart (line.Local id) h = (h.source, let lt = h.below in omega (arith, lt, le))
right_names f next more le apart (line.Lapsed id) h = record { source = h.source; below = h.below; apart = apart id h.known }
right_names f next more le apart x h = tt

-- Where a record was walked through, the manager stands behind it.
pub walked_stands : (noted : Bool) (all mine : List Line) (past : List State) (sent : List Packet) (s : State) (new : ℕ → ℕ) (base : ℕ) (e : Effect) (old : Stands all mine past sent s)
    → ((n : ℕ) → n < s.next_number → new n ≡ old.went n) → IsSameManager s e.state → LocalsApart e.lines → Walks (frame_for s new mine base) all e
    → Stands (all ++ e.lines) (mine ++ e.lines) (cond noted (past ++ s ∷ []) past) sent e.state
walked_stands noted all mine past sent s new base e old same manager locals w = record {
  went = known.goes;
  waited = waited noted;
  selves = selves noted;
  keeps = record {
    own = refl;
    order = omega arith;
    low = omega arith;
    high = w.keeps.high;
    express = w.keeps.express;
    places = known.places;
    goes = known.goes;
    same = λ n lt. refl;
    plain = from_weaker (PlainFair f (λ l. In l (all ++ e.lines)) known.goes e.state.next_number) (PlainFair after (λ l. In l (all ++ e.lines)) known.goes e.state.next_number) lists 0 e.state.plain known.plain;
    outs = known.outs;
  };
  names = all_append (NamesOwn e.state.identity.guid e.state.next_number (mine ++ e.lines)) mine e.lines
      (all_weaker (NamesOwn s.identity.guid s.next_number mine) (NamesOwn e.state.identity.guid e.state.next_number (mine ++ e.lines))
      (λ l g. subst (λ own. NamesOwn own e.state.next_number (mine ++ e.lines) l) (sym own)
      (names_more s.identity.guid s.next_number e.state.next_number mine (mine ++ e.lines) upward (λ id lt a. apart id (inl (lt, a))) l g)) mine old.names)
      (all_weaker (IsRightLine f e.state.next_number) (NamesOwn e.state.identity.guid e.state.next_number (mine ++ e.lines))
      (λ l g. subst (λ x. NamesOwn x e.state.next_number (mine ++ e.lines) l) (sym own) (right_names f e.state.next_number (mine ++ e.lines) w.keeps.low apart l g)) e.lines w.lapsed);
  locals = locals_join s.next_number mine e.lines (λ l id i says. send_below s.identity.guid s.next_number mine l id (all_in (NamesOwn s.identity.guid s.next_number mine) mine l old.names i) says) old.locals
      (λ l id i says. (sends_given f e.state.next_number id l (all_in (IsRightLine f e.state.next_number) e.lines l w.lapsed i) says).0) locals;
  packets = λ p inside qm kind. let g = old.packets p inside (qm ∙ own) kind in record {
    plain = record {
      source = qm;
      below = let lt = g.plain.below in omega (arith, lt, upward);
      apart = apart p.message.id (inl (g.plain.below, g.plain.apart));
    };
    leads = subst (λ ps. LeadsTo ps (known.goes p.message.id.number) p.to) (sym manager.peers)
        (subst (λ k. LeadsTo s.peers k p.to) (sym (known.same p.message.id.number g.plain.below ∙ same p.message.id.number g.plain.below)) g.leads);
  };
}
  where
    f : Frame
    f = frame_for s new mine base

    own : e.state.identity.guid ≡ s.identity.guid
    own = w.keeps.own

    upward : s.next_number ≤ e.state.next_number
    upward = let a = w.keeps.order in let b = w.keeps.low in omega (arith, a, b)

    known : Keeps f (λ l. In l (all ++ e.lines)) e.state
    known = keeps_more f (Known all e) (λ l. In l (all ++ e.lines)) sub e.state w.keeps
      where
        behind : (xs ys : List Line) (l : Line) → In l ys → In l (xs ++ ys)
        behind [] ys l i = i
        behind (x ∷ xs) ys l i = inr (behind xs ys l i)

        sub : (l : Line) → In l all ⊎ In l e.lines → In l (all ++ e.lines)
        sub l (inl i) = in_append all e.lines l i
        sub l (inr i) = behind all e.lines l i

    after : Frame
    after = resting e.state known.goes (mine ++ e.lines)

    goes_as : (n : ℕ) → n < s.next_number → known.goes n ≡ old.went n
    goes_as n lt = known.same n lt ∙ same n lt

    -- what was known of earlier states
    had : (t : State) → HadWaiting old.went s.next_number t → HadWaiting known.goes e.state.next_number t
    had t g = record {
      below = let le = g.below in omega (arith, le, upward);
      waits = from_weaker _ _ (λ k p d. all_weaker (λ (o : Outgoing). (o.message.id.number < t.next_number) × (old.went o.message.id.number ≡ k))
          (λ (o : Outgoing). (o.message.id.number < t.next_number) × (known.goes o.message.id.number ≡ k))
          (λ o x. (x.0, goes_as o.message.id.number (let a = x.0 in let b = g.below in omega (arith, a, b)) ∙ x.1)) p.recoverable d) 0 t.plain g.waits;
    }

    -- and of this one
    has : HadWaiting known.goes e.state.next_number s
    has = record {
      below = upward;
      waits = from_weaker (PlainFair (resting s old.went mine) (λ l. In l all) old.keeps.goes s.next_number) _ (λ k p d. all_weaker (WaitsFairly (resting s old.went mine) (λ l. In l all) old.keeps.goes s.next_number k)
          (λ (o : Outgoing). (o.message.id.number < s.next_number) × (known.goes o.message.id.number ≡ k))
          (λ o x. (x.1.below, goes_as o.message.id.number x.1.below ∙ sym (old.keeps.same o.message.id.number x.1.below) ∙ x.1.place)) p.recoverable d.recoverable) 0 s.plain old.keeps.plain;
    }

    waited : (b : Bool) → AllByRecursion (HadWaiting known.goes e.state.next_number) (cond b (past ++ s ∷ []) past)
    waited false = all_weaker (HadWaiting old.went s.next_number) (HadWaiting known.goes e.state.next_number) had past old.waited
    waited true = all_append (HadWaiting known.goes e.state.next_number) past (s ∷ []) (waited_before) (has, tt)
      where
        waited_before : AllByRecursion (HadWaiting known.goes e.state.next_number) past
        waited_before = all_weaker (HadWaiting old.went s.next_number) (HadWaiting known.goes e.state.next_number) had past old.waited

    selves : (b : Bool) → AllByRecursion (λ t. IsSameManager t e.state) (cond b (past ++ s ∷ []) past)
    selves b = by b (all_weaker (λ t. IsSameManager t s) (λ t. IsSameManager t e.state) (λ t g. manager_then t s e.state g manager) past old.selves)
      where
        by : (b : Bool) → AllByRecursion (λ t. IsSameManager t e.state) past → AllByRecursion (λ t. IsSameManager t e.state) (cond b (past ++ s ∷ []) past)
        by false g = g
        by true g = all_append (λ t. IsSameManager t e.state) past (s ∷ []) g (manager, tt)

    apart : (id : MessageId) → ((id.number < s.next_number) × IsApart mine id) ⊎ (base ≤ id.number) → IsApart (mine ++ e.lines) id
    apart id k = more_apart s.identity.guid mine e.lines s.next_number base e.state.next_number id old.names
        (λ l i says. sends_given f e.state.next_number id l (all_in (IsRightLine f e.state.next_number) e.lines l w.lapsed i) says) k w.keeps.order

    waits : (k : ℕ) (m : Message) → IsWaiting f known.goes e.state.next_number k m → IsWaiting after known.goes e.state.next_number k m
    waits k m g = record { durable = g.durable; source = g.source ∙ sym own; below = g.below; place = g.place; known = inl (g.below, apart m.id g.known) }

    lists : (k : ℕ) (p : PlainLists) → PlainFair f (λ l. In l (all ++ e.lines)) known.goes e.state.next_number k p → PlainFair after (λ l. In l (all ++ e.lines)) known.goes e.state.next_number k p
    lists k p g = record {
      recoverable = all_weaker (WaitsFairly f (λ l. In l (all ++ e.lines)) known.goes e.state.next_number k) (WaitsFairly after (λ l. In l (all ++ e.lines)) known.goes e.state.next_number k)
          (λ o d. (d.0, waits k o.message d.1)) p.recoverable g.recoverable;
      express = g.express;
    }
