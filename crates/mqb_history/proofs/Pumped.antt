-- What a linked manager knows behind a pump: its packets are numbered one after another, and the marks of the messages that went are those of their packets.
use Rattle.std.proofs.Common.{refl, ap, sym, subst, ◌∙◌, arith}
use Rattle.std.proofs.lemmas.List.{append_assoc}
use Rattle.std.specs.List.{AllByRecursion, cons_option}
use Rattle.std.specs.Option.{option_map_or}
use Rattle.std.specs.Prelude.{[], ◌+◌, ◌-◌, ◌++◌, ◌==◌, ◌∷◌, ◌≡◌, ◌≤◌, Bool, IfSome, List, None, Option, Some, cond, false, filter_map, fold, is_none, length, map, option_map, slice_get, slice_set, suc, true, unwrap_or, zero, ℕ, ◌<◌}
use Rattle.mqb_base.specs.declared.heads.SessionHead.{SessionHead}
use Rattle.mqb_base.specs.declared.ids.Guid.{Guid}
use Rattle.mqb_base.specs.declared.ids.MessageId.{MessageId}
use Rattle.mqb_base.specs.declared.message.Message.{Message}
use Rattle.mqb_packet.specs.Plain.{carried_user}
use Rattle.mqb_packet.specs.declared.packet.Packet.{Packet}
use Rattle.mqb_packet.specs.declared.packet.Packet.TheVariants as packet
use Rattle.mqb_packet.specs.declared.packet.UserPacket.{UserPacket}
use Rattle.mqb_plain.specs.Lists.{marked_next}
use Rattle.mqb_plain.specs.Plain.{PlainLists, outgoing_in}
use Rattle.mqb_plain.specs.declared.outgoing.Outgoing.{Outgoing}
use Rattle.mqb_queue.specs.Places.{numbered}
use Rattle.mqb_session.specs.Sending.{stamped}
use Rattle.mqb_session.specs.State as one_end
use Rattle.mqb_session.specs.declared.heads.Kind.TheVariants as kind
use Rattle.mqb_base.specs.declared.message.Lane.{Lane}
use Rattle.mqb_base.specs.declared.message.Lane.TheVariants as lane
use Rattle.mqb_model.specs.Lists.{with_changed}
use Rattle.mqb_model.specs.calls.hear.Session.{no_head}
use Rattle.mqb_model.specs.calls.pump.Candidates.{Candidate}
use Rattle.mqb_model.specs.calls.pump.Choosing.{head_for, kind_of, session_after, session_behind, with_heads}
use Rattle.mqb_model.specs.calls.pump.Pump.{carriage_for, origin_of, packet_for}
use Rattle.mqb_model.specs.managers.Beside.{OfExpress, OfRecoverable, OfRow, Origin, Owed, noted, with_marked}
use Rattle.mqb_model.specs.state.Places.{with_plain}
use Rattle.mqb_model.specs.state.State.{State}
use Rattle.mqb_history.proofs.Heard.{got_told, is_storable, stored_told}
use Rattle.mqb_history.proofs.Lists.{append_length, append_nothing, changed_there, none_some, numbered_behind, some_is, all_weaker, get_within}
use Rattle.mqb_history.proofs.Unreleased.{IsBorne, IsExpress, PlainWaits, Waits, lists_weaker, weaker_waits}
use Rattle.mqb_history.proofs.Ascending.{marked_rise}

-- the identifier of a packet that counts as stored
abbrev pub storable_id : UserPacket → Option MessageId
storable_id p = cond (is_storable p.tx p.message) (Some p.message.id) None

abbrev pub storable_ids : List UserPacket → List MessageId
storable_ids ps = filter_map storable_id ps

-- the user packets among packets
abbrev pub user_in : Packet → Option UserPacket
user_in (packet.User p) = Some p
user_in _ = None

abbrev pub users_of : List Packet → List UserPacket
users_of xs = filter_map user_in xs

-- the number of a packet in its connection
abbrev pub user_number : UserPacket → ℕ
user_number p = (unwrap_or p.session no_head).user

-- packets bear the numbers behind one
abbrev pub AreInTurn : ℕ → List UserPacket → Type 0
AreInTurn n [] = Unit {0}
AreInTurn n (p ∷ ps) = (user_number p ≡ n + 1) × AreInTurn (n + 1) ps

-- and each tells how many were recoverable up to it
abbrev pub recoverable_number : UserPacket → ℕ
recoverable_number p = (unwrap_or p.session no_head).recoverable

abbrev pub AreCounted : ℕ → List UserPacket → Type 0
AreCounted n [] = Unit {0}
AreCounted n (p ∷ ps) = (recoverable_number p ≡ n + length (storable_ids (p ∷ []))) × AreCounted (n + length (storable_ids (p ∷ []))) ps

-- The acknowledgements of a session among packets repeat how many user packets went before, and how many of these were recoverable.
abbrev pub AreRepeated : ℕ → ℕ → List Packet → Type 0
AreRepeated n r [] = Unit {0}
AreRepeated n r (packet.User p ∷ xs) = AreRepeated (n + 1) (r + length (storable_ids (p ∷ []))) xs
AreRepeated n r (packet.Ack h ∷ xs) = (h.user ≡ n) × (h.recoverable ≡ r) × AreRepeated n r xs
AreRepeated n r (packet.Establish e ∷ xs) = AreRepeated n r xs
AreRepeated n r (packet.Parameters q ∷ xs) = AreRepeated n r xs

-- a number stands for an identifier in a list
abbrev pub IsNumberOf : List MessageId → ℕ → MessageId → Type 0
IsNumberOf ids n id = numbered ids n ≡ Some id

-- Packets of a session.
pub record Sends (before after : one_end.State) (ps : List UserPacket) : Type 0 where
  pub sent : after.sent ≡ before.sent + length ps
  pub recoverable_sent : after.recoverable_sent ≡ before.recoverable_sent + length (storable_ids ps)
  pub numbered : AreInTurn before.sent ps
  pub counted : AreCounted before.recoverable_sent ps
  pub got : after.got ≡ before.got
  pub stored : after.stored ≡ before.stored
  pub acked : after.recoverable_acked ≡ before.recoverable_acked
  pub got_acked : after.acked ≡ before.acked

-- The identifiers that the marks of a lane number: those of the recoverable packets, or of all.
abbrev pub ids_in : Lane → List UserPacket → List MessageId
ids_in lane.Durable ps = storable_ids ps
ids_in lane.Express ps = map (λ p. p.message.id) ps

abbrev pub AreMarks : List UserPacket → Lane → ℕ → MessageId → Type 0
AreMarks ps kind n id = IsNumberOf (ids_in kind ps) n id

-- a session has sent so many
abbrev pub CountsOf : List UserPacket → one_end.State → Type 0
CountsOf ps session = (session.sent ≡ length ps) × (session.recoverable_sent ≡ length (storable_ids ps))

abbrev pub from_recoverable : Origin → Bool
from_recoverable OfRecoverable = true
from_recoverable _ = false

pub ids_cons : (b : Bool) (p : UserPacket) (ps : List UserPacket) → is_storable p.tx p.message ≡ b → storable_ids (p ∷ ps) ≡ cond b (p.message.id ∷ storable_ids ps) (storable_ids ps)
ids_cons b p ps e = ap (λ x. cons_option (cond x (Some p.message.id) None) (storable_ids ps)) e ∙ at b
  where
    at : (b : Bool) → cons_option (cond b (Some p.message.id) None) (storable_ids ps) ≡ cond b (p.message.id ∷ storable_ids ps) (storable_ids ps)
    at true = refl
    at false = refl

pub none_more : (before after : one_end.State) → after.sent ≡ before.sent → after.recoverable_sent ≡ before.recoverable_sent → after.got ≡ before.got → after.stored ≡ before.stored
    → after.recoverable_acked ≡ before.recoverable_acked → after.acked ≡ before.acked → Sends before after []
none_more before after a b c d e f = record {
  sent = a ∙ (let g : before.sent ≡ before.sent + 0 = omega arith in g);
  recoverable_sent = b ∙ (let g : before.recoverable_sent ≡ before.recoverable_sent + 0 = omega arith in g);
  numbered = tt;
  counted = tt;
  got = c;
  stored = d;
  acked = e;
  got_acked = f;
}

-- one packet more is counted
more_counted : (n : ℕ) (b : Bool) (p : UserPacket) (ps : List UserPacket) → is_storable p.tx p.message ≡ b → recoverable_number p ≡ cond b (n + 1) n → AreCounted (cond b (n + 1) n) ps → AreCounted n (p ∷ ps)
more_counted n b p ps e f h = (f ∙ same, subst (λ k. AreCounted k ps) same h)
  where
    at : (b : Bool) → cond b (n + 1) n ≡ n + length (cond b (p.message.id ∷ []) [])
    at true = refl
    at false = let g : n ≡ n + 0 = omega arith in g

    same : cond b (n + 1) n ≡ n + length (storable_ids (p ∷ []))
    same = at b ∙ ap (λ (ids : List MessageId). n + length ids) (sym (ids_cons b p [] e))

plain_more : (before after : one_end.State) (p : UserPacket) (ps : List UserPacket) → p.session ≡ Some (stamped kind.Plain before).0 → is_storable p.tx p.message ≡ false
    → Sends (stamped kind.Plain before).1 after ps → Sends before after (p ∷ ps)
plain_more before after p ps e f h = record {
  sent = h.sent ∙ (let g : before.sent + 1 + length ps ≡ before.sent + suc (length ps) = omega arith in g);
  recoverable_sent = h.recoverable_sent ∙ ap (λ (ids : List MessageId). before.recoverable_sent + length ids) (sym (ids_cons false p ps f));
  numbered = (ap (λ (o : Option SessionHead). (unwrap_or o no_head).user) e, h.numbered);
  counted = more_counted before.recoverable_sent false p ps f (ap (λ (o : Option SessionHead). (unwrap_or o no_head).recoverable) e) h.counted;
  got = h.got;
  stored = h.stored;
  acked = h.acked;
  got_acked = h.got_acked;
}

recoverable_more : (before after : one_end.State) (p : UserPacket) (ps : List UserPacket) → p.session ≡ Some (stamped kind.Recoverable before).0 → is_storable p.tx p.message ≡ true
    → Sends (stamped kind.Recoverable before).1 after ps → Sends before after (p ∷ ps)
recoverable_more before after p ps e f h = record {
  sent = h.sent ∙ (let g : before.sent + 1 + length ps ≡ before.sent + suc (length ps) = omega arith in g);
  recoverable_sent = h.recoverable_sent
      ∙ (let g : before.recoverable_sent + 1 + length (storable_ids ps) ≡ before.recoverable_sent + suc (length (storable_ids ps)) = omega arith in g)
      ∙ ap (λ (ids : List MessageId). before.recoverable_sent + length ids) (sym (ids_cons true p ps f));
  numbered = (ap (λ (o : Option SessionHead). (unwrap_or o no_head).user) e, h.numbered);
  counted = more_counted before.recoverable_sent true p ps f (ap (λ (o : Option SessionHead). (unwrap_or o no_head).recoverable) e) h.counted;
  got = h.got;
  stored = h.stored;
  acked = h.acked;
  got_acked = h.got_acked;
}

one_more : (o : Origin) (before after : one_end.State) (p : UserPacket) (ps : List UserPacket) → p.session ≡ Some (stamped (kind_of o) before).0 → is_storable p.tx p.message ≡ from_recoverable o
    → Sends (stamped (kind_of o) before).1 after ps → Sends before after (p ∷ ps)
one_more OfRecoverable before after p ps e f h = recoverable_more before after p ps e f h
one_more o before after p ps e f h = plain_more before after p ps e f h

-- What could go counts as stored exactly where it is one of the recoverable plain messages.
abbrev pub IsRight : Candidate → Type 0
IsRight c = is_storable c.tx c.message ≡ from_recoverable c.origin

abbrev user_for : Guid → ℕ → Candidate × SessionHead → UserPacket
user_for to now given = carried_user given.0.message (carriage_for to now given)

pub all_sent : (to : Guid) (now : ℕ) (session : one_end.State) (cs : List Candidate) → AllByRecursion IsRight cs
    → Sends session (session_behind session cs) (users_of (map (packet_for to now) (with_heads session cs)))
all_sent to now session [] h = none_more session session refl refl refl refl refl refl
all_sent to now session (c ∷ cs) h = one_more c.origin session (session_behind (session_after session c) cs) (user_for to now (c, head_for session c))
    (users_of (map (packet_for to now) (with_heads (session_after session c) cs))) refl h.0 (all_sent to now (session_after session c) cs h.1)

-- they are no acknowledgements
pub none_repeated : (to : Guid) (now n r : ℕ) (session : one_end.State) (cs : List Candidate) → AreRepeated n r (map (packet_for to now) (with_heads session cs))
none_repeated to now n r session [] = tt
none_repeated to now n r session (c ∷ cs) = none_repeated to now (n + 1) (r + length (storable_ids (user_for to now (c, head_for session c) ∷ []))) (session_after session c) cs

after_stored : (o : Origin) (session : one_end.State) → (stamped (kind_of o) session).0.stored ≡ session.stored
after_stored (Owed row) session = refl
after_stored o session = refl

still_stored : (o : Origin) (session : one_end.State) → (stamped (kind_of o) session).1.stored ≡ session.stored
still_stored (Owed row) session = refl
still_stored o session = refl

pub all_told : (to : Guid) (now n : ℕ) (session : one_end.State) (cs : List Candidate) → session.stored ≡ n
    → AllByRecursion (λ x. stored_told x ≤ n) (map (packet_for to now) (with_heads session cs))
all_told to now n session [] e = tt
all_told to now n session (c ∷ cs) e = (
  let f = after_stored c.origin session in let g : stored_told (packet_for to now (c, head_for session c)) ≤ n = omega (arith, e, f) in g,
  all_told to now n (session_after session c) cs (still_stored c.origin session ∙ e),
)

after_got : (o : Origin) (session : one_end.State) → (stamped (kind_of o) session).0.ack ≡ session.got
after_got (Owed row) session = refl
after_got o session = refl

still_got : (o : Origin) (session : one_end.State) → (stamped (kind_of o) session).1.got ≡ session.got
still_got (Owed row) session = refl
still_got o session = refl

pub all_got_told : (to : Guid) (now n : ℕ) (session : one_end.State) (cs : List Candidate) → session.got ≡ n
    → AllByRecursion (λ x. got_told x ≤ n) (map (packet_for to now) (with_heads session cs))
all_got_told to now n session [] e = tt
all_got_told to now n session (c ∷ cs) e = (
  let f = after_got c.origin session in let g : got_told (packet_for to now (c, head_for session c)) ≤ n = omega (arith, e, f) in g,
  all_got_told to now n (session_after session c) cs (still_got c.origin session ∙ e),
)

-- Marks.

abbrev pub unsent_in : Outgoing → Option Message
unsent_in o = cond (is_none o.mark) (Some o.message) None

abbrev pub unsent_at : Lane → List PlainLists → ℕ → List Message
unsent_at kind ps k = option_map_or (λ (p : PlainLists). filter_map unsent_in (outgoing_in kind p)) (slice_get ps k) []

-- the messages of a lane among what could go
abbrev pub is_from : Lane → Origin → Bool
is_from lane.Durable OfRecoverable = true
is_from lane.Express OfExpress = true
is_from _ _ = false

abbrev pub from_lane : Lane → Candidate → Option Message
from_lane kind c = cond (is_from kind c.origin) (Some c.message) None

pub filter_append : {X Y : Type 0} (f : X → Option Y) (xs ys : List X) → filter_map f (xs ++ ys) ≡ filter_map f xs ++ filter_map f ys
filter_append f [] ys = refl
filter_append f (x ∷ xs) ys = at (f x) (filter_append f xs ys)
  where
    at : (o : Option _) → filter_map f (xs ++ ys) ≡ filter_map f xs ++ filter_map f ys
        → cons_option o (filter_map f (xs ++ ys)) ≡ cons_option o (filter_map f xs) ++ filter_map f ys
    at None e = e
    at (Some y) e = ap (λ zs. y ∷ zs) e

pub numbered_before : {X : Type 0} (xs ys : List X) (n : ℕ) (x : X) → numbered xs n ≡ Some x → numbered (xs ++ ys) n ≡ Some x
numbered_before xs ys n x e = at (n == 0) e
  where
    before : (zs : List _) (k : ℕ) → slice_get zs k ≡ Some x → slice_get (zs ++ ys) k ≡ Some x
    before [] k f = absurd (none_some f)
    before (z ∷ zs) zero f = f
    before (z ∷ zs) (suc k) f = before zs k f

    at : (b : Bool) → cond b None (slice_get xs (n - 1)) ≡ Some x → cond b None (slice_get (xs ++ ys) (n - 1)) ≡ Some x
    at true f = absurd (none_some f)
    at false f = before xs (n - 1) f

pub numbered_last : {X : Type 0} (xs : List X) (x : X) (n : ℕ) → n ≡ length xs + 1 → numbered (xs ++ x ∷ []) n ≡ Some x
numbered_last xs x n e = ap (numbered (xs ++ x ∷ [])) (let f : n ≡ length xs + 1 + 0 = omega (arith, e) in f) ∙ numbered_behind xs (x ∷ []) 0

-- the first message that was not sent is
marked_first : (Q : Outgoing → Type 0) (n : ℕ) (m : Message) (os : List Outgoing) (more : List Message) → filter_map unsent_in os ≡ m ∷ more → ((o : Outgoing) → o.message ≡ m → Q o → Q (record o { mark = Some n }))
    → AllByRecursion Q os → AllByRecursion Q (marked_next n os) × (filter_map unsent_in (marked_next n os) ≡ more)
marked_first Q n m [] more e new h = absurd (let none : ⊥ = cc in none)
marked_first Q n m (o ∷ os) more e new h = at (λ f. marked_first Q n m os more f new h.1) (is_none o.mark) refl e
  where
    marked : Outgoing
    marked = record o { mark = Some n }

    head_is : (x : Message) (xs : List Message) → (x ∷ xs) ≡ (m ∷ more) → (x ≡ m) × (xs ≡ more)
    head_is x xs f = (cc, cc)

    at : (filter_map unsent_in os ≡ m ∷ more → AllByRecursion Q (marked_next n os) × (filter_map unsent_in (marked_next n os) ≡ more))
        → (b : Bool) → is_none o.mark ≡ b → cons_option (cond b (Some o.message) None) (filter_map unsent_in os) ≡ m ∷ more
        → AllByRecursion Q (cond b (marked ∷ os) (o ∷ marked_next n os)) × (filter_map unsent_in (cond b (marked ∷ os) (o ∷ marked_next n os)) ≡ more)
    at behind true f g = let both = head_is o.message (filter_map unsent_in os) g in ((new o both.0 h.0, h.1), both.1)
    at behind false f g = let rest = behind g in (
      (h.0, rest.0),
      ap (λ x. cons_option (cond x (Some o.message) None) (filter_map unsent_in (marked_next n os))) f ∙ rest.1,
    )

-- a fact of the list at an index, and of all others
changed_at : {X : Type 0} (P Q : X → Type 0) (change : X → X) (xs : List X) (k : ℕ) → ((x : X) → P x → Q x) → ((x : X) → slice_get xs k ≡ Some x → P x → Q (change x))
    → AllByRecursion P xs → AllByRecursion Q (with_changed change xs k)
changed_at {X = X} P Q change xs k weaker new h = at (slice_get xs k) refl
  where
    others : (ys : List X) → AllByRecursion P ys → AllByRecursion Q ys
    others [] g = tt
    others (y ∷ ys) g = (weaker y g.0, others ys g.1)

    set : (ys : List X) (n : ℕ) (x : X) → slice_get ys n ≡ Some x → (P x → Q (change x)) → AllByRecursion P ys → AllByRecursion Q (slice_set ys n (change x))
    set [] n x e f g = tt
    set (y ∷ ys) zero x e f g = (f (subst P (some_is y x e) g.0), others ys g.1)
    set (y ∷ ys) (suc n) x e f g = (weaker y g.0, set ys n x e f g.1)

    at : (o : Option X) → slice_get xs k ≡ o → AllByRecursion Q (option_map_or (λ x. slice_set xs k (change x)) o xs)
    at None e = others xs h
    at (Some x) e = set xs k x e (new x e) h

-- a number of packets is one of more packets
ids_more : (kind : Lane) (ps more : List UserPacket) → ids_in kind (ps ++ more) ≡ ids_in kind ps ++ ids_in kind more
ids_more lane.Durable ps more = filter_append storable_id ps more
ids_more lane.Express [] more = refl
ids_more lane.Express (p ∷ ps) more = ap (λ ids. p.message.id ∷ ids) (ids_more lane.Express ps more)

marks_more : (ps more : List UserPacket) (kind : Lane) (n : ℕ) (id : MessageId) → AreMarks ps kind n id → AreMarks (ps ++ more) kind n id
marks_more ps more kind n id h = subst (λ ids. IsNumberOf ids n id) (sym (ids_more kind ps more)) (numbered_before (ids_in kind ps) (ids_in kind more) n id h)

longer_waits : (own : Guid) (ps more : List UserPacket) (p : PlainLists) → PlainWaits own (AreMarks ps) p → PlainWaits own (AreMarks (ps ++ more)) p
longer_waits own ps more = lists_weaker own (AreMarks ps) (AreMarks (ps ++ more)) (marks_more ps more)

-- Notes of a state: the next one of a lane is of its first unsent message.
pub record IsNoting (own : Guid) (ps : List UserPacket) (k : ℕ) (left : Lane → List Message) (s : State) : Type 0 where
  pub waits : Waits own (AreMarks ps) s
  pub unsent : (kind : Lane) → unsent_at kind s.plain k ≡ left kind

noting_same : (own : Guid) (ps : List UserPacket) (k : ℕ) (a b : Lane → List Message) (s : State) → ((kind : Lane) → a kind ≡ b kind) → IsNoting own ps k a s → IsNoting own ps k b s
noting_same own ps k a b s same h = record { waits = h.waits; unsent = λ kind. h.unsent kind ∙ same kind }

-- one message more in a lane
abbrev left_with : Lane → Message → (Lane → List Message) → Lane → List Message
left_with lane.Durable m left lane.Durable = m ∷ left lane.Durable
left_with lane.Express m left lane.Express = m ∷ left lane.Express
left_with _ m left other = left other

-- the list of the peer once the first unsent message of a lane was sent under a number
marked_lane : (own : Guid) (qs : List UserPacket) (kind : Lane) (n : ℕ) (m : Message) (left : Lane → List Message) (p : PlainLists)
    → ((other : Lane) → filter_map unsent_in (outgoing_in other p) ≡ left_with kind m left other) → AreMarks qs kind n m.id → 0 < n → AllByRecursion (λ o. IfSome o.mark (λ k. k < n)) (outgoing_in kind p) → PlainWaits own (AreMarks qs) p
    → PlainWaits own (AreMarks qs) (with_marked kind n p) × ((other : Lane) → filter_map unsent_in (outgoing_in other (with_marked kind n p)) ≡ left other)
marked_lane own qs lane.Durable n m left p unsent new some below h =
    (record { recoverable = g.0; express = h.express; recoverable_rises = marked_rise 0 n p.recoverable some below h.recoverable_rises; express_rises = h.express_rises }, by)
  where
    g : AllByRecursion (IsBorne own (AreMarks qs lane.Durable)) (marked_next n p.recoverable) × (filter_map unsent_in (marked_next n p.recoverable) ≡ left lane.Durable)
    g = marked_first (IsBorne own (AreMarks qs lane.Durable)) n m p.recoverable (left lane.Durable) (unsent lane.Durable)
        (λ o e b. record { source = b.source; durable = b.durable; mark = subst (λ (x : Message). AreMarks qs lane.Durable n x.id) (sym e) new }) h.recoverable

    by : (other : Lane) → filter_map unsent_in (outgoing_in other (with_marked lane.Durable n p)) ≡ left other
    by lane.Durable = g.1
    by lane.Express = unsent lane.Express
marked_lane own qs lane.Express n m left p unsent new some below h =
    (record { recoverable = h.recoverable; express = g.0; recoverable_rises = h.recoverable_rises; express_rises = marked_rise 0 n p.express some below h.express_rises }, by)
  where
    g : AllByRecursion (IsExpress (AreMarks qs lane.Express)) (marked_next n p.express) × (filter_map unsent_in (marked_next n p.express) ≡ left lane.Express)
    g = marked_first (IsExpress (AreMarks qs lane.Express)) n m p.express (left lane.Express) (unsent lane.Express)
        (λ o e b. (b.0, subst (λ (x : Message). AreMarks qs lane.Express n x.id) (sym e) new)) h.express

    by : (other : Lane) → filter_map unsent_in (outgoing_in other (with_marked lane.Express n p)) ≡ left other
    by lane.Durable = unsent lane.Durable
    by lane.Express = g.1

-- the marks of a list are below the next number
marks_below : (own : Guid) (ps : List UserPacket) (kind : Lane) (n : ℕ) (p : PlainLists) → n ≡ length (ids_in kind ps) + 1 → PlainWaits own (AreMarks ps) p
    → AllByRecursion (λ o. IfSome o.mark (λ k. k < n)) (outgoing_in kind p)
marks_below own ps kind n p e h = by kind refl
  where
    one : (ids : List MessageId) (k : ℕ) (id : MessageId) → n ≡ length ids + 1 → IsNumberOf ids k id → k < n
    one ids k id f g = at (k == 0) g
      where
        at : (b : Bool) → cond b None (slice_get ids (k - 1)) ≡ Some id → k < n
        at true i = absurd (none_some i)
        at false i = let less = get_within ids (k - 1) id i in omega (arith, f, less)

    mark : (ids : List MessageId) (id : MessageId) (x : Option ℕ) → n ≡ length ids + 1 → IfSome x (λ k. IsNumberOf ids k id) → IfSome x (λ k. k < n)
    mark ids id None f g = tt
    mark ids id (Some k) f g = one ids k id f g

    by : (other : Lane) → kind ≡ other → AllByRecursion (λ o. IfSome o.mark (λ k. k < n)) (outgoing_in other p)
    by lane.Durable i = all_weaker (IsBorne own (AreMarks ps lane.Durable)) (λ o. IfSome o.mark (λ k. k < n))
        (λ o b. mark (ids_in lane.Durable ps) o.message.id o.mark (subst (λ x. n ≡ length (ids_in x ps) + 1) i e) b.mark) p.recoverable h.recoverable
    by lane.Express i = all_weaker (IsExpress (AreMarks ps lane.Express)) (λ o. IfSome o.mark (λ k. k < n))
        (λ o b. mark (ids_in lane.Express ps) o.message.id o.mark (subst (λ x. n ≡ length (ids_in x ps) + 1) i e) b.1) p.express h.express

some_left : (kind : Lane) (m : Message) (left : Lane → List Message) → left_with kind m left kind ≡ m ∷ left kind
some_left lane.Durable m left = refl
some_left lane.Express m left = refl

lane_noted : (own : Guid) (ps : List UserPacket) (q : UserPacket) (m : Message) (kind : Lane) (k n : ℕ) (left : Lane → List Message) (s : State) → n ≡ length (ids_in kind ps) + 1 → AreMarks (ps ++ q ∷ []) kind n m.id
    → IsNoting own ps k (left_with kind m left) s → IsNoting own (ps ++ q ∷ []) k left (with_plain (with_marked kind n) s k)
lane_noted own ps q m kind k n left s is new h = record {
  waits = record {
    identity = h.waits.identity;
    plain = changed_at (PlainWaits own (AreMarks ps)) (PlainWaits own (AreMarks (ps ++ q ∷ []))) (with_marked kind n) s.plain k (longer_waits own ps (q ∷ []))
        (λ p there g. (marked p (unsent_of p there) g).0) h.waits.plain;
  };
  unsent = λ other. ap (λ (o : Option PlainLists). option_map_or (λ (p : PlainLists). filter_map unsent_in (outgoing_in other p)) o []) (changed_there (with_marked kind n) s.plain k)
      ∙ at (slice_get s.plain k) refl (h.unsent kind) (get s.plain k h.waits.plain) other;
}
  where
    unsent_of : (p : PlainLists) → slice_get s.plain k ≡ Some p → (other : Lane) → filter_map unsent_in (outgoing_in other p) ≡ left_with kind m left other
    unsent_of p there other = ap (λ (o : Option PlainLists). option_map_or (λ (x : PlainLists). filter_map unsent_in (outgoing_in other x)) o []) (sym there) ∙ h.unsent other

    marked : (p : PlainLists) → ((other : Lane) → filter_map unsent_in (outgoing_in other p) ≡ left_with kind m left other) → PlainWaits own (AreMarks ps) p
        → PlainWaits own (AreMarks (ps ++ q ∷ [])) (with_marked kind n p) × ((other : Lane) → filter_map unsent_in (outgoing_in other (with_marked kind n p)) ≡ left other)
    marked p unsent g = marked_lane own (ps ++ q ∷ []) kind n m left p unsent new (omega (arith, is)) (marks_below own ps kind n p is g) (longer_waits own ps (q ∷ []) p g)

    get : (xs : List PlainLists) (j : ℕ) → AllByRecursion (PlainWaits own (AreMarks ps)) xs → IfSome (slice_get xs j) (PlainWaits own (AreMarks ps))
    get [] j g = tt
    get (p ∷ xs) zero g = g.0
    get (p ∷ xs) (suc j) g = get xs j g.1

    none_left : [] ≡ left_with kind m left kind → ⊥
    none_left e = let f = e ∙ some_left kind m left in let none : ⊥ = cc in none

    at : (o : Option PlainLists) → slice_get s.plain k ≡ o → option_map_or (λ (p : PlainLists). filter_map unsent_in (outgoing_in kind p)) o [] ≡ left_with kind m left kind
        → IfSome o (PlainWaits own (AreMarks ps)) → (other : Lane)
        → option_map_or (λ (p : PlainLists). filter_map unsent_in (outgoing_in other p)) (option_map (with_marked kind n) o) [] ≡ left other
    at None there f g other = absurd (none_left f)
    at (Some p) there f g other = (marked p (unsent_of p there) g).1 other

-- one packet more is noted
abbrev left_of : Origin → Message → (Lane → List Message) → Lane → List Message
left_of OfRecoverable m left = left_with lane.Durable m left
left_of OfExpress m left = left_with lane.Express m left
left_of _ m left = left

still_noting : (own : Guid) (ps : List UserPacket) (q : UserPacket) (k : ℕ) (left : Lane → List Message) (s : State) → IsNoting own ps k left s → IsNoting own (ps ++ q ∷ []) k left s
still_noting own ps q k left s h = record { waits = weaker_waits own (AreMarks ps) (AreMarks (ps ++ q ∷ [])) (marks_more ps (q ∷ [])) s h.waits; unsent = h.unsent }

one_noted : (own : Guid) (ps : List UserPacket) (q : UserPacket) (m : Message) (k : ℕ) (session : one_end.State) (o : Origin) (left : Lane → List Message) (s : State)
    → q.message.id ≡ m.id → CountsOf ps session → is_storable q.tx q.message ≡ from_recoverable o → IsNoting own ps k (left_of o m left) s
    → IsNoting own (ps ++ q ∷ []) k left (noted k s (o, (stamped (kind_of o) session).0))
one_noted own ps q m k session (Owed row) left s same e right h = let g = still_noting own ps q k left s h in
    record { waits = record { identity = g.waits.identity; plain = g.waits.plain }; unsent = g.unsent }
one_noted own ps q m k session OfRecoverable left s same e right h = lane_noted own ps q m lane.Durable k (session.recoverable_sent + 1) left s (ap (λ n. n + 1) e.1)
    (subst (λ id. AreMarks (ps ++ q ∷ []) lane.Durable (session.recoverable_sent + 1) id) same (subst (λ ids. IsNumberOf ids (session.recoverable_sent + 1) q.message.id) (sym (ids_more lane.Durable ps (q ∷ []) ∙ ap (λ ids. storable_ids ps ++ ids) (ids_cons true q [] right)))
    (numbered_last (storable_ids ps) q.message.id (session.recoverable_sent + 1) (ap (λ n. n + 1) e.1)))) h
one_noted own ps q m k session OfExpress left s same e right h = lane_noted own ps q m lane.Express k (session.sent + 1) left s (ap (λ n. n + 1) (e.0 ∙ mapped ps))
    (subst (λ id. AreMarks (ps ++ q ∷ []) lane.Express (session.sent + 1) id) same (subst (λ ids. IsNumberOf ids (session.sent + 1) q.message.id) (sym (ids_more lane.Express ps (q ∷ [])))
    (numbered_last (map (λ (p : UserPacket). p.message.id) ps) q.message.id (session.sent + 1) (ap (λ n. n + 1) (e.0 ∙ mapped ps))))) h
  where
    mapped : (xs : List UserPacket) → length xs ≡ length (map (λ (p : UserPacket). p.message.id) xs)
    mapped [] = refl
    mapped (x ∷ xs) = ap (λ n. suc n) (mapped xs)
one_noted own ps q m k session (OfRow row number) left s same e right h = still_noting own ps q k left s h

-- the counts of a session behind it
counts_on : (session : one_end.State) (o : Origin) (q : UserPacket) (ps : List UserPacket) → is_storable q.tx q.message ≡ from_recoverable o → CountsOf ps session → CountsOf (ps ++ q ∷ []) (stamped (kind_of o) session).1
counts_on session o q ps right e = (sent o, recoverable o right)
  where
    sent : (x : Origin) → (stamped (kind_of x) session).1.sent ≡ length (ps ++ q ∷ [])
    sent (Owed row) = let f = append_length ps (q ∷ []) in let g = e.0 in omega (arith, f, g)
    sent x = let f = append_length ps (q ∷ []) in let g = e.0 in omega (arith, f, g)

    all : (b : Bool) → is_storable q.tx q.message ≡ b → length (storable_ids (ps ++ q ∷ [])) ≡ length (storable_ids ps) + length (cond b (q.message.id ∷ []) [])
    all b f = ap (λ (ids : List MessageId). length ids) (filter_append storable_id ps (q ∷ [])) ∙ append_length (storable_ids ps) (storable_ids (q ∷ []))
        ∙ ap (λ (ids : List MessageId). length (storable_ids ps) + length ids) (ids_cons b q [] f)

    none : is_storable q.tx q.message ≡ false → session.recoverable_sent ≡ length (storable_ids (ps ++ q ∷ []))
    none f = let n = all false f in let g = e.1 in omega (arith, n, g)

    recoverable : (x : Origin) → is_storable q.tx q.message ≡ from_recoverable x → (stamped (kind_of x) session).1.recoverable_sent ≡ length (storable_ids (ps ++ q ∷ []))
    recoverable OfRecoverable f = let n = all true f in let g = e.1 in omega (arith, n, g)
    recoverable x f = none f

left_cons : (o : Origin) (m : Message) (ms left : Lane → List Message) (kind : Lane) → cons_option (cond (is_from kind o) (Some m) None) (ms kind) ++ left kind ≡ left_of o m (λ other. ms other ++ left other) kind
left_cons (Owed row) m ms left lane.Durable = refl
left_cons (Owed row) m ms left lane.Express = refl
left_cons OfRecoverable m ms left lane.Durable = refl
left_cons OfRecoverable m ms left lane.Express = refl
left_cons OfExpress m ms left lane.Durable = refl
left_cons OfExpress m ms left lane.Express = refl
left_cons (OfRow row number) m ms left lane.Durable = refl
left_cons (OfRow row number) m ms left lane.Express = refl

pub all_noted : (own to : Guid) (now k : ℕ) (ps : List UserPacket) (session : one_end.State) (cs : List Candidate) (left : Lane → List Message) (s : State) → AllByRecursion IsRight cs
    → CountsOf ps session → IsNoting own ps k (λ kind. filter_map (from_lane kind) cs ++ left kind) s
    → Waits own (AreMarks (ps ++ users_of (map (packet_for to now) (with_heads session cs)))) (fold (noted k) s (map origin_of (with_heads session cs)))
all_noted own to now k ps session [] left s right e h = subst (λ xs. Waits own (AreMarks xs) s) (sym (append_nothing ps)) h.waits
all_noted own to now k ps session (c ∷ cs) left s right e h =
    subst (λ xs. Waits own (AreMarks xs) (fold (noted k) (noted k s (c.origin, head_for session c)) (map origin_of (with_heads (session_after session c) cs))))
    (append_assoc ps (q ∷ []) (users_of (map (packet_for to now) (with_heads (session_after session c) cs))))
    (all_noted own to now k (ps ++ q ∷ []) (session_after session c) cs left (noted k s (c.origin, head_for session c)) right.1 (counts_on session c.origin q ps right.0 e)
    (one_noted own ps q c.message k session c.origin (λ kind. filter_map (from_lane kind) cs ++ left kind) s refl e right.0
    (noting_same own ps k (λ kind. filter_map (from_lane kind) (c ∷ cs) ++ left kind) (left_of c.origin c.message (λ kind. filter_map (from_lane kind) cs ++ left kind)) s
    (left_cons c.origin c.message (λ kind. filter_map (from_lane kind) cs) left) h)))
  where
    q : UserPacket
    q = user_for to now (c, head_for session c)
