-- What two managers know of the packets that one of them sent in their connection.
use Rattle.std.proofs.Common.{refl, ap, sym, subst, ◌∙◌, arith, inl, inr}
use Rattle.std.proofs.lemmas.Bool.Decides.{nat_tests}
use Rattle.std.proofs.lemmas.List.{append_assoc}
use Rattle.std.specs.List.{AllByRecursion, cons_option}
use Rattle.std.specs.Prelude.{[], ◌+◌, ◌-◌, ◌++◌, ◌==◌, ◌∷◌, ◌≡◌, ◌≤◌, Bool, IfSome, List, None, Option, Some, cond, false, length, max, nat_le, slice_get, suc, true, zero, ℕ}
use Rattle.mqb_base.specs.declared.ids.Guid.{Guid}
use Rattle.mqb_base.specs.declared.ids.MessageId.{MessageId}
use Rattle.mqb_base.specs.declared.message.Lane.{Lane}
use Rattle.mqb_base.specs.declared.message.Lane.TheVariants as lane
use Rattle.mqb_exactly_once.specs.Words.{In}
use Rattle.mqb_packet.specs.declared.packet.Packet.{Packet}
use Rattle.mqb_packet.specs.declared.packet.Packet.TheVariants as packet
use Rattle.mqb_packet.specs.declared.packet.UserPacket.{UserPacket}
use Rattle.mqb_base.specs.Same.{same_guid, same_id}
use Rattle.mqb_model.specs.records.Releases.{is_released_by}
use Rattle.mqb_plain.specs.Lists.{at_most}
use Rattle.mqb_plain.specs.Plain.{PlainLists}
use Rattle.mqb_queue.specs.Places.{numbered}
use Rattle.mqb_session.specs.State as one_end
use Rattle.mqb_model.specs.managers.Manager.{Manager}
use Rattle.mqb_model.specs.records.Record.{Record}
use Rattle.mqb_model.specs.rules.Numbers.{own_id}
use Rattle.mqb_model.specs.state.State.{State}
use Rattle.mqb_network.specs.Courses.{Written}
use Rattle.mqb_history.specs.Stored.{IsStoredIn, WaitsIn}
use Rattle.mqb_history.proofs.Between.{all_in}
use Rattle.mqb_history.proofs.Heard.{Counts, HasGot, IsReleasable, Stores, is_storable, no_more, one_more, got_told, stored_told}
use Rattle.mqb_history.proofs.Between.{in_any}
use Rattle.mqb_history.proofs.Lists.{all_append, append_length, append_nothing, join_and, none_some, same_number, some_is}
use Rattle.mqb_history.proofs.Names.{same_guid_refl}
use Rattle.mqb_history.proofs.Pumped.{AreCounted, AreInTurn, AreMarks, AreRepeated, IsNumberOf, Sends, filter_append, ids_cons, storable_ids, user_in, user_number, users_of}
use Rattle.mqb_history.proofs.Unreleased.{IsBorne, PlainWaits, Waits}

-- What is known of the packets from one manager to another, and of those in return.
pub record Flows (mi mj : Manager) (xs ys : List Packet) (ws : List Written) : Type 0 where
  pub source : one_end.State
  pub target : one_end.State
  pub sends : mi.rest.session ≡ Some source
  pub hears : mj.rest.session ≡ Some target
  pub sent : source.sent ≡ length (users_of xs)
  pub recoverable_sent : source.recoverable_sent ≡ length (storable_ids (users_of xs))
  pub numbered : AreInTurn 0 (users_of xs)
  pub counted : AreCounted 0 (users_of xs)
  pub repeats : AreRepeated 0 0 xs
  -- those that were got come first
  pub got : List UserPacket
  pub left : List UserPacket
  pub split : users_of xs ≡ got ++ left
  pub count : target.got ≡ length got
  pub stored : target.stored ≡ length (storable_ids got)
  pub kept : AllByRecursion (IsStoredIn ws) (storable_ids got)
  -- no more is acknowledged than was stored
  pub acked : source.recoverable_acked ≤ target.stored
  pub told : AllByRecursion (λ y. stored_told y ≤ target.stored) ys
  -- nor more than was got
  pub got_acked : source.acked ≤ target.got
  pub told_got : AllByRecursion (λ y. got_told y ≤ target.got) ys
  -- marks are numbers of packets
  pub own : Guid
  pub waits : Waits own (AreMarks (users_of xs)) mi.state

-- Written records.

in_more : {X : Type 0} (xs ys : List X) (x : X) → In x xs → In x (xs ++ ys)
in_more [] ys x i = absurd i
in_more (z ∷ zs) ys x (inl e) = inl e
in_more (z ∷ zs) ys x (inr i) = inr (in_more zs ys x i)

in_last : {X : Type 0} (xs : List X) (x : X) → In x (xs ++ x ∷ [])
in_last [] x = inl refl
in_last (z ∷ zs) x = inr (in_last zs x)

pub stored_more : (ws more : List Written) (id : MessageId) → IsStoredIn ws id → IsStoredIn (ws ++ more) id
stored_more ws more id h = record { storage = h.storage; there = in_more ws more h.storage h.there; told = h.told }

pub all_stored_more : (ws more : List Written) (ids : List MessageId) → AllByRecursion (IsStoredIn ws) ids → AllByRecursion (IsStoredIn (ws ++ more)) ids
all_stored_more ws more [] h = tt
all_stored_more ws more (id ∷ ids) h = (stored_more ws more id h.0, all_stored_more ws more ids h.1)

pub flows_more : (mi mj : Manager) (xs ys : List Packet) (ws more : List Written) → Flows mi mj xs ys ws → Flows mi mj xs ys (ws ++ more)
flows_more mi mj xs ys ws more h = record {
  source = h.source;
  target = h.target;
  sends = h.sends;
  hears = h.hears;
  sent = h.sent;
  recoverable_sent = h.recoverable_sent;
  numbered = h.numbered;
  counted = h.counted;
  repeats = h.repeats;
  got = h.got;
  left = h.left;
  split = h.split;
  count = h.count;
  stored = h.stored;
  kept = all_stored_more ws more (storable_ids h.got) h.kept;
  acked = h.acked;
  told = h.told;
  got_acked = h.got_acked;
  told_got = h.told_got;
  own = h.own;
  waits = h.waits;
}

-- The source.

-- what waits stays, whatever is known of marks
abbrev pub KeepsWaiting : Guid → State → State → Type 1
KeepsWaiting own s t = (Bears : Lane → ℕ → MessageId → Type 0) → Waits own Bears s → Waits own Bears t

pub source_works : (mi mj next : Manager) (xs ys : List Packet) (ws : List Written) (h : Flows mi mj xs ys ws) → next.rest.session ≡ mi.rest.session
    → KeepsWaiting h.own mi.state next.state → Flows next mj xs ys ws
source_works mi mj next xs ys ws h e keeps = record {
  source = h.source;
  target = h.target;
  sends = e ∙ h.sends;
  hears = h.hears;
  sent = h.sent;
  recoverable_sent = h.recoverable_sent;
  numbered = h.numbered;
  counted = h.counted;
  repeats = h.repeats;
  got = h.got;
  left = h.left;
  split = h.split;
  count = h.count;
  stored = h.stored;
  kept = h.kept;
  acked = h.acked;
  told = h.told;
  got_acked = h.got_acked;
  told_got = h.told_got;
  own = h.own;
  waits = keeps (AreMarks (users_of xs)) h.waits;
}

pub source_hears : (mi mj next : Manager) (xs ys : List Packet) (ws : List Written) (y : Packet) (before after : one_end.State) (h : Flows mi mj xs ys ws) → In y ys
    → mi.rest.session ≡ Some before → next.rest.session ≡ Some after → after.sent ≡ before.sent → after.recoverable_sent ≡ before.recoverable_sent
    → after.recoverable_acked ≤ max before.recoverable_acked (stored_told y) → after.acked ≤ max before.acked (got_told y) → KeepsWaiting h.own mi.state next.state → Flows next mj xs ys ws
source_hears mi mj next xs ys ws y before after h inside there goes sent recoverable acked got_acked keeps = record {
  source = after;
  target = h.target;
  sends = goes;
  hears = h.hears;
  sent = sent ∙ ap (λ (s : one_end.State). s.sent) same ∙ h.sent;
  recoverable_sent = recoverable ∙ ap (λ (s : one_end.State). s.recoverable_sent) same ∙ h.recoverable_sent;
  numbered = h.numbered;
  counted = h.counted;
  repeats = h.repeats;
  got = h.got;
  left = h.left;
  split = h.split;
  count = h.count;
  stored = h.stored;
  kept = h.kept;
  acked = let low = subst (λ (s : one_end.State). s.recoverable_acked ≤ h.target.stored) (sym same) h.acked in
      let high = all_in (λ z. stored_told z ≤ h.target.stored) ys y h.told inside in omega (arith, low, high, acked);
  told = h.told;
  got_acked = let low = subst (λ (s : one_end.State). s.acked ≤ h.target.got) (sym same) h.got_acked in
      let high = all_in (λ z. got_told z ≤ h.target.got) ys y h.told_got inside in omega (arith, low, high, got_acked);
  told_got = h.told_got;
  own = h.own;
  waits = keeps (AreMarks (users_of xs)) h.waits;
}
  where
    same : before ≡ h.source
    same = some_is before h.source (sym there ∙ h.sends)

users_append : (xs zs : List Packet) → users_of (xs ++ zs) ≡ users_of xs ++ users_of zs
users_append xs zs = filter_append user_in xs zs

pub ids_append : (ps qs : List UserPacket) → storable_ids (ps ++ qs) ≡ storable_ids ps ++ storable_ids qs
ids_append ps qs = filter_append (λ (p : UserPacket). cond (is_storable p.tx p.message) (Some p.message.id) None) ps qs

in_turn_append : (n : ℕ) (ps qs : List UserPacket) → AreInTurn n ps → AreInTurn (n + length ps) qs → AreInTurn n (ps ++ qs)
in_turn_append n [] qs h g = subst (λ k. AreInTurn k qs) (let e : n + 0 ≡ n = omega arith in e) g
in_turn_append n (p ∷ ps) qs h g = (h.0, in_turn_append (n + 1) ps qs h.1 (subst (λ k. AreInTurn k qs) (let e : n + suc (length ps) ≡ n + 1 + length ps = omega arith in e) g))

counted_append : (n : ℕ) (ps qs : List UserPacket) → AreCounted n ps → AreCounted (n + length (storable_ids ps)) qs → AreCounted n (ps ++ qs)
counted_append n [] qs h g = subst (λ k. AreCounted k qs) (let e : n + 0 ≡ n = omega arith in e) g
counted_append n (p ∷ ps) qs h g = (
  h.0,
  counted_append (n + length (storable_ids (p ∷ []))) ps qs h.1 (subst (λ k. AreCounted k qs)
      (let sum = ap (λ (ids : List MessageId). length ids) (ids_append (p ∷ []) ps) ∙ append_length (storable_ids (p ∷ [])) (storable_ids ps) in
      let e : n + length (storable_ids (p ∷ ps)) ≡ n + length (storable_ids (p ∷ [])) + length (storable_ids ps) = omega (arith, sum) in e) g),
)

repeated_append : (n r : ℕ) (xs zs : List Packet) → AreRepeated n r xs → AreRepeated (n + length (users_of xs)) (r + length (storable_ids (users_of xs))) zs → AreRepeated n r (xs ++ zs)
repeated_append n r [] zs h g = subst (λ a. AreRepeated a r zs) (let e : n + 0 ≡ n = omega arith in e) (subst (λ b. AreRepeated (n + 0) b zs) (let e : r + 0 ≡ r = omega arith in e) g)
repeated_append n r (packet.User p ∷ xs) zs h g = repeated_append (n + 1) (r + length (storable_ids (p ∷ []))) xs zs h
    (subst (λ a. AreRepeated a (r + length (storable_ids (p ∷ [])) + length (storable_ids (users_of xs))) zs) (let e : n + suc (length (users_of xs)) ≡ n + 1 + length (users_of xs) = omega arith in e)
    (subst (λ b. AreRepeated (n + suc (length (users_of xs))) b zs)
    (let sum = ap (λ (ids : List MessageId). length ids) (ids_append (p ∷ []) (users_of xs)) ∙ append_length (storable_ids (p ∷ [])) (storable_ids (users_of xs)) in
    let e : r + length (storable_ids (p ∷ users_of xs)) ≡ r + length (storable_ids (p ∷ [])) + length (storable_ids (users_of xs)) = omega (arith, sum) in e) g))
repeated_append n r (packet.Ack y ∷ xs) zs h g = (h.0, h.1, repeated_append n r xs zs h.2 g)
repeated_append n r (packet.Establish e ∷ xs) zs h g = repeated_append n r xs zs h g
repeated_append n r (packet.Parameters q ∷ xs) zs h g = repeated_append n r xs zs h g

pub source_pumps : (mi mj next : Manager) (xs ys zs : List Packet) (ws : List Written) (before after : one_end.State) (h : Flows mi mj xs ys ws)
    → mi.rest.session ≡ Some before → next.rest.session ≡ Some after → Sends before after (users_of zs) → AreRepeated before.sent before.recoverable_sent zs
    → Waits h.own (AreMarks (users_of xs ++ users_of zs)) next.state → Flows next mj (xs ++ zs) ys ws
source_pumps mi mj next xs ys zs ws before after h there goes sends repeats waits = record {
  source = after;
  target = h.target;
  sends = goes;
  hears = h.hears;
  sent = sends.sent ∙ ap (λ n. n + length (users_of zs)) was_sent ∙ sym (ap (λ (ps : List UserPacket). length ps) (users_append xs zs) ∙ append_length (users_of xs) (users_of zs));
  recoverable_sent = sends.recoverable_sent ∙ ap (λ n. n + length (storable_ids (users_of zs))) was_stored
      ∙ sym (ap (λ (ids : List MessageId). length ids) all_ids ∙ append_length (storable_ids (users_of xs)) (storable_ids (users_of zs)));
  numbered = subst (AreInTurn 0) (sym (users_append xs zs)) (in_turn_append 0 (users_of xs) (users_of zs) h.numbered
      (subst (λ k. AreInTurn k (users_of zs)) (was_sent ∙ (let e : length (users_of xs) ≡ 0 + length (users_of xs) = omega arith in e)) sends.numbered));
  counted = subst (AreCounted 0) (sym (users_append xs zs)) (counted_append 0 (users_of xs) (users_of zs) h.counted
      (subst (λ k. AreCounted k (users_of zs)) (was_stored ∙ (let e : length (storable_ids (users_of xs)) ≡ 0 + length (storable_ids (users_of xs)) = omega arith in e)) sends.counted));
  repeats = repeated_append 0 0 xs zs h.repeats (subst (λ n. AreRepeated n (0 + length (storable_ids (users_of xs))) zs) (was_sent ∙ (let e : length (users_of xs) ≡ 0 + length (users_of xs) = omega arith in e))
      (subst (λ r. AreRepeated before.sent r zs) (was_stored ∙ (let e : length (storable_ids (users_of xs)) ≡ 0 + length (storable_ids (users_of xs)) = omega arith in e)) repeats));
  got = h.got;
  left = h.left ++ users_of zs;
  split = users_append xs zs ∙ ap (λ ps. ps ++ users_of zs) h.split ∙ append_assoc h.got h.left (users_of zs);
  count = h.count;
  stored = h.stored;
  kept = h.kept;
  acked = let e = sends.acked ∙ ap (λ (s : one_end.State). s.recoverable_acked) same in let low = h.acked in omega (arith, e, low);
  told = h.told;
  got_acked = let e = sends.got_acked ∙ ap (λ (s : one_end.State). s.acked) same in let low = h.got_acked in omega (arith, e, low);
  told_got = h.told_got;
  own = h.own;
  waits = subst (λ ps. Waits h.own (AreMarks ps) next.state) (sym (users_append xs zs)) waits;
}
  where
    same : before ≡ h.source
    same = some_is before h.source (sym there ∙ h.sends)

    was_sent : before.sent ≡ length (users_of xs)
    was_sent = ap (λ (s : one_end.State). s.sent) same ∙ h.sent

    was_stored : before.recoverable_sent ≡ length (storable_ids (users_of xs))
    was_stored = ap (λ (s : one_end.State). s.recoverable_sent) same ∙ h.recoverable_sent

    all_ids : storable_ids (users_of (xs ++ zs)) ≡ storable_ids (users_of xs) ++ storable_ids (users_of zs)
    all_ids = ap storable_ids (users_append xs zs) ∙ ids_append (users_of xs) (users_of zs)

-- The target.

pub target_works : (mi mj next : Manager) (xs ys : List Packet) (ws : List Written) → Flows mi mj xs ys ws → next.rest.session ≡ mj.rest.session → Flows mi next xs ys ws
target_works mi mj next xs ys ws h e = record {
  source = h.source;
  target = h.target;
  sends = h.sends;
  hears = e ∙ h.hears;
  sent = h.sent;
  recoverable_sent = h.recoverable_sent;
  numbered = h.numbered;
  counted = h.counted;
  repeats = h.repeats;
  got = h.got;
  left = h.left;
  split = h.split;
  count = h.count;
  stored = h.stored;
  kept = h.kept;
  acked = h.acked;
  told = h.told;
  got_acked = h.got_acked;
  told_got = h.told_got;
  own = h.own;
  waits = h.waits;
}

told_weaker : (a b : ℕ) → a ≤ b → (ys : List Packet) → AllByRecursion (λ y. stored_told y ≤ a) ys → AllByRecursion (λ y. stored_told y ≤ b) ys
told_weaker a b le [] h = tt
told_weaker a b le (y ∷ ys) h = (let low = h.0 in omega (arith, low, le), told_weaker a b le ys h.1)

got_weaker : (a b : ℕ) → a ≤ b → (ys : List Packet) → AllByRecursion (λ y. got_told y ≤ a) ys → AllByRecursion (λ y. got_told y ≤ b) ys
got_weaker a b le [] h = tt
got_weaker a b le (y ∷ ys) h = (let low = h.0 in omega (arith, low, le), got_weaker a b le ys h.1)

pub target_pumps : (mi mj next : Manager) (xs ys zs : List Packet) (ws : List Written) (before after : one_end.State) → Flows mi mj xs ys ws
    → mj.rest.session ≡ Some before → next.rest.session ≡ Some after → after.got ≡ before.got → after.stored ≡ before.stored
    → AllByRecursion (λ z. stored_told z ≤ before.stored) zs → AllByRecursion (λ z. got_told z ≤ before.got) zs → Flows mi next xs (ys ++ zs) ws
target_pumps mi mj next xs ys zs ws before after h there goes got stored told told_got = record {
  source = h.source;
  target = after;
  sends = h.sends;
  hears = goes;
  sent = h.sent;
  recoverable_sent = h.recoverable_sent;
  numbered = h.numbered;
  counted = h.counted;
  repeats = h.repeats;
  got = h.got;
  left = h.left;
  split = h.split;
  count = got ∙ ap (λ (s : one_end.State). s.got) same ∙ h.count;
  stored = as_before ∙ h.stored;
  kept = h.kept;
  acked = let low = h.acked in omega (arith, low, as_before);
  told = all_append (λ y. stored_told y ≤ after.stored) ys zs (told_weaker h.target.stored after.stored (omega (arith, as_before)) ys h.told)
      (told_weaker before.stored after.stored (omega (arith, stored)) zs told);
  got_acked = let low = h.got_acked in omega (arith, low, had_got);
  told_got = all_append (λ y. got_told y ≤ after.got) ys zs (got_weaker h.target.got after.got (omega (arith, had_got)) ys h.told_got)
      (got_weaker before.got after.got (omega (arith, got)) zs told_got);
  own = h.own;
  waits = h.waits;
}
  where
    same : before ≡ h.target
    same = some_is before h.target (sym there ∙ h.hears)

    as_before : after.stored ≡ h.target.stored
    as_before = stored ∙ ap (λ (s : one_end.State). s.stored) same

    had_got : after.got ≡ h.target.got
    had_got = got ∙ ap (λ (s : one_end.State). s.got) same

-- the packet of the next number is the first that was not got
turn_above : (n : ℕ) (ps : List UserPacket) (p : UserPacket) → AreInTurn n ps → In p ps → n + 1 ≤ user_number p
turn_above n [] p h i = absurd i
turn_above n (q ∷ qs) p h (inl e) = let f = subst (λ (x : UserPacket). user_number x ≡ n + 1) e h.0 in omega (arith, f)
turn_above n (q ∷ qs) p h (inr i) = let low = turn_above (n + 1) qs p h.1 i in omega (arith, low)

pub next_left : (n : ℕ) (got left : List UserPacket) (p : UserPacket) → AreInTurn n (got ++ left) → In p (got ++ left) → user_number p ≡ n + length got + 1
    → (behind : List UserPacket) × (left ≡ p ∷ behind)
next_left n [] [] p h i e = absurd i
next_left n [] (q ∷ qs) p h (inl f) e = (qs, ap (λ x. x ∷ qs) f)
next_left n [] (q ∷ qs) p h (inr i) e = let low = turn_above (n + 1) qs p h.1 i in absurd (omega (arith, low, e))
next_left n (g ∷ gs) left p h (inl f) e = let k = subst (λ (x : UserPacket). user_number x ≡ n + 1) f h.0 in absurd (omega (arith, k, e))
next_left n (g ∷ gs) left p h (inr i) e = next_left (n + 1) gs left p h.1 i (omega (arith, e))

pub in_users : (xs : List Packet) (p : UserPacket) → In (packet.User p) xs → In p (users_of xs)
in_users [] p i = absurd i
in_users (x ∷ xs) p (inl e) = subst (λ y. In p (cons_option (user_in y) (users_of xs))) (sym e) (inl refl)
in_users (x ∷ xs) p (inr i) = at (user_in x) (in_users xs p i)
  where
    at : (o : Option UserPacket) → In p (users_of xs) → In p (cons_option o (users_of xs))
    at None j = j
    at (Some q) j = inr j

pub target_hears : (mi mj next : Manager) (xs ys : List Packet) (ws : List Written) (x : Packet) (o : Option Record) (before after : one_end.State) → Flows mi mj xs ys ws → In x xs
    → mj.rest.session ≡ Some before → next.rest.session ≡ Some after → Counts before x o after → ((p : UserPacket) → Stores p o → IsStoredIn ws p.message.id)
    → Flows mi next xs ys ws
target_hears mi mj next xs ys ws x o before after h inside there goes counts stores = at counts
  where
    same : before ≡ h.target
    same = some_is before h.target (sym there ∙ h.hears)

    -- no fewer were got than before
    had_got : h.target.got ≤ after.got
    had_got = by counts
      where
        by : Counts before x o after → h.target.got ≤ after.got
        by (no_more e f) = let m = ap (λ (s : one_end.State). s.got) same in omega (arith, e, m)
        by (one_more p e n got g) = let m = ap (λ (s : one_end.State). s.got) same in omega (arith, got, m)

    -- so many were got, and stored
    with_got : (got left : List UserPacket) → users_of xs ≡ got ++ left → after.got ≡ length got → after.stored ≡ length (storable_ids got) → h.target.stored ≤ after.stored
        → AllByRecursion (IsStoredIn ws) (storable_ids got) → Flows mi next xs ys ws
    with_got got left split count stored more kept = record {
      source = h.source;
      target = after;
      sends = h.sends;
      hears = goes;
      sent = h.sent;
      recoverable_sent = h.recoverable_sent;
      numbered = h.numbered;
      counted = h.counted;
      repeats = h.repeats;
      got = got;
      left = left;
      split = split;
      count = count;
      stored = stored;
      kept = kept;
      acked = let low = h.acked in omega (arith, low, more);
      told = told_weaker h.target.stored after.stored more ys h.told;
      got_acked = let low = h.got_acked in omega (arith, low, had_got);
      told_got = got_weaker h.target.got after.got had_got ys h.told_got;
      own = h.own;
      waits = h.waits;
    }

    one : (p : UserPacket) (behind : List UserPacket) → h.left ≡ p ∷ behind → after.got ≡ before.got + 1 → (b : Bool) → is_storable p.tx p.message ≡ b
        → HasGot b p before.stored after.stored o → Flows mi next xs ys ws
    one p behind e got true f g = with_got (h.got ++ p ∷ []) behind (h.split ∙ ap (λ ps. h.got ++ ps) e ∙ sym (append_assoc h.got (p ∷ []) behind))
        (let k = append_length h.got (p ∷ []) in let m = ap (λ (s : one_end.State). s.got) same ∙ h.count in omega (arith, got, k, m))
        (g.0 ∙ ap (λ (s : one_end.State). s.stored + 1) same ∙ ap (λ n. n + 1) h.stored
        ∙ sym (ap (λ (ids : List MessageId). length ids) ids ∙ append_length (storable_ids h.got) (p.message.id ∷ [])))
        (let k = g.0 in let m = ap (λ (s : one_end.State). s.stored) same in omega (arith, k, m))
        (subst (AllByRecursion (IsStoredIn ws)) (sym ids) (all_append (IsStoredIn ws) (storable_ids h.got) (p.message.id ∷ []) h.kept (stores p g.1, tt)))
      where
        ids : storable_ids (h.got ++ p ∷ []) ≡ storable_ids h.got ++ p.message.id ∷ []
        ids = ids_append h.got (p ∷ []) ∙ ap (λ zs. storable_ids h.got ++ zs) (ids_cons true p [] f)
    one p behind e got false f g = with_got (h.got ++ p ∷ []) behind (h.split ∙ ap (λ ps. h.got ++ ps) e ∙ sym (append_assoc h.got (p ∷ []) behind))
        (let k = append_length h.got (p ∷ []) in let m = ap (λ (s : one_end.State). s.got) same ∙ h.count in omega (arith, got, k, m))
        (g ∙ ap (λ (s : one_end.State). s.stored) same ∙ h.stored ∙ ap (λ (xs : List MessageId). length xs) (sym ids))
        (let m = ap (λ (s : one_end.State). s.stored) same in omega (arith, g, m))
        (subst (AllByRecursion (IsStoredIn ws)) (sym ids) h.kept)
      where
        ids : storable_ids (h.got ++ p ∷ []) ≡ storable_ids h.got
        ids = ids_append h.got (p ∷ []) ∙ ap (λ zs. storable_ids h.got ++ zs) (ids_cons false p [] f) ∙ append_nothing (storable_ids h.got)

    at : Counts before x o after → Flows mi next xs ys ws
    at (no_more e f) = with_got h.got h.left h.split (e ∙ ap (λ (s : one_end.State). s.got) same ∙ h.count) (f ∙ ap (λ (s : one_end.State). s.stored) same ∙ h.stored)
        (let m = ap (λ (s : one_end.State). s.stored) same in omega (arith, f, m)) h.kept
    at (one_more p e n got g) = let place = next_left 0 h.got h.left p (subst (AreInTurn 0) h.split h.numbered)
        (subst (In p) h.split (in_users xs p (subst (λ z. In z xs) e inside)))
        (let m = ap (λ (s : one_end.State). s.got) same ∙ h.count in omega (arith, n, m)) in
        one p place.0 place.1 got (is_storable p.tx p.message) refl g

-- Releases.

numbered_front : {X : Type 0} (xs ys : List X) (n : ℕ) (x : X) → n ≤ length xs → numbered (xs ++ ys) n ≡ Some x → In x xs
numbered_front {X = X} xs ys n x le e = at (n == 0) refl e
  where
    front : (zs : List X) (k : ℕ) → k + 1 ≤ length zs → slice_get (zs ++ ys) k ≡ Some x → In x zs
    front [] k lt f = absurd (omega (arith, lt))
    front (z ∷ zs) zero lt f = inl (some_is z x f)
    front (z ∷ zs) (suc k) lt f = inr (front zs k (omega (arith, lt)) f)

    above : (n == 0) ≡ false → n - 1 + 1 ≤ length xs
    above f = grind (arith, nat_tests)

    at : (b : Bool) → (n == 0) ≡ b → cond b None (slice_get (xs ++ ys) (n - 1)) ≡ Some x → In x xs
    at true f g = absurd (none_some g)
    at false f g = front xs (n - 1) (above f) g

-- what was sent up to what is acknowledged was stored
pub released_stored : (mi mj : Manager) (xs ys : List Packet) (ws : List Written) (acked n : ℕ) (h : Flows mi mj xs ys ws) → acked ≤ h.target.stored → IsReleasable mi.state acked n
    → IsStoredIn ws (own_id mi.state n) × WaitsIn mi.state n
released_stored mi mj xs ys ws acked n h le r = (
  subst (IsStoredIn ws) named (at r.item.mark refl r.sent borne.mark),
  record { index = r.peer; lists = r.lists; there = r.waiting; has = in_any (is_released_by mi.state n) r.lists.recoverable r.item r.there test },
)
  where
    listed : PlainWaits h.own (AreMarks (users_of xs)) r.lists
    listed = get mi.state.plain r.peer r.waiting h.waits.plain
      where
        get : (ps : List PlainLists) (k : ℕ) → slice_get ps k ≡ Some r.lists → AllByRecursion (PlainWaits h.own (AreMarks (users_of xs))) ps
            → PlainWaits h.own (AreMarks (users_of xs)) r.lists
        get [] k e g = absurd (none_some e)
        get (p ∷ ps) zero e g = subst (PlainWaits h.own (AreMarks (users_of xs))) (some_is p r.lists e) g.0
        get (p ∷ ps) (suc k) e g = get ps k e g.1

    borne : IsBorne h.own (AreMarks (users_of xs) lane.Durable) r.item
    borne = all_in (IsBorne h.own (AreMarks (users_of xs) lane.Durable)) r.lists.recoverable r.item listed.recoverable r.there

    named : r.item.message.id ≡ own_id mi.state n
    named = ap (λ g. record { qm = g; number = r.item.message.id.number }) (borne.source ∙ sym h.waits.identity)
        ∙ ap (λ k. record { qm = mi.state.identity.guid; number = k }) (sym r.number)

    test : is_released_by mi.state n r.item ≡ true
    test = subst (λ i. same_id i (own_id mi.state n) ≡ true) (sym named)
        (join_and (same_guid mi.state.identity.guid mi.state.identity.guid) (n == n) (same_guid_refl mi.state.identity.guid) (same_number n))

    below : (k : ℕ) → nat_le k acked ≡ true → k ≤ length (storable_ids h.got)
    below k e = let f : k ≤ acked = grind (arith, nat_tests) in let g = h.stored in omega (arith, f, g, le)

    at : (o : Option ℕ) → r.item.mark ≡ o → at_most acked o ≡ true → IfSome o (λ k. IsNumberOf (storable_ids (users_of xs)) k r.item.message.id) → IsStoredIn ws r.item.message.id
    at None e f g = absurd (let none : ⊥ = cc in none)
    at (Some k) e f g = all_in (IsStoredIn ws) (storable_ids h.got) r.item.message.id h.kept
        (numbered_front (storable_ids h.got) (storable_ids h.left) k r.item.message.id (below k f)
        (ap (λ ids. numbered ids k) (sym (ap storable_ids h.split ∙ ids_append h.got h.left)) ∙ g))
