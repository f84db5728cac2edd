-- Each end of a connection counts what it sends and gets, and what is stored.
use Rattle.std.proofs.Common.{refl, ap, sym, subst, ◌∙◌, arith}
use Rattle.std.specs.Prelude.{[], ◌&&◌, ◌+◌, ◌++◌, ◌==◌, ◌∷◌, ◌≡◌, ◌≤◌, Bool, IfSome, List, Some, cond, false, length, map, slice_get, suc, take, true, zero, ℕ}
use Rattle.mqb_base.specs.declared.heads.SessionHead.{SessionHead}
use Rattle.mqb_base.specs.declared.ids.MessageId.{MessageId}
use Rattle.mqb_base.specs.declared.message.Lane.TheVariants as lane
use Rattle.mqb_plain.specs.Plain.{PlainLists}
use Rattle.mqb_exactly_once.specs.Words.{In}
use Rattle.mqb_model.specs.managers.Manager.{Manager}
use Rattle.mqb_network.specs.Courses.{Course, Written}
use Rattle.mqb_network.specs.Network.{Note, manager_at}
use Rattle.mqb_packet.specs.declared.packet.Packet.{Packet}
use Rattle.mqb_packet.specs.declared.packet.Packet.TheVariants as packet
use Rattle.mqb_packet.specs.declared.packet.UserPacket.{UserPacket}
use Rattle.mqb_queue.specs.Places.{numbered}
use Rattle.mqb_history.specs.Sessions.{AreSessionsCounted, CountsRightly, packets_from, recoverable_number, recoverables, says_got, says_stored, session_number, user_packets}
use Rattle.mqb_history.specs.Stored.{IsStoredIn}
use Rattle.mqb_history.proofs.Between.{all_in, from_sender}
use Rattle.mqb_history.proofs.Flowing.{Flows, ids_append, in_users, next_left}
use Rattle.mqb_history.proofs.Heard.{got_told, stored_told}
use Rattle.mqb_history.proofs.Lists.{append_length, none_some, some_is}
use Rattle.mqb_history.proofs.Pumped.{AreCounted, AreInTurn, AreMarks, AreRepeated, storable_ids, users_of}
use Rattle.mqb_history.proofs.Storing.{FlowsIn, KeepsStorage}
use Rattle.mqb_history.proofs.Unreleased.{IsBorne, IsExpress, PlainWaits}
use Rattle.mqb_history.proofs.Ascending.{in_order}

-- The words of sessions.

packets_same : (d i : ℕ) (notes : List Note) (xs : List Packet) → packets_from d i notes xs ≡ from_sender d i notes xs
packets_same d i [] [] = refl
packets_same d i [] (x ∷ xs) = refl
packets_same d i (note ∷ notes) [] = refl
packets_same d i (note ∷ notes) (x ∷ xs) = at ((note.connection == d) && (note.sender == i)) (packets_same d i notes xs)
  where
    at : (b : Bool) → packets_from d i notes xs ≡ from_sender d i notes xs → cond b (x ∷ packets_from d i notes xs) (packets_from d i notes xs) ≡ cond b (x ∷ from_sender d i notes xs) (from_sender d i notes xs)
    at true e = ap (λ ys. x ∷ ys) e
    at false e = e

users_same : (xs : List Packet) → user_packets xs ≡ users_of xs
users_same [] = refl
users_same (packet.User p ∷ xs) = ap (λ ps. p ∷ ps) (users_same xs)
users_same (packet.Establish e ∷ xs) = users_same xs
users_same (packet.Parameters q ∷ xs) = users_same xs
users_same (packet.Ack h ∷ xs) = users_same xs

said_same : (x : Packet) → says_stored x ≡ stored_told x
said_same (packet.User p) = refl
said_same x = refl

got_same : (x : Packet) → says_got x ≡ got_told x
got_same (packet.User p) = refl
got_same x = refl

-- Lists.

in_count : (n : ℕ) (ps : List UserPacket) (k : ℕ) (p : UserPacket) → AreCounted n ps → slice_get ps k ≡ Some p → recoverable_number p ≡ n + length (recoverables (take (k + 1) ps))
in_count n [] k p h e = absurd (none_some e)
in_count n (q ∷ ps) zero p h e = subst (λ (x : UserPacket). recoverable_number x ≡ n + length (storable_ids (q ∷ []))) (some_is q p e) h.0
in_count n (q ∷ ps) (suc k) p h e = let rest = in_count (n + length (storable_ids (q ∷ []))) ps k p h.1 e in
    let sum = ap (λ (ids : List MessageId). length ids) (ids_append (q ∷ []) (take (k + 1) ps)) ∙ append_length (storable_ids (q ∷ [])) (storable_ids (take (k + 1) ps)) in
    let f : recoverable_number p ≡ n + length (storable_ids (q ∷ take (k + 1) ps)) = omega (arith, rest, sum) in
    let g : suc (k + 1) ≡ suc k + 1 = omega arith in subst (λ j. recoverable_number p ≡ n + length (recoverables (take j (q ∷ ps)))) g f

in_turn : (n : ℕ) (ps : List UserPacket) (k : ℕ) (p : UserPacket) → AreInTurn n ps → slice_get ps k ≡ Some p → session_number p ≡ n + k + 1
in_turn n [] k p h e = absurd (none_some e)
in_turn n (q ∷ ps) zero p h e = let first = h.0 in subst (λ (x : UserPacket). session_number x ≡ n + zero + 1) (some_is q p e) (omega (arith, first))
in_turn n (q ∷ ps) (suc k) p h e = let rest = in_turn (n + 1) ps k p h.1 e in omega (arith, rest)

-- what an acknowledgement repeats
repeated_at : (n r : ℕ) (before behind : List Packet) (head : SessionHead) → AreRepeated n r (before ++ packet.Ack head ∷ behind)
    → (head.user ≡ n + length (users_of before)) × (head.recoverable ≡ r + length (storable_ids (users_of before)))
repeated_at n r [] behind head h = (let e = h.0 in omega (arith, e), let e = h.1 in omega (arith, e))
repeated_at n r (packet.User p ∷ before) behind head h = let g = repeated_at (n + 1) (r + length (storable_ids (p ∷ []))) before behind head h in
    let sum = ap (λ (ids : List MessageId). length ids) (ids_append (p ∷ []) (users_of before)) ∙ append_length (storable_ids (p ∷ [])) (storable_ids (users_of before)) in
    (let e = g.0 in omega (arith, e), let e = g.1 in omega (arith, e, sum))
repeated_at n r (packet.Ack y ∷ before) behind head h = repeated_at n r before behind head h.2
repeated_at n r (packet.Establish e ∷ before) behind head h = repeated_at n r before behind head h
repeated_at n r (packet.Parameters q ∷ before) behind head h = repeated_at n r before behind head h

-- the member behind a front
get_behind : {X : Type 0} (xs ys : List X) (y : X) → slice_get (xs ++ y ∷ ys) (length xs) ≡ Some y
get_behind [] ys y = refl
get_behind (x ∷ xs) ys y = get_behind xs ys y

taken_first : (got left : List UserPacket) → take (length got) (got ++ left) ≡ got
taken_first [] left = refl
taken_first (p ∷ got) left = ap (λ ps. p ∷ ps) (taken_first got left)

-- The ends of a connection.

counts_rightly : (mi mj : Manager) (xs ys : List Packet) (ws : List Written) (h : Flows mi mj xs ys ws) → CountsRightly h.source h.target mi.state.plain xs ys ws
counts_rightly mi mj xs ys ws h = record {
  sent = h.sent ∙ ap (λ (ps : List UserPacket). length ps) (sym (users_same xs));
  recoverable = h.recoverable_sent ∙ ap (λ (ps : List UserPacket). length (recoverables ps)) (sym (users_same xs));
  numbers = λ k p e. let n = in_turn 0 (users_of xs) k p h.numbered (ap (λ (ps : List UserPacket). slice_get ps k) (sym (users_same xs)) ∙ e) in omega (arith, n);
  recoverable_numbers = λ k p e. subst (λ (ps : List UserPacket). recoverable_number p ≡ length (recoverables (take (k + 1) ps))) (sym (users_same xs))
      (in_count 0 (users_of xs) k p h.counted (ap (λ (ps : List UserPacket). slice_get ps k) (sym (users_same xs)) ∙ e)
      ∙ (let f : 0 + length (recoverables (take (k + 1) (users_of xs))) ≡ length (recoverables (take (k + 1) (users_of xs))) = omega arith in f));
  marks = λ lists o n there waits marked. subst (λ (ps : List UserPacket). numbered (recoverables ps) n ≡ Some o.message.id) (sym (users_same xs))
      (subst (λ m. IfSome m (λ k. AreMarks (users_of xs) lane.Durable k o.message.id)) marked
      (all_in (IsBorne h.own (AreMarks (users_of xs) lane.Durable)) lists.recoverable o (lists_wait lists there).recoverable waits).mark);
  express_marks = λ lists o n there waits marked. subst (λ (ps : List UserPacket). numbered (map (λ (p : UserPacket). p.message.id) ps) n ≡ Some o.message.id) (sym (users_same xs))
      (subst (λ m. IfSome m (λ k. AreMarks (users_of xs) lane.Express k o.message.id)) marked
      (all_in (IsExpress (AreMarks (users_of xs) lane.Express)) lists.express o (lists_wait lists there).express waits).1);
  rises = λ lists there. let h = lists_wait lists there in (in_order 0 lists.recoverable h.recoverable_rises, in_order 0 lists.express h.express_rises);
  repeats = λ before behind head e. subst (λ (ps : List UserPacket). (head.user ≡ length ps) × (head.recoverable ≡ length (recoverables ps))) (sym (users_same before))
      (let g = repeated_at 0 0 before behind head (subst (AreRepeated 0 0) e h.repeats) in (let f = g.0 in omega (arith, f), let f = g.1 in omega (arith, f)));
  next = λ p inside e. let place = next_left 0 h.got h.left p (subst (AreInTurn 0) h.split h.numbered) (subst (In p) h.split (in_users xs p inside)) (let n = h.count in omega (arith, e, n)) in
      ap (λ n. slice_get (user_packets xs) n) h.count
      ∙ ap (λ ps. slice_get ps (length h.got)) (users_same xs ∙ h.split ∙ ap (λ left. h.got ++ left) place.1) ∙ get_behind h.got place.0 p;
  got = let n = h.count in let all = ap (λ (ps : List UserPacket). length ps) (users_same xs ∙ h.split) in let sum = append_length h.got h.left in omega (arith, n, all, sum);
  stored = h.stored ∙ ap (λ (ps : List UserPacket). length (recoverables ps)) (sym firsts);
  kept = λ id inside. all_in (IsStoredIn ws) (storable_ids h.got) id h.kept (subst (λ ps. In id (recoverables ps)) firsts inside);
  said_got = λ x inside. subst (λ n. n ≤ h.target.got) (sym (got_same x)) (all_in (λ y. got_told y ≤ h.target.got) ys x h.told_got inside);
  got_acknowledged = h.got_acked;
  said = λ x inside. subst (λ n. n ≤ h.target.stored) (sym (said_same x)) (all_in (λ y. stored_told y ≤ h.target.stored) ys x h.told inside);
  acknowledged = h.acked;
}
  where
    lists_wait : (lists : PlainLists) → In lists mi.state.plain → PlainWaits h.own (AreMarks (users_of xs)) lists
    lists_wait lists there = all_in (PlainWaits h.own (AreMarks (users_of xs))) mi.state.plain lists h.waits.plain there

    firsts : take h.target.got (user_packets xs) ≡ h.got
    firsts = ap (λ n. take n (user_packets xs)) h.count ∙ ap (take (length h.got)) (users_same xs ∙ h.split) ∙ taken_first h.got h.left

pub sessions_counted : (c : Course) → KeepsStorage c → AreSessionsCounted c
sessions_counted c k d i j inside ends = record {
  source = h.source;
  target = h.target;
  sends = h.sends;
  hears = h.hears;
  counts = subst (λ xs. CountsRightly h.source h.target (manager_at c.network i).state.plain xs (packets_from d.number j c.network.notes c.sent) c.written) (sym (packets_same d.number i c.network.notes c.sent))
      (subst (λ ys. CountsRightly h.source h.target (manager_at c.network i).state.plain (from_sender d.number i c.network.notes c.sent) ys c.written) (sym (packets_same d.number j c.network.notes c.sent))
      (counts_rightly (manager_at c.network i) (manager_at c.network j) (from_sender d.number i c.network.notes c.sent) (from_sender d.number j c.network.notes c.sent) c.written h));
}
  where
    h : FlowsIn c.network c.sent c.written i j d.number
    h = k.flows d inside i j ends
