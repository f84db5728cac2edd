-- A valid manager stays valid where a peer or a queue is added and where the count at which sequences are full is set.
use Rattle.std.proofs.Common.{refl, ap, sym, subst, ◌∙◌, length, arith, length-append}
use Rattle.std.proofs.lemmas.Bool.Decides.{nat_tests}
use Rattle.std.proofs.lemmas.List.Elements.{All-nil, All-push}
use Rattle.std.specs.List.{AllByRecursion, flat_map, prefix_len}
use Rattle.std.specs.Prelude.{◌+◌, ◌++◌, ◌<◌, ◌==◌, ◌∷◌, ◌≡◌, ◌≤◌, [], All, Bool, IfSome, IsSome, List, None, Ok, Option, Result, Some, cond, false, is_some, nat_lt, not, option_and_then, position, true, unwrap_or, ℕ}
use Rattle.mqb_base.specs.Same.{same_guid}
use Rattle.mqb_base.specs.declared.ids.Guid.{Guid}
use Rattle.mqb_base.specs.declared.ids.Identity.{Identity}
use Rattle.mqb_base.specs.declared.queues.QueuePlan.{QueuePlan}
use Rattle.mqb_packet.specs.mqb_names.Values.{IsName}
use Rattle.mqb_packet.specs.declared.packet.Headers.TheVariants as headers
use Rattle.mqb_plain.specs.Lists.{messages_of}
use Rattle.mqb_plain.specs.Plain.{PlainLists, no_plain}
use Rattle.mqb_queue.specs.Places.{Queue, new_queue}
use Rattle.mqb_session.specs.State as one_end
use Rattle.mqb_model.specs.calls.AddPeer.{add_peer, add_peer_refusal}
use Rattle.mqb_model.specs.calls.CreateQueue.{create_queue, create_refusal}
use Rattle.mqb_model.specs.calls.SetRoll.{set_to, store_refusal}
use Rattle.mqb_model.specs.laws.Fitting.{IsFitting}
use Rattle.mqb_model.specs.managers.Manager.{Condition, Down, Manager, Up, doubt_of, is_down, linked_peer}
use Rattle.mqb_model.specs.managers.Outcomes.{Outcome, recording, succeeded, unless}
use Rattle.mqb_model.specs.managers.Valid.{BearMarks, IsLinkedWell, IsSessionOf, IsUnsent, IsValidManager, IsWritable, MarksRise, MayBear, express_placed, express_waiting}
use Rattle.mqb_model.specs.records.Applying.{fits, is_setting, with_setting}
use Rattle.mqb_model.specs.records.Peer.{next_queue, with_new_queue, with_peer}
use Rattle.mqb_model.specs.records.Record as entry
use Rattle.mqb_model.specs.records.Record.{Record, Setting}
use Rattle.mqb_model.specs.state.Places.{is_express}
use Rattle.mqb_model.specs.state.Resolving.{peer_known}
use Rattle.mqb_model.specs.state.State.{State}
use Rattle.mqb_model.specs.state.Valid.{IsCarried}
use Rattle.mqb_model.proofs.Adding.{added_peer_is_valid, made_queue_is_valid}
use Rattle.mqb_model.proofs.Fitting.{peer_goes, queue_goes}
use Rattle.mqb_model.proofs.Linking.{bear, may_bear}
use Rattle.mqb_model.proofs.Standing.{refused_is_same, set_is_valid, stays}

-- A call that is refused leaves the manager as it was.
unless_valid : {V E : Type 0} (m : Manager) (refusal : Option E) (outcome : Outcome (Result V E)) → IsValidManager m
    → (refusal ≡ None → IsValidManager (succeeded m outcome)) → IsValidManager (succeeded m (unless m refusal outcome))
unless_valid m (Some fault) outcome v h = subst IsValidManager (sym (refused_is_same m true v)) v
unless_valid m None outcome v h = h refl

-- a manager that is up has no record in doubt
pub no_doubt : (c : Condition) (P : Record → Type 0) → (elim c [ Up ↦ false | Down doubt ↦ true ]) ≡ false → IfSome (doubt_of c) P
no_doubt Up P e = tt
no_doubt (Down doubt) P e = absurd (let none : ⊥ = cc in none)

-- a call that is not refused is of a manager that is up
pub up_where : {E : Type 0} (down : Bool) (why : E) (o : Option E) → cond down (Some why) o ≡ None → down ≡ false
up_where true why o e = absurd (let none : ⊥ = cc in none)
up_where false why o e = refl

-- a record that fits where the call is not refused
fits_where : {V E : Type 0} (m : Manager) (refusal : Option E) (r : Record) (answer : Result V E) → refusal ≡ None
    → IsFitting m (unless m refusal (recording m r answer)) → fits m.state r ≡ true
fits_where m None r answer e f = f
fits_where m (Some fault) r answer e f = absurd (let none : ⊥ = cc in none)

-- A setting.

set_linked : (s : State) (setting : Setting) (c : Condition) (o : Option one_end.State) → IsLinkedWell s c o → IsLinkedWell (with_setting s setting) c o
set_linked s setting Up (Some session) h = record { kept = h.kept; own = h.own; peer = h.peer; first = h.first; marks = h.marks }
set_linked s setting Up None h = h
set_linked s setting (Down doubt) o h = h

set : (m : Manager) (setting : Setting) → is_setting setting ≡ true → is_down m ≡ false → IsValidManager m → IsValidManager (succeeded m (recording m (entry.Set setting) true))
set m setting f up v = record {
  state = set_is_valid m.state setting v.state f;
  express = record {
    placed = v.express.placed;
    waiting = v.express.waiting;
    placed_express = v.express.placed_express;
    waiting_express = v.express.waiting_express;
    next_express = v.express.next_express;
  };
  marks = v.marks;
  session = set_linked m.state setting m.condition m.rest.session v.session;
  cursors = ap length (stays 0 (length m.state.outs) m.rest.cursors v.cursors) ∙ v.cursors;
  owes = ap length (stays false (length m.state.ins) m.rest.owes v.owes) ∙ v.owes;
  doubt = no_doubt m.condition (IsWritable (with_setting m.state setting)) up;
}

-- A queue.

express_stay : (qs : List Queue) (plan : QueuePlan) → flat_map (λ q. q.lists.express ++ q.journal.express) (qs ++ new_queue plan ∷ [])
    ≡ flat_map (λ q. q.lists.express ++ q.journal.express) qs
express_stay [] plan = refl
express_stay (q ∷ qs) plan = ap (λ ms. (q.lists.express ++ q.journal.express) ++ ms) (express_stay qs plan)

queue_linked : (s : State) (plan : QueuePlan) (c : Condition) (o : Option one_end.State) → IsLinkedWell s c o → IsLinkedWell (with_new_queue s plan) c o
queue_linked s plan Up (Some session) h = record { kept = h.kept; own = h.own; peer = h.peer; first = h.first; marks = h.marks }
queue_linked s plan Up None h = h
queue_linked s plan (Down doubt) o h = h

made : (m : Manager) (number : ℕ) (plan : QueuePlan) → fits m.state (entry.CreateQueue number plan) ≡ true → is_down m ≡ false → IsValidManager m
    → IsValidManager (succeeded m (recording m (entry.CreateQueue number plan) true))
made m number plan f up v = record {
  state = made_queue_is_valid m.state number plan v.state f;
  express = record {
    placed = subst (λ ms. All (IsCarried headers.Bare) ms) (sym placed) v.express.placed;
    waiting = v.express.waiting;
    placed_express = subst (λ ms. All (λ m. is_express m.delivery ≡ true) ms) (sym placed) v.express.placed_express;
    waiting_express = v.express.waiting_express;
    next_express = v.express.next_express;
  };
  marks = v.marks;
  session = queue_linked m.state plan m.condition m.rest.session v.session;
  cursors = ap length (stays 0 (length m.state.outs) m.rest.cursors v.cursors) ∙ v.cursors;
  owes = ap length (stays false (length m.state.ins) m.rest.owes v.owes) ∙ v.owes;
  doubt = no_doubt m.condition (IsWritable (with_new_queue m.state plan)) up;
}
  where
    placed : express_placed (with_new_queue m.state plan) ≡ express_placed m.state
    placed = ap (λ ms. ms ++ m.state.places.dead.express ++ m.state.places.dead_xact.express ++ m.state.places.journal.express) (express_stay m.state.places.queues plan)

-- A peer.

waiting_stay : (ps : List PlainLists) → flat_map (λ p. messages_of p.express) (ps ++ no_plain ∷ []) ≡ flat_map (λ p. messages_of p.express) ps
waiting_stay [] = refl
waiting_stay (p ∷ ps) = ap (λ ms. messages_of p.express ++ ms) (waiting_stay ps)

none_sent : IsUnsent no_plain
none_sent = record { recoverable = All-nil _; express = All-nil _ }

bear_push : (session : one_end.State) (peer k : ℕ) (ps : List PlainLists) → BearMarks session peer k ps → BearMarks session peer k (ps ++ no_plain ∷ [])
bear_push session peer k [] h = (may_bear session no_plain (k == peer) none_sent, tt)
bear_push session peer k (p ∷ ps) h = (h.0, bear_push session peer (k + 1) ps h.1)

-- lists before the index of a session's peer bear no mark
unsent_before : (session : one_end.State) (peer k : ℕ) (ps : List PlainLists) → k + length ps ≤ peer → BearMarks session peer k ps → AllByRecursion IsUnsent ps
unsent_before session peer k [] le h = tt
unsent_before session peer k (p ∷ ps) le h = (at (k == peer) (other k peer (let less : k < peer = omega (arith, le) in less)) h.0, unsent_before session peer (k + 1) ps (omega (arith, le)) h.1)
  where
    other : (a b : ℕ) → a < b → (a == b) ≡ false
    other a b lt = grind (arith, nat_tests)

    at : (b : Bool) → b ≡ false → MayBear b session p → IsUnsent p
    at true e h = absurd (let none : ⊥ = cc in none)
    at false e h = h

-- the first member that passes stays the first where one joins behind
prefix_more : {X : Type 0} (p : X → Bool) (xs ys : List X) → prefix_len p xs < length xs → prefix_len p (xs ++ ys) ≡ prefix_len p xs
prefix_more p [] ys lt = absurd (omega arith)
prefix_more p (x ∷ xs) ys lt = at (p x) lt (prefix_more p xs ys)
  where
    at : (b : Bool) → cond b (1 + prefix_len p xs) 0 < length (x ∷ xs) → (prefix_len p xs < length xs → prefix_len p (xs ++ ys) ≡ prefix_len p xs)
        → cond b (1 + prefix_len p (xs ++ ys)) 0 ≡ cond b (1 + prefix_len p xs) 0
    at true lt more = ap (λ n. 1 + n) (more (omega (arith, lt)))
    at false lt more = refl

position_more : {X : Type 0} (p : X → Bool) (xs ys : List X) → IsSome (position p xs) → position p (xs ++ ys) ≡ position p xs
position_more p xs ys h = at (nat_lt n (length xs)) refl h
  where
    n : ℕ
    n = prefix_len (λ x. not (p x)) xs

    less : (a b : ℕ) → nat_lt a b ≡ true → a < b
    less a b h = grind (arith, nat_tests)

    more : (a b : ℕ) → a < b → nat_lt a b ≡ true
    more a b h = grind (arith, nat_tests)

    at : (b : Bool) → nat_lt n (length xs) ≡ b → is_some (cond b (Some n) None) ≡ true → position p (xs ++ ys) ≡ cond (nat_lt n (length xs)) (Some n) None
    at false e s = absurd (let none : ⊥ = cc in none)
    at true e s = let lt : n < length xs = less n (length xs) e in let counted = length-append xs ys in
        ap (λ k. cond (nat_lt k (length (xs ++ ys))) (Some k) None) (prefix_more (λ x. not (p x)) xs ys lt)
        ∙ ap (λ b. cond b (Some n) None) (more n (length (xs ++ ys)) (omega (arith, lt, counted))) ∙ ap (λ b. cond b (Some n) None) (sym e)

peer_linked : (s : State) (peer : Identity) (c : Condition) (o : Option one_end.State) → length s.plain ≡ length s.peers → IsLinkedWell s c o → IsLinkedWell (with_peer s peer) c o
peer_linked s peer (Down doubt) o counted h = h
peer_linked s peer Up None counted h = All-push IsUnsent s.plain no_plain h none_sent
peer_linked s peer Up (Some session) counted h = at session.peer refl h.peer
  where
    at : (o : Option Guid) → session.peer ≡ o → IfSome o (λ guid. IsSome (peer_known s guid)) → IsSessionOf (with_peer s peer) session
    at None e known = record {
      kept = h.kept;
      own = h.own;
      first = h.first;
      peer = subst (λ o. IfSome o (λ guid. IsSome (peer_known (with_peer s peer) guid))) (sym e) tt;
      marks = bear session (linked_peer (with_peer s peer) session) 0 (s.plain ++ no_plain ∷ [])
          (unsent (unsent_before session (linked_peer s session) 0 s.plain (subst (λ n. 0 + length s.plain ≤ n) (sym far) (omega (arith, counted))) h.marks));
    }
      where
        far : linked_peer s session ≡ length s.peers
        far = ap (λ o. unwrap_or (option_and_then (peer_known s) o) (length s.peers)) e

        pushed : (ps : List PlainLists) → AllByRecursion IsUnsent ps → AllByRecursion IsUnsent (ps ++ no_plain ∷ [])
        pushed [] a = (none_sent, tt)
        pushed (p ∷ ps) a = (a.0, pushed ps a.1)

        unsent : AllByRecursion IsUnsent s.plain → AllByRecursion IsUnsent (s.plain ++ no_plain ∷ [])
        unsent a = pushed s.plain a
    at (Some guid) e known = record {
      kept = h.kept;
      own = h.own;
      first = h.first;
      peer = subst (λ o. IfSome o (λ guid. IsSome (peer_known (with_peer s peer) guid))) (sym e) (subst (λ o. IsSome o) (sym there) known);
      marks = subst (λ k. BearMarks session k 0 (s.plain ++ no_plain ∷ [])) (sym same) (bear_push session (linked_peer s session) 0 s.plain h.marks);
    }
      where
        there : peer_known (with_peer s peer) guid ≡ peer_known s guid
        there = position_more (λ p. same_guid p.guid guid) s.peers (peer ∷ []) known

        found : (o : Option ℕ) (a b : ℕ) → IsSome o → unwrap_or o a ≡ unwrap_or o b
        found None a b s = absurd (let none : ⊥ = cc in none)
        found (Some k) a b s = refl

        same : linked_peer (with_peer s peer) session ≡ linked_peer s session
        same = ap (λ o. unwrap_or (option_and_then (peer_known (with_peer s peer)) o) (length (s.peers ++ peer ∷ []))) e
            ∙ ap (λ o. unwrap_or o (length (s.peers ++ peer ∷ []))) there ∙ found (peer_known s guid) (length (s.peers ++ peer ∷ [])) (length s.peers) known
            ∙ ap (λ o. unwrap_or (option_and_then (peer_known s) o) (length s.peers)) (sym e)

added : (m : Manager) (peer : Identity) → IsName peer.host → fits m.state (entry.Peer peer) ≡ true → is_down m ≡ false → IsValidManager m
    → IsValidManager (succeeded m (recording m (entry.Peer peer) true))
added m peer named f up v = record {
  state = added_peer_is_valid m.state peer v.state named f;
  express = record {
    placed = v.express.placed;
    waiting = subst (λ ms. All (IsCarried headers.Session) ms) (sym waiting) v.express.waiting;
    placed_express = v.express.placed_express;
    waiting_express = subst (λ ms. All (λ m. is_express m.delivery ≡ true) ms) (sym waiting) v.express.waiting_express;
    next_express = v.express.next_express;
  };
  marks = All-push MarksRise m.state.plain no_plain v.marks (record { recoverable = tt; express = tt });
  session = peer_linked m.state peer m.condition m.rest.session v.state.plain_lists v.session;
  cursors = ap length (stays 0 (length m.state.outs) m.rest.cursors v.cursors) ∙ v.cursors;
  owes = ap length (stays false (length m.state.ins) m.rest.owes v.owes) ∙ v.owes;
  doubt = no_doubt m.condition (IsWritable (with_peer m.state peer)) up;
}
  where
    waiting : express_waiting (with_peer m.state peer) ≡ express_waiting m.state
    waiting = waiting_stay m.state.plain

-- A valid manager stays valid by these calls.

pub peer_valid : (m : Manager) (peer : Identity) → IsName peer.host → IsValidManager m → IsValidManager (succeeded m (add_peer m peer))
peer_valid m peer named v = unless_valid m (add_peer_refusal m peer) (recording m (entry.Peer peer) (Ok (length m.state.peers))) v
    (λ e. added m peer named (fits_where m (add_peer_refusal m peer) (entry.Peer peer) (Ok (length m.state.peers)) e (peer_goes m peer)) (up_where (is_down m) _ _ e) v)

pub queue_valid : (m : Manager) (plan : QueuePlan) → IsValidManager m → IsValidManager (succeeded m (create_queue m plan))
queue_valid m plan v = unless_valid m (create_refusal m plan) (recording m (entry.CreateQueue (next_queue m.state) plan) (Ok (next_queue m.state))) v
    (λ e. made m (next_queue m.state) plan (fits_where m (create_refusal m plan) (entry.CreateQueue (next_queue m.state) plan) (Ok (next_queue m.state)) e (queue_goes m plan)) (up_where (is_down m) _ _ e) v)

pub setting_valid : (m : Manager) (setting : Setting) → is_setting setting ≡ true → IsValidManager m → IsValidManager (succeeded m (set_to m setting))
setting_valid m setting f v = unless_valid m (store_refusal m) (recording m (entry.Set setting) (Ok tt)) v (λ e. set m setting f (up_where (is_down m) _ _ e) v)
