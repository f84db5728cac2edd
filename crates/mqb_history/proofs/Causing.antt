-- Each message that there is, but for notices, is one that an event of the run asked for; and the law.
use Rattle.std.proofs.Common.{◌∙◌, inl, inr, refl, subst, sym}
use Rattle.std.specs.List.{AllByRecursion, flat_map}
use Rattle.std.specs.Option.{option_map_or}
use Rattle.std.specs.Prelude.{◌++◌, ◌≡◌, ◌⊎◌, Bool, Err, IfSome, List, None, Ok, Option, Result, Some, cond, false, filter_map, length, not, slice_get, true, unwrap_or, ℕ}
use Rattle.mqb_base.specs.declared.ids.Identity.{Identity}
use Rattle.mqb_base.specs.declared.message.Lane.{Lane}
use Rattle.mqb_base.specs.declared.message.Lane.TheVariants as lane
use Rattle.mqb_base.specs.declared.message.Message.{Message}
use Rattle.mqb_base.specs.declared.queues.EntryPlace.{EntryPlace}
use Rattle.mqb_base.specs.declared.queues.Place.{Place}
use Rattle.mqb_exactly_once.specs.Words.{In}
use Rattle.mqb_model.specs.calls.Link.{unlink}
use Rattle.mqb_model.specs.calls.Take.{first_in, take_at, take_message, take_position, take_refusal, taking}
use Rattle.mqb_model.specs.declared.answers.Done.TheVariants as done
use Rattle.mqb_model.specs.declared.answers.Role.TheVariants as role
use Rattle.mqb_model.specs.declared.faults.TakeFault.{TakeFault}
use Rattle.mqb_model.specs.declared.faults.TakeFault.TheVariants as fault
use Rattle.mqb_model.specs.managers.Beside as beside
use Rattle.mqb_model.specs.managers.Manager.{Manager, doubt_of, is_down}
use Rattle.mqb_model.specs.managers.Outcomes.{answering, failed, recorded, succeeded, unless}
use Rattle.mqb_model.specs.managers.Restarts.{restarted, unread}
use Rattle.mqb_model.specs.records.Record.{Record}
use Rattle.mqb_model.specs.rules.Takes.{message_at}
use Rattle.mqb_model.specs.state.State.{State}
use Rattle.mqb_network.specs.Changes.{parted}
use Rattle.mqb_network.specs.Choices.{Failure}
use Rattle.mqb_network.specs.Connecting.{asking, linked_as}
use Rattle.mqb_network.specs.Courses.{Course}
use Rattle.mqb_network.specs.Doubts.{settled}
use Rattle.mqb_network.specs.Laws.{AreApart}
use Rattle.mqb_network.specs.Network.{Note, manager_at, nobody, with_manager}
use Rattle.mqb_network.specs.Runs.{Move, after_run}
use Rattle.mqb_packet.specs.declared.packet.Packet.{Packet}
use Rattle.mqb_packet.specs.declared.packet.Packet.TheVariants as packet
use Rattle.mqb_packet.specs.declared.packet.UserPacket.{UserPacket}
use Rattle.mqb_queue.specs.Places.{numbered, place_named}
use Rattle.mqb_queue.specs.declared.first.Position.{Position}
use Rattle.mqb_model.specs.calls.Call.{Call, Hear, Pump, outcome_of}
use Rattle.mqb_history.specs.Changes.{Calls, Change, Drops, Ends, Fails, Finds, Hears, Links, Pumps, Restarts, calling, changed, given_out, hearing, is_of_packets, may_change}
use Rattle.mqb_history.specs.Traced.{TakenIsAsked}
use Rattle.mqb_history.specs.Truths.{held, message_in, noticed}
use Rattle.mqb_history.proofs.Accounts.{CallSent}
use Rattle.mqb_history.proofs.Agreeing.{IsAgreed, agreeing_closed, begins_agreeing}
use Rattle.mqb_history.proofs.AskedFor.{IsMoveOf, moves_given, none_moves}
use Rattle.mqb_history.proofs.Beginning.{linked_same_state}
use Rattle.mqb_history.proofs.Between.{in_either}
use Rattle.mqb_history.proofs.Bringing.{Brings, pumped_brings}
use Rattle.mqb_history.proofs.Committing.{all_in}
use Rattle.mqb_history.proofs.Containing.{IsFine, beginning_holds, beside_holds, durable_holds, record_holds}
use Rattle.mqb_history.proofs.Contents.{Holds, message_holds}
use Rattle.mqb_history.proofs.Courses.{known_of, none_heard}
use Rattle.mqb_history.proofs.Each.{EachRecord, OfChange, each_begins, each_change}
use Rattle.mqb_history.proofs.Ending.{parted_at}
use Rattle.mqb_history.proofs.Finality.{numbered_in}
use Rattle.mqb_history.proofs.Gone.{calling_sent, hearing_sent}
use Rattle.mqb_history.proofs.Keeping.{IsClosedUnder}
use Rattle.mqb_history.proofs.Leads.{AreLed, led_by_records}
use Rattle.mqb_history.proofs.Lists.{not_true, split_and}
use Rattle.mqb_history.proofs.Noticed.{all_flat, all_got, message_is, told_from}
use Rattle.mqb_history.proofs.Ordering.{with_at}
use Rattle.mqb_history.proofs.Origins.{held_all}
use Rattle.mqb_history.proofs.Runs.{always_given}
use Rattle.mqb_history.proofs.Taking.{IfTakes, IsTakenOf, commit_takes}
use Rattle.mqb_history.proofs.Tracing.{IsCaused, beside_fine, call_fine, caused_brought, caused_carried}
use Rattle.mqb_history.proofs.Written.{begins_with, noted_managers}

-- Takes.

module _ (P : Message → Type 0) where
  abbrev pub IfTaken : Result Message TakeFault → Type 0
  IfTaken (Ok m) = P m
  IfTaken (Err why) = Unit {0}

  position_holds : (m : Manager) (at : EntryPlace) (now : ℕ) (p : Position) → IfSome (message_at p.lane m.state at p.index) P → IfTaken (take_position m at now p).answer
  position_holds m at now p h = by (message_at p.lane m.state at p.index) h
    where
      lanes : (kind : Lane) (x : Message) → P x → IfTaken (taking m at now kind p.index x).answer
      lanes lane.Durable x g = g
      lanes lane.Express x g = g

      by : (o : Option Message) → IfSome o P → IfTaken (option_map_or (taking m at now p.lane p.index) o (answering m (Err fault.QueueEmpty))).answer
      by None g = tt
      by (Some x) g = lanes p.lane x g

  pub take_holds : (m : Manager) (place : Place) (now : ℕ) → ((kind : Lane) (at : EntryPlace) (k : ℕ) → IfSome (message_at kind m.state at k) P) → IfTaken (take_message m place now).answer
  take_holds m place now h = at (take_refusal m)
    where
      first : (at : EntryPlace) (o : Option Position) → IfTaken (option_map_or (take_position m at now) o (answering m (Err fault.QueueEmpty))).answer
      first at None = tt
      first at (Some p) = position_holds m at now p (h p.lane at p.index)

      named : (o : Option EntryPlace) → IfTaken (option_map_or (take_at m now) o (answering m (Err fault.NoQueue))).answer
      named None = tt
      named (Some at) = first at (first_in m.state at now)

      at : (o : Option TakeFault) → IfTaken (unless m o (option_map_or (take_at m now) (place_named m.state.places.queues place) (answering m (Err fault.NoQueue)))).answer
      at (Some why) = tt
      at None = named (place_named m.state.places.queues place)

-- Runs.

module _ (known : List Identity) (ms : List Move) where
  abbrev P : Message → Type 0
  P = IsCaused known ms

  abbrev HasCaused : Manager → Type 0
  HasCaused x = Holds P x.state

  record AreCaused (c : Course) : Type 0 where
    pub agreed : IsAgreed known c
    pub managers : (j : ℕ) → HasCaused (manager_at c.network j)
    pub packets : (p : UserPacket) → In (packet.User p) c.sent → P p.message
    pub records : EachRecord (λ i. IsFine P) c

  parted_caused : (x : Manager) → HasCaused x → HasCaused (parted x)
  parted_caused x h = at (is_down x)
    where
      at : (b : Bool) → HasCaused (cond b x (succeeded x (unlink x)))
      at true = h
      at false = beside_holds (λ next. P) (caused_carried known ms) beside.Unmarks x.state tt h

  recorded_caused : (s : State) (r : Option Record) → IfSome r (IsFine P) → Holds P s → Holds P (recorded s r)
  recorded_caused s None fine h = h
  recorded_caused s (Some r) fine h = record_holds (λ next. P) (caused_carried known ms) s r fine h

  module _ (c : Course) (t : AreCaused c) where
    -- a call
    call_caused : (i : ℕ) (call : Call) (failure : Option Failure) → IsMoveOf ms (Calls i call failure) → CallSent c.sent call → (j : ℕ) → HasCaused (manager_at (calling i call failure c).network j)
    call_caused i call None move sends j = let m = manager_at c.network i in let outcome = outcome_of m call in with_at HasCaused c.network i j (succeeded m outcome) (t.managers j)
        (λ e. beside_holds (λ next. P) (caused_carried known ms) outcome.beside (recorded m.state outcome.entry) (beside_fine known ms c (known_of known c t.agreed.0.0) t.agreed.1 t.packets i call None move sends)
        (recorded_caused m.state outcome.entry (call_fine known ms c (known_of known c t.agreed.0.0) t.agreed.1 t.packets i call None move sends) (t.managers i)))
    call_caused i call (Some how) move sends j = let m = manager_at c.network i in let outcome = outcome_of m call in
        parted_at HasCaused (with_manager c.network i (failed m outcome)) i j parted_caused (with_at HasCaused c.network i j (failed m outcome) (t.managers j) (λ e. t.managers i))

    fine : (i : ℕ) (call : Call) (failure : Option Failure) → IsMoveOf ms (Calls i call failure) → CallSent c.sent call → IfSome (outcome_of (manager_at c.network i) call).entry (IsFine P)
    fine i call failure move sends = call_fine known ms c (known_of known c t.agreed.0.0) t.agreed.1 t.packets i call failure move sends

    heard_caused : (note : Option Note) (x : Option Packet) (now : ℕ) (failure : Option Failure) → ((p : Packet) → x ≡ Some p → In p c.sent) → (j : ℕ) → HasCaused (manager_at (hearing note x now failure c).network j)
    heard_caused None x now failure there j = t.managers j
    heard_caused (Some note) None now failure there j = t.managers j
    heard_caused (Some note) (Some p) now failure there j = call_caused note.receiver (Hear now p) failure tt (there p refl) j

    posted_caused : (i now : ℕ) (failure : Option Failure) → (j : ℕ) → HasCaused (manager_at (changed (Pumps i now failure) c).network j)
    posted_caused i now failure j = subst (λ x. HasCaused (unwrap_or (slice_get x j) nobody)) (sym (noted_managers i now (length (given_out (outcome_of (manager_at c.network i) (Pump now)) failure)) (calling i (Pump now) failure c).network))
        (call_caused i (Pump now) failure tt tt j)

    at_one : (i : ℕ) (m : Manager) → HasCaused m → (j : ℕ) → HasCaused (manager_at (with_manager c.network i m) j)
    at_one i m h j = with_at HasCaused c.network i j m (t.managers j) (λ e. h)

    managers_now : (x : Change) → may_change c x ≡ true → IsMoveOf ms x → (j : ℕ) → HasCaused (manager_at (changed x c).network j)
    managers_now (Calls i call failure) may move j = call_caused i call failure move (none_heard c.sent call (not_true (is_of_packets call) (split_and (not (is_of_packets call)) _ may).0)) j
    managers_now (Pumps i now failure) may move j = posted_caused i now failure j
    managers_now (Hears k now failure) may move j = heard_caused (numbered c.network.notes k) (numbered c.sent k) now failure (λ p e. numbered_in c.sent k p e) j
    managers_now (Links a b window_a window_b) may move j = let end = asking (manager_at c.network a).state (manager_at c.network b).state.identity.guid in
        subst (Holds P) (sym (linked_same_state (linked_as a end window_a c.network) b j role.Acceptor window_b ∙ linked_same_state c.network a j end window_a)) (t.managers j)
    managers_now (Ends i) may move j = parted_at HasCaused c.network i j parted_caused (t.managers j)
    managers_now (Drops k) may move j = t.managers j
    managers_now (Restarts i) may move j = at_one i (restarted (manager_at c.network i) false) (durable_holds P (manager_at c.network i).state (t.managers i)) j
    managers_now (Finds i) may move j = let m = manager_at c.network i in at_one i (restarted m true)
        (durable_holds P (recorded m.state (doubt_of m.condition)) (recorded_caused m.state (doubt_of m.condition) (t.records.doubts i) (t.managers i))) j
    managers_now (Fails i) may move j = at_one i (unread (manager_at c.network i)) (durable_holds P (manager_at c.network i).state (t.managers i)) j

    pumped : (i now : ℕ) (failure : Option Failure) (p : UserPacket) → In (packet.User p) (given_out (outcome_of (manager_at c.network i) (Pump now)) failure) → P p.message
    pumped i now None p inside = all_in (Brings P) (outcome_of (manager_at c.network i) (Pump now)).packets (packet.User p) (pumped_brings P (caused_brought known ms) (manager_at c.network i) (t.managers i) now) inside p refl
    pumped i now (Some how) p inside = absurd inside

    either : (i now : ℕ) (failure : Option Failure) (p : UserPacket) → In (packet.User p) c.sent ⊎ In (packet.User p) (given_out (outcome_of (manager_at c.network i) (Pump now)) failure) → P p.message
    either i now failure p (inl a) = t.packets p a
    either i now failure p (inr a) = pumped i now failure p a

    packets_now : (x : Change) (p : UserPacket) → In (packet.User p) (changed x c).sent → P p.message
    packets_now (Calls i call failure) p inside = t.packets p (subst (In (packet.User p)) (calling_sent i call failure c) inside)
    packets_now (Pumps i now failure) p inside = let out = given_out (outcome_of (manager_at c.network i) (Pump now)) failure in
        either i now failure p (in_either c.sent out (packet.User p) (subst (λ xs. In (packet.User p) (xs ++ out)) (calling_sent i (Pump now) failure c) inside))
    packets_now (Hears k now failure) p inside = t.packets p (subst (In (packet.User p)) (hearing_sent (numbered c.network.notes k) (numbered c.sent k) now failure c) inside)
    packets_now x p inside = t.packets p inside

    change_fine : (x : Change) → may_change c x ≡ true → IsMoveOf ms x → OfChange (λ i. IsFine P) c x
    change_fine (Calls i call failure) may move = fine i call failure move (none_heard c.sent call (not_true (is_of_packets call) (split_and (not (is_of_packets call)) _ may).0))
    change_fine (Pumps i now failure) may move = fine i (Pump now) failure tt tt
    change_fine (Hears k now failure) may move = λ note p e f. fine note.receiver (Hear now p) failure tt (numbered_in c.sent k p f)
    change_fine x may move = tt

  caused_closed : AreApart known → IsClosedUnder (IsMoveOf ms) known AreCaused
  caused_closed apart = record {
    orderly = λ c t. t.agreed.0.0;
    others = none_moves ms;
    keeps = λ c x move may t. record {
      agreed = (agreeing_closed known apart).keeps c x may t.agreed;
      managers = managers_now c t x may move;
      packets = packets_now c t x;
      records = each_change (λ i. IsFine P) c x (change_fine c t x may move) t.records;
    };
  }

  noticed_caused : (c : Course) → AreCaused c → (m : Message) → In m (noticed c) → P m
  noticed_caused c t m i = at (in_either (flat_map (λ (x : Manager). held x.state) c.network.managers) (filter_map message_in c.sent) m i)
    where
      managers : AllByRecursion (λ (x : Manager). AllByRecursion P (held x.state)) c.network.managers
      managers = all_got (λ (x : Manager). AllByRecursion P (held x.state)) c.network.managers (λ k x e.
          subst (λ (y : Option Manager). AllByRecursion P (held (unwrap_or y nobody).state)) e (held_all P (manager_at c.network k).state (t.managers k)))

      at : In m (flat_map (λ (x : Manager). held x.state) c.network.managers) ⊎ In m (filter_map message_in c.sent) → P m
      at (inl j) = all_in P (flat_map (λ (x : Manager). held x.state) c.network.managers) m (all_flat P (λ (x : Manager). held x.state) c.network.managers managers) j
      at (inr j) = let x = told_from message_in c.sent m j in let p = message_is x.0 m x.2 in subst P p.2 (t.packets p.0 (subst (λ y. In y c.sent) p.1 x.1))

pub taken_is_asked : TakenIsAsked
taken_is_asked known ms apart run kept = record {
  messages = λ m i. (noticed_caused known ms c t m i).0;
  notices = λ m i. (noticed_caused known ms c t m i).1;
  takes = λ i now place m e. (subst (IfTaken (IsCaused known ms)) e (take_holds (IsCaused known ms) (manager_at c.network i) place now
      (λ kind at k. message_holds (IsCaused known ms) kind (manager_at c.network i).state at k (t.managers i)))).0;
  commits = λ i now ops answers m e inside. (all_in (IsTakenOf (IsCaused known ms)) answers (done.Took m)
      (subst (IfTakes (IsCaused known ms)) e (commit_takes (IsCaused known ms) (manager_at c.network i) ops now (t.managers i))) inside).0;
}
  where
    c : Course
    c = settled kept (after_run known ms)

    t : AreCaused known ms c
    t = always_given (IsMoveOf ms) known (AreCaused known ms) (caused_closed known ms apart) ms (λ m there. moves_given ms m there m.event refl) run kept (record {
      agreed = (begins_with known AreLed led_by_records, begins_agreeing known);
      managers = beginning_holds (IsCaused known ms) known;
      packets = λ p inside. absurd inside;
      records = each_begins (λ i. IsFine (IsCaused known ms)) known;
    })
