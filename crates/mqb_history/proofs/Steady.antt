-- What holds where nothing durable moves, and is kept by each record, is kept by each change.
use Rattle.std.proofs.Common.{refl, ap, sym, subst, ◌∙◌, arith}
use Rattle.std.specs.Prelude.{[], ◌+◌, ◌++◌, ◌==◌, ◌∷◌, ◌≡◌, Bool, IfSome, List, None, Option, Some, cond, false, length, map, slice_get, true, unwrap_or, ℕ}
use Rattle.mqb_base.specs.declared.class.Class.{Class}
use Rattle.mqb_base.specs.declared.ids.Identity.{Identity}
use Rattle.mqb_base.specs.declared.ids.MessageId.{MessageId}
use Rattle.mqb_base.specs.declared.message.Message.{Message}
use Rattle.mqb_model.specs.calls.Link.{unlink}
use Rattle.mqb_model.specs.declared.answers.Role.TheVariants as role
use Rattle.mqb_model.specs.managers.Beside.{Beside}
use Rattle.mqb_model.specs.managers.Beside as beside
use Rattle.mqb_model.specs.managers.Manager.{Manager, doubt_of, is_down}
use Rattle.mqb_model.specs.managers.Outcomes.{failed, recorded, succeeded}
use Rattle.mqb_model.specs.managers.Restarts.{restarted, unread}
use Rattle.mqb_model.specs.records.Applying.{apply}
use Rattle.mqb_model.specs.records.Record.{Record}
use Rattle.mqb_model.specs.state.Durable.{durable, durable_plain, durable_queue}
use Rattle.mqb_model.specs.state.Places.{is_express}
use Rattle.mqb_model.specs.state.State.{State}
use Rattle.mqb_network.specs.Changes.{ended, parted}
use Rattle.mqb_network.specs.Choices.{Failure}
use Rattle.mqb_network.specs.Connecting.{asking, linked_as}
use Rattle.mqb_network.specs.Courses.{Course, Written, posted, written_by}
use Rattle.mqb_network.specs.Network.{Network, Note, manager_at, nobody, with_manager}
use Rattle.mqb_packet.specs.declared.packet.Packet.{Packet}
use Rattle.mqb_plain.specs.Plain.{PlainLists}
use Rattle.mqb_queue.specs.Places.{Queue, numbered}
use Rattle.mqb_model.specs.calls.Call.{Call, outcome_of, Hear, Pump}
use Rattle.mqb_history.specs.Changes.{Change, Calls, Drops, Ends, Fails, Finds, Hears, Links, Pumps, Restarts, calling, changed, given_out, hearing, may_change}
use Rattle.mqb_history.specs.Decided.{written_of}
use Rattle.mqb_history.specs.Made.{IsMade}
use Rattle.mqb_history.specs.Orderly.{IsOrderly}
use Rattle.mqb_history.proofs.Applying.{beside_rows}
use Rattle.mqb_history.proofs.Beginning.{linked_same_state}
use Rattle.mqb_history.proofs.Calling.{calls_are_modest, made_only}
use Rattle.mqb_history.proofs.Ending.{parted_at, parted_rows}
use Rattle.mqb_history.proofs.Enduring.{Endures, durable_endures, endures, unmarks_endure}
use Rattle.mqb_history.proofs.Containing.{IsFineBeside, beside_holds, durable_holds, refusal_class}
use Rattle.mqb_history.proofs.Contents.{IsCarried, IsOfNotices, Now, next_id}
use Rattle.mqb_history.proofs.Lists.{append_nothing, apart_numbers, equal_numbers, get_within, set_apart, set_get, set_there}
use Rattle.mqb_history.proofs.Ordering.{with_at}
use Rattle.mqb_history.proofs.Owned.{in_list, tally_mapped, unmarked_waits}
use Rattle.mqb_history.proofs.Queued.{Still, stays, without_number}
use Rattle.mqb_history.proofs.Recorded.{BesideOf, calls_are_of}
use Rattle.mqb_history.proofs.Remaining.{IsExpressBeside, beside_still}
use Rattle.mqb_history.proofs.Staying.{HasSameRows}
use Rattle.mqb_history.proofs.Surviving.{beside_endures}
use Rattle.mqb_history.proofs.Tallies.{in_queue, tally}
use Rattle.mqb_history.proofs.Written.{absent_idle, durable_rows, noted_managers, other_more, own_more}

-- it is said of each express message
abbrev pub OfExpress : (MessageId → Message → Type 0) → Type 0
OfExpress P = (next : MessageId) (m : Message) → is_express m.delivery ≡ true → P next m

-- nothing durable moved, no message came but express ones and notices, and what stood or waited still does
abbrev pub Quiet : State → State → Type 1
Quiet a b = HasSameRows a b × ((x : MessageId) → Still x a b) × ((P : MessageId → Message → Type 0) (c : IsCarried P) → OfExpress P → Now P c a → Now P c b) × Endures a b

-- Quiet changes.

durable_quiet : (s : State) → Quiet s (durable s)
durable_quiet s = (
  durable_rows s,
  λ x. let same = mapped x s.places.queues in let fewer = tally_mapped (λ (p : PlainLists). in_list x p.recoverable) durable_plain s.plain (λ p. unmarked_waits x p.recoverable) in
      without_number x 0 0 s (durable s) refl refl (omega (arith, same)) (omega (arith, same, fewer)),
  λ P c express. durable_holds (P (next_id s)) s,
  durable_endures s,
)
  where
    mapped : (x : MessageId) (qs : List Queue) → tally (in_queue x) (map durable_queue qs) ≡ tally (in_queue x) qs
    mapped x [] = refl
    mapped x (q ∷ qs) = ap (λ n. in_queue x q + n) (mapped x qs)

parted_quiet : (m : Manager) → Quiet m.state (parted m).state
parted_quiet m = (parted_rows m, λ x. at x (is_down m), λ P c express. holds P c (is_down m), lasts (is_down m))
  where
    lasts : (b : Bool) → Endures m.state (cond b m (succeeded m (unlink m))).state
    lasts true = endures m.state
    lasts false = unmarks_endure m.state

    holds : (P : MessageId → Message → Type 0) (c : IsCarried P) → (b : Bool) → Now P c m.state → Now P c (cond b m (succeeded m (unlink m))).state
    holds P c true h = h
    holds P c false h = beside_holds P c beside.Unmarks m.state tt h

    at : (x : MessageId) (b : Bool) → Still x m.state (cond b m (succeeded m (unlink m))).state
    at x true = stays x m.state
    at x false = beside_still x beside.Unmarks tt m.state

express_of : (s : State) (call : Call) (b : Beside) → BesideOf s call b → IsExpressBeside b
express_of s call (beside.SendsExpress at m) h = ap (λ (x : Message). is_express x.delivery) h.message
express_of s call (beside.HearsExpress peer number at m refusal) h = h.express
express_of s call b h = tt

-- what is refused beside a record meets a class of notices
pub class_beside : (s : State) (call : Call) (peer number now : ℕ) (m : Message) (refusal : Option Class) → BesideOf s call (beside.HearsExpress peer number now m refusal) → IfSome refusal IsOfNotices
class_beside s call peer number now m refusal h = subst (λ o. IfSome o IsOfNotices) (sym h.refusal_is) (refusal_class s h.given)

fine_of : (P : MessageId → Message → Type 0) → OfExpress P → (next : MessageId) (s : State) (call : Call) (b : Beside) → BesideOf s call b → IsFineBeside (P next) b
fine_of P fine next s call (beside.SendsExpress at m) h = fine next m (express_of s call (beside.SendsExpress at m) h)
fine_of P fine next s call (beside.HearsExpress peer number at m refusal) h = (fine next m (express_of s call (beside.HearsExpress peer number at m refusal) h), class_beside s call peer number at m refusal h)
fine_of P fine next s call b h = tt

-- Changes.

abbrev pub OfEach : (ℕ → State → List Written → Type 0) → Course → ℕ → Type 0
OfEach Q c j = Q j (manager_at c.network j).state (written_of j c.written)

-- what holds of each manager by its index: where nothing durable moves, and by each record that a call made
pub record IsSteady (Q : ℕ → State → List Written → Type 0) : Type 1 where
  pub quiet : (i : ℕ) (a b : State) (ws : List Written) → Quiet a b → Q i a ws → Q i b ws
  pub grows : (i : ℕ) (s : State) (r : Record) (ws : List Written) → IsMade s r → Q i s ws → Q i (apply s r) (ws ++ record { by = i; before = s; entry = r } ∷ [])

module _ (Q : ℕ → State → List Written → Type 0) (q : IsSteady Q) where
  recorded_steady : (i : ℕ) (m : Manager) (o : Option Record) (ws : List Written) → IfSome o (IsMade m.state) → Q i m.state (written_of i ws) → Q i (recorded m.state o) (written_of i (ws ++ written_by i m o))
  recorded_steady i m None ws made h = subst (Q i m.state) (sym (own_more i m None ws ∙ append_nothing (written_of i ws))) h
  recorded_steady i m (Some r) ws made h = subst (Q i (apply m.state r)) (sym (own_more i m (Some r) ws)) (q.grows i m.state r (written_of i ws) made h)

  -- one manager wrote a record, where there is one, and is in this state now; the others are as before
  some_written : (n : Network) (i : ℕ) (m : Manager) (o : Option Record) (ws : List Written) → IfSome o (IsMade (manager_at n i).state) → Quiet (recorded (manager_at n i).state o) m.state
      → (slice_get n.managers i ≡ None → o ≡ None) → ((j : ℕ) → Q j (manager_at n j).state (written_of j ws))
      → (j : ℕ) → Q j (manager_at (with_manager n i m) j).state (written_of j (ws ++ written_by i (manager_at n i) o))
  some_written n i m o ws made quiet absent h j = at (i == j) refl
    where
      all : List Written
      all = written_of i (ws ++ written_by i (manager_at n i) o)

      here : Q i m.state all
      here = q.quiet i (recorded (manager_at n i).state o) m.state all quiet (recorded_steady i (manager_at n i) o ws made (h i))

      nothing : (x : Option Record) → x ≡ None → Q i (manager_at n i).state (written_of i (ws ++ written_by i (manager_at n i) x))
      nothing x e = subst (λ y. Q i (manager_at n i).state (written_of i (ws ++ written_by i (manager_at n i) y))) (sym e)
          (subst (Q i (manager_at n i).state) (sym (ap (written_of i) (append_nothing ws))) (h i))

      own : (x : Option Manager) → slice_get n.managers i ≡ x → Q i (manager_at (with_manager n i m) i).state all
      own None e = set_get (λ x. Q i (unwrap_or x nobody).state all) n.managers i i m (nothing o (absent e)) (λ same lt. here)
      own (Some x) e = subst (λ y. Q i (unwrap_or y nobody).state all) (sym (set_there n.managers i m (get_within n.managers i x e))) here

      at : (b : Bool) → (i == j) ≡ b → Q j (manager_at (with_manager n i m) j).state (written_of j (ws ++ written_by i (manager_at n i) o))
      at true f = subst (λ k. Q k (manager_at (with_manager n i m) k).state (written_of k (ws ++ written_by i (manager_at n i) o))) (equal_numbers i j f) (own (slice_get n.managers i) refl)
      at false f = subst (Q j (manager_at (with_manager n i m) j).state) (sym (other_more i j (manager_at n i) o ws (apart_numbers i j f)))
          (subst (λ y. Q j (unwrap_or y nobody).state (written_of j ws)) (sym (set_apart n.managers i j m (apart_numbers i j f))) (h j))

  ended_steady : (n : Network) (i j : ℕ) (ws : List Written) → Q j (manager_at n j).state ws → Q j (manager_at (ended i n) j).state ws
  ended_steady n i j ws h = parted_at (λ m. Q j m.state ws) n i j (λ m g. q.quiet j m.state (parted m).state ws (parted_quiet m) g) h

  pub calling_steady : (i : ℕ) (call : Call) (failure : Option Failure) (c : Course) → ((j : ℕ) → OfEach Q c j) → (j : ℕ) → OfEach Q (calling i call failure c) j
  calling_steady i call None c h = let m = manager_at c.network i in let outcome = outcome_of m call in
      some_written c.network i (succeeded m outcome) outcome.entry c.written (made_only _ m.state outcome.entry (calls_are_modest m call).entry) (
        beside_rows outcome.beside (recorded m.state outcome.entry),
        λ x. beside_still x outcome.beside (express_of m.state call outcome.beside (calls_are_of m call).beside) (recorded m.state outcome.entry),
        λ P k express. beside_holds P k outcome.beside (recorded m.state outcome.entry) (fine_of P express (next_id (recorded m.state outcome.entry)) m.state call outcome.beside (calls_are_of m call).beside),
        beside_endures outcome.beside (recorded m.state outcome.entry),
      )
      (absent_idle c.network i call) h
  calling_steady i call (Some how) c h = λ j. let m = manager_at c.network i in let outcome = outcome_of m call in
      ended_steady (with_manager c.network i (failed m outcome)) i j (written_of j c.written)
      (with_at (λ x. Q j x.state (written_of j c.written)) c.network i j (failed m outcome) (h j) (λ e. subst (λ k. Q j (manager_at c.network k).state (written_of j c.written)) (sym e) (h j)))

  pub posted_steady : (i now : ℕ) (packets : List Packet) (c : Course) → ((j : ℕ) → OfEach Q c j) → (j : ℕ) → OfEach Q (posted i now packets c) j
  posted_steady i now packets c h j = subst (λ ms. Q j (unwrap_or (slice_get ms j) nobody).state (written_of j c.written)) (sym (noted_managers i now (length packets) c.network)) (h j)

  hearing_steady : (note : Option Note) (p : Option Packet) (now : ℕ) (failure : Option Failure) (c : Course) → ((j : ℕ) → OfEach Q c j) → (j : ℕ) → OfEach Q (hearing note p now failure c) j
  hearing_steady None p now failure c h = h
  hearing_steady (Some note) None now failure c h = h
  hearing_steady (Some note) (Some p) now failure c h = calling_steady note.receiver (Hear now p) failure c h

  -- a manager is in what its store stands for
  durable_steady : (c : Course) (i : ℕ) (m : Manager) → m.state ≡ durable (manager_at c.network i).state → ((j : ℕ) → OfEach Q c j) → (j : ℕ) → Q j (manager_at (with_manager c.network i m) j).state (written_of j c.written)
  durable_steady c i m same h j = with_at (λ x. Q j x.state (written_of j c.written)) c.network i j m (h j)
      (λ e. subst (λ s. Q j s (written_of j c.written)) (sym same) (q.quiet j (manager_at c.network i).state (durable (manager_at c.network i).state) (written_of j c.written)
      (durable_quiet (manager_at c.network i).state) (subst (λ k. Q j (manager_at c.network k).state (written_of j c.written)) (sym e) (h j))))

  pub change_steady : (known : List Identity) (c : Course) (x : Change) → may_change c x ≡ true → IsOrderly known c → ((j : ℕ) → OfEach Q c j) → (j : ℕ) → OfEach Q (changed x c) j
  change_steady known c (Calls i call failure) may o h = calling_steady i call failure c h
  change_steady known c (Pumps i now failure) may o h = posted_steady i now (given_out (outcome_of (manager_at c.network i) (Pump now)) failure) (calling i (Pump now) failure c) (calling_steady i (Pump now) failure c h)
  change_steady known c (Hears k now failure) may o h = hearing_steady (numbered c.network.notes k) (numbered c.sent k) now failure c h
  change_steady known c (Links a b window_a window_b) may o h = λ j. let end = asking (manager_at c.network a).state (manager_at c.network b).state.identity.guid in
      subst (λ s. Q j s (written_of j c.written)) (sym (linked_same_state (linked_as a end window_a c.network) b j role.Acceptor window_b ∙ linked_same_state c.network a j end window_a)) (h j)
  change_steady known c (Ends i) may o h = λ j. ended_steady c.network i j (written_of j c.written) (h j)
  change_steady known c (Drops k) may o h = h
  change_steady known c (Restarts i) may o h = durable_steady c i (restarted (manager_at c.network i) false) refl h
  change_steady known c (Finds i) may o h = let m = manager_at c.network i in
      some_written c.network i (restarted m true) (doubt_of m.condition) c.written (o.doubts i) (durable_quiet (recorded m.state (doubt_of m.condition))) (λ e. ap (λ x. doubt_of (unwrap_or x nobody).condition) e) h
  change_steady known c (Fails i) may o h = durable_steady c i (unread (manager_at c.network i)) refl h
