-- What the small runs answer and leave.
use Rattle.std.specs.Option.{option_map_or}
use Rattle.std.specs.Prelude.{[], ◌∷◌, ◌≡◌, Bool, Err, None, Ok, Some, codes, false, map, true}
use Rattle.mqb_base.specs.declared.class.TheConstants.Class.{BAD_DESTINATION}
use Rattle.mqb_base.specs.declared.heard.Heard.TheVariants as heard
use Rattle.mqb_base.specs.declared.ledger.Line.TheVariants as line
use Rattle.mqb_base.specs.declared.queues.Place.TheVariants as named
use Rattle.mqb_base.specs.declared.times.TheConstants.{UNLIMITED}
use Rattle.mqb_orders.specs.KeptLists.{numbers}
use Rattle.mqb_plain.specs.Lists.{messages_of}
use Rattle.mqb_model.specs.calls.Commit.{commit}
use Rattle.mqb_model.specs.calls.Send.{send}
use Rattle.mqb_model.specs.calls.Take.{take_message}
use Rattle.mqb_model.specs.calls.Tick.{tick}
use Rattle.mqb_model.specs.calls.pump.Pump.{pump}
use Rattle.mqb_model.specs.declared.answers.Done.TheVariants as done
use Rattle.mqb_model.specs.declared.faults.CommitFault.TheVariants as commit_fault
use Rattle.mqb_model.specs.declared.faults.OpFault.TheVariants as op_fault
use Rattle.mqb_model.specs.declared.faults.SendFault.TheVariants as send_fault
use Rattle.mqb_model.specs.declared.faults.TakeFault.TheVariants as take_fault
use Rattle.mqb_model.specs.declared.limits.TheConstants.{FIRST_EXPRESS}
use Rattle.mqb_model.specs.managers.Manager.{Down, Manager, Up}
use Rattle.mqb_model.specs.managers.Outcomes.{Outcome, lines_after, succeeded}
use Rattle.mqb_model.specs.managers.Restarts.{lines_in_doubt, restarted, unread}
use Rattle.mqb_model.specs.records.Applying.{fits}
use Rattle.mqb_model.specs.records.Folding.{applied}
use Rattle.mqb_model.specs.records.Record as entry
use Rattle.mqb_model.specs.runs.Runs.{ack_heard_by_alpha, acked_dead_alpha, asking_alpha}
use Rattle.mqb_model.specs.runs.Runs.{bounce_heard, bounce_pump, committed_alpha, copy_purged}
use Rattle.mqb_model.specs.runs.Runs.{empty_beta, expired_alpha, express_alpha, express_note}
use Rattle.mqb_model.specs.runs.Runs.{final_heard, final_pump, note_sent, note_taken, noting_alpha}
use Rattle.mqb_model.specs.runs.Runs.{offered_alpha, one_commit, order_heard, order_pump}
use Rattle.mqb_model.specs.runs.Runs.{order_taken, put_beta, receiving_beta, refusal_heard}
use Rattle.mqb_model.specs.runs.Runs.{refusing_beta, rest_pump, rolling_alpha, rolling_commit}
use Rattle.mqb_model.specs.runs.Runs.{sent_and_taken, stopped_alpha, storage_heard, taken_alpha}
use Rattle.mqb_model.specs.runs.Runs.{ten_later, three_alpha, waiting_alpha, with_box, with_notes}
use Rattle.mqb_model.specs.runs.Samples.{alpha, beta, ids_of, manager_of, of_alpha, of_beta}
use Rattle.mqb_model.specs.runs.Samples.{own_notes, parts_of, plan, ready, to_orders, tx_in}

-- a record that a call makes fits
abbrev pub entry_fits : {A : Type 0} → Manager → Outcome A → Bool
entry_fits m outcome = option_map_or (fits m.state) outcome.entry true

-- The message is committed as the first of a sequence, and waits in its row.
pub record OneIsCommitted : Type 0 where
  pub answer : one_commit.answer ≡ Ok (done.Sent (of_alpha 1) (to_orders 1).sequence 1 ∷ [])
  pub lines : lines_after (manager_of alpha beta) one_commit
      ≡ line.Committed (to_orders 1) 1 (of_alpha 1) ∷ []
  pub kept : map (λ row. numbers row.kept) committed_alpha.state.outs ≡ (1 ∷ []) ∷ []
  pub fitting : entry_fits (manager_of alpha beta) one_commit ≡ true

-- It is offered by a record, sent, and put; its acknowledgement is sent, and
-- taken back by a record.
pub record OneIsPut : Type 0 where
  pub offered : order_pump.entry ≡ Some (entry.Offered (record { ordinal = 1; number = 1 } ∷ []))
  pub offered_fits : entry_fits committed_alpha order_pump ≡ true
  pub answered : order_heard.answer ≡ Ok (heard.Put (to_orders 1).sequence 1)
  pub lines : lines_after receiving_beta order_heard ≡ line.Put (to_orders 1) 1 (of_alpha 1) ∷ []
  pub fitting : entry_fits receiving_beta order_heard ≡ true
  pub owes : put_beta.rest.owes ≡ true ∷ []
  pub acked : ack_heard_by_alpha.answer ≡ Ok (heard.OrderAcked 1 1)
  pub left : map (λ row. numbers row.kept) (succeeded committed_alpha ack_heard_by_alpha).state.outs
      ≡ [] ∷ []
  pub taken : lines_after put_beta order_taken ≡ line.Took (of_alpha 1) ∷ []
  pub taken_fits : entry_fits put_beta order_taken ≡ true

-- The message is put here, fills its queue, is taken, and its copy stands in the journal
-- until that is purged.
pub record OneIsTaken : Type 0 where
  pub sent : note_sent.answer ≡ Ok (of_alpha 1)
  pub sent_lines : lines_after with_notes note_sent ≡ line.Local (of_alpha 1) ∷ []
  pub full : (send noting_alpha (parts_of own_notes UNLIMITED 0 (codes "hi")) true 1000).answer
      ≡ Err send_fault.QueueFull
  pub taken_lines : lines_after noting_alpha note_taken ≡ line.Took (of_alpha 1) ∷ []
  pub taken_fits : entry_fits noting_alpha note_taken ≡ true
  pub empty : (take_message taken_alpha (named.Queue (codes "notes")) 1001).answer
      ≡ Err take_fault.QueueEmpty
  pub journal : map (λ q. ids_of q.journal.durable) taken_alpha.state.places.queues
      ≡ (of_alpha 1 ∷ []) ∷ []
  pub purged : copy_purged.answer ≡ Ok 1
  pub purged_lines : lines_after taken_alpha copy_purged ≡ line.Emptied (of_alpha 1) ∷ []
  pub absent : (take_message taken_alpha (named.Queue (codes "none")) 1001).answer
      ≡ Err take_fault.NoQueue

-- The recoverable message finds no queue and is stored all the same; alpha then lets it go.
pub record OneIsReleased : Type 0 where
  pub answered : bounce_heard.answer ≡ Ok (heard.Bounced BAD_DESTINATION)
  pub lines : lines_after empty_beta bounce_heard ≡ line.Bounced BAD_DESTINATION (of_alpha 1) ∷ []
  pub unrecorded : bounce_pump.entry ≡ None
  pub storage : storage_heard.answer ≡ Ok heard.Session
  pub released : storage_heard.entry ≡ Some (entry.Arrived 1004 (1 ∷ []) entry.Nothing)
  pub released_lines : lines_after (succeeded waiting_alpha bounce_pump) storage_heard
      ≡ line.Released (of_alpha 1) ∷ []
  pub fitting : entry_fits (succeeded waiting_alpha bounce_pump) storage_heard ≡ true

-- The message with the dead-letter bit is refused and its row owes an acknowledgement.
-- Its source keeps it until the final acknowledgement, by which it goes to the
-- transactional dead-letter queue.
pub record OneIsRefused : Type 0 where
  pub answer : refusal_heard.answer ≡ Ok (heard.Refused (to_orders 1).sequence 1 BAD_DESTINATION)
  pub lines : lines_after empty_beta refusal_heard
      ≡ line.Refused (to_orders 1) 1 BAD_DESTINATION (of_alpha 1) ∷ []
  pub notice : map (λ p. ids_of (messages_of p.recoverable)) refusing_beta.state.plain
      ≡ (of_beta 1 ∷ []) ∷ []
  pub owes : refusing_beta.rest.owes ≡ true ∷ []
  pub pumped : final_pump.answer ≡ Ok 2
  pub kept : map (λ row. numbers row.kept) acked_dead_alpha.state.outs ≡ (1 ∷ []) ∷ []
  pub final : final_heard.answer ≡ Ok (heard.Final (of_alpha 1) BAD_DESTINATION)
  pub stored : lines_after acked_dead_alpha final_heard ≡ line.Stored (of_beta 1) ∷ []
  pub buried : ids_of (succeeded acked_dead_alpha final_heard).state.places.dead_xact.durable
      ≡ of_alpha 1 ∷ []

-- The second message expires and goes to the transactional dead-letter queue; the third goes with
-- the first before it. An offered message does not expire.
pub record OneExpires : Type 0 where
  pub answer : ten_later.answer ≡ Ok (record { durable = 1; express = 0 })
  pub lines : lines_after three_alpha ten_later
      ≡ line.Expired (to_orders 1) 2 (of_alpha 2) 1010 ∷ []
  pub buried : ids_of expired_alpha.state.places.dead_xact.durable ≡ of_alpha 2 ∷ []
  pub heads : map tx_in rest_pump.packets
      ≡ Some (record { sequence = (to_orders 1).sequence; number = 1; previous = 0 })
      ∷ Some (record { sequence = (to_orders 1).sequence; number = 3; previous = 1 }) ∷ []
  pub offered : rest_pump.entry ≡ Some (entry.Offered (record { ordinal = 1; number = 3 } ∷ []))
  pub stays : (tick offered_alpha 1010).entry ≡ None

-- Where sequences are full with two messages, the third begins a new one, which is not open before
-- the first is acknowledged.
pub record OneRolls : Type 0 where
  pub lines : lines_after rolling_alpha rolling_commit
      ≡ line.Committed (to_orders 1) 1 (of_alpha 1)
      ∷ line.Committed (to_orders 1) 2 (of_alpha 2)
      ∷ line.Committed (to_orders 2) 1 (of_alpha 3) ∷ []
  pub pumped : (pump (ready (succeeded rolling_alpha rolling_commit) beta) 1001).answer ≡ Ok 2

-- An express message has no record, takes an express number, and is gone after a restart.
pub record OneIsExpress : Type 0 where
  pub sent : express_note.answer ≡ Ok (of_alpha FIRST_EXPRESS)
  pub unrecorded : express_note.entry ≡ None
  pub put : map (λ q. ids_of q.lists.express) express_alpha.state.places.queues
      ≡ (of_alpha FIRST_EXPRESS ∷ []) ∷ []
  pub gone : map (λ q. ids_of q.lists.express) (restarted express_alpha false).state.places.queues
      ≡ [] ∷ []

-- A notice that leads nowhere is dropped and takes no number.
pub record OneIsDropped : Type 0 where
  pub next : asking_alpha.state.next_number ≡ 2
  pub waiting : map (λ p. ids_of (messages_of p.recoverable)) asking_alpha.state.plain ≡ [] ∷ []

-- A take of a transaction sees no send of it, and a record that does not fit is not applied.
pub record OneIsUnseen : Type 0 where
  pub commits : (commit with_box sent_and_taken 1000).answer
      ≡ Err (commit_fault.AtOp 1 op_fault.QueueEmpty)
  pub unfit : applied with_box.state (entry.CreateQueue 1 (plan (codes "box") true 9 false)) ≡ None

-- The disk fails under a transaction: alpha is down with the record in doubt. Over a store that has
-- the record it is as if the call had gone well, over one that has not as if there had been none,
-- and where the disk fails again the doubt stays.
pub record OneIsInDoubt : Type 0 where
  pub down : stopped_alpha.condition ≡ Down one_commit.entry
  pub kept : (restarted stopped_alpha true).state
      ≡ (succeeded (manager_of alpha beta) one_commit).state
  pub kept_lines : lines_in_doubt stopped_alpha ≡ lines_after (manager_of alpha beta) one_commit
  pub lost : (restarted stopped_alpha false).state ≡ (manager_of alpha beta).state
  pub up : (restarted stopped_alpha true).condition ≡ Up
  pub still_down : (unread stopped_alpha).condition ≡ Down one_commit.entry
  pub down_anew : (unread (manager_of alpha beta)).condition ≡ Down None
