-- What is done beside records keeps fair what a manager keeps, and so does a restart.
use Rattle.std.proofs.Common.{sym, ◌∙◌, arith}
use Rattle.std.specs.List.{AllByRecursion}
use Rattle.std.specs.Prelude.{[], ◌+◌, ◌∷◌, Bool, List, None, Option, Some, cond, false, fold, is_none, map, not, true, ℕ}
use Rattle.mqb_base.specs.declared.class.Class.{Class}
use Rattle.mqb_base.specs.declared.class.TheConstants.Class.{REACHED_QUEUE}
use Rattle.mqb_base.specs.declared.heads.SessionHead.{SessionHead}
use Rattle.mqb_base.specs.declared.ledger.Line.{Line}
use Rattle.mqb_base.specs.declared.message.Delivery.TheVariants as delivery
use Rattle.mqb_base.specs.declared.message.Lane.{Lane}
use Rattle.mqb_base.specs.declared.message.Lane.TheVariants as lane
use Rattle.mqb_base.specs.declared.message.Message.{Message}
use Rattle.mqb_exactly_once.specs.Words.{In}
use Rattle.mqb_model.specs.managers.Beside.{Beside, Origin, all_unmarked, beside_done, noted, with_marked, without_acked}
use Rattle.mqb_model.specs.managers.Beside as beside
use Rattle.mqb_model.specs.rules.Effects.{begun}
use Rattle.mqb_model.specs.rules.Notices.{arrived}
use Rattle.mqb_model.specs.rules.Numbers.{number_taken}
use Rattle.mqb_model.specs.rules.Sends.{journalled}
use Rattle.mqb_model.specs.state.Durable.{durable, durable_lists, durable_plain, durable_queue}
use Rattle.mqb_model.specs.state.Places.{placed, with_plain}
use Rattle.mqb_model.specs.state.Resolving.{resolved}
use Rattle.mqb_model.specs.state.State.{State}
use Rattle.mqb_plain.specs.Lists.{is_sent_by, marked_next, unmarked}
use Rattle.mqb_plain.specs.Plain.{PlainLists}
use Rattle.mqb_plain.specs.declared.outgoing.Outgoing.{Outgoing}
use Rattle.mqb_queue.specs.Lists.{Lists}
use Rattle.mqb_queue.specs.Places.{Queue}
use Rattle.mqb_history.proofs.Having.{QueueHas}
use Rattle.mqb_history.proofs.Fates.{AllFrom, Frame, IsFair, IsFairExpress, IsWaiting, Keeps, ListsFair, PlainFair, express_fate, reached_fate}
use Rattle.mqb_history.proofs.Fairly.{delivered_keeps, express_number, journalled_keeps, meets_keeps, placed_keeps, plain_keeps}
use Rattle.mqb_history.proofs.Lists.{all_filter, clash}
use Rattle.mqb_history.proofs.Walks.{purged_walks, taken_at_walks, ticked_walks}

-- Beside them.

-- a message that is sent or heard beside a record is fair and express
abbrev pub BesideFair : (Line → Type 0) → Beside → Type 0
BesideFair T (beside.SendsExpress now m) = IsFairExpress T m
BesideFair T (beside.HearsExpress peer number now m refusal) = IsFairExpress T m
BesideFair T _ = Unit {0}

unmarked_all : (P : Message → Type 0) (os : List Outgoing) → AllByRecursion (λ o. P o.message) os → AllByRecursion (λ o. P o.message) (unmarked os)
unmarked_all P [] h = tt
unmarked_all P (o ∷ os) h = (h.0, unmarked_all P os h.1)

marked_all : (P : Message → Type 0) (number : ℕ) (os : List Outgoing) → AllByRecursion (λ o. P o.message) os → AllByRecursion (λ o. P o.message) (marked_next number os)
marked_all P number [] h = tt
marked_all P number (o ∷ os) h = at (is_none o.mark) (marked_all P number os h.1)
  where
    at : (b : Bool) → AllByRecursion (λ o. P o.message) (marked_next number os) → AllByRecursion (λ x. P x.message) (cond b (record o { mark = Some number } ∷ os) (o ∷ marked_next number os))
    at true rest = (h.0, h.1)
    at false rest = (h.0, rest)

from_map : {X Y : Type 0} (P : ℕ → X → Type 0) (Q : ℕ → Y → Type 0) (g : X → Y) → ((k : ℕ) (x : X) → P k x → Q k (g x)) → (k : ℕ) (xs : List X) → AllFrom P k xs → AllFrom Q k (map g xs)
from_map P Q g keeps k [] h = tt
from_map P Q g keeps k (x ∷ xs) h = (keeps k x h.0, from_map P Q g keeps (k + 1) xs h.1)

acked_keeps : (f : Frame) (T : Line → Type 0) (s : State) (peer number : ℕ) → Keeps f T s → Keeps f T (with_plain (without_acked number) s peer)
acked_keeps f T s peer number h = plain_keeps f T s peer (without_acked number) h
    (λ p g. record { recoverable = g.recoverable; express = all_filter (λ (o : Outgoing). IsFairExpress T o.message) (λ o. not (is_sent_by number o)) p.express g.express })

marked_keeps : (f : Frame) (T : Line → Type 0) (goes : ℕ → ℕ) (next k number : ℕ) (kind : Lane) (p : PlainLists) → PlainFair f T goes next k p → PlainFair f T goes next k (with_marked kind number p)
marked_keeps f T goes next k number lane.Durable p g = record { recoverable = marked_all (λ m. IsFair T m × IsWaiting f goes next k m) number p.recoverable g.recoverable; express = g.express }
marked_keeps f T goes next k number lane.Express p g = record { recoverable = g.recoverable; express = marked_all (IsFairExpress T) number p.express g.express }

noted_keeps : (f : Frame) (T : Line → Type 0) (peer : ℕ) (s : State) (given : Origin × SessionHead) → Keeps f T s → Keeps f T (noted peer s given)
noted_keeps f T peer s (beside.Owed row, head) h = express_number f T s h
noted_keeps f T peer s (beside.OfRecoverable, head) h = plain_keeps f T s peer (with_marked lane.Durable head.recoverable) h (marked_keeps f T h.goes s.next_number peer head.recoverable lane.Durable)
noted_keeps f T peer s (beside.OfExpress, head) h = plain_keeps f T s peer (with_marked lane.Express head.user) h (marked_keeps f T h.goes s.next_number peer head.user lane.Express)
noted_keeps f T peer s (beside.OfRow row number, head) h = h

all_noted_keeps : (f : Frame) (T : Line → Type 0) (peer : ℕ) (s : State) (sent : List (Origin × SessionHead)) → Keeps f T s → Keeps f T (fold (noted peer) s sent)
all_noted_keeps f T peer s [] h = h
all_noted_keeps f T peer s (g ∷ gs) h = all_noted_keeps f T peer (noted peer s g) gs (noted_keeps f T peer s g h)

pub beside_keeps : (f : Frame) (ls : List Line) (b : Beside) (s : State) → BesideFair (λ l. In l ls) b → Keeps f (λ l. In l ls) s → Keeps f (λ l. In l ls) (beside_done b s)
beside_keeps f ls beside.Nothing s fair h = h
beside_keeps f ls (beside.SendsExpress now m) s fair h = delivered_keeps f (λ l. In l ls) (journalled t m) (resolved t m.destination) m now
    (journalled_keeps f (λ l. In l ls) t m fair.0 (express_number f (λ l. In l ls) s h)) fair.0 (λ k to. (fair.0, λ e. absurd (clash (sym fair.1 ∙ e))))
  where
    t : State
    t = number_taken s delivery.Express
beside_keeps f ls (beside.TakesExpress now at index) s fair h = taken_at_walks lane.Express f ls at index now (begun s) h
beside_keeps f ls (beside.PurgesExpress now at) s fair h = purged_walks lane.Express f ls at now (begun s) h
beside_keeps f ls (beside.TicksExpress now) s fair h = ticked_walks lane.Express f ls now (begun s) h
beside_keeps f ls beside.Unmarks s fair h = record {
  own = h.own;
  order = h.order;
  low = h.low;
  high = h.high;
  express = h.express;
  places = h.places;
  goes = h.goes;
  same = h.same;
  plain = from_map (PlainFair f (λ l. In l ls) h.goes s.next_number) (PlainFair f (λ l. In l ls) h.goes s.next_number) all_unmarked
      (λ k p g. record {
        recoverable = unmarked_all (λ m. IsFair (λ l. In l ls) m × IsWaiting f h.goes s.next_number k m) p.recoverable g.recoverable;
        express = unmarked_all (IsFairExpress (λ l. In l ls)) p.express g.express;
      }) 0 s.plain h.plain;
  outs = h.outs;
}
beside_keeps f ls (beside.DropsExpress peer number) s fair h = acked_keeps f (λ l. In l ls) s peer number h
beside_keeps f ls (beside.HearsExpress peer number now m refusal) s fair h = at refusal
  where
    t : State
    t = with_plain (without_acked number) s peer

    left : Keeps f (λ l. In l ls) t
    left = acked_keeps f (λ l. In l ls) s peer number h

    at : (o : Option Class) → Keeps f (λ l. In l ls) (arrived t m now o)
    at None = meets_keeps f (λ l. In l ls) (placed t (resolved t m.destination) m) m REACHED_QUEUE now fair.0 (reached_fate (λ l. In l ls) m.id)
        (placed_keeps f (λ l. In l ls) t (resolved t m.destination) m left fair.0 (λ k to. (fair.0, λ e. absurd (clash (sym fair.1 ∙ e)))))
    at (Some class) = meets_keeps f (λ l. In l ls) t m class now fair.0 (express_fate (λ l. In l ls) m.id class (fair.0.express fair.1)) left
beside_keeps f ls (beside.NotesSent peer sent) s fair h = all_noted_keeps f (λ l. In l ls) peer s sent h

-- What a store stands for.

lists_durable : (T : Line → Type 0) (l : Lists) → ListsFair T l → ListsFair T (durable_lists l)
lists_durable T l h = record { durable = h.durable; express = tt }

queues_durable : (T : Line → Type 0) (qs : List Queue) → AllByRecursion (QueueHas (ListsFair T)) qs → AllByRecursion (QueueHas (ListsFair T)) (map durable_queue qs)
queues_durable T [] h = tt
queues_durable T (q ∷ qs) h = ((lists_durable T q.lists h.0.0, lists_durable T q.journal h.0.1), queues_durable T qs h.1)

pub durable_keeps : (f : Frame) (T : Line → Type 0) (s : State) → Keeps f T s → Keeps f T (durable s)
durable_keeps f T s h = record {
  own = h.own;
  order = h.order;
  low = h.low;
  high = h.high;
  express = omega arith;
  places = record {
    queues = queues_durable T s.places.queues h.places.queues;
    dead = lists_durable T s.places.dead h.places.dead;
    dead_xact = lists_durable T s.places.dead_xact h.places.dead_xact;
    journal = lists_durable T s.places.journal h.places.journal;
  };
  goes = h.goes;
  same = h.same;
  plain = from_map (PlainFair f T h.goes s.next_number) (PlainFair f T h.goes s.next_number) durable_plain
      (λ k p g. record { recoverable = unmarked_all (λ m. IsFair T m × IsWaiting f h.goes s.next_number k m) p.recoverable g.recoverable; express = tt }) 0 s.plain h.plain;
  outs = h.outs;
}
