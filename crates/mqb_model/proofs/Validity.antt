-- Managers begin valid, and stay so where a disk fails and where they are started again.
use Rattle.std.proofs.Common.{refl, ap, sym, subst, ◌∙◌, length, arith, ◌-◌}
use Rattle.std.proofs.lemmas.List.{length-replicate}
use Rattle.std.proofs.lemmas.List.Elements.{All-nil, All-map}
use Rattle.std.specs.List.{flat_map}
use Rattle.std.specs.Prelude.{◌++◌, ◌∷◌, ◌≡◌, [], All, IfSome, IsNone, List, None, Option, Some, false, map, true, ℕ}
use Rattle.mqb_base.specs.declared.ids.Identity.{Identity}
use Rattle.mqb_base.specs.declared.message.Message.{Message}
use Rattle.mqb_packet.specs.declared.packet.Headers.TheVariants as headers
use Rattle.mqb_plain.specs.Lists.{InOrder, messages_of, unmarked, unsent}
use Rattle.mqb_plain.specs.Plain.{PlainLists}
use Rattle.mqb_plain.specs.declared.outgoing.Outgoing.{Outgoing}
use Rattle.mqb_queue.specs.Places.{Queue}
use Rattle.mqb_model.specs.laws.Validity.{FailedIsValid, LostIsValid, NewIsValid, RestartedIsValid, UnreadIsValid}
use Rattle.mqb_model.specs.Lists.{grown}
use Rattle.mqb_model.specs.managers.Manager.{doubt_of}
use Rattle.mqb_model.specs.records.Record.{Record}
use Rattle.mqb_model.specs.managers.Valid.{IsExpressValid, IsUnsent, IsWritable, MarksRise, express_placed, express_waiting}
use Rattle.mqb_model.specs.state.Durable.{durable, durable_plain, durable_queue}
use Rattle.mqb_model.specs.state.State.{State, empty}
use Rattle.mqb_model.specs.state.Places.{is_express}
use Rattle.mqb_model.specs.state.Valid.{IsCarried, IsValidState}
use Rattle.mqb_model.proofs.Applying.{durable_is_fitted}
use Rattle.mqb_model.proofs.Durable.{durable_is_valid}

-- Nothing is express, and nothing was sent.

no_placed : (qs : List Queue) → flat_map (λ q. q.lists.express ++ q.journal.express) (map durable_queue qs) ≡ []
no_placed [] = refl
no_placed (q ∷ qs) = no_placed qs

no_waiting : (ps : List PlainLists) → flat_map (λ p. messages_of p.express) (map durable_plain ps) ≡ []
no_waiting [] = refl
no_waiting (p ∷ ps) = no_waiting ps

placed_nowhere : (s : State) → express_placed (durable s) ≡ []
placed_nowhere s = ap (λ ms. ms ++ [] ++ [] ++ []) (no_placed s.places.queues)

all_of_none : (P : Message → Type 0) (ms : List Message) → ms ≡ [] → All P ms
all_of_none P ms e = subst (All P) (sym e) (All-nil P)

express_valid : (s : State) → IsExpressValid (durable s)
express_valid s = record {
  placed = all_of_none (IsCarried headers.Bare) (express_placed (durable s)) (placed_nowhere s);
  waiting = all_of_none (IsCarried headers.Session) (express_waiting (durable s)) (no_waiting s.plain);
  placed_express = all_of_none (λ m. is_express m.delivery ≡ true) (express_placed (durable s)) (placed_nowhere s);
  waiting_express = all_of_none (λ m. is_express m.delivery ≡ true) (express_waiting (durable s)) (no_waiting s.plain);
  next_express = (omega arith, omega arith);
}

pub unsent_items : (items : List Outgoing) → All (λ o. IsNone o.mark) (unmarked items)
unsent_items items = All-map (λ o. IsNone o.mark) (λ o. unsent o.message) items (λ k d lt. refl)

pub in_order : (items : List Outgoing) → InOrder (unmarked items)
in_order [] = tt
in_order (o ∷ items) = unsent_items items

all_unsent : (ps : List PlainLists) → All IsUnsent (map durable_plain ps)
all_unsent ps = All-map IsUnsent durable_plain ps (λ k d lt. record { recoverable = unsent_items _; express = All-nil (λ o. IsNone o.mark) })

all_rise : (ps : List PlainLists) → All MarksRise (map durable_plain ps)
all_rise ps = All-map MarksRise durable_plain ps (λ k d lt. record { recoverable = in_order _; express = tt })

-- A number and a mark for each row.

pub grown_length : {X : Type 0} (blank : X) (n : ℕ) → length (grown blank n []) ≡ n
grown_length blank n = let same : n - 0 ≡ n = omega arith in length-replicate (n - 0) blank ∙ same

pub restarted_is_valid : RestartedIsValid
restarted_is_valid s v = record {
  state = durable_is_valid s v;
  express = express_valid s;
  marks = all_rise s.plain;
  session = all_unsent s.plain;
  cursors = grown_length 0 (length s.outs);
  owes = grown_length false (length s.ins);
  doubt = tt;
}

pub lost_is_valid : LostIsValid
lost_is_valid m v = restarted_is_valid m.state v.state

pub failed_is_valid : FailedIsValid
failed_is_valid m r v fitting = record {
  state = v.state;
  express = v.express;
  marks = v.marks;
  session = refl;
  cursors = grown_length 0 (length m.state.outs);
  owes = grown_length false (length m.state.ins);
  doubt = fitting;
}

pub unread_is_valid : UnreadIsValid
unread_is_valid m v = record {
  state = durable_is_valid m.state v.state;
  express = express_valid m.state;
  marks = all_rise m.state.plain;
  session = refl;
  cursors = grown_length 0 (length m.state.outs);
  owes = grown_length false (length m.state.ins);
  doubt = at (doubt_of m.condition) v.doubt;
}
  where
    at : (o : Option Record) → IfSome o (IsWritable m.state) → IfSome o (IsWritable (durable m.state))
    at None f = tt
    at (Some r) w = record { fits = durable_is_fitted m.state r v.state ∙ w.fits; read = w.read }

empty_is_valid : (identity : Identity) → IsValidState (empty identity)
empty_is_valid identity = record {
  few_peers = omega arith;
  few_queues = omega arith;
  peers_differ = tt;
  queues_differ = tt;
  plain_lists = refl;
  hosts = All-nil _;
  ordinals_rise = λ j k d less lt. absurd (omega arith);
  ordinals_given = All-nil _;
  rows = All-nil _;
  sources_differ = λ j k d less lt. absurd (omega arith);
  outs_to_queues = All-nil _;
  ins_to_queues = All-nil _;
  kept = All-nil _;
  plain = All-nil _;
  placed = All-nil _;
  recoverable = All-nil _;
  durable = All-nil _;
  next_number = (omega arith, omega arith);
  next_ordinal = (omega arith, omega arith);
  settings = refl;
  own = All-nil _;
  ids_differ = λ j k d less lt. absurd (omega arith);
}

pub new_is_valid : NewIsValid
new_is_valid identity = record {
  state = empty_is_valid identity;
  express = record {
    placed = All-nil _;
    waiting = All-nil _;
    placed_express = All-nil _;
    waiting_express = All-nil _;
    next_express = (omega arith, omega arith);
  };
  marks = All-nil _;
  session = All-nil _;
  cursors = refl;
  owes = refl;
  doubt = tt;
}
