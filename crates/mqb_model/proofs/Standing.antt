-- A manager stays valid where a call changes nothing, where its connection ends, and where it sends anew.
use Rattle.std.proofs.Common.{refl, ap, sym, subst, ◌∙◌, length, arith, ◌-◌}
use Rattle.std.proofs.lemmas.List.{length-map}
use Rattle.std.proofs.lemmas.List.Elements.{All-map}
use Rattle.std.proofs.lemmas.Slice.Zip.{firsts-zip}
use Rattle.std.specs.List.{flat_map}
use Rattle.std.specs.Option.{option_map_or}
use Rattle.std.specs.Prelude.{◌++◌, ◌∷◌, ◌≡◌, [], All, AllPairs, IfSome, List, None, Option, Some, false, map, replicate, true, zip, ℕ}
use Rattle.mqb_base.specs.Same.{same_id}
use Rattle.mqb_model.specs.records.Packets.{is_recoverable}
use Rattle.mqb_orders.specs.Rows.{Row}
use Rattle.mqb_packet.specs.declared.packet.Headers.TheVariants as headers
use Rattle.mqb_plain.specs.Lists.{messages_of, unmarked, unsent}
use Rattle.mqb_plain.specs.Plain.{PlainLists}
use Rattle.mqb_plain.specs.declared.outgoing.Outgoing.{Outgoing}
use Rattle.mqb_session.specs.State as one_end
use Rattle.mqb_model.specs.Lists.{grown}
use Rattle.mqb_model.specs.calls.Link.{begun_anew, rewound}
use Rattle.mqb_model.specs.declared.limits.TheConstants.{FIRST_EXPRESS}
use Rattle.mqb_model.specs.laws.Validity.{RefusedIsSame, ResentIsValid, SetIsValid, UnlinkedIsValid}
use Rattle.mqb_model.specs.managers.Beside as beside
use Rattle.mqb_model.specs.managers.Beside.{all_unmarked, beside_done}
use Rattle.mqb_model.specs.managers.Manager.{Condition, Down, Manager, Rest, Up, doubt_of, linked_peer, rest_for}
use Rattle.mqb_model.specs.managers.Valid.{IsExpressValid, IsLinkedWell, IsUnsent, IsValidManager, IsWritable, MarksRise, express_waiting}
use Rattle.mqb_model.specs.records.Applying.{fits, is_setting, with_setting}
use Rattle.mqb_model.specs.records.Record.{Record, Roll, Setting}
use Rattle.mqb_model.specs.state.Durable.{durable, durable_places, durable_plain}
use Rattle.mqb_model.specs.state.Places.{is_express}
use Rattle.mqb_model.specs.state.State.{State}
use Rattle.mqb_model.specs.state.Valid.{AreSettings, IsCarried, IsOwn, IsValidState, kept_messages, recoverable_messages}
use Rattle.mqb_model.proofs.Applying.{durable_is_fitted}
use Rattle.mqb_model.proofs.Durable.{messages_stay}
use Rattle.mqb_model.proofs.Validity.{grown_length, in_order, unsent_items}

-- A number and a mark for each row.

append_nothing : {X : Type 0} (xs : List X) → xs ++ [] ≡ xs
append_nothing [] = refl
append_nothing (x ∷ xs) = ap (λ rest. x ∷ rest) (append_nothing xs)

-- nothing is added to a list that is long enough
pub stays : {X : Type 0} (blank : X) (n : ℕ) (xs : List X) → length xs ≡ n → grown blank n xs ≡ xs
stays blank n xs e = let none : n - length xs ≡ 0 = omega arith in
    ap (λ k. xs ++ replicate k blank) none ∙ append_nothing xs

rest_stays : (s : State) (rest : Rest) → length rest.cursors ≡ length s.outs → length rest.owes ≡ length s.ins → rest_for s rest ≡ rest
rest_stays s rest c o = ap (λ ns. record rest { cursors = ns; owes = grown false (length s.ins) rest.owes }) (stays 0 (length s.outs) rest.cursors c)
    ∙ ap (λ bs. record rest { owes = bs }) (stays false (length s.ins) rest.owes o)

pub refused_is_same : RefusedIsSame
refused_is_same m answer v = ap (λ rest. record m { rest = rest }) (rest_stays m.state m.rest v.cursors v.owes)

-- No plain message counts as sent any more.

recoverable_same : (ps : List PlainLists) → flat_map (λ p. messages_of p.recoverable) (map all_unmarked ps) ≡ flat_map (λ p. messages_of p.recoverable) ps
recoverable_same [] = refl
recoverable_same (p ∷ ps) = ap (λ ms. ms ++ flat_map (λ p. messages_of p.recoverable) (map all_unmarked ps)) (messages_stay p.recoverable)
    ∙ ap (λ ms. messages_of p.recoverable ++ ms) (recoverable_same ps)

express_same : (ps : List PlainLists) → flat_map (λ p. messages_of p.express) (map all_unmarked ps) ≡ flat_map (λ p. messages_of p.express) ps
express_same [] = refl
express_same (p ∷ ps) = ap (λ ms. ms ++ flat_map (λ p. messages_of p.express) (map all_unmarked ps)) (messages_stay p.express)
    ∙ ap (λ ms. messages_of p.express ++ ms) (express_same ps)

-- the state after the connection
abbrev unmarked_state : State → State
unmarked_state s = beside_done beside.Unmarks s

unmarked_valid : (s : State) → IsValidState s → IsValidState (unmarked_state s)
unmarked_valid s v = record {
  few_peers = v.few_peers;
  few_queues = v.few_queues;
  peers_differ = v.peers_differ;
  queues_differ = v.queues_differ;
  plain_lists = length-map s.plain all_unmarked ∙ v.plain_lists;
  hosts = v.hosts;
  ordinals_rise = v.ordinals_rise;
  ordinals_given = v.ordinals_given;
  rows = v.rows;
  sources_differ = v.sources_differ;
  outs_to_queues = v.outs_to_queues;
  ins_to_queues = v.ins_to_queues;
  kept = v.kept;
  plain = subst (λ ms. All (IsCarried headers.Session) ms) (sym plain) v.plain;
  placed = v.placed;
  recoverable = subst (λ ms. All (λ m. is_recoverable m.delivery ≡ true) ms) (sym plain) v.recoverable;
  durable = v.durable;
  next_number = v.next_number;
  next_ordinal = v.next_ordinal;
  settings = v.settings;
  own = subst (λ ms. All (IsOwn s.identity.guid s.next_number) (kept_messages s ++ ms)) (sym plain) v.own;
  ids_differ = subst (λ ms. AllPairs (λ a b. same_id a.id b.id ≡ false) (kept_messages s ++ ms)) (sym plain) v.ids_differ;
}
  where
    plain : recoverable_messages (unmarked_state s) ≡ recoverable_messages s
    plain = recoverable_same s.plain

express_valid : (s : State) → IsExpressValid s → IsExpressValid (unmarked_state s)
express_valid s v = record {
  placed = v.placed;
  waiting = subst (λ ms. All (IsCarried headers.Session) ms) (sym waiting) v.waiting;
  placed_express = v.placed_express;
  waiting_express = subst (λ ms. All (λ m. is_express m.delivery ≡ true) ms) (sym waiting) v.waiting_express;
  next_express = v.next_express;
}
  where
    waiting : express_waiting (unmarked_state s) ≡ express_waiting s
    waiting = express_same s.plain

none_sent : (ps : List PlainLists) → All IsUnsent (map all_unmarked ps)
none_sent ps = All-map IsUnsent all_unmarked ps (λ k d lt. record { recoverable = unsent_items _; express = unsent_items _ })

none_in_order : (ps : List PlainLists) → All MarksRise (map all_unmarked ps)
none_in_order ps = All-map MarksRise all_unmarked ps (λ k d lt. record { recoverable = in_order _; express = in_order _ })

-- A store stands for the same whether messages are marked or not.

unmarked_again : (items : List Outgoing) → unmarked (unmarked items) ≡ unmarked items
unmarked_again [] = refl
unmarked_again (o ∷ items) = ap (λ os. unsent o.message ∷ os) (unmarked_again items)

-- the lists of a store with these recoverable messages
abbrev recoverable_alone : List Outgoing → PlainLists
recoverable_alone os = record { recoverable = os; express = [] }

durable_again : (ps : List PlainLists) → map durable_plain (map all_unmarked ps) ≡ map durable_plain ps
durable_again [] = refl
durable_again (p ∷ ps) = ap (λ os. recoverable_alone os ∷ map durable_plain (map all_unmarked ps)) (unmarked_again p.recoverable)
    ∙ ap (λ rest. durable_plain p ∷ rest) (durable_again ps)

pub stands_for : (s : State) → durable (unmarked_state s) ≡ durable s
stands_for s = ap (λ ps. record s { plain = ps; places = durable_places s.places; next_express = FIRST_EXPRESS }) (durable_again s.plain)

still_fits : (s : State) → IsValidState s → (doubt : Option Record) → IfSome doubt (IsWritable s) → IfSome doubt (IsWritable (unmarked_state s))
still_fits s v None w = tt
still_fits s v (Some r) w = record {
  fits = sym (durable_is_fitted (unmarked_state s) r (unmarked_valid s v)) ∙ ap (λ left. fits left r) (stands_for s) ∙ durable_is_fitted s r v ∙ w.fits;
  read = w.read;
}

linked_well : (s : State) (c : Condition) → IsLinkedWell (unmarked_state s) c None
linked_well s Up = none_sent s.plain
linked_well s (Down doubt) = refl

pub unlinked_is_valid : UnlinkedIsValid
unlinked_is_valid m v = record {
  state = unmarked_valid m.state v.state;
  express = express_valid m.state v.express;
  marks = none_in_order m.state.plain;
  session = linked_well m.state m.condition;
  cursors = grown_length 0 (length m.state.outs);
  owes = grown_length false (length m.state.ins);
  doubt = still_fits m.state v.state (doubt_of m.condition) v.doubt;
}

-- A row begins anew.

rewound_length : (peer : ℕ) (rows : List Row) (ns : List ℕ) → length ns ≡ length rows → length (map (begun_anew peer) (zip rows ns)) ≡ length rows
rewound_length peer rows ns e = length-map (zip rows ns) (begun_anew peer) ∙ sym (length-map (zip rows ns) (λ p. p.0)) ∙ ap length (firsts-zip rows ns e)

-- the rest may change where the session and the lengths stay
rests : (m : Manager) (rest : Rest) → IsValidManager m → rest.session ≡ m.rest.session → length rest.cursors ≡ length m.state.outs
    → length rest.owes ≡ length m.state.ins → IsValidManager (record m { rest = rest_for m.state rest })
rests m rest v s c o = record {
  state = v.state;
  express = v.express;
  marks = v.marks;
  session = subst (IsLinkedWell m.state m.condition) (sym s) v.session;
  cursors = ap length (stays 0 (length m.state.outs) rest.cursors c) ∙ c;
  owes = ap length (stays false (length m.state.ins) rest.owes o) ∙ o;
  doubt = v.doubt;
}

pub resent_is_valid : ResentIsValid
resent_is_valid m v = at m.rest.session refl
  where
    -- the rest of a session, or none
    left : Option one_end.State → Rest
    left session = option_map_or (λ session. rewound m.state (linked_peer m.state session) m.rest) session m.rest

    at : (o : Option one_end.State) → m.rest.session ≡ o → IsValidManager (record m { rest = rest_for m.state (left m.rest.session) })
    at None e = subst (λ given. IsValidManager (record m { rest = rest_for m.state (left given) })) (sym e) (rests m m.rest v refl v.cursors v.owes)
    at (Some session) e = subst (λ given. IsValidManager (record m { rest = rest_for m.state (left given) })) (sym e)
        (rests m (left (Some session)) v refl (rewound_length (linked_peer m.state session) m.state.outs m.rest.cursors v.cursors) v.owes)

-- Something is set.

set_soundly : (s : State) (setting : Setting) → is_setting setting ≡ true → AreSettings (with_setting s setting)
set_soundly s (Roll count) f = f

pub set_is_valid : SetIsValid
set_is_valid s setting v f = record {
  few_peers = v.few_peers;
  few_queues = v.few_queues;
  peers_differ = v.peers_differ;
  queues_differ = v.queues_differ;
  plain_lists = v.plain_lists;
  hosts = v.hosts;
  ordinals_rise = v.ordinals_rise;
  ordinals_given = v.ordinals_given;
  rows = v.rows;
  sources_differ = v.sources_differ;
  outs_to_queues = v.outs_to_queues;
  ins_to_queues = v.ins_to_queues;
  kept = v.kept;
  plain = v.plain;
  placed = v.placed;
  recoverable = v.recoverable;
  durable = v.durable;
  next_number = v.next_number;
  next_ordinal = v.next_ordinal;
  settings = set_soundly s setting f;
  own = v.own;
  ids_differ = v.ids_differ;
}
