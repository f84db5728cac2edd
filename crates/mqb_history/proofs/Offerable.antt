-- What could go in a pump: what counts as stored among it, and the messages of each lane that were not sent.
use Rattle.std.proofs.Common.{refl, ap, ◌∙◌}
use Rattle.std.specs.List.{AllByRecursion, cons_option, enumerate_from, flat_map}
use Rattle.std.specs.Prelude.{[], ◌&&◌, ◌+◌, ◌++◌, ◌==◌, ◌∷◌, ◌≡◌, Bool, List, None, Some, cond, false, filter_map, is_none, map, not, true, zip, ℕ}
use Rattle.mqb_base.specs.declared.ids.Guid.{Guid}
use Rattle.mqb_base.specs.declared.ids.Identity.{Identity}
use Rattle.mqb_base.specs.declared.ids.MessageId.{MessageId}
use Rattle.mqb_base.specs.declared.message.Message.{Message}
use Rattle.mqb_orders.specs.Rows.{Row, is_open}
use Rattle.mqb_orders.specs.declared.kept.Kept.{Kept}
use Rattle.mqb_orders.specs.declared.rows.InRow.{InRow}
use Rattle.mqb_plain.specs.Plain.{PlainLists, outgoing_in}
use Rattle.mqb_plain.specs.declared.outgoing.Outgoing.{Outgoing}
use Rattle.mqb_session.specs.State as one_end
use Rattle.mqb_base.specs.declared.message.Lane.{Lane}
use Rattle.mqb_base.specs.declared.message.Lane.TheVariants as lane
use Rattle.mqb_model.specs.calls.pump.Candidates.{Candidate, acks, candidates, of_row, plain_candidates, row_candidates, rows_owing, unsent_from, unsent_of, waiting}
use Rattle.mqb_model.specs.calls.pump.Choosing.{candidate_size, chosen, may_follow, session_after}
use Rattle.mqb_model.specs.managers.Beside.{OfExpress, OfRecoverable}
use Rattle.mqb_model.specs.managers.Manager.{Rest}
use Rattle.mqb_model.specs.rules.Numbers.{express_after}
use Rattle.mqb_model.specs.state.State.{State}
use Rattle.mqb_history.proofs.Lists.{all_append, append_nothing}
use Rattle.mqb_history.proofs.Unreleased.{IsBorne, IsExpress, PlainWaits}
use Rattle.mqb_history.proofs.Pumped.{IsRight, filter_append, from_lane, unsent_in}

-- those that are right, and the messages of each lane among them
pub record AreThese (ms : Lane → List Message) (cs : List Candidate) : Type 0 where
  pub right : AllByRecursion IsRight cs
  pub lanes : (kind : Lane) → filter_map (from_lane kind) cs ≡ ms kind

abbrev nothing : Lane → List Message
nothing kind = []

-- of one lane alone
abbrev only : Lane → List Message → Lane → List Message
only lane.Durable ms lane.Durable = ms
only lane.Express ms lane.Express = ms
only _ ms other = []

only_none : (one other : Lane) → [] ≡ only one [] other
only_none lane.Durable lane.Durable = refl
only_none lane.Durable lane.Express = refl
only_none lane.Express lane.Durable = refl
only_none lane.Express lane.Express = refl

these_append : (ms ns : Lane → List Message) (cs ds : List Candidate) → AreThese ms cs → AreThese ns ds → AreThese (λ kind. ms kind ++ ns kind) (cs ++ ds)
these_append ms ns cs ds h g = record {
  right = all_append IsRight cs ds h.right g.right;
  lanes = λ kind. filter_append (from_lane kind) cs ds ∙ ap (λ xs. xs ++ filter_map (from_lane kind) ds) (h.lanes kind) ∙ ap (λ xs. ms kind ++ xs) (g.lanes kind);
}

acks_these : (s : State) (peer : Identity) (now number : ℕ) (rows : List (ℕ × InRow)) → AreThese nothing (acks s peer now number rows)
acks_these s peer now number [] = record { right = tt; lanes = λ kind. refl }
acks_these s peer now number (row ∷ rows) = let rest = acks_these s peer now (express_after number) rows in record { right = (refl, rest.right); lanes = by rest.lanes }
  where
    by : ((kind : Lane) → filter_map (from_lane kind) (acks s peer now (express_after number) rows) ≡ []) → (kind : Lane) → filter_map (from_lane kind) (acks s peer now number (row ∷ rows)) ≡ []
    by rest lane.Durable = rest lane.Durable
    by rest lane.Express = rest lane.Express

recoverable_these : (own : Guid) (Bears : ℕ → MessageId → Type 0) (os : List Outgoing) → AllByRecursion (IsBorne own Bears) os
    → AreThese (only lane.Durable (filter_map unsent_in os)) (filter_map (unsent_from OfRecoverable) os)
recoverable_these own Bears [] h = record { right = tt; lanes = only_none lane.Durable }
recoverable_these own Bears (o ∷ os) h = at (is_none o.mark) (recoverable_these own Bears os h.1)
  where
    at : (b : Bool) → AreThese (only lane.Durable (filter_map unsent_in os)) (filter_map (unsent_from OfRecoverable) os)
        → AreThese (only lane.Durable (cons_option (cond b (Some o.message) None) (filter_map unsent_in os)))
        (cons_option (cond b (Some (record { origin = OfRecoverable; message = o.message; tx = None })) None) (filter_map (unsent_from OfRecoverable) os))
    at true rest = record { right = (ap not h.0.durable, rest.right); lanes = by }
      where
        by : (kind : Lane) → filter_map (from_lane kind) (record { origin = OfRecoverable; message = o.message; tx = None } ∷ filter_map (unsent_from OfRecoverable) os)
            ≡ only lane.Durable (o.message ∷ filter_map unsent_in os) kind
        by lane.Durable = ap (λ ms. o.message ∷ ms) (rest.lanes lane.Durable)
        by lane.Express = rest.lanes lane.Express
    at false rest = rest

express_these : (Bears : ℕ → MessageId → Type 0) (os : List Outgoing) → AllByRecursion (IsExpress Bears) os → AreThese (only lane.Express (filter_map unsent_in os)) (filter_map (unsent_from OfExpress) os)
express_these Bears [] h = record { right = tt; lanes = only_none lane.Express }
express_these Bears (o ∷ os) h = at (is_none o.mark) (express_these Bears os h.1)
  where
    at : (b : Bool) → AreThese (only lane.Express (filter_map unsent_in os)) (filter_map (unsent_from OfExpress) os)
        → AreThese (only lane.Express (cons_option (cond b (Some o.message) None) (filter_map unsent_in os)))
        (cons_option (cond b (Some (record { origin = OfExpress; message = o.message; tx = None })) None) (filter_map (unsent_from OfExpress) os))
    at true rest = record { right = (ap not h.0.0, rest.right); lanes = by }
      where
        by : (kind : Lane) → filter_map (from_lane kind) (record { origin = OfExpress; message = o.message; tx = None } ∷ filter_map (unsent_from OfExpress) os)
            ≡ only lane.Express (o.message ∷ filter_map unsent_in os) kind
        by lane.Durable = rest.lanes lane.Durable
        by lane.Express = ap (λ ms. o.message ∷ ms) (rest.lanes lane.Express)
    at false rest = rest

kept_these : (index : ℕ) (row : Row) (ks : List Kept) → AreThese nothing (map (of_row index row) ks)
kept_these index row [] = record { right = tt; lanes = λ kind. refl }
kept_these index row (k ∷ ks) = let rest = kept_these index row ks in record { right = (refl, rest.right); lanes = by rest.lanes }
  where
    by : ((kind : Lane) → filter_map (from_lane kind) (map (of_row index row) ks) ≡ []) → (kind : Lane) → filter_map (from_lane kind) (map (of_row index row) (k ∷ ks)) ≡ []
    by rest lane.Durable = rest lane.Durable
    by rest lane.Express = rest lane.Express

waiting_these : (s : State) (peer index : ℕ) (row : Row) (cursor : ℕ) → AreThese nothing (waiting s peer (index, (row, cursor)))
waiting_these s peer index row cursor = at ((row.peer == peer) && is_open s.outs index)
  where
    at : (b : Bool) → AreThese nothing (cond b (map (of_row index row) (unsent_of row cursor)) [])
    at true = kept_these index row (unsent_of row cursor)
    at false = record { right = tt; lanes = λ kind. refl }

rows_these : (s : State) (peer n : ℕ) (rows : List Row) (cursors : List ℕ) → AreThese nothing (flat_map (waiting s peer) (enumerate_from n (zip rows cursors)))
rows_these s peer n [] cursors = record { right = tt; lanes = λ kind. refl }
rows_these s peer n (row ∷ rows) [] = record { right = tt; lanes = λ kind. refl }
rows_these s peer n (row ∷ rows) (cursor ∷ cursors) = these_append nothing nothing (waiting s peer (n, (row, cursor))) (flat_map (waiting s peer) (enumerate_from (n + 1) (zip rows cursors)))
    (waiting_these s peer n row cursor) (rows_these s peer (n + 1) rows cursors)

pub candidates_these : (own : Guid) (Bears : Lane → ℕ → MessageId → Type 0) (s : State) (rest : Rest) (now k : ℕ) (peer : Identity) (p : PlainLists) → PlainWaits own Bears p
    → AreThese (λ kind. filter_map unsent_in (outgoing_in kind p)) (candidates s rest now k peer p)
candidates_these own Bears s rest now k peer p h = record { right = all.right; lanes = λ kind. all.lanes kind ∙ by kind }
  where
    plain : Lane → List Message
    plain kind = only lane.Durable (filter_map unsent_in p.recoverable) kind ++ only lane.Express (filter_map unsent_in p.express) kind

    all : AreThese (λ kind. plain kind ++ []) (candidates s rest now k peer p)
    all = these_append plain nothing (acks s peer now s.next_express (rows_owing s rest peer.guid) ++ plain_candidates p) (row_candidates s rest k)
        (these_append nothing plain (acks s peer now s.next_express (rows_owing s rest peer.guid)) (plain_candidates p)
        (acks_these s peer now s.next_express (rows_owing s rest peer.guid))
        (these_append (only lane.Durable (filter_map unsent_in p.recoverable)) (only lane.Express (filter_map unsent_in p.express)) (filter_map (unsent_from OfRecoverable) p.recoverable)
        (filter_map (unsent_from OfExpress) p.express) (recoverable_these own (Bears lane.Durable) p.recoverable h.recoverable) (express_these (Bears lane.Express) p.express h.express)))
        (rows_these s k 0 s.outs rest.cursors)

    by : (kind : Lane) → plain kind ++ [] ≡ filter_map unsent_in (outgoing_in kind p)
    by lane.Durable = append_nothing (filter_map unsent_in p.recoverable ++ []) ∙ append_nothing (filter_map unsent_in p.recoverable)
    by lane.Express = append_nothing (filter_map unsent_in p.express)

-- the chosen ones come first
pub chosen_first : (session : one_end.State) (count bytes : ℕ) (cs : List Candidate) → (others : List Candidate) × (cs ≡ chosen session count bytes cs ++ others)
chosen_first session count bytes [] = ([], refl)
chosen_first session count bytes (c ∷ cs) = at (may_follow session count bytes c) (chosen_first (session_after session c) (count + 1) (bytes + candidate_size c) cs)
  where
    behind : List Candidate
    behind = chosen (session_after session c) (count + 1) (bytes + candidate_size c) cs

    at : (b : Bool) → (others : List Candidate) × (cs ≡ behind ++ others) → (others : List Candidate) × ((c ∷ cs) ≡ cond b (c ∷ behind) [] ++ others)
    at true rest = (rest.0, ap (λ xs. c ∷ xs) rest.1)
    at false rest = (c ∷ cs, refl)

pub all_left : (xs ys : List Candidate) → AllByRecursion IsRight (xs ++ ys) → AllByRecursion IsRight xs
all_left [] ys h = tt
all_left (x ∷ xs) ys h = (h.0, all_left xs ys h.1)
