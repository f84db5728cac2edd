-- From the start on each manager agrees with the ledger.
use Rattle.std.proofs.Common.{refl, ap, sym, subst, ◌∙◌, arith}
use Rattle.std.specs.Prelude.{[], ◌+◌, ◌++◌, ◌∷◌, Bool, List, None, Option, Some, fold, map, option_map, slice_get, unwrap_or, ℕ}
use Rattle.mqb_base.specs.declared.ids.Identity.{Identity}
use Rattle.mqb_exactly_once.specs.Words.{In}
use Rattle.mqb_model.specs.records.Applying.{apply}
use Rattle.mqb_model.specs.records.Record as entry
use Rattle.mqb_model.specs.state.State.{State, empty}
use Rattle.mqb_network.specs.Courses.{Course}
use Rattle.mqb_network.specs.Laws.{AreApart}
use Rattle.mqb_network.specs.Network.{formatted, nobody, others}
use Rattle.mqb_network.specs.Doubts.{settled}
use Rattle.mqb_network.specs.Runs.{IsRun, Move, after_run, beginning}
use Rattle.mqb_history.specs.Orderly.{IsOrderly}
use Rattle.mqb_history.proofs.Accounted.{Stands, resting}
use Rattle.mqb_history.proofs.Accounts.{StillMay}
use Rattle.mqb_history.proofs.Each.{each_begins}
use Rattle.mqb_history.proofs.Fates.{AllFrom, PlainFair}
use Rattle.mqb_history.proofs.Keeping.{IsClosed}
use Rattle.mqb_history.proofs.Leads.{AreLed, led_by_records}
use Rattle.mqb_history.proofs.Orderly.{map_get}
use Rattle.mqb_history.proofs.Runs.{always_kept}
use Rattle.mqb_history.proofs.Written.{IsOrderlyWith, begins_with, by_records}
use Rattle.mqb_history.proofs.Courses.{Agrees, HeardIn, change_agrees}

-- The start.

from_append : {X : Type 0} (P : ℕ → X → Type 0) (k : ℕ) (xs : List X) (y : X) → ((j : ℕ) → P j y) → AllFrom P k xs → AllFrom P k (xs ++ y ∷ [])
from_append P k [] y new h = (new k, tt)
from_append P k (x ∷ xs) y new h = (h.0, from_append P (k + 1) xs y new h.1)

peer_stands : (s : State) (peer : Identity) → Stands [] [] [] [] s → Stands [] [] [] [] (apply s (entry.Peer peer))
peer_stands s peer h = record {
  went = h.went;
  waited = tt;
  selves = tt;
  keeps = record {
    own = h.keeps.own;
    order = h.keeps.order;
    low = h.keeps.low;
    high = h.keeps.high;
    express = h.keeps.express;
    places = h.keeps.places;
    goes = h.keeps.goes;
    same = h.keeps.same;
    plain = from_append (PlainFair (resting s h.went []) (λ l. In l []) h.keeps.goes s.next_number) 0 s.plain (record { recoverable = []; express = [] }) (λ j. record { recoverable = tt; express = tt }) h.keeps.plain;
    outs = h.keeps.outs;
  };
  names = tt;
  locals = λ id stream number a b. a;
  packets = λ p inside qm plain. absurd inside;
}

peers_stand : (s : State) (peers : List Identity) → Stands [] [] [] [] s → Stands [] [] [] [] (fold apply s (map (λ peer. entry.Peer peer) peers))
peers_stand s [] h = h
peers_stand s (p ∷ ps) h = peers_stand (apply s (entry.Peer p)) ps (peer_stands s p h)

empty_stands : (own : Identity) → Stands [] [] [] [] (empty own)
empty_stands own = record {
  went = λ n. 0;
  waited = tt;
  selves = tt;
  keeps = record {
    own = refl;
    order = omega arith;
    low = omega arith;
    high = omega arith;
    express = omega arith;
    places = record { queues = tt; dead = record { durable = tt; express = tt }; dead_xact = record { durable = tt; express = tt }; journal = record { durable = tt; express = tt } };
    goes = λ n. 0;
    same = λ n lt. refl;
    plain = tt;
    outs = tt;
  };
  names = tt;
  locals = λ id stream number a b. a;
  packets = λ p inside qm plain. absurd inside;
}

pub begins_agreeing : (known : List Identity) → Agrees known (beginning known)
begins_agreeing known = record {
  stand = λ i own e. subst (λ o. Stands [] [] [] [] (unwrap_or o nobody).state) (sym (map_get (λ own. formatted own (others known own)) known i ∙ ap (option_map (λ own. formatted own (others known own))) e))
      (peers_stand (empty own) (others known own) (empty_stands own));
  fair = λ p inside. absurd inside;
  senders = λ p inside plain. absurd inside;
  streams = λ p inside tx e. absurd inside;
  heard = each_begins (HeardIn known []) known;
  still = λ i. subst (λ o. StillMay (unwrap_or o nobody)) (sym (map_get (λ own. formatted own (others known own)) known i)) (at (slice_get known i));
}
  where
    at : (o : Option Identity) → StillMay (unwrap_or (option_map (λ own. formatted own (others known own)) o) nobody)
    at None = tt
    at (Some own) = tt

-- At each point of each run.

-- an orderly course whose rows lead where their messages go
abbrev pub IsAgreed : List Identity → Course → Type 0
IsAgreed known c = IsOrderlyWith known AreLed c × Agrees known c

pub agreeing_closed : (known : List Identity) → AreApart known → IsClosed known (IsAgreed known)
agreeing_closed known apart = record {
  orderly = λ c h. h.0.0;
  keeps = λ c x may h. ((by_records known AreLed apart led_by_records).keeps c x may h.0, change_agrees known apart c x may h.0.0 (λ i. (h.0.1 i).1) h.1);
}

pub agreed_begins : (known : List Identity) → IsAgreed known (beginning known)
agreed_begins known = (begins_with known AreLed led_by_records, begins_agreeing known)

pub agreeing : (known : List Identity) → AreApart known → (ms : List Move) → IsRun known ms → (kept : ℕ → Bool)
    → IsOrderly known (settled kept (after_run known ms)) × Agrees known (settled kept (after_run known ms))
agreeing known apart ms run kept = let h = always_kept known (IsAgreed known) (agreeing_closed known apart) ms run kept (agreed_begins known) in (h.0.0, h.1)
