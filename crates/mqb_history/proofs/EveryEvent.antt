-- The run that has each kind of event.
use Rattle.std.proofs.Common.{refl, sym, subst, arith}
use Rattle.std.proofs.lemmas.List.Elements.{All-from_recursion}
use Rattle.std.proofs.lemmas.List.Kept.{AllPairs-cons}
use Rattle.std.specs.List.{AllByRecursion}
use Rattle.std.specs.Prelude.{[], ◌&&◌, ◌<◌, ◌∷◌, ◌≡◌, All, AllPairs, Bool, List, drop, false, length, true}
use Rattle.mqb_base.specs.declared.ids.Identity.{Identity}
use Rattle.mqb_model.specs.laws.Fitting.{IsDraftedOp}
use Rattle.mqb_model.specs.records.Peer.{is_met}
use Rattle.mqb_model.specs.runs.Samples.{alpha, beta}
use Rattle.mqb_names.specs.Values.{IsName}
use Rattle.mqb_network.specs.Courses.{Course}
use Rattle.mqb_network.specs.Laws.{AreApart}
use Rattle.mqb_network.specs.Runs.{IsRunFrom, Move, beginning, may, moved_on}
use Rattle.mqb_network.specs.Scripts.{pair}
use Rattle.mqb_network.specs.Worked.{network_of}
use Rattle.mqb_history.specs.Drafted.{AreInOrder, IsDraftedEvent}
use Rattle.mqb_history.specs.EveryEvent.{EveryEventIsAnswered, moves, three_sends}
use Rattle.mqb_history.proofs.Lists.{split_and}

-- Managers that are apart.

none_apart : AllPairs (λ a b. is_met a b ≡ false) []
none_apart i j d less lt = absurd (omega arith)

pair_apart : AreApart pair
pair_apart = AllPairs-cons (λ a b. is_met a b ≡ false) alpha (beta ∷ []) (All-from_recursion (λ b. is_met alpha b ≡ false) (beta ∷ []) (refl, tt))
    (AllPairs-cons (λ a b. is_met a b ≡ false) beta [] (All-from_recursion (λ b. is_met beta b ≡ false) [] tt) none_apart)

-- What is in order.

both_in_order : AreInOrder pair
both_in_order = record {
  apart = pair_apart;
  few = omega arith;
  hosts = All-from_recursion (λ (own : Identity). IsName own.host) pair (refl, (refl, tt));
}

three_drafted : All IsDraftedOp three_sends
three_drafted = All-from_recursion IsDraftedOp three_sends (
  record { sound = refl; destination = (refl, refl); admin = tt; response = tt },
  (
    record { sound = refl; destination = (refl, refl); admin = tt; response = tt },
    (record { sound = refl; destination = (refl, refl); admin = tt; response = tt }, tt),
  ),
)

all_drafted : All (λ m. IsDraftedEvent m.event) moves
all_drafted = All-from_recursion (λ (m : Move). IsDraftedEvent m.event) moves committing
  where
    taking : AllByRecursion (λ (m : Move). IsDraftedEvent m.event) (drop 29 moves)
    taking = (tt, (record { sound = refl; destination = (refl, refl); admin = tt; response = tt }, (tt, (tt, (tt, (tt, (tt, tt)))))))

    refusing : AllByRecursion (λ (m : Move). IsDraftedEvent m.event) (drop 25 moves)
    refusing = (tt, (tt, (tt, (tt, taking))))

    repeating : AllByRecursion (λ (m : Move). IsDraftedEvent m.event) (drop 15 moves)
    repeating = (tt, (tt, (tt, (tt, (tt, (tt, (tt, (tt, (tt, (tt, refusing))))))))))

    losing : AllByRecursion (λ (m : Move). IsDraftedEvent m.event) (drop 5 moves)
    losing = (tt, (tt, (tt, (tt, (tt, (tt, (tt, (tt, (tt, (tt, repeating))))))))))

    committing : AllByRecursion (λ (m : Move). IsDraftedEvent m.event) moves
    committing = (tt, (tt, (refl, (three_drafted, (tt, losing)))))

-- Moves that may be chosen: a test of the whole list.

abbrev may_all : Course → List Move → Bool
may_all c [] = true
may_all c (m ∷ ms) = may c m.event m.choice && may_all (moved_on c m) ms

runs_on : (c : Course) (ms : List Move) → may_all c ms ≡ true → IsRunFrom c ms
runs_on c [] e = tt
runs_on c (m ∷ ms) e = let both = split_and (may c m.event m.choice) (may_all (moved_on c m) ms) e in (both.0, runs_on (moved_on c m) ms both.1)

-- The run.

second_there : 1 < length (network_of moves).managers
second_there = let two : length (network_of moves).managers ≡ 2 = refl in let below : 1 < 2 = omega arith in subst (λ n. 1 < n) (sym two) below

pub every_event_is_answered : EveryEventIsAnswered
every_event_is_answered = record {
  in_order = both_in_order;
  drafted = all_drafted;
  run = runs_on (beginning pair) moves refl;
  replies = refl;
  leads = record { there = second_there; peer = 0; target = refl; identity = refl };
}
