-- At each point of each run a manager's queues have, and let go, no more copies of a message than lines say came to them, or one that it sent itself.
use Rattle.std.proofs.Common.{refl, ap, sym, subst, arith}
use Rattle.std.specs.Prelude.{[], ◌+◌, ◌++◌, ◌∷◌, ◌≡◌, ◌≤◌, List, None, Option, Some, fold, map, option_map, slice_get, unwrap_or, ℕ}
use Rattle.mqb_base.specs.declared.ids.Identity.{Identity}
use Rattle.mqb_base.specs.declared.ids.MessageId.{MessageId}
use Rattle.mqb_model.specs.records.Applying.{apply, lines_of}
use Rattle.mqb_model.specs.records.Record.{Record}
use Rattle.mqb_model.specs.records.Record as entry
use Rattle.mqb_model.specs.state.State.{State, empty}
use Rattle.mqb_network.specs.Courses.{Course, Written}
use Rattle.mqb_network.specs.Laws.{Always, AreApart, lines_written}
use Rattle.mqb_network.specs.Network.{formatted, nobody, others}
use Rattle.mqb_network.specs.Runs.{beginning}
use Rattle.mqb_plain.specs.Plain.{PlainLists, no_plain}
use Rattle.mqb_session.specs.State.{no_guid}
use Rattle.mqb_history.specs.Made.{IsMade}
use Rattle.mqb_history.specs.Orderly.{IsOrderly}
use Rattle.mqb_history.proofs.Fated.{numbered_for}
use Rattle.mqb_history.proofs.Keeping.{IsClosed}
use Rattle.mqb_history.proofs.Giving.{record_begins, record_gives}
use Rattle.mqb_history.proofs.Numbering.{AreCounted, counted_by_records}
use Rattle.mqb_history.proofs.Orderly.{begins_orderly, change_orderly, map_get}
use Rattle.mqb_history.proofs.Owned.{given, given_up, in_list, in_plain}
use Rattle.mqb_history.proofs.Remaining.{arrivals, beginnings, lefts, record_moves}
use Rattle.mqb_history.proofs.Runs.{always_kept}
use Rattle.mqb_history.proofs.Tallies.{arrives, begins, copies, in_queue, left, tally, tally_append}
use Rattle.mqb_history.proofs.Telling.{lines_more}
use Rattle.mqb_history.proofs.Steady.{IsSteady, OfEach, Quiet, change_steady}

-- What is counted: where copies of a message are, and how often it was sent here.
pub record IsTallied (s : State) (ws : List Written) : Type 0 where
  pub counted : AreCounted s ws
  pub remains : (x : MessageId) → copies x s + in_plain x s + lefts x (lines_written ws) ≤ given x s + arrivals x (lines_written ws)
  pub begun : (x : MessageId) → beginnings x (lines_written ws) ≤ given x s

quiet_tallied : (a b : State) (ws : List Written) → Quiet a b → IsTallied a ws → IsTallied b ws
quiet_tallied a b ws q h = record {
  counted = counted_by_records.quiet a b ws q.0 h.counted;
  remains = λ x. let old = h.remains x in let le = (q.1 x).both in omega (arith, old, le);
  begun = λ x. let old = h.begun x in let up = given_up x a b q.0.manager.identity q.0.numbers in omega (arith, old, up);
}

grows_tallied : (i : ℕ) (s : State) (r : Record) (ws : List Written) → IsMade s r → IsTallied s ws → IsTallied (apply s r) (ws ++ record { by = i; before = s; entry = r } ∷ [])
grows_tallied i s r ws made h = record {
  counted = counted_by_records.grows i s r ws made h.counted;
  remains = λ x. subst (λ ls. copies x (apply s r) + in_plain x (apply s r) + lefts x ls ≤ given x (apply s r) + arrivals x ls) (sym (lines_more ws w))
      (let old = h.remains x in let le = (record_moves x s r).both in let gives = record_gives x s r made in let same = same_here x r in
      let gone = tally_append (left x) (lines_written ws) (lines_of s r) in let came = tally_append (arrives x) (lines_written ws) (lines_of s r) in omega (arith, old, le, gives, same, gone, came));
  begun = λ x. subst (λ ls. beginnings x ls ≤ given x (apply s r)) (sym (lines_more ws w))
      (let old = h.begun x in let few = record_begins x s r in let gives = record_gives x s r made in let up = (record_moves x s r).up in let more = tally_append (begins x) (lines_written ws) (lines_of s r) in
      omega (arith, old, few, gives, up, more));
}
  where
    w : Written
    w = record { by = i; before = s; entry = r }

    same_here : (x : MessageId) (r : Record) → copies x (numbered_for s r) + in_plain x (numbered_for s r) ≡ copies x s + in_plain x s
    same_here x (entry.Commit now ops) = refl
    same_here x r = refl

begins_tallied : (own : Identity) (peers : List Identity) → IsTallied (formatted own peers).state []
begins_tallied own peers = record {
  counted = counted_by_records.starts own peers;
  remains = λ x. let none = ap (λ qs. tally (in_queue x) qs) (no_queues (empty own) peers) in let wait = no_plain_there x (empty own) peers in omega (arith, none, wait);
  begun = λ x. omega arith;
}
  where
    no_queues : (s : State) (peers : List Identity) → (fold apply s (map (λ peer. entry.Peer peer) peers)).places.queues ≡ s.places.queues
    no_queues s [] = refl
    no_queues s (p ∷ ps) = no_queues (apply s (entry.Peer p)) ps

    no_plain_there : (x : MessageId) (s : State) (peers : List Identity) → in_plain x (fold apply s (map (λ peer. entry.Peer peer) peers)) ≡ in_plain x s
    no_plain_there x s [] = refl
    no_plain_there x s (p ∷ ps) = let rest = no_plain_there x (apply s (entry.Peer p)) ps in let one = tally_append (λ (q : PlainLists). in_list x q.recoverable) s.plain (no_plain ∷ []) in omega (arith, rest, one)

pub tallied_steady : IsSteady (λ i. IsTallied)
tallied_steady = record { quiet = λ i. quiet_tallied; grows = grows_tallied }

-- Runs.

abbrev pub IsTalliedAt : Course → ℕ → Type 0
IsTalliedAt c j = OfEach (λ i. IsTallied) c j

abbrev IsOrderlyTallied : List Identity → Course → Type 0
IsOrderlyTallied known c = IsOrderly known c × ((j : ℕ) → IsTalliedAt c j)

pub starts_tallied : (known : List Identity) → IsOrderlyTallied known (beginning known)
starts_tallied known = (begins_orderly known, λ i. subst (λ o. IsTallied (unwrap_or o nobody).state []) (sym (map_get (λ own. formatted own (others known own)) known i)) (at (slice_get known i)))
  where
    at : (o : Option Identity) → IsTallied (unwrap_or (option_map (λ own. formatted own (others known own)) o) nobody).state []
    at None = begins_tallied (record { host = []; guid = no_guid; address = [] }) []
    at (Some own) = begins_tallied own (others known own)
