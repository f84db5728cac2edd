-- Each number is given to one message that a record sends.
use Rattle.std.proofs.Common.{ap, arith}
use Rattle.std.specs.List.{AllByRecursion}
use Rattle.std.specs.Prelude.{[], ◌+◌, ◌++◌, ◌∷◌, ◌≡◌, ◌≤◌, Bool, List, cond, false, fold, true, ℕ}
use Rattle.mqb_base.specs.declared.ids.MessageId.{MessageId}
use Rattle.mqb_base.specs.declared.ledger.Line.{Line}
use Rattle.mqb_base.specs.declared.ledger.Line.TheVariants as line
use Rattle.mqb_base.specs.declared.message.Message.{Message}
use Rattle.mqb_model.specs.declared.target.Target.{Target}
use Rattle.mqb_model.specs.declared.target.Target.TheVariants.{AtPeer, Here, Nowhere}
use Rattle.mqb_model.specs.records.Applying.{lines_of}
use Rattle.mqb_model.specs.records.Commit.{send_made, sends_of, takes_made}
use Rattle.mqb_model.specs.records.Record.{Record}
use Rattle.mqb_model.specs.records.Record as entry
use Rattle.mqb_model.specs.rules.Effects.{Effect, joined}
use Rattle.mqb_model.specs.rules.Sends.{committed_line, committed_to, journalled}
use Rattle.mqb_model.specs.rules.Sequences.{sequence_for}
use Rattle.mqb_model.specs.state.Resolving.{is_here, resolved}
use Rattle.mqb_model.specs.state.State.{State}
use Rattle.mqb_history.specs.Made.{IsMade}
use Rattle.mqb_history.proofs.Fated.{numbered_for}
use Rattle.mqb_history.proofs.Locals.{part_silent, silent}
use Rattle.mqb_history.proofs.Owned.{given, given_next, numbers_given}
use Rattle.mqb_history.proofs.Remaining.{beginnings, sends}
use Rattle.mqb_history.proofs.Saying.{RecordSays, Says, record_says, takes_say}
use Rattle.mqb_history.proofs.Tallies.{begins, tally, tally_append, weight}

module _ (x : MessageId) where
  pub none_begin : (ls : List Line) → AllByRecursion (Says silent) ls → beginnings x ls ≡ 0
  none_begin [] h = omega arith
  none_begin (l ∷ ls) h = let one = at l h.0 in let rest = none_begin ls h.1 in omega (arith, one, rest)
    where
      at : (k : Line) → Says silent k → begins x k ≡ 0
      at (line.Committed stream number id) g = absurd g
      at (line.Local id) g = absurd g
      at k g = omega arith

  abbrev weights : List Message → ℕ
  weights ms = tally (λ (m : Message). weight x m.id) ms

  pub sends_begin : (now : ℕ) (e : Effect) (ms : List Message) → beginnings x (fold (send_made now) e ms).lines ≡ beginnings x e.lines + weights ms
  sends_begin now e [] = omega arith
  sends_begin now e (m ∷ ms) = let rest = sends_begin now (send_made now e m) ms in let one = at (resolved e.state m.destination) in omega (arith, rest, one)
    where
      more : (l : Line) → beginnings x (e.lines ++ l ∷ []) ≡ beginnings x e.lines + begins x l
      more l = let both = tally_append (begins x) e.lines (l ∷ []) in omega (arith, both)

      at : (t : Target) → beginnings x (joined e (committed_to now (journalled e.state m) t m)).lines ≡ beginnings x e.lines + weight x m.id
      at (AtPeer k) = more (committed_line (journalled e.state m) (sequence_for (journalled e.state m) k m.destination now) m)
      at (Here queue) = more (line.Local m.id)
      at Nowhere = more (line.Local m.id)

  quiet_gives : (s : State) (r : Record) → RecordSays silent r → given x s + beginnings x (lines_of s r) ≤ given x s
  quiet_gives s r says = let none = none_begin (lines_of s r) (record_says silent s r says) in omega (arith, none)

  -- the numbers of what a record sends were not given before
  pub record_gives : (s : State) (r : Record) → IsMade s r → given x s + sends x s r ≤ given x (numbered_for s r)
  record_gives s (entry.Commit now ops) made = let none = none_begin (takes_made s now ops).lines (takes_say silent s now ops) in let all = sends_begin now (takes_made s now ops) (sends_of ops) in
      let more = numbers_given x s.identity.guid s.next_number (sends_of ops) made.numbered in omega (arith, none, all, more)
  record_gives s (entry.Plain now p) made = let same = ap (weight x) made.id in let one = given_next x s.identity.guid s.next_number in omega (arith, same, one)
  record_gives s (entry.Arrived now numbers part) made = quiet_gives s (entry.Arrived now numbers part) (part_silent now numbers part)
  record_gives s (entry.Taken now at id) made = quiet_gives s (entry.Taken now at id) (λ none other. tt)
  record_gives s (entry.Purged now at) made = quiet_gives s (entry.Purged now at) (λ none other. tt)
  record_gives s (entry.Ticked now) made = quiet_gives s (entry.Ticked now) (λ id. tt)
  record_gives s r made = quiet_gives s r tt

  -- a line of each
  pub record_begins : (s : State) (r : Record) → beginnings x (lines_of s r) ≤ sends x s r
  record_begins s (entry.Plain now p) = at (is_here (resolved s p.message.destination))
    where
      at : (b : Bool) → beginnings x (cond b (line.Local p.message.id ∷ []) []) ≤ weight x p.message.id
      at true = omega arith
      at false = omega arith
  record_begins s r = omega arith
