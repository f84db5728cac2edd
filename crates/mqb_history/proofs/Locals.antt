-- A record puts some messages where they are, and lets others join streams: no message does both.
use Rattle.std.proofs.Common.{refl, ap, sym, subst, ◌∙◌, arith, inl, inr}
use Rattle.std.specs.List.{AllByRecursion}
use Rattle.std.specs.Prelude.{[], ◌+◌, ◌++◌, ◌<◌, ◌∷◌, ◌≡◌, ◌≤◌, ◌⊎◌, Bool, List, cond, false, fold, true, ℕ}
use Rattle.mqb_base.specs.declared.ids.Guid.{Guid}
use Rattle.mqb_base.specs.declared.ids.MessageId.{MessageId}
use Rattle.mqb_base.specs.declared.ledger.Line.{Line}
use Rattle.mqb_base.specs.declared.ledger.Line.TheVariants as line
use Rattle.mqb_base.specs.declared.ledger.Stream.{Stream}
use Rattle.mqb_base.specs.declared.message.Message.{Message}
use Rattle.mqb_exactly_once.specs.Words.{In}
use Rattle.mqb_model.specs.declared.target.Target.{Target}
use Rattle.mqb_model.specs.declared.target.Target.TheVariants.{AtPeer, Here, Nowhere}
use Rattle.mqb_model.specs.records.Applying.{lines_of}
use Rattle.mqb_model.specs.records.Commit.{send_made, sends_of, takes_made}
use Rattle.mqb_model.specs.records.Record.{Part, Record}
use Rattle.mqb_model.specs.records.Record as entry
use Rattle.mqb_model.specs.rules.Effects.{Effect, joined}
use Rattle.mqb_model.specs.rules.Sends.{committed_line, committed_to, journalled}
use Rattle.mqb_model.specs.rules.Sequences.{sequence_for}
use Rattle.mqb_model.specs.state.Resolving.{is_here, resolved}
use Rattle.mqb_model.specs.state.State.{State}
use Rattle.mqb_history.specs.Made.{AreNumbered}
use Rattle.mqb_history.proofs.Between.{all_in, in_either}
use Rattle.mqb_history.proofs.Saying.{RecordSays, Says, Sayings, record_says, takes_say}

-- a line says that a message joined a stream, or was put here
abbrev pub IsSendOf : MessageId → Line → Type 0
IsSendOf id (line.Committed stream number other) = other ≡ id
IsSendOf id (line.Local other) = other ≡ id
IsSendOf id _ = ⊥

-- no message was put here and joined a stream
abbrev pub LocalsApart : List Line → Type 0
LocalsApart ls = (id : MessageId) (stream : Stream) (number : ℕ) → In (line.Local id) ls → In (line.Committed stream number id) ls → ⊥

-- the sends of lines bear numbers below a number
abbrev pub SendsBelow : ℕ → List Line → Type 0
SendsBelow n ls = (l : Line) (id : MessageId) → In l ls → IsSendOf id l → id.number < n

-- lines behind others, with sends from a number on
pub locals_join : (n : ℕ) (ls more : List Line) → SendsBelow n ls → LocalsApart ls → ((l : Line) (id : MessageId) → In l more → IsSendOf id l → n ≤ id.number) → LocalsApart more → LocalsApart (ls ++ more)
locals_join n ls more below old new within id stream number a b = at (in_either ls more (line.Local id) a) (in_either ls more (line.Committed stream number id) b)
  where
    at : In (line.Local id) ls ⊎ In (line.Local id) more → In (line.Committed stream number id) ls ⊎ In (line.Committed stream number id) more → ⊥
    at (inl i) (inl j) = old id stream number i j
    at (inl i) (inr j) = let lt = below (line.Local id) id i refl in let le = new (line.Committed stream number id) id j refl in omega (arith, lt, le)
    at (inr i) (inl j) = let lt = below (line.Committed stream number id) id j refl in let le = new (line.Local id) id i refl in omega (arith, lt, le)
    at (inr i) (inr j) = within id stream number i j

-- what sends nothing
abbrev pub silent : Sayings
silent = record { Sends = λ id. ⊥; Decides = λ id. Unit {0}; Stores = λ id. Unit {0}; Expires = λ id. Unit {0}; Empties = λ id. Unit {0} }

no_sends : (ls : List Line) → AllByRecursion (Says silent) ls → (l : Line) (id : MessageId) → In l ls → IsSendOf id l → ⊥
no_sends ls h l id inside says = at l (all_in (Says silent) ls l h inside) says
  where
    at : (x : Line) → Says silent x → IsSendOf id x → ⊥
    at (line.Committed stream number other) g e = g
    at (line.Local other) g e = g
    at x g e = e

quiet_apart : (s : State) (r : Record) → RecordSays silent r → LocalsApart (lines_of s r)
quiet_apart s r says id stream number a b = no_sends (lines_of s r) (record_says silent s r says) (line.Local id) id a refl

-- one more send
one_apart : (l : Line) → LocalsApart (l ∷ [])
one_apart l id stream number (inl a) (inl b) = let none : ⊥ = cc in none
one_apart l id stream number (inl a) (inr b) = b
one_apart l id stream number (inr a) b = a

one_more : (ls : List Line) (l : Line) (n : ℕ) → SendsBelow n ls → LocalsApart ls → ((id : MessageId) → IsSendOf id l → id.number ≡ n) → SendsBelow (n + 1) (ls ++ l ∷ []) × LocalsApart (ls ++ l ∷ [])
one_more ls l n below old says = (λ k id i e. at k id e (in_either ls (l ∷ []) k i), locals_join n ls (l ∷ []) below old (λ k id i e. from k id e i) (one_apart l))
  where
    at : (k : Line) (id : MessageId) → IsSendOf id k → In k ls ⊎ In k (l ∷ []) → id.number < n + 1
    at k id e (inl i) = let lt = below k id i e in omega (arith, lt)
    at k id e (inr (inl f)) = let same = says id (subst (IsSendOf id) (sym f) e) in omega (arith, same)
    at k id e (inr (inr none)) = absurd none

    from : (k : Line) (id : MessageId) → IsSendOf id k → In k (l ∷ []) → n ≤ id.number
    from k id e (inl f) = let same = says id (subst (IsSendOf id) (sym f) e) in omega (arith, same)
    from k id e (inr none) = absurd none

sends_apart : (now : ℕ) (own : Guid) (n : ℕ) (e : Effect) (ms : List Message) → AreNumbered own n ms → SendsBelow n e.lines → LocalsApart e.lines → LocalsApart (fold (send_made now) e ms).lines
sends_apart now own n e [] h below old = old
sends_apart now own n e (m ∷ ms) h below old = rest (at (resolved e.state m.destination)) (λ below apart. sends_apart now own (n + 1) (send_made now e m) ms h.1 below apart)
  where
    number : (id : MessageId) → m.id ≡ id → id.number ≡ n
    number id f = ap (λ (i : MessageId). i.number) (sym f ∙ h.0)

    at : (t : Target) → SendsBelow (n + 1) (joined e (committed_to now (journalled e.state m) t m)).lines × LocalsApart (joined e (committed_to now (journalled e.state m) t m)).lines
    at (AtPeer k) = one_more e.lines (committed_line (journalled e.state m) (sequence_for (journalled e.state m) k m.destination now) m) n below old (λ id f. number id f)
    at (Here queue) = one_more e.lines (line.Local m.id) n below old (λ id f. number id f)
    at Nowhere = one_more e.lines (line.Local m.id) n below old (λ id f. number id f)

    rest : SendsBelow (n + 1) (send_made now e m).lines × LocalsApart (send_made now e m).lines
        → (SendsBelow (n + 1) (send_made now e m).lines → LocalsApart (send_made now e m).lines → LocalsApart (fold (send_made now) (send_made now e m) ms).lines)
        → LocalsApart (fold (send_made now) (send_made now e m) ms).lines
    rest g next = next g.0 g.1

pub part_silent : (now : ℕ) (numbers : List ℕ) (part : Part) → RecordSays silent (entry.Arrived now numbers part)
part_silent now numbers entry.Nothing = tt
part_silent now numbers part = tt

-- the sends of a record bear the next numbers
abbrev pub SendsNumbered : State → Record → Type 0
SendsNumbered s (entry.Commit now ops) = AreNumbered s.identity.guid s.next_number (sends_of ops)
SendsNumbered s _ = Unit {0}

pub record_apart : (s : State) (r : Record) → SendsNumbered s r → LocalsApart (lines_of s r)
record_apart s (entry.Commit now ops) h = sends_apart now s.identity.guid s.next_number (takes_made s now ops) (sends_of ops) h
    (λ l id i e. absurd (no_sends (takes_made s now ops).lines (takes_say silent s now ops) l id i e))
    (λ id stream number a b. no_sends (takes_made s now ops).lines (takes_say silent s now ops) (line.Local id) id a refl)
record_apart s (entry.Plain now p) h = at (is_here (resolved s p.message.destination))
  where
    at : (b : Bool) → LocalsApart (cond b (line.Local p.message.id ∷ []) [])
    at true = one_apart (line.Local p.message.id)
    at false = λ id stream number a b. a
record_apart s (entry.Arrived now numbers part) h = quiet_apart s (entry.Arrived now numbers part) (part_silent now numbers part)
record_apart s (entry.Taken now at id) h = quiet_apart s (entry.Taken now at id) (λ none other. tt)
record_apart s (entry.Purged now at) h = quiet_apart s (entry.Purged now at) (λ none other. tt)
record_apart s (entry.Ticked now) h = quiet_apart s (entry.Ticked now) (λ id. tt)
record_apart s r h = quiet_apart s r tt
