-- In every course each manager agrees with the ledger, and so do the packets that were sent.
use Rattle.std.proofs.Common.{refl, ap, sym, subst, ◌∙◌, arith}
use Rattle.std.proofs.lemmas.List.{append_assoc}
use Rattle.std.specs.List.{AllByRecursion}
use Rattle.std.specs.Option.{option_map_or}
use Rattle.std.specs.Prelude.{[], ◌+◌, ◌++◌, ◌==◌, ◌∷◌, ◌≡◌, ◌≤◌, Bool, IfSome, List, None, Option, Some, cond, false, length, map, slice_get, true, unwrap_or, ◌<◌, ℕ}
use Rattle.mqb_base.specs.declared.draft.Op.{Op}
use Rattle.mqb_base.specs.declared.ids.Guid.{Guid}
use Rattle.mqb_base.specs.declared.ids.Identity.{Identity}
use Rattle.mqb_base.specs.declared.ledger.Line.{Line}
use Rattle.mqb_base.specs.declared.message.Message.{Message}
use Rattle.mqb_exactly_once.specs.Words.{In}
use Rattle.mqb_fate.specs.Orders.{is_final_class}
use Rattle.mqb_model.specs.calls.Link.{unlink}
use Rattle.mqb_model.specs.declared.limits.TheConstants.{FIRST_EXPRESS}
use Rattle.mqb_model.specs.managers.Beside.{Beside, beside_done}
use Rattle.mqb_model.specs.managers.Beside as beside
use Rattle.mqb_model.specs.managers.Manager.{Manager, doubt_of, is_down}
use Rattle.mqb_model.specs.managers.Outcomes.{Outcome, recorded, succeeded}
use Rattle.mqb_model.specs.records.Applying.{lines_of}
use Rattle.mqb_model.specs.records.Commit.{sends_of}
use Rattle.mqb_model.specs.records.Record.{Part, Record}
use Rattle.mqb_model.specs.records.Record as entry
use Rattle.mqb_model.specs.state.Places.{is_express}
use Rattle.mqb_model.specs.state.State.{State}
use Rattle.mqb_network.specs.Changes.{parted}
use Rattle.mqb_network.specs.Courses.{Written, written_by}
use Rattle.mqb_network.specs.Laws.{lines_written}
use Rattle.mqb_network.specs.Network.{Network, manager_at, nobody, with_manager}
use Rattle.mqb_packet.specs.declared.packet.Packet.{Packet}
use Rattle.mqb_packet.specs.declared.packet.Packet.TheVariants as packet
use Rattle.mqb_packet.specs.declared.packet.UserPacket.{UserPacket}
use Rattle.mqb_model.specs.calls.Call.{Answer, Call, Hear, outcome_of}
use Rattle.mqb_history.specs.Decided.{written_of}
use Rattle.mqb_history.specs.Made.{AreNumbered, IsMade}
use Rattle.mqb_history.proofs.Accounted.{MayApply, Stands}
use Rattle.mqb_history.proofs.Applied.{beside_stands, others_stand, record_stands}
use Rattle.mqb_history.proofs.Applying.{applied_manager, made_of_no_peer}
use Rattle.mqb_history.proofs.Asking.{IsOfOps}
use Rattle.mqb_history.proofs.Between.{elsewhere}
use Rattle.mqb_history.proofs.Calling.{calls_are_modest, made_only}
use Rattle.mqb_history.proofs.Committing.{in_append}
use Rattle.mqb_history.proofs.Fated.{IsSent, PartFair, sent_fair}
use Rattle.mqb_history.proofs.Besides.{BesideFair}
use Rattle.mqb_history.proofs.Fates.{IsFair, fair_more}
use Rattle.mqb_history.proofs.Lists.{all_weaker, append_nothing, apart_numbers, clash, equal_numbers, get_within, set_there}
use Rattle.mqb_history.proofs.Recorded.{BesideOf, IsPlainPacket, PartOf, RecordOf, calls_are_of}
use Rattle.mqb_history.proofs.Written.{other_more, own_more}

-- Lines of records.

pub lines_append : (xs ys : List Written) → lines_written (xs ++ ys) ≡ lines_written xs ++ lines_written ys
lines_append [] ys = refl
lines_append (x ∷ xs) ys = ap (λ ls. lines_of x.before x.entry ++ ls) (lines_append xs ys) ∙ sym (append_assoc (lines_of x.before x.entry) (lines_written xs) (lines_written ys))

-- those of a record, where there is one
abbrev pub lines_if : State → Option Record → List Line
lines_if s o = option_map_or (lines_of s) o []

pub lines_by : (i : ℕ) (m : Manager) (o : Option Record) (ws : List Written) → lines_written (ws ++ written_by i m o) ≡ lines_written ws ++ lines_if m.state o
lines_by i m None ws = lines_append ws []
lines_by i m (Some r) ws = lines_append ws (record { by = i; before = m.state; entry = r } ∷ []) ∙ ap (λ ls. lines_written ws ++ ls) (append_nothing (lines_of m.state r))

-- the states that records met
abbrev pub befores : List Written → List State
befores ws = map (λ w. w.before) ws

-- with that of a record, where there is one
abbrev pub past_if : List State → State → Option Record → List State
past_if past s o = option_map_or (λ r. past ++ s ∷ []) o past

befores_append : (xs ys : List Written) → befores (xs ++ ys) ≡ befores xs ++ befores ys
befores_append [] ys = refl
befores_append (x ∷ xs) ys = ap (λ ss. x.before ∷ ss) (befores_append xs ys)

pub befores_by : (i : ℕ) (m : Manager) (o : Option Record) (ws : List Written) → befores (ws ++ written_by i m o) ≡ past_if (befores ws) m.state o
befores_by i m None ws = ap befores (append_nothing ws)
befores_by i m (Some r) ws = befores_append ws (record { by = i; before = m.state; entry = r } ∷ [])

-- One manager wrote a record or none, and is in another state.
module _ (known : List Identity) (n : Network) (count : length n.managers ≡ length known) (sent : List Packet) (ws : List Written) (i : ℕ) (m : Manager) (o : Option Record) where
  abbrev after : List Written
  after = ws ++ written_by i (manager_at n i) o

  abbrev more : List Line
  more = lines_if (manager_at n i).state o

  there : (own : Identity) → slice_get known i ≡ Some own → manager_at (with_manager n i m) i ≡ m
  there own e = ap (λ (x : Option Manager). unwrap_or x nobody) (set_there n.managers i m (subst (λ k. i < k) (sym count) (get_within known i own e)))

  pub stands_written : ((j : ℕ) (own : Identity) → slice_get known j ≡ Some own → Stands (lines_written ws) (lines_written (written_of j ws)) (befores (written_of j ws)) sent (manager_at n j).state)
      → ((own : Identity) → slice_get known i ≡ Some own → Stands (lines_written ws ++ more) (lines_written (written_of i ws) ++ more) (past_if (befores (written_of i ws)) (manager_at n i).state o) sent m.state)
      → (j : ℕ) (own : Identity) → slice_get known j ≡ Some own → Stands (lines_written after) (lines_written (written_of j after)) (befores (written_of j after)) sent (manager_at (with_manager n i m) j).state
  stands_written old new j own e = at (i == j) refl
    where
      at : (b : Bool) → (i == j) ≡ b → Stands (lines_written after) (lines_written (written_of j after)) (befores (written_of j after)) sent (manager_at (with_manager n i m) j).state
      at true f = subst (λ k. Stands (lines_written after) (lines_written (written_of k after)) (befores (written_of k after)) sent (manager_at (with_manager n i m) k).state) (equal_numbers i j f) own_stands
        where
          same : slice_get known i ≡ Some own
          same = ap (slice_get known) (equal_numbers i j f) ∙ e

          own_stands : Stands (lines_written after) (lines_written (written_of i after)) (befores (written_of i after)) sent (manager_at (with_manager n i m) i).state
          own_stands = subst (λ (x : Manager). Stands (lines_written after) (lines_written (written_of i after)) (befores (written_of i after)) sent x.state) (sym (there own same))
              (subst (λ ls. Stands ls (lines_written (written_of i after)) (befores (written_of i after)) sent m.state) (sym (lines_by i (manager_at n i) o ws))
              (subst (λ ls. Stands (lines_written ws ++ more) ls (befores (written_of i after)) sent m.state)
              (sym (ap lines_written (own_more i (manager_at n i) o ws) ∙ lines_by i (manager_at n i) o (written_of i ws)))
              (subst (λ ss. Stands (lines_written ws ++ more) (lines_written (written_of i ws) ++ more) ss sent m.state)
              (sym (ap befores (own_more i (manager_at n i) o ws) ∙ befores_by i (manager_at n i) o (written_of i ws))) (new own same))))
      at false f = subst (λ (x : Manager). Stands (lines_written after) (lines_written (written_of j after)) (befores (written_of j after)) sent x.state) (sym (elsewhere n i j m (apart_numbers i j f)))
          (subst (λ ls. Stands ls (lines_written (written_of j after)) (befores (written_of j after)) sent (manager_at n j).state) (sym (lines_by i (manager_at n i) o ws))
          (subst (λ vs. Stands (lines_written ws ++ more) (lines_written vs) (befores vs) sent (manager_at n j).state) (sym (other_more i j (manager_at n i) o ws (apart_numbers i j f)))
          (others_stand (lines_written ws) (lines_written (written_of j ws)) (befores (written_of j ws)) sent (manager_at n j).state (old j own e) more)))

-- What a record in doubt may still do.

pub record IsCommitBy (own : Guid) (next : ℕ) (ms : List Message) : Type 0 where
  pub numbered : AreNumbered own next ms
  pub sent : AllByRecursion IsSent ms
  pub high : next + length ms ≤ FIRST_EXPRESS

abbrev pub MayStill : Guid → ℕ → Record → Type 0
MayStill own next (entry.Commit now ops) = IsCommitBy own next (sends_of ops)
MayStill own next (entry.Plain now p) = IsSent p.message × (p.message.id ≡ record { qm = own; number = next }) × (next + 1 ≤ FIRST_EXPRESS)
MayStill own next (entry.Peer peer) = ⊥
MayStill own next _ = Unit {0}

abbrev pub StillMay : Manager → Type 0
StillMay m = IfSome (doubt_of m.condition) (MayStill m.state.identity.guid m.state.next_number)

-- what arrived was sent, to this manager
abbrev pub PartFrom : List Packet → Guid → Part → Type 0
PartFrom sent own (entry.Decided p) = In (packet.User p) sent × (p.to ≡ own)
PartFrom sent own (entry.Stored p) = In (packet.User p) sent × (p.to ≡ own) × IsPlainPacket p
PartFrom sent own (entry.Final p) = In (packet.User p) sent × (p.to ≡ own) × IsPlainPacket p × (is_final_class p.message.class ≡ true)
PartFrom sent own _ = Unit {0}

abbrev pub HeardBy : List Packet → Guid → Record → Type 0
HeardBy sent own (entry.Arrived now numbers part) = PartFrom sent own part
HeardBy sent own _ = Unit {0}

-- all packets are fair
abbrev pub AllFair : List Line → List Packet → Type 0
AllFair ls sent = (p : UserPacket) → In (packet.User p) sent → IsFair (λ l. In l ls) p.message

part_may : (ls : List Line) (sent : List Packet) (own : Guid) (part : Part) → AllFair ls sent → PartFrom sent own part → PartFair (λ l. In l ls) part
part_may ls sent own (entry.Decided p) fair h = fair p h.0
part_may ls sent own (entry.Stored p) fair h = fair p h.0
part_may ls sent own part fair h = tt

-- it may be applied
pub may_apply : (ls : List Line) (sent : List Packet) (s : State) (r : Record) → AllFair ls sent → MayStill s.identity.guid s.next_number r → HeardBy sent s.identity.guid r → MayApply (λ l. In l ls) s r
may_apply ls sent s (entry.Peer peer) fair may heard = may
may_apply ls sent s (entry.Commit now ops) fair may heard = record { numbered = may.numbered; sent = may.sent; high = may.high }
may_apply ls sent s (entry.Plain now p) fair may heard = may
may_apply ls sent s (entry.Arrived now numbers part) fair may heard = part_may ls sent s.identity.guid part fair heard
may_apply ls sent s r fair may heard = tt

-- Calls.

asked_sent : (now : ℕ) (ops : List Op) (m : Message) → IsOfOps now ops m → IsSent m
asked_sent now ops m h = (ap (λ (x : Message). x.class) h.message, ap (λ (x : Message). is_express x.delivery) h.message)

record_may : (s : State) (call : Call) (r : Record) → RecordOf s call r → IsMade s r → MayStill s.identity.guid s.next_number r
record_may s call (entry.Peer peer) h made = made
record_may s call (entry.Commit now ops) h made = record { numbered = made.numbered; sent = all_weaker (IsOfOps h.now h.ops) IsSent (asked_sent h.now h.ops) (sends_of ops) h.asked; high = let low = made.left in omega (arith, low) }
record_may s call (entry.Plain now p) h made = ((ap (λ (x : Message). x.class) h.message, ap (λ (x : Message). is_express x.delivery) h.message), ap (λ (x : Message). x.id) h.message, let low = made.left in omega (arith, low))
record_may s call r h made = tt

-- the packet of a call that hears one was sent
abbrev pub CallSent : List Packet → Call → Type 0
CallSent sent (Hear now x) = In x sent
CallSent sent _ = Unit {0}

part_from : (sent : List Packet) (own : Guid) (x : Packet) (part : Part) → In x sent → PartOf own x part → PartFrom sent own part
part_from sent own x entry.Nothing i h = tt
part_from sent own x (entry.Decided p) i h = (subst (λ y. In y sent) h.0 i, h.1)
part_from sent own x (entry.Stored p) i h = (subst (λ y. In y sent) h.0 i, h.1, h.2)
part_from sent own x (entry.OrderAcknowledged ordinal number) i h = tt
part_from sent own x (entry.Final p) i h = (subst (λ y. In y sent) h.0 i, h.1, h.2, h.3)

record_heard : (sent : List Packet) (s : State) (call : Call) (r : Record) → CallSent sent call → RecordOf s call r → HeardBy sent s.identity.guid r
record_heard sent s call (entry.Arrived now numbers part) i h = part_from sent s.identity.guid h.heard part (subst (CallSent sent) h.call_is i) h.part_is
record_heard sent s call r i h = tt

-- what a call may write
pub record MayWrite (sent : List Packet) (m : Manager) (call : Call) (o : Option Record) : Type 0 where
  pub made : IfSome o (IsMade m.state)
  pub may : IfSome o (MayStill m.state.identity.guid m.state.next_number)
  pub heard : IfSome o (HeardBy sent m.state.identity.guid)

pub call_may : (sent : List Packet) (m : Manager) (call : Call) → CallSent sent call → MayWrite sent m call (outcome_of m call).entry
call_may sent m call i = at (outcome_of m call).entry (made_only _ m.state (outcome_of m call).entry (calls_are_modest m call).entry) (calls_are_of m call).entry
  where
    at : (o : Option Record) → IfSome o (IsMade m.state) → IfSome o (RecordOf m.state call) → MayWrite sent m call o
    at None made h = record { made = tt; may = tt; heard = tt }
    at (Some r) made h = record { made = made; may = record_may m.state call r h made; heard = record_heard sent m.state call r i h }

-- a record or none is written
pub recorded_stands : (all mine : List Line) (past : List State) (sent : List Packet) (s : State) (o : Option Record) → AllFair all sent → IfSome o (IsMade s) → IfSome o (MayStill s.identity.guid s.next_number)
    → IfSome o (HeardBy sent s.identity.guid) → Stands all mine past sent s → Stands (all ++ lines_if s o) (mine ++ lines_if s o) (past_if past s o) sent (recorded s o)
recorded_stands all mine past sent s None fair made may heard h = subst (λ ls. Stands ls (mine ++ []) past sent s) (sym (append_nothing all)) (subst (λ ls. Stands all ls past sent s) (sym (append_nothing mine)) h)
recorded_stands all mine past sent s (Some r) fair made may heard h = record_stands all mine past sent s h r (may_apply all sent s r fair may heard) (applied_manager s r (made_of_no_peer s r made))

-- what is sent or heard beside it is fair
beside_fair : (all : List Line) (sent : List Packet) (s : State) (call : Call) (b : Beside) → AllFair all sent → CallSent sent call → FIRST_EXPRESS ≤ s.next_express → BesideOf s call b → BesideFair (λ l. In l all) b
beside_fair all sent s call (beside.SendsExpress at m) fair i high h = (
  sent_fair (λ l. In l all) m (ap (λ (x : Message). x.class) h.message) (λ e. let n = ap (λ (x : Message). x.id.number) h.message in omega (arith, e, n, high))
      (λ e. absurd (clash (sym (ap (λ (x : Message). is_express x.delivery) h.message) ∙ e))),
  ap (λ (x : Message). is_express x.delivery) h.message,
)
beside_fair all sent s call (beside.HearsExpress peer number at m refusal) fair i high h = (
  subst (IsFair (λ l. In l all)) h.message (fair h.given (subst (CallSent sent) h.call_is i)),
  h.express,
)
beside_fair all sent s call b fair i high h = tt

pub all_fair_more : (ls more : List Line) (sent : List Packet) → AllFair ls sent → AllFair (ls ++ more) sent
all_fair_more ls more sent fair p i = fair_more (λ l. In l ls) (λ l. In l (ls ++ more)) (λ l j. in_append ls more l j) p.message (fair p i)

-- a whole call
pub call_stands : (all mine : List Line) (past : List State) (sent : List Packet) (m : Manager) (call : Call) → AllFair all sent → CallSent sent call → Stands all mine past sent m.state
    → Stands (all ++ lines_if m.state (outcome_of m call).entry) (mine ++ lines_if m.state (outcome_of m call).entry) (past_if past m.state (outcome_of m call).entry) sent (succeeded m (outcome_of m call)).state
call_stands all mine past sent m call fair i h = beside_stands (all ++ more) (mine ++ more) (past_if past m.state outcome.entry) sent (recorded m.state outcome.entry) (recorded_stands all mine past sent m.state outcome.entry fair may.made may.may may.heard h)
    outcome.beside (beside_fair_more)
  where
    outcome : Outcome Answer
    outcome = outcome_of m call

    more : List Line
    more = lines_if m.state outcome.entry

    may : MayWrite sent m call outcome.entry
    may = call_may sent m call i

    beside_fair_more : BesideFair (λ l. In l (all ++ more)) outcome.beside
    beside_fair_more = beside_fair (all ++ more) sent m.state call outcome.beside (all_fair_more all more sent fair) i h.keeps.express (calls_are_of m call).beside

pub parted_stands : (all mine : List Line) (past : List State) (sent : List Packet) (m : Manager) → Stands all mine past sent m.state → Stands all mine past sent (parted m).state
parted_stands all mine past sent m h = at (is_down m)
  where
    at : (b : Bool) → Stands all mine past sent (cond b m (succeeded m (unlink m))).state
    at true = h
    at false = beside_stands all mine past sent m.state h beside.Unmarks tt
