-- What a record, what is done beside it, and a restart keep of a manager that agrees with the ledger.
use Rattle.std.proofs.Common.{refl, ap, sym, subst, ◌∙◌, arith, inl, inr}
use Rattle.std.specs.List.{AllByRecursion}
use Rattle.std.specs.Prelude.{[], ◌+◌, ◌++◌, ◌<◌, ◌∷◌, ◌≡◌, ◌≤◌, ◌⊎◌, List, false, length, true, ℕ}
use Rattle.mqb_base.specs.declared.ids.MessageId.{MessageId}
use Rattle.mqb_base.specs.declared.ledger.Line.{Line}
use Rattle.mqb_base.specs.declared.message.Message.{Message}
use Rattle.mqb_exactly_once.specs.Words.{In}
use Rattle.mqb_model.specs.declared.limits.TheConstants.{FIRST_EXPRESS}
use Rattle.mqb_model.specs.declared.target.Target.{Target}
use Rattle.mqb_model.specs.declared.target.Target.TheVariants.{AtPeer, Here, Nowhere}
use Rattle.mqb_model.specs.managers.Beside.{Beside, beside_done}
use Rattle.mqb_model.specs.records.Applying.{apply, effect_of, lines_of}
use Rattle.mqb_model.specs.records.Commit.{sends_of}
use Rattle.mqb_model.specs.records.Record.{Part, Record}
use Rattle.mqb_model.specs.records.Record as entry
use Rattle.mqb_model.specs.state.Durable.{durable}
use Rattle.mqb_model.specs.state.Resolving.{is_here, resolved}
use Rattle.mqb_model.specs.state.State.{State}
use Rattle.mqb_packet.specs.declared.packet.Packet.{Packet}
use Rattle.mqb_packet.specs.declared.packet.Packet.TheVariants as packet
use Rattle.mqb_packet.specs.declared.packet.UserPacket.{UserPacket}
use Rattle.mqb_history.specs.Made.{AreNumbered}
use Rattle.mqb_history.proofs.Accounted.{IsPacketOf, MayApply, Stands, frame_for, given_numbers, resting, walked_stands}
use Rattle.mqb_history.proofs.Applying.{beside_rows}
use Rattle.mqb_history.proofs.Between.{in_either}
use Rattle.mqb_history.proofs.Committing.{in_append}
use Rattle.mqb_history.proofs.Fated.{IsSent, RecordFair, numbered_for, record_walks}
use Rattle.mqb_history.proofs.Besides.{BesideFair, beside_keeps, durable_keeps}
use Rattle.mqb_history.proofs.Fates.{Frame, Keeps, going, going_before, going_there, keeps_more}
use Rattle.mqb_history.proofs.Lists.{append_nothing, clash}
use Rattle.mqb_history.proofs.Locals.{SendsNumbered, record_apart}
use Rattle.mqb_history.proofs.Staying.{IsSameManager}
use Rattle.mqb_history.proofs.Recorded.{IsPlainPacket}
use Rattle.mqb_history.proofs.Walks.{IsGiven, Known}

-- the numbers of a transaction are given to its sends
numbered_given : (f : Frame) (n : ℕ) (ms : List Message) → AreNumbered f.own n ms → f.low ≤ n → n + length ms ≤ f.base → AllByRecursion IsSent ms → AllByRecursion (λ m. IsSent m × IsGiven f m.id) ms
numbered_given f n [] h low high sent = tt
numbered_given f n (m ∷ ms) h low high sent = (
  (
    sent.0,
    record {
      source = ap (λ (i : MessageId). i.qm) h.0;
      low = let e = ap (λ (i : MessageId). i.number) h.0 in omega (arith, e, low);
      below = let e = ap (λ (i : MessageId). i.number) h.0 in omega (arith, e, high);
    },
  ),
  numbered_given f (n + 1) ms h.1 (omega (arith, low)) (omega (arith, high)) sent.1,
)

module _ (all mine : List Line) (past : List State) (sent : List Packet) (s : State) (old : Stands all mine past sent s) where
  abbrev Told : Line → Type 0
  Told l = In l all

  -- with these numbers given
  begins : (new : ℕ → ℕ) (base next : ℕ) → ((n : ℕ) → n < s.next_number → new n ≡ old.went n) → s.next_number ≤ base → base ≤ next → next ≤ FIRST_EXPRESS
      → (k : Keeps (frame_for s new mine base) Told (record s { next_number = next })) × (k.goes ≡ new)
  begins new base next same low more high = given_numbers all mine s old.went new base next old.keeps same low more high

  -- a record for which no number is given
  quiet_stands : (r : Record) → SendsNumbered s r → IsSameManager s (apply s r) → numbered_for s r ≡ s → ((goes : ℕ → ℕ) → RecordFair (frame_for s old.went mine s.next_number) goes Told s r)
      → Stands (all ++ lines_of s r) (mine ++ lines_of s r) (past ++ s ∷ []) sent (apply s r)
  quiet_stands r numbered manager same fair = walked_stands true all mine past sent s old.went s.next_number (effect_of s r) old (λ n lt. refl) manager (record_apart s r numbered)
      (record_walks f all s r (subst (Keeps f Told) (sym same) k) (fair (subst (Keeps f Told) (sym same) k).goes))
    where
      f : Frame
      f = frame_for s old.went mine s.next_number

      k : Keeps f Told s
      k = (begins old.went s.next_number s.next_number (λ n lt. refl) (omega arith) (omega arith) old.keeps.high).0

  plain_stands : (now : ℕ) (p : UserPacket) → IsSameManager s (apply s (entry.Plain now p)) → MayApply Told s (entry.Plain now p) → (t : Target) → resolved s p.message.destination ≡ t
      → Stands (all ++ lines_of s (entry.Plain now p)) (mine ++ lines_of s (entry.Plain now p)) (past ++ s ∷ []) sent (apply s (entry.Plain now p))
  plain_stands now p manager may t to = by t to
    where
      number : p.message.id.number ≡ s.next_number
      number = ap (λ (i : MessageId). i.number) may.1

      source : p.message.id.qm ≡ s.identity.guid
      source = ap (λ (i : MessageId). i.qm) may.1

      low : p.message.id.number < FIRST_EXPRESS
      low = let high = may.2 in omega (arith, number, high)

      -- it is put here
      here : is_here (resolved s p.message.destination) ≡ true ⊎ is_here (resolved s p.message.destination) ≡ false → ((k : ℕ) → resolved s p.message.destination ≡ AtPeer k → ⊥)
          → Stands (all ++ lines_of s (entry.Plain now p)) (mine ++ lines_of s (entry.Plain now p)) (past ++ s ∷ []) sent (apply s (entry.Plain now p))
      here b none = let k = begins old.went (s.next_number + 1) (s.next_number + 1) (λ n lt. refl) (omega arith) (omega arith) may.2 in
          walked_stands true all mine past sent s old.went (s.next_number + 1) (effect_of s (entry.Plain now p)) old (λ n lt. refl) manager (record_apart s (entry.Plain now p) tt)
          (record_walks (frame_for s old.went mine (s.next_number + 1)) all s (entry.Plain now p) k.0
          (may.0, λ j e. absurd (none j e), λ e. record { source = source; low = omega (arith, number); below = omega (arith, number) }, low))

      by : (t : Target) → resolved s p.message.destination ≡ t → Stands (all ++ lines_of s (entry.Plain now p)) (mine ++ lines_of s (entry.Plain now p)) (past ++ s ∷ []) sent (apply s (entry.Plain now p))
      by (Here queue) e = here (inl (ap is_here e)) (λ j f. let none : ⊥ = cc in none)
      by Nowhere e = here (inr (ap is_here e)) (λ j f. let none : ⊥ = cc in none)
      by (AtPeer j) e = walked_stands true all mine past sent s new s.next_number (effect_of s (entry.Plain now p)) old (λ n lt. going_before old.went s.next_number j n lt) manager (record_apart s (entry.Plain now p) tt)
          (record_walks (frame_for s new mine s.next_number) all s (entry.Plain now p) k.0 (
            may.0,
            λ i f. record {
              durable = may.0.1;
              source = source;
              below = omega (arith, number);
              place = ap (λ (g : ℕ → ℕ). g p.message.id.number) k.1 ∙ ap (going old.went s.next_number j) number ∙ going_there old.went s.next_number j ∙ same_peer i (sym e ∙ f);
              known = inr (omega (arith, number));
            },
            λ f. absurd (clash (sym f ∙ ap is_here e)),
            low,
          ))
        where
          new : ℕ → ℕ
          new = going old.went s.next_number j

          k : (k : Keeps (frame_for s new mine s.next_number) Told (record s { next_number = s.next_number + 1 })) × (k.goes ≡ new)
          k = begins new s.next_number (s.next_number + 1) (λ n lt. going_before old.went s.next_number j n lt) (omega arith) (omega arith) may.2

          same_peer : (i : ℕ) → AtPeer j ≡ AtPeer i → j ≡ i
          same_peer i g = cc

  pub record_stands : (r : Record) → MayApply Told s r → IsSameManager s (apply s r) → Stands (all ++ lines_of s r) (mine ++ lines_of s r) (past ++ s ∷ []) sent (apply s r)
  record_stands (entry.Peer peer) may manager = absurd may
  record_stands (entry.Commit now ops) may manager = let k = begins old.went base base (λ n lt. refl) (omega arith) (omega arith) may.high in
      walked_stands true all mine past sent s old.went base (effect_of s (entry.Commit now ops)) old (λ n lt. refl) manager (record_apart s (entry.Commit now ops) may.numbered)
      (record_walks (frame_for s old.went mine base) all s (entry.Commit now ops) k.0
      (numbered_given (frame_for s old.went mine base) s.next_number (sends_of ops) may.numbered (omega arith) (omega arith) may.sent))
    where
      base : ℕ
      base = s.next_number + length (sends_of ops)
  record_stands (entry.Plain now p) may manager = plain_stands now p manager may (resolved s p.message.destination) refl
  record_stands (entry.Arrived now numbers part) may manager = quiet_stands (entry.Arrived now numbers part) tt manager refl (λ goes. may)
  record_stands r may manager = quiet_stands r tt manager refl (λ goes. tt)

  -- without a record
  silent_stands : (t : State) → IsSameManager s t → ((f : Frame) → Keeps f Told s → Keeps f Told t) → Stands all mine past sent t
  silent_stands t manager keeps = subst (λ ls. Stands ls mine past sent t) (append_nothing all) (subst (λ ls. Stands (all ++ []) ls past sent t) (append_nothing mine)
      (walked_stands false all mine past sent s old.went s.next_number (record { state = t; lines = [] }) old (λ n lt. refl) manager (λ id stream number a b. a)
      (record {
        keeps = keeps_more f Told (Known all (record { state = t; lines = [] })) (λ l i. inl i) t
            (keeps f (begins old.went s.next_number s.next_number (λ n lt. refl) (omega arith) (omega arith) old.keeps.high).0);
        lapsed = tt;
      })))
    where
      f : Frame
      f = frame_for s old.went mine s.next_number

  pub beside_stands : (b : Beside) → BesideFair Told b → Stands all mine past sent (beside_done b s)
  beside_stands b fair = silent_stands (beside_done b s) (beside_rows b s).manager (λ f k. beside_keeps f all b s fair k)

  pub durable_stands : Stands all mine past sent (durable s)
  durable_stands = silent_stands (durable s) (record { identity = refl; peers = refl }) (λ f k. durable_keeps f Told s k)

  -- lines of others
  pub others_stand : (more : List Line) → Stands (all ++ more) mine past sent s
  others_stand more = record {
    went = old.went;
    waited = old.waited;
    selves = old.selves;
    keeps = keeps_more (resting s old.went mine) Told (λ l. In l (all ++ more)) (λ l i. in_append all more l i) s old.keeps;
    names = old.names;
    locals = old.locals;
    packets = old.packets;
  }

  -- packets join the others
  pub packets_stand : (packets : List Packet)
      → ((p : UserPacket) → In (packet.User p) packets → p.message.id.qm ≡ s.identity.guid → IsPlainPacket p → IsPacketOf s.identity.guid s.peers s.next_number old.went mine p)
      → Stands all mine past (sent ++ packets) s
  packets_stand packets new = record {
    went = old.went;
    waited = old.waited;
    selves = old.selves;
    keeps = old.keeps;
    names = old.names;
    locals = old.locals;
    packets = λ p inside qm kind. at p qm kind (in_either sent packets (packet.User p) inside);
  }
    where
      at : (p : UserPacket) → p.message.id.qm ≡ s.identity.guid → IsPlainPacket p → In (packet.User p) sent ⊎ In (packet.User p) packets
          → IsPacketOf s.identity.guid s.peers s.next_number old.went mine p
      at p qm kind (inl i) = old.packets p i qm kind
      at p qm kind (inr i) = new p i qm kind
