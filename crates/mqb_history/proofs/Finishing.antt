-- What is acknowledged to a source was decided, and so a stream world goes on by an acknowledgement of it.
use Rattle.std.proofs.Common.{refl, ap, sym, subst, ◌∙◌, arith, inl, inr}
use Rattle.std.proofs.lemmas.Bool.Decides.{nat_tests}
use Rattle.std.specs.List.{list_any}
use Rattle.std.specs.Option.{option_map_or}
use Rattle.std.specs.Prelude.{[], ◌<◌, ◌==◌, ◌||◌, ◌∷◌, ◌≡◌, ◌≤◌, ◌⊎◌, Bool, List, None, Option, Some, cond, false, find, max, nat_le, nat_lt, option_and_then, position, slice_get, true, ℕ}
use Rattle.mqb_base.specs.Bits.{keeps_dead}
use Rattle.mqb_base.specs.Same.{same_guid, same_id, same_name}
use Rattle.mqb_base.specs.Sequences.{same_sequence}
use Rattle.mqb_base.specs.declared.ids.Identity.{Identity}
use Rattle.mqb_base.specs.declared.ids.SequenceId.{SequenceId}
use Rattle.mqb_base.specs.declared.ledger.Line.{Line}
use Rattle.mqb_base.specs.declared.message.Message.{Message}
use Rattle.mqb_base.specs.declared.queue_names.QueueName.{QueueName}
use Rattle.mqb_exactly_once.proofs.Decisions.{decided_within}
use Rattle.mqb_exactly_once.proofs.Positions.{same_sequence_is}
use Rattle.mqb_exactly_once.specs.Outcomes.{Outcome, Put, Refusal, Refused, Was_refused}
use Rattle.mqb_exactly_once.specs.Runs.{after}
use Rattle.mqb_exactly_once.specs.Steps.{Acknowledged, Arrive, Fate, StreamStep, Told, decided_after, decision, fates_after, happens, marked, raised, verdict}
use Rattle.mqb_exactly_once.specs.Words.{In, count, is_decided, is_expired}
use Rattle.mqb_exactly_once.specs.World.{Channel, Commitment, Decision, FinalAck, KnownFate, OrderAck, Position, StreamWorld}
use Rattle.mqb_orders.specs.declared.judging.Verdict.{Verdict}
use Rattle.mqb_orders.specs.declared.judging.Verdict.TheVariants as verdicts
use Rattle.mqb_model.specs.Lists.{with_first_changed, without_first}
use Rattle.mqb_model.specs.records.Finals.{dead_for, final_stored, finished_at, finished_by, finished_row, has_named, index_finished, is_offered_as, kept_named, names_kept, with_finished}
use Rattle.mqb_model.specs.state.Resolving.{peer_known}
use Rattle.mqb_model.specs.state.Rows.{has_ordinal}
use Rattle.mqb_model.specs.state.State.{State}
use Rattle.mqb_orders.specs.Rows.{Row, acknowledged}
use Rattle.mqb_orders.specs.declared.kept.Kept.{Kept}
use Rattle.mqb_history.proofs.Applying.{dead_rows}
use Rattle.mqb_history.proofs.Committing.{OrdinalsRise, differ_by_ordinal, itself, kept_at}
use Rattle.mqb_history.proofs.Connections.{found_passes}
use Rattle.mqb_history.proofs.Deciding.{first_is_found}
use Rattle.mqb_history.proofs.Lists.{equal_numbers, get_in, split_and, true_not_false}
use Rattle.mqb_history.proofs.Names.{same_name_is, same_name_refl}
use Rattle.mqb_history.proofs.Outside.{filtered_in, without_in}
use Rattle.mqb_history.proofs.Reaching.{Reached, kept_invariant, more}
use Rattle.mqb_history.proofs.Receipting.{HasAck}
use Rattle.mqb_history.proofs.Replacing.{Replaced, has_row_of, index_replaced, none_replaced, ordinal_replaced}
use Rattle.mqb_history.proofs.Sourcing.{IsRowShown, IsSameElsewhere, IsSourced, RowSteps, other_row, own_row, position_at}
use Rattle.mqb_history.proofs.Sparing.{found_kept}

-- In a stream world the fate of each message that was refused is known.
abbrev pub AreRefusalsKnown : StreamWorld → Type 0
AreRefusalsKnown w = (d : Decision) (reason : Refusal) → In d w.decided → d.outcome ≡ Refused reason → In (record { position = d.position; fate = Was_refused reason }) w.fates

arrival_known : (v : Verdict) (new : Decision) (ds : List Decision) (fs : List KnownFate)
    → ((d : Decision) (reason : Refusal) → In d ds → d.outcome ≡ Refused reason → In (record { position = d.position; fate = Was_refused reason }) fs)
    → (d : Decision) (reason : Refusal) → In d (decided_after v new ds) → d.outcome ≡ Refused reason
    → In (record { position = d.position; fate = Was_refused reason }) (fates_after v new.position new.outcome fs)
arrival_known verdicts.Next new ds fs h d reason (inl same) e = subst (λ (x : Decision). In (record { position = d.position; fate = Was_refused reason }) (fates_after verdicts.Next x.position x.outcome fs)) (sym same)
    (subst (λ o. In (record { position = d.position; fate = Was_refused reason }) (fates_after verdicts.Next d.position o fs)) (sym e) (inl refl))
arrival_known verdicts.Next new ds fs h d reason (inr i) e = at new.outcome (h d reason i e)
  where
    at : (o : Outcome) → In (record { position = d.position; fate = Was_refused reason }) fs → In (record { position = d.position; fate = Was_refused reason }) (fates_after verdicts.Next new.position o fs)
    at Put j = j
    at (Refused why) j = inr j
arrival_known verdicts.Duplicate new ds fs h d reason i e = h d reason i e
arrival_known verdicts.Gap new ds fs h d reason i e = h d reason i e
arrival_known verdicts.Stale new ds fs h d reason i e = h d reason i e

step_known : (w : StreamWorld) (x : StreamStep) → AreRefusalsKnown w → AreRefusalsKnown (happens w x)
step_known w (Arrive p outcome) h = arrival_known (verdict w p) (decision p outcome) w.decided w.fates h
step_known w (Fate p departure) h = λ d reason i e. inr (h d reason i e)
step_known w x h = h

run_known : (c : Channel) (xs : List StreamStep) → AreRefusalsKnown (after c xs)
run_known c [] = λ d reason i e. absurd i
run_known c (x ∷ xs) = step_known (after c xs) x (run_known c xs)

pub refusals_known : (c : Channel) (w : StreamWorld) → Reached c w → AreRefusalsKnown w
refusals_known c w r = subst AreRefusalsKnown r.end (run_known c r.steps)

-- A source is told of a fate.
pub record IsToldOf (c : Channel) (w : StreamWorld) (p : Position) : Type 0 where
  pub world : StreamWorld
  pub reached : Reached c world
  pub acknowledged : (s : SequenceId) → world.acknowledged s ≡ raised p w.acknowledged s
  pub committed : world.committed ≡ w.committed
  pub expired : world.expired ≡ w.expired
  pub offered : world.offered ≡ w.offered
  pub same : IsSameElsewhere w world

-- a final acknowledgement of a position and a connection is there
abbrev pub HasFinal : List FinalAck → Position → ℕ → Type 0
HasFinal acks p connection = (a : FinalAck) × In a acks × (a.position ≡ p) × (a.connection ≡ connection)

-- It hears a final acknowledgement.
fate_told : (c : Channel) (w : StreamWorld) (p : Position) → Reached c w → w.connected ≡ true → HasFinal w.final_acks p w.connection → IsToldOf c w p
fate_told c w p r connected (a, inside, same, present) = subst (IsToldOf c w) same (record {
  world = happens w (Told a);
  reached = more c w (Told a) r ((connected, present), inside);
  acknowledged = λ s. refl;
  committed = refl;
  expired = refl;
  offered = refl;
  same = record { channel = refl; decided = refl; fates = refl; transfers = refl; order_acks = refl; final_acks = refl; connection = refl; connected = refl };
})

-- a mark that rises is the greater of the two
marked_raised : (p : Position) (marks : SequenceId → ℕ) (s : SequenceId) → marks p.sequence < p.number → marked p marks s ≡ raised p marks s
marked_raised p marks s less = at (same_sequence p.sequence s) refl
  where
    greater : marks s < p.number → p.number ≡ max (marks s) p.number
    greater e = omega (arith, e)

    at : (b : Bool) → same_sequence p.sequence s ≡ b → cond b p.number (marks s) ≡ cond b (max (marks s) p.number) (marks s)
    at true e = greater (subst (λ q. marks q < p.number) (same_sequence_is p.sequence s e) less)
    at false e = refl

-- It hears an order acknowledgement of what was decided.
order_told : (c : Channel) (w : StreamWorld) (p : Position) → Reached c w → w.connected ≡ true → is_decided w.decided p ≡ true → w.acknowledged p.sequence < p.number
    → HasAck w.order_acks p w.connection → IsToldOf c w p
order_told c w p r connected decided less (a, inside, same, present) = subst (IsToldOf c w) same (record {
  world = happens w (Acknowledged a);
  reached = more c w (Acknowledged a) r ((connected, present), inside, low, offered);
  acknowledged = λ s. marked_raised a.position w.acknowledged s low;
  committed = refl;
  expired = refl;
  offered = refl;
  same = record { channel = refl; decided = refl; fates = refl; transfers = refl; order_acks = refl; final_acks = refl; connection = refl; connected = refl };
})
  where
    low : w.acknowledged a.position.sequence < a.position.number
    low = subst (λ (q : Position). w.acknowledged q.sequence < q.number) (sym same) less

    offered : a.position.number ≤ w.offered a.position.sequence
    offered = let i = kept_invariant c w r in let within = decided_within w.decided a.position i.rise (subst (λ q. is_decided w.decided q ≡ true) (sym same) decided) in
        let above = (i.marks a.position.sequence).decided_was_offered in omega (arith, within, above)

-- One row is acknowledged.
pub record IsAckedTo (a b : Row) (n : ℕ) : Type 0 where
  pub peer : b.peer ≡ a.peer
  pub destination : b.destination ≡ a.destination
  pub sequence : b.sequence ≡ a.sequence
  pub committed : b.committed ≡ a.committed
  pub offered : b.offered ≡ a.offered
  pub acked : b.acked ≡ max a.acked n
  pub kept : (k : Kept) → In k b.kept → In k a.kept

acked_shown : (w z : StreamWorld) (a b : Row) (n : ℕ) → IsAckedTo a b n → z.committed ≡ w.committed → z.expired ≡ w.expired → z.offered ≡ w.offered → z.acknowledged a.sequence ≡ b.acked
    → IsRowShown w a → IsRowShown z b
acked_shown w z a b n s committed expired offered acked h = record {
  counted = ap (λ q. count z.committed q) s.sequence ∙ ap (λ cs. count cs a.sequence) committed ∙ h.counted ∙ sym s.committed;
  offered = ap z.offered s.sequence ∙ ap (λ marks. marks a.sequence) offered ∙ h.offered ∙ sym s.offered;
  acked = ap z.acknowledged s.sequence ∙ acked;
  kept = λ k i. kept k (h.kept k (s.kept k i));
}
  where
    kept : (k : Kept) → In (kept_at a k) w.committed × (is_expired w.expired (position_at a k) ≡ false)
        → In (kept_at b k) z.committed × (is_expired z.expired (position_at b k) ≡ false)
    kept k g = subst (λ q. In (record { position = record { sequence = q; number = k.number }; message = k.message }) z.committed
        × (is_expired z.expired (record { sequence = q; number = k.number }) ≡ false)) (sym s.sequence) (
          subst (In (kept_at a k)) (sym committed) g.0,
          subst (λ es. is_expired es (position_at a k) ≡ false) (sym expired) g.1,
        )

told_steps : (c : Channel) (w : StreamWorld) (a b : Row) (n : ℕ) → IsAckedTo a b n → (t : IsToldOf c w (record { sequence = a.sequence; number = n })) → RowSteps w t.world a b
told_steps c w a b n s t = record {
  others = λ r apart h. record {
    counted = ap (λ cs. count cs r.sequence) t.committed ∙ h.counted;
    offered = ap (λ marks. marks r.sequence) t.offered ∙ h.offered;
    acked = t.acknowledged r.sequence ∙ ap (λ x. cond x (max (w.acknowledged r.sequence) n) (w.acknowledged r.sequence))
        (differ_by_ordinal a.sequence r.sequence (λ same. apart (sym same))) ∙ h.acked;
    kept = λ k i. let g = h.kept k i in (
      subst (In (kept_at r k)) (sym t.committed) g.0,
      subst (λ es. is_expired es (position_at r k) ≡ false) (sym t.expired) g.1,
    );
  };
  row = λ h. acked_shown w t.world a b n s t.committed t.expired t.offered (t.acknowledged a.sequence
      ∙ ap (λ x. cond x (max (w.acknowledged a.sequence) n) (w.acknowledged a.sequence)) (itself a.sequence) ∙ ap (λ m. max m n) h.acked ∙ sym s.acked) h;
  committed = λ x i. inl (subst (In x) t.committed i);
}

none_steps : (w : StreamWorld) (a b : Row) (n : ℕ) → IsAckedTo a b n → b.acked ≡ a.acked → RowSteps w w a b
none_steps w a b n s same = record {
  others = λ r apart h. h;
  row = λ h. acked_shown w w a b n s refl refl refl (h.acked ∙ sym same) h;
  committed = λ x i. inl i;
}

-- a row to a destination is acknowledged up to a number that was decided
abbrev pub IsAckedTruly : QueueName → ℕ → StreamWorld → List Row → Type 0
IsAckedTruly d peer v outs = (row : Row) → In row outs → row.destination ≡ d → row.peer ≡ peer → (row.acked ≡ 0) ⊎ (is_decided v.decided (record { sequence = row.sequence; number = row.acked }) ≡ true)

-- an order acknowledgement of this connection tells of a row of this ordinal
abbrev pub MayAck : QueueName → List OrderAck → ℕ → List Row → (ordinal number : ℕ) → Type 0
MayAck d acks connection outs ordinal number = (row : Row) → In row outs → row.sequence.ordinal ≡ ordinal → row.destination ≡ d → HasAck acks (record { sequence = row.sequence; number = number }) connection

-- a final one of this connection tells of each decided message that it names, of a row to the peer from which it came
abbrev pub MayFinish : QueueName → StreamWorld → List Identity → List Row → Message → Type 0
MayFinish d v peers outs m = (row : Row) (k : Kept) → In row outs → In k row.kept → same_id k.message.id m.correlation ≡ true → row.destination ≡ d
    → position (λ (p : Identity). same_guid p.guid m.id.qm) peers ≡ Some row.peer → is_decided v.decided (position_at row k) ≡ true → HasFinal v.final_acks (position_at row k) v.connection

module _ (d : QueueName) (peer : ℕ) (c : Channel) (v : StreamWorld) (cs : List Commitment) (ls : List Line) (connected : v.connected ≡ true) where
  acked_sourced : (outs news : List Row) (a b : Row) (n : ℕ) → In a outs → Replaced outs news a b → IsAckedTo a b n → IsAckedTruly d peer v news → (h : IsSourced d peer c v outs cs ls)
      → (a.destination ≡ d → a.acked < n → is_decided v.decided (record { sequence = a.sequence; number = n }) ≡ true → IsToldOf c h.world (record { sequence = a.sequence; number = n })) → IsSourced d peer c v news cs ls
  acked_sourced outs news a b n there r s truly h tell = at (same_name a.destination d) refl
    where
      apart : (a.destination ≡ d → ⊥) → IsSourced d peer c v news cs ls
      apart none = record {
        world = h.world;
        reached = h.reached;
        same = h.same;
        rows = other_row d peer outs news a b h.world r s.destination none h.rows;
        committed = h.committed;
        expired = h.expired;
      }

      same : a.destination ≡ d → b.acked ≡ a.acked → IsSourced d peer c v news cs ls
      same e f = record {
        world = h.world;
        reached = h.reached;
        same = h.same;
        rows = own_row d peer outs news a b h.world h.world there e r s.destination s.peer s.sequence (none_steps h.world a b n s f) h.rows;
        committed = h.committed;
        expired = h.expired;
      }

      told : a.destination ≡ d → IsToldOf c h.world (record { sequence = a.sequence; number = n }) → IsSourced d peer c v news cs ls
      told e t = record {
        world = t.world;
        reached = t.reached;
        same = record {
          channel = t.same.channel ∙ h.same.channel;
          decided = t.same.decided ∙ h.same.decided;
          fates = t.same.fates ∙ h.same.fates;
          transfers = t.same.transfers ∙ h.same.transfers;
          order_acks = t.same.order_acks ∙ h.same.order_acks;
          final_acks = t.same.final_acks ∙ h.same.final_acks;
          connection = t.same.connection ∙ h.same.connection;
          connected = t.same.connected ∙ h.same.connected;
        };
        rows = own_row d peer outs news a b h.world t.world there e r s.destination s.peer s.sequence (told_steps c h.world a b n s t) h.rows;
        committed = t.committed ∙ h.committed;
        expired = t.expired ∙ h.expired;
      }

      raises : nat_lt a.acked n ≡ true → max a.acked n ≡ n
      raises e = grind (arith, nat_tests)

      stays : nat_lt a.acked n ≡ false → max a.acked n ≡ a.acked
      stays e = grind (arith, nat_tests)

      less : nat_lt a.acked n ≡ true → a.acked < n
      less e = grind (arith, nat_tests)

      some : nat_lt a.acked n ≡ true → n ≡ 0 → ⊥
      some e f = grind (arith, nat_tests)

      true_now : a.destination ≡ d → nat_lt a.acked n ≡ true → (b.acked ≡ 0) ⊎ (is_decided v.decided (record { sequence = b.sequence; number = b.acked }) ≡ true) → IsSourced d peer c v news cs ls
      true_now e f (inl none) = absurd (some f (sym (s.acked ∙ raises f) ∙ none))
      true_now e f (inr g) = told e (tell e (less f) (subst (λ q. is_decided v.decided (record { sequence = q; number = n }) ≡ true) s.sequence
          (subst (λ k. is_decided v.decided (record { sequence = b.sequence; number = k }) ≡ true) (s.acked ∙ raises f) g)))

      own : a.destination ≡ d → (t : Bool) → nat_lt a.acked n ≡ t → IsSourced d peer c v news cs ls
      own e true f = true_now e f (truly b r.there (s.destination ∙ e) (s.peer ∙ h.rows.peers a there e))
      own e false f = same e (s.acked ∙ stays f)

      at : (t : Bool) → same_name a.destination d ≡ t → IsSourced d peer c v news cs ls
      at true e = own (same_name_is a.destination d e) (nat_lt a.acked n) refl
      at false e = apart (λ f. true_not_false (same_name a.destination d) (subst (λ m. same_name m d ≡ true) (sym f) (same_name_refl d)) e)

  -- by an order acknowledgement
  pub order_sourced : (outs : List Row) (ordinal number : ℕ) → OrdinalsRise outs → IsAckedTruly d peer v (with_first_changed (acknowledged number) (has_ordinal ordinal) outs)
      → MayAck d v.order_acks v.connection outs ordinal number → IsSourced d peer c v outs cs ls → IsSourced d peer c v (with_first_changed (acknowledged number) (has_ordinal ordinal) outs) cs ls
  order_sourced outs ordinal number rise truly may h = at (has_row_of ordinal outs)
    where
      at : ((a : Row) × In a outs × (a.sequence.ordinal ≡ ordinal)) ⊎ ((r : Row) → In r outs → r.sequence.ordinal ≡ ordinal → ⊥)
          → IsSourced d peer c v (with_first_changed (acknowledged number) (has_ordinal ordinal) outs) cs ls
      at (inr none) = subst (λ xs. IsSourced d peer c v xs cs ls) (sym (none_replaced (acknowledged number) ordinal outs none)) h
      at (inl g) = acked_sourced outs (with_first_changed (acknowledged number) (has_ordinal ordinal) outs) g.0 (acknowledged number g.0) number g.1
          (subst (λ n. Replaced outs (with_first_changed (acknowledged number) (has_ordinal n) outs) g.0 (acknowledged number g.0)) g.2 (ordinal_replaced (acknowledged number) outs g.0 rise g.1))
          (record {
            peer = refl;
            destination = refl;
            sequence = refl;
            committed = refl;
            offered = refl;
            acked = refl;
            kept = λ k i. filtered_in (λ (x : Kept). nat_lt (max g.0.acked number) x.number || keeps_dead x.message) g.0.kept k i;
          }) truly h tell
        where
          tell : g.0.destination ≡ d → g.0.acked < number → is_decided v.decided (record { sequence = g.0.sequence; number = number }) ≡ true
              → IsToldOf c h.world (record { sequence = g.0.sequence; number = number })
          tell e less decided = order_told c h.world (record { sequence = g.0.sequence; number = number }) h.reached (h.same.connected ∙ connected)
              (ap (λ ds. is_decided ds (record { sequence = g.0.sequence; number = number })) h.same.decided ∙ decided)
              (let shown = (h.rows.rows g.0 g.1 e).acked in omega (arith, less, shown))
              (subst (λ acks. HasAck acks (record { sequence = g.0.sequence; number = number }) h.world.connection) (sym h.same.order_acks)
              (subst (HasAck v.order_acks (record { sequence = g.0.sequence; number = number })) (sym h.same.connection) (may g.0 g.1 g.2 e)))

  -- by a final one
  finished_sourced : (s : State) (m : Message) (from index : ℕ) → peer_known s m.id.qm ≡ Some from → index_finished s from m ≡ Some index → OrdinalsRise s.outs
      → IsAckedTruly d peer v (finished_at s m index).outs → MayFinish d v s.peers s.outs m → IsSourced d peer c v s.outs cs ls → IsSourced d peer c v (finished_at s m index).outs cs ls
  finished_sourced s m from index came at_index rise truly may h = at (slice_get s.outs index) refl truly
    where
      done : Kept → State
      done k = dead_for m.class (with_finished m.correlation s index k) k.message

      of_row : (row : Row) → slice_get s.outs index ≡ Some row → (o : Option Kept) → kept_named m.correlation row ≡ o → IsAckedTruly d peer v (option_map_or done o s).outs
          → IsSourced d peer c v (option_map_or done o s).outs cs ls
      of_row row e None named truly = h
      of_row row e (Some k) named truly = let same = (dead_rows m.class (with_finished m.correlation s index k) k.message).outs in subst (λ xs. IsSourced d peer c v xs cs ls) (sym same)
          (acked_sourced s.outs (with_finished m.correlation s index k).outs row (finished_row m.correlation k.number row) k.number inside
          (index_replaced (finished_row m.correlation k.number) s.outs index row rise e)
          (record {
            peer = refl;
            destination = refl;
            sequence = refl;
            committed = refl;
            offered = refl;
            acked = refl;
            kept = λ x i. without_in (is_offered_as m.correlation row) row.kept x
                (filtered_in (λ (y : Kept). nat_lt (max row.acked k.number) y.number || keeps_dead y.message) (without_first (is_offered_as m.correlation row) row.kept) x i);
          }) (subst (IsAckedTruly d peer v) same truly) h tell)
        where
          inside : In row s.outs
          inside = get_in s.outs index row e

          found : find (is_offered_as m.correlation row) row.kept ≡ Some k
          found = sym (first_is_found (is_offered_as m.correlation row) row.kept) ∙ named

          -- it is to the peer
          passes : has_named from m.correlation row ≡ true
          passes = found_passes (has_named from m.correlation) s.outs row
              (sym (first_is_found (has_named from m.correlation) s.outs) ∙ ap (λ (o : Option ℕ). option_and_then (slice_get s.outs) o) at_index ∙ e)

          leads : row.peer ≡ from
          leads = equal_numbers row.peer from (split_and (row.peer == from) (list_any (names_kept m.correlation) row.kept) passes).0

          tell : row.destination ≡ d → row.acked < k.number → is_decided v.decided (position_at row k) ≡ true → IsToldOf c h.world (position_at row k)
          tell to less decided = fate_told c h.world (position_at row k) h.reached (h.same.connected ∙ connected)
              (subst (λ acks. HasFinal acks (position_at row k) h.world.connection) (sym h.same.final_acks) (subst (HasFinal v.final_acks (position_at row k)) (sym h.same.connection)
              (may row k inside (found_kept (is_offered_as m.correlation row) row.kept k found)
              (split_and (names_kept m.correlation k) (nat_le k.number row.offered) (found_passes (is_offered_as m.correlation row) row.kept k found)).0 to
              (came ∙ ap (λ n. Some n) (sym leads)) decided)))

      at : (o : Option Row) → slice_get s.outs index ≡ o → IsAckedTruly d peer v (option_map_or done (option_and_then (kept_named m.correlation) o) s).outs
          → IsSourced d peer c v (option_map_or done (option_and_then (kept_named m.correlation) o) s).outs cs ls
      at None e truly = h
      at (Some row) e truly = of_row row e (kept_named m.correlation row) refl truly

  pub final_sourced : (s : State) (m : Message) → OrdinalsRise s.outs → IsAckedTruly d peer v (final_stored s m).state.outs → MayFinish d v s.peers s.outs m → IsSourced d peer c v s.outs cs ls
      → IsSourced d peer c v (final_stored s m).state.outs cs ls
  final_sourced s m rise truly may h = at (peer_known s m.id.qm) refl truly
    where
      by : (from : ℕ) → peer_known s m.id.qm ≡ Some from → (o : Option ℕ) → index_finished s from m ≡ o → IsAckedTruly d peer v (option_map_or (finished_at s m) o s).outs
          → IsSourced d peer c v (option_map_or (finished_at s m) o s).outs cs ls
      by from came None e truly = h
      by from came (Some index) e truly = finished_sourced s m from index came e rise truly may h

      at : (o : Option ℕ) → peer_known s m.id.qm ≡ o → IsAckedTruly d peer v (option_map_or (λ k. finished_by s k m) o s).outs → IsSourced d peer c v (option_map_or (λ k. finished_by s k m) o s).outs cs ls
      at None came truly = h
      at (Some k) came truly = by k came (index_finished s k m) refl truly
