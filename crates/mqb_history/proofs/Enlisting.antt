-- The record of a transaction at a source: a stream world goes on by each message that joins the channel.
use Rattle.std.proofs.Common.{refl, ap, sym, subst, ◌∙◌, arith, inl, inr}
use Rattle.std.specs.List.{AllByRecursion, cons_option}
use Rattle.std.specs.Option.{option_map_or}
use Rattle.std.specs.Prelude.{[], ◌&&◌, ◌+◌, ◌++◌, ◌<◌, ◌==◌, ◌∷◌, ◌≡◌, ◌⊎◌, Bool, List, None, Option, Some, cond, false, fold, nat_lt, option_and_then, position, reverse, true, unwrap_or, ℕ}
use Rattle.mqb_base.specs.Same.{same_guid, same_name}
use Rattle.mqb_base.specs.declared.ids.Identity.{Identity}
use Rattle.mqb_base.specs.declared.ledger.Line.{Line}
use Rattle.mqb_base.specs.declared.message.Message.{Message}
use Rattle.mqb_base.specs.declared.queue_names.QueueName.{QueueName}
use Rattle.mqb_base.specs.declared.queue_names.QueueName.TheVariants.{Direct, Private, Public}
use Rattle.mqb_exactly_once.specs.World.{Channel, Commitment, StreamWorld}
use Rattle.mqb_exactly_once.specs.Words.{In}
use Rattle.mqb_model.specs.declared.target.Target.{Target}
use Rattle.mqb_model.specs.declared.target.Target.TheVariants.{AtPeer, Here, Nowhere}
use Rattle.mqb_model.specs.records.Commit.{send_made}
use Rattle.mqb_model.specs.rules.Effects.{Effect}
use Rattle.mqb_model.specs.rules.Sends.{committed_to, journalled}
use Rattle.mqb_model.specs.rules.Sequences.{join, new_sequence, sequence_for, sequence_in_use, with_kept, with_sequence}
use Rattle.mqb_model.specs.state.Resolving.{at_peer, at_queue, is_host_of, is_own_host, peer_at, peer_known, queue_named, queue_numbered, queue_registered, resolved}
use Rattle.mqb_model.specs.state.Rows.{has_ordinal, last_sequence, with_row}
use Rattle.mqb_model.specs.state.State.{State}
use Rattle.mqb_orders.specs.Rows.{Row}
use Rattle.mqb_history.specs.Committed.{commitment_at, commitment_to, commitments_of}
use Rattle.mqb_history.proofs.Applying.{sent_manager}
use Rattle.mqb_history.proofs.Committing.{OrdinalsRise, in_append, in_split, is_first_changed}
use Rattle.mqb_history.proofs.Lists.{all_append, all_weaker, append_nothing, none_some, same_number, true_not_false}
use Rattle.mqb_history.proofs.Names.{same_name_is, same_name_refl}
use Rattle.mqb_history.proofs.Numbering.{changed_all, cons_behind, in_use_in, rise_kept, rise_new}
use Rattle.mqb_history.proofs.Replacing.{Replaced, ordinal_replaced}
use Rattle.mqb_history.proofs.Sourcing.{IsLast, IsSourced, joins_apart, last_is_last, other_row, row_begun, row_joined, sourced_outs}
use Rattle.mqb_history.proofs.Staying.{IsSameManager, delivered_rows, journalled_rows}
use Rattle.mqb_history.proofs.Telling.{sequence_leads}

-- Where a name leads that leads to a peer depends on who a manager and its peers are alone.

no_peer_queue : (o : Option ℕ) (k : ℕ) → at_queue o ≡ AtPeer k → ⊥
no_peer_queue None k e = let none : ⊥ = cc in none
no_peer_queue (Some n) k e = let none : ⊥ = cc in none

here_or : (a b : Bool) (q r : Option ℕ) (x y : Target) (k : ℕ) → b ≡ a → (x ≡ AtPeer k → y ≡ AtPeer k) → cond a (Here q) x ≡ AtPeer k → cond b (Here r) y ≡ AtPeer k
here_or true b q r x y k e f g = absurd (let none : ⊥ = cc in none)
here_or false true q r x y k e f g = absurd (let none : ⊥ = cc in none)
here_or false false q r x y k e f g = f g

pub leads_same : (a b : State) (d : QueueName) (k : ℕ) → IsSameManager a b → resolved a d ≡ AtPeer k → resolved b d ≡ AtPeer k
leads_same a b (Public guid false) k same e = absurd (no_peer_queue (queue_registered a guid) k e)
leads_same a b (Private qm number false) k same e = here_or (same_guid qm a.identity.guid) (same_guid qm b.identity.guid) (queue_numbered a number) (queue_numbered b number)
    (at_peer (peer_known a qm)) (at_peer (peer_known b qm)) k (ap (λ (i : Identity). same_guid qm i.guid) same.identity)
    (λ f. ap (λ (ps : List Identity). at_peer (position (λ p. same_guid p.guid qm) ps)) same.peers ∙ f) e
leads_same a b (Direct host queue false) k same e = here_or (is_own_host a.identity host) (is_own_host b.identity host) (queue_named a queue) (queue_named b queue)
    (at_peer (peer_at a host)) (at_peer (peer_at b host)) k (ap (λ i. is_own_host i host) same.identity)
    (λ f. ap (λ (ps : List Identity). at_peer (position (is_host_of host) ps)) same.peers ∙ f) e
leads_same a b d k same e = absurd (let none : ⊥ = cc in none)

one_target : (a b : ℕ) → AtPeer a ≡ AtPeer b → a ≡ b
one_target a b e = cc

-- Ordinals rise, and are below the next one.
pub record IsGoing (s : State) : Type 0 where
  pub rise : OrdinalsRise s.outs
  pub below : AllByRecursion (λ (r : Row). r.sequence.ordinal < s.next_ordinal) s.outs

going_same : (a b : State) → b.outs ≡ a.outs → b.next_ordinal ≡ a.next_ordinal → IsGoing a → IsGoing b
going_same a b outs next h = record {
  rise = subst OrdinalsRise (sym outs) h.rise;
  below = subst (λ rows. AllByRecursion (λ (r : Row). r.sequence.ordinal < b.next_ordinal) rows) (sym outs)
      (subst (λ n. AllByRecursion (λ (r : Row). r.sequence.ordinal < n) a.outs) (sym next) h.below);
}

join_going : (s : State) (peer now : ℕ) (m : Message) → IsGoing s → IsGoing (join s peer now m)
join_going s peer now m h = at (sequence_in_use s peer m.destination)
  where
    new : Row
    new = new_sequence s peer m.destination now

    at : (o : Option Row) → IsGoing (option_map_or (λ row. with_row (with_kept m) s row.sequence.ordinal) o (with_sequence s (with_kept m new)))
    at None = record {
      rise = rise_new s.outs (with_kept m new) h.rise h.below;
      below = all_append (λ (r : Row). r.sequence.ordinal < s.next_ordinal + 1) s.outs (with_kept m new ∷ [])
          (all_weaker (λ (r : Row). r.sequence.ordinal < s.next_ordinal) (λ r. r.sequence.ordinal < s.next_ordinal + 1) (λ r less. omega (arith, less)) s.outs h.below) (omega arith, tt);
    }
    at (Some row) = record {
      rise = subst OrdinalsRise (sym (is_first_changed (with_kept m) (has_ordinal row.sequence.ordinal) s.outs)) (rise_kept m (has_ordinal row.sequence.ordinal) s.outs h.rise);
      below = subst (λ rows. AllByRecursion (λ (r : Row). r.sequence.ordinal < s.next_ordinal) rows) (sym (is_first_changed (with_kept m) (has_ordinal row.sequence.ordinal) s.outs))
          (changed_all (λ (r : Row). r.sequence.ordinal < s.next_ordinal) (with_kept m) (has_ordinal row.sequence.ordinal) s.outs (λ r less. less) h.below);
    }

module _ (d : QueueName) (peer : ℕ) (c : Channel) (v : StreamWorld) (ls : List Line) where
  -- commitments to another destination
  apart_sourced : (outs : List Row) (cs : List Commitment) (x : Commitment) → (x.message.destination ≡ d → ⊥) → IsSourced d peer c v outs cs ls → IsSourced d peer c v outs (cs ++ x ∷ []) ls
  apart_sourced outs cs x apart h = record {
    world = h.world;
    reached = h.reached;
    same = h.same;
    rows = h.rows;
    committed = h.committed ∙ ap reverse (sym (joins_apart d cs x apart));
    expired = h.expired;
  }

  -- a row to another destination
  apart_new : (outs : List Row) (cs : List Commitment) (row : Row) → (row.destination ≡ d → ⊥) → IsSourced d peer c v outs cs ls → IsSourced d peer c v (outs ++ row ∷ []) cs ls
  apart_new outs cs row apart h = record {
    world = h.world;
    reached = h.reached;
    same = h.same;
    rows = record {
      rows = λ r i e. h.rows.rows r (old r e (in_split outs (row ∷ []) r i)) e;
      peers = λ r i e. h.rows.peers r (old r e (in_split outs (row ∷ []) r i)) e;
      rowed = λ x i. let g = h.rows.rowed x i in (g.0, in_append outs (row ∷ []) g.0 g.1, g.2, g.3);
    };
    committed = h.committed;
    expired = h.expired;
  }
    where
      old : (r : Row) → r.destination ≡ d → In r outs ⊎ In r (row ∷ []) → In r outs
      old r e (inl j) = j
      old r e (inr (inl f)) = absurd (apart (ap (λ (y : Row). y.destination) f ∙ e))
      old r e (inr (inr none)) = absurd none

  -- another row
  apart_row : (olds news : List Row) (cs : List Commitment) (row : Row) (m : Message) → Replaced olds news row (with_kept m row) → (row.destination ≡ d → ⊥)
      → IsSourced d peer c v olds cs ls → IsSourced d peer c v news cs ls
  apart_row olds news cs row m r apart h = record {
    world = h.world;
    reached = h.reached;
    same = h.same;
    rows = other_row d peer olds news row (with_kept m row) h.world r refl apart h.rows;
    committed = h.committed;
    expired = h.expired;
  }

  in_use_last : (s : State) (k : ℕ) (name : QueueName) (row : Row) → sequence_in_use s k name ≡ Some row → last_sequence s k name ≡ Some row
  in_use_last s k name row e = at (last_sequence s k name) e
    where
      at : (o : Option Row) → option_and_then (λ row. cond (nat_lt row.committed s.roll) (Some row) None) o ≡ Some row → o ≡ Some row
      at None f = absurd (none_some f)
      at (Some x) f = by (nat_lt x.committed s.roll) f
        where
          by : (b : Bool) → cond b (Some x) None ≡ Some row → Some x ≡ Some row
          by true g = g
          by false g = absurd (none_some g)

  -- the row in use is the last one to the destination
  used_is_last : (s : State) (cs : List Commitment) (row : Row) → IsGoing s → sequence_in_use s peer d ≡ Some row → IsSourced d peer c v s.outs cs ls → IsLast d s.outs row
  used_is_last s cs row going used h r i e = last_is_last peer d None s.outs row (in_use_last s peer d row used) going.rise r i
      (ap (λ n. (n == peer) && same_name r.destination d) (h.rows.peers r i e) ∙ ap (λ b. b && same_name r.destination d) (same_number peer)
      ∙ subst (λ n. same_name n d ≡ true) (sym e) (same_name_refl d))

  -- a message to the destination
  join_own : (s : State) (now : ℕ) (m : Message) (cs : List Commitment) → m.destination ≡ d → IsGoing s → IsSourced d peer c v s.outs cs ls
      → IsSourced d peer c v (join s peer now m).outs (cs ++ commitment_to (sequence_for s peer m.destination now) m ∷ []) ls
  join_own s now m cs to going h = at (sequence_in_use s peer m.destination) refl
    where
      new : Row
      new = new_sequence s peer m.destination now

      at : (o : Option Row) → sequence_in_use s peer m.destination ≡ o
          → IsSourced d peer c v (option_map_or (λ row. with_row (with_kept m) s row.sequence.ordinal) o (with_sequence s (with_kept m new))).outs (cs ++ commitment_to (unwrap_or o new) m ∷ []) ls
      at None e = row_begun d peer c v s.outs cs ls going.rise s.next_ordinal new m going.below (omega arith) refl refl refl refl to refl to h
      at (Some row) e = row_joined d peer c v s.outs cs ls going.rise _ row m (in_use_in s peer m.destination row e)
          (used_is_last s cs row going (subst (λ n. sequence_in_use s peer n ≡ Some row) to e) h)
          (sym (ap (λ o. (unwrap_or o new).destination) e) ∙ sequence_leads s peer m.destination now ∙ to) to
          (ordinal_replaced (with_kept m) s.outs row going.rise (in_use_in s peer m.destination row e)) h

  -- and to another one
  join_apart : (s : State) (k now : ℕ) (m : Message) (cs : List Commitment) → (m.destination ≡ d → ⊥) → IsGoing s → IsSourced d peer c v s.outs cs ls
      → IsSourced d peer c v (join s k now m).outs (cs ++ commitment_to (sequence_for s k m.destination now) m ∷ []) ls
  join_apart s k now m cs apart going h = at (sequence_in_use s k m.destination) refl
    where
      new : Row
      new = new_sequence s k m.destination now

      at : (o : Option Row) → sequence_in_use s k m.destination ≡ o
          → IsSourced d peer c v (option_map_or (λ row. with_row (with_kept m) s row.sequence.ordinal) o (with_sequence s (with_kept m new))).outs (cs ++ commitment_to (unwrap_or o new) m ∷ []) ls
      at None e = apart_sourced (s.outs ++ with_kept m new ∷ []) cs (commitment_to new m) apart (apart_new s.outs cs (with_kept m new) apart h)
      at (Some row) e = apart_sourced _ cs (commitment_to row m) apart (apart_row s.outs _ cs row m
          (ordinal_replaced (with_kept m) s.outs row going.rise (in_use_in s k m.destination row e))
          (λ f. apart (sym (sym (ap (λ o. (unwrap_or o new).destination) e) ∙ sequence_leads s k m.destination now) ∙ f)) h)

  join_sourced : (s : State) (k now : ℕ) (m : Message) (cs : List Commitment) → (m.destination ≡ d → k ≡ peer) → IsGoing s → IsSourced d peer c v s.outs cs ls
      → IsSourced d peer c v (join s k now m).outs (cs ++ commitment_to (sequence_for s k m.destination now) m ∷ []) ls
  join_sourced s k now m cs to going h = at (same_name m.destination d) refl
    where
      apart : same_name m.destination d ≡ false → m.destination ≡ d → ⊥
      apart e f = true_not_false (same_name m.destination d) (subst (λ n. same_name n d ≡ true) (sym f) (same_name_refl d)) e

      at : (b : Bool) → same_name m.destination d ≡ b → IsSourced d peer c v (join s k now m).outs (cs ++ commitment_to (sequence_for s k m.destination now) m ∷ []) ls
      at true e = subst (λ n. IsSourced d peer c v (join s n now m).outs (cs ++ commitment_to (sequence_for s n m.destination now) m ∷ []) ls) (sym (to (same_name_is m.destination d e)))
          (join_own s now m cs (same_name_is m.destination d e) going h)
      at false e = join_apart s k now m cs (apart e) going h

  -- a message of a transaction is sent
  to_sourced : (now : ℕ) (s : State) (t : Target) (m : Message) (cs : List Commitment) → ((k : ℕ) → t ≡ AtPeer k → m.destination ≡ d → k ≡ peer) → IsGoing s
      → IsSourced d peer c v s.outs cs ls
      → IsSourced d peer c v (committed_to now s t m).state.outs (cs ++ cons_option (commitment_at now s t m) []) ls × IsGoing (committed_to now s t m).state
  to_sourced now s (AtPeer k) m cs to going h = (join_sourced s k now m cs (to k refl) going h, join_going s k now m going)
  to_sourced now s (Here queue) m cs to going h = let same = delivered_rows s (Here queue) m now in (
    sourced_outs d peer c v s.outs (committed_to now s (Here queue) m).state.outs (cs ++ []) ls same.outs (subst (λ xs. IsSourced d peer c v s.outs xs ls) (sym (append_nothing cs)) h),
    going_same s (committed_to now s (Here queue) m).state same.outs same.next_ordinal going,
  )
  to_sourced now s Nowhere m cs to going h = let same = delivered_rows s Nowhere m now in (
    sourced_outs d peer c v s.outs (committed_to now s Nowhere m).state.outs (cs ++ []) ls same.outs (subst (λ xs. IsSourced d peer c v s.outs xs ls) (sym (append_nothing cs)) h),
    going_same s (committed_to now s Nowhere m).state same.outs same.next_ordinal going,
  )

  -- all of them
  pub sends_sourced : (now : ℕ) (e : Effect) (ms : List Message) (cs : List Commitment) → resolved e.state d ≡ AtPeer peer → IsGoing e.state → IsSourced d peer c v e.state.outs cs ls
      → IsSourced d peer c v (fold (send_made now) e ms).state.outs (cs ++ commitments_of now e ms) ls
  sends_sourced now e [] cs leads going h = subst (λ xs. IsSourced d peer c v e.state.outs xs ls) (sym (append_nothing cs)) h
  sends_sourced now e (m ∷ ms) cs leads going h = let s = journalled e.state m in let same = journalled_rows e.state m in let t = resolved e.state m.destination in
      let next = to_sourced now s t m cs to (going_same e.state s same.outs same.next_ordinal going) (sourced_outs d peer c v e.state.outs s.outs cs ls same.outs h) in
      subst (λ xs. IsSourced d peer c v (fold (send_made now) (send_made now e m) ms).state.outs xs ls) (cons_behind cs (commitment_at now s t m) (commitments_of now (send_made now e m) ms))
      (sends_sourced now (send_made now e m) ms (cs ++ cons_option (commitment_at now s t m) [])
      (leads_same e.state (send_made now e m).state d peer (sent_manager now e.state m) leads) next.1 next.0)
    where
      to : (k : ℕ) → resolved e.state m.destination ≡ AtPeer k → m.destination ≡ d → k ≡ peer
      to k f g = one_target k peer (sym f ∙ ap (resolved e.state) g ∙ leads)
