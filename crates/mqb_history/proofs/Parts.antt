-- Parts of the invariant of the network: which numbers messages bear, and what never went in a stream.
use Rattle.std.proofs.Common.{refl, sym, subst, ◌∙◌, arith, inl, inr}
use Rattle.std.specs.Prelude.{[], ◌+◌, ◌<◌, ◌∷◌, ◌≡◌, ◌≤◌, ◌⊎◌, List, None, Option, Some, length, slice_get, unwrap_or, ℕ}
use Rattle.mqb_base.specs.declared.ids.Identity.{Identity}
use Rattle.mqb_base.specs.declared.ledger.Line.TheVariants as line
use Rattle.mqb_base.specs.declared.message.Message.{Message}
use Rattle.mqb_exactly_once.specs.Words.{In}
use Rattle.mqb_model.specs.managers.Manager.{Manager}
use Rattle.mqb_model.specs.records.Applying.{lines_of}
use Rattle.mqb_network.specs.Courses.{Course, Written}
use Rattle.mqb_network.specs.Laws.{AreApart, lines_written}
use Rattle.mqb_network.specs.Network.{manager_at, nobody}
use Rattle.mqb_packet.specs.declared.packet.Packet.TheVariants as packet
use Rattle.mqb_history.specs.Carried.{AreCarriedTruly, AreDecidedTruly}
use Rattle.mqb_history.specs.Decided.{IsDecidedInOrder, written_of}
use Rattle.mqb_history.specs.Expired.{AreExpiredDuly}
use Rattle.mqb_history.specs.Invariants.{AreDurableBelow, AreExpressAbove, AreKeptCommitted, AreListedUnsent, AreLocalsApart, AreNextApart, ArePacketsUnsent, AreStreamsAway}
use Rattle.mqb_history.specs.Orderly.{IsOrderly}
use Rattle.mqb_history.specs.Committed.{commitments}
use Rattle.mqb_history.specs.Told.{AreCommitmentsTold}
use Rattle.mqb_history.specs.Truths.{local_in, told_by}
use Rattle.mqb_history.proofs.Committing.{IsCounted}
use Rattle.mqb_history.proofs.Accounted.{IsApart, IsPlainId, Stands, resting}
use Rattle.mqb_history.proofs.Accounts.{befores}
use Rattle.mqb_history.proofs.Acknowledged.{committer}
use Rattle.mqb_history.proofs.Answering.{IsCredible}
use Rattle.mqb_history.proofs.Between.{all_in}
use Rattle.mqb_history.proofs.Copies.{sent_from}
use Rattle.mqb_history.proofs.Courses.{Agrees, HasSender}
use Rattle.mqb_history.proofs.Fates.{AllFrom, IsWaiting, PlainFair, WaitsFairly}
use Rattle.mqb_history.proofs.Finality.{numbered_in}
use Rattle.mqb_history.proofs.Gone.{IsAccounted}
use Rattle.mqb_history.proofs.Lists.{get_within, within_get}
use Rattle.mqb_history.proofs.Noticed.{guid_of, not_plain, noticed_fair, written_in}
use Rattle.mqb_history.proofs.Numbering.{AreCounted}
use Rattle.mqb_history.proofs.Sources.{IsCommittedAt, not_here}
use Rattle.mqb_history.proofs.Truthful.{local_line}

-- a member has it by its index
from_in : {X : Type 0} (P : ℕ → X → Type 0) (k : ℕ) (xs : List X) (x : X) → AllFrom P k xs → In x xs → (n : ℕ) × P n x
from_in P k [] x h i = absurd i
from_in P k (y ∷ xs) x h (inl e) = (k, subst (P k) e h.0)
from_in P k (y ∷ xs) x h (inr i) = from_in P (k + 1) xs x h.1 i

module _ (known : List Identity) (apart : AreApart known) (c : Course) (accounts : IsAccounted known c) where
  abbrev o : IsOrderly known c
  o = accounts.agreed.0.0

  abbrev h : Agrees known c
  h = accounts.agreed.1

  -- a manager that is there is known
  there_known : (i : ℕ) → i < length c.network.managers → (own : Identity) × (slice_get known i ≡ Some own)
  there_known i low = within_get known i (subst (λ n. i < n) o.count low)

  pub express_above : AreExpressAbove c
  express_above m inside e = (noticed_fair known c o h m inside).express e

  pub durable_below : AreDurableBelow c
  durable_below m inside e = (noticed_fair known c o h m inside).durable e

  pub next_apart : AreNextApart c
  next_apart i low = let own = there_known i low in let keeps = (h.stand i own.0 own.1).keeps in (keeps.high, keeps.express)

  module _ (told : AreCommitmentsTold c) (truly : AreDecidedTruly c) where
    pub listed_unsent : AreListedUnsent c
    listed_unsent i p item there waits sent = at (slice_get c.network.managers i) refl
      where
        plain : (own : Identity) → slice_get known i ≡ Some own
            → IsPlainId (manager_at c.network i).state.identity.guid (manager_at c.network i).state.next_number (lines_written (written_of i c.written)) item.message.id
        plain own known_there = record { source = w.source; below = w.below; apart = unsent w.known }
          where
            stand : Stands (lines_written c.written) (lines_written (written_of i c.written)) (befores (written_of i c.written)) c.sent (manager_at c.network i).state
            stand = h.stand i own known_there

            fair : (n : ℕ) × PlainFair (resting (manager_at c.network i).state stand.went (lines_written (written_of i c.written))) (λ l. In l (lines_written c.written)) stand.keeps.goes
                (manager_at c.network i).state.next_number n p
            fair = from_in _ 0 (manager_at c.network i).state.plain p stand.keeps.plain there

            w : IsWaiting (resting (manager_at c.network i).state stand.went (lines_written (written_of i c.written))) stand.keeps.goes (manager_at c.network i).state.next_number fair.0 item.message
            w = (all_in (WaitsFairly (resting (manager_at c.network i).state stand.went (lines_written (written_of i c.written))) (λ l. In l (lines_written c.written)) stand.keeps.goes
                (manager_at c.network i).state.next_number fair.0) p.recoverable item fair.1.recoverable waits).1

            unsent : ((item.message.id.number < (manager_at c.network i).state.next_number) × IsApart (lines_written (written_of i c.written)) item.message.id)
                ⊎ ((manager_at c.network i).state.next_number ≤ item.message.id.number) → IsApart (lines_written (written_of i c.written)) item.message.id
            unsent (inl g) = g.1
            unsent (inr high) = let low = w.below in absurd (omega (arith, low, high))

        at : (x : Option Manager) → slice_get c.network.managers i ≡ x → ⊥
        at None e = subst (λ (y : Option Manager). In p (unwrap_or y nobody).state.plain) e there
        at (Some x) e = let own = there_known i (get_within c.network.managers i x e) in
            not_plain known apart c o h item.message.id (sent_from known apart c accounts told truly item.message.id sent) i own.0 own.1 (plain own.0 own.1)

    pub packets_unsent : ArePacketsUnsent c
    packets_unsent k note p e f t durable sent = not_plain known apart c o h p.message.id (sent_from known apart c accounts told truly p.message.id sent) from.sender from.own from.there
        ((h.stand from.sender from.own from.there).packets p inside (from.source ∙ sym (guid_of known apart c o h from.sender from.own from.there)) (t, durable)).plain
      where
        inside : In (packet.User p) c.sent
        inside = numbered_in c.sent k (packet.User p) f

        from : HasSender known p
        from = h.senders p inside (t, durable)

    module _ (credible : IsCredible known c) (carried : AreCarriedTruly c) (duly : AreExpiredDuly c) (rise : IsDecidedInOrder c) where
      counted : (i : ℕ) → AreCounted (manager_at c.network i).state (written_of i c.written)
      counted i = (accounts.tallied i).counted

      pub locals_apart : AreLocalsApart c
      locals_apart i m inside local = not_here known apart c o h counted told m.message.id source w.0 w.1 w.2
        where
          source : IsCommittedAt known c m.message.id
          source = let is = committer known apart c credible i m inside in record { source = i; own = is.own; there = is.there; commitment = m; inside = inside; names = refl }

          w : (w : Written) × In w c.written × In (line.Local m.message.id) (lines_of w.before w.entry)
          w = written_in known apart c o h (line.Local m.message.id) (local_line known apart c o h counted told duly truly rise m.message.id local)

      pub streams_away : AreStreamsAway c
      streams_away k note p tx e f t local = let x = carried k note p tx e f t in
          locals_apart note.sender x.commitment x.there (subst (λ (m : Message). In m.id (told_by local_in c)) x.message local)

      pub kept_committed : AreKeptCommitted c
      kept_committed i row k inside kept = (all_in (IsCounted (commitments (written_of i c.written))) (manager_at c.network i).state.outs row (counted i).rows inside).kept k kept
