-- Queues have, and let go, no more copies of a message than lines say came to them.
use Rattle.std.proofs.Common.{refl, ap, sym, subst, arith, inl, inr}
use Rattle.std.proofs.Math.Nat.{le-max_left, le-max_right}
use Rattle.std.specs.Option.{option_map_or}
use Rattle.std.specs.Prelude.{◌+◌, ◌<◌, ◌==◌, ◌≡◌, ◌≤◌, ◌⊎◌, List, Option, Some, filter_map, length, max, suc, zero, ℕ}
use Rattle.mqb_base.specs.declared.ids.Identity.{Identity}
use Rattle.mqb_base.specs.declared.ids.MessageId.{MessageId}
use Rattle.mqb_base.specs.declared.ledger.Line.{Line}
use Rattle.mqb_base.specs.declared.ledger.Line.TheVariants as line
use Rattle.mqb_exactly_once.specs.Words.{In}
use Rattle.mqb_model.specs.records.Applying.{lines_of}
use Rattle.mqb_network.specs.Courses.{Course, Written}
use Rattle.mqb_network.specs.Laws.{AreApart, lines_written}
use Rattle.mqb_network.specs.Network.{manager_at}
use Rattle.mqb_network.specs.Doubts.{settled}
use Rattle.mqb_network.specs.Runs.{after_run}
use Rattle.mqb_history.specs.Carried.{AreDecidedTruly}
use Rattle.mqb_history.specs.Copies.{AlwaysCopiedRightly, AreCopiesRight, AreCopiesTold, IsNoneUnput, IsSentOnce, came_in, left_in, sent_in, standing, times}
use Rattle.mqb_history.specs.Decided.{IsDecidedInOrder, written_of}
use Rattle.mqb_history.specs.Orderly.{IsOrderly}
use Rattle.mqb_history.specs.Told.{AreCommitmentsTold}
use Rattle.mqb_history.specs.Truths.{committed_in, local_in, put_in, told_by}
use Rattle.mqb_history.proofs.Arriving.{IsPut, arrived, comes_once, comes_to_one, put_by, stored_from}
use Rattle.mqb_history.proofs.Balance.{balance, balance_gone, begun_once, over_all}
use Rattle.mqb_history.proofs.Carrying.{always_decided_truly}
use Rattle.mqb_history.proofs.Counted.{begins_word, came_word, left_word}
use Rattle.mqb_history.proofs.Courses.{Agrees, HasSender}
use Rattle.mqb_history.proofs.Deciding.{always_decided_in_order}
use Rattle.mqb_history.proofs.Gone.{IsAccounted, IsGone, always_accounted}
use Rattle.mqb_history.proofs.Lists.{get_within, none_some, some_is}
use Rattle.mqb_history.proofs.Locals.{IsSendOf}
use Rattle.mqb_history.proofs.Noticed.{IsSentBy, IsStoring, StoredBy, Told, flat_in, in_flat, sent_by, told_from, written_in}
use Rattle.mqb_history.proofs.Numbering.{AreCounted}
use Rattle.mqb_history.proofs.Outside.{filtered_in}
use Rattle.mqb_history.proofs.Puts.{told_in}
use Rattle.mqb_history.proofs.Remaining.{arrivals}
use Rattle.mqb_history.proofs.Sources.{IsCommittedAt, committed_told}
use Rattle.mqb_history.proofs.Sums.{summed_one, tally_plus, times_is, word}
use Rattle.mqb_history.proofs.Tallies.{arrives, begins, left, tally, tally_from, tally_there, weight, weight_own}
use Rattle.mqb_history.proofs.Telling.{always_told_commitments}

-- The lines of sends.

pub is_send : (id : MessageId) (l : Line) → sent_in l ≡ Some id → IsSendOf id l
is_send id (line.Committed stream number other) e = some_is other id e
is_send id (line.Local other) e = some_is other id e
is_send id l e = absurd (none_some e)

-- a line that a word finds counts
found : (kind : Line → Option MessageId) (id : MessageId) (ls : List Line) → In id (filter_map kind ls) → 1 ≤ tally (word kind id) ls
found kind id ls i = let l = told_from kind ls id i in let same = ap (λ o. option_map_or (weight id) o 0) l.2 in let own = weight_own id in let there = tally_there (word kind id) ls l.0 l.1 in omega (arith, same, own, there)

module _ (known : List Identity) (apart : AreApart known) (c : Course) (t : IsAccounted known c) (told : AreCommitmentsTold c) (truly : AreDecidedTruly c) where
  abbrev o : IsOrderly known c
  o = t.agreed.0.0

  abbrev h : Agrees known c
  h = t.agreed.1

  abbrev all : List Line
  all = lines_written c.written

  counted : (i : ℕ) → AreCounted (manager_at c.network i).state (written_of i c.written)
  counted i = (t.tallied i).counted

  in_all : (i : ℕ) (l : Line) → In l (lines_written (written_of i c.written)) → In l all
  in_all i l inside = let w = in_flat (λ (v : Written). lines_of v.before v.entry) (written_of i c.written) l inside in
      flat_in (λ (v : Written). lines_of v.before v.entry) c.written w.0 l (filtered_in (λ (v : Written). v.by == i) c.written w.0 w.1) w.2

  -- a line tells of what was committed
  commits : (id : MessageId) → IsCommittedAt known c id → 1 ≤ tally (word committed_in id) all
  commits id x = let l = committed_told known apart c o h counted told id x in
      found committed_in id all (told_in committed_in all (line.Committed l.0 l.1 id) id (in_all x.source (line.Committed l.0 l.1 id) l.2) refl)

  pub sent_from : (id : MessageId) → In id (told_by sent_in c) → IsSentBy known c id
  sent_from id i = let l = told_from sent_in all id i in sent_by known apart c o h l.0 id l.1 (is_send id l.0 l.2)

  -- All copies.

  pub copies_told : AreCopiesTold c
  copies_told id low = at (tally (arrives id) all) refl
    where
      Goal : Type 0
      Goal = standing id c + times left_in id all ≤ max 1 (times came_in id all)

      out : tally (left id) all ≡ tally (word left_in id) all + tally (word committed_in id) all
      out = tally_plus (left id) (word left_in id) (word committed_in id) all (left_word id)

      less : standing id c + tally (word left_in id) all ≤ tally (arrives id) all → Goal
      less le = let a = times_is left_in id all in let b = times_is came_in id all in let from = tally_plus (word came_in id) (arrives id) (word local_in id) all (came_word id) in
          let most = le-max_right 1 (times came_in id all) in omega (arith, a, b, le, from, most)

      -- what was stored went in a packet
      stored : (own : Identity) (x : IsStoring c.sent own.guid id) → HasSender known x.heard → Goal
      stored own x sender = less (let le = balance_gone known apart c t id low sender.sender (subst (λ n. sender.sender < n) (sym o.count) (get_within known sender.sender sender.own sender.there))
          (subst (λ y. IsGone y (manager_at c.network sender.sender).state (written_of sender.sender c.written)) x.names
          (t.gone sender.sender sender.own sender.there x.heard x.sent_it x.plain sender.source)) in let from = out in omega (arith, le, from))

      arrival : (w : Written) (l : Line) → In w c.written → IsPut known apart c o h counted truly w.by id l ⊎ StoredBy w.entry id → Goal
      arrival w l i (inl put) = less (let le = balance known apart c t id low in let one = commits id put.decided.committed in let from = out in omega (arith, le, one, from))
      arrival w l i (inr s) = let x = stored_from known apart c o h counted truly id w i s in stored x.0 x.1 (h.senders x.1.heard x.1.sent_it x.1.plain)

      at : (n : ℕ) → tally (arrives id) all ≡ n → Goal
      at zero e = let a = times_is left_in id all in let le = balance known apart c t id low in let from = out in let most = le-max_left 1 (times came_in id all) in omega (arith, a, le, e, from, most)
      at (suc n) e = let l = tally_from (arrives id) all (omega (arith, e)) in let w = written_in known apart c o h l.0 l.1 in
          arrival w.0 l.0 w.1 (arrived known apart c o h counted truly id w.0 l.0 w.1 w.2 l.2)

  -- What was sent in a transaction, or put where it was sent.

  module _ (rise : IsDecidedInOrder c) where
    arrives_most : (id : MessageId) → IsSentBy known c id → tally (arrives id) all ≤ 1
    arrives_most id s = let split = over_all known apart c t id (arrives id) in
        let one = summed_one (λ k. arrivals id (lines_written (written_of k c.written))) (length c.network.managers) (λ k. comes_once known apart c o h counted truly rise id s k)
        (λ j k a b f g. comes_to_one known apart c o h counted truly rise id s j k f g) in omega (arith, split, one)

    -- an arrival of it is that of a committed message
    arrived_committed : (id : MessageId) → IsSentBy known c id → 1 ≤ tally (arrives id) all → IsCommittedAt known c id
    arrived_committed id s one = let l = tally_from (arrives id) all one in let w = written_in known apart c o h l.0 l.1 in
        (put_by known apart c o h counted truly rise id s w.0 l.0 w.1 w.2 l.2).decided.committed

    pub sent_once : IsSentOnce c
    sent_once id i = at (tally (arrives id) all) refl (sent_from id i)
      where
        goal : tally (word came_in id) all ≤ 1 → times came_in id all ≤ 1
        goal le = let a = times_is came_in id all in omega (arith, a, le)

        from : tally (word came_in id) all ≡ tally (arrives id) all + tally (word local_in id) all
        from = tally_plus (word came_in id) (arrives id) (word local_in id) all (came_word id)

        begun : tally (begins id) all ≡ tally (word committed_in id) all + tally (word local_in id) all
        begun = tally_plus (begins id) (word committed_in id) (word local_in id) all (begins_word id)

        at : (n : ℕ) → tally (arrives id) all ≡ n → IsSentBy known c id → times came_in id all ≤ 1
        at zero e s = goal (let a = from in let b = begun in let one = begun_once known apart c t id in omega (arith, a, b, one, e))
        at (suc n) e s = goal (let a = from in let b = begun in let one = begun_once known apart c t id in let most = arrives_most id s in
            let committed = commits id (arrived_committed id s (omega (arith, e))) in omega (arith, a, b, one, most, committed))

    pub none_unput : IsNoneUnput c
    none_unput id i unput = at (tally (arrives id) all) refl (sent_from id (sent id i))
      where
        sent : (id : MessageId) → In id (told_by committed_in c) → In id (told_by sent_in c)
        sent id i = let l = told_from committed_in all id i in by l.0 l.1 l.2
          where
            by : (x : Line) → Told c x → committed_in x ≡ Some id → In id (told_by sent_in c)
            by (line.Committed stream number other) j e = told_in sent_in all (line.Committed stream number other) id j e
            by x j e = absurd (none_some e)

        at : (n : ℕ) → tally (arrives id) all ≡ n → IsSentBy known c id → standing id c + times left_in id all ≡ 0
        at zero e s = let le = balance known apart c t id s.number in let committed = found committed_in id all i in let a = times_is left_in id all in
            let out = tally_plus (left id) (word left_in id) (word committed_in id) all (left_word id) in omega (arith, le, committed, a, out, e)
        at (suc n) e s = let l = tally_from (arrives id) all (omega (arith, e)) in let w = written_in known apart c o h l.0 l.1 in
            let put = put_by known apart c o h counted truly rise id s w.0 l.0 w.1 w.2 l.2 in
            absurd (unput (told_in put_in all l.0 id l.1 (ap put_in put.line)))

-- The law.
pub always_copied_rightly : AlwaysCopiedRightly
always_copied_rightly known ms apart run kept = let c = settled kept (after_run known ms) in of_course c (always_accounted known apart ms run kept) (always_told_commitments known ms apart run kept)
    (always_decided_truly known ms apart run kept) (always_decided_in_order known ms apart run kept)
  where
    of_course : (c : Course) → IsAccounted known c → AreCommitmentsTold c → AreDecidedTruly c → IsDecidedInOrder c → AreCopiesRight c
    of_course c t told truly rise = record {
      told = copies_told known apart c t told truly;
      once = sent_once known apart c t told truly rise;
      unput = none_unput known apart c t told truly rise;
    }
