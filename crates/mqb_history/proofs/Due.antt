-- What expired was committed, and was due.
use Rattle.std.proofs.Common.{ap, sym, subst, ◌∙◌, arith, inl, inr}
use Rattle.std.specs.List.{AllByRecursion}
use Rattle.std.specs.Prelude.{[], ◌++◌, ◌<◌, ◌∷◌, ◌≡◌, List, ℕ}
use Rattle.mqb_base.specs.declared.ids.Identity.{Identity}
use Rattle.mqb_base.specs.declared.ids.MessageId.{MessageId}
use Rattle.mqb_base.specs.declared.ledger.Line.{Line}
use Rattle.mqb_base.specs.declared.ledger.Line.TheVariants as line
use Rattle.mqb_base.specs.declared.ledger.Stream.{Stream}
use Rattle.mqb_exactly_once.specs.Words.{In}
use Rattle.mqb_exactly_once.specs.World.{Commitment}
use Rattle.mqb_model.specs.records.Applying.{apply, lines_of}
use Rattle.mqb_model.specs.state.State.{State}
use Rattle.mqb_network.specs.Courses.{Course, Written}
use Rattle.mqb_network.specs.Doubts.{settled}
use Rattle.mqb_network.specs.Laws.{lines_written}
use Rattle.mqb_network.specs.Network.{manager_at}
use Rattle.mqb_network.specs.Runs.{after_run}
use Rattle.mqb_orders.specs.Rows.{Row}
use Rattle.mqb_history.specs.Committed.{commitments, commitments_in}
use Rattle.mqb_history.specs.Decided.{written_of}
use Rattle.mqb_history.specs.Expired.{AreExpiredDuly, MayExpire, WasDue}
use Rattle.mqb_history.specs.Laws.{AlwaysExpiredDuly}
use Rattle.mqb_history.proofs.Committing.{IsCounted, all_in, in_append, kept_at}
use Rattle.mqb_history.proofs.Lists.{all_append, all_weaker}
use Rattle.mqb_history.proofs.Numbering.{commitments_more}
use Rattle.mqb_history.proofs.Telling.{lines_more}
use Rattle.mqb_history.proofs.Written.{IsByRecords, always_by_records}
use Rattle.mqb_history.proofs.Rows.{AreRowed, HasRow, rowed_by_records}
use Rattle.mqb_history.proofs.Expiring.{IsReasoned, record_reasoned}
use Rattle.mqb_history.proofs.Committing.{OrdinalsRise}
use Rattle.mqb_history.proofs.Applying.{applied_manager, made_of_no_peer}
use Rattle.mqb_base.specs.declared.ids.Guid.{Guid}
use Rattle.mqb_base.specs.declared.ids.SequenceId.{SequenceId}

-- what a line says of an expiry was committed by a manager and was due
abbrev pub IsDue : Guid → List Commitment → Line → Type 0
IsDue own cs (line.Expired stream number id moment) = WasDue own cs stream number id moment
IsDue own cs _ = Unit {0}

due_more : (own : Guid) (cs more : List Commitment) (l : Line) → IsDue own cs l → IsDue own (cs ++ more) l
due_more own cs more (line.Expired stream number id moment) h = record {
  commitment = h.commitment;
  there = in_append cs more h.commitment h.there;
  joined = h.joined;
  due = h.due;
}
due_more own cs more l h = tt

-- rows of one ordinal are one
pub one_row : (rows : List Row) (a b : Row) → OrdinalsRise rows → In a rows → In b rows → a.sequence.ordinal ≡ b.sequence.ordinal → a ≡ b
one_row [] a b rise i j same = absurd i
one_row (x ∷ rows) a b rise (inl e) (inl f) same = sym e ∙ f
one_row (x ∷ rows) a b rise (inl e) (inr j) same = let less = all_in (λ y. x.sequence.ordinal < y.sequence.ordinal) rows b rise.0 j in
    let own = ap (λ (y : Row). y.sequence.ordinal) e in absurd (omega (arith, less, own, same))
one_row (x ∷ rows) a b rise (inr i) (inl f) same = let less = all_in (λ y. x.sequence.ordinal < y.sequence.ordinal) rows a rise.0 i in
    let own = ap (λ (y : Row). y.sequence.ordinal) f in absurd (omega (arith, less, own, same))
one_row (x ∷ rows) a b rise (inr i) (inr j) same = one_row rows a b rise.1 i j same

-- what a row keeps was committed to its destination
was_due : (s : State) (ws : List Written) (stream : Stream) (number : ℕ) (id : MessageId) (moment : ℕ) → AreRowed s ws
    → MayExpire s stream number id moment → WasDue s.identity.guid (commitments ws) stream number id moment
was_due s ws stream number id moment rowed h = record {
  commitment = m;
  there = inside;
  joined = ap (λ d. record { stream = record { source = s.identity.guid; destination = d; sequence = h.row.sequence }; number = h.kept.number; id = h.kept.message.id })
      (sym place.3 ∙ ap (λ (x : Row). x.destination) same)
      ∙ ap (λ (x : Stream). record { stream = x; number = h.kept.number; id = h.kept.message.id }) (sym h.of_row)
      ∙ ap (λ n. record { stream = stream; number = n; id = h.kept.message.id }) (sym h.of_kept)
      ∙ ap (λ i. record { stream = stream; number = number; id = i }) (sym h.names);
  due = h.due;
}
  where
    m : Commitment
    m = kept_at h.row h.kept

    inside : In m (commitments ws)
    inside = (all_in (IsCounted (commitments ws)) s.outs h.row rowed.0.0.rows h.there).kept h.kept h.inside

    place : HasRow s.outs m
    place = all_in (HasRow s.outs) (commitments ws) m rowed.1 inside

    same : place.0 ≡ h.row
    same = one_row s.outs place.0 h.row rowed.0.0.rise place.1 h.there (ap (λ (q : SequenceId). q.ordinal) place.2)

line_due : (s : State) (ws : List Written) → AreRowed s ws → (l : Line) → IsReasoned s l → IsDue s.identity.guid (commitments ws) l
line_due s ws rowed (line.Expired stream number id moment) h = was_due s ws stream number id moment rowed h
line_due s ws rowed x h = tt

abbrev pub AreDue : State → List Written → Type 0
AreDue s ws = AreRowed s ws × AllByRecursion (IsDue s.identity.guid (commitments ws)) (lines_written ws)

due_of : (a b : Identity) (cs : List Commitment) (ls : List Line) → b ≡ a → AllByRecursion (IsDue a.guid cs) ls → AllByRecursion (IsDue b.guid cs) ls
due_of a b cs ls e h = subst (λ (i : Identity). AllByRecursion (IsDue i.guid cs) ls) (sym e) h

pub due_by_records : IsByRecords AreDue
due_by_records = record {
  starts = λ own peers. (rowed_by_records.starts own peers, tt);
  quiet = λ a b ws same h. (rowed_by_records.quiet a b ws same h.0, due_of a.identity b.identity (commitments ws) (lines_written ws) same.manager.identity h.1);
  grows = λ i s r ws made h. let w : Written = record { by = i; before = s; entry = r } in let own = s.identity.guid in (
    rowed_by_records.grows i s r ws made h.0,
    due_of s.identity (apply s r).identity (commitments (ws ++ w ∷ [])) (lines_written (ws ++ w ∷ [])) (applied_manager s r (made_of_no_peer s r made)).identity
        (subst (λ cs. AllByRecursion (IsDue own cs) (lines_written (ws ++ w ∷ []))) (sym (commitments_more ws w))
        (subst (AllByRecursion (IsDue own (commitments ws ++ commitments_in s r))) (sym (lines_more ws w))
        (all_weaker (IsDue own (commitments ws)) (IsDue own (commitments ws ++ commitments_in s r)) (due_more own (commitments ws) (commitments_in s r)) (lines_written ws ++ lines_of s r)
        (all_append (IsDue own (commitments ws)) (lines_written ws) (lines_of s r) h.1
        (all_weaker (IsReasoned s) (IsDue own (commitments ws)) (line_due s ws h.0) (lines_of s r) (record_reasoned s r)))))),
  );
}

pub expired_duly : (c : Course) → ((i : ℕ) → AreDue (manager_at c.network i).state (written_of i c.written)) → AreExpiredDuly c
expired_duly c h i stream number id moment inside = all_in (IsDue (manager_at c.network i).state.identity.guid (commitments (written_of i c.written))) (lines_written (written_of i c.written))
    (line.Expired stream number id moment) (h i).1 inside

pub always_expired_duly : AlwaysExpiredDuly
always_expired_duly known ms apart run kept = expired_duly (settled kept (after_run known ms)) (always_by_records AreDue due_by_records known ms apart run kept)
