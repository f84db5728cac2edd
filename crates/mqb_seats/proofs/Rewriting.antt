-- What a checkpoint of the manager in a seat comes to, and what lasts of it.
use Rattle.std.proofs.Common.{◌≡◌, inl, inr, Bool, true, false, List, None, Some, Result, Ok, Err, ℕ, length, refl, sym, ap, subst, ◌∙◌, arith}
use Rattle.mqb_base.specs.declared.ids.Guid.{Guid}
use Rattle.mqb_outside.specs.Disk.{Lawful, View}
use Rattle.mqb_journal.specs.States.{JournalState}
use Rattle.mqb_journal.specs.declared.faults.CheckpointFault.{CheckpointFault}
use Rattle.mqb_journal.specs.declared.faults.CheckpointFault.TheVariants as fault
use Rattle.mqb_model.specs.laws.Validity.{RefusedIsSame}
use Rattle.mqb_model.specs.managers.Manager.{Manager, is_down}
use Rattle.mqb_model.specs.managers.Outcomes.{Outcome}
use Rattle.mqb_model.specs.managers.Valid.{IsValidManager}
use Rattle.mqb_model.specs.state.Durable.{durable}
use Rattle.mqb_moves.specs.Calling.{seat_of}
use Rattle.mqb_moves.specs.Calls.{Succeeds}
use Rattle.mqb_moves.specs.Checkpoints.{EndsCheckpoint, FailsWithout, IsCheckpoint, checkpoint_of}
use Rattle.mqb_moves.specs.Moves.{IsRewriting, rewriting}
use Rattle.mqb_moves.specs.Seats.{IsHeldOn, SeatState, is_far_on, seated}
use Rattle.mqb_moves.specs.States.{IsSame, IsUp, ManagerState, manager_of}
use Rattle.mqb_moves.specs.lemmas.Calling.{not_up_of, up_of}
use Rattle.mqb_moves.specs.lemmas.Checkpointing.{broke_rewriting, refused_rewriting, rewrote}
use Rattle.mqb_moves.specs.mqb_network.Choices.{Failed}
use Rattle.mqb_moves.specs.mqb_network.lemmas.Checkpointing.{never_failed, refused_down}
use Rattle.mqb_replies.specs.Replies.{checkpoint_reply}
use Rattle.mqb_replies.specs.declared.faults.AnswerFault.{AnswerFault}
use Rattle.mqb_replies.specs.declared.faults.AnswerFault.TheVariants as answer
use Rattle.mqb_store_laws.specs.Laws.{ImagesOpenToOne}
use Rattle.mqb_store_laws.specs.lemmas.Carrying.{opens_now}
use Rattle.mqb_transcript.specs.declared.replies.Reply.{Reply}
use Rattle.mqb_transcript.specs.declared.replies.Reply.TheVariants as reply
use Rattle.mqb_seats.proofs.Telling.{after, after_is, manager_up, seat_is}
use Rattle.mqb_seats.specs.Called.{IsRewritten, TellsRewritten, failure_of}
use Rattle.mqb_seats.specs.Lasting.{Lasts}
use Rattle.mqb_seats.specs.declared.called.Called.{Called}
use Rattle.mqb_seats.specs.declared.called.Called.TheVariants.{Broke, Told}
use Rattle.mqb_seats.specs.lemmas.Keeping.{keeps_all}

-- A manager that is down writes nothing.
pub down_rewritten : RefusedIsSame → (d : View) (stopped : Bool) (s : SeatState) → IsValidManager (seated s) → is_down (seated s) ≡ true
    → IsRewritten d d stopped s s (Told reply.Down false)
down_rewritten same d stopped s valid down = (
  refused_rewriting same d s valid down,
  ap (λ (o : Outcome (Result (Unit {0}) CheckpointFault)). checkpoint_reply o.answer) (refused_down (seated s) (is_far_on s) down),
  refl,
)

-- However a checkpoint ends, what the store has lasts.
module _ (opened : ImagesOpenToOne) (d e : View) (m n : ManagerState) (r : Result (Unit {0}) CheckpointFault) (made : IsCheckpoint d e m n r) (up : is_down (manager_of m) ≡ false)
    (lawful : Lawful e) (c : List ℕ) (told : e.reads c) (held : IsHeldOn d (seat_of m)) where
  held_up : length n.store.journal.guid.0 ≡ 16 → IsUp n → IsHeldOn e (seat_of n)
  held_up whole still_up = record {
    whole = whole;
    on = λ _. made.on (held.on up) still_up;
    settled = λ _. made.settled (held.on up) (held.settled up) still_up;
    opens = λ down. absurd (not_up_of n down still_up);
  }

  -- every image opens to the state from before
  went : r ≡ (checkpoint_of m).answer → Succeeds m n (checkpoint_of m) → Lasts d e (seat_of m) (seat_of n)
  went answer left =
      let still_up = up_of n (ap is_down left.manager ∙ up) in
      let one = opened n.store.journal.guid m.store.journal.guid n.store.journal.count m.store.journal.count (durable n.store.state) (durable m.store.state) c
      (opens_now e n.store.journal n.store.state (made.on (held.on up) still_up) c told)
      ((made.moments (held.on up) (held.settled up)).now c (lawful.is_left c told)) in
      let same = made.stayed (λ failed. never_failed (manager_of m) (is_far_on (seat_of m)) (sym answer ∙ failed)) in
      record {
        held = held_up (ap (λ (g : Guid). length g.0) left.guid ∙ held.whole) still_up;
        keeps = keeps_all one.0 one.1;
        faults = omega (arith, same);
      }

  wanted : r ≡ Err fault.Memory → IsSame m n → Lasts d e (seat_of m) (seat_of n)
  wanted answer same =
      let still_up = up_of n (ap is_down same.manager ∙ up) in
      let faults = made.stayed (λ failed. apart (sym answer ∙ failed)) in
      record {
        held = held_up (ap (λ (j : JournalState). length j.guid.0) same.store.journal ∙ held.whole) still_up;
        keeps = keeps_all (ap (λ (j : JournalState). j.count) same.store.journal) (ap durable same.store.state);
        faults = omega (arith, faults);
      }
    where
      apart : ◌≡◌ {A = Result (Unit {0}) CheckpointFault} (Err fault.Memory) (Err fault.DiskFault) → ⊥
      apart same = let none : ⊥ = cc in none

  failed : r ≡ Err fault.DiskFault → FailsWithout m n → Lasts d e (seat_of m) (seat_of n)
  failed answer under =
      let rose = made.rose answer in
      record {
        held = (broke_rewriting d e m n r made up answer Failed).held held;
        keeps = keeps_all under.count (ap (λ (k : Manager). durable k.state) under.manager);
        faults = omega (arith, rose);
      }

  checkpoint_ends : Lasts d e (seat_of m) (seat_of n)
  checkpoint_ends = at made.ends
    where
      at : EndsCheckpoint m n r → Lasts d e (seat_of m) (seat_of n)
      at (inl h) = went h.0 h.1
      at (inr (inl h)) = wanted h.0 h.1
      at (inr (inr h)) = failed h.0 h.1

module _ (d e : View) (m n : ManagerState) (u stopped : Bool) (s : SeatState) (is : record { manager = m; unread = u } ≡ s) (up : is_down (seated s) ≡ false)
    (r : Result (Unit {0}) CheckpointFault) (made : IsCheckpoint d e m n r) where
  abbrev t : SeatState
  t = after d e m n u stopped s is up

  was : seat_of m ≡ s
  was = seat_is d e m n u stopped s is up

  became : seat_of n ≡ t
  became = after_is d e m n u stopped s is up

  still : is_down (manager_of m) ≡ false
  still = manager_up d e m n u stopped s is up

  pub rewriting_lasts : ImagesOpenToOne → Lawful e → (c : List ℕ) → e.reads c → IsHeldOn d s → Lasts d e s t
  rewriting_lasts opened lawful c told held = subst (Lasts d e s) became
      (subst (λ (k : SeatState). Lasts d e k (seat_of n)) was
      (checkpoint_ends opened d e m n r made still lawful c told (subst (IsHeldOn d) (sym was) held)))

  -- it is told as it was answered
  pub rewriting_told : (q : Called) → TellsRewritten stopped r q → IsRewritten d e stopped s t q
  rewriting_told (Told given recorded) (is_told, none) =
      let moved = rewrote d e m n r made still (λ wants. untold fault.Memory answer.Memory wants refl) (λ fails. untold fault.DiskFault answer.DiskFault fails refl) in (
        subst (λ (x : SeatState). IsRewriting d e s x None) became (subst (λ (k : SeatState). IsRewriting d e k (seat_of n) None) was moved.1),
        subst (λ (k : SeatState). checkpoint_reply (rewriting k).answer ≡ Ok given) was (ap checkpoint_reply (sym moved.0) ∙ is_told),
        none,
      )
    where
      err_ok : (why : AnswerFault) → ◌≡◌ {A = Result Reply AnswerFault} (Err why) (Ok given) → ⊥
      err_ok why same = let no : ⊥ = cc in no

      untold : (f : CheckpointFault) (why : AnswerFault) → r ≡ Err f → checkpoint_reply (Err f) ≡ Err why → ⊥
      untold f why so no_reply = err_ok why (sym no_reply ∙ sym (ap checkpoint_reply so) ∙ is_told)
  rewriting_told (Broke how) (fails, stops) = (
    subst (λ (x : SeatState). IsRewriting d e s x (Some (failure_of how))) became
        (subst (λ (k : SeatState). IsRewriting d e k (seat_of n) (Some (failure_of how))) was (broke_rewriting d e m n r made still fails (failure_of how))),
    stops,
  )
