-- Whatever a manager has for another one, a packet goes once they are connected.
use Rattle.std.proofs.Common.{◌≡◌, ℕ, ◌<◌, Bool, true, false, cond, List, [], ◌∷◌, Some, refl, sym, ap, subst, ◌∙◌}
use Rattle.std.specs.List.{range_with_len}
use Rattle.std.specs.Prelude.{fold, is_none, length, slice_get}
use Rattle.std.proofs.lemmas.Bool.{lt-ltb}
use Rattle.mqb_base.specs.declared.ids.Identity.{Identity}
use Rattle.mqb_session.specs.State as one_end
use Rattle.mqb_session.specs.declared.phase.Phase.TheVariants as phase
use Rattle.mqb_model.specs.calls.pump.Pump.{pump}
use Rattle.mqb_model.specs.managers.Manager.{doubt_of, linked_peer, unlinked}
use Rattle.mqb_model.specs.managers.Readers.{is_outstanding_to}
use Rattle.mqb_model.specs.managers.Valid.{IsValidManager}
use Rattle.mqb_model.specs.state.State.{State}
use Rattle.mqb_network.specs.Courses.{Course}
use Rattle.mqb_network.specs.Doubts.{settled, settled_at}
use Rattle.mqb_network.specs.Network.{manager_at}
use Rattle.mqb_law_progress.specs.Progress.{SomethingGoes}
use Rattle.mqb_law_meetings.proofs.Lists.{within_get}
use Rattle.mqb_law_meetings.proofs.Setting.{grown_once, linked_with}

-- No record in doubt is kept: the course is as it was.

pub settled_none : (c : Course) (is : List ℕ) → fold (settled_at (λ i. false)) c is ≡ c
settled_none c [] = refl
settled_none c (i ∷ is) = ap (λ (z : Course). fold (settled_at (λ j. false)) z is) (same (is_none (doubt_of (manager_at c.network i).condition))) ∙ settled_none c is
  where
    same : (b : Bool) → cond b c c ≡ c
    same true = refl
    same false = refl

pub valid_now : (c : Course) (i : ℕ) → IsValidManager (manager_at (settled (λ j. false) c).network i) → IsValidManager (manager_at c.network i)
valid_now c i = subst (λ (z : Course). IsValidManager (manager_at z.network i)) (settled_none c (range_with_len 0 (length c.network.managers)))

-- A manager that was alone, and is ready for another one now.
module _ (goes : SomethingGoes) (s : State) (valid : IsValidManager (unlinked s)) (x : one_end.State) (now k window : ℕ) (peer : Identity)
    (ready : x.phase ≡ phase.Ready) (sent : x.sent ≡ 0) (acked : x.acked ≡ 0) (told : x.peer_window ≡ window) (linked : linked_peer s x ≡ k)
    (there : slice_get s.peers k ≡ Some peer) (inside : k < length s.peers) where
  plain_there : (p : _) × (slice_get s.plain k ≡ Some p)
  plain_there = within_get s.plain k (subst (λ n. k < n) (sym valid.state.plain_lists) inside)

  pub something_sent : 0 < window → is_outstanding_to s k ≡ true → 0 < length (pump (linked_with s (Some x)) now).packets
  something_sent open_ has = goes (linked_with s (Some x)) x now
      (record {
        up = refl;
        linked = refl;
        may = rw (ready, sent, acked, told, lt-ltb 0 window open_) refl;
        peer = peer;
        there = subst (λ n. slice_get s.peers n ≡ Some peer) (sym linked) there;
        plain = plain_there.0;
        lists = subst (λ n. slice_get s.plain n ≡ Some plain_there.0) (sym linked) plain_there.1;
      })
      (record { cursors = grown_once 0 (length s.outs); unsent = valid.session })
      (subst (λ n. is_outstanding_to s n ≡ true) (sym linked) has)
