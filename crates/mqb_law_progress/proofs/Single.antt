-- Into a window of 1 a pump gives one packet out at most.
use Rattle.std.proofs.Common.{◌≡◌, ℕ, suc, ◌+◌, ◌-◌, ◌≤◌, ◌==◌, ◌&&◌, Bool, true, false, cond, nat_lt, not, List, [], ◌∷◌, Option, Some, None, refl, sym, ap, subst, ◌∙◌, arith}
use Rattle.std.proofs.lemmas.Bool.Decides.{nat_tests}
use Rattle.std.specs.Option.{option_map_or}
use Rattle.std.specs.Prelude.{Err, Ok, length, map, slice_get}
use Rattle.mqb_base.specs.declared.ids.Guid.{Guid}
use Rattle.mqb_base.specs.declared.ids.Identity.{Identity}
use Rattle.mqb_model.specs.calls.pump.Candidates.{Candidate, candidates}
use Rattle.mqb_model.specs.calls.pump.Choosing.{candidate_size, chosen, kind_of, may_follow, session_after, with_heads}
use Rattle.mqb_model.specs.calls.pump.Pump.{packet_for, pump, pump_at, pump_linked, pump_owed, pump_refusal, pump_to, pump_with, sending_ack, sending_chosen, sending_one}
use Rattle.mqb_model.specs.declared.faults.PumpFault.{PumpFault}
use Rattle.mqb_model.specs.declared.faults.PumpFault.TheVariants as fault
use Rattle.mqb_model.specs.managers.Beside.{OfExpress, OfRecoverable, OfRow, Origin, Owed}
use Rattle.mqb_model.specs.managers.Manager.{Manager, linked_peer}
use Rattle.mqb_model.specs.managers.Outcomes.{answering, unless}
use Rattle.mqb_packet.specs.declared.packet.Packet.TheVariants as packet
use Rattle.mqb_plain.specs.Plain.{PlainLists}
use Rattle.mqb_session.specs.Phases.{owed_by}
use Rattle.mqb_session.specs.Sending.{is_ready, is_spent, is_used_up, may_send, stamped}
use Rattle.mqb_session.specs.State as one_end
use Rattle.mqb_session.specs.declared.heads.Kind.TheVariants as kind
use Rattle.mqb_setup.specs.declared.internal.Internal.{Internal}

and_false : (b : Bool) → (b && false) ≡ false
and_false true = refl
and_false false = refl

-- a session that has as much under way as its peer's window may not send
full : (x : one_end.State) → nat_lt (x.sent - x.acked) x.peer_window ≡ false → may_send x ≡ false
full x none = ap (λ b. is_ready x.phase && (not (is_used_up x) && b)) none ∙ ap (λ b. is_ready x.phase && b) (and_false (not (is_used_up x))) ∙ and_false (is_ready x.phase)

none_chosen : (x : one_end.State) (count bytes : ℕ) (cs : List Candidate) → may_send x ≡ false → chosen x count bytes cs ≡ []
none_chosen x count bytes [] none = refl
none_chosen x count bytes (c ∷ cs) none = rw none refl

one_more : (sent acked window : ℕ) → acked ≤ sent → window ≤ 1 → nat_lt (sent + 1 - acked) window ≡ false
one_more sent acked window within small = grind (arith, nat_tests)

after_one : (x : one_end.State) (c : Candidate) → x.acked ≤ x.sent → x.peer_window ≤ 1 → may_send (session_after x c) ≡ false
after_one x c within small = at c.origin
  where
    full_now : nat_lt (x.sent + 1 - x.acked) x.peer_window ≡ false
    full_now = one_more x.sent x.acked x.peer_window within small

    at : (o : Origin) → may_send (stamped (kind_of o) x).1 ≡ false
    at (Owed row) = full (stamped kind.Plain x).1 full_now
    at OfRecoverable = full (stamped kind.Recoverable x).1 full_now
    at OfExpress = full (stamped kind.Plain x).1 full_now
    at (OfRow row number) = full (stamped kind.Plain x).1 full_now

one_chosen : (x : one_end.State) (count bytes : ℕ) (cs : List Candidate) → x.acked ≤ x.sent → x.peer_window ≤ 1 → length (chosen x count bytes cs) ≤ 1
one_chosen x count bytes [] within small = omega arith
one_chosen x count bytes (c ∷ cs) within small = at (may_follow x count bytes c)
  where
    behind : chosen (session_after x c) (count + 1) (bytes + candidate_size c) cs ≡ []
    behind = none_chosen (session_after x c) (count + 1) (bytes + candidate_size c) cs (after_one x c within small)

    at : (b : Bool) → length (cond b (c ∷ chosen (session_after x c) (count + 1) (bytes + candidate_size c) cs) []) ≤ 1
    at true = rw behind (omega arith)
    at false = omega arith

as_many : (x : one_end.State) (cs : List Candidate) → length (with_heads x cs) ≡ length cs
as_many x [] = refl
as_many x (c ∷ cs) = ap (λ n. suc n) (as_many (session_after x c) cs)

length_map : {X Y : Type 0} (f : X → Y) (xs : List X) → length (map f xs) ≡ length xs
length_map f [] = refl
length_map f (x ∷ xs) = ap (λ n. suc n) (length_map f xs)

module _ (m : Manager) (now : ℕ) (x : one_end.State) (within : x.acked ≤ x.sent) (small : x.peer_window ≤ 1) where
  ack_single : length (sending_ack m x).packets ≤ 1
  ack_single = at x.owes
    where
      at : (b : Bool) → length (cond b (sending_one m (packet.Ack (stamped kind.Ack x).0) (stamped kind.Ack x).1) (answering m (Ok 0))).packets ≤ 1
      at true = omega arith
      at false = omega arith

  chosen_single : (k : ℕ) (to : Guid) (cs : List Candidate) → length cs ≤ 1 → length (sending_chosen m now x k to cs).packets ≤ 1
  chosen_single k to [] few = ack_single
  chosen_single k to (c ∷ cs) few = let same = length_map (packet_for to now) (with_heads x (c ∷ cs)) ∙ as_many x (c ∷ cs) in omega (arith, same, few)

  with_single : (k : ℕ) (to : Guid) (cs : List Candidate) → length (pump_with m now x k to cs).packets ≤ 1
  with_single k to cs = at (is_spent x && not (length cs == 0))
    where
      at : (b : Bool) → length (cond b (answering m (Err fault.Spent)) (sending_chosen m now x k to (chosen x 0 0 cs))).packets ≤ 1
      at true = omega arith
      at false = chosen_single k to (chosen x 0 0 cs) (one_chosen x 0 0 cs within small)

  at_single : (k : ℕ) → length (pump_at m now x k).packets ≤ 1
  at_single k = at (slice_get m.state.peers k) (slice_get m.state.plain k)
    where
      at : (o : Option Identity) (p : Option PlainLists) → length (option_map_or (λ peer. option_map_or (pump_to m now x k peer) p (answering m (Ok 0))) o (answering m (Ok 0))).packets ≤ 1
      at None p = omega arith
      at (Some peer) None = omega arith
      at (Some peer) (Some p) = with_single k peer.guid (candidates m.state m.rest now k peer p)

  owed_single : (o : Option Internal) → length (pump_owed m now x o).packets ≤ 1
  owed_single (Some owed) = omega arith
  owed_single None = at (is_ready x.phase)
    where
      at : (b : Bool) → length (cond b (pump_at m now x (linked_peer m.state x)) (answering m (Ok 0))).packets ≤ 1
      at true = at_single (linked_peer m.state x)
      at false = omega arith

  pub one_at_a_time : m.rest.session ≡ Some x → length (pump m now).packets ≤ 1
  one_at_a_time linked = by (pump_refusal m)
    where
      there : length (option_map_or (pump_linked m now) m.rest.session (answering m (Err fault.NotLinked))).packets ≤ 1
      there = subst (λ o. length (option_map_or (pump_linked m now) o (answering m (Err fault.NotLinked))).packets ≤ 1) (sym linked) (owed_single (owed_by x.phase now x))

      by : (o : Option PumpFault) → length (unless m o (option_map_or (pump_linked m now) m.rest.session (answering m (Err fault.NotLinked)))).packets ≤ 1
      by (Some why) = omega arith
      by None = there
