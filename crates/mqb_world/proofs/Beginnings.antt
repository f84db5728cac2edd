-- A manager on an empty disk, which then knows one peer; and a world of two of them.
use Rattle.std.proofs.Common.{◌≡◌, ◌<◌, ℕ, Bool, false, cond, List, [], ◌∷◌, Option, None, Some, Result, Ok, Err, length, inl, inr, refl, sym, ap, ◌∙◌, arith}
use Rattle.std.specs.Option.{option_map_or}
use Rattle.std.specs.Prelude.{◌+◌, ◌||◌, nat_le}
use Rattle.mqb_base.specs.declared.ids.Guid.{Guid}
use Rattle.mqb_base.specs.declared.ids.Identity.{Identity}
use Rattle.mqb_outside.specs.Disk.{IsSettled, View}
use Rattle.mqb_moves.specs.Calls.{Ends, IsCall}
use Rattle.mqb_moves.specs.States.{IsOnDisk, IsUp, ManagerState, manager_of}
use Rattle.mqb_model.specs.calls.AddPeer.{add_peer, add_peer_refusal}
use Rattle.mqb_model.specs.declared.faults.AddPeerFault.{AddPeerFault}
use Rattle.mqb_model.specs.declared.faults.AddPeerFault.TheVariants as fault
use Rattle.mqb_model.specs.declared.limits.TheConstants.{MAX_PEERS}
use Rattle.mqb_model.specs.managers.Manager.{Manager, is_down, new_manager}
use Rattle.mqb_model.specs.managers.Outcomes.{Outcome, recording, succeeded, unless}
use Rattle.mqb_model.specs.records.Peer.{is_met}
use Rattle.mqb_model.specs.records.Record as entry
use Rattle.mqb_moves.specs.Calling.{seat_of}
use Rattle.mqb_moves.specs.lemmas.Calling.{not_up_of, went_well}
use Rattle.mqb_moves.specs.Seats.{IsHeldOn, SeatState, records_of, seated}
use Rattle.mqb_network.specs.Checkpointing.{written_count}
use Rattle.mqb_network.specs.Network.{formatted}
use Rattle.mqb_posts.specs.Posting.{IsWithin}
use Rattle.mqb_runs.specs.Hosts as replayed
use Rattle.mqb_script.specs.declared.managers.Which.{Which}
use Rattle.mqb_script.specs.declared.managers.Which.TheVariants.{Alpha, Beta}
use Rattle.mqb_traffic.specs.Networks.{index_of, network_with}
use Rattle.mqb_traffic.specs.States.{TrafficState}
use Rattle.mqb_world.specs.Making.{HasBytes, IsEmpty, KeepBytes}
use Rattle.mqb_world.specs.Standing.{Stands}
use Rattle.mqb_world.specs.Worlds.{WorldState, counts_of}
use Rattle.mqb_world.specs.declared.faults.WorldFault.{WorldFault}

-- the same fault, where something else was to be made
pub err_still : {A B : Type 0} (f g : WorldFault) → ◌≡◌ {A = Result A WorldFault} (Err f) (Err g) → ◌≡◌ {A = Result B WorldFault} (Err f) (Err g)
err_still f g is = let same : f ≡ g = cc in cc

-- Disks without bytes have none to keep.

has_none : (d : View) → (c : List ℕ) × d.reads c → IsEmpty d → HasBytes d → ⊥
has_none d tells empty bytes =
    let none : length tells.0 ≡ 0 = ap length (empty tells.0 tells.1) in
    let some : 0 < length tells.0 = bytes tells.0 tells.1 in
    omega (arith, some, none)

pub none_to_keep : (d d_now e e_now : View) → (c : List ℕ) × d.reads c → (c : List ℕ) × e.reads c → IsEmpty d → IsEmpty e → KeepBytes d d_now e e_now
none_to_keep d d_now e e_now first second none_there none_here (inl bytes) = absurd (has_none d first none_there bytes)
none_to_keep d d_now e e_now first second none_there none_here (inr bytes) = absurd (has_none e second none_here bytes)

-- The disk of a manager that was just made is held.
pub held_new : (d : View) (n : ManagerState) (own : Identity) → length own.guid.0 ≡ 16 → manager_of n ≡ new_manager own → IsOnDisk d n → IsUp n → IsSettled d
    → n.store.journal.guid ≡ own.guid → IsHeldOn d (seat_of n)
held_new d n own whole new on up settled guid = record {
  whole = ap (λ (g : Guid). length g.0) guid ∙ whole;
  on = λ _. on;
  settled = λ _. settled;
  opens = λ down. absurd (not_up_of n down up);
}

-- A new manager gets to know a peer that it did not know.

module _ (own peer : Identity) (apart : is_met own peer ≡ false) where
  abbrev new : Manager
  new = new_manager own

  not_refused : add_peer_refusal new peer ≡ None
  not_refused = ap (λ (b : Bool). cond (b || false) (Some fault.PeerThere) (cond (nat_le MAX_PEERS 0) (Some fault.TooManyPeers) None)) apart

  abbrev added : Option AddPeerFault → Manager
  added o = succeeded new (unless {V = ℕ} new o (recording new (entry.Peer peer) (Ok 0)))

  abbrev added_by : Option AddPeerFault → Outcome (Result ℕ AddPeerFault)
  added_by o = unless {V = ℕ} new o (recording new (entry.Peer peer) (Ok 0))

  known : succeeded new (add_peer new peer) ≡ formatted own (peer ∷ [])
  known = ap added not_refused

  answered : (add_peer new peer).answer ≡ Ok 0
  answered = ap (λ (o : Option AddPeerFault). (unless new o (recording new (entry.Peer peer) (Ok 0))).answer) not_refused

  ok_errs : (n : ℕ) (f : AddPeerFault) → ◌≡◌ {A = Result ℕ AddPeerFault} (Ok n) (Err f) → ⊥
  ok_errs n f same = let none : ⊥ = cc in none

  errs : (f g : AddPeerFault) → ◌≡◌ {A = Result ℕ AddPeerFault} (Err f) (Err g) → f ≡ g
  errs f g same = cc

  module _ (d e : View) (m n : ManagerState) (r : Result ℕ AddPeerFault) (is_new : manager_of m ≡ new) (call : IsCall fault.Memory fault.DiskFault d e m n (add_peer (manager_of m) peer) r) where
    pub never_refused : (why : AddPeerFault) → r ≡ Err why → (why ≡ fault.Memory → ⊥) → (why ≡ fault.DiskFault → ⊥) → ⊥
    never_refused why is rich whole = at call.ends
      where
        at : Ends fault.Memory fault.DiskFault m n (add_peer (manager_of m) peer) r → ⊥
        at (inl h) = ok_errs 0 why (sym (ap (λ (k : Manager). (add_peer k peer).answer) is_new ∙ answered) ∙ sym h.0 ∙ is)
        at (inr (inl h)) = rich (errs why fault.Memory (sym is ∙ h.0))
        at (inr (inr h)) = whole (errs why fault.DiskFault (sym is ∙ h.0))

    module _ (index : ℕ) (is : r ≡ Ok index) where
      up : is_down (manager_of m) ≡ false
      up = ap is_down is_new

      pub met : manager_of n ≡ formatted own (peer ∷ [])
      met = (went_well fault.Memory fault.DiskFault d e m n (add_peer (manager_of m) peer) r call up (λ x. ok_errs index fault.Memory (sym is ∙ x)) (λ x. ok_errs index fault.DiskFault (sym is ∙ x))).left.manager
          ∙ ap (λ (k : Manager). succeeded k (add_peer k peer)) is_new ∙ known

      pub met_held : IsHeldOn d (seat_of m) → IsHeldOn e (seat_of n)
      met_held = (went_well fault.Memory fault.DiskFault d e m n (add_peer (manager_of m) peer) r call up (λ x. ok_errs index fault.Memory (sym is ∙ x)) (λ x. ok_errs index fault.DiskFault (sym is ∙ x))).move.held

      -- its peer is its second record
      pub met_count : m.store.journal.count ≡ 1 → n.store.journal.count ≡ 2
      met_count one = (went_well fault.Memory fault.DiskFault d e m n (add_peer (manager_of m) peer) r call up (λ x. ok_errs index fault.Memory (sym is ∙ x)) (λ x. ok_errs index fault.DiskFault (sym is ∙ x))).left.count
          ∙ ap (λ (k : Manager). m.store.journal.count + option_map_or (λ _. 1) (add_peer k peer).entry 0) is_new
          ∙ ap (λ (o : Option AddPeerFault). m.store.journal.count + option_map_or (λ _. 1) (added_by o).entry 0) not_refused ∙ ap (λ (k : ℕ). k + 1) one

-- Nothing has happened yet between two managers that know each other.

abbrev pub no_traffic : TrafficState
no_traffic = record { link = None; connected = 0; notes = []; ledger = [] }

module _ (a b : SeatState) (t : TrafficState) (own other : Identity) (own_is : own ≡ replayed.alpha) (other_is : other ≡ replayed.beta)
    (first : seated a ≡ formatted own (other ∷ [])) (second : seated b ≡ formatted other (own ∷ [])) (quiet : t ≡ no_traffic)
    (one : records_of a ≡ 2) (two : records_of b ≡ 2) where
  abbrev w : WorldState
  w = record { alpha = a; beta = b; traffic = t }

  first_is : seated a ≡ formatted replayed.alpha (replayed.beta ∷ [])
  first_is = first ∙ ap (λ (i : Identity). formatted i (other ∷ [])) own_is ∙ ap (λ (i : Identity). formatted replayed.alpha (i ∷ [])) other_is

  second_is : seated b ≡ formatted replayed.beta (replayed.alpha ∷ [])
  second_is = second ∙ ap (λ (i : Identity). formatted i (own ∷ [])) other_is ∙ ap (λ (i : Identity). formatted replayed.beta (i ∷ [])) own_is

  two_each : (which : Which) → counts_of w (index_of which) ≡ 2 + written_count (index_of which) []
  two_each Alpha = one
  two_each Beta = two

  none_posted : IsWithin []
  none_posted = record { bytes = omega arith; count = omega arith }

  pub both_begin : Stands w [] []
  both_begin = record {
    run = tt;
    stands = record {
      network = ap (λ (m : Manager). network_with m (seated b) t) first_is
          ∙ ap (λ (m : Manager). network_with (formatted replayed.alpha (replayed.beta ∷ [])) m t) second_is
          ∙ ap (λ (u : TrafficState). network_with (formatted replayed.alpha (replayed.beta ∷ [])) (formatted replayed.beta (replayed.alpha ∷ [])) u) quiet;
      spelled = refl;
      writable = tt;
      within = none_posted;
      counted = two_each;
      begun = let none : t.connected ≡ 0 = ap (λ (u : TrafficState). u.connected) quiet in omega (arith, none);
    };
  }
