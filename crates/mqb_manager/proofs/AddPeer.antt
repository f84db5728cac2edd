-- The call add_peer.
use Rattle.std.proofs.Common.{refl, sym, ap, ◌∙◌, arith, length-append}
use Rattle.std.proofs.lemmas.Bool.Decides.{nat_tests}
use Rattle.std.specs.Prelude.{◌+◌, ◌++◌, ◌||◌, ◌==◌, ◌≡◌, ◌≤◌, if◌then◌else◌, Bool, Err, List, None, Ok, OnErr, Option, Some, ℕ, false, length, nat_le, nat_lt, true}
use Rattle.mqb_base.specs.Names.{name_fault}
use Rattle.mqb_base.specs.declared.ids.Identity.{Identity}
use Rattle.mqb_base.specs.declared.names.NameError.{NameError}
use Rattle.mqb_base.specs.declared.names.TheConstants.{MAX_NAME}
use Rattle.mqb_entries.specs.Spelled.{spelled_guid, spelled_name}
use Rattle.mqb_entries.specs.SpelledEntries.{spelled}
use Rattle.mqb_entries.specs.declared.entry.Entry.TheVariants as form
use Rattle.mqb_entries.specs.declared.entry.IdentityView.{IdentityView}
use Rattle.mqb_fields.specs.Writing.{bytes_of}
use Rattle.mqb_model.specs.calls.AddPeer.{add_peer, add_peer_refusal}
use Rattle.mqb_outside.specs.Disk.{Lawful, View}
use Rattle.mqb_model.specs.declared.faults.AddPeerFault.{AddPeerFault}
use Rattle.mqb_model.specs.declared.faults.AddPeerFault.TheVariants as fault
use Rattle.mqb_model.specs.declared.limits.TheConstants.{MAX_PEERS, MAX_RECORD}
use Rattle.mqb_model.specs.laws.Durable.{CallsLeaveStore}
use Rattle.mqb_model.specs.laws.Fitting.{RecordsFit}
use Rattle.mqb_model.specs.laws.Keeping.{CallsKeepValid}
use Rattle.mqb_model.specs.managers.Beside.{Nothing}
use Rattle.mqb_model.specs.managers.Manager.{Manager, is_down}
use Rattle.mqb_model.specs.managers.Outcomes.{recording}
use Rattle.mqb_model.specs.managers.Valid.{IsValidManager}
use Rattle.mqb_model.specs.records.Peer.{peer_there}
use Rattle.mqb_names.specs.Values.{IsName}
use Rattle.mqb_model.specs.records.Reading.{identity_of}
use Rattle.mqb_model.specs.records.Record as entry
use Rattle.mqb_store.specs.Writing.{change_in}
use Rattle.mqb_manager.specs.Writing.{IsReady, outcome_by}
use Rattle.mqb_manager.specs.Calls.{IsCall}
use Rattle.mqb_manager.specs.States.{IsOnDisk, IsUp, ManagerState, manager_of}
use Rattle.mqb_manager.proofs.Calls.{first_refused, ready_by, refused_call, unless_none, unless_some}
use Rattle.mqb_manager.proofs.Conditions.{first_not, up_from}

-- A name is short.

short_by : (long : Bool) (rest : Option NameError) (why : NameError) → (if long then Some why else rest) ≡ None → long ≡ false
short_by true rest why e = absurd (let none : ⊥ = cc in none)
short_by false rest why e = refl

neither : (a b : Bool) → (a || b) ≡ false → b ≡ false
neither true b e = absurd (let none : ⊥ = cc in none)
neither false b e = e

pub name_is_short : (name : List ℕ) → name_fault name ≡ None → length name ≤ MAX_NAME
name_is_short name e =
    let short : nat_lt MAX_NAME (length name) ≡ false = neither (length name == 0) (nat_lt MAX_NAME (length name)) (short_by _ _ _ e) in
    grind (arith, nat_tests)

pub spelled_name_short : (name : List ℕ) → name_fault name ≡ None → length (spelled_name name) ≤ 1 + MAX_NAME
spelled_name_short name e = let short = name_is_short name e in let whole = length-append (bytes_of 1 (length name)) name in omega (arith, short, whole)

pub peer_size : (v : IdentityView) → name_fault v.host ≡ None → length v.address ≡ 4 → length (spelled (form.Peer v)) ≤ MAX_RECORD
peer_size v host address =
    let name = spelled_name_short v.host host in
    let front = length-append (spelled_name v.host) (spelled_guid v.guid) in
    let whole = length-append (spelled_name v.host ++ spelled_guid v.guid) v.address in
    omega (arith, name, front, whole, address)

-- The call comes to this.
pub add_peer_is : (m : Manager) (peer : Identity) (v : IdentityView) (index : ℕ) → add_peer_refusal m peer ≡ None → identity_of v ≡ peer → index ≡ length m.state.peers
    → add_peer m peer ≡ outcome_by m (change_in (Some (form.Peer v))) Nothing (Ok index)
add_peer_is m peer v index none shown count =
    unless_none m (add_peer_refusal m peer) (recording m (entry.Peer peer) (Ok (length m.state.peers))) none
    ∙ ap (λ p. recording m (entry.Peer p) (Ok (length m.state.peers))) (sym shown)
    ∙ ap (λ k. recording m (entry.Peer (identity_of v)) (Ok k)) (sym count)

-- It is refused.

never_broken : (a b c : Bool) (why : AddPeerFault) → (if a then Some fault.Down else if b then Some fault.PeerThere else if c then Some fault.TooManyPeers else None) ≡ Some why
    → why ≡ fault.DiskFault → ⊥
never_broken true b c why e broken = let none : ⊥ = cc in none
never_broken false true c why e broken = let none : ⊥ = cc in none
never_broken false false true why e broken = let none : ⊥ = cc in none
never_broken false false false why e broken = let none : ⊥ = cc in none

pub add_peer_refused : (d : View) (m : ManagerState) (peer : Identity) (why : AddPeerFault) → Lawful d → IsValidManager (manager_of m)
    → add_peer_refusal (manager_of m) peer ≡ Some why → IsCall fault.Memory fault.DiskFault d d m m (add_peer (manager_of m) peer) (Err why)
add_peer_refused d m peer why law valid refused = let k = manager_of m in
    refused_call fault.Memory fault.DiskFault why d m (add_peer k peer) law valid
    (unless_some k (add_peer_refusal k peer) why (recording k (entry.Peer peer) (Ok (length m.store.state.peers))) refused)
    (never_broken (is_down k) (peer_there m.store.state peer) (nat_le MAX_PEERS (length m.store.state.peers)) why refused)

pub add_peer_first : (m : Manager) (peer : Identity) (why : AddPeerFault) → add_peer_refusal m peer ≡ Some why → OnErr (add_peer m peer).answer (Err why ≡ (add_peer m peer).answer)
add_peer_first m peer why refused = first_refused why m (add_peer m peer)
    (unless_some m (add_peer_refusal m peer) why (recording m (entry.Peer peer) (Ok (length m.state.peers))) refused)

-- It can be written.
pub add_peer_ready : (d : View) (m : ManagerState) (peer : Identity) (v : IdentityView) → RecordsFit → CallsKeepValid → CallsLeaveStore → IsValidManager (manager_of m)
    → (IsUp m → IsOnDisk d m) → add_peer_refusal (manager_of m) peer ≡ None → identity_of v ≡ peer → IsName peer.host → length (spelled (form.Peer v)) ≤ MAX_RECORD
    → IsReady d m (Some (form.Peer v)) Nothing
add_peer_ready d m peer v fit keep leave valid on none shown named small = let k = manager_of m in
    ready_by (length m.store.state.peers) d m (Some (form.Peer v)) Nothing (add_peer k peer) (add_peer_is k peer v (length m.store.state.peers) none shown refl)
    (up_from m (first_not (is_down k) fault.Down _ none)) on (record { put = tt; small = small; is_record = refl })
    ((fit k).peers peer) ((keep k valid).peers peer named) ((leave k valid).peers peer)
