-- What is committed leads to a manager of the network: names lead to peers by who a manager is and which peers it has, and both stay.
use Rattle.std.proofs.Common.{refl, ap, sym, subst, ◌∙◌, inl, inr, arith}
use Rattle.std.proofs.lemmas.Bool.Decides.{nat_tests}
use Rattle.std.specs.List.{AllByRecursion, cons_option, prefix_len}
use Rattle.std.specs.Prelude.{[], ◌<◌, ◌==◌, ◌∷◌, ◌≡◌, ◌⊎◌, Bool, IfSome, List, None, Option, Some, cond, false, filter, filter_map, length, map, nat_lt, not, position, slice_get, suc, true, unwrap_or, zero, ℕ}
use Rattle.mqb_base.specs.Same.{same_guid}
use Rattle.mqb_base.specs.declared.ids.Guid.{Guid}
use Rattle.mqb_base.specs.declared.ids.Identity.{Identity}
use Rattle.mqb_base.specs.declared.ledger.Line.{Line}
use Rattle.mqb_base.specs.declared.ledger.Line.TheVariants as line
use Rattle.mqb_base.specs.declared.message.Message.{Message}
use Rattle.mqb_base.specs.declared.queue_names.QueueName.{QueueName}
use Rattle.mqb_base.specs.declared.queue_names.QueueName.TheVariants.{Direct, Private, Public}
use Rattle.mqb_exactly_once.specs.Words.{In}
use Rattle.mqb_exactly_once.specs.World.{Commitment}
use Rattle.mqb_model.specs.declared.target.Target.{Target}
use Rattle.mqb_model.specs.declared.target.Target.TheVariants.{AtPeer, Here, Nowhere}
use Rattle.mqb_model.specs.managers.Manager.{Manager}
use Rattle.mqb_model.specs.records.Applying.{apply, lines_of}
use Rattle.mqb_model.specs.records.Commit.{send_made, sends_of, takes_made}
use Rattle.mqb_model.specs.records.Record.{Record}
use Rattle.mqb_model.specs.records.Record as entry
use Rattle.mqb_model.specs.rules.Effects.{Effect}
use Rattle.mqb_model.specs.rules.Sends.{journalled}
use Rattle.mqb_model.specs.state.Resolving.{at_peer, at_queue, is_host_of, is_own_host, peer_at, peer_known, queue_named, queue_numbered, queue_registered, resolved}
use Rattle.mqb_model.specs.state.State.{State}
use Rattle.mqb_network.specs.Courses.{Course, Written}
use Rattle.mqb_network.specs.Laws.{Always, LedgerIsWritten, lines_written}
use Rattle.mqb_network.specs.Network.{Network, manager_at, nobody}
use Rattle.mqb_history.specs.Committed.{commitment_at, commitments_in, commitments_of}
use Rattle.mqb_history.specs.Decided.{written_of}
use Rattle.mqb_history.specs.Leading.{AreCommitmentsLed, AreStreamsLed, CommitmentsLeadToManagers, IsBetween, IsLed, LeadsFrom}
use Rattle.mqb_history.specs.Orderly.{IsItself, IsOrderly}
use Rattle.mqb_history.specs.Told.{Joined, commitment_told, joined_by}
use Rattle.mqb_history.proofs.Applying.{applied_manager, made_of_no_peer, sent_manager, takes_made_rows}
use Rattle.mqb_history.proofs.Committing.{all_in, in_split}
use Rattle.mqb_history.proofs.Lists.{all_append, all_weaker, get_within, none_some, not_true, same_number, some_is, true_not_false, within_get}
use Rattle.mqb_history.proofs.Names.{same_guid_refl}
use Rattle.mqb_history.proofs.Runs.{always_kept}
use Rattle.mqb_history.proofs.Staying.{IsSameManager, manager_then}
use Rattle.mqb_history.proofs.Telling.{record_joins}
use Rattle.mqb_history.proofs.Written.{IsByRecords, IsOrderlyWith, begins_with, by_records}

-- Members that are found.

less_is : (a b : ℕ) → nat_lt a b ≡ true → a < b
less_is a b e = grind (arith, nat_tests)

position_there : {X : Type 0} (p : X → Bool) (xs : List X) (k : ℕ) → position p xs ≡ Some k → (x : X) × (slice_get xs k ≡ Some x)
position_there p xs k e = at (nat_lt (prefix_len (λ x. not (p x)) xs) (length xs)) refl e
  where
    at : (b : Bool) → nat_lt (prefix_len (λ x. not (p x)) xs) (length xs) ≡ b → cond b (Some (prefix_len (λ x. not (p x)) xs)) None ≡ Some k → (x : _) × (slice_get xs k ≡ Some x)
    at true less same = within_get xs k (subst (λ n. n < length xs) (some_is _ k same) (less_is (prefix_len (λ x. not (p x)) xs) (length xs) less))
    at false less same = absurd (none_some same)

filter_there : {X : Type 0} (test : X → Bool) (xs : List X) (k : ℕ) (x : X) → slice_get (filter test xs) k ≡ Some x
    → (j : ℕ) × (slice_get xs j ≡ Some x) × (test x ≡ true)
filter_there test [] k x e = absurd (none_some e)
filter_there test (y ∷ ys) k x e = at (test y) refl k e (filter_there test ys)
  where
    behind : (j : ℕ) × (slice_get ys j ≡ Some x) × (test x ≡ true) → (j : ℕ) × (slice_get (y ∷ ys) j ≡ Some x) × (test x ≡ true)
    behind (j, there, passes) = (suc j, there, passes)

    at : (b : Bool) → test y ≡ b → (k : ℕ) → slice_get (cond b (y ∷ filter test ys) (filter test ys)) k ≡ Some x
        → ((k : ℕ) (x : _) → slice_get (filter test ys) k ≡ Some x → (j : ℕ) × (slice_get ys j ≡ Some x) × (test x ≡ true))
        → (j : ℕ) × (slice_get (y ∷ ys) j ≡ Some x) × (test x ≡ true)
    at true t zero e rest = (0, e, subst (λ z. test z ≡ true) (some_is y x e) t)
    at true t (suc k) e rest = behind (rest k x e)
    at false t k e rest = behind (rest k x e)

-- Names.

-- the index of the peer to which a name leads, by who a manager is and which peers it has
abbrev led : Identity → List Identity → QueueName → Option ℕ
led own peers (Private qm number false) = cond (same_guid qm own.guid) None (position (λ p. same_guid p.guid qm) peers)
led own peers (Direct host queue false) = cond (is_own_host own host) None (position (is_host_of host) peers)
led own peers _ = None

no_queue_at_peer : (o : Option ℕ) (k : ℕ) → at_queue o ≡ AtPeer k → ⊥
no_queue_at_peer None k e = let none : ⊥ = cc in none
no_queue_at_peer (Some n) k e = let none : ⊥ = cc in none

nowhere_at_peer : (k : ℕ) → Nowhere ≡ AtPeer k → ⊥
nowhere_at_peer k e = let none : ⊥ = cc in none

-- here, or at a peer
peer_only : (b : Bool) (here : Option ℕ) (o : Option ℕ) (k : ℕ) → cond b (Here here) (at_peer o) ≡ AtPeer k → cond b None o ≡ Some k
peer_only true here o k e = absurd (let none : ⊥ = cc in none)
peer_only false here None k e = absurd (nowhere_at_peer k e)
peer_only false here (Some j) k e = let same : j ≡ k = cc in ap (λ n. Some n) same

peer_back : (b : Bool) (here : Option ℕ) (o : Option ℕ) (k : ℕ) → cond b None o ≡ Some k → cond b (Here here) (at_peer o) ≡ AtPeer k
peer_back true here o k e = absurd (none_some e)
peer_back false here None k e = absurd (none_some e)
peer_back false here (Some j) k e = ap (λ n. AtPeer n) (some_is j k e)

is_led : (s : State) (d : QueueName) (k : ℕ) → resolved s d ≡ AtPeer k → led s.identity s.peers d ≡ Some k
is_led s (Public guid false) k e = absurd (no_queue_at_peer (queue_registered s guid) k e)
is_led s (Private qm number false) k e = peer_only (same_guid qm s.identity.guid) (queue_numbered s number) (peer_known s qm) k e
is_led s (Direct host queue false) k e = peer_only (is_own_host s.identity host) (queue_named s queue) (peer_at s host) k e
is_led s d k e = absurd (nowhere_at_peer k e)

leads : (s : State) (d : QueueName) (k : ℕ) → led s.identity s.peers d ≡ Some k → resolved s d ≡ AtPeer k
leads s (Private qm number false) k e = peer_back (same_guid qm s.identity.guid) (queue_numbered s number) (peer_known s qm) k e
leads s (Direct host queue false) k e = peer_back (is_own_host s.identity host) (queue_named s queue) (peer_at s host) k e
leads s d k e = absurd (none_some e)

peer_or : {X : Type 0} (p : X → Bool) (b : Bool) (xs : List X) (k : ℕ) → cond b None (position p xs) ≡ Some k → (x : X) × (slice_get xs k ≡ Some x)
peer_or p true xs k e = absurd (none_some e)
peer_or p false xs k e = position_there p xs k e

led_there : (own : Identity) (peers : List Identity) (d : QueueName) (k : ℕ) → led own peers d ≡ Some k → (x : Identity) × (slice_get peers k ≡ Some x)
led_there own peers (Private qm number false) k e = peer_or (λ p. same_guid p.guid qm) (same_guid qm own.guid) peers k e
led_there own peers (Direct host queue false) k e = peer_or (is_host_of host) (is_own_host own host) peers k e
led_there own peers d k e = absurd (none_some e)

led_same : (a b : State) (d : QueueName) (k : ℕ) → IsSameManager a b → led b.identity b.peers d ≡ Some k → led a.identity a.peers d ≡ Some k
led_same a b d k same e = subst (λ own. led own a.peers d ≡ Some k) same.identity (subst (λ ps. led b.identity ps d ≡ Some k) same.peers e)

led_after : (a b : State) (d : QueueName) (k : ℕ) → IsSameManager a b → led a.identity a.peers d ≡ Some k → led b.identity b.peers d ≡ Some k
led_after a b d k same e = subst (λ own. led own b.peers d ≡ Some k) (sym same.identity) (subst (λ ps. led a.identity ps d ≡ Some k) (sym same.peers) e)

-- Commitments.

-- the destination of a commitment leads to a peer of a state
abbrev IsLedFrom : State → Commitment → Type 0
IsLedFrom s c = (k : ℕ) × (led s.identity s.peers c.message.destination ≡ Some k)

in_option : {X : Type 0} (P : X → Type 0) (x : X) (o : Option X) (xs : List X) → In x (cons_option o xs) → ((y : X) → o ≡ Some y → P y) → (In x xs → P x) → P x
in_option P x None xs i first rest = rest i
in_option P x (Some y) xs (inl e) first rest = subst P e (first y refl)
in_option P x (Some y) xs (inr i) first rest = rest i

joined_led : (s : State) (now : ℕ) (e : Effect) (m : Message) → IsSameManager s e.state → (c : Commitment)
    → commitment_at now (journalled e.state m) (resolved e.state m.destination) m ≡ Some c → IsLedFrom s c
joined_led s now e m same c given = at (resolved e.state m.destination) refl given
  where
    at : (t : Target) → resolved e.state m.destination ≡ t → commitment_at now (journalled e.state m) t m ≡ Some c → IsLedFrom s c
    at (AtPeer k) r f = (
      k,
      subst (λ (x : Commitment). led s.identity s.peers x.message.destination ≡ Some k) (some_is _ c f)
          (led_same s e.state m.destination k same (is_led e.state m.destination k r)),
    )
    at (Here queue) r f = absurd (none_some f)
    at Nowhere r f = absurd (none_some f)

sends_led : (s : State) (now : ℕ) (e : Effect) (ms : List Message) → IsSameManager s e.state → (c : Commitment) → In c (commitments_of now e ms) → IsLedFrom s c
sends_led s now e [] same c i = absurd i
sends_led s now e (m ∷ ms) same c i = in_option (IsLedFrom s) c (commitment_at now (journalled e.state m) (resolved e.state m.destination) m)
    (commitments_of now (send_made now e m) ms) i (joined_led s now e m same)
    (sends_led s now (send_made now e m) ms (manager_then s e.state (send_made now e m).state same (sent_manager now e.state m)) c)

record_led : (s : State) (r : Record) (c : Commitment) → In c (commitments_in s r) → IsLedFrom s c
record_led s (entry.Commit now ops) c i = sends_led s now (takes_made s now ops) (sends_of ops) (takes_made_rows s now ops).manager c i
record_led s r c i = absurd i

-- Managers stay who they are.

abbrev AreOfOne : State → List Written → Type 0
AreOfOne s ws = AllByRecursion (λ w. IsSameManager w.before s) ws

one_by_records : IsByRecords AreOfOne
one_by_records = record {
  starts = λ own peers. tt;
  quiet = λ a b ws same h. all_weaker (λ w. IsSameManager w.before a) (λ w. IsSameManager w.before b) (λ w g. manager_then w.before a b g same.manager) ws h;
  grows = λ i s r ws made h. let same = applied_manager s r (made_of_no_peer s r made) in
      all_append (λ w. IsSameManager w.before (apply s r)) ws (record { by = i; before = s; entry = r } ∷ [])
      (all_weaker (λ w. IsSameManager w.before s) (λ w. IsSameManager w.before (apply s r)) (λ w g. manager_then w.before s (apply s r) g same) ws h) (same, tt);
}

in_own : (ws : List Written) (w : Written) → In w ws → In w (written_of w.by ws)
in_own [] w i = absurd i
in_own (x ∷ xs) w i = at (x.by == w.by) refl i (in_own xs w)
  where
    at : (b : Bool) → (x.by == w.by) ≡ b → (x ≡ w) ⊎ In w xs → (In w xs → In w (written_of w.by xs)) → In w (cond b (x ∷ written_of w.by xs) (written_of w.by xs))
    at true e (inl same) rest = inl same
    at true e (inr i) rest = inr (rest i)
    at false e (inl same) rest = absurd (true_not_false (x.by == w.by) (subst (λ z. (z.by == w.by) ≡ true) (sym same) (same_number w.by)) e)
    at false e (inr i) rest = rest i

-- Peers are managers of the network.

-- a manager's peer is another one that is known
peer_known_at : (known : List Identity) (c : Course) → IsOrderly known c → (i k : ℕ) (p : Identity) → slice_get (manager_at c.network i).state.peers k ≡ Some p
    → (j : ℕ) × (slice_get known j ≡ Some p) × (not (same_guid p.guid (manager_at c.network i).state.identity.guid) ≡ true)
peer_known_at known c o i k p e = at (slice_get known i) refl (o.themselves i)
  where
    n : Network
    n = c.network

    nobody_there : (x : Option Manager) → slice_get n.managers i ≡ x → slice_get known i ≡ None → slice_get (unwrap_or x nobody).state.peers k ≡ Some p → ⊥
    nobody_there None f g h = none_some h
    nobody_there (Some x) f g h = let found = within_get known i (subst (λ m. i < m) o.count (get_within n.managers i x f)) in none_some (sym g ∙ found.1)

    at : (own : Option Identity) → slice_get known i ≡ own → IfSome own (λ own. IsItself known own (manager_at n i).state)
        → (j : ℕ) × (slice_get known j ≡ Some p) × (not (same_guid p.guid (manager_at n i).state.identity.guid) ≡ true)
    at None f h = absurd (nobody_there (slice_get n.managers i) refl f e)
    at (Some own) f h = subst (λ x. (j : ℕ) × (slice_get known j ≡ Some p) × (not (same_guid p.guid x.guid) ≡ true)) (sym h.identity)
        (filter_there (λ peer. not (same_guid peer.guid own.guid)) known k p (subst (λ ps. slice_get ps k ≡ Some p) h.peers e))

-- one that is known is there
known_there : (known : List Identity) (c : Course) → IsOrderly known c → (j : ℕ) (p : Identity) → slice_get known j ≡ Some p
    → (j < length c.network.managers) × ((manager_at c.network j).state.identity ≡ p)
known_there known c o j p e = (subst (λ m. j < m) (sym o.count) (get_within known j p e), at (slice_get known j) e (o.themselves j))
  where
    at : (own : Option Identity) → own ≡ Some p → IfSome own (λ own. IsItself known own (manager_at c.network j).state) → (manager_at c.network j).state.identity ≡ p
    at None f h = absurd (none_some f)
    at (Some own) f h = h.identity ∙ some_is own p f

-- where a name leads from a manager, it leads from each state that it had
pub leads_on : (known : List Identity) (c : Course) → IsOrderly known c → (i : ℕ) (s : State) → IsSameManager s (manager_at c.network i).state → (d : QueueName) (k : ℕ)
    → led s.identity s.peers d ≡ Some k
    → (j : ℕ) × LeadsFrom s c.network d j × LeadsFrom (manager_at c.network i).state c.network d j × (i ≡ j → ⊥)
leads_on known c o i s same d k e = by (led_there s.identity s.peers d k e)
  where
    m : State
    m = (manager_at c.network i).state

    by : (p : Identity) × (slice_get s.peers k ≡ Some p)
        → (j : ℕ) × LeadsFrom s c.network d j × LeadsFrom m c.network d j × (i ≡ j → ⊥)
    by (p, there) = found (peer_known_at known c o i k p there_now)
      where
        there_now : slice_get m.peers k ≡ Some p
        there_now = subst (λ ps. slice_get ps k ≡ Some p) (sym same.peers) there

        found : (j : ℕ) × (slice_get known j ≡ Some p) × (not (same_guid p.guid m.identity.guid) ≡ true)
            → (j : ℕ) × LeadsFrom s c.network d j × LeadsFrom m c.network d j × (i ≡ j → ⊥)
        found (j, known_at, differs) = let now = known_there known c o j p known_at in (
          j,
          record { peer = k; target = leads s d k e; identity = there ∙ ap (λ x. Some x) (sym now.1); there = now.0 },
          record { peer = k; target = leads m d k (led_after s m d k same e); identity = there_now ∙ ap (λ x. Some x) (sym now.1); there = now.0 },
          λ itself. true_not_false (same_guid p.guid m.identity.guid)
              (subst (λ x. same_guid p.guid x.guid ≡ true) (sym (ap (λ a. (manager_at c.network a).state.identity) itself ∙ now.1)) (same_guid_refl p.guid))
              (not_true (same_guid p.guid m.identity.guid) differs),
        )

-- The laws.

commitments_led : (known : List Identity) (c : Course) → IsOrderly known c → ((i : ℕ) → AreOfOne (manager_at c.network i).state (written_of i c.written)) → AreCommitmentsLed c
commitments_led known c o one w m there inside = by (record_led w.before w.entry m inside)
  where
    by : IsLedFrom w.before m → IsLed c w m.message.destination
    by (k, e) = let found = leads_on known c o w.by w.before
        (all_in (λ x. IsSameManager x.before (manager_at c.network w.by).state) (written_of w.by c.written) w (one w.by) (in_own c.written w there)) m.message.destination k e in
        record { manager = found.0; once = found.1; now = found.2 }

in_lines : (ws : List Written) (l : Line) → In l (lines_written ws) → (w : Written) × In w ws × In l (lines_of w.before w.entry)
in_lines [] l i = absurd i
in_lines (w ∷ ws) l i = at (in_split (lines_of w.before w.entry) (lines_written ws) l i) (in_lines ws l)
  where
    behind : (v : Written) × In v ws × In l (lines_of v.before v.entry) → (v : Written) × In v (w ∷ ws) × In l (lines_of v.before v.entry)
    behind (v, there, inside) = (v, inr there, inside)

    at : In l (lines_of w.before w.entry) ⊎ In l (lines_written ws) → (In l (lines_written ws) → (v : Written) × In v ws × In l (lines_of v.before v.entry))
        → (v : Written) × In v (w ∷ ws) × In l (lines_of v.before v.entry)
    at (inl i) rest = (w, inl refl, i)
    at (inr i) rest = behind (rest i)

in_told : (ls : List Line) (l : Line) (x : Joined) → In l ls → commitment_told l ≡ Some x → In x (filter_map commitment_told ls)
in_told [] l x i e = absurd i
in_told (m ∷ ls) l x i e = at (commitment_told m) refl i (in_told ls l x)
  where
    at : (o : Option Joined) → commitment_told m ≡ o → (m ≡ l) ⊎ In l ls → (In l ls → commitment_told l ≡ Some x → In x (filter_map commitment_told ls))
        → In x (cons_option o (filter_map commitment_told ls))
    at None f (inl same) rest = absurd (none_some (sym f ∙ ap commitment_told same ∙ e))
    at None f (inr i) rest = rest i e
    at (Some y) f (inl same) rest = inl (some_is y x (sym f ∙ ap commitment_told same ∙ e))
    at (Some y) f (inr i) rest = inr (rest i e)

in_joined : (own : Guid) (cs : List Commitment) (x : Joined) → In x (map (joined_by own) cs) → (m : Commitment) × In m cs × (joined_by own m ≡ x)
in_joined own [] x i = absurd i
in_joined own (m ∷ ms) x (inl e) = (m, inl refl, e)
in_joined own (m ∷ ms) x (inr i) = behind (in_joined own ms x i)
  where
    behind : (y : Commitment) × In y ms × (joined_by own y ≡ x) → (y : Commitment) × In y (m ∷ ms) × (joined_by own y ≡ x)
    behind (y, there, e) = (y, inr there, e)

streams_led : (known : List Identity) (c : Course) → IsOrderly known c → ((i : ℕ) → AreOfOne (manager_at c.network i).state (written_of i c.written))
    → c.network.ledger ≡ lines_written c.written → AreStreamsLed c
streams_led known c o one written stream number id i = by (in_lines c.written (line.Committed stream number id) (subst (In (line.Committed stream number id)) written i))
  where
    joins : Joined
    joins = record { stream = stream; number = number; id = id }

    by : (w : Written) × In w c.written × In (line.Committed stream number id) (lines_of w.before w.entry) → IsBetween c.network stream
    by (w, there, inside) = joined (in_joined w.before.identity.guid (commitments_in w.before w.entry) joins
        (subst (In joins) (record_joins w.before w.entry) (in_told (lines_of w.before w.entry) (line.Committed stream number id) joins inside refl)))
      where
        same : IsSameManager w.before (manager_at c.network w.by).state
        same = all_in (λ x. IsSameManager x.before (manager_at c.network w.by).state) (written_of w.by c.written) w (one w.by) (in_own c.written w there)

        joined : (m : Commitment) × In m (commitments_in w.before w.entry) × (joined_by w.before.identity.guid m ≡ joins) → IsBetween c.network stream
        joined (m, committed, e) = from (record_led w.before w.entry m committed)
          where
            from : IsLedFrom w.before m → IsBetween c.network stream
            from (k, f) = let found = leads_on known c o w.by w.before same m.message.destination k f in record {
              source = w.by;
              manager = found.0;
              own = ap (λ (x : Identity). x.guid) same.identity ∙ ap (λ (x : Joined). x.stream.source) e;
              leads = subst (λ d. LeadsFrom (manager_at c.network w.by).state c.network d found.0) (ap (λ (x : Joined). x.stream.destination) e) found.2;
              apart = found.3;
            }

pub always_commitments_led : Always AreCommitmentsLed
always_commitments_led known ms apart run kept = let h = always_kept known (IsOrderlyWith known AreOfOne) (by_records known AreOfOne apart one_by_records) ms run kept
    (begins_with known AreOfOne one_by_records) in commitments_led known _ h.0 h.1

pub commitments_lead_to_managers : LedgerIsWritten → CommitmentsLeadToManagers
commitments_lead_to_managers law known ms apart run kept = let h = always_kept known (IsOrderlyWith known AreOfOne) (by_records known AreOfOne apart one_by_records) ms run kept
    (begins_with known AreOfOne one_by_records) in
    (commitments_led known _ h.0 h.1, streams_led known _ h.0 h.1 (law known ms apart run kept))
