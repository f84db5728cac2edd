-- Every other change keeps what is stored.
use Rattle.std.proofs.Common.{refl, ap, sym, subst, ◌∙◌, arith, inl, inr}
use Rattle.std.specs.List.{AllByRecursion}
use Rattle.std.specs.Option.{option_map_or}
use Rattle.std.specs.Prelude.{[], ◌&&◌, ◌+◌, ◌-◌, ◌++◌, ◌==◌, ◌||◌, ◌∷◌, ◌≡◌, ◌≤◌, ◌⊎◌, Bool, IfSome, List, None, Option, Some, cond, false, is_some, not, option_map, slice_get, slice_set, true, ℕ}
use Rattle.mqb_base.specs.declared.ids.Guid.{Guid}
use Rattle.mqb_base.specs.declared.ids.Identity.{Identity}
use Rattle.mqb_base.specs.declared.ledger.Line.{Line}
use Rattle.std.specs.List.{list_any}
use Rattle.mqb_model.specs.records.Releases.{is_released_by}
use Rattle.mqb_model.specs.state.Durable.{durable, durable_plain}
use Rattle.mqb_plain.specs.Lists.{unmarked}
use Rattle.mqb_plain.specs.declared.outgoing.Outgoing.{Outgoing}
use Rattle.mqb_history.proofs.Orderly.{map_get}
use Rattle.mqb_history.specs.Stored.{IsStoredIn, WaitsIn}
use Rattle.mqb_exactly_once.specs.Words.{In}
use Rattle.mqb_packet.specs.declared.packet.Packet.{Packet}
use Rattle.mqb_queue.specs.Places.{numbered, with_numbered}
use Rattle.mqb_session.specs.State as one_end
use Rattle.mqb_model.specs.calls.Link.{link, link_refusal, linking, session_for}
use Rattle.mqb_model.specs.declared.answers.Role.{Role}
use Rattle.mqb_model.specs.declared.answers.Role.TheVariants as role
use Rattle.mqb_model.specs.declared.faults.LinkFault.{LinkFault}
use Rattle.mqb_model.specs.managers.Manager.{Manager, doubt_of, is_down}
use Rattle.mqb_model.specs.managers.Outcomes.{succeeded, unless}
use Rattle.mqb_model.specs.managers.Restarts.{lines_in_doubt, restarted, unread}
use Rattle.mqb_model.specs.records.Record.{Record}
use Rattle.mqb_model.specs.records.Record as entry
use Rattle.mqb_model.specs.rules.Numbers.{own_id}
use Rattle.mqb_model.specs.state.State.{State}
use Rattle.mqb_network.specs.Changes.{as_dropped, connection_to}
use Rattle.mqb_network.specs.Connecting.{any_connected, any_down, asking, both_linked, linked_as}
use Rattle.mqb_network.specs.Courses.{Course, Written, moved, written_by}
use Rattle.mqb_network.specs.Laws.{AreApart}
use Rattle.mqb_network.specs.Network.{Connection, Network, Note, is_connected, is_end, manager_at, with_manager}
use Rattle.mqb_history.specs.Changes.{Change, Calls, Drops, Ends, Fails, Finds, Hears, Links, Pumps, Restarts, changed, is_of_packets, may_change}
use Rattle.mqb_history.specs.Orderly.{IsOrderly}
use Rattle.mqb_history.proofs.Beginning.{linked_condition, linked_same_state}
use Rattle.mqb_history.proofs.Between.{AreEnds, IsSameNote, ends_turn, first_end, from_dropped, from_sender, in_any, in_dropped, in_either, elsewhere}
use Rattle.mqb_history.proofs.Ending.{parted_at}
use Rattle.mqb_history.proofs.Flowing.{Flows, flows_more}
use Rattle.mqb_history.proofs.Hearing.{hearing_keeps, place_of, session_of}
use Rattle.mqb_history.proofs.Lists.{append_nothing, clash, not_true, other_numbers, split_and, true_not_false}
use Rattle.mqb_history.proofs.Ordering.{with_at}
use Rattle.mqb_history.proofs.Orderly.{change_orderly}
use Rattle.mqb_history.proofs.Passing.{pumping_keeps}
use Rattle.mqb_history.proofs.Pumped.{AreMarks}
use Rattle.mqb_history.proofs.Serving.{calls_keep}
use Rattle.mqb_history.proofs.Storing.{AnyMark, FlowsIn, KeepsStorage, NoMark, ReleasesStored, Rests, ended_ends, ended_flows, ended_numbered, flows_same, found_rests, lost_rests, parted_doubt_stored, parted_rests, some_releases_more, unread_rests, with_release}
use Rattle.mqb_history.proofs.Unreleased.{IsOfOwn, Waits, weaker_waits}

-- A session that begins.

abbrev IsNew : one_end.State → Type 0
IsNew s = (s.sent ≡ 0) × (s.recoverable_sent ≡ 0) × (s.recoverable_acked ≡ 0) × (s.got ≡ 0) × (s.stored ≡ 0) × (s.acked ≡ 0)

-- a manager has a new session, if it has one, and nothing counts as sent
record IsFresh (m : Manager) : Type 0 where
  pub session : IfSome m.rest.session IsNew
  pub own : Guid
  pub unsent : Waits own NoMark m.state
  pub doubt : IfSome (doubt_of m.condition) (IsOfOwn own)

fresh_rests : (m : Manager) → IsFresh m → Rests m
fresh_rests m h = record { own = h.own; waits = weaker_waits h.own NoMark AnyMark (λ kind n id g. tt) m.state h.unsent; unsent = λ up none. h.unsent; doubt = h.doubt }

linked_fresh : (m : Manager) (end : Role) (window : ℕ) → IsFresh m → IsFresh (succeeded m (link m end window))
linked_fresh m end window h = at (link_refusal m end window)
  where
    new : (end : Role) → IfSome (session_for m.state end window) IsNew
    new (role.Initiator k) = by (slice_get m.state.peers k)
      where
        by : (o : Option Identity) → IfSome (option_map (λ (peer : Identity). one_end.new_initiator m.state.identity.guid peer.guid window) o) IsNew
        by None = tt
        by (Some peer) = (refl, refl, refl, refl, refl, refl)
    new role.Acceptor = (refl, refl, refl, refl, refl, refl)

    at : (o : Option LinkFault) → IsFresh (succeeded m (unless m o (linking m end window)))
    at (Some why) = record { session = h.session; own = h.own; unsent = h.unsent; doubt = h.doubt }
    at None = record { session = new end; own = h.own; unsent = h.unsent; doubt = h.doubt }

-- no packet of a connection that begins was sent yet
from_none : (d i limit : ℕ) (notes : List Note) (xs : List Packet) → ((note : Note) → In note notes → note.connection ≤ limit) → d ≡ limit + 1 → from_sender d i notes xs ≡ []
from_none d i limit [] xs h e = refl
from_none d i limit (note ∷ notes) [] h e = refl
from_none d i limit (note ∷ notes) (x ∷ xs) h e = ap (λ b. cond (b && (note.sender == i)) (x ∷ from_sender d i notes xs) (from_sender d i notes xs)) test
    ∙ from_none d i limit notes xs (λ y j. h y (inr j)) e
  where
    test : (note.connection == d) ≡ false
    test = let low = h note (inl refl) in other_numbers note.connection d (λ same. omega (arith, low, e, same))

none_flow : (mi mj : Manager) (ws : List Written) (xs ys : List Packet) (s t : one_end.State) → IsFresh mi → mi.rest.session ≡ Some s → mj.rest.session ≡ Some t → IsNew s → IsNew t → xs ≡ [] → ys ≡ []
    → Flows mi mj xs ys ws
none_flow mi mj ws xs ys s t h e f new old none nothing = subst (λ zs. Flows mi mj zs ys ws) (sym none) (subst (λ zs. Flows mi mj [] zs ws) (sym nothing) (record {
  source = s;
  target = t;
  sends = e;
  hears = f;
  sent = new.0;
  recoverable_sent = new.1;
  numbered = tt;
  counted = tt;
  repeats = tt;
  got = [];
  left = [];
  split = refl;
  count = old.3;
  stored = old.4;
  kept = tt;
  acked = let a = new.2 in omega (arith, a);
  told = tt;
  got_acked = let a = new.5 in omega (arith, a);
  told_got = tt;
  own = h.own;
  waits = weaker_waits h.own NoMark (AreMarks []) (λ kind n id g. absurd g) mi.state h.unsent;
}))

new_of : (m : Manager) (s : one_end.State) → IsFresh m → m.rest.session ≡ Some s → IsNew s
new_of m s h e = subst (λ o. IfSome o IsNew) e h.session

-- a manager without a connection is no end of one
no_end : (c : Course) (x : ℕ) (d : Connection) (i j : ℕ) → is_connected c.network x ≡ false → In d c.network.connections → AreEnds d i j → x ≡ i → ⊥
no_end c x d i j free inside ends same = true_not_false (is_connected c.network x) (in_any (is_end x) c.network.connections d inside (subst (λ y. is_end y d ≡ true) (sym same) (first_end d i j ends))) free

or_false : (a b : Bool) → (a || b) ≡ false → (a ≡ false) × (b ≡ false)
or_false true b e = absurd (clash e)
or_false false b e = (refl, e)

links_keep : (known : List Identity) (c : Course) (a b window_a window_b : ℕ) → AreApart known → may_change c (Links a b window_a window_b) ≡ true → IsOrderly known c → KeepsStorage c
    → KeepsStorage (changed (Links a b window_a window_b) c)
links_keep known c a b window_a window_b apart may o k = record {
  rests = λ i. rests i;
  flows = λ d inside i j ends. flows d (in_either c.network.connections (new ∷ []) d inside) i j ends;
  ends = λ note i d inside same. ends note i d (in_either c.network.connections (new ∷ []) d inside) same;
  numbered = λ note i. let low = k.numbered note i in omega (arith, low);
  written = k.written;
  doubts = λ i. subst (λ x. IfSome (doubt_of x) (ReleasesStored c.written (manager_at after.network i).state)) (sym (condition i))
      (subst (λ s. IfSome (doubt_of (manager_at c.network i).condition) (ReleasesStored c.written s)) (sym (state i)) (k.doubts i));
}
  where
    n : Network
    n = c.network

    end : Role
    end = asking (manager_at n a).state (manager_at n b).state.identity.guid

    first : Network
    first = linked_as a end window_a n

    second : Network
    second = linked_as b role.Acceptor window_b first

    after : Course
    after = moved (both_linked a b window_a window_b) c

    new : Connection
    new = connection_to second a b

    orderly : IsOrderly known after
    orderly = change_orderly known c (Links a b window_a window_b) apart may o

    up : (is_down (manager_at n a) ≡ false) × (is_down (manager_at n b) ≡ false)
    up = or_false (is_down (manager_at n a)) (is_down (manager_at n b)) (not_true (any_down n a b) (split_and (not (any_down n a b)) (not (any_connected n a b)) may).0)

    free : (is_connected n a ≡ false) × (is_connected n b ≡ false)
    free = or_false (is_connected n a) (is_connected n b) (not_true (any_connected n a b) (split_and (not (any_down n a b)) (not (any_connected n a b)) may).1)

    none_new : (s : Option one_end.State) → is_some s ≡ false → IfSome s IsNew
    none_new None e = tt
    none_new (Some s) e = absurd (clash e)

    fresh_free : (i : ℕ) → is_down (manager_at n i) ≡ false → is_connected n i ≡ false → IsFresh (manager_at n i)
    fresh_free i u f = let none = (o.linked i).session ∙ f in record {
      session = none_new (manager_at n i).rest.session none;
      own = (k.rests i).own;
      unsent = (k.rests i).unsent u none;
      doubt = (k.rests i).doubt;
    }

    next_a : IsFresh (succeeded (manager_at n a) (link (manager_at n a) end window_a))
    next_a = linked_fresh (manager_at n a) end window_a (fresh_free a up.0 free.0)

    first_fresh : (i : ℕ) → IsFresh (manager_at n i) → IsFresh (manager_at first i)
    first_fresh i h = with_at IsFresh n a i (succeeded (manager_at n a) (link (manager_at n a) end window_a)) h (λ e. next_a)

    next_b : IsFresh (succeeded (manager_at first b) (link (manager_at first b) role.Acceptor window_b))
    next_b = linked_fresh (manager_at first b) role.Acceptor window_b (first_fresh b (fresh_free b up.1 free.1))

    second_fresh : (i : ℕ) → IsFresh (manager_at n i) → IsFresh (manager_at second i)
    second_fresh i h = with_at IsFresh first b i (succeeded (manager_at first b) (link (manager_at first b) role.Acceptor window_b)) (first_fresh i h) (λ e. next_b)

    rests : (i : ℕ) → Rests (manager_at second i)
    rests i = with_at Rests first b i (succeeded (manager_at first b) (link (manager_at first b) role.Acceptor window_b))
        (with_at Rests n a i (succeeded (manager_at n a) (link (manager_at n a) end window_a)) (k.rests i) (λ e. fresh_rests _ next_a)) (λ e. fresh_rests _ next_b)

    state : (i : ℕ) → (manager_at second i).state ≡ (manager_at n i).state
    state i = linked_same_state first b i role.Acceptor window_b ∙ linked_same_state n a i end window_a

    condition : (i : ℕ) → (manager_at second i).condition ≡ (manager_at n i).condition
    condition i = linked_condition first b i role.Acceptor window_b ∙ linked_condition n a i end window_a

    same : (i : ℕ) → (a ≡ i → ⊥) → (b ≡ i → ⊥) → manager_at second i ≡ manager_at n i
    same i f g = elsewhere first b i (succeeded (manager_at first b) (link (manager_at first b) role.Acceptor window_b)) g
        ∙ elsewhere n a i (succeeded (manager_at n a) (link (manager_at n a) end window_a)) f

    ends_fresh : (i j : ℕ) → AreEnds new i j → IsFresh (manager_at second i)
    ends_fresh i j (inl e) = subst (λ y. IsFresh (manager_at second y)) (sym e.0) (second_fresh a (fresh_free a up.0 free.0))
    ends_fresh i j (inr e) = subst (λ y. IsFresh (manager_at second y)) (sym e.0) (second_fresh b (fresh_free b up.1 free.1))

    last : (ds : List Connection) → In new (ds ++ new ∷ [])
    last [] = inl refl
    last (d ∷ ds) = inr (last ds)

    begins : (i j : ℕ) → AreEnds new i j → (s : one_end.State) × ((manager_at second i).rest.session ≡ Some s)
    begins i j ends = session_of known after i orderly (in_any (is_end i) (n.connections ++ new ∷ []) new (last n.connections) (first_end new i j ends))

    flows : (d : Connection) → In d n.connections ⊎ In d (new ∷ []) → (i j : ℕ) → AreEnds d i j → FlowsIn second c.sent c.written i j d.number
    flows d (inl inside) i j ends = flows_same n second c.sent c.written i j d.number
        (same i (no_end c a d i j free.0 inside ends) (no_end c b d i j free.1 inside ends))
        (same j (no_end c a d j i free.0 inside (ends_turn d i j ends)) (no_end c b d j i free.1 inside (ends_turn d i j ends))) refl (k.flows d inside i j ends)
    flows d (inr (inr none)) i j ends = absurd none
    flows d (inr (inl e)) i j ends = subst (λ y. FlowsIn second c.sent c.written i j y.number) e (begun (subst (λ y. AreEnds y i j) (sym e) ends))
      where
        begun : AreEnds new i j → FlowsIn second c.sent c.written i j new.number
        begun f = let s = begins i j f in let t = begins j i (ends_turn new i j f) in
            none_flow (manager_at second i) (manager_at second j) c.written (from_sender new.number i n.notes c.sent) (from_sender new.number j n.notes c.sent) s.0 t.0
            (ends_fresh i j f) s.1 t.1 (new_of (manager_at second i) s.0 (ends_fresh i j f) s.1) (new_of (manager_at second j) t.0 (ends_fresh j i (ends_turn new i j f)) t.1)
            (from_none new.number i n.connected n.notes c.sent k.numbered refl) (from_none new.number j n.connected n.notes c.sent k.numbered refl)

    ends : (note : Note) → In note n.notes → (d : Connection) → In d n.connections ⊎ In d (new ∷ []) → d.number ≡ note.connection → AreEnds d note.sender note.receiver
    ends note i d (inl inside) e = k.ends note i d inside e
    ends note i d (inr (inr none)) e = absurd none
    ends note i d (inr (inl f)) e = let low = k.numbered note i in let g = ap (λ (y : Connection). y.number) f in absurd (omega (arith, low, e, g))

-- The others.

ends_keep : (known : List Identity) (c : Course) (x : ℕ) → IsOrderly known c → KeepsStorage c → KeepsStorage (changed (Ends x) c)
ends_keep known c x o k = record {
  rests = λ i. parted_at Rests c.network x i parted_rests (k.rests i);
  flows = ended_flows c.network c.network x c.sent c.written o.disjoint refl refl (λ i apart. refl) k.flows;
  ends = ended_ends c.network x o.disjoint k.ends;
  numbered = ended_numbered c.network x k.numbered;
  written = k.written;
  doubts = λ i. parted_at (λ y. IfSome (doubt_of y.condition) (ReleasesStored c.written y.state)) c.network x i (parted_doubt_stored c.written) (k.doubts i);
}

drops_keep : (c : Course) (number : ℕ) → KeepsStorage c → KeepsStorage (changed (Drops number) c)
drops_keep c number k = record {
  rests = k.rests;
  flows = λ d inside i j ends. subst (λ xs. Flows (manager_at c.network i) (manager_at c.network j) xs (from_sender d.number j notes c.sent) c.written) (sym (same d.number i))
      (subst (λ ys. Flows (manager_at c.network i) (manager_at c.network j) (from_sender d.number i c.network.notes c.sent) ys c.written) (sym (same d.number j)) (k.flows d inside i j ends));
  ends = λ note i d inside e. let old = noted note i in subst (λ y. AreEnds d y note.receiver) old.2.sender (subst (λ y. AreEnds d old.0.sender y) old.2.receiver
      (k.ends old.0 old.1 d inside (e ∙ sym old.2.connection)));
  numbered = λ note i. let old = noted note i in subst (λ y. y ≤ c.network.connected) old.2.connection (k.numbered old.0 old.1);
  written = k.written;
  doubts = k.doubts;
}
  where
    notes : List Note
    notes = with_numbered c.network.notes number as_dropped

    same : (d i : ℕ) → from_sender d i notes c.sent ≡ from_sender d i c.network.notes c.sent
    same d i = at (numbered c.network.notes number) refl
      where
        at : (o : Option Note) → numbered c.network.notes number ≡ o
            → from_sender d i (option_map_or (λ x. slice_set c.network.notes (number - 1) (as_dropped x)) o c.network.notes) c.sent ≡ from_sender d i c.network.notes c.sent
        at None e = refl
        at (Some x) e = from_dropped d i c.network.notes (number - 1) x c.sent (place_of c.network.notes number x e)

    noted : (note : Note) → In note notes → (old : Note) × In old c.network.notes × IsSameNote old note
    noted note i = at (numbered c.network.notes number) refl i
      where
        at : (o : Option Note) → numbered c.network.notes number ≡ o → In note (option_map_or (λ x. slice_set c.network.notes (number - 1) (as_dropped x)) o c.network.notes)
            → (old : Note) × In old c.network.notes × IsSameNote old note
        at None e j = (note, j, record { sender = refl; receiver = refl; connection = refl })
        at (Some x) e j = in_dropped c.network.notes (number - 1) x note (place_of c.network.notes number x e) j

-- a manager without a connection is another one now, and wrote a record or none
alone_keeps : (c : Course) (x : ℕ) (m : Manager) (o : Option Record) → is_connected c.network x ≡ false → Rests m → IfSome o (ReleasesStored c.written (manager_at c.network x).state)
    → IfSome (doubt_of m.condition) (ReleasesStored (c.written ++ written_by x (manager_at c.network x) o) m.state) → KeepsStorage c
    → KeepsStorage (record { network = with_manager c.network x m; sent = c.sent; written = c.written ++ written_by x (manager_at c.network x) o })
alone_keeps c x m o free rests stores doubt k = record {
  rests = λ i. with_at Rests c.network x i m (k.rests i) (λ e. rests);
  flows = λ d inside i j ends. flows_same c.network (with_manager c.network x m) c.sent (c.written ++ more) i j d.number
      (elsewhere c.network x i m (no_end c x d i j free inside ends)) (elsewhere c.network x j m (no_end c x d j i free inside (ends_turn d i j ends))) refl
      (flows_more (manager_at c.network i) (manager_at c.network j) (from_sender d.number i c.network.notes c.sent) (from_sender d.number j c.network.notes c.sent) c.written more (k.flows d inside i j ends));
  ends = k.ends;
  numbered = k.numbered;
  written = with_release c.written x (manager_at c.network x) o stores k.written;
  doubts = λ i. with_at (λ y. IfSome (doubt_of y.condition) (ReleasesStored (c.written ++ more) y.state)) c.network x i m
      (some_releases_more c.written more (manager_at c.network i).state (doubt_of (manager_at c.network i).condition) (k.doubts i)) (λ e. doubt);
}
  where
    more : List Written
    more = written_by x (manager_at c.network x) o

-- the recoverable messages of a state are those of its store
durable_has : (s : State) (n : ℕ) (os : List Outgoing) → list_any (is_released_by s n) (unmarked os) ≡ list_any (is_released_by s n) os
durable_has s n [] = refl
durable_has s n (o ∷ os) = ap (λ b. is_released_by s n o || b) (durable_has s n os)

durable_waits : (s : State) (n : ℕ) → WaitsIn s n → WaitsIn (durable s) n
durable_waits s n h = record {
  index = h.index;
  lists = durable_plain h.lists;
  there = map_get durable_plain s.plain h.index ∙ ap (option_map durable_plain) h.there;
  has = durable_has s n h.lists.recoverable ∙ h.has;
}

same_releases : (ws : List Written) (s t : State) (r : Record) → t.identity ≡ s.identity → ((n : ℕ) → WaitsIn s n → WaitsIn t n) → ReleasesStored ws s r → ReleasesStored ws t r
same_releases ws s t (entry.Arrived now numbers part) e keeps h = all numbers h
  where
    all : (ns : List ℕ) → AllByRecursion (λ n. IsStoredIn ws (own_id s n) × WaitsIn s n) ns → AllByRecursion (λ n. IsStoredIn ws (own_id t n) × WaitsIn t n) ns
    all [] g = tt
    all (n ∷ ns) g = ((subst (λ (i : Identity). IsStoredIn ws (record { qm = i.guid; number = n })) (sym e) g.0.0, keeps n g.0.1), all ns g.1)
same_releases ws s t r e keeps h = tt

some_same_releases : (ws : List Written) (s t : State) (o : Option Record) → t.identity ≡ s.identity → ((n : ℕ) → WaitsIn s n → WaitsIn t n) → IfSome o (ReleasesStored ws s) → IfSome o (ReleasesStored ws t)
some_same_releases ws s t None e keeps h = tt
some_same_releases ws s t (Some r) e keeps h = same_releases ws s t r e keeps h

nothing_written : (n : Network) (sent : List Packet) (ws : List Written) → KeepsStorage (record { network = n; sent = sent; written = ws ++ [] }) → KeepsStorage (record { network = n; sent = sent; written = ws })
nothing_written n sent ws k = subst (λ xs. KeepsStorage (record { network = n; sent = sent; written = xs })) (append_nothing ws) k

-- lines of the ledger are told by nothing here
with_ledger : (n : Network) (ledger : List Line) (sent : List Packet) (ws : List Written) → KeepsStorage (record { network = n; sent = sent; written = ws })
    → KeepsStorage (record { network = record n { ledger = ledger }; sent = sent; written = ws })
with_ledger n ledger sent ws k = record { rests = k.rests; flows = k.flows; ends = k.ends; numbered = k.numbered; written = k.written; doubts = k.doubts }

pub change_keeps_storage : (known : List Identity) (c : Course) (x : Change) → AreApart known → may_change c x ≡ true → IsOrderly known c → KeepsStorage c → KeepsStorage (changed x c)
change_keeps_storage known c (Calls i call failure) apart may o k = calls_keep c i call failure o.disjoint (not_true (is_of_packets call) (split_and (not (is_of_packets call)) _ may).0) k
change_keeps_storage known c (Pumps i now failure) apart may o k = pumping_keeps known c i now failure o k
change_keeps_storage known c (Hears number now failure) apart may o k = hearing_keeps known c number now failure (numbered c.network.notes number) (numbered c.sent number) refl refl may o k
change_keeps_storage known c (Links a b window_a window_b) apart may o k = links_keep known c a b window_a window_b apart may o k
change_keeps_storage known c (Ends i) apart may o k = ends_keep known c i o k
change_keeps_storage known c (Drops number) apart may o k = drops_keep c number k
change_keeps_storage known c (Restarts i) apart may o k = let m = manager_at c.network i in nothing_written (with_manager c.network i (restarted m false)) c.sent c.written
    (alone_keeps c i (restarted m false) None (not_true (is_connected c.network i) may) (lost_rests m (k.rests i)) tt tt k)
change_keeps_storage known c (Finds i) apart may o k = let m = manager_at c.network i in
    with_ledger (with_manager c.network i (restarted m true)) (c.network.ledger ++ lines_in_doubt m) c.sent (c.written ++ written_by i m (doubt_of m.condition))
    (alone_keeps c i (restarted m true) (doubt_of m.condition) (not_true (is_connected c.network i) (split_and (not (is_connected c.network i)) _ may).0) (found_rests m (k.rests i)) (k.doubts i) tt k)
change_keeps_storage known c (Fails i) apart may o k = let m = manager_at c.network i in nothing_written (with_manager c.network i (unread m)) c.sent c.written
    (alone_keeps c i (unread m) None (not_true (is_connected c.network i) may) (unread_rests m (k.rests i)) tt
    (some_same_releases (c.written ++ []) m.state (unread m).state (doubt_of m.condition) refl (durable_waits m.state) (some_releases_more c.written [] m.state (doubt_of m.condition) (k.doubts i))) k)
