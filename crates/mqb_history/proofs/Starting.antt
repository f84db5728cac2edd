-- Managers that are in order begin valid: each takes the others as peers, one after another.
use Rattle.std.proofs.Common.{refl, ap, sym, subst, ◌∙◌, arith}
use Rattle.std.proofs.lemmas.Bool.Decides.{nat_tests}
use Rattle.std.proofs.lemmas.List.Elements.{recursion_from_All}
use Rattle.std.specs.Char.{to_ascii_lowercase}
use Rattle.std.specs.Cmp.Lexicographic.{bytes_decides}
use Rattle.std.specs.List.{AllByRecursion, list_any, slice_index_or}
use Rattle.std.specs.Prelude.{[], ◌+◌, ◌++◌, ◌<◌, ◌||◌, ◌∷◌, ◌≡◌, ◌≤◌, Bool, List, None, Ok, Option, Result, Some, cond, false, filter, fold, length, map, nat_le, not, option_map, slice_get, suc, true, unwrap_or, zero, ℕ}
use Rattle.mqb_base.specs.Same.{same_bytes, same_guid, same_ignoring_case}
use Rattle.mqb_base.specs.declared.ids.Identity.{Identity}
use Rattle.mqb_model.specs.Lists.{grown}
use Rattle.mqb_model.specs.calls.AddPeer.{add_peer_refusal}
use Rattle.mqb_model.specs.declared.faults.AddPeerFault.{AddPeerFault}
use Rattle.mqb_model.specs.declared.faults.AddPeerFault.TheVariants as fault
use Rattle.mqb_model.specs.declared.limits.TheConstants.{MAX_PEERS}
use Rattle.mqb_model.specs.laws.Keeping.{CallsKeepValid}
use Rattle.mqb_model.specs.laws.Validity.{FailedIsValid, NewIsValid}
use Rattle.mqb_model.specs.managers.Manager.{Manager, new_manager, unlinked}
use Rattle.mqb_model.specs.managers.Outcomes.{Outcome, recording, succeeded, unless}
use Rattle.mqb_model.specs.managers.Valid.{IsValidManager}
use Rattle.mqb_model.specs.records.Applying.{apply}
use Rattle.mqb_model.specs.records.Peer.{is_met, peer_there}
use Rattle.mqb_model.specs.records.Record as entry
use Rattle.mqb_model.specs.state.State.{State, empty}
use Rattle.mqb_names.specs.Values.{IsName}
use Rattle.mqb_network.specs.Laws.{AreApart}
use Rattle.mqb_network.specs.Network.{formatted, nobody, others}
use Rattle.mqb_network.specs.Runs.{beginning}
use Rattle.mqb_session.specs.State.{no_guid}
use Rattle.mqb_history.specs.Drafted.{AlwaysValid, AreInOrder}
use Rattle.mqb_history.proofs.Connections.{any_append, split_or}
use Rattle.mqb_history.proofs.Lists.{all_filter, append_length, clash, none_some, some_is}
use Rattle.mqb_history.proofs.Names.{same_guid_refl}
use Rattle.mqb_history.proofs.Orderly.{map_get}
use Rattle.mqb_history.proofs.Validating.{AllValid, ManagerLaws, always_sound}

-- Managers that are apart.

bytes_apart : (a b : List ℕ) → same_bytes a b ≡ false → same_bytes b a ≡ false
bytes_apart a b e = at (same_bytes b a) refl
  where
    at : (t : Bool) → same_bytes b a ≡ t → t ≡ false
    at true f = absurd (clash (sym ((bytes_decides a b).1 (sym ((bytes_decides b a).0 f))) ∙ e))
    at false f = refl

unmet_back : (a b : Identity) → is_met a b ≡ false → is_met b a ≡ false
unmet_back a b e = let both = split_or (same_guid a.guid b.guid) (same_ignoring_case a.host b.host) e in
    ap (λ t. t || same_ignoring_case b.host a.host) (bytes_apart a.guid.0 b.guid.0 both.0) ∙ bytes_apart (map to_ascii_lowercase a.host) (map to_ascii_lowercase b.host) both.1

-- each is apart from those behind it
abbrev Differ : List Identity → Type 0
Differ [] = Unit {0}
Differ (p ∷ ps) = AllByRecursion (λ q. is_met p q ≡ false) ps × Differ ps

each_index : {X : Type 0} (P : X → Type 0) (d : X) (xs : List X) → ((j : ℕ) → j < length xs → P (slice_index_or xs j d)) → AllByRecursion P xs
each_index P d [] h = tt
each_index P d (x ∷ xs) h = (h 0 (omega arith), each_index P d xs (λ j less. h (suc j) (omega (arith, less))))

all_differ : (known : List Identity) → AreApart known → Differ known
all_differ [] h = tt
all_differ (p ∷ ps) h = (
  each_index (λ q. is_met p q ≡ false) p ps (λ j less. h 0 (suc j) p (omega arith) (omega (arith, less))),
  all_differ ps (λ i j d first less. h (suc i) (suc j) d (omega (arith, first)) (omega (arith, less))),
)

filter_differ : (test : Identity → Bool) (ps : List Identity) → Differ ps → Differ (filter test ps)
filter_differ test [] h = tt
filter_differ test (p ∷ ps) h = at (test p) (filter_differ test ps h.1)
  where
    at : (b : Bool) → Differ (filter test ps) → Differ (cond b (p ∷ filter test ps) (filter test ps))
    at true rest = (all_filter (λ q. is_met p q ≡ false) test ps h.0, rest)
    at false rest = rest

all_at : {X : Type 0} (P : X → Type 0) (xs : List X) (i : ℕ) (x : X) → AllByRecursion P xs → slice_get xs i ≡ Some x → P x
all_at P [] i x h e = absurd (none_some e)
all_at P (y ∷ ys) zero x h e = subst P (some_is y x e) h.0
all_at P (y ∷ ys) (suc i) x h e = all_at P ys i x h.1 e

all_then : {X : Type 0} (P Q : X → Type 0) → ((x : X) → P x → Q x) → (xs : List X) → AllByRecursion P xs → AllByRecursion Q xs
all_then P Q then_so [] h = tt
all_then P Q then_so (x ∷ xs) h = (then_so x h.0, all_then P Q then_so xs h.1)

all_both : {X : Type 0} (P Q R : X → Type 0) → ((x : X) → P x → Q x → R x) → (xs : List X) → AllByRecursion P xs → AllByRecursion Q xs → AllByRecursion R xs
all_both P Q R both [] h g = tt
all_both P Q R both (x ∷ xs) h g = (both x h.0 g.0, all_both P Q R both xs h.1 g.1)

all_that_pass : {X : Type 0} (P : X → Type 0) (test : X → Bool) (xs : List X) → AllByRecursion (λ x. test x ≡ true → P x) xs → AllByRecursion P (filter test xs)
all_that_pass P test [] h = tt
all_that_pass P test (x ∷ xs) h = at (test x) refl (all_that_pass P test xs h.1)
  where
    at : (b : Bool) → test x ≡ b → AllByRecursion P (filter test xs) → AllByRecursion P (cond b (x ∷ filter test xs) (filter test xs))
    at true e rest = (h.0 e, rest)
    at false e rest = rest

-- a manager is another than this one
abbrev is_other : Identity → Identity → Bool
is_other own peer = not (same_guid peer.guid own.guid)

not_other : (own : Identity) → is_other own own ≡ false
not_other own = ap not (same_guid_refl own.guid)

-- it is apart from all others
apart_from_others : (known : List Identity) (i : ℕ) (own : Identity) → slice_get known i ≡ Some own → Differ known
    → AllByRecursion (λ p. is_other own p ≡ true → is_met own p ≡ false) known
apart_from_others [] i own e h = absurd (none_some e)
apart_from_others (p ∷ ps) zero own e h = let same = some_is p own e in (
  λ other. absurd (clash (sym other ∙ (subst (λ x. is_other own x ≡ false) (sym same) (not_other own)))),
  all_then (λ q. is_met p q ≡ false) (λ q. is_other own q ≡ true → is_met own q ≡ false) (λ q met other. subst (λ x. is_met x q ≡ false) same met) ps h.0,
)
apart_from_others (p ∷ ps) (suc i) own e h = (
  λ other. unmet_back p own (all_at (λ q. is_met p q ≡ false) ps i own h.0 e),
  apart_from_others ps i own e h.1,
)

pub filter_most : {X : Type 0} (test : X → Bool) (xs : List X) → length (filter test xs) ≤ length xs
filter_most test [] = omega arith
filter_most test (x ∷ xs) = at (test x) (filter_most test xs)
  where
    at : (b : Bool) → length (filter test xs) ≤ length xs → length (cond b (x ∷ filter test xs) (filter test xs)) ≤ length (x ∷ xs)
    at true rest = omega (arith, rest)
    at false rest = omega (arith, rest)

filter_fewer : {X : Type 0} (test : X → Bool) (xs : List X) (i : ℕ) (x : X) → slice_get xs i ≡ Some x → test x ≡ false → length (filter test xs) < length xs
filter_fewer test [] i x e f = absurd (none_some e)
filter_fewer test (y ∷ ys) zero x e f = let most = filter_most test ys in
    subst (λ b. length (cond b (y ∷ filter test ys) (filter test ys)) < length (y ∷ ys)) (sym (subst (λ z. test z ≡ false) (sym (some_is y x e)) f)) (omega (arith, most))
filter_fewer test (y ∷ ys) (suc i) x e f = at (test y) (filter_fewer test ys i x e f)
  where
    at : (b : Bool) → length (filter test ys) < length ys → length (cond b (y ∷ filter test ys) (filter test ys)) < length (y ∷ ys)
    at true rest = omega (arith, rest)
    at false rest = omega (arith, rest)

-- Peers that join.

-- a state in which a manager is valid that has nothing but peers
record Begins (s : State) : Type 0 where
  pub valid : IsValidManager (unlinked s)
  pub outs : s.outs ≡ []
  pub ins : s.ins ≡ []

join_begins : CallsKeepValid → (s : State) (p : Identity) → Begins s → is_met s.identity p ≡ false → list_any (λ q. is_met q p) s.peers ≡ false
    → length s.peers < MAX_PEERS → IsName p.host → Begins (apply s (entry.Peer p))
join_begins calls s p b own met few name = record { valid = again; outs = b.outs; ins = b.ins }
  where
    m : Manager
    m = unlinked s

    new : peer_there s p ≡ false
    new = ap (λ t. t || list_any (λ q. is_met q p) s.peers) own ∙ met

    room : nat_le MAX_PEERS (length s.peers) ≡ false
    room = grind (arith, nat_tests, few)

    goes : add_peer_refusal m p ≡ None
    goes = ap (λ t. cond t (Some fault.PeerThere) (cond (nat_le MAX_PEERS (length s.peers)) (Some fault.TooManyPeers) None)) new
        ∙ ap (λ t. cond t (Some fault.TooManyPeers) None) room

    joins : Outcome (Result ℕ AddPeerFault)
    joins = recording m (entry.Peer p) (Ok (length s.peers))

    after : IsValidManager (succeeded m joins)
    after = subst (λ r. IsValidManager (succeeded m (unless m r joins))) goes ((calls m b.valid).peers p name).succeeds

    again : IsValidManager (unlinked (apply s (entry.Peer p)))
    again = record {
      state = after.state;
      express = after.express;
      marks = after.marks;
      session = after.session;
      cursors = subst (λ rows. length (grown {X = ℕ} 0 (length rows) []) ≡ length rows) (sym b.outs) refl;
      owes = subst (λ rows. length (grown {X = Bool} false (length rows) []) ≡ length rows) (sym b.ins) refl;
      doubt = tt;
    }

all_begin : CallsKeepValid → (s : State) (ps : List Identity) → Begins s → AllByRecursion (λ p. is_met s.identity p ≡ false) ps
    → AllByRecursion (λ p. list_any (λ q. is_met q p) s.peers ≡ false) ps → Differ ps → length s.peers + length ps ≤ MAX_PEERS
    → AllByRecursion (λ p. IsName p.host) ps → Begins (fold apply s (map (λ p. entry.Peer p) ps))
all_begin calls s [] b own met differ few names = b
all_begin calls s (p ∷ ps) b own met differ few names = all_begin calls (apply s (entry.Peer p)) ps
    (join_begins calls s p b own.0 met.0 (omega (arith, few)) names.0) own.1
    (all_both (λ x. list_any (λ q. is_met q x) s.peers ≡ false) (λ x. is_met p x ≡ false) (λ x. list_any (λ q. is_met q x) (s.peers ++ p ∷ []) ≡ false)
    (λ x old new. any_append (λ q. is_met q x) s.peers (p ∷ []) ∙ ap (λ t. t || (is_met p x || false)) old ∙ ap (λ t. t || false) new) ps met.1 differ.0)
    differ.1 (let more = append_length s.peers (p ∷ []) in omega (arith, few, more)) names.1

-- The start.

formatted_valid : NewIsValid → CallsKeepValid → (known : List Identity) (i : ℕ) (own : Identity) → AreInOrder known → slice_get known i ≡ Some own
    → IsValidManager (formatted own (others known own))
formatted_valid new calls known i own o e = (all_begin calls (empty own) (others known own) (record { valid = new own; outs = refl; ins = refl })
    (all_that_pass (λ p. is_met own p ≡ false) (is_other own) known (apart_from_others known i own e differ))
    (each_new (others known own)) (filter_differ (is_other own) known differ)
    (let fewer = filter_fewer (is_other own) known i own e (not_other own) in let few = o.few in omega (arith, fewer, few))
    (all_filter (λ p. IsName p.host) (is_other own) known (recursion_from_All (λ p. IsName p.host) known o.hosts))).valid
  where
    differ : Differ known
    differ = all_differ known o.apart

    each_new : (ps : List Identity) → AllByRecursion (λ p. list_any (λ q. is_met q p) [] ≡ false) ps
    each_new [] = tt
    each_new (p ∷ ps) = (refl, each_new ps)

start_valid : NewIsValid → FailedIsValid → CallsKeepValid → (known : List Identity) → AreInOrder known → AllValid (beginning known).network
start_valid new fails calls known o i = subst (λ x. IsValidManager (unwrap_or x nobody)) (sym (map_get (λ own. formatted own (others known own)) known i)) (at (slice_get known i) refl)
  where
    at : (own : Option Identity) → slice_get known i ≡ own → IsValidManager (unwrap_or (option_map (λ own. formatted own (others known own)) own) nobody)
    at None e = fails (new_manager (record { host = []; guid = no_guid; address = [] })) None (new (record { host = []; guid = no_guid; address = [] })) tt
    at (Some own) e = formatted_valid new calls known i own o e

pub always_valid : NewIsValid → FailedIsValid → ManagerLaws → AlwaysValid
always_valid new fails law known ms o drafted run kept = always_sound law (beginning known) ms drafted (record { valid = start_valid new fails law.calls known o; sent = tt }) kept
