-- The peers and the queues of a state are read as they are spelled.
use Rattle.std.proofs.Common.{◌≡◌, ◌≤◌, ◌<◌, ℕ, Bool, true, false, List, [], ◌∷◌, ◌++◌, length, map, Option, Some, None, Ok, refl, sym, ap, ◌∙◌, append_assoc, arith}
use Rattle.std.proofs.lemmas.Bool.{or_parts}
use Rattle.std.proofs.lemmas.List.{map-append}
use Rattle.std.specs.List.{AllByRecursion, list_any}
use Rattle.std.specs.Option.{option_map_or}
use Rattle.std.specs.Prelude.{◌||◌, All, IfSome, is_some, not}
use Rattle.mqb_base.specs.Same.{same_guid, same_ignoring_case}
use Rattle.mqb_base.specs.declared.ids.Guid.{Guid}
use Rattle.mqb_base.specs.declared.ids.Identity.{Identity}
use Rattle.mqb_base.specs.declared.queues.QueuePlan.{QueuePlan}
use Rattle.mqb_entries.specs.lemmas.FieldFormats.{address_format, flag_format, guid_format, name_format}
use Rattle.mqb_entries.specs.Fields.{address_at, flag_at, guid_at, name_at, u32_at}
use Rattle.mqb_entries.specs.lemmas.Formats.{both_moved, rest_again}
use Rattle.mqb_entries.specs.Spelled.{spelled_flag, spelled_guid, spelled_name, spelled_public}
use Rattle.mqb_fate.specs.Orders.{is_order_name}
use Rattle.mqb_fields.specs.Reading.{◌>>=◌, moved}
use Rattle.mqb_model.specs.declared.limits.TheConstants.{MAX_PEERS, MAX_QUEUES}
use Rattle.mqb_model.specs.records.Peer.{is_met, is_taken_by, shares_guid}
use Rattle.mqb_model.specs.state.Resolving.{is_registered, peer_known}
use Rattle.mqb_model.specs.state.State.{State, empty}
use Rattle.mqb_model.specs.state.Valid.{AreNew, met_among, taken_among}
use Rattle.mqb_plain.specs.Plain.{PlainLists, no_plain}
use Rattle.mqb_queue.specs.Places.{Queue, found, new_queue, nothing}
use Rattle.mqb_snapshot.proofs.Backs.{IsReadAs, Joins, counted_joined, of_format, same_text, same_value, seen_read, tested_read, then_read}
use Rattle.mqb_snapshot.proofs.FieldsAgain.{three_parts, within_read, word_read}
use Rattle.mqb_snapshot.proofs.Members.{all_mapped, all_weaker, here, new_here, no_member, no_position, none_of}
use Rattle.mqb_snapshot.specs.Fields.{guid_known, guid_registered, host_at, host_known, is_queue_taken, peer_guid_at, queue_guid_at, queue_name_at, registered_at}
use Rattle.mqb_snapshot.specs.Parts.{Parts}
use Rattle.mqb_snapshot.specs.Reading.{peer_at, peer_joined, peers_joined, plan_at, queue_joined, queues_joined}
use Rattle.mqb_snapshot.specs.Spelled.{counted, spelled_identity, spelled_plan, word}
use Rattle.mqb_snapshot.specs.Values.{IsIdentity, IsPlan}

-- Peers.

-- no messages for any of them
abbrev pub none_waits : {X : Type 0} → List X → List PlainLists
none_waits xs = map (λ x. no_plain) xs

-- a manager that knows these, and has nothing else
abbrev pub knowing : Identity → List Identity → State
knowing own peers = record (empty own) { peers = peers; plain = none_waits peers }

abbrev pub with_peers : Identity → List Identity → List Identity → Parts
with_peers own before behind = record { state = knowing own before; numbers = [] }

others_differ : (known : List Identity) (x : Identity) → met_among known x ≡ false → AllByRecursion (λ k. (same_guid k.guid x.guid ≡ false) × (same_ignoring_case k.host x.host ≡ false)) known
others_differ known x new = all_weaker (λ k. is_met k x ≡ false) (λ k. (same_guid k.guid x.guid ≡ false) × (same_ignoring_case k.host x.host ≡ false))
    (λ k e. or_parts (same_guid k.guid x.guid) (same_ignoring_case k.host x.host) e) known (none_of (λ k. is_met k x) known new)

host_new : (own : Identity) (before : List Identity) (x : Identity) → met_among (own ∷ before) x ≡ false → host_known (knowing own before) x.host ≡ false
host_new own before x new = no_member (λ k. same_ignoring_case k.host x.host) (own ∷ before)
    (all_weaker (λ k. (same_guid k.guid x.guid ≡ false) × (same_ignoring_case k.host x.host ≡ false)) (λ k. same_ignoring_case k.host x.host ≡ false) (λ k e. e.1) (own ∷ before)
    (others_differ (own ∷ before) x new))

guid_new : (own : Identity) (before : List Identity) (x : Identity) → met_among (own ∷ before) x ≡ false → guid_known (knowing own before) x.guid ≡ false
guid_new own before x new = ap (λ b. b || is_some (peer_known (knowing own before) x.guid)) apart.0 ∙ ap is_some (no_position (λ k. same_guid k.guid x.guid) before apart.1)
  where
    apart : AllByRecursion (λ k. same_guid k.guid x.guid ≡ false) (own ∷ before)
    apart = all_weaker (λ k. (same_guid k.guid x.guid ≡ false) × (same_ignoring_case k.host x.host ≡ false)) (λ k. same_guid k.guid x.guid ≡ false) (λ k e. e.0) (own ∷ before)
        (others_differ (own ∷ before) x new)

host_read : (s : State) (m : Identity) → IsIdentity m → host_known s m.host ≡ false → IsReadAs (host_at s) (spelled_name m.host) m.host
unfolding host_at
host_read s m is new = tested_read (λ host. not (host_known s host)) name_at (spelled_name m.host) m.host (of_format name_format m.host is.host) (ap not new)

peer_guid_read : (s : State) (m : Identity) → IsIdentity m → guid_known s m.guid ≡ false → IsReadAs (peer_guid_at s) (spelled_guid m.guid) m.guid
unfolding peer_guid_at
peer_guid_read s m is new = tested_read (λ guid. not (guid_known s guid)) guid_at (spelled_guid m.guid) m.guid (of_format guid_format m.guid is.guid.0) (ap not new)

peer_read : (s : State) (m : Identity) → IsIdentity m → host_known s m.host ≡ false → guid_known s m.guid ≡ false → IsReadAs (peer_at s) (spelled_identity m) m
unfolding peer_at
peer_read s m is host guid = same_text (peer_at s) _ (spelled_identity m) m (three_parts (spelled_name m.host) (spelled_guid m.guid) m.address)
    (then_read {Y = Identity} (host_at s) (λ host r. peer_guid_at s r >>= λ guid. address_at guid.1 >>= λ address. Ok (record { host = host; guid = guid.0; address = address.0 }, address.1))
    (spelled_name m.host) (spelled_guid m.guid ++ m.address) m.host m (host_read s m is host)
    (then_read {Y = Identity} (peer_guid_at s) (λ guid r. address_at r >>= λ address. Ok (record { host = m.host; guid = guid; address = address.0 }, address.1))
    (spelled_guid m.guid) m.address m.guid m (peer_guid_read s m is guid)
    (seen_read {Y = Identity} address_at (λ address. record { host = m.host; guid = m.guid; address = address }) m.address m.address (of_format address_format m.address is.address.0))))

-- parts with a peer more
abbrev knowing_more : Identity → List Identity → Identity → List PlainLists → Parts
knowing_more own before x plain = record { state = record (knowing own before) { peers = before ++ x ∷ []; plain = plain }; numbers = [] }

peer_joins : (own : Identity) (peers : List Identity) → All IsIdentity peers → AreNew met_among (own ∷ []) peers → Joins peer_joined spelled_identity (with_peers own) peers
unfolding peer_joined
peer_joins own peers are new before x behind e = same_value (peer_joined (with_peers own before (x ∷ behind))) (spelled_identity x) (knowing_more own before x (none_waits before ++ no_plain ∷ [])) _
    (ap (knowing_more own before x) (sym (map-append (λ p. no_plain) before (x ∷ []))))
    (seen_read {Y = Parts} (peer_at (knowing own before)) (λ peer. knowing_more own before peer (none_waits before ++ no_plain ∷ [])) (spelled_identity x) x
    (peer_read (knowing own before) x (here IsIdentity peers before x behind e are) (host_new own before x fresh) (guid_new own before x fresh)))
  where
    fresh : met_among (own ∷ before) x ≡ false
    fresh = new_here met_among (own ∷ []) peers before x behind e new

pub peers_read : (own : Identity) (peers : List Identity) → length peers ≤ MAX_PEERS → All IsIdentity peers → AreNew met_among (own ∷ []) peers
    → IsReadAs (peers_joined (with_peers own [] peers)) (counted spelled_identity peers) (with_peers own peers [])
unfolding peers_joined
peers_read own peers few are new = counted_joined _ peer_joined spelled_identity (with_peers own) peers (within_read 0 MAX_PEERS (length peers) (omega arith) few (omega arith)) (peer_joins own peers are new)

-- Queues.

-- a queue without its messages
abbrev pub emptied : Queue → Queue
emptied q = new_queue q.plan

abbrev pub with_queues : Identity → List Identity → List Queue → List Queue → Parts
with_queues own peers before behind = record { state = record (knowing own peers) { places = record nothing { queues = map emptied before } }; numbers = [] }

queue_name_read : (s : State) (q : QueuePlan) → IsPlan q → is_queue_taken s q.name ≡ false → IsReadAs (queue_name_at s) (spelled_name q.name) q.name
unfolding queue_name_at
queue_name_read s q is new = tested_read (λ name. not (is_queue_taken s name)) name_at (spelled_name q.name) q.name (of_format name_format q.name is.name) (ap not new)

queue_guid_read : (s : State) (guid : Guid) → length guid.0 ≡ 16 → guid_registered s guid ≡ false → IsReadAs (queue_guid_at s) (spelled_guid guid) guid
unfolding queue_guid_at
queue_guid_read s guid is new = tested_read (λ guid. not (guid_registered s guid)) guid_at (spelled_guid guid) guid (of_format guid_format guid is) (ap not new)

registered_read : (s : State) (public : Option Guid) → IfSome public (λ guid. length guid.0 ≡ 16) → IfSome public (λ guid. guid_registered s guid ≡ false)
    → IsReadAs (registered_at s) (spelled_public public) public
unfolding registered_at
registered_read s None is new r rest e = rw (flag_format.again r false rest tt e) refl
registered_read s (Some guid) is new r rest e =
    let one = flag_format.again r true (spelled_guid guid ++ rest) tt e in
    let two = queue_guid_read s guid is new (moved 1 r) rest (rest_again r (1 ∷ []) (spelled_guid guid ++ rest) e) in
    rw (one, two, both_moved (1 ∷ []) (spelled_guid guid) r) refl

abbrev made_plan : List ℕ → Option Guid → Bool → ℕ → Bool → QueuePlan
made_plan name public transactional quota journal = record { name = name; public = public; transactional = transactional; quota = quota; journal = journal }

pub five_parts : (a b c d e : List ℕ) → a ++ (b ++ (c ++ (d ++ e))) ≡ a ++ b ++ c ++ d ++ e
five_parts a b c d e = simp append_assoc

public_is : (q : QueuePlan) → IsPlan q → IfSome q.public (λ guid. length guid.0 ≡ 16)
public_is q is = at q.public is.public
  where
    at : (o : Option Guid) → IfSome o (λ guid. (length guid.0 ≡ 16) × All (λ b. b < 256) guid.0) → IfSome o (λ guid. length guid.0 ≡ 16)
    at None h = tt
    at (Some guid) h = h.0

plan_read : (s : State) (q : QueuePlan) → IsPlan q → is_queue_taken s q.name ≡ false → IfSome q.public (λ guid. guid_registered s guid ≡ false) → IsReadAs (plan_at s) (spelled_plan q) q
unfolding plan_at
plan_read s q is name public =
    let five = seen_read {Y = QueuePlan} flag_at (made_plan q.name q.public q.transactional q.quota) (spelled_flag q.journal) q.journal (of_format flag_format q.journal tt) in
    let four = then_read {Y = QueuePlan} u32_at (λ quota r. flag_at r >>= λ journal. Ok (made_plan q.name q.public q.transactional quota journal.0, journal.1))
    (word q.quota) (spelled_flag q.journal) q.quota q (word_read q.quota is.quota) five in
    let three = then_read {Y = QueuePlan} flag_at (λ transactional r. u32_at r >>= λ quota. flag_at quota.1 >>= λ journal. Ok (made_plan q.name q.public transactional quota.0 journal.0, journal.1))
    (spelled_flag q.transactional) (word q.quota ++ spelled_flag q.journal) q.transactional q (of_format flag_format q.transactional tt) four in
    let two = then_read {Y = QueuePlan} (registered_at s) (λ public r. flag_at r >>= λ transactional. u32_at transactional.1 >>= λ quota. flag_at quota.1
    >>= λ journal. Ok (made_plan q.name public transactional.0 quota.0 journal.0, journal.1))
    (spelled_public q.public) (spelled_flag q.transactional ++ (word q.quota ++ spelled_flag q.journal)) q.public q (registered_read s q.public (public_is q is) public) three in
    same_text (plan_at s) _ (spelled_plan q) q (five_parts (spelled_name q.name) (spelled_public q.public) (spelled_flag q.transactional) (word q.quota) (spelled_flag q.journal))
    (then_read {Y = QueuePlan} (queue_name_at s) (λ name r. registered_at s r >>= λ public. flag_at public.1 >>= λ transactional. u32_at transactional.1 >>= λ quota. flag_at quota.1
    >>= λ journal. Ok (made_plan name public.0 transactional.0 quota.0 journal.0, journal.1))
    (spelled_name q.name) (spelled_public q.public ++ (spelled_flag q.transactional ++ (word q.quota ++ spelled_flag q.journal))) q.name q (queue_name_read s q is name) two)

-- a queue's name and GUID are none of those before it
module _ (own : Identity) (peers : List Identity) (before : List Queue) (q : Queue) (new : taken_among before q ≡ false) where
  parts : (is_order_name q.plan.name ≡ false) × (list_any (is_taken_by q.plan) before ≡ false)
  parts = or_parts (is_order_name q.plan.name) (list_any (is_taken_by q.plan) before) new

  apart : AllByRecursion (λ k. (same_ignoring_case k.plan.name q.plan.name ≡ false) × (shares_guid q.plan k ≡ false)) before
  apart = all_weaker (λ k. is_taken_by q.plan k ≡ false) (λ k. (same_ignoring_case k.plan.name q.plan.name ≡ false) × (shares_guid q.plan k ≡ false))
      (λ k e. or_parts (same_ignoring_case k.plan.name q.plan.name) (shares_guid q.plan k) e) before (none_of (is_taken_by q.plan) before parts.1)

  name_new : is_queue_taken (with_queues own peers before []).state q.plan.name ≡ false
  name_new = ap (λ b. b || is_some (found (map emptied before) q.plan.name)) parts.0
      ∙ ap is_some (no_position (λ k. same_ignoring_case k.plan.name q.plan.name) (map emptied before) (all_mapped (λ k. same_ignoring_case k.plan.name q.plan.name ≡ false) emptied before
      (all_weaker (λ k. (same_ignoring_case k.plan.name q.plan.name ≡ false) × (shares_guid q.plan k ≡ false)) (λ k. same_ignoring_case k.plan.name q.plan.name ≡ false) (λ k e. e.0) before apart)))

  public_new : IfSome q.plan.public (λ guid. guid_registered (with_queues own peers before []).state guid ≡ false)
  public_new = at q.plan.public (all_weaker (λ k. (same_ignoring_case k.plan.name q.plan.name ≡ false) × (shares_guid q.plan k ≡ false)) (λ k. shares_guid q.plan k ≡ false) (λ k e. e.1) before apart)
    where
      at : (o : Option Guid) → AllByRecursion (λ k. option_map_or (λ guid. is_registered guid k) o false ≡ false) before
          → IfSome o (λ guid. guid_registered (with_queues own peers before []).state guid ≡ false)
      at None h = tt
      at (Some guid) h = no_member (is_registered guid) (map emptied before) (all_mapped (λ k. is_registered guid k ≡ false) emptied before h)

abbrev with_more : Identity → List Identity → List Queue → Parts
with_more own peers queues = record { state = record (knowing own peers) { places = record nothing { queues = queues } }; numbers = [] }

queue_joins : (own : Identity) (peers : List Identity) (queues : List Queue) → All (λ q. IsPlan q.plan) queues → AreNew taken_among [] queues
    → Joins queue_joined (λ q. spelled_plan q.plan) (with_queues own peers) queues
unfolding queue_joined
queue_joins own peers queues are new before q behind e = same_value (queue_joined (with_queues own peers before (q ∷ behind))) (spelled_plan q.plan) (with_more own peers (map emptied before ++ emptied q ∷ [])) _
    (ap (with_more own peers) (sym (map-append emptied before (q ∷ []))))
    (seen_read {Y = Parts} (plan_at (with_queues own peers before []).state) (λ plan. with_more own peers (map emptied before ++ new_queue plan ∷ [])) (spelled_plan q.plan) q.plan
    (plan_read (with_queues own peers before []).state q.plan (here (λ q. IsPlan q.plan) queues before q behind e are) (name_new own peers before q fresh) (public_new own peers before q fresh)))
  where
    fresh : taken_among before q ≡ false
    fresh = new_here taken_among [] queues before q behind e new

pub queues_read : (own : Identity) (peers : List Identity) (queues : List Queue) → length queues ≤ MAX_QUEUES → All (λ q. IsPlan q.plan) queues → AreNew taken_among [] queues
    → IsReadAs (queues_joined (with_queues own peers [] queues)) (counted (λ q. spelled_plan q.plan) queues) (with_queues own peers queues [])
unfolding queues_joined
queues_read own peers queues few are new = counted_joined _ queue_joined (λ q. spelled_plan q.plan) (with_queues own peers) queues (within_read 0 MAX_QUEUES (length queues) (omega arith) few (omega arith))
    (queue_joins own peers queues are new)
