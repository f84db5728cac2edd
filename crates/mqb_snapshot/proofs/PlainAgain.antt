-- The plain messages for all peers are read as they are spelled.
use Rattle.std.proofs.Common.{◌≡◌, ◌<◌, ◌^◌, ℕ, Bool, true, false, List, [], ◌∷◌, ◌++◌, length, map, Ok, refl, sym, ap, ap₂, subst, ◌∙◌, append_assoc}
use Rattle.std.proofs.lemmas.List.{append-nil, length-map, map-append}
use Rattle.std.proofs.lemmas.Grind.{flat_map-append}
use Rattle.std.specs.List.{AllByRecursion, flat_map}
use Rattle.std.specs.Prelude.{All, not}
use Rattle.mqb_base.specs.Same.{same_guid}
use Rattle.mqb_base.specs.declared.ids.Guid.{Guid}
use Rattle.mqb_base.specs.declared.message.Lane.TheVariants.{Durable}
use Rattle.mqb_base.specs.declared.message.Message.{Message}
use Rattle.mqb_entries.specs.lemmas.FieldFormats.{flag_format}
use Rattle.mqb_entries.specs.Fields.{flag_at}
use Rattle.mqb_entries.specs.Spelled.{spelled_flag, spelled_packet}
use Rattle.mqb_fields.specs.Reading.{◌>>=◌}
use Rattle.mqb_model.specs.Lists.{with_changed}
use Rattle.mqb_model.specs.records.Packets.{is_recoverable}
use Rattle.mqb_model.specs.state.Durable.{durable_plain}
use Rattle.mqb_model.specs.state.Places.{with_plain}
use Rattle.mqb_model.specs.state.State.{State}
use Rattle.mqb_model.specs.state.Valid.{IsCarried}
use Rattle.mqb_packet.specs.Plain.{plain_user_packet}
use Rattle.mqb_packet.specs.declared.packet.Headers.TheVariants.{Session}
use Rattle.mqb_plain.specs.Lists.{messages_of, unsent}
use Rattle.mqb_plain.specs.Plain.{PlainLists, no_plain, pushed}
use Rattle.mqb_plain.specs.declared.outgoing.Outgoing.{Outgoing}
use Rattle.mqb_snapshot.proofs.Backs.{IsReadAs, JoinsEach, append_push, each_joined_read, list_joined_read, of_format, same_value, seen_read, tested_read, then_read}
use Rattle.mqb_snapshot.proofs.FieldsAgain.{own_read, recoverable}
use Rattle.mqb_snapshot.proofs.Members.{Pairs, all_here, changed_here, here}
use Rattle.mqb_snapshot.proofs.OwnAgain.{Apart, IsPart, numbers_more, numbers_of, own_here}
use Rattle.mqb_snapshot.proofs.PeersAgain.{none_waits}
use Rattle.mqb_snapshot.specs.Fields.{is_own, own_at}
use Rattle.mqb_snapshot.specs.Parts.{Parts, each_joined, tested}
use Rattle.mqb_snapshot.specs.Reading.{plain_joined, waiting_joined}
use Rattle.mqb_snapshot.specs.Spelled.{spelled_message, spelled_messages, spelled_plain, stored}
use Rattle.mqb_snapshot.specs.Values.{IsHeld}

-- a recoverable message of the manager that can be read
abbrev pub IsWaiting : Guid → Message → Type 0
IsWaiting own m = IsCarried Session m × (is_recoverable m.delivery ≡ true) × (same_guid m.id.qm own ≡ true) × IsHeld m

-- messages that can be read, and their count
abbrev pub AreWaiting : Guid → List Message → Type 0
AreWaiting own ms = (length ms < 2 ^ 32) × AllByRecursion (IsWaiting own) ms

-- One message.

-- parts with a plain message more
abbrev pushing : ℕ → Parts → Message → Parts
pushing k p m = record p { state = with_plain (pushed Durable m) p.state k; numbers = p.numbers ++ m.id.number ∷ [] }

one_read : (k : ℕ) (p : Parts) (m : Message) → IsWaiting p.state.identity.guid m → is_own p m ≡ true → IsReadAs (plain_joined k p) (spelled_message m) (pushing k p m)
unfolding plain_joined
one_read k p m w own = let packet = spelled_packet (plain_user_packet (stored m)) in let flag = recoverable m.delivery w.1 in
    subst (λ (b : Bool). IsReadAs (plain_joined k p) (spelled_flag b ++ packet) (pushing k p m)) (sym flag.1)
    (then_read {Y = Parts} (tested not flag_at) (λ b r. own_at p Session false r >>= λ message. Ok (pushing k p message.0, message.1)) (spelled_flag false) packet false (pushing k p m)
    (tested_read not flag_at (spelled_flag false) false (of_format flag_format false tt) refl)
    (seen_read {Y = Parts} (own_at p Session false) (pushing k p) packet m
    (subst (λ (b : Bool). IsReadAs (own_at p Session b) packet m) flag.1 (own_read p Session m w.0 w.3 flag.0 own))))

-- The messages for one peer.

-- lists of these messages, none of which was sent
abbrev waiting_lists : List Message → PlainLists
waiting_lists ms = record { recoverable = map (λ m. unsent m) ms; express = [] }

-- parts with these plain lists
abbrev pub plain_with : State → List ℕ → List PlainLists → Parts
plain_with s numbers ps = record { state = record s { plain = ps }; numbers = numbers }

one_pushed : (front back : List PlainLists) (ms : List Message) (m : Message)
    → with_changed (pushed Durable m) (front ++ (waiting_lists ms ∷ back)) (length front) ≡ front ++ (waiting_lists (ms ++ m ∷ []) ∷ back)
one_pushed front back ms m = changed_here (pushed Durable m) front (waiting_lists ms) back
    ∙ ap (λ (os : List Outgoing). front ++ (record { recoverable = os; express = [] } ∷ back)) (sym (map-append (λ m. unsent m) ms (m ∷ [])))

-- parts with these messages for one peer, behind the manager's messages before them
abbrev one_with : State → List Message → List PlainLists → List PlainLists → List Message → Parts
one_with s before front back ms = plain_with s (numbers_of (before ++ ms)) (front ++ (waiting_lists ms ∷ back))

list_read : (s : State) (all before ds more : List Message) → IsPart all before ds more → AreWaiting s.identity.guid ds → (front back : List PlainLists)
    → IsReadAs (waiting_joined (length front) (plain_with s (numbers_of before) (front ++ (no_plain ∷ back)))) (spelled_messages ds)
    (plain_with s (numbers_of (before ++ ds)) (front ++ (waiting_lists ds ∷ back)))
unfolding waiting_joined
list_read s all before ds more is are front back =
    subst (λ (ms : List Message). IsReadAs (waiting_joined (length front) (plain_with s (numbers_of ms) (front ++ (no_plain ∷ back)))) (spelled_messages ds)
    (plain_with s (numbers_of (before ++ ds)) (front ++ (waiting_lists ds ∷ back)))) (append-nil before)
    (list_joined_read (plain_joined (length front)) spelled_message (λ ms behind. one_with s before front back ms) ds are.0 (λ ms m behind e.
    let one = all_here (IsWaiting s.identity.guid) ms m behind (subst (AllByRecursion (IsWaiting s.identity.guid)) e are.1) in
    same_value (plain_joined (length front) (one_with s before front back ms)) (spelled_message m) (pushing (length front) (one_with s before front back ms) m) (one_with s before front back (ms ++ m ∷ []))
    (ap₂ (λ (ns : List ℕ) (ps : List PlainLists). plain_with s ns ps) (numbers_more before ms m) (one_pushed front back ms m))
    (one_read (length front) (one_with s before front back ms) m one (own_here (one_with s before front back ms) all before ds more ms m behind is e refl one.2))))

-- The messages for all peers.

-- the recoverable messages of lists
abbrev pub plain_in : List PlainLists → List Message
plain_in ps = flat_map (λ p. messages_of p.recoverable) ps

-- parts with plain lists, of which those behind have no messages yet
abbrev lists_with : State → List PlainLists → List PlainLists → Parts
lists_with s before behind = plain_with s (numbers_of (plain_in before)) (map durable_plain before ++ none_waits behind)

unsent_again : (os : List Outgoing) → map (λ m. unsent m) (messages_of os) ≡ map (λ o. unsent o.message) os
unsent_again [] = refl
unsent_again (o ∷ os) = ap (λ rest. unsent o.message ∷ rest) (unsent_again os)

one_list : (before : List PlainLists) (p : PlainLists) (behind : List PlainLists)
    → map durable_plain before ++ (waiting_lists (messages_of p.recoverable) ∷ none_waits behind) ≡ map durable_plain (before ++ p ∷ []) ++ none_waits behind
one_list before p behind =
    ap (λ (os : List Outgoing). map durable_plain before ++ (record { recoverable = os; express = [] } ∷ none_waits behind)) (unsent_again p.recoverable)
    ∙ append_push (map durable_plain before) (durable_plain p) (none_waits behind)
    ∙ ap (λ (ps : List PlainLists). ps ++ none_waits behind) (sym (map-append durable_plain before (p ∷ [])))

one_list_more : (before : List PlainLists) (p : PlainLists) → plain_in before ++ messages_of p.recoverable ≡ plain_in (before ++ p ∷ [])
one_list_more before p = sym (flat_map-append (λ p. messages_of p.recoverable) before (p ∷ []) ∙ ap (λ (ms : List Message). plain_in before ++ ms) (append-nil (messages_of p.recoverable)))

-- the messages for one peer among all of the manager's
part_of : (ps before : List PlainLists) (p : PlainLists) (behind : List PlainLists) (kept : List Message) → ps ≡ before ++ (p ∷ behind) → Pairs Apart (plain_in ps ++ kept)
    → IsPart (plain_in ps ++ kept) (plain_in before) (messages_of p.recoverable) (plain_in behind ++ kept)
part_of ps before p behind kept e apart = record {
  apart = apart;
  whole = ap (λ (qs : List PlainLists). plain_in qs ++ kept) e ∙ ap (λ (ms : List Message). ms ++ kept) (flat_map-append (λ p. messages_of p.recoverable) before (p ∷ behind))
      ∙ append_assoc (plain_in before) (messages_of p.recoverable ++ plain_in behind) kept
      ∙ ap (λ (ms : List Message). plain_in before ++ ms) (append_assoc (messages_of p.recoverable) (plain_in behind) kept);
}

lists_join : (s : State) (ps : List PlainLists) (kept : List Message) → Pairs Apart (plain_in ps ++ kept) → All (λ p. AreWaiting s.identity.guid (messages_of p.recoverable)) ps
    → JoinsEach waiting_joined spelled_plain (lists_with s) ps
lists_join s ps kept apart are before p behind e =
    subst (λ (n : ℕ). IsReadAs (waiting_joined n (lists_with s before (p ∷ behind))) (spelled_plain p) (lists_with s (before ++ p ∷ []) behind)) (length-map before durable_plain)
    (same_value (waiting_joined (length (map durable_plain before)) (lists_with s before (p ∷ behind))) (spelled_plain p) _ (lists_with s (before ++ p ∷ []) behind)
    (ap₂ (λ (ms : List Message) (qs : List PlainLists). plain_with s (numbers_of ms) qs) (one_list_more before p) (one_list before p behind))
    (list_read s (plain_in ps ++ kept) (plain_in before) (messages_of p.recoverable) (plain_in behind ++ kept) (part_of ps before p behind kept e apart)
    (here (λ p. AreWaiting s.identity.guid (messages_of p.recoverable)) ps before p behind e are) (map durable_plain before) (none_waits behind)))

pub plain_read : (s : State) (ps : List PlainLists) (kept : List Message) → Pairs Apart (plain_in ps ++ kept) → All (λ p. AreWaiting s.identity.guid (messages_of p.recoverable)) ps
    → IsReadAs (each_joined (length (none_waits ps)) 0 waiting_joined (plain_with s [] (none_waits ps))) (flat_map spelled_plain ps)
    (plain_with s (numbers_of (plain_in ps)) (map durable_plain ps))
plain_read s ps kept apart are =
    subst (λ (n : ℕ). IsReadAs (each_joined n 0 waiting_joined (lists_with s [] ps)) (flat_map spelled_plain ps) (plain_with s (numbers_of (plain_in ps)) (map durable_plain ps)))
    (sym (length-map ps (λ p. no_plain)))
    (same_value (each_joined (length ps) 0 waiting_joined (lists_with s [] ps)) (flat_map spelled_plain ps) (lists_with s ps []) (plain_with s (numbers_of (plain_in ps)) (map durable_plain ps))
    (ap (plain_with s (numbers_of (plain_in ps))) (append-nil (map durable_plain ps)))
    (each_joined_read waiting_joined spelled_plain (lists_with s) ps (lists_join s ps kept apart are)))
