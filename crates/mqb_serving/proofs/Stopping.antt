-- Steps in a row, and where one of them stops.
use Rattle.std.proofs.Common.{◌≡◌, List, [], ◌++◌, Option, ℕ, sym, ap, subst, inl, inr, ◌∙◌, append_assoc}
use Rattle.std.proofs.lemmas.List.{append-nil}
use Rattle.std.proofs.lemmas.Grind.{flat_map-append}
use Rattle.mqb_outside.specs.Told.{Took}
use Rattle.mqb_packet.specs.Plain.{plain_spelling}
use Rattle.mqb_packet.specs.declared.packet.Packet.{Packet}
use Rattle.mqb_model.specs.records.Record.{Record}
use Rattle.mqb_serving.specs.Conversations.{Conversation, StoredManager, bytes_of}
use Rattle.mqb_serving.specs.Laws.{Begins}
use Rattle.mqb_serving.specs.declared.faults.ConnFault.{ConnFault}
use Rattle.mqb_serving.specs.declared.faults.ConnFault.TheVariants as fault
use Rattle.mqb_serving.specs.Serving.{IsNext, Starting}
use Rattle.mqb_serving.specs.Steps.{Gives, IsPast, IsSameSide, LeftBy, Stops}
use Rattle.mqb_serving.proofs.Points.{IsWithin, behind_map, past_map, past_same, same_side, same_then}
use Rattle.mqb_serving.proofs.Taking.{begins_same, took_same, took_then}

-- What was given.

pub gives_none : (c d : Conversation) (a b : Option (List ℕ)) → d.given ≡ c.given → b ≡ a → Gives c d a b
gives_none c d a b given same = record { packets = []; given = given ∙ sym (append-nil c.given); took = took_same a b same }

pub gives_then : (c d e : Conversation) (x y z : Option (List ℕ)) → Gives c d x y → Gives d e y z → Gives c e x z
gives_then c d e x y z first second = record {
  packets = first.packets ++ second.packets;
  given = second.given ∙ ap (λ (t : List Packet). t ++ second.packets) first.given ∙ append_assoc c.given first.packets second.packets;
  took = subst (λ (t : List ℕ). Took x z t) (sym (flat_map-append plain_spelling first.packets second.packets))
      (took_then x y z (bytes_of first.packets) (bytes_of second.packets) first.took second.took);
}

-- from a conversation that gave the same
pub gives_from : (c d e : Conversation) (x y : Option (List ℕ)) → d.given ≡ c.given → Gives d e x y → Gives c e x y
gives_from c d e x y same g = record { packets = g.packets; given = g.given ∙ ap (λ (t : List Packet). t ++ g.packets) same; took = g.took }

-- Where it stops.

-- another record may be under way
pub left_map : (under others : Record → Type 0) (why : ConnFault) (m n : StoredManager) → ((r : Record) → under r → others r) → LeftBy why under m n → LeftBy why others m n
left_map under others fault.DiskFault m n map left = (left.0, map left.0 left.1, left.2)
left_map under others why m n map left = left

next_map : (starts others : Starting) (m : StoredManager) (now : ℕ) → IsWithin starts others
    → (r : Record) → IsNext starts m now r → IsNext others m now r
next_map starts others m now map r (inl is) = inl is
next_map starts others m now map r (inr h) = inr (h.0, map.next m r h.0 h.1)

pub stops_map : (starts others : Starting) (c : Conversation) (a b : Option (List ℕ)) (n : StoredManager) (why : ConnFault)
    → IsWithin starts others → Stops starts c a b n why → Stops others c a b n why
stops_map starts others c a b n why map s = record {
  at = s.at;
  past = past_map starts others c s.at map s.past;
  written = s.written;
  took = s.took;
  begins = s.begins;
  left = left_map (IsNext starts s.at.stored s.at.now) (IsNext others s.at.stored s.at.now) why s.at.stored n (next_map starts others s.at.stored s.at.now map) s.left;
}

-- behind packets that were given and sent
pub stops_then : (starts others : Starting) (c d : Conversation) (x y z : Option (List ℕ)) (n : StoredManager) (why : ConnFault)
    → IsWithin starts others → Gives c d x y → IsPast others c d → Stops starts d y z n why → Stops others c x z n why
stops_then starts others c d x y z n why map g past s = record {
  at = s.at;
  past = then_past s.past;
  written = bytes_of g.packets ++ s.written;
  took = took_then x y z (bytes_of g.packets) s.written g.took s.took;
  begins = subst (λ (t : List ℕ). Begins t (bytes_of s.at.given)) all s.begins;
  left = left_map (IsNext starts s.at.stored s.at.now) (IsNext others s.at.stored s.at.now) why s.at.stored n (next_map starts others s.at.stored s.at.now map) s.left;
}
  where
    all : bytes_of d.given ++ s.written ≡ bytes_of c.given ++ (bytes_of g.packets ++ s.written)
    all = ap (λ (t : List Packet). bytes_of t ++ s.written) g.given
        ∙ ap (λ (t : List ℕ). t ++ s.written) (flat_map-append plain_spelling c.given g.packets)
        ∙ append_assoc (bytes_of c.given) (bytes_of g.packets) s.written

    then_past : IsPast starts d s.at → IsPast others c s.at
    then_past (inl same) = past_same others c d s.at same past
    then_past (inr b) = inr (behind_map starts others s.at map b)

-- from a conversation that is the same side
pub stops_from : (starts : Starting) (c d : Conversation) (a b : Option (List ℕ)) (n : StoredManager) (why : ConnFault) → IsSameSide c d → Stops starts d a b n why → Stops starts c a b n why
stops_from starts c d a b n why same s = record {
  at = s.at;
  past = from_past s.past;
  written = s.written;
  took = s.took;
  begins = subst (λ (t : List Packet). Begins (bytes_of t ++ s.written) (bytes_of s.at.given)) same.given s.begins;
  left = s.left;
}
  where
    from_past : IsPast starts d s.at → IsPast starts c s.at
    from_past (inl t) = inl (same_then c d s.at same t)
    from_past (inr b) = inr b

-- at once
pub stops_here : (starts : Starting) (c : Conversation) (a b : Option (List ℕ)) (n : StoredManager) (why : ConnFault) → b ≡ a → LeftBy why (IsNext starts c.stored c.now) c.stored n → Stops starts c a b n why
stops_here starts c a b n why same left = record {
  at = c;
  past = inl (same_side c);
  written = [];
  took = took_same a b same;
  begins = begins_same (bytes_of c.given ++ []) (bytes_of c.given) (append-nil (bytes_of c.given));
  left = left;
}
